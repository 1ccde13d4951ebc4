-- A walk goes through the ports of an instance that are joined by assignments.
use Rattle.std.proofs.Common.{◌≡◌, ℕ, zero, suc, ◌+◌, ◌<◌, true, false, if◌then◌else◌, List, [], ◌∷◌, Option, Some, None, refl, sym, ap, ◌∙◌, subst, length, get_or, map, drop, drop-cons, add-one, arith}
use Rattle.cov_host.specs.declared.place.Place.{Place}
use Rattle.design_model.specs.Design.{nowhere}
use Rattle.flat_design.specs.Connections.{Joined, JoinedPort, as_alias, by_assignment, joining, not_joined}
use Rattle.flat_design.specs.Flat.{join_as, join_port, join_ports, join_signal}
use Rattle.flat_design.specs.Instances.{Context, Instantiation, Sofar, add_process, is_input}
use Rattle.flat_design.specs.Processes.{joined_input, joined_output}
use Rattle.flat_design.specs.Scope.{Scope, look_up}
use Rattle.flat_design.specs.declared.entry.Entry.{Entry}
use Rattle.flat_design.specs.declared.entry.Entry.TheVariants.{Constant as a_constant, Turn as a_turn, Signal as a_signal, Memory as a_memory, LoopVariable as a_loop_variable, Instance as an_instance, NoConstant as no_constant, Faulty as a_faulty_one}
use Rattle.flat_design.specs.declared.entry.SignalEntry.{SignalEntry}
use Rattle.elab_ports.specs.PortView.{joined_view, port_view, ports_view}
use Rattle.elab_ports.specs.declared.joining.Joined.{Joined as CodeJoined}
use Rattle.elab_ports.specs.declared.ports.JoinedPort.{JoinedPort as CodePort}
use Rattle.elaborator.specs.Ports.{signal_joined}
use Rattle.elaborator.specs.Walk.{GoesBy, IsAmong, around_here}
use Rattle.elaborator.specs.declared.walk.Numbers.{Numbers}
use Rattle.elaborator.specs.declared.walk.Walk.{Walk}
use Rattle.elaborator.proofs.StepLemmas.{goes_twice, still_goes}

-- an instance of a module of nothing
pub no_instance : Instantiation
no_instance =
    record {
      of_module = record { name = record { name = []; place = nowhere }; params = []; ports = []; items = [] };
      path = [];
      overrides = [];
      aliases = [];
      around = [];
      item = nowhere;
      is_top = false;
    }

-- what a port is joined with, once it is joined so
abbrev join_found : Option SignalEntry → Context → Place → JoinedPort → Sofar → Sofar
join_found None c p j st = st
join_found (Some s) c p j st = join_signal c p j (Some (a_signal s)) st

joined_entry : (o : Option Entry) (c : Context) (p : Place) (j : JoinedPort) (st : Sofar) → join_signal c p j o st ≡ join_found (signal_joined by_assignment o) c p j st
joined_entry None c p j st = refl
joined_entry (Some (a_constant v)) c p j st = refl
joined_entry (Some (a_turn v)) c p j st = refl
joined_entry (Some (a_signal s)) c p j st = refl
joined_entry (Some (a_memory m)) c p j st = refl
joined_entry (Some a_loop_variable) c p j st = refl
joined_entry (Some an_instance) c p j st = refl
joined_entry (Some no_constant) c p j st = refl
joined_entry (Some a_faulty_one) c p j st = refl

joined_by : (k : Joined) (o : Option Entry) (c : Context) (p : Place) (j : JoinedPort) (st : Sofar) → join_as k c p j o st ≡ join_found (signal_joined k o) c p j st
joined_by by_assignment o c p j st = joined_entry o c p j st
joined_by (as_alias n) o c p j st = refl
joined_by not_joined o c p j st = refl

port_found : (given : Instantiation) (g inside : Scope) (p : Place) (j : JoinedPort) (k : Joined) (found : Option SignalEntry) → k ≡ joining g j.port j.label j.value → found ≡ signal_joined k (look_up inside j.port.name.name) →
    (b i : ℕ) (st : Sofar) → join_found found (around_here b given i g) p j st ≡ join_port (around_here b given i g) p inside j st
port_found given g inside p j k found how is b i st =
    let c : Context = around_here b given i g in
    ap (λ f. join_found f c p j st) is ∙ sym (joined_by k (look_up inside j.port.name.name) c p j st) ∙ ap (λ w. join_as w c p j (look_up inside j.port.name.name) st) how

-- a port that is joined by an assignment, with its signal
pub port_goes : {base : ℕ} {w later : Walk} {numbers : Numbers} (given : Instantiation) (g inside : Scope) (p : Place) (j : JoinedPort) (k : Joined) (s : SignalEntry) → k ≡ joining g j.port j.label j.value → Some s ≡ signal_joined k (look_up inside j.port.name.name) →
    GoesBy base w numbers later numbers (λ b i l n st. join_signal (around_here b given i g) p j (Some (a_signal s)) st) 0 0 →
    GoesBy base w numbers later numbers (λ b i l n st. join_port (around_here b given i g) p inside j st) 0 0
port_goes {base = base} {later = later} {numbers = numbers} given g inside p j k s how is goes before b st i l n among =
    let end = goes before b st i l n among in
    (subst (λ x. IsAmong before base b later numbers x i (l + 0) (n + 0)) (port_found given g inside p j k (Some s) how is b i st) end.0, end.1)

-- one that is not
pub port_still : {base : ℕ} (w : Walk) (numbers : Numbers) (given : Instantiation) (g inside : Scope) (p : Place) (j : JoinedPort) (k : Joined) → k ≡ joining g j.port j.label j.value → None ≡ signal_joined k (look_up inside j.port.name.name) →
    GoesBy base w numbers w numbers (λ b i l n st. join_port (around_here b given i g) p inside j st) 0 0
port_still {base = base} w numbers given g inside p j k how is before b st i l n among =
    let end = still_goes {base = base} w numbers before b st i l n among in
    (subst (λ x. IsAmong before base b w numbers x i (l + 0) (n + 0)) (port_found given g inside p j k None how is b i st) end.0, end.1)

-- by the direction of the port
pub input_goes : {base : ℕ} {w later : Walk} {numbers : Numbers} (given : Instantiation) (g : Scope) (p : Place) (j : JoinedPort) (s : SignalEntry) → is_input j.port ≡ true →
    GoesBy base w numbers later numbers (λ b i l n st. add_process (joined_input b g i (length st.design.processes) p j.label s j.value) st) 0 0 →
    GoesBy base w numbers later numbers (λ b i l n st. join_signal (around_here b given i g) p j (Some (a_signal s)) st) 0 0
input_goes {base = base} {w = w} {later = later} {numbers = numbers} given g p j s is goes =
    subst (λ x. GoesBy base w numbers later numbers (λ b i l n st. if x then add_process (joined_input b g i (length st.design.processes) p j.label s j.value) st else add_process (joined_output b g i (length st.design.processes) p s j.value) st) 0 0) (sym is) goes

pub output_goes : {base : ℕ} {w later : Walk} {numbers : Numbers} (given : Instantiation) (g : Scope) (p : Place) (j : JoinedPort) (s : SignalEntry) → is_input j.port ≡ false →
    GoesBy base w numbers later numbers (λ b i l n st. add_process (joined_output b g i (length st.design.processes) p s j.value) st) 0 0 →
    GoesBy base w numbers later numbers (λ b i l n st. join_signal (around_here b given i g) p j (Some (a_signal s)) st) 0 0
output_goes {base = base} {w = w} {later = later} {numbers = numbers} given g p j s is goes =
    subst (λ x. GoesBy base w numbers later numbers (λ b i l n st. if x then add_process (joined_input b g i (length st.design.processes) p j.label s j.value) st else add_process (joined_output b g i (length st.design.processes) p s j.value) st) 0 0) (sym is) goes

-- how the port at a place of the list is joined
pub joined_at : (g : Scope) (js : List CodePort) (ks : List CodeJoined) (n : ℕ) (j : CodePort) (k : CodeJoined) → n < length js → n < length ks → j ≡ get_or js n j → k ≡ get_or ks n k →
    map joined_view ks ≡ map (λ j. joining g j.port j.label j.value) (ports_view js) → joined_view k ≡ joining g (port_view j).port (port_view j).label (port_view j).value
joined_at g [] ks n j k within within' is is' how = absurd (omega arith)
joined_at g (x ∷ js) [] n j k within within' is is' how = absurd (omega arith)
joined_at g (x ∷ js) (y ∷ ks) zero j k within within' is is' how =
    let head : joined_view y ≡ joining g (port_view x).port (port_view x).label (port_view x).value = cc in
    ap joined_view is' ∙ head ∙ ap (λ p. joining g (port_view p).port (port_view p).label (port_view p).value) (sym is)
joined_at g (x ∷ js) (y ∷ ks) (suc n) j k within within' is is' how =
    let tail : map joined_view ks ≡ map (λ j. joining g j.port j.label j.value) (ports_view js) = cc in
    joined_at g js ks n j k (omega arith) (omega arith) is is' tail

-- one port, and then what comes after it
pub ports_next : {base : ℕ} {w next later : Walk} {numbers : Numbers} (given : Instantiation) (g inside : Scope) (p : Place) (js : List CodePort) (n : ℕ) (j : CodePort) → n < length js → j ≡ get_or js n j →
    GoesBy base w numbers next numbers (λ b i l k st. join_port (around_here b given i g) p inside (port_view j) st) 0 0 →
    GoesBy base next numbers later numbers (λ b i l k st. join_ports (around_here b given i g) p inside (ports_view (drop (n + 1) js)) st) 0 0 →
    GoesBy base w numbers later numbers (λ b i l k st. join_ports (around_here b given i g) p inside (ports_view (drop n js)) st) 0 0
ports_next {base = base} {w = w} {later = later} {numbers = numbers} given g inside p js n j within is first second =
    let split : drop n js ≡ j ∷ drop (n + 1) js = rw (drop-cons js n j within, ← is, add-one n) refl in
    subst (λ xs. GoesBy base w numbers later numbers (λ b i l k st. join_ports (around_here b given i g) p inside (ports_view xs) st) 0 0) (sym split) (goes_twice 0 0 0 0 first second)
