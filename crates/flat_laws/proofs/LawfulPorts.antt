-- A port that is joined by an assignment has a signal of its own, which no name around the instance means.
use Rattle.std.proofs.Common.{◌≡◌, ℕ, ◌+◌, ◌≤◌, Bool, true, false, cond, if◌then◌else◌, List, [], ◌∷◌, ◌++◌, Option, Some, None, refl, sym, ap, ◌∙◌, subst, inl, inr, length, map, arith, append_assoc, slice_index_or}
use Rattle.std.specs.List.{filter, flat_map}
use Rattle.std.specs.Prelude.{bytes_eq, unwrap_or}
use Rattle.std.proofs.Math.Seq.{get_or-append_seam}
use Rattle.cov_host.specs.declared.place.Place.{Place}
use Rattle.design_model.specs.Design.{In, no_signal}
use Rattle.design_model.specs.declared.design.Range.{Range}
use Rattle.design_model.specs.declared.design.Signal.{Signal}
use Rattle.verilog_tree.specs.declared.item.Named.{Named}
use Rattle.verilog_tree.specs.Tree.{Expr, InstanceItem, Item, Module, One}
use Rattle.flat_design.specs.Connections.{overrides, as_alias, by_assignment, joining, JoinedPort, Connection, connections, connection_of, declaration_of, is_sound_port, with_value, with_connection, declared_port, joined_port, port_alias}
use Rattle.flat_design.specs.Declarations.{Declaration, Sort, a_net, a_variable, words_from, an_integer, a_parameter, some_instance, faulty, faulty_memory}
use Rattle.flat_design.specs.Instances.{Instantiation, Sofar, PortAliases, opened, Context, context, own_constants, declared, declared_entry, other_entry, entries, alias_number, is_own, is_memory, is_signal, signal_entry, signal_of, scope_of}
use Rattle.flat_design.specs.Numbering.{one_if}
use Rattle.flat_design.specs.Scope.{binding_of, entry_or, look_up}
use Rattle.flat_design.specs.declared.entry.Entry.{Entry}
use Rattle.flat_design.specs.declared.entry.Entry.TheVariants.{Constant as a_constant, Turn as a_turn, Signal as a_signal, Memory as a_memory, LoopVariable as a_loop_variable, Instance as an_instance, NoConstant as no_constant, Faulty as a_faulty_one}
use Rattle.flat_design.specs.declared.entry.SignalEntry.{SignalEntry}
use Rattle.flat_laws.proofs.Continues.{Continues}
use Rattle.flat_laws.proofs.LawfulScope.{same_bytes, found_passes, alias_found, step_whole, step_length, IsConstantOrFaulty, own_constant}
use Rattle.flat_laws.proofs.Members.{in_flat_map}
use Rattle.flat_laws.proofs.Steps.{inner_of, ports_of, IsJoined}

-- the entry is that of a signal from this number on that is no input
pub record IsOwn (xs : List Signal) (first : ℕ) (e : SignalEntry) : Type 0 where
  pub from : first ≤ e.number
  pub no_input : (slice_index_or xs e.number no_signal).input ≡ false

pub other_no_signal : (k : ℕ) (d : Declaration) (s : Sort) (e : SignalEntry) → Some (other_entry k d s) ≡ Some (a_signal e) → ⊥
other_no_signal k d (words_from r) e h = cc
other_no_signal k d a_net e h = cc
other_no_signal k d a_variable e h = cc
other_no_signal k d an_integer e h = cc
other_no_signal k d a_parameter e h = cc
other_no_signal k d some_instance e h = cc
other_no_signal k d faulty e h = cc
other_no_signal k d faulty_memory e h = cc

signal_number : (n : ℕ) (d : Declaration) (e : SignalEntry) → Some (signal_entry n d) ≡ Some (a_signal e) → n ≡ e.number
signal_number n d e h = ap number_in h
  where
    number_in : Option Entry → ℕ
    number_in (Some (a_signal s)) = s.number
    number_in _ = 0

pub signal_range : (n : ℕ) (d : Declaration) (e : SignalEntry) → Some (signal_entry n d) ≡ Some (a_signal e) → d.range ≡ e.range
signal_range n d e h = ap range_in h
  where
    range_in : Option Entry → Option Range
    range_in (Some (a_signal s)) = s.range
    range_in _ = None

own_first : (number : ℕ) (d : Declaration) (xs fs rs : List Signal) → xs ≡ fs ++ (signal_of number false d ∷ rs) → (slice_index_or xs (length fs) no_signal).input ≡ false
own_first number d xs fs rs e = ap (λ x. x.input) (ap (λ l. slice_index_or l (length fs) no_signal) e ∙ get_or-append_seam fs (signal_of number false d) rs no_signal)

-- a declared name that is no alias, in an instance that is not the top
entries_own : (aliases : PortAliases) (m : Module) (number first : ℕ) (ds : List Declaration) (xs fs rs : List Signal) (s k : ℕ) (x : List ℕ) (e : SignalEntry) →
    xs ≡ fs ++ (map (signal_of number false) (filter (is_own aliases m) ds) ++ rs) → length fs ≡ s → first ≤ s → alias_number aliases x ≡ None →
    binding_of (entries aliases m s k ds) x ≡ Some (a_signal e) → IsOwn xs first e
entries_own aliases m number first [] xs fs rs s k x e whole s_is h no_alias found = absurd cc
entries_own aliases m number first (d ∷ ds) xs fs rs s k x e whole s_is h no_alias found =
    by_name
    (entries_own aliases m number first ds xs (fs ++ map (signal_of number false) (cond (is_own aliases m d) (d ∷ []) [])) rs (s + one_if (is_own aliases m d)) (k + one_if (is_memory d)) x e
    (whole ∙ step_whole (signal_of number false) (is_own aliases m d) d (filter (is_own aliases m) ds) fs rs)
    (step_length (signal_of number false) (is_own aliases m d) d fs ∙ ap (λ n. n + one_if (is_own aliases m d)) s_is) (omega arith) no_alias)
    (bytes_eq x d.name.name) refl found
  where
    by_signal : alias_number aliases d.name.name ≡ None → (b : Bool) → is_signal m d ≡ b → Some (if b then signal_entry (unwrap_or (alias_number aliases d.name.name) s) d else other_entry k d d.sort) ≡ Some (a_signal e) → IsOwn xs first e
    by_signal none_of false is same = absurd (other_no_signal k d d.sort e same)
    by_signal none_of true is same =
        let own : is_own aliases m d ≡ true = rw (is, none_of) refl in
        let here : (slice_index_or xs (length fs) no_signal).input ≡ false = own_first number d xs fs _ (subst (λ b. xs ≡ fs ++ (map (signal_of number false) (cond b (d ∷ filter (is_own aliases m) ds) (filter (is_own aliases m) ds)) ++ rs)) own whole) in
        let n : s ≡ e.number = sym (ap (λ o. unwrap_or o s) none_of) ∙ signal_number _ d e same in
        record { from = subst (λ z. first ≤ z) n h; no_input = subst (λ z. (slice_index_or xs z no_signal).input ≡ false) (s_is ∙ n) here }

    by_name : (binding_of (entries aliases m (s + one_if (is_own aliases m d)) (k + one_if (is_memory d)) ds) x ≡ Some (a_signal e) → IsOwn xs first e) → (b : Bool) → bytes_eq x d.name.name ≡ b →
        cond b (Some (declared_entry aliases m s k d)) (binding_of (entries aliases m (s + one_if (is_own aliases m d)) (k + one_if (is_memory d)) ds) x) ≡ Some (a_signal e) → IsOwn xs first e
    by_name rest false is same = rest same
    by_name rest true is same = by_signal (subst (λ z. alias_number aliases z ≡ None) (same_bytes x d.name.name is) no_alias) (is_signal m d) refl same

pub declared_signal : (a b : Option Entry) (e : SignalEntry) → IsConstantOrFaulty a → entry_or a (entry_or b None) ≡ Some (a_signal e) → b ≡ Some (a_signal e)
declared_signal None None e h k = absurd cc
declared_signal None (Some y) e h k = k
declared_signal (Some (a_constant v)) b e h k = absurd cc
declared_signal (Some a_faulty_one) b e h k = absurd cc
declared_signal (Some (a_turn v)) b e h k = absurd h
declared_signal (Some (a_signal v)) b e h k = absurd h
declared_signal (Some (a_memory v)) b e h k = absurd h
declared_signal (Some a_loop_variable) b e h k = absurd h
declared_signal (Some an_instance) b e h k = absurd h
declared_signal (Some no_constant) b e h k = absurd h

-- a name of an instance below the top that is no alias means a signal of the instance
scope_own : (i : Instantiation) (before now : Sofar) (x : List ℕ) (e : SignalEntry) → i.is_top ≡ false → Continues (opened i before) now → alias_number i.aliases x ≡ None →
    look_up (scope_of i (length before.design.signals) (length before.design.memories)) x ≡ Some (a_signal e) → IsOwn now.design.signals (length before.design.signals) e
scope_own i before now x e below h no_alias found =
    entries_own i.aliases i.of_module (length before.design.instances) (length before.design.signals) (declared i.overrides i.of_module) now.design.signals before.design.signals h.signals.rest
    (length before.design.signals) (length before.design.memories) x e
    (subst (λ b. now.design.signals ≡ before.design.signals ++ (map (signal_of (length before.design.instances) b) (filter (is_own i.aliases i.of_module) (declared i.overrides i.of_module)) ++ h.signals.rest)) below (h.signals.whole ∙ append_assoc before.design.signals _ h.signals.rest))
    refl (omega arith) no_alias
    (declared_signal (binding_of (own_constants i.overrides i.of_module) x) (binding_of (entries i.aliases i.of_module (length before.design.signals) (length before.design.memories) (declared i.overrides i.of_module)) x) e
    (own_constant i.overrides i.of_module x) found)

-- a port and its connection are those of its name
record IsOf (ds : List Declaration) (cs : List Connection) (j : JoinedPort) (x : List ℕ) : Type 0 where
  name : j.port.name.name ≡ x
  port : (b : JoinedPort) → In b (declared_port (declaration_of ds x) (connection_of cs x)) → j ≡ b

value_of : (d : Declaration) (label : Named) (v : Option Expr) (a b : JoinedPort) → In a (with_value d label v) → In b (with_value d label v) → (a.port ≡ d) × (a ≡ b)
value_of d label None a b h k = absurd h
value_of d label (Some e) a b (inl h) (inl k) = (ap (λ z. z.port) (sym h), sym h ∙ k)
value_of d label (Some e) a b (inr h) k = absurd h
value_of d label (Some e) a b (inl h) (inr k) = absurd k

connected_of : (d : Declaration) (c : Option Connection) (a b : JoinedPort) → In a (with_connection d c) → In b (with_connection d c) → (a.port ≡ d) × (a ≡ b)
connected_of d None a b h k = absurd h
connected_of d (Some c) a b h k = by_test (is_sound_port d) h k
  where
    by_test : (t : Bool) → In a (if t then with_value d c.label c.value else []) → In b (if t then with_value d c.label c.value else []) → (a.port ≡ d) × (a ≡ b)
    by_test true h k = value_of d c.label c.value a b h k
    by_test false h k = absurd h

is_of : (ds : List Declaration) (cs : List Connection) (x : List ℕ) (a : JoinedPort) → In a (declared_port (declaration_of ds x) (connection_of cs x)) → IsOf ds cs a x
is_of ds cs x a h = by_declaration (declaration_of ds x) refl h
  where
    by_declaration : (d : Option Declaration) → declaration_of ds x ≡ d → In a (declared_port d (connection_of cs x)) → IsOf ds cs a x
    by_declaration None is k = absurd k
    by_declaration (Some d) is k = record {
      name = ap (λ z. z.name.name) (connected_of d (connection_of cs x) a a k k).0 ∙ same_bytes d.name.name x (found_passes (λ z. bytes_eq z.name.name x) ds d is);
      port = λ b l. (connected_of d (connection_of cs x) a b k (subst (λ o. In b (declared_port o (connection_of cs x))) is l)).1;
    }

-- so two joined ports of one name are one
same_port : (ds : List Declaration) (cs : List Connection) (ys : List Named) (a b : JoinedPort) → In a (flat_map (joined_port ds cs) ys) → In b (flat_map (joined_port ds cs) ys) → a.port.name.name ≡ b.port.name.name → a ≡ b
same_port ds cs ys a b h k same =
    let p = in_flat_map (joined_port ds cs) a ys h in
    let q = in_flat_map (joined_port ds cs) b ys k in
    let u = is_of ds cs p.0.name a p.2 in
    let v = is_of ds cs q.0.name b q.2 in
    u.port b (subst (λ x. In b (declared_port (declaration_of ds x) (connection_of cs x))) (sym v.name ∙ (sym same ∙ u.name)) q.2)

-- a port that is joined by an assignment is no alias
no_alias_of : (c : Context) (p : Place) (k : InstanceItem) (m : Module) (o : One) (j : JoinedPort) → In j (ports_of c k m o) → joining c.scope j.port j.label j.value ≡ by_assignment → alias_number (inner_of c p k m o).aliases j.port.name.name ≡ None
no_alias_of c p k m o j j_in joined = by_alias (alias_number (flat_map (port_alias c.scope) (ports_of c k m o)) j.port.name.name) refl
  where
    by_alias : (n : Option ℕ) → alias_number (flat_map (port_alias c.scope) (ports_of c k m o)) j.port.name.name ≡ n → n ≡ None
    by_alias None is = refl
    by_alias (Some n) is =
        let f = alias_found c.scope (ports_of c k m o) j.port.name.name n is in
        let same : f.0 ≡ j = same_port (declared (overrides c.scope k.of_module m k.overrides) m) (connections k.of_module m.ports o.given) m.ports f.0 j f.1 j_in (sym f.2) in
        let both : as_alias n ≡ by_assignment = sym (subst (λ z. joining c.scope z.port z.label z.value ≡ as_alias n) same f.3) ∙ joined in
        absurd cc

-- the signal of a port that is joined by an assignment
pub port_own : (base : ℕ) (i : Instantiation) (before at now : Sofar) (x : Item) (k : InstanceItem) (m : Module) (o : One) (j : JoinedPort) (s : SignalEntry) → IsJoined base i before at x k m o j s →
    Continues (opened (inner_of (context base i before) x.place k m o) at) now → IsOwn now.design.signals (length at.design.signals) s
port_own base i before at now x k m o j s joined h =
    let inner = inner_of (context base i before) x.place k m o in
    scope_own inner at now j.port.name.name s refl h (no_alias_of (context base i before) x.place k m o j joined.port_in joined.joined) joined.entry
