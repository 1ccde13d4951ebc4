-- A walk goes through the instances that an item names.
use Rattle.std.proofs.Common.{◌≡◌, ℕ, ◌+◌, ◌<◌, true, false, List, ◌∷◌, refl, sym, subst, length, get_or, drop, drop-cons, add-one}
use Rattle.cov_host.specs.declared.place.Place.{Place}
use Rattle.verilog_tree.specs.declared.item.Named.{Named}
use Rattle.verilog_tree.specs.Tree.{Given, InstanceItem, Module, One}
use Rattle.verilog_tree.specs.View.{one_view, ones_view}
use Rattle.verilog_tree.specs.declared.item.One.{One as CodeOne}
use Rattle.flat_design.specs.Bodies.{met_faults}
use Rattle.flat_design.specs.Connections.{JoinedPort, connections_faults, joined_ports}
use Rattle.flat_design.specs.Declarations.{Override}
use Rattle.flat_design.specs.Fault.{Fault}
use Rattle.flat_design.specs.Flat.{all_instances, instance, instances_of, instantiation, is_declared_here, module_of, one_instance, replaced}
use Rattle.flat_design.specs.Instances.{Context, Instantiation, meet}
use Rattle.flat_design.specs.Scope.{Scope}
use Rattle.elaborator.specs.Named.{AreOf, HaveNone, item_of}
use Rattle.elaborator.specs.Walk.{GoesBy, IsAmong, WalksBy, around_here}
use Rattle.elaborator.specs.declared.walk.Numbers.{Numbers}
use Rattle.elaborator.specs.declared.walk.Walk.{Walk}
use Rattle.elaborator.proofs.NamedLemmas.{all_are}
use Rattle.elaborator.proofs.StepLemmas.{goes_twice, still_goes, walks_go}

-- by one instance the walk goes from one moment to the next
abbrev pub OneGoes : ℕ → List Module → ℕ → Instantiation → Scope → Place → InstanceItem → Module → List Override → One → Numbers → Walk → Walk → Type 0
OneGoes base ms depth given g p x m os o numbers w later = GoesBy base w numbers later numbers (λ b i l n st. one_instance (instance b ms depth) b (around_here b given i g) p x m os o st) 0 0

-- by these
abbrev pub OnesGo : ℕ → List Module → ℕ → Instantiation → Scope → Place → InstanceItem → Module → List Override → List One → Numbers → Walk → Walk → Type 0
OnesGo base ms depth given g p x m os more numbers w later = GoesBy base w numbers later numbers (λ b i l n st. all_instances (instance b ms depth) b (around_here b given i g) p x m os more st) 0 0

-- one instance, and then what comes after it
pub ones_next : {base : ℕ} {w next later : Walk} {numbers : Numbers} (ms : List Module) (depth : ℕ) (given : Instantiation) (g : Scope) (p : Place) (x : InstanceItem) (m : Module) (os : List Override) (ones : List CodeOne) (n : ℕ) (o : CodeOne) → n < length ones → o ≡ get_or ones n o →
    OneGoes base ms depth given g p x m os (one_view o) numbers w next → OnesGo base ms depth given g p x m os (ones_view (drop (n + 1) ones)) numbers next later → OnesGo base ms depth given g p x m os (ones_view (drop n ones)) numbers w later
ones_next {base = base} {w = w} {later = later} {numbers = numbers} ms depth given g p x m os ones n o within is first second =
    let split : drop n ones ≡ o ∷ drop (n + 1) ones = rw (drop-cons ones n o within, ← is, add-one n) refl in
    let whole : OnesGo base ms depth given g p x m os (one_view o ∷ ones_view (drop (n + 1) ones)) numbers w later = goes_twice 0 0 0 0 first second in
    subst (λ ys. OnesGo base ms depth given g p x m os (ones_view ys) numbers w later) (sym split) whole

-- an item whose instances have no items
pub none_go : {base : ℕ} {w later : Walk} {numbers : Numbers} (ms : List Module) (depth : ℕ) (given : Instantiation) (g : Scope) (p : Place) (x : Named) (cs : List Given) (ones : List One) (fs : List Fault) →
    HaveNone ms given.around g x cs fs → WalksBy base w later (λ b st. meet (met_faults fs) st) →
    GoesBy base w numbers later numbers (λ b i l n st. instances_of (instance b ms depth) b (around_here b given i g) p (item_of x cs ones) (module_of ms x.name) st) 0 0
none_go {base = base} {w = w} {later = later} {numbers = numbers} ms depth given g p x cs ones fs none walks before b st i l n among =
    let end = walks_go {numbers = numbers} walks before b st i l n among in
    let same = none.told (instance b ms depth) b (around_here b given i g) p ones st refl refl in
    (subst (λ s. IsAmong before base b later numbers s i (l + 0) (n + 0)) (sym same) end.0, end.1)

-- an item whose instances are of a module
pub all_go : {base : ℕ} {w later : Walk} {numbers : Numbers} (ms : List Module) (depth : ℕ) (given : Instantiation) (g : Scope) (p : Place) (x : Named) (cs : List Given) (ones : List One) (m : Module) (os : List Override) →
    AreOf ms given.around g x cs m os → OnesGo base ms depth given g p (item_of x cs ones) m os ones numbers w later →
    GoesBy base w numbers later numbers (λ b i l n st. instances_of (instance b ms depth) b (around_here b given i g) p (item_of x cs ones) (module_of ms x.name) st) 0 0
all_go {base = base} {later = later} {numbers = numbers} ms depth given g p x cs ones m os of goes before b st i l n among =
    let end = goes before b st i l n among in
    let same = all_are (instance b ms depth) b (around_here b given i g) p ms x cs ones m os st of in
    (subst (λ s. IsAmong before base b later numbers s i (l + 0) (n + 0)) (sym same) end.0, end.1)

-- an instance that is not declared here
pub one_still : {base : ℕ} (w : Walk) (numbers : Numbers) (ms : List Module) (depth : ℕ) (given : Instantiation) (g : Scope) (p : Place) (x : InstanceItem) (m : Module) (os : List Override) (o : One) →
    ((b i : ℕ) → is_declared_here (around_here b given i g) o.name ≡ false) → OneGoes base ms depth given g p x m os o numbers w w
one_still {base = base} w numbers ms depth given g p x m os o away before b st i l n among =
    let js : List JoinedPort = joined_ports os m x.of_module o.given in
    let c : Context = around_here b given i g in
    let end = still_goes {base = base} w numbers before b st i l n among in
    let same : one_instance (instance b ms depth) b c p x m os o st ≡ st = rw (away b i) refl in
    (subst (λ s. IsAmong before base b w numbers s i (l + 0) (n + 0)) (sym same) end.0, end.1)

-- one that is
pub one_goes : {base : ℕ} {w later : Walk} {numbers : Numbers} (ms : List Module) (depth : ℕ) (given : Instantiation) (g : Scope) (p : Place) (x : InstanceItem) (m : Module) (os : List Override) (o : One) (inner : Instantiation) (js : List JoinedPort) (fs : List Fault) →
    ((b i : ℕ) → is_declared_here (around_here b given i g) o.name ≡ true) →
    js ≡ joined_ports os m x.of_module o.given → fs ≡ connections_faults g os m x.of_module o.given →
    ((b i : ℕ) → inner ≡ instantiation (around_here b given i g) p m os o js) →
    GoesBy base w numbers later numbers (λ b i l n st. replaced (instance b ms depth) b (around_here b given i g) p inner js (meet (met_faults fs) st)) 0 0 →
    OneGoes base ms depth given g p x m os o numbers w later
one_goes {base = base} {later = later} {numbers = numbers} ms depth given g p x m os o inner js fs here ports faults is goes before b st i l n among =
    let c : Context = around_here b given i g in
    let end = goes before b st i l n among in
    let same : replaced (instance b ms depth) b c p inner js (meet (met_faults fs) st) ≡ one_instance (instance b ms depth) b c p x m os o st = rw (is b i, ports, faults, here b i) refl in
    (subst (λ s. IsAmong before base b later numbers s i (l + 0) (n + 0)) same end.0, end.1)
