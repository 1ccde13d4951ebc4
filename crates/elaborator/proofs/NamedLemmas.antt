-- Which instances an item names, and what is reported where they have no items.
use Rattle.std.proofs.Common.{◌≡◌, ℕ, Bool, true, false, if◌then◌else◌, List, [], ◌∷◌, Some, None, refl, sym, ap, ◌∙◌}
use Rattle.std.specs.List.{list_any}
use Rattle.std.specs.Prelude.{bytes_eq, not}
use Rattle.std.proofs.lemmas.Bool.{and_parts}
use Rattle.cov_host.specs.declared.place.Place.{Place}
use Rattle.verilog_tree.specs.declared.item.Named.{Named}
use Rattle.verilog_tree.specs.Tree.{Given, Module, One}
use Rattle.flat_design.specs.Bodies.{met_fault, met_faults}
use Rattle.flat_design.specs.Connections.{are_sound_overrides, override_faults, overrides, value_names_faulty}
use Rattle.flat_design.specs.Declarations.{Override}
use Rattle.flat_design.specs.Fault.{fault_at, none}
use Rattle.flat_design.specs.Flat.{all_instances, instances_of, module_of}
use Rattle.flat_design.specs.Instances.{Context, Instantiation, Sofar, meet}
use Rattle.flat_design.specs.Scope.{Scope}
use Rattle.flat_design.specs.declared.fault.ElabKind.TheVariants.{NoModule, Recursion}
use Rattle.flat_laws.proofs.LawfulDeclared.{is_empty}
use Rattle.elaborator.specs.Named.{AreOf, HaveNone, item_of}

-- instances of module m, by whether it is around and whether the overrides are sound
abbrev by_tests : (Instantiation → Sofar → Sofar) → ℕ → Context → Place → Named → List Given → List One → Module → Sofar → Bool → Bool → Sofar
by_tests child base c p x cs ones m st around sound =
    if around then meet (met_fault (fault_at Recursion x) ∷ []) st else elim sound [
      | true ↦ all_instances child base c p (item_of x cs ones) m (overrides c.scope x m cs) ones st
      | false ↦ meet (met_faults (override_faults c.scope x m cs)) st
    ]

of_module : (child : Instantiation → Sofar → Sofar) (base : ℕ) (c : Context) (p : Place) (ms : List Module) (x : Named) (cs : List Given) (ones : List One) (m : Module) (st : Sofar) → module_of ms x.name ≡ Some m →
    instances_of child base c p (item_of x cs ones) (module_of ms x.name) st ≡ by_tests child base c p x cs ones m st (list_any (bytes_eq m.name.name) c.given.around) (are_sound_overrides c.scope x m cs)
of_module child base c p ms x cs ones m st found = ap (λ o. instances_of child base c p (item_of x cs ones) o st) found

pub all_are : (child : Instantiation → Sofar → Sofar) (base : ℕ) (c : Context) (p : Place) (ms : List Module) (x : Named) (cs : List Given) (ones : List One) (m : Module) (os : List Override) (st : Sofar) →
    AreOf ms c.given.around c.scope x cs m os → instances_of child base c p (item_of x cs ones) (module_of ms x.name) st ≡ all_instances child base c p (item_of x cs ones) m os ones st
all_are child base c p ms x cs ones m os st of =
    of_module child base c p ms x cs ones m st of.found
    ∙ ap (λ a. by_tests child base c p x cs ones m st a (are_sound_overrides c.scope x m cs)) of.apart
    ∙ ap (λ s. by_tests child base c p x cs ones m st false s) of.sound
    ∙ ap (λ ys. all_instances child base c p (item_of x cs ones) m ys ones st) (sym of.overrides)

-- no module has the name
pub none_absent : (ms : List Module) (around : List (List ℕ)) (g : Scope) (x : Named) (cs : List Given) → module_of ms x.name ≡ None → HaveNone ms around g x cs (fault_at NoModule x ∷ [])
none_absent ms around g x cs absent = record { told = λ child base c p ones st around_is scope_is. ap (λ o. instances_of child base c p (item_of x cs ones) o st) absent }

-- the module is around
pub none_around : (ms : List Module) (around : List (List ℕ)) (g : Scope) (x : Named) (cs : List Given) (m : Module) → module_of ms x.name ≡ Some m → list_any (bytes_eq m.name.name) around ≡ true → HaveNone ms around g x cs (fault_at Recursion x ∷ [])
none_around ms around g x cs m found inside =
    record {
      told = λ child base c p ones st around_is scope_is.
          of_module child base c p ms x cs ones m st found ∙ ap (λ a. by_tests child base c p x cs ones m st a (are_sound_overrides c.scope x m cs)) (ap (list_any (bytes_eq m.name.name)) around_is ∙ inside);
    }

-- an override has a fault
pub none_sound : (ms : List Module) (around : List (List ℕ)) (g : Scope) (x : Named) (cs : List Given) (m : Module) → module_of ms x.name ≡ Some m → list_any (bytes_eq m.name.name) around ≡ false → are_sound_overrides g x m cs ≡ false → HaveNone ms around g x cs (override_faults g x m cs)
none_sound ms around g x cs m found apart faulty =
    record {
      told = λ child base c p ones st around_is scope_is.
          of_module child base c p ms x cs ones m st found
          ∙ ap (λ a. by_tests child base c p x cs ones m st a (are_sound_overrides c.scope x m cs)) (ap (list_any (bytes_eq m.name.name)) around_is ∙ apart)
          ∙ ap (λ s. by_tests child base c p x cs ones m st false s) (ap (λ h. are_sound_overrides h x m cs) scope_is ∙ faulty)
          ∙ ap (λ h. meet (met_faults (override_faults h x m cs)) st) scope_is;
    }

-- overrides that were found are sound
if_some : {A : Type 0} (b : Bool) (y z : A) → Some y ≡ (if b then Some z else None) → (b ≡ true) × (y ≡ z)
if_some true y z e = (refl, cc)
if_some false y z e = absurd cc

pub sound_some : (g : Scope) (x : Named) (m : Module) (cs : List Given) (os : List Override) → Some os ≡ (if are_sound_overrides g x m cs then Some (overrides g x m cs) else None) → (are_sound_overrides g x m cs ≡ true) × (os ≡ overrides g x m cs)
sound_some g x m cs os e = if_some (are_sound_overrides g x m cs) os (overrides g x m cs) e

if_none : {A : Type 0} (b : Bool) (z : A) → None ≡ (if b then Some z else None) → b ≡ false
if_none true z e = absurd cc
if_none false z e = refl

pub sound_none : (g : Scope) (x : Named) (m : Module) (cs : List Given) → None ≡ (if are_sound_overrides g x m cs then Some (overrides g x m cs) else None) → are_sound_overrides g x m cs ≡ false
sound_none g x m cs e = if_none (are_sound_overrides g x m cs) (overrides g x m cs) e

-- and have no fault
pub sound_untold : (g : Scope) (x : Named) (m : Module) (cs : List Given) → are_sound_overrides g x m cs ≡ true → override_faults g x m cs ≡ []
sound_untold g x m cs sound = is_empty (override_faults g x m cs) (and_parts (none (override_faults g x m cs)) (not (list_any (λ c. value_names_faulty g c.value) cs)) sound).0
