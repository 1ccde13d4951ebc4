-- What is known where nothing was found: what was met has no fault, so processes can be built.
use Rattle.std.proofs.Common.{◌≡◌, List, [], ◌∷◌, refl, ◌∙◌}
use Rattle.std.specs.List.{list_any}
use Rattle.flat_design.specs.Bodies.{Met, met_fault, met_signal, met_words, met_process, met_instance, met_statement, met_text, met_writing}
use Rattle.flat_laws.proofs.Freedom as laws
use Rattle.elab_bodies.proofs.SoundOfMet as bodies
use Rattle.elab_scope.specs.Tally.{Tally, after_all}
use Rattle.elaborator.specs.Walk.{IsClean}
use Rattle.elaborator.proofs.WalkLemmas.{all_clean}

one_fault : (m : Met) → bodies.is_fault m ≡ laws.is_fault m
one_fault (met_fault f) = refl
one_fault (met_signal p) = refl
one_fault (met_words p n) = refl
one_fault (met_process p) = refl
one_fault (met_instance p) = refl
one_fault (met_statement p) = refl
one_fault (met_text p n) = refl
one_fault (met_writing w) = refl

any_fault : (ms : List Met) → list_any bodies.is_fault ms ≡ list_any laws.is_fault ms
any_fault [] = refl
any_fault (m ∷ ms) = rw (one_fault m, any_fault ms) refl

-- what was met last has no fault
pub met_free : (t : Tally) (ms : List Met) → IsClean (after_all t ms) → bodies.IsFree ms
met_free t ms clean = any_fault ms ∙ (all_clean t ms clean).1.no_fault

-- and nothing was found before
pub met_clean : (t : Tally) (ms : List Met) → IsClean (after_all t ms) → IsClean t
met_clean t ms clean = (all_clean t ms clean).0
