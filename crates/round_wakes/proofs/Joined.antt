-- The writers that are found are those that the sets of the rounds take.
use Rattle.std.proofs.Common.{◌≡◌, ◌∙◌, ℕ, ◌+◌, Bool, List, Option, Result, Ok, Err, IfOk, length, sym, subst}
use Rattle.design_model.specs.Design.{Design}
use Rattle.early_sets.specs.WakeState.{WakeState}
use Rattle.once_writers.specs.Writers.{AreOnceWriters}
use Rattle.step_wakes.specs.Step.{IsOfDesign, flag_at}
use Rattle.wake_laws.specs.OfDesign.{AreWritersOf}

-- what is so of a success, by two facts of it
pub two_facts : {T E : Type 0} (P Q G : T → Type 0) (r : Result T E) → ((x : T) → P x → Q x → G x) → IfOk r P → IfOk r Q → IfOk r G
two_facts P Q G (Ok x) f p q = f x p q
two_facts P Q G (Err e) f p q = tt

pub joined : (d : Design) (bound : List Bool) (writers : List (Option ℕ)) (w : WakeState) → length writers ≡ length d.signals + length d.memories → AreOnceWriters d (flag_at bound) writers → IsOfDesign d bound w → w.writers ≡ writers → AreWritersOf d (flag_at bound) w.tables.things w.writers
joined d bound writers w count are made is =
    subst (AreWritersOf d (flag_at bound) w.tables.things) (sym is)
    (record { count_is = count ∙ sym made.tables.things_are; is = λ x p l. are x p })
