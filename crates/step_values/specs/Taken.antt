-- What was made of the signals that the Clocked of a step have overwritten.
use Rattle.std.specs.Prelude.{◌≡◌, ◌↔◌, ◌&&◌, ◌||◌, ℕ, Bool, true, false, List, Option}
use Rattle.std.specs.List.{list_any}
use Rattle.design_model.specs.Design.{Design, In}
use Rattle.store_knowledge.specs.body_replay.Store.{Kept}
use Rattle.store_knowledge.specs.body_calls.Own.{is_in}
use Rattle.store_knowledge.specs.body_store.declared.store.Store.{Store}
use Rattle.index_sets.specs.Rows.{row_at}
use Rattle.store_knowledge.specs.Knows.{Knows}
use Rattle.step_values.specs.Loose.{has_code}
use Rattle.step_values.specs.Vectors.{AreKnownBits, FitsSignals, StepVectors, vector_at}

-- the row of one of these processes has the number
abbrev pub some_row_lists : List (List ℕ) → List ℕ → ℕ → Bool
some_row_lists rows ps s = list_any (λ p. is_in (row_at rows p) s) ps

-- the list has the signals with a code that the row of one of these processes has
abbrev pub AreOfRows : List (Option ℕ) → List (List ℕ) → List ℕ → List ℕ → Type 0
AreOfRows codes rows ps listed = (s : ℕ) → In s listed ↔ ((has_code codes s ≡ true) × (p : ℕ) × In p ps × (is_in (row_at rows p) s ≡ true))

-- of the signals of a list what was made is what is known, and of the others it is as it was
pub record TakesKnown (d : Design) (k : Kept) (listed : List ℕ) (v w : StepVectors) : Type 0 where
  pub known : AreKnownBits d k listed w.made
  pub others : (s : ℕ) → is_in listed s ≡ false → vector_at w.made s ≡ vector_at v.made s

-- the signals with a code that pass a test come to a list, and of those of the list what was made is what the store knows
pub record Takes (codes : List (Option ℕ)) (test : ℕ → Bool) (x : Store) (xs ys : List ℕ) (v w : StepVectors) : Type 0 where
  pub before : w.before ≡ v.before
  pub fits : (d : Design) (k : Kept) → Knows d k x → FitsSignals d v → FitsSignals d w
  pub listed : (s : ℕ) → is_in ys s ≡ (is_in xs s || (test s && has_code codes s))
  pub known : (d : Design) (k : Kept) → Knows d k x → FitsSignals d v → AreKnownBits d k xs v.made → AreKnownBits d k ys w.made
  pub others : (s : ℕ) → is_in ys s ≡ false → vector_at w.made s ≡ vector_at v.made s
