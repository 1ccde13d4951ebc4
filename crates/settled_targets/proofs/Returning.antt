-- What is kept and what was made of the targets of a process after its run, one after the other.
use Rattle.std.proofs.Common.{◌≡◌, ℕ, ◌+◌, ◌<◌, ◌==◌, Bool, false, List, [], length, map, take, get_or, Option, refl, ap, subst, ◌∙◌}
use Rattle.design_model.specs.Design.{Design, signal_cells}
use Rattle.step_values.specs.body_replay.Store.{Kept}
use Rattle.step_values.specs.body_store.declared.store.Store.{Store}
use Rattle.process_targets.specs.Targets.{IsOnce, has_bit, names, row_has}
use Rattle.process_targets.specs.declared.bits.Bits.{Bits}
use Rattle.step_values.specs.store_knowledge.Knows.{Knows}
use Rattle.step_values.specs.Vectors.{StepVectors}
use Rattle.step_values.proofs.Tests.{row_more}
use Rattle.settled_targets.specs.Returned.{Returns, remade, returned}
use Rattle.settled_targets.proofs.Rows.{named_more, once_before, remade_more, returned_more, unnamed}

-- nothing yet
pub none_returned : (codes : List (Option ℕ)) (g h : Bool) (Saved : Design → Kept → Type 0) (x : Store) (v : StepVectors) → Returns codes (names []) (row_has []) g h Saved x x v v
none_returned codes g h Saved x v = record {
  design = refl;
  before = refl;
  fits = λ d f. f;
  knows = λ d k r saved known. known;
  made = λ d k r m s saved known f l coded old. old;
}

-- one bits of a row more
module _ (codes : List (Option ℕ)) (row : List Bits) (i : ℕ) (e : Bits) (g h : Bool) (All One : Design → Kept → Type 0) (l : i < length row) (once : IsOnce row) (one : (d : Design) (k : Kept) → All d k → One d k) where
  abbrev b : Bits
  b = get_or row i e

  abbrev so_far : List Bits
  so_far = take i row

  apart : names so_far b.signal ≡ false
  apart = once_before row i e l once

  kept_more : (k r : Kept) → returned codes (λ s. b.signal == s) (has_bit b) g k (returned codes (names so_far) (row_has so_far) g k r) ≡ returned codes (names (take (i + 1) row)) (row_has (take (i + 1) row)) g k r
  kept_more k r = returned_more codes (names so_far) (names (take (i + 1) row)) (row_has so_far) (row_has (take (i + 1) row)) b apart (unnamed so_far) (λ s. named_more row i e s l) (λ c. row_more row i e c l) k r r g

  made_more : (k r m : Kept) → remade (has_bit b) h (returned codes (names so_far) (row_has so_far) g k r) (remade (row_has so_far) h r m) ≡ remade (row_has (take (i + 1) row)) h r m
  made_more k r m = remade_more codes (names so_far) (names (take (i + 1) row)) (row_has so_far) (row_has (take (i + 1) row)) b apart (unnamed so_far) (λ s. named_more row i e s l) (λ c. row_more row i e c l) k r m g h

  pub one_returned : (x y z : Store) (v w u : StepVectors) → Returns codes (names so_far) (row_has so_far) g h All x y v w → Returns codes (λ s. b.signal == s) (has_bit b) g h One y z w u → Returns codes (names (take (i + 1) row)) (row_has (take (i + 1) row)) g h All x z v u
  one_returned x y z v w u first second = record {
    design = second.design ∙ first.design;
    before = second.before ∙ first.before;
    fits = λ d f. second.fits d (first.fits d f);
    knows = λ d k r saved known. subst (λ j. Knows d j z) (kept_more k r) (second.knows d k _ (one d k saved) (first.knows d k r saved known));
    made = λ d k r m s saved known f m_inside coded old.
        second.made d k _ _ s (one d k saved) (first.knows d k r saved known) (first.fits d f) m_inside coded (first.made d k r m s saved known f m_inside coded old)
        ∙ ap (λ j. map j (signal_cells d s)) (made_more k r m);
  }
