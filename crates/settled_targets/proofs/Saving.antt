-- The values of the signals of a row are saved one after the other.
use Rattle.std.proofs.Common.{◌≡◌, ℕ, ◌+◌, ◌<◌, ◌≤◌, List, length, get_or, refl, sym, subst, ◌∙◌, arith, length-set, ⊎_elim}
use Rattle.std.specs.Prelude.{slice_set}
use Rattle.std.proofs.lemmas.Bool.{cases_eq}
use Rattle.std.proofs.lemmas.List.{get_or-set_other, get_or-set_same}
use Rattle.known_state.specs.Partly.{Partly}
use Rattle.design_model.specs.Design.{Design}
use Rattle.step_values.specs.body_replay.Store.{Kept}
use Rattle.step_values.specs.value_store.Signals.{no_value}
use Rattle.step_values.specs.body_store.declared.store.Store.{Store}
use Rattle.process_targets.specs.Placed.{no_bits}
use Rattle.process_targets.specs.declared.bits.Bits.{Bits}
use Rattle.step_values.specs.store_knowledge.Knows.{Knows}
use Rattle.step_values.specs.Vectors.{vector_at}
use Rattle.settled_targets.specs.Saved.{AreSaved, IsSaved}

-- those of a row up to a place are saved, in a list that is as long as this one
pub record SoFar (x : Store) (row : List Bits) (n i : ℕ) (qs : List Partly) : Type 0 where
  pub room : length qs ≡ n
  pub saved : (d : Design) (k : Kept) → Knows d k x → (j : ℕ) → j < i → IsSaved d k (get_or row j no_bits).signal (vector_at qs j)

pub none_saved : (x : Store) (row : List Bits) (qs : List Partly) → SoFar x row (length qs) 0 qs
none_saved x row qs = record { room = refl; saved = λ d k h j l. absurd (omega (arith, l)) }

pub one_saved : (x : Store) (row : List Bits) (n i : ℕ) (qs : List Partly) (q : Partly) → i < n → ((d : Design) (k : Kept) → Knows d k x → IsSaved d k (get_or row i no_bits).signal q) → SoFar x row n i qs → SoFar x row n (i + 1) (slice_set qs i q)
one_saved x row n i qs q l is so_far = record {
  room = length-set qs i q ∙ so_far.room;
  saved = λ d k h j m. ⊎_elim
      (λ e. let size = so_far.room in
      subst (λ y. IsSaved d k (get_or row y no_bits).signal (vector_at (slice_set qs i q) y)) (sym e) (subst (IsSaved d k (get_or row i no_bits).signal) (sym (get_or-set_same qs i q no_value (omega (arith, l, size)))) (is d k h)))
      (λ ne. subst (IsSaved d k (get_or row j no_bits).signal) (sym (get_or-set_other qs i j q no_value ne)) (so_far.saved d k h j (omega (arith, m, ne))))
      (cases_eq j i);
}

pub all_saved : (x : Store) (row : List Bits) (n i : ℕ) (qs : List Partly) → length row ≤ n → length row ≤ i → SoFar x row n i qs → (d : Design) (k : Kept) → Knows d k x → AreSaved d k row qs
all_saved x row n i qs room past so_far d k h =
    let size = so_far.room in
    record { room = omega (arith, room, size); each = λ j l. so_far.saved d k h j (omega (arith, l, past)) }
