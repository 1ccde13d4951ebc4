-- The lists of edges of the processes.
use Rattle.std.proofs.Common.{◌≡◌, ◌∙◌, ◌&&◌, ℕ, ◌+◌, ◌<◌, ◌≤◌, Bool, true, false, cond, List, ◌∷◌, Some, None, length, get_or, drop, ap, sym, subst}
use Rattle.std.specs.List.{Contains, list_all}
use Rattle.std.proofs.Math.Numerals.{add-one}
use Rattle.std.proofs.Math.Seq.{drop-cons}
use Rattle.std.proofs.lemmas.List.{drop_all}
use Rattle.std.proofs.lemmas.List.Elements.{Contains-get_or}
use Rattle.four_state.specs.declared.edge.Edge.{Edge}
use Rattle.index_sets.specs.Rows.{row_at}
use Rattle.wake_tables.specs.declared.tables.WakeTables.{WakeTables}
use Rattle.early_sets.specs.WakeState.{first_signal}

-- the signal of an edge of a list is one of the design
pub signal_below : (t : WakeTables) (process i : ℕ) (row : List (Edge × ℕ)) (none : Edge × ℕ) → row ≡ row_at t.events process → i < length row → (get_or row i none).1 < t.things
signal_below t process i row none is l =
    let e : Edge × ℕ = get_or row i none in
    t.events_within.below process e (subst (λ r. Contains r e) is (Contains-get_or row i none l))

module _ (f : (Edge × ℕ) → Bool) (row : List (Edge × ℕ)) (i : ℕ) (none : Edge × ℕ) where
  -- the rest of a list, from one of its places on
  rest : i < length row → drop i row ≡ get_or row i none ∷ drop (i + 1) row
  rest l = drop-cons row i none l ∙ ap (λ k. get_or row i none ∷ drop k row) (sym (add-one i))

  -- where the first of the rest passes, its signal is the first
  pub first_here : i < length row → f (get_or row i none) ≡ true → first_signal f (drop i row) ≡ Some (get_or row i none).1
  first_here l passed = ap (first_signal f) (rest l) ∙ ap (λ b. cond b (Some (get_or row i none).1) (first_signal f (drop (i + 1) row))) passed

  -- and where it does not, the first is among those after it
  pub first_later : i < length row → f (get_or row i none) ≡ false → first_signal f (drop (i + 1) row) ≡ first_signal f (drop i row)
  first_later l failed = sym (ap (first_signal f) (rest l) ∙ ap (λ b. cond b (Some (get_or row i none).1) (first_signal f (drop (i + 1) row))) failed)

  -- where the first of the rest does not pass, not all do
  pub not_all : i < length row → f (get_or row i none) ≡ false → list_all f (drop i row) ≡ false
  not_all l failed = ap (list_all f) (rest l) ∙ ap (λ b. b && list_all f (drop (i + 1) row)) failed

  -- and where it does, all do if those after it do
  pub all_later : i < length row → f (get_or row i none) ≡ true → list_all f (drop (i + 1) row) ≡ list_all f (drop i row)
  all_later l passed = sym (ap (list_all f) (rest l) ∙ ap (λ b. b && list_all f (drop (i + 1) row)) passed)

  -- nothing is left
  pub first_nowhere : length row ≤ i → first_signal f (drop i row) ≡ None
  first_nowhere l = ap (first_signal f) (drop_all i row l)

  pub all_of_none : length row ≤ i → list_all f (drop i row) ≡ true
  all_of_none l = ap (list_all f) (drop_all i row l)
