-- What of the bits that wake a process has changed over a step.
use Rattle.std.proofs.Common.{◌≡◌, ℕ, zero, suc, ◌+◌, ◌<◌, ◌==◌, ◌||◌, Bool, true, false, not, List, [], ◌∷◌, ◌++◌, if◌then◌else◌, map, take, get_or, length, Option, Some, None, refl, sym, ap, ap₂, ◌∙◌, arith, bit_and}
use Rattle.std.specs.Prelude.{is_some}
use Rattle.std.specs.List.{list_all, list_any}
use Rattle.std.proofs.lemmas.Bool.{false≢true, or_from, or_left, or_right}
use Rattle.std.proofs.lemmas.List.{take_more}
use Rattle.std.proofs.lemmas.List.Folds.{list_any_more}
use Rattle.four_state.specs.Masks.{is_set}
use Rattle.design_model.specs.Design.{Design, cell, signal_at, signal_cells}
use Rattle.four_state.specs.declared.bit.Bit.{Bit}
use Rattle.body_replay.specs.KnownBits.{KnownBits}
use Rattle.body_replay.specs.Store.{Kept}
use Rattle.body_store.proofs.Rows.{row_at}
use Rattle.bit_changes.specs.Changes as b
use Rattle.step_parts.specs.replay_model.Step.{Closing, Working, first_unsure, has_changed, is_still, surely_differ, surely_same, wake_cells}
use Rattle.known_state.specs.Partly.{Partly}
use Rattle.design_model.specs.View.{design_view}
use Rattle.early_sets.specs.Has.{is_in}
use Rattle.early_sets.specs.WakeState.{WakeState}
use Rattle.body_store.specs.declared.store.Store.{Store}
use Rattle.settled_runs.specs.store_knowledge.Knows.{Knows}
use Rattle.settled_targets.specs.step_values.Vectors.{StepVectors, vector_at}
use Rattle.settled_targets.proofs.step_values.Forgets.{here}
use Rattle.wake_bits.specs.Laws.{IsWakeOf}
use Rattle.wake_bits.specs.declared.wakes.Wake.{Wake}
use Rattle.settling.specs.Wakes.{HasState, things_of}
use Rattle.settling.proofs.Masks.{not_all_free, some_free}

-- ---- the tests of two bits

differ_same : (p q : Option Bit) → b.surely_differ p q ≡ surely_differ p q
differ_same None None = refl
differ_same None (Some y) = refl
differ_same (Some x) None = refl
differ_same (Some x) (Some y) = refl

same_same : (p q : Option Bit) → b.surely_same p q ≡ surely_same p q
same_same None None = refl
same_same None (Some y) = refl
same_same (Some x) None = refl
same_same (Some x) (Some y) = refl

module _ (st : Closing) (w : Working) (p : ℕ) (y : Wake) (wake : IsWakeOf st.design p y) (signal : y.thing < length st.design.signals) where
  abbrev s : ℕ
  s = y.thing

  abbrev width : ℕ
  width = (signal_at st.design s).width

  -- ---- what may move

  module _ (ps qs : KnownBits) (m : ℕ) (before : ps ≡ map st.start.kept (signal_cells st.design s)) (now : qs ≡ map w.kept (signal_cells st.design s)) (size : length ps ≡ width) where
    bit_before : (j : ℕ) → j < width → get_or ps j None ≡ st.start.kept (cell s j)
    bit_before j l = let start : 0 + j ≡ j = omega arith in sym (row_at st.start.kept (cell s) 0 width ps j before l) ∙ ap (λ i. st.start.kept (cell s i)) start

    bit_now : (j : ℕ) → j < width → get_or qs j None ≡ w.kept (cell s j)
    bit_now j l = let start : 0 + j ≡ j = omega arith in sym (row_at w.kept (cell s) 0 width qs j now l) ∙ ap (λ i. w.kept (cell s i)) start

    pub changed_is : ((j : ℕ) → j < length ps → is_set m j ≡ b.surely_differ (get_or ps j None) (get_or qs j None)) → not (bit_and m y.mask == 0) ≡ has_changed st w.kept p s
    changed_is bits =
        some_free st.design p y wake signal m (λ c. surely_differ (st.start.kept c) (w.kept c)) (λ j l. bits j (omega (arith, l, size)) ∙ ap₂ b.surely_differ (bit_before j l) (bit_now j l) ∙ differ_same _ _)

    pub unsure_is : st.sets.moves s ≡ true → ((j : ℕ) → j < length ps → is_set m j ≡ not (b.surely_same (get_or ps j None) (get_or qs j None))) → not (bit_and m y.mask == 0) ≡ not (is_still st w.kept p s)
    unsure_is moves bits =
        not_all_free st.design p y wake signal m (λ c. surely_same (st.start.kept c) (w.kept c)) (λ j l. bits j (omega (arith, l, size)) ∙ ap not (ap₂ b.surely_same (bit_before j l) (bit_now j l) ∙ same_same _ _))
        ∙ ap (λ t. not (not t || list_all (λ c. surely_same (st.start.kept c) (w.kept c)) (wake_cells st.design p s))) (sym moves)

-- ---- a row, one signal after the other

module _ (st : Closing) (k : Kept) (p : ℕ) where
  -- the first of a row, where those before it are still
  pub first_found : (row : List Wake) (i : ℕ) (e : Wake) → i < length row → first_unsure st k p (things_of (take i row)) ≡ None → is_still st k p (get_or row i e).thing ≡ false → first_unsure st k p (things_of row) ≡ Some (get_or row i e).thing
  first_found [] i e l none moves = absurd (omega (arith, l))
  first_found (x ∷ row) zero e l none moves = ap (λ t. if t then first_unsure st k p (things_of row) else Some x.thing) moves
  first_found (x ∷ row) (suc i) e l none moves = go (λ rest. first_found row i e (omega (arith, l)) rest moves) (is_still st k p x.thing) none
    where
      go : (first_unsure st k p (things_of (take i row)) ≡ None → first_unsure st k p (things_of row) ≡ Some (get_or row i e).thing) → (t : Bool) → (if t then first_unsure st k p (things_of (take i row)) else Some x.thing) ≡ None → (if t then first_unsure st k p (things_of row) else Some x.thing) ≡ Some (get_or row i e).thing
      go rest true h = rest h
      go rest false h = absurd (false≢true (sym (ap is_some h)))

  pushed : (row : List Wake) (y : Wake) → first_unsure st k p (things_of row) ≡ None → is_still st k p y.thing ≡ true → first_unsure st k p (things_of (row ++ y ∷ [])) ≡ None
  pushed [] y none still = ap (λ t. if t then None else Some y.thing) still
  pushed (x ∷ row) y none still = go (λ rest. pushed row y rest still) (is_still st k p x.thing) none
    where
      go : (first_unsure st k p (things_of row) ≡ None → first_unsure st k p (things_of (row ++ y ∷ [])) ≡ None) → (t : Bool) → (if t then first_unsure st k p (things_of row) else Some x.thing) ≡ None → (if t then first_unsure st k p (things_of (row ++ y ∷ [])) else Some x.thing) ≡ None
      go rest true h = rest h
      go rest false h = h

  -- one more that is still
  pub none_more : (row : List Wake) (i : ℕ) (e : Wake) → i < length row → first_unsure st k p (things_of (take i row)) ≡ None → is_still st k p (get_or row i e).thing ≡ true → first_unsure st k p (things_of (take (i + 1) row)) ≡ None
  none_more row i e l none still = ap (λ ys. first_unsure st k p (things_of ys)) (take_more row i e l) ∙ pushed (take i row) (get_or row i e) none still

  -- whether some signal of a row has changed
  pub some_changed : (row : List Wake) → list_any (has_changed st k p) (things_of row) ≡ list_any (λ (y : Wake). has_changed st k p y.thing) row
  some_changed [] = refl
  some_changed (y ∷ row) = ap (λ t. has_changed st k p y.thing || t) (some_changed row)

  pub changed_found : (row : List Wake) (i : ℕ) (e : Wake) → i < length row → has_changed st k p (get_or row i e).thing ≡ true → list_any (has_changed st k p) (things_of row) ≡ true
  changed_found row i e l h = some_changed row ∙ found row i l h
    where
      found : (ys : List Wake) (j : ℕ) → j < length ys → has_changed st k p (get_or ys j e).thing ≡ true → list_any (λ (y : Wake). has_changed st k p y.thing) ys ≡ true
      found [] j m g = absurd (omega (arith, m))
      found (y ∷ ys) zero m g = or_left (has_changed st k p y.thing) (list_any (λ (z : Wake). has_changed st k p z.thing) ys) g
      found (y ∷ ys) (suc j) m g = or_right (has_changed st k p y.thing) (list_any (λ (z : Wake). has_changed st k p z.thing) ys) (found ys j (omega (arith, m)) g)

  pub none_changed : (row : List Wake) (i : ℕ) (e : Wake) → i < length row → list_any (λ (y : Wake). has_changed st k p y.thing) (take i row) ≡ false → has_changed st k p (get_or row i e).thing ≡ false → list_any (λ (y : Wake). has_changed st k p y.thing) (take (i + 1) row) ≡ false
  none_changed row i e l none h = list_any_more (λ (y : Wake). has_changed st k p y.thing) row i e l ∙ or_from (list_any (λ (y : Wake). has_changed st k p y.thing) (take i row)) (has_changed st k p (get_or row i e).thing) none h

-- ---- the parts of the code

module _ (st : Closing) (w : Working) (p : ℕ) (x : Store) (v : StepVectors) (sets : WakeState) (y : Wake) (state : HasState st w x v sets) (wake : IsWakeOf st.design p y) (inside : y.thing < length (design_view x.design.now).signals) where
  signal : y.thing < length st.design.signals
  signal = here (λ e. y.thing < length e.signals) st.design w.kept x state.values.knows inside

  module _ (q r : Partly) (m : ℕ) (moves : is_in sets.moves y.thing ≡ true) (before : q ≡ vector_at v.before y.thing) (now : (d : Design) (k : Kept) → Knows d k x → r.bits ≡ map k (signal_cells d y.thing)) where
    may : st.sets.moves y.thing ≡ true
    may = state.moves y.thing ∙ moves

    old : q.bits ≡ map st.start.kept (signal_cells st.design y.thing)
    old = ap (λ (z : Partly). z.bits) before ∙ state.values.before y.thing signal may

    new : r.bits ≡ map w.kept (signal_cells st.design y.thing)
    new = now st.design w.kept state.values.knows

    size : length q.bits ≡ (signal_at st.design y.thing).width
    size = ap (λ (z : Partly). length z.bits) before ∙ state.values.fits.before.width y.thing signal

    pub moved : ((j : ℕ) → j < length q.bits → is_set m j ≡ b.surely_differ (get_or q.bits j None) (get_or r.bits j None)) → not (bit_and m y.mask == 0) ≡ has_changed st w.kept p y.thing
    moved bits = changed_is st w p y wake signal q.bits r.bits m old new size bits

    pub unsure : ((j : ℕ) → j < length q.bits → is_set m j ≡ not (b.surely_same (get_or q.bits j None) (get_or r.bits j None))) → not (bit_and m y.mask == 0) ≡ not (is_still st w.kept p y.thing)
    unsure bits = unsure_is st w p y wake signal q.bits r.bits m old new size may bits
