-- A signal of which the toggles are marked, and what marking it asks and gives.
use Rattle.std.proofs.Common.{◌≡◌, ◌∙◌, ℕ, ◌+◌, ◌<◌, ◌≤◌, ◌^◌, ⊎_elim, Bool, true, false, List, [], ◌∷◌, length, map, min, max, Some, None, sym, ap, subst, arith}
use Rattle.std.specs.Prelude.{nat_le, slice_get}
use Rattle.std.proofs.lemmas.Bool.{cases_lt}
use Rattle.std.proofs.lemmas.Bool.Decides.{nat_tests}
use Rattle.std.proofs.lemmas.List.{length-map}
use Rattle.std.proofs.lemmas.List.FromFn.{length-map-range_with_len}
use Rattle.std.proofs.lemmas.Option.{get_or_from_slice_get, slice_get-get_or, slice_get_within}
use Rattle.std.proofs.Math.Nat.{max-eq_left, min-eq_right}
use Rattle.known_state.specs.Partly.{Partly}
use Rattle.bit_changes.specs.declared.toggles.Toggles.{Toggles}
use Rattle.body_replay.specs.Store.{Kept}
use Rattle.step_parts.specs.body_store.declared.store.Store.{Store}
use Rattle.cover_marks.specs.declared.marks.Marks.{Marks}
use Rattle.cover_marks.proofs.cover_points.Pieces.{test_at}
use Rattle.cover_marks.specs.cover_points.Listed.{IsPointList}
use Rattle.cover_marks.specs.cover_points.declared.listing.Points.{Points}
use Rattle.design_model.specs.Design.{Design, cell, no_signal, signal_at, signal_cells}
use Rattle.design_model.specs.Lawful.{IsLawfulDesign, is_signal, span}
use Rattle.cover_marks.specs.cover_points.design_machines.state_machines.Machines.{StateMachines}
use Rattle.design_model.specs.View.{design_view}
use Rattle.design_model.specs.declared.design.Signal.{Signal}
use Rattle.point_marks.specs.declared.verdict.Verdict.{Verdict}
use Rattle.step_parts.specs.replay_model.Step.{Closing, all_run, known_bits}
use Rattle.signal_marks.specs.Seen.{MarksChange}
use Rattle.signal_marks.specs.Toggled.{IsIndexed, ListsBoth}
use Rattle.step_parts.specs.step_values.Vectors.{FitsSignals, StepVectors, bits_before, vector_at}
use Rattle.step_parts.specs.store_knowledge.Knows.{Knows}
use Rattle.toggle_laws.specs.Turns.{IsMarkable, MarksMoved}
use Rattle.toggle_laws.proofs.Lists.{markable}
use Rattle.toggle_laws.proofs.Places.{shaped}
use Rattle.step_marks.proofs.Turns.{before_is, moved_is}
use Rattle.step_marks.specs.Marked.{IsOver}

-- ---- indexes of 32 bits

up_index : (x : Signal) (i : ℕ) → x.width ≡ span x.high x.low → x.high < 2 ^ 32 → i < x.width → x.low ≤ x.high → x.low + i < 2 ^ 32
up_index x i width bound l up =
    let least : min x.high x.low ≡ x.low = min-eq_right up in
    let most : max x.high x.low ≡ x.high = max-eq_left up in
    omega (arith, least, most, width, bound, l, up)

down_index : (x : Signal) (i : ℕ) → x.width ≡ span x.high x.low → i < x.width → x.high < x.low → i ≤ x.low
down_index x i width l down = omega (arith, width, l, down)

rises : (x : Signal) → nat_le x.low x.high ≡ true → x.low ≤ x.high
rises x e = grind (arith, nat_tests)

falls : (x : Signal) → nat_le x.low x.high ≡ false → x.high < x.low
falls x e = grind (arith, nat_tests)

-- ---- what marking a signal asks

-- what is not found is past the end
pub past_end : {A : Type 0} (xs : List A) (i : ℕ) (x : A) → None ≡ slice_get xs i → length xs ≤ i
past_end xs i x none = ⊎_elim (λ l. absurd (some_none (none ∙ slice_get-get_or xs i x l))) (λ past. past) (cases_lt i (length xs))
  where
    some_none : {A : Type 0} {y : A} → None ≡ Some y → ⊥
    some_none e = cc

-- a signal that is found in a lawful design
module _ (d : Design) (s : ℕ) (x : Signal) (lawful : IsLawfulDesign d) (found : Some x ≡ slice_get d.signals s) where
  pub inside : s < length d.signals
  inside = slice_get_within d.signals s x (sym found)

  pub found_at : x ≡ signal_at d s
  found_at = sym (get_or_from_slice_get d.signals s x no_signal (sym found))

  pub narrow : s < 2 ^ 32
  narrow = omega (arith, inside, lawful.few_signals)

  width_is : x.width ≡ span x.high x.low
  width_is = subst (λ (y : Signal). y.width ≡ span y.high y.low) (sym found_at) (shaped d (signal_at d s) (test_at (is_signal d) d.signals s no_signal lawful.signals inside)).width

  pub indexed : x.high < 2 ^ 32 → IsIndexed x
  indexed bound i l = (λ e. up_index x i width_is bound l (rises x e), λ e. down_index x i width_is l (falls x e))

  pub marks_of : (ms : StateMachines) (ps : Points) → IsPointList d ms ps → IsMarkable ps x s
  marks_of ms ps list = subst (λ y. IsMarkable ps y s) (sym found_at) (markable d ms ps lawful list s inside)

  pub old_width : (v : StepVectors) (q : Partly) → FitsSignals d v → q ≡ vector_at v.before s → length q.bits ≡ x.width
  old_width v q fits e = ap (λ (p : Partly). length p.bits) e ∙ fits.before.width s inside ∙ ap (λ (y : Signal). y.width) (sym found_at)

  -- what is known of it has its bits
  pub new_width : (x2 : Store) (d2 : Design) (k : Kept) (q : Partly) → design_view x2.design.now ≡ d → Knows d2 k x2 → ((e : Design) (j : Kept) → Knows e j x2 → q.bits ≡ map j (signal_cells e s)) → length q.bits ≡ x.width
  new_width x2 d2 k q own knows known =
      let same : d2 ≡ d = sym knows.design ∙ own in
      ap length (known d k (subst (λ e. Knows e k x2) same knows)) ∙ length-map (signal_cells d s) k ∙ length-map-range_with_len (cell s) 0 (signal_at d s).width ∙ ap (λ (y : Signal). y.width) (sym found_at)

-- ---- what it gives

module _ (d : Design) (st : Closing) (ps : Points) (s time : ℕ) (on : Bool) (x : Signal) (store : Store) (v : StepVectors) (seen : List Toggles) (m : Marks) (lawful : IsLawfulDesign d) (found : Some x ≡ slice_get d.signals s) (own : design_view store.design.now ≡ d) (over : IsOver st ps (s ∷ []) time on store v seen m) where
  design_is : d ≡ st.design
  design_is = sym own ∙ over.values.knows.design

  pub signal_is : x ≡ signal_at st.design s
  signal_is = found_at d s x lawful found ∙ ap (λ e. signal_at e s) design_is

  within : s < length st.design.signals
  within = subst (λ (e : Design). s < length e.signals) design_is (inside d s x lawful found)

  pub lists : ListsBoth ps x s
  lists = (marks_of d s x lawful found over.machines ps (subst (λ e. IsPointList e over.machines ps) (sym design_is) over.listed)).listed

  -- the bits before and after are those of the replay
  pub turn_of : (old new : Partly) (after : List Verdict) → old.bits ≡ bits_before on (vector_at v.before s).bits new.bits → ((e : Design) (k : Kept) → Knows e k store → new.bits ≡ map k (signal_cells e s))
      → MarksChange ps x s time old.bits new.bits m.verdicts after → MarksMoved st ps s m.verdicts after
  turn_of old new after aside known h =
      let now : new.bits ≡ known_bits st.design (all_run st).kept s = known st.design (all_run st).kept over.values.knows in
      moved_is st ps s time x old.bits new.bits m.verdicts after signal_is over.time (aside ∙ before_is st ps s time on store v seen m over within new.bits now) now h
