-- The toggles of the signals that may move are marked one signal after the other.
use Rattle.std.proofs.Common.{◌≡◌, ℕ, zero, suc, ◌+◌, ◌<◌, ◌≤◌, ◌==◌, ◌||◌, Bool, true, false, ◌++◌, List, [], ◌∷◌, length, get_or, take, Option, refl, sym, ap, ap₂, subst, ◌∙◌, arith}
use Rattle.std.proofs.lemmas.Bool.{eq-eqb, eqb-true, false≢true}
use Rattle.std.proofs.lemmas.List.{get_or_past, take_more}
use Rattle.four_state.specs.declared.bit.Bit.{Bit}
use Rattle.bit_changes.specs.declared.toggles.Toggles.{Toggles}
use Rattle.step_parts.specs.body_calls.Own.{is_in}
use Rattle.step_parts.specs.body_store.declared.store.Store.{Store}
use Rattle.cover_marks.specs.declared.marks.Marks.{Marks}
use Rattle.cover_marks.specs.cover_points.declared.listing.Points.{Points}
use Rattle.design_model.specs.Design.{no_signal, signal_at}
use Rattle.design_model.specs.declared.design.Signal.{Signal}
use Rattle.point_marks.specs.declared.verdict.Verdict.{Verdict}
use Rattle.step_parts.specs.replay_model.Step.{Closing, all_run, before_of, known_bits}
use Rattle.signal_marks.specs.Seen.{MarksChange}
use Rattle.step_parts.proofs.step_values.Before.{before_bits}
use Rattle.step_parts.specs.step_values.Vectors.{StepVectors, bits_before, vector_at}
use Rattle.toggle_laws.specs.Turns.{MarksInTurn, MarksMoved}
use Rattle.toggle_laws.proofs.Turns.{one_more}
use Rattle.step_marks.specs.Marked.{IsOver, IsSeenAfter}

-- what is no signal has no toggles
pub passed : (st : Closing) (ps : Points) (s : ℕ) (vs : List Verdict) → length st.design.signals ≤ s → MarksMoved st ps s vs vs
passed st ps s vs past =
    let none : (signal_at st.design s).width ≡ 0 = ap (λ (x : Signal). x.width) (get_or_past st.design.signals s no_signal past) in
    record {
      count = refl;
      rises = λ i k l is. absurd (omega (arith, l, none));
      falls = λ i k l is. absurd (omega (arith, l, none));
      others = λ k no. refl;
    }

-- the bits before and after are those of the replay
pub moved_is : (st : Closing) (ps : Points) (s time : ℕ) (shape : Signal) (old new : List (Option Bit)) (before after : List Verdict) → shape ≡ signal_at st.design s → st.time ≡ time
    → old ≡ known_bits st.design (before_of st) s → new ≡ known_bits st.design (all_run st).kept s → MarksChange ps shape s time old new before after → MarksMoved st ps s before after
moved_is st ps s time shape old new before after is at from to h =
    let a = subst (λ x. MarksChange ps x s time old new before after) is h in
    let b = subst (λ t. MarksChange ps (signal_at st.design s) s t old new before after) (sym at) a in
    let c = subst (λ o. MarksChange ps (signal_at st.design s) s st.time o new before after) from b in
    subst (λ n. MarksChange ps (signal_at st.design s) s st.time (known_bits st.design (before_of st) s) n before after) to c

-- an item of a list is in it
item_in : (xs : List ℕ) (i : ℕ) (x : ℕ) → i < length xs → x ≡ get_or xs i x → is_in xs x ≡ true
item_in [] i x l e = absurd (omega (arith, l))
item_in (y ∷ xs) zero x l e = ap (λ b. b || is_in xs x) (eq-eqb y x (sym e))
item_in (y ∷ xs) (suc i) x l e = later (y == x) (item_in xs i x (omega (arith, l)) e)
  where
    later : (b : Bool) → is_in xs x ≡ true → (b || is_in xs x) ≡ true
    later true h = refl
    later false h = h

-- one of what may move is looked at
pub one_over : (st : Closing) (ps : Points) (moves : List ℕ) (time i thing : ℕ) (on : Bool) (x : Store) (v : StepVectors) (first seen : List Toggles) (start m : Marks) → i < length moves → thing ≡ get_or moves i thing
    → IsOver st ps moves time on x v first start → IsSeenAfter st ps seen m → IsOver st ps (thing ∷ []) time on x v seen m
one_over st ps moves time i thing on x v first seen start m l e over after = record {
  values = over.values;
  moves = λ s h. subst (λ y. st.sets.moves y ≡ true) (same s (thing == s) refl h) (over.moves thing (item_in moves i thing l e));
  time = over.time;
  kind = over.kind;
  machines = over.machines;
  listed = over.listed;
  marks = after.marks;
  seen = after.seen;
}
  where
    same : (s : ℕ) (b : Bool) → (thing == s) ≡ b → (b || false) ≡ true → thing ≡ s
    same s true h k = eqb-true thing s h
    same s false h k = absurd (false≢true k)

-- its toggles are marked after those before it
pub more_marked : (st : Closing) (ps : Points) (moves : List ℕ) (i thing : ℕ) (before middle after : List Verdict) → i < length moves → thing ≡ get_or moves i thing
    → MarksInTurn st ps (take i moves) before middle → MarksMoved st ps thing middle after → MarksInTurn st ps (take (i + 1) moves) before after
more_marked st ps moves i thing before middle after l e h last =
    subst (λ ss. MarksInTurn st ps ss before after) (ap (λ z. take i moves ++ z ∷ []) e ∙ sym (take_more moves i thing l)) (one_more st ps (take i moves) thing before middle after h last)

-- what a signal is marked by
module _ (st : Closing) (ps : Points) (thing time : ℕ) (on : Bool) (x : Store) (v : StepVectors) (seen : List Toggles) (m : Marks) (over : IsOver st ps (thing ∷ []) time on x v seen m) where
  may_move : st.sets.moves thing ≡ true
  may_move = over.moves thing (ap (λ b. b || false) (eq-eqb thing thing refl))

  -- the bits before are what is known before the step
  pub before_is : thing < length st.design.signals → (new : List (Option Bit)) → new ≡ known_bits st.design (all_run st).kept thing → bits_before on (vector_at v.before thing).bits new ≡ known_bits st.design (before_of st) thing
  before_is l new is = ap₂ (bits_before on) (over.values.before thing l may_move) is ∙ before_bits st thing on over.kind
