-- What a step leaves as it was, where it has Assigns and Combs alone.
use Rattle.std.proofs.Common.{◌≡◌, ◌↔◌, inl, inr, ℕ, suc, Bool, true, false, not, ◌&&◌, ◌++◌, List, [], ◌∷◌, Some, None, refl, sym, ap, ◌∙◌}
use Rattle.std.specs.Prelude.{if◌then◌else◌}
use Rattle.std.specs.List.{filter, list_any}
use Rattle.std.proofs.lemmas.Bool.{and_parts, and_from, both_ways, cases_Bool, false_from_ne_true}
use Rattle.event_machine.specs.Cell.{Cell}
use Rattle.event_machine.specs.Habit.{Habit}
use Rattle.event_machine.specs.MayMove.{of_target}
use Rattle.replay_model.specs.design_model.Design.{Design, In, body_at}
use Rattle.replay_model.specs.design_model.Mentions.{blocking_target}
use Rattle.replay_model.specs.design_model.Shows.{BoundDump}
use Rattle.replay_model.specs.body_replay.Runs.{Runs}
use Rattle.replay_model.specs.Laws.{closing_at}
use Rattle.replay_model.specs.Sets.{AreSets, Sets}
use Rattle.replay_model.specs.Step.{Closing, Replay, Working, after_settling, all_run, certainty, clocked_run, in_rounds, is_dumped, is_loose, is_touched, opened, plain_store, run_all_clean, run_all_settling, run_all_weak, run_settling, settle_start, settled_kept}
use Rattle.replay_model.specs.Tables.{AreTables, Tables}
use Rattle.replay_model.proofs.Bits.{any_in, in_any}
use Rattle.replay_model.proofs.Clocked.{at_false, at_true}
use Rattle.replay_steps.specs.Settling.{IsDumpStill, IsStillAt, MoveTargets, loosened, settled_start}

-- ---- without Clocked processes

no_clocked : (st : Closing) (ps : List ℕ) → ps ≡ [] → run_all_weak st ps (run_all_clean st (in_rounds st.sets.round ps) (opened st)) ≡ opened st
no_clocked st [] e = refl
no_clocked st (p ∷ ps) e = cc

pub clocked_none : (st : Closing) → st.tables.clocked ≡ [] → clocked_run st ≡ opened st
clocked_none st none = no_clocked st st.tables.clocked none

pub starts_settled : (st : Closing) (c : Cell) → st.tables.clocked ≡ [] → ((settle_start st (clocked_run st)).kept c ≡ (settled_start st).kept c) × ((settle_start st (clocked_run st)).made c ≡ (settled_start st).made c)
starts_settled st c none = (ap (λ w. (settle_start st w).kept c) (clocked_none st none), ap (λ w. (settle_start st w).made c) (clocked_none st none))

-- ---- processes that watch nothing that may move

passed_over : (st : Closing) (ordered : Bool) (p : ℕ) (w : Working) → is_touched st p ≡ false → run_settling st ordered p w ≡ w
passed_over st ordered p w e = at_false (λ z. z ≡ w) (is_touched st p) _ w e refl

pub filtered : (st : Closing) (ordered : Bool) (ps : List ℕ) (w : Working) → run_all_settling st ordered ps w ≡ run_all_settling st ordered (filter (is_touched st) ps) w
filtered st ordered [] w = refl
filtered st ordered (p ∷ ps) w = go (is_touched st p) refl (λ z. filtered st ordered ps z)
  where
    go : (b : Bool) → is_touched st p ≡ b → ((z : Working) → run_all_settling st ordered ps z ≡ run_all_settling st ordered (filter (is_touched st) ps) z)
        → run_all_settling st ordered ps (run_settling st ordered p w) ≡ run_all_settling st ordered (if b then p ∷ filter (is_touched st) ps else filter (is_touched st) ps) w
    go true e rest = rest (run_settling st ordered p w)
    go false e rest = rest (run_settling st ordered p w) ∙ ap (λ z. run_all_settling st ordered (filter (is_touched st) ps) z) (passed_over st ordered p w e)

both_true : (a b : Bool) → (a ≡ true → b ≡ true) → (b ≡ true → a ≡ true) → a ≡ b
both_true true b to from = sym (to refl)
both_true false true to from = from refl
both_true false false to from = refl

-- whether a process drives the cell
abbrev pub drives : Closing → Cell → ℕ → Bool
drives st c p = blocking_target st.design (body_at st.design p) c

pub loose_is : (st : Closing) (c : Cell) (woken : List ℕ) → ((p : ℕ) → In p woken ↔ (In p (st.tables.order ++ st.tables.last) × (is_touched st p ≡ true))) → is_loose st c ≡ list_any (drives st c) woken
loose_is st c woken are = both_true _ _ to from
  where
    to : is_loose st c ≡ true → list_any (drives st c) woken ≡ true
    to e =
        let q = any_in (λ p. is_touched st p && drives st c p) (st.tables.order ++ st.tables.last) e in
        let both = and_parts (is_touched st q.0) _ q.2 in
        in_any (drives st c) woken q.0 ((are q.0).1 (q.1, both.0)) both.1

    from : list_any (drives st c) woken ≡ true → is_loose st c ≡ true
    from e =
        let q = any_in (drives st c) woken e in
        let listed = (are q.0).0 q.1 in
        in_any (λ p. is_touched st p && drives st c p) (st.tables.order ++ st.tables.last) q.0 listed.0 (and_from (is_touched st q.0) _ listed.1 q.2)

-- ---- what may not move

module _ (st : Closing) (moving : MoveTargets st) where
  still_target : (p : ℕ) (c : Cell) → is_touched st p ≡ true → st.sets.moves c.thing ≡ false → drives st c p ≡ false
  still_target p c touched still = false_from_ne_true _ (λ e. both_ways _ still (moving p c touched e))

  still_loose : (c : Cell) → st.sets.moves c.thing ≡ false → is_loose st c ≡ false
  still_loose c still = false_from_ne_true _ (λ e.
      let q = any_in (λ p. is_touched st p && drives st c p) (st.tables.order ++ st.tables.last) e in
      let both = and_parts (is_touched st q.0) _ q.2 in
      both_ways _ still (moving q.0 c both.0 both.1))

  loosened_still : (c : Cell) → st.sets.moves c.thing ≡ false → loosened st c ≡ st.start.kept c
  loosened_still c still = at_false (λ z. z ≡ st.start.kept c) (is_loose st c) None (st.start.kept c) (still_loose c still) refl

  pub start_still : st.tables.clocked ≡ [] → IsDumpStill st → IsStillAt st (settle_start st (clocked_run st))
  start_still none dump = record {
    kept = λ c still. (starts_settled st c none).0 ∙ elim (cases_Bool (is_dumped st.design st.bound c)) [
      | inl has ↦ at_true (λ z. z ≡ st.start.kept c) (is_dumped st.design st.bound c) (Some (st.new c)) (loosened st c) has (sym (dump c has still))
      | inr other ↦ at_false (λ z. z ≡ st.start.kept c) (is_dumped st.design st.bound c) (Some (st.new c)) (loosened st c) other (loosened_still c still)
    ];
    made = λ c still. (starts_settled st c none).1 ∙ loosened_still c still;
  }

  pub run_still : (ordered : Bool) (p : ℕ) (w : Working) → IsStillAt st w → IsStillAt st (run_settling st ordered p w)
  run_still ordered p w before = go (is_touched st p) refl
    where
      go : (b : Bool) → is_touched st p ≡ b → IsStillAt st (if b then after_settling st ordered p (certainty st w.kept p) (st.run p (plain_store (settled_kept st.design p w.kept)) (certainty st w.kept p)) w else w)
      go true e = record {
        kept = λ c still. at_false (λ z. z ≡ w.kept c) (drives st c p && not (is_dumped st.design st.bound c)) _ (w.kept c) (ap (λ v. v && not (is_dumped st.design st.bound c)) (still_target p c e still)) refl ∙ before.kept c still;
        made = λ c still. at_false (λ z. z ≡ w.made c) (drives st c p) _ (w.made c) (still_target p c e still) refl ∙ before.made c still;
      }
      go false e = before

  runs_still : (ordered : Bool) (ps : List ℕ) (w : Working) → IsStillAt st w → IsStillAt st (run_all_settling st ordered ps w)
  runs_still ordered [] w before = before
  runs_still ordered (p ∷ ps) w before = runs_still ordered ps (run_settling st ordered p w) (run_still ordered p w before)

  pub all_still : st.tables.clocked ≡ [] → IsDumpStill st → IsStillAt st (all_run st)
  all_still none dump = runs_still false st.tables.last (run_all_settling st true st.tables.order (settle_start st (clocked_run st))) (runs_still true st.tables.order (settle_start st (clocked_run st)) (start_still none dump))

-- what a process drives that watches something that may move
pub targets_move : (d : Design) (h : Habit) (dump : BoundDump) (run : Runs) (tables : Tables) (sets : Sets) (t : ℕ) (a : Replay) → AreTables d dump.bound tables → AreSets d h dump (suc t) sets → MoveTargets (closing_at d dump run tables sets t a)
targets_move d h dump run tables sets t a tabled are = λ p c touched e.
    let x = any_in sets.moves (tables.watched p) touched in
    (are.moves c.thing).1 (of_target x.0 p c ((are.moves x.0).0 x.2) (inl ((tabled.watched p x.0).0 x.1)) (inl e))
