-- What the runs of the Clocked leave of a cell.
use Rattle.std.proofs.Common.{◌≡◌, ◌++◌, ◌||◌, ◌&&◌, ℕ, suc, Bool, true, false, List, [], ◌∷◌, Option, Some, None, inl, inr, ⊎_elim, refl, sym, ap, ◌∙◌}
use Rattle.std.proofs.lemmas.Bool.{and_parts, both_ways, cases_Bool, false_from_ne_true, or_left, or_parts, or_right}
use Rattle.std.specs.Prelude.{is_none, is_some}
use Rattle.event_machine.specs.Cell.{Cell}
use Rattle.event_machine.specs.MayMove.{of_target}
use Rattle.replay_steps.specs.replay_model.design_model.Design.{In, body_at, cell}
use Rattle.replay_steps.specs.replay_model.design_model.MayMove.{CanWakeAt}
use Rattle.replay_steps.specs.replay_model.design_model.Mentions.{blocking_target}
use Rattle.replay_steps.specs.replay_model.body_replay.Contract.{Certainty, clean, weak}
use Rattle.replay_steps.specs.replay_model.body_replay.Replay.{flush}
use Rattle.replay_steps.specs.replay_model.body_replay.Runs.{AreRuns, StoreView}
use Rattle.replay_steps.specs.replay_model.Step.{Closing, Working, after_clocked, clean_order, clean_store, clocked_run, is_dumped, is_loose, is_touched, opened, plain_store, run_all_clean, run_all_settling, run_all_weak, run_clean, run_settling, run_weak, settle_start, updated}
use Rattle.replay_steps.specs.Settling.{IsStillAt, MoveTargets}
use Rattle.replay_steps.proofs.replay_model.Bits.{any_in, flush_append}
use Rattle.replay_steps.proofs.replay_model.Clocked.{at_false, at_true}
use Rattle.replay_steps.proofs.replay_model.Rounds.{in_order}
use Rattle.replay_steps.proofs.replay_model.Targets.{blocks_assigns, blocks_from, is_target-from, queues_assigns, queues_from}
use Rattle.replay_steps.proofs.Settling.{run_still}
use Rattle.run_cells.specs.Cells.{KeepsCell}
use Rattle.clocked_laws.specs.Clocked.{IsAsAtStart, IsUnwritten, MoveClocked, is_clean, is_running, is_weak}
use Rattle.clocked_laws.specs.Laws.{ClockedAllStillLaw, ClockedFlushLaw, ClockedKeepLaw, ClockedMadeLaw, ClockedStartStillLaw, ClockedStillLaw, ClockedTargetLaw, UnassignedLaw, UntargetedLaw}

pub untargeted : UntargetedLaw
untargeted d run p c runs away =
    let parts = or_parts _ _ away in
    record {
      kept = λ x how. runs.frame p x how c parts.0;
      queue = λ x how k. runs.frame_queue p x how c parts.1 k;
    }

-- ---- a cell that each run leaves

module _ (st : Closing) (c : Cell) where
  after_kept : (p : ℕ) (w : Working) (x : StoreView) (how : Certainty) → KeepsCell st.run p c → x.kept c ≡ w.kept c → IsAsAtStart st w c → IsAsAtStart st (after_clocked st p (st.run p x how) w) c
  after_kept p w x how keeps same before = record {
    kept = keeps.kept x how ∙ same ∙ before.kept;
    queue = λ k. ap (λ f. f c) (flush_append w.queue (st.run p x how).queue k) ∙ keeps.queue x how (flush k w.queue) ∙ before.queue k;
  }

  one_clean : (o : Option ℕ) (p : ℕ) (w : Working) → (is_some o ≡ true → KeepsCell st.run p c) → IsAsAtStart st w c → IsAsAtStart st (run_clean st o p w) c
  one_clean None p w keeps before = before
  one_clean (Some s) p w keeps before = after_kept p w (clean_store st p s w) (clean st.time) (keeps refl) refl before

  all_clean : (ps : List ℕ) (w : Working) → ((p : ℕ) → In p ps → is_running st p ≡ true → KeepsCell st.run p c) → IsAsAtStart st w c → IsAsAtStart st (run_all_clean st ps w) c
  all_clean [] w keeps before = before
  all_clean (p ∷ ps) w keeps before =
      all_clean ps (run_clean st (st.sets.trigger p) p w) (λ q i. keeps q (inr i)) (one_clean (st.sets.trigger p) p w (λ e. keeps p (inl refl) (or_left (is_clean st p) (is_weak st p) e)) before)

  one_weak : (o n : Option ℕ) (p : ℕ) (w : Working) → ((is_none o && is_some n) ≡ true → KeepsCell st.run p c) → IsAsAtStart st w c → IsAsAtStart st (run_weak st o n p w) c
  one_weak (Some s) n p w keeps before = before
  one_weak None None p w keeps before = before
  one_weak None (Some x) p w keeps before = after_kept p w (plain_store w.kept) (weak st.time x) (keeps refl) refl before

  all_weak : (ps : List ℕ) (w : Working) → ((p : ℕ) → In p ps → is_running st p ≡ true → KeepsCell st.run p c) → IsAsAtStart st w c → IsAsAtStart st (run_all_weak st ps w) c
  all_weak [] w keeps before = before
  all_weak (p ∷ ps) w keeps before =
      all_weak ps (run_weak st (st.sets.trigger p) (st.sets.wakes p) p w) (λ q i. keeps q (inr i))
      (one_weak (st.sets.trigger p) (st.sets.wakes p) p w (λ e. keeps p (inl refl) (or_right (is_clean st p) (is_weak st p) e)) before)

pub clocked_kept : ClockedKeepLaw
clocked_kept st c keeps =
    all_weak st c st.tables.clocked (run_all_clean st (clean_order st) (opened st)) keeps (all_clean st c (clean_order st) (opened st) (λ p i. keeps p (in_order st.sets.round p st.tables.clocked i)) (record { kept = refl; queue = λ k. refl }))

-- ---- a cell that none of them may write

pub unwritten_kept : (st : Closing) → AreRuns st.design st.run → (c : Cell) → IsUnwritten st c → IsAsAtStart st (clocked_run st) c
unwritten_kept st runs c away = clocked_kept st c (λ p i e. untargeted st.design st.run p c runs (away p i e))

pub unassigned : UnassignedLaw
unassigned st c none p i e = false_from_ne_true _ (λ target. both_ways _ (none p i e) (⊎_elim
    (λ blocks. blocks_assigns c.thing (body_at st.design p) (blocks_from st.design p c blocks))
    (λ queues. queues_assigns c.thing (body_at st.design p) (queues_from st.design p c queues))
    (is_target-from st.design p c target)))

pub clocked_flushed : ClockedFlushLaw
clocked_flushed st runs c away = let left = unwritten_kept st runs c away in left.queue (clocked_run st).kept ∙ left.kept

pub clocked_made : ClockedMadeLaw
clocked_made st runs c away firm = at_false (λ z. z ≡ st.start.kept c) (is_loose st c) None _ firm (clocked_flushed st runs c away)

-- ---- what may not move

pub targets_move : ClockedTargetLaw
targets_move d h dump run tables sets t a are p c i e target = go (sets.trigger p) (sets.wakes p) refl refl e
  where
    by : (s : ℕ) → CanWakeAt d dump (suc t) (cell s 0) p → sets.moves c.thing ≡ true
    by s wakes = (are.moves c.thing).1 (of_target s p c wakes.1 (inr (cell s 0, refl, wakes.0)) (is_target-from d p c target))

    go : (o n : Option ℕ) → sets.trigger p ≡ o → sets.wakes p ≡ n → (is_some o || (is_none o && is_some n)) ≡ true → sets.moves c.thing ≡ true
    go (Some s) n f g e = by s (are.trigger p s f).can_wake
    go None (Some x) f g e = by x (are.wakes p x g)
    go None None f g e = absurd (both_ways false refl e)

pub still_unwritten : (st : Closing) → MoveClocked st → (c : Cell) → st.sets.moves c.thing ≡ false → IsUnwritten st c
still_unwritten st moving c still p i e = false_from_ne_true _ (λ target. both_ways _ still (moving p c i e target))

pub clocked_still : ClockedStillLaw
clocked_still st runs moving c still = unwritten_kept st runs c (still_unwritten st moving c still)

-- what may not move is not to be made anew
pub still_firm : (st : Closing) → MoveTargets st → (c : Cell) → st.sets.moves c.thing ≡ false → is_loose st c ≡ false
still_firm st moving c still = false_from_ne_true _ (λ e.
    let q = any_in (λ p. is_touched st p && blocking_target st.design (body_at st.design p) c) (st.tables.order ++ st.tables.last) e in
    let both = and_parts (is_touched st q.0) _ q.2 in
    both_ways _ still (moving q.0 c both.0 both.1))

pub start_still : ClockedStartStillLaw
start_still st runs clocked moving dump = record {
  kept = λ c still. elim (cases_Bool (is_dumped st.design st.bound c)) [
    | inl has ↦ at_true (λ z. z ≡ st.start.kept c) (is_dumped st.design st.bound c) (Some (st.new c)) (updated st (clocked_run st) c) has (sym (dump c has still))
    | inr other ↦ at_false (λ z. z ≡ st.start.kept c) (is_dumped st.design st.bound c) (Some (st.new c)) (updated st (clocked_run st) c) other (made c still)
  ];
  made = made;
}
  where
    made : (c : Cell) → st.sets.moves c.thing ≡ false → updated st (clocked_run st) c ≡ st.start.kept c
    made c still = clocked_made st runs c (still_unwritten st clocked c still) (still_firm st moving c still)

runs_still : (st : Closing) → MoveTargets st → (ordered : Bool) (ps : List ℕ) (w : Working) → IsStillAt st w → IsStillAt st (run_all_settling st ordered ps w)
runs_still st moving ordered [] w before = before
runs_still st moving ordered (p ∷ ps) w before = runs_still st moving ordered ps (run_settling st ordered p w) (run_still st moving ordered p w before)

pub all_still : ClockedAllStillLaw
all_still st runs clocked moving dump =
    runs_still st moving false st.tables.last (run_all_settling st true st.tables.order (settle_start st (clocked_run st)))
    (runs_still st moving true st.tables.order (settle_start st (clocked_run st)) (start_still st runs clocked moving dump))
