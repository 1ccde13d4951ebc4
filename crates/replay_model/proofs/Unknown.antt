-- Of an input that the dump lacks nothing is known after a closing step where nothing was before: no process writes it.
use Rattle.std.proofs.Common.{◌≡◌, inl, ⊎_elim, ℕ, suc, Bool, true, false, not, ◌&&◌, List, [], ◌∷◌, refl, ◌∙◌, Some, None, if◌then◌else◌}
use Rattle.std.proofs.lemmas.Bool.{and_left, and_parts, cases_Bool, false_from_ne_true}
use Rattle.event_machine.specs.Cell.{Cell, Values}
use Rattle.event_machine.specs.Habit.{Habit}
use Rattle.event_machine.specs.Laws.{EarlyLaw}
use Rattle.event_machine.specs.Machine.{IsTarget}
use Rattle.design_model.specs.four_state.declared.bit.Bit.{Bit}
use Rattle.design_model.specs.declared.point.Point.{Point}
use Rattle.design_model.specs.Design.{Design, body_at, signal_at}
use Rattle.design_model.specs.Mentions.{blocking_target}
use Rattle.design_model.specs.Machine.{machine}
use Rattle.design_model.specs.Shows.{BoundDump}
use Rattle.design_model.specs.Lawful.{IsLawfulDesign}
use Rattle.body_replay.specs.Contract.{quiet}
use Rattle.body_replay.specs.Replay.{flush}
use Rattle.body_replay.specs.Runs.{Runs}
use Rattle.replay_model.specs.Sets.{AreSets, Sets}
use Rattle.replay_model.specs.Tables.{Tables}
use Rattle.replay_model.specs.Step.{Closing, Replay, all_run, clocked_run, is_dumped, is_loose, run_all_settling, settle_start, settled_kept, updated}
use Rattle.replay_model.specs.Start.{Starting, after_first, first_kept, first_store, run_all_first, run_first, runs_first, started}
use Rattle.replay_model.specs.Laws.{IsReplayOf, closing_at}
use Rattle.replay_model.proofs.Clocked.{at_false, at_true}
use Rattle.replay_model.proofs.ClockedKept.{away_from, clocked_stays}
use Rattle.replay_model.proofs.Order.{kept_all, makes}
use Rattle.replay_model.proofs.Targets.{input_unassigned, target_assigns}

module _ (d : Design) (h : Habit) (early_law : EarlyLaw (machine d)) (dump : BoundDump) (run : Runs) (tables : Tables) (points : List Point) (is : IsReplayOf d h dump run tables points) (t : ℕ) (sets : Sets) (are : AreSets d h dump (suc t) sets) (a : Replay) where
  abbrev st : Closing
  st = closing_at d dump run tables sets t a

  never : (c : Cell) → (machine d).is_input c ≡ true → (q : ℕ) → IsTarget (machine d) q c → ⊥
  never c input q at = input_unassigned d is.lawful q c.thing (and_parts (signal_at d c.thing).input _ input).0 (target_assigns d is.lawful q c at)

  -- after the Clocked it is as at the start
  flushed_input : (c : Cell) → (machine d).is_input c ≡ true → flush (clocked_run st).kept (clocked_run st).queue c ≡ a.kept c
  flushed_input c input =
      clocked_stays d h early_law dump run tables points is t sets are a c (λ q x ran. away_from d h early_law dump run tables points is t sets are a c q (never c input q)) (λ q x ran. away_from d h early_law dump run tables points is t sets are a c q (never c input q))

  pub updated_input : (c : Cell) → (machine d).is_input c ≡ true → a.kept c ≡ None → updated st (clocked_run st) c ≡ None
  updated_input c input none =
      ⊎_elim (λ e. at_true (λ z. z ≡ None) (is_loose st c) None (flush (clocked_run st).kept (clocked_run st).queue c) e refl)
      (λ e. at_false (λ z. z ≡ None) (is_loose st c) None (flush (clocked_run st).kept (clocked_run st).queue c) e (flushed_input c input ∙ none)) (cases_Bool (is_loose st c))

  unmade : (c : Cell) → (machine d).is_input c ≡ true → (q : ℕ) → makes d h early_law dump run tables points is t sets are a q c ≡ false
  unmade c input q = and_left _ _ (false_from_ne_true (blocking_target d (body_at d q) c) (λ e. never c input q (inl e)))

  pub kept_input : (c : Cell) → (machine d).is_input c ≡ true → dump.bound c.thing ≡ false → a.kept c ≡ None → (all_run st).kept c ≡ None
  kept_input c input free none =
      kept_all d h early_law dump run tables points is t sets are a false tables.last (run_all_settling st true tables.order (settle_start st (clocked_run st))) c (λ q x f. unmade c input q)
      ∙ kept_all d h early_law dump run tables points is t sets are a true tables.order (settle_start st (clocked_run st)) c (λ q x f. unmade c input q)
      ∙ at_false (λ z. z ≡ None) (is_dumped d dump.bound c) (Some (dump.values (suc t) c)) (updated st (clocked_run st) c) (and_left _ _ free) (updated_input c input none)

-- nor after the first step
module _ (d : Design) (lawful : IsLawfulDesign d) (bound : ℕ → Bool) (run : Runs) (tables : Tables) (new : Values Bit) (a : Replay) (c : Cell) (input : (machine d).is_input c ≡ true) (free : bound c.thing ≡ false) where
  unmade_first : (q : ℕ) → (blocking_target d (body_at d q) c && not (is_dumped d bound c)) ≡ false
  unmade_first q =
      and_left _ _ (false_from_ne_true (blocking_target d (body_at d q) c) (λ e. input_unassigned d lawful q c.thing (and_parts (signal_at d c.thing).input _ input).0 (target_assigns d lawful q c (inl e))))

  one_first : (ordered : Bool) (p : ℕ) (wk : Starting) → wk.kept c ≡ None → (run_first d bound run tables new a ordered p wk).kept c ≡ None
  one_first ordered p wk none = go (runs_first d bound run tables new a p)
    where
      go : (b : Bool) → (if b then after_first d bound run tables new a ordered p (run p (first_store d bound run tables new a (settled_kept d p wk.kept)) quiet) wk else wk).kept c ≡ None
      go true = at_false (λ z. z ≡ None) _ _ _ (unmade_first p) none
      go false = none

  each_first : (ordered : Bool) (ps : List ℕ) (wk : Starting) → wk.kept c ≡ None → (run_all_first d bound run tables new a ordered ps wk).kept c ≡ None
  each_first ordered [] wk none = none
  each_first ordered (p ∷ ps) wk none = each_first ordered ps (run_first d bound run tables new a ordered p wk) (one_first ordered p wk none)

  abbrev begun : Starting
  begun = record { kept = first_kept d bound run tables new a; made = λ b. None }

  pub first_input : (started d bound run tables new a).kept c ≡ None
  first_input =
      each_first false tables.last (run_all_first d bound run tables new a true tables.order begun)
      (each_first true tables.order begun (at_false (λ z. z ≡ None) (is_dumped d bound c) (Some (new c)) None (and_left _ _ free) refl))
