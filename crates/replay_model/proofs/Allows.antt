-- After a closing step the settled values are allowed, in each run that shows the dump; and a contradiction is one.
use Rattle.std.proofs.Common.{◌≡◌, ℕ, suc, true, List}
use Rattle.event_machine.specs.Cell.{Cell}
use Rattle.event_machine.specs.Habit.{Habit}
use Rattle.event_machine.specs.Laws.{EarlyLaw}
use Rattle.design_model.specs.declared.point.Point.{Point}
use Rattle.design_model.specs.Design.{Design, IsComb, process_at}
use Rattle.design_model.specs.Machine.{machine}
use Rattle.design_model.specs.Run.{Run, settled}
use Rattle.design_model.specs.Shows.{BoundDump, IsShowing, IsWindow}
use Rattle.design_model.proofs.StepLaws.{StepLaws}
use Rattle.design_model.proofs.StepFacts.{facts_law}
use Rattle.design_model.specs.StepLaws.{IsLeft, StepFacts}
use Rattle.body_replay.specs.Runs.{Runs}
use Rattle.body_replay.specs.Store.{AllowsState}
use Rattle.replay_model.specs.Sets.{AreSets, Sets}
use Rattle.replay_model.specs.Tables.{Tables}
use Rattle.replay_model.specs.Step.{Closing, Replay, Working, all_run, clocked_run, contradicts, settle_start}
use Rattle.replay_model.specs.Laws.{IsReplayOf, closing_at}
use Rattle.replay_model.proofs.AllowedBy.{IsUnknown, NetsHold}
use Rattle.replay_model.proofs.AllowedBy as any_step

module _ (d : Design) (h : Habit) (dump : BoundDump) (run : Runs) (tables : Tables) (points : List Point) (is : IsReplayOf d h dump run tables points) (laws : StepLaws (machine d) h) (early_law : EarlyLaw (machine d)) (t : ℕ) (window : IsWindow dump (suc t)) (sets : Sets) (are : AreSets d h dump (suc t) sets) (a : Replay) (r : Run) (showing : IsShowing d h dump (suc t) r) (starts : AllowsState a.kept (settled d r t)) where
  abbrev st : Closing
  st = closing_at d dump run tables sets t a

  pub here : StepFacts d h dump t (settled d r t) (settled d r (suc t))
  here = facts_law d is.lawful h laws dump r t is.fits.signals showing window

  pub nets_at : (s : ℕ) → NetsHold d (settled d r s)
  nets_at s p c assigns target = laws.net h r.begins r.start r.steps showing.is_run s p c assigns target

  module _ (acted : (p : ℕ) → IsComb (process_at d p) → a.acted p ≡ true → IsLeft d p (settled d r t)) (unknown : IsUnknown d dump a) where
    abbrev pub Sound : Working → Type 0
    Sound wk = any_step.Sound d h dump run tables points is early_law t sets are a (settled d r t) (settled d r (suc t)) here (nets_at t) (nets_at (suc t)) starts acted unknown wk

    pub settle_starts : Sound (settle_start st (clocked_run st))
    settle_starts = any_step.settle_starts d h dump run tables points is early_law t sets are a (settled d r t) (settled d r (suc t)) here (nets_at t) (nets_at (suc t)) starts acted unknown

    pub all_sound : Sound (all_run st)
    all_sound = any_step.all_sound d h dump run tables points is early_law t sets are a (settled d r t) (settled d r (suc t)) here (nets_at t) (nets_at (suc t)) starts acted unknown

    -- there is no contradiction where a run shows the dump
    pub contradicts_none : (c : Cell) → contradicts st c ≡ true → ⊥
    contradicts_none c e = any_step.contradicts_none d h dump run tables points is early_law t sets are a (settled d r t) (settled d r (suc t)) here (nets_at t) (nets_at (suc t)) starts acted unknown c e
