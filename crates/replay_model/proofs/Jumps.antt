-- After a closing step the settled values are allowed at each time that is the same time: over all of them the values change as over one step.
use Rattle.std.proofs.Common.{◌≡◌, inl, inr, ℕ, suc, ◌≤◌, true, List, refl, arith}
use Rattle.event_machine.specs.Habit.{Habit}
use Rattle.event_machine.specs.Laws.{EarlyLaw}
use Rattle.design_model.specs.declared.point.Point.{Point}
use Rattle.design_model.specs.Design.{Design, IsComb, process_at}
use Rattle.design_model.specs.Machine.{machine}
use Rattle.design_model.specs.Run.{Run, settled}
use Rattle.design_model.specs.Shows.{BoundDump, IsShowing, IsWindow}
use Rattle.design_model.proofs.StepLaws.{StepLaws}
use Rattle.design_model.specs.StepLaws.{IsLeft, StepFacts}
use Rattle.hidden_times.specs.Hidden.{IsSameTime}
use Rattle.hidden_times.proofs.Jump.{jump_law, shows_before}
use Rattle.body_replay.specs.Runs.{Runs}
use Rattle.body_replay.specs.Store.{AllowsState}
use Rattle.replay_model.specs.Sets.{AreSets, Sets}
use Rattle.replay_model.specs.Tables.{Tables}
use Rattle.replay_model.specs.Step.{Closing, Replay, Working, all_run, clocked_run, settle_start}
use Rattle.replay_model.specs.Stands.{IsSound}
use Rattle.replay_model.specs.Laws.{IsReplayOf, closing_at}
use Rattle.replay_model.proofs.AllowedBy.{NetsHold}
use Rattle.replay_model.proofs.AllowedBy as any_step

-- it is no earlier
pub no_earlier : (dump : BoundDump) (t v : ℕ) → IsSameTime dump t v → t ≤ v
no_earlier dump t v (inl e) = omega (arith, e)
no_earlier dump t v (inr hidden) = hidden.later

module _ (d : Design) (h : Habit) (dump : BoundDump) (run : Runs) (tables : Tables) (points : List Point) (is : IsReplayOf d h dump run tables points) (laws : StepLaws (machine d) h) (early_law : EarlyLaw (machine d)) (t : ℕ) (window : IsWindow dump (suc t)) (sets : Sets) (are : AreSets d h dump (suc t) sets) (a : Replay) (sound : IsSound d h dump points t a) (r : Run) (v : ℕ) (same : IsSameTime dump (suc t) v) (showing : IsShowing d h dump v r) where
  abbrev st : Closing
  st = closing_at d dump run tables sets t a

  pub before : IsShowing d h dump t r
  before = let le = no_earlier dump (suc t) v same in shows_before d h dump t v r (omega (arith, le)) showing

  pub starts : AllowsState a.kept (settled d r t)
  starts = sound.allows r t (inl refl) before

  pub acted : (p : ℕ) → IsComb (process_at d p) → a.acted p ≡ true → IsLeft d p (settled d r t)
  acted = sound.acted r t (inl refl) before

  pub over : StepFacts d h dump t (settled d r t) (settled d r v)
  over = jump_law d h is.lawful dump is.fits is.rounds r t v window same showing

  pub nets_at : (s : ℕ) → NetsHold d (settled d r s)
  nets_at s p c assigns target = laws.net h r.begins r.start r.steps showing.is_run s p c assigns target

  abbrev pub Sound : Working → Type 0
  Sound wk = any_step.Sound d h dump run tables points is early_law t sets are a (settled d r t) (settled d r v) over (nets_at t) (nets_at v) starts acted sound.unknown wk

  pub settle_starts : Sound (settle_start st (clocked_run st))
  settle_starts = any_step.settle_starts d h dump run tables points is early_law t sets are a (settled d r t) (settled d r v) over (nets_at t) (nets_at v) starts acted sound.unknown

  pub all_sound : Sound (all_run st)
  all_sound = any_step.all_sound d h dump run tables points is early_law t sets are a (settled d r t) (settled d r v) over (nets_at t) (nets_at v) starts acted sound.unknown
