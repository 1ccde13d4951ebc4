-- After the first step of a stretch, where there is no contradiction, no forced value differs from the dump's.
use Rattle.std.proofs.Common.{◌≡◌, ⊎_elim, ℕ, ◌≤◌, true, false, List, sym, subst, arith}
use Rattle.std.proofs.lemmas.Bool.{cases_lt}
use Rattle.event_machine.specs.Cell.{Cell}
use Rattle.event_machine.specs.Habit.{Habit}
use Rattle.design_model.specs.four_state.declared.bit.Bit.{Bit}
use Rattle.design_model.specs.declared.point.Point.{Point}
use Rattle.design_model.specs.Design.{Design, a_signal, signal_bits}
use Rattle.design_model.specs.Shows.{BoundDump, IsFirst, IsWindow}
use Rattle.design_model.specs.Clear.{IsForcedBy, at_first, by_clocked, by_comb, by_net, first_comb, unmoved}
use Rattle.design_model.proofs.Stretches.{window_not_first}
use Rattle.body_replay.specs.Contract.{sure_in}
use Rattle.body_replay.specs.Runs.{Runs}
use Rattle.replay_model.specs.Tables.{Tables}
use Rattle.replay_model.specs.Step.{Replay}
use Rattle.replay_model.specs.Start.{all_first, contradicts_first}
use Rattle.replay_model.specs.Paused.{IsPaused}
use Rattle.replay_model.specs.Laws.{FirstForcedLaw, IsReplayOf}
use Rattle.replay_model.proofs.AskedLaws.{AskedLaws, asked_of}
use Rattle.replay_model.proofs.ClearRounds.{bound_sure}
use Rattle.replay_model.proofs.FirstKnown.{comb_sure, final_first, net_sure}

module _ (d : Design) (h : Habit) (dump : BoundDump) (run : Runs) (tables : Tables) (points : List Point) (is : IsReplayOf d h dump run tables points) (asked : AskedLaws d) (t : ℕ) (a : Replay) (first : IsFirst dump t) (paused : IsPaused d h dump points t a) (agreed : (c : Cell) → contradicts_first d dump.bound run tables (dump.values t) a c ≡ false) where
  -- what is sure of a bound signal is the dump's
  sure_dumped : (s : ℕ) (bits : List Bit) → dump.bound s ≡ true → sure_in d (all_first d dump.bound run tables (dump.values t) a).kept (a_signal s) bits → signal_bits d (dump.values t) s ≡ bits
  sure_dumped s bits bound sure = bound_sure d dump.bound (dump.values t) (all_first d dump.bound run tables (dump.values t) a).kept (final_first d h dump run tables points is t a agreed) s bits bound sure

  never : {A : Type 0} → IsWindow dump t → A
  never window = absurd (window_not_first dump.stretches t is.fits.rising first window)

  forced_now : (s : ℕ) (bits : List Bit) → dump.bound s ≡ true → IsForcedBy d h dump t s bits → signal_bits d (dump.values t) s ≡ bits
  forced_now s bits bound (at_first start net) = sure_dumped s bits bound (net_sure d h dump run tables points is asked t a first paused agreed s bits net)
  forced_now s bits bound (first_comb p start value) = sure_dumped s bits bound (comb_sure d h dump run tables points is asked t a first paused agreed p s bits value)
  forced_now s bits bound (unmoved window calm e) = never window
  forced_now s bits bound (by_net window moves net) = never window
  forced_now s bits bound (by_comb p window moves value) = never window
  forced_now s bits bound (by_clocked p c window moves value) = never window

pub first_forced_law : FirstForcedLaw
first_forced_law d h dump run tables points is own t a first shown paused agreed u s bits le forced = ⊎_elim (λ less. paused.forced u s bits less forced) now (cases_lt u t)
  where
    now : t ≤ u → signal_bits d (dump.values u) s ≡ bits
    now most =
        let e : u ≡ t = omega (arith, le, most) in
        subst (λ v. signal_bits d (dump.values v) s ≡ bits) (sym e)
        (forced_now d h dump run tables points is (asked_of d is.lawful own) t a first paused agreed s bits forced.is_bound (subst (λ v. IsForcedBy d h dump v s bits) e forced.forced))
