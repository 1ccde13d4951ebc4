-- Over a closing step, where there is no contradiction, no forced value differs from the dump's.
use Rattle.std.proofs.Common.{◌≡◌, ⊎_elim, ℕ, suc, ◌-◌, true, false, List, map, sym, ap, subst, ◌∙◌, arith, Some}
use Rattle.std.proofs.lemmas.Bool.{cases_eq, false_from_ne_true}
use Rattle.event_machine.proofs.Least.{early_law}
use Rattle.event_machine.specs.Cell.{Cell}
use Rattle.event_machine.specs.Habit.{Habit}
use Rattle.design_model.specs.four_state.declared.bit.Bit.{Bit}
use Rattle.design_model.specs.declared.point.Point.{Point}
use Rattle.design_model.specs.Design.{Design, In, a_signal, signal_at, signal_bits, signal_cells}
use Rattle.design_model.specs.Machine.{machine}
use Rattle.design_model.specs.Shows.{BoundDump, IsWindow}
use Rattle.design_model.specs.Clear.{IsForcedBy, IsWrittenValue, at_first, by_clocked, by_comb, by_net, clear, first_comb, unmoved}
use Rattle.body_replay.specs.Contract.{sure_in}
use Rattle.body_replay.specs.Runs.{Runs}
use Rattle.replay_model.specs.Sets.{AreSets, Sets}
use Rattle.replay_model.specs.Tables.{Tables}
use Rattle.replay_model.specs.Step.{Closing, Replay, all_run, contradicts}
use Rattle.replay_model.specs.Stands.{AreForced, AreKnown}
use Rattle.replay_model.specs.Laws.{IsReplayOf, StepForcedLaw, closed_at, closing_at}
use Rattle.design_model.proofs.Stretches.{window_not_first}
use Rattle.replay_model.proofs.AskedLaws.{AskedLaws, asked_of}
use Rattle.replay_model.proofs.Calm.{calm_dumped}
use Rattle.replay_model.proofs.ClearClocked.{unwoken_sure, written_made, written_sure}
use Rattle.replay_model.proofs.ClearRounds.{bound_sure, comb_clear, net_clear, signal_dumped}
use Rattle.replay_model.proofs.Grows.{sample, sample_agrees}
use Rattle.replay_model.proofs.Order.{final_dumped, made_dumped}
use Rattle.replay_model.proofs.Reasons.{map_same}
use Rattle.replay_model.proofs.ReasonedLaws.{step_known}
use Rattle.replay_model.proofs.SettleReasons.{sure_at}
use Rattle.replay_model.proofs.Settling.{in_signal}

module _ (h : Habit) (d : Design) (dump : BoundDump) (run : Runs) (tables : Tables) (points : List Point) (is : IsReplayOf d h dump run tables points) (asked : AskedLaws d) (t : ℕ) (sets : Sets) (a : Replay) (window : IsWindow dump (suc t)) (are : AreSets d h dump (suc t) sets) (known : AreKnown d h dump tables t a) (agreed : (c : Cell) → contradicts (closing_at d dump run tables sets t a) c ≡ false) where
  abbrev st : Closing
  st = closing_at d dump run tables sets t a

  back : suc t - 1 ≡ t
  back = omega arith

  last : AreKnown d h dump tables (suc t) (closed_at d dump run tables points sets t a)
  last = step_known h d dump run tables points is asked t sets a window are known agreed

  -- a bound signal that is sure at the end has the dump's value
  sure_dumped : (s : ℕ) (bits : List Bit) → dump.bound s ≡ true → sure_in d (all_run st).kept (a_signal s) bits → signal_bits d (dump.values (suc t)) s ≡ bits
  sure_dumped = bound_sure d dump.bound (dump.values (suc t)) (all_run st).kept (final_dumped d h (early_law (machine d)) dump run tables points is t sets are a)

  -- and so has one that was surely made
  made_sure : (s : ℕ) (bits : List Bit) → dump.bound s ≡ true → (signal_at d s).input ≡ false → sure_in d (all_run st).made (a_signal s) bits → signal_bits d (dump.values (suc t)) s ≡ bits
  made_sure s bits bound plain sure = map_same (dump.values (suc t)) (sample (all_run st).made) (signal_cells d s) each ∙ agrees
    where
      agrees : map (sample (all_run st).made) (signal_cells d s) ≡ bits
      agrees = sample_agrees d (all_run st).made (a_signal s) bits sure

      each : (c : Cell) → In c (signal_cells d s) → dump.values (suc t) c ≡ sample (all_run st).made c
      each c inside =
          sym (made_dumped d h (early_law (machine d)) dump run tables points is t sets are a c (agreed c) (signal_dumped d dump.bound s c bound inside) (subst (λ z. (signal_at d z).input ≡ false) (sym (in_signal d s c inside).0) plain) (sample (all_run st).made c)
          (sure_at (all_run st).made (sample (all_run st).made) (signal_cells d s) (sure ∙ ap (map Some) (sym agrees)) c inside))

  forced_step : (s : ℕ) (bits : List Bit) → dump.bound s ≡ true → (signal_at d s).input ≡ false → IsForcedBy d h dump (suc t) s bits → signal_bits d (dump.values (suc t)) s ≡ bits
  forced_step s bits bound plain (at_first first net) = absurd (window_not_first dump.stretches (suc t) is.fits.rising first window)
  forced_step s bits bound plain (first_comb p first value) = absurd (window_not_first dump.stretches (suc t) is.fits.rising first window)
  forced_step s bits bound plain (unmoved in_window calm e) =
      map_same (dump.values (suc t)) (dump.values t) (signal_cells d s) (λ c inside. sym (calm_dumped h d dump run tables points is asked t sets a window are known.is_clear agreed c (signal_dumped d dump.bound s c bound inside) (subst (λ z. sets.moves z ≡ false) (sym (in_signal d s c inside).0) (false_from_ne_true _ (λ m. calm ((are.moves s).0 m))))))
      ∙ ap (λ u. signal_bits d (dump.values u) s) (sym back) ∙ sym e
  forced_step s bits bound plain (by_net in_window moves net) =
      sure_dumped s bits bound (net_clear d h dump run tables points is asked (suc t) (clear d h dump t) (all_run st).kept (all_run st).acted (final_dumped d h (early_law (machine d)) dump run tables points is t sets are a) last.made last.has_acted
      (λ p y is_a m mine free n v. asked.own_unclear h dump (suc t) p y is_a m mine free (v.0, (n, v.1)))
      (λ p z w in_window' free target never k. unwoken_sure d h (early_law (machine d)) dump run tables points is asked t window sets are a known.is_clear p z w free target never k)
      (λ p c z w in_window' free value. written_sure d h (early_law (machine d)) dump run tables points is asked t window sets are a known.is_clear p c z w free value) s bits net)
  forced_step s bits bound plain (by_comb p in_window moves value) =
      sure_dumped s bits bound (comb_clear d h dump run tables points is asked (suc t) (clear d h dump t) (all_run st).kept (all_run st).acted (final_dumped d h (early_law (machine d)) dump run tables points is t sets are a) last.made last.has_acted
      (λ p y is_a m mine free n v. asked.own_unclear h dump (suc t) p y is_a m mine free (v.0, (n, v.1)))
      (λ p z w in_window' free target never k. unwoken_sure d h (early_law (machine d)) dump run tables points is asked t window sets are a known.is_clear p z w free target never k)
      (λ p c z w in_window' free value. written_sure d h (early_law (machine d)) dump run tables points is asked t window sets are a known.is_clear p c z w free value) p s bits value)
  forced_step s bits bound plain (by_clocked p c in_window moves value) =
      made_sure s bits bound plain (written_made d h (early_law (machine d)) dump run tables points is asked t window sets are a known.is_clear p c (a_signal s) bits (subst (λ u. IsWrittenValue d h dump (suc t) (clear d h dump u) p c (a_signal s) bits) back value))

  pub forced_now : AreForced d h dump t → AreForced d h dump (suc t)
  forced_now before u s bits le forced = ⊎_elim now (λ ne. before u s bits (omega (arith, le, ne)) forced) (cases_eq u (suc t))
    where
      now : u ≡ suc t → signal_bits d (dump.values u) s ≡ bits
      now e = ap (λ z. signal_bits d (dump.values z) s) e ∙ forced_step s bits forced.is_bound forced.no_input (subst (λ z. IsForcedBy d h dump z s bits) e forced.forced)

pub step_forced_law : (h : Habit) → StepForcedLaw h
step_forced_law h d dump run tables points is own t sets a window are known agreed before = forced_now h d dump run tables points is (asked_of d is.lawful own) t sets a window are known agreed before
