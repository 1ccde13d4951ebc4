-- Without a contradiction what the dump has of what may not move does not change.
use Rattle.std.proofs.Common.{◌≡◌, ◌≢◌, ◌⊎◌, inl, inr, ⊎_elim, ℕ, suc, ◌-◌, ◌<◌, true, false, not, ◌&&◌, List, ◌++◌, refl, sym, ap, subst, ◌∙◌, arith, Some, None}
use Rattle.std.proofs.lemmas.Bool.{and_parts, and_from, both_ways, cases_Bool, false_from_ne_true, not_from_false, lt-ltb, ltb-true}
use Rattle.event_machine.proofs.Least.{early_law}
use Rattle.event_machine.specs.Cell.{Cell}
use Rattle.event_machine.specs.Habit.{Habit}
use Rattle.event_machine.specs.Machine.{IsTarget}
use Rattle.event_machine.specs.MayMove.{of_input, of_target}
use Rattle.design_model.specs.four_state.Vector.{same_bit}
use Rattle.design_model.specs.four_state.declared.bit.Bit.{Bit}
use Rattle.design_model.specs.declared.point.Point.{Point}
use Rattle.design_model.specs.Design.{Design, Thing, a_signal, body_at, cell, signal_at, signal_bits, signal_cells}
use Rattle.design_model.specs.Mentions.{blocking_target}
use Rattle.design_model.specs.Machine.{machine}
use Rattle.design_model.specs.MayMove.{CanWakeSome}
use Rattle.design_model.specs.Shows.{BoundDump, IsShown, IsWindow}
use Rattle.design_model.specs.Clear.{clear}
use Rattle.design_model.proofs.Lawful.{same_bit_is}
use Rattle.design_model.proofs.Stretches.{window_shown_at}
use Rattle.replay_model.proofs.AskedLaws.{AskedLaws}
use Rattle.body_replay.specs.Contract.{sure_in}
use Rattle.body_replay.specs.Replay.{flush}
use Rattle.body_replay.specs.Runs.{Runs}
use Rattle.replay_model.specs.Sets.{AreSets, Sets}
use Rattle.replay_model.specs.Tables.{Tables}
use Rattle.replay_model.specs.Step.{Closing, Replay, all_run, clocked_run, contradicts, is_dumped, is_loose, is_touched, run_all_settling, settle_start, surely_differ}
use Rattle.replay_model.specs.Laws.{IsReplayOf, closing_at}
use Rattle.replay_model.proofs.Bits.{any_in}
use Rattle.replay_model.proofs.ClockedKept.{away_from, clocked_stays}
use Rattle.replay_model.proofs.Clocked.{at_false}
use Rattle.replay_model.proofs.Existing.{signal_has}
use Rattle.replay_model.proofs.Order.{made_all}
use Rattle.replay_model.proofs.SettleReasons.{bound_clear, differ_from, sure_at}

module _ (h : Habit) (d : Design) (dump : BoundDump) (run : Runs) (tables : Tables) (points : List Point) (is : IsReplayOf d h dump run tables points) (asked : AskedLaws d) (t : ℕ) (sets : Sets) (a : Replay) (window : IsWindow dump (suc t)) (are : AreSets d h dump (suc t) sets) (at_start : (x : Thing) (bits : List Bit) → clear d h dump t x bits → sure_in d a.kept x bits) (agreed : (c : Cell) → contradicts (closing_at d dump run tables sets t a) c ≡ false) where
  abbrev st : Closing
  st = closing_at d dump run tables sets t a

  shown : IsShown dump t × IsShown dump (suc t)
  shown = window_shown_at dump.stretches t window

  back : suc t - 1 ≡ t
  back = omega arith

  -- what a process may write that can be woken may move
  pub target_moves : (q : ℕ) (c : Cell) → IsTarget (machine d) q c → (is_touched st q ≡ true) ⊎ CanWakeSome d dump (suc t) q → sets.moves c.thing ≡ true
  target_moves q c target (inl touched) =
      let x = any_in sets.moves (tables.watched q) touched in
      (are.moves c.thing).1 (of_target x.0 q c ((are.moves x.0).0 x.2) (inl ((is.tabled.watched q x.0).0 x.1)) target)
  target_moves q c target (inr wakes) = (are.moves c.thing).1 (of_target wakes.0.thing q c wakes.1.1 (inr (wakes.0, refl, wakes.1.0)) target)

  -- what no process writes that runs is made as it was
  pub made_start : (c : Cell) → ((q : ℕ) → IsTarget (machine d) q c → (is_touched st q ≡ true) ⊎ CanWakeSome d dump (suc t) q → ⊥) → (all_run st).made c ≡ a.kept c
  made_start c never =
      made_all d h (early_law (machine d)) dump run tables points is t sets are a false tables.last (run_all_settling st true tables.order (settle_start st (clocked_run st))) c (λ q x f. untouched q f)
      ∙ made_all d h (early_law (machine d)) dump run tables points is t sets are a true tables.order (settle_start st (clocked_run st)) c (λ q x f. untouched q f)
      ∙ at_false (λ z. z ≡ flush (clocked_run st).kept (clocked_run st).queue c) (is_loose st c) None (flush (clocked_run st).kept (clocked_run st).queue c) firm refl
      ∙ clocked_stays d h (early_law (machine d)) dump run tables points is t sets are a c (λ q x ran. away_from d h (early_law (machine d)) dump run tables points is t sets are a c q (λ at. never q at (inr (cell ran.0 0, (are.trigger q ran.0 ran.1).can_wake))))
      (λ q x ran. away_from d h (early_law (machine d)) dump run tables points is t sets are a c q (λ at. never q at (inr (cell ran.1.0 0, are.wakes q ran.1.0 ran.1.1))))
    where
      untouched : (q : ℕ) → is_touched st q ≡ true → blocking_target d (body_at d q) c ≡ false
      untouched q touched = false_from_ne_true _ (λ e. never q (inl e) (inl touched))

      firm : is_loose st c ≡ false
      firm = false_from_ne_true _ (λ m. let q = any_in (λ q. is_touched st q && blocking_target d (body_at d q) c) (tables.order ++ tables.last) m in let b = and_parts (is_touched st q.0) _ q.2 in both_ways _ (untouched q.0 b.0) b.1)

  -- so what the dump has of it does not change
  pub calm_dumped : (c : Cell) → is_dumped d dump.bound c ≡ true → sets.moves c.thing ≡ false → dump.values t c ≡ dump.values (suc t) c
  calm_dumped c has calm = ⊎_elim (λ e. same_bit_is (dump.values t c) (dump.values (suc t) c) e) (λ e. absurd (⊎_elim (of_an_input e) (of_other e) (cases_Bool (signal_at d c.thing).input))) (cases_Bool (same_bit (dump.values t c) (dump.values (suc t) c)))
    where
      bound : dump.bound c.thing ≡ true
      bound = (and_parts (dump.bound c.thing) _ has).0

      below : c.place < (signal_at d c.thing).width
      below = ltb-true _ _ (and_parts (dump.bound c.thing) _ has).1

      differ : same_bit (dump.values t c) (dump.values (suc t) c) ≡ false → dump.values t c ≢ dump.values (suc t) c
      differ e f = both_ways _ e (subst (λ z. same_bit (dump.values t c) z ≡ true) f (Rattle.design_model.proofs.Lawful.same_bit_self (dump.values t c)))

      of_an_input : same_bit (dump.values t c) (dump.values (suc t) c) ≡ false → (signal_at d c.thing).input ≡ true → ⊥
      of_an_input e input =
          both_ways _ calm ((are.moves c.thing).1 (of_input c (and_from (signal_at d c.thing).input _ input (lt-ltb _ _ below), λ told f. differ e (ap (λ u. dump.values u c) (sym back) ∙ f))))

      before : a.kept c ≡ Some (dump.values t c)
      before = sure_at a.kept (dump.values t) (signal_cells d c.thing) (at_start (a_signal c.thing) (signal_bits d (dump.values t) c.thing) (bound_clear d h dump t c.thing shown.0 bound (is.fits.signals c.thing bound))) c (signal_has d c below)

      of_other : same_bit (dump.values t c) (dump.values (suc t) c) ≡ false → (signal_at d c.thing).input ≡ false → ⊥
      of_other e no_input =
          both_ways _ (agreed c) (and_from (is_dumped d dump.bound c) _ has (and_from (not (signal_at d c.thing).input) _ (not_from_false _ no_input) (ap (λ z. surely_differ z (Some (dump.values (suc t) c))) (made_start c (λ q at woken. both_ways _ calm (target_moves q c at woken)) ∙ before) ∙ differ_from (dump.values t c) (dump.values (suc t) c) (differ e))))
