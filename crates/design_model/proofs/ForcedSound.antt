-- The clear law and the forced law, from the laws of the machine.
use Rattle.std.proofs.Common.{◌≡◌, ◌⊎◌, inl, inr, ℕ, zero, suc, ◌-◌, ◌≤◌, true, List, [], append-nil, sym, ap, subst, ◌∙◌, arith}
use Rattle.event_machine.specs.Cell.{Cell}
use Rattle.event_machine.specs.Habit.{Habit}
use Rattle.four_state.specs.declared.bit.Bit.{Bit}
use Rattle.design_model.specs.Design.{Design, a_signal, signal_bits}
use Rattle.design_model.specs.Reads.{Agrees}
use Rattle.design_model.specs.Machine.{machine}
use Rattle.design_model.specs.Run.{IsRun, Run, settled}
use Rattle.design_model.specs.Shows.{BindsSignals, BoundDump, IsWindow, ShowsUpTo}
use Rattle.design_model.specs.MayMove.{MayMoveAt, told_at}
use Rattle.design_model.specs.Clear.{IsForcedBy, IsWrittenValue, at_first, by_clocked, by_comb, by_net, first_comb, clear, clear_before, unmoved}
use Rattle.design_model.specs.Lawful.{IsLawfulDesign}
use Rattle.design_model.specs.Laws.{ClearLaw, ContradictionLaw, ForcedLaw}
use Rattle.design_model.proofs.MadeSound.{clear_is_sound, made_sound}
use Rattle.design_model.proofs.Sound.{IsSeen, told_step, cells_eq, net_sound, no_window, step_or, window_shown, written_sound}
use Rattle.design_model.proofs.StepLaws.{StepLaws}
use Rattle.design_model.proofs.Times.{StepTo}

module _ (d : Design) (lawful : IsLawfulDesign d) (h : Habit) (laws : StepLaws (machine d) h) where
  pub clear_law : ClearLaw d h
  clear_law dump r t binds showing now = clear_is_sound d lawful h dump binds r showing.is_run t showing.shows laws.net laws.no_wake laws.write laws.edge laws.idle laws.computed t (now, omega arith)

  module _ (dump : BoundDump) (r : Run) (binds : BindsSignals d dump) (is_run : IsRun d h r) (end : ℕ) (shows : ShowsUpTo d dump r end) where
    -- what is clear holds at each time up to which the run shows the dump
    pub clear_at : (t : ℕ) → IsSeen dump end t → Agrees d (clear d h dump t) (settled d r t)
    clear_at t now = clear_is_sound d lawful h dump binds r is_run end shows laws.net laws.no_wake laws.write laws.edge laws.idle laws.computed t now

    here : (t : ℕ) → (settled d r (suc t) ≡ settled d r t) ⊎ StepTo (machine d) h (settled d r t) (settled d r (suc t))
    here t = step_or d lawful h dump binds r is_run end shows laws.net laws.no_wake laws.write laws.edge t

    shown_both : (t : ℕ) → IsWindow dump (suc t) → suc t ≤ end → IsSeen dump end t × IsSeen dump end (suc t)
    shown_both t window le = window_shown d lawful h dump binds r is_run end shows laws.net laws.no_wake laws.write laws.edge t window le

    -- what may not move stays
    stays : (t s : ℕ) → IsSeen dump end t → IsSeen dump end (suc t) → (MayMoveAt d dump (suc t) s → ⊥) → signal_bits d (settled d r (suc t)) s ≡ signal_bits d (settled d r t) s
    stays t s now next none = go (here t)
      where
        go : (settled d r (suc t) ≡ settled d r t) ⊎ StepTo (machine d) h (settled d r t) (settled d r (suc t)) → signal_bits d (settled d r (suc t)) s ≡ signal_bits d (settled d r t) s
        go (inl same) = ap (λ v. signal_bits d v s) same
        go (inr x) =
            cells_eq d (settled d r (suc t)) (settled d r t) (a_signal s)
            (λ c at. sym (ap (λ f. f c) x.ends) ∙ laws.unchanged (dump.round (suc t)) h (told_at dump (suc t)) (told_step d lawful h dump binds r is_run end shows laws.net laws.no_wake laws.write laws.edge t now next x) c (λ may. none (subst (MayMoveAt d dump (suc t)) at may)) x.events [] (sym (append-nil x.events)) ∙ ap (λ f. f c) x.starts)

    by_written : (w p : ℕ) (c : Cell) (s : ℕ) (bits : List Bit) → IsWindow dump (suc w) → suc w ≤ end → IsWrittenValue d h dump (suc w) (clear_before d h dump (suc w)) p c (a_signal s) bits → signal_bits d (settled d r (suc w)) s ≡ bits
    by_written w p c s bits window le is =
        let back : suc w - 1 ≡ w = omega arith in
        let both = shown_both w window le in
        written_sound d lawful h dump binds r is_run end shows laws.net laws.no_wake laws.write laws.edge w p c (a_signal s) bits both.0 both.1 (clear_at w both.0)
        (subst (λ y. IsWrittenValue d h dump (suc w) (clear d h dump y) p c (a_signal s) bits) back is)

    -- a forced value is that of the run
    forced_run : (t s : ℕ) (bits : List Bit) → IsSeen dump end t → dump.bound s ≡ true → IsForcedBy d h dump t s bits → signal_bits d (settled d r t) s ≡ bits
    forced_run t s bits now bound (at_first first is) = net_sound d lawful h dump binds r is_run end shows laws.net laws.no_wake laws.write laws.edge t s (clear d h dump t) bits (clear_at t now) is
    forced_run t s bits now bound (first_comb p first is) = made_sound d lawful h dump binds r is_run end shows laws.net laws.no_wake laws.write laws.edge laws.idle laws.computed t p s (clear d h dump t) bits now (clear_at t now) is
    forced_run t s bits now bound (by_net window may is) = net_sound d lawful h dump binds r is_run end shows laws.net laws.no_wake laws.write laws.edge t s (clear d h dump t) bits (clear_at t now) is
    forced_run t s bits now bound (by_comb p window may is) = made_sound d lawful h dump binds r is_run end shows laws.net laws.no_wake laws.write laws.edge laws.idle laws.computed t p s (clear d h dump t) bits now (clear_at t now) is
    forced_run t s bits now bound (unmoved window none is) = go t window now.1 none is
      where
        go : (t : ℕ) → IsWindow dump t → t ≤ end → (MayMoveAt d dump t s → ⊥) → bits ≡ signal_bits d (dump.values (t - 1)) s → signal_bits d (settled d r t) s ≡ bits
        go zero window le none is = absurd (no_window d lawful h dump binds r is_run end shows laws.net laws.no_wake laws.write laws.edge window)
        go (suc w) window le none is =
            let back : suc w - 1 ≡ w = omega arith in
            let both = shown_both w window le in
            stays w s both.0 both.1 none ∙ shows.shows w both.0.0 both.0.1 s bound ∙ ap (λ y. signal_bits d (dump.values y) s) (sym back) ∙ sym is
    forced_run t s bits now bound (by_clocked p c window may is) = go t window now.1 is
      where
        go : (t : ℕ) → IsWindow dump t → t ≤ end → IsWrittenValue d h dump t (clear_before d h dump t) p c (a_signal s) bits → signal_bits d (settled d r t) s ≡ bits
        go zero window le is = absurd (no_window d lawful h dump binds r is_run end shows laws.net laws.no_wake laws.write laws.edge window)
        go (suc w) window le is = by_written w p c s bits window le is

  pub forced_law : ForcedLaw d h
  forced_law dump r t binds showing s bits forced =
      sym (showing.shows.shows t forced.is_shown (omega arith) s forced.is_bound) ∙ forced_run dump r binds showing.is_run t showing.shows t s bits (forced.is_shown, omega arith) forced.is_bound forced.forced

  -- where a forced value is not the dump's, no run shows the dump so far
  pub contradiction_law : ContradictionLaw d h
  contradiction_law dump t s bits binds forced differ r showing = differ (forced_law dump r t binds showing s bits forced)
