-- Over a window time at which no value of the dump changes what is clear stays, where each input is bound.
use Rattle.std.proofs.Common.{◌≡◌, ⊎_elim, ℕ, zero, suc, ◌-◌, ◌≤◌, List, sym, ap, ◌∙◌, arith}
use Rattle.std.proofs.lemmas.Bool.{cases_eq}
use Rattle.event_machine.specs.Cell.{Cell, Values}
use Rattle.event_machine.specs.Habit.{Habit}
use Rattle.event_machine.specs.MayMove.{of_input, of_target}
use Rattle.four_state.specs.declared.bit.Bit.{Bit}
use Rattle.design_model.specs.Tree.{Stmt}
use Rattle.design_model.specs.Design.{Design, Thing, signal_bits}
use Rattle.design_model.specs.Reads.{Agrees, PartialMap}
use Rattle.design_model.specs.Shows.{BoundDump, IsWindow}
use Rattle.design_model.specs.MayMove.{CanWakeSome, IsCleanAt, MayMoveAt}
use Rattle.design_model.specs.Clear.{HasChanged, IsClearBy, IsCombValue, clear, clear_from, clear_in, clear_start, of_assigns, of_clean, of_comb, of_dump, of_unwoken}
use Rattle.design_model.specs.Lawful.{IsLawfulDesign}
use Rattle.design_model.specs.StillLaw.{BindsInputs, StillLaw}
use Rattle.design_model.proofs.Closed.{closed_law}
use Rattle.design_model.proofs.Rounds.{rules_more}
use Rattle.design_model.proofs.Stretches.{window_shown_at}

to_rounds : (d : Design) (h : Habit) (dump : BoundDump) (t : ℕ) (x : Thing) (bits : List Bit) → clear d h dump t x bits → clear_from d h dump t (clear_start d h dump t) x bits
to_rounds d h dump zero x bits k = k
to_rounds d h dump (suc t) x bits k = k

from_rounds : (d : Design) (h : Habit) (dump : BoundDump) (t : ℕ) (x : Thing) (bits : List Bit) → clear_from d h dump t (clear_start d h dump t) x bits → clear d h dump t x bits
from_rounds d h dump zero x bits k = k
from_rounds d h dump (suc t) x bits k = k

module _ (d : Design) (h : Habit) (dump : BoundDump) (inputs : BindsInputs d dump) (t : ℕ) (same : dump.values (suc t) ≡ dump.values t) where
  no_change : dump.values (suc t - 1) ≡ dump.values (suc t)
  no_change =
      let back : suc t - 1 ≡ t = omega arith in
      ap dump.values back ∙ sym same

  pub none_moves : (x : ℕ) → MayMoveAt d dump (suc t) x → ⊥
  none_moves x (of_input c moving) = moving.1 (inputs c moving.0) (ap (λ f. f c) no_change)
  none_moves x (of_target y q c m wakes target) = none_moves y m

  pub none_wakes : (p : ℕ) → CanWakeSome d dump (suc t) p → ⊥
  none_wakes p wakes = none_moves wakes.0.thing wakes.1.1

  pub none_clean : (p : ℕ) (c : Cell) → IsCleanAt d dump (suc t) p c → ⊥
  none_clean p c clean = none_moves c.thing clean.can_wake.1

  changed_later : (b : Stmt) → HasChanged dump d b t → HasChanged dump d b (suc t)
  changed_later b changed =
      let until : changed.time ≤ suc t = omega (arith, changed.until) in
      record { by = changed.by; time = changed.time; mentioned = changed.mentioned; is_bound = changed.is_bound; until = until; in_window = changed.in_window; changed = changed.changed }

  changed_before : (b : Stmt) → HasChanged dump d b (suc t) → HasChanged dump d b t
  changed_before b changed =
      ⊎_elim
      (λ e. absurd (changed.changed (ap (λ f. signal_bits d f changed.by) (ap (λ u. dump.values (u - 1)) e ∙ no_change ∙ ap dump.values (sym e)))))
      (λ ne. record { by = changed.by; time = changed.time; mentioned = changed.mentioned; is_bound = changed.is_bound; until = earlier ne changed.until; in_window = changed.in_window; changed = changed.changed })
      (cases_eq changed.time (suc t))
    where
      earlier : (changed.time ≡ suc t → ⊥) → changed.time ≤ suc t → changed.time ≤ t
      earlier ne le = omega (arith, le, ne)

  comb_at : (u w : ℕ) (K : PartialMap) (p s : ℕ) (bits : List Bit) → ((b : Stmt) → HasChanged dump d b u → HasChanged dump d b w) → IsCombValue d dump u K p s bits → IsCombValue d dump w K p s bits
  comb_at u w K p s bits moves is =
      record {
        is_signal = is.is_signal;
        is_comb = is.is_comb;
        target = is.target;
        written_whole = is.written_whole;
        writes_first = is.writes_first;
        all_clear = is.all_clear;
        within = is.within;
        has_changed = moves _ is.has_changed;
        gives = is.gives;
      }

module _ (d : Design) (lawful : IsLawfulDesign d) (h : Habit) (dump : BoundDump) (inputs : BindsInputs d dump) (t : ℕ) (same : dump.values (suc t) ≡ dump.values t) (window : IsWindow dump (suc t)) (v : Values Bit) (agrees : Agrees d (clear d h dump t) v) where
  -- by a rule, from what was clear at the moment before
  back_by : (x : Thing) (bits : List Bit) → IsClearBy d h dump (suc t) (clear d h dump t) (clear d h dump t) x bits → clear d h dump t x bits
  back_by x bits (of_dump s w0 is_shown is_bound is_signal is) =
      closed_law d lawful h dump t v agrees x bits (of_dump s w0 (window_shown_at dump.stretches t window).0 is_bound is_signal (is ∙ ap (λ f. signal_bits d f s) same))
  back_by x bits (of_assigns s w0 unbound is) = closed_law d lawful h dump t v agrees x bits (of_assigns s w0 unbound is)
  back_by x bits (of_comb p s w0 unbound is) =
      closed_law d lawful h dump t v agrees x bits (of_comb p s w0 unbound (comb_at d h dump inputs t same (suc t) t (clear d h dump t) p s w0 (changed_before d h dump inputs t same) is))
  back_by x bits (of_unwoken p x0 w0 in_window unbound target cannot old) = old
  back_by x bits (of_clean p c x0 w0 in_window unbound is) = absurd (none_clean d h dump inputs t same p c is.is_clean)

  back_in : (n : ℕ) (x : Thing) (bits : List Bit) → clear_in d h dump (suc t) (clear d h dump t) n x bits → clear d h dump t x bits
  back_in zero x bits k = absurd k
  back_in (suc n) x bits k = back_by x bits (rules_more d (clear_in d h dump (suc t) (clear d h dump t) n) (clear d h dump t) (back_in n) h dump (suc t) (clear d h dump t) x bits k)

  pub back : (x : Thing) (bits : List Bit) → clear d h dump (suc t) x bits → clear d h dump t x bits
  back x bits k = back_in k.0 x bits k.1

  agrees_now : Agrees d (clear d h dump (suc t)) v
  agrees_now x bits k = agrees x bits (back x bits k)

  -- by a rule, at the moment before
  on_by : (start : PartialMap) (x : Thing) (bits : List Bit) → clear d h dump t x bits → IsClearBy d h dump t start (clear d h dump (suc t)) x bits → clear d h dump (suc t) x bits
  on_by start x bits old (of_dump s w0 is_shown is_bound is_signal is) =
      closed_law d lawful h dump (suc t) v agrees_now x bits (of_dump s w0 (window_shown_at dump.stretches t window).1 is_bound is_signal (is ∙ ap (λ f. signal_bits d f s) (sym same)))
  on_by start x bits old (of_assigns s w0 unbound is) = closed_law d lawful h dump (suc t) v agrees_now x bits (of_assigns s w0 unbound is)
  on_by start x bits old (of_comb p s w0 unbound is) =
      closed_law d lawful h dump (suc t) v agrees_now x bits (of_comb p s w0 unbound (comb_at d h dump inputs t same t (suc t) (clear d h dump (suc t)) p s w0 (changed_later d h dump inputs t same) is))
  on_by start x bits old (of_unwoken p x0 w0 in_window unbound target cannot before) =
      closed_law d lawful h dump (suc t) v agrees_now x bits (of_unwoken p x0 w0 window unbound target (none_wakes d h dump inputs t same p) old)
  on_by start x bits old (of_clean p c x0 w0 in_window unbound is) =
      closed_law d lawful h dump (suc t) v agrees_now x bits (of_unwoken p x0 w0 window unbound is.writer (none_wakes d h dump inputs t same p) old)

  on_in : (start : PartialMap) → ((x : Thing) (bits : List Bit) → clear_from d h dump t start x bits → clear d h dump t x bits) → (n : ℕ) (x : Thing) (bits : List Bit) → clear_in d h dump t start n x bits → clear d h dump (suc t) x bits
  on_in start whole zero x bits k = absurd k
  on_in start whole (suc n) x bits k =
      on_by start x bits (whole x bits (suc n, k)) (rules_more d (clear_in d h dump t start n) (clear d h dump (suc t)) (on_in start whole n) h dump t start x bits k)

  pub on : (x : Thing) (bits : List Bit) → clear d h dump t x bits → clear d h dump (suc t) x bits
  on x bits k =
      let r = to_rounds d h dump t x bits k in
      on_in (clear_start d h dump t) (from_rounds d h dump t) r.0 x bits r.1

pub still_law : (d : Design) (h : Habit) → IsLawfulDesign d → StillLaw d h
still_law d h lawful dump inputs keeps t window unlisted v agrees x bits =
    (back d lawful h dump inputs t (keeps t unlisted) window v agrees x bits, on d lawful h dump inputs t (keeps t unlisted) window v agrees x bits)
