-- At a hidden time no more is clear than the moment before, and at the hidden times after it the same.
use Rattle.std.proofs.Common.{◌≡◌, ⊎_elim, ℕ, zero, suc, ◌+◌, ◌-◌, ◌≤◌, List, refl, sym, ap, subst, ◌∙◌, arith}
use Rattle.std.proofs.lemmas.Bool.{cases_eq, cases_lt}
use Rattle.event_machine.specs.Cell.{Values}
use Rattle.event_machine.specs.Habit.{Habit}
use Rattle.design_model.specs.four_state.declared.bit.Bit.{Bit}
use Rattle.design_model.specs.Tree.{Stmt}
use Rattle.design_model.specs.Design.{Design, Thing, signal_bits}
use Rattle.design_model.specs.Reads.{Agrees, PartialMap}
use Rattle.design_model.specs.Shows.{AreStretches, BoundDump, IsListed, IsWindow}
use Rattle.design_model.specs.MayMove.{AreLastRounds, CanWakeSome}
use Rattle.design_model.specs.Clear.{HasChanged, IsClearBy, IsCombValue, clear, clear_from, clear_in, clear_start, of_assigns, of_clean, of_comb, of_dump, of_unwoken}
use Rattle.design_model.specs.Lawful.{IsLawfulDesign}
use Rattle.design_model.proofs.Closed.{closed_law}
use Rattle.design_model.proofs.Rounds.{rules_more}
use Rattle.design_model.proofs.Stretches.{between, shown_then, window_shown_at}
use Rattle.hidden_times.specs.Hidden.{IsAnyDumpOf, IsHiddenOn}
use Rattle.hidden_times.specs.Laws.{AreSameSets, SameClearLaw, ShrinkLaw}
use Rattle.hidden_times.proofs.Quiet.{no_clean_law}
use Rattle.hidden_times.proofs.Sets.{same_sets}

to_rounds : (d : Design) (h : Habit) (dump : BoundDump) (t : ℕ) (x : Thing) (bits : List Bit) → clear d h dump t x bits → clear_from d h dump t (clear_start d h dump t) x bits
to_rounds d h dump zero x bits k = k
to_rounds d h dump (suc t) x bits k = k

from_rounds : (d : Design) (h : Habit) (dump : BoundDump) (t : ℕ) (x : Thing) (bits : List Bit) → clear_from d h dump t (clear_start d h dump t) x bits → clear d h dump t x bits
from_rounds d h dump zero x bits k = k
from_rounds d h dump (suc t) x bits k = k

module _ (d : Design) (dump : BoundDump) (t : ℕ) (same : dump.values (suc t) ≡ dump.values t) where
  no_change : dump.values (suc t - 1) ≡ dump.values (suc t)
  no_change =
      let back : suc t - 1 ≡ t = omega arith in
      ap dump.values back ∙ sym same

  changed_later : (b : Stmt) → HasChanged dump d b t → HasChanged dump d b (suc t)
  changed_later b changed =
      let until : changed.time ≤ suc t = omega (arith, changed.until) in
      record { by = changed.by; time = changed.time; mentioned = changed.mentioned; is_bound = changed.is_bound; until = until; in_window = changed.in_window; changed = changed.changed }

  pub changed_before : (b : Stmt) → HasChanged dump d b (suc t) → HasChanged dump d b t
  changed_before b changed =
      ⊎_elim
      (λ e. absurd (changed.changed (ap (λ f. signal_bits d f changed.by) (ap (λ u. dump.values (u - 1)) e ∙ no_change ∙ ap dump.values (sym e)))))
      (λ ne. record { by = changed.by; time = changed.time; mentioned = changed.mentioned; is_bound = changed.is_bound; until = earlier ne changed.until; in_window = changed.in_window; changed = changed.changed })
      (cases_eq changed.time (suc t))
    where
      earlier : (changed.time ≡ suc t → ⊥) → changed.time ≤ suc t → changed.time ≤ t
      earlier ne le = omega (arith, le, ne)

  comb_at : (u w : ℕ) (K : PartialMap) (p s : ℕ) (bits : List Bit) → ((b : Stmt) → HasChanged dump d b u → HasChanged dump d b w) → IsCombValue d dump u K p s bits → IsCombValue d dump w K p s bits
  comb_at u w K p s bits moves is =
      record {
        is_signal = is.is_signal;
        is_comb = is.is_comb;
        target = is.target;
        written_whole = is.written_whole;
        writes_first = is.writes_first;
        all_clear = is.all_clear;
        within = is.within;
        has_changed = moves _ is.has_changed;
        gives = is.gives;
      }

module _ (d : Design) (lawful : IsLawfulDesign d) (h : Habit) (dump : BoundDump) (any : IsAnyDumpOf d dump) (t : ℕ) (window : IsWindow dump (suc t)) (unlisted : IsListed dump (suc t) → ⊥) (v : Values Bit) (agrees : Agrees d (clear d h dump t) v) where
  same : dump.values (suc t) ≡ dump.values t
  same = any.stays t unlisted

  -- by a rule, from what was clear at the moment before
  back_by : (x : Thing) (bits : List Bit) → IsClearBy d h dump (suc t) (clear d h dump t) (clear d h dump t) x bits → clear d h dump t x bits
  back_by x bits (of_dump s w0 is_shown is_bound is_signal is) =
      closed_law d lawful h dump t v agrees x bits (of_dump s w0 (window_shown_at dump.stretches t window).0 is_bound is_signal (is ∙ ap (λ f. signal_bits d f s) same))
  back_by x bits (of_assigns s w0 unbound is) = closed_law d lawful h dump t v agrees x bits (of_assigns s w0 unbound is)
  back_by x bits (of_comb p s w0 unbound is) =
      closed_law d lawful h dump t v agrees x bits (of_comb p s w0 unbound (comb_at d dump t same (suc t) t (clear d h dump t) p s w0 (changed_before d dump t same) is))
  back_by x bits (of_unwoken p x0 w0 in_window unbound target cannot old) = old
  back_by x bits (of_clean p c x0 w0 in_window unbound is) = absurd (no_clean_law d lawful dump any (suc t) window unlisted p c is.is_clean)

  back_in : (n : ℕ) (x : Thing) (bits : List Bit) → clear_in d h dump (suc t) (clear d h dump t) n x bits → clear d h dump t x bits
  back_in zero x bits k = absurd k
  back_in (suc n) x bits k = back_by x bits (rules_more d (clear_in d h dump (suc t) (clear d h dump t) n) (clear d h dump t) (back_in n) h dump (suc t) (clear d h dump t) x bits k)

  pub shrinks : (x : Thing) (bits : List Bit) → clear d h dump (suc t) x bits → clear d h dump t x bits
  shrinks x bits k = back_in k.0 x bits k.1

  agrees_now : Agrees d (clear d h dump (suc t)) v
  agrees_now x bits k = agrees x bits (shrinks x bits k)

  -- where the moment before is hidden too, and has the same sets
  module _ (before : IsWindow dump t) (hidden : IsListed dump t → ⊥) (sets : AreSameSets d dump t (suc t)) where
    asleep : (p : ℕ) → (CanWakeSome d dump t p → ⊥) → CanWakeSome d dump (suc t) p → ⊥
    asleep p cannot wakes = cannot (wakes.0, (sets.can_wake wakes.0 p).0 wakes.1)

    -- by a rule, at the moment before
    on_by : (start : PartialMap) (x : Thing) (bits : List Bit) → clear d h dump t x bits → IsClearBy d h dump t start (clear d h dump (suc t)) x bits → clear d h dump (suc t) x bits
    on_by start x bits old (of_dump s w0 is_shown is_bound is_signal is) =
        closed_law d lawful h dump (suc t) v agrees_now x bits (of_dump s w0 (window_shown_at dump.stretches t window).1 is_bound is_signal (is ∙ ap (λ f. signal_bits d f s) (sym same)))
    on_by start x bits old (of_assigns s w0 unbound is) = closed_law d lawful h dump (suc t) v agrees_now x bits (of_assigns s w0 unbound is)
    on_by start x bits old (of_comb p s w0 unbound is) =
        closed_law d lawful h dump (suc t) v agrees_now x bits (of_comb p s w0 unbound (comb_at d dump t same t (suc t) (clear d h dump (suc t)) p s w0 (changed_later d dump t same) is))
    on_by start x bits old (of_unwoken p x0 w0 in_window unbound target cannot was) =
        closed_law d lawful h dump (suc t) v agrees_now x bits (of_unwoken p x0 w0 window unbound target (asleep p cannot) old)
    on_by start x bits old (of_clean p c x0 w0 in_window unbound is) = absurd (no_clean_law d lawful dump any t before hidden p c is.is_clean)

    on_in : (start : PartialMap) → ((x : Thing) (bits : List Bit) → clear_from d h dump t start x bits → clear d h dump t x bits) → (n : ℕ) (x : Thing) (bits : List Bit) → clear_in d h dump t start n x bits → clear d h dump (suc t) x bits
    on_in start whole zero x bits k = absurd k
    on_in start whole (suc n) x bits k =
        on_by start x bits (whole x bits (suc n, k)) (rules_more d (clear_in d h dump t start n) (clear d h dump (suc t)) (on_in start whole n) h dump t start x bits k)

    pub goes_on : (x : Thing) (bits : List Bit) → clear d h dump t x bits → clear d h dump (suc t) x bits
    goes_on x bits k =
        let r = to_rounds d h dump t x bits k in
        on_in (clear_start d h dump t) (from_rounds d h dump t) r.0 x bits r.1

pub shrink_law : (d : Design) (h : Habit) → IsLawfulDesign d → ShrinkLaw d h
shrink_law d h lawful dump any t window unlisted v agrees x bits k = shrinks d lawful h dump any t window unlisted v agrees x bits k

-- a part of hidden times, from t or from one after it
pub hidden_to : (dump : BoundDump) (t v : ℕ) → t ≤ v → IsHiddenOn dump t (suc v) → IsWindow dump v → IsHiddenOn dump t v
hidden_to dump t v le hidden window =
    record { later = le; first = hidden.first; last = window; none = λ u after within. hidden.none u after (omega (arith, within)) }

pub hidden_step : (dump : BoundDump) (t v : ℕ) → t ≤ v → IsHiddenOn dump t (suc v) → IsWindow dump v → IsHiddenOn dump v (suc v)
hidden_step dump t v le hidden window =
    record { later = omega arith; first = window; last = hidden.last; none = λ u after within. hidden.none u (omega (arith, after, le)) within }

-- what is between two of them is of the window
pub window_of : (dump : BoundDump) → AreStretches dump.stretches → (t v : ℕ) → t ≤ v → IsHiddenOn dump t (suc v) → IsWindow dump v
window_of dump order t v le hidden =
    ⊎_elim
    (λ less. between dump.stretches t v (suc v) order less (omega arith) (λ u after before. hidden.none u (omega (arith, after)) (omega (arith, before))) (shown_then dump.stretches t hidden.first) hidden.last)
    (λ most. same most)
    (cases_lt t v)
  where
    same : v ≤ t → IsWindow dump v
    same most = let e : t ≡ v = omega (arith, le, most) in subst (IsWindow dump) e hidden.first

module _ (d : Design) (h : Habit) (lawful : IsLawfulDesign d) (dump : BoundDump) (any : IsAnyDumpOf d dump) (rounds : AreLastRounds d dump) (t : ℕ) (w : Values Bit) (agrees : Agrees d (clear d h dump t) w) where
  -- at each hidden time after t the same is clear as at t
  abbrev IsSame : ℕ → Type 0
  IsSame v = ((x : Thing) (bits : List Bit) → clear d h dump v x bits → clear d h dump t x bits) × ((x : Thing) (bits : List Bit) → clear d h dump t x bits → clear d h dump v x bits)

  at_first : (v : ℕ) → v ≡ t → IsSame v
  at_first v e = (λ x bits k. subst (λ u. clear d h dump u x bits) e k, λ x bits k. subst (λ u. clear d h dump u x bits) (sym e) k)

  one_more : (v : ℕ) → IsHiddenOn dump t (suc v) → t ≤ v → IsSame v → IsSame (suc v)
  one_more v hidden le same =
      let window : IsWindow dump v = window_of dump any.rising t v le hidden in
      let unlisted : IsListed dump (suc v) → ⊥ = hidden.none (suc v) hidden.later (omega arith) in
      let before : IsListed dump v → ⊥ = hidden.none v le (omega arith) in
      let now : Agrees d (clear d h dump v) w = λ x bits k. agrees x bits (same.0 x bits k) in
      let sets : AreSameSets d dump v (suc v) = same_sets d dump any rounds v (suc v) (hidden_step dump t v le hidden window) in (
        λ x bits k. same.0 x bits (shrinks d lawful h dump any v hidden.last unlisted w now x bits k),
        λ x bits k. goes_on d lawful h dump any v hidden.last unlisted w now window before sets x bits (same.1 x bits k),
      )

  -- after so many times more
  is_same : (n v : ℕ) → v ≡ n + t → IsHiddenOn dump t v → IsSame v
  is_same zero v is hidden = at_first v (let none : v ≡ t = omega (arith, is) in none)
  is_same (suc n) v is hidden =
      let e : v ≡ suc (n + t) = omega (arith, is) in
      let le : t ≤ n + t = omega arith in
      let on : IsHiddenOn dump t (suc (n + t)) = subst (IsHiddenOn dump t) e hidden in
      subst IsSame (sym e) (one_more (n + t) on le (is_same n (n + t) refl (hidden_to dump t (n + t) le on (window_of dump any.rising t (n + t) le on))))

pub same_clear_law : (d : Design) (h : Habit) → IsLawfulDesign d → SameClearLaw d h
same_clear_law d h lawful dump any rounds t v hidden w agrees x bits =
    let n : ℕ = v - t in
    let is : v ≡ n + t = omega (arith, hidden.later) in
    let same = is_same d h lawful dump any rounds t w agrees n v is hidden in
    (same.0 x bits, same.1 x bits)
