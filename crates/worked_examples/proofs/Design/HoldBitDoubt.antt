-- What the block of hold knows at 5 where it tests one bit of a, and what it visits.
use Rattle.std.proofs.Common.{◌≡◌, ◌≢◌, ⊎_elim, refl, sym, ap, subst, ◌∙◌, inl, inr, ℕ, zero, suc, ◌<◌, true, false, [], ◌∷◌, List, arith, suc-ne-zero, lit<, lit≤, Some}
use Rattle.std.specs.Prelude.{nat_le, nat_lt}
use Rattle.std.specs.List.{list_any}
use Rattle.std.proofs.lemmas.Bool.{and_parts, false≢true, leb-true, ltb-true}
use Rattle.event_machine.specs.Cell.{Cell, Values}
use Rattle.event_machine.specs.Machine.{Edge, Posedge}
use Rattle.event_machine.specs.Habit.{Free}
use Rattle.event_machine.specs.MayMove.{MayMove}
use Rattle.event_machine.specs.Early.{IsEarly}
use Rattle.four_state.specs.declared.bit.Bit.{Bit}
use Rattle.four_state.specs.declared.bit.Bit.TheVariants.{One, Zero}
use Rattle.design_model.specs.Tree.{signal}
use Rattle.design_model.specs.Design.{In, IsThing, a_signal, a_word, body_at, cell, signal_bits}
use Rattle.design_model.specs.Execution.{at_line, cases, execution}
use Rattle.design_model.specs.Reads.{Agrees, HasValue, PartialMap}
use Rattle.design_model.specs.Machine.{is_input_cell, machine}
use Rattle.design_model.specs.Paths.{Path, paths, reaches}
use Rattle.design_model.specs.MayMove.{IsCleanAt, told_at}
use Rattle.design_model.specs.Early.{IsEarlyAt}
use Rattle.design_model.specs.Clear.{EntryFrom, clear, clear_before, of_dump}
use Rattle.design_model.specs.Open.{FollowsAll, HasAction, IsFixed, IsOpen, IsSurelyOpen, KnownOnEntry}
use Rattle.design_model.specs.Doubt.{IsInDoubt, read_early, of_block}
use Rattle.design_model.specs.ExampleParts.{counted}
use Rattle.design_model.proofs.Bound.{clear_bound}
use Rattle.worked_examples.specs.Design.HoldBit.{IsOldOrNew, hold_bit, hold_bit_dump, hold_bit_values, line_last, line_one, line_zero}
use Rattle.worked_examples.proofs.Design.Entry.{on_entry}
use Rattle.worked_examples.proofs.Design.OneSet.{one_rise}
use Rattle.worked_examples.proofs.Design.Parts.{Zero≢One, path_at, thing_of}
use Rattle.worked_examples.proofs.Design.PathSteps.{is_reaching, node_inside, reaching_found}

pub is_clean : IsCleanAt hold_bit hold_bit_dump 5 0 (cell 0 0)
is_clean =
    record {
      clocked = λ x. refl;
      can_wake = ((Posedge, refl, λ s. refl), MayMove.of_input (cell 0 0) (refl, λ s. Zero≢One));
      alone = λ c wakes. one_rise 0 wakes.0.0 c wakes.0.1;
      is_single = (refl, refl);
    }

only : (e : Cell) → IsCleanAt hold_bit hold_bit_dump 5 0 e → e ≡ cell 0 0
only e clean = one_rise 0 clean.can_wake.0.0 e clean.can_wake.0.1

-- of the inputs a alone moves besides the clock
moving_a : (x k : ℕ) → is_input_cell hold_bit (cell x k) ≡ true → (hold_bit_dump.bound x ≡ true → (told_at hold_bit_dump 5).old (cell x k) ≢ (told_at hold_bit_dump 5).new (cell x k)) → x ≢ 0 → x ≡ 2
moving_a zero k h moves ne = absurd (ne refl)
moving_a (suc zero) k h moves ne = absurd (moves refl refl)
moving_a (suc (suc zero)) k h moves ne = refl
moving_a (suc (suc (suc zero))) k h moves ne = absurd (false≢true h)
moving_a (suc (suc (suc (suc zero)))) k h moves ne = absurd (false≢true h)
moving_a (suc (suc (suc (suc (suc x))))) k h moves ne = absurd (false≢true h)

no_blocking : (p : ℕ) (c : Cell) → (machine hold_bit).blocking p c ≡ true → ⊥
no_blocking zero c h = false≢true h
no_blocking (suc p) c h = false≢true h

no_level : (p x : ℕ) → (machine hold_bit).level p x ≡ true → ⊥
no_level zero x h = false≢true h
no_level (suc p) x h = false≢true h

edge_zero : (p : ℕ) (e : Edge) (c : Cell) → (machine hold_bit).edge p e c ≡ true → c.thing ≡ 0
edge_zero zero e c h = ap (λ y. y.thing) (one_rise 0 e c h)
edge_zero (suc p) e c h = absurd (false≢true h)

pub only_a : (x : ℕ) → IsEarlyAt hold_bit Free hold_bit_dump 5 0 (cell 0 0) x → x ≡ 2
only_a x (IsEarly.of_input c moving free other) = moving_a c.thing c.place moving.0 moving.1 other
only_a x (IsEarly.of_trigger p c may_wake other blocks away) = absurd (no_blocking p c blocks)
only_a x (IsEarly.of_blocking y p c is may_wake other blocks away) = absurd (no_blocking p c blocks)
only_a x (IsEarly.of_nonblocking y p c is may_wake queues away) =
    ⊎_elim (λ l. absurd (no_level p y l)) (λ e. absurd (suc-ne-zero 1 (sym (only_a y is) ∙ sym e.1 ∙ edge_zero p e.2.0 e.0 e.2.1))) may_wake

a_early : IsEarlyAt hold_bit Free hold_bit_dump 5 0 (cell 0 0) 2
a_early = IsEarly.of_input (cell 2 0) (refl, λ s. Zero≢One) (λ i. refl) (λ e. absurd (suc-ne-zero 1 e))

no_words : (m i : ℕ) → IsThing hold_bit (a_word m i) → ⊥
no_words m i h = let p = and_parts (nat_le 5 m) (nat_lt m 5) h.0 in omega (arith, leb-true 5 m p.0, ltb-true m 5 p.1)

-- on entry a can have any bits
agrees : (a : List Bit) → Agrees hold_bit (KnownOnEntry hold_bit Free hold_bit_dump 5 0) (hold_bit_values One a Zero)
agrees a = on_entry hold_bit Free hold_bit_dump 5 0 (cell 0 0) only (hold_bit_values One a Zero) no_words refl others
  where
    others : (s : ℕ) → s < 5 → s ≢ 0 → (IsEarlyAt hold_bit Free hold_bit_dump 5 0 (cell 0 0) s → ⊥) → (bits : List Bit) → clear hold_bit Free hold_bit_dump 4 (a_signal s) bits → signal_bits hold_bit (hold_bit_values One a Zero) s ≡ bits
    others zero below ne not_early bits k = absurd (ne refl)
    others (suc zero) below ne not_early bits k = sym (clear_bound hold_bit Free hold_bit_dump 4 1 bits k refl)
    others (suc (suc zero)) below ne not_early bits k = absurd (not_early a_early)
    others (suc (suc (suc zero))) below ne not_early bits k = sym (clear_bound hold_bit Free hold_bit_dump 4 3 bits k refl)
    others (suc (suc (suc (suc zero)))) below ne not_early bits k = sym (clear_bound hold_bit Free hold_bit_dump 4 4 bits k refl)
    others (suc (suc (suc (suc (suc s))))) below ne not_early bits k = absurd (omega (arith, below))

abbrev K : PartialMap
K = KnownOnEntry hold_bit Free hold_bit_dump 5 0

abbrev old_a : List Bit
old_a = Zero ∷ One ∷ []

unknown : HasValue (KnownOnEntry hold_bit Free hold_bit_dump 5 0) (a_signal 2) → ⊥
unknown k = go k.1.2
  where
    go : EntryFrom hold_bit Free hold_bit_dump 5 (clear_before hold_bit Free hold_bit_dump 5) 0 k.1.0 (a_signal 2) k.0 → ⊥
    go (inl new) = suc-ne-zero 1 (ap thing_of new.0 ∙ ap (λ y. y.thing) (only k.1.0 k.1.1))
    go (inr old) = old.1 (subst (λ c. IsEarlyAt hold_bit Free hold_bit_dump 5 0 c 2) (sym (only k.1.0 k.1.1)) a_early)

-- en is known, with the value 0
has_en : HasValue (KnownOnEntry hold_bit Free hold_bit_dump 5 0) (a_signal 1)
has_en = (Zero ∷ [], (cell 0 0, is_clean, inr ((λ e. suc-ne-zero 0 (ap thing_of e)), (λ e. one_two 1 refl (only_a 1 e)), (1, of_dump 1 (Zero ∷ []) (lit≤ tt, lit< tt) refl (lit< tt) refl))))
  where
    one_two : (n : ℕ) → n ≡ 1 → n ≡ 2 → ⊥
    one_two n e f = omega (arith, e, f)

fixed_en : IsFixed hold_bit (KnownOnEntry hold_bit Free hold_bit_dump 5 0) (body_at hold_bit 0) (signal (counted 2) 1)
fixed_en = record { within = λ v a. (has_en, node_inside K (Some 2) (cases hold_bit v (signal (counted 2) 1))); unwritten = λ x m. refl }

pub is_not_open : IsOpen hold_bit (KnownOnEntry hold_bit Free hold_bit_dump 5 0) (body_at hold_bit 0) line_zero → ⊥
is_not_open h = go h.1.is_path
  where
    none : (k : ℕ) → path_at k (paths [] (body_at hold_bit 0)) ≡ h.0 → list_any (λ y. is_reaching 4 y.action) (path_at k (paths [] (body_at hold_bit 0))) ≡ false → ⊥
    none k e away = false≢true (sym away ∙ reaching_found 4 h.2.1.0 (path_at k (paths [] (body_at hold_bit 0))) (subst (In h.2.1.0) (sym e) h.2.1.1) h.2.1.3)

    closed : FollowsAll hold_bit K (body_at hold_bit 0) (path_at 1 (paths [] (body_at hold_bit 0))) → ⊥
    closed f = false≢true (f.1.1.1.0 fixed_en (hold_bit_values One old_a Zero) (agrees old_a))

    go : In h.0 (paths [] (body_at hold_bit 0)) → ⊥
    go (inl e) = none 0 e refl
    go (inr (inl e)) = closed (subst (FollowsAll hold_bit K (body_at hold_bit 0)) (sym e) h.1.follows)
    go (inr (inr (inl e))) = none 2 e refl
    go (inr (inr (inr n))) = n

pub is_surely_open : IsSurelyOpen hold_bit (KnownOnEntry hold_bit Free hold_bit_dump 5 0) (body_at hold_bit 0) line_last
is_surely_open = (1 ∷ [], λ path o. go path o.is_path)
  where
    go : (path : Path) → In path (paths [] (body_at hold_bit 0)) → HasAction (λ x. x ≡ reaches 5) (1 ∷ []) path
    go path (inl e) = subst (HasAction (λ x. x ≡ reaches 5) (1 ∷ [])) e (_, inr (inr (inr (inr (inl refl)))), refl, refl)
    go path (inr (inl e)) = subst (HasAction (λ x. x ≡ reaches 5) (1 ∷ [])) e (_, inr (inr (inr (inr (inr (inr (inl refl)))))), refl, refl)
    go path (inr (inr (inl e))) = subst (HasAction (λ x. x ≡ reaches 5) (1 ∷ [])) e (_, inr (inr (inr (inr (inl refl)))), refl, refl)
    go path (inr (inr (inr n))) = absurd n

open_one : IsOpen hold_bit (KnownOnEntry hold_bit Free hold_bit_dump 5 0) (body_at hold_bit 0) line_one
open_one = (_, record { is_path = inl refl; follows = (tt, ((λ fixed. absurd (unknown (fixed.within (hold_bit_values One old_a Zero) (agrees old_a)).0)), (tt, (tt, (tt, (tt, tt)))))) }, (_, (_, inr (inr (inl refl)), refl, refl)))

pub doubt_a : IsInDoubt hold_bit Free hold_bit_dump line_one 5 2
doubt_a =
    of_block 0 (lit< tt, lit< tt) refl (inl ((cell 0 0, is_clean.can_wake), inr open_one))
    (read_early (record { thing = a_signal 2; trigger = cell 0 0; of_owner = refl; is_clean = is_clean; is_read = inl (hold_bit_values One old_a Zero, agrees old_a, inr (tt, inl refl)); is_early = a_early }))

-- old or new, bit 1 is 1
pub high_one : (v : Values Bit) → IsOldOrNew v (cell 2 1) → v (cell 2 1) ≡ One
high_one v (inl e) = e
high_one v (inr e) = e

pub visits_two : (v : Values Bit) → v (cell 2 1) ≡ One → In (at_line 2) (execution hold_bit (body_at hold_bit 0) v).visits
visits_two v e = rw e (inr (inr (inr (inl refl))))
