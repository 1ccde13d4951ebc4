-- What the block of hold knows at 5, and its three paths.
use Rattle.std.proofs.Common.{◌≡◌, ◌≢◌, ⊎_elim, refl, sym, ap, subst, ◌∙◌, inl, inr, ℕ, zero, suc, ◌<◌, ◌==◌, true, false, [], ◌∷◌, List, arith, suc-ne-zero, lit<, lit≤, Some}
use Rattle.std.specs.Prelude.{nat_le, nat_lt}
use Rattle.std.specs.List.{list_any}
use Rattle.std.proofs.lemmas.Bool.{and_parts, eqb-true, false≢true, leb-true, ltb-true, or_cases}
use Rattle.event_machine.specs.Cell.{Cell}
use Rattle.event_machine.specs.Machine.{Edge, Negedge, Posedge}
use Rattle.event_machine.specs.Habit.{Free}
use Rattle.event_machine.specs.MayMove.{MayMove}
use Rattle.event_machine.specs.Early.{IsEarly}
use Rattle.four_state.specs.declared.bit.Bit.{Bit}
use Rattle.four_state.specs.declared.bit.Bit.TheVariants.{One, Zero}
use Rattle.design_model.specs.Tree.{signal}
use Rattle.design_model.specs.Design.{In, IsThing, Thing, a_signal, a_word, body_at, cell, signal_bits}
use Rattle.design_model.specs.Execution.{cases}
use Rattle.design_model.specs.Reads.{Agrees, HasValue}
use Rattle.design_model.specs.Machine.{is_input_cell, machine}
use Rattle.design_model.specs.Paths.{Path, paths, reaches}
use Rattle.design_model.specs.MayMove.{IsCleanAt, told_at}
use Rattle.design_model.specs.Early.{IsEarlyAt}
use Rattle.design_model.specs.Clear.{EntryFrom, clear, clear_before, of_dump}
use Rattle.design_model.specs.Open.{FollowsAll, HasAction, IsFixed, IsOpen, IsSurelyOpen, KnownOnEntry}
use Rattle.design_model.specs.Doubt.{IsInDoubt, read_early, of_block}
use Rattle.design_model.specs.ExampleParts.{counted}
use Rattle.design_model.proofs.Bound.{clear_bound}
use Rattle.worked_examples.specs.Design.Hold.{hold, hold_dump, hold_values, line_last, line_one, line_zero}
use Rattle.worked_examples.proofs.Design.Entry.{on_entry}
use Rattle.worked_examples.proofs.Design.PathSteps.{is_reaching, node_inside, reaching_found}

One≢Zero : One ≢ Zero
One≢Zero = grind arith

Zero≢One : Zero ≢ One
Zero≢One = grind arith

abbrev thing_of : Thing → ℕ
thing_of (a_signal s) = s
thing_of (a_word m i) = m

-- the clock
clk_cell : (e : Edge) (c : Cell) → (machine hold).edge 0 e c ≡ true → c ≡ cell 0 0
clk_cell Posedge c h =
    let p = and_parts (c.place == 0) _ h in
    λ i. record { thing = ⊎_elim (λ e. sym (eqb-true 0 c.thing e)) (λ e. absurd (false≢true e)) (or_cases (0 == c.thing) false p.1) i; place = eqb-true c.place 0 p.0 i }
clk_cell Negedge c h = absurd (false≢true (and_parts (c.place == 0) false h).1)

pub is_clean : IsCleanAt hold hold_dump 5 0 (cell 0 0)
is_clean =
    record {
      clocked = λ x. refl;
      can_wake = ((Posedge, refl, λ s. refl), MayMove.of_input (cell 0 0) (refl, λ s. Zero≢One));
      alone = λ c wakes. clk_cell wakes.0.0 c wakes.0.1;
      is_single = (refl, refl);
    }

only : (e : Cell) → IsCleanAt hold hold_dump 5 0 e → e ≡ cell 0 0
only e clean = clk_cell clean.can_wake.0.0 e clean.can_wake.0.1

-- which cells are inputs
input_cell : (x k : ℕ) → is_input_cell hold (cell x k) ≡ true → k ≡ 0
input_cell zero k h = below_one k (ltb-true k 1 h)
  where
    below_one : (k : ℕ) → k < 1 → k ≡ 0
    below_one k h = omega arith
input_cell (suc zero) k h = below_one k (ltb-true k 1 h)
  where
    below_one : (k : ℕ) → k < 1 → k ≡ 0
    below_one k h = omega arith
input_cell (suc (suc zero)) k h = below_one k (ltb-true k 1 h)
  where
    below_one : (k : ℕ) → k < 1 → k ≡ 0
    below_one k h = omega arith
input_cell (suc (suc (suc zero))) k h = absurd (false≢true h)
input_cell (suc (suc (suc (suc zero)))) k h = absurd (false≢true h)
input_cell (suc (suc (suc (suc (suc x))))) k h = absurd (false≢true h)

-- of the inputs a alone moves besides the clock
moving_a : (x k : ℕ) → is_input_cell hold (cell x k) ≡ true → k ≡ 0 → (hold_dump.bound x ≡ true → (told_at hold_dump 5).old (cell x k) ≢ (told_at hold_dump 5).new (cell x k)) → x ≢ 0 → x ≡ 2
moving_a zero k h z moves ne = absurd (ne refl)
moving_a (suc zero) k h z moves ne = absurd (moves refl refl)
moving_a (suc (suc zero)) k h z moves ne = refl
moving_a (suc (suc (suc zero))) k h z moves ne = absurd (false≢true h)
moving_a (suc (suc (suc (suc zero)))) k h z moves ne = absurd (false≢true h)
moving_a (suc (suc (suc (suc (suc x))))) k h z moves ne = absurd (false≢true h)

no_blocking : (p : ℕ) (c : Cell) → (machine hold).blocking p c ≡ true → ⊥
no_blocking zero c h = false≢true h
no_blocking (suc p) c h = false≢true h

no_level : (p x : ℕ) → (machine hold).level p x ≡ true → ⊥
no_level zero x h = false≢true h
no_level (suc p) x h = false≢true h

edge_zero : (p : ℕ) (e : Edge) (c : Cell) → (machine hold).edge p e c ≡ true → c.thing ≡ 0
edge_zero zero e c h = ap (λ y. y.thing) (clk_cell e c h)
edge_zero (suc p) e c h = absurd (false≢true h)

pub only_a : (x : ℕ) → IsEarlyAt hold Free hold_dump 5 0 (cell 0 0) x → x ≡ 2
only_a x (IsEarly.of_input c moving free other) = moving_a c.thing c.place moving.0 (input_cell c.thing c.place moving.0) moving.1 other
only_a x (IsEarly.of_trigger p c may_wake other blocks away) = absurd (no_blocking p c blocks)
only_a x (IsEarly.of_blocking y p c is may_wake other blocks away) = absurd (no_blocking p c blocks)
only_a x (IsEarly.of_nonblocking y p c is may_wake queues away) =
    ⊎_elim (λ l. absurd (no_level p y l)) (λ e. absurd (suc-ne-zero 1 (sym (only_a y is) ∙ sym e.1 ∙ edge_zero p e.2.0 e.0 e.2.1))) may_wake

pub a_early : IsEarlyAt hold Free hold_dump 5 0 (cell 0 0) 2
a_early = IsEarly.of_input (cell 2 0) (refl, λ s. One≢Zero) (λ i. refl) (λ e. absurd (suc-ne-zero 1 e))

no_words : (m i : ℕ) → IsThing hold (a_word m i) → ⊥
no_words m i h = let p = and_parts (nat_le 5 m) (nat_lt m 5) h.0 in omega (arith, leb-true 5 m p.0, ltb-true m 5 p.1)

-- on entry a can be old or new
agrees : (b : Bit) → Agrees hold (KnownOnEntry hold Free hold_dump 5 0) (hold_values One Zero b Zero Zero)
agrees b = on_entry hold Free hold_dump 5 0 (cell 0 0) only (hold_values One Zero b Zero Zero) no_words refl others
  where
    others : (s : ℕ) → s < 5 → s ≢ 0 → (IsEarlyAt hold Free hold_dump 5 0 (cell 0 0) s → ⊥) → (bits : List Bit) → clear hold Free hold_dump 4 (a_signal s) bits → signal_bits hold (hold_values One Zero b Zero Zero) s ≡ bits
    others zero below ne not_early bits k = absurd (ne refl)
    others (suc zero) below ne not_early bits k = sym (clear_bound hold Free hold_dump 4 1 bits k refl)
    others (suc (suc zero)) below ne not_early bits k = absurd (not_early a_early)
    others (suc (suc (suc zero))) below ne not_early bits k = sym (clear_bound hold Free hold_dump 4 3 bits k refl)
    others (suc (suc (suc (suc zero)))) below ne not_early bits k = sym (clear_bound hold Free hold_dump 4 4 bits k refl)
    others (suc (suc (suc (suc (suc s))))) below ne not_early bits k = absurd (omega (arith, below))

unknown : HasValue (KnownOnEntry hold Free hold_dump 5 0) (a_signal 2) → ⊥
unknown k = go k.1.2
  where
    go : EntryFrom hold Free hold_dump 5 (clear_before hold Free hold_dump 5) 0 k.1.0 (a_signal 2) k.0 → ⊥
    go (inl new) = suc-ne-zero 1 (ap thing_of new.0 ∙ ap (λ y. y.thing) (only k.1.0 k.1.1))
    go (inr old) = old.1 (subst (λ c. IsEarlyAt hold Free hold_dump 5 0 c 2) (sym (only k.1.0 k.1.1)) a_early)

-- en is known, with the value 0
has_en : HasValue (KnownOnEntry hold Free hold_dump 5 0) (a_signal 1)
has_en = (Zero ∷ [], (cell 0 0, is_clean, inr ((λ e. suc-ne-zero 0 (ap thing_of e)), (λ e. one_two 1 refl (only_a 1 e)), (1, of_dump 1 (Zero ∷ []) (lit≤ tt, lit< tt) refl (lit< tt) refl))))
  where
    one_two : (n : ℕ) → n ≡ 1 → n ≡ 2 → ⊥
    one_two n e f = omega (arith, e, f)

fixed_en : IsFixed hold (KnownOnEntry hold Free hold_dump 5 0) (body_at hold 0) (signal (counted 2) 1)
fixed_en = record { within = λ v a. (has_en, node_inside (KnownOnEntry hold Free hold_dump 5 0) (Some 2) (cases hold v (signal (counted 2) 1))); unwritten = λ x m. refl }

abbrev path_at : ℕ → List Path → Path
path_at n [] = []
path_at zero (p ∷ ps) = p
path_at (suc n) (p ∷ ps) = path_at n ps

pub not_open : IsOpen hold (KnownOnEntry hold Free hold_dump 5 0) (body_at hold 0) line_zero → ⊥
not_open h = go h.1.is_path
  where
    none : (k : ℕ) → path_at k (paths [] (body_at hold 0)) ≡ h.0 → list_any (λ y. is_reaching 4 y.action) (path_at k (paths [] (body_at hold 0))) ≡ false → ⊥
    none k e away = false≢true (sym away ∙ reaching_found 4 h.2.1.0 (path_at k (paths [] (body_at hold 0))) (subst (In h.2.1.0) (sym e) h.2.1.1) h.2.1.3)

    closed : FollowsAll hold (KnownOnEntry hold Free hold_dump 5 0) (body_at hold 0) (path_at 1 (paths [] (body_at hold 0))) → ⊥
    closed f = false≢true (f.1.1.1.0 fixed_en (hold_values One Zero Zero Zero Zero) (agrees Zero))

    go : In h.0 (paths [] (body_at hold 0)) → ⊥
    go (inl e) = none 0 e refl
    go (inr (inl e)) = closed (subst (FollowsAll hold (KnownOnEntry hold Free hold_dump 5 0) (body_at hold 0)) (sym e) h.1.follows)
    go (inr (inr (inl e))) = none 2 e refl
    go (inr (inr (inr n))) = n

pub surely_open : IsSurelyOpen hold (KnownOnEntry hold Free hold_dump 5 0) (body_at hold 0) line_last
surely_open = (1 ∷ [], λ path o. go path o.is_path)
  where
    go : (path : Path) → In path (paths [] (body_at hold 0)) → HasAction (λ x. x ≡ reaches 5) (1 ∷ []) path
    go path (inl e) = subst (HasAction (λ x. x ≡ reaches 5) (1 ∷ [])) e (_, inr (inr (inr (inr (inl refl)))), refl, refl)
    go path (inr (inl e)) = subst (HasAction (λ x. x ≡ reaches 5) (1 ∷ [])) e (_, inr (inr (inr (inr (inr (inr (inl refl)))))), refl, refl)
    go path (inr (inr (inl e))) = subst (HasAction (λ x. x ≡ reaches 5) (1 ∷ [])) e (_, inr (inr (inr (inr (inl refl)))), refl, refl)
    go path (inr (inr (inr n))) = absurd n

open_one : IsOpen hold (KnownOnEntry hold Free hold_dump 5 0) (body_at hold 0) line_one
open_one = (_, record { is_path = inl refl; follows = (tt, ((λ fixed. absurd (unknown (fixed.within (hold_values One Zero Zero Zero Zero) (agrees Zero)).0)), (tt, (tt, (tt, (tt, tt)))))) }, (_, (_, inr (inr (inl refl)), refl, refl)))

pub doubt_a : IsInDoubt hold Free hold_dump line_one 5 2
doubt_a =
    of_block 0 (lit< tt, lit< tt) refl (inl ((cell 0 0, is_clean.can_wake), inr open_one)) (read_early (record { thing = a_signal 2; trigger = cell 0 0; of_owner = refl; is_clean = is_clean; is_read = inl (hold_values One Zero Zero Zero Zero, agrees Zero, inr (tt, inl refl)); is_early = a_early }))
