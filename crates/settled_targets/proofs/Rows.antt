-- The signals and the bits of a row, one bits after the other.
use Rattle.std.proofs.Common.{◌≡◌, ℕ, zero, suc, ◌+◌, ◌<◌, ◌==◌, ◌&&◌, ◌||◌, Bool, true, false, not, if◌then◌else◌, List, [], ◌∷◌, get_or, length, map, take, Option, None, refl, sym, ap, ap₂, subst, ◌∙◌, inl, inr, arith}
use Rattle.std.proofs.Math.Path.{fun_ext}
use Rattle.std.proofs.lemmas.Bool.{and_parts, eqb-true, false_from_ne_true, or_from, true≢false}
use Rattle.std.proofs.lemmas.List.Folds.{list_any_more}
use Rattle.event_machine.specs.Cell.{Cell}
use Rattle.four_state.specs.Masks.{is_set}
use Rattle.four_state.specs.declared.bit.Bit.{Bit}
use Rattle.design_model.specs.Design.{In}
use Rattle.step_values.specs.body_replay.Store.{Kept}
use Rattle.process_targets.specs.Targets.{IsOnce, has_bit, names, row_has}
use Rattle.process_targets.specs.declared.bits.Bits.{Bits}
use Rattle.step_values.specs.Loose.{has_code}
use Rattle.settled_targets.specs.Returned.{holding, remade, returned}
use Rattle.settled_targets.specs.Saved.{hiding}

-- ---- the names of a row

pub named_more : (row : List Bits) (i : ℕ) (e : Bits) (s : ℕ) → i < length row → names (take (i + 1) row) s ≡ (names (take i row) s || (get_or row i e).signal == s)
named_more row i e s l = list_any_more (λ (y : Bits). y.signal == s) row i e l

in_signals : (row : List Bits) (i : ℕ) (e : Bits) → i < length row → In (get_or row i e).signal (map (λ (y : Bits). y.signal) row)
in_signals [] i e l = absurd (omega (arith, l))
in_signals (y ∷ row) zero e l = inl refl
in_signals (y ∷ row) (suc i) e l = inr (in_signals row i e (omega (arith, l)))

-- a signal of a row is not among those before it
pub once_before : (row : List Bits) (i : ℕ) (e : Bits) → i < length row → IsOnce row → names (take i row) (get_or row i e).signal ≡ false
once_before [] i e l once = absurd (omega (arith, l))
once_before (y ∷ row) zero e l once = refl
once_before (y ∷ row) (suc i) e l once =
    let inside : i < length row = omega (arith, l) in
    or_from (y.signal == (get_or row i e).signal) (names (take i row) (get_or row i e).signal)
    (false_from_ne_true _ (λ h. once.0 (same h (in_signals row i e inside))))
    (once_before row i e inside once.1)
  where
    same : (y.signal == (get_or row i e).signal) ≡ true → In (get_or row i e).signal (map (λ (z : Bits). z.signal) row) → In y.signal (map (λ (z : Bits). z.signal) row)
    same h k = subst (λ s. In s (map (λ (z : Bits). z.signal) row)) (sym (eqb-true y.signal (get_or row i e).signal h)) k

or_none : (a b : Bool) → (a || b) ≡ false → (a ≡ false) × (b ≡ false)
or_none true b e = absurd (true≢false e)
or_none false b e = (refl, e)

-- a row has no bit of a thing that it does not name
pub unnamed : (row : List Bits) (c : Cell) → names row c.thing ≡ false → row_has row c ≡ false
unnamed [] c e = refl
unnamed (y ∷ row) c e =
    let parts = or_none (y.signal == c.thing) (names row c.thing) e in
    or_from (has_bit y c) (row_has row c) (ap (λ t. t && is_set y.mask c.place) parts.0) (unnamed row c parts.1)

-- ---- one bits more

module _ (codes : List (Option ℕ)) (named all_named : ℕ → Bool) (has all_has : Cell → Bool) (b : Bits) (apart : named b.signal ≡ false) (within : (c : Cell) → named c.thing ≡ false → has c ≡ false) (names_all : (s : ℕ) → all_named s ≡ (named s || b.signal == s)) (has_all : (c : Cell) → all_has c ≡ (has c || has_bit b c)) (k r m : Kept) where
  of_other : (c : Cell) → (b.signal == c.thing) ≡ true → named c.thing ≡ false
  of_other c e = ap named (sym (eqb-true b.signal c.thing e)) ∙ apart

  -- by whether the bits are of the signal and have the cell, whether those before name and have it, whether the dump has it not, and
  -- whether the run's value holds
  returned_at : (t bit n old free h : Bool) (p q : Option Bit) → (t ≡ true → n ≡ false) → (n ≡ false → old ≡ false) → (t ≡ false → bit ≡ false)
      → (if t then (if bit && free then (if h then (if n then (if old && free then (if h then q else None) else p) else q) else None) else p) else (if n then (if old && free then (if h then q else None) else p) else q))
      ≡ (if n || t then (if (old || bit) && free then (if h then q else None) else p) else q)
  returned_at true bit true old free h p q first second third = absurd (true≢false (first refl))
  returned_at true bit false true free h p q first second third = absurd (true≢false (second refl))
  returned_at true bit false false free h p q first second third = refl
  returned_at false true n old free h p q first second third = absurd (true≢false (third refl))
  returned_at false false true true free h p q first second third = refl
  returned_at false false true false free h p q first second third = refl
  returned_at false false false old free h p q first second third = refl

  pub returned_more : (h : Bool) → returned codes (λ s. b.signal == s) (has_bit b) h k (returned codes named has h k r) ≡ returned codes all_named all_has h k r
  returned_more h = fun_ext (λ c.
      returned_at (b.signal == c.thing) (has_bit b c) (named c.thing) (has c) (not (has_code codes c.thing)) h (k c) (r c) (of_other c) (within c) (λ e. ap (λ t. t && is_set b.mask c.place) e)
      ∙ ap₂ (λ n o. if n then (if o && not (has_code codes c.thing) then holding h r c else k c) else r c) (sym (names_all c.thing)) (sym (has_all c)))

  remade_at : (bit n old free h g : Bool) (o p q : Option Bit) → (bit ≡ true → n ≡ false)
      → (if bit then (if h then (if n then (if old && free then (if g then q else None) else p) else q) else None) else (if old then (if h then q else None) else o))
      ≡ (if old || bit then (if h then q else None) else o)
  remade_at true true old free h g o p q first = absurd (true≢false (first refl))
  remade_at true false true free h g o p q first = refl
  remade_at true false false free h g o p q first = refl
  remade_at false n true free h g o p q first = refl
  remade_at false n false free h g o p q first = refl

  pub remade_more : (g h : Bool) → remade (has_bit b) h (returned codes named has g k r) (remade has h r m) ≡ remade all_has h r m
  remade_more g h = fun_ext (λ c.
      remade_at (has_bit b c) (named c.thing) (has c) (not (has_code codes c.thing)) h g (m c) (k c) (r c) (λ e. of_other c (and_parts (b.signal == c.thing) (is_set b.mask c.place) e).0)
      ∙ ap (λ o. if o then holding h r c else m c) (sym (has_all c)))

-- ---- the same for what is hidden

hidden_at : (t n : Bool) (p : Option Bit) → (if t then None else (if n then None else p)) ≡ (if n || t then None else p)
hidden_at true true p = refl
hidden_at true false p = refl
hidden_at false true p = refl
hidden_at false false p = refl

pub hiding_more : (s : ℕ) (named all_named : ℕ → Bool) (k : Kept) → ((x : ℕ) → all_named x ≡ (named x || s == x)) → hiding (λ x. s == x) (hiding named k) ≡ hiding all_named k
hiding_more s named all_named k all = fun_ext (λ c. hidden_at (s == c.thing) (named c.thing) (k c) ∙ ap (λ n. if n then None else k c) (sym (all c.thing)))
