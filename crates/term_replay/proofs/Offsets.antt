-- A part that begins far from a vector has no bit of it, so an index may be cut where it is far from 0.
use Rattle.std.proofs.Common.{◌≡◌, ◌∙◌, ◌⊎◌, ℕ, zero, suc, ◌+◌, ◌-◌, ◌<◌, ◌≤◌, ◌^◌, Bool, true, false, if◌then◌else◌, List, ◌∷◌, length, Option, Some, None, ℤ, pos, negsuc, ◌+ℤ◌, ◌-ℤ◌, ◌≤ℤ◌, min, nat_le, refl, sym, ap, ap₂, subst, arith, inl, inr, ⊎_elim}
use Rattle.std.proofs.lemmas.Bool.{cases_lt, le-leb, le-ltb, lt-leb}
use Rattle.std.proofs.lemmas.Int.{ints}
use Rattle.four_state.specs.declared.bit.Bit.{Bit}
use Rattle.four_state.specs.declared.bit.Bit.TheVariants.{X, Zero, One}
use Rattle.four_state.specs.Vector.{fill}
use Rattle.four_state.specs.Parts.{bits_from, option_bit}
use Rattle.known_state.specs.Partly.{filled}
use Rattle.known_state.specs.Join.{joined}
use Rattle.known_state.proofs.Allowed.{length-filled}
use Rattle.design_model.specs.declared.design.Range.{Range}
use Rattle.design_model.specs.Value.{least_index, offset, offset_option, slide_offset}
use Rattle.body_replay.specs.KnownBits.{KnownBits, select_option, sure}
use Rattle.term_replay.specs.Near.{far, near, near_option}

-- w bits from this offset up are all outside of n bits
pub data IsOutside (n w : ℕ) : ℤ → Type 0 where
  above : {k : ℕ} → n ≤ k → IsOutside n w (pos k)
  below : {k : ℕ} → w ≤ suc k → IsOutside n w (negsuc k)

all_above : (bs : List Bit) (w k : ℕ) → length bs ≤ k → bits_from bs (pos k) w ≡ fill w X
all_above bs zero k h = refl
all_above bs (suc w) k h =
    ap₂ (λ x y. x ∷ y)
    (ap (λ b. option_bit bs (if b then Some k else None)) (le-ltb k (length bs) h))
    (let e : pos k +ℤ pos 1 ≡ pos (k + 1) = omega (arith, ints) in ap (λ z. bits_from bs z w) e ∙ all_above bs w (k + 1) (omega arith))

all_below : (bs : List Bit) (w k : ℕ) → w ≤ suc k → bits_from bs (negsuc k) w ≡ fill w X
all_below bs zero k h = refl
all_below bs (suc zero) zero h = refl
all_below bs (suc (suc w)) zero h = absurd (omega arith)
all_below bs (suc w) (suc k) h =
    ap (λ r. X ∷ r) (let e : negsuc (suc k) +ℤ pos 1 ≡ negsuc k = omega (arith, ints) in ap (λ z. bits_from bs z w) e ∙ all_below bs w k (omega arith))

outside_x : (bs : List Bit) (w : ℕ) (from : ℤ) → IsOutside (length bs) w from → bits_from bs from w ≡ fill w X
outside_x bs w (pos k) (above h) = all_above bs w k h
outside_x bs w (negsuc k) (below h) = all_below bs w k h

select_x : (ps : KnownBits) (w : ℕ) (from : ℤ) → IsOutside (length ps) w from → select_option ps (Some from) w ≡ joined (sure (fill w X)) (sure (fill w X))
select_x ps w from o = ap₂ (λ x y. joined (sure x) (sure y)) (one Zero) (one One)
  where
    one : (b : Bit) → bits_from (filled b ps) from w ≡ fill w X
    one b = outside_x (filled b ps) w from (subst (λ n. IsOutside n w from) (sym (length-filled b ps)) o)

-- both are outside, or they are one
pub both_outside : (ps : KnownBits) (w : ℕ) (from to : ℤ) → IsOutside (length ps) w from → IsOutside (length ps) w to → select_option ps (Some from) w ≡ select_option ps (Some to) w
both_outside ps w from to a b = select_x ps w from a ∙ sym (select_x ps w to b)

-- a whole number at least so far from 0
pub data IsFar (b : ℕ) : ℤ → Type 0 where
  up_by : {k : ℕ} → b ≤ k → IsFar b (pos k)
  down_by : {k : ℕ} → b ≤ k → IsFar b (negsuc k)

lowered : (b c : ℕ) (z : ℤ) → c ≤ b → IsFar b z → IsFar (b - c) (z -ℤ pos c)
lowered b c (pos k) h (up_by l) = let e : pos (k - c) ≡ pos k -ℤ pos c = omega (arith, ints) in subst (IsFar (b - c)) e (up_by (omega arith))
lowered b c (negsuc k) h (down_by l) = let e : negsuc (k + c) ≡ negsuc k -ℤ pos c = omega (arith, ints) in subst (IsFar (b - c)) e (down_by (omega arith))

raised : (b c : ℕ) (z : ℤ) → c ≤ b → IsFar b z → IsFar (b - c) (z +ℤ pos c)
raised b c (pos k) h (up_by l) = let e : pos (k + c) ≡ pos k +ℤ pos c = omega (arith, ints) in subst (IsFar (b - c)) e (up_by (omega arith))
raised b c (negsuc k) h (down_by l) = let e : negsuc (k - c) ≡ negsuc k +ℤ pos c = omega (arith, ints) in subst (IsFar (b - c)) e (down_by (omega arith))

weaker : (b c : ℕ) (z : ℤ) → c ≤ b → IsFar b z → IsFar c z
weaker b c (pos k) h (up_by l) = up_by (omega arith)
weaker b c (negsuc k) h (down_by l) = down_by (omega arith)

-- the offset of an index that is far from 0
falling_out : (low n w : ℕ) (z : ℤ) → n ≤ 128 → w ≤ 128 → IsFar (low + 128) z → IsOutside n w (z -ℤ pos low)
falling_out low n w (pos k) a b (up_by l) = let e : pos (k - low) ≡ pos k -ℤ pos low = omega (arith, ints) in subst (IsOutside n w) e (above (omega arith))
falling_out low n w (negsuc k) a b (down_by l) = let e : negsuc (k + low) ≡ negsuc k -ℤ pos low = omega (arith, ints) in subst (IsOutside n w) e (below (omega arith))

rising_out : (low n w : ℕ) (z : ℤ) → n ≤ 128 → w ≤ 128 → IsFar (low + 128) z → IsOutside n w (pos low -ℤ z)
rising_out low n w (pos k) a b (up_by l) = let e : negsuc (k - low - 1) ≡ pos low -ℤ pos k = omega (arith, ints) in subst (IsOutside n w) e (below (omega arith))
rising_out low n w (negsuc k) a b (down_by l) = let e : pos (low + k + 1) ≡ pos low -ℤ negsuc k = omega (arith, ints) in subst (IsOutside n w) e (above (omega arith))

offset_out : (r : Range) (n w : ℕ) (z : ℤ) → n ≤ 128 → w ≤ 128 → IsFar (r.low + 128) z → IsOutside n w (offset r z)
offset_out r n w z a b f = go (nat_le r.low r.high)
  where
    go : (t : Bool) → IsOutside n w (if t then z -ℤ pos r.low else pos r.low -ℤ z)
    go true = falling_out r.low n w z a b f
    go false = rising_out r.low n w z a b f

-- a number is not cut, or it and what is left are far from 0
near_cases : (z : ℤ) → (near z ≡ z) ⊎ (IsFar far z × IsFar far (near z))
near_cases (pos n) =
    ⊎_elim (λ l. inl (let e : min n far ≡ n = omega arith in ap pos e)) (λ l. inr (up_by l, up_by (omega arith))) (cases_lt n far)
near_cases (negsuc n) =
    ⊎_elim (λ l. inl (let e : min n far ≡ n = omega arith in ap negsuc e)) (λ l. inr (down_by l, down_by (omega arith))) (cases_lt n far)

-- so a cut index selects the same bits
pub near_bit : (ps : KnownBits) (r : Range) (o : Option ℤ) (w : ℕ) → r.low < 2 ^ 32 → length ps ≤ 128 → w ≤ 128 → select_option ps (offset_option r (near_option o)) w ≡ select_option ps (offset_option r o) w
near_bit ps r None w low long wide = refl
near_bit ps r (Some z) w low long wide =
    ⊎_elim (λ e. ap (λ y. select_option ps (Some (offset r y)) w) e)
    (λ f. both_outside ps w (offset r (near z)) (offset r z) (offset_out r (length ps) w (near z) long wide (weaker far (r.low + 128) (near z) (omega arith) f.1)) (offset_out r (length ps) w z long wide (weaker far (r.low + 128) z (omega arith) f.0)))
    (near_cases z)

-- the lowest index of a part from a base that is far from 0
least_far : (up : Bool) (w : ℕ) (z : ℤ) → w ≤ 128 → IsFar far z → IsFar (far - 128) (least_index up z w)
least_far true w z wide f = weaker far (far - 128) z (omega arith) f
least_far false w z wide f = weaker (far - (w - 1)) (far - 128) (z -ℤ pos (w - 1)) (omega arith) (lowered far (w - 1) z (omega arith) f)

slide_out : (r : Range) (up : Bool) (n w : ℕ) (z : ℤ) → r.low < 2 ^ 32 → n ≤ 128 → w ≤ 128 → IsFar far z → IsOutside n w (offset r (if nat_le r.low r.high then least_index up z w else least_index up z w +ℤ pos (w - 1)))
slide_out r up n w z low a b f = offset_out r n w _ a b (go (nat_le r.low r.high))
  where
    least : IsFar (far - 128) (least_index up z w)
    least = least_far up w z b f

    go : (t : Bool) → IsFar (r.low + 128) (if t then least_index up z w else least_index up z w +ℤ pos (w - 1))
    go true = weaker (far - 128) (r.low + 128) _ (omega arith) least
    go false = weaker (far - 128 - (w - 1)) (r.low + 128) _ (omega arith) (raised (far - 128) (w - 1) _ (omega arith) least)

pub near_slide : (ps : KnownBits) (r : Range) (up : Bool) (w : ℕ) (o : Option ℤ) → r.low < 2 ^ 32 → length ps ≤ 128 → w ≤ 128 → select_option ps (slide_offset r up w (near_option o)) w ≡ select_option ps (slide_offset r up w o) w
near_slide ps r up w None low long wide = refl
near_slide ps r up w (Some z) low long wide =
    ⊎_elim (λ e. ap (λ y. select_option ps (slide_offset r up w (Some y)) w) e)
    (λ f. both_outside ps w _ _ (slide_out r up (length ps) w (near z) low long wide f.1) (slide_out r up (length ps) w z low long wide f.0))
    (near_cases z)

-- in a falling range
pub falling_up : (r : Range) (w : ℕ) (b : ℤ) → r.low ≤ r.high → slide_offset r true w (Some b) ≡ Some (b -ℤ pos r.low)
falling_up r w b l =
    ap (λ t. Some (if t then (if t then b else b +ℤ pos (w - 1)) -ℤ pos r.low else pos r.low -ℤ (if t then b else b +ℤ pos (w - 1)))) (le-leb r.low r.high l)

pub falling_down : (r : Range) (w : ℕ) (b : ℤ) → r.low ≤ r.high → slide_offset r false w (Some b) ≡ Some ((b -ℤ pos (w - 1)) -ℤ pos r.low)
falling_down r w b l =
    ap (λ t. Some (if t then (if t then b -ℤ pos (w - 1) else (b -ℤ pos (w - 1)) +ℤ pos (w - 1)) -ℤ pos r.low else pos r.low -ℤ (if t then b -ℤ pos (w - 1) else (b -ℤ pos (w - 1)) +ℤ pos (w - 1)))) (le-leb r.low r.high l)

-- in a rising range, up from the base
pub rising_up : (r : Range) (w : ℕ) (b : ℤ) → r.high < r.low → slide_offset r true w (Some b) ≡ Some (pos r.low -ℤ (b +ℤ pos (w - 1)))
rising_up r w b l =
    ap (λ t. Some (if t then (if t then b else b +ℤ pos (w - 1)) -ℤ pos r.low else pos r.low -ℤ (if t then b else b +ℤ pos (w - 1)))) (lt-leb r.low r.high l)

-- in a rising range, down from the base
pub rising_down : (r : Range) (w : ℕ) (b : ℤ) → nat_le r.low r.high ≡ false → slide_offset r false w (Some b) ≡ Some (pos r.low -ℤ b)
rising_down r w b e =
    let same : (b -ℤ pos (w - 1)) +ℤ pos (w - 1) ≡ b = omega (arith, ints) in
    ap (λ t. Some (if t then (if t then b -ℤ pos (w - 1) else (b -ℤ pos (w - 1)) +ℤ pos (w - 1)) -ℤ pos r.low else pos r.low -ℤ (if t then b -ℤ pos (w - 1) else (b -ℤ pos (w - 1)) +ℤ pos (w - 1)))) e ∙ ap (λ z. Some (pos r.low -ℤ z)) same

-- an index that was cut is near 0
pub near_within : (o : Option ℤ) (b : ℤ) → Some b ≡ near_option o → (negsuc far ≤ℤ b) × (b ≤ℤ pos far)
near_within None b e = absurd (cc)
near_within (Some (pos n)) b e = let is : b ≡ pos (min n far) = cc in (omega (arith, ints, is), omega (arith, ints, is))
near_within (Some (negsuc n)) b e = let is : b ≡ negsuc (min n far) = cc in (omega (arith, ints, is), omega (arith, ints, is))
