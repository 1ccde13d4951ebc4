-- Extension in a context.
use Rattle.std.proofs.Common.{◌≡◌, ℕ, zero, suc, ◌+◌, ◌*◌, ◌<◌, ◌≤◌, List, [], ◌∷◌, length, length-append, refl, sym, ap, arith}
use Rattle.std.proofs.Math.Nat.{mul-le-mul_right, suc-mul, zero-mul}
use Rattle.design_model.specs.Value.{copies}
use Rattle.four_state.specs.Vector.{fit}
use Rattle.elab_const.specs.Meaning.{Meaning, alone}
use Rattle.four_state.specs.declared.bit.Bit.{Bit}

-- what is fitted to a width has it
pub length-fit : (w : ℕ) (d : Bit) (bs : List Bit) → length (fit w d bs) ≡ w
length-fit zero d bs = refl
length-fit (suc w) d [] = ap suc (length-fit w d [])
length-fit (suc w) d (b ∷ bs) = ap suc (length-fit w d bs)

-- bits fitted to their own width are the same
pub fit-own : (d : Bit) (bs : List Bit) → fit (length bs) d bs ≡ bs
fit-own d [] = refl
fit-own d (b ∷ bs) = ap (◌∷◌ b) (fit-own d bs)

-- a value has the width of its context
pub length_alone : (m : Meaning) → length (alone m) ≡ m.shape.width
length_alone m = length-fit m.shape.width _ (m.bits m.shape.width m.shape.signed)

-- how long copies are
pub length-copies : (n : ℕ) (bs : List Bit) → length (copies n bs) ≡ n * length bs
length-copies zero bs = sym (zero-mul (length bs))
length-copies (suc n) bs = omega (arith, length-append bs (copies n bs), length-copies n bs, suc-mul n (length bs))

-- one copy more fits
pub copies_fit : (n times : ℕ) (bs : List Bit) → n < times → times * length bs ≤ 128 → length (copies n bs) + length bs ≤ 128
copies_fit n times bs less fits =
    let more : suc n * length bs ≤ times * length bs = mul-le-mul_right (length bs) less in
    rw length-copies (omega (arith, more))
