-- Operators that give x everywhere for an operand with x or z: what their answers have in common.
use Rattle.std.proofs.Common.{◌≡◌, ℕ, zero, suc, ◌/◌, ◌%◌, ◌<◌, ◌==◌, Bool, true, false, if◌then◌else◌, List, [], ◌∷◌, map, length, get_or, Option, Some, None, ℤ, pos, negsuc, refl, ap, arith, sym, ◌∙◌}
use Rattle.std.proofs.lemmas.Bool.{and_parts}
use Rattle.std.proofs.lemmas.List.{get_or-replicate}
use Rattle.std.specs.Option.{unwrap_or}
use Rattle.four_state.specs.declared.bit.Bit.{Bit}
use Rattle.four_state.specs.declared.bit.Bit.TheVariants.{Zero, One, X, Z}
use Rattle.four_state.specs.Vector.{all_known, is_known, bit_of, fill}
use Rattle.four_state.specs.Arithmetic.{not_bit, low_bits, cut}
use Rattle.known_state.specs.Partly.{allows_bits, allows_bit, filled}
use Rattle.known_state.proofs.Cases.{both_true, same_bit_eq}

-- either the same as for x at the bits that are not sure, or that is x everywhere and known for 1 there
pub data IsStrict (width : ℕ) (for_one for_x answer : List Bit) : Type 0 where
  same : answer ≡ for_x → IsStrict width for_one for_x answer
  apart : all_known for_one ≡ true → length for_one ≡ width → for_x ≡ fill width X → IsStrict width for_one for_x answer

known_at : (bs : List Bit) (i : ℕ) → all_known bs ≡ true → i < length bs → is_known (get_or bs i X) ≡ true
known_at [] i h l = absurd (omega arith)
known_at (b ∷ bs) zero h l = (and_parts (is_known b) (all_known bs) h).0
known_at (b ∷ bs) (suc i) h l = known_at bs i (and_parts (is_known b) (all_known bs) h).1 (omega arith)

-- so a bit that is the same for 1 and for x is that of the answer
pub strict_place : (w : ℕ) (for_one for_x answer : List Bit) (i : ℕ) (b : Bit) → IsStrict w for_one for_x answer → i < w → get_or for_one i X ≡ b → get_or for_x i X ≡ b → get_or answer i X ≡ b
strict_place w for_one for_x answer i b (same e) l p q = ap (λ bs. get_or bs i X) e ∙ q
strict_place w for_one for_x answer i b (apart known width e) l p q =
    let strange : X ≡ b = sym (get_or-replicate w i X X l) ∙ sym (ap (λ bs. get_or bs i X) e) ∙ q in
    let k : is_known (get_or for_one i X) ≡ true = known_at for_one i known (omega arith) in
    let bad : false ≡ true = ap is_known (strange ∙ sym p) ∙ k in
    cc

-- a result where the operands are known, and else x
pub strict_if : (known_for_one known_for_x known : Bool) (v u w : ℕ) (for_one for_x answer : List Bit) → v ≡ w → u ≡ w → (known_for_x ≡ true → (known ≡ true) × (answer ≡ for_x)) → (known ≡ true → (known_for_one ≡ true) × (all_known for_one ≡ true)) → length for_one ≡ w → IsStrict w (if known_for_one then for_one else fill v X) (if known_for_x then for_x else fill u X) (if known then answer else fill w X)
strict_if k1 true k v u w r1 rx r d e h one width = let f = h refl in rw f.0 (same f.1)
strict_if k1 false false v u w r1 rx r d e h one width = same (ap (λ n. fill n X) (sym e))
strict_if k1 false true v u w r1 rx r d e h one width = let f = one refl in rw f.0 (apart f.1 width (ap (λ n. fill n X) e))

-- ---- operands

known_case : (d : Bit) → is_known d ≡ true → (p : Option Bit) (b : Bit) → allows_bit p b ≡ true → is_known b ≡ true → is_known (unwrap_or p d) ≡ true
known_case d e None b h k = e
known_case d e (Some a) b h k = ap is_known (same_bit_eq a b h) ∙ k

-- where an allowed vector is known, so is the one that has 0 or 1 where it is not sure
pub known_for : (d : Bit) → is_known d ≡ true → (ps : List (Option Bit)) (bs : List Bit) → allows_bits ps bs ≡ true → all_known bs ≡ true → all_known (filled d ps) ≡ true
known_for d e [] bs h k = refl
known_for d e (p ∷ ps) [] h k = cc
known_for d e (p ∷ ps) (b ∷ bs) h k =
    let here = and_parts (allows_bit p b) (allows_bits ps bs) h in
    let known = and_parts (is_known b) (all_known bs) k in
    both_true _ _ (known_case d e p b here.0 known.0) (known_for d e ps bs here.1 known.1)

pub known_for_one : (ps : List (Option Bit)) (bs : List Bit) → allows_bits ps bs ≡ true → all_known bs ≡ true → all_known (filled One ps) ≡ true
known_for_one ps bs h k = known_for One refl ps bs h k

-- where the vector with x is known, all bits are sure, so it is the only one
pub known_for_x : (ps : List (Option Bit)) (bs : List Bit) → allows_bits ps bs ≡ true → all_known (filled X ps) ≡ true → bs ≡ filled X ps
known_for_x [] [] h k = refl
known_for_x [] (b ∷ bs) h k = cc
known_for_x (p ∷ ps) [] h k = cc
known_for_x (None ∷ ps) (b ∷ bs) h k = cc
known_for_x (Some a ∷ ps) (b ∷ bs) h k =
    let here = and_parts (allows_bit (Some a) b) (allows_bits ps bs) h in
    let known = and_parts (is_known a) (all_known (filled X ps)) k in
    ap (λ c. c ∷ bs) (sym (same_bit_eq a b here.0)) ∙ ap (λ cs. a ∷ cs) (known_for_x ps bs here.1 known.1)

-- ---- results

pub known-bit_of : (p : Bool) → is_known (bit_of p) ≡ true
known-bit_of false = refl
known-bit_of true = refl

known-low_bits : (w n : ℕ) → all_known (low_bits w n) ≡ true
known-low_bits zero n = refl
known-low_bits (suc w) n = both_true _ _ (known-bit_of (n % 2 == 1)) (known-low_bits w (n / 2))

known-map_not : (bs : List Bit) → all_known bs ≡ true → all_known (map not_bit bs) ≡ true
known-map_not [] h = refl
known-map_not (Zero ∷ bs) h = known-map_not bs h
known-map_not (One ∷ bs) h = known-map_not bs h
known-map_not (X ∷ bs) h = cc
known-map_not (Z ∷ bs) h = cc

pub known-cut : (w : ℕ) (z : ℤ) → all_known (cut w z) ≡ true
known-cut w (pos n) = known-low_bits w n
known-cut w (negsuc n) = known-map_not (low_bits w n) (known-low_bits w n)
