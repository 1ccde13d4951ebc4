-- Masks of digits, one after the other.
use Rattle.std.proofs.Common.{◌≡◌, ℕ, suc, ◌+◌, ◌-◌, ◌*◌, ◌/◌, ◌%◌, ◌^◌, ◌<◌, ◌≤◌, Bool, true, false, cond, List, [], ◌∷◌, ◌++◌, map, length, take, drop, get_or, reverse, refl, sym, ap, ap₂, ◌∙◌, arith, pow-suc}
use Rattle.std.proofs.Math.Nat.{mul_assoc, mul_comm}
use Rattle.std.proofs.Math.Pow.{pow_mono}
use Rattle.std.proofs.Math.Seq.{take-add}
use Rattle.std.proofs.lemmas.Nat.{div-mul-add}
use Rattle.std.proofs.lemmas.Simd.{length-chunk, mask_l-lt}
use Rattle.std.proofs.lemmas.List.{length-drop, length-map, length-reverse, length-take, map-append, reverse-append, take_more}
use lib.Lanes.{chunk, mask_l, pick_l}
use mir.Val.{bool_byte}

-- one mask over another
mask_l-append : (a b : List Bool) → mask_l (a ++ b) ≡ mask_l a + 2 ^ length a * mask_l b
mask_l-append [] b = omega arith
mask_l-append (x ∷ xs) b =
    let double : 2 ^ suc (length xs) * mask_l b ≡ 2 * (2 ^ length xs * mask_l b) = ap (λ (k : ℕ). k * mask_l b) (pow-suc 2 (length xs) ∙ mul_comm (2 ^ length xs) 2) ∙ mul_assoc 2 (2 ^ length xs) (mask_l b) in
    ap (λ m. cond x 1 0 + 2 * m) (mask_l-append xs b) ∙ omega (arith, double)

-- the mask of the bytes that pass a test, the last one at the lowest place
abbrev pub mask_by : (ℕ → Bool) → List ℕ → ℕ
mask_by p word = mask_l (map p (reverse word))

long : (p : ℕ → Bool) (word : List ℕ) → length (map p (reverse word)) ≡ length word
long p word = length-map (reverse word) p ∙ length-reverse word

mask_by-append : (p : ℕ → Bool) (word more : List ℕ) → mask_by p (word ++ more) ≡ mask_by p more + 2 ^ length more * mask_by p word
mask_by-append p word more =
    ap (λ (l : List ℕ). mask_l (map p l)) (reverse-append word more) ∙ ap mask_l (map-append p (reverse more) (reverse word)) ∙ mask_l-append (map p (reverse more)) (map p (reverse word))
    ∙ ap (λ (k : ℕ). mask_by p more + 2 ^ k * mask_by p word) (long p more)

mask_by-lt : (p : ℕ → Bool) (word : List ℕ) → mask_by p word < 2 ^ length word
mask_by-lt p word = let lt = mask_l-lt (map p (reverse word)) in let same : 2 ^ length (map p (reverse word)) ≡ 2 ^ length word = ap (λ (k : ℕ). 2 ^ k) (long p word) in omega (arith, lt, same)

-- a mask of no more bytes than a number of bits has places
pub inside : (p : ℕ → Bool) (count wide : ℕ) (bytes : List ℕ) → count ≤ wide → mask_by p (take count bytes) < 2 ^ wide
inside p count wide bytes few =
    let lt = mask_by-lt p (take count bytes) in
    let larger : 2 ^ length (take count bytes) ≤ 2 ^ wide = pow_mono (omega (arith, length-take count bytes, few)) in
    omega (arith, lt, larger)

-- one byte more
pub one_more : (p : ℕ → Bool) (bytes : List ℕ) (count byte : ℕ) → count < length bytes → mask_by p (take (count + 1) bytes) ≡ mask_by p (take count bytes) * 2 + cond (p (get_or bytes count byte)) 1 0
one_more p bytes count byte within =
    ap (mask_by p) (take_more bytes count byte within) ∙ mask_by-append p (take count bytes) (get_or bytes count byte ∷ []) ∙ omega arith

-- sixteen bytes more
pub lanes_more : (p : ℕ → Bool) (bytes : List ℕ) (start : ℕ) → start + 16 ≤ length bytes → mask_by p (take (start + 16) bytes) ≡ mask_by p (take start bytes) * 65536 + mask_by p (chunk start 16 bytes)
lanes_more p bytes start room =
    let n = length-chunk start 16 bytes room in
    ap (mask_by p) (take-add start 16 bytes) ∙ mask_by-append p (take start bytes) (chunk start 16 bytes) ∙ ap (λ (k : ℕ). mask_by p (chunk start 16 bytes) + 2 ^ k * mask_by p (take start bytes)) n ∙ omega arith

-- the first of sixteen bytes
pub first_lanes : (p : ℕ → Bool) (bytes : List ℕ) (count : ℕ) → 16 ≤ length bytes → count ≤ 16 → mask_by p (chunk 0 16 bytes) / 2 ^ (16 - count) ≡ mask_by p (take count bytes)
first_lanes p bytes count room few =
    let more = take (16 - count) (drop count bytes) in
    let n : length more ≡ 16 - count = omega (arith, length-take (16 - count) (drop count bytes), length-drop count bytes) in
    let whole : count + (16 - count) ≡ 16 = omega arith in
    let lt : mask_by p more < 2 ^ (16 - count) = let l = mask_by-lt p more in let same : 2 ^ length more ≡ 2 ^ (16 - count) = ap (λ (k : ℕ). 2 ^ k) n in omega (arith, l, same) in
    let split : mask_by p (chunk 0 16 bytes) ≡ mask_by p (take count bytes) * 2 ^ (16 - count) + mask_by p more =
    ap (λ (k : ℕ). mask_by p (take k bytes)) (sym whole) ∙ ap (mask_by p) (take-add count (16 - count) bytes) ∙ mask_by-append p (take count bytes) more ∙ ap (λ (k : ℕ). mask_by p more + 2 ^ k * mask_by p (take count bytes)) n ∙ omega arith in
    ap (λ (m : ℕ). m / 2 ^ (16 - count)) split ∙ div-mul-add (mask_by p (take count bytes)) (2 ^ (16 - count)) (mask_by p more) lt

-- the sixteen lanes of a vector that is reversed
pub lanes_reversed : (v : List ℕ) → length v ≡ 16 → pick_l 0 (v ++ v) (15 ∷ 14 ∷ 13 ∷ 12 ∷ 11 ∷ 10 ∷ 9 ∷ 8 ∷ 7 ∷ 6 ∷ 5 ∷ 4 ∷ 3 ∷ 2 ∷ 1 ∷ 0 ∷ []) ≡ reverse v
lanes_reversed [] is = absurd (omega (arith, is))
lanes_reversed (a ∷ []) is = absurd (omega (arith, is))
lanes_reversed (a ∷ b ∷ []) is = absurd (omega (arith, is))
lanes_reversed (a ∷ b ∷ c ∷ []) is = absurd (omega (arith, is))
lanes_reversed (a ∷ b ∷ c ∷ d ∷ []) is = absurd (omega (arith, is))
lanes_reversed (a ∷ b ∷ c ∷ d ∷ e ∷ []) is = absurd (omega (arith, is))
lanes_reversed (a ∷ b ∷ c ∷ d ∷ e ∷ f ∷ []) is = absurd (omega (arith, is))
lanes_reversed (a ∷ b ∷ c ∷ d ∷ e ∷ f ∷ g ∷ []) is = absurd (omega (arith, is))
lanes_reversed (a ∷ b ∷ c ∷ d ∷ e ∷ f ∷ g ∷ h ∷ []) is = absurd (omega (arith, is))
lanes_reversed (a ∷ b ∷ c ∷ d ∷ e ∷ f ∷ g ∷ h ∷ i ∷ []) is = absurd (omega (arith, is))
lanes_reversed (a ∷ b ∷ c ∷ d ∷ e ∷ f ∷ g ∷ h ∷ i ∷ j ∷ []) is = absurd (omega (arith, is))
lanes_reversed (a ∷ b ∷ c ∷ d ∷ e ∷ f ∷ g ∷ h ∷ i ∷ j ∷ k ∷ []) is = absurd (omega (arith, is))
lanes_reversed (a ∷ b ∷ c ∷ d ∷ e ∷ f ∷ g ∷ h ∷ i ∷ j ∷ k ∷ l ∷ []) is = absurd (omega (arith, is))
lanes_reversed (a ∷ b ∷ c ∷ d ∷ e ∷ f ∷ g ∷ h ∷ i ∷ j ∷ k ∷ l ∷ m ∷ []) is = absurd (omega (arith, is))
lanes_reversed (a ∷ b ∷ c ∷ d ∷ e ∷ f ∷ g ∷ h ∷ i ∷ j ∷ k ∷ l ∷ m ∷ n ∷ []) is = absurd (omega (arith, is))
lanes_reversed (a ∷ b ∷ c ∷ d ∷ e ∷ f ∷ g ∷ h ∷ i ∷ j ∷ k ∷ l ∷ m ∷ n ∷ o ∷ []) is = absurd (omega (arith, is))
lanes_reversed (a ∷ b ∷ c ∷ d ∷ e ∷ f ∷ g ∷ h ∷ i ∷ j ∷ k ∷ l ∷ m ∷ n ∷ o ∷ p ∷ []) is = refl
lanes_reversed (a ∷ b ∷ c ∷ d ∷ e ∷ f ∷ g ∷ h ∷ i ∷ j ∷ k ∷ l ∷ m ∷ n ∷ o ∷ p ∷ q ∷ more) is = absurd (omega (arith, is))

-- a test as a number
pub at_most_one : (b : Bool) → bool_byte b ≤ 1
at_most_one true = omega arith
at_most_one false = omega arith
