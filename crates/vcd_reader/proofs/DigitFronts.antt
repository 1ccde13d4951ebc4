-- The digits at the front of a piece as two masks.
use Rattle.std.proofs.Common.{◌≡◌, ℕ, zero, suc, ◌+◌, ◌*◌, ◌^◌, ◌<◌, ◌≤◌, Bool, true, false, cond, List, [], ◌∷◌, ◌++◌, map, length, take, reverse, refl, sym, ap, ap₂, subst, ◌∙◌, inl, inr, arith}
use Rattle.std.specs.List.{list_all}
use Rattle.std.proofs.lemmas.Bool.{cases_eq, ne_eqb}
use Rattle.std.proofs.lemmas.List.{length-map, length-reverse, length-take, map-append, reverse-append}
use lib.Lanes.{mask_l}
use Rattle.four_state.specs.declared.Bit.{Bit}
use Rattle.four_state.specs.Masks.{is_one_or_z, is_strange}
use Rattle.digit_lanes.specs.Bytes.{writes_one_or_z, writes_strange}
use Rattle.vcd_reader.specs.Values.{is_digit, digit_bit, digit_bits}
use Rattle.vcd_reader.specs.Masks.{AreMasksOf}
use Rattle.vcd_reader.specs.Holding.{AreDigitsOf, begins_strange}
use Rattle.vcd_reader.specs.declared.digits.Digits.{Digits}
use Rattle.vcd_reader.proofs.MaskLemmas.{digit, masks_more, masks_none}

-- what a digit writes in the two masks
one_or_z : (byte : ℕ) → is_one_or_z (digit_bit byte) ≡ writes_one_or_z byte
one_or_z byte = elim (cases_eq byte 48) [
  | inl is ↦ rw is refl
  | inr a ↦ elim (cases_eq byte 49) [
    | inl is ↦ rw is refl
    | inr b ↦ elim (cases_eq byte 120) [
      | inl is ↦ rw is refl
      | inr c ↦ elim (cases_eq byte 88) [
        | inl is ↦ rw is refl
        | inr d ↦ rw (ne_eqb byte 48 a, ne_eqb byte 49 b, ne_eqb byte 120 c, ne_eqb byte 88 d) refl
      ]
    ]
  ]
]

strange : (byte : ℕ) → is_strange (digit_bit byte) ≡ writes_strange byte
strange byte = elim (cases_eq byte 48) [
  | inl is ↦ rw is refl
  | inr a ↦ elim (cases_eq byte 49) [
    | inl is ↦ rw is refl
    | inr b ↦ elim (cases_eq byte 120) [
      | inl is ↦ rw is refl
      | inr c ↦ elim (cases_eq byte 88) [
        | inl is ↦ rw is refl
        | inr d ↦ rw (ne_eqb byte 48 a, ne_eqb byte 49 b, ne_eqb byte 120 c, ne_eqb byte 88 d) refl
      ]
    ]
  ]
]

-- ---- digits in reverse

map_reverse : {A B : Type 0} (f : A → B) (xs : List A) → map f (reverse xs) ≡ reverse (map f xs)
map_reverse f [] = refl
map_reverse f (x ∷ xs) =
    ap (λ (l : List _). map f l) (reverse-append (x ∷ []) xs) ∙ map-append f (reverse xs) (x ∷ []) ∙ ap (λ (l : List _). l ++ f x ∷ []) (map_reverse f xs) ∙ sym (reverse-append (f x ∷ []) (map f xs))

each_digit : (p : Bit → Bool) (w : ℕ → Bool) → ((byte : ℕ) → p (digit_bit byte) ≡ w byte) → (word : List ℕ) → map p (map digit_bit word) ≡ map w word
each_digit p w same [] = refl
each_digit p w same (byte ∷ word) = ap₂ (λ (b : Bool) (bs : List Bool). b ∷ bs) (same byte) (each_digit p w same word)

of_digits : (p : Bit → Bool) (w : ℕ → Bool) → ((byte : ℕ) → p (digit_bit byte) ≡ w byte) → (word : List ℕ) → mask_l (map p (digit_bits word)) ≡ mask_l (map w (reverse word))
of_digits p w same word = ap mask_l (map_reverse p (map digit_bit word) ∙ ap (λ (l : List Bool). reverse l) (each_digit p w same word) ∙ sym (map_reverse w word))

-- ---- masks of bits

digit_first : (p : Bool) (mask : ℕ) → mask * 2 + digit p ≡ cond p 1 0 + 2 * mask
digit_first true mask = omega arith
digit_first false mask = omega arith

masks_of : (bits : List Bit) → AreMasksOf bits (record { ones = mask_l (map is_one_or_z bits); strange = mask_l (map is_strange bits) })
masks_of [] = masks_none
masks_of (bit ∷ bits) =
    subst (λ (ones : ℕ). AreMasksOf (bit ∷ bits) (record { ones = ones; strange = mask_l (map is_strange (bit ∷ bits)) })) (digit_first (is_one_or_z bit) (mask_l (map is_one_or_z bits)))
    (subst (λ (strange : ℕ). AreMasksOf (bit ∷ bits) (record { ones = mask_l (map is_one_or_z bits) * 2 + digit (is_one_or_z bit); strange = strange })) (digit_first (is_strange bit) (mask_l (map is_strange bits)))
    (masks_more bits bit (mask_l (map is_one_or_z bits)) (mask_l (map is_strange bits)) (masks_of bits)))

begins_front : (bytes : List ℕ) (count : ℕ) → 0 < count → begins_strange bytes ≡ begins_strange (take count bytes)
begins_front [] zero some = refl
begins_front [] (suc count) some = refl
begins_front (byte ∷ bytes) zero some = absurd (omega (arith, some))
begins_front (byte ∷ bytes) (suc count) some = refl

-- the masks of the digits at the front of a piece
pub masks_of_front : (word : List ℕ) (ones strange_mask : ℕ) → ones ≡ mask_l (map writes_one_or_z (reverse word)) → strange_mask ≡ mask_l (map writes_strange (reverse word))
    → AreMasksOf (digit_bits word) (record { ones = ones; strange = strange_mask })
masks_of_front word ones strange_mask p q =
    subst (λ (m : ℕ). AreMasksOf (digit_bits word) (record { ones = m; strange = strange_mask })) (of_digits is_one_or_z writes_one_or_z one_or_z word ∙ sym p)
    (subst (λ (m : ℕ). AreMasksOf (digit_bits word) (record { ones = mask_l (map is_one_or_z (digit_bits word)); strange = m })) (of_digits is_strange writes_strange strange word ∙ sym q) (masks_of (digit_bits word)))

pub long_digits : (word : List ℕ) → length (digit_bits word) ≡ length word
long_digits word = simp (length-reverse, length-map)

-- what is kept of the digits at the front of a piece
pub front_digits : (kept : Digits) (bytes : List ℕ) (count : ℕ) → 0 < count → count ≤ length bytes → count ≤ 128 → list_all is_digit (take count bytes) ≡ true
    → kept.count ≡ count → kept.are_digits ≡ true → kept.goes_on ≡ begins_strange bytes → AreMasksOf (digit_bits (take count bytes)) kept.masks → AreDigitsOf kept (take count bytes)
front_digits kept bytes count some within narrow each is are goes masks =
    let n : length (take count bytes) ≡ count = omega (arith, length-take count bytes, within) in
    record { count = omega (arith, is, n, narrow); each = are ∙ sym each; masks = λ few. masks; goes_on = goes ∙ begins_front bytes count some }

-- a mask within the digits is within so many places
pub front_inside : (bytes : List ℕ) (count mask : ℕ) → count ≤ length bytes → mask < 2 ^ length (digit_bits (take count bytes)) → mask < 2 ^ count
front_inside bytes count mask within lt =
    let n : length (digit_bits (take count bytes)) ≡ count = long_digits (take count bytes) ∙ omega (arith, length-take count bytes, within) in
    subst (λ (k : ℕ). mask < 2 ^ k) n lt
