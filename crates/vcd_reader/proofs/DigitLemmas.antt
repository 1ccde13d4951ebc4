-- The digits of a value, one more at their end.
use Rattle.std.proofs.Common.{◌≡◌, ℕ, zero, suc, ◌+◌, ◌-◌, ◌^◌, ◌<◌, ◌≤◌, min, Bool, true, false, cond, ◌&&◌, List, [], ◌∷◌, ◌++◌, map, length, reverse, replicate, refl, sym, ap, subst, ◌∙◌, inl, inr, arith}
use Rattle.std.specs.List.{list_all}
use Rattle.std.proofs.lemmas.Bool.{cases_lt}
use Rattle.std.proofs.lemmas.List.{length-append, length-reverse, length-map, reverse-append, map_push}
use Rattle.four_state.specs.declared.Bit.{Bit}
use Rattle.four_state.specs.declared.Bit.TheVariants.{Zero, One, X, Z}
use Rattle.four_state.specs.Vector.{Vector, top, fill, fit}
use Rattle.four_state.specs.Masks.{bits_of_masks, is_strange}
use Rattle.four_state.specs.Parts.{extended_vector}
use Rattle.vcd_reader.specs.Values.{is_digit, digit_bit, digit_bits, extension, value_bits}
use Rattle.vcd_reader.specs.Masks.{AreMasksOf}
use Rattle.vcd_reader.specs.Holding.{AreDigitsOf, begins_strange}
use Rattle.vcd_reader.proofs.MaskLemmas.{digit}
use Rattle.vcd_reader.specs.declared.digits.Digits.{Digits}

and_assoc : (a b c : Bool) → a && (b && c) ≡ (a && b) && c
and_assoc true b c = refl
and_assoc false b c = refl

pub list_all-push : (p : ℕ → Bool) (word : List ℕ) (byte : ℕ) → list_all p (word ++ byte ∷ []) ≡ (list_all p word && p byte)
list_all-push p [] byte = elim (p byte) as (λ v. (v && true) ≡ (true && v)) [ true ↦ refl | false ↦ refl ]
list_all-push p (b ∷ word) byte = ap (λ v. p b && v) (list_all-push p word byte) ∙ and_assoc (p b) (list_all p word) (p byte)

digit_bits-push : (word : List ℕ) (byte : ℕ) → digit_bits (word ++ byte ∷ []) ≡ digit_bit byte ∷ digit_bits word
digit_bits-push word byte = ap (λ (bits : List Bit). reverse bits) (map_push digit_bit word byte) ∙ reverse-append (map digit_bit word) (digit_bit byte ∷ [])

begins_strange-first : (word : List ℕ) (byte : ℕ) → length word ≤ 0 → begins_strange (word ++ byte ∷ []) ≡ is_strange (digit_bit byte)
begins_strange-first [] byte none = refl
begins_strange-first (b ∷ word) byte none = absurd (omega arith)

begins_strange-push : (word : List ℕ) (byte : ℕ) → 0 < length word → begins_strange (word ++ byte ∷ []) ≡ begins_strange word
begins_strange-push [] byte some = absurd (omega arith)
begins_strange-push (b ∷ word) byte some = refl

-- one digit more
pub digits_more : (kept more : Digits) (word : List ℕ) (byte : ℕ) → AreDigitsOf kept word
    → more.count ≡ min (kept.count + 1) (2 ^ 32)
    → ((bits : List Bit) → kept.count < 128 → AreMasksOf bits kept.masks → AreMasksOf (digit_bit byte ∷ bits) more.masks)
    → (kept.count ≡ 0 → more.goes_on ≡ is_strange (digit_bit byte))
    → (0 < kept.count → more.goes_on ≡ kept.goes_on)
    → more.are_digits ≡ (kept.are_digits && is_digit byte)
    → AreDigitsOf more (word ++ byte ∷ [])
digits_more kept more word byte a count masks fresh same each =
    let long : length (word ++ byte ∷ []) ≡ length word + 1 = length-append word (byte ∷ []) in
    let before = a.count in
    record {
      count = omega (arith, count, before, long);
      each = each ∙ ap (λ v. v && is_digit byte) a.each ∙ sym (list_all-push is_digit word byte);
      masks = λ few. subst (λ (bits : List Bit). AreMasksOf bits more.masks) (sym (digit_bits-push word byte)) (masks (digit_bits word) (omega (arith, before, long, few)) (a.masks (omega (arith, long, few))));
      goes_on = elim (cases_lt 0 (length word)) [
        | inl some ↦ same (omega (arith, before)) ∙ a.goes_on ∙ sym (begins_strange-push word byte some)
        | inr none ↦ fresh (omega (arith, before)) ∙ sym (begins_strange-first word byte none)
      ];
    }

fit-empty : (width : ℕ) (bit : Bit) → fit width bit [] ≡ replicate width bit
fit-empty zero bit = refl
fit-empty (suc width) bit = ap (λ (bits : List Bit). bit ∷ bits) (fit-empty width bit)

fit-fills : (width : ℕ) (bit : Bit) (bits : List Bit) → length bits ≤ width → fit width bit bits ≡ bits ++ fill (width - length bits) bit
fit-fills width bit [] within = let all : width ≡ width - length {A = Bit} [] = omega arith in fit-empty width bit ∙ ap (λ (k : ℕ). replicate k bit) all
fit-fills zero bit (b ∷ bits) within = absurd (omega arith)
fit-fills (suc width) bit (b ∷ bits) within =
    let fewer : width - length bits ≡ suc width - length (b ∷ bits) = omega arith in
    ap (λ (bits : List Bit). b ∷ bits) (fit-fills width bit bits (omega arith)) ∙ ap (λ (k : ℕ). b ∷ (bits ++ replicate k bit)) fewer

top-push : (bits : List Bit) (bit : Bit) → top (bits ++ bit ∷ []) ≡ bit
top-push [] bit = refl
top-push (a ∷ []) bit = refl
top-push (a ∷ b ∷ bits) bit = top-push (b ∷ bits) bit

filler_of : (bit : Bit) → cond (is_strange bit) bit Zero ≡ extension bit
filler_of Zero = refl
filler_of One = refl
filler_of X = refl
filler_of Z = refl

filler : (word : List ℕ) → 0 < length word → cond (begins_strange word) (top (digit_bits word)) Zero ≡ extension (top (digit_bits word))
filler [] some = absurd (omega arith)
filler (digit ∷ word) some =
    let highest : top (digit_bits (digit ∷ word)) ≡ digit_bit digit = ap top (reverse-append (digit_bit digit ∷ []) (map digit_bit word)) ∙ top-push (reverse (map digit_bit word)) (digit_bit digit) in
    ap (λ (bit : Bit). cond (is_strange (digit_bit digit)) bit Zero) highest ∙ filler_of (digit_bit digit) ∙ ap extension (sym highest)

-- the value that digits write
pub value_of_digits : (kept : Digits) (word : List ℕ) (size : ℕ) → AreDigitsOf kept word → 0 < kept.count → kept.count ≤ size → size ≤ 128
    → extended_vector size false (record { bits = bits_of_masks kept.count kept.masks.ones kept.masks.strange; signed = kept.goes_on }) ≡ record { bits = value_bits size word; signed = false }
value_of_digits kept word size a some fits narrow =
    let before = a.count in
    let count : kept.count ≡ length word = omega (arith, before) in
    let long : length (digit_bits word) ≡ length word = simp (length-reverse, length-map) in
    let masks = a.masks (omega (arith, count)) in
    let bits_are : bits_of_masks kept.count kept.masks.ones kept.masks.strange ≡ digit_bits word = ap (λ (k : ℕ). bits_of_masks k kept.masks.ones kept.masks.strange) (count ∙ sym long) ∙ masks.bits_are in
    let filled : fit size (cond kept.goes_on (top (digit_bits word)) Zero) (digit_bits word) ≡ value_bits size word = fit-fills size (cond kept.goes_on (top (digit_bits word)) Zero) (digit_bits word) (omega (arith, long, count))
    ∙ ap (λ (bit : Bit). digit_bits word ++ fill (size - length (digit_bits word)) bit) (ap (λ v. cond v (top (digit_bits word)) Zero) a.goes_on ∙ filler word (omega (arith, count)))
    ∙ ap (λ (k : ℕ). digit_bits word ++ fill (size - k) (extension (top (digit_bits word)))) long in
    ap (λ (bits : List Bit). let v : Vector = record { bits = fit size (cond kept.goes_on (top bits) Zero) bits; signed = false } in v) bits_are ∙ ap (λ (bits : List Bit). let v : Vector = record { bits = bits; signed = false } in v) filled
