-- An operation on masks is one on bits: what two masks have at each place is what the bits are there.
use Rattle.std.proofs.Common.{◌≡◌, ℕ, zero, suc, ◌+◌, ◌*◌, ◌/◌, ◌%◌, ◌^◌, ◌<◌, ◌==◌, Bool, true, false, if◌then◌else◌, List, [], ◌∷◌, length, map, replicate, get_or, ext_get_or, refl, ap, arith, sym, ◌∙◌}
use Rattle.std.proofs.lemmas.Bool.Decides.{nat_tests}
use Rattle.std.proofs.Math.Nat.{two-pow-succ}
use Rattle.std.proofs.lemmas.List.{length-map, get_or-map, length-replicate, get_or-replicate}
use Rattle.four_state.specs.Vector.{Bit, X}
use Rattle.four_state.specs.Masks.{bits_of_masks, mask_of, bit_in_masks, is_set}
use Rattle.four_state.specs.Stored.{width_of_bits}
use Rattle.four_state.specs.Operators.{zip_bits}
use Rattle.four_state.proofs.Places.{is_set-lowest, is_set-suc, same_from_places}

pub get_or-bits_of_masks : (w a b i : ℕ) (d : Bit) → i < w → get_or (bits_of_masks w a b) i d ≡ bit_in_masks (is_set a i) (is_set b i)
unfolding bits_of_masks
get_or-bits_of_masks zero a b i d h = absurd (omega arith)
get_or-bits_of_masks (suc w) a b zero d h = rw (is_set-lowest a, is_set-lowest b)
get_or-bits_of_masks (suc w) a b (suc i) d h = rw (is_set-suc a i, is_set-suc b i) (get_or-bits_of_masks w (a / 2) (b / 2) i d (omega arith))

test_of_digit : (p : Bool) (m : ℕ) → (((if p then 1 else 0) + 2 * m) % 2 == 1) ≡ p
test_of_digit false m = grind (arith, nat_tests)
test_of_digit true m = grind (arith, nat_tests)

half_of_digit : (p : Bool) (m : ℕ) → ((if p then 1 else 0) + 2 * m) / 2 ≡ m
half_of_digit false m = omega arith
half_of_digit true m = omega arith

digit_below : (p : Bool) (m n : ℕ) → m < n → (if p then 1 else 0) + 2 * m < n + n
digit_below false m n h = omega arith
digit_below true m n h = omega arith

pub mask_below : (p : Bit → Bool) (bs : List Bit) → mask_of p bs < 2 ^ length bs
unfolding mask_of
mask_below p [] = omega arith
mask_below p (b ∷ bs) = rw (two-pow-succ (length bs)) (digit_below (p b) (mask_of p bs) (2 ^ length bs) (mask_below p bs))

-- the mask of the bits that pass a test has the places where they do
pub is_set-mask_of : (p : Bit → Bool) (bs : List Bit) (i : ℕ) (d : Bit) → i < length bs → is_set (mask_of p bs) i ≡ p (get_or bs i d)
unfolding mask_of
is_set-mask_of p [] i d h = absurd (omega arith)
is_set-mask_of p (b ∷ bs) zero d h = is_set-lowest _ ∙ test_of_digit (p b) (mask_of p bs)
is_set-mask_of p (b ∷ bs) (suc i) d h =
    is_set-suc _ i ∙ ap (λ n. is_set n i) (half_of_digit (p b) (mask_of p bs)) ∙ is_set-mask_of p bs i d (omega arith)

-- so a mask is that of a test where it has the places at which the bits pass it
pub mask_is : (p : Bit → Bool) (m : ℕ) (bs : List Bit) → m < 2 ^ length bs → ((i : ℕ) → i < length bs → is_set m i ≡ p (get_or bs i X)) → m ≡ mask_of p bs
mask_is p m bs below h = same_from_places (length bs) m (mask_of p bs) below (mask_below p bs) (λ i l. h i l ∙ sym (is_set-mask_of p bs i X l))

-- bits are those of two masks where each place says so
pub bits_are : (w a b : ℕ) (bs : List Bit) → w ≡ length bs → ((i : ℕ) → i < w → bit_in_masks (is_set a i) (is_set b i) ≡ get_or bs i X) → bits_of_masks w a b ≡ bs
bits_are w a b bs e h =
    ext_get_or X (bits_of_masks w a b) bs (width_of_bits w a b ∙ e) (λ i l. let k : i < w = rw (width_of_bits w a b) at l in get_or-bits_of_masks w a b i X k ∙ h i k)

-- a mask operation is one on each bit
pub mapped : (f : Bit → Bit) (w a b : ℕ) (bs : List Bit) → w ≡ length bs → ((i : ℕ) → i < w → bit_in_masks (is_set a i) (is_set b i) ≡ f (get_or bs i X)) → bits_of_masks w a b ≡ map f bs
mapped f w a b bs e h =
    bits_are w a b (map f bs) (e ∙ sym (length-map bs f)) (λ i l. let k : i < length bs = rw e at l in h i l ∙ sym (get_or-map f bs i X X k))

length-zip_bits : (f : Bit → Bit → Bit) (bs cs : List Bit) → length bs ≡ length cs → length (zip_bits f bs cs) ≡ length bs
length-zip_bits f [] cs e = refl
length-zip_bits f (b ∷ bs) [] e = cc
length-zip_bits f (b ∷ bs) (c ∷ cs) e = ap suc (length-zip_bits f bs cs (cc))

get_or-zip_bits : (f : Bit → Bit → Bit) (bs cs : List Bit) (i : ℕ) → length bs ≡ length cs → i < length bs → get_or (zip_bits f bs cs) i X ≡ f (get_or bs i X) (get_or cs i X)
get_or-zip_bits f [] cs i e h = absurd (omega arith)
get_or-zip_bits f (b ∷ bs) [] i e h = cc
get_or-zip_bits f (b ∷ bs) (c ∷ cs) zero e h = refl
get_or-zip_bits f (b ∷ bs) (c ∷ cs) (suc i) e h = get_or-zip_bits f bs cs i (cc) (omega arith)

-- a mask operation on two vectors is one on each pair of bits
pub zipped : (f : Bit → Bit → Bit) (w a b : ℕ) (bs cs : List Bit) → w ≡ length bs → length bs ≡ length cs → ((i : ℕ) → i < w → bit_in_masks (is_set a i) (is_set b i) ≡ f (get_or bs i X) (get_or cs i X)) → bits_of_masks w a b ≡ zip_bits f bs cs
zipped f w a b bs cs e same h =
    bits_are w a b (zip_bits f bs cs) (e ∙ sym (length-zip_bits f bs cs same)) (λ i l. let k : i < length bs = rw e at l in h i l ∙ sym (get_or-zip_bits f bs cs i same k))

-- masks that are empty or full give copies of one bit
pub filled : (p q : Bool) (w a b : ℕ) → ((i : ℕ) → i < w → is_set a i ≡ p) → ((i : ℕ) → i < w → is_set b i ≡ q) → bits_of_masks w a b ≡ replicate w (bit_in_masks p q)
filled p q w a b f g =
    bits_are w a b (replicate w (bit_in_masks p q)) (sym (length-replicate w (bit_in_masks p q))) (λ i l. rw (f i l, g i l) (sym (get_or-replicate w i (bit_in_masks p q) X l)))
