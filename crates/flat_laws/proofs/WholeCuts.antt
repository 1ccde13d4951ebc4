-- Known bits as whole numbers that are cut to a width, and numbers that a width holds.
use Rattle.std.proofs.Common.{◌≡◌, ℕ, zero, suc, ◌+◌, ◌*◌, ◌/◌, ◌%◌, ◌^◌, ◌<◌, ◌==◌, Bool, true, false, ◌&&◌, if◌then◌else◌, List, [], ◌∷◌, ◌++◌, map, length, ℤ, pos, negsuc, Some, None, refl, sym, ap, ◌∙◌, subst, arith}
use Rattle.std.proofs.lemmas.Bool.{false≢true, and_parts}
use Rattle.std.proofs.lemmas.Bool.Decides.{nat_tests}
use Rattle.std.proofs.lemmas.List.Folds.{list_all-append}
use Rattle.std.proofs.Math.Nat.{pow-succ'}
use Rattle.four_state.specs.Vector.{all_known, is_known, is_one, bit_of, top, fit, extend}
use Rattle.four_state.specs.declared.bit.Bit.{Bit}
use Rattle.four_state.specs.declared.bit.Bit.TheVariants.{Zero, One, X, Z}
use Rattle.four_state.specs.Arithmetic.{not_bit, natural, low_bits, whole, cut, arithmetic}
use Rattle.four_state.specs.Parts.{index}

-- a bit of a number is known, and counts as it says
known_bit : (b : Bool) → is_known (bit_of b) ≡ true
known_bit true = refl
known_bit false = refl

one_bit : (b : Bool) → is_one (bit_of b) ≡ b
one_bit true = refl
one_bit false = refl

pub known-low_bits : (w n : ℕ) → all_known (low_bits w n) ≡ true
known-low_bits zero n = refl
known-low_bits (suc w) n = rw (known_bit (n % 2 == 1)) (known-low_bits w (n / 2))

pub length-low_bits : (w n : ℕ) → length (low_bits w n) ≡ w
length-low_bits zero n = refl
length-low_bits (suc w) n = ap suc (length-low_bits w (n / 2))

digit : (n : ℕ) → (if n % 2 == 1 then 1 else 0) + 2 * (n / 2) ≡ n
digit n = grind (arith, nat_tests)

half_below : (w n : ℕ) → n < 2 ^ suc w → n / 2 < 2 ^ w
half_below w n h = let q = pow-succ' 2 w in omega (arith, q)

pub natural-low_bits : (w n : ℕ) → n < 2 ^ w → natural (low_bits w n) ≡ n
natural-low_bits zero n h = omega arith
natural-low_bits (suc w) n h = rw (one_bit (n % 2 == 1), natural-low_bits w (n / 2) (half_below w n h)) (digit n)

-- a number below the place of the highest bit has a 0 there
top-low_bits : (w n : ℕ) → n < 2 ^ w → top (low_bits (suc w) n) ≡ Zero
top-low_bits zero n h = let none : n ≡ 0 = omega arith in rw none refl
top-low_bits (suc w) n h = top-low_bits w (n / 2) (half_below w n h)

not_known : (b : Bit) → is_known b ≡ true → is_known (not_bit b) ≡ true
not_known Zero h = refl
not_known One h = refl
not_known X h = absurd (false≢true h)
not_known Z h = absurd (false≢true h)

twice_not : (b : Bit) → is_known b ≡ true → not_bit (not_bit b) ≡ b
twice_not Zero h = refl
twice_not One h = refl
twice_not X h = absurd (false≢true h)
twice_not Z h = absurd (false≢true h)

known_not : (bs : List Bit) → all_known bs ≡ true → all_known (map not_bit bs) ≡ true
known_not [] h = refl
known_not (b ∷ bs) h = let p = and_parts (is_known b) (all_known bs) h in rw (not_known b p.0) (known_not bs p.1)

not_not : (bs : List Bit) → all_known bs ≡ true → map not_bit (map not_bit bs) ≡ bs
not_not [] h = refl
not_not (b ∷ bs) h = let p = and_parts (is_known b) (all_known bs) h in rw (twice_not b p.0, not_not bs p.1)

length-not : (bs : List Bit) → length (map not_bit bs) ≡ length bs
length-not [] = refl
length-not (b ∷ bs) = ap suc (length-not bs)

-- the bits of a whole number
pub known-cut : (w : ℕ) (z : ℤ) → all_known (cut w z) ≡ true
known-cut w (pos n) = known-low_bits w n
known-cut w (negsuc n) = known_not (low_bits w n) (known-low_bits w n)

pub length-cut : (w : ℕ) (z : ℤ) → length (cut w z) ≡ w
length-cut w (pos n) = length-low_bits w n
length-cut w (negsuc n) = length-not (low_bits w n) ∙ length-low_bits w n

-- a signed vector of one bit more than this holds the whole number
abbrev pub Fits : ℕ → ℤ → Type 0
Fits w (pos n) = n < 2 ^ w
Fits w (negsuc n) = n < 2 ^ w

top_not : (b : Bit) (bs : List Bit) → top (map not_bit (b ∷ bs)) ≡ not_bit (top (b ∷ bs))
top_not b [] = refl
top_not b (c ∷ cs) = top_not c cs

by_top : (bs : List Bit) (b : Bit) → top bs ≡ b → whole true bs ≡ (if is_one b then negsuc (natural (map not_bit bs)) else pos (natural bs))
by_top bs b e = rw e refl

pub whole-cut : (w : ℕ) (z : ℤ) → Fits w z → whole true (cut (suc w) z) ≡ z
whole-cut w (pos n) h = by_top (low_bits (suc w) n) Zero (top-low_bits w n h) ∙ ap pos (natural-low_bits (suc w) n (let q = pow-succ' 2 w in omega (arith, q)))
whole-cut w (negsuc n) h =
    by_top (map not_bit (low_bits (suc w) n)) One (top_not _ (low_bits w (n / 2)) ∙ ap not_bit (top-low_bits w n h)) ∙
    ap negsuc (ap natural (not_not (low_bits (suc w) n) (known-low_bits (suc w) n)) ∙ natural-low_bits (suc w) n (let q = pow-succ' 2 w in omega (arith, q)))

pub index-cut : (w : ℕ) (z : ℤ) → Fits w z → index true (cut (suc w) z) ≡ Some z
index-cut w z h = rw (known-cut (suc w) z, whole-cut w z h) refl

-- known bits are extended, or cut, as the whole number that they represent
fit_zeros : (w : ℕ) → fit w Zero [] ≡ low_bits w 0
fit_zeros zero = refl
fit_zeros (suc w) = ap (λ bs. Zero ∷ bs) (fit_zeros w)

parity : (b : Bit) (n : ℕ) → is_known b ≡ true → bit_of (((if is_one b then 1 else 0) + 2 * n) % 2 == 1) ≡ b
parity Zero n h = ap bit_of (let q : ((0 + 2 * n) % 2 == 1) ≡ false = grind (arith, nat_tests) in q)
parity One n h = ap bit_of (let q : ((1 + 2 * n) % 2 == 1) ≡ true = grind (arith, nat_tests) in q)
parity X n h = absurd (false≢true h)
parity Z n h = absurd (false≢true h)

half : (b : Bit) (n : ℕ) → ((if is_one b then 1 else 0) + 2 * n) / 2 ≡ n
half b n = by_bit (is_one b)
  where
    by_bit : (t : Bool) → ((if t then 1 else 0) + 2 * n) / 2 ≡ n
    by_bit true = omega arith
    by_bit false = omega arith

pub fit_natural : (w : ℕ) (bs : List Bit) → all_known bs ≡ true → fit w Zero bs ≡ low_bits w (natural bs)
fit_natural zero bs h = refl
fit_natural (suc w) [] h = fit_zeros (suc w)
fit_natural (suc w) (b ∷ bs) h =
    let p = and_parts (is_known b) (all_known bs) h in
    rw (parity b (natural bs) p.0, half b (natural bs)) (ap (λ cs. b ∷ cs) (fit_natural w bs p.1))

fit_not : (w : ℕ) (b : Bit) (bs : List Bit) → map not_bit (fit w b bs) ≡ fit w (not_bit b) (map not_bit bs)
fit_not zero b bs = refl
fit_not (suc w) b [] = ap (λ cs. not_bit b ∷ cs) (fit_not w b [])
fit_not (suc w) b (c ∷ cs) = ap (λ ds. not_bit c ∷ ds) (fit_not w b cs)

known_fit : (w : ℕ) (b : Bit) (bs : List Bit) → is_known b ≡ true → all_known bs ≡ true → all_known (fit w b bs) ≡ true
known_fit zero b bs h k = refl
known_fit (suc w) b [] h k = rw h (known_fit w b [] h refl)
known_fit (suc w) b (c ∷ cs) h k = let p = and_parts (is_known c) (all_known cs) k in rw p.0 (known_fit w b cs h p.1)

fit_negative : (w : ℕ) (bs : List Bit) → all_known bs ≡ true → fit w One bs ≡ map not_bit (low_bits w (natural (map not_bit bs)))
fit_negative w bs h = sym (not_not (fit w One bs) (known_fit w One bs refl h)) ∙ ap (map not_bit) (fit_not w One bs ∙ fit_natural w (map not_bit bs) (known_not bs h))

known_top : (bs : List Bit) → all_known bs ≡ true → is_known (top bs) ≡ true
known_top [] h = refl
known_top (b ∷ []) h = (and_parts (is_known b) true h).0
known_top (b ∷ c ∷ cs) h = known_top (c ∷ cs) (and_parts (is_known b) (all_known (c ∷ cs)) h).1

pub extend_known : (w : ℕ) (signed : Bool) (bs : List Bit) → all_known bs ≡ true → extend w signed bs ≡ cut w (whole signed bs)
extend_known w false bs h = fit_natural w bs h
extend_known w true bs h = by_bit (top bs) (known_top bs h)
  where
    by_bit : (b : Bit) → is_known b ≡ true → fit w b bs ≡ cut w (if is_one b then negsuc (natural (map not_bit bs)) else pos (natural bs))
    by_bit Zero k = fit_natural w bs h
    by_bit One k = fit_negative w bs h
    by_bit X k = absurd (false≢true k)
    by_bit Z k = absurd (false≢true k)

-- bits of the width stay
pub fit_same : (w : ℕ) (b : Bit) (bs : List Bit) → length bs ≡ w → fit w b bs ≡ bs
fit_same zero b [] e = refl
fit_same zero b (c ∷ cs) e = absurd (omega arith)
fit_same (suc w) b [] e = absurd (omega arith)
fit_same (suc w) b (c ∷ cs) e = ap (λ ds. c ∷ ds) (fit_same w b cs (omega arith))

pub extend-cut : (w : ℕ) (signed : Bool) (z : ℤ) → extend w signed (cut w z) ≡ cut w z
extend-cut w signed z = fit_same w _ (cut w z) (length-cut w z)

-- a number of so many bits
natural_digit : (t : Bool) (n k : ℕ) → n < k → (if t then 1 else 0) + 2 * n < 2 * k
natural_digit true n k h = omega arith
natural_digit false n k h = omega arith

pub natural_below : (bs : List Bit) → natural bs < 2 ^ length bs
natural_below [] = omega arith
natural_below (b ∷ bs) = rw pow-succ' (natural_digit (is_one b) (natural bs) (2 ^ length bs) (natural_below bs))

pub whole_fits : (signed : Bool) (bs : List Bit) → Fits (length bs) (whole signed bs)
whole_fits signed bs = by_sign (signed && is_one (top bs))
  where
    by_sign : (t : Bool) → Fits (length bs) (if t then negsuc (natural (map not_bit bs)) else pos (natural bs))
    by_sign true = subst (λ n. natural (map not_bit bs) < 2 ^ n) (length-not bs) (natural_below (map not_bit bs))
    by_sign false = natural_below bs

-- a sum or difference of whole numbers in as many bits
pub arithmetic_cut : (f : ℤ → ℤ → ℤ) (w : ℕ) (y z : ℤ) → Fits w y → Fits w z → arithmetic f true (cut (suc w) y) (cut (suc w) z) ≡ cut (suc w) (f y z)
arithmetic_cut f w y z h k =
    let known : all_known (cut (suc w) y ++ cut (suc w) z) ≡ true = list_all-append is_known (cut (suc w) y) (cut (suc w) z) ∙ rw (known-cut (suc w) y, known-cut (suc w) z) refl in
    rw (known, length-cut (suc w) y, whole-cut w y h, whole-cut w z k) refl

-- bits that have an index are known, and it is their whole number
pub index_whole : (signed : Bool) (bs : List Bit) (z : ℤ) → index signed bs ≡ Some z → (all_known bs ≡ true) × (whole signed bs ≡ z)
index_whole signed bs z h = by_known (all_known bs) h
  where
    by_known : (t : Bool) → (if t then Some (whole signed bs) else None) ≡ Some z → (t ≡ true) × (whole signed bs ≡ z)
    by_known true e = (refl, cc)
    by_known false e = absurd cc
