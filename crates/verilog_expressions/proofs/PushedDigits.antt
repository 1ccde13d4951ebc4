-- Digits as bits: each one pushes those before it up.
use Rattle.std.proofs.Common.{◌≡◌, ℕ, zero, suc, ◌+◌, ◌-◌, ◌*◌, ◌%◌, ◌^◌, ◌<◌, ◌≤◌, nat_lt, Bool, true, false, ◌||◌, ◌&&◌, if◌then◌else◌, None, Some, List, [], ◌∷◌, ◌++◌, length, reverse, filter, flat_map, drop, drop-cons, add-one, get_or, bit_and, bit_or, append_assoc, refl, ap, sym, arith, ◌∙◌}
use Rattle.std.proofs.lemmas.Bool.{ltb-true, ltb-false}
use Rattle.std.proofs.lemmas.List.{append-nil, get_or_append_left, get_or-append_right}
use Rattle.std.proofs.lemmas.Grind.{flat_map-append, reverse_onto}
use Rattle.four_state.specs.declared.bit.Bit.{Bit}
use Rattle.four_state.specs.declared.bit.Bit.TheVariants.{Zero, X}
use Rattle.four_state.specs.Vector.{fill, fit}
use Rattle.four_state.specs.Masks.{bits_of_masks, bit_in_masks, is_set}
use Rattle.four_state.specs.Stored.{width_of_bits}
use Rattle.four_state.proofs.Places.{is_set-or, is_set-and, is_set-ones, is_set-mod, is_set-above, is_set-shl_below, is_set-shl_from}
use Rattle.four_state.proofs.Lifted.{get_or-bits_of_masks, bits_are}
use Rattle.verilog_grammar.specs.Literal.{digit_bits, filler, bits_of_digits}
use Rattle.verilog_expressions.specs.Digits.{is_digit}

-- ---- lists that are fitted to a width

length-fit : (w : ℕ) (d : Bit) (bs : List Bit) → length (fit w d bs) ≡ w
length-fit zero d bs = refl
length-fit (suc w) d [] = ap suc (length-fit w d [])
length-fit (suc w) d (b ∷ bs) = ap suc (length-fit w d bs)

get_or-fit : (w i : ℕ) (d : Bit) (bs : List Bit) → i < w → get_or (fit w d bs) i X ≡ get_or bs i d
get_or-fit zero i d bs h = absurd (omega arith)
get_or-fit (suc w) zero d [] h = refl
get_or-fit (suc w) (suc i) d [] h = get_or-fit w i d [] (omega arith) ∙ refl
get_or-fit (suc w) zero d (b ∷ bs) h = refl
get_or-fit (suc w) (suc i) d (b ∷ bs) h = get_or-fit w i d bs (omega arith)

-- what was fitted fits a smaller width as it did before
pub fit-again : (k w : ℕ) (f g : Bit) (ys : List Bit) → k ≤ w → fit k g (fit w f ys) ≡ fit k f ys
fit-again zero w f g ys h = refl
fit-again (suc k) zero f g ys h = absurd (omega arith)
fit-again (suc k) (suc w) f g [] h = ap (λ bs. f ∷ bs) (fit-again k w f g [] (omega arith))
fit-again (suc k) (suc w) f g (y ∷ ys) h = ap (λ bs. y ∷ bs) (fit-again k w f g ys (omega arith))

fit-above : (k w : ℕ) (f g : Bit) (xs ys : List Bit) → k ≤ w → fit k g (xs ++ fit w f ys) ≡ fit k f (xs ++ ys)
fit-above k w f g [] ys h = fit-again k w f g ys h
fit-above zero w f g (x ∷ xs) ys h = refl
fit-above (suc k) w f g (x ∷ xs) ys h = ap (λ bs. x ∷ bs) (fit-above k w f g xs ys (omega arith))

-- copies of the filler are nothing that is fitted
fill-fits : (w : ℕ) (f : Bit) → fill w f ≡ fit w f []
fill-fits zero f = refl
fill-fits (suc w) f = ap (λ bs. f ∷ bs) (fill-fits w f)

-- ---- masks

or_false : (p : Bool) → (p || false) ≡ p
or_false false = refl
or_false true = refl

and_true : (p : Bool) → (p && true) ≡ p
and_true false = refl
and_true true = refl

module _ (n a b p q : ℕ) (small : n ≤ 128) (ones : p < 2 ^ n) (strange : q < 2 ^ n) where
  shifted_at : (i : ℕ) (t : Bool) → i < 128 → nat_lt i n ≡ t
      → bit_in_masks (is_set (a * 2 ^ n) i || is_set p i) (is_set (b * 2 ^ n) i || is_set q i) ≡ get_or (bits_of_masks n p q ++ bits_of_masks 128 a b) i Zero
  shifted_at i true l e =
      let h : i < n = ltb-true i n e in
      let k : i < length (bits_of_masks n p q) = rw width_of_bits h in
      rw (is_set-shl_below a n i h, is_set-shl_below b n i h) (sym (get_or_append_left (bits_of_masks n p q) (bits_of_masks 128 a b) Zero i k ∙ get_or-bits_of_masks n p q i Zero h))
  shifted_at i false l e =
      let h : n ≤ i = ltb-false i n e in
      rw (is_set-shl_from a n i h, is_set-shl_from b n i h, is_set-above p n i ones h, is_set-above q n i strange h, or_false (is_set a (i - n)), or_false (is_set b (i - n)))
      (sym (get_or-append_right (bits_of_masks n p q) (bits_of_masks 128 a b) n i Zero (width_of_bits n p q) h ∙ get_or-bits_of_masks 128 a b (i - n) Zero (omega arith)))

  -- masks that are pushed up by others
  pub shifted : bits_of_masks 128 (bit_or (a * 2 ^ n % 2 ^ 128) p) (bit_or (b * 2 ^ n % 2 ^ 128) q) ≡ fit 128 Zero (bits_of_masks n p q ++ bits_of_masks 128 a b)
  shifted =
      bits_are 128 _ _ (fit 128 Zero (bits_of_masks n p q ++ bits_of_masks 128 a b)) (sym (length-fit 128 Zero _)) (λ i l.
      rw (is_set-or (a * 2 ^ n % 2 ^ 128) p i, is_set-or (b * 2 ^ n % 2 ^ 128) q i, is_set-mod (a * 2 ^ n) 128 i l, is_set-mod (b * 2 ^ n) 128 i l) (shifted_at i (nat_lt i n) l refl ∙ sym (get_or-fit 128 i Zero _ l)))

-- masks that are cut to a width
pub cut_masks : (w a b : ℕ) → w ≤ 128 → bits_of_masks w (bit_and a (2 ^ w - 1)) (bit_and b (2 ^ w - 1)) ≡ fit w Zero (bits_of_masks 128 a b)
cut_masks w a b small =
    bits_are w _ _ (fit w Zero (bits_of_masks 128 a b)) (sym (length-fit w Zero _)) (λ i l.
    rw (is_set-and a _ i, is_set-and b _ i, is_set-ones w i l, and_true (is_set a i), and_true (is_set b i)) (sym (get_or-fit w i Zero _ l ∙ get_or-bits_of_masks 128 a b i Zero (omega arith))))

-- ---- digits

-- a digit that is no x and no z
pub is_plain : (strange : Bool) (b : Bit) → None ≡ (if strange then Some b else None) → strange ≡ false
is_plain true b e = cc
is_plain false b e = refl

-- 128 bits with those of digits that are pushed in below
abbrev pub pushed : (n : ℕ) → List Bit → List ℕ → List Bit
pushed n bs [] = bs
pushed n bs (d ∷ ds) = pushed n (fit 128 Zero (digit_bits n d ++ bs)) ds

flat_map-reverse : (n d : ℕ) (ds : List ℕ) → flat_map (digit_bits n) (reverse (d ∷ ds)) ≡ flat_map (digit_bits n) (reverse ds) ++ digit_bits n d
flat_map-reverse n d ds = ap (flat_map (digit_bits n)) (reverse_onto ds d []) ∙ flat_map-append (digit_bits n) (reverse ds) (d ∷ []) ∙ ap (λ bs. flat_map (digit_bits n) (reverse ds) ++ bs) (append-nil (digit_bits n d))

pushed_all : (n : ℕ) (f : Bit) (xs : List Bit) (ds : List ℕ) → pushed n (fit 128 f xs) ds ≡ fit 128 f (flat_map (digit_bits n) (reverse ds) ++ xs)
pushed_all n f xs [] = refl
pushed_all n f xs (d ∷ ds) =
    ap (λ bs. pushed n bs ds) (fit-above 128 128 f Zero (digit_bits n d) xs (omega arith)) ∙ pushed_all n f (digit_bits n d ++ xs) ds
    ∙ ap (fit 128 f) (sym (append_assoc (flat_map (digit_bits n) (reverse ds)) (digit_bits n d) xs) ∙ ap (λ bs. bs ++ xs) (sym (flat_map-reverse n d ds)))

-- digits below copies of their filler
pub pushed_is : (n : ℕ) (ds : List ℕ) → pushed n (fill 128 (filler ds)) ds ≡ bits_of_digits n 128 ds
pushed_is n ds = ap (λ bs. pushed n bs ds) (fill-fits 128 (filler ds)) ∙ pushed_all n (filler ds) [] ds ∙ ap (fit 128 (filler ds)) (append-nil (flat_map (digit_bits n) (reverse ds)))

-- digits that are cut to a width
pub cut_digits : (n w : ℕ) (ds : List ℕ) → w ≤ 128 → fit w Zero (bits_of_digits n 128 ds) ≡ bits_of_digits n w ds
cut_digits n w ds small = fit-again w 128 (filler ds) Zero (flat_map (digit_bits n) (reverse ds)) small

-- ---- digits without underscores, from a place on

pub skipped : (ds : List ℕ) (i : ℕ) → i < length ds → is_digit (get_or ds i 0) ≡ false → filter is_digit (drop i ds) ≡ filter is_digit (drop (i + 1) ds)
skipped ds i h e = rw (drop-cons ds i 0 h, add-one i, e) refl

pub kept : (ds : List ℕ) (i : ℕ) → i < length ds → is_digit (get_or ds i 0) ≡ true → filter is_digit (drop i ds) ≡ get_or ds i 0 ∷ filter is_digit (drop (i + 1) ds)
kept ds i h e = rw (drop-cons ds i 0 h, add-one i, e) refl

pub pushed_next : (n : ℕ) (bs new : List Bit) (ds : List ℕ) (i : ℕ) → i < length ds → is_digit (get_or ds i 0) ≡ true
    → new ≡ fit 128 Zero (digit_bits n (get_or ds i 0) ++ bs) → pushed n bs (filter is_digit (drop i ds)) ≡ pushed n new (filter is_digit (drop (i + 1) ds))
pushed_next n bs new ds i h e k = ap (pushed n bs) (kept ds i h e) ∙ ap (λ b. pushed n b (filter is_digit (drop (i + 1) ds))) (sym k)

pub pushed_skip : (n : ℕ) (bs : List Bit) (ds : List ℕ) (i : ℕ) → i < length ds → is_digit (get_or ds i 0) ≡ false
    → pushed n bs (filter is_digit (drop i ds)) ≡ pushed n bs (filter is_digit (drop (i + 1) ds))
pushed_skip n bs ds i h e = ap (pushed n bs) (skipped ds i h e)

pub ruleset firsts = (skipped, kept)

pub ruleset pushes = (pushed_next, pushed_skip)
