-- The words that a search by an index which is not sure passes over.
use Rattle.std.proofs.Common.{◌≡◌, ℕ, zero, suc, ◌+◌, ◌-◌, ◌*◌, ◌/◌, ◌%◌, ◌^◌, ◌<◌, ◌≤◌, ◌==◌, ◌⊎◌, min, max, Bool, true, false, not, ◌&&◌, if◌then◌else◌, List, [], ◌∷◌, length, map, get_or, bit_and, bit_xor, Option, Some, None, is_some, refl, sym, ap, ap₂, subst, ◌∙◌, ⊎_elim, arith, eq-eqb}
use Rattle.std.specs.Prelude.{nat_le, pos, negsuc}
use Rattle.std.specs.Option.{unwrap_or}
use Rattle.std.proofs.lemmas.Bool.{and_parts, cases_Bool, eqb-true, false≢true, true≢false}
use Rattle.std.proofs.lemmas.List.{get_or-map}
use Rattle.std.proofs.Math.Nat.{pow-suc}
use borrow.Author.Tests.{leb-false}
use Rattle.four_state.specs.declared.bit.Bit.{Bit}
use Rattle.four_state.specs.declared.bit.Bit.TheVariants.{Zero, One, X, Z}
use Rattle.four_state.specs.Vector.{Vector, all_known, bit_of, is_known, is_one, top}
use Rattle.four_state.specs.Arithmetic.{low_bits, natural, not_bit, whole}
use Rattle.four_state.specs.Masks.{is_one_or_z, is_set, mask_of}
use Rattle.four_state.specs.Parts.{index}
use Rattle.four_state.proofs.Places.{differ, is_set-and, is_set-xor, is_set-zero}
use Rattle.four_state.proofs.Lifted.{is_set-mask_of}
use Rattle.known_state.specs.Partly.{Partly, allows_bits, filled}
use Rattle.known_state.specs.Stored.{mask_of_sure}
use Rattle.known_state.proofs.Allowed.{allowed_by_places, length-filled}
use Rattle.known_state.proofs.Cases.{both_true}
use Rattle.known_state.proofs.Strict.{known-cut, known_for}
use Rattle.known_state.proofs.Widths.{length-low_bits}
use Rattle.body_replay.specs.design_model.Value.{named_word}
use Rattle.body_replay.specs.KnownBits.{KnownBits}
use Rattle.body_replay.specs.Store.{is_word}
use Rattle.body_replay.proofs.Values.{named_bounds}
use Rattle.memory_rebuild.specs.declared.shape.Shape.{Shape}
use Rattle.memory_rebuild.specs.Words.{IsIndex, count, least, may_be, memory_of, named_by}
use Rattle.memory_rebuild.proofs.Numbers.{bit_of_number, highest_set, same_block, sure_at, wrong_bit}

-- an index cannot name a word of which its sure bits allow no number
pub not_allowed : (s : Shape) (k : Partly) (j : ℕ) → allows_bits k.bits (low_bits (length k.bits) j) ≡ false → may_be s k j ≡ false
not_allowed s k j e = ap (λ t. t && is_word (named_by s k.signed (low_bits (length k.bits) j)) j) e

-- the words with the wrong bit of a word
pub wrong_words : (s : Shape) (k : Partly) (n p j : ℕ) → 2 ^ p ≤ bit_and (bit_xor n (mask_of is_one_or_z (filled Zero k.bits))) (mask_of_sure k.bits) → bit_and (bit_xor n (mask_of is_one_or_z (filled Zero k.bits))) (mask_of_sure k.bits) < 2 * 2 ^ p → n ≤ j → j < (n / 2 ^ p + 1) * 2 ^ p → may_be s k j ≡ false
wrong_words s k n p j low high from below =
    not_allowed s k j (wrong_bit k.bits n j p (highest_set (bit_and (bit_xor n (mask_of is_one_or_z (filled Zero k.bits))) (mask_of_sure k.bits)) p low high) (same_block n j (2 ^ p) from below))

-- ---- a word with no wrong bit, that still is not named: no later one is

-- a sure x or z allows no number
pub strange_words : (s : Shape) (k : Partly) (j : ℕ) → all_known (filled Zero k.bits) ≡ false → may_be s k j ≡ false
strange_words s k j e =
    not_allowed s k j (⊎_elim (λ h. absurd (false≢true (sym e ∙ known_for Zero refl k.bits (low_bits (length k.bits) j) h (known-cut (length k.bits) (pos j))))) (λ h. h) (cases_Bool (allows_bits k.bits (low_bits (length k.bits) j))))

known_digit : (b : Bit) → is_known b ≡ true → bit_of (is_one_or_z b) ≡ b
known_digit Zero h = refl
known_digit One h = refl
known_digit X h = absurd (false≢true h)
known_digit Z h = absurd (false≢true h)

same_tests : (p q : Bool) → differ p q ≡ false → p ≡ q
same_tests false q h = sym h
same_tests true true h = refl
same_tests true false h = absurd (true≢false h)

known_at : (bs : List Bit) (i : ℕ) → all_known bs ≡ true → i < length bs → is_known (get_or bs i X) ≡ true
known_at [] i h l = absurd (omega (arith, l))
known_at (b ∷ bs) zero h l = (and_parts (is_known b) (all_known bs) h).0
known_at (b ∷ bs) (suc i) h l = known_at bs i (and_parts (is_known b) (all_known bs) h).1 (omega (arith, l))

-- a number with no wrong bit is allowed
right_bits : (ps : KnownBits) (n : ℕ) → bit_and (bit_xor n (mask_of is_one_or_z (filled Zero ps))) (mask_of_sure ps) ≡ 0 → all_known (filled Zero ps) ≡ true → allows_bits ps (low_bits (length ps) n) ≡ true
right_bits ps n none known = allowed_by_places ps (low_bits (length ps) n) (sym (length-low_bits (length ps) n)) (λ i b l e. at i b l e)
  where
    at : (i : ℕ) (b : Bit) → i < length ps → get_or ps i None ≡ Some b → get_or (low_bits (length ps) n) i X ≡ b
    at i b l e =
        let filled_at : get_or (filled Zero ps) i X ≡ b = get_or-map (λ o. unwrap_or o Zero) ps i None X l ∙ ap (λ o. unwrap_or o Zero) e in
        let m : i < length (filled Zero ps) = omega (arith, l, length-filled Zero ps) in
        let is : is_known b ≡ true = ap is_known (sym filled_at) ∙ known_at (filled Zero ps) i known m in
        let sure : is_set (mask_of_sure ps) i ≡ true = sure_at ps i ∙ ap is_some e in
        let ones : is_set (mask_of is_one_or_z (filled Zero ps)) i ≡ is_one_or_z b = is_set-mask_of is_one_or_z (filled Zero ps) i X m ∙ ap is_one_or_z filled_at in
        let off : (is_set (bit_xor n (mask_of is_one_or_z (filled Zero ps))) i && is_set (mask_of_sure ps) i) ≡ false =
        sym (is_set-and (bit_xor n (mask_of is_one_or_z (filled Zero ps))) (mask_of_sure ps) i) ∙ ap (λ m. is_set m i) none ∙ is_set-zero i in
        let apart : differ (is_set n i) (is_one_or_z b) ≡ false =
        ap (differ (is_set n i)) (sym ones) ∙ sym (is_set-xor n (mask_of is_one_or_z (filled Zero ps)) i) ∙ left_false (is_set (bit_xor n (mask_of is_one_or_z (filled Zero ps))) i) (is_set (mask_of_sure ps) i) sure off in
        bit_of_number (length ps) n i l ∙ ap bit_of (same_tests (is_set n i) (is_one_or_z b) apart) ∙ known_digit b is
      where
        left_false : (p q : Bool) → q ≡ true → (p && q) ≡ false → p ≡ false
        left_false false q h g = refl
        left_false true q h g = absurd (true≢false (sym h ∙ g))

digit_number : (t : Bool) (n : ℕ) → (n % 2 == 1) ≡ t → (if is_one (bit_of t) then 1 else 0) + 2 * (n / 2) ≡ n
digit_number true n e = let odd : n % 2 ≡ 1 = eqb-true (n % 2) 1 e in omega (arith, odd)
digit_number false n e = let other : n % 2 ≡ 1 → ⊥ = λ odd. false≢true (sym e ∙ ap (λ m. m == 1) odd) in omega (arith, other)

natural_number : (w n : ℕ) → n < 2 ^ w → natural (low_bits w n) ≡ n
natural_number zero n h = omega (arith, h)
natural_number (suc w) n h =
    ap (λ m. (if is_one (bit_of (n % 2 == 1)) then 1 else 0) + 2 * m) (natural_number w (n / 2) (let p : n < 2 ^ w * 2 = subst (λ m. n < m) (pow-suc 2 w) h in omega (arith, p))) ∙ digit_number (n % 2 == 1) n refl

-- a larger number of as many bits has the top bit too
top_later : (w n j : ℕ) → n ≤ j → j < 2 ^ suc w → is_one (top (low_bits (suc w) n)) ≡ true → is_one (top (low_bits (suc w) j)) ≡ true
top_later zero n j le below h = ap (λ m. is_one (top (low_bits 1 m))) (same (n % 2 == 1) refl h) ∙ h
  where
    same : (t : Bool) → (n % 2 == 1) ≡ t → is_one (bit_of t) ≡ true → j ≡ n
    same true e g = let odd : n % 2 ≡ 1 = eqb-true (n % 2) 1 e in let two : j < 2 = below in omega (arith, le, two, odd)
    same false e g = absurd (false≢true g)
top_later (suc w) n j le below h =
    top_later w (n / 2) (j / 2) (omega (arith, le)) (let p : j < 2 ^ suc w * 2 = subst (λ m. j < m) (pow-suc 2 (suc w)) below in omega (arith, p)) h

-- the whole number of the vector of a number, if it is not negative
plain_number : (signed : Bool) (bs : List Bit) (n : ℕ) → natural bs ≡ n → (signed && is_one (top bs)) ≡ false → whole signed bs ≡ pos n
plain_number signed bs n e h = ap (λ t. if t then negsuc (natural (map not_bit bs)) else pos (natural bs)) h ∙ ap pos e

-- a vector that names a word is not negative, and is that number
record Names (signed : Bool) (bs : List Bit) (j : ℕ) : Type 0 where
  number : natural bs ≡ j
  plain : (signed && is_one (top bs)) ≡ false

names_of : (signed : Bool) (bs : List Bit) (j : ℕ) → index signed bs ≡ Some (pos j) → Names signed bs j
names_of signed bs j e = known (all_known bs) e
  where
    plain : (t : Bool) → (signed && is_one (top bs)) ≡ t → (if t then negsuc (natural (map not_bit bs)) else pos (natural bs)) ≡ pos j → Names signed bs j
    plain true q h = cc
    plain false q h = record { number = cc; plain = q }

    known : (t : Bool) → (if t then Some (whole signed bs) else None) ≡ Some (pos j) → Names signed bs j
    known true h = plain (signed && is_one (top bs)) refl (cc)
    known false h = cc

natural_below : (bs : List Bit) → natural bs < 2 ^ length bs
natural_below [] = omega arith
natural_below (b ∷ bs) = go (is_one b) (natural_below bs)
  where
    go : (t : Bool) → natural bs < 2 ^ length bs → (if t then 1 else 0) + 2 * natural bs < 2 ^ suc (length bs)
    go true h = subst (λ m. 1 + 2 * natural bs < m) (sym (pow-suc 2 (length bs))) (omega (arith, h))
    go false h = subst (λ m. 0 + 2 * natural bs < m) (sym (pow-suc 2 (length bs))) (omega (arith, h))

-- a word that comes before one that is named has a number of as many bits that is not negative either
plain_before : (signed : Bool) (w n j : ℕ) → n ≤ j → Names signed (low_bits w j) j → (signed && is_one (top (low_bits w n))) ≡ false
plain_before signed zero n j le names = names.plain
plain_before signed (suc w) n j le names = go signed names.plain
  where
    below : j < 2 ^ suc w
    below = subst (λ m. m < 2 ^ suc w) names.number (subst (λ m. natural (low_bits (suc w) j) < 2 ^ m) (length-low_bits (suc w) j) (natural_below (low_bits (suc w) j)))

    go : (t : Bool) → (t && is_one (top (low_bits (suc w) j))) ≡ false → (t && is_one (top (low_bits (suc w) n))) ≡ false
    go false h = refl
    go true h = ⊎_elim (λ one. absurd (true≢false (sym (top_later w n j le below one) ∙ h))) (λ none. none) (cases_Bool (is_one (top (low_bits (suc w) n))))

-- so where a later word may be named, one with no wrong bit may be named as well
named_before : (s : Shape) (k : Partly) (n j : ℕ) → IsIndex s n → n ≤ j → bit_and (bit_xor n (mask_of is_one_or_z (filled Zero k.bits))) (mask_of_sure k.bits) ≡ 0 → all_known (filled Zero k.bits) ≡ true → may_be s k j ≡ true → may_be s k n ≡ true
named_before s k n j at le none known h = both_true _ _ (right_bits k.bits n none known) (named (named_bounds (memory_of s) (index k.signed (low_bits (length k.bits) j)) j (is_some_word (named_by s k.signed (low_bits (length k.bits) j)) parts.1)).index)
  where
    parts : (allows_bits k.bits (low_bits (length k.bits) j) ≡ true) × (is_word (named_by s k.signed (low_bits (length k.bits) j)) j ≡ true)
    parts = and_parts (allows_bits k.bits (low_bits (length k.bits) j)) (is_word (named_by s k.signed (low_bits (length k.bits) j)) j) h

    is_some_word : (o : Option ℕ) → is_word o j ≡ true → o ≡ Some j
    is_some_word None e = absurd (false≢true e)
    is_some_word (Some i) e = ap Some (eqb-true i j e)

    named : index k.signed (low_bits (length k.bits) j) ≡ Some (pos j) → is_word (named_by s k.signed (low_bits (length k.bits) n)) n ≡ true
    named e =
        let names : Names k.signed (low_bits (length k.bits) j) j = names_of k.signed (low_bits (length k.bits) j) j e in
        let small : j < 2 ^ length k.bits = subst (λ m. m < 2 ^ length k.bits) names.number (subst (λ m. natural (low_bits (length k.bits) j) < 2 ^ m) (length-low_bits (length k.bits) j) (natural_below (low_bits (length k.bits) j))) in
        let whole_is : index k.signed (low_bits (length k.bits) n) ≡ Some (pos n) =
        ap (λ t. if t then Some (whole k.signed (low_bits (length k.bits) n)) else None) (known-cut (length k.bits) (pos n)) ∙ ap Some (plain_number k.signed (low_bits (length k.bits) n) n (natural_number (length k.bits) n (omega (arith, le, small))) (plain_before k.signed (length k.bits) n j le names)) in
        let in_range : (nat_le (min s.first s.last) n && nat_le n (max s.first s.last)) ≡ true = both_true _ _ (test_le (min s.first s.last) n at.0) (test_le n (max s.first s.last) at.1) in
        ap (λ o. is_word (named_word (memory_of s) o) n) whole_is ∙ ap (λ t. is_word (if t then Some n else None) n) in_range ∙ eq-eqb n n refl
      where
        test_le : (a b : ℕ) → a ≤ b → nat_le a b ≡ true
        test_le a b l = ⊎_elim (λ h. h) (λ h. let past = leb-false a b h in absurd (omega (arith, past, l))) (cases_Bool (nat_le a b))

-- where the search comes to a word with no wrong bit that is not named, no later one is
pub none_later : (s : Shape) (k : Partly) (n j : ℕ) → IsIndex s n → n ≤ j → bit_and (bit_xor n (mask_of is_one_or_z (filled Zero k.bits))) (mask_of_sure k.bits) ≡ 0 → all_known (filled Zero k.bits) ≡ true → may_be s k n ≡ false → may_be s k j ≡ false
none_later s k n j at le none known free = ⊎_elim (λ h. absurd (false≢true (sym free ∙ named_before s k n j at le none known h))) (λ h. h) (cases_Bool (may_be s k j))

-- ---- the same of what the code computes

-- whether an index may name a word, by the vector of its number
pub may_is : (s : Shape) (k : Partly) (place n : ℕ) (v : Vector) → v ≡ record { bits = low_bits (length k.bits) n; signed = k.signed } → n ≡ least s + place → may_be s k (least s + place) ≡ (allows_bits k.bits v.bits && is_word (named_by s v.signed v.bits) (least s + place))
may_is s k place n v is at =
    sym (ap (λ w. allows_bits k.bits w.bits && is_word (named_by s w.signed w.bits) (least s + place)) (is ∙ ap (λ m. record { bits = low_bits (length k.bits) m; signed = k.signed }) at))

pub may_not : (s : Shape) (k : Partly) (place n : ℕ) (v : Vector) → v ≡ record { bits = low_bits (length k.bits) n; signed = k.signed } → n ≡ least s + place → not (allows_bits k.bits v.bits) ≡ true → false ≡ may_be s k (least s + place)
may_not s k place n v is at h = sym (may_is s k place n v is at ∙ ap (λ t. t && is_word (named_by s v.signed v.bits) (least s + place)) (off (allows_bits k.bits v.bits) h))
  where
    off : (t : Bool) → not t ≡ true → t ≡ false
    off true h = sym h
    off false h = refl

on : (t : Bool) → not t ≡ false → t ≡ true
on true h = refl
on false h = sym h

pub may_none : (s : Shape) (k : Partly) (place n : ℕ) (v : Vector) → v ≡ record { bits = low_bits (length k.bits) n; signed = k.signed } → n ≡ least s + place → not (allows_bits k.bits v.bits) ≡ false → named_by s v.signed v.bits ≡ None → false ≡ may_be s k (least s + place)
may_none s k place n v is at h e = sym (may_is s k place n v is at ∙ ap₂ (λ t o. t && is_word o (least s + place)) (on (allows_bits k.bits v.bits) h) e)

same_sums : (a p q : ℕ) → (p == q) ≡ (a + p == a + q)
same_sums a p q = ⊎_elim (λ e. e ∙ sym (eq-eqb (a + p) (a + q) (ap (λ n. a + n) (eqb-true p q e)))) (λ e. e ∙ sym (apart e)) (cases_Bool (p == q))
  where
    apart : (p == q) ≡ false → (a + p == a + q) ≡ false
    apart e = ⊎_elim (λ h. let sums : a + p ≡ a + q = eqb-true (a + p) (a + q) h in absurd (false≢true (sym e ∙ eq-eqb p q (omega (arith, sums))))) (λ h. h) (cases_Bool (a + p == a + q))

pub may_some : (s : Shape) (k : Partly) (place n named : ℕ) (v : Vector) → v ≡ record { bits = low_bits (length k.bits) n; signed = k.signed } → n ≡ least s + place → not (allows_bits k.bits v.bits) ≡ false → named_by s v.signed v.bits ≡ Some (least s + named) → (named == place) ≡ may_be s k (least s + place)
may_some s k place n named v is at h e =
    same_sums (least s) named place ∙ sym (may_is s k place n v is at ∙ ap₂ (λ t o. t && is_word o (least s + place)) (on (allows_bits k.bits v.bits) h) e)

module _ (s : Shape) (k : Partly) (place a ones sure : ℕ) (v : Vector) (at : a ≡ least s) (value : v ≡ record { bits = filled Zero k.bits; signed = k.signed }) (of_ones : ones ≡ mask_of is_one_or_z v.bits) (of_sure : sure ≡ mask_of_sure k.bits) (inside : place < count s) where
  wrong_is : bit_and (bit_xor (a + place) ones) sure ≡ bit_and (bit_xor (least s + place) (mask_of is_one_or_z (filled Zero k.bits))) (mask_of_sure k.bits)
  wrong_is = ap₂ bit_and (ap₂ bit_xor (ap (λ b. b + place) at) (of_ones ∙ ap (λ w. mask_of is_one_or_z w.bits) value)) of_sure

  -- no later word is named where no bit is wrong, or where a sure bit is x or z
  pub search_ends : may_be s k (least s + place) ≡ false → (bit_and (bit_xor (a + place) ones) sure ≡ 0) ⊎ (all_known v.bits ≡ false) → (q : ℕ) → place ≤ q → may_be s k (least s + q) ≡ false
  search_ends free why q le = ⊎_elim right (λ e. strange_words s k (least s + q) (ap (λ w. all_known w.bits) (sym value) ∙ e)) why
    where
      right : bit_and (bit_xor (a + place) ones) sure ≡ 0 → may_be s k (least s + q) ≡ false
      right e =
          ⊎_elim (λ known. none_later s k (least s + place) (least s + q) (omega arith, omega (arith, inside)) (omega (arith, le)) (sym wrong_is ∙ e) known free)
          (λ strange. strange_words s k (least s + q) strange) (cases_Bool (all_known (filled Zero k.bits)))

  -- words with the same wrong bit are passed over
  pub search_goes_on : (p next q : ℕ) → 2 ^ p ≤ bit_and (bit_xor (a + place) ones) sure → bit_and (bit_xor (a + place) ones) sure < 2 * 2 ^ p → next ≤ ((a + place) / 2 ^ p + 1) * 2 ^ p - a → place ≤ q → q < next → may_be s k (least s + q) ≡ false
  search_goes_on p next q low high short from below =
      wrong_words s k (least s + place) p (least s + q) (subst (λ m. 2 ^ p ≤ m) wrong_is low) (subst (λ m. m < 2 * 2 ^ p) wrong_is high) (omega (arith, from))
      (subst (λ b. b + q < ((b + place) / 2 ^ p + 1) * 2 ^ p) at (omega (arith, short, below)))
