-- Indexes of a range, and how far bits are above its lowest bit.
use Rattle.std.proofs.Common.{◌≡◌, ◌≤◌, ◌<◌, refl, ℕ, ◌+◌, ◌-◌, nat_le, min, max, Bool, true, false, ◌&&◌, arith, ℤ, pos, negsuc, ◌-ℤ◌, ◌+ℤ◌, Option, Some, None}
use Rattle.std.proofs.lemmas.Int.{ints}
use Rattle.std.proofs.lemmas.Bool.Decides.{nat_tests}
use Rattle.design_model.specs.declared.design.Range.{Range}
use Rattle.design_model.specs.Value.{offset, slide_offset}
use Rattle.four_state.specs.Parts.{index_of}
use Rattle.elab_const.specs.Meaning.{part_width}
use Rattle.flat_design.specs.Expressions.{is_inside, some_offset, is_word_of_memory}
use Rattle.flat_design.specs.declared.entry.MemoryEntry.{MemoryEntry}
use Rattle.elab_checks.specs.Selected.{contains, has_index, has_slide, has_part}

-- the range of these bounds
abbrev from : ℕ → ℕ → Range
from h l = record { high = h; low = l }

-- the bits up or down from an index are inside where they all are of the range
fall_up : (h l w n : ℕ) (z : ℤ) → l ≤ h → 1 ≤ w → z ≡ (pos n) -ℤ pos l → is_inside (from h l) (Some z) w ≡ (contains (from h l) n && nat_le (n + (w - 1)) (max h l))
fall_up h l w n (pos k) order some e = let e' : k + l ≡ n = omega (arith, ints) in grind (arith, nat_tests)
fall_up h l w n (negsuc k) order some e = let e' : n < l = omega (arith, ints) in grind (arith, nat_tests)

fall_down : (h l w n : ℕ) (z : ℤ) → l ≤ h → 1 ≤ w → z ≡ (pos n -ℤ pos (w - 1)) -ℤ pos l → is_inside (from h l) (Some z) w ≡ (contains (from h l) n && nat_le (min h l + (w - 1)) n)
fall_down h l w n (pos k) order some e = let e' : k + l + (w - 1) ≡ n = omega (arith, ints) in grind (arith, nat_tests)
fall_down h l w n (negsuc k) order some e = let e' : n < l + (w - 1) = omega (arith, ints) in grind (arith, nat_tests)

rise_up : (h l w n : ℕ) (z : ℤ) → h < l → 1 ≤ w → z ≡ pos l -ℤ (pos n +ℤ pos (w - 1)) → is_inside (from h l) (Some z) w ≡ (contains (from h l) n && nat_le (n + (w - 1)) (max h l))
rise_up h l w n (pos k) order some e = let e' : k + n + (w - 1) ≡ l = omega (arith, ints) in grind (arith, nat_tests)
rise_up h l w n (negsuc k) order some e = let e' : l < n + (w - 1) = omega (arith, ints) in grind (arith, nat_tests)

rise_down : (h l w n : ℕ) (z : ℤ) → h < l → 1 ≤ w → z ≡ pos l -ℤ ((pos n -ℤ pos (w - 1)) +ℤ pos (w - 1)) → is_inside (from h l) (Some z) w ≡ (contains (from h l) n && nat_le (min h l + (w - 1)) n)
rise_down h l w n (pos k) order some e = let e' : k + n ≡ l = omega (arith, ints) in grind (arith, nat_tests)
rise_down h l w n (negsuc k) order some e = let e' : l < n = omega (arith, ints) in grind (arith, nat_tests)

-- from an index below 0 none is
below_fall_up : (h l w n : ℕ) (z : ℤ) → l ≤ h → 1 ≤ w → z ≡ negsuc n -ℤ pos l → is_inside (from h l) (Some z) w ≡ false
below_fall_up h l w n (pos k) order some e = absurd (omega (arith, ints))
below_fall_up h l w n (negsuc k) order some e = refl

below_fall_down : (h l w n : ℕ) (z : ℤ) → l ≤ h → 1 ≤ w → z ≡ (negsuc n -ℤ pos (w - 1)) -ℤ pos l → is_inside (from h l) (Some z) w ≡ false
below_fall_down h l w n (pos k) order some e = absurd (omega (arith, ints))
below_fall_down h l w n (negsuc k) order some e = refl

below_rise_up : (h l w n : ℕ) (z : ℤ) → h < l → 1 ≤ w → z ≡ pos l -ℤ (negsuc n +ℤ pos (w - 1)) → is_inside (from h l) (Some z) w ≡ false
below_rise_up h l w n (pos k) order some e = let e' : l + 1 ≤ k + w = omega (arith, ints) in grind (arith, nat_tests)
below_rise_up h l w n (negsuc k) order some e = refl

below_rise_down : (h l w n : ℕ) (z : ℤ) → h < l → 1 ≤ w → z ≡ pos l -ℤ ((negsuc n -ℤ pos (w - 1)) +ℤ pos (w - 1)) → is_inside (from h l) (Some z) w ≡ false
below_rise_down h l w n (pos k) order some e = let e' : l + 1 ≤ k + w = omega (arith, ints) in grind (arith, nat_tests)
below_rise_down h l w n (negsuc k) order some e = refl

-- the order of two numbers
by_order : {A : Type 0} (a b : ℕ) → (a ≤ b → nat_le a b ≡ true → A) → (b < a → nat_le a b ≡ false → A) → A
by_order {A = A} a b p q = go (nat_le a b) refl
  where
    go : (t : Bool) → nat_le a b ≡ t → A
    go true e = p (grind (arith, nat_tests)) e
    go false e = q (grind (arith, nat_tests)) e

-- the bits of an indexed part
pub slide_inside : (h l w : ℕ) (up : Bool) (i : Option ℤ) → 1 ≤ w → is_inside (from h l) (slide_offset (from h l) up w i) w ≡ has_slide (from h l) up w (index_of i)
slide_inside h l w up None some = refl
slide_inside h l w true (Some (pos n)) some = by_order l h (λ order e. rw e (fall_up h l w n _ order some refl)) (λ order e. rw e (rise_up h l w n _ order some refl))
slide_inside h l w false (Some (pos n)) some = by_order l h (λ order e. rw e (fall_down h l w n _ order some refl)) (λ order e. rw e (rise_down h l w n _ order some refl))
slide_inside h l w true (Some (negsuc n)) some = by_order l h (λ order e. rw e (below_fall_up h l w n _ order some refl)) (λ order e. rw e (below_rise_up h l w n _ order some refl))
slide_inside h l w false (Some (negsuc n)) some = by_order l h (λ order e. rw e (below_fall_down h l w n _ order some refl)) (λ order e. rw e (below_rise_down h l w n _ order some refl))

-- one bit
bit_fall : (h l n : ℕ) (z : ℤ) → l ≤ h → z ≡ pos n -ℤ pos l → is_inside (from h l) (Some z) 1 ≡ contains (from h l) n
bit_fall h l n (pos k) order e = let e' : k + l ≡ n = omega (arith, ints) in grind (arith, nat_tests)
bit_fall h l n (negsuc k) order e = let e' : n < l = omega (arith, ints) in grind (arith, nat_tests)

bit_rise : (h l n : ℕ) (z : ℤ) → h < l → z ≡ pos l -ℤ pos n → is_inside (from h l) (Some z) 1 ≡ contains (from h l) n
bit_rise h l n (pos k) order e = let e' : k + n ≡ l = omega (arith, ints) in grind (arith, nat_tests)
bit_rise h l n (negsuc k) order e = let e' : l < n = omega (arith, ints) in grind (arith, nat_tests)

bit_below_fall : (h l n : ℕ) (z : ℤ) → l ≤ h → z ≡ negsuc n -ℤ pos l → is_inside (from h l) (Some z) 1 ≡ false
bit_below_fall h l n (pos k) order e = absurd (omega (arith, ints))
bit_below_fall h l n (negsuc k) order e = refl

bit_below_rise : (h l n : ℕ) (z : ℤ) → h < l → z ≡ pos l -ℤ negsuc n → is_inside (from h l) (Some z) 1 ≡ false
bit_below_rise h l n (pos k) order e = let e' : l + 1 ≤ k = omega (arith, ints) in grind (arith, nat_tests)
bit_below_rise h l n (negsuc k) order e = refl

pub bit_inside : (h l : ℕ) (i : Option ℤ) → is_inside (from h l) (some_offset (from h l) i) 1 ≡ has_index (from h l) (index_of i)
bit_inside h l None = refl
bit_inside h l (Some (pos n)) = by_order l h (λ order e. rw e (bit_fall h l n _ order refl)) (λ order e. rw e (bit_rise h l n _ order refl))
bit_inside h l (Some (negsuc n)) = by_order l h (λ order e. rw e (bit_below_fall h l n _ order refl)) (λ order e. rw e (bit_below_rise h l n _ order refl))

pub word_inside : (m : MemoryEntry) (i : Option ℤ) → is_word_of_memory i m ≡ has_index m.words (index_of i)
word_inside m None = refl
word_inside m (Some (pos n)) = refl
word_inside m (Some (negsuc n)) = refl

-- the bits of a part
part_fall : (h l a b : ℕ) (z : ℤ) → l ≤ h → 1 ≤ a + 1 - b → z ≡ pos b -ℤ pos l → is_inside (from h l) (Some z) (a + 1 - b) ≡ has_part (from h l) a b
part_fall h l a b (pos k) order some e = let e' : k + l ≡ b = omega (arith, ints) in grind (arith, nat_tests)
part_fall h l a b (negsuc k) order some e = let e' : b < l = omega (arith, ints) in grind (arith, nat_tests)

part_rise : (h l a b : ℕ) (z : ℤ) → h < l → 1 ≤ b + 1 - a → z ≡ pos l -ℤ pos b → is_inside (from h l) (Some z) (b + 1 - a) ≡ has_part (from h l) a b
part_rise h l a b (pos k) order some e = let e' : k + b ≡ l = omega (arith, ints) in grind (arith, nat_tests)
part_rise h l a b (negsuc k) order some e = let e' : l < b = omega (arith, ints) in grind (arith, nat_tests)

pub part_inside : (h l a b : ℕ) → 1 ≤ part_width (nat_le l h) a b → is_inside (from h l) (Some (offset (from h l) (pos b))) (part_width (nat_le l h) a b) ≡ has_part (from h l) a b
part_inside h l a b some = by_order l h (λ order e. rw e (part_fall h l a b _ order (rw e at some) refl)) (λ order e. rw e (part_rise h l a b _ order (rw e at some) refl))
