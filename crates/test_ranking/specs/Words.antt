-- Sets of points in words of 64 bits.
use Rattle.std.specs.Prelude.{◌≡◌, ◌==◌, ◌<◌, ◌≤◌, ◌+◌, ◌-◌, ◌*◌, ◌/◌, ◌%◌, ◌^◌, ℕ, zero, suc, min, Bool, List, [], ◌∷◌, ◌++◌, length, take, drop, bit_or, count_ones}
use lib.Lanes.{mask_l}

-- the word of these marks, the first in the lowest bit
abbrev pub word_of : List Bool → ℕ
word_of marks = mask_l marks

-- this number of the lowest bits
unfoldable pub bits : ℕ → ℕ → List Bool
bits zero word = []
bits (suc count) word = (word % 2 == 1) ∷ bits count (word / 2)

-- the marks of this number of points
unfoldable pub marks_of : ℕ → List ℕ → List Bool
marks_of points [] = []
marks_of points (word ∷ words) = bits (min 64 points) word ++ marks_of (points - 64) words

-- this number of words of marks
unfoldable pub words_of : ℕ → List Bool → List ℕ
words_of zero marks = []
words_of (suc count) marks = word_of (take 64 marks) ∷ words_of count (drop 64 marks)

-- the words are no more than the points need, and have no other bits
pub record ArePacked (points : ℕ) (words : List ℕ) : Type 0 where
  pub few : points < 2 ^ 32
  pub enough : points ≤ 64 * length words
  pub tight : 64 * length words < points + 64
  pub same : words ≡ words_of (length words) (marks_of points words)

-- the bits of either, word by word
abbrev pub joined_words : List ℕ → List ℕ → List ℕ
joined_words [] ys = []
joined_words (x ∷ xs) [] = []
joined_words (x ∷ xs) (y ∷ ys) = bit_or x y ∷ joined_words xs ys

-- how many bits the words joined have
abbrev pub joined_ones : List ℕ → List ℕ → ℕ
joined_ones [] ys = 0
joined_ones (x ∷ xs) [] = 0
joined_ones (x ∷ xs) (y ∷ ys) = count_ones (bit_or x y) + joined_ones xs ys
