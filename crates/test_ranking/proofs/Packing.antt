-- Sets of points in words of 64 bits, and back.
use Rattle.std.proofs.Common.{◌≡◌, ℕ, zero, suc, min, ◌+◌, ◌-◌, ◌*◌, ◌/◌, ◌%◌, ◌^◌, ◌<◌, ◌≤◌, Bool, true, false, cond, ◌||◌, ◌==◌, List, [], ◌∷◌, ◌++◌, length, get_or, take, drop, replicate, refl, sym, ap, subst, ◌∙◌, arith}
use Rattle.std.specs.Prelude.{bit_or, count_ones}
use Rattle.std.proofs.lemmas.Bool.{eq-eqb, ne_eqb}
use lib.Pow.{pow_mono}
use Rattle.std.specs.Int.{div_ceil}
use Rattle.std.proofs.lemmas.List.{append-nil, append_assoc, at_drop_more, length-append, length-drop, length-take, map-id, nil_from_length, take-append-drop}
use Rattle.std.proofs.lemmas.Nat.{ones-le, or_block, or_lt}
use Rattle.std.proofs.lemmas.Simd.{mask_l-lt, ones-mask_l}
use Rattle.test_ranking.specs.PointSet.{no_points, size, union}
use Rattle.test_ranking.specs.Words.{ArePacked, bits, joined_ones, joined_words, marks_of, word_of, words_of}
use Rattle.test_ranking.proofs.SetLaws.{drop-union, length-union, size-le-length, size-nil, size-take-drop, take-union}

lowest_bit : (mark : Bool) (word : ℕ) → ((cond mark 1 0 + 2 * word) % 2 == 1) ≡ mark
lowest_bit true word = eq-eqb ((1 + 2 * word) % 2) 1 (omega arith)
lowest_bit false word = ne_eqb ((0 + 2 * word) % 2) 1 (λ e. omega (arith, e))

other_bits : (mark : Bool) (word : ℕ) → (cond mark 1 0 + 2 * word) / 2 ≡ word
other_bits true word = omega arith
other_bits false word = omega arith

-- the bits of a word are its marks
bits_of_word : (marks : List Bool) → bits (length marks) (word_of marks) ≡ marks
unfolding bits
bits_of_word [] = refl
bits_of_word (mark ∷ marks) =
    let first = lowest_bit mark (word_of marks) in
    let rest : bits (length marks) ((cond mark 1 0 + 2 * word_of marks) / 2) ≡ marks = ap (bits (length marks)) (other_bits mark (word_of marks)) ∙ bits_of_word marks in
    cc

length-bits : (count word : ℕ) → length (bits count word) ≡ count
unfolding bits
length-bits zero word = refl
length-bits (suc count) word = ap suc (length-bits count (word / 2))

-- words have the marks of as many points as there are
pub length-marks_of : (points : ℕ) (words : List ℕ) → points ≤ 64 * length words → length (marks_of points words) ≡ points
unfolding marks_of
length-marks_of points [] enough = omega arith
length-marks_of points (word ∷ words) enough =
    length-append (bits (min 64 points) word) (marks_of (points - 64) words) ∙ (omega (arith, length-bits (min 64 points) word, length-marks_of (points - 64) words (omega arith)))

-- the words of marks have these marks
pub marks_of_words : (count points : ℕ) (marks : List Bool) → length marks ≡ points → points ≤ 64 * count → marks_of points (words_of count marks) ≡ marks
unfolding marks_of words_of
marks_of_words zero points marks long enough = sym (nil_from_length marks (omega arith))
marks_of_words (suc count) points marks long enough =
    let few : min 64 points ≡ length (take 64 marks) = omega (arith, length-take 64 marks, long) in
    let first = ap (λ (n : ℕ). bits n (word_of (take 64 marks))) few ∙ bits_of_word (take 64 marks) in
    let rest = marks_of_words count (points - 64) (drop 64 marks) (length-drop 64 marks ∙ ap (λ (n : ℕ). n - 64) long) (omega arith) in
    ap (λ (front : List Bool). front ++ marks_of (points - 64) (words_of count (drop 64 marks))) first ∙ ap (λ (back : List Bool). take 64 marks ++ back) rest ∙ take-append-drop 64 marks

pub length-words_of : (count : ℕ) (marks : List Bool) → length (words_of count marks) ≡ count
unfolding words_of
length-words_of zero marks = refl
length-words_of (suc count) marks = ap suc (length-words_of count (drop 64 marks))

-- the words of marks of as many points as they are for are packed
pub words_packed : (count points : ℕ) (marks : List Bool) (words : List ℕ) → words ≡ words_of count marks → length marks ≡ points → points < 2 ^ 32 → points ≤ 64 * count → 64 * count < points + 64 → ArePacked points words
words_packed count points marks words is long few enough tight =
    let as_long : length words ≡ count = ap (λ (ws : List ℕ). length ws) is ∙ length-words_of count marks in
    let back : marks_of points words ≡ marks = ap (marks_of points) is ∙ marks_of_words count points marks long enough in
    record {
      few = few;
      enough = omega arith;
      tight = omega arith;
      same = is ∙ ap (λ (n : ℕ). words_of n marks) (sym as_long) ∙ ap (words_of (length words)) (sym back);
    }

low_bits : (x y : Bool) → bit_or (cond x 1 0) (cond y 1 0) ≡ cond (x || y) 1 0
low_bits true true = refl
low_bits true false = refl
low_bits false true = refl
low_bits false false = refl

low-lt : (x : Bool) → cond x 1 0 < 2 ^ 1
low-lt true = omega arith
low-lt false = omega arith

-- the word of a union has the bits of both words
word_of_union : (a b : List Bool) → length a ≡ length b → bit_or (word_of a) (word_of b) ≡ word_of (union a b)
word_of_union [] [] same = refl
word_of_union [] (y ∷ ys) same = absurd (omega (arith, same))
word_of_union (x ∷ xs) [] same = absurd (omega (arith, same))
word_of_union (x ∷ xs) (y ∷ ys) same =
    let left : cond x 1 0 + 2 * word_of xs ≡ word_of xs * 2 ^ 1 + cond x 1 0 = omega arith in
    let right : cond y 1 0 + 2 * word_of ys ≡ word_of ys * 2 ^ 1 + cond y 1 0 = omega arith in
    let both = or_block 1 (word_of xs) (word_of ys) (cond x 1 0) (cond y 1 0) (low-lt x) (low-lt y) in
    let high = word_of_union xs ys (omega arith) in
    let low = low_bits x y in
    let last : word_of (union xs ys) * 2 ^ 1 + cond (x || y) 1 0 ≡ cond (x || y) 1 0 + 2 * word_of (union xs ys) = omega arith in
    ap (λ (n : ℕ). bit_or n (cond y 1 0 + 2 * word_of ys)) left ∙ ap (λ (n : ℕ). bit_or (word_of xs * 2 ^ 1 + cond x 1 0) n) right ∙ both
    ∙ ap (λ (n : ℕ). n * 2 ^ 1 + bit_or (cond x 1 0) (cond y 1 0)) high ∙ ap (λ (n : ℕ). word_of (union xs ys) * 2 ^ 1 + n) low ∙ last

same-take : (count : ℕ) (a b : List Bool) → length a ≡ length b → length (take count a) ≡ length (take count b)
same-take count a b same = length-take count a ∙ ap (λ (n : ℕ). min count n) same ∙ sym (length-take count b)

same-drop : (count : ℕ) (a b : List Bool) → length a ≡ length b → length (drop count a) ≡ length (drop count b)
same-drop count a b same = length-drop count a ∙ ap (λ (n : ℕ). n - count) same ∙ sym (length-drop count b)

first_words : (a b : List Bool) → length a ≡ length b → bit_or (word_of (take 64 a)) (word_of (take 64 b)) ≡ word_of (take 64 (union a b))
first_words a b same = word_of_union (take 64 a) (take 64 b) (same-take 64 a b same) ∙ ap word_of (sym (take-union 64 a b))

-- and so have the words of a union
pub words_of_union : (count : ℕ) (a b : List Bool) → length a ≡ length b → joined_words (words_of count a) (words_of count b) ≡ words_of count (union a b)
unfolding words_of
words_of_union zero a b same = refl
words_of_union (suc count) a b same =
    let first = first_words a b same in
    let rest : joined_words (words_of count (drop 64 a)) (words_of count (drop 64 b)) ≡ words_of count (drop 64 (union a b)) =
    words_of_union count (drop 64 a) (drop 64 b) (same-drop 64 a b same) ∙ ap (words_of count) (sym (drop-union 64 a b)) in
    cc

ones_of_word : (marks : List Bool) → count_ones (word_of marks) ≡ size marks
ones_of_word marks = ap (λ (ms : List Bool). count_ones (word_of ms)) (sym (map-id marks)) ∙ ones-mask_l (λ (m : Bool). m) marks

-- the bits of the words joined are the points of the union
pub ones_of_union : (count : ℕ) (a b : List Bool) → length a ≡ length b → length a ≤ 64 * count → joined_ones (words_of count a) (words_of count b) ≡ size (union a b)
unfolding words_of
ones_of_union zero a b same enough =
    let none : union a b ≡ [] = nil_from_length (union a b) (omega (arith, length-union a b same)) in
    sym (ap size none ∙ size-nil)
ones_of_union (suc count) a b same enough =
    let first : count_ones (bit_or (word_of (take 64 a)) (word_of (take 64 b))) ≡ size (take 64 (union a b)) = ap count_ones (first_words a b same) ∙ ones_of_word (take 64 (union a b)) in
    let rest : joined_ones (words_of count (drop 64 a)) (words_of count (drop 64 b)) ≡ size (drop 64 (union a b)) =
    ones_of_union count (drop 64 a) (drop 64 b) (same-drop 64 a b same) (omega (arith, length-drop 64 a)) ∙ ap size (sym (drop-union 64 a b)) in
    omega (arith, first, rest, size-take-drop (union a b) 64)

-- ---- two sets of as many points

-- they have as many words
pub as_many_words : (points : ℕ) (a b : List ℕ) → ArePacked points a → ArePacked points b → length a ≡ length b
as_many_words points a b p q = omega (arith, p.enough, p.tight, q.enough, q.tight)

-- as many marks, as many points
pub as_many_points : (m n : ℕ) (a b : List ℕ) → ArePacked m a → ArePacked n b → length (marks_of m a) ≡ length (marks_of n b) → m ≡ n
as_many_points m n a b p q same = sym (length-marks_of m a p.enough) ∙ same ∙ length-marks_of n b q.enough

-- their words joined are those of the union
pub joined_is : (points : ℕ) (a b : List ℕ) → ArePacked points a → ArePacked points b → joined_words a b ≡ words_of (length a) (union (marks_of points a) (marks_of points b))
joined_is points a b p q =
    let long : length (marks_of points a) ≡ length (marks_of points b) = length-marks_of points a p.enough ∙ sym (length-marks_of points b q.enough) in
    let second : b ≡ words_of (length a) (marks_of points b) = q.same ∙ ap (λ (n : ℕ). words_of n (marks_of points b)) (as_many_words points b a q p) in
    ap (λ (ws : List ℕ). joined_words ws b) p.same ∙ ap (joined_words (words_of (length a) (marks_of points a))) second ∙ words_of_union (length a) (marks_of points a) (marks_of points b) long

-- the words joined are packed, and have the marks of the union
pub joined_packed : (points : ℕ) (a b : List ℕ) → ArePacked points a → ArePacked points b → ArePacked points (joined_words a b)
joined_packed points a b p q =
    let long : length (marks_of points a) ≡ length (marks_of points b) = length-marks_of points a p.enough ∙ sym (length-marks_of points b q.enough) in
    words_packed (length a) points (union (marks_of points a) (marks_of points b)) (joined_words a b) (joined_is points a b p q)
    (length-union (marks_of points a) (marks_of points b) long ∙ length-marks_of points a p.enough) p.few p.enough p.tight

pub joined_marks : (points : ℕ) (a b : List ℕ) → ArePacked points a → ArePacked points b → marks_of points (joined_words a b) ≡ union (marks_of points a) (marks_of points b)
joined_marks points a b p q =
    let long : length (marks_of points a) ≡ length (marks_of points b) = length-marks_of points a p.enough ∙ sym (length-marks_of points b q.enough) in
    ap (marks_of points) (joined_is points a b p q) ∙ marks_of_words (length a) points (union (marks_of points a) (marks_of points b)) (length-union (marks_of points a) (marks_of points b) long ∙ length-marks_of points a p.enough) p.enough

pub joined_size : (points : ℕ) (a b : List ℕ) → ArePacked points a → ArePacked points b → joined_ones a b ≡ size (union (marks_of points a) (marks_of points b))
joined_size points a b p q =
    let one = length-marks_of points a p.enough in
    let long : length (marks_of points a) ≡ length (marks_of points b) = one ∙ sym (length-marks_of points b q.enough) in
    let second : b ≡ words_of (length a) (marks_of points b) = q.same ∙ ap (λ (n : ℕ). words_of n (marks_of points b)) (as_many_words points b a q p) in
    ap (λ (ws : List ℕ). joined_ones ws b) p.same ∙ ap (joined_ones (words_of (length a) (marks_of points a))) second
    ∙ ones_of_union (length a) (marks_of points a) (marks_of points b) long (subst (λ (n : ℕ). n ≤ 64 * length a) (sym one) p.enough)

-- ---- no points

none_in_word : (n : ℕ) → word_of (no_points n) ≡ 0
none_in_word zero = refl
none_in_word (suc n) = omega (arith, none_in_word n)

take-none : (k n : ℕ) → take k (no_points n) ≡ no_points (min k n)
take-none zero n = let least : min zero n ≡ zero = omega arith in sym (ap no_points least)
take-none (suc k) zero = let least : min (suc k) zero ≡ zero = omega arith in sym (ap no_points least)
take-none (suc k) (suc n) = let least : min (suc k) (suc n) ≡ suc (min k n) = omega arith in ap (λ (set : List Bool). false ∷ set) (take-none k n) ∙ ap no_points (sym least)

drop-none : (k n : ℕ) → drop k (no_points n) ≡ no_points (n - k)
drop-none zero n = let all : n - 0 ≡ n = omega arith in ap no_points (sym all)
drop-none (suc k) zero = let none : zero - suc k ≡ zero = omega arith in sym (ap no_points none)
drop-none (suc k) (suc n) = let less : suc n - suc k ≡ n - k = omega arith in drop-none k n ∙ ap no_points (sym less)

-- words of zeros are those of no points
pub zero_words : (count points : ℕ) → replicate count 0 ≡ words_of count (no_points points)
unfolding words_of
zero_words zero points = refl
zero_words (suc count) points =
    let first : 0 ≡ word_of (take 64 (no_points points)) = sym (ap word_of (take-none 64 points) ∙ none_in_word (min 64 points)) in
    let rest : replicate count 0 ≡ words_of count (drop 64 (no_points points)) = zero_words count (points - 64) ∙ ap (words_of count) (sym (drop-none 64 points)) in
    cc

-- ---- what the code computes

-- so many words are enough, and no more than needed
pub word_count : (points count : ℕ) → count ≡ div_ceil points 64 → (points ≤ 64 * count) × (64 * count < points + 64)
word_count points count is = (omega (arith, is), omega (arith, is))

module _ (m n : ℕ) (a b : List ℕ) (x y : List Bool) (p : ArePacked m a) (q : ArePacked n b) (first : marks_of m a ≡ x) (second : marks_of n b ≡ y) (same : length x ≡ length y) where
  same_points : n ≡ m
  same_points =
      sym (length-marks_of n b q.enough) ∙ ap (λ (set : List Bool). length set) second ∙ sym same ∙ ap (λ (set : List Bool). length set) (sym first) ∙ length-marks_of m a p.enough

  as_packed : ArePacked m b
  as_packed = subst (λ (k : ℕ). ArePacked k b) same_points q

  as_marked : marks_of m b ≡ y
  as_marked = ap (λ (k : ℕ). marks_of k b) (sym same_points) ∙ second

  -- two sets of as many points have as many words
  pub same_words : length a ≡ length b
  same_words = as_many_words m a b p as_packed

  -- the words joined are packed
  pub union_packed : (l r ws : List ℕ) → l ≡ a → r ≡ b → ws ≡ joined_words l r → ArePacked m ws
  union_packed l r ws left right is = subst (ArePacked m) (sym (is ∙ ap (λ (v : List ℕ). joined_words v r) left ∙ ap (joined_words a) right)) (joined_packed m a b p as_packed)

  -- and have the marks of the union
  pub union_marks : (l r ws : List ℕ) → l ≡ a → r ≡ b → ws ≡ joined_words l r → marks_of m ws ≡ union x y
  union_marks l r ws left right is =
      ap (marks_of m) (is ∙ ap (λ (v : List ℕ). joined_words v r) left ∙ ap (joined_words a) right) ∙ joined_marks m a b p as_packed ∙ ap (λ (set : List Bool). union set (marks_of m b)) first ∙ ap (union x) as_marked

  -- their bits are the points of the union
  pub union_counted : (l r : List ℕ) (count : ℕ) → l ≡ a → r ≡ b → count ≡ joined_ones l r → count ≡ size (union x y)
  union_counted l r count left right is =
      is ∙ ap (λ (v : List ℕ). joined_ones v r) left ∙ ap (joined_ones a) right ∙ joined_size m a b p as_packed ∙ ap (λ (set : List Bool). size (union set (marks_of m b))) first ∙ ap (λ (set : List Bool). size (union x set)) as_marked

  -- which are few
  pub union_few : size (union x y) < 2 ^ 32
  union_few =
      let long : length x ≡ m = ap (λ (set : List Bool). length set) (sym first) ∙ length-marks_of m a p.enough in
      omega (arith, p.few, long, size-le-length (union x y), length-union x y same)

-- a word more is counted
pub ones_more : (left right : List ℕ) (place count total : ℕ) → place < length left → length left ≡ length right → count + joined_ones (drop place left) (drop place right) ≡ total
    → count + count_ones (bit_or (get_or left place 0) (get_or right place 0)) + joined_ones (drop (place + 1) left) (drop (place + 1) right) ≡ total
ones_more left right place count total inside same so_far =
    let one = at_drop_more (λ (ws : List ℕ). joined_ones ws (drop place right)) left place 0 inside in
    let both = at_drop_more (λ (ws : List ℕ). joined_ones (get_or left place 0 ∷ drop (place + 1) left) ws) right place 0 (omega (arith, inside, same)) in
    omega (arith, one, both, so_far)

pub ones_few : (a b : ℕ) → a < 2 ^ 64 → b < 2 ^ 64 → count_ones (bit_or a b) ≤ 64
ones_few a b p q = ones-le 64 (bit_or a b) (or_lt 64 a b p q)

-- there is room for a mark more
pub word_room : (marks : List Bool) (place : ℕ) → length marks ≤ 64 → 0 < place → place ≤ length marks → word_of (drop place marks) < 2 ^ 63
word_room marks place short some inside =
    let few : length (drop place marks) ≤ 63 = omega (arith, length-drop place marks) in
    omega (arith, mask_l-lt (drop place marks), pow_mono few)

-- a mark more in the lowest bit
pub word_more : (marks : List Bool) (place next bit : ℕ) → place < length marks → next ≡ place + 1 → bit ≡ cond (get_or marks place false) 1 0 → word_of (drop next marks) * 2 + bit ≡ word_of (drop place marks)
word_more marks place next bit inside is bit_is =
    let more = at_drop_more word_of marks place false inside in
    let moved = ap (λ (k : ℕ). word_of (drop k marks)) is in
    omega (arith, more, moved, bit_is)

-- a word more is made
pub words_pushed : (items new : List ℕ) (word count left : ℕ) (marks first others : List Bool) (total : List ℕ) → new ≡ items ++ word ∷ [] → word ≡ word_of first → first ≡ take 64 marks → others ≡ drop 64 marks → left ≡ suc count
    → items ++ words_of left marks ≡ total → new ++ words_of count others ≡ total
unfolding words_of
words_pushed items new word count left marks first others total pushed is front back more so_far =
    let same : word ∷ words_of count others ≡ words_of left marks =
    ap (λ (w : ℕ). w ∷ words_of count others) (is ∙ ap word_of front) ∙ ap (λ (ms : List Bool). word_of (take 64 marks) ∷ words_of count ms) back ∙ ap (λ (n : ℕ). words_of n marks) (sym more) in
    ap (λ (ws : List ℕ). ws ++ words_of count others) pushed ∙ append_assoc items (word ∷ []) (words_of count others) ∙ ap (λ (ws : List ℕ). items ++ ws) same ∙ so_far

-- no word is left
pub words_end : (items total : List ℕ) (left : ℕ) (marks : List Bool) → left ≡ 0 → items ++ words_of left marks ≡ total → items ≡ total
unfolding words_of
words_end items total left marks none so_far =
    let nothing : words_of left marks ≡ [] = ap (λ (n : ℕ). words_of n marks) none in
    sym (append-nil items) ∙ ap (λ (ws : List ℕ). items ++ ws) (sym nothing) ∙ so_far
