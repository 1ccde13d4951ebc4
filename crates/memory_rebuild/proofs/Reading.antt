-- What an index reads: a loop over the words that it may name, and a look-up.
use Rattle.std.proofs.Common.{◌≡◌, ℕ, zero, suc, ◌+◌, ◌-◌, ◌<◌, ◌≤◌, Bool, true, false, if◌then◌else◌, List, length, Option, Some, None, sym, ap, ap₂, subst, ◌∙◌, arith}
use Rattle.std.specs.List.{range_with_len}
use Rattle.four_state.specs.declared.bit.Bit.{Bit}
use Rattle.four_state.specs.declared.bit.Bit.TheVariants.{X}
use Rattle.four_state.specs.Vector.{Vector, fill}
use Rattle.known_state.specs.Partly.{Partly, are_sure, is_whole, whole_of, with_blame}
use Rattle.known_state.specs.Join.{joined}
use Rattle.known_state.specs.Stored.{mask_of_sure}
use Rattle.known_state.proofs.Allowed.{are_sure_whole}
use Rattle.body_replay.specs.KnownBits.{KnownBits, on_whole, sure, whole_bits, unknown}
use Rattle.body_replay.proofs.Answered.{same_sure}
use Rattle.body_replay.proofs.Exact.{sure_length}
use Rattle.body_replay.proofs.Operators.{fill_length, whole_sure}
use Rattle.body_replay.proofs.Unsure.{not_whole}
use Rattle.memory_rebuild.specs.Words.{HaveWidth, KnownWords, blame_read, bits_read, count, join_of, least, may_be, named_by, option_word, read_of, word_at}
use Rattle.memory_rebuild.specs.declared.shape.Shape.{Shape}
use Rattle.memory_rebuild.proofs.Joins.{joined_assoc, joined_comm, joined_self, length-joined, nothing_sure, unknown_joined}

-- the bits that are read where no word is named
abbrev pub strange_bits : KnownWords → KnownBits
strange_bits r = sure (fill r.shape.width X)

pub strange_length : (w : ℕ) → length (sure (fill w X)) ≡ w
strange_length w = sure_length (fill w X) ∙ fill_length w X

-- the join of the words from one on that an index may name
abbrev pub joined_from : KnownWords → Partly → ℕ → ℕ → KnownBits
joined_from r k a n = join_of r (may_be r.shape k) (range_with_len a n)

-- x is in each join already
strange_in : (r : KnownWords) (k : Partly) (a n : ℕ) → joined (strange_bits r) (joined_from r k a n) ≡ joined_from r k a n
strange_in r k a zero = joined_self (strange_bits r)
strange_in r k a (suc n) = go (may_be r.shape k a) (strange_in r k (a + 1) n)
  where
    go : (t : Bool) → joined (strange_bits r) (joined_from r k (a + 1) n) ≡ joined_from r k (a + 1) n → joined (strange_bits r) (if t then joined (word_at r a) (joined_from r k (a + 1) n) else joined_from r k (a + 1) n) ≡ (if t then joined (word_at r a) (joined_from r k (a + 1) n) else joined_from r k (a + 1) n)
    go false ih = ih
    go true ih =
        sym (joined_assoc (strange_bits r) (word_at r a) (joined_from r k (a + 1) n)) ∙ ap (λ ps. joined ps (joined_from r k (a + 1) n)) (joined_comm (strange_bits r) (word_at r a)) ∙ joined_assoc (word_at r a) (strange_bits r) (joined_from r k (a + 1) n) ∙ ap (joined (word_at r a)) ih

-- words that the index cannot name are passed over
passed_over : (r : KnownWords) (k : Partly) (a m n : ℕ) → ((q : ℕ) → q < m → may_be r.shape k (a + q) ≡ false) → joined_from r k a (m + n) ≡ joined_from r k (a + m) n
passed_over r k a zero n h =
    let b : a ≡ a + 0 = omega arith in
    let m : 0 + n ≡ n = omega arith in
    ap₂ (joined_from r k) b m
passed_over r k a (suc m) n h =
    let here : a + 0 ≡ a = omega arith in
    let first : may_be r.shape k a ≡ false = subst (λ b. may_be r.shape k b ≡ false) here (h 0 (omega arith)) in
    let more : suc m + n ≡ suc (m + n) = omega arith in
    let next : a + 1 + m ≡ a + suc m = omega arith in
    ap (joined_from r k a) more ∙ ap (λ t. if t then joined (word_at r a) (joined_from r k (a + 1) (m + n)) else joined_from r k (a + 1) (m + n)) first
    ∙ passed_over r k (a + 1) m n (λ q l. let b : a + suc q ≡ a + 1 + q = omega arith in subst (λ b. may_be r.shape k b ≡ false) b (h (suc q) (omega (arith, l)))) ∙ ap (λ b. joined_from r k b n) next

pub join_length : (r : KnownWords) (k : Partly) → HaveWidth r → (a n : ℕ) → length (joined_from r k a n) ≡ r.shape.width
join_length r k sizes a zero = strange_length r.shape.width
join_length r k sizes a (suc n) = go (may_be r.shape k a) (join_length r k sizes (a + 1) n)
  where
    go : (t : Bool) → length (joined_from r k (a + 1) n) ≡ r.shape.width → length (if t then joined (word_at r a) (joined_from r k (a + 1) n) else joined_from r k (a + 1) n) ≡ r.shape.width
    go false ih = ih
    go true ih = length-joined (word_at r a) (joined_from r k (a + 1) n) r.shape.width (sizes a) ih

-- the join of the words before a place, and that the words from there on are all that is left
pub record SoFar (r : KnownWords) (k acc : Partly) (place : ℕ) : Type 0 where
  pub within : place ≤ count r.shape
  pub size : length acc.bits ≡ r.shape.width
  pub whole : acc ≡ with_blame acc.bits r.shape.signed k.blame
  pub strange : joined acc.bits (strange_bits r) ≡ acc.bits
  pub rest : joined acc.bits (joined_from r k (least r.shape + place) (count r.shape - place)) ≡ joined_from r k (least r.shape) (count r.shape)

-- a vector that is whole blames nothing
pub whole_blames : (bs : List Bit) (signed : Bool) (thing : ℕ) → whole_of (record { bits = bs; signed = signed }) ≡ with_blame (sure bs) signed thing
whole_blames bs signed thing = ap (λ t. record { bits = sure bs; signed = signed; blame = if t then 0 else thing }) (sym (are_sure_whole bs))

pub so_far_none : (r : KnownWords) (k : Partly) → SoFar r k (whole_of (record { bits = fill r.shape.width X; signed = r.shape.signed })) 0
so_far_none r k =
    record {
      within = omega arith;
      size = strange_length r.shape.width;
      whole = whole_blames (fill r.shape.width X) r.shape.signed k.blame;
      strange = joined_self (strange_bits r);
      rest = ap (joined (strange_bits r)) (let b : least r.shape + 0 ≡ least r.shape = omega arith in let n : count r.shape - 0 ≡ count r.shape = omega arith in ap₂ (joined_from r k) b n) ∙ strange_in r k (least r.shape) (count r.shape);
    }

-- one word more that may be named
pub so_far_named : (r : KnownWords) (k acc : Partly) (place : ℕ) → SoFar r k acc place → place < count r.shape → may_be r.shape k (least r.shape + place) ≡ true → length (word_at r (least r.shape + place)) ≡ r.shape.width → SoFar r k (with_blame (joined acc.bits (word_at r (least r.shape + place))) acc.signed k.blame) (place + 1)
so_far_named r k acc place s l may size =
    let word : KnownBits = word_at r (least r.shape + place) in
    let next : KnownBits = joined_from r k (least r.shape + (place + 1)) (count r.shape - (place + 1)) in
    record {
      within = omega (arith, l);
      size = length-joined acc.bits word r.shape.width s.size size;
      whole = ap (λ t. with_blame (joined acc.bits word) t k.blame) (ap (λ a. a.signed) s.whole);
      strange = joined_assoc acc.bits word (strange_bits r) ∙ ap (joined acc.bits) (joined_comm word (strange_bits r)) ∙ sym (joined_assoc acc.bits (strange_bits r) word) ∙ ap (λ ps. joined ps word) s.strange;
      rest =
          joined_assoc acc.bits word next
          ∙ ap (joined acc.bits)
          (sym (ap (joined_from r k (least r.shape + place)) (let n : count r.shape - place ≡ suc (count r.shape - (place + 1)) = omega (arith, l) in n)
          ∙ ap (λ t. if t then joined word (joined_from r k (least r.shape + place + 1) (count r.shape - (place + 1))) else joined_from r k (least r.shape + place + 1) (count r.shape - (place + 1))) may
          ∙ ap (λ b. joined word (joined_from r k b (count r.shape - (place + 1)))) (let b : least r.shape + place + 1 ≡ least r.shape + (place + 1) = omega arith in b)))
          ∙ s.rest;
    }

-- words that cannot be named
pub so_far_passed : (r : KnownWords) (k acc : Partly) (place next : ℕ) → SoFar r k acc place → place ≤ next → next ≤ count r.shape → ((q : ℕ) → place ≤ q → q < next → may_be r.shape k (least r.shape + q) ≡ false) → SoFar r k acc next
so_far_passed r k acc place next s low high none =
    record {
      within = high;
      size = s.size;
      whole = s.whole;
      strange = s.strange;
      rest =
          ap (joined acc.bits)
          (sym (ap (joined_from r k (least r.shape + place)) (let n : count r.shape - place ≡ (next - place) + (count r.shape - next) = omega (arith, low, high) in n)
          ∙ passed_over r k (least r.shape + place) (next - place) (count r.shape - next) (λ q l. let b : least r.shape + (place + q) ≡ least r.shape + place + q = omega arith in subst (λ b. may_be r.shape k b ≡ false) b (none (place + q) (omega arith) (omega (arith, l))))
          ∙ ap (λ b. joined_from r k b (count r.shape - next)) (let b : least r.shape + place + (next - place) ≡ least r.shape + next = omega (arith, low) in b)))
          ∙ s.rest;
    }

-- what is read by an index that is not sure is the join of all
unsure_read : (r : KnownWords) (k acc : Partly) → is_whole k ≡ false → acc ≡ with_blame acc.bits r.shape.signed k.blame → acc.bits ≡ joined_from r k (least r.shape) (count r.shape) → acc ≡ read_of r k
unsure_read r k acc unsure whole e =
    whole ∙ ap (λ ps. with_blame ps r.shape.signed k.blame) (e ∙ sym (not_whole k.bits (same_sure k.bits ∙ unsure) (λ bs. option_word r (named_by r.shape k.signed bs)) (joined_from r k (least r.shape) (count r.shape))))
    ∙ ap (with_blame (bits_read r k) r.shape.signed) (sym (ap (λ t. if t then r.shape.blame else k.blame) unsure))

pub so_far_all : (r : KnownWords) (k acc : Partly) (place : ℕ) → is_whole k ≡ false → SoFar r k acc place → count r.shape ≤ place → acc ≡ read_of r k
so_far_all r k acc place unsure s l =
    let none : count r.shape - place ≡ 0 = omega (arith, l) in
    unsure_read r k acc unsure s.whole (sym s.strange ∙ sym (ap (λ n. joined acc.bits (joined_from r k (least r.shape + place) n)) none) ∙ s.rest)

-- where nothing is sure any more, the rest is of no use
pub so_far_unknown : (r : KnownWords) (k acc : Partly) (place : ℕ) → HaveWidth r → is_whole k ≡ false → SoFar r k acc place → mask_of_sure acc.bits ≡ 0 → acc ≡ read_of r k
so_far_unknown r k acc place sizes unsure s e =
    let none : acc.bits ≡ unknown r.shape.width = nothing_sure acc.bits e ∙ ap unknown s.size in
    unsure_read r k acc unsure s.whole
    (none ∙ sym (unknown_joined r.shape.width (joined_from r k (least r.shape + place) (count r.shape - place)) (join_length r k sizes (least r.shape + place) (count r.shape - place))) ∙ ap (λ ps. joined ps (joined_from r k (least r.shape + place) (count r.shape - place))) (sym none) ∙ s.rest)

-- what is read by a sure index
pub sure_read : (r : KnownWords) (k : Partly) (v : Vector) (o : Option ℕ) → k ≡ whole_of v → named_by r.shape v.signed v.bits ≡ o → read_of r k ≡ with_blame (option_word r o) r.shape.signed r.shape.blame
sure_read r k v o is names =
    ap (read_of r) is ∙ ap (λ t. with_blame (on_whole t (λ bs. option_word r (named_by r.shape v.signed bs)) (join_of r (may_be r.shape (whole_of v)) (range_with_len (least r.shape) (count r.shape)))) r.shape.signed (blame_read r (whole_of v))) (whole_sure v.bits)
    ∙ ap (λ t. with_blame (option_word r (named_by r.shape v.signed v.bits)) r.shape.signed (if t then r.shape.blame else 0)) (are_sure_whole v.bits) ∙ ap (λ p. with_blame (option_word r p) r.shape.signed r.shape.blame) names

-- a read has the width of the words
pub read_length : (r : KnownWords) (k : Partly) → HaveWidth r → length (bits_read r k) ≡ r.shape.width
read_length r k sizes = go (whole_bits k.bits)
  where
    option_length : (o : Option ℕ) → length (option_word r o) ≡ r.shape.width
    option_length None = strange_length r.shape.width
    option_length (Some i) = sizes i

    go : (o : Option (List Bit)) → length (on_whole o (λ bs. option_word r (named_by r.shape k.signed bs)) (joined_from r k (least r.shape) (count r.shape))) ≡ r.shape.width
    go None = join_length r k sizes (least r.shape) (count r.shape)
    go (Some bs) = option_length (named_by r.shape k.signed bs)

-- the blame of a read that is not wholly sure
pub read_blamed : (r : KnownWords) (k q : Partly) → q ≡ read_of r k → is_whole q ≡ false → q.blame ≡ blame_read r k
read_blamed r k q e unsure =
    let bits : are_sure (bits_read r k) ≡ false = ap is_whole (sym e) ∙ unsure in
    ap (λ x. x.blame) e ∙ ap (λ t. if t then 0 else blame_read r k) bits

-- ---- the same of what the code computes

-- x, of which all bits are sure
pub so_far_first : (r : KnownWords) (k acc : Partly) (s : Shape) → s ≡ r.shape → acc ≡ whole_of (record { bits = fill s.width X; signed = s.signed }) → SoFar r k acc 0
so_far_first r k acc s same e = subst (λ a. SoFar r k a 0) (sym (e ∙ ap (λ x. whole_of (record { bits = fill x.width X; signed = x.signed })) same)) (so_far_none r k)

pub so_far_joined : (r : KnownWords) (k acc word next : Partly) (place thing : ℕ) (s : Shape) → s ≡ r.shape → SoFar r k acc place → place < count s → may_be s k (least s + place) ≡ true → word ≡ with_blame (word_at r (least r.shape + place)) r.shape.signed r.shape.blame → length word.bits ≡ r.shape.width → thing ≡ k.blame → next ≡ with_blame (joined acc.bits word.bits) acc.signed thing → SoFar r k next (place + 1)
so_far_joined r k acc word next place thing s same so l may is size blames e =
    let bits : word.bits ≡ word_at r (least r.shape + place) = ap (λ q. q.bits) is in
    subst (λ a. SoFar r k a (place + 1)) (sym (e ∙ ap₂ (λ ps n. with_blame (joined acc.bits ps) acc.signed n) bits blames))
    (so_far_named r k acc place so (subst (λ x. place < count x) same l) (subst (λ x. may_be x k (least x + place) ≡ true) same may) (sym (ap length bits) ∙ size))

pub so_far_after : (r : KnownWords) (k acc : Partly) (place next : ℕ) (s : Shape) → s ≡ r.shape → SoFar r k acc place → place < next → next ≤ count s → ((q : ℕ) → place ≤ q → q < next → may_be s k (least s + q) ≡ false) → SoFar r k acc next
so_far_after r k acc place next s same so low high none =
    so_far_passed r k acc place next so (omega (arith, low)) (subst (λ x. next ≤ count x) same high) (subst (λ x. (q : ℕ) → place ≤ q → q < next → may_be x k (least x + q) ≡ false) same none)

pub so_far_ended : (r : KnownWords) (k acc : Partly) (place : ℕ) (s : Shape) → s ≡ r.shape → is_whole k ≡ false → SoFar r k acc place → count s ≤ place → acc ≡ read_of r k
so_far_ended r k acc place s same unsure so l = so_far_all r k acc place unsure so (subst (λ x. count x ≤ place) same l)

pub read_named : (r : KnownWords) (k word : Partly) (v : Vector) (place : ℕ) (s : Shape) → s ≡ r.shape → k ≡ whole_of v → named_by s v.signed v.bits ≡ Some (least s + place) → word ≡ with_blame (word_at r (least r.shape + place)) r.shape.signed r.shape.blame → word ≡ read_of r k
read_named r k word v place s same is names e = e ∙ sym (sure_read r k v (Some (least r.shape + place)) is (subst (λ x. named_by x v.signed v.bits ≡ Some (least x + place)) same names))

pub read_unnamed : (r : KnownWords) (k q : Partly) (v : Vector) (s : Shape) → s ≡ r.shape → k ≡ whole_of v → named_by s v.signed v.bits ≡ None → q ≡ whole_of (record { bits = fill s.width X; signed = s.signed }) → q ≡ read_of r k
read_unnamed r k q v s same is names e =
    e ∙ ap (λ x. whole_of (record { bits = fill x.width X; signed = x.signed })) same ∙ whole_blames (fill r.shape.width X) r.shape.signed r.shape.blame ∙ sym (sure_read r k v None is (subst (λ x. named_by x v.signed v.bits ≡ None) same names))
