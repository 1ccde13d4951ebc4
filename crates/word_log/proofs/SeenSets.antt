-- The sets of what is seen.
use Rattle.std.proofs.Common.{◌≡◌, ℕ, zero, suc, ◌+◌, ◌<◌, ◌==◌, ◌&&◌, ◌||◌, Bool, true, false, not, if◌then◌else◌, List, [], ◌∷◌, ◌++◌, length, map, set, get_or, take, refl, sym, ap, ◌∙◌, get_or-set_same, get_or-set_other, length-set, eq-eqb}
use Rattle.std.specs.List.{Contains}
use Rattle.std.specs.Prelude.{◌↔◌}
use Rattle.std.proofs.Math.Seq.{map-set_same}
use Rattle.std.proofs.lemmas.Bool.{eqb-true, false≢true}
use Rattle.std.proofs.lemmas.List.{length-map, take_more}
use Rattle.index_sets.specs.Members.{Members}
use Rattle.memory_rebuild.specs.Words.{count}
use Rattle.write_log.specs.Entries.{has}
use Rattle.write_log.proofs.Joins.{contains_has, has_append, has_contains}
use Rattle.word_log.specs.declared.memory.StoredMemory.{StoredMemory}
use Rattle.word_log.specs.Logs.{sizes_of}
use Rattle.word_log.specs.Seen.{AreSeen, words_seen}

pub or_false : (t : Bool) → (t || false) ≡ t
or_false true = refl
or_false false = refl

or_true : (t : Bool) → (t || true) ≡ true
or_true true = refl
or_true false = refl

abbrev pub no_set : Members
no_set = record { size = 0; items = [] }

-- ---- a number is put into a set

module _ (xs ys : List ℕ) (x : ℕ) (new : Bool) (there : (new ≡ false) ↔ Contains xs x) (items : ys ≡ (if new then xs ++ x ∷ [] else xs)) where
  pub was_new : new ≡ not (has xs x)
  was_new = go (has xs x) refl new refl
    where
      go : (t : Bool) → has xs x ≡ t → (b : Bool) → new ≡ b → b ≡ not t
      go true e false i = refl
      go true e true i = sym i ∙ there.1 (has_contains xs x e)
      go false e true i = refl
      go false e false i = absurd (false≢true (sym e ∙ contains_has xs x (there.0 i)))

  pub has_new : (i : ℕ) → has ys i ≡ (has xs i || (x == i))
  has_new i = go new refl
    where
      old : (t : Bool) → (x == i) ≡ t → new ≡ false → has xs i ≡ (has xs i || t)
      old false e n = sym (or_false (has xs i))
      old true e n =
          let known : has xs i ≡ true = ap (has xs) (sym (eqb-true x i e)) ∙ contains_has xs x (there.0 n) in
          known ∙ sym (ap (λ t. t || true) known)

      go : (t : Bool) → new ≡ t → has ys i ≡ (has xs i || (x == i))
      go true e = ap (λ zs. has zs i) (items ∙ ap (λ t. if t then xs ++ x ∷ [] else xs) e) ∙ has_append xs (x ∷ []) i ∙ ap (λ t. has xs i || t) (or_false (x == i))
      go false e = ap (λ zs. has zs i) (items ∙ ap (λ t. if t then xs ++ x ∷ [] else xs) e) ∙ old (x == i) refl e

-- ---- one of several sets is changed

module _ (sets : List Members) (m : ℕ) (new : Members) (inside : m < length sets) where
  pub set_here : words_seen (set sets m new) m ≡ new.items
  set_here = ap (λ s. s.items) (get_or-set_same sets m new no_set inside)

  pub set_there : (i : ℕ) → (m == i) ≡ false → words_seen (set sets m new) i ≡ words_seen sets i
  set_there i e = ap (λ s. s.items) (get_or-set_other sets m i new no_set (λ q. false≢true (sym e ∙ eq-eqb m i (sym q))))

pub same_sizes : (sets : List Members) (m : ℕ) (old new : Members) → m < length sets → old ≡ get_or sets m old → new.size ≡ old.size → map (λ s. s.size) (set sets m new) ≡ map (λ s. s.size) sets
same_sizes sets m old new inside is size = map-set_same (λ (s : Members). s.size) sets m new old (size ∙ ap (λ s. s.size) is)

-- a word is seen
module _ (sets : List Members) (m q : ℕ) (old new : Members) (first : Bool) (inside : m < length sets) (is : old.items ≡ words_seen sets m) (there : (first ≡ false) ↔ Contains old.items q) (items : new.items ≡ (if first then old.items ++ q ∷ [] else old.items)) where
  pub word_was_new : first ≡ not (has (words_seen sets m) q)
  word_was_new = was_new old.items new.items q first there items ∙ ap (λ xs. not (has xs q)) is

  pub word_seen : (k : ℕ × ℕ) → has (words_seen (set sets m new) k.0) k.1 ≡ (has (words_seen sets k.0) k.1 || ((m == k.0) && (q == k.1)))
  word_seen k = go (m == k.0) refl
    where
      go : (t : Bool) → (m == k.0) ≡ t → has (words_seen (set sets m new) k.0) k.1 ≡ (has (words_seen sets k.0) k.1 || (t && (q == k.1)))
      go true e =
          let same : m ≡ k.0 = eqb-true m k.0 e in
          ap (λ i. has (words_seen (set sets m new) i) k.1) (sym same) ∙ ap (λ xs. has xs k.1) (set_here sets m new inside)
          ∙ has_new old.items new.items q first there items k.1 ∙ ap (λ xs. has xs k.1 || (q == k.1)) (is ∙ ap (words_seen sets) same)
      go false e = ap (λ xs. has xs k.1) (set_there sets m new inside k.0 e) ∙ sym (or_false (has (words_seen sets k.0) k.1))

-- ---- new sets

pub empty_more : (sets : List Members) (new : Members) → new.items ≡ [] → ((i : ℕ) → words_seen sets i ≡ []) → (i : ℕ) → words_seen (sets ++ new ∷ []) i ≡ []
empty_more [] new e h i = go i
  where
    go : (i : ℕ) → words_seen (new ∷ []) i ≡ []
    go zero = e
    go (suc i) = refl
empty_more (s ∷ sets) new e h i = go (empty_more sets new e (λ j. h (suc j))) i
  where
    go : ((j : ℕ) → words_seen (sets ++ new ∷ []) j ≡ []) → (i : ℕ) → words_seen ((s ∷ sets) ++ new ∷ []) i ≡ []
    go rest zero = h 0
    go rest (suc i) = rest i

pub map_push : {A B : Type 0} (f : A → B) (xs : List A) (x : A) → map f (xs ++ x ∷ []) ≡ map f xs ++ f x ∷ []
map_push f [] x = refl
map_push f (y ∷ ys) x = ap (λ zs. f y ∷ zs) (map_push f ys x)

-- ---- sets are emptied

module _ (before sets : List Members) (numbers : List ℕ) (place number : ℕ) (new : Members) (below : place < length numbers) (is : number ≡ get_or numbers place 0) (inside : number < length sets) (empty : new.items ≡ []) (h : (i : ℕ) → words_seen sets i ≡ (if has (take place numbers) i then [] else words_seen before i)) where
  pub cleared_more : (i : ℕ) → words_seen (set sets number new) i ≡ (if has (take (place + 1) numbers) i then [] else words_seen before i)
  cleared_more i = go (number == i) refl
    where
      split : has (take (place + 1) numbers) i ≡ (has (take place numbers) i || (number == i))
      split = ap (λ xs. has xs i) (take_more numbers place 0 below) ∙ has_append (take place numbers) (get_or numbers place 0 ∷ []) i ∙ ap (λ t. has (take place numbers) i || t) (or_false (get_or numbers place 0 == i) ∙ ap (λ n. n == i) (sym is))

      go : (t : Bool) → (number == i) ≡ t → words_seen (set sets number new) i ≡ (if has (take (place + 1) numbers) i then [] else words_seen before i)
      go true e =
          ap (words_seen (set sets number new)) (sym (eqb-true number i e)) ∙ set_here sets number new inside ∙ empty
          ∙ sym (ap (λ t. if t then [] else words_seen before i) (split ∙ ap (λ t. has (take place numbers) i || t) e ∙ or_true (has (take place numbers) i)))
      go false e =
          set_there sets number new inside i e ∙ h i ∙ sym (ap (λ t. if t then [] else words_seen before i) (split ∙ ap (λ t. has (take place numbers) i || t) e ∙ or_false (has (take place numbers) i)))

-- nothing is seen then
pub all_cleared : (memories : Members) (before sets : List Members) → AreSeen memories before → ((i : ℕ) → words_seen sets i ≡ (if has memories.items i then [] else words_seen before i)) → (i : ℕ) → words_seen sets i ≡ []
all_cleared memories before sets a h i = h i ∙ go (has memories.items i) refl
  where
    go : (t : Bool) → has memories.items i ≡ t → (if t then [] else words_seen before i) ≡ []
    go true e = refl
    go false e = a.unseen i e

-- no word is seen of a memory that is not
pub seen_kept : (memories memories' : Members) (sets : List Members) (m : ℕ) (new : Members) → AreSeen memories sets → memories'.size ≡ memories.size → ((i : ℕ) → has memories'.items i ≡ (has memories.items i || (m == i))) → m < length sets → AreSeen memories' (set sets m new)
seen_kept memories memories' sets m new a size h inside =
    record { count = size ∙ a.count ∙ sym (length-set sets m new); unseen = λ i e. go i (has memories.items i) refl (m == i) refl (sym (h i) ∙ e) }
  where
    go : (i : ℕ) (s : Bool) → has memories.items i ≡ s → (t : Bool) → (m == i) ≡ t → (s || t) ≡ false → words_seen (set sets m new) i ≡ []
    go i true e t f n = absurd (false≢true (sym n))
    go i false e true f n = absurd (false≢true (sym n))
    go i false e false f n = set_there sets m new inside i f ∙ a.unseen i e

pub sizes_length : (sets sets' : List Members) → map (λ s. s.size) sets' ≡ map (λ s. s.size) sets → length sets' ≡ length sets
sizes_length sets sets' e = sym (length-map sets' (λ (s : Members). s.size)) ∙ ap length e ∙ length-map sets (λ (s : Members). s.size)

-- there are as many sets as memories
pub sizes_count : (sets : List Members) (all : List StoredMemory) → map (λ s. s.size) sets ≡ sizes_of all → length sets ≡ length all
sizes_count sets all e = sym (length-map sets (λ (s : Members). s.size)) ∙ ap length e ∙ length-map all (λ (r : StoredMemory). count r.words.shape)

-- the sizes of one memory more
pub sizes_more : (all : List StoredMemory) (i : ℕ) (r : StoredMemory) → i < length all → r ≡ get_or all i r → sizes_of (take (i + 1) all) ≡ sizes_of (take i all) ++ count r.words.shape ∷ []
sizes_more all i r l is =
    ap sizes_of (take_more all i r l) ∙ map_push (λ (m : StoredMemory). count m.words.shape) (take i all) (get_or all i r)
    ∙ ap (λ (m : StoredMemory). sizes_of (take i all) ++ count m.words.shape ∷ []) (sym is)
