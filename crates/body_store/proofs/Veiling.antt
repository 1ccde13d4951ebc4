-- The memories of a store of which some are veiled.
use Rattle.std.proofs.Common.{◌≡◌, ℕ, zero, suc, ◌+◌, ◌<◌, ◌≤◌, ◌==◌, ◌||◌, Bool, true, false, if◌then◌else◌, List, [], ◌∷◌, ◌++◌, length, get_or, take, length-take, refl, sym, ap, ap₂, ◌∙◌, arith}
use Rattle.std.specs.List.{Contains}
use Rattle.std.proofs.lemmas.Bool.{eqb-true, false≢true}
use Rattle.std.proofs.lemmas.List.{get_or-take, get_or_past, take_more}
use Rattle.word_log.specs.memory_rebuild.Words.{KnownWords, unwritten}
use Rattle.design_model.specs.Design.{no_memory}
use Rattle.write_log.specs.Entries.{has}
use Rattle.write_log.proofs.Joins.{contains_has, has_append, has_contains}
use Rattle.word_log.specs.declared.memory.StoredMemory.{StoredMemory}
use Rattle.body_store.specs.declared.veils.Veils.{Veils}
use Rattle.body_store.specs.Fitting.{memory_in}
use Rattle.body_store.specs.Made.{shape_of, unknown_memory}
use Rattle.body_store.specs.Veils.{Exchanged, IsAside, is_veiled, kept_memory, kept_words, under_at}

-- ---- lists of numbers

pub same_test : (xs : List ℕ) (x : ℕ) (r : Bool) → (r ≡ true → Contains xs x) → (Contains xs x → r ≡ true) → r ≡ has xs x
same_test xs x true there back = sym (contains_has xs x (there refl))
same_test xs x false there back = go (has xs x) refl
  where
    go : (t : Bool) → has xs x ≡ t → false ≡ t
    go false e = refl
    go true e = back (has_contains xs x e)

-- ---- no memory is veiled

pub plain_words : (v : Veils) (rs : List StoredMemory) → v.veiled.items ≡ [] → (i : ℕ) → kept_words v rs i ≡ (memory_in rs i).words
plain_words v rs none i = ap (λ xs. if has xs i then under_at v i else (memory_in rs i).words) none

pub plain_memory : (v : Veils) (rs : List StoredMemory) → v.veiled.items ≡ [] → (i : ℕ) → kept_memory v rs i ≡ memory_in rs i
plain_memory v rs none i = ap {A = KnownWords} (λ w. record { words = w; written = (memory_in rs i).written }) (plain_words v rs none i)

-- ---- past the memories

pub past_words : (v : Veils) (rs : List StoredMemory) (i : ℕ) → length rs ≤ i → length v.under.items ≤ i → kept_words v rs i ≡ unwritten (shape_of no_memory 0)
past_words v rs i l m =
    ap₂ (λ a b. if is_veiled v i then a else b) (get_or_past v.under.items i (unwritten (shape_of no_memory 0)) m) (ap (λ r. r.words) (get_or_past rs i (unknown_memory no_memory 0) l)) ∙ go (is_veiled v i)
  where
    go : (t : Bool) → (if t then unwritten (shape_of no_memory 0) else unwritten (shape_of no_memory 0)) ≡ unwritten (shape_of no_memory 0)
    go true = refl
    go false = refl

-- ---- a memory is veiled

or_last : (b t : Bool) → (b || (t || false)) ≡ (t || b)
or_last true true = refl
or_last true false = refl
or_last false true = refl
or_last false false = refl

-- it was not before
module _ (v w v' : Veils) (rs rs' : List StoredMemory) (p : ℕ) (under : w.under ≡ v.under) (items : w.veiled.items ≡ v.veiled.items ++ p ∷ []) (new : is_veiled v p ≡ false) (e : Exchanged p w rs v' rs') where
  veiled_more : (i : ℕ) → is_veiled v' i ≡ ((p == i) || is_veiled v i)
  veiled_more i =
      ap (λ z. has z.items i) e.veiled ∙ ap (λ xs. has xs i) items ∙ has_append v.veiled.items (p ∷ []) i ∙ or_last (has v.veiled.items i) (p == i)

  kept_by_test : (i : ℕ) (t : Bool) → (p == i) ≡ t → kept_words v' rs' i ≡ kept_words v rs i
  kept_by_test i true q =
      let is : p ≡ i = eqb-true p i q in
      let now : is_veiled v' i ≡ true = veiled_more i ∙ ap (λ t. t || is_veiled v i) q in
      let before : is_veiled v i ≡ false = ap (is_veiled v) (sym is) ∙ new in
      ap (λ t. if t then under_at v' i else (memory_in rs' i).words) now ∙ e.under i ∙ ap (λ t. if t then (memory_in rs p).words else under_at w i) q
      ∙ ap (λ j. (memory_in rs j).words) is ∙ sym (ap (λ t. if t then under_at v i else (memory_in rs i).words) before)
  kept_by_test i false q =
      let now : is_veiled v' i ≡ is_veiled v i = veiled_more i ∙ ap (λ t. t || is_veiled v i) q in
      let aside : under_at v' i ≡ under_at v i = e.under i ∙ ap (λ t. if t then (memory_in rs p).words else under_at w i) q ∙ ap (λ us. get_or us.items i (unwritten (shape_of no_memory 0))) under in
      let read : (memory_in rs' i).words ≡ (memory_in rs i).words = e.read i ∙ ap (λ t. if t then under_at w p else (memory_in rs i).words) q in
      ap (λ t. if t then under_at v' i else (memory_in rs' i).words) now ∙ ap₂ (λ a b. if is_veiled v i then a else b) aside read

  pub aside_new : IsAside p v rs v' rs'
  aside_new =
      record {
        count = e.count;
        written = e.written;
        veiled = veiled_more;
        kept = λ i. kept_by_test i (p == i) refl;
        others = λ i q. e.read i ∙ ap (λ t. if t then under_at w p else (memory_in rs i).words) q;
      }

-- it was already
pub aside_old : (v w : Veils) (rs : List StoredMemory) (p : ℕ) → w.under ≡ v.under → w.veiled.items ≡ v.veiled.items → is_veiled v p ≡ true → IsAside p v rs w rs
aside_old v w rs p under items old =
    record {
      count = refl;
      written = λ i. refl;
      veiled = λ i. ap (λ xs. has xs i) items ∙ go i (p == i) refl;
      kept = λ i. ap₂ (λ xs us. if has xs i then get_or us.items i (unwritten (shape_of no_memory 0)) else (memory_in rs i).words) items under;
      others = λ i q. refl;
    }
  where
    go : (i : ℕ) (t : Bool) → (p == i) ≡ t → has v.veiled.items i ≡ (t || has v.veiled.items i)
    go i true q = ap (has v.veiled.items) (sym (eqb-true p i q)) ∙ old
    go i false q = refl

-- ---- the words come back

get_or-default : (xs : List ℕ) (i a b : ℕ) → i < length xs → get_or xs i a ≡ get_or xs i b
get_or-default [] i a b l = absurd (omega (arith, l))
get_or-default (x ∷ xs) zero a b l = refl
get_or-default (x ∷ xs) (suc i) a b l = get_or-default xs i a b (omega (arith, l))

not_before : (xs : List ℕ) (n : ℕ) → n < length xs → ((i j : ℕ) → i < j → j < length xs → get_or xs i 0 ≡ get_or xs j 0 → ⊥) → has (take n xs) (get_or xs n 0) ≡ false
not_before xs n l once = go (has (take n xs) (get_or xs n 0)) refl
  where
    go : (t : Bool) → has (take n xs) (get_or xs n 0) ≡ t → t ≡ false
    go false e = refl
    go true e =
        let c : Contains (take n xs) (get_or xs n 0) = has_contains (take n xs) (get_or xs n 0) e in
        let size : length (take n xs) ≡ n = omega (arith, l, length-take n xs) in
        let j : ℕ = c.0 in
        let below : j < length (take n xs) = c.1 in
        let early : j < n = omega (arith, below, size) in
        let inside : j < length xs = omega (arith, early, l) in
        let found : get_or (take n xs) j (get_or xs n 0) ≡ get_or xs n 0 = c.2 in
        let same : get_or xs j 0 ≡ get_or xs n 0 = get_or-default xs j 0 (get_or xs n 0) inside ∙ sym (get_or-take n xs j (get_or xs n 0) early) ∙ found in
        absurd (once j n early l same)

module _ (xs : List ℕ) (n p : ℕ) (v0 v v' : Veils) (rs0 rs rs' : List StoredMemory) (l : n < length xs) (is : p ≡ get_or xs n 0) (once : (i j : ℕ) → i < j → j < length xs → get_or xs i 0 ≡ get_or xs j 0 → ⊥) (e : Exchanged p v rs v' rs') (read : (i : ℕ) → (memory_in rs i).words ≡ (if has (take n xs) i then under_at v0 i else (memory_in rs0 i).words)) (under : (i : ℕ) → has (take n xs) i ≡ false → under_at v i ≡ under_at v0 i) where
  more : (i : ℕ) → has (take (n + 1) xs) i ≡ (has (take n xs) i || ((p == i) || false))
  more i = ap (λ ys. has ys i) (take_more xs n 0 l) ∙ has_append (take n xs) (get_or xs n 0 ∷ []) i ∙ ap (λ x. has (take n xs) i || ((x == i) || false)) (sym is)

  fresh : has (take n xs) p ≡ false
  fresh = ap (has (take n xs)) is ∙ not_before xs n l once

  read_by : (i : ℕ) (t : Bool) → (p == i) ≡ t → (memory_in rs' i).words ≡ (if has (take (n + 1) xs) i then under_at v0 i else (memory_in rs0 i).words)
  read_by i true q =
      let at : p ≡ i = eqb-true p i q in
      let listed : has (take (n + 1) xs) i ≡ true = more i ∙ or_last (has (take n xs) i) (p == i) ∙ ap (λ t. t || has (take n xs) i) q in
      e.read i ∙ ap (λ t. if t then under_at v p else (memory_in rs i).words) q ∙ under p fresh ∙ ap (under_at v0) at ∙ sym (ap (λ t. if t then under_at v0 i else (memory_in rs0 i).words) listed)
  read_by i false q =
      let same : has (take (n + 1) xs) i ≡ has (take n xs) i = more i ∙ or_last (has (take n xs) i) (p == i) ∙ ap (λ t. t || has (take n xs) i) q in
      e.read i ∙ ap (λ t. if t then under_at v p else (memory_in rs i).words) q ∙ read i ∙ sym (ap (λ t. if t then under_at v0 i else (memory_in rs0 i).words) same)

  pub read_more : (i : ℕ) → (memory_in rs' i).words ≡ (if has (take (n + 1) xs) i then under_at v0 i else (memory_in rs0 i).words)
  read_more i = read_by i (p == i) refl

  under_by : (i : ℕ) (t : Bool) → (p == i) ≡ t → has (take (n + 1) xs) i ≡ false → under_at v' i ≡ under_at v0 i
  under_by i true q none = absurd (false≢true (sym none ∙ more i ∙ or_last (has (take n xs) i) (p == i) ∙ ap (λ t. t || has (take n xs) i) q))
  under_by i false q none =
      let early : has (take n xs) i ≡ false = sym (more i ∙ or_last (has (take n xs) i) (p == i) ∙ ap (λ t. t || has (take n xs) i) q) ∙ none in
      e.under i ∙ ap (λ t. if t then (memory_in rs p).words else under_at v i) q ∙ under i early

  pub under_more : (i : ℕ) → has (take (n + 1) xs) i ≡ false → under_at v' i ≡ under_at v0 i
  under_more i = under_by i (p == i) refl
