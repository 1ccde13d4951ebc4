-- Lists of numbers, words and tests.
use Rattle.std.proofs.Common.{◌≡◌, ◌⊎◌, inl, inr, ⊎_elim, ℕ, zero, suc, ◌+◌, ◌*◌, ◌<◌, ◌≤◌, Bool, true, false, not, if◌then◌else◌, List, [], ◌∷◌, ◌++◌, map, set, replicate, length, get_or, take, refl, sym, ap, ap₂, subst, ◌∙◌, arith}
use Rattle.std.specs.List.{Contains, range_with_len}
use Rattle.std.specs.Prelude.{◌↔◌}
use Rattle.std.proofs.lemmas.Bool.{cases_eq}
use Rattle.std.proofs.lemmas.List.{length-map, take_more}
use Rattle.std.proofs.lemmas.List.FromFn.{length-map-range_with_len}
use Rattle.design_model.specs.Design.{Design, In, cell, memory_at, word_cells}
use Rattle.index_sets.specs.Members.{Members}
use Rattle.store_knowledge.specs.body_replay.Store.{Kept, kept_word}
use Rattle.word_log.proofs.SeenSets.{was_new}
use Rattle.write_log.specs.Entries.{has}
use Rattle.write_log.proofs.Joins.{contains_has, has_contains}
use Rattle.step_words.specs.Words.{put_if}

in_last : (x y : ℕ) (xs : List ℕ) → In x (xs ++ y ∷ []) → In x xs ⊎ (y ≡ x)
in_last x y [] (inl e) = inr e
in_last x y [] (inr h) = absurd h
in_last x y (z ∷ xs) (inl e) = inl (inl e)
in_last x y (z ∷ xs) (inr h) = ⊎_elim (λ g. inl (inr g)) (λ e. inr e) (in_last x y xs h)

-- a member of one more is one of those before, or the last
pub in_taken : {P : Type 0} (x : ℕ) (xs : List ℕ) (i d : ℕ) → i < length xs → In x (take (i + 1) xs) → (In x (take i xs) → P) → (get_or xs i d ≡ x → P) → P
in_taken x xs i d l h before here = ⊎_elim before here (in_last x (get_or xs i d) (take i xs) (subst (In x) (take_more xs i d l) h))

-- ---- other members of lists

pub map_set : {A B : Type 0} (f : A → B) (xs : List A) (i : ℕ) (y : A) → map f (set xs i y) ≡ set (map f xs) i (f y)
map_set f [] i y = refl
map_set f (x ∷ xs) zero y = refl
map_set f (x ∷ xs) (suc i) y = ap (λ zs. f x ∷ zs) (map_set f xs i y)

pub map_replicate : {A B : Type 0} (f : A → B) (n : ℕ) (x : A) → map f (replicate n x) ≡ replicate n (f x)
map_replicate f zero x = refl
map_replicate f (suc n) x = ap (λ zs. f x ∷ zs) (map_replicate f n x)

-- a number of a range
pub number_in : (n w i : ℕ) → n ≤ i → i < n + w → In i (range_with_len n w)
number_in n zero i l m = absurd (omega (arith, l, m))
number_in n (suc w) i l m = ⊎_elim (λ e. inl e) (λ ne. inr (number_in (n + 1) w i (omega (arith, l, ne)) (omega (arith, m)))) (cases_eq n i)

-- ---- sets

-- a member is one that the set has
pub member_is : (b : Bool) (xs : List ℕ) (i : ℕ) → ((b ≡ true) ↔ Contains xs i) → b ≡ has xs i
member_is b xs i both = go b (has xs i) refl refl
  where
    go : (s t : Bool) → b ≡ s → has xs i ≡ t → b ≡ has xs i
    go true t e f = e ∙ sym (contains_has xs i (both.0 e))
    go false true e f = both.1 (has_contains xs i f) ∙ sym f
    go false false e f = e ∙ sym f

-- a number is put in
pub put_is : (s t : Members) (m : ℕ) (new : Bool) → ((new ≡ false) ↔ Contains s.items m) → t.size ≡ s.size → t.items ≡ (if new then s.items ++ m ∷ [] else s.items) → t ≡ put_if true m s
put_is s t m new there size items = ap₂ (λ n is. record { size = n; items = is }) size items_are ∙ pulled (has s.items m)
  where
    flip : (b : Bool) → (if not b then s.items ++ m ∷ [] else s.items) ≡ (if b then s.items else s.items ++ m ∷ [])
    flip true = refl
    flip false = refl

    items_are : t.items ≡ (if has s.items m then s.items else s.items ++ m ∷ [])
    items_are = items ∙ ap (λ b. if b then s.items ++ m ∷ [] else s.items) (was_new s.items t.items m new there items) ∙ flip (has s.items m)

    pulled : (b : Bool) → record { size = s.size; items = if b then s.items else s.items ++ m ∷ [] } ≡ (if b then s else record s { items = s.items ++ m ∷ [] })
    pulled true = refl
    pulled false = refl

-- ---- the bits of a word

pub word_width : (d : Design) (k : Kept) (m i : ℕ) → length (kept_word d k m i) ≡ (memory_at d m).width
word_width d k m i = length-map (word_cells d m i) k ∙ length-map-range_with_len (λ j. cell m (i * (memory_at d m).width + j)) 0 (memory_at d m).width
