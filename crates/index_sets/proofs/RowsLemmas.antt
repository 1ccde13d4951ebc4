-- Rows in one list, by where they begin.
use Rattle.std.proofs.Common.{◌≡◌, ◌∙◌, ℕ, zero, suc, ◌+◌, ◌<◌, ◌≤◌, List, [], ◌∷◌, ◌++◌, map, length, get_or, take, drop, refl, sym, ap, ap₂, subst, arith, length-append}
use Rattle.std.specs.Prelude.{slice_range}
use Rattle.std.proofs.lemmas.List.{drop_at, get_or_read, map-append, take-append-le, take_more}
use Rattle.std.proofs.lemmas.Slice.{between_is, between_to_end}
use Rattle.index_sets.specs.Rows.{AreEnds, AreStarts, rows_from, rows_of}

module _ {T : Type 0} where
  length-rows_from : (xs : List T) (a : ℕ) (ends : List ℕ) → length (rows_from xs a ends) ≡ length ends
  length-rows_from xs a [] = refl
  length-rows_from xs a (b ∷ ends) = ap suc (length-rows_from xs b ends)

  get_or-rows_from : (xs : List T) (a : ℕ) (ends : List ℕ) (k : ℕ) → k < length ends → get_or (rows_from xs a ends) k [] ≡ slice_range xs (get_or (a ∷ ends) k 0) (get_or ends k 0)
  get_or-rows_from xs a [] k h = absurd (omega arith)
  get_or-rows_from xs a (b ∷ ends) zero h = refl
  get_or-rows_from xs a (b ∷ ends) (suc k) h = get_or-rows_from xs b ends k (omega arith)

  -- one row fewer than there are places
  pub length-rows_of : (xs : List T) (starts : List ℕ) → AreStarts (length xs) starts → length (rows_of xs starts) + 1 ≡ length starts
  length-rows_of xs [] h = absurd h
  length-rows_of xs (a ∷ ends) h = omega (arith, length-rows_from xs a ends)

  -- a row lies between two places
  pub get_or-rows_of : (xs : List T) (starts : List ℕ) (k : ℕ) → k + 1 < length starts → get_or (rows_of xs starts) k [] ≡ slice_range xs (get_or starts k 0) (get_or starts (k + 1) 0)
  get_or-rows_of xs [] k h = absurd (omega arith)
  get_or-rows_of xs (a ∷ ends) k h =
      let next : k + 1 ≡ suc k = omega arith in
      let below : k < length ends = omega arith in
      get_or-rows_from xs a ends k below ∙ ap (λ j. slice_range xs (get_or (a ∷ ends) k 0) (get_or (a ∷ ends) j 0)) (sym next)

end_within : (n a : ℕ) (ends : List ℕ) → AreEnds n a ends → a ≤ n
end_within n a [] h = omega arith
end_within n a (b ∷ ends) h = let rest = end_within n b ends h.1 in omega arith

ends_rise : (n a : ℕ) (ends : List ℕ) (k : ℕ) → AreEnds n a ends → k < length ends → (get_or (a ∷ ends) k 0 ≤ get_or ends k 0) × (get_or ends k 0 ≤ n)
ends_rise n a [] k h l = absurd (omega arith)
ends_rise n a (b ∷ ends) zero h l = (h.0, end_within n b ends h.1)
ends_rise n a (b ∷ ends) (suc k) h l = ends_rise n b ends k h.1 (omega arith)

-- each row begins before it ends, within the items
pub starts_rise : (n : ℕ) (starts : List ℕ) (k : ℕ) → AreStarts n starts → k + 1 < length starts → (get_or starts k 0 ≤ get_or starts (k + 1) 0) × (get_or starts (k + 1) 0 ≤ n)
starts_rise n [] k h l = absurd h
starts_rise n (a ∷ ends) k h l =
    let next : k + 1 ≡ suc k = omega arith in
    subst (λ j. (get_or (a ∷ ends) k 0 ≤ get_or (a ∷ ends) j 0) × (get_or (a ∷ ends) j 0 ≤ n)) (sym next) (ends_rise n a ends k h (omega arith))

ends_more : (n m a : ℕ) (ends : List ℕ) → n ≤ m → AreEnds n a ends → AreEnds m a (ends ++ m ∷ [])
ends_more n m a [] l h = (omega arith, refl)
ends_more n m a (b ∷ ends) l h = (h.0, ends_more n m b ends l h.1)

module _ {T : Type 0} where
  range_kept : (xs ys : List T) (a b : ℕ) → b ≤ length xs → slice_range (xs ++ ys) a b ≡ slice_range xs a b
  range_kept xs ys a b h = between_is (xs ++ ys) a b ∙ ap (drop a) (take-append-le b xs ys h) ∙ sym (between_is xs a b)

  range_added : (xs ys : List T) (n : ℕ) → length xs ≡ n → slice_range (xs ++ ys) n (length (xs ++ ys)) ≡ ys
  range_added xs ys n e = between_to_end (xs ++ ys) n (length (xs ++ ys)) (omega arith) ∙ drop_at xs ys n e

  rows_from_more : (xs ys : List T) (a : ℕ) (ends : List ℕ) → AreEnds (length xs) a ends → rows_from (xs ++ ys) a (ends ++ length (xs ++ ys) ∷ []) ≡ rows_from xs a ends ++ ys ∷ []
  rows_from_more xs ys a [] h = ap (λ zs. zs ∷ []) (range_added xs ys a (sym h))
  rows_from_more xs ys a (b ∷ ends) h =
      ap (λ zs. zs ∷ rows_from (xs ++ ys) b (ends ++ length (xs ++ ys) ∷ [])) (range_kept xs ys a b (end_within (length xs) b ends h.1)) ∙ ap (λ rows. slice_range xs a b ∷ rows) (rows_from_more xs ys b ends h.1)

  -- a row more
  pub rows_more : (xs ys : List T) (starts : List ℕ) → AreStarts (length xs) starts → rows_of (xs ++ ys) (starts ++ length (xs ++ ys) ∷ []) ≡ rows_of xs starts ++ ys ∷ []
  rows_more xs ys [] h = absurd h
  rows_more xs ys (a ∷ ends) h = rows_from_more xs ys a ends h

  pub starts_more : (xs ys : List T) (starts : List ℕ) → AreStarts (length xs) starts → AreStarts (length (xs ++ ys)) (starts ++ length (xs ++ ys) ∷ [])
  starts_more xs ys [] h = absurd h
  starts_more xs ys (a ∷ ends) h = ends_more (length xs) (length (xs ++ ys)) a ends (omega (arith, length-append xs ys)) h

module _ {T : Type 0} (xs : List T) (starts : List ℕ) (value : List (List T)) (is : rows_of xs starts ≡ value) (h : AreStarts (length xs) starts) where
  -- a row begins and ends at a place
  pub row_inside : (k : ℕ) → k < length value → k + 1 < length starts
  row_inside k l = omega (arith, length-rows_of xs starts h, ap length is)

  ends_read : (k from to : ℕ) → k < length value → from ≡ get_or starts k from → to ≡ get_or starts (k + 1) to → (from ≡ get_or starts k 0) × (to ≡ get_or starts (k + 1) 0)
  ends_read k from to l f t =
      let inside : k + 1 < length starts = row_inside k l in
      (get_or_read starts k from (omega arith) f 0, get_or_read starts (k + 1) to inside t 0)

  pub row_within : (k from to : ℕ) → k < length value → from ≡ get_or starts k from → to ≡ get_or starts (k + 1) to → (from ≤ to) × (to ≤ length xs)
  row_within k from to l f t =
      let e = ends_read k from to l f t in
      let r = starts_rise (length xs) starts k h (row_inside k l) in
      (omega (arith, e.0, e.1, r.0), omega (arith, e.1, r.1))

  pub row_is : (k from to : ℕ) → k < length value → from ≡ get_or starts k from → to ≡ get_or starts (k + 1) to → slice_range xs from to ≡ get_or value k []
  row_is k from to l f t =
      let e = ends_read k from to l f t in
      ap₂ (slice_range xs) e.0 e.1 ∙ sym (get_or-rows_of xs starts k (row_inside k l)) ∙ ap (λ rows. get_or rows k []) is

-- the rows of one list more
pub lists_more : {V T : Type 0} (f : V → List T) (lists : List V) (i : ℕ) (x : V) (xs : List T) (starts : List ℕ) → i < length lists → x ≡ get_or lists i x → rows_of xs starts ≡ map f (take i lists) → AreStarts (length xs) starts → rows_of (xs ++ f x) (starts ++ length (xs ++ f x) ∷ []) ≡ map f (take (i + 1) lists)
lists_more f lists i x xs starts l e rows h =
    rows_more xs (f x) starts h ∙ ap (λ r. r ++ f x ∷ []) rows ∙ sym (map-append f (take i lists) (x ∷ [])) ∙ ap (λ y. map f (take i lists ++ y ∷ [])) e ∙ ap (map f) (sym (take_more lists i x l))
