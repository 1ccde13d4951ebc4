-- Items in their order, where those that it does not distinguish are joined.
use Rattle.std.proofs.Common.{◌≡◌, ℕ, zero, suc, ◌+◌, ◌<◌, ◌≤◌, Bool, true, false, not, ◌&&◌, cond, List, [], ◌∷◌, ◌++◌, length, get_or, take, Option, Some, None, refl, sym, ap, subst, ◌∙◌, add-one, arith}
use Rattle.std.specs.declared.cmp.Ordering.{Ordering}
use Rattle.std.specs.declared.cmp.Ordering.TheVariants.{Less, Equal, Greater}
use Rattle.std.specs.Cmp.{IsTotalOrder}
use Rattle.std.specs.List.{filter, fold}
use Rattle.std.specs.List.Sorted.{ties, IsStableBy, IsSorted}
use Rattle.std.specs.Ordering.{is_lt, is_eq, is_gt, ordering_reverse}
use Rattle.std.proofs.lemmas.Cmp.{tied_itself, tied_back, alike_right}
use Rattle.std.proofs.lemmas.List.{get_or-take, get_or_default, length-take-le}
use Rattle.std.proofs.lemmas.List.Sorted.{ranks_by, sorted_far}
use Rattle.std.proofs.lemmas.List.Sums.{fold_more}
use Rattle.std.proofs.lemmas.Option.{same_Some}
use Rattle.coverage_db.specs.Table.{Rises}
use Rattle.cov_report.specs.Gathered.{by_order, placed, gathered}

module _ {X : Type 0} (cmp : X → X → Ordering) (join : X → X → X) (o : IsTotalOrder cmp) (stays : (a b c : X) → cmp (join a b) c ≡ cmp a c) where
  less_back : (x y : X) → cmp x y ≡ Less → cmp y x ≡ Greater
  less_back x y e = o.antisymm y x ∙ ap ordering_reverse e

  greater_back : (x y : X) → cmp x y ≡ Greater → cmp y x ≡ Less
  greater_back x y e = o.antisymm y x ∙ ap ordering_reverse e

  stays_right : (z a b : X) → cmp z (join a b) ≡ cmp z a
  stays_right z a b = o.antisymm z (join a b) ∙ ap ordering_reverse (stays a b z) ∙ sym (o.antisymm z a)

  -- ---- strictly rising lists

  -- all of these come after an item
  abbrev Behind : X → List X → Type 0
  Behind x [] = Unit {0}
  Behind x (y ∷ ys) = (cmp x y ≡ Less) × Behind x ys

  abbrev Rising : List X → Type 0
  Rising [] = Unit {0}
  Rising (x ∷ xs) = Behind x xs × Rising xs

  behind_less : (x y : X) (ys : List X) → cmp x y ≡ Less → Behind y ys → Behind x ys
  behind_less x y [] e b = tt
  behind_less x y (z ∷ zs) e b = (o.trans x y z e b.0, behind_less x y zs e b.1)

  behind_alike : (x y : X) (ys : List X) → cmp x y ≡ Equal → Behind y ys → Behind x ys
  behind_alike x y [] e b = tt
  behind_alike x y (z ∷ zs) e b = (o.congr x y z e ∙ b.0, behind_alike x y zs e b.1)

  behind_joined : (x y : X) (ys : List X) → Behind y ys → Behind (join y x) ys
  behind_joined x y [] b = tt
  behind_joined x y (z ∷ zs) b = (stays y x z ∙ b.0, behind_joined x y zs b.1)

  placed_behind : (z x : X) (ys : List X) → cmp z x ≡ Less → Behind z ys → Behind z (placed cmp join ys x)
  placed_behind z x [] e b = (e, tt)
  placed_behind z x (y ∷ ys) e b =
      elim (cmp x y) as (λ w. Behind z (by_order w (x ∷ y ∷ ys) (join y x ∷ ys) (y ∷ placed cmp join ys x))) [
        | Less ↦ (e, b)
        | Equal ↦ (stays_right z y x ∙ b.0, b.1)
        | Greater ↦ (b.0, placed_behind z x ys e b.1)
      ]

  placed_rising : (ys : List X) (x : X) → Rising ys → Rising (placed cmp join ys x)
  placed_rising [] x r = (tt, tt)
  placed_rising (y ∷ ys) x r =
      (elim (cmp x y) as (λ w. (cmp x y ≡ w) → Rising (by_order w (x ∷ y ∷ ys) (join y x ∷ ys) (y ∷ placed cmp join ys x))) [
        | Less ↦ λ e. ((e, behind_less x y ys e r.0), r)
        | Equal ↦ λ e. (behind_joined x y ys r.0, r.1)
        | Greater ↦ λ e. (placed_behind y x ys (greater_back x y e) r.0, placed_rising ys x r.1)
      ]) refl

  all_rising : (xs acc : List X) → Rising acc → Rising (fold (placed cmp join) acc xs)
  all_rising [] acc r = r
  all_rising (x ∷ xs) acc r = all_rising xs (placed cmp join acc x) (placed_rising acc x r)

  to_rises : (xs : List X) → Rising xs → Rises cmp xs
  to_rises [] r = tt
  to_rises (x ∷ []) r = tt
  to_rises (x ∷ y ∷ ys) r = (r.0.0, to_rises (y ∷ ys) r.1)

  rises_behind : (x : X) (xs : List X) → Rises cmp (x ∷ xs) → Behind x xs
  rises_behind x [] r = tt
  rises_behind x (y ∷ ys) r = (r.0, behind_less x y ys r.0 (rises_behind y ys r.1))

  from_rises : (xs : List X) → Rises cmp xs → Rising xs
  from_rises [] r = tt
  from_rises (x ∷ []) r = (tt, tt)
  from_rises (x ∷ y ∷ ys) r = (rises_behind x (y ∷ ys) r, from_rises (y ∷ ys) r.1)

  pub gathered_rises : (xs : List X) → Rises cmp (gathered cmp join xs)
  gathered_rises xs = to_rises (gathered cmp join xs) (all_rising xs [] tt)

  -- ---- the item that the order does not distinguish from a given one

  abbrev found : X → List X → Option X
  found x [] = None
  found x (y ∷ ys) = by_order (cmp x y) (found x ys) (Some y) (found x ys)

  abbrev added : Ordering → X → Option X → Option X
  added Less x item = item
  added Equal x None = Some x
  added Equal x (Some y) = Some (join y x)
  added Greater x item = item

  found_none : (x : X) (ys : List X) → Behind x ys → found x ys ≡ None
  found_none x [] b = refl
  found_none x (y ∷ ys) b = ap (λ (w : Ordering). by_order w (found x ys) (Some y) (found x ys)) b.0 ∙ found_none x ys b.1

  alone : (w : Ordering) (x : X) → by_order w None (Some x) None ≡ added w x None
  alone Less x = refl
  alone Equal x = refl
  alone Greater x = refl

  before_all : (w : Ordering) (x : X) (item : Option X) → (w ≡ Equal → item ≡ None) → by_order w item (Some x) item ≡ added w x item
  before_all Less x item none = refl
  before_all Equal x item none = sym (ap (added Equal x) (none refl))
  before_all Greater x item none = refl

  at_equal : (w : Ordering) (x y : X) (item : Option X) → by_order w item (Some (join y x)) item ≡ added w x (by_order w item (Some y) item)
  at_equal Less x y item = refl
  at_equal Equal x y item = refl
  at_equal Greater x y item = refl

  behind_one : (w v : Ordering) (x y : X) (here item : Option X) → (w ≡ Equal → v ≡ Less) → here ≡ added v x item → by_order w here (Some y) here ≡ added v x (by_order w item (Some y) item)
  behind_one Less v x y here item less e = e
  behind_one Equal v x y here item less e = sym (ap (λ (u : Ordering). added u x (Some y)) (less refl))
  behind_one Greater v x y here item less e = e

  found_placed : (z x : X) (ys : List X) → Rising ys → found z (placed cmp join ys x) ≡ added (cmp z x) x (found z ys)
  found_placed z x [] r = alone (cmp z x) x
  found_placed z x (y ∷ ys) r =
      (elim (cmp x y) as (λ w. (cmp x y ≡ w) → found z (by_order w (x ∷ y ∷ ys) (join y x ∷ ys) (y ∷ placed cmp join ys x)) ≡ added (cmp z x) x (found z (y ∷ ys))) [
        | Less ↦ λ e. before_all (cmp z x) x (found z (y ∷ ys)) (λ d. found_none z (y ∷ ys) (behind_alike z x (y ∷ ys) d (e, behind_less x y ys e r.0)))
        | Equal ↦ λ e.
            let left : cmp z (join y x) ≡ cmp z y = stays_right z y x in
            let right : cmp z x ≡ cmp z y = alike_right o x y z e in
            ap (λ (w : Ordering). by_order w (found z ys) (Some (join y x)) (found z ys)) left ∙ at_equal (cmp z y) x y (found z ys) ∙ ap (λ (w : Ordering). added w x (found z (y ∷ ys))) (sym right)
        | Greater ↦ λ e. behind_one (cmp z y) (cmp z x) x y (found z (placed cmp join ys x)) (found z ys) (λ d. o.congr z y x d ∙ greater_back x y e) (found_placed z x ys r.1)
      ]) refl

  found_first : (x : X) (ys : List X) → found x (x ∷ ys) ≡ Some x
  found_first x ys = ap (λ (w : Ordering). by_order w (found x ys) (Some x) (found x ys)) (tied_itself o x)

  -- ---- rising lists in which the same items are found are equal

  cons_same : {x y : X} {xs ys : List X} → x ≡ y → xs ≡ ys → x ∷ xs ≡ y ∷ ys
  cons_same p q = cc

  no_item : (x : X) → Some x ≡ None → ⊥
  no_item x e = cc

  tail_found : (x y z : X) (xs ys : List X) → x ≡ y → Behind x xs → Behind y ys → found z (x ∷ xs) ≡ found z (y ∷ ys) → found z xs ≡ found z ys
  tail_found x y z xs ys h p q same =
      let turned : cmp z y ≡ cmp z x = ap (cmp z) (sym h) in
      (elim (cmp z x) as (λ w. (cmp z x ≡ w) → found z xs ≡ found z ys) [
        | Less ↦ λ e. sym (ap (λ (w : Ordering). by_order w (found z xs) (Some x) (found z xs)) e) ∙ same ∙ ap (λ (w : Ordering). by_order w (found z ys) (Some y) (found z ys)) (turned ∙ e)
        | Equal ↦ λ e. found_none z xs (behind_alike z x xs e p) ∙ sym (found_none z ys (behind_alike z y ys (turned ∙ e) q))
        | Greater ↦ λ e. sym (ap (λ (w : Ordering). by_order w (found z xs) (Some x) (found z xs)) e) ∙ same ∙ ap (λ (w : Ordering). by_order w (found z ys) (Some y) (found z ys)) (turned ∙ e)
      ]) refl

  head_found : (x y : X) (xs ys : List X) → Behind x xs → Behind y ys → ((z : X) → found z (x ∷ xs) ≡ found z (y ∷ ys)) → x ≡ y
  head_found x y xs ys p q same =
      (elim (cmp x y) as (λ w. (cmp x y ≡ w) → x ≡ y) [
        | Less ↦ λ e. absurd (no_item x (sym (found_first x xs) ∙ same x ∙ found_none x (y ∷ ys) (e, behind_less x y ys e q)))
        | Equal ↦ λ e. same_Some x y (sym (found_first x xs) ∙ same x ∙ ap (λ (w : Ordering). by_order w (found x ys) (Some y) (found x ys)) e)
        | Greater ↦ λ e.
            let back = greater_back x y e in
            absurd (no_item y (sym (found_first y ys) ∙ sym (same y) ∙ found_none y (x ∷ xs) (back, behind_less y x xs back p)))
      ]) refl

  same_found : (xs ys : List X) → Rising xs → Rising ys → ((z : X) → found z xs ≡ found z ys) → xs ≡ ys
  same_found [] [] p q same = refl
  same_found [] (y ∷ ys) p q same = absurd (no_item y (sym (found_first y ys) ∙ sym (same y)))
  same_found (x ∷ xs) [] p q same = absurd (no_item x (sym (found_first x xs) ∙ same x))
  same_found (x ∷ xs) (y ∷ ys) p q same =
      let head : x ≡ y = head_found x y xs ys p.0 q.0 same in
      cons_same head (same_found xs ys p.1 q.1 (λ z. tail_found x y z xs ys head p.0 q.0 (same z)))

  -- ---- a stable sort does not change what is gathered

  abbrev tied : X → X → Bool
  tied z x = is_eq (cmp z x)

  one_more : (w : Ordering) (x : X) (item : Option X) (xs : List X) → fold (λ i y. added Equal y i) (added w x item) xs ≡ fold (λ i y. added Equal y i) item (cond (is_eq w) (x ∷ xs) xs)
  one_more Less x item xs = refl
  one_more Equal x item xs = refl
  one_more Greater x item xs = refl

  found_all : (z : X) (xs acc : List X) → Rising acc → found z (fold (placed cmp join) acc xs) ≡ fold (λ i y. added Equal y i) (found z acc) (filter (tied z) xs)
  found_all z [] acc r = refl
  found_all z (x ∷ xs) acc r =
      found_all z xs (placed cmp join acc x) (placed_rising acc x r) ∙ ap (λ (i : Option X). fold (λ i y. added Equal y i) i (filter (tied z) xs)) (found_placed z x acc r)
      ∙ one_more (cmp z x) x (found z acc) (filter (tied z) xs)

  neither : (w : Ordering) → (not (is_lt w) && not (is_lt (ordering_reverse w))) ≡ is_eq w
  neither Less = refl
  neither Equal = refl
  neither Greater = refl

  abbrev less : X → X → Bool
  less x y = is_lt (cmp x y)

  ties_is : (z x : X) → ties less z x ≡ tied z x
  ties_is z x = ap (λ (w : Ordering). not (is_lt (cmp z x)) && not (is_lt w)) (o.antisymm x z) ∙ neither (cmp z x)

  pub gathered_sorted : (xs ys : List X) → IsStableBy less xs ys → gathered cmp join ys ≡ gathered cmp join xs
  gathered_sorted xs ys stable =
      same_found (gathered cmp join ys) (gathered cmp join xs) (all_rising ys [] tt) (all_rising xs [] tt) (λ z.
      let same : filter (tied z) ys ≡ filter (tied z) xs = ap (λ (p : X → Bool). filter p ys) (λ i x. sym (ties_is z x) i) ∙ stable z ∙ ap (λ (p : X → Bool). filter p xs) (λ i x. ties_is z x i) in
      found_all z ys [] tt ∙ ap (fold (λ i y. added Equal y i) None) same ∙ sym (found_all z xs [] tt))

  -- ---- an item that comes before no other

  -- none of these comes after an item
  abbrev UpTo : X → List X → Type 0
  UpTo x [] = Unit {0}
  UpTo x (y ∷ ys) = (is_gt (cmp y x) ≡ false) × UpTo x ys

  placed_upto : (x z : X) (ys : List X) → is_gt (cmp z x) ≡ false → UpTo x ys → UpTo x (placed cmp join ys z)
  placed_upto x z [] e u = (e, tt)
  placed_upto x z (y ∷ ys) e u =
      elim (cmp z y) as (λ w. UpTo x (by_order w (z ∷ y ∷ ys) (join y z ∷ ys) (y ∷ placed cmp join ys z))) [
        | Less ↦ (e, u)
        | Equal ↦ (ap is_gt (stays y z x) ∙ u.0, u.1)
        | Greater ↦ (u.0, placed_upto x z ys e u.1)
      ]

  all_upto : (x : X) (xs acc : List X) → UpTo x acc → UpTo x xs → UpTo x (fold (placed cmp join) acc xs)
  all_upto x [] acc a u = a
  all_upto x (y ∷ ys) acc a u = all_upto x ys (placed cmp join acc y) (placed_upto x y acc u.0 a) u.1

  last_upto : (x y : X) (front : List X) → UpTo x (front ++ y ∷ []) → is_gt (cmp y x) ≡ false
  last_upto x y [] u = u.0
  last_upto x y (z ∷ front) u = last_upto x y front u.1

  each_upto : (x : X) (xs : List X) → ((k : ℕ) (d : X) → k < length xs → is_gt (cmp (get_or xs k d) x) ≡ false) → UpTo x xs
  each_upto x [] each = tt
  each_upto x (y ∷ ys) each = (each 0 y (omega arith), each_upto x ys (λ k d within. each (suc k) d (omega arith)))

  behind_last : (f y : X) (front : List X) → Behind f (front ++ y ∷ []) → cmp f y ≡ Less
  behind_last f y [] b = b.0
  behind_last f y (z ∷ front) b = behind_last f y front b.1

  pub last_joins : (front : List X) (y x : X) → Rises cmp (front ++ y ∷ []) → cmp y x ≡ Equal → placed cmp join (front ++ y ∷ []) x ≡ front ++ join y x ∷ []
  last_joins [] y x r e = ap (λ (w : Ordering). by_order w (x ∷ y ∷ []) (join y x ∷ []) (y ∷ x ∷ [])) (tied_back o y x e)
  last_joins (f ∷ front) y x r e =
      let all : Rising (f ∷ front ++ y ∷ []) = from_rises (f ∷ front ++ y ∷ []) r in
      let less : cmp f x ≡ Less = sym (alike_right o y x f e) ∙ behind_last f y front all.0 in
      ap (λ (w : Ordering). by_order w (x ∷ f ∷ front ++ y ∷ []) (join f x ∷ front ++ y ∷ []) (f ∷ placed cmp join (front ++ y ∷ []) x)) (less_back f x less)
      ∙ ap (λ (t : List X). f ∷ t) (last_joins front y x (to_rises (front ++ y ∷ []) all.1) e)

  pub last_stays : (front : List X) (y x : X) → Rises cmp (front ++ y ∷ []) → cmp y x ≡ Less → placed cmp join (front ++ y ∷ []) x ≡ (front ++ y ∷ []) ++ x ∷ []
  last_stays [] y x r e = ap (λ (w : Ordering). by_order w (x ∷ y ∷ []) (join y x ∷ []) (y ∷ x ∷ [])) (less_back y x e)
  last_stays (f ∷ front) y x r e =
      let all : Rising (f ∷ front ++ y ∷ []) = from_rises (f ∷ front ++ y ∷ []) r in
      let less : cmp f x ≡ Less = o.trans f y x (behind_last f y front all.0) e in
      ap (λ (w : Ordering). by_order w (x ∷ f ∷ front ++ y ∷ []) (join f x ∷ front ++ y ∷ []) (f ∷ placed cmp join (front ++ y ∷ []) x)) (less_back f x less)
      ∙ ap (λ (t : List X). f ∷ t) (last_stays front y x (to_rises (front ++ y ∷ []) all.1) e)

  -- ---- no items are added

  placed_short : (ys : List X) (x : X) → length (placed cmp join ys x) ≤ suc (length ys)
  placed_short [] x = omega arith
  placed_short (y ∷ ys) x =
      elim (cmp x y) as (λ w. length (by_order w (x ∷ y ∷ ys) (join y x ∷ ys) (y ∷ placed cmp join ys x)) ≤ suc (suc (length ys))) [
        | Less ↦ omega arith
        | Equal ↦ omega arith
        | Greater ↦ omega (arith, placed_short ys x)
      ]

  all_short : (xs acc : List X) → length (fold (placed cmp join) acc xs) ≤ length acc + length xs
  all_short [] acc = omega arith
  all_short (x ∷ xs) acc = omega (arith, all_short xs (placed cmp join acc x), placed_short acc x)

  pub gathered_short : (xs : List X) → length (gathered cmp join xs) ≤ length xs
  gathered_short xs = omega (arith, all_short xs [])

  -- ---- the next item of a sorted list

  gt_turned : (w : Ordering) → is_gt (ordering_reverse w) ≡ is_lt w
  gt_turned Less = refl
  gt_turned Equal = refl
  gt_turned Greater = refl

  turned : (x y : X) → is_lt (cmp x y) ≡ false → is_gt (cmp y x) ≡ false
  turned x y e = ap is_gt (o.antisymm y x) ∙ gt_turned (cmp x y) ∙ e

  earlier : (first : X) (others : List X) (k i : ℕ) (d : X) → IsSorted cmp (first ∷ others) → k < length others → i < suc k → is_gt (cmp (get_or (first ∷ take k others) i d) (get_or others k d)) ≡ false
  earlier first others k i d sorted within inside =
      let there : get_or (first ∷ take k others) i d ≡ get_or (first ∷ others) i d = get_or-take (suc k) (first ∷ others) i d inside in
      ap (λ (y : X). is_gt (cmp y (get_or others k d))) there
      ∙ turned (get_or others k d) (get_or (first ∷ others) i d) (sorted_far less (ranks_by o (λ (x : X). x)) (first ∷ others) sorted i (suc k) d (omega arith) (omega arith))

  pub next_upto : (first : X) (others : List X) (k : ℕ) (front : List X) (y x : X) → IsSorted cmp (first ∷ others) → k < length others → x ≡ get_or others k x → front ++ y ∷ [] ≡ gathered cmp join (first ∷ take k others) → is_gt (cmp y x) ≡ false
  next_upto first others k front y x sorted within is same =
      let short : length (take k others) ≡ k = length-take-le k others (omega arith) in
      let each : (i : ℕ) (d : X) → i < length (first ∷ take k others) → is_gt (cmp (get_or (first ∷ take k others) i d) x) ≡ false =
      λ i d inside. ap (λ (z : X). is_gt (cmp (get_or (first ∷ take k others) i d) z)) (is ∙ get_or_default others k x d within) ∙ earlier first others k i d sorted within (omega arith) in
      last_upto x y front (subst (UpTo x) (sym same) (all_upto x (first ∷ take k others) [] tt (each_upto x (first ∷ take k others) each)))

  pub gathered_more : (first : X) (others : List X) (k : ℕ) (x : X) → k < length others → x ≡ get_or others k x → gathered cmp join (first ∷ take (k + 1) others) ≡ placed cmp join (gathered cmp join (first ∷ take k others)) x
  gathered_more first others k x within is = fold_more (placed cmp join) (first ∷ []) others k x within ∙ ap (placed cmp join (gathered cmp join (first ∷ take k others))) (sym is)

  take_next : (x : X) (xs : List X) (k : ℕ) → take (k + 1) (x ∷ xs) ≡ x ∷ take k xs
  take_next x xs k = rw add-one refl

  -- a list, its first item and the others
  pub last_is_upto : (items : List X) (first : X) (others : List X) (k : ℕ) (front : List X) (y x : X) → items ≡ first ∷ others → IsSorted cmp items → k < length others → x ≡ get_or others k x → front ++ y ∷ [] ≡ gathered cmp join (take (k + 1) items)
      → is_gt (cmp y x) ≡ false
  last_is_upto items first others k front y x split sorted within is same =
      next_upto first others k front y x (subst (IsSorted cmp) split sorted) within is (same ∙ ap (λ (t : List X). gathered cmp join (take (k + 1) t)) split ∙ ap (gathered cmp join) (take_next first others k))

  pub next_gathered : (items : List X) (first : X) (others : List X) (k : ℕ) (front : List X) (y next x : X) (kept : List X) → items ≡ first ∷ others → k < length others → x ≡ get_or others k x → front ++ y ∷ [] ≡ gathered cmp join (take (k + 1) items)
      → kept ++ next ∷ [] ≡ placed cmp join (front ++ y ∷ []) x → kept ++ next ∷ [] ≡ gathered cmp join (take (k + 1 + 1) items)
  next_gathered items first others k front y next x kept split within is same more =
      let whole : gathered cmp join (take (k + 1) items) ≡ gathered cmp join (first ∷ take k others) = ap (λ (t : List X). gathered cmp join (take (k + 1) t)) split ∙ ap (gathered cmp join) (take_next first others k) in
      let longer : gathered cmp join (take (k + 1 + 1) items) ≡ gathered cmp join (first ∷ take (k + 1) others) = ap (λ (t : List X). gathered cmp join (take (k + 1 + 1) t)) split ∙ ap (gathered cmp join) (take_next first others (k + 1)) in
      more ∙ ap (λ (t : List X). placed cmp join t x) (same ∙ whole) ∙ sym (gathered_more first others k x within is) ∙ sym longer

  equal_is : (w : Ordering) → is_eq w ≡ true → w ≡ Equal
  equal_is Less e = absurd cc
  equal_is Equal e = refl
  equal_is Greater e = absurd cc

  less_is : (w : Ordering) → is_eq w ≡ false → is_gt w ≡ false → w ≡ Less
  less_is Less e u = refl
  less_is Equal e u = absurd cc
  less_is Greater e u = absurd cc

  pub follows_equal : (front : List X) (y x : X) → Rises cmp (front ++ y ∷ []) → is_eq (cmp y x) ≡ true → placed cmp join (front ++ y ∷ []) x ≡ front ++ join y x ∷ []
  follows_equal front y x r e = last_joins front y x r (equal_is (cmp y x) e)

  pub follows_other : (front : List X) (y x : X) → Rises cmp (front ++ y ∷ []) → is_eq (cmp y x) ≡ false → is_gt (cmp y x) ≡ false → placed cmp join (front ++ y ∷ []) x ≡ (front ++ y ∷ []) ++ x ∷ []
  follows_other front y x r e u = last_stays front y x r (less_is (cmp y x) e u)

  pub all_taken : (xs : List X) (k : ℕ) → length xs ≤ k → take k xs ≡ xs
  all_taken [] zero past = refl
  all_taken [] (suc k) past = refl
  all_taken (x ∷ xs) zero past = absurd (omega arith)
  all_taken (x ∷ xs) (suc k) past = ap (λ (t : List X). x ∷ t) (all_taken xs k (omega arith))
