-- The places of the numbers of a set, and what putting one in does to them.
use Rattle.std.proofs.Common.{◌≡◌, ◌↔◌, ⊎_elim, ◌∙◌, ℕ, ◌+◌, ◌<◌, ◌≤◌, List, [], ◌∷◌, ◌++◌, true, ltb, length, get_or, set, take, refl, sym, ap, subst, arith, length-set, length-take-le, get_or-set_same, get_or-set_other, get_or-take}
use Rattle.std.specs.List.{Contains}
use Rattle.std.proofs.lemmas.Bool.{cases_eq, cases_lt, lt-ltb, ltb-true}
use Rattle.std.proofs.lemmas.List.{get_or_append_left, get_or_default, get_or_push, get_or_read, length_push, take-set-le, take_more}
use Rattle.index_sets.specs.Members.{ArePlaces, IsIdentity, Members}

-- the numbers in order are at their own places
pub identity_places : (xs ys : List ℕ) (n : ℕ) → IsIdentity xs n → IsIdentity ys n → ArePlaces xs ys 0
identity_places xs ys n h k =
    record {
      count = k.count ∙ sym h.count;
      within = omega arith;
      number_in = λ i l. omega (arith, h.count, h.each i (omega (arith, h.count)));
      place_of = λ i l. let at : get_or xs i 0 ≡ i = h.each i (omega (arith, h.count)) in ap (λ j. get_or ys j 0) at ∙ k.each i (omega (arith, h.count));
      place_in = λ i l. omega (arith, h.count, k.each i (omega (arith, h.count)));
      number_of = λ i l. let at : get_or ys i 0 ≡ i = k.each i (omega (arith, h.count)) in ap (λ j. get_or xs j 0) at ∙ h.each i (omega (arith, h.count));
    }

-- with fewer numbers used
pub fewer_places : (order places : List ℕ) (n m : ℕ) → m ≤ n → ArePlaces order places n → ArePlaces order places m
fewer_places order places n m l h = record { count = h.count; within = omega (arith, h.within); number_in = h.number_in; place_of = h.place_of; place_in = h.place_in; number_of = h.number_of }

-- a number whose place is used is a member
pub member_from : (order places : List ℕ) (n x : ℕ) → ArePlaces order places n → x < length order → get_or places x 0 < n → Contains (take n order) x
member_from order places n x h l below =
    (get_or places x 0, omega (arith, length-take-le n order h.within), get_or-take n order (get_or places x 0) x below ∙ get_or_default order (get_or places x 0) x 0 (h.place_in x l) ∙ h.number_of x l)

-- and the place of a member is used
pub member_to : (order places : List ℕ) (n x : ℕ) → ArePlaces order places n → Contains (take n order) x → get_or places x 0 < n
member_to order places n x h c =
    let k : ℕ = c.0 in
    let used : k < n = omega (arith, c.1, length-take-le n order h.within) in
    let inside : k < length order = omega (arith, h.within) in
    let is : get_or order k 0 ≡ x = get_or_default order k 0 x inside ∙ sym (get_or-take n order k x used) ∙ c.2 in
    let back : get_or places x 0 ≡ k = ap (λ y. get_or places y 0) (sym is) ∙ h.place_of k inside in
    omega arith

-- what two writes leave at a place
data AfterTwo (xs : List ℕ) (i u j v k : ℕ) : Type 0 where
  at_second : k ≡ j → get_or (set (set xs i u) j v) k 0 ≡ v → AfterTwo xs i u j v k
  at_first : (k ≡ j → ⊥) → k ≡ i → get_or (set (set xs i u) j v) k 0 ≡ u → AfterTwo xs i u j v k
  elsewhere : (k ≡ j → ⊥) → (k ≡ i → ⊥) → get_or (set (set xs i u) j v) k 0 ≡ get_or xs k 0 → AfterTwo xs i u j v k

after_two : (xs : List ℕ) (i u j v k : ℕ) → i < length xs → j < length xs → AfterTwo xs i u j v k
after_two xs i u j v k li lj =
    ⊎_elim
    (λ e. at_second e (ap (λ n. get_or (set (set xs i u) j v) n 0) e ∙ get_or-set_same (set xs i u) j v 0 (omega (arith, length-set xs i u))))
    (λ ne.
    ⊎_elim
    (λ e. at_first ne e (get_or-set_other (set xs i u) j k v 0 ne ∙ ap (λ n. get_or (set xs i u) n 0) e ∙ get_or-set_same xs i u 0 li))
    (λ ni. elsewhere ne ni (get_or-set_other (set xs i u) j k v 0 ne ∙ get_or-set_other xs i k u 0 ni))
    (cases_eq k i))
    (cases_eq k j)

-- two lists of which each gives back the places of the other, where the numbers u and v change places i and j
record Changes (f g : List ℕ) (i u j v : ℕ) : Type 0 where
  first_in : i < length f
  second_in : j < length f
  u_in : u < length g
  v_in : v < length g
  at_u : get_or g u 0 ≡ j
  at_v : get_or g v 0 ≡ i

after_in : (f g : List ℕ) (i u j v k : ℕ) → Changes f g i u j v → get_or f k 0 < length g → get_or (set (set f i u) j v) k 0 < length g
after_in f g i u j v k h below = elim (after_two f i u j v k h.first_in h.second_in) [
  | at_second e is ↦ omega (arith, is, h.v_in)
  | at_first ne e is ↦ omega (arith, is, h.u_in)
  | elsewhere ne ni is ↦ omega (arith, is)
]

after_back : (f g : List ℕ) (i u j v k : ℕ) → Changes f g i u j v → get_or g (get_or f k 0) 0 ≡ k → get_or (set (set g u i) v j) (get_or (set (set f i u) j v) k 0) 0 ≡ k
after_back f g i u j v k h back = elim (after_two f i u j v k h.first_in h.second_in) [
  | at_second e is ↦
      ap (λ n. get_or (set (set g u i) v j) n 0) is ∙ get_or-set_same (set g u i) v j 0 (omega (arith, h.v_in, length-set g u i)) ∙ sym e
  | at_first ne e is ↦
      let apart : u ≡ v → ⊥ = λ same. ne (e ∙ sym h.at_v ∙ ap (λ n. get_or g n 0) (sym same) ∙ h.at_u) in
      ap (λ n. get_or (set (set g u i) v j) n 0) is ∙ get_or-set_other (set g u i) v u j 0 apart ∙ get_or-set_same g u i 0 h.u_in ∙ sym e
  | elsewhere ne ni is ↦
      let z = get_or f k 0 in
      let not_v : z ≡ v → ⊥ = λ same. ni (sym back ∙ ap (λ n. get_or g n 0) same ∙ h.at_v) in
      let not_u : z ≡ u → ⊥ = λ same. ne (sym back ∙ ap (λ n. get_or g n 0) same ∙ h.at_u) in
      ap (λ n. get_or (set (set g u i) v j) n 0) is ∙ get_or-set_other (set g u i) v z j 0 not_v ∙ get_or-set_other g u z i 0 not_u ∙ back
]

-- number x, whose place is a, changes places with y, which is at the first place that is not used
pub record Inserts (order places : List ℕ) (n x a y : ℕ) : Type 0 where
  pub are : ArePlaces order places n
  pub inside : x < length order
  pub place : a ≡ get_or places x 0
  pub unused : n ≤ a
  pub other : y ≡ get_or order n 0

module _ (order places : List ℕ) (n x a y : ℕ) (h : Inserts order places n x a y) where
  a_in : a < length order
  a_in = omega (arith, h.place, h.are.place_in x h.inside)

  n_in : n < length order
  n_in = omega (arith, h.unused, a_in)

  y_in : y < length order
  y_in = omega (arith, h.other, h.are.number_in n n_in)

  place_y : get_or places y 0 ≡ n
  place_y = ap (λ m. get_or places m 0) h.other ∙ h.are.place_of n n_in

  number_a : get_or order a 0 ≡ x
  number_a = ap (λ m. get_or order m 0) h.place ∙ h.are.number_of x h.inside

  of_order : Changes order places n x a y
  of_order = record { first_in = n_in; second_in = a_in; u_in = omega (arith, h.are.count, h.inside); v_in = omega (arith, h.are.count, y_in); at_u = sym h.place; at_v = place_y }

  of_places : Changes places order x n y a
  of_places = record { first_in = omega (arith, h.are.count, h.inside); second_in = omega (arith, h.are.count, y_in); u_in = n_in; v_in = a_in; at_u = sym h.other; at_v = number_a }

  order_length : length (set (set order n x) a y) ≡ length order
  order_length = length-set (set order n x) a y ∙ length-set order n x

  places_length : length (set (set places x n) y a) ≡ length order
  places_length = length-set (set places x n) y a ∙ length-set places x n ∙ h.are.count

  -- the places after the change
  pub inserted : ArePlaces (set (set order n x) a y) (set (set places x n) y a) (n + 1)
  inserted =
      record {
        count = places_length ∙ sym order_length;
        within = omega (arith, order_length, n_in);
        number_in = λ k l. omega (arith, order_length, h.are.count, after_in order places n x a y k of_order (omega (arith, h.are.count, order_length, h.are.number_in k (omega (arith, order_length)))));
        place_of = λ k l. after_back order places n x a y k of_order (h.are.place_of k (omega (arith, order_length)));
        place_in = λ k l. omega (arith, order_length, after_in places order x n y a k of_places (h.are.place_in k (omega (arith, order_length))));
        number_of = λ k l. after_back places order x n y a k of_places (h.are.number_of k (omega (arith, order_length)));
      }

  at_n : get_or (set (set order n x) a y) n 0 ≡ x
  at_n = elim (after_two order n x a y n n_in a_in) [
    | at_second e is ↦ is ∙ h.other ∙ ap (λ m. get_or order m 0) e ∙ number_a
    | at_first ne e is ↦ is
    | elsewhere ne ni is ↦ absurd (ni refl)
  ]

  -- x is the last member
  pub inserted_last : take (n + 1) (set (set order n x) a y) ≡ take n order ++ x ∷ []
  inserted_last =
      let more = take_more (set (set order n x) a y) n 0 (omega (arith, order_length, n_in)) in
      let kept : take n (set (set order n x) a y) ≡ take n order = take-set-le n (set order n x) a y h.unused ∙ take-set-le n order n x (omega arith) in
      more ∙ ap (λ zs. zs ++ get_or (set (set order n x) a y) n 0 ∷ []) kept ∙ ap (λ z. take n order ++ z ∷ []) at_n

-- the numbers below a bound: none, and one more
pub identity_none : IsIdentity [] 0
identity_none = record { count = refl; each = λ k l. absurd (omega arith) }

pub identity_more : (xs : List ℕ) (n : ℕ) → IsIdentity xs n → IsIdentity (xs ++ n ∷ []) (n + 1)
identity_more xs n h =
    record {
      count = omega (arith, length_push xs n, h.count);
      each = λ k l.
          ⊎_elim
          (λ below. get_or_append_left xs (n ∷ []) 0 k (omega (arith, h.count)) ∙ h.each k below)
          (λ last. let same : k ≡ n = omega arith in ap (λ j. get_or (xs ++ n ∷ []) j 0) same ∙ get_or_push xs n 0 n h.count ∙ sym same)
          (cases_lt k n);
    }

-- the set that an order represents
abbrev pub members_of : List ℕ → ℕ → Members
members_of order used = record { size = length order; items = take used order }

module _ (order places : List ℕ) (used : ℕ) (value : Members) (is : members_of order used ≡ value) (h : ArePlaces order places used) where
  size_is : length order ≡ value.size
  size_is = ap (λ m. m.size) is

  items_are : take used order ≡ value.items
  items_are = ap (λ m. m.items) is

  -- a member's place is one that is used
  pub item_used : (k : ℕ) → k < length value.items → k < used
  item_used k l = omega (arith, length-take-le used order h.within, ap length items_are)

  pub item_inside : (k : ℕ) → k < length value.items → k < length order
  item_inside k l = omega (arith, item_used k l, h.within)

  pub item_is : (k x : ℕ) → k < length value.items → x ≡ get_or order k x → x ≡ get_or value.items k 0
  item_is k x l e = get_or_read order k x (item_inside k l) e 0 ∙ sym (get_or-take used order k 0 (item_used k l)) ∙ ap (λ xs. get_or xs k 0) items_are

  pub item_below : (k x : ℕ) → k < length value.items → x ≡ get_or order k x → x < value.size
  item_below k x l e = omega (arith, get_or_read order k x (item_inside k l) e 0, h.number_in k (item_inside k l), size_is)

  place_read : (x at : ℕ) → x < value.size → at ≡ get_or places x at → at ≡ get_or places x 0
  place_read x at l e = get_or_read places x at (omega (arith, size_is, h.count)) e 0

  -- a number whose place is used is a member, and no other
  pub member_below : (x at : ℕ) → x < value.size → at ≡ get_or places x at → at < used → Contains value.items x
  member_below x at l e below = subst (λ xs. Contains xs x) items_are (member_from order places used x h (omega (arith, size_is)) (omega (arith, place_read x at l e)))

  pub below_member : (x at : ℕ) → x < value.size → at ≡ get_or places x at → Contains value.items x → at < used
  below_member x at l e m = omega (arith, place_read x at l e, member_to order places used x h (subst (λ xs. Contains xs x) (sym items_are) m))

  pub member_test : (x at : ℕ) → x < value.size → at ≡ get_or places x at → (ltb at used ≡ true) ↔ Contains value.items x
  member_test x at l e = (λ t. member_below x at l e (ltb-true at used t), λ m. lt-ltb at used (below_member x at l e m))

  -- what is put in
  pub inserts : (x at other : ℕ) → x < value.size → at ≡ get_or places x at → used ≤ at → other ≡ get_or order used other → Inserts order places used x at other
  inserts x at other l e above o =
      record {
        are = h;
        inside = omega (arith, size_is);
        place = place_read x at l e;
        unused = above;
        other = get_or_read order used other (omega (arith, above, place_read x at l e, h.place_in x (omega (arith, size_is)))) o 0;
      }

  pub new_items : (x at other : ℕ) → Inserts order places used x at other → take (used + 1) (set (set order used x) at other) ≡ value.items ++ x ∷ []
  new_items x at other i = inserted_last order places used x at other i ∙ ap (λ xs. xs ++ x ∷ []) items_are
