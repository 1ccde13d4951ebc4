-- The places of instances in a table are in the order of their paths.
use Rattle.std.proofs.Common.{◌≡◌, ◌≢◌, ◌<◌, ◌+◌, ◌∙◌, ℕ, false, List, length, map, get_or, inl, inr, refl, sym, ap, arith}
use Rattle.std.specs.Cmp.{IsTotalOrder}
use Rattle.std.specs.declared.cmp.Ordering.{Ordering}
use Rattle.std.specs.declared.cmp.Ordering.TheVariants.{Less, Equal, Greater}
use Rattle.std.specs.List.{IsDistinct, range_with_len}
use Rattle.std.specs.List.Sorted.{IsStrictlySortedBy}
use Rattle.std.specs.Ordering.{eq_by_cmp, is_eq, is_lt, nat_cmp, ordering_reverse}
use Rattle.std.proofs.lemmas.Bool.{cases_order, true≢false}
use Rattle.std.proofs.lemmas.Bool.Decides.{nat_tests}
use Rattle.std.proofs.lemmas.Cmp.{eq_by_cmp_equiv, nat_cmp_total, nat_list_cmp_total, on_total, tied_itself}
use Rattle.std.proofs.lemmas.List.FromFn.{get_or-range_with_len, length-range_with_len}
use Rattle.std.proofs.lemmas.Map.Keys.{IsDistinct-IsPermutation, IsDistinct-from_sorted, Less-from_sorted, apart_from_distinct, sorted_from_all_adjacent}
use Rattle.coverage_db.specs.Order.{bytes_cmp}
use Rattle.coverage_db.specs.Table.{Rises}
use Rattle.coverage_db.specs.declared.db.DbInstance.{DbInstance}
use Rattle.point_table.proofs.cover_points.Members.{same_bytes, same_place}
use Rattle.design_model.specs.Design.{AreDistinct, no_instance}
use Rattle.design_model.specs.declared.design.Instance.{Instance}
use Rattle.point_table.specs.Rows.{ArePlaces, IsPathOrder, instance_at, path_cmp, place_at, row_at}
use Rattle.point_table.proofs.Lists.{order_below, order_length}
use Rattle.table_laws.proofs.Rising.{rises_map}

next_number : (k : ℕ) → nat_cmp (0 + k) (0 + (k + 1)) ≡ Less
next_number k = grind (arith, nat_tests)

range_sorted : (n : ℕ) → IsStrictlySortedBy nat_cmp (range_with_len 0 n)
range_sorted n =
    sorted_from_all_adjacent nat_cmp_total (range_with_len 0 n) 0 (λ k l.
    let m : k < n = omega (arith, l, length-range_with_len 0 n) in
    let o : k + 1 < n = omega (arith, l, length-range_with_len 0 n) in
    ap (λ a. nat_cmp a (get_or (range_with_len 0 n) (k + 1) 0)) (get_or-range_with_len 0 n k 0 m) ∙ ap (nat_cmp (0 + k)) (get_or-range_with_len 0 n (k + 1) 0 o) ∙ next_number k)

-- what is not greater and not equal is less
not_more : {R : List ℕ → List ℕ → Ordering} (o : IsTotalOrder R) (x y : List ℕ) → ((e : R x y ≡ Equal) → ⊥) → (c : Ordering) → R y x ≡ c → is_lt c ≡ false → R x y ≡ Less
not_more o x y ne Less e f = absurd (true≢false f)
not_more o x y ne Equal e f = absurd (ne (o.antisymm x y ∙ ap ordering_reverse e))
not_more o x y ne Greater e f = o.antisymm x y ∙ ap ordering_reverse e

module _ (is : List Instance) (apart : AreDistinct (map (λ (i : Instance). i.path) is)) (order : List ℕ) (in_order : IsPathOrder is order) where
  many : length order ≡ length is
  many = order_length (length is) order in_order.permutation

  below : (k : ℕ) → k < length order → get_or order k 0 < length is
  below = order_below (length is) order in_order.permutation

  pub path_total : IsTotalOrder (path_cmp is)
  path_total = on_total (λ i. (instance_at is i).path) nat_list_cmp_total

  once : IsDistinct (eq_by_cmp nat_cmp) order
  once =
      IsDistinct-IsPermutation (eq_by_cmp nat_cmp) (eq_by_cmp_equiv nat_cmp_total).symm (range_with_len 0 (length is)) order in_order.permutation (IsDistinct-from_sorted nat_cmp (range_with_len 0 (length is)) (range_sorted (length is)))

  other : (k : ℕ) → k + 1 < length order → get_or order k 0 ≢ get_or order (k + 1) 0
  other k l e =
      let differ = apart_from_distinct (eq_by_cmp nat_cmp) order k (k + 1) 0 once (omega arith) l in
      let same = ap is_eq (tied_itself nat_cmp_total (get_or order k 0)) in
      absurd (true≢false (sym same ∙ ap (eq_by_cmp nat_cmp (get_or order k 0)) e ∙ differ))

  -- the instances come in the strict order of their paths
  pub strictly : IsStrictlySortedBy (path_cmp is) order
  strictly =
      sorted_from_all_adjacent path_total order 0 (λ k l.
      let i = get_or order k 0 in
      let j = get_or order (k + 1) 0 in
      not_more nat_list_cmp_total (instance_at is i).path (instance_at is j).path (λ tied.
      other k l (same_place (λ (i : Instance). i.path) is i j no_instance apart (below k (omega arith)) (below (k + 1) l) (same_bytes (instance_at is i).path (instance_at is j).path tied))) (path_cmp is j i) refl (in_order.sorted k 0 (omega arith) l))

  -- so do their rows
  pub rows_rise : Rises (λ (a b : DbInstance). bytes_cmp a.path b.path) (map (row_at is) order)
  rows_rise = rises_map (path_cmp is) (λ (a b : DbInstance). bytes_cmp a.path b.path) (row_at is) order strictly (λ x y i j l. l)

  module _ (places : List ℕ) (are : ArePlaces order places) where
    placed : (i : ℕ) → i < length is → (place_at places i < length order) × (get_or order (place_at places i) 0 ≡ i)
    placed i l = are i (omega (arith, l, many))

    -- the place of an instance is one of the table
    pub place_below : (i : ℕ) → i < length is → place_at places i < length order
    place_below i l = (placed i l).0

    lesser : (i j : ℕ) → i < length is → j < length is → place_at places i < place_at places j → path_cmp is i j ≡ Less
    lesser i j l m less =
        let sorted = Less-from_sorted (path_cmp is) order (place_at places i) (place_at places j) 0 strictly less (placed j m).0 in
        sym (ap (λ k. path_cmp is k (get_or order (place_at places j) 0)) (placed i l).1 ∙ ap (path_cmp is i) (placed j m).1) ∙ sorted

    -- two places compare as the paths
    pub by_place : (i j : ℕ) → i < length is → j < length is → nat_cmp (place_at places i) (place_at places j) ≡ path_cmp is i j
    by_place i j l m = elim (cases_order p q) [
      | inl same ↦
          let e : i ≡ j = sym (placed i l).1 ∙ ap (λ k. get_or order k 0) same ∙ (placed j m).1 in
          ap (nat_cmp p) (sym same) ∙ tied_itself nat_cmp_total p ∙ sym (ap (path_cmp is i) (sym e) ∙ tied_itself path_total i)
      | inr (inl less) ↦
          let n : nat_cmp p q ≡ Less = grind (arith, nat_tests, less) in
          n ∙ sym (lesser i j l m less)
      | inr (inr more) ↦
          let n : nat_cmp p q ≡ Greater = grind (arith, nat_tests, more) in
          n ∙ sym (path_total.antisymm i j ∙ ap ordering_reverse (lesser j i m l more))
    ]
      where
        p : ℕ
        p = place_at places i

        q : ℕ
        q = place_at places j
