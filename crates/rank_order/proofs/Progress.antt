-- One node after the other is placed.
use Rattle.std.proofs.Common.{◌≡◌, inl, inr, ⊎_elim, ◌∙◌, ℕ, ◌+◌, ◌<◌, ◌≤◌, List, [], ◌∷◌, ◌++◌, length, get_or, set, take, refl, sym, ap, subst, arith}
use Rattle.std.specs.List.{Contains}
use Rattle.std.proofs.lemmas.Bool.{cases_eq, cases_lt}
use Rattle.std.proofs.lemmas.List.{get_or-set_other, get_or-set_same, length-map, length-set, set_past, take_all, take_more, take-take}
use Rattle.std.proofs.lemmas.List.Elements.{Contains-push_cases}
use Rattle.index_sets.specs.Rows.{row_at}
use Rattle.rank_order.specs.Order.{IsOrderAfter, lists_of}
use Rattle.rank_order.specs.Sorting.{AllPlaced, IsSorting, Places, waiting_for}
use Rattle.rank_order.specs.declared.sorting.Sorting.{Sorting}
use Rattle.rank_order.proofs.Orders.{contains_none, contains_take}

-- the nodes that wait for one of so many of the order are taken up
pub record IsUpTo (needs : List (List ℕ)) (s : Sorting) (done : ℕ) : Type 0 where
  pub sorting : IsSorting needs s
  pub within : done ≤ length s.order.items
  pub placed : AllPlaced needs (take done s.order.items) s

module _ (needs : List (List ℕ)) where
  -- what was in the order stays
  pub stays : (nodes : List ℕ) (s t : Sorting) → Places needs nodes s t → (x : ℕ) → Contains s.order.items x → Contains t.order.items x
  stays nodes s t p x c = contains_take (length s.order.items) t.order.items x (subst (λ xs. Contains xs x) (sym p.front) c)

  -- so do its first ones
  front_same : (nodes : List ℕ) (s t : Sorting) (n : ℕ) → Places needs nodes s t → n ≤ length s.order.items → take n t.order.items ≡ take n s.order.items
  front_same nodes s t n p l = sym (take-take n (length s.order.items) t.order.items l) ∙ ap (take n) p.front

  pub none_placed : (s : Sorting) → Places needs [] s s
  none_placed s = record { longer = omega arith; front = take_all (length s.order.items) s.order.items (omega arith); keeps = λ w v c. c; placed = λ v c. absurd (contains_none v c) }

  -- and one more
  pub one_more : (nodes : List ℕ) (node : ℕ) (s t u : Sorting) → Places needs nodes s t → Places needs (node ∷ []) t u → Places needs (nodes ++ node ∷ []) s u
  one_more nodes node s t u p q =
      record {
        longer = omega (arith, p.longer, q.longer);
        front = front_same (node ∷ []) t u (length s.order.items) q p.longer ∙ p.front;
        keeps = λ w v c. q.keeps w v (p.keeps w v c);
        placed = λ v c.
            ⊎_elim
            (λ a. ⊎_elim (λ i. inl (stays (node ∷ []) t u q v i)) (λ y. inr (y.0, y.1, y.2, q.keeps y.0 v y.3, y.4)) (p.placed v a))
            (λ e. ⊎_elim (λ i. inl i) (λ y. inr (y.0, y.1, y.2, y.3, λ i. y.4 (stays nodes s t p y.0 i))) (q.placed v (subst (λ n. Contains (node ∷ []) n) e (0, omega arith, refl))))
            (Contains-push_cases nodes node v c);
      }

  -- where all nodes are placed
  pub all_placed : (nodes : List ℕ) (s t : Sorting) → Places needs nodes s t → s.order.items ≡ [] → ((v : ℕ) → v < length needs → Contains nodes v) → AllPlaced needs [] t
  all_placed nodes s t p empty all v l = ⊎_elim (λ i. inl i) (λ y. inr (y.0, y.1, y.2, y.3, λ i. contains_none y.0 i)) (p.placed v (all v l))

  -- the nodes that wait for one are taken out
  module _ (s r : Sorting) (node : ℕ) (order : r.order ≡ s.order) (met : r.met ≡ s.met) (emptied : lists_of r.waiting.items ≡ set (lists_of s.waiting.items) node []) (h : IsSorting needs s) where
    left_rows : (w v : ℕ) → Contains (waiting_for r w) v → Contains (waiting_for s w) v
    left_rows w v c =
        let d : Contains (row_at (set (lists_of s.waiting.items) node []) w) v = subst (λ rows. Contains (row_at rows w) v) emptied c in
        ⊎_elim
        (λ l.
        ⊎_elim
        (λ e. absurd (contains_none v (subst (λ row. Contains row v) (ap (λ n. row_at (set (lists_of s.waiting.items) node []) n) e ∙ get_or-set_same (lists_of s.waiting.items) node [] [] l) d)))
        (λ ne. subst (λ row. Contains row v) (get_or-set_other (lists_of s.waiting.items) node w [] [] ne) d)
        (cases_eq w node))
        (λ past. subst (λ rows. Contains (row_at rows w) v) (set_past (lists_of s.waiting.items) node [] past) d)
        (cases_lt node (length (lists_of s.waiting.items)))

    pub taken_sorting : IsSorting needs r
    taken_sorting =
        record {
          size = ap (λ o. o.size) order ∙ h.size;
          met_size = ap (λ m. length m.items) met ∙ h.met_size;
          waiting_size = sym (length-map r.waiting.items (λ v. v.items)) ∙ ap length emptied ∙ length-set (lists_of s.waiting.items) node [] ∙ length-map s.waiting.items (λ v. v.items) ∙ h.waiting_size;
          once = rw (ap (λ o. o.items) order) h.once;
          below = λ v c. h.below v (subst (λ o. Contains o.items v) order c);
          waiting_below = λ w v c. h.waiting_below w v (left_rows w v c);
          met_within = λ v. subst (λ m. get_or m.items v 0 ≤ length (row_at needs v)) (sym met) (h.met_within v);
          met_there = λ v j b. subst (λ o. Contains o.items (get_or (row_at needs v) j 0)) (sym order) (h.met_there v j (subst (λ m. j < get_or m.items v 0) met b));
          after = λ v w c n. rw (ap (λ o. o.items) order) (h.after v w (subst (λ o. Contains o.items v) order c) n);
        }

    -- and placed
    module _ (t : Sorting) (done : ℕ) (l : done < length s.order.items) (is : node ≡ get_or s.order.items done 0) (p : Places needs (waiting_for s node) r t) (all : AllPlaced needs (take done s.order.items) s) where
      same_items : r.order.items ≡ s.order.items
      same_items = ap (λ o. o.items) order

      pub done_within : done + 1 ≤ length t.order.items
      done_within = omega (arith, p.longer, ap length same_items)

      front : take (done + 1) t.order.items ≡ take (done + 1) s.order.items
      front = front_same (waiting_for s node) r t (done + 1) p (omega (arith, ap length same_items)) ∙ ap (take (done + 1)) same_items

      more : take (done + 1) t.order.items ≡ take done s.order.items ++ node ∷ []
      more = front ∙ take_more s.order.items done 0 l ∙ ap (λ x. take done s.order.items ++ x ∷ []) (sym is)

      pub placed_more : AllPlaced needs (take (done + 1) t.order.items) t
      placed_more v b =
          ⊎_elim
          (λ i. inl (stays (waiting_for s node) r t p v (subst (λ xs. Contains xs v) (sym same_items) i)))
          (λ y.
          ⊎_elim
          (λ e.
          ⊎_elim
          (λ i. inl i)
          (λ z. inr (z.0, z.1, z.2, z.3, λ i. z.4 (subst (λ xs. Contains xs z.0) (sym same_items) (contains_take (done + 1) s.order.items z.0 (subst (λ xs. Contains xs z.0) front i)))))
          (p.placed v (subst (λ n. Contains (waiting_for s n) v) e y.3)))
          (λ ne.
          let row : row_at (lists_of r.waiting.items) y.0 ≡ row_at (lists_of s.waiting.items) y.0 = ap (λ rows. row_at rows y.0) emptied ∙ get_or-set_other (lists_of s.waiting.items) node y.0 [] [] ne in
          inr (y.0, y.1, y.2, p.keeps y.0 v (subst (λ xs. Contains xs v) (sym row) y.3), λ i. ⊎_elim (λ a. y.4 a) (λ e. ne (sym e)) (Contains-push_cases (take done s.order.items) node y.0 (subst (λ xs. Contains xs y.0) more i))))
          (cases_eq y.0 node))
          (all v b)

  -- at the end
  pub order_is : (s : Sorting) (done : ℕ) → IsSorting needs s → AllPlaced needs (take done s.order.items) s → length s.order.items ≤ done → IsOrderAfter needs s.order.items
  order_is s done h all end =
      record {
        below = h.below;
        once = h.once;
        after = h.after;
        left = λ v l out. ⊎_elim (λ i. absurd (out i)) (λ y. (y.0, y.1, λ i. y.4 (subst (λ xs. Contains xs y.0) (sym (take_all done s.order.items end)) i))) (all v l);
      }
