-- A node is put into the order, or waits.
use Rattle.std.proofs.Common.{◌≡◌, ◌⊎◌, inl, inr, ⊎_elim, ◌∙◌, ℕ, ◌<◌, ◌≤◌, ◌↔◌, Bool, false, cond, List, [], ◌∷◌, ◌++◌, length, get_or, set, take, refl, sym, ap, subst, arith}
use Rattle.std.specs.List.{Contains}
use Rattle.std.proofs.lemmas.Bool.{both_ways, cases_Bool, cases_eq, cond-false, cond-true}
use Rattle.std.proofs.lemmas.List.{append-nil, get_or_default, get_or-set_other, get_or-set_same, length-append, length-map, length-set, take_all, take_at}
use Rattle.std.proofs.lemmas.List.Elements.{Contains-append_left, Contains-push, Contains-push_cases}
use Rattle.index_sets.specs.Rows.{row_at}
use Rattle.rank_order.specs.Order.{AreNodes, ComesBefore, IsOnce, lists_of}
use Rattle.rank_order.specs.Sorting.{IsSorting, Places}
use Rattle.rank_order.specs.declared.sorting.Sorting.{Sorting}
use Rattle.rank_order.proofs.Orders.{before_last, before_more, only_one, once_more}

-- how many of what a node needs are met, when one count is written
module _ (needs : List (List ℕ)) (order : List ℕ) (mets : List ℕ) (node met : ℕ) (l : node < length mets) (within : met ≤ length (row_at needs node)) (there : (j : ℕ) → j < met → Contains order (get_or (row_at needs node) j 0)) where
  pub met_within_more : ((v : ℕ) → get_or mets v 0 ≤ length (row_at needs v)) → (v : ℕ) → get_or (set mets node met) v 0 ≤ length (row_at needs v)
  met_within_more h v =
      ⊎_elim
      (λ e. let is : get_or (set mets node met) v 0 ≡ met = ap (λ n. get_or (set mets node met) n 0) e ∙ get_or-set_same mets node met 0 l in let row : length (row_at needs v) ≡ length (row_at needs node) = ap (λ n. length (row_at needs n)) e in omega arith)
      (λ ne. omega (arith, get_or-set_other mets node v met 0 ne, h v))
      (cases_eq v node)

  pub met_there_more : ((v j : ℕ) → j < get_or mets v 0 → Contains order (get_or (row_at needs v) j 0)) → (v j : ℕ) → j < get_or (set mets node met) v 0 → Contains order (get_or (row_at needs v) j 0)
  met_there_more h v j below =
      ⊎_elim
      (λ e.
      let is : get_or (set mets node met) v 0 ≡ met = ap (λ n. get_or (set mets node met) n 0) e ∙ get_or-set_same mets node met 0 l in
      subst (λ n. Contains order (get_or (row_at needs n) j 0)) (sym e) (there j (omega arith)))
      (λ ne. h v j (omega (arith, get_or-set_other mets node v met 0 ne)))
      (cases_eq v node)

-- one more waits for w
module _ (rows : List (List ℕ)) (w node : ℕ) (l : w < length rows) where
  abbrev added : List (List ℕ)
  added = set rows w (row_at rows w ++ node ∷ [])

  pub added_keeps : (u v : ℕ) → Contains (row_at rows u) v → Contains (row_at added u) v
  added_keeps u v c =
      ⊎_elim
      (λ e. subst (λ n. Contains (row_at added n) v) (sym e) (subst (λ r. Contains r v) (sym (get_or-set_same rows w (row_at rows w ++ node ∷ []) [] l)) (Contains-append_left (row_at rows w) (node ∷ []) v (subst (λ n. Contains (row_at rows n) v) e c))))
      (λ ne. subst (λ r. Contains r v) (sym (get_or-set_other rows w u (row_at rows w ++ node ∷ []) [] ne)) c)
      (cases_eq u w)

  pub added_there : Contains (row_at added w) node
  added_there = subst (λ r. Contains r node) (sym (get_or-set_same rows w (row_at rows w ++ node ∷ []) [] l)) (Contains-push (row_at rows w) node)

  pub added_cases : (u v : ℕ) → Contains (row_at added u) v → Contains (row_at rows u) v ⊎ (node ≡ v)
  added_cases u v c =
      ⊎_elim
      (λ e. ⊎_elim (λ a. inl (subst (λ n. Contains (row_at rows n) v) (sym e) a)) (λ a. inr a) (Contains-push_cases (row_at rows w) node v (subst (λ r. Contains r v) (get_or-set_same rows w (row_at rows w ++ node ∷ []) [] l) (subst (λ n. Contains (row_at added n) v) e c))))
      (λ ne. inl (subst (λ r. Contains r v) (get_or-set_other rows w u (row_at rows w ++ node ∷ []) [] ne) c))
      (cases_eq u w)

-- a node with the count of what is met
module _ (needs : List (List ℕ)) (s t : Sorting) (node met : ℕ) (h : IsSorting needs s) (l : node < length needs) (within : met ≤ length (row_at needs node)) (there : (j : ℕ) → j < met → Contains s.order.items (get_or (row_at needs node) j 0)) (met_is : t.met.items ≡ set s.met.items node met) where
  inside : node < length s.met.items
  inside = omega (arith, h.met_size)

  -- it waits for the next one
  module _ (short : met < length (row_at needs node)) (nodes : AreNodes needs) (same : t.order ≡ s.order) (waits : lists_of t.waiting.items ≡ set (lists_of s.waiting.items) (get_or (row_at needs node) met 0) (row_at (lists_of s.waiting.items) (get_or (row_at needs node) met 0) ++ node ∷ [])) (missing : Contains s.order.items (get_or (row_at needs node) met 0) → ⊥) where
    abbrev w : ℕ
    w = get_or (row_at needs node) met 0

    needed : Contains (row_at needs node) w
    needed = (met, short, get_or_default (row_at needs node) met w 0 short)

    w_below : w < length needs
    w_below = nodes node w needed

    w_inside : w < length (lists_of s.waiting.items)
    w_inside = omega (arith, length-map s.waiting.items (λ v. v.items), h.waiting_size, w_below)

    same_items : t.order.items ≡ s.order.items
    same_items = ap (λ o. o.items) same

    pub wait_sorting : IsSorting needs t
    wait_sorting =
        record {
          size = ap (λ o. o.size) same ∙ h.size;
          met_size = ap length met_is ∙ length-set s.met.items node met ∙ h.met_size;
          waiting_size = sym (length-map t.waiting.items (λ v. v.items)) ∙ ap length waits ∙ length-set (lists_of s.waiting.items) w (row_at (lists_of s.waiting.items) w ++ node ∷ []) ∙ length-map s.waiting.items (λ v. v.items) ∙ h.waiting_size;
          once = subst IsOnce (sym same_items) h.once;
          below = λ v c. h.below v (subst (λ xs. Contains xs v) same_items c);
          waiting_below = λ u v c. ⊎_elim (λ a. h.waiting_below u v a) (λ e. subst (λ n. n < length needs) e l) (added_cases (lists_of s.waiting.items) w node w_inside u v (subst (λ rows. Contains (row_at rows u) v) waits c));
          met_within = λ v. subst (λ ms. get_or ms v 0 ≤ length (row_at needs v)) (sym met_is) (met_within_more needs s.order.items s.met.items node met inside within there h.met_within v);
          met_there = λ v j b. subst (λ xs. Contains xs (get_or (row_at needs v) j 0)) (sym same_items) (met_there_more needs s.order.items s.met.items node met inside within there h.met_there v j (subst (λ ms. j < get_or ms v 0) met_is b));
          after = λ v u c n. subst (λ xs. ComesBefore u xs v) (sym same_items) (h.after v u (subst (λ xs. Contains xs v) same_items c) n);
        }

    pub wait_places : Places needs (node ∷ []) s t
    wait_places =
        record {
          longer = omega (arith, ap length same_items);
          front = ap (take (length s.order.items)) same_items ∙ take_all (length s.order.items) s.order.items (omega arith);
          keeps = λ u v c. subst (λ rows. Contains (row_at rows u) v) (sym waits) (added_keeps (lists_of s.waiting.items) w node w_inside u v c);
          placed = λ v c.
              let is : node ≡ v = only_one node v c in
              inr (w, subst (λ n. Contains (row_at needs n) w) is needed, w_below, subst (λ n. Contains (row_at (lists_of t.waiting.items) w) n) is (subst (λ rows. Contains (row_at rows w) node) (sym waits) (added_there (lists_of s.waiting.items) w node w_inside)), missing);
        }

  -- all that it needs is there
  module _ (whole : length (row_at needs node) ≤ met) (size : t.order.size ≡ s.order.size) (waits : t.waiting ≡ s.waiting) where
    met_need : (u : ℕ) → Contains (row_at needs node) u → Contains s.order.items u
    met_need u c = subst (λ n. Contains s.order.items n) (get_or_default (row_at needs node) c.0 0 u c.1 ∙ c.2) (there c.0 (omega (arith, c.1)))

    rows_same : lists_of t.waiting.items ≡ lists_of s.waiting.items
    rows_same = ap (λ r. lists_of r.items) waits

    module _ (ys : List ℕ) (items : t.order.items ≡ s.order.items ++ ys) where
      kept : (x : ℕ) → Contains s.order.items x → Contains t.order.items x
      kept x c = subst (λ xs. Contains xs x) (sym items) (Contains-append_left s.order.items ys x c)

      put_sorting : IsOnce t.order.items → ((v : ℕ) → Contains t.order.items v → v < length needs) → ((v u : ℕ) → Contains t.order.items v → Contains (row_at needs v) u → ComesBefore u t.order.items v) → IsSorting needs t
      put_sorting once below after =
          record {
            size = size ∙ h.size;
            met_size = ap length met_is ∙ length-set s.met.items node met ∙ h.met_size;
            waiting_size = ap (λ r. length r.items) waits ∙ h.waiting_size;
            once = once;
            below = below;
            waiting_below = λ u v c. h.waiting_below u v (subst (λ rows. Contains (row_at rows u) v) rows_same c);
            met_within = λ v. subst (λ ms. get_or ms v 0 ≤ length (row_at needs v)) (sym met_is) (met_within_more needs s.order.items s.met.items node met inside within there h.met_within v);
            met_there = λ v j b. kept (get_or (row_at needs v) j 0) (met_there_more needs s.order.items s.met.items node met inside within there h.met_there v j (subst (λ ms. j < get_or ms v 0) met_is b));
            after = after;
          }

      put_places : Contains t.order.items node → Places needs (node ∷ []) s t
      put_places c =
          record {
            longer = omega (arith, ap length items, length-append s.order.items ys);
            front = ap (take (length s.order.items)) items ∙ take_at s.order.items ys (length s.order.items) refl;
            keeps = λ u v k. subst (λ rows. Contains (row_at rows u) v) (sym rows_same) k;
            placed = λ v k. inl (subst (λ n. Contains t.order.items n) (only_one node v k) c);
          }

    -- it is put in
    module _ (items : t.order.items ≡ s.order.items ++ node ∷ []) where
      pub new_sorting : (Contains s.order.items node → ⊥) → IsSorting needs t
      new_sorting new =
          put_sorting (node ∷ []) items (subst IsOnce (sym items) (once_more node s.order.items h.once new))
          (λ v c. ⊎_elim (λ a. h.below v a) (λ e. subst (λ n. n < length needs) e l) (Contains-push_cases s.order.items node v (subst (λ xs. Contains xs v) items c)))
          (λ v u c n.
          subst (λ xs. ComesBefore u xs v) (sym items)
          (⊎_elim
          (λ a. before_more u v s.order.items (node ∷ []) (h.after v u a n))
          (λ e. subst (λ x. ComesBefore u (s.order.items ++ node ∷ []) x) e (before_last u node s.order.items (met_need u (subst (λ x. Contains (row_at needs x) u) (sym e) n))))
          (Contains-push_cases s.order.items node v (subst (λ xs. Contains xs v) items c))))

      pub new_places : Places needs (node ∷ []) s t
      new_places = put_places (node ∷ []) items (subst (λ xs. Contains xs node) (sym items) (Contains-push s.order.items node))

    -- it was there
    module _ (items : t.order.items ≡ s.order.items) (old : Contains s.order.items node) where
      pub old_sorting : IsSorting needs t
      old_sorting =
          put_sorting [] (items ∙ sym (append-nil s.order.items)) (subst IsOnce (sym items) h.once)
          (λ v c. h.below v (subst (λ xs. Contains xs v) items c))
          (λ v u c n. subst (λ xs. ComesBefore u xs v) (sym items) (h.after v u (subst (λ xs. Contains xs v) items c) n))

      pub old_places : Places needs (node ∷ []) s t
      old_places = put_places [] (items ∙ sym (append-nil s.order.items)) (subst (λ xs. Contains xs node) (sym items) old)

    -- it is put in where it was not there
    module _ (new : Bool) (items : t.order.items ≡ cond new (s.order.items ++ node ∷ []) s.order.items) (was : (new ≡ false) ↔ Contains s.order.items node) where
      pub put_in_sorting : IsSorting needs t
      put_in_sorting =
          ⊎_elim
          (λ yes. new_sorting (items ∙ cond-true new (s.order.items ++ node ∷ []) s.order.items yes) (λ c. both_ways new (was.1 c) yes))
          (λ no. old_sorting (items ∙ cond-false new (s.order.items ++ node ∷ []) s.order.items no) (was.0 no))
          (cases_Bool new)

      pub put_in_places : Places needs (node ∷ []) s t
      put_in_places =
          ⊎_elim
          (λ yes. new_places (items ∙ cond-true new (s.order.items ++ node ∷ []) s.order.items yes))
          (λ no. old_places (items ∙ cond-false new (s.order.items ++ node ∷ []) s.order.items no) (was.0 no))
          (cases_Bool new)
