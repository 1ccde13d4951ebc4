-- From the needs of processes and gates to the order of the processes.
use Rattle.std.proofs.Common.{◌≡◌, ◌⊎◌, inl, inr, ⊎_elim, ◌∙◌, ℕ, ◌+◌, ◌-◌, ◌<◌, ◌≤◌, Bool, false, List, [], length, refl, sym, ap, subst, arith}
use Rattle.std.specs.List.{Contains}
use Rattle.std.proofs.lemmas.Bool.{cases_eq, cases_lt}
use Rattle.index_sets.specs.Rows.{row_at}
use Rattle.rank_order.specs.Order.{AreNodes, ComesBefore, IsOnce, IsOrderAfter}
use Rattle.rank_order.proofs.Orders.{before_first, before_third}
use Rattle.process_order.specs.Needs.{AreNeeds, IsNeed}
use Rattle.process_order.specs.Order.{AreLinks, IsRunOrder}
use Rattle.process_order.specs.Owners.{HasOther, IsAlone}
use Rattle.process_order.specs.declared.needs.Links.{Links}
use Rattle.process_order.proofs.RowLemmas.{row_inside}

module _ (watched driven needs : List (List ℕ)) (count : ℕ) (bound : ℕ → Bool) (l : Links) (k : AreLinks watched driven count l) (n : AreNeeds l bound watched needs) (size : length driven ≡ length watched) (below : (p x : ℕ) → Contains (row_at watched p) x → x < count) where
  abbrev gates : ℕ
  gates = length watched

  driver_below : (x w : ℕ) → Contains (row_at l.drivers x) w → w < gates
  driver_below x w c =
      let inside : x < count = omega (arith, row_inside l.drivers x w c, k.drivers_size) in
      omega (arith, row_inside driven w x ((k.drives x w inside).0 c), size)

  need_below : (p x w : ℕ) → Contains (row_at watched p) x → IsNeed l gates p x w → w < length needs
  need_below p x w c need =
      ⊎_elim (λ a. omega (arith, driver_below x w a.1, n.count)) (λ b. omega (arith, b.1, below p x c, n.count, k.drivers_size)) need

  -- what is needed are processes and gates
  pub needs_are_nodes : AreNodes needs
  needs_are_nodes v w c =
      let inside : v < length needs = row_inside needs v w c in
      ⊎_elim
      (λ process. let f = (n.processes v process).from w c in need_below v f.0 w f.1 f.3)
      (λ gate.
      let x : ℕ = v - gates in
      let is : v ≡ gates + x = omega arith in
      let there : x < length l.drivers = omega (arith, n.count) in
      let row : row_at needs v ≡ row_at l.drivers x = ap (row_at needs) is ∙ n.gates x there in
      omega (arith, driver_below x w (subst (λ r. Contains r w) row c), n.count))
      (cases_lt v gates)

  module _ (order : List ℕ) (o : IsOrderAfter needs order) where
    gate_row : (x w : ℕ) → x < count → Contains (row_at l.drivers x) w → Contains (row_at needs (gates + x)) w
    gate_row x w b c = subst (λ r. Contains r w) (sym (n.gates x (omega (arith, k.drivers_size)))) c

    -- each process comes after the others that drive what it watches
    drivers_first : (p q x : ℕ) → p < gates → Contains order p → Contains (row_at watched p) x → bound x ≡ false → Contains (row_at driven q) x → (q ≡ p → ⊥) → ComesBefore q order p
    drivers_first p q x inside c w free d apart =
        let b : x < count = below p x w in
        let drives : Contains (row_at l.drivers x) q = (k.drives x q b).1 d in
        ⊎_elim
        (λ direct. o.after p q c direct)
        (λ gate.
        let first : ComesBefore (gates + x) order p = o.after p (gates + x) c gate in
        before_third q (gates + x) p order o.once (o.after (gates + x) q (before_first (gates + x) p order first) (gate_row x q b drives)) first)
        ((n.processes p inside).covers x q w free drives apart)

    -- a process in the order has the gates in it that it needs, and a driver that is needed directly
    driver_in : (p q x : ℕ) → p < gates → Contains order p → Contains (row_at watched p) x → bound x ≡ false → Contains (row_at driven q) x → (q ≡ p → ⊥) → Contains order q
    driver_in p q x inside c w free d apart = before_first q p order (drivers_first p q x inside c w free d apart)

    -- a gate that is not in the order
    by_gate : (p x : ℕ) → p < gates → (Contains order p → ⊥) → Contains (row_at watched p) x → bound x ≡ false → (Contains (row_at l.owners x) p → HasOther p (row_at l.owners x)) → (Contains order (gates + x) → ⊥) → (y q : ℕ) × Contains (row_at watched p) y × (bound y ≡ false) × Contains (row_at driven q) y × (q ≡ p → ⊥) × (Contains order q → ⊥)
    by_gate p x inside out w free other shut =
        let b : x < count = below p x w in
        let is = o.left (gates + x) (omega (arith, n.count, k.drivers_size)) shut in
        let r : ℕ = is.0 in
        let drives : Contains (row_at l.drivers x) r = subst (λ row. Contains row r) (n.gates x (omega (arith, k.drivers_size))) is.1 in
        let d : Contains (row_at driven r) x = (k.drives x r b).0 drives in
        ⊎_elim
        (λ same.
        let own : Contains (row_at l.owners x) p = (k.owns x p b).1 (w, subst (λ q. Contains (row_at driven q) x) same d) in
        let q = other own in
        let both = (k.owns x q.0 b).0 q.1 in
        (x, q.0, w, free, both.1, q.2, λ c. out (driver_in q.0 p x (omega (arith, row_inside driven q.0 x both.1, size)) c both.0 free (subst (λ y. Contains (row_at driven y) x) same d) (λ e. q.2 (sym e)))))
        (λ apart. (x, r, w, free, d, apart, is.2))
        (cases_eq r p)

    blocked : (p : ℕ) → p < gates → (Contains order p → ⊥) → (x q : ℕ) × Contains (row_at watched p) x × (bound x ≡ false) × Contains (row_at driven q) x × (q ≡ p → ⊥) × (Contains order q → ⊥)
    blocked p inside out =
        let is = o.left p (omega (arith, n.count)) out in
        let f = (n.processes p inside).from is.0 is.1 in
        let x : ℕ = f.0 in
        ⊎_elim
        (λ a. (x, is.0, f.1, f.2, (k.drives x is.0 (below p x f.1)).0 a.1, a.2, is.2))
        (λ g. by_gate p x inside out f.1 f.2 g.0 (λ c. is.2 (subst (λ w. Contains order w) (sym g.1) c)))
        f.3

    pub run_order_is : IsRunOrder watched driven bound order
    run_order_is = record { once = o.once; after = drivers_first; left = blocked }
