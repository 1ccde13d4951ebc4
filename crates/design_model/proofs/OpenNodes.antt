-- A logic point that is surely open from a map is visited on each state that agrees with it, where its case is one that the node can have.
use Rattle.std.proofs.Common.{◌≡◌, ◌⊎◌, inl, inr, ⊎_elim, ℕ, Bool, true, false, List, [], ◌∷◌, ◌++◌, map, refl, sym, ap, subst, ◌∙◌, Option, Some}
use Rattle.cov_host.specs.declared.place.Place.{Place}
use Rattle.event_machine.specs.Cell.{Values}
use Rattle.four_state.specs.Vector.{truth}
use Rattle.four_state.specs.declared.bit.Bit.{Bit}
use Rattle.design_model.specs.Tree.{Stmt, Target, Targets, Term, Terms, a_target, a_term, all_of, binary, bit, bits_of, choice, concat, no_targets, no_terms, number, part, repeat, several, sign, signal, slide, unary, word, word_of}
use Rattle.design_model.specs.Design.{Design, In, Thing, a_signal}
use Rattle.design_model.specs.Value.{head, word_named}
use Rattle.design_model.specs.Mentions.{all_index_terms, all_subterms, index_terms, subterms}
use Rattle.design_model.specs.Execution.{Execution, NodeCase, Visit, at_node, cases, execution, execution_start, index_visits, indexes_visits, is_inner, node_visits, reads, visits_of, visits_of_all, word_read, words_written}
use Rattle.design_model.specs.Paths.{Action, Path, PlacedAction, assigns, compares, reaches, selects, tests}
use Rattle.design_model.specs.Reads.{Agrees, PartialMap}
use Rattle.design_model.specs.Points.{logic_point}
use Rattle.design_model.specs.Open.{AreAsked, Asked, IsNode, IsSurelyOpen, action_terms, asks}
use Rattle.design_model.proofs.Along.{AllActions, assign_visits, do_action, do_path}
use Rattle.design_model.proofs.NodeCases.{AskedHold, case_holds}
use Rattle.design_model.proofs.OpenPath.{IsOfBody, IsUnchanged, fixed_value, open_path, seen_stays, the_path, unchanged_after}

pub In-halves : {A : Type 0} (x : A) (xs ys : List A) → In x (xs ++ ys) → In x xs ⊎ In x ys
In-halves x [] ys h = inr h
In-halves x (z ∷ xs) ys (inl e) = inl (inl e)
In-halves x (z ∷ xs) ys (inr h) = ⊎_elim (λ a. inl (inr a)) (λ b. inr b) (In-halves x xs ys h)

pub In-left : {A : Type 0} (x : A) (xs ys : List A) → In x xs → In x (xs ++ ys)
In-left x [] ys h = absurd h
In-left x (z ∷ xs) ys (inl e) = inl e
In-left x (z ∷ xs) ys (inr h) = inr (In-left x xs ys h)

pub In-right : {A : Type 0} (x : A) (xs ys : List A) → In x ys → In x (xs ++ ys)
In-right x [] ys h = h
In-right x (z ∷ xs) ys h = inr (In-right x xs ys h)

node_in : (n : ℕ) (c : NodeCase) (o : Option ℕ) (cs : List NodeCase) → o ≡ Some n → In c cs → In (at_node n c) (node_visits o cs)
node_in n c o cs e h = subst (λ y. In (at_node n c) (node_visits y cs)) (sym e) (mapped cs h)
  where
    mapped : (cs : List NodeCase) → In c cs → In (at_node n c) (map (at_node n) cs)
    mapped [] h = h
    mapped (z ∷ zs) (inl e) = inl (ap (at_node n) e)
    mapped (z ∷ zs) (inr h) = inr (mapped zs h)

module _ (d : Design) (v : Values Bit) (f : Thing → Bool) (n : ℕ) (c : NodeCase) (t : Term) (numbered : (head t).node ≡ Some n) (holds : In c (cases d v t)) where
  abbrev y : Visit
  y = at_node n c

  here : (u : Term) → u ≡ t → In y (node_visits (head u).node (cases d v u))
  here u e = subst (λ z. In y (node_visits (head z).node (cases d v z))) (sym e) (node_in n c (head t).node (cases d v t) numbered holds)

  mutual
    pub node_seen : (u : Term) → In t (subterms u) → In y (visits_of d v f u)
    node_seen (number h k) (inl e) = here (number h k) e
    node_seen (number h k) (inr a) = absurd a
    node_seen (signal h s) (inl e) = In-right y (reads (a_signal s) (f (a_signal s)) ∷ []) _ (here (signal h s) e)
    node_seen (signal h s) (inr a) = absurd a
    node_seen (word h m i) (inl e) = In-right y (visits_of d v f i ++ word_read f m (word_named d v m i)) _ (here (word h m i) e)
    node_seen (word h m i) (inr a) = In-left y (visits_of d v f i ++ word_read f m (word_named d v m i)) (node_visits h.node (cases d v (word h m i))) (In-left y (visits_of d v f i) (word_read f m (word_named d v m i)) (node_seen i a))
    node_seen (bit h u i) (inl e) = In-right y (visits_of d v f i ++ visits_of d v f u) _ (here (bit h u i) e)
    node_seen (bit h u i) (inr a) = ⊎_elim (λ p2. In-left y (visits_of d v f i ++ visits_of d v f u) (node_visits h.node (cases d v (bit h u i))) (In-right y (visits_of d v f i) (visits_of d v f u) (node_seen u p2))) (λ q2. In-left y (visits_of d v f i ++ visits_of d v f u) (node_visits h.node (cases d v (bit h u i))) (In-left y (visits_of d v f i) (visits_of d v f u) (node_seen i q2))) (In-halves t (subterms u) (subterms i) a)
    node_seen (part h u i j) (inl e) = In-right y (visits_of d v f i ++ visits_of d v f j ++ visits_of d v f u) _ (here (part h u i j) e)
    node_seen (part h u i j) (inr a) = ⊎_elim (λ p3. ⊎_elim (λ p2. In-left y (visits_of d v f i ++ visits_of d v f j ++ visits_of d v f u) (node_visits h.node (cases d v (part h u i j))) (In-right y (visits_of d v f i ++ visits_of d v f j) (visits_of d v f u) (node_seen u p2))) (λ q2. In-left y (visits_of d v f i ++ visits_of d v f j ++ visits_of d v f u) (node_visits h.node (cases d v (part h u i j))) (In-left y (visits_of d v f i ++ visits_of d v f j) (visits_of d v f u) (In-left y (visits_of d v f i) (visits_of d v f j) (node_seen i q2)))) (In-halves t (subterms u) (subterms i) p3)) (λ q3. In-left y (visits_of d v f i ++ visits_of d v f j ++ visits_of d v f u) (node_visits h.node (cases d v (part h u i j))) (In-left y (visits_of d v f i ++ visits_of d v f j) (visits_of d v f u) (In-right y (visits_of d v f i) (visits_of d v f j) (node_seen j q3)))) (In-halves t (subterms u ++ subterms i) (subterms j) a)
    node_seen (slide h u b w up) (inl e) = In-right y (visits_of d v f b ++ visits_of d v f w ++ visits_of d v f u) _ (here (slide h u b w up) e)
    node_seen (slide h u b w up) (inr a) = ⊎_elim (λ p3. ⊎_elim (λ p2. In-left y (visits_of d v f b ++ visits_of d v f w ++ visits_of d v f u) (node_visits h.node (cases d v (slide h u b w up))) (In-right y (visits_of d v f b ++ visits_of d v f w) (visits_of d v f u) (node_seen u p2))) (λ q2. In-left y (visits_of d v f b ++ visits_of d v f w ++ visits_of d v f u) (node_visits h.node (cases d v (slide h u b w up))) (In-left y (visits_of d v f b ++ visits_of d v f w) (visits_of d v f u) (In-left y (visits_of d v f b) (visits_of d v f w) (node_seen b q2)))) (In-halves t (subterms u) (subterms b) p3)) (λ q3. In-left y (visits_of d v f b ++ visits_of d v f w ++ visits_of d v f u) (node_visits h.node (cases d v (slide h u b w up))) (In-left y (visits_of d v f b ++ visits_of d v f w) (visits_of d v f u) (In-right y (visits_of d v f b) (visits_of d v f w) (node_seen w q3)))) (In-halves t (subterms u ++ subterms b) (subterms w) a)
    node_seen (unary h op u) (inl e) = In-right y (visits_of d v f u) _ (here (unary h op u) e)
    node_seen (unary h op u) (inr a) = In-left y (visits_of d v f u) (node_visits h.node (cases d v (unary h op u))) (node_seen u a)
    node_seen (binary h op u x) (inl e) = In-right y (visits_of d v f u ++ visits_of d v f x) _ (here (binary h op u x) e)
    node_seen (binary h op u x) (inr a) = ⊎_elim (λ p2. In-left y (visits_of d v f u ++ visits_of d v f x) (node_visits h.node (cases d v (binary h op u x))) (In-left y (visits_of d v f u) (visits_of d v f x) (node_seen u p2))) (λ q2. In-left y (visits_of d v f u ++ visits_of d v f x) (node_visits h.node (cases d v (binary h op u x))) (In-right y (visits_of d v f u) (visits_of d v f x) (node_seen x q2))) (In-halves t (subterms u) (subterms x) a)
    node_seen (choice h z u x) (inl e) = In-right y (visits_of d v f z ++ visits_of d v f u ++ visits_of d v f x) _ (here (choice h z u x) e)
    node_seen (choice h z u x) (inr a) = ⊎_elim (λ p3. ⊎_elim (λ p2. In-left y (visits_of d v f z ++ visits_of d v f u ++ visits_of d v f x) (node_visits h.node (cases d v (choice h z u x))) (In-left y (visits_of d v f z ++ visits_of d v f u) (visits_of d v f x) (In-left y (visits_of d v f z) (visits_of d v f u) (node_seen z p2)))) (λ q2. In-left y (visits_of d v f z ++ visits_of d v f u ++ visits_of d v f x) (node_visits h.node (cases d v (choice h z u x))) (In-left y (visits_of d v f z ++ visits_of d v f u) (visits_of d v f x) (In-right y (visits_of d v f z) (visits_of d v f u) (node_seen u q2)))) (In-halves t (subterms z) (subterms u) p3)) (λ q3. In-left y (visits_of d v f z ++ visits_of d v f u ++ visits_of d v f x) (node_visits h.node (cases d v (choice h z u x))) (In-right y (visits_of d v f z ++ visits_of d v f u) (visits_of d v f x) (node_seen x q3))) (In-halves t (subterms z ++ subterms u) (subterms x) a)
    node_seen (concat h ts) (inl e) = In-right y (visits_of_all d v f ts) _ (here (concat h ts) e)
    node_seen (concat h ts) (inr a) = In-left y (visits_of_all d v f ts) (node_visits h.node (cases d v (concat h ts))) (nodes_seen ts a)
    node_seen (repeat h k ts) (inl e) = In-right y (visits_of d v f k ++ visits_of_all d v f ts) _ (here (repeat h k ts) e)
    node_seen (repeat h k ts) (inr a) = ⊎_elim (λ p2. In-left y (visits_of d v f k ++ visits_of_all d v f ts) (node_visits h.node (cases d v (repeat h k ts))) (In-left y (visits_of d v f k) (visits_of_all d v f ts) (node_seen k p2))) (λ q2. In-left y (visits_of d v f k ++ visits_of_all d v f ts) (node_visits h.node (cases d v (repeat h k ts))) (In-right y (visits_of d v f k) (visits_of_all d v f ts) (nodes_seen ts q2))) (In-halves t (subterms k) (all_subterms ts) a)
    node_seen (sign h g u) (inl e) = In-right y (visits_of d v f u) _ (here (sign h g u) e)
    node_seen (sign h g u) (inr a) = In-left y (visits_of d v f u) (node_visits h.node (cases d v (sign h g u))) (node_seen u a)

    nodes_seen : (ts : Terms) → In t (all_subterms ts) → In y (visits_of_all d v f ts)
    nodes_seen no_terms a = absurd a
    nodes_seen (a_term u ts) a = ⊎_elim (λ p. In-left y (visits_of d v f u) (visits_of_all d v f ts) (node_seen u p)) (λ q. In-right y (visits_of d v f u) (visits_of_all d v f ts) (nodes_seen ts q)) (In-halves t (subterms u) (all_subterms ts) a)

  mutual
    pub index_seen : (x : Target) → In t (index_terms x) → In y (index_visits d v f x)
    index_seen (all_of s) a = absurd a
    index_seen (bits_of s low w) a = node_seen low a
    index_seen (word_of m i) a = node_seen i a
    index_seen (several ts) a = indexes_seen ts a

    indexes_seen : (ts : Targets) → In t (all_index_terms ts) → In y (indexes_visits d v f ts)
    indexes_seen no_targets a = absurd a
    indexes_seen (a_target x ts) a = ⊎_elim (λ p. In-left y (index_visits d v f x) (indexes_visits d v f ts) (index_seen x p)) (λ q. In-right y (index_visits d v f x) (indexes_visits d v f ts) (indexes_seen ts q)) (In-halves t (index_terms x) (all_index_terms ts) a)

action_node : (d : Design) (n : ℕ) (c : NodeCase) (t : Term) (x : Action) (r : Execution) → (head t).node ≡ Some n → In t (action_terms x) → In c (cases d r.values t) → In (at_node n c) (do_action d x r).visits
action_node d n c t (reaches m) r e a h = absurd a
action_node d n c t (tests u k) r e a h = In-right (at_node n c) r.visits (visits_of d r.values (is_inner d r) u) (node_seen d r.values (is_inner d r) n c t e h u a)
action_node d n c t (selects u) r e a h = In-right (at_node n c) r.visits (visits_of d r.values (is_inner d r) u) (node_seen d r.values (is_inner d r) n c t e h u a)
action_node d n c t (compares kind on u k) r e a h = In-right (at_node n c) r.visits (visits_of d r.values (is_inner d r) u) (node_seen d r.values (is_inner d r) n c t e h u a)
action_node d n c t (assigns k x u) r e a h = go k
  where
    seen : In (at_node n c) (assign_visits d x u r)
    seen =
        In-left (at_node n c) (index_visits d r.values (is_inner d r) x ++ visits_of d r.values (is_inner d r) u) (words_written d r.values x)
        (⊎_elim (λ p. In-left (at_node n c) (index_visits d r.values (is_inner d r) x) (visits_of d r.values (is_inner d r) u) (index_seen d r.values (is_inner d r) n c t e h x p)) (λ q. In-right (at_node n c) (index_visits d r.values (is_inner d r) x) (visits_of d r.values (is_inner d r) u) (node_seen d r.values (is_inner d r) n c t e h u q)) (In-halves t (index_terms x) (subterms u) a))

    go : (k : Bool) → In (at_node n c) (do_action d (assigns k x u) r).visits
    go true = In-right (at_node n c) r.visits (assign_visits d x u r) seen
    go false = In-right (at_node n c) r.visits (assign_visits d x u r) seen

module _ (d : Design) (K : PartialMap) (b : Stmt) (v : Values Bit) (av : Agrees d K v) (n : ℕ) (c : NodeCase) (t : Term) where
  path_node : (path : Path) (r : Execution) → IsUnchanged d K b v av r → AllActions (IsOfBody d K b v av) path → ((r2 : Execution) → IsUnchanged d K b v av r2 → In c (cases d r2.values t)) → (z : PlacedAction) → In z path → IsNode n z.action t → In (at_node n c) (do_path d path r).visits
  path_node [] r u s holds z h node = absurd h
  path_node (x ∷ xs) r u s holds z (inl e) node =
      let node' : IsNode n x.action t = subst (λ w. IsNode n w t) (sym (ap (λ w. w.action) e)) node in
      seen_stays d (at_node n c) xs (do_action d x.action r) (action_node d n c t x.action r node'.1 node'.0 (holds r u))
  path_node (x ∷ xs) r u s holds z (inr h) node = path_node xs (do_action d x.action r) (unchanged_after d K b v av x.action r s.0 u) s.1 holds z h node

  -- on the way each operand that is asked has the truth that it has on K
  asked_hold : (as' : List Asked) (r : Execution) → IsUnchanged d K b v av r → AreAsked d K b as' → AskedHold d r.values as'
  asked_hold [] r u h = tt
  asked_hold (a ∷ rest) r u h = (ap truth (fixed_value d K b v av a.operand r u h.0 v av) ∙ h.1 v av, asked_hold rest r u h.2)

-- a logic point that is surely open from K is visited on each state that agrees with K
pub logic_visited : (d : Design) (K : PartialMap) (b : Stmt) (v : Values Bit) (av : Agrees d K v) (p n : ℕ) (at : Place) (op : List ℕ) (c : NodeCase) (sure : IsSurelyOpen d K b (logic_point p n at op c)) → In (at_node n c) (execution d b v).visits
logic_visited d K b v av p n at op c sure =
    let a = the_path d K b v av in
    let here = sure.3.1 a.path (open_path d K b v av a) in
    subst (λ y. In (at_node n c) y.visits) (sym a.is) (path_node d K b v av n c sure.0 a.path (execution_start v) (λ x e. refl) a.actions (λ r2 u. case_holds d r2.values sure.0 c sure.1 (asked_hold d K b v av n c sure.0 (asks c sure.0) r2 u sure.2)) here.0 here.1 here.3)
