-- A memory point that is surely open from a map is visited on each state that agrees with it.
use Rattle.std.proofs.Common.{◌≡◌, inl, inr, ⊎_elim, ℕ, Bool, true, false, List, [], ◌∷◌, ◌++◌, refl, sym, ap, subst, ◌∙◌, Some}
use Rattle.event_machine.specs.Cell.{Values}
use Rattle.four_state.specs.Parts.{index}
use Rattle.four_state.specs.declared.bit.Bit.{Bit}
use Rattle.design_model.specs.Tree.{Head, Stmt, Target, Targets, Term, Terms, a_target, a_term, all_of, binary, bit, bits_of, choice, concat, no_targets, no_terms, number, part, repeat, several, sign, signal, slide, unary, word, word_of}
use Rattle.design_model.specs.Design.{Design, In, Thing, a_word, memory_at}
use Rattle.design_model.specs.Value.{head, named_word, word_named}
use Rattle.design_model.specs.Mentions.{all_index_terms, all_subterms, index_terms, subterms}
use Rattle.design_model.specs.Execution.{Execution, Visit, all_words_written, cases, execution, execution_start, index_visits, indexes_visits, is_inner, node_visits, reads, visits_of, visits_of_all, word_read, word_written, words_written, writes_word}
use Rattle.design_model.specs.Paths.{Action, Path, PlacedAction, assigns, compares, reaches, selects, tests}
use Rattle.design_model.specs.Reads.{Agrees, PartialMap}
use Rattle.design_model.specs.Points.{word_point}
use Rattle.design_model.specs.Open.{ActionOnWord, ActionReads, ActionWrites, IsSurelyOpen, SomeTargetWord, TargetWord}
use Rattle.design_model.proofs.Along.{AllActions, assign_visits, do_action, do_path}
use Rattle.design_model.proofs.OpenNodes.{In-halves, In-left, In-right}
use Rattle.design_model.proofs.OpenPath.{IsOfBody, IsUnchanged, fixed_value, open_path, seen_stays, the_path, unchanged_after}

module _ (d : Design) (v : Values Bit) (f : Thing → Bool) (m0 k0 : ℕ) (h0 : Head) (i0 : Term) (named : word_named d v m0 i0 ≡ Some k0) where
  abbrev y : Visit
  y = reads (a_word m0 k0) (f (a_word m0 k0))

  abbrev t : Term
  t = word h0 m0 i0

  -- the visits of a part are among those of the whole
  here : (u : Term) → u ≡ word h0 m0 i0 → In y (visits_of d v f u)
  here u e =
      subst (λ z. In y (visits_of d v f z)) (sym e)
      (In-left y (visits_of d v f i0 ++ word_read f m0 (word_named d v m0 i0)) (node_visits h0.node (cases d v (word h0 m0 i0)))
      (In-right y (visits_of d v f i0) (word_read f m0 (word_named d v m0 i0)) (subst (λ o. In y (word_read f m0 o)) (sym named) (inl refl))))

  mutual
    pub word_seen : (u : Term) → In t (subterms u) → In y (visits_of d v f u)
    word_seen (number h k) (inl e) = here (number h k) e
    word_seen (number h k) (inr a) = absurd a
    word_seen (signal h s) (inl e) = here (signal h s) e
    word_seen (signal h s) (inr a) = absurd a
    word_seen (word h m i) (inl e) = here (word h m i) e
    word_seen (word h m i) (inr a) = In-left y (visits_of d v f i ++ word_read f m (word_named d v m i)) (node_visits h.node (cases d v (word h m i))) (In-left y (visits_of d v f i) (word_read f m (word_named d v m i)) (word_seen i a))
    word_seen (bit h u i) (inl e) = here (bit h u i) e
    word_seen (bit h u i) (inr a) = ⊎_elim (λ p2. In-left y (visits_of d v f i ++ visits_of d v f u) (node_visits h.node (cases d v (bit h u i))) (In-right y (visits_of d v f i) (visits_of d v f u) (word_seen u p2))) (λ q2. In-left y (visits_of d v f i ++ visits_of d v f u) (node_visits h.node (cases d v (bit h u i))) (In-left y (visits_of d v f i) (visits_of d v f u) (word_seen i q2))) (In-halves t (subterms u) (subterms i) a)
    word_seen (part h u i j) (inl e) = here (part h u i j) e
    word_seen (part h u i j) (inr a) = ⊎_elim (λ p3. ⊎_elim (λ p2. In-left y (visits_of d v f i ++ visits_of d v f j ++ visits_of d v f u) (node_visits h.node (cases d v (part h u i j))) (In-right y (visits_of d v f i ++ visits_of d v f j) (visits_of d v f u) (word_seen u p2))) (λ q2. In-left y (visits_of d v f i ++ visits_of d v f j ++ visits_of d v f u) (node_visits h.node (cases d v (part h u i j))) (In-left y (visits_of d v f i ++ visits_of d v f j) (visits_of d v f u) (In-left y (visits_of d v f i) (visits_of d v f j) (word_seen i q2)))) (In-halves t (subterms u) (subterms i) p3)) (λ q3. In-left y (visits_of d v f i ++ visits_of d v f j ++ visits_of d v f u) (node_visits h.node (cases d v (part h u i j))) (In-left y (visits_of d v f i ++ visits_of d v f j) (visits_of d v f u) (In-right y (visits_of d v f i) (visits_of d v f j) (word_seen j q3)))) (In-halves t (subterms u ++ subterms i) (subterms j) a)
    word_seen (slide h u b w up) (inl e) = here (slide h u b w up) e
    word_seen (slide h u b w up) (inr a) = ⊎_elim (λ p3. ⊎_elim (λ p2. In-left y (visits_of d v f b ++ visits_of d v f w ++ visits_of d v f u) (node_visits h.node (cases d v (slide h u b w up))) (In-right y (visits_of d v f b ++ visits_of d v f w) (visits_of d v f u) (word_seen u p2))) (λ q2. In-left y (visits_of d v f b ++ visits_of d v f w ++ visits_of d v f u) (node_visits h.node (cases d v (slide h u b w up))) (In-left y (visits_of d v f b ++ visits_of d v f w) (visits_of d v f u) (In-left y (visits_of d v f b) (visits_of d v f w) (word_seen b q2)))) (In-halves t (subterms u) (subterms b) p3)) (λ q3. In-left y (visits_of d v f b ++ visits_of d v f w ++ visits_of d v f u) (node_visits h.node (cases d v (slide h u b w up))) (In-left y (visits_of d v f b ++ visits_of d v f w) (visits_of d v f u) (In-right y (visits_of d v f b) (visits_of d v f w) (word_seen w q3)))) (In-halves t (subterms u ++ subterms b) (subterms w) a)
    word_seen (unary h op u) (inl e) = here (unary h op u) e
    word_seen (unary h op u) (inr a) = In-left y (visits_of d v f u) (node_visits h.node (cases d v (unary h op u))) (word_seen u a)
    word_seen (binary h op u x) (inl e) = here (binary h op u x) e
    word_seen (binary h op u x) (inr a) = ⊎_elim (λ p2. In-left y (visits_of d v f u ++ visits_of d v f x) (node_visits h.node (cases d v (binary h op u x))) (In-left y (visits_of d v f u) (visits_of d v f x) (word_seen u p2))) (λ q2. In-left y (visits_of d v f u ++ visits_of d v f x) (node_visits h.node (cases d v (binary h op u x))) (In-right y (visits_of d v f u) (visits_of d v f x) (word_seen x q2))) (In-halves t (subterms u) (subterms x) a)
    word_seen (choice h z u x) (inl e) = here (choice h z u x) e
    word_seen (choice h z u x) (inr a) = ⊎_elim (λ p3. ⊎_elim (λ p2. In-left y (visits_of d v f z ++ visits_of d v f u ++ visits_of d v f x) (node_visits h.node (cases d v (choice h z u x))) (In-left y (visits_of d v f z ++ visits_of d v f u) (visits_of d v f x) (In-left y (visits_of d v f z) (visits_of d v f u) (word_seen z p2)))) (λ q2. In-left y (visits_of d v f z ++ visits_of d v f u ++ visits_of d v f x) (node_visits h.node (cases d v (choice h z u x))) (In-left y (visits_of d v f z ++ visits_of d v f u) (visits_of d v f x) (In-right y (visits_of d v f z) (visits_of d v f u) (word_seen u q2)))) (In-halves t (subterms z) (subterms u) p3)) (λ q3. In-left y (visits_of d v f z ++ visits_of d v f u ++ visits_of d v f x) (node_visits h.node (cases d v (choice h z u x))) (In-right y (visits_of d v f z ++ visits_of d v f u) (visits_of d v f x) (word_seen x q3))) (In-halves t (subterms z ++ subterms u) (subterms x) a)
    word_seen (concat h ts) (inl e) = here (concat h ts) e
    word_seen (concat h ts) (inr a) = In-left y (visits_of_all d v f ts) (node_visits h.node (cases d v (concat h ts))) (words_seen ts a)
    word_seen (repeat h k ts) (inl e) = here (repeat h k ts) e
    word_seen (repeat h k ts) (inr a) = ⊎_elim (λ p2. In-left y (visits_of d v f k ++ visits_of_all d v f ts) (node_visits h.node (cases d v (repeat h k ts))) (In-left y (visits_of d v f k) (visits_of_all d v f ts) (word_seen k p2))) (λ q2. In-left y (visits_of d v f k ++ visits_of_all d v f ts) (node_visits h.node (cases d v (repeat h k ts))) (In-right y (visits_of d v f k) (visits_of_all d v f ts) (words_seen ts q2))) (In-halves t (subterms k) (all_subterms ts) a)
    word_seen (sign h g u) (inl e) = here (sign h g u) e
    word_seen (sign h g u) (inr a) = In-left y (visits_of d v f u) (node_visits h.node (cases d v (sign h g u))) (word_seen u a)

    words_seen : (ts : Terms) → In t (all_subterms ts) → In y (visits_of_all d v f ts)
    words_seen no_terms a = absurd a
    words_seen (a_term u ts) a = ⊎_elim (λ p. In-left y (visits_of d v f u) (visits_of_all d v f ts) (word_seen u p)) (λ q. In-right y (visits_of d v f u) (visits_of_all d v f ts) (words_seen ts q)) (In-halves t (subterms u) (all_subterms ts) a)

  mutual
    pub index_word : (x : Target) → In t (index_terms x) → In y (index_visits d v f x)
    index_word (all_of s) a = absurd a
    index_word (bits_of s low w) a = word_seen low a
    index_word (word_of m i) a = word_seen i a
    index_word (several ts) a = indexes_word ts a

    indexes_word : (ts : Targets) → In t (all_index_terms ts) → In y (indexes_visits d v f ts)
    indexes_word no_targets a = absurd a
    indexes_word (a_target x ts) a = ⊎_elim (λ p. In-left y (index_visits d v f x) (indexes_visits d v f ts) (index_word x p)) (λ q. In-right y (index_visits d v f x) (indexes_visits d v f ts) (indexes_word ts q)) (In-halves t (index_terms x) (all_index_terms ts) a)

module _ (d : Design) (v : Values Bit) (m0 k0 : ℕ) (i0 : Term) (named : word_named d v m0 i0 ≡ Some k0) where
  mutual
    target_seen : (x : Target) → TargetWord m0 x i0 → In (writes_word m0 k0) (words_written d v x)
    target_seen (all_of s) a = absurd a
    target_seen (bits_of s low w) a = absurd a
    target_seen (word_of m i) a = subst (λ q. In (writes_word m0 k0) (words_written d v (word_of q i))) (sym a.0) (subst (λ j. In (writes_word m0 k0) (words_written d v (word_of m0 j))) (sym a.1) (subst (λ o. In (writes_word m0 k0) (word_written m0 o)) (sym named) (inl refl)))
    target_seen (several ts) a = targets_seen ts a

    targets_seen : (ts : Targets) → SomeTargetWord m0 ts i0 → In (writes_word m0 k0) (all_words_written d v ts)
    targets_seen no_targets a = absurd a
    targets_seen (a_target x ts) a = ⊎_elim (λ p. In-left (writes_word m0 k0) (words_written d v x) (all_words_written d v ts) (target_seen x p)) (λ q. In-right (writes_word m0 k0) (words_written d v x) (all_words_written d v ts) (targets_seen ts q)) a

-- some visit of the list is of the memory point
abbrev pub SeesWord : ℕ → ℕ → Bool → List Visit → Type 0
SeesWord m k true vs = In (writes_word m k) vs
SeesWord m k false vs = (inner : Bool) × In (reads (a_word m k) inner) vs

reads_action : (d : Design) (m k : ℕ) (i : Term) (x : Action) (r : Execution) → word_named d r.values m i ≡ Some k → ActionReads m x i → In (reads (a_word m k) (is_inner d r (a_word m k))) (do_action d x r).visits
reads_action d m k i (reaches n) r e a = absurd a.1
reads_action d m k i (tests u b) r e a = In-right _ r.visits (visits_of d r.values (is_inner d r) u) (word_seen d r.values (is_inner d r) m k a.0 i e u a.1)
reads_action d m k i (selects u) r e a = In-right _ r.visits (visits_of d r.values (is_inner d r) u) (word_seen d r.values (is_inner d r) m k a.0 i e u a.1)
reads_action d m k i (compares kind on u b) r e a = In-right _ r.visits (visits_of d r.values (is_inner d r) u) (word_seen d r.values (is_inner d r) m k a.0 i e u a.1)
reads_action d m k i (assigns b x u) r e a = go b
  where
    y : Visit
    y = reads (a_word m k) (is_inner d r (a_word m k))

    seen : In (reads (a_word m k) (is_inner d r (a_word m k))) (assign_visits d x u r)
    seen =
        In-left (reads (a_word m k) (is_inner d r (a_word m k))) (index_visits d r.values (is_inner d r) x ++ visits_of d r.values (is_inner d r) u) (words_written d r.values x)
        (⊎_elim (λ p. In-left (reads (a_word m k) (is_inner d r (a_word m k))) (index_visits d r.values (is_inner d r) x) (visits_of d r.values (is_inner d r) u) (index_word d r.values (is_inner d r) m k a.0 i e x p)) (λ q. In-right (reads (a_word m k) (is_inner d r (a_word m k))) (index_visits d r.values (is_inner d r) x) (visits_of d r.values (is_inner d r) u) (word_seen d r.values (is_inner d r) m k a.0 i e u q)) (In-halves (word a.0 m i) (index_terms x) (subterms u) a.1))

    go : (b : Bool) → In (reads (a_word m k) (is_inner d r (a_word m k))) (do_action d (assigns b x u) r).visits
    go true = In-right _ r.visits (assign_visits d x u r) seen
    go false = In-right _ r.visits (assign_visits d x u r) seen

writes_action : (d : Design) (m k : ℕ) (i : Term) (x : Action) (r : Execution) → word_named d r.values m i ≡ Some k → ActionWrites m x i → In (writes_word m k) (do_action d x r).visits
writes_action d m k i (reaches n) r e a = absurd a
writes_action d m k i (tests u b) r e a = absurd a
writes_action d m k i (selects u) r e a = absurd a
writes_action d m k i (compares kind on u b) r e a = absurd a
writes_action d m k i (assigns b x u) r e a = go b
  where
    seen : In (writes_word m k) (assign_visits d x u r)
    seen = In-right (writes_word m k) (index_visits d r.values (is_inner d r) x ++ visits_of d r.values (is_inner d r) u) (words_written d r.values x) (target_seen d r.values m k i e x a)

    go : (b : Bool) → In (writes_word m k) (do_action d (assigns b x u) r).visits
    go true = In-right _ r.visits (assign_visits d x u r) seen
    go false = In-right _ r.visits (assign_visits d x u r) seen

word_deed : (d : Design) (m k : ℕ) (w : Bool) (i : Term) (x : Action) (r : Execution) → word_named d r.values m i ≡ Some k → ActionOnWord w m x i → SeesWord m k w (do_action d x r).visits
word_deed d m k true i x r e a = writes_action d m k i x r e a
word_deed d m k false i x r e a = (is_inner d r (a_word m k), reads_action d m k i x r e a)

sees_stays : (d : Design) (m k : ℕ) (w : Bool) (path : Path) (r : Execution) → SeesWord m k w r.visits → SeesWord m k w (do_path d path r).visits
sees_stays d m k true path r h = seen_stays d (writes_word m k) path r h
sees_stays d m k false path r h = (h.0, seen_stays d (reads (a_word m k) h.0) path r h.1)

module _ (d : Design) (K : PartialMap) (b : Stmt) (v : Values Bit) (av : Agrees d K v) (m k : ℕ) (w : Bool) (i : Term) where
  path_word : (path : Path) (r : Execution) → IsUnchanged d K b v av r → AllActions (IsOfBody d K b v av) path → ((r2 : Execution) → IsUnchanged d K b v av r2 → word_named d r2.values m i ≡ Some k) → (z : PlacedAction) → In z path → ActionOnWord w m z.action i → SeesWord m k w (do_path d path r).visits
  path_word [] r u s named z h a = absurd h
  path_word (x ∷ xs) r u s named z (inl e) a = sees_stays d m k w xs (do_action d x.action r) (word_deed d m k w i x.action r (named r u) (subst (λ y. ActionOnWord w m y i) (sym (ap (λ y. y.action) e)) a))
  path_word (x ∷ xs) r u s named z (inr h) a = path_word xs (do_action d x.action r) (unchanged_after d K b v av x.action r s.0 u) s.1 named z h a

-- a memory point that is surely open from K is visited on each state that agrees with K
pub word_visited : (d : Design) (K : PartialMap) (b : Stmt) (v : Values Bit) → Agrees d K v → (m k : ℕ) (w : Bool) → IsSurelyOpen d K b (word_point m k w) → SeesWord m k w (execution d b v).visits
word_visited d K b v av m k w sure =
    let a = the_path d K b v av in
    let here = sure.3.1 a.path (open_path d K b v av a) in
    let named : (r2 : Execution) → IsUnchanged d K b v av r2 → word_named d r2.values m sure.0 ≡ Some k = λ r2 u. ap (λ y. named_word (memory_at d m) (index (head sure.0).signed y)) (fixed_value d K b v av sure.0 r2 u sure.1 v av) ∙ sure.2 v av in
    subst (λ y. SeesWord m k w y.visits) (sym a.is) (path_word d K b v av m k w sure.0 a.path (execution_start v) (λ x e. refl) a.actions named here.0 here.1 here.3)
