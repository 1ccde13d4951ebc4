-- A point that an execution visits, on a state that agrees with a map, is open from the map.
use Rattle.std.specs.Prelude.{⊤}
use Rattle.std.proofs.Common.{◌≡◌, ◌⊎◌, inl, inr, ⊎_elim, ℕ, Bool, true, false, List, [], ◌∷◌, ◌++◌, map, refl, sym, ap, subst, ◌∙◌, Option, Some, None}
use Rattle.event_machine.specs.Cell.{Values}
use Rattle.four_state.specs.Parts.{index}
use Rattle.four_state.specs.Vector.{truth}
use Rattle.four_state.specs.declared.bit.Bit.{Bit}
use Rattle.four_state.specs.declared.operator.Binary.{Binary}
use Rattle.four_state.specs.declared.operator.Binary.TheVariants.{BitwiseAnd, BitwiseOr, LogicalAnd, LogicalOr}
use Rattle.four_state.specs.declared.truth.Truth.{Truth}
use Rattle.four_state.specs.declared.truth.Truth.TheVariants.{False, Strange, True}
use Rattle.design_model.specs.Tree.{Head, Stmt, Target, Targets, Term, Terms, a_target, a_term, all_of, binary, bit, bits_of, choice, concat, no_targets, no_terms, number, part, repeat, several, sign, signal, slide, unary, word, word_of}
use Rattle.design_model.specs.Design.{Design, In, Thing, a_signal, a_word, memory_at}
use Rattle.design_model.specs.Value.{head, named_word, value, word_named}
use Rattle.design_model.specs.Mentions.{all_index_terms, all_subterms, index_terms, subterms}
use Rattle.design_model.specs.Execution.{Execution, LeftFalse, LeftTrue, NodeCase, RightFalse, RightTrue, ValueFalse, ValueTrue, Visit, all_words_written, and_cases, at_line, at_node, cases, execution, execution_start, four_cases, if_false, if_true, index_visits, indexes_visits, is_inner, node_visits, or_cases, reads, two_cases, visits_of, visits_of_all, word_read, word_written, words_written, writes_word}
use Rattle.design_model.specs.Paths.{Action, Path, PlacedAction, assigns, compares, reaches, selects, tests}
use Rattle.design_model.specs.Reads.{Agrees, PartialMap}
use Rattle.design_model.specs.Points.{Point, arc_point, line_point, logic_point, state_point, toggle_point, word_point}
use Rattle.design_model.specs.Open.{ActionWrites, Asked, IsFixed, IsOpen, IsVisitOf, MayBeAsked, NamesWord, SomeTargetWord, TargetWord, action_terms, asks}
use Rattle.design_model.specs.VisitedOpen.{VisitedOpenLaw}
use Rattle.design_model.proofs.Along.{AllActions, assign_visits, do_action, do_path}
use Rattle.design_model.proofs.NodeCases.{AskedHold}
use Rattle.design_model.proofs.OpenNodes.{In-halves, In-left, In-right}
use Rattle.design_model.proofs.OpenPath.{IsOfBody, IsUnchanged, fixed_value, open_path, the_path, unchanged_after}

-- the term itself makes this visit
abbrev pub Made : Design → Values Bit → Visit → Term → Type 0
Made d v (at_line n) t = ⊥
Made d v (at_node n c) t = ((head t).node ≡ Some n) × In c (cases d v t)
Made d v (reads (a_signal s) inner) t = ⊤
Made d v (reads (a_word m k) inner) t = (h : Head) × (i : Term) × (t ≡ word h m i) × (word_named d v m i ≡ Some k)
Made d v (writes_word m k) t = ⊥

-- one of these terms makes it
abbrev pub Found : Design → Values Bit → Visit → List Term → Type 0
Found d v y ts = (t : Term) × In t ts × Made d v y t

either_in : {A : Type 0} (P : Type 0) (x : A) (xs ys : List A) → (In x xs → P) → (In x ys → P) → In x (xs ++ ys) → P
either_in P x xs ys f g h = ⊎_elim f g (In-halves x xs ys h)

module _ (d : Design) (v : Values Bit) (f : Thing → Bool) (y : Visit) where
  abbrev Has : List Term → Type 0
  Has ts = Found d v y ts

  left : (xs ys : List Term) → Has xs → Has (xs ++ ys)
  left xs ys h = (h.0, In-left h.0 xs ys h.1, h.2)

  right : (xs ys : List Term) → Has ys → Has (xs ++ ys)
  right xs ys h = (h.0, In-right h.0 xs ys h.1, h.2)

  later : (t : Term) (ts : List Term) → Has ts → Has (t ∷ ts)
  later t ts h = (h.0, inr h.1, h.2)

  map_made : (u : Term) (n : ℕ) → (head u).node ≡ Some n → (cs : List NodeCase) → ((c : NodeCase) → In c cs → In c (cases d v u)) → In y (map (at_node n) cs) → Made d v y u
  map_made u n e [] sub h = absurd h
  map_made u n e (c ∷ cs) sub (inl q) = subst (λ z. Made d v z u) q (e, sub c (inl refl))
  map_made u n e (c ∷ cs) sub (inr q) = map_made u n e cs (λ k i. sub k (inr i)) q

  node_made : (u : Term) (o : Option ℕ) → (head u).node ≡ o → In y (node_visits o (cases d v u)) → Made d v y u
  node_made u None e h = absurd h
  node_made u (Some n) e h = map_made u n e (cases d v u) (λ c i. i) h

  own : (u : Term) (ts : List Term) → In y (node_visits (head u).node (cases d v u)) → Has (u ∷ ts)
  own u ts h = (u, inl refl, node_made u (head u).node refl h)

  read_made : (h : Head) (m : ℕ) (i : Term) (o : Option ℕ) → word_named d v m i ≡ o → In y (word_read f m o) → Made d v y (word h m i)
  read_made h m i None e q = absurd q
  read_made h m i (Some k) e (inl q) = subst (λ z. Made d v z (word h m i)) q (h, i, refl, e)
  read_made h m i (Some k) e (inr q) = absurd q

  mutual
    found : (u : Term) → In y (visits_of d v f u) → Has (subterms u)
    found (number h k) q = own (number h k) [] q
    found (signal h s) (inl q) = (signal h s, inl refl, subst (λ z. Made d v z (signal h s)) q tt)
    found (signal h s) (inr q) = own (signal h s) [] q
    found (word h m i) q =
        either_in (Has (subterms (word h m i))) y (visits_of d v f i ++ word_read f m (word_named d v m i)) (node_visits h.node (cases d v (word h m i)))
        (λ a. either_in (Has (subterms (word h m i))) y (visits_of d v f i) (word_read f m (word_named d v m i)) (λ b. later (word h m i) (subterms i) (found i b)) (λ b. (word h m i, inl refl, read_made h m i (word_named d v m i) refl b)) a)
        (λ a. own (word h m i) (subterms i) a) q
    found (bit h u i) q =
        either_in (Has (subterms (bit h u i))) y (visits_of d v f i ++ visits_of d v f u) (node_visits h.node (cases d v (bit h u i)))
        (λ a. later (bit h u i) (subterms u ++ subterms i) (either_in (Has (subterms u ++ subterms i)) y (visits_of d v f i) (visits_of d v f u) (λ b. right (subterms u) (subterms i) (found i b)) (λ b. left (subterms u) (subterms i) (found u b)) a))
        (λ a. own (bit h u i) (subterms u ++ subterms i) a) q
    found (part h u i j) q =
        let all : List Term = subterms u ++ subterms i ++ subterms j in
        either_in (Has (subterms (part h u i j))) y (visits_of d v f i ++ visits_of d v f j ++ visits_of d v f u) (node_visits h.node (cases d v (part h u i j)))
        (λ a. later (part h u i j) all (either_in (Has all) y (visits_of d v f i ++ visits_of d v f j) (visits_of d v f u) (λ b. either_in (Has all) y (visits_of d v f i) (visits_of d v f j) (λ c. left (subterms u ++ subterms i) (subterms j) (right (subterms u) (subterms i) (found i c))) (λ c. right (subterms u ++ subterms i) (subterms j) (found j c)) b) (λ b. left (subterms u ++ subterms i) (subterms j) (left (subterms u) (subterms i) (found u b))) a))
        (λ a. own (part h u i j) all a) q
    found (slide h u b w up) q =
        let all : List Term = subterms u ++ subterms b ++ subterms w in
        either_in (Has (subterms (slide h u b w up))) y (visits_of d v f b ++ visits_of d v f w ++ visits_of d v f u) (node_visits h.node (cases d v (slide h u b w up)))
        (λ a. later (slide h u b w up) all (either_in (Has all) y (visits_of d v f b ++ visits_of d v f w) (visits_of d v f u) (λ z. either_in (Has all) y (visits_of d v f b) (visits_of d v f w) (λ c. left (subterms u ++ subterms b) (subterms w) (right (subterms u) (subterms b) (found b c))) (λ c. right (subterms u ++ subterms b) (subterms w) (found w c)) z) (λ z. left (subterms u ++ subterms b) (subterms w) (left (subterms u) (subterms b) (found u z))) a))
        (λ a. own (slide h u b w up) all a) q
    found (unary h op u) q =
        either_in (Has (subterms (unary h op u))) y (visits_of d v f u) (node_visits h.node (cases d v (unary h op u))) (λ a. later (unary h op u) (subterms u) (found u a)) (λ a. own (unary h op u) (subterms u) a) q
    found (binary h op u x) q =
        either_in (Has (subterms (binary h op u x))) y (visits_of d v f u ++ visits_of d v f x) (node_visits h.node (cases d v (binary h op u x)))
        (λ a. later (binary h op u x) (subterms u ++ subterms x) (either_in (Has (subterms u ++ subterms x)) y (visits_of d v f u) (visits_of d v f x) (λ b. left (subterms u) (subterms x) (found u b)) (λ b. right (subterms u) (subterms x) (found x b)) a))
        (λ a. own (binary h op u x) (subterms u ++ subterms x) a) q
    found (choice h z u x) q =
        let all : List Term = subterms z ++ subterms u ++ subterms x in
        either_in (Has (subterms (choice h z u x))) y (visits_of d v f z ++ visits_of d v f u ++ visits_of d v f x) (node_visits h.node (cases d v (choice h z u x)))
        (λ a. later (choice h z u x) all (either_in (Has all) y (visits_of d v f z ++ visits_of d v f u) (visits_of d v f x) (λ b. left (subterms z ++ subterms u) (subterms x) (either_in (Has (subterms z ++ subterms u)) y (visits_of d v f z) (visits_of d v f u) (λ c. left (subterms z) (subterms u) (found z c)) (λ c. right (subterms z) (subterms u) (found u c)) b)) (λ b. right (subterms z ++ subterms u) (subterms x) (found x b)) a))
        (λ a. own (choice h z u x) all a) q
    found (concat h ts) q =
        either_in (Has (subterms (concat h ts))) y (visits_of_all d v f ts) (node_visits h.node (cases d v (concat h ts))) (λ a. later (concat h ts) (all_subterms ts) (found_all ts a)) (λ a. own (concat h ts) (all_subterms ts) a) q
    found (repeat h k ts) q =
        either_in (Has (subterms (repeat h k ts))) y (visits_of d v f k ++ visits_of_all d v f ts) (node_visits h.node (cases d v (repeat h k ts)))
        (λ a. later (repeat h k ts) (subterms k ++ all_subterms ts) (either_in (Has (subterms k ++ all_subterms ts)) y (visits_of d v f k) (visits_of_all d v f ts) (λ b. left (subterms k) (all_subterms ts) (found k b)) (λ b. right (subterms k) (all_subterms ts) (found_all ts b)) a))
        (λ a. own (repeat h k ts) (subterms k ++ all_subterms ts) a) q
    found (sign h g u) q =
        either_in (Has (subterms (sign h g u))) y (visits_of d v f u) (node_visits h.node (cases d v (sign h g u))) (λ a. later (sign h g u) (subterms u) (found u a)) (λ a. own (sign h g u) (subterms u) a) q

    found_all : (ts : Terms) → In y (visits_of_all d v f ts) → Has (all_subterms ts)
    found_all no_terms q = absurd q
    found_all (a_term u ts) q =
        either_in (Has (subterms u ++ all_subterms ts)) y (visits_of d v f u) (visits_of_all d v f ts) (λ a. left (subterms u) (all_subterms ts) (found u a)) (λ a. right (subterms u) (all_subterms ts) (found_all ts a)) q

  mutual
    found_index : (x : Target) → In y (index_visits d v f x) → Has (index_terms x)
    found_index (all_of s) q = absurd q
    found_index (bits_of s low w) q = found low q
    found_index (word_of m i) q = found i q
    found_index (several ts) q = found_indexes ts q

    found_indexes : (ts : Targets) → In y (indexes_visits d v f ts) → Has (all_index_terms ts)
    found_indexes no_targets q = absurd q
    found_indexes (a_target x ts) q =
        either_in (Has (index_terms x ++ all_index_terms ts)) y (index_visits d v f x) (indexes_visits d v f ts) (λ a. left (index_terms x) (all_index_terms ts) (found_index x a)) (λ a. right (index_terms x) (all_index_terms ts) (found_indexes ts a)) q

-- the target writes this word
abbrev WordOf : Design → Values Bit → Visit → Target → Type 0
WordOf d v (writes_word m k) x = (i : Term) × TargetWord m x i × (word_named d v m i ≡ Some k)
WordOf d v _ x = ⊥

abbrev WordOfSome : Design → Values Bit → Visit → Targets → Type 0
WordOfSome d v (writes_word m k) ts = (i : Term) × SomeTargetWord m ts i × (word_named d v m i ≡ Some k)
WordOfSome d v _ ts = ⊥

one_of : (d : Design) (v : Values Bit) (y : Visit) (t : Target) (ts : Targets) → WordOf d v y t → WordOfSome d v y (a_target t ts)
one_of d v (writes_word m k) t ts h = (h.0, inl h.1, h.2)
one_of d v (at_line n) t ts h = h
one_of d v (at_node n c) t ts h = h
one_of d v (reads x inner) t ts h = h

others_of : (d : Design) (v : Values Bit) (y : Visit) (t : Target) (ts : Targets) → WordOfSome d v y ts → WordOfSome d v y (a_target t ts)
others_of d v (writes_word m k) t ts h = (h.0, inr h.1, h.2)
others_of d v (at_line n) t ts h = h
others_of d v (at_node n c) t ts h = h
others_of d v (reads x inner) t ts h = h

of_several : (d : Design) (v : Values Bit) (y : Visit) (ts : Targets) → WordOfSome d v y ts → WordOf d v y (several ts)
of_several d v (writes_word m k) ts h = h
of_several d v (at_line n) ts h = h
of_several d v (at_node n c) ts h = h
of_several d v (reads x inner) ts h = h

module _ (d : Design) (v : Values Bit) (y : Visit) where
  written_made : (m : ℕ) (i : Term) (o : Option ℕ) → word_named d v m i ≡ o → In y (word_written m o) → WordOf d v y (word_of m i)
  written_made m i None e q = absurd q
  written_made m i (Some k) e (inl q) = subst (λ z. WordOf d v z (word_of m i)) q (i, (refl, refl), e)
  written_made m i (Some k) e (inr q) = absurd q

  mutual
    words_made : (x : Target) → In y (words_written d v x) → WordOf d v y x
    words_made (all_of s) q = absurd q
    words_made (bits_of s low w) q = absurd q
    words_made (word_of m i) q = written_made m i (word_named d v m i) refl q
    words_made (several ts) q = of_several d v y ts (all_words_made ts q)

    all_words_made : (ts : Targets) → In y (all_words_written d v ts) → WordOfSome d v y ts
    all_words_made no_targets q = absurd q
    all_words_made (a_target t ts) q =
        either_in (WordOfSome d v y (a_target t ts)) y (words_written d v t) (all_words_written d v ts) (λ a. one_of d v y t ts (words_made t a)) (λ a. others_of d v y t ts (all_words_made ts a)) q

-- the action makes this visit
abbrev pub Seen : Design → Values Bit → Visit → Action → Type 0
Seen d v (at_line n) a = a ≡ reaches n
Seen d v (writes_word m k) a = (i : Term) × ActionWrites m a i × (word_named d v m i ≡ Some k)
Seen d v (at_node n c) a = Found d v (at_node n c) (action_terms a)
Seen d v (reads x inner) a = Found d v (reads x inner) (action_terms a)

seen_term : (d : Design) (v : Values Bit) (y : Visit) (a : Action) → Found d v y (action_terms a) → Seen d v y a
seen_term d v (at_line n) a h = absurd h.2
seen_term d v (at_node n c) a h = h
seen_term d v (reads x inner) a h = h
seen_term d v (writes_word m k) a h = absurd h.2

seen_word : (d : Design) (v : Values Bit) (y : Visit) (b : Bool) (x : Target) (t : Term) → WordOf d v y x → Seen d v y (assigns b x t)
seen_word d v (writes_word m k) b x t h = h
seen_word d v (at_line n) b x t h = absurd h
seen_word d v (at_node n c) b x t h = absurd h
seen_word d v (reads z inner) b x t h = absurd h

module _ (d : Design) (y : Visit) where
  pub action_seen : (a : Action) (r : Execution) → In y (do_action d a r).visits → In y r.visits ⊎ Seen d r.values y a
  action_seen (reaches n) r h =
      ⊎_elim inl (λ q. inr (⊎_elim (λ e. subst (λ z. Seen d r.values z (reaches n)) e refl) (λ e. absurd e) q)) (In-halves y r.visits (at_line n ∷ []) h)
  action_seen (tests t k) r h = ⊎_elim inl (λ q. inr (seen_term d r.values y (tests t k) (found d r.values (is_inner d r) y t q))) (In-halves y r.visits (visits_of d r.values (is_inner d r) t) h)
  action_seen (selects t) r h = ⊎_elim inl (λ q. inr (seen_term d r.values y (selects t) (found d r.values (is_inner d r) y t q))) (In-halves y r.visits (visits_of d r.values (is_inner d r) t) h)
  action_seen (compares kind on t k) r h = ⊎_elim inl (λ q. inr (seen_term d r.values y (compares kind on t k) (found d r.values (is_inner d r) y t q))) (In-halves y r.visits (visits_of d r.values (is_inner d r) t) h)
  action_seen (assigns b x t) r h = go b h
    where
      here : (b : Bool) → In y (r.visits ++ assign_visits d x t r) → In y r.visits ⊎ Seen d r.values y (assigns b x t)
      here b q =
          ⊎_elim inl
          (λ q2. inr (either_in (Seen d r.values y (assigns b x t)) y (index_visits d r.values (is_inner d r) x ++ visits_of d r.values (is_inner d r) t) (words_written d r.values x)
          (λ q3. seen_term d r.values y (assigns b x t) (either_in (Found d r.values y (index_terms x ++ subterms t)) y (index_visits d r.values (is_inner d r) x) (visits_of d r.values (is_inner d r) t) (λ q4. left d r.values (is_inner d r) y (index_terms x) (subterms t) (found_index d r.values (is_inner d r) y x q4)) (λ q4. right d r.values (is_inner d r) y (index_terms x) (subterms t) (found d r.values (is_inner d r) y t q4)) q3))
          (λ q3. seen_word d r.values y b x t (words_made d r.values y x q3)) q2))
          (In-halves y r.visits (assign_visits d x t r) q)

      go : (b : Bool) → In y (do_action d (assigns b x t) r).visits → In y r.visits ⊎ Seen d r.values y (assigns b x t)
      go true q = here true q
      go false q = here false q

-- a case that holds has the truths that it asks
module _ (d : Design) (u : Values Bit) where
  value_asked : (t : Term) (c : NodeCase) (x : Truth) → truth (value d u t) ≡ x → In c (if_false x ValueFalse ++ if_true x ValueTrue) → AskedHold d u (asks c t)
  value_asked t c True e (inl q) = subst (λ k. AskedHold d u (asks k t)) q (e, tt)
  value_asked t c True e (inr q) = absurd q
  value_asked t c False e (inl q) = subst (λ k. AskedHold d u (asks k t)) q (e, tt)
  value_asked t c False e (inr q) = absurd q
  value_asked t c Strange e q = absurd q

  module _ (h : Head) (op : Binary) (t x : Term) (c : NodeCase) where
    abbrev Holds : NodeCase → Type 0
    Holds k = AskedHold d u (asks k (binary h op t x))

    abbrev Left : Truth → Type 0
    Left a = truth (value d u t) ≡ a

    abbrev Right : Truth → Type 0
    Right a = truth (value d u x) ≡ a

    left_false : (a : Truth) → Left a → In c (if_false a LeftFalse) → Holds c
    left_false False e (inl q) = subst Holds q (e, tt)
    left_false False e (inr q) = absurd q
    left_false True e q = absurd q
    left_false Strange e q = absurd q

    right_false : (a : Truth) → Right a → In c (if_false a RightFalse) → Holds c
    right_false False e (inl q) = subst Holds q (e, tt)
    right_false False e (inr q) = absurd q
    right_false True e q = absurd q
    right_false Strange e q = absurd q

    left_true : (a : Truth) → Left a → In c (if_true a LeftTrue) → Holds c
    left_true True e (inl q) = subst Holds q (e, tt)
    left_true True e (inr q) = absurd q
    left_true False e q = absurd q
    left_true Strange e q = absurd q

    right_true : (a : Truth) → Right a → In c (if_true a RightTrue) → Holds c
    right_true True e (inl q) = subst Holds q (e, tt)
    right_true True e (inr q) = absurd q
    right_true False e q = absurd q
    right_true Strange e q = absurd q

    some_false : (a b : Truth) → Left a → Right b → In c (if_false a LeftFalse ++ if_false b RightFalse) → Holds c
    some_false a b e g q = either_in (Holds c) c (if_false a LeftFalse) (if_false b RightFalse) (left_false a e) (right_false b g) q

    some_true : (a b : Truth) → Left a → Right b → In c (if_true a LeftTrue ++ if_true b RightTrue) → Holds c
    some_true a b e g q = either_in (Holds c) c (if_true a LeftTrue) (if_true b RightTrue) (left_true a e) (right_true b g) q

    and_asked : (a b : Truth) → Left a → Right b → In c (and_cases a b) → Holds c
    and_asked True True e g (inl q) = subst Holds q (e, (g, tt))
    and_asked True True e g (inr q) = absurd q
    and_asked True False e g q = some_false True False e g q
    and_asked True Strange e g q = some_false True Strange e g q
    and_asked False b e g q = some_false False b e g q
    and_asked Strange b e g q = some_false Strange b e g q

    or_asked : (a b : Truth) → Left a → Right b → In c (or_cases a b) → Holds c
    or_asked False False e g (inl q) = subst Holds q (e, (g, tt))
    or_asked False False e g (inr q) = absurd q
    or_asked False True e g q = some_true False True e g q
    or_asked False Strange e g q = some_true False Strange e g q
    or_asked True b e g q = some_true True b e g q
    or_asked Strange b e g q = some_true Strange b e g q

    four_asked : (a b : Truth) → Left a → Right b → In c (four_cases a b) → Holds c
    four_asked False False e g (inl q) = subst Holds q (e, (g, tt))
    four_asked False False e g (inr q) = absurd q
    four_asked False True e g (inl q) = subst Holds q (e, (g, tt))
    four_asked False True e g (inr q) = absurd q
    four_asked True False e g (inl q) = subst Holds q (e, (g, tt))
    four_asked True False e g (inr q) = absurd q
    four_asked True True e g (inl q) = subst Holds q (e, (g, tt))
    four_asked True True e g (inr q) = absurd q
    four_asked False Strange e g q = absurd q
    four_asked True Strange e g q = absurd q
    four_asked Strange b e g q = absurd q

  two_asked : (h : Head) (op : Binary) (t x : Term) (c : NodeCase) → In c (two_cases op (truth (value d u t)) (truth (value d u x))) → AskedHold d u (asks c (binary h op t x))
  two_asked h BitwiseAnd t x c q = and_asked h BitwiseAnd t x c _ _ refl refl q
  two_asked h LogicalAnd t x c q = and_asked h LogicalAnd t x c _ _ refl refl q
  two_asked h BitwiseOr t x c q = or_asked h BitwiseOr t x c _ _ refl refl q
  two_asked h LogicalOr t x c q = or_asked h LogicalOr t x c _ _ refl refl q
  two_asked h op t x c q = four_asked h op t x c _ _ refl refl q

  case_asked : (t : Term) (c : NodeCase) → In c (cases d u t) → AskedHold d u (asks c t)
  case_asked (binary h op t x) c q = two_asked h op t x c q
  case_asked (number h n) c q = value_asked (number h n) c _ refl q
  case_asked (signal h s) c q = value_asked (signal h s) c _ refl q
  case_asked (word h m i) c q = value_asked (word h m i) c _ refl q
  case_asked (bit h t i) c q = value_asked (bit h t i) c _ refl q
  case_asked (part h t i j) c q = value_asked (part h t i j) c _ refl q
  case_asked (slide h t b w up) c q = value_asked (slide h t b w up) c _ refl q
  case_asked (unary h op t) c q = value_asked (unary h op t) c _ refl q
  case_asked (choice h x t y) c q = value_asked (choice h x t y) c _ refl q
  case_asked (concat h ts) c q = value_asked (concat h ts) c _ refl q
  case_asked (repeat h n ts) c q = value_asked (repeat h n ts) c _ refl q
  case_asked (sign h s t) c q = value_asked (sign h s t) c _ refl q

module _ (d : Design) (K : PartialMap) (b : Stmt) (v : Values Bit) (av : Agrees d K v) where
  -- an action of the path makes the visit, on a state in which fixed terms have their values
  record SeenOn (y : Visit) (path : Path) : Type 0 where
    step : PlacedAction
    is_in : In step path
    then : Execution
    unchanged : IsUnchanged d K b v av then
    seen : Seen d then.values y step.action

  path_seen : (y : Visit) (path : Path) (r : Execution) → IsUnchanged d K b v av r → AllActions (IsOfBody d K b v av) path → In y (do_path d path r).visits → In y r.visits ⊎ SeenOn y path
  path_seen y [] r u s h = inl h
  path_seen y (x ∷ xs) r u s h =
      ⊎_elim
      (λ before. ⊎_elim inl (λ seen. inr (record { step = x; is_in = inl refl; then = r; unchanged = u; seen = seen })) (action_seen d y x.action r before))
      (λ o. inr (record { step = o.step; is_in = inr o.is_in; then = o.then; unchanged = o.unchanged; seen = o.seen }))
      (path_seen y xs (do_action d x.action r) (unchanged_after d K b v av x.action r s.0 u) s.1 h)

  may_asked : (as' : List Asked) (r : Execution) → IsUnchanged d K b v av r → AskedHold d r.values as' → MayBeAsked d K b as'
  may_asked [] r u h = tt
  may_asked (a ∷ rest) r u h = ((λ fixed w aw. ap truth (sym (fixed_value d K b v av a.operand r u fixed w aw)) ∙ h.0), may_asked rest r u h.1)

  names : (m k : ℕ) (i : Term) (r : Execution) → IsUnchanged d K b v av r → word_named d r.values m i ≡ Some k → IsFixed d K b i → NamesWord d K m k i
  names m k i r u e fixed w aw = ap (λ z. named_word (memory_at d m) (index (head i).signed z)) (sym (fixed_value d K b v av i r u fixed w aw)) ∙ e

  visit_seen : (y : Visit) → In y (execution d b v).visits → SeenOn y (the_path d K b v av).path
  visit_seen y h =
      let a = the_path d K b v av in
      ⊎_elim (λ none. absurd none) (λ o. o) (path_seen y a.path (execution_start v) (λ c e. refl) a.actions (subst (λ z. In y z.visits) a.is h))

  pub visited_open : (x : Point) (y : Visit) → IsVisitOf x y → In y (execution d b v).visits → IsOpen d K b x
  visited_open (line_point p n at w) y is h =
      let a = the_path d K b v av in
      let o = visit_seen (at_line n) (subst (λ z. In z (execution d b v).visits) is h) in
      (a.path, open_path d K b v av a, (o.step.at, (o.step, o.is_in, refl, o.seen)))
  visited_open (logic_point p n at op c) y is h =
      let a = the_path d K b v av in
      let o = visit_seen (at_node n c) (subst (λ z. In z (execution d b v).visits) is h) in
      (a.path, open_path d K b v av a, (o.step.at, (o.step, o.is_in, refl, (o.seen.0, (o.seen.1, o.seen.2.0), may_asked (asks c o.seen.0) o.then o.unchanged (case_asked d o.then.values o.seen.0 c o.seen.2.1)))))
  visited_open (word_point m k true) y is h =
      let a = the_path d K b v av in
      let o = visit_seen (writes_word m k) (subst (λ z. In z (execution d b v).visits) is h) in
      (a.path, open_path d K b v av a, (o.step.at, (o.step, o.is_in, refl, (o.seen.0, o.seen.1, names m k o.seen.0 o.then o.unchanged o.seen.2))))
  visited_open (word_point m k false) y is h =
      let a = the_path d K b v av in
      let o = visit_seen (reads (a_word m k) is.0) (subst (λ z. In z (execution d b v).visits) is.1 h) in
      (a.path, open_path d K b v av a, (o.step.at, (o.step, o.is_in, refl, (o.seen.2.1, (o.seen.2.0, subst (λ z. In z (action_terms o.step.action)) o.seen.2.2 o.seen.1), names m k o.seen.2.1 o.then o.unchanged o.seen.2.3))))
  visited_open (toggle_point s i rise) y is h = absurd is
  visited_open (state_point i name s state bits) y is h = absurd is
  visited_open (arc_point i name s from to old new) y is h = absurd is

pub visited_open_law : (d : Design) (K : PartialMap) → VisitedOpenLaw d K
visited_open_law d K b v av x y is h = visited_open d K b v av x y is h
