-- What kinds of visits a term has: nodes and reads; so a word that is written is a target's, and an Assign has one line.
use Rattle.std.proofs.Common.{◌≡◌, inl, inr, ℕ, Bool, true, false, List, [], ◌∷◌, ◌++◌, Option, Some, None, refl, subst}
use Rattle.std.specs.Prelude.{⊤}
use Rattle.std.proofs.lemmas.Bool.{false≢true}
use Rattle.event_machine.specs.Cell.{Values}
use Rattle.four_state.specs.declared.bit.Bit.{Bit}
use Rattle.design_model.specs.Tree.{Target, Targets, Term, Terms, a_target, a_term, all_of, assign, binary, bit, bits_of, choice, clocked, comb, concat, no_targets, no_terms, number, part, repeat, several, sign, signal, slide, unary, word, word_of}
use Rattle.design_model.specs.Design.{Design, In, Thing, is_assign, process_at, body}
use Rattle.design_model.specs.Tree.{Process}
use Rattle.design_model.specs.Value.{word_named}
use Rattle.design_model.specs.Execution.{Execution, NodeCase, Visit, all_words_written, at_line, at_node, execution, execution_start, index_visits, indexes_visits, is_inner, node_visits, reads, visits_of, visits_of_all, word_read, word_written, words_written, writes_word}
use Rattle.design_model.specs.Paths.{Action, Path, assigns, compares, reaches, selects, tests}
use Rattle.design_model.specs.Open.{SomeTargetWord, TargetWord}
use Rattle.design_model.specs.BodyLaws.{AssignLineLaw}
use Rattle.design_model.proofs.Along.{ActionHas, AllActions, assign_visits, do_action, do_path}

-- P of each visit
abbrev pub AllVisits : (Visit → Type 0) → List Visit → Type 0
AllVisits P [] = ⊤
AllVisits P (x ∷ xs) = P x × AllVisits P xs

pub all_in : (P : Visit → Type 0) (x : Visit) (xs : List Visit) → AllVisits P xs → In x xs → P x
all_in P x [] a h = absurd h
all_in P x (y ∷ ys) a (inl e) = subst P e a.0
all_in P x (y ∷ ys) a (inr h) = all_in P x ys a.1 h

all_append : (P : Visit → Type 0) (xs ys : List Visit) → AllVisits P xs → AllVisits P ys → AllVisits P (xs ++ ys)
all_append P [] ys a b = b
all_append P (x ∷ xs) ys a b = (a.0, all_append P xs ys a.1 b)

module _ (P : Visit → Type 0) (at_each_node : (n : ℕ) (c : NodeCase) → P (at_node n c)) (at_each_read : (x : Thing) (b : Bool) → P (reads x b)) (d : Design) (v : Values Bit) (f : Thing → Bool) where
  node_all : (o : Option ℕ) (cs : List NodeCase) → AllVisits P (node_visits o cs)
  node_all None cs = tt
  node_all (Some n) [] = tt
  node_all (Some n) (c ∷ cs) = (at_each_node n c, node_all (Some n) cs)

  word_all : (m : ℕ) (o : Option ℕ) → AllVisits P (word_read f m o)
  word_all m None = tt
  word_all m (Some i) = (at_each_read _ _, tt)

  mutual
    pub term_all : (t : Term) → AllVisits P (visits_of d v f t)
    term_all (number h n) = node_all h.node _
    term_all (signal h s) = (at_each_read _ _, node_all h.node _)
    term_all (word h m i) = all_append P _ _ (all_append P _ _ (term_all i) (word_all m (word_named d v m i))) (node_all h.node _)
    term_all (bit h t i) = all_append P _ _ (all_append P _ _ (term_all i) (term_all t)) (node_all h.node _)
    term_all (part h t i j) = all_append P _ _ (all_append P _ _ (all_append P _ _ (term_all i) (term_all j)) (term_all t)) (node_all h.node _)
    term_all (slide h t b w up) = all_append P _ _ (all_append P _ _ (all_append P _ _ (term_all b) (term_all w)) (term_all t)) (node_all h.node _)
    term_all (unary h op t) = all_append P _ _ (term_all t) (node_all h.node _)
    term_all (binary h op t u) = all_append P _ _ (all_append P _ _ (term_all t) (term_all u)) (node_all h.node _)
    term_all (choice h c t u) = all_append P _ _ (all_append P _ _ (all_append P _ _ (term_all c) (term_all t)) (term_all u)) (node_all h.node _)
    term_all (concat h ts) = all_append P _ _ (terms_all ts) (node_all h.node _)
    term_all (repeat h n ts) = all_append P _ _ (all_append P _ _ (term_all n) (terms_all ts)) (node_all h.node _)
    term_all (sign h s t) = all_append P _ _ (term_all t) (node_all h.node _)

    terms_all : (ts : Terms) → AllVisits P (visits_of_all d v f ts)
    terms_all no_terms = tt
    terms_all (a_term t ts) = all_append P _ _ (term_all t) (terms_all ts)

  mutual
    pub index_all : (x : Target) → AllVisits P (index_visits d v f x)
    index_all (all_of s) = tt
    index_all (bits_of s low w) = term_all low
    index_all (word_of m i) = term_all i
    index_all (several ts) = indexes_all ts

    indexes_all : (ts : Targets) → AllVisits P (indexes_visits d v f ts)
    indexes_all no_targets = tt
    indexes_all (a_target t ts) = all_append P _ _ (index_all t) (indexes_all ts)

-- each word that is written is one that the target names
mutual
  words_all : (P : Visit → Type 0) (d : Design) (v : Values Bit) (x : Target) → ((m i : ℕ) (j : Term) → TargetWord m x j → P (writes_word m i)) → AllVisits P (words_written d v x)
  words_all P d v (all_of s) f = tt
  words_all P d v (bits_of s low w) f = tt
  words_all P d v (word_of m i) f = one (word_named d v m i)
    where
      one : (o : Option ℕ) → AllVisits P (word_written m o)
      one None = tt
      one (Some k) = (f m k i (refl, refl), tt)
  words_all P d v (several ts) f = all_words_all P d v ts f

  all_words_all : (P : Visit → Type 0) (d : Design) (v : Values Bit) (ts : Targets) → ((m i : ℕ) (j : Term) → SomeTargetWord m ts j → P (writes_word m i)) → AllVisits P (all_words_written d v ts)
  all_words_all P d v no_targets f = tt
  all_words_all P d v (a_target t ts) f = all_append P _ _ (words_all P d v t (λ m i j e. f m i j (inl e))) (all_words_all P d v ts (λ m i j e. f m i j (inr e)))

-- ---- words

-- G where the visit writes a word of memory m
abbrev pub WordGives : ℕ → Type 0 → Visit → Type 0
WordGives m G (writes_word n i) = n ≡ m → G
WordGives m G _ = ⊤

module _ (d : Design) (m : ℕ) (G : Type 0) where
  -- an assignment to a target that names a word of the memory gives G
  abbrev pub NamesGive : Bool → Target → Term → Type 0
  NamesGive b x t = (j : Term) → TargetWord m x j → G

  term_words : (v : Values Bit) (f : Thing → Bool) (t : Term) → AllVisits (WordGives m G) (visits_of d v f t)
  term_words v f t = term_all (WordGives m G) (λ n c. tt) (λ x b. tt) d v f t

  assign_words : (x : Target) (t : Term) (r : Execution) → NamesGive true x t → AllVisits (WordGives m G) (assign_visits d x t r)
  assign_words x t r give =
      all_append (WordGives m G) _ _
      (all_append (WordGives m G) _ _ (index_all (WordGives m G) (λ n c. tt) (λ x b. tt) d r.values (is_inner d r) x) (term_words r.values (is_inner d r) t))
      (words_all (WordGives m G) d r.values x (λ n i j e same. give j (subst (λ y. TargetWord y x j) same e)))

  action_words : (x : Action) (r : Execution) → ActionHas NamesGive x → AllVisits (WordGives m G) r.visits → AllVisits (WordGives m G) (do_action d x r).visits
  action_words (reaches n) r s a = all_append (WordGives m G) r.visits _ a (tt, tt)
  action_words (tests t k) r s a = all_append (WordGives m G) r.visits _ a (term_words r.values (is_inner d r) t)
  action_words (selects t) r s a = all_append (WordGives m G) r.visits _ a (term_words r.values (is_inner d r) t)
  action_words (compares kind on t k) r s a = all_append (WordGives m G) r.visits _ a (term_words r.values (is_inner d r) t)
  action_words (assigns true x t) r s a = all_append (WordGives m G) r.visits _ a (assign_words x t r s)
  action_words (assigns false x t) r s a = all_append (WordGives m G) r.visits _ a (assign_words x t r s)

  pub path_words : (path : Path) (r : Execution) → AllActions NamesGive path → AllVisits (WordGives m G) r.visits → AllVisits (WordGives m G) (do_path d path r).visits
  path_words [] r s a = a
  path_words (x ∷ xs) r s a = path_words xs (do_action d x.action r) s.1 (action_words x.action r s.0 a)

-- ---- the line of an Assign

abbrev IsLineZero : Visit → Type 0
IsLineZero (at_line n) = n ≡ 0
IsLineZero _ = ⊤

assign_lines : (d : Design) (q : Process) → is_assign q ≡ true → (v : Values Bit) → AllVisits IsLineZero (execution d (body q) v).visits
assign_lines d (assign i x t counted) a v =
    let inner = is_inner d (execution_start v) in
    let before : List Visit = at_line 0 ∷ index_visits d v inner x in
    all_append IsLineZero (before ++ visits_of d v inner t) (words_written d v x)
    (all_append IsLineZero before (visits_of d v inner t) (refl, index_all IsLineZero (λ n c. tt) (λ x b. tt) d v inner x) (term_all IsLineZero (λ n c. tt) (λ x b. tt) d v inner t))
    (words_all IsLineZero d v x (λ m k j e. tt))
assign_lines d (comb i wakes s) a v = absurd (false≢true a)
assign_lines d (clocked i events s) a v = absurd (false≢true a)

pub assign_line_law : (d : Design) → AssignLineLaw d
assign_line_law d p n v a h = all_in IsLineZero (at_line n) _ (assign_lines d (process_at d p) a v) h
