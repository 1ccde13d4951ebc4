-- What an execution reads the body mentions.
use Rattle.std.proofs.Common.{◌≡◌, ℕ, Bool, true, false, ◌||◌, ◌==◌, List, [], ◌∷◌, ◌++◌, refl, eq-eqb, Option, Some, None, if◌then◌else◌}
use Rattle.std.specs.Prelude.{⊤}
use Rattle.std.proofs.lemmas.Bool.{or_left, or_right}
use Rattle.event_machine.specs.Cell.{Values}
use Rattle.four_state.specs.Operators.{matches}
use Rattle.four_state.specs.Vector.{truth}
use Rattle.four_state.specs.declared.bit.Bit.{Bit}
use Rattle.four_state.specs.declared.operator.CaseKind.{CaseKind}
use Rattle.four_state.specs.declared.truth.Truth.{Truth}
use Rattle.four_state.specs.declared.truth.Truth.TheVariants.{False, Strange, True}
use Rattle.design_model.specs.Tree.{Arms, Stmt, Stmts, Target, Targets, Term, Terms, a_stmt, a_target, a_term, all_of, arm, binary, bit, bits_of, block, branch, choice, concat, empty, no_arms, no_stmts, no_targets, no_terms, number, part, repeat, select, set, several, sign, signal, slide, turns, unary, word, word_of}
use Rattle.design_model.specs.Design.{Design, Thing, owner}
use Rattle.design_model.specs.Value.{value, word_named}
use Rattle.design_model.specs.Mentions.{arms_mention, body_mentions, body_mentions_all, index_mentions, indexes_mention, mentions, mentions_any}
use Rattle.design_model.specs.Execution.{Execution, NodeCase, Visit, all_words_written, assignment_visits, at_line, choose, evaluate, execute, execute_all, execute_arms, execute_assignment, execute_default, index_visits, indexes_visits, is_default, is_inner, label_visits, node_visits, reads, some_match, visits_of, visits_of_all, with_visits, word_read, word_written, words_written}

-- Q of the signal or memory of each thing that is read
abbrev pub IsReadOf : (ℕ → Type 0) → Visit → Type 0
IsReadOf Q (reads x b) = Q (owner x)
IsReadOf Q _ = ⊤

abbrev pub AllReads : (ℕ → Type 0) → List Visit → Type 0
AllReads Q [] = ⊤
AllReads Q (x ∷ xs) = IsReadOf Q x × AllReads Q xs

module _ (Q : ℕ → Type 0) where
  reads_append : (xs ys : List Visit) → AllReads Q xs → AllReads Q ys → AllReads Q (xs ++ ys)
  reads_append [] ys a b = b
  reads_append (x ∷ xs) ys a b = (a.0, reads_append xs ys a.1 b)

  node_reads : (n : Option ℕ) (cs : List NodeCase) → AllReads Q (node_visits n cs)
  node_reads None cs = tt
  node_reads (Some n) [] = tt
  node_reads (Some n) (c ∷ cs) = (tt, node_reads (Some n) cs)

  word_reads : (f : Thing → Bool) (m : ℕ) (o : Option ℕ) → Q m → AllReads Q (word_read f m o)
  word_reads f m None q = tt
  word_reads f m (Some i) q = (q, tt)

  written_reads : (m : ℕ) (o : Option ℕ) → AllReads Q (word_written m o)
  written_reads m None = tt
  written_reads m (Some i) = (tt, tt)

  module _ (d : Design) (v : Values Bit) (f : Thing → Bool) where
    mutual
      pub term_reads : (t : Term) → ((y : ℕ) → mentions y t ≡ true → Q y) → AllReads Q (visits_of d v f t)
      term_reads (number h n) w = node_reads h.node _
      term_reads (signal h q) w = (w q (eq-eqb q q refl), node_reads h.node _)
      term_reads (word h m i) w = reads_append _ _ (reads_append _ _ (term_reads i (λ y e. w y (or_right (m == y) _ e))) (word_reads f m (word_named d v m i) (w m (or_left (m == m) _ (eq-eqb m m refl))))) (node_reads h.node _)
      term_reads (bit h t i) w = reads_append _ _ (reads_append _ _ (term_reads i (λ y e. w y (or_right (mentions y t) _ e))) (term_reads t (λ y e. w y (or_left (mentions y t) _ e)))) (node_reads h.node _)
      term_reads (part h t i j) w =
          reads_append _ _ (reads_append _ _ (reads_append _ _ (term_reads i (λ y e. w y (or_right (mentions y t) _ (or_left (mentions y i) _ e)))) (term_reads j (λ y e. w y (or_right (mentions y t) _ (or_right (mentions y i) _ e))))) (term_reads t (λ y e. w y (or_left (mentions y t) _ e)))) (node_reads h.node _)
      term_reads (slide h t b k up) w =
          reads_append _ _ (reads_append _ _ (reads_append _ _ (term_reads b (λ y e. w y (or_right (mentions y t) _ (or_left (mentions y b) _ e)))) (term_reads k (λ y e. w y (or_right (mentions y t) _ (or_right (mentions y b) _ e))))) (term_reads t (λ y e. w y (or_left (mentions y t) _ e)))) (node_reads h.node _)
      term_reads (unary h op t) w = reads_append _ _ (term_reads t w) (node_reads h.node _)
      term_reads (binary h op t x) w = reads_append _ _ (reads_append _ _ (term_reads t (λ y e. w y (or_left (mentions y t) _ e))) (term_reads x (λ y e. w y (or_right (mentions y t) _ e)))) (node_reads h.node _)
      term_reads (choice h x t z) w =
          reads_append _ _ (reads_append _ _ (reads_append _ _ (term_reads x (λ y e. w y (or_left (mentions y x) _ e))) (term_reads t (λ y e. w y (or_right (mentions y x) _ (or_left (mentions y t) _ e))))) (term_reads z (λ y e. w y (or_right (mentions y x) _ (or_right (mentions y t) _ e))))) (node_reads h.node _)
      term_reads (concat h ts) w = reads_append _ _ (terms_reads ts w) (node_reads h.node _)
      term_reads (repeat h n ts) w = reads_append _ _ (reads_append _ _ (term_reads n (λ y e. w y (or_left (mentions y n) _ e))) (terms_reads ts (λ y e. w y (or_right (mentions y n) _ e)))) (node_reads h.node _)
      term_reads (sign h g t) w = reads_append _ _ (term_reads t w) (node_reads h.node _)

      terms_reads : (ts : Terms) → ((y : ℕ) → mentions_any y ts ≡ true → Q y) → AllReads Q (visits_of_all d v f ts)
      terms_reads no_terms w = tt
      terms_reads (a_term t ts) w = reads_append _ _ (term_reads t (λ y e. w y (or_left (mentions y t) _ e))) (terms_reads ts (λ y e. w y (or_right (mentions y t) _ e)))

    mutual
      index_reads : (x : Target) → ((y : ℕ) → index_mentions y x ≡ true → Q y) → AllReads Q (index_visits d v f x)
      index_reads (all_of q) w = tt
      index_reads (bits_of q low k) w = term_reads low w
      index_reads (word_of m i) w = term_reads i w
      index_reads (several ts) w = indexes_reads ts w

      indexes_reads : (ts : Targets) → ((y : ℕ) → indexes_mention y ts ≡ true → Q y) → AllReads Q (indexes_visits d v f ts)
      indexes_reads no_targets w = tt
      indexes_reads (a_target t ts) w = reads_append _ _ (index_reads t (λ y e. w y (or_left (index_mentions y t) _ e))) (indexes_reads ts (λ y e. w y (or_right (index_mentions y t) _ e)))

    mutual
      words_reads : (x : Target) → AllReads Q (words_written d v x)
      words_reads (all_of q) = tt
      words_reads (bits_of q low k) = tt
      words_reads (word_of m i) = written_reads m (word_named d v m i)
      words_reads (several ts) = all_words_reads ts

      all_words_reads : (ts : Targets) → AllReads Q (all_words_written d v ts)
      all_words_reads no_targets = tt
      all_words_reads (a_target t ts) = reads_append _ _ (words_reads t) (all_words_reads ts)

  module _ (d : Design) where
    abbrev ReadsIn : Execution → Type 0
    ReadsIn r = AllReads Q r.visits

    set_reads : (n : ℕ) (b : Bool) (x : Target) (t : Term) (r : Execution) → ((y : ℕ) → (index_mentions y x || mentions y t) ≡ true → Q y) → ReadsIn r → ReadsIn (execute_assignment d n b x t r)
    set_reads n b x t r w a = go b
      where
        all : AllReads Q (r.visits ++ assignment_visits d n x t r)
        all =
            reads_append r.visits (assignment_visits d n x t r) a
            (reads_append ((at_line n ∷ index_visits d r.values (is_inner d r) x) ++ visits_of d r.values (is_inner d r) t) (words_written d r.values x) (reads_append (at_line n ∷ index_visits d r.values (is_inner d r) x) (visits_of d r.values (is_inner d r) t) (tt, index_reads d r.values (is_inner d r) x (λ y e. w y (or_left (index_mentions y x) (mentions y t) e))) (term_reads d r.values (is_inner d r) t (λ y e. w y (or_right (index_mentions y x) (mentions y t) e)))) (words_reads d r.values (is_inner d r) x))

        go : (b : Bool) → ReadsIn (execute_assignment d n b x t r)
        go true = all
        go false = all

    choose_reads : (x : Truth) (a b : Execution) → ReadsIn a → ReadsIn b → ReadsIn (choose x a b)
    choose_reads True a b f g = f
    choose_reads False a b f g = g
    choose_reads Strange a b f g = g

    if_reads : (x : Bool) (a b : Execution) → ReadsIn a → ReadsIn b → ReadsIn (if x then a else b)
    if_reads true a b f g = f
    if_reads false a b f g = g

    labels_reads : (kind : CaseKind) (on : List Bit) (r : Execution) (ts : Terms) → ((y : ℕ) → mentions_any y ts ≡ true → Q y) → AllReads Q (label_visits d kind on r ts)
    labels_reads kind on r no_terms w = tt
    labels_reads kind on r (a_term t ts) w = reads_append _ _ (term_reads d r.values (is_inner d r) t (λ y e. w y (or_left (mentions y t) _ e))) (go (matches kind on (value d r.values t)) (labels_reads kind on r ts (λ y e. w y (or_right (mentions y t) _ e))))
      where
        go : (b : Bool) → AllReads Q (label_visits d kind on r ts) → AllReads Q (if b then [] else label_visits d kind on r ts)
        go true h = tt
        go false h = h

    tested_reads : (n : ℕ) (t : Term) (r : Execution) → ((y : ℕ) → mentions y t ≡ true → Q y) → ReadsIn r → ReadsIn (evaluate d t (with_visits r (at_line n ∷ [])))
    tested_reads n t r w a = reads_append (r.visits ++ at_line n ∷ []) _ (reads_append r.visits (at_line n ∷ []) a (tt, tt)) (term_reads d r.values (is_inner d r) t w)

    mutual
      pub execute_reads : (b : Stmt) → ((y : ℕ) → body_mentions y b ≡ true → Q y) → (r : Execution) → ReadsIn r → ReadsIn (execute d b r)
      execute_reads (block p ss) w r a = all_reads ss w r a
      execute_reads (branch p n t b other) w r a =
          let tested : Execution = evaluate d t (with_visits r (at_line n ∷ [])) in
          let h : ReadsIn tested = tested_reads n t r (λ y e. w y (or_left (mentions y t) _ e)) a in
          choose_reads (truth (value d r.values t)) (execute d b tested) (execute_all d other tested) (execute_reads b (λ y e. w y (or_right (mentions y t) _ (or_left (body_mentions y b) _ e))) tested h) (all_reads other (λ y e. w y (or_right (mentions y t) _ (or_right (body_mentions y b) _ e))) tested h)
      execute_reads (select p n kind t arms) w r a =
          let tested : Execution = evaluate d t (with_visits r (at_line n ∷ [])) in
          let h : ReadsIn tested = tested_reads n t r (λ y e. w y (or_left (mentions y t) _ e)) a in
          let inside : (y : ℕ) → arms_mention y arms ≡ true → Q y = λ y e. w y (or_right (mentions y t) _ e) in
          arms_reads kind (value d r.values t) arms inside (execute_default d arms) (λ s k. default_reads arms inside s k) tested h
      execute_reads (turns p n ss) w r a = all_reads ss w (with_visits r (at_line n ∷ [])) (reads_append r.visits (at_line n ∷ []) a (tt, tt))
      execute_reads (set p n b x t) w r a = set_reads n b x t r w a
      execute_reads (empty p) w r a = a

      pub all_reads : (ss : Stmts) → ((y : ℕ) → body_mentions_all y ss ≡ true → Q y) → (r : Execution) → ReadsIn r → ReadsIn (execute_all d ss r)
      all_reads no_stmts w r a = a
      all_reads (a_stmt b ss) w r a = all_reads ss (λ y e. w y (or_right (body_mentions y b) _ e)) (execute d b r) (execute_reads b (λ y e. w y (or_left (body_mentions y b) _ e)) r a)

      pub arms_reads : (kind : CaseKind) (on : List Bit) (arms : Arms) → ((y : ℕ) → arms_mention y arms ≡ true → Q y) → (otherwise : Execution → Execution) → ((r : Execution) → ReadsIn r → ReadsIn (otherwise r)) → (r : Execution) → ReadsIn r → ReadsIn (execute_arms d kind on arms otherwise r)
      arms_reads kind on no_arms w otherwise o r a = o r a
      arms_reads kind on (arm labels b arms) w otherwise o r a =
          let seen : Execution = with_visits r (label_visits d kind on r labels) in
          let h : ReadsIn seen = reads_append r.visits _ a (labels_reads kind on r labels (λ y e. w y (or_left (mentions_any y labels) _ e))) in
          if_reads (some_match d kind on r.values labels) (execute d b seen) (execute_arms d kind on arms otherwise seen) (execute_reads b (λ y e. w y (or_right (mentions_any y labels) _ (or_left (body_mentions y b) _ e))) seen h) (arms_reads kind on arms (λ y e. w y (or_right (mentions_any y labels) _ (or_right (body_mentions y b) _ e))) otherwise o seen h)

      pub default_reads : (arms : Arms) → ((y : ℕ) → arms_mention y arms ≡ true → Q y) → (r : Execution) → ReadsIn r → ReadsIn (execute_default d arms r)
      default_reads no_arms w r a = a
      default_reads (arm labels b arms) w r a =
          if_reads (is_default labels) (execute d b r) (execute_default d arms r) (execute_reads b (λ y e. w y (or_right (mentions_any y labels) _ (or_left (body_mentions y b) _ e))) r a) (default_reads arms (λ y e. w y (or_right (mentions_any y labels) _ (or_right (body_mentions y b) _ e))) r a)
