-- The same for whole bodies, and what it means for a body that reads within a map.
use Rattle.std.proofs.Common.{◌≡◌, ⊎_elim, ℕ, Bool, true, false, ◌||◌, List, [], ◌∷◌, ◌++◌, map, refl, sym, ap, ap₂, subst, ◌∙◌, if◌then◌else◌}
use Rattle.std.proofs.lemmas.Bool.{and_parts, or_cases, false≢true, true≢false}
use Rattle.std.specs.List.{list_any}
use Rattle.event_machine.specs.Cell.{Cell, Values, Write, put, put_all, same_cell}
use Rattle.four_state.specs.Operators.{matches}
use Rattle.four_state.specs.Vector.{extend, truth}
use Rattle.four_state.specs.declared.bit.Bit.{Bit}
use Rattle.four_state.specs.declared.operator.CaseKind.{CaseKind}
use Rattle.four_state.specs.declared.truth.Truth.{Truth}
use Rattle.four_state.specs.declared.truth.Truth.TheVariants.{False, Strange, True}
use Rattle.design_model.specs.Tree.{Arms, Stmt, Stmts, Target, Term, Terms, a_stmt, a_term, arm, block, branch, empty, no_arms, no_stmts, no_terms, select, set, turns}
use Rattle.design_model.specs.Design.{Design, Thing, cells, thing_bits}
use Rattle.design_model.specs.Value.{head, value}
use Rattle.design_model.specs.Assignment.{target_width, target_writes}
use Rattle.design_model.specs.Execution.{Execution, Visit, assignment_visits, assignment_writes, at_line, at_node, choose, covers, evaluate, execute, execute_all, execute_arms, execute_assignment, execute_default, execution, execution_start, index_visits, is_default, is_inner, label_visits, reads, some_match, visits_of, with_visits, words_written, writes_word}
use Rattle.design_model.specs.Reads.{Agrees, AllInside, ReadsWithin, PartialMap}
use Rattle.design_model.proofs.Agree.{AllOuter, index_same, outer_halves, value_same, visits_same, words_same, writes_same}
use Rattle.design_model.proofs.Execution.{all_keeps, arms_keep, default_keeps, each_all, each_all_in, each_all_of, execute_keeps}

-- what agrees on a cell agrees on it after the same writes
pub put_same : (u v : Values Bit) (ws : List (Write Bit)) (c : Cell) → u c ≡ v c → put_all u ws c ≡ put_all v ws c
unfolding put
put_same u v [] c e = e
put_same u v (w ∷ ws) c e = put_same (put u w) (put v w) ws c (one (same_cell w.cell c) refl)
  where
    one : (b : Bool) → same_cell w.cell c ≡ b → put u w c ≡ put v w c
    one true h = rw h refl
    one false h = rw h e

-- after writes that write the cell all states agree on it
pub put_covered : (u v : Values Bit) (ws : List (Write Bit)) (c : Cell) → list_any (λ w. same_cell w.cell c) ws ≡ true → put_all u ws c ≡ put_all v ws c
unfolding put
put_covered u v [] c h = absurd (false≢true h)
put_covered u v (w ∷ ws) c h = ⊎_elim here (put_covered (put u w) (put v w) ws c) (or_cases (same_cell w.cell c) _ h)
  where
    both : same_cell w.cell c ≡ true → put u w c ≡ put v w c
    both e = rw e refl

    here : same_cell w.cell c ≡ true → put_all (put u w) ws c ≡ put_all (put v w) ws c
    here e = put_same (put u w) (put v w) ws c (both e)

abbrev head_or : Bit → List Bit → Bit
head_or z [] = z
head_or z (y ∷ ys) = y

abbrev tail_of : List Bit → List Bit
tail_of [] = []
tail_of (y ∷ ys) = ys

module _ (d : Design) (u v : Values Bit) where
  -- two executions on u and v, so far the same
  pub record SameExecution (r s : Execution) : Type 0 where
    pub blocking : r.blocking ≡ s.blocking
    pub nonblocking : r.nonblocking ≡ s.nonblocking
    pub visits : r.visits ≡ s.visits
    pub left : (c : Cell) → r.values c ≡ put_all u r.blocking c
    pub right : (c : Cell) → s.values c ≡ put_all v s.blocking c

  pub cells_covered : (ws : List (Write Bit)) (x y : Values Bit) (cs : List Cell) → ((c : Cell) → x c ≡ put_all u ws c) → ((c : Cell) → y c ≡ put_all v ws c) → covers ws cs ≡ true → map x cs ≡ map y cs
  cells_covered ws x y [] l r h = refl
  cells_covered ws x y (c ∷ cs) l r h =
      let p = and_parts (list_any (λ w. same_cell w.cell c) ws) _ h in
      ap₂ (λ b bs. b ∷ bs) (l c ∙ put_covered u v ws c p.0 ∙ sym (r c)) (cells_covered ws x y cs l r p.1)

  cells_same : (ws : List (Write Bit)) (x y : Values Bit) (cs : List Cell) → ((c : Cell) → x c ≡ put_all u ws c) → ((c : Cell) → y c ≡ put_all v ws c) → map u cs ≡ map v cs → map x cs ≡ map y cs
  cells_same ws x y [] l r e = refl
  cells_same ws x y (c ∷ cs) l r e =
      ap₂ (λ b bs. b ∷ bs) (l c ∙ put_same u v ws c (ap (head_or (u c)) e) ∙ sym (r c)) (cells_same ws x y cs l r (ap tail_of e))

  module _ (r s : Execution) (same : SameExecution r s) where
    abbrev pub right_now : (c : Cell) → s.values c ≡ put_all v r.blocking c
    right_now c = subst (λ ws. s.values c ≡ put_all v ws c) (sym same.blocking) (same.right c)

    pub inner_same : (x : Thing) → is_inner d r x ≡ true → thing_bits d r.values x ≡ thing_bits d s.values x
    inner_same x h = cells_covered r.blocking r.values s.values (cells d x) same.left right_now h

    pub outer_now : (xs : List Visit) → AllOuter d u v xs → AllOuter d r.values s.values xs
    outer_now [] a = tt
    outer_now (at_line n ∷ xs) a = (tt, outer_now xs a.1)
    outer_now (at_node n c ∷ xs) a = (tt, outer_now xs a.1)
    outer_now (reads x true ∷ xs) a = (tt, outer_now xs a.1)
    outer_now (reads x false ∷ xs) a = (cells_same r.blocking r.values s.values (cells d x) same.left right_now a.0, outer_now xs a.1)
    outer_now (writes_word m i ∷ xs) a = (tt, outer_now xs a.1)

    pub is_inner_same : is_inner d r ≡ is_inner d s
    is_inner_same = ap (λ ws x. covers ws (cells d x)) same.blocking

    pub value_now : (t : Term) → AllOuter d u v (visits_of d r.values (is_inner d r) t) → value d r.values t ≡ value d s.values t
    value_now t a = value_same d r.values s.values (is_inner d r) inner_same t (outer_now _ a)

    pub visits_now : (t : Term) → AllOuter d u v (visits_of d r.values (is_inner d r) t) → visits_of d r.values (is_inner d r) t ≡ visits_of d s.values (is_inner d s) t
    visits_now t a = visits_same d r.values s.values (is_inner d r) inner_same t (outer_now _ a) ∙ ap (λ f. visits_of d s.values f t) is_inner_same

    pub visit_same : (xs ys : List Visit) → xs ≡ ys → SameExecution (with_visits r xs) (with_visits s ys)
    visit_same xs ys e =
        record { blocking = same.blocking; nonblocking = same.nonblocking; visits = ap₂ (λ a b. a ++ b) same.visits e; left = same.left; right = same.right }

pub put_append : (u : Values Bit) (xs ys : List (Write Bit)) → put_all u (xs ++ ys) ≡ put_all (put_all u xs) ys
put_append u [] ys = refl
put_append u (x ∷ xs) ys = put_append (put u x) xs ys

module _ (d : Design) (u v : Values Bit) where
  abbrev Stays : Execution → Type 0
  Stays r = AllOuter d u v r.visits

  -- after an assignment
  pub set_same : (n : ℕ) (b : Bool) (x : Target) (t : Term) (r s : Execution) → SameExecution d u v r s → Stays (execute_assignment d n b x t r) → SameExecution d u v (execute_assignment d n b x t r) (execute_assignment d n b x t s)
  set_same n b x t r s same a = go b (visits_part b a)
    where
      visits_part : (b : Bool) → Stays (execute_assignment d n b x t r) → AllOuter d u v (assignment_visits d n x t r)
      visits_part true a = (outer_halves d u v r.visits (assignment_visits d n x t r) a).1
      visits_part false a = (outer_halves d u v r.visits (assignment_visits d n x t r) a).1

      index_outer : AllOuter d u v (assignment_visits d n x t r) → AllOuter d u v (index_visits d r.values (is_inner d r) x)
      index_outer h = (outer_halves d u v (at_line n ∷ index_visits d r.values (is_inner d r) x) (visits_of d r.values (is_inner d r) t) (outer_halves d u v ((at_line n ∷ index_visits d r.values (is_inner d r) x) ++ visits_of d r.values (is_inner d r) t) (words_written d r.values x) h).0).0.1

      term_outer : AllOuter d u v (assignment_visits d n x t r) → AllOuter d u v (visits_of d r.values (is_inner d r) t)
      term_outer h = (outer_halves d u v (at_line n ∷ index_visits d r.values (is_inner d r) x) (visits_of d r.values (is_inner d r) t) (outer_halves d u v ((at_line n ∷ index_visits d r.values (is_inner d r) x) ++ visits_of d r.values (is_inner d r) t) (words_written d r.values x) h).0).1

      index_now : AllOuter d u v (assignment_visits d n x t r) → AllOuter d r.values s.values (index_visits d r.values (is_inner d r) x)
      index_now h = outer_now d u v r s same _ (index_outer h)

      sets : AllOuter d u v (assignment_visits d n x t r) → assignment_visits d n x t r ≡ assignment_visits d n x t s
      sets h =
          ap₂ (λ p q. p ++ q)
          (ap₂ (λ p q. p ++ q) (ap (λ p. at_line n ∷ p) (index_same d r.values s.values (is_inner d r) (inner_same d u v r s same) x (index_now h) ∙ ap (λ f. index_visits d s.values f x) (is_inner_same d u v r s same))) (visits_now d u v r s same t (term_outer h)))
          (words_same d r.values s.values (is_inner d r) (inner_same d u v r s same) x (index_now h))

      written : AllOuter d u v (assignment_visits d n x t r) → assignment_writes d x t r ≡ assignment_writes d x t s
      written h =
          writes_same d r.values s.values (is_inner d r) (inner_same d u v r s same) x _ (index_now h) ∙ ap (λ p. target_writes d s.values x (extend (target_width d x) (head t).signed p)) (value_now d u v r s same t (term_outer h))

      go : (b : Bool) → AllOuter d u v (assignment_visits d n x t r) → SameExecution d u v (execute_assignment d n b x t r) (execute_assignment d n b x t s)
      go true h =
          record {
            blocking = ap₂ (λ p q. p ++ q) same.blocking (written h);
            nonblocking = same.nonblocking;
            visits = ap₂ (λ p q. p ++ q) same.visits (sets h);
            left = λ c. put_same r.values (put_all u r.blocking) (assignment_writes d x t r) c (same.left c) ∙ ap (λ f. f c) (sym (put_append u r.blocking (assignment_writes d x t r)));
            right = λ c. put_same s.values (put_all v s.blocking) (assignment_writes d x t s) c (same.right c) ∙ ap (λ f. f c) (sym (put_append v s.blocking (assignment_writes d x t s)));
          }
      go false h =
          record {
            blocking = same.blocking;
            nonblocking = ap₂ (λ p q. p ++ q ∷ []) same.nonblocking (written h);
            visits = ap₂ (λ p q. p ++ q) same.visits (sets h);
            left = same.left;
            right = same.right;
          }

  -- what is outer at the end was outer before
  module _ (r0 : Execution) where
    abbrev Before : Execution → Type 0
    Before r = Stays r → Stays r0

    visit_before : (r : Execution) (vs : List Visit) → Before r → Before (with_visits r vs)
    visit_before r vs h a = h (outer_halves d u v r.visits vs a).0

    set_before : (n : ℕ) (b : Bool) (x : Target) (t : Term) (r : Execution) → Before r → Before (execute_assignment d n b x t r)
    set_before n true x t r h a = h (outer_halves d u v r.visits (assignment_visits d n x t r) a).0
    set_before n false x t r h a = h (outer_halves d u v r.visits (assignment_visits d n x t r) a).0

    exec_before : (s : Stmt) → Before (execute d s r0)
    exec_before s = execute_keeps d Before visit_before s (each_all set_before s) r0 (λ a. a)

    all_before : (ss : Stmts) → Before (execute_all d ss r0)
    all_before ss = all_keeps d Before visit_before ss (each_all_of set_before ss) r0 (λ a. a)

    default_before : (arms : Arms) → Before (execute_default d arms r0)
    default_before arms = default_keeps d Before visit_before arms (each_all_in set_before arms) r0 (λ a. a)

    arms_before : (kind : CaseKind) (on : List Bit) (arms : Arms) (otherwise : Execution → Execution) → ((r : Execution) → Before r → Before (otherwise r)) → Before (execute_arms d kind on arms otherwise r0)
    arms_before kind on arms otherwise o = arms_keep d Before visit_before kind on arms (each_all_in set_before arms) otherwise o r0 (λ a. a)

  choose_same : (x : Truth) (a b a' b' : Execution) → (Stays a → SameExecution d u v a a') → (Stays b → SameExecution d u v b b') → Stays (choose x a b) → SameExecution d u v (choose x a b) (choose x a' b')
  choose_same True a b a' b' f g h = f h
  choose_same False a b a' b' f g h = g h
  choose_same Strange a b a' b' f g h = g h

  choose_before : (P : Type 0) (x : Truth) (a b : Execution) → (Stays a → P) → (Stays b → P) → Stays (choose x a b) → P
  choose_before P True a b f g h = f h
  choose_before P False a b f g h = g h
  choose_before P Strange a b f g h = g h

  if_same : (x : Bool) (a b a' b' : Execution) → (Stays a → SameExecution d u v a a') → (Stays b → SameExecution d u v b b') → Stays (if x then a else b) → SameExecution d u v (if x then a else b) (if x then a' else b')
  if_same true a b a' b' f g h = f h
  if_same false a b a' b' f g h = g h

  if_before : (P : Type 0) (x : Bool) (a b : Execution) → (Stays a → P) → (Stays b → P) → Stays (if x then a else b) → P
  if_before P true a b f g h = f h
  if_before P false a b f g h = g h

  -- the labels of an arm
  pub labels_same : (kind : CaseKind) (on : List Bit) (r s : Execution) → SameExecution d u v r s → (ts : Terms) → AllOuter d u v (label_visits d kind on r ts) → (some_match d kind on r.values ts ≡ some_match d kind on s.values ts) × (label_visits d kind on r ts ≡ label_visits d kind on s ts)
  labels_same kind on r s same no_terms a = (refl, refl)
  labels_same kind on r s same (a_term t ts) a =
      let p = outer_halves d u v (visits_of d r.values (is_inner d r) t) (if matches kind on (value d r.values t) then [] else label_visits d kind on r ts) a in
      let e : value d r.values t ≡ value d s.values t = value_now d u v r s same t p.0 in
      let m : matches kind on (value d r.values t) ≡ matches kind on (value d s.values t) = ap (λ y. matches kind on y) e in
      let rest = go (λ h. labels_same kind on r s same ts h) (matches kind on (value d r.values t)) p.1 in
      (ap (λ y. y || some_match d kind on r.values ts) m ∙ rest_match (matches kind on (value d s.values t)) (subst (λ b. (b ≡ false → some_match d kind on r.values ts ≡ some_match d kind on s.values ts)) m rest.0), ap₂ (λ y z. y ++ z) (visits_now d u v r s same t p.0) (rest.1 ∙ ap (λ b. if b then [] else label_visits d kind on s ts) m))
    where
      go : (AllOuter d u v (label_visits d kind on r ts) → (some_match d kind on r.values ts ≡ some_match d kind on s.values ts) × (label_visits d kind on r ts ≡ label_visits d kind on s ts)) → (b : Bool) → AllOuter d u v (if b then [] else label_visits d kind on r ts) → (b ≡ false → some_match d kind on r.values ts ≡ some_match d kind on s.values ts) × ((if b then [] else label_visits d kind on r ts) ≡ (if b then [] else label_visits d kind on s ts))
      go ih true h = (λ e. absurd (true≢false e), refl)
      go ih false h = let q = ih h in (λ e. q.0, q.1)

      rest_match : (b : Bool) → (b ≡ false → some_match d kind on r.values ts ≡ some_match d kind on s.values ts) → (b || some_match d kind on r.values ts) ≡ (b || some_match d kind on s.values ts)
      rest_match true h = refl
      rest_match false h = h refl

  -- the same for whole bodies
  mutual
    pub exec_same : (b : Stmt) (r s : Execution) → SameExecution d u v r s → Stays (execute d b r) → SameExecution d u v (execute d b r) (execute d b s)
    exec_same (block p ss) r s same a = all_same ss r s same a
    exec_same (branch p n t b other) r s same a =
        let first = visit_same d u v r s same (at_line n ∷ []) (at_line n ∷ []) refl in
        let r1 : Execution = with_visits r (at_line n ∷ []) in
        let s1 : Execution = with_visits s (at_line n ∷ []) in
        let tested : Execution = evaluate d t r1 in
        let tested' : Execution = evaluate d t s1 in
        let stays : Stays tested = choose_before (Stays tested) (truth (value d r.values t)) (execute d b tested) (execute_all d other tested) (exec_before tested b) (all_before tested other) a in
        let term_outer : AllOuter d u v (visits_of d r.values (is_inner d r) t) = (outer_halves d u v r1.visits (visits_of d r.values (is_inner d r) t) stays).1 in
        let now : SameExecution d u v tested tested' = visit_same d u v r1 s1 first _ _ (visits_now d u v r1 s1 first t term_outer) in
        let e : value d r.values t ≡ value d s.values t = value_now d u v r s same t term_outer in
        subst (λ y. SameExecution d u v (choose (truth (value d r.values t)) (execute d b tested) (execute_all d other tested)) (choose (truth y) (execute d b tested') (execute_all d other tested'))) e
        (choose_same (truth (value d r.values t)) (execute d b tested) (execute_all d other tested) (execute d b tested') (execute_all d other tested') (exec_same b tested tested' now) (all_same other tested tested' now) a)
    exec_same (select p n kind t arms) r s same a =
        let first = visit_same d u v r s same (at_line n ∷ []) (at_line n ∷ []) refl in
        let r1 : Execution = with_visits r (at_line n ∷ []) in
        let s1 : Execution = with_visits s (at_line n ∷ []) in
        let tested : Execution = evaluate d t r1 in
        let tested' : Execution = evaluate d t s1 in
        let otherwise : (r2 : Execution) → Before tested r2 → Before tested (execute_default d arms r2) = λ r2 h. default_keeps d (Before tested) (visit_before tested) arms (each_all_in (set_before tested) arms) r2 h in
        let stays : Stays tested = arms_before tested kind (value d r.values t) arms (execute_default d arms) otherwise a in
        let term_outer : AllOuter d u v (visits_of d r.values (is_inner d r) t) = (outer_halves d u v r1.visits (visits_of d r.values (is_inner d r) t) stays).1 in
        let now : SameExecution d u v tested tested' = visit_same d u v r1 s1 first _ _ (visits_now d u v r1 s1 first t term_outer) in
        let e : value d r.values t ≡ value d s.values t = value_now d u v r s same t term_outer in
        subst (λ y. SameExecution d u v (execute_arms d kind (value d r.values t) arms (execute_default d arms) tested) (execute_arms d kind y arms (execute_default d arms) tested')) e
        (arms_same kind (value d r.values t) arms (execute_default d arms) (λ r2 s2 m h. default_same arms r2 s2 m h) (λ r2. default_before r2 arms) tested tested' now a)
    exec_same (turns p n ss) r s same a = all_same ss (with_visits r (at_line n ∷ [])) (with_visits s (at_line n ∷ [])) (visit_same d u v r s same (at_line n ∷ []) (at_line n ∷ []) refl) a
    exec_same (set p n blocking x t) r s same a = set_same n blocking x t r s same a
    exec_same (empty p) r s same a = same

    pub all_same : (ss : Stmts) (r s : Execution) → SameExecution d u v r s → Stays (execute_all d ss r) → SameExecution d u v (execute_all d ss r) (execute_all d ss s)
    all_same no_stmts r s same a = same
    all_same (a_stmt b ss) r s same a = all_same ss (execute d b r) (execute d b s) (exec_same b r s same (all_before (execute d b r) ss a)) a

    pub arms_same : (kind : CaseKind) (on : List Bit) (arms : Arms) (otherwise : Execution → Execution) → ((r s : Execution) → SameExecution d u v r s → Stays (otherwise r) → SameExecution d u v (otherwise r) (otherwise s)) → ((r : Execution) → Before r (otherwise r)) → (r s : Execution) → SameExecution d u v r s → Stays (execute_arms d kind on arms otherwise r) → SameExecution d u v (execute_arms d kind on arms otherwise r) (execute_arms d kind on arms otherwise s)
    arms_same kind on no_arms otherwise o b r s same a = o r s same a
    arms_same kind on (arm labels x arms) otherwise o b r s same a =
        let seen : Execution = with_visits r (label_visits d kind on r labels) in
        let seen' : Execution = with_visits s (label_visits d kind on s labels) in
        let after' : (r2 : Execution) → Before seen r2 → Before seen (otherwise r2) = λ r2 h k. h (b r2 k) in
        let stays : Stays seen = if_before (Stays seen) (some_match d kind on r.values labels) (execute d x seen) (execute_arms d kind on arms otherwise seen) (exec_before seen x) (arms_before seen kind on arms otherwise after') a in
        let l = labels_same kind on r s same labels (outer_halves d u v r.visits (label_visits d kind on r labels) stays).1 in
        let now : SameExecution d u v seen seen' = visit_same d u v r s same _ _ l.1 in
        subst (λ y. SameExecution d u v (if some_match d kind on r.values labels then execute d x seen else execute_arms d kind on arms otherwise seen) (if y then execute d x seen' else execute_arms d kind on arms otherwise seen')) l.0
        (if_same (some_match d kind on r.values labels) (execute d x seen) (execute_arms d kind on arms otherwise seen) (execute d x seen') (execute_arms d kind on arms otherwise seen') (exec_same x seen seen' now) (arms_same kind on arms otherwise o b seen seen' now) a)

    pub default_same : (arms : Arms) (r s : Execution) → SameExecution d u v r s → Stays (execute_default d arms r) → SameExecution d u v (execute_default d arms r) (execute_default d arms s)
    default_same no_arms r s same a = same
    default_same (arm labels x arms) r s same a =
        if_same (is_default labels) (execute d x r) (execute_default d arms r) (execute d x s) (execute_default d arms s) (exec_same x r s same) (default_same arms r s same) a

  -- two states that agree on what an execution reads from outside have the same execution
  pub execution_same : (b : Stmt) → AllOuter d u v (execution d b u).visits → SameExecution d u v (execution d b u) (execution d b v)
  execution_same b a = exec_same b (execution_start u) (execution_start v) (record { blocking = refl; nonblocking = refl; visits = refl; left = λ c. refl; right = λ c. refl }) a

-- what is inside a map is the same on all states with the map's values
pub inside_outer : (d : Design) (K : PartialMap) (u v : Values Bit) → Agrees d K u → Agrees d K v → (xs : List Visit) → AllInside K xs → AllOuter d u v xs
inside_outer d K u v au av [] a = tt
inside_outer d K u v au av (at_line n ∷ xs) a = (tt, inside_outer d K u v au av xs a.1)
inside_outer d K u v au av (at_node n c ∷ xs) a = (tt, inside_outer d K u v au av xs a.1)
inside_outer d K u v au av (reads x true ∷ xs) a = (tt, inside_outer d K u v au av xs a.1)
inside_outer d K u v au av (reads x false ∷ xs) a = (au x a.0.0 a.0.1 ∙ sym (av x a.0.0 a.0.1), inside_outer d K u v au av xs a.1)
inside_outer d K u v au av (writes_word m i ∷ xs) a = (tt, inside_outer d K u v au av xs a.1)

-- so one state with the map's values shows whether a body reads within the map
pub within_by : (d : Design) (K : PartialMap) (b : Stmt) (u : Values Bit) → Agrees d K u → AllInside K (execution d b u).visits → ReadsWithin d K b
within_by d K b u au a v av = subst (AllInside K) (execution_same d u v b (inside_outer d K u v au av _ a)).visits a

-- and what it then writes
pub within_blocking : (d : Design) (K : PartialMap) (b : Stmt) (u v : Values Bit) → Agrees d K u → Agrees d K v → AllInside K (execution d b u).visits → (execution d b u).blocking ≡ (execution d b v).blocking
within_blocking d K b u v au av a = (execution_same d u v b (inside_outer d K u v au av _ a)).blocking

pub within_nonblocking : (d : Design) (K : PartialMap) (b : Stmt) (u v : Values Bit) → Agrees d K u → Agrees d K v → AllInside K (execution d b u).visits → (execution d b u).nonblocking ≡ (execution d b v).nonblocking
within_nonblocking d K b u v au av a = (execution_same d u v b (inside_outer d K u v au av _ a)).nonblocking
