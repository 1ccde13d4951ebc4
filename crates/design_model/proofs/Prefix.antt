-- Executions on states that agree with a map are the same up to the first read outside the map.
use Rattle.std.proofs.Common.{◌≡◌, inl, inr, ℕ, Bool, true, false, List, [], ◌∷◌, ◌++◌, append_assoc, append-nil, refl, sym, ap, ap₂, subst, ◌∙◌, Option, Some, None, if◌then◌else◌}
use Rattle.std.specs.Prelude.{⊤}
use Rattle.event_machine.specs.Cell.{Values}
use Rattle.four_state.specs.Operators.{matches}
use Rattle.four_state.specs.Parts.{index}
use Rattle.four_state.specs.Vector.{truth}
use Rattle.four_state.specs.declared.bit.Bit.{Bit}
use Rattle.four_state.specs.declared.operator.CaseKind.{CaseKind}
use Rattle.four_state.specs.declared.truth.Truth.{Truth}
use Rattle.four_state.specs.declared.truth.Truth.TheVariants.{False, Strange, True}
use Rattle.design_model.specs.Tree.{Arms, Stmt, Stmts, Target, Targets, Term, Terms, a_stmt, a_target, a_term, all_of, arm, binary, bit, bits_of, block, branch, choice, concat, empty, no_arms, no_stmts, no_targets, no_terms, number, part, repeat, select, set, several, sign, signal, slide, turns, unary, word, word_of}
use Rattle.design_model.specs.Design.{Design, Thing, a_signal, memory_at, thing_bits}
use Rattle.design_model.specs.Value.{head, named_word, value, word_named}
use Rattle.design_model.specs.Execution.{Execution, NodeCase, ValueFalse, ValueTrue, Visit, assignment_visits, at_line, cases, choose, evaluate, execute, execute_all, execute_arms, execute_assignment, execute_default, execution, execution_start, if_false, if_true, index_visits, indexes_visits, is_default, is_inner, label_visits, node_visits, reads, some_match, two_cases, visits_of, visits_of_all, with_visits, word_read, words_written}
use Rattle.design_model.specs.Reads.{Agrees, AllInside, IsInside, PartialMap, UpToOutside, VisitsFrom}
use Rattle.design_model.proofs.Agree.{AllOuter, outer_halves, value_same, words_same}
use Rattle.design_model.proofs.Execution.{all_keeps, arms_keep, default_keeps, each_all, each_all_in, each_all_of, execute_keeps}
use Rattle.design_model.proofs.WithinMap.{SameExecution, exec_same, inner_same, inside_outer, is_inner_same, labels_same, outer_now, value_now, visit_same, visits_now}

-- two lists of visits are the same up to the first read outside the map, that read included
abbrev pub UpSame : PartialMap → List Visit → List Visit → Type 0
UpSame K [] [] = ⊤
UpSame K [] (y ∷ ys) = ⊥
UpSame K (x ∷ xs) [] = ⊥
UpSame K (x ∷ xs) (y ∷ ys) = (x ≡ y) × (IsInside K x → UpSame K xs ys)

up_self : (K : PartialMap) (xs : List Visit) → UpSame K xs xs
up_self K [] = tt
up_self K (x ∷ xs) = (refl, λ inside. up_self K xs)

pub up_same : (K : PartialMap) (xs ys : List Visit) → xs ≡ ys → UpSame K xs ys
up_same K xs ys e = subst (UpSame K xs) e (up_self K xs)

up_append : (K : PartialMap) (xs ys as' bs : List Visit) → UpSame K xs ys → (AllInside K xs → UpSame K as' bs) → UpSame K (xs ++ as') (ys ++ bs)
up_append K [] [] as' bs e h = h tt
up_append K [] (y ∷ ys) as' bs e h = absurd e
up_append K (x ∷ xs) [] as' bs e h = absurd e
up_append K (x ∷ xs) (y ∷ ys) as' bs e h = (e.0, λ inside. up_append K xs ys as' bs (e.1 inside) (λ all. h (inside, all)))

-- what follows the first read outside does not matter
up_extend : (K : PartialMap) (xs ys as' bs : List Visit) → UpSame K xs ys → (AllInside K xs → UpSame K (xs ++ as') (ys ++ bs)) → UpSame K (xs ++ as') (ys ++ bs)
up_extend K [] [] as' bs e h = h tt
up_extend K [] (y ∷ ys) as' bs e h = absurd e
up_extend K (x ∷ xs) [] as' bs e h = absurd e
up_extend K (x ∷ xs) (y ∷ ys) as' bs e h = (e.0, λ inside. up_extend K xs ys as' bs (e.1 inside) (λ all. (h (inside, all)).1 inside))

inside_halves : (K : PartialMap) (xs ys : List Visit) → AllInside K (xs ++ ys) → AllInside K xs × AllInside K ys
inside_halves K [] ys h = (tt, h)
inside_halves K (x ∷ xs) ys h = let r = inside_halves K xs ys h.1 in ((h.0, r.0), r.1)

-- what is visited up to the first read outside on one is so on the other
pub up_visits : (K : PartialMap) (x : Visit) (xs ys : List Visit) → UpSame K xs ys → UpToOutside K x xs → UpToOutside K x ys
up_visits K x [] ys e h = absurd h
up_visits K x (z ∷ xs) [] e h = absurd e
up_visits K x (z ∷ xs) (y ∷ ys) e (inl is) = inl (sym e.0 ∙ is)
up_visits K x (z ∷ xs) (y ∷ ys) e (inr later) = inr (subst (IsInside K) e.0 later.0, up_visits K x xs ys (e.1 later.0) later.1)

outer_join : (d : Design) (u v : Values Bit) (xs ys : List Visit) → AllOuter d u v xs → AllOuter d u v ys → AllOuter d u v (xs ++ ys)
outer_join d u v [] ys a b = b
outer_join d u v (x ∷ xs) ys a b = (a.0, outer_join d u v xs ys a.1 b)

node_outer : (d : Design) (u v : Values Bit) (n : Option ℕ) (cs : List NodeCase) → AllOuter d u v (node_visits n cs)
node_outer d u v None cs = tt
node_outer d u v (Some n) [] = tt
node_outer d u v (Some n) (c ∷ cs) = (tt, node_outer d u v (Some n) cs)

module _ (d : Design) (K : PartialMap) (u v : Values Bit) (f : Thing → Bool) (inner : (x : Thing) → f x ≡ true → thing_bits d u x ≡ thing_bits d v x) (agree : (xs : List Visit) → AllInside K xs → AllOuter d u v xs) where
  own_same : (t : Term) → value d u t ≡ value d v t → (if_false (truth (value d u t)) ValueFalse ++ if_true (truth (value d u t)) ValueTrue) ≡ (if_false (truth (value d v t)) ValueFalse ++ if_true (truth (value d v t)) ValueTrue)
  own_same t e = ap (λ x. if_false (truth x) ValueFalse ++ if_true (truth x) ValueTrue) e

  cases_same : (t : Term) → AllOuter d u v (visits_of d u f t) → cases d u t ≡ cases d v t
  cases_same (number h n) a = own_same (number h n) (value_same d u v f inner (number h n) a)
  cases_same (signal h s) a = own_same (signal h s) (value_same d u v f inner (signal h s) a)
  cases_same (word h m i) a = own_same (word h m i) (value_same d u v f inner (word h m i) a)
  cases_same (bit h t i) a = own_same (bit h t i) (value_same d u v f inner (bit h t i) a)
  cases_same (part h t i j) a = own_same (part h t i j) (value_same d u v f inner (part h t i j) a)
  cases_same (slide h t b w up) a = own_same (slide h t b w up) (value_same d u v f inner (slide h t b w up) a)
  cases_same (unary h op t) a = own_same (unary h op t) (value_same d u v f inner (unary h op t) a)
  cases_same (binary h op t y) a =
      let z = outer_halves d u v (visits_of d u f t ++ visits_of d u f y) (node_visits h.node (cases d u (binary h op t y))) a in
      let z1 = outer_halves d u v (visits_of d u f t) (visits_of d u f y) z.0 in
      ap₂ (λ x w. two_cases op (truth x) (truth w)) (value_same d u v f inner t z1.0) (value_same d u v f inner y z1.1)
  cases_same (choice h c t y) a = own_same (choice h c t y) (value_same d u v f inner (choice h c t y) a)
  cases_same (concat h ts) a = own_same (concat h ts) (value_same d u v f inner (concat h ts) a)
  cases_same (repeat h n ts) a = own_same (repeat h n ts) (value_same d u v f inner (repeat h n ts) a)
  cases_same (sign h s t) a = own_same (sign h s t) (value_same d u v f inner (sign h s t) a)

  mutual
    pub visits_up : (t : Term) → UpSame K (visits_of d u f t) (visits_of d v f t)
    visits_up (number h n) = up_self K _
    visits_up (signal h s) =
        up_append K (reads (a_signal s) (f (a_signal s)) ∷ []) (reads (a_signal s) (f (a_signal s)) ∷ []) (node_visits h.node (cases d u (signal h s))) (node_visits h.node (cases d v (signal h s))) (up_self K (reads (a_signal s) (f (a_signal s)) ∷ []))
        (λ a. up_same K _ _ (ap (node_visits h.node) (cases_same (signal h s) (outer_join d u v (reads (a_signal s) (f (a_signal s)) ∷ []) (node_visits h.node (cases d u (signal h s))) (agree (reads (a_signal s) (f (a_signal s)) ∷ []) a) (node_outer d u v h.node (cases d u (signal h s)))))))
    visits_up (word h m i) =
        up_append K (visits_of d u f i ++ word_read f m (word_named d u m i)) (visits_of d v f i ++ word_read f m (word_named d v m i)) (node_visits h.node (cases d u (word h m i))) (node_visits h.node (cases d v (word h m i)))
        (up_append K (visits_of d u f i) (visits_of d v f i) (word_read f m (word_named d u m i)) (word_read f m (word_named d v m i)) (visits_up i) (λ a. up_same K _ _ (ap (λ x. word_read f m (named_word (memory_at d m) (index (head i).signed x))) (value_same d u v f inner i (agree (visits_of d u f i) a)))))
        (λ a. up_same K _ _ (ap (node_visits h.node) (cases_same (word h m i) (outer_join d u v (visits_of d u f i ++ word_read f m (word_named d u m i)) (node_visits h.node (cases d u (word h m i))) (agree (visits_of d u f i ++ word_read f m (word_named d u m i)) a) (node_outer d u v h.node (cases d u (word h m i)))))))
    visits_up (bit h t i) =
        up_append K (visits_of d u f i ++ visits_of d u f t) (visits_of d v f i ++ visits_of d v f t) (node_visits h.node (cases d u (bit h t i))) (node_visits h.node (cases d v (bit h t i)))
        (up_append K (visits_of d u f i) (visits_of d v f i) (visits_of d u f t) (visits_of d v f t) (visits_up i) (λ a. visits_up t))
        (λ a. up_same K _ _ (ap (node_visits h.node) (cases_same (bit h t i) (outer_join d u v (visits_of d u f i ++ visits_of d u f t) (node_visits h.node (cases d u (bit h t i))) (agree (visits_of d u f i ++ visits_of d u f t) a) (node_outer d u v h.node (cases d u (bit h t i)))))))
    visits_up (part h t i j) =
        up_append K (visits_of d u f i ++ visits_of d u f j ++ visits_of d u f t) (visits_of d v f i ++ visits_of d v f j ++ visits_of d v f t) (node_visits h.node (cases d u (part h t i j))) (node_visits h.node (cases d v (part h t i j)))
        (up_append K (visits_of d u f i ++ visits_of d u f j) (visits_of d v f i ++ visits_of d v f j) (visits_of d u f t) (visits_of d v f t) (up_append K (visits_of d u f i) (visits_of d v f i) (visits_of d u f j) (visits_of d v f j) (visits_up i) (λ a. visits_up j)) (λ a. visits_up t))
        (λ a. up_same K _ _ (ap (node_visits h.node) (cases_same (part h t i j) (outer_join d u v (visits_of d u f i ++ visits_of d u f j ++ visits_of d u f t) (node_visits h.node (cases d u (part h t i j))) (agree (visits_of d u f i ++ visits_of d u f j ++ visits_of d u f t) a) (node_outer d u v h.node (cases d u (part h t i j)))))))
    visits_up (slide h t b w up) =
        up_append K (visits_of d u f b ++ visits_of d u f w ++ visits_of d u f t) (visits_of d v f b ++ visits_of d v f w ++ visits_of d v f t) (node_visits h.node (cases d u (slide h t b w up))) (node_visits h.node (cases d v (slide h t b w up)))
        (up_append K (visits_of d u f b ++ visits_of d u f w) (visits_of d v f b ++ visits_of d v f w) (visits_of d u f t) (visits_of d v f t) (up_append K (visits_of d u f b) (visits_of d v f b) (visits_of d u f w) (visits_of d v f w) (visits_up b) (λ a. visits_up w)) (λ a. visits_up t))
        (λ a. up_same K _ _ (ap (node_visits h.node) (cases_same (slide h t b w up) (outer_join d u v (visits_of d u f b ++ visits_of d u f w ++ visits_of d u f t) (node_visits h.node (cases d u (slide h t b w up))) (agree (visits_of d u f b ++ visits_of d u f w ++ visits_of d u f t) a) (node_outer d u v h.node (cases d u (slide h t b w up)))))))
    visits_up (unary h op t) =
        up_append K (visits_of d u f t) (visits_of d v f t) (node_visits h.node (cases d u (unary h op t))) (node_visits h.node (cases d v (unary h op t)))
        (visits_up t)
        (λ a. up_same K _ _ (ap (node_visits h.node) (cases_same (unary h op t) (outer_join d u v (visits_of d u f t) (node_visits h.node (cases d u (unary h op t))) (agree (visits_of d u f t) a) (node_outer d u v h.node (cases d u (unary h op t)))))))
    visits_up (binary h op t y) =
        up_append K (visits_of d u f t ++ visits_of d u f y) (visits_of d v f t ++ visits_of d v f y) (node_visits h.node (cases d u (binary h op t y))) (node_visits h.node (cases d v (binary h op t y)))
        (up_append K (visits_of d u f t) (visits_of d v f t) (visits_of d u f y) (visits_of d v f y) (visits_up t) (λ a. visits_up y))
        (λ a. up_same K _ _ (ap (node_visits h.node) (cases_same (binary h op t y) (outer_join d u v (visits_of d u f t ++ visits_of d u f y) (node_visits h.node (cases d u (binary h op t y))) (agree (visits_of d u f t ++ visits_of d u f y) a) (node_outer d u v h.node (cases d u (binary h op t y)))))))
    visits_up (choice h c t y) =
        up_append K (visits_of d u f c ++ visits_of d u f t ++ visits_of d u f y) (visits_of d v f c ++ visits_of d v f t ++ visits_of d v f y) (node_visits h.node (cases d u (choice h c t y))) (node_visits h.node (cases d v (choice h c t y)))
        (up_append K (visits_of d u f c ++ visits_of d u f t) (visits_of d v f c ++ visits_of d v f t) (visits_of d u f y) (visits_of d v f y) (up_append K (visits_of d u f c) (visits_of d v f c) (visits_of d u f t) (visits_of d v f t) (visits_up c) (λ a. visits_up t)) (λ a. visits_up y))
        (λ a. up_same K _ _ (ap (node_visits h.node) (cases_same (choice h c t y) (outer_join d u v (visits_of d u f c ++ visits_of d u f t ++ visits_of d u f y) (node_visits h.node (cases d u (choice h c t y))) (agree (visits_of d u f c ++ visits_of d u f t ++ visits_of d u f y) a) (node_outer d u v h.node (cases d u (choice h c t y)))))))
    visits_up (concat h ts) =
        up_append K (visits_of_all d u f ts) (visits_of_all d v f ts) (node_visits h.node (cases d u (concat h ts))) (node_visits h.node (cases d v (concat h ts)))
        (all_visits_up ts)
        (λ a. up_same K _ _ (ap (node_visits h.node) (cases_same (concat h ts) (outer_join d u v (visits_of_all d u f ts) (node_visits h.node (cases d u (concat h ts))) (agree (visits_of_all d u f ts) a) (node_outer d u v h.node (cases d u (concat h ts)))))))
    visits_up (repeat h n ts) =
        up_append K (visits_of d u f n ++ visits_of_all d u f ts) (visits_of d v f n ++ visits_of_all d v f ts) (node_visits h.node (cases d u (repeat h n ts))) (node_visits h.node (cases d v (repeat h n ts)))
        (up_append K (visits_of d u f n) (visits_of d v f n) (visits_of_all d u f ts) (visits_of_all d v f ts) (visits_up n) (λ a. all_visits_up ts))
        (λ a. up_same K _ _ (ap (node_visits h.node) (cases_same (repeat h n ts) (outer_join d u v (visits_of d u f n ++ visits_of_all d u f ts) (node_visits h.node (cases d u (repeat h n ts))) (agree (visits_of d u f n ++ visits_of_all d u f ts) a) (node_outer d u v h.node (cases d u (repeat h n ts)))))))
    visits_up (sign h s t) =
        up_append K (visits_of d u f t) (visits_of d v f t) (node_visits h.node (cases d u (sign h s t))) (node_visits h.node (cases d v (sign h s t)))
        (visits_up t)
        (λ a. up_same K _ _ (ap (node_visits h.node) (cases_same (sign h s t) (outer_join d u v (visits_of d u f t) (node_visits h.node (cases d u (sign h s t))) (agree (visits_of d u f t) a) (node_outer d u v h.node (cases d u (sign h s t)))))))

    pub all_visits_up : (ts : Terms) → UpSame K (visits_of_all d u f ts) (visits_of_all d v f ts)
    all_visits_up no_terms = tt
    all_visits_up (a_term t ts) = up_append K (visits_of d u f t) (visits_of d v f t) (visits_of_all d u f ts) (visits_of_all d v f ts) (visits_up t) (λ a. all_visits_up ts)

  mutual
    pub index_up : (x : Target) → UpSame K (index_visits d u f x) (index_visits d v f x)
    index_up (all_of s) = tt
    index_up (bits_of s low w) = visits_up low
    index_up (word_of m i) = visits_up i
    index_up (several ts) = indexes_up ts

    pub indexes_up : (ts : Targets) → UpSame K (indexes_visits d u f ts) (indexes_visits d v f ts)
    indexes_up no_targets = tt
    indexes_up (a_target t ts) = up_append K (index_visits d u f t) (index_visits d v f t) (indexes_visits d u f ts) (indexes_visits d v f ts) (index_up t) (λ a. indexes_up ts)

-- an execution only adds visits
module _ (d : Design) (r0 : Execution) where
  abbrev Extends : Execution → Type 0
  Extends r = (more : List Visit) × (r.visits ≡ r0.visits ++ more)

  visit_extends : (r : Execution) (vs : List Visit) → Extends r → Extends (with_visits r vs)
  visit_extends r vs e = (e.0 ++ vs, ap (λ x. x ++ vs) e.1 ∙ append_assoc r0.visits e.0 vs)

  set_extends : (n : ℕ) (b : Bool) (x : Target) (t : Term) (r : Execution) → Extends r → Extends (execute_assignment d n b x t r)
  set_extends n true x t r e = visit_extends r (assignment_visits d n x t r) e
  set_extends n false x t r e = visit_extends r (assignment_visits d n x t r) e

  none_more : Extends r0
  none_more = ([], sym (append-nil r0.visits))

  exec_extends : (b : Stmt) → Extends (execute d b r0)
  exec_extends b = execute_keeps d Extends visit_extends b (each_all set_extends b) r0 none_more

  all_extends : (ss : Stmts) → Extends (execute_all d ss r0)
  all_extends ss = all_keeps d Extends visit_extends ss (each_all_of set_extends ss) r0 none_more

  arms_extend : (kind : CaseKind) (on : List Bit) (arms : Arms) (otherwise : Execution → Execution) → ((r : Execution) → Extends r → Extends (otherwise r)) → Extends (execute_arms d kind on arms otherwise r0)
  arms_extend kind on arms otherwise o = arms_keep d Extends visit_extends kind on arms (each_all_in set_extends arms) otherwise o r0 none_more

  default_extends : (arms : Arms) (r : Execution) → Extends r → Extends (execute_default d arms r)
  default_extends arms r e = default_keeps d Extends visit_extends arms (each_all_in set_extends arms) r e

choose_extends : (d : Design) (r0 : Execution) (x : Truth) (a b : Execution) → Extends d r0 a → Extends d r0 b → Extends d r0 (choose x a b)
choose_extends d r0 True a b f g = f
choose_extends d r0 False a b f g = g
choose_extends d r0 Strange a b f g = g

if_extends : (d : Design) (r0 : Execution) (x : Bool) (a b : Execution) → Extends d r0 a → Extends d r0 b → Extends d r0 (if x then a else b)
if_extends d r0 true a b f g = f
if_extends d r0 false a b f g = g

module _ (d : Design) (K : PartialMap) (u v : Values Bit) (au : Agrees d K u) (av : Agrees d K v) where
  -- two executions that are the same up to the first read outside
  record Up (r s : Execution) : Type 0 where
    visits : UpSame K r.visits s.visits
    same : AllInside K r.visits → SameExecution d u v r s

  agree_now : (r s : Execution) → SameExecution d u v r s → (xs : List Visit) → AllInside K xs → AllOuter d r.values s.values xs
  agree_now r s same xs a = outer_now d u v r s same xs (inside_outer d K u v au av xs a)

  term_up : (r s : Execution) → SameExecution d u v r s → (t : Term) → UpSame K (visits_of d r.values (is_inner d r) t) (visits_of d s.values (is_inner d s) t)
  term_up r s same t = subst (λ f. UpSame K (visits_of d r.values (is_inner d r) t) (visits_of d s.values f t)) (is_inner_same d u v r s same) (visits_up d K r.values s.values (is_inner d r) (inner_same d u v r s same) (agree_now r s same) t)

  indexes_now : (r s : Execution) → SameExecution d u v r s → (x : Target) → UpSame K (index_visits d r.values (is_inner d r) x) (index_visits d s.values (is_inner d s) x)
  indexes_now r s same x = subst (λ f. UpSame K (index_visits d r.values (is_inner d r) x) (index_visits d s.values f x)) (is_inner_same d u v r s same) (index_up d K r.values s.values (is_inner d r) (inner_same d u v r s same) (agree_now r s same) x)

  sets_up : (n : ℕ) (x : Target) (t : Term) (r s : Execution) → SameExecution d u v r s → UpSame K (assignment_visits d n x t r) (assignment_visits d n x t s)
  sets_up n x t r s same =
      up_append K ((at_line n ∷ index_visits d r.values (is_inner d r) x) ++ visits_of d r.values (is_inner d r) t) ((at_line n ∷ index_visits d s.values (is_inner d s) x) ++ visits_of d s.values (is_inner d s) t) (words_written d r.values x) (words_written d s.values x)
      (up_append K (at_line n ∷ index_visits d r.values (is_inner d r) x) (at_line n ∷ index_visits d s.values (is_inner d s) x) (visits_of d r.values (is_inner d r) t) (visits_of d s.values (is_inner d s) t) (refl, λ inside. indexes_now r s same x) (λ a. term_up r s same t))
      (λ a. up_same K _ _ (words_same d r.values s.values (is_inner d r) (inner_same d u v r s same) x (agree_now r s same (index_visits d r.values (is_inner d r) x) ((inside_halves K (at_line n ∷ index_visits d r.values (is_inner d r) x) (visits_of d r.values (is_inner d r) t) a).0.1))))

  set_up : (n : ℕ) (b : Bool) (x : Target) (t : Term) (r s : Execution) → Up r s → UpSame K (execute_assignment d n b x t r).visits (execute_assignment d n b x t s).visits
  set_up n true x t r s up = up_append K r.visits s.visits (assignment_visits d n x t r) (assignment_visits d n x t s) up.visits (λ a. sets_up n x t r s (up.same a))
  set_up n false x t r s up = up_append K r.visits s.visits (assignment_visits d n x t r) (assignment_visits d n x t s) up.visits (λ a. sets_up n x t r s (up.same a))

  up_by_ext : (r0 s0 : Execution) (xs ys : List Visit) → UpSame K r0.visits s0.visits → ((more : List Visit) × (xs ≡ r0.visits ++ more)) → ((more : List Visit) × (ys ≡ s0.visits ++ more)) → (AllInside K r0.visits → UpSame K xs ys) → UpSame K xs ys
  up_by_ext r0 s0 xs ys up e f h =
      subst (λ x. UpSame K x ys) (sym e.1) (subst (λ y. UpSame K (r0.visits ++ e.0) y) (sym f.1) (up_extend K r0.visits s0.visits e.0 f.0 up (λ a. subst (λ x. UpSame K x (s0.visits ++ f.0)) e.1 (subst (λ y. UpSame K xs y) f.1 (h a)))))

  inside_before : (r0 r : Execution) → Extends d r0 r → AllInside K r.visits → AllInside K r0.visits
  inside_before r0 r e a = (inside_halves K r0.visits e.0 (subst (AllInside K) e.1 a)).0

  line_up : (n : ℕ) (r s : Execution) → Up r s → Up (with_visits r (at_line n ∷ [])) (with_visits s (at_line n ∷ []))
  line_up n r s up =
      record {
        visits = up_append K r.visits s.visits (at_line n ∷ []) (at_line n ∷ []) up.visits (λ a. up_self K (at_line n ∷ []));
        same = λ a. visit_same d u v r s (up.same (inside_halves K r.visits (at_line n ∷ []) a).0) (at_line n ∷ []) (at_line n ∷ []) refl;
      }

  tested_up : (t : Term) (r s : Execution) → Up r s → Up (evaluate d t r) (evaluate d t s)
  tested_up t r s up =
      record {
        visits = up_append K r.visits s.visits (visits_of d r.values (is_inner d r) t) (visits_of d s.values (is_inner d s) t) up.visits (λ a. term_up r s (up.same a) t);
        same = λ a.
            let h = inside_halves K r.visits (visits_of d r.values (is_inner d r) t) a in
            visit_same d u v r s (up.same h.0) _ _ (visits_now d u v r s (up.same h.0) t (inside_outer d K u v au av _ h.1));
      }

  -- the value of a test that was read from inside
  tested_value : (t : Term) (r s : Execution) → Up r s → AllInside K (evaluate d t r).visits → value d r.values t ≡ value d s.values t
  tested_value t r s up a =
      let h = inside_halves K r.visits (visits_of d r.values (is_inner d r) t) a in
      value_now d u v r s (up.same h.0) t (inside_outer d K u v au av _ h.1)

  labels_up : (kind : CaseKind) (on : List Bit) (r s : Execution) → SameExecution d u v r s → (ts : Terms) → UpSame K (label_visits d kind on r ts) (label_visits d kind on s ts)
  labels_up kind on r s same no_terms = tt
  labels_up kind on r s same (a_term t ts) =
      up_append K (visits_of d r.values (is_inner d r) t) (visits_of d s.values (is_inner d s) t) (if matches kind on (value d r.values t) then [] else label_visits d kind on r ts) (if matches kind on (value d s.values t) then [] else label_visits d kind on s ts) (term_up r s same t)
      (λ a. subst (λ b. UpSame K (if matches kind on (value d r.values t) then [] else label_visits d kind on r ts) (if b then [] else label_visits d kind on s ts)) (ap (λ y. matches kind on y) (value_now d u v r s same t (inside_outer d K u v au av _ a))) (either (matches kind on (value d r.values t)) (labels_up kind on r s same ts)))
    where
      either : (b : Bool) → UpSame K (label_visits d kind on r ts) (label_visits d kind on s ts) → UpSame K (if b then [] else label_visits d kind on r ts) (if b then [] else label_visits d kind on s ts)
      either true h = tt
      either false h = h

  seen_up : (kind : CaseKind) (on : List Bit) (ts : Terms) (r s : Execution) → Up r s → Up (with_visits r (label_visits d kind on r ts)) (with_visits s (label_visits d kind on s ts))
  seen_up kind on ts r s up =
      record {
        visits = up_append K r.visits s.visits (label_visits d kind on r ts) (label_visits d kind on s ts) up.visits (λ a. labels_up kind on r s (up.same a) ts);
        same = λ a.
            let h = inside_halves K r.visits (label_visits d kind on r ts) a in
            visit_same d u v r s (up.same h.0) _ _ (labels_same d u v kind on r s (up.same h.0) ts (inside_outer d K u v au av _ h.1)).1;
      }

  choose_up : (x : Truth) (a b a' b' : Execution) → UpSame K a.visits a'.visits → UpSame K b.visits b'.visits → UpSame K (choose x a b).visits (choose x a' b').visits
  choose_up True a b a' b' f g = f
  choose_up False a b a' b' f g = g
  choose_up Strange a b a' b' f g = g

  if_up : (x : Bool) (a b a' b' : Execution) → UpSame K a.visits a'.visits → UpSame K b.visits b'.visits → UpSame K (if x then a else b).visits (if x then a' else b').visits
  if_up true a b a' b' f g = f
  if_up false a b a' b' f g = g

  -- after a body that is the same up to the first read outside
  after_up : (b : Stmt) (r s : Execution) → Up r s → UpSame K (execute d b r).visits (execute d b s).visits → Up (execute d b r) (execute d b s)
  after_up b r s up h = record { visits = h; same = λ a. exec_same d u v b r s (up.same (inside_before r (execute d b r) (exec_extends d r b) a)) (inside_outer d K u v au av _ a) }

  mutual
    exec_up : (b : Stmt) (r s : Execution) → Up r s → UpSame K (execute d b r).visits (execute d b s).visits
    exec_up (block p ss) r s up = all_up ss r s up
    exec_up (branch p n t b other) r s up =
        let r1 : Execution = with_visits r (at_line n ∷ []) in
        let s1 : Execution = with_visits s (at_line n ∷ []) in
        let tested : Execution = evaluate d t r1 in
        let tested' : Execution = evaluate d t s1 in
        let first : Up r1 s1 = line_up n r s up in
        let now : Up tested tested' = tested_up t r1 s1 first in
        up_by_ext tested tested' _ _ now.visits (choose_extends d tested (truth (value d r.values t)) (execute d b tested) (execute_all d other tested) (exec_extends d tested b) (all_extends d tested other)) (choose_extends d tested' (truth (value d s.values t)) (execute d b tested') (execute_all d other tested') (exec_extends d tested' b) (all_extends d tested' other))
        (λ a. subst (λ y. UpSame K (choose (truth (value d r.values t)) (execute d b tested) (execute_all d other tested)).visits (choose (truth y) (execute d b tested') (execute_all d other tested')).visits) (tested_value t r1 s1 first a)
        (choose_up (truth (value d r.values t)) (execute d b tested) (execute_all d other tested) (execute d b tested') (execute_all d other tested') (exec_up b tested tested' now) (all_up other tested tested' now)))
    exec_up (select p n kind t arms) r s up =
        let r1 : Execution = with_visits r (at_line n ∷ []) in
        let s1 : Execution = with_visits s (at_line n ∷ []) in
        let tested : Execution = evaluate d t r1 in
        let tested' : Execution = evaluate d t s1 in
        let first : Up r1 s1 = line_up n r s up in
        let now : Up tested tested' = tested_up t r1 s1 first in
        up_by_ext tested tested' _ _ now.visits (arms_extend d tested kind (value d r.values t) arms (execute_default d arms) (default_extends d tested arms)) (arms_extend d tested' kind (value d s.values t) arms (execute_default d arms) (default_extends d tested' arms))
        (λ a. subst (λ y. UpSame K (execute_arms d kind (value d r.values t) arms (execute_default d arms) tested).visits (execute_arms d kind y arms (execute_default d arms) tested').visits) (tested_value t r1 s1 first a)
        (arms_up kind (value d r.values t) arms (execute_default d arms) (λ r2 s2 up2. default_up arms r2 s2 up2) (λ r0 r2 e. default_extends d r0 arms r2 e) tested tested' now))
    exec_up (turns p n ss) r s up = all_up ss (with_visits r (at_line n ∷ [])) (with_visits s (at_line n ∷ [])) (line_up n r s up)
    exec_up (set p n blocking x t) r s up = set_up n blocking x t r s up
    exec_up (empty p) r s up = up.visits

    all_up : (ss : Stmts) (r s : Execution) → Up r s → UpSame K (execute_all d ss r).visits (execute_all d ss s).visits
    all_up no_stmts r s up = up.visits
    all_up (a_stmt b ss) r s up = all_up ss (execute d b r) (execute d b s) (after_up b r s up (exec_up b r s up))

    arms_up : (kind : CaseKind) (on : List Bit) (arms : Arms) (otherwise : Execution → Execution) → ((r s : Execution) → Up r s → UpSame K (otherwise r).visits (otherwise s).visits) → ((r0 r : Execution) → Extends d r0 r → Extends d r0 (otherwise r)) → (r s : Execution) → Up r s → UpSame K (execute_arms d kind on arms otherwise r).visits (execute_arms d kind on arms otherwise s).visits
    arms_up kind on no_arms otherwise o e r s up = o r s up
    arms_up kind on (arm labels x arms) otherwise o e r s up =
        let seen : Execution = with_visits r (label_visits d kind on r labels) in
        let seen' : Execution = with_visits s (label_visits d kind on s labels) in
        let now : Up seen seen' = seen_up kind on labels r s up in
        up_by_ext seen seen' _ _ now.visits
        (if_extends d seen (some_match d kind on r.values labels) (execute d x seen) (execute_arms d kind on arms otherwise seen) (exec_extends d seen x) (arms_extend d seen kind on arms otherwise (e seen)))
        (if_extends d seen' (some_match d kind on s.values labels) (execute d x seen') (execute_arms d kind on arms otherwise seen') (exec_extends d seen' x) (arms_extend d seen' kind on arms otherwise (e seen')))
        (λ a.
        let h = inside_halves K r.visits (label_visits d kind on r labels) a in
        subst (λ y. UpSame K (if some_match d kind on r.values labels then execute d x seen else execute_arms d kind on arms otherwise seen).visits (if y then execute d x seen' else execute_arms d kind on arms otherwise seen').visits) (labels_same d u v kind on r s (up.same h.0) labels (inside_outer d K u v au av _ h.1)).0
        (if_up (some_match d kind on r.values labels) (execute d x seen) (execute_arms d kind on arms otherwise seen) (execute d x seen') (execute_arms d kind on arms otherwise seen') (exec_up x seen seen' now) (arms_up kind on arms otherwise o e seen seen' now)))

    default_up : (arms : Arms) (r s : Execution) → Up r s → UpSame K (execute_default d arms r).visits (execute_default d arms s).visits
    default_up no_arms r s up = up.visits
    default_up (arm labels x arms) r s up =
        if_up (is_default labels) (execute d x r) (execute_default d arms r) (execute d x s) (execute_default d arms s) (exec_up x r s up) (default_up arms r s up)

  -- executions on two states that agree with the map are the same up to the first read outside it
  pub execution_up : (b : Stmt) → UpSame K (execution d b u).visits (execution d b v).visits
  execution_up b = exec_up b (execution_start u) (execution_start v) (record { visits = tt; same = λ a. record { blocking = refl; nonblocking = refl; visits = refl; left = λ c. refl; right = λ c. refl } })

-- so what one of them visits up to there, each does
pub visits_on_all : (d : Design) (K : PartialMap) (b : Stmt) (x : Visit) → VisitsFrom d K b x → (v : Values Bit) → Agrees d K v → UpToOutside K x (execution d b v).visits
visits_on_all d K b x from v av = up_visits K x (execution d b from.0).visits (execution d b v).visits (execution_up d K from.0 v from.1 av b) from.2
