-- One execution of a body on a state: what it writes, and what it visits, in order (IEEE 1364-2001, clause 9).
use Rattle.std.specs.Prelude.{◌||◌, ◌∷◌, ◌++◌, if◌then◌else◌, ℕ, Bool, true, false, List, [], map, Option, Some, None}
use Rattle.std.specs.List.{list_all, list_any}
use Rattle.event_machine.specs.Cell.{Cell, Update, Values, Write, put_all, same_cell}
use Rattle.four_state.specs.Operators.{matches}
use Rattle.four_state.specs.Vector.{extend, truth}
use Rattle.four_state.specs.declared.bit.Bit.{Bit}
use Rattle.four_state.specs.declared.operator.Binary.{Binary}
use Rattle.four_state.specs.declared.operator.Binary.TheVariants.{BitwiseAnd, BitwiseOr, LogicalAnd, LogicalOr}
use Rattle.four_state.specs.declared.operator.CaseKind.{CaseKind}
use Rattle.four_state.specs.declared.truth.Truth.{Truth}
use Rattle.four_state.specs.declared.truth.Truth.TheVariants.{False, True}
use Rattle.design_model.specs.Tree.{Arms, Stmt, Stmts, Target, Targets, Term, Terms, a_stmt, a_target, a_term, all_of, arm, binary, bit, bits_of, block, branch, choice, concat, empty, no_arms, no_stmts, no_targets, no_terms, number, part, repeat, select, set, several, sign, signal, slide, turns, unary, word, word_of}
use Rattle.design_model.specs.Design.{Design, Thing, a_signal, a_word, cells}
use Rattle.design_model.specs.Value.{head, value, word_named}
use Rattle.design_model.specs.Assignment.{target_width, target_writes}
pub use Rattle.point_words.specs.declared.node_case.NodeCase.{NodeCase}
pub use Rattle.point_words.specs.declared.node_case.NodeCase.TheVariants.{ValueFalse, ValueTrue, LeftFalse, RightFalse, LeftTrue, RightTrue, BothFalse, FalseTrue, TrueFalse, BothTrue}

-- what an execution visits
pub data Visit : Type 0 where
  at_line : ℕ → Visit  -- a line point reached
  at_node : ℕ → NodeCase → Visit  -- a counted node evaluated with this case
  reads : Thing → Bool → Visit  -- a thing read; with true after the execution has written it whole by blocking writes
  writes_word : ℕ → ℕ → Visit  -- a memory word written

-- the case, if this truth is true
abbrev pub if_true : Truth → NodeCase → List NodeCase
if_true True c = c ∷ []
if_true _ c = []

-- the case, if this truth is false
abbrev pub if_false : Truth → NodeCase → List NodeCase
if_false False c = c ∷ []
if_false _ c = []

-- the cases of two operands that are each true or false
abbrev pub four_cases : Truth → Truth → List NodeCase
four_cases False False = BothFalse ∷ []
four_cases False True = FalseTrue ∷ []
four_cases True False = TrueFalse ∷ []
four_cases True True = BothTrue ∷ []
four_cases _ _ = []

-- the cases of an and
abbrev pub and_cases : Truth → Truth → List NodeCase
and_cases True True = BothTrue ∷ []
and_cases a b = if_false a LeftFalse ++ if_false b RightFalse

-- the cases of an or
abbrev pub or_cases : Truth → Truth → List NodeCase
or_cases False False = BothFalse ∷ []
or_cases a b = if_true a LeftTrue ++ if_true b RightTrue

-- the cases that hold of an operator with two operands
abbrev pub two_cases : Binary → Truth → Truth → List NodeCase
two_cases BitwiseAnd a b = and_cases a b
two_cases LogicalAnd a b = and_cases a b
two_cases BitwiseOr a b = or_cases a b
two_cases LogicalOr a b = or_cases a b
two_cases _ a b = four_cases a b

-- the cases that hold of a term as a node: of two operands by their truths, else by its own value
abbrev pub cases : Design → Values Bit → Term → List NodeCase
cases d v (binary h op t u) = two_cases op (truth (value d v t)) (truth (value d v u))
cases d v t = if_false (truth (value d v t)) ValueFalse ++ if_true (truth (value d v t)) ValueTrue

-- the cases that an operator with two operands can have
abbrev pub operator_cases : Binary → List NodeCase
operator_cases BitwiseAnd = LeftFalse ∷ RightFalse ∷ BothTrue ∷ []
operator_cases LogicalAnd = LeftFalse ∷ RightFalse ∷ BothTrue ∷ []
operator_cases BitwiseOr = LeftTrue ∷ RightTrue ∷ BothFalse ∷ []
operator_cases LogicalOr = LeftTrue ∷ RightTrue ∷ BothFalse ∷ []
operator_cases _ = BothFalse ∷ FalseTrue ∷ TrueFalse ∷ BothTrue ∷ []

-- the cases that a node can have
abbrev pub node_cases : Term → List NodeCase
node_cases (binary h op t u) = operator_cases op
node_cases t = ValueFalse ∷ ValueTrue ∷ []

-- the visits of a term as a node, if it is a counted one
abbrev pub node_visits : Option ℕ → List NodeCase → List Visit
node_visits None cs = []
node_visits (Some n) cs = map (at_node n) cs

-- the read of a word, if the index names one
abbrev pub word_read : (Thing → Bool) → ℕ → Option ℕ → List Visit
word_read inner m None = []
word_read inner m (Some i) = reads (a_word m i) (inner (a_word m i)) ∷ []

-- what the evaluation of a term visits: from left to right, an index before the thing that it indexes, a node after its operands
abbrev mutual
  pub visits_of : Design → Values Bit → (Thing → Bool) → Term → List Visit
  visits_of d v inner (number h n) = node_visits h.node (cases d v (number h n))
  visits_of d v inner (signal h s) = reads (a_signal s) (inner (a_signal s)) ∷ node_visits h.node (cases d v (signal h s))
  visits_of d v inner (word h m i) = visits_of d v inner i ++ word_read inner m (word_named d v m i) ++ node_visits h.node (cases d v (word h m i))
  visits_of d v inner (bit h t i) = visits_of d v inner i ++ visits_of d v inner t ++ node_visits h.node (cases d v (bit h t i))
  visits_of d v inner (part h t i j) = visits_of d v inner i ++ visits_of d v inner j ++ visits_of d v inner t ++ node_visits h.node (cases d v (part h t i j))
  visits_of d v inner (slide h t b w up) = visits_of d v inner b ++ visits_of d v inner w ++ visits_of d v inner t ++ node_visits h.node (cases d v (slide h t b w up))
  visits_of d v inner (unary h op t) = visits_of d v inner t ++ node_visits h.node (cases d v (unary h op t))
  visits_of d v inner (binary h op t u) = visits_of d v inner t ++ visits_of d v inner u ++ node_visits h.node (cases d v (binary h op t u))
  visits_of d v inner (choice h c t u) = visits_of d v inner c ++ visits_of d v inner t ++ visits_of d v inner u ++ node_visits h.node (cases d v (choice h c t u))
  visits_of d v inner (concat h ts) = visits_of_all d v inner ts ++ node_visits h.node (cases d v (concat h ts))
  visits_of d v inner (repeat h n ts) = visits_of d v inner n ++ visits_of_all d v inner ts ++ node_visits h.node (cases d v (repeat h n ts))
  visits_of d v inner (sign h s t) = visits_of d v inner t ++ node_visits h.node (cases d v (sign h s t))

  pub visits_of_all : Design → Values Bit → (Thing → Bool) → Terms → List Visit
  visits_of_all d v inner no_terms = []
  visits_of_all d v inner (a_term t ts) = visits_of d v inner t ++ visits_of_all d v inner ts

-- what the indexes in a target visit
abbrev mutual
  pub index_visits : Design → Values Bit → (Thing → Bool) → Target → List Visit
  index_visits d v inner (all_of s) = []
  index_visits d v inner (bits_of s low w) = visits_of d v inner low
  index_visits d v inner (word_of m i) = visits_of d v inner i
  index_visits d v inner (several ts) = indexes_visits d v inner ts

  pub indexes_visits : Design → Values Bit → (Thing → Bool) → Targets → List Visit
  indexes_visits d v inner no_targets = []
  indexes_visits d v inner (a_target t ts) = index_visits d v inner t ++ indexes_visits d v inner ts

-- the write of a word, if the index names one
abbrev pub word_written : ℕ → Option ℕ → List Visit
word_written m None = []
word_written m (Some i) = writes_word m i ∷ []

-- the memory words that are written
abbrev mutual
  pub words_written : Design → Values Bit → Target → List Visit
  words_written d v (all_of s) = []
  words_written d v (bits_of s low w) = []
  words_written d v (word_of m i) = word_written m (word_named d v m i)
  words_written d v (several ts) = all_words_written d v ts

  pub all_words_written : Design → Values Bit → Targets → List Visit
  all_words_written d v no_targets = []
  all_words_written d v (a_target t ts) = words_written d v t ++ all_words_written d v ts

-- an execution so far
pub record Execution : Type 0 where
  pub values : Values Bit  -- after the blocking writes
  pub blocking : List (Write Bit)
  pub nonblocking : List (Update Bit)  -- one for each assignment
  pub visits : List Visit

-- nothing has been executed yet
abbrev pub execution_start : Values Bit → Execution
execution_start v = record { values = v; blocking = []; nonblocking = []; visits = [] }

-- the writes write each of the cells
abbrev pub covers : List (Write Bit) → List Cell → Bool
covers ws cs = list_all (λ c. list_any (λ w. same_cell w.cell c) ws) cs

-- whether the thing is written whole by blocking writes so far
abbrev pub is_inner : Design → Execution → Thing → Bool
is_inner d r x = covers r.blocking (cells d x)

-- these visits come next
abbrev pub with_visits : Execution → List Visit → Execution
with_visits r vs = record r { visits = r.visits ++ vs }

-- a term is evaluated
abbrev pub evaluate : Design → Term → Execution → Execution
evaluate d t r = with_visits r (visits_of d r.values (is_inner d r) t)

-- a blocking assignment makes these writes at once (IEEE 1364-2001, 9.2.1)
abbrev pub write_now : List (Write Bit) → Execution → Execution
write_now ws r = record r { values = put_all r.values ws; blocking = r.blocking ++ ws }

-- a nonblocking assignment schedules this update (IEEE 1364-2001, 9.2.2)
abbrev pub queue_update : Update Bit → Execution → Execution
queue_update u r = record r { nonblocking = r.nonblocking ++ u ∷ [] }

-- an assignment visits its line point, the indexes of its target, its right side, and a word that it writes
abbrev pub assignment_visits : Design → ℕ → Target → Term → Execution → List Visit
assignment_visits d n x t r = (at_line n ∷ index_visits d r.values (is_inner d r) x) ++ visits_of d r.values (is_inner d r) t ++ words_written d r.values x

-- the writes of an assignment: its value, cut or extended to the target
abbrev pub assignment_writes : Design → Target → Term → Execution → List (Write Bit)
assignment_writes d x t r = target_writes d r.values x (extend (target_width d x) (head t).signed (value d r.values t))

-- an assignment: its visits, then the write
abbrev pub execute_assignment : Design → ℕ → Bool → Target → Term → Execution → Execution
execute_assignment d n blocking x t r =
    let visited : Execution = with_visits r (assignment_visits d n x t r) in
    if blocking then write_now (assignment_writes d x t r) visited else queue_update (assignment_writes d x t r) visited

-- the labels of an arm up to the one that matches, and whether one does
abbrev pub some_match : Design → CaseKind → List Bit → Values Bit → Terms → Bool
some_match d kind on v no_terms = false
some_match d kind on v (a_term t ts) = matches kind on (value d v t) || some_match d kind on v ts

-- the visits of labels, up to the one that matches
abbrev pub label_visits : Design → CaseKind → List Bit → Execution → Terms → List Visit
label_visits d kind on r no_terms = []
label_visits d kind on r (a_term t ts) =
    visits_of d r.values (is_inner d r) t ++ (if matches kind on (value d r.values t) then [] else label_visits d kind on r ts)

-- an arm without labels
abbrev pub is_default : Terms → Bool
is_default no_terms = true
is_default (a_term t ts) = false

-- the first where the truth is true
abbrev pub choose : Truth → Execution → Execution → Execution
choose True a b = a
choose _ a b = b

-- a body runs whole. An if takes its first branch exactly where its test has a known 1 bit
abbrev mutual
  pub execute : Design → Stmt → Execution → Execution
  execute d (block p ss) r = execute_all d ss r
  execute d (branch p n t s other) r =
      let tested : Execution = evaluate d t (with_visits r (at_line n ∷ [])) in
      choose (truth (value d r.values t)) (execute d s tested) (execute_all d other tested)
  execute d (select p n kind t arms) r =
      let tested : Execution = evaluate d t (with_visits r (at_line n ∷ [])) in
      execute_arms d kind (value d r.values t) arms (execute_default d arms) tested
  execute d (turns p n ss) r = execute_all d ss (with_visits r (at_line n ∷ []))
  execute d (set p n blocking x t) r = execute_assignment d n blocking x t r
  execute d (empty p) r = r

  pub execute_all : Design → Stmts → Execution → Execution
  execute_all d no_stmts r = r
  execute_all d (a_stmt s ss) r = execute_all d ss (execute d s r)

  -- the arms from here on: the first that has a matching label, else the default
  pub execute_arms : Design → CaseKind → List Bit → Arms → (Execution → Execution) → Execution → Execution
  execute_arms d kind on no_arms otherwise r = otherwise r
  execute_arms d kind on (arm labels s arms) otherwise r =
      let seen : Execution = with_visits r (label_visits d kind on r labels) in
      if some_match d kind on r.values labels then execute d s seen else execute_arms d kind on arms otherwise seen

  -- the default arm, if there is one
  pub execute_default : Design → Arms → Execution → Execution
  execute_default d no_arms r = r
  execute_default d (arm labels s arms) r = if is_default labels then execute d s r else execute_default d arms r

-- the execution of a body on a state
abbrev pub execution : Design → Stmt → Values Bit → Execution
execution d s v = execute d s (execution_start v)
