-- Bodies: the flat statement that a statement becomes, and what is met in it (clause 9).
use Rattle.std.specs.Prelude.{ℕ, ◌+◌, Bool, false, not, ◌&&◌, if◌then◌else◌, List, [], ◌∷◌, ◌++◌, map, flat_map, Result, Ok, Err}
use Rattle.cov_host.specs.declared.place.Place.{Place}
use Rattle.four_state.specs.Vector.{Vector}
use Rattle.design_model.specs.Tree.{Terms, no_terms, a_term, Stmt, block, branch, select, turns, set, empty, Stmts, no_stmts, a_stmt, Arms, no_arms, arm}
use Rattle.tree_sizes.specs.Sizes.{size, labels_size}
use Rattle.verilog_tree.specs.declared.item.Named.{Named}
use Rattle.verilog_tree.specs.Tree.{Expr, Exprs, no_exprs, an_expr, Header, Statement, sequential_block, if_statement, case_statement, for_loop, assignment, system_task, null_statement, Statements, no_statements, a_statement, CaseItems, no_items, case_item}
use Rattle.elab_const.specs.Calls.{told}
use Rattle.elab_const.specs.Cases.{case_answer}
use Rattle.elab_const.specs.Meaning.{one_bit}
use Rattle.elab_const.specs.declared.fault.ConstFault.{ConstFault}
use Rattle.elab_const.specs.declared.width.Shape.{Shape}
use Rattle.flat_design.specs.Expressions.{faults, all_faults}
use Rattle.flat_design.specs.Fault.{Fault, none}
use Rattle.flat_design.specs.Identifiers.{base_name, identifiers, all_identifiers}
use Rattle.flat_design.specs.Loops as loops
use Rattle.flat_design.specs.Numbering.{nodes, all_nodes, condition_nodes, statement_nodes, lines}
use Rattle.flat_design.specs.Scope.{Scope, shape, names, names_faulty, with_turn}
use Rattle.flat_design.specs.Targets.{Mode, target, target_faults, leaves, target_reads, Writing, writing_of}
use Rattle.flat_design.specs.Terms.{term, condition_term, right_side}

-- what elaboration meets, in order: faults, and what the limits count
pub data Met : Type 0 where
  met_fault : Fault → Met
  met_signal : Place → Met
  met_words : Place → ℕ → Met  -- a memory of so many words
  met_process : Place → Met
  met_instance : Place → Met
  met_statement : Place → Met
  met_text : Place → ℕ → Met  -- text of so many parts that is gone through
  met_writing : Writing → Met

-- faults, as they are met
abbrev pub met_faults : List Fault → List Met
met_faults fs = map met_fault fs

-- the targets of an assignment, if they have no fault and name nothing that has one
abbrev pub met_writings : Scope → Mode → Bool → Bool → ℕ → Expr → List Met
met_writings g mode blocking continuous process e =
    if none (target_faults g mode e) && not (names_faulty g e) then map (λ x. met_writing (writing_of g blocking continuous process x)) (leaves e) else []

-- the scope in the turn with this value
abbrev pub in_turn : Header → Vector → Scope → Scope
in_turn h v g = with_turn (base_name h.name).name v g

-- what is met in each turn
abbrev pub met_turns : List Vector → (Vector → List Met) → List Met
met_turns vs f = flat_map f vs

-- what is met in a statement of process number k
abbrev mutual
  pub met : Scope → Mode → ℕ → Statement → List Met
  met g mode k (sequential_block p ss) = met_statement p ∷ all_met g mode k ss
  met g mode k (if_statement p c s other) = met_statement p ∷ met_text p (size c) ∷ met_faults (faults g c) ++ met g mode k s ++ all_met g mode k other
  met g mode k (case_statement p kind e is) = met_statement p ∷ met_text p (size e + labels_size is) ∷ met_faults (faults g e) ++ items_met g mode k is
  met g mode k (for_loop p h s) =
      met_statement p ∷ met_faults (loops.turn_faults g h) ++ met_text h.place (loops.turns_size g h) ∷ met_turns (loops.turns g h) (λ v. met (in_turn h v g) mode k s)
  met g mode k (assignment p x blocking v) = met_statement p ∷ met_text p (size x + size v) ∷ met_faults (target_faults g mode x ++ faults g v) ++ met_writings g mode blocking false k x
  met g mode k (system_task p) = met_statement p ∷ []
  met g mode k (null_statement p) = met_statement p ∷ []

  pub all_met : Scope → Mode → ℕ → Statements → List Met
  all_met g mode k no_statements = []
  all_met g mode k (a_statement s ss) = met g mode k s ++ all_met g mode k ss

  pub items_met : Scope → Mode → ℕ → CaseItems → List Met
  items_met g mode k no_items = []
  items_met g mode k (case_item labels s is) = met_faults (all_faults g labels) ++ met g mode k s ++ items_met g mode k is

-- the shape of a case, once it has no fault
abbrev pub shape_of : Result Shape ConstFault → Shape
shape_of (Ok s) = s
shape_of (Err f) = one_bit

-- the width and sign by which a selector and the labels of its arms are compared
abbrev pub case_shape : Scope → Expr → CaseItems → Shape
case_shape g e is = shape_of (told (case_answer (names g) e is))

-- the labels in the context of the case
abbrev pub label_terms : ℕ → Scope → Shape → Exprs → ℕ → Terms
label_terms base g s no_exprs n = no_terms
label_terms base g s (an_expr e es) n = a_term (term base g e n s) (label_terms base g s es (n + nodes g e))

-- one statement for each turn
abbrev pub turn_stmts : List Vector → (Vector → Stmt) → Stmts
turn_stmts [] f = no_stmts
turn_stmts (v ∷ vs) f = a_stmt (f v) (turn_stmts vs f)

-- the flat statement; its line points are numbered from l on, and its counted nodes from n on
abbrev mutual
  pub statement : ℕ → Scope → Statement → ℕ → ℕ → Stmt
  statement base g (sequential_block p ss) l n = block p (statements base g ss l n)
  statement base g (if_statement p c s other) l n =
      branch p l (condition_term base g c n) (statement base g s (l + 1) (n + condition_nodes g c)) (statements base g other (l + 1 + lines s) (n + condition_nodes g c + statement_nodes g s))
  statement base g (case_statement p kind e is) l n =
      select p l kind (term base g e n (case_shape g e is)) (arms base g (case_shape g e is) is (l + 1) (n + nodes g e))
  statement base g (for_loop p h s) l n = turns p l (turn_stmts (loops.turns g h) (λ v. statement base (in_turn h v g) s (l + 1) n))
  statement base g (assignment p x blocking v) l n = set p l blocking (target base g x n) (right_side base g (shape g x).width v (n + nodes g x))
  statement base g (system_task p) l n = empty p
  statement base g (null_statement p) l n = empty p

  pub statements : ℕ → Scope → Statements → ℕ → ℕ → Stmts
  statements base g no_statements l n = no_stmts
  statements base g (a_statement s ss) l n = a_stmt (statement base g s l n) (statements base g ss (l + lines s) (n + statement_nodes g s))

  pub arms : ℕ → Scope → Shape → CaseItems → ℕ → ℕ → Arms
  arms base g w no_items l n = no_arms
  arms base g w (case_item labels s is) l n =
      arm (label_terms base g w labels n) (statement base g s l (n + all_nodes g labels)) (arms base g w is (l + lines s) (n + all_nodes g labels + statement_nodes g s))

-- names in each turn
abbrev pub names_in_turns : List Vector → (Vector → List Named) → List Named
names_in_turns vs f = flat_map f vs

-- the names that a statement reads, loop headers and bodies without turns excepted
abbrev mutual
  pub reads : Scope → Statement → List Named
  reads g (sequential_block p ss) = all_reads g ss
  reads g (if_statement p c s other) = identifiers c ++ reads g s ++ all_reads g other
  reads g (case_statement p kind e is) = identifiers e ++ items_reads g is
  reads g (for_loop p h s) = names_in_turns (loops.turns g h) (λ v. reads (in_turn h v g) s)
  reads g (assignment p x blocking v) = target_reads x ++ identifiers v
  reads g (system_task p) = []
  reads g (null_statement p) = []

  pub all_reads : Scope → Statements → List Named
  all_reads g no_statements = []
  all_reads g (a_statement s ss) = reads g s ++ all_reads g ss

  pub items_reads : Scope → CaseItems → List Named
  items_reads g no_items = []
  items_reads g (case_item labels s is) = all_identifiers labels ++ reads g s ++ items_reads g is

-- the names that the header of a loop reads
abbrev pub header_reads : Header → List Named
header_reads h = target_reads h.name ++ identifiers h.first ++ identifiers h.test ++ target_reads h.target ++ identifiers h.step

-- the names that the text of a statement reads, in bodies without turns too
abbrev mutual
  pub text_reads : Statement → List Named
  text_reads (sequential_block p ss) = all_text_reads ss
  text_reads (if_statement p c s other) = identifiers c ++ text_reads s ++ all_text_reads other
  text_reads (case_statement p kind e is) = identifiers e ++ items_text_reads is
  text_reads (for_loop p h s) = header_reads h ++ text_reads s
  text_reads (assignment p x blocking v) = target_reads x ++ identifiers v
  text_reads (system_task p) = []
  text_reads (null_statement p) = []

  pub all_text_reads : Statements → List Named
  all_text_reads no_statements = []
  all_text_reads (a_statement s ss) = text_reads s ++ all_text_reads ss

  pub items_text_reads : CaseItems → List Named
  items_text_reads no_items = []
  items_text_reads (case_item labels s is) = all_identifiers labels ++ text_reads s ++ items_text_reads is

-- the names that a statement assigns, bodies without turns excepted
abbrev mutual
  pub assigned : Scope → Statement → List Named
  assigned g (sequential_block p ss) = all_assigned g ss
  assigned g (if_statement p c s other) = assigned g s ++ all_assigned g other
  assigned g (case_statement p kind e is) = items_assigned g is
  assigned g (for_loop p h s) = names_in_turns (loops.turns g h) (λ v. assigned (in_turn h v g) s)
  assigned g (assignment p x blocking v) = map base_name (leaves x)
  assigned g (system_task p) = []
  assigned g (null_statement p) = []

  pub all_assigned : Scope → Statements → List Named
  all_assigned g no_statements = []
  all_assigned g (a_statement s ss) = assigned g s ++ all_assigned g ss

  pub items_assigned : Scope → CaseItems → List Named
  items_assigned g no_items = []
  items_assigned g (case_item labels s is) = assigned g s ++ items_assigned g is
