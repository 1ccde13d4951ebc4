-- The line points of a flat statement are those that are in its text, each with a number of its own.
use Rattle.std.proofs.Common.{◌⊎◌, inl, inr, ℕ, ◌+◌, List, [], ◌∷◌, ◌++◌, arith}
use Rattle.four_state.specs.Vector.{Vector}
use Rattle.design_model.specs.Design.{In}
use Rattle.design_model.specs.Numbered as law
use Rattle.design_model.specs.Numbered.{LineAt, line_at}
use Rattle.point_words.specs.declared.line_word.LineWord.TheVariants.{If, Case, For, Assign}
use Rattle.design_model.specs.Tree.{Stmt}
use Rattle.verilog_tree.specs.Tree.{Statement, sequential_block, if_statement, case_statement, for_loop, assignment, system_task, null_statement, Statements, no_statements, a_statement, CaseItems, no_items, case_item}
use Rattle.elab_const.specs.declared.width.Shape.{Shape}
use Rattle.flat_design.specs.Bodies.{statement, statements, arms, turn_stmts, case_shape, in_turn}
use Rattle.flat_design.specs.Loops as loops
use Rattle.flat_design.specs.Numbering.{nodes, all_nodes, condition_nodes, statement_nodes, lines, all_lines, item_lines}
use Rattle.flat_design.specs.Scope.{Scope}
use Rattle.flat_laws.proofs.Members.{in_append, in_left, in_right}
use Rattle.flat_laws.proofs.Once.{Once, once_none, once_one, once_join}

-- the line points that are in a statement, of a loop once, where they are numbered from l on
abbrev mutual
  pub text_lines : Statement → ℕ → List LineAt
  text_lines (sequential_block p ss) l = all_text_lines ss l
  text_lines (if_statement p c s other) l = (line_at l p If ∷ []) ++ (text_lines s (l + 1) ++ all_text_lines other (l + 1 + lines s))
  text_lines (case_statement p kind e is) l = (line_at l p Case ∷ []) ++ item_text_lines is (l + 1)
  text_lines (for_loop p h s) l = (line_at l p For ∷ []) ++ text_lines s (l + 1)
  text_lines (assignment p x blocking v) l = line_at l p Assign ∷ []
  text_lines (system_task p) l = []
  text_lines (null_statement p) l = []

  pub all_text_lines : Statements → ℕ → List LineAt
  all_text_lines no_statements l = []
  all_text_lines (a_statement s ss) l = text_lines s l ++ all_text_lines ss (l + lines s)

  pub item_text_lines : CaseItems → ℕ → List LineAt
  item_text_lines no_items l = []
  item_text_lines (case_item labels s is) l = text_lines s l ++ item_text_lines is (l + lines s)

abbrev pub line_number : LineAt → ℕ
line_number x = x.line

mutual
  pub lines_once : (s : Statement) (l : ℕ) → Once line_number l (l + lines s) (text_lines s l)
  lines_once (sequential_block p ss) l = all_lines_once ss l
  lines_once (if_statement p c s other) l =
      once_join line_number l l (l + 1) (l + 1) (l + 1 + lines s + all_lines other) _ (line_at l p If ∷ []) _ (omega arith) (once_one line_number l (l + 1) (line_at l p If) (omega arith) (omega arith))
      (once_join line_number (l + 1) (l + 1) (l + 1 + lines s) (l + 1 + lines s) (l + 1 + lines s + all_lines other) (l + 1 + lines s + all_lines other) (text_lines s (l + 1)) _ (omega arith) (lines_once s (l + 1)) (all_lines_once other (l + 1 + lines s)))
  lines_once (case_statement p kind e is) l =
      once_join line_number l l (l + 1) (l + 1) (l + 1 + item_lines is) _ (line_at l p Case ∷ []) _ (omega arith) (once_one line_number l (l + 1) (line_at l p Case) (omega arith) (omega arith)) (item_lines_once is (l + 1))
  lines_once (for_loop p h s) l =
      once_join line_number l l (l + 1) (l + 1) (l + 1 + lines s) _ (line_at l p For ∷ []) _ (omega arith) (once_one line_number l (l + 1) (line_at l p For) (omega arith) (omega arith)) (lines_once s (l + 1))
  lines_once (assignment p x blocking v) l = once_one line_number l (l + 1) (line_at l p Assign) (omega arith) (omega arith)
  lines_once (system_task p) l = once_none line_number l _
  lines_once (null_statement p) l = once_none line_number l _

  pub all_lines_once : (ss : Statements) (l : ℕ) → Once line_number l (l + all_lines ss) (all_text_lines ss l)
  all_lines_once no_statements l = once_none line_number l _
  all_lines_once (a_statement s ss) l =
      once_join line_number l l (l + lines s) (l + lines s) (l + lines s + all_lines ss) _ (text_lines s l) _ (omega arith) (lines_once s l) (all_lines_once ss (l + lines s))

  pub item_lines_once : (is : CaseItems) (l : ℕ) → Once line_number l (l + item_lines is) (item_text_lines is l)
  item_lines_once no_items l = once_none line_number l _
  item_lines_once (case_item labels s is) l =
      once_join line_number l l (l + lines s) (l + lines s) (l + lines s + item_lines is) _ (text_lines s l) _ (omega arith) (lines_once s l) (item_lines_once is (l + lines s))

-- each of the first list is in the second
abbrev pub Among : {A : Type 0} → List A → List A → Type 0
Among {A} xs ys = (x : A) → In x xs → In x ys

pub among_both : {A : Type 0} (xs ys as' bs : List A) → Among xs as' → Among ys bs → Among (xs ++ ys) (as' ++ bs)
among_both {A = A} xs ys as' bs h k x l = by_side (in_append x xs ys l)
  where
    by_side : In x xs ⊎ In x ys → In x (as' ++ bs)
    by_side (inl m) = in_left x as' bs (h x m)
    by_side (inr m) = in_right x as' bs (k x m)

among_turns : (vs : List Vector) (f : Vector → Stmt) (ys : List LineAt) → ((v : Vector) → Among (law.lines (f v)) ys) → Among (law.all_lines (turn_stmts vs f)) ys
among_turns [] f ys h x k = absurd k
among_turns (v ∷ vs) f ys h x k = by_turn (among_turns vs f ys h x) (in_append x (law.lines (f v)) (law.all_lines (turn_stmts vs f)) k)
  where
    by_turn : (In x (law.all_lines (turn_stmts vs f)) → In x ys) → In x (law.lines (f v)) ⊎ In x (law.all_lines (turn_stmts vs f)) → In x ys
    by_turn rest (inl m) = h v x m
    by_turn rest (inr m) = rest m

mutual
  pub lines_in_text : (base : ℕ) (g : Scope) (s : Statement) (l n : ℕ) → Among (law.lines (statement base g s l n)) (text_lines s l)
  lines_in_text base g (sequential_block p ss) l n = all_in_text base g ss l n
  lines_in_text base g (if_statement p c s other) l n =
      among_both (line_at l p If ∷ []) _ (line_at l p If ∷ []) _ (λ x h. h)
      (among_both (law.lines (statement base g s (l + 1) (n + condition_nodes g c))) _ (text_lines s (l + 1)) _ (lines_in_text base g s (l + 1) (n + condition_nodes g c)) (all_in_text base g other (l + 1 + lines s) (n + condition_nodes g c + statement_nodes g s)))
  lines_in_text base g (case_statement p kind e is) l n =
      among_both (line_at l p Case ∷ []) _ (line_at l p Case ∷ []) _ (λ x h. h) (items_in_text base g (case_shape g e is) is (l + 1) (n + nodes g e))
  lines_in_text base g (for_loop p h s) l n =
      among_both (line_at l p For ∷ []) _ (line_at l p For ∷ []) _ (λ x h. h)
      (among_turns (loops.turns g h) (λ v. statement base (in_turn h v g) s (l + 1) n) (text_lines s (l + 1)) (λ v. lines_in_text base (in_turn h v g) s (l + 1) n))
  lines_in_text base g (assignment p x blocking v) l n = λ x h. h
  lines_in_text base g (system_task p) l n = λ x h. h
  lines_in_text base g (null_statement p) l n = λ x h. h

  pub all_in_text : (base : ℕ) (g : Scope) (ss : Statements) (l n : ℕ) → Among (law.all_lines (statements base g ss l n)) (all_text_lines ss l)
  all_in_text base g no_statements l n = λ x h. h
  all_in_text base g (a_statement s ss) l n =
      among_both (law.lines (statement base g s l n)) _ (text_lines s l) _ (lines_in_text base g s l n) (all_in_text base g ss (l + lines s) (n + statement_nodes g s))

  pub items_in_text : (base : ℕ) (g : Scope) (w : Shape) (is : CaseItems) (l n : ℕ) → Among (law.arm_lines (arms base g w is l n)) (item_text_lines is l)
  items_in_text base g w no_items l n = λ x h. h
  items_in_text base g w (case_item labels s is) l n =
      among_both (law.lines (statement base g s l (n + all_nodes g labels))) _ (text_lines s l) _ (lines_in_text base g s l (n + all_nodes g labels)) (items_in_text base g w is (l + lines s) (n + all_nodes g labels + statement_nodes g s))
