-- The line points of a flat statement that is numbered from l on have the numbers from l to l plus its line points in the text.
use Rattle.std.proofs.Common.{ℕ, ◌<◌, ◌≤◌, ◌+◌, List, [], ◌∷◌, ◌++◌, arith}
use Rattle.four_state.specs.Vector.{Vector}
use Rattle.design_model.specs.Tree.{Stmt}
use Rattle.design_model.specs.Numbered as law
use Rattle.design_model.specs.Numbered.{LineAt}
use Rattle.verilog_tree.specs.Tree.{Statement, sequential_block, if_statement, case_statement, for_loop, assignment, system_task, null_statement, Statements, no_statements, a_statement, CaseItems, no_items, case_item}
use Rattle.elab_const.specs.declared.width.Shape.{Shape}
use Rattle.flat_design.specs.Bodies.{statement, statements, arms, turn_stmts, case_shape, in_turn}
use Rattle.flat_laws.specs.Laws.{AreWithin}
use Rattle.flat_design.specs.Loops as loops
use Rattle.flat_design.specs.Numbering as m
use Rattle.flat_design.specs.Numbering.{nodes, all_nodes, condition_nodes, statement_nodes}
use Rattle.flat_design.specs.Scope.{Scope}

within_append : (low high : ℕ) (xs ys : List LineAt) → AreWithin low high xs → AreWithin low high ys → AreWithin low high (xs ++ ys)
within_append low high [] ys h k = k
within_append low high (x ∷ xs) ys h k = (h.0, h.1, within_append low high xs ys h.2 k)

within_wider : (low high a b : ℕ) (xs : List LineAt) → a ≤ low → high ≤ b → AreWithin low high xs → AreWithin a b xs
within_wider low high a b [] h k all = tt
within_wider low high a b (x ∷ xs) h k all =
    let from : low ≤ x.line = all.0 in
    let below : x.line < high = all.1 in
    (omega arith, omega arith, within_wider low high a b xs h k all.2)

within_turns : (low high : ℕ) (vs : List Vector) (f : Vector → Stmt) → ((v : Vector) → AreWithin low high (law.lines (f v))) → AreWithin low high (law.all_lines (turn_stmts vs f))
within_turns low high [] f h = tt
within_turns low high (v ∷ vs) f h = within_append low high (law.lines (f v)) (law.all_lines (turn_stmts vs f)) (h v) (within_turns low high vs f h)

mutual
  pub lines_within : (base : ℕ) (g : Scope) (s : Statement) (l n : ℕ) → AreWithin l (l + m.lines s) (law.lines (statement base g s l n))
  lines_within base g (sequential_block p ss) l n = all_within base g ss l n
  lines_within base g (if_statement p c s other) l n = (
    omega arith,
    omega arith,
    within_append l (l + (1 + m.lines s + m.all_lines other)) _ _
        (within_wider (l + 1) (l + 1 + m.lines s) l _ _ (omega arith) (omega arith) (lines_within base g s (l + 1) (n + condition_nodes g c)))
        (within_wider (l + 1 + m.lines s) (l + 1 + m.lines s + m.all_lines other) l _ _ (omega arith) (omega arith) (all_within base g other (l + 1 + m.lines s) (n + condition_nodes g c + statement_nodes g s))),
  )
  lines_within base g (case_statement p kind e is) l n =
      (omega arith, omega arith, within_wider (l + 1) (l + 1 + m.item_lines is) l _ _ (omega arith) (omega arith) (items_within base g (case_shape g e is) is (l + 1) (n + nodes g e)))
  lines_within base g (for_loop p h s) l n = (
    omega arith,
    omega arith,
    within_wider (l + 1) (l + 1 + m.lines s) l _ _ (omega arith) (omega arith)
        (within_turns (l + 1) (l + 1 + m.lines s) (loops.turns g h) _ (λ v. lines_within base (in_turn h v g) s (l + 1) n)),
  )
  lines_within base g (assignment p x blocking v) l n = (omega arith, omega arith, tt)
  lines_within base g (system_task p) l n = tt
  lines_within base g (null_statement p) l n = tt

  pub all_within : (base : ℕ) (g : Scope) (ss : Statements) (l n : ℕ) → AreWithin l (l + m.all_lines ss) (law.all_lines (statements base g ss l n))
  all_within base g no_statements l n = tt
  all_within base g (a_statement s ss) l n =
      within_append l (l + (m.lines s + m.all_lines ss)) _ _
      (within_wider l (l + m.lines s) l _ _ (omega arith) (omega arith) (lines_within base g s l n))
      (within_wider (l + m.lines s) (l + m.lines s + m.all_lines ss) l _ _ (omega arith) (omega arith) (all_within base g ss (l + m.lines s) (n + statement_nodes g s)))

  pub items_within : (base : ℕ) (g : Scope) (w : Shape) (is : CaseItems) (l n : ℕ) → AreWithin l (l + m.item_lines is) (law.arm_lines (arms base g w is l n))
  items_within base g w no_items l n = tt
  items_within base g w (case_item labels s is) l n =
      within_append l (l + (m.lines s + m.item_lines is)) _ _
      (within_wider l (l + m.lines s) l _ _ (omega arith) (omega arith) (lines_within base g s l (n + all_nodes g labels)))
      (within_wider (l + m.lines s) (l + m.lines s + m.item_lines is) l _ _ (omega arith) (omega arith) (items_within base g w is (l + m.lines s) (n + all_nodes g labels + statement_nodes g s)))
