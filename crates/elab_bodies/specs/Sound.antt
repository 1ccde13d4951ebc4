-- Statements in which nothing is wrong.
use Rattle.std.specs.Prelude.{◌≡◌, true, List, [], ◌∷◌}
use Rattle.four_state.specs.Vector.{Vector}
use Rattle.verilog_tree.specs.Tree.{Statement, sequential_block, if_statement, case_statement, for_loop, assignment, system_task, null_statement, Statements, no_statements, a_statement, CaseItems, no_items, case_item}
use Rattle.flat_design.specs.Bodies.{in_turn}
use Rattle.flat_design.specs.Fault.{none}
use Rattle.flat_design.specs.Loops.{turn_faults, turns}
use Rattle.flat_design.specs.Scope.{Scope}
use Rattle.elab_build.specs.Sound.{IsSound, AreSound, IsSoundTarget}

-- it holds of each value that a loop's variable has
abbrev pub InTurns : List Vector → (Vector → Type 0) → Type 0
InTurns [] p = Unit {0}
InTurns (v ∷ vs) p = p v × InTurns vs p

-- no expression, target or loop of the statement has a fault
abbrev mutual
  pub IsSoundStatement : Scope → Statement → Type 0
  IsSoundStatement g (sequential_block p ss) = AreSoundStatements g ss
  IsSoundStatement g (if_statement p c s other) = IsSound g c × IsSoundStatement g s × AreSoundStatements g other
  IsSoundStatement g (case_statement p kind e is) = IsSound g e × AreSoundItems g is
  IsSoundStatement g (for_loop p h s) = (none (turn_faults g h) ≡ true) × InTurns (turns g h) (λ v. IsSoundStatement (in_turn h v g) s)
  IsSoundStatement g (assignment p x blocking v) = IsSoundTarget g x × IsSound g v
  IsSoundStatement g (system_task p) = Unit {0}
  IsSoundStatement g (null_statement p) = Unit {0}

  pub AreSoundStatements : Scope → Statements → Type 0
  AreSoundStatements g no_statements = Unit {0}
  AreSoundStatements g (a_statement s ss) = IsSoundStatement g s × AreSoundStatements g ss

  pub AreSoundItems : Scope → CaseItems → Type 0
  AreSoundItems g no_items = Unit {0}
  AreSoundItems g (case_item labels s is) = AreSound g labels × IsSoundStatement g s × AreSoundItems g is
