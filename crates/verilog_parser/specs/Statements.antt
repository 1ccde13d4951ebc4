-- The words of statements, and what the parts of statements represent.
use Rattle.std.specs.Prelude.{ℕ, List, [], ◌∷◌, ◌++◌, Option}
use Rattle.cov_host.specs.declared.place.Place.{Place}
use Rattle.verilog_lexer.specs.Tokens.{Lexeme}
use Rattle.verilog_tree.specs.Tree as t
use Rattle.verilog_tree.specs.View.{expr_view, arm_view, arms_view}
use Rattle.verilog_tree.specs.declared.statement.Arm.{Arm}
use Rattle.std.specs.Global.{Vec}
use Rattle.grammar_rules.specs.Rule.{both, made}
use Rattle.verilog_grammar.specs.Kind.{code}
use Rattle.verilog_grammar.specs.declared.kind.Kind.TheVariants as k
use Rattle.verilog_grammar.specs.declared.body.Body.{Body}
use Rattle.verilog_grammar.specs.declared.body.Body.TheVariants.{Combinational, Clocked, Initial}
use Rattle.verilog_grammar.specs.Language.{expression}
use Rattle.verilog_grammar.specs.Verilog.{begins}
use Rattle.verilog_grammar.specs.Parts.{Phrased, only, optional, in_parentheses}
use Rattle.verilog_grammar.specs.Statements.{arguments_rule}
use Rattle.verilog_parser.specs.declared.statement.LoopHeader.{LoopHeader}
use Rattle.verilog_expressions.specs.Views.{set_view}

-- the words of a case
abbrev pub case_words : List ℕ
case_words = code k.Case ∷ code k.Casez ∷ code k.Casex ∷ []

-- the system tasks that a body may have
abbrev pub task_words : Body → List ℕ
task_words Combinational = []
task_words Clocked = code k.Task ∷ []
task_words Initial = code k.Task ∷ code k.InitialTask ∷ []

-- what an argument of a system task begins with
abbrev pub argument_words : List ℕ
argument_words = begins expression ++ code k.Quoted ∷ []

-- what is read and dropped
abbrev pub no_value : Unit {0} → Unit {0}
no_value u = tt

-- a default, and the arms after it
abbrev pub default_arms_view : Arm × Vec Arm → t.CaseArm × List t.CaseArm
default_arms_view p = (arm_view p.0, arms_view p.1.items)

-- what is in the parentheses of a loop
abbrev pub header_view : LoopHeader → (t.Expr × t.Expr) × (t.Expr × (t.Expr × t.Expr))
header_view h = (set_view h.start, (expr_view h.test, set_view h.turn))

-- what follows the word of a system task
abbrev pub task_end : Phrased (Option (Option (Unit {0})) × Lexeme)
task_end = both (optional (in_parentheses (optional arguments_rule))) (only k.Semicolon)

-- the same, where the word has this place
abbrev pub task_end_rule : Place → Phrased t.Statement
task_end_rule place = made (λ _. t.system_task place) task_end
