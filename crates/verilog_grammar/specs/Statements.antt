-- Statements (IEEE 1364-2001 annex A.6).
use Rattle.std.specs.Prelude.{Bool, false, List, [], ◌∷◌, ◌++◌, Option, Some, None}
use Rattle.four_state.specs.declared.operator.CaseKind.{CaseKind}
use Rattle.four_state.specs.declared.operator.CaseKind.TheVariants.{Exact, AnyZ, AnyXZ}
use Rattle.verilog_lexer.specs.Tokens.{Lexeme}
use Rattle.verilog_tree.specs.Tree.{Expr, place_of, Statement, Statements, no_statements, a_statement, statements_of, CaseArm, arms_of, sequential_block, if_statement, case_statement, for_loop, assignment, system_task, null_statement}
use Rattle.grammar_rules.specs.Rule.{both, either, many, maybe, made, nest}
use Rattle.verilog_grammar.specs.Kind.{Kind, code, kind_of}
use Rattle.verilog_grammar.specs.declared.kind.Kind.TheVariants as k
use Rattle.verilog_grammar.specs.declared.body.Body.{Body}
use Rattle.verilog_grammar.specs.declared.body.Body.TheVariants.{Combinational, Clocked, Initial}
use Rattle.verilog_grammar.specs.Language.{target, statement}
use Rattle.verilog_grammar.specs.Parts.{Phrased, only, any_of, after, before, optional, present, is_there, with_front, listed, in_parentheses, an_expression}
use Rattle.verilog_grammar.specs.Expressions.{exprs_rule}

unfoldable pub statements_rule : Body → Phrased (List Statement)
statements_rule b = many (nest (statement b))

abbrev pub block_of : Lexeme × (Option Lexeme × List Statement) → Statement
block_of p = sequential_block p.0.place (statements_of p.1.1)

-- "begin" [ ":" name ] { stmt } "end"
unfoldable pub block_rule : Body → Phrased Statement
block_rule b = made block_of (both (only k.Begin) (both (optional (after k.Colon (only k.Identifier))) (before (statements_rule b) k.End)))

abbrev pub else_of : Option Statement → Statements
else_of None = no_statements
else_of (Some s) = a_statement s no_statements

abbrev pub if_of : Lexeme × (Expr × (Statement × Option Statement)) → Statement
if_of p = if_statement p.0.place p.1.0 p.1.1.0 (else_of p.1.1.1)

-- "if" "(" expr ")" stmt [ "else" stmt ]; an else belongs to the nearest if without one
unfoldable pub if_rule : Body → Phrased Statement
if_rule b = made if_of (both (only k.If) (both (in_parentheses an_expression) (both (nest (statement b)) (maybe (code k.Else) (nest (statement b))))))

abbrev pub case_kind : Kind → CaseKind
case_kind k.Casez = AnyZ
case_kind k.Casex = AnyXZ
case_kind _ = Exact

abbrev pub label_arm_of : List Expr × Statement → CaseArm
label_arm_of p = record { labels = p.0; body = p.1 }

-- expr { "," expr } ":" stmt
unfoldable pub label_arm_rule : Body → Phrased CaseArm
label_arm_rule b = made label_arm_of (both exprs_rule (after k.Colon (nest (statement b))))

unfoldable pub label_arms_rule : Body → Phrased (List CaseArm)
label_arms_rule b = many (label_arm_rule b)

abbrev pub default_arm_of : Lexeme × (Bool × Statement) → CaseArm
default_arm_of p = record { labels = []; body = p.1.1 }

-- "default" [ ":" ] stmt
unfoldable pub default_arm_rule : Body → Phrased CaseArm
default_arm_rule b = made default_arm_of (both (only k.Default) (both (present k.Colon) (nest (statement b))))

abbrev pub rest_of_arms : Option (CaseArm × List CaseArm) → List CaseArm
rest_of_arms None = []
rest_of_arms (Some p) = p.0 ∷ p.1

abbrev pub all_arms : CaseArm × (List CaseArm × Option (CaseArm × List CaseArm)) → List CaseArm
all_arms p = p.0 ∷ (p.1.0 ++ rest_of_arms p.1.1)

-- the default, and the arms with labels after it
unfoldable pub default_arms_rule : Body → Phrased (CaseArm × List CaseArm)
default_arms_rule b = both (default_arm_rule b) (label_arms_rule b)

-- one arm or more, of which at most one is the default
unfoldable pub arms_rule : Body → Phrased (List CaseArm)
arms_rule b = either (made with_front (default_arms_rule b)) (made all_arms (both (label_arm_rule b) (both (label_arms_rule b) (optional (default_arms_rule b)))))

abbrev pub case_of : Lexeme × (Expr × List CaseArm) → Statement
case_of p = case_statement p.0.place (case_kind (kind_of p.0)) p.1.0 (arms_of p.1.1)

-- ( "case" | "casez" | "casex" ) "(" expr ")" arm { arm } "endcase"
unfoldable pub case_rule : Body → Phrased Statement
case_rule b = made case_of (both (any_of k.Case (k.Casez ∷ k.Casex ∷ [])) (both (in_parentheses an_expression) (before (arms_rule b) k.Endcase)))

-- set = lvalue "=" expr
unfoldable pub set_rule : Phrased (Expr × Expr)
set_rule = both (nest target) (after k.Equals an_expression)

-- "(" set ";" expr ";" set ")"
unfoldable pub header_rule : Phrased ((Expr × Expr) × (Expr × (Expr × Expr)))
header_rule = both (after k.OpenParen set_rule) (both (after k.Semicolon an_expression) (after k.Semicolon (before set_rule k.CloseParen)))

abbrev pub for_of : Lexeme × (((Expr × Expr) × (Expr × (Expr × Expr))) × Statement) → Statement
for_of p =
    for_loop p.0.place
    (record { place = p.0.place; name = p.1.0.0.0; first = p.1.0.0.1; test = p.1.0.1.0; target = p.1.0.1.1.0; step = p.1.0.1.1.1 }) p.1.1

-- "for" "(" set ";" expr ";" set ")" stmt
unfoldable pub for_rule : Body → Phrased Statement
for_rule b = made for_of (both (only k.For) (both header_rule (nest (statement b))))

abbrev pub is_late : Lexeme → Bool
is_late t = false

-- only a body under edges and an initial have "<="
abbrev pub sign_rule : Body → Phrased Bool
sign_rule Combinational = made is_there (only k.Equals)
sign_rule Clocked = either (made is_there (only k.Equals)) (made is_late (only k.LessOrEqual))
sign_rule Initial = either (made is_there (only k.Equals)) (made is_late (only k.LessOrEqual))

abbrev pub assignment_of : Expr × (Bool × Expr) → Statement
assignment_of p = assignment (place_of p.0) p.0 p.1.0 p.1.1

-- lvalue "=" expr ";" | lvalue "<=" expr ";"
unfoldable pub assignment_rule : Body → Phrased Statement
assignment_rule b = made assignment_of (both (nest target) (both (sign_rule b) (before an_expression k.Semicolon)))

abbrev pub dropped : {A : Type 0} → A → Unit {0}
dropped a = tt

-- arg = expr | string
unfoldable pub argument_rule : Phrased (Unit {0})
argument_rule = either (made dropped an_expression) (made dropped (only k.Quoted))

unfoldable pub arguments_rule : Phrased (Unit {0})
arguments_rule = made dropped (listed argument_rule)

abbrev pub task_of : Lexeme × (Option (Option (Unit {0})) × Lexeme) → Statement
task_of p = system_task p.0.place

-- task [ "(" [ arg { "," arg } ] ")" ] ";"
unfoldable pub task_rule : Phrased Lexeme → Phrased Statement
task_rule names = made task_of (both names (both (optional (in_parentheses (optional arguments_rule))) (only k.Semicolon)))

abbrev pub null_of : Lexeme → Statement
null_of t = null_statement t.place

abbrev pub null_rule : Phrased Statement
null_rule = made null_of (only k.Semicolon)

-- only a body under edges and an initial have system tasks
abbrev pub task_or_null_rule : Body → Phrased Statement
task_or_null_rule Combinational = null_rule
task_or_null_rule Clocked = either (task_rule (only k.Task)) null_rule
task_or_null_rule Initial = either (task_rule (any_of k.Task (k.InitialTask ∷ []))) null_rule

unfoldable pub statement_rule : Body → Phrased Statement
statement_rule b = either (block_rule b) (either (if_rule b) (either (case_rule b) (either (for_rule b) (either (assignment_rule b) (task_or_null_rule b)))))
