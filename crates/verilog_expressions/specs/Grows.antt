-- What a value grows to by the parts after it.
use Rattle.std.specs.Prelude.{ℕ, nat_le, true, false, List, length, if◌then◌else◌, Ok}
use Rattle.verilog_lexer.specs.Tokens.{Lexeme}
use Rattle.verilog_tree.specs.Tree.{Expr}
use Rattle.grammar_rules.specs.Rule.{Rule, Growth, first, too_deep, fault_at, Outcome, grow_by, ◌>>=◌}
use Rattle.grammar_rules.specs.Grammar.{reads}
use Rattle.verilog_grammar.specs.declared.level.Level.{Level}
use Rattle.verilog_grammar.specs.Language.{verilog, tighter}
use Rattle.verilog_grammar.specs.Verilog.{grammar, begins}
use Rattle.verilog_grammar.specs.Expressions.{growing_where, anything, binary_of, operation_rule, is_no_choice, choice_of, branches_rule, is_selected_once, selected, select_rule}

-- by as many parts as there are
abbrev pub grows : {A B : Type 0} → (depth : ℕ) → Growth verilog A → (A → B → A) → Rule verilog B → A → List Lexeme → Outcome verilog A
grows depth w f h a i = grow_by verilog (λ n. nat_le n depth) w f (first verilog begins h) (reads verilog grammar depth h) (length i) a i

-- by one part, where it is not too high for it
abbrev pub grows_once : {A B : Type 0} → (depth : ℕ) → Growth verilog A → (A → B → A) → Rule verilog B → A → List Lexeme → Outcome verilog A
grows_once depth w f h a i =
    if nat_le (w.height a) depth then (reads verilog grammar depth h i >>= λ x. Ok (f a x.0, x.1)) else fault_at verilog (too_deep (w.deepest a)) i

-- an expression by the operators of a level and their operands
abbrev pub by_operators : (depth : ℕ) → Level → Expr → List Lexeme → Outcome verilog Expr
by_operators depth l a i = grows depth (growing_where true anything) binary_of (operation_rule l (tighter l)) a i

-- by one operator of a level and its operand
abbrev pub by_operator : (depth : ℕ) → Level → Expr → List Lexeme → Outcome verilog Expr
by_operator depth l a i = grows_once depth (growing_where true anything) binary_of (operation_rule l (tighter l)) a i

-- a test by its branches
abbrev pub by_branches : (depth : ℕ) → Expr → List Lexeme → Outcome verilog Expr
by_branches depth a i = grows_once depth (growing_where false is_no_choice) choice_of branches_rule a i

-- an expression by one select
abbrev pub by_select : (depth : ℕ) → Expr → List Lexeme → Outcome verilog Expr
by_select depth a i = grows_once depth (growing_where true is_selected_once) selected select_rule a i
