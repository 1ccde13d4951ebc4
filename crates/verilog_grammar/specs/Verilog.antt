-- The grammar of the language, and what tokens spell.
use Rattle.std.specs.Prelude.{ℕ, List, [], ◌∷◌}
use Rattle.verilog_tree.specs.Tree.{Module}
use Rattle.grammar_rules.specs.Grammar.{Grammar}
use Rattle.verilog_grammar.specs.declared.kind.Kind.TheVariants as k
use Rattle.verilog_grammar.specs.declared.body.Body.{Body}
use Rattle.verilog_grammar.specs.declared.body.Body.TheVariants.{Combinational, Clocked, Initial}
use Rattle.verilog_grammar.specs.Kind.{Kind, code}
use Rattle.verilog_grammar.specs.Language.{verilog, Phrase, expression, operand, target, statement, Value}
use Rattle.verilog_grammar.specs.Parts.{Phrased}
use Rattle.verilog_grammar.specs.Expressions.{expr_rule, level_rule, target_rule}
use Rattle.verilog_grammar.specs.Statements.{statement_rule}
use Rattle.verilog_grammar.specs.Modules.{source_rule}

abbrev pub rule_of : (p : Phrase) → Phrased (Value p)
rule_of expression = expr_rule
rule_of (operand l) = level_rule l
rule_of target = target_rule
rule_of (statement b) = statement_rule b

abbrev pub codes_of : List Kind → List ℕ
codes_of [] = []
codes_of (x ∷ xs) = code x ∷ codes_of xs

abbrev pub begins_expression : List Kind
begins_expression =
    k.Plus ∷ k.Minus ∷ k.Not ∷ k.Tilde ∷ k.And ∷ k.TildeAnd ∷ k.Or ∷ k.TildeOr ∷ k.Xor ∷ k.TildeXor ∷ k.XorTilde
    ∷ k.Decimal ∷ k.Based ∷ k.Identifier ∷ k.OpenParen ∷ k.OpenBrace ∷ k.SignedCast ∷ k.UnsignedCast ∷ []

abbrev pub begins_statement : Body → List Kind
begins_statement Combinational = k.Begin ∷ k.If ∷ k.Case ∷ k.Casez ∷ k.Casex ∷ k.For ∷ k.Identifier ∷ k.OpenBrace ∷ k.Semicolon ∷ []
begins_statement Clocked = k.Begin ∷ k.If ∷ k.Case ∷ k.Casez ∷ k.Casex ∷ k.For ∷ k.Identifier ∷ k.OpenBrace ∷ k.Task ∷ k.Semicolon ∷ []
begins_statement Initial = k.Begin ∷ k.If ∷ k.Case ∷ k.Casez ∷ k.Casex ∷ k.For ∷ k.Identifier ∷ k.OpenBrace ∷ k.Task ∷ k.InitialTask ∷ k.Semicolon ∷ []

-- the kinds of tokens that begin a phrase
abbrev pub begins : Phrase → List ℕ
begins expression = codes_of begins_expression
begins (operand l) = codes_of begins_expression
begins target = codes_of (k.Identifier ∷ k.OpenBrace ∷ [])
begins (statement b) = codes_of (begins_statement b)

abbrev pub grammar : Grammar verilog
grammar = record { rule_of = rule_of; begins = begins; Tree = List Module; source = source_rule }
