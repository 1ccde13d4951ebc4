-- Rules of which others are made.
use Rattle.std.specs.Prelude.{Bool, true, false, List, [], ◌∷◌, map, Option, Some, None}
use Rattle.verilog_lexer.specs.Tokens.{Lexeme}
use Rattle.verilog_tree.specs.Tree.{Expr, RangeExpr}
use Rattle.verilog_tree.specs.declared.item.Named.{Named}
use Rattle.grammar_rules.specs.Rule.{Rule, one, empty, both, either, many, made, nest}
use Rattle.verilog_grammar.specs.Kind.{Kind, code}
use Rattle.verilog_grammar.specs.declared.kind.Kind.TheVariants as k
use Rattle.verilog_grammar.specs.Language.{verilog, expression}

-- a rule of the language
abbrev pub Phrased : Type 0 → Type 1
Phrased A = Rule verilog A

abbrev pub only : Kind → Phrased Lexeme
only x = one (code x) []

abbrev pub any_of : Kind → List Kind → Phrased Lexeme
any_of x xs = one (code x) (map code xs)

abbrev pub first_of_two : {A B : Type 0} → A × B → A
first_of_two p = p.0

abbrev pub second_of_two : {A B : Type 0} → A × B → B
second_of_two p = p.1

-- what follows a token of this kind
abbrev pub after : {A : Type 0} → Kind → Phrased A → Phrased A
after x g = made second_of_two (both (only x) g)

-- what precedes a token of this kind
abbrev pub before : {A : Type 0} → Phrased A → Kind → Phrased A
before g x = made first_of_two (both g (only x))

abbrev pub in_parentheses : {A : Type 0} → Phrased A → Phrased A
in_parentheses g = after k.OpenParen (before g k.CloseParen)

abbrev pub nothing : {A : Type 0} → Unit {0} → Option A
nothing u = None

-- once, or not at all
abbrev pub optional : {A : Type 0} → Phrased A → Phrased (Option A)
optional g = either (made Some g) (made nothing empty)

abbrev pub is_there : Lexeme → Bool
is_there t = true

abbrev pub is_not_there : Unit {0} → Bool
is_not_there u = false

-- whether a token of this kind is next
abbrev pub present : Kind → Phrased Bool
present x = either (made is_there (only x)) (made is_not_there empty)

abbrev pub with_front : {A : Type 0} → A × List A → List A
with_front p = p.0 ∷ p.1

-- one or more, with commas between
abbrev pub listed : {A : Type 0} → Phrased A → Phrased (List A)
listed g = made with_front (both g (many (after k.Comma g)))

abbrev pub an_expression : Phrased Expr
an_expression = nest expression

abbrev pub named : Lexeme → Named
named t = record { name = t.text; place = t.place }

-- name
abbrev pub name_rule : Phrased Named
name_rule = made named (only k.Identifier)

abbrev pub range_of : Lexeme × (Expr × Expr) → RangeExpr
range_of p = record { high = p.1.0; low = p.1.1; bracket = p.0.place }

-- range = "[" expr ":" expr "]"
unfoldable pub range_rule : Phrased RangeExpr
range_rule = made range_of (both (only k.OpenBracket) (both an_expression (after k.Colon (before an_expression k.CloseBracket))))
