-- A test and the tokens of its text `if (a) y = b;`, of which only the places matter here; and an instance with a connection.
use Rattle.std.specs.Prelude.{ℕ, true, false, List, [], ◌∷◌, None, Some, codes}
use Rattle.cov_host.specs.declared.place.Place.{Place}
use Rattle.verilog_lexer.specs.Tokens.{Lexeme}
use Rattle.verilog_lexer.specs.declared.token.TokenKind.TheVariants.{Operator}
use Rattle.verilog_tree.specs.Tree.{Expr, ItemForm, Statement, assignment, conditional, identifier, if_statement, instance_item, no_statements}
use Rattle.flat_design.specs.Scope.{Scope}
use Rattle.flat_design.specs.declared.entry.Entry.TheVariants.{Signal}

-- this column of the first line
abbrev pub at : ℕ → Place
at column = record { source = 1; line = 1; column = column }

-- a token there
abbrev pub token_at : ℕ → Lexeme
token_at column = record { kind = Operator; text = []; place = at column }

-- the tokens before the last name
abbrev pub front : List Lexeme
front = token_at 1 ∷ token_at 4 ∷ token_at 5 ∷ token_at 6 ∷ token_at 8 ∷ token_at 10 ∷ []

-- all tokens
abbrev pub whole : List Lexeme
whole = token_at 12 ∷ token_at 13 ∷ front

-- the test with the assignment in it
abbrev pub test : Statement
test = if_statement (at 1) (identifier (at 5) (codes "a")) (assignment (at 8) (identifier (at 8) (codes "y")) true (identifier (at 12) (codes "b"))) no_statements

abbrev pub named_b : Expr
named_b = identifier (at 1) (codes "b")

-- an instance, of which a port is joined to `b ? b : b`
abbrev pub chosen : ItemForm
chosen =
    instance_item (record {
      of_module = record { name = codes "m"; place = at 1 };
      overrides = [];
      ones = record { name = record { name = codes "u"; place = at 1 }; given = record { name = None; value = Some (conditional (at 1) named_b named_b named_b) } ∷ [] } ∷ [];
    })

-- a scope in which each name is that of a signal
abbrev pub signals : Scope
signals x = Some (Signal (record { number = 0; range = None; signed = false; net = true; input = false }))

-- one in which no name means anything
abbrev pub nothing : Scope
nothing x = None
