-- What the values that functions give represent.
use Rattle.std.specs.Prelude.{List, [], ◌∷◌}
use Rattle.verilog_lexer.specs.Tokens.{Lexeme}
use Rattle.verilog_lexer.specs.TokenView.{lexeme}
use Rattle.verilog_lexer.specs.declared.token.Token.{Token}
use Rattle.verilog_tree.specs.Tree as t
use Rattle.verilog_tree.specs.View.{expr_view, item_view}
use Rattle.verilog_tree.specs.declared.expr.Expr.{Expr}
use Rattle.verilog_tree.specs.declared.item.Item.{Item}
use Rattle.verilog_expressions.specs.Measured.{measured_view}
use Rattle.verilog_expressions.specs.declared.measured.Measured.{Measured}

-- a left side and a right side
abbrev pub set_view : Expr × Expr → t.Expr × t.Expr
set_view p = (expr_view p.0, expr_view p.1)

-- a token, and an expression after it
abbrev pub behind_token : Token × Measured → Lexeme × t.Expr
behind_token p = (lexeme p.0, measured_view p.1)

-- an item of the text that is one item of the tree
abbrev pub one_item_view : Item → List t.Item
one_item_view i = item_view i ∷ []
