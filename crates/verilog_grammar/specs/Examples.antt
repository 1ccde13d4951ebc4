-- Texts of the language with what they say. In a text of an example spaces are between the tokens, and the column of a
-- token is its number.
use Rattle.std.specs.Prelude.{◌≡◌, ℕ, suc, ◌==◌, if◌then◌else◌, List, [], ◌∷◌, ◌++◌, codes, drop, None, Some, Result, Ok, Err}
use Rattle.std.specs.Char.{is_ascii_digit}
use Rattle.cov_host.specs.Identifier.{is_reserved, begins_name}
use Rattle.cov_host.specs.declared.place.Place.{Place}
use Rattle.four_state.specs.declared.operator.Binary.TheVariants.{Subtract, Multiply, Add}
use Rattle.verilog_lexer.specs.Tokens.{Lexeme}
use Rattle.verilog_lexer.specs.declared.token.TokenKind.{TokenKind}
use Rattle.verilog_lexer.specs.declared.token.TokenKind.TheVariants as lexical
use Rattle.verilog_tree.specs.declared.item.Named.{Named}
use Rattle.verilog_tree.specs.Tree.{Expr, identifier, bit_select, binary_operator, conditional, if_statement, null_statement, a_statement, no_statements, Item, continuous_item, initial_item, instance_item, Module}
use Rattle.grammar_rules.specs.Rule.{Wrong, unexpected, too_deep, Fault}
use Rattle.grammar_rules.specs.Grammar.{whole}
use Rattle.grammar_rules.specs.Deep.{IsFirstTooDeep}
use Rattle.grammar_rules.specs.Around.{IsDeepInEach}
use Rattle.verilog_grammar.specs.Language.{verilog}
use Rattle.verilog_grammar.specs.Verilog.{grammar}

-- the words of a text, with the word that was begun
abbrev pub words : (begun : List ℕ) → List ℕ → List (List ℕ)
words begun [] = begun ∷ []
words begun (c ∷ cs) = if c == 32 then begun ∷ words [] cs else words (begun ++ c ∷ []) cs

-- what a word is lexically, by its first byte
abbrev pub word_kind : List ℕ → TokenKind
word_kind [] = lexical.Operator
word_kind (c ∷ cs) =
    if begins_name c then (if is_reserved (c ∷ cs) then lexical.Keyword else lexical.Identifier)
    else if is_ascii_digit c then lexical.Decimal
    else if c == 39 then lexical.Based
    else if c == 36 then lexical.System
    else lexical.Operator

abbrev pub at : ℕ → Place
at n = record { source = 1; line = 1; column = n }

abbrev pub tokens : ℕ → List (List ℕ) → List Lexeme
tokens n [] = []
tokens n (word ∷ others) = record { kind = word_kind word; text = word; place = at n } ∷ tokens (suc n) others

abbrev pub tokens_of : List ℕ → List Lexeme
tokens_of text = tokens 1 (words [] text)

-- what a text says, where statements and expressions nest no deeper than the number
abbrev pub said : ℕ → List ℕ → Result (List Module) (Fault verilog)
said d text = whole verilog grammar d (tokens_of text)

abbrev pub wrong : Wrong verilog → ℕ → Result (List Module) (Fault verilog)
wrong kind left = Err (record { kind = kind; left = left })

-- a module m with these items, and nothing else
abbrev pub module_with : List Item → List Module
module_with items = record { name = record { name = codes "m"; place = at 2 }; params = []; ports = []; items = items } ∷ []

abbrev pub name_at : ℕ → List ℕ → Expr
name_at n text = identifier (at n) text

abbrev pub name_of : ℕ → List ℕ → Named
name_of n text = record { name = text; place = at n }

-- the assignment of an expression to y, as the first item
abbrev pub assigned : Expr → List Module
assigned e = module_with (record { place = at 4; form = continuous_item (name_at 5 (codes "y")) e } ∷ [])

-- The grammar reads some texts as it should.
pub record ReadsTexts : Type 0 where
  pub nothing : said 256 (codes "module m ; endmodule") ≡ Ok (module_with [])
  -- operators of a level group to the left, tighter ones bind first
  pub left : said 256 (codes "module m ; assign y = a - b - c ; endmodule") ≡ Ok (assigned (binary_operator (at 7) Subtract (binary_operator (at 7) Subtract (name_at 7 (codes "a")) (name_at 9 (codes "b"))) (name_at 11 (codes "c"))))
  pub tighter : said 256 (codes "module m ; assign y = a + b * c ; endmodule") ≡ Ok (assigned (binary_operator (at 7) Add (name_at 7 (codes "a")) (binary_operator (at 9) Multiply (name_at 9 (codes "b")) (name_at 11 (codes "c")))))
  -- ?: groups to the right
  pub right : said 256 (codes "module m ; assign y = a ? b : c ? d : e ; endmodule") ≡ Ok (assigned (conditional (at 7) (name_at 7 (codes "a")) (name_at 9 (codes "b")) (conditional (at 11) (name_at 11 (codes "c")) (name_at 13 (codes "d")) (name_at 15 (codes "e")))))
  pub selects : said 256 (codes "module m ; assign y = a [ b ] [ c ] ; endmodule") ≡ Ok (assigned (bit_select (at 7) (bit_select (at 7) (name_at 7 (codes "a")) (name_at 9 (codes "b"))) (name_at 12 (codes "c"))))
  -- an else belongs to the nearest if
  pub nearest : said 256 (codes "module m ; initial if ( a ) if ( b ) ; else ; endmodule") ≡
      Ok (module_with (record { place = at 4; form = initial_item (if_statement (at 5) (name_at 7 (codes "a")) (if_statement (at 9) (name_at 11 (codes "b")) (null_statement (at 13)) (a_statement (null_statement (at 15)) no_statements)) no_statements) } ∷ []))
  -- nothing between the parentheses is no connection
  pub no_connection : said 256 (codes "module m ; n u ( ) ; endmodule") ≡ Ok (module_with (record { place = at 4; form = instance_item (record { of_module = name_of 4 (codes "n"); overrides = []; ones = record { name = name_of 5 (codes "u"); given = [] } ∷ [] }) } ∷ []))
  pub two_connections : said 256 (codes "module m ; n u ( , a ) ; endmodule") ≡ Ok (module_with (record { place = at 4; form = instance_item (record { of_module = name_of 4 (codes "n"); overrides = []; ones = record { name = name_of 5 (codes "u"); given = record { name = None; value = None } ∷ record { name = None; value = Some (name_at 8 (codes "a")) } ∷ [] } ∷ [] }) } ∷ []))
  -- no token goes on with these
  pub no_semicolon : said 256 (codes "module m ( input a ) endmodule") ≡ wrong unexpected 1
  pub delay : said 256 (codes "module m ; initial # 5 ; endmodule") ≡ wrong unexpected 4
  pub third_select : said 256 (codes "module m ; assign y = a [ 1 ] [ 2 ] [ 3 ] ; endmodule") ≡ wrong unexpected 5
  pub part_of_a_part : said 256 (codes "module m ; assign y [ 1 : 0 ] [ 1 ] = a ; endmodule") ≡ wrong unexpected 7
  pub late_under_star : said 256 (codes "module m ; always @ * q <= d ; endmodule") ≡ wrong unexpected 4
  pub name_after_place : said 256 (codes "module m ; n u ( a , . b ( c ) ) ; endmodule") ≡ wrong unexpected 8
  pub two_defaults : said 256 (codes "module m ; initial case ( a ) default ; default ; endcase endmodule") ≡ wrong unexpected 4
  -- the tokens end inside a module
  pub no_end : said 256 (codes "module m ( input a ) ;") ≡ wrong unexpected 0
  -- within three a sum of a sum of a name in parentheses is too deep at the name
  pub too_deep_left : said 3 (codes "module m ; assign y = ( a ) + b + c ; endmodule") ≡ wrong (too_deep (at 8)) 4
  -- within two the second plus makes the first name the part with two parts around it, which are two sums
  pub too_deep_chain : said 2 (codes "module m ; assign y = a + b + c ; endmodule") ≡ wrong (too_deep (at 7)) 4
  pub first_too_deep : IsFirstTooDeep verilog grammar 2 (tokens_of (codes "module m ; assign y = a + b + c ; endmodule")) (drop 9 (tokens_of (codes "module m ; assign y = a + b + c ; endmodule"))) (at 7)
  pub deep_in_each : IsDeepInEach verilog grammar 2 (tokens_of (codes "module m ; assign y = a + b + c ; endmodule")) 9 (at 7)
  pub too_deep_name : said 2 (codes "module m ; assign y = ( ( a ) ) ; endmodule") ≡ wrong (too_deep (at 9)) 5
