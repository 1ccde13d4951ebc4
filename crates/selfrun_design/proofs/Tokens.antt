-- The tokens of the text, line by line.
use Rattle.std.proofs.Common.{◌≡◌, ℕ, List, [], ◌∷◌, Ok, refl, codes}
use Rattle.cov_host.specs.Identifier.{is_reserved}
use Rattle.verilog_lexer.specs.Directive.{directive_of}
use Rattle.verilog_lexer.specs.Operator.{operator_length}
use Rattle.verilog_lexer.specs.Piece.{accent_piece, read_piece}
use Rattle.verilog_lexer.specs.Reading.{inner_at, read_roots, scan, tokens_of}
use Rattle.verilog_lexer.specs.Tokens.{Lexeme}
use Rattle.verilog_lexer.specs.declared.token.TokenKind.TheVariants.{Identifier, Keyword, Decimal, Operator}
use Rattle.selfrun_design.specs.Selfrun.{at}
use Rattle.selfrun_design.specs.Source.{source}

abbrev keyword : ℕ → ℕ → List ℕ → Lexeme
keyword line column text = record { kind = Keyword; text = text; place = at line column }

abbrev name : ℕ → ℕ → List ℕ → Lexeme
name line column text = record { kind = Identifier; text = text; place = at line column }

abbrev mark : ℕ → ℕ → List ℕ → Lexeme
mark line column text = record { kind = Operator; text = text; place = at line column }

abbrev digits : ℕ → ℕ → List ℕ → Lexeme
digits line column text = record { kind = Decimal; text = text; place = at line column }

abbrev pub tokens : List Lexeme
tokens =
    keyword 1 1 (codes "module") ∷ name 1 8 (codes "selfrun") ∷ mark 1 15 (codes "(") ∷ keyword 1 16 (codes "input") ∷ name 1 22 (codes "clk") ∷
    mark 1 25 (codes ",") ∷ keyword 1 27 (codes "input") ∷ name 1 33 (codes "we") ∷ mark 1 35 (codes ",") ∷ keyword 1 37 (codes "input") ∷
    mark 1 43 (codes "[") ∷ digits 1 44 (codes "3") ∷ mark 1 45 (codes ":") ∷ digits 1 46 (codes "0") ∷ mark 1 47 (codes "]") ∷ name 1 49 (codes "a") ∷
    mark 1 50 (codes ",") ∷ keyword 1 52 (codes "input") ∷ mark 1 58 (codes "[") ∷ digits 1 59 (codes "7") ∷ mark 1 60 (codes ":") ∷
    digits 1 61 (codes "0") ∷ mark 1 62 (codes "]") ∷ name 1 64 (codes "d") ∷ mark 1 65 (codes ",") ∷ keyword 1 67 (codes "output") ∷
    keyword 1 74 (codes "reg") ∷ mark 1 78 (codes "[") ∷ digits 1 79 (codes "7") ∷ mark 1 80 (codes ":") ∷ digits 1 81 (codes "0") ∷
    mark 1 82 (codes "]") ∷ name 1 84 (codes "q") ∷ mark 1 85 (codes ")") ∷ mark 1 86 (codes ";") ∷
    keyword 2 3 (codes "reg") ∷ mark 2 7 (codes "[") ∷ digits 2 8 (codes "7") ∷ mark 2 9 (codes ":") ∷ digits 2 10 (codes "0") ∷
    mark 2 11 (codes "]") ∷ name 2 13 (codes "m") ∷ mark 2 15 (codes "[") ∷ digits 2 16 (codes "0") ∷ mark 2 17 (codes ":") ∷
    digits 2 18 (codes "15") ∷ mark 2 20 (codes "]") ∷ mark 2 21 (codes ";") ∷
    keyword 3 3 (codes "reg") ∷ mark 3 7 (codes "[") ∷ digits 3 8 (codes "7") ∷ mark 3 9 (codes ":") ∷ digits 3 10 (codes "0") ∷
    mark 3 11 (codes "]") ∷ name 3 13 (codes "p") ∷ mark 3 14 (codes ";") ∷
    keyword 4 3 (codes "always") ∷ mark 4 10 (codes "@") ∷ mark 4 11 (codes "(") ∷ keyword 4 12 (codes "posedge") ∷ name 4 20 (codes "clk") ∷
    mark 4 23 (codes ")") ∷ keyword 4 25 (codes "begin") ∷
    name 5 5 (codes "p") ∷ mark 5 7 (codes "<=") ∷ name 5 10 (codes "d") ∷ mark 5 11 (codes ";") ∷
    keyword 6 5 (codes "if") ∷ mark 6 8 (codes "(") ∷ name 6 9 (codes "we") ∷ mark 6 11 (codes ")") ∷ name 6 13 (codes "m") ∷ mark 6 14 (codes "[") ∷
    name 6 15 (codes "a") ∷ mark 6 16 (codes "]") ∷ mark 6 18 (codes "<=") ∷ name 6 21 (codes "p") ∷ mark 6 22 (codes ";") ∷
    keyword 6 24 (codes "else") ∷ name 6 29 (codes "q") ∷ mark 6 31 (codes "<=") ∷ name 6 34 (codes "m") ∷ mark 6 35 (codes "[") ∷
    name 6 36 (codes "a") ∷ mark 6 37 (codes "]") ∷ mark 6 38 (codes ";") ∷
    keyword 7 3 (codes "end") ∷
    keyword 8 1 (codes "endmodule") ∷ []

pub lexed : tokens_of (source ∷ []) [] ≡ Ok tokens
unfolding tokens_of read_roots inner_at scan read_piece accent_piece operator_length directive_of is_reserved
lexed = refl
