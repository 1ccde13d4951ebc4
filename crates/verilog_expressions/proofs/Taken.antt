-- A token that was taken, and its kind.
use Rattle.std.proofs.Common.{rules, arith, ◌≡◌, ℕ, true, false, List, [], ◌∷◌, Ok, refl}
use Rattle.verilog_lexer.specs.Tokens.{Lexeme}
use Rattle.grammar_rules.specs.Rule.{next, member, take_one, refuse}
use Rattle.verilog_grammar.specs.Kind.{next_kind, kind_of}
use Rattle.verilog_grammar.specs.Language.{verilog}
use Rattle.verilog_expressions.specs.Cursor.{take_next}

-- a token of any kind, where its kind is one of these
pub any_taken : (ks : List ℕ) (i o : List Lexeme) (t : Lexeme) → take_next i ≡ Ok (t, o) → member (next verilog i) ks ≡ true → take_one verilog ks i ≡ Ok (t, o)
unfolding take_one
any_taken ks [] o t e h = absurd (search (rules, e))
any_taken ks (x ∷ i) o t e h = rw h e

-- where the next token is of none of these kinds
pub any_refused : (ks : List ℕ) (i : List Lexeme) → member (next verilog i) ks ≡ false → take_one verilog ks i ≡ refuse verilog i
unfolding take_one
any_refused ks [] h = refl
any_refused ks (x ∷ i) h = rw h refl

-- the kind of the token that is taken
pub kind_taken : (i o : List Lexeme) (t : Lexeme) → take_next i ≡ Ok (t, o) → next_kind i ≡ kind_of t
kind_taken [] o t e = absurd (search (rules, e))
kind_taken (x ∷ i) o t e = grind (arith, e)
