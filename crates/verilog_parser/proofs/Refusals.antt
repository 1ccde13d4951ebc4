-- What the answer of reading says of all tokens.
use Rattle.std.proofs.Common.{◌≡◌, ℕ, zero, suc, ◌-◌, ◌<◌, ◌≤◌, nat_lt, true, false, List, [], ◌∷◌, length, get_or, drop, drop-cons, Some, None, Result, Ok, Err, sym, ap, ◌∙◌, arith}
use Rattle.std.proofs.lemmas.Bool.{ltb-true, ltb-false}
use Rattle.std.proofs.lemmas.List.{length-map, drop-map}
use Rattle.cov_host.specs.declared.place.Place.{Place}
use Rattle.verilog_lexer.specs.Tokens.{Lexeme}
use Rattle.verilog_lexer.specs.TokenView.{lexeme, lexemes}
use Rattle.verilog_lexer.specs.declared.token.Token.{Token}
use Rattle.verilog_tree.specs.Tree as t
use Rattle.grammar_rules.specs.Rule.{unexpected, too_deep, Fault as AnyFault}
use Rattle.grammar_rules.specs.Grammar.{IsUnexpected, EndsEarly, whole}
use Rattle.grammar_rules.specs.Laws.{Stands}
use Rattle.verilog_grammar.specs.Language.{verilog}
use Rattle.verilog_grammar.specs.Verilog.{grammar}
use Rattle.verilog_grammar.proofs.Verilog.{verilog_exact}
use Rattle.verilog_parser.specs.Parses.{AreModules, IsRefusalOf, NestTooDeep, IsTooDeepAt, StandsIn}
use Rattle.verilog_expressions.specs.Gives.{wrong_view, fault_view}
use Rattle.verilog_expressions.specs.declared.fault.Fault.{Fault}
use Rattle.verilog_expressions.specs.declared.fault.Wrong.{Wrong}
use Rattle.verilog_expressions.specs.declared.fault.Wrong.TheVariants as wrong
use Rattle.verilog_parser.specs.declared.fault.ParseFault.{ParseFault}
use Rattle.verilog_parser.specs.declared.fault.ParseFault.TheVariants as fault
use Rattle.verilog_parser.specs.declared.fault.ParseKind.TheVariants.{Unexpected, EarlyEnd, TooDeep, LeftOut}

abbrev Read : List Lexeme → Result (List t.Module) (AnyFault verilog)
Read tokens = whole verilog grammar 256 tokens

pub found : (tokens : List Lexeme) (ms : List t.Module) → Read tokens ≡ Ok ms → AreModules tokens ms
found tokens ms e = verilog_exact.sound 256 tokens ms e

same_ok : {A F : Type 0} (v w : A) (r : Result A F) → r ≡ Ok v → r ≡ Ok w → v ≡ w
same_ok v w r e h = cc

-- what is read is all that the tokens spell
pub only : (tokens : List Lexeme) (ms ns : List t.Module) → Read tokens ≡ Ok ms → AreModules tokens ns → ms ≡ ns
only tokens ms ns e s = same_ok ms ns (Read tokens) e (verilog_exact.complete 256 tokens ns s)

not_both : {A F : Type 0} (v : A) (f : F) (r : Result A F) → r ≡ Err f → r ≡ Ok v → ⊥
not_both v f r e h = cc

-- tokens with a fault spell no modules
pub none : (tokens : List Lexeme) (ns : List t.Module) (f : AnyFault verilog) → Read tokens ≡ Err f → AreModules tokens ns → ⊥
none tokens ns f e s = not_both ns f (Read tokens) e (verilog_exact.complete 256 tokens ns s)

stands : (tokens : List Lexeme) (f : AnyFault verilog) → Read tokens ≡ Err f → Stands verilog grammar 256 tokens f.kind f.left
stands tokens f e = verilog_exact.faults 256 tokens f e

pub too_deep_at : (tokens : List Lexeme) (place : Place) (left : ℕ) → Read tokens ≡ Err (record { kind = too_deep place; left = left }) → (at : ℕ) × NestTooDeep tokens at × IsTooDeepAt tokens at place
too_deep_at tokens place left e = let s = stands tokens (record { kind = too_deep place; left = left }) e in (length tokens - left, s.0, (s.1, s.2))

-- there is no token where the fault is
pub ends_early : (tokens : List Lexeme) (left : ℕ) → Read tokens ≡ Err (record { kind = unexpected; left = left }) → length tokens ≤ length tokens - left → EndsEarly verilog grammar tokens
ends_early tokens zero e h = stands tokens (record { kind = unexpected; left = zero }) e
ends_early tokens (suc n) e h =
    let u : IsUnexpected verilog grammar tokens (length tokens - suc n) = stands tokens (record { kind = unexpected; left = suc n }) e in
    absurd (omega (arith, h, u.in_range))

unexpected_there : (tokens : List Lexeme) (left : ℕ) → Read tokens ≡ Err (record { kind = unexpected; left = left }) → length tokens - left < length tokens → IsUnexpected verilog grammar tokens (length tokens - left)
unexpected_there tokens zero e h = absurd (omega (arith, h))
unexpected_there tokens (suc n) e h = stands tokens (record { kind = unexpected; left = suc n }) e

drop_in_range : {A : Type 0} (n : ℕ) (xs : List A) (x : A) (ys : List A) → drop n xs ≡ x ∷ ys → n < length xs
drop_in_range zero [] x ys e = absurd cc
drop_in_range zero (y ∷ xs) x ys e = omega arith
drop_in_range (suc n) [] x ys e = absurd cc
drop_in_range (suc n) (y ∷ xs) x ys e = let h = drop_in_range n xs x ys e in omega (arith, h)

-- the fault of the token is that of the tokens
refused_by : (tokens : List Lexeme) (at : ℕ) (token : Lexeme) (others : List Lexeme) (f : ParseFault)
    → drop at tokens ≡ token ∷ others → IsUnexpected verilog grammar tokens at → IsRefusalOf token f → StandsIn tokens f
refused_by tokens at token others fault.NoMemory e u r = tt
refused_by tokens at token others (fault.At Unexpected (Some place) None) e u r = record { at = at; token = token; others = others; stands = e; is_place = r.0; is_form = r.1; refused = u }
refused_by tokens at token others (fault.At LeftOut (Some place) (Some form)) e u r = record { at = at; token = token; others = others; stands = e; is_place = r.0; is_form = r.1; refused = u }
refused_by tokens at token others (fault.At Unexpected None detail) e u r = r
refused_by tokens at token others (fault.At Unexpected (Some place) (Some form)) e u r = r
refused_by tokens at token others (fault.At LeftOut None detail) e u r = absurd r
refused_by tokens at token others (fault.At LeftOut (Some place) None) e u r = absurd r
refused_by tokens at token others (fault.At EarlyEnd place detail) e u r = absurd r
refused_by tokens at token others (fault.At TooDeep place detail) e u r = absurd r

pub refused : (tokens : List Lexeme) (left : ℕ) (token : Lexeme) (others : List Lexeme) (f : ParseFault)
    → Read tokens ≡ Err (record { kind = unexpected; left = left }) → drop (length tokens - left) tokens ≡ token ∷ others → IsRefusalOf token f → StandsIn tokens f
refused tokens left token others f e d r =
    refused_by tokens (length tokens - left) token others f d (unexpected_there tokens left e (drop_in_range (length tokens - left) tokens token others d)) r

pub at_unexpected : (tokens : List Lexeme) (f : Fault) → f.wrong ≡ wrong.Unexpected → Read tokens ≡ Err (fault_view f) → Read tokens ≡ Err (record { kind = unexpected; left = f.left })
at_unexpected tokens f e h = h ∙ ap (λ (w : Wrong). Err (record { kind = wrong_view w; left = f.left })) e

-- there is no token there
pub not_there : (tokens : List Token) (at left : ℕ) → at ≡ length tokens - left → false ≡ nat_lt at (length tokens) → length (lexemes tokens) ≤ length (lexemes tokens) - left
not_there tokens at left e h = let past = ltb-false at (length tokens) (sym h) in rw (length-map tokens lexeme) (omega (arith, e, past))

-- the token that is there, and those after it
pub token_there : (tokens : List Token) (at left : ℕ) (t d : Token) → at ≡ length tokens - left → true ≡ nat_lt at (length tokens) → t ≡ get_or tokens at d
    → drop (length (lexemes tokens) - left) (lexemes tokens) ≡ lexeme t ∷ lexemes (drop (suc at) tokens)
token_there tokens at left t d e h k =
    ap (λ n. drop (n - left) (lexemes tokens)) (length-map tokens lexeme) ∙ ap (λ n. drop n (lexemes tokens)) (sym e) ∙ drop-map lexeme at tokens
    ∙ ap lexemes (drop-cons tokens at d (ltb-true at (length tokens) (sym h))) ∙ ap (λ (u : Token). lexeme u ∷ lexemes (drop (suc at) tokens)) (sym k)
