-- What the rules give of which others are made.
use Rattle.std.proofs.Common.{ℕ, []}
use Rattle.verilog_lexer.specs.Tokens.{Lexeme}
use Rattle.grammar_rules.specs.Rule.{one, both, made}
use Rattle.grammar_rules.proofs.Holds.{AllOf}
use Rattle.verilog_grammar.specs.Language.{verilog}
use Rattle.verilog_grammar.specs.Parts.{Phrased, first_of_two, second_of_two, optional, listed}
use Rattle.parsed_modules.proofs.TokensHold.{Spelling, IfSome, Gives, any_gives, both_give, first_gives, second_gives, either_gives, made_gives, many_gives}

-- what follows a token
pub after_gives : {T : Lexeme → Type 0} {S : Spelling verilog T} {A : Type 0} {x : ℕ} {g : Phrased A} {Q : A → Type 0} → Gives S g Q → Gives S (made second_of_two (both (one x []) g)) Q
after_gives {Q = Q} h = made_gives {Q = λ p. Q p.1} (second_gives h) (λ p q. q)

-- what comes before a token
pub before_gives : {T : Lexeme → Type 0} {S : Spelling verilog T} {A : Type 0} {x : ℕ} {g : Phrased A} {Q : A → Type 0} → Gives S g Q → Gives S (made first_of_two (both g (one x []))) Q
before_gives {Q = Q} h = made_gives {Q = λ p. Q p.0} (first_gives h) (λ p q. q)

pub optional_gives : {T : Lexeme → Type 0} {S : Spelling verilog T} {A : Type 0} {g : Phrased A} {Q : A → Type 0} → Gives S g Q → Gives S (optional g) (λ v. IfSome Q v)
optional_gives {Q = Q} h = either_gives (made_gives h (λ v q. q)) (made_gives {Q = λ u. Unit {0}} any_gives (λ u q. tt))

pub listed_gives : {T : Lexeme → Type 0} {S : Spelling verilog T} {A : Type 0} {g : Phrased A} {Q : A → Type 0} → Gives S g Q → Gives S (listed g) (λ vs. AllOf Q vs)
listed_gives {Q = Q} h = made_gives {Q = λ p. Q p.0 × AllOf Q p.1} (both_give h (many_gives (after_gives h))) (λ p q. q)
