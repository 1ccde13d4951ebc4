-- What reading gives, step by step: each rule says it of a step where it holds of what follows.
use Rattle.std.proofs.Common.{◌≡◌, Bool, true, false, if◌then◌else◌, Result, Ok, List, [], ◌∷◌, length, refl}
use Rattle.verilog_lexer.specs.Tokens.{Lexeme}
use Rattle.grammar_rules.specs.Rule.{Fault as AnyFault, next, member, deep, ◌>>=◌}
use Rattle.grammar_rules.specs.Grammar.{phrase}
use Rattle.verilog_grammar.specs.Language.{verilog, Phrase, Value}
use Rattle.verilog_grammar.specs.Verilog.{grammar, begins}
use Rattle.verilog_expressions.specs.declared.fault.ReadFault.{ReadFault}
use Rattle.verilog_expressions.specs.declared.fault.ReadFault.TheVariants as read_fault
use Rattle.verilog_expressions.specs.declared.fault.Wrong.TheVariants as wrong
use Rattle.verilog_expressions.specs.Cursor.{deep_fault}
use Rattle.verilog_expressions.specs.Gives.{Fails}

-- a step that fails
pub first_fails : {A B : Type 0} (e : ReadFault) (x : Result A (AnyFault verilog)) (k : A → Result B (AnyFault verilog)) → Fails e x → Fails e (x >>= k)
first_fails read_fault.Memory x k h = tt
first_fails (read_fault.At f) x k h = rw h refl

-- a step that gives a value, and what follows fails
pub later_fails : {A B : Type 0} (e : ReadFault) (x : Result A (AnyFault verilog)) (a : A) (k : A → Result B (AnyFault verilog)) → x ≡ Ok a → Fails e (k a) → Fails e (x >>= k)
later_fails e x a k h f = rw h f

pub fails_if : {B : Type 0} (e : ReadFault) (t : Bool) (x y : Result B (AnyFault verilog)) → t ≡ true → Fails e x → Fails e (if t then x else y)
fails_if e t x y h f = rw h f

pub fails_else : {B : Type 0} (e : ReadFault) (t : Bool) (x y : Result B (AnyFault verilog)) → t ≡ false → Fails e y → Fails e (if t then x else y)
fails_else e t x y h f = rw h f

-- ---- a phrase where no more may nest

deep_is : (p : Phrase) (i : List Lexeme) → Fails (deep_fault i) (deep verilog {A = Value p} i)
deep_is p [] = refl
deep_is p (t ∷ i) = refl

pub too_deep_at : (p : Phrase) (i : List Lexeme) → member (next verilog i) (begins p) ≡ true → Fails (deep_fault i) (phrase verilog grammar 0 p i)
unfolding phrase
too_deep_at p i h = rw h (deep_is p i)

pub refused_at : (p : Phrase) (i : List Lexeme) → member (next verilog i) (begins p) ≡ false
    → Fails (read_fault.At (record { wrong = wrong.Unexpected; left = length i })) (phrase verilog grammar 0 p i)
unfolding phrase
refused_at p i h = rw h refl

pub ruleset failing = (first_fails, later_fails, fails_if, fails_else)
