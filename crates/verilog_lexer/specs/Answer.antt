-- What the definitions answer: a value, or the fault that is first.
use Rattle.std.specs.Prelude.{◌≡◌, None, Some, Result, Ok, Err}
use Rattle.cov_host.specs.declared.place.Place.{Place}
use Rattle.verilog_lexer.specs.declared.fault.LexFault.{LexFault}
use Rattle.verilog_lexer.specs.declared.fault.LexFault.TheVariants as lex_fault
use Rattle.verilog_lexer.specs.declared.fault.LexKind.{LexKind}

abbrev pub Answer : Type 0 → Type 0
Answer A = Result A LexFault

-- what comes next, where there is no fault before it
infixl 10 ◌>>=◌
abbrev pub ◌>>=◌ : {A B : Type 0} → Answer A → (A → Answer B) → Answer B
(Ok value) >>= next = next value
(Err fault) >>= next = Err fault

-- a fault at a place, without detail
abbrev pub fault_at : {A : Type 0} → LexKind → Place → Answer A
fault_at kind place = Err (lex_fault.At kind (Some place) None)

-- the fault is the one that the definition gives, if it is not want of memory
abbrev pub IsFault : {A : Type 0} → Answer A → LexFault → Type 0
IsFault given lex_fault.NoMemory = Unit {0}
IsFault given (lex_fault.At kind place detail) = given ≡ Err (lex_fault.At kind place detail)
