-- What a function that reads ensures: it gives what reading gives, unless memory runs out.
use Rattle.std.specs.Prelude.{◌≡◌, List, Result, Ok, Err}
use Rattle.verilog_lexer.specs.Tokens.{Lexeme}
use Rattle.grammar_rules.specs.Rule.{Wrong as AnyWrong, unexpected, too_deep, Fault as AnyFault, Outcome}
use Rattle.verilog_grammar.specs.Language.{verilog}
use Rattle.verilog_expressions.specs.declared.fault.Wrong.{Wrong}
use Rattle.verilog_expressions.specs.declared.fault.Wrong.TheVariants as wrong
use Rattle.verilog_expressions.specs.declared.fault.Fault.{Fault}
use Rattle.verilog_expressions.specs.declared.fault.ReadFault.{ReadFault}
use Rattle.verilog_expressions.specs.declared.fault.ReadFault.TheVariants as read_fault

-- a value that is its own view
abbrev pub same : {A : Type 0} → A → A
same a = a

abbrev pub wrong_view : Wrong → AnyWrong verilog
wrong_view wrong.Unexpected = unexpected
wrong_view (wrong.TooDeep place) = too_deep place

abbrev pub fault_view : Fault → AnyFault verilog
fault_view f = record { kind = wrong_view f.wrong; left = f.left }

-- the fault is the one that reading meets, if it is not want of memory
abbrev pub Fails : {Y : Type 0} → ReadFault → Result Y (AnyFault verilog) → Type 0
Fails read_fault.Memory read = Unit {0}
Fails (read_fault.At f) read = read ≡ Err (fault_view f)

-- the value, seen by view, and the tokens after it
abbrev pub Gives : {X Y : Type 0} → (X → Y) → Outcome verilog Y → Result X ReadFault → List Lexeme → Type 0
Gives view read (Ok x) new = read ≡ Ok (view x, new)
Gives view read (Err e) new = Fails e read

-- the same of all tokens
abbrev pub GivesAll : {X Y : Type 0} → (X → Y) → Result Y (AnyFault verilog) → Result X ReadFault → Type 0
GivesAll view read (Ok x) = read ≡ Ok (view x)
GivesAll view read (Err e) = Fails e read
