-- Conditional compilation (IEEE 1364-2001 clause 19.4).
use Rattle.std.specs.Prelude.{ℕ, ◌-◌, ◌==◌, Bool, true, false, not, List, [], ◌∷◌, ◌++◌, Option, None, Some, Ok, if◌then◌else◌, length, slice_get, take, is_some}
use Rattle.cov_host.specs.declared.place.Place.{Place}
use Rattle.verilog_lexer.specs.Answer.{Answer, ◌>>=◌, fault_at}
use Rattle.verilog_lexer.specs.Defines.{Macros}
use Rattle.verilog_lexer.specs.Piece.{Test, if_defined, if_undefined, else_if_defined, otherwise, end_of_condition}
use Rattle.verilog_lexer.specs.declared.condition.Branch.{Branch}
use Rattle.verilog_lexer.specs.declared.condition.Branch.TheVariants.{Read, Waiting, Past}
use Rattle.verilog_lexer.specs.declared.condition.Condition.{Condition}
use Rattle.verilog_lexer.specs.declared.fault.LexKind.TheVariants.{OpenCondition, UnknownDirective}

-- the innermost of the open conditions
abbrev pub innermost : List Condition → Option Condition
innermost conditions = slice_get conditions (length conditions - 1)

-- the open conditions round it
abbrev pub outer : List Condition → List Condition
outer conditions = take (length conditions - 1) conditions

abbrev pub is_past_or_waiting : Branch → Bool
is_past_or_waiting Read = false
is_past_or_waiting Waiting = true
is_past_or_waiting Past = true

abbrev pub leaves_out : Option Condition → Bool
leaves_out None = false
leaves_out (Some condition) = is_past_or_waiting condition.branch

-- a condition leaves the text out here
abbrev pub is_left_out : List Condition → Bool
is_left_out conditions = leaves_out (innermost conditions)

-- the branch that a condition which holds or not begins with; within what is left out nothing of it is read
abbrev pub first_branch : (left_out holds : Bool) → Branch
first_branch left_out holds = if left_out then Past else if holds then Read else Waiting

-- the next branch, which is read where none was before and its own condition holds
abbrev pub next_branch : Branch → (holds : Bool) → Branch
next_branch Read holds = Past
next_branch Waiting holds = if holds then Read else Waiting
next_branch Past holds = Past

-- a condition opens inside the others
abbrev pub with_opened : List Condition → (holds : Bool) → List Condition
with_opened conditions holds = conditions ++ record { branch = first_branch (is_left_out conditions) holds; ended = false } ∷ []

-- the innermost condition goes on with its next branch, the last one where it is ended
abbrev pub with_next : List Condition → Condition → (holds ended : Bool) → List Condition
with_next conditions condition holds ended = outer conditions ++ record { branch = next_branch condition.branch holds; ended = ended } ∷ []

abbrev pub named : Place → List ℕ → Answer (Unit {0})
named place name = if length name == 0 then fault_at UnknownDirective place else Ok tt

-- nothing goes on without an open condition, nor after its last branch
abbrev pub going_on : Place → Option Condition → Answer Condition
going_on place None = fault_at OpenCondition place
going_on place (Some condition) = if condition.ended then fault_at OpenCondition place else Ok condition

-- nothing closes without an open condition
abbrev pub closing : Place → Option Condition → Answer Condition
closing place None = fault_at OpenCondition place
closing place (Some condition) = Ok condition

-- the open conditions after a directive
abbrev pub after_test : Place → Macros → Test → List Condition → Answer (List Condition)
after_test place macros (if_defined name) conditions = named place name >>= λ _. Ok (with_opened conditions (is_some (macros name)))
after_test place macros (if_undefined name) conditions = named place name >>= λ _. Ok (with_opened conditions (not (is_some (macros name))))
after_test place macros (else_if_defined name) conditions =
    going_on place (innermost conditions) >>= λ condition. named place name >>= λ _. Ok (with_next conditions condition (is_some (macros name)) false)
after_test place macros otherwise conditions = going_on place (innermost conditions) >>= λ condition. Ok (with_next conditions condition true true)
after_test place macros end_of_condition conditions = closing place (innermost conditions) >>= λ _. Ok (outer conditions)
