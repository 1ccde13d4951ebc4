-- The turns of a loop: the values of its variable in order, or what is wrong with its header (clause 9.6).
use Rattle.std.specs.Prelude.{ℕ, zero, suc, max, Bool, true, false, ◌&&◌, if◌then◌else◌, List, [], ◌∷◌, bytes_eq, Option, Some, None, Result, Ok, Err}
use Rattle.cov_host.specs.declared.place.Place.{Place}
use Rattle.four_state.specs.Vector.{Vector, truth, extend}
use Rattle.four_state.specs.declared.bit.Bit.TheVariants.{X}
use Rattle.four_state.specs.declared.truth.Truth.{Truth}
use Rattle.four_state.specs.declared.truth.Truth.TheVariants.{True, False, Strange}
use Rattle.verilog_tree.specs.Tree.{Expr, identifier, Header}
use Rattle.elab_const.specs.Scope.{Names, Fault, LoopNotConstant, LoopTooLong, fault_at, with_turn, on_ok, unless}
use Rattle.elab_const.specs.Meaning.{meaning, vector_in, shape, shape_as}
use Rattle.elab_const.specs.Faults.{is_constant, is_unknown, fault_of, alone_answer}

-- a value as an integer: cut to 32 bits or extended by its own sign, and signed
abbrev pub integer_in : Vector → Vector
integer_in v = record { bits = extend 32 v.signed v.bits; signed = true }

-- the value that an assignment gives an integer: evaluated at 32 bits or more
abbrev pub integer_value : Names → Expr → Vector
integer_value g e = integer_in (vector_in (meaning g e) (shape_as (max (shape g e).width 32) (shape g e).signed))

-- the same, or the first fault of the expression
abbrev pub integer_answer : Names → Expr → Result Vector Fault
integer_answer g e = unless (fault_of g e) (integer_value g e)

-- whether a test holds; with an x it does neither
abbrev pub holds : Place → Truth → Result Bool Fault
holds p True = Ok true
holds p False = Ok false
holds p Strange = Err (fault_at LoopNotConstant p)

-- whether a turn begins, or the first fault of the test
abbrev pub begins : Names → Place → Expr → Result Bool Fault
begins g p test = on_ok (alone_answer g test) (λ v. holds p (truth v.bits))

-- what follows a turn that begins, else nothing
abbrev pub some_if : Result Vector Fault → Bool → Result (Option Vector) Fault
some_if next true = on_ok next (λ v. Ok (Some v))
some_if next false = Ok None

-- what the variable has after a turn, if that turn begins
abbrev pub next_answer : Names → Place → Expr → Expr → Result (Option Vector) Fault
next_answer g p test step = on_ok (begins g p test) (some_if (integer_answer g step))

-- that no turn begins
abbrev pub end_if : Place → Bool → Result (Unit {0}) Fault
end_if p true = Err (fault_at LoopTooLong p)
end_if p false = Ok tt

-- one turn more, before the others
abbrev pub turn_before : Vector → Result (List Vector) Fault → Result (List Vector) Fault
turn_before v more = on_ok more (λ vs. Ok (v ∷ vs))

-- what follows where a turn begins, else no more turns
abbrev pub more_if : Result (List Vector) Fault → Bool → Result (List Vector) Fault
more_if more true = more
more_if more false = Ok []

-- the turns from this value of the variable on, at most this number of them
abbrev pub turns_from : Names → Place → List ℕ → Expr → Expr → ℕ → Vector → Result (List Vector) Fault
turns_from g p x test step zero v = on_ok (begins (with_turn x v g) p test) (more_if (Err (fault_at LoopTooLong p)))
turns_from g p x test step (suc k) v =
    on_ok (begins (with_turn x v g) p test) (more_if (on_ok (integer_answer (with_turn x v g) step) (λ next. turn_before v (turns_from g p x test step k next))))

-- the variable of a header: the plain name that is assigned in both places
abbrev pub variable_of : Expr → Expr → Option (List ℕ)
variable_of (identifier p x) (identifier q y) = if bytes_eq x y then Some x else None
variable_of _ _ = None

-- the names where x is a loop variable; which value it has does not matter
abbrev pub with_variable : List ℕ → Names → Names
with_variable x g = with_turn x (record { bits = X ∷ []; signed = true }) g

-- the header names only constants and x, and x is no name of something else
abbrev pub is_over : Names → List ℕ → Expr → Expr → Expr → Bool
is_over g x first test step = is_unknown (g x) && is_constant g first && is_constant (with_variable x g) test && is_constant (with_variable x g) step

-- at most 1,024 turns over x
abbrev pub turns_over : Names → Header → List ℕ → Result (List Vector) Fault
turns_over g h x =
    if is_over g x h.first h.test h.step then on_ok (integer_answer g h.first) (turns_from g h.place x h.test h.step 1024) else Err (fault_at LoopNotConstant h.place)

-- the same where the header has a variable
abbrev pub turns_by : Names → Header → Option (List ℕ) → Result (List Vector) Fault
turns_by g h None = Err (fault_at LoopNotConstant h.place)
turns_by g h (Some x) = turns_over g h x

-- the values of the loop variable in order, or the first fault
abbrev pub turns_answer : Names → Header → Result (List Vector) Fault
turns_answer g h = turns_by g h (variable_of h.name h.target)
