-- Short forms for the expressions of the examples.
use Rattle.std.specs.Prelude.{ℕ, Bool, true, false, List, None}
use Rattle.cov_host.specs.declared.place.Place.{Place}
use Rattle.four_state.specs.Arithmetic.{low_bits}
use Rattle.four_state.specs.Examples.{digits}
use Rattle.four_state.specs.Vector.{Vector}
use Rattle.four_state.specs.declared.operator.Binary.{Binary}
use Rattle.verilog_tree.specs.Tree.{Expr, literal, binary_operator}
use Rattle.elab_const.specs.Scope.{Names}

-- in the first line of the first source
abbrev pub at : ℕ → Place
at column = record { source = 1; line = 1; column = column }

-- a number with so many bits
abbrev pub known : ℕ → ℕ → Bool → Vector
known w n s = record { bits = low_bits w n; signed = s }

-- the digits of a binary number, the highest first
abbrev pub binary : List ℕ → Bool → Vector
binary text s = record { bits = digits text; signed = s }

-- a decimal number as it is written without a size
abbrev pub plain : ℕ → Expr
plain n = literal (at 1) (known 32 n true)

-- an unsigned number with so many bits
abbrev pub sized : ℕ → ℕ → Expr
sized w n = literal (at 1) (known w n false)

-- a signed one
abbrev pub signed : ℕ → ℕ → Expr
signed w n = literal (at 1) (known w n true)

-- two operands
abbrev pub joined : Binary → Expr → Expr → Expr
joined op a b = binary_operator (at 1) op a b

-- no names
abbrev pub nothing : Names
nothing x = None
