-- The first fault of an expression: of its constants, bounds and widths.
use Rattle.std.specs.Prelude.{ℕ, ◌*◌, nat_lt, Bool, true, false, ◌&&◌, if◌then◌else◌, List, Option, Some, None, Result, Ok, Err}
use Rattle.cov_host.specs.declared.place.Place.{Place}
use Rattle.four_state.specs.declared.index.Index.{Index}
use Rattle.four_state.specs.declared.index.Index.TheVariants as number
use Rattle.four_state.specs.Vector.{Vector}
use Rattle.four_state.specs.declared.bit.Bit.{Bit}
use Rattle.four_state.specs.declared.operator.Binary.{Binary}
use Rattle.verilog_tree.specs.Tree.{Expr, literal, identifier, bit_select, part_select, indexed_part, unary_operator, binary_operator, conditional, concatenation, replication, sign_cast, parentheses, Exprs, no_exprs, an_expr, place_of}
use Rattle.elab_const.specs.Scope.{Names, Entry, Constant, Turn, Fault, NotConstant, TooWide, BadRange, fault_if, earlier, or_else, unless}
use Rattle.elab_const.specs.Meaning.{Shape, Evaluated, context_of, within, pair_within, operands_within, number_of, count_of, part_width, falls, shape, constant, parts_of, meaning}

-- a parameter, or a loop variable in one turn
abbrev pub is_constant_entry : Option Entry → Bool
is_constant_entry (Some (Constant v)) = true
is_constant_entry (Some (Turn v)) = true
is_constant_entry _ = false

-- without a declaration
abbrev pub is_unknown : Option Entry → Bool
is_unknown None = true
is_unknown (Some e) = false

-- the expression names constants alone, and selects nothing from them (clause 4.1)
abbrev mutual
  pub is_constant : Names → Expr → Bool
  is_constant g (literal p v) = true
  is_constant g (identifier p x) = is_constant_entry (g x)
  is_constant g (bit_select p of i) = false
  is_constant g (part_select p of h l b) = false
  is_constant g (indexed_part p of b w up k) = false
  is_constant g (unary_operator p op a) = is_constant g a
  is_constant g (binary_operator p op a b) = is_constant g a && is_constant g b
  is_constant g (conditional p c a b) = is_constant g c && is_constant g a && is_constant g b
  is_constant g (concatenation p es) = are_constant g es
  is_constant g (replication p n es) = is_constant g n && are_constant g es
  is_constant g (sign_cast p s a) = is_constant g a
  is_constant g (parentheses p a) = is_constant g a

  pub are_constant : Names → Exprs → Bool
  are_constant g no_exprs = true
  are_constant g (an_expr e es) = is_constant g e && are_constant g es

-- an x or z bit
abbrev pub is_no_number : Index → Bool
is_no_number number.Strange = true
is_no_number _ = false

-- not from 0 to 1,048,575
abbrev pub is_bad_bound : Index → Bool
is_bad_bound (number.At n) = nat_lt 1048575 n
is_bad_bound _ = true

-- less than 1
abbrev pub is_below_one : Index → Bool
is_below_one (number.At n) = nat_lt n 1
is_below_one _ = true

-- a width that is less than 1, or over 128
abbrev pub size_fault : ℕ → Place → Option Fault
size_fault w p = or_else (fault_if (nat_lt w 1) BadRange p) (fault_if (nat_lt 128 w) TooWide p)

-- of an expression that must be constant; the fault is the one that it has as an expression
abbrev pub constant_fault : Names → Expr → Option Fault → Option Fault
constant_fault g e fault = if is_constant g e then fault else fault_if true NotConstant (place_of e)

-- of an expression that must be a constant number
abbrev pub number_fault : Names → Expr → Option Fault → Option Fault
number_fault g e fault = or_else (constant_fault g e fault) (fault_if (is_no_number (number_of g e)) NotConstant (place_of e))

-- of a bound of the part with this bracket
abbrev pub bound_fault : Names → Place → Expr → Option Fault → Option Fault
bound_fault g bracket e fault = or_else (number_fault g e fault) (fault_if (is_bad_bound (number_of g e)) BadRange bracket)

-- of the width of a part with this bracket
abbrev pub width_fault : Names → Place → Expr → Option Fault → Option Fault
width_fault g bracket e fault = or_else (number_fault g e fault) (or_else (fault_if (is_below_one (number_of g e)) BadRange bracket) (size_fault (count_of (number_of g e)) bracket))

-- of the count of a repeat that begins here
abbrev pub count_fault : Names → Place → Expr → Option Fault → Option Fault
count_fault g p e fault = or_else (number_fault g e fault) (fault_if (is_below_one (number_of g e)) BadRange p)

-- the first fault of an expression
abbrev mutual
  pub fault_of : Names → Expr → Option Fault
  fault_of g (literal p v) = None
  fault_of g (identifier p x) = fault_if (is_unknown (g x)) NotConstant p
  fault_of g (bit_select p of i) = earlier (fault_of g of) (fault_of g i)
  fault_of g (part_select p of h l bracket) =
      or_else (earlier (fault_of g of) (earlier (bound_fault g bracket h (fault_of g h)) (bound_fault g bracket l (fault_of g l)))) (size_fault (part_width (falls g of) (count_of (number_of g h)) (count_of (number_of g l))) bracket)
  fault_of g (indexed_part p of b w up bracket) = earlier (fault_of g of) (earlier (fault_of g b) (width_fault g bracket w (fault_of g w)))
  fault_of g (unary_operator p op a) = fault_of g a
  fault_of g (binary_operator p op a b) = earlier (fault_of g a) (fault_of g b)
  fault_of g (conditional p c a b) = earlier (fault_of g c) (earlier (fault_of g a) (fault_of g b))
  fault_of g (concatenation p es) = or_else (first_fault g None es) (size_fault (parts_of g es).width p)
  fault_of g (replication p n es) = or_else (earlier (count_fault g p n (fault_of g n)) (first_fault g None es)) (size_fault (count_of (number_of g n) * (parts_of g es).width) p)
  fault_of g (sign_cast p s a) = fault_of g a
  fault_of g (parentheses p a) = fault_of g a

  -- the first of this one and of the faults of the expressions
  pub first_fault : Names → Option Fault → Exprs → Option Fault
  first_fault g found no_exprs = found
  first_fault g found (an_expr e es) = first_fault g (earlier found (fault_of g e)) es

-- a number as a bound
abbrev pub bound_from : Place → Index → Result ℕ Fault
bound_from bracket n = unless (fault_if (is_bad_bound n) BadRange bracket) (count_of n)

-- a number as the width of a part
abbrev pub size_from : Place → Index → Result ℕ Fault
size_from bracket n = unless (or_else (fault_if (is_below_one n) BadRange bracket) (size_fault (count_of n) bracket)) (count_of n)

-- a number as the count of a repeat
abbrev pub count_from : Place → Index → Result ℕ Fault
count_from p n = unless (fault_if (is_below_one n) BadRange p) (count_of n)

-- the width and sign of an expression alone, or its first fault
abbrev pub shape_answer : Names → Expr → Result Shape Fault
shape_answer g e = unless (fault_of g e) (shape g e)

-- the widths of all parts together, or their first fault
abbrev pub width_answer : Names → Exprs → Result ℕ Fault
width_answer g es = unless (first_fault g None es) (parts_of g es).width

-- the number that an expression says which must be a constant number, or its first fault
abbrev pub number_answer : Names → Expr → Result Index Fault
number_answer g e = unless (number_fault g e (fault_of g e)) (number_of g e)

-- the value of an expression alone, or its first fault
abbrev pub alone_answer : Names → Expr → Result Vector Fault
alone_answer g e = unless (fault_of g e) (constant g e)

-- the shape and the value of an expression in its context, or its first fault
abbrev pub evaluated_answer : Names → Expr → Option Shape → Result Evaluated Fault
evaluated_answer g e around = unless (fault_of g e) (within (meaning g e) around)

-- the same of two expressions in their common context
abbrev pub pair_answer : Names → Expr → Expr → Option Shape → Result (Evaluated × Evaluated) Fault
pair_answer g a b around = unless (earlier (fault_of g a) (fault_of g b)) (pair_within (meaning g a) (meaning g b) around)

-- the same of both operands of an operator
abbrev pub operands_answer : Names → Binary → Expr → Expr → Option Shape → Result (Evaluated × Evaluated) Fault
operands_answer g op a b around = unless (earlier (fault_of g a) (fault_of g b)) (operands_within op (meaning g a) (meaning g b) around)

-- the shape in an answer
abbrev pub shape_in : Result Evaluated Fault → Result Shape Fault
shape_in (Ok e) = Ok e.shape
shape_in (Err f) = Err f

-- the value in an answer
abbrev pub value_in : Result Evaluated Fault → Result Vector Fault
value_in (Ok e) = Ok e.value
value_in (Err f) = Err f

-- the context of an operand, with the other operand, if that has no fault
abbrev pub beside : Option Shape → Result Shape Fault → Option Shape
beside around (Ok s) = Some (context_of around s)
beside around (Err f) = around

-- an unsigned vector
abbrev pub unsigned : List Bit → Vector
unsigned bs = record { bits = bs; signed = false }

-- a bound of the part with this bracket
abbrev pub bound_answer : Names → Place → Expr → Result ℕ Fault
bound_answer g bracket e = unless (bound_fault g bracket e (fault_of g e)) (count_of (number_of g e))

-- the width of the part with this bracket
abbrev pub size_answer : Names → Place → Expr → Result ℕ Fault
size_answer g bracket e = unless (width_fault g bracket e (fault_of g e)) (count_of (number_of g e))

-- the count of a repeat that begins here
abbrev pub count_answer : Names → Place → Expr → Result ℕ Fault
count_answer g p e = unless (count_fault g p e (fault_of g e)) (count_of (number_of g e))

-- the value of an expression that must be constant, or its first fault
abbrev pub constant_answer : Names → Expr → Result Vector Fault
constant_answer g e = unless (constant_fault g e (fault_of g e)) (constant g e)
