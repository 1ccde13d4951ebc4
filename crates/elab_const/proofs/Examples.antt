-- Widths, signs, values, faults and turns of expressions, computed.
use Rattle.std.proofs.Common.{◌≡◌, refl}
use Rattle.std.specs.Prelude.{true, false, [], ◌∷◌, None, Some, Ok, Err, codes}
use Rattle.four_state.specs.declared.operator.Binary.TheVariants as op
use Rattle.verilog_tree.specs.Tree.{Header, literal, identifier, bit_select, part_select, indexed_part, conditional, concatenation, replication, sign_cast, no_exprs, an_expr}
use Rattle.elab_const.specs.Scope.{Names, Constant, Signal, Memory, NotConstant, TooWide, BadRange, LoopNotConstant, fault_at, with_entry}
use Rattle.elab_const.specs.Meaning.{shape, shape_as, constant}
use Rattle.elab_const.specs.Faults.{fault_of, shape_answer, constant_answer}
use Rattle.elab_const.specs.Loops.{turns_answer}
use Rattle.elab_const.proofs.Texts.{at, known, binary, plain, sized, signed, joined, nothing}

-- an unsigned operand makes the whole unsigned, of the greater width
mixed : shape nothing (joined op.Add (signed 4 8) (sized 8 1)) ≡ shape_as 8 false
mixed = refl

-- so the signed operand is extended by 0: 4'sb1000 + 8'd1
mixed_value : constant nothing (joined op.Add (signed 4 8) (sized 8 1)) ≡ known 8 9 false
mixed_value = refl

-- both signed: 4'sb1000 + 8'sd1
both_signed : constant nothing (joined op.Add (signed 4 8) (signed 8 1)) ≡ known 8 249 true
both_signed = refl

-- a comparison takes its operands in their common shape, and is one bit: 4'sb1111 < 8'sd0
less : constant nothing (joined op.LessThan (signed 4 15) (signed 8 0)) ≡ known 1 1 false
less = refl

-- a comparison is not extended by its context: (4'd15 + 4'd1 == 4'd0) + 8'd0
not_extended : constant nothing (joined op.Add (joined op.Equal (joined op.Add (sized 4 15) (sized 4 1)) (sized 4 0)) (sized 8 0)) ≡ known 8 1 false
not_extended = refl

-- a sum is: (4'd15 + 4'd1) + 8'd0
extended : constant nothing (joined op.Add (joined op.Add (sized 4 15) (sized 4 1)) (sized 8 0)) ≡ known 8 16 false
extended = refl

-- a shift has the width of its left side: 4'd1 << 8'd4
shifted : constant nothing (joined op.ShiftLeft (sized 4 1) (sized 8 4)) ≡ known 4 0 false
shifted = refl

-- 4'sb1000 >>> 1, and with an unsigned left side
shifted_right : constant nothing (joined op.ArithmeticShiftRight (signed 4 8) (plain 1)) ≡ known 4 12 true
shifted_right = refl

shifted_zero : constant nothing (joined op.ArithmeticShiftRight (sized 4 8) (plain 1)) ≡ known 4 4 false
shifted_zero = refl

-- 4'sb1000 / 4'sb0011 and the remainder
quotient : constant nothing (joined op.Divide (signed 4 8) (signed 4 3)) ≡ known 4 14 true
quotient = refl

remainder : constant nothing (joined op.Modulus (signed 4 8) (signed 4 3)) ≡ known 4 14 true
remainder = refl

-- an x in an operand of a sum: 4'b1x00 + 4'd1
strange_sum : constant nothing (joined op.Add (literal (at 1) (binary (codes "1x00") false)) (sized 4 1)) ≡ binary (codes "xxxx") false
strange_sum = refl

-- 1'bx ? 4'b1010 : 4'b1001
strange_choice : constant nothing (conditional (at 1) (literal (at 1) (binary (codes "x") false)) (sized 4 10) (sized 4 9)) ≡ binary (codes "10xx") false
strange_choice = refl

-- an unsized literal has 32 bits in a concatenation: {2'b10, 1}
beside : shape nothing (concatenation (at 1) (an_expr (sized 2 2) (an_expr (plain 1) no_exprs))) ≡ shape_as 34 false
beside = refl

-- {2{2'b10}}
twice : constant nothing (replication (at 1) (plain 2) (an_expr (sized 2 2) no_exprs)) ≡ known 4 10 false
twice = refl

-- $signed(4'b1000) + 8'sd0
cast : constant nothing (joined op.Add (sign_cast (at 1) true (sized 4 8)) (signed 8 0)) ≡ known 8 248 true
cast = refl

-- a repeat of zero
none_repeated : fault_of nothing (replication (at 3) (plain 0) (an_expr (sized 2 2) no_exprs)) ≡ Some (fault_at BadRange (at 3))
none_repeated = refl

-- 128 bits side by side, and 129
as_wide : fault_of nothing (replication (at 3) (plain 128) (an_expr (sized 1 1) no_exprs)) ≡ None
as_wide = refl

too_wide : fault_of nothing (replication (at 3) (plain 129) (an_expr (sized 1 1) no_exprs)) ≡ Some (fault_at TooWide (at 3))
too_wide = refl

-- x is reg [7:0], m is reg [0:3] m [0:15], and P is 3
abbrev names : Names
names = with_entry (codes "x") (Signal 7 0 true 8 false) (with_entry (codes "m") (Memory 0 15 0 3 true 4 false) (with_entry (codes "P") (Constant (known 32 3 true)) nothing))

-- x[P:0], m[1][1:2], x[P +: 2]
part : shape_answer names (part_select (at 1) (identifier (at 1) (codes "x")) (identifier (at 3) (codes "P")) (plain 0) (at 2)) ≡ Ok (shape_as 4 false)
part = refl

word_part : shape_answer names (part_select (at 1) (bit_select (at 1) (identifier (at 1) (codes "m")) (plain 1)) (plain 1) (plain 2) (at 5)) ≡ Ok (shape_as 2 false)
word_part = refl

slide : shape_answer names (indexed_part (at 1) (identifier (at 1) (codes "x")) (identifier (at 3) (codes "P")) (plain 2) true (at 2)) ≡ Ok (shape_as 2 false)
slide = refl

-- a part against the direction of the range: x[0:P]
against : shape_answer names (part_select (at 1) (identifier (at 1) (codes "x")) (plain 0) (identifier (at 5) (codes "P")) (at 2)) ≡ Err (fault_at BadRange (at 2))
against = refl

-- a bound that is no constant, and one with an x: x[x:0], x[1'bx:0]
no_bound : shape_answer names (part_select (at 1) (identifier (at 1) (codes "x")) (identifier (at 3) (codes "x")) (plain 0) (at 2)) ≡ Err (fault_at NotConstant (at 3))
no_bound = refl

strange_bound : shape_answer names (part_select (at 1) (identifier (at 1) (codes "x")) (literal (at 3) (binary (codes "x") false)) (plain 0) (at 2)) ≡ Err (fault_at NotConstant (at 3))
strange_bound = refl

-- a constant that names a signal
no_constant : constant_answer names (joined op.Add (plain 1) (identifier (at 5) (codes "x"))) ≡ Err (fault_at NotConstant (at 1))
no_constant = refl

-- for (i = 0; i < 3; i = i + 1)
abbrev counted : Header
counted =
    record {
      place = at 1;
      name = identifier (at 6) (codes "i");
      first = plain 0;
      test = joined op.LessThan (identifier (at 13) (codes "i")) (plain 3);
      target = identifier (at 20) (codes "i");
      step = joined op.Add (identifier (at 24) (codes "i")) (plain 1);
    }

three_turns : turns_answer nothing counted ≡ Ok (known 32 0 true ∷ known 32 1 true ∷ known 32 2 true ∷ [])
three_turns = refl

-- for (i = 0; x; i = i + 1)
by_signal : turns_answer names (record counted { test = identifier (at 13) (codes "x") }) ≡ Err (fault_at LoopNotConstant (at 1))
by_signal = refl
