-- The values of constants.
--   module m(input a);
--     parameter  P0 = (5'd0 <= 4'b1z00);
--     parameter  P1 = (1'b1 >>> 4'b1z00);
--     parameter  P2 = (((8'shf3 + 6'sd9) ? (1'b1 !== 1'b1) : ^(5'd0)) <= ((4'b1z00 < 4'b10x1) >>> (6'sd9 ? 6'sd9 : 2'b1z)));
--     parameter  P3 = {$unsigned(6'sd9), 2'b1z};
--     parameter [6:0] P4 = (((4'sb1000 || 1'b1) !== 12) ? {~&(6'sd9), (12 <<< 1'bx)} : 4'b10x1);
--     parameter signed P5 = !(($signed(12) ^ (4'd7 >> 2'b1z)));
--     parameter signed [9:2] P6 = (1'bx > 12);
--     parameter [6:0] P7 = (8'shf3 == (1'b1 <= 1'b1));
--     parameter signed P8 = (4'd7 << 4'b10x1);
--     parameter  P9 = (3 >= (2'b1z ? 6'sd9 : 4'b10x1));
--     parameter integer P10 = &(3);
--     parameter [6:0] P11 = (8'd200 ~^ (2'b1z === 5'd0));
--     parameter signed [9:2] P12 = (2'b1z <<< (2'b1z / 1'bx));
--     parameter [6:0] P13 = $unsigned((4'b10x1 ? 4'b10x1 : 8'd200));
--     parameter integer P14 = (6'sd9 && (6'sd9 + (8'shf3 !== 4'b10x1)));
--     parameter signed [9:2] P15 = 4'sb1000;
--     parameter  P16 = 3;
--     parameter signed P17 = |((12 - 4'sb1000));
--     parameter [6:0] P18 = 4'b1z00;
--     parameter signed [9:2] P19 = (4'sb1000 == 1'b1);
--     parameter [6:0] P20 = ({2{12}} <= 4'd7);
--     parameter integer P21 = 4'sb1000;
--     parameter signed P22 = (6'sd9 / (8'shf3 ? 6'sd9 : 4'b1z00));
--     parameter [6:0] P23 = 4'b10x1;
--     parameter  P24 = 12;
--     parameter  P25 = ~^((8'shf3 << 4'sb1000));
--     parameter [6:0] P26 = 12;
--     parameter  P27 = 3;
--     parameter integer P28 = ((4'b1z00 <<< 12) ? 3 : $unsigned(4'd7));
--     parameter [6:0] P29 = (4'b1z00 - 4'b10x1);
--   endmodule
use Rattle.std.proofs.Common.{◌≡◌, refl}
use Rattle.std.specs.Prelude.{true, false, List, [], ◌∷◌, Some, None, codes}
use Rattle.four_state.specs.declared.bit.Bit.TheVariants.{Zero, One, X, Z}
use Rattle.four_state.specs.declared.operator.Binary.TheVariants as binary
use Rattle.four_state.specs.declared.operator.Unary.TheVariants as unary
use Rattle.verilog_tree.specs.Tree.{literal, unary_operator, binary_operator, conditional, concatenation, replication, sign_cast, parentheses, no_exprs, an_expr, port_item, parameter_item, Module}
use Rattle.flat_design.specs.Flat.{elaborated}
use Rattle.flat_design.specs.Identifiers.{named}
use Rattle.flat_laws.proofs.TextParts.{item_as, module_as, param_as, port_as, range_as}
use Rattle.flat_laws.proofs.ExampleParts.{at, known, vector}

abbrev pub text : List Module
text = module_as (named (codes "m") (at 1 8)) [] ((named (codes "a") (at 1 16)) ∷
    []) (item_as (at 1 10) (port_item (port_as true false false None ((named (codes "a") (at 1 16)) ∷ []))) ∷
    item_as (at 2 3) (parameter_item (param_as (named (codes "P0") (at 2 14)) false false false None (parentheses (at 2 19) (binary_operator (at 2 20) binary.LessOrEqual
    (literal (at 2 20) (known 5 0 false)) (literal (at 2 28) (vector (Zero ∷ Zero ∷ Z ∷ One ∷ []) false)))) ∷ [])) ∷
    item_as (at 3 3) (parameter_item (param_as (named (codes "P1") (at 3 14)) false false false None (parentheses (at 3 19) (binary_operator (at 3 20)
    binary.ArithmeticShiftRight (literal (at 3 20) (known 1 1 false)) (literal (at 3 29) (vector (Zero ∷ Zero ∷ Z ∷ One ∷ []) false)))) ∷ [])) ∷
    item_as (at 4 3) (parameter_item (param_as (named (codes "P2") (at 4 14)) false false false None (parentheses (at 4 19) (binary_operator (at 4 20) binary.LessOrEqual
    (parentheses (at 4 20) (conditional (at 4 21) (parentheses (at 4 21) (binary_operator (at 4 22) binary.Add (literal (at 4 22) (known 8 243 true)) (literal (at 4 31)
    (known 6 9 true)))) (parentheses (at 4 40) (binary_operator (at 4 41) binary.CaseNotEqual (literal (at 4 41) (known 1 1 false)) (literal (at 4 50) (known 1 1
    false)))) (unary_operator (at 4 58) unary.ReduceXor (parentheses (at 4 59) (literal (at 4 60) (known 5 0 false)))))) (parentheses (at 4 70) (binary_operator (at 4
    71) binary.ArithmeticShiftRight (parentheses (at 4 71) (binary_operator (at 4 72) binary.LessThan (literal (at 4 72) (vector (Zero ∷ Zero ∷ Z ∷ One ∷
    []) false)) (literal (at 4 82) (vector (One ∷ X ∷ Zero ∷ One ∷
    []) false)))) (parentheses (at 4 95) (conditional (at 4 96) (literal (at 4 96) (known 6 9 true)) (literal (at 4 104) (known 6 9 true)) (literal (at 4 112) (vector (Z
    ∷ One ∷ []) false)))))))) ∷ [])) ∷ item_as (at 5 3) (parameter_item (param_as (named (codes "P3") (at 5 14)) false false false None (concatenation (at 5 19) (an_expr
    (sign_cast (at 5 20) false (literal (at 5 30) (known 6 9 true))) (an_expr (literal (at 5 38) (vector (Z ∷ One ∷ []) false)) no_exprs))) ∷ [])) ∷
    item_as (at 6 3) (parameter_item (param_as (named (codes "P4") (at 6 19)) false false false (Some (range_as (literal (at 6 14) (known 32 6 true)) (literal (at 6 16)
    (known 32 0 true)) (at 6 13))) (parentheses (at 6 24) (conditional (at 6 25) (parentheses (at 6 25) (binary_operator (at 6 26) binary.CaseNotEqual (parentheses (at 6
    26) (binary_operator (at 6 27) binary.LogicalOr (literal (at 6 27) (known 4 8 true)) (literal (at 6 39) (known 1 1 false)))) (literal (at 6 49) (known 32 12 true))))
    (concatenation (at 6 55) (an_expr (unary_operator (at 6 56) unary.ReduceNand (parentheses (at 6 58) (literal (at 6 59) (known 6 9 true)))) (an_expr (parentheses (at
    6 67) (binary_operator (at 6 68) binary.ArithmeticShiftLeft (literal (at 6 68) (known 32 12 true)) (literal (at 6 75) (vector (X ∷
    []) false)))) no_exprs))) (literal (at 6 84) (vector (One ∷ X ∷ Zero ∷ One ∷ []) false)))) ∷ [])) ∷
    item_as (at 7 3) (parameter_item (param_as (named (codes "P5") (at 7 20)) false true false None (unary_operator (at 7 25) unary.LogicalNot (parentheses (at 7 26)
    (parentheses (at 7 27) (binary_operator (at 7 28) binary.BitwiseXor (sign_cast (at 7 28) true (literal (at 7 36) (known 32 12 true))) (parentheses (at 7 42)
    (binary_operator (at 7 43) binary.ShiftRight (literal (at 7 43) (known 4 7 false)) (literal (at 7 51) (vector (Z ∷ One ∷ []) false)))))))) ∷ [])) ∷
    item_as (at 8 3) (parameter_item (param_as (named (codes "P6") (at 8 26)) false true false (Some (range_as (literal (at 8 21) (known 32 9 true)) (literal (at 8 23)
    (known 32 2 true)) (at 8 20))) (parentheses (at 8 31) (binary_operator (at 8 32) binary.GreaterThan (literal (at 8 32) (vector (X ∷
    []) false)) (literal (at 8 39) (known 32 12 true)))) ∷ [])) ∷
    item_as (at 9 3) (parameter_item (param_as (named (codes "P7") (at 9 19)) false false false (Some (range_as (literal (at 9 14) (known 32 6 true)) (literal (at 9 16)
    (known 32 0 true)) (at 9 13))) (parentheses (at 9 24) (binary_operator (at 9 25) binary.Equal (literal (at 9 25) (known 8 243 true)) (parentheses (at 9 35)
    (binary_operator (at 9 36) binary.LessOrEqual (literal (at 9 36) (known 1 1 false)) (literal (at 9 44) (known 1 1 false)))))) ∷ [])) ∷
    item_as (at 10 3) (parameter_item (param_as (named (codes "P8") (at 10 20)) false true false None (parentheses (at 10 25) (binary_operator (at 10 26)
    binary.ShiftLeft (literal (at 10 26) (known 4 7 false)) (literal (at 10 34) (vector (One ∷ X ∷ Zero ∷ One ∷ []) false)))) ∷ [])) ∷
    item_as (at 11 3) (parameter_item (param_as (named (codes "P9") (at 11 14)) false false false None (parentheses (at 11 19) (binary_operator (at 11 20)
    binary.GreaterOrEqual (literal (at 11 20) (known 32 3 true)) (parentheses (at 11 25) (conditional (at 11 26) (literal (at 11 26) (vector (Z ∷ One ∷
    []) false)) (literal (at 11 34) (known 6 9 true)) (literal (at 11 42) (vector (One ∷ X ∷ Zero ∷ One ∷ []) false)))))) ∷ [])) ∷
    item_as (at 12 3) (parameter_item (param_as (named (codes "P10") (at 12 21)) false false true None (unary_operator (at 12 27) unary.ReduceAnd (parentheses (at 12 28)
    (literal (at 12 29) (known 32 3 true)))) ∷ [])) ∷ item_as (at 13 3) (parameter_item (param_as (named (codes "P11") (at 13 19)) false false false (Some (range_as
    (literal (at 13 14) (known 32 6 true)) (literal (at 13 16) (known 32 0 true)) (at 13 13))) (parentheses (at 13 25) (binary_operator (at 13 26) binary.BitwiseXnor
    (literal (at 13 26) (known 8 200 false)) (parentheses (at 13 36) (binary_operator (at 13 37) binary.CaseEqual (literal (at 13 37) (vector (Z ∷ One ∷
    []) false)) (literal (at 13 47) (known 5 0 false)))))) ∷ [])) ∷
    item_as (at 14 3) (parameter_item (param_as (named (codes "P12") (at 14 26)) false true false (Some (range_as (literal (at 14 21) (known 32 9 true)) (literal (at 14
    23) (known 32 2 true)) (at 14 20))) (parentheses (at 14 32) (binary_operator (at 14 33) binary.ArithmeticShiftLeft (literal (at 14 33) (vector (Z ∷ One ∷
    []) false)) (parentheses (at 14 43) (binary_operator (at 14 44) binary.Divide (literal (at 14 44) (vector (Z ∷ One ∷ []) false)) (literal (at 14 52) (vector (X ∷
    []) false)))))) ∷ [])) ∷ item_as (at 15 3) (parameter_item (param_as (named (codes "P13") (at 15 19)) false false false (Some (range_as (literal (at 15 14) (known 32
    6 true)) (literal (at 15 16) (known 32 0 true)) (at 15 13))) (sign_cast (at 15 25) false (parentheses (at 15 35) (conditional (at 15 36) (literal (at 15 36) (vector
    (One ∷ X ∷ Zero ∷ One ∷ []) false)) (literal (at 15 46) (vector (One ∷ X ∷ Zero ∷ One ∷ []) false)) (literal (at 15 56) (known 8 200 false))))) ∷ [])) ∷
    item_as (at 16 3) (parameter_item (param_as (named (codes "P14") (at 16 21)) false false true None (parentheses (at 16 27) (binary_operator (at 16 28)
    binary.LogicalAnd (literal (at 16 28) (known 6 9 true)) (parentheses (at 16 37) (binary_operator (at 16 38) binary.Add (literal (at 16 38) (known 6 9 true))
    (parentheses (at 16 46) (binary_operator (at 16 47) binary.CaseNotEqual (literal (at 16 47) (known 8 243 true)) (literal (at 16 58) (vector (One ∷ X ∷ Zero ∷ One ∷
    []) false)))))))) ∷ [])) ∷ item_as (at 17 3) (parameter_item (param_as (named (codes "P15") (at 17 26)) false true false (Some (range_as (literal (at 17 21) (known
    32 9 true)) (literal (at 17 23) (known 32 2 true)) (at 17 20))) (literal (at 17 32) (known 4 8 true)) ∷ [])) ∷
    item_as (at 18 3) (parameter_item (param_as (named (codes "P16") (at 18 14)) false false false None (literal (at 18 20) (known 32 3 true)) ∷ [])) ∷
    item_as (at 19 3) (parameter_item (param_as (named (codes "P17") (at 19 20)) false true false None (unary_operator (at 19 26) unary.ReduceOr (parentheses (at 19 27)
    (parentheses (at 19 28) (binary_operator (at 19 29) binary.Subtract (literal (at 19 29) (known 32 12 true)) (literal (at 19 34) (known 4 8 true)))))) ∷ [])) ∷
    item_as (at 20 3) (parameter_item (param_as (named (codes "P18") (at 20 19)) false false false (Some (range_as (literal (at 20 14) (known 32 6 true)) (literal (at 20
    16) (known 32 0 true)) (at 20 13))) (literal (at 20 25) (vector (Zero ∷ Zero ∷ Z ∷ One ∷ []) false)) ∷ [])) ∷
    item_as (at 21 3) (parameter_item (param_as (named (codes "P19") (at 21 26)) false true false (Some (range_as (literal (at 21 21) (known 32 9 true)) (literal (at 21
    23) (known 32 2 true)) (at 21 20))) (parentheses (at 21 32) (binary_operator (at 21 33) binary.Equal (literal (at 21 33) (known 4 8 true)) (literal (at 21 45) (known
    1 1 false)))) ∷ [])) ∷ item_as (at 22 3) (parameter_item (param_as (named (codes "P20") (at 22 19)) false false false (Some (range_as (literal (at 22 14) (known 32 6
    true)) (literal (at 22 16) (known 32 0 true)) (at 22 13))) (parentheses (at 22 25) (binary_operator (at 22 26) binary.LessOrEqual (replication (at 22 26) (literal
    (at 22 27) (known 32 2 true)) (an_expr (literal (at 22 29) (known 32 12 true)) no_exprs)) (literal (at 22 37) (known 4 7 false)))) ∷ [])) ∷
    item_as (at 23 3) (parameter_item (param_as (named (codes "P21") (at 23 21)) false false true None (literal (at 23 27) (known 4 8 true)) ∷ [])) ∷
    item_as (at 24 3) (parameter_item (param_as (named (codes "P22") (at 24 20)) false true false None (parentheses (at 24 26) (binary_operator (at 24 27) binary.Divide
    (literal (at 24 27) (known 6 9 true)) (parentheses (at 24 35) (conditional (at 24 36) (literal (at 24 36) (known 8 243 true)) (literal (at 24 45) (known 6 9 true))
    (literal (at 24 53) (vector (Zero ∷ Zero ∷ Z ∷ One ∷ []) false)))))) ∷ [])) ∷
    item_as (at 25 3) (parameter_item (param_as (named (codes "P23") (at 25 19)) false false false (Some (range_as (literal (at 25 14) (known 32 6 true)) (literal (at 25
    16) (known 32 0 true)) (at 25 13))) (literal (at 25 25) (vector (One ∷ X ∷ Zero ∷ One ∷ []) false)) ∷ [])) ∷
    item_as (at 26 3) (parameter_item (param_as (named (codes "P24") (at 26 14)) false false false None (literal (at 26 20) (known 32 12 true)) ∷ [])) ∷
    item_as (at 27 3) (parameter_item (param_as (named (codes "P25") (at 27 14)) false false false None (unary_operator (at 27 20) unary.ReduceXnor (parentheses (at 27
    22) (parentheses (at 27 23) (binary_operator (at 27 24) binary.ShiftLeft (literal (at 27 24) (known 8 243 true)) (literal (at 27 34) (known 4 8 true)))))) ∷ [])) ∷
    item_as (at 28 3) (parameter_item (param_as (named (codes "P26") (at 28 19)) false false false (Some (range_as (literal (at 28 14) (known 32 6 true)) (literal (at 28
    16) (known 32 0 true)) (at 28 13))) (literal (at 28 25) (known 32 12 true)) ∷ [])) ∷
    item_as (at 29 3) (parameter_item (param_as (named (codes "P27") (at 29 14)) false false false None (literal (at 29 20) (known 32 3 true)) ∷ [])) ∷
    item_as (at 30 3) (parameter_item (param_as (named (codes "P28") (at 30 21)) false false true None (parentheses (at 30 27) (conditional (at 30 28) (parentheses (at
    30 28) (binary_operator (at 30 29) binary.ArithmeticShiftLeft (literal (at 30 29) (vector (Zero ∷ Zero ∷ Z ∷ One ∷
    []) false)) (literal (at 30 41) (known 32 12 true)))) (literal (at 30 47) (known 32 3 true)) (sign_cast (at 30 51) false (literal (at 30 61) (known 4 7 false))))) ∷
    [])) ∷ item_as (at 31 3) (parameter_item (param_as (named (codes "P29") (at 31 19)) false false false (Some (range_as (literal (at 31 14) (known 32 6 true)) (literal
    (at 31 16) (known 32 0 true)) (at 31 13))) (parentheses (at 31 25) (binary_operator (at 31 26) binary.Subtract (literal (at 31 26) (vector (Zero ∷ Zero ∷ Z ∷ One ∷
    []) false)) (literal (at 31 36) (vector (One ∷ X ∷ Zero ∷ One ∷ []) false)))) ∷ [])) ∷ []) ∷ []

constants : (elaborated text (codes "m")).design.constants ≡ (record { instance = 0; name = codes "P0"; value = (vector (X ∷ []) false) } ∷
    record { instance = 0; name = codes "P1"; value = (vector (X ∷ []) false) } ∷ record { instance = 0; name = codes "P2"; value = (known 1 1 false) } ∷
    record { instance = 0; name = codes "P3"; value = (vector (Z ∷ One ∷ One ∷ Zero ∷ Zero ∷ One ∷ Zero ∷ Zero ∷ []) false) } ∷
    record { instance = 0; name = codes "P4"; value = (vector (X ∷ X ∷ X ∷ X ∷ X ∷ X ∷ X ∷ []) false) } ∷ record {
      instance = 0;
      name = codes "P5";
      value = (vector (X ∷
          []) true);
    } ∷ record { instance = 0; name = codes "P6"; value = (vector (X ∷ Zero ∷ Zero ∷ Zero ∷ Zero ∷ Zero ∷ Zero ∷ Zero ∷ []) true) } ∷
    record { instance = 0; name = codes "P7"; value = (known 7 0 false) } ∷ record { instance = 0; name = codes "P8"; value = (vector (X ∷ X ∷ X ∷ X ∷ []) true) } ∷
    record { instance = 0; name = codes "P9"; value = (known 1 0 false) } ∷ record { instance = 0; name = codes "P10"; value = (known 32 0 true) } ∷
    record { instance = 0; name = codes "P11"; value = (known 7 55 false) } ∷ record {
      instance = 0;
      name = codes "P12";
      value = (vector (X ∷ X ∷ Zero ∷ Zero ∷ Zero ∷
          Zero ∷ Zero ∷ Zero ∷ []) true);
    } ∷ record { instance = 0; name = codes "P13"; value = (vector (One ∷ X ∷ Zero ∷ One ∷ Zero ∷ Zero ∷ Zero ∷ []) false) } ∷
    record { instance = 0; name = codes "P14"; value = (known 32 1 true) } ∷ record { instance = 0; name = codes "P15"; value = (known 8 248 true) } ∷
    record { instance = 0; name = codes "P16"; value = (known 32 3 true) } ∷ record { instance = 0; name = codes "P17"; value = (known 1 1 true) } ∷
    record { instance = 0; name = codes "P18"; value = (vector (Zero ∷ Zero ∷ Z ∷ One ∷ Zero ∷ Zero ∷ Zero ∷ []) false) } ∷
    record { instance = 0; name = codes "P19"; value = (known 8 0 true) } ∷ record { instance = 0; name = codes "P20"; value = (known 7 0 false) } ∷
    record { instance = 0; name = codes "P21"; value = (known 32 4294967288 true) } ∷ record { instance = 0; name = codes "P22"; value = (known 6 1 true) } ∷
    record { instance = 0; name = codes "P23"; value = (vector (One ∷ X ∷ Zero ∷ One ∷ Zero ∷ Zero ∷ Zero ∷ []) false) } ∷
    record { instance = 0; name = codes "P24"; value = (known 32 12 true) } ∷ record { instance = 0; name = codes "P25"; value = (known 1 1 false) } ∷
    record { instance = 0; name = codes "P26"; value = (known 7 12 false) } ∷ record { instance = 0; name = codes "P27"; value = (known 32 3 true) } ∷
    record { instance = 0; name = codes "P28"; value = (known 32 7 true) } ∷ record {
      instance = 0;
      name = codes "P29";
      value = (vector (X ∷ X ∷ X ∷ X ∷ Zero ∷ Zero ∷
          Zero ∷ []) false);
    } ∷ [])
constants = refl
