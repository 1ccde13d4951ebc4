-- What elaboration makes of this text:
--   module m(input [3:0] a, input clk, output reg [3:0] y, output reg [0:7] z);
--     integer i, j;
--     parameter W = 3;
--     reg [7:0] t [0:W];
--     always @* begin
--       y = 0;
--       for (i = 0; i < 4; i = i + 1) begin
--         y[i] = a[i] ^ (i == 2);
--         if (i > 1) y[i] = ~a[i];
--       end
--       for (i = 5; i < 5; i = i + 1) y = a + 1;
--     end
--     always @(posedge clk) begin
--       for (i = 0; i < 2; i = i + 1)
--         for (j = i; j < 2; j = j + 1) t[i + j] <= {a, 4'd0} + j;
--       z[a +: 2] <= a ? t[a[1:0]][3:2] : (a[0] & !a);
--       if ((a)) z[2:3] <= 0;
--     end
--   endmodule
use Rattle.std.proofs.Common.{◌≡◌, refl}
use Rattle.std.specs.Prelude.{true, false, List, [], ◌∷◌, map, Some, None, codes}
use Rattle.four_state.specs.declared.edge.Edge.TheVariants.{Pos}
use Rattle.four_state.specs.declared.operator.Binary.TheVariants as binary
use Rattle.four_state.specs.declared.operator.Unary.TheVariants as unary
use Rattle.point_words.specs.declared.line_word.LineWord.TheVariants as word
use Rattle.design_model.specs.Numbered.{line_at, lines_of}
use Rattle.verilog_tree.specs.declared.item.When.TheVariants.{Star, Edges}
use Rattle.verilog_tree.specs.Tree.{literal, identifier, bit_select, part_select, indexed_part, unary_operator, binary_operator, conditional, concatenation, parentheses, no_exprs, an_expr, sequential_block, if_statement, for_loop, assignment, no_statements, a_statement, port_item, variable_item, integer_item, parameter_item, always_item, Module}
use Rattle.elab_const.specs.Meaning.{shape_as}
use Rattle.flat_design.specs.Faults.{faults_of}
use Rattle.flat_design.specs.Flat.{elaborated}
use Rattle.flat_design.specs.Identifiers.{named}
use Rattle.flat_laws.proofs.TextParts.{declared_as, header_as, item_as, module_as, param_as, port_as, range_as, vector_as}
use Rattle.flat_laws.proofs.ExampleParts.{at, known, node_at, process_nodes, process_shapes, a_comb, a_clocked, process_head, keeps_laws}

abbrev pub text : List Module
text = module_as (named (codes "m") (at 1 8)) [] ((named (codes "a") (at 1 22)) ∷ (named (codes "clk") (at 1 31)) ∷ (named (codes "y") (at 1 53)) ∷
    (named (codes "z") (at 1 73)) ∷ []) (item_as (at 1 10) (port_item (port_as true false false (Some (range_as (literal (at 1 17) (known 32 3 true)) (literal (at 1 19)
    (known 32 0 true)) (at 1 16))) ((named (codes "a") (at 1 22)) ∷ []))) ∷
    item_as (at 1 25) (port_item (port_as true false false None ((named (codes "clk") (at 1 31)) ∷ []))) ∷
    item_as (at 1 36) (port_item (port_as false true false (Some (range_as (literal (at 1 48) (known 32 3 true)) (literal (at 1 50) (known 32 0 true)) (at 1 47)))
    ((named (codes "y") (at 1 53)) ∷ []))) ∷ item_as (at 1 56) (port_item (port_as false true false (Some (range_as (literal (at 1 68) (known 32 0 true)) (literal (at 1
    70) (known 32 7 true)) (at 1 67))) ((named (codes "z") (at 1 73)) ∷ []))) ∷ item_as (at 2 3) (integer_item (declared_as (named (codes "i") (at 2 11)) None None ∷
    declared_as (named (codes "j") (at 2 14)) None None ∷ [])) ∷
    item_as (at 3 3) (parameter_item (param_as (named (codes "W") (at 3 13)) false false false None (literal (at 3 17) (known 32 3 true)) ∷ [])) ∷
    item_as (at 4 3) (variable_item (vector_as false (Some (range_as (literal (at 4 8) (known 32 7 true)) (literal (at 4 10) (known 32 0 true)) (at 4 7))) (declared_as
    (named (codes "t") (at 4 13)) None (Some (range_as (literal (at 4 16) (known 32 0 true)) (identifier (at 4 18) (codes "W")) (at 4 15))) ∷ []))) ∷
    item_as (at 5 3) (always_item Star (sequential_block (at 5 13) (a_statement (assignment (at 6 5) (identifier (at 6 5) (codes "y")) true (literal (at 6 9) (known 32 0
    true))) (a_statement (for_loop (at 7 5) (header_as (at 7 5) (identifier (at 7 10) (codes "i")) (literal (at 7 14) (known 32 0 true)) (binary_operator (at 7 17)
    binary.LessThan (identifier (at 7 17) (codes "i")) (literal (at 7 21) (known 32 4 true))) (identifier (at 7 24) (codes "i")) (binary_operator (at 7 28) binary.Add
    (identifier (at 7 28) (codes "i")) (literal (at 7 32) (known 32 1 true)))) (sequential_block (at 7 35) (a_statement (assignment (at 8 7) (bit_select (at 8 7)
    (identifier (at 8 7) (codes "y")) (identifier (at 8 9) (codes "i"))) true (binary_operator (at 8 14) binary.BitwiseXor (bit_select (at 8 14) (identifier (at 8 14)
    (codes "a")) (identifier (at 8 16) (codes "i"))) (parentheses (at 8 21) (binary_operator (at 8 22) binary.Equal (identifier (at 8 22) (codes "i")) (literal (at 8 27)
    (known 32 2 true)))))) (a_statement (if_statement (at 9 7) (binary_operator (at 9 11) binary.GreaterThan (identifier (at 9 11) (codes "i")) (literal (at 9 15) (known
    32 1 true))) (assignment (at 9 18) (bit_select (at 9 18) (identifier (at 9 18) (codes "y")) (identifier (at 9 20) (codes "i"))) true (unary_operator (at 9 25)
    unary.BitwiseNot (bit_select (at 9 26) (identifier (at 9 26) (codes "a")) (identifier (at 9 28) (codes "i"))))) no_statements) no_statements)))) (a_statement
    (for_loop (at 11 5) (header_as (at 11 5) (identifier (at 11 10) (codes "i")) (literal (at 11 14) (known 32 5 true)) (binary_operator (at 11 17) binary.LessThan
    (identifier (at 11 17) (codes "i")) (literal (at 11 21) (known 32 5 true))) (identifier (at 11 24) (codes "i")) (binary_operator (at 11 28) binary.Add (identifier
    (at 11 28) (codes "i")) (literal (at 11 32) (known 32 1 true)))) (assignment (at 11 35) (identifier (at 11 35) (codes "y")) true (binary_operator (at 11 39)
    binary.Add (identifier (at 11 39) (codes "a")) (literal (at 11 43) (known 32 1 true))))) no_statements))))) ∷
    item_as (at 13 3) (always_item (Edges ((Pos, (named (codes "clk") (at 13 20))) ∷
    [])) (sequential_block (at 13 25) (a_statement (for_loop (at 14 5) (header_as (at 14 5) (identifier (at 14 10) (codes "i")) (literal (at 14 14) (known 32 0 true))
    (binary_operator (at 14 17) binary.LessThan (identifier (at 14 17) (codes "i")) (literal (at 14 21) (known 32 2 true))) (identifier (at 14 24) (codes "i"))
    (binary_operator (at 14 28) binary.Add (identifier (at 14 28) (codes "i")) (literal (at 14 32) (known 32 1 true)))) (for_loop (at 15 7) (header_as (at 15 7)
    (identifier (at 15 12) (codes "j")) (identifier (at 15 16) (codes "i")) (binary_operator (at 15 19) binary.LessThan (identifier (at 15 19) (codes "j")) (literal (at
    15 23) (known 32 2 true))) (identifier (at 15 26) (codes "j")) (binary_operator (at 15 30) binary.Add (identifier (at 15 30) (codes "j")) (literal (at 15 34) (known
    32 1 true)))) (assignment (at 15 37) (bit_select (at 15 37) (identifier (at 15 37) (codes "t")) (binary_operator (at 15 39) binary.Add (identifier (at 15 39) (codes
    "i")) (identifier (at 15 43) (codes "j")))) false (binary_operator (at 15 49) binary.Add (concatenation (at 15 49) (an_expr (identifier (at 15 50) (codes "a"))
    (an_expr (literal (at 15 53) (known 4 0 false)) no_exprs))) (identifier (at 15 61) (codes "j")))))) (a_statement (assignment (at 16 5) (indexed_part (at 16 5)
    (identifier (at 16 5) (codes "z")) (identifier (at 16 7) (codes "a")) (literal (at 16 12) (known 32 2 true)) true (at 16 6)) false (conditional (at 16 18)
    (identifier (at 16 18) (codes "a")) (part_select (at 16 22) (bit_select (at 16 22) (identifier (at 16 22) (codes "t")) (part_select (at 16 24) (identifier (at 16 24)
    (codes "a")) (literal (at 16 26) (known 32 1 true)) (literal (at 16 28) (known 32 0 true)) (at 16 25))) (literal (at 16 32) (known 32 3 true)) (literal (at 16 34)
    (known 32 2 true)) (at 16 31)) (parentheses (at 16 39) (binary_operator (at 16 40) binary.BitwiseAnd (bit_select (at 16 40) (identifier (at 16 40) (codes "a"))
    (literal (at 16 42) (known 32 0 true))) (unary_operator (at 16 47) unary.LogicalNot (identifier (at 16 48) (codes "a"))))))) (a_statement (if_statement (at 17 5)
    (parentheses (at 17 9) (identifier (at 17 10) (codes "a"))) (assignment (at 17 14) (part_select (at 17 14) (identifier (at 17 14) (codes "z")) (literal (at 17 16)
    (known 32 2 true)) (literal (at 17 18) (known 32 3 true)) (at 17 15)) false (literal (at 17 24) (known 32 0 true))) no_statements) no_statements))))) ∷ []) ∷ []

no_faults : faults_of text (codes "m") ≡ []
no_faults = refl

instances : (elaborated text (codes "m")).design.instances ≡ (record { path = codes "m"; «module» = codes "m" } ∷ [])
instances = refl

signals : (elaborated text (codes "m")).design.signals ≡ (record {
  instance = 0;
  name = codes "a";
  high = 3;
  low = 0;
  ranged = true;
  width = 4;
  signed = false;
  input = true;
} ∷ record { instance = 0; name = codes "clk"; high = 0; low = 0; ranged = false; width = 1; signed = false; input = true } ∷
    record { instance = 0; name = codes "y"; high = 3; low = 0; ranged = true; width = 4; signed = false; input = false } ∷
    record { instance = 0; name = codes "z"; high = 0; low = 7; ranged = true; width = 8; signed = false; input = false } ∷ [])
signals = refl

memories : (elaborated text (codes "m")).design.memories ≡ (record { instance = 0; name = codes "t"; first = 0; last = 3; high = 7; low = 0; ranged = true; width = 8; signed = false } ∷ [])
memories = refl

constants : (elaborated text (codes "m")).design.constants ≡ (record { instance = 0; name = codes "W"; value = (known 32 3 true) } ∷ [])
constants = refl

aliases : (elaborated text (codes "m")).design.aliases ≡ ([])
aliases = refl

line_points : map lines_of (elaborated text (codes "m")).design.processes ≡ ((line_at 1 (at 6 5) word.Assign ∷ line_at 2 (at 7 5) word.For ∷
    line_at 3 (at 8 7) word.Assign ∷ line_at 4 (at 9 7) word.If ∷ line_at 5 (at 9 18) word.Assign ∷ line_at 3 (at 8 7) word.Assign ∷ line_at 4 (at 9 7) word.If ∷
    line_at 5 (at 9 18) word.Assign ∷ line_at 3 (at 8 7) word.Assign ∷ line_at 4 (at 9 7) word.If ∷ line_at 5 (at 9 18) word.Assign ∷ line_at 3 (at 8 7) word.Assign ∷
    line_at 4 (at 9 7) word.If ∷ line_at 5 (at 9 18) word.Assign ∷ line_at 6 (at 11 5) word.For ∷ []) ∷ (line_at 8 (at 14 5) word.For ∷ line_at 9 (at 15 7) word.For ∷
    line_at 10 (at 15 37) word.Assign ∷ line_at 10 (at 15 37) word.Assign ∷ line_at 9 (at 15 7) word.For ∷ line_at 10 (at 15 37) word.Assign ∷
    line_at 11 (at 16 5) word.Assign ∷ line_at 12 (at 17 5) word.If ∷ line_at 13 (at 17 14) word.Assign ∷ []) ∷ [])
line_points = refl

counted_nodes : map process_nodes (elaborated text (codes "m")).design.processes ≡ ((node_at 1 (at 8 14) ∷ node_at 2 (at 9 25) ∷ node_at 1 (at 8 14) ∷
    node_at 2 (at 9 25) ∷ node_at 1 (at 8 14) ∷ node_at 2 (at 9 25) ∷ node_at 1 (at 8 14) ∷ node_at 2 (at 9 25) ∷ []) ∷ (node_at 4 (at 15 49) ∷ node_at 4 (at 15 49) ∷
    node_at 4 (at 15 49) ∷ node_at 5 (at 16 18) ∷ node_at 6 (at 16 40) ∷ node_at 7 (at 16 47) ∷ node_at 8 (at 17 10) ∷ []) ∷ [])
counted_nodes = refl

term_shapes : map process_shapes (elaborated text (codes "m")).design.processes ≡ ((shape_as 32 true ∷ shape_as 1 false ∷ shape_as 1 false ∷ shape_as 4 false ∷
    shape_as 32 true ∷ shape_as 1 false ∷ shape_as 32 true ∷ shape_as 32 true ∷ shape_as 1 false ∷ shape_as 32 true ∷ shape_as 32 true ∷ shape_as 1 false ∷
    shape_as 1 false ∷ shape_as 4 false ∷ shape_as 32 true ∷ shape_as 1 false ∷ shape_as 1 false ∷ shape_as 4 false ∷ shape_as 32 true ∷ shape_as 1 false ∷
    shape_as 32 true ∷ shape_as 32 true ∷ shape_as 1 false ∷ shape_as 32 true ∷ shape_as 32 true ∷ shape_as 1 false ∷ shape_as 1 false ∷ shape_as 4 false ∷
    shape_as 32 true ∷ shape_as 1 false ∷ shape_as 1 false ∷ shape_as 4 false ∷ shape_as 32 true ∷ shape_as 1 false ∷ shape_as 32 true ∷ shape_as 32 true ∷
    shape_as 1 false ∷ shape_as 32 true ∷ shape_as 32 true ∷ shape_as 1 false ∷ shape_as 1 false ∷ shape_as 4 false ∷ shape_as 32 true ∷ shape_as 1 false ∷
    shape_as 1 false ∷ shape_as 4 false ∷ shape_as 32 true ∷ shape_as 1 false ∷ shape_as 32 true ∷ shape_as 32 true ∷ shape_as 1 false ∷ shape_as 32 true ∷
    shape_as 32 true ∷ shape_as 1 false ∷ shape_as 1 false ∷ shape_as 4 false ∷ shape_as 32 true ∷ []) ∷ (shape_as 32 false ∷ shape_as 32 false ∷ shape_as 4 false ∷
    shape_as 4 false ∷ shape_as 32 false ∷ shape_as 32 false ∷ shape_as 32 false ∷ shape_as 4 false ∷ shape_as 4 false ∷ shape_as 32 false ∷ shape_as 32 false ∷
    shape_as 32 false ∷ shape_as 4 false ∷ shape_as 4 false ∷ shape_as 32 false ∷ shape_as 2 false ∷ shape_as 4 false ∷ shape_as 2 false ∷ shape_as 8 false ∷
    shape_as 2 false ∷ shape_as 4 false ∷ shape_as 2 false ∷ shape_as 2 false ∷ shape_as 4 false ∷ shape_as 32 true ∷ shape_as 2 false ∷ shape_as 4 false ∷
    shape_as 4 false ∷ shape_as 32 true ∷ []) ∷ [])
term_shapes = refl

process_heads : map process_head (elaborated text (codes "m")).design.processes ≡ (a_comb 0 (0 ∷ 0 ∷ 0 ∷ []) ∷ a_clocked 0 ((Pos, 1) ∷ []) ∷ [])
process_heads = refl

laws : keeps_laws (elaborated text (codes "m")).design ≡ true
laws = refl
