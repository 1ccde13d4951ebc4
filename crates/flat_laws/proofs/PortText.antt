-- What elaboration makes of this text:
--   module top(input [3:0] a, output [7:0] o, output p);
--     wire [3:0] w; wire v;
--     leaf #(.K(2)) u(.x(a[2:1] + 1), .y(w[1:0])), s(a[1:0], w[3:2]);
--     leaf #(4) t(.x(a), .y(o[3:0]));
--     mid n(.q(o[7:4]), .r(v));
--     assign p = v & ~a[0];
--   endmodule
--   module mid(q, r);
--     output [3:0] q; output r; wire r;
--     leaf #(4) k(q, q);
--     assign r = 1'b1;
--   endmodule
--   module leaf(x, y);
--     parameter K = 2, H = K - 1;
--     input [H:0] x; output [K-1:0] y;
--     reg [K-1:0] y;
--     always @(x) y = x;
--   endmodule
use Rattle.std.proofs.Common.{◌≡◌, refl}
use Rattle.std.specs.Prelude.{true, false, List, [], ◌∷◌, map, Some, None, codes}
use Rattle.four_state.specs.declared.operator.Binary.TheVariants as binary
use Rattle.four_state.specs.declared.operator.Unary.TheVariants as unary
use Rattle.point_words.specs.declared.line_word.LineWord.TheVariants as word
use Rattle.design_model.specs.Numbered.{line_at, lines_of}
use Rattle.verilog_tree.specs.declared.item.When.TheVariants.{Names}
use Rattle.verilog_tree.specs.Tree.{literal, identifier, bit_select, part_select, unary_operator, binary_operator, assignment, port_item, net_item, variable_item, parameter_item, continuous_item, always_item, instance_item, Module}
use Rattle.elab_const.specs.Meaning.{shape_as}
use Rattle.flat_design.specs.Faults.{faults_of}
use Rattle.flat_design.specs.Flat.{elaborated}
use Rattle.flat_design.specs.Identifiers.{named}
use Rattle.flat_laws.proofs.TextParts.{declared_as, given_as, instance_as, item_as, module_as, one_as, param_as, port_as, range_as, vector_as}
use Rattle.flat_laws.proofs.ExampleParts.{at, known, node_at, process_nodes, process_shapes, an_assign, a_comb, process_head, keeps_laws}

abbrev pub text : List Module
text = module_as (named (codes "top") (at 1 8)) [] ((named (codes "a") (at 1 24)) ∷ (named (codes "o") (at 1 40)) ∷ (named (codes "p") (at 1 50)) ∷
    []) (item_as (at 1 12) (port_item (port_as true false false (Some (range_as (literal (at 1 19) (known 32 3 true)) (literal (at 1 21) (known 32 0 true)) (at 1 18)))
    ((named (codes "a") (at 1 24)) ∷ []))) ∷ item_as (at 1 27) (port_item (port_as false false false (Some (range_as (literal (at 1 35) (known 32 7 true)) (literal (at 1
    37) (known 32 0 true)) (at 1 34))) ((named (codes "o") (at 1 40)) ∷ []))) ∷
    item_as (at 1 43) (port_item (port_as false false false None ((named (codes "p") (at 1 50)) ∷ []))) ∷
    item_as (at 2 3) (net_item (vector_as false (Some (range_as (literal (at 2 9) (known 32 3 true)) (literal (at 2 11) (known 32 0 true)) (at 2 8))) (declared_as (named
    (codes "w") (at 2 14)) None None ∷ []))) ∷ item_as (at 2 17) (net_item (vector_as false None (declared_as (named (codes "v") (at 2 22)) None None ∷ []))) ∷
    item_as (at 3 3) (instance_item (instance_as (named (codes "leaf") (at 3 3)) (given_as (Some (named (codes "K") (at 3 11))) (Some (literal (at 3 13) (known 32 2
    true))) ∷ []) (one_as (named (codes "u") (at 3 17)) (given_as (Some (named (codes "x") (at 3 20))) (Some (binary_operator (at 3 22) binary.Add (part_select (at 3 22)
    (identifier (at 3 22) (codes "a")) (literal (at 3 24) (known 32 2 true)) (literal (at 3 26) (known 32 1 true)) (at 3 23)) (literal (at 3 31) (known 32 1 true)))) ∷
    given_as (Some (named (codes "y") (at 3 36))) (Some (part_select (at 3 38) (identifier (at 3 38) (codes "w")) (literal (at 3 40) (known 32 1 true)) (literal (at 3
    42) (known 32 0 true)) (at 3 39))) ∷ []) ∷ one_as (named (codes "s") (at 3 48)) (given_as None (Some (part_select (at 3 50) (identifier (at 3 50) (codes "a"))
    (literal (at 3 52) (known 32 1 true)) (literal (at 3 54) (known 32 0 true)) (at 3 51))) ∷
    given_as None (Some (part_select (at 3 58) (identifier (at 3 58) (codes "w")) (literal (at 3 60) (known 32 3 true)) (literal (at 3 62) (known 32 2 true)) (at 3 59)))
    ∷ []) ∷ []))) ∷ item_as (at 4 3) (instance_item (instance_as (named (codes "leaf") (at 4 3)) (given_as None (Some (literal (at 4 10) (known 32 4 true))) ∷
    []) (one_as (named (codes "t") (at 4 13)) (given_as (Some (named (codes "x") (at 4 16))) (Some (identifier (at 4 18) (codes "a"))) ∷
    given_as (Some (named (codes "y") (at 4 23))) (Some (part_select (at 4 25) (identifier (at 4 25) (codes "o")) (literal (at 4 27) (known 32 3 true)) (literal (at 4
    29) (known 32 0 true)) (at 4 26))) ∷ []) ∷ []))) ∷ item_as (at 5 3) (instance_item (instance_as (named (codes "mid") (at 5 3)) [] (one_as (named (codes "n") (at 5
    7)) (given_as (Some (named (codes "q") (at 5 10))) (Some (part_select (at 5 12) (identifier (at 5 12) (codes "o")) (literal (at 5 14) (known 32 7 true)) (literal (at
    5 16) (known 32 4 true)) (at 5 13))) ∷ given_as (Some (named (codes "r") (at 5 22))) (Some (identifier (at 5 24) (codes "v"))) ∷ []) ∷ []))) ∷
    item_as (at 6 3) (continuous_item (identifier (at 6 10) (codes "p")) (binary_operator (at 6 14) binary.BitwiseAnd (identifier (at 6 14) (codes "v")) (unary_operator
    (at 6 18) unary.BitwiseNot (bit_select (at 6 19) (identifier (at 6 19) (codes "a")) (literal (at 6 21) (known 32 0 true)))))) ∷ []) ∷
    module_as (named (codes "mid") (at 8 8)) [] ((named (codes "q") (at 8 12)) ∷ (named (codes "r") (at 8 15)) ∷
    []) (item_as (at 9 3) (port_item (port_as false false false (Some (range_as (literal (at 9 11) (known 32 3 true)) (literal (at 9 13) (known 32 0 true)) (at 9 10)))
    ((named (codes "q") (at 9 16)) ∷ []))) ∷ item_as (at 9 19) (port_item (port_as false false false None ((named (codes "r") (at 9 26)) ∷ []))) ∷
    item_as (at 9 29) (net_item (vector_as false None (declared_as (named (codes "r") (at 9 34)) None None ∷ []))) ∷
    item_as (at 10 3) (instance_item (instance_as (named (codes "leaf") (at 10 3)) (given_as None (Some (literal (at 10 10) (known 32 4 true))) ∷
    []) (one_as (named (codes "k") (at 10 13)) (given_as None (Some (identifier (at 10 15) (codes "q"))) ∷ given_as None (Some (identifier (at 10 18) (codes "q"))) ∷
    []) ∷ []))) ∷ item_as (at 11 3) (continuous_item (identifier (at 11 10) (codes "r")) (literal (at 11 14) (known 1 1 false))) ∷ []) ∷
    module_as (named (codes "leaf") (at 13 8)) [] ((named (codes "x") (at 13 13)) ∷ (named (codes "y") (at 13 16)) ∷
    []) (item_as (at 14 3) (parameter_item (param_as (named (codes "K") (at 14 13)) false false false None (literal (at 14 17) (known 32 2 true)) ∷
    param_as (named (codes "H") (at 14 20)) false false false None (binary_operator (at 14 24) binary.Subtract (identifier (at 14 24) (codes "K")) (literal (at 14 28)
    (known 32 1 true))) ∷ [])) ∷ item_as (at 15 3) (port_item (port_as true false false (Some (range_as (identifier (at 15 10) (codes "H")) (literal (at 15 12) (known 32
    0 true)) (at 15 9))) ((named (codes "x") (at 15 15)) ∷ []))) ∷
    item_as (at 15 18) (port_item (port_as false false false (Some (range_as (binary_operator (at 15 26) binary.Subtract (identifier (at 15 26) (codes "K")) (literal (at
    15 28) (known 32 1 true))) (literal (at 15 30) (known 32 0 true)) (at 15 25))) ((named (codes "y") (at 15 33)) ∷ []))) ∷
    item_as (at 16 3) (variable_item (vector_as false (Some (range_as (binary_operator (at 16 8) binary.Subtract (identifier (at 16 8) (codes "K")) (literal (at 16 10)
    (known 32 1 true))) (literal (at 16 12) (known 32 0 true)) (at 16 7))) (declared_as (named (codes "y") (at 16 15)) None None ∷ []))) ∷
    item_as (at 17 3) (always_item (Names ((named (codes "x") (at 17 12)) ∷
    [])) (assignment (at 17 15) (identifier (at 17 15) (codes "y")) true (identifier (at 17 19) (codes "x")))) ∷ []) ∷ []

no_faults : faults_of text (codes "top") ≡ []
no_faults = refl

instances : (elaborated text (codes "top")).design.instances ≡ (record { path = codes "top"; «module» = codes "top" } ∷
    record { path = codes "top.u"; «module» = codes "leaf" } ∷ record { path = codes "top.s"; «module» = codes "leaf" } ∷
    record { path = codes "top.t"; «module» = codes "leaf" } ∷ record { path = codes "top.n"; «module» = codes "mid" } ∷
    record { path = codes "top.n.k"; «module» = codes "leaf" } ∷ [])
instances = refl

signals : (elaborated text (codes "top")).design.signals ≡ (record {
  instance = 0;
  name = codes "a";
  high = 3;
  low = 0;
  ranged = true;
  width = 4;
  signed = false;
  input = true;
} ∷ record { instance = 0; name = codes "o"; high = 7; low = 0; ranged = true; width = 8; signed = false; input = false } ∷
    record { instance = 0; name = codes "p"; high = 0; low = 0; ranged = false; width = 1; signed = false; input = false } ∷
    record { instance = 0; name = codes "w"; high = 3; low = 0; ranged = true; width = 4; signed = false; input = false } ∷
    record { instance = 0; name = codes "v"; high = 0; low = 0; ranged = false; width = 1; signed = false; input = false } ∷
    record { instance = 1; name = codes "x"; high = 1; low = 0; ranged = true; width = 2; signed = false; input = false } ∷
    record { instance = 1; name = codes "y"; high = 1; low = 0; ranged = true; width = 2; signed = false; input = false } ∷
    record { instance = 2; name = codes "x"; high = 1; low = 0; ranged = true; width = 2; signed = false; input = false } ∷
    record { instance = 2; name = codes "y"; high = 1; low = 0; ranged = true; width = 2; signed = false; input = false } ∷
    record { instance = 3; name = codes "y"; high = 3; low = 0; ranged = true; width = 4; signed = false; input = false } ∷
    record { instance = 4; name = codes "q"; high = 3; low = 0; ranged = true; width = 4; signed = false; input = false } ∷ [])
signals = refl

memories : (elaborated text (codes "top")).design.memories ≡ ([])
memories = refl

constants : (elaborated text (codes "top")).design.constants ≡ (record { instance = 1; name = codes "K"; value = (known 32 2 true) } ∷
    record { instance = 1; name = codes "H"; value = (known 32 1 true) } ∷ record { instance = 2; name = codes "K"; value = (known 32 2 true) } ∷
    record { instance = 2; name = codes "H"; value = (known 32 1 true) } ∷ record { instance = 3; name = codes "K"; value = (known 32 4 true) } ∷
    record { instance = 3; name = codes "H"; value = (known 32 3 true) } ∷ record { instance = 5; name = codes "K"; value = (known 32 4 true) } ∷
    record { instance = 5; name = codes "H"; value = (known 32 3 true) } ∷ [])
constants = refl

aliases : (elaborated text (codes "top")).design.aliases ≡ (record { instance = 3; name = codes "x"; signal = 0 } ∷
    record { instance = 4; name = codes "r"; signal = 4 } ∷ record { instance = 5; name = codes "x"; signal = 10 } ∷
    record { instance = 5; name = codes "y"; signal = 10 } ∷ [])
aliases = refl

line_points : map lines_of (elaborated text (codes "top")).design.processes ≡ ((line_at 1 (at 17 15) word.Assign ∷ []) ∷ [] ∷ [] ∷ (line_at 1 (at 17 15) word.Assign ∷
    []) ∷ [] ∷ [] ∷ (line_at 1 (at 17 15) word.Assign ∷ []) ∷ [] ∷ (line_at 1 (at 17 15) word.Assign ∷ []) ∷ [] ∷ [] ∷ [] ∷ [])
line_points = refl

counted_nodes : map process_nodes (elaborated text (codes "top")).design.processes ≡ (([]) ∷ ([]) ∷ ([]) ∷ ([]) ∷ ([]) ∷ ([]) ∷ ([]) ∷ ([]) ∷ ([]) ∷ ([]) ∷ ([]) ∷
    (node_at 1 (at 6 14) ∷ node_at 2 (at 6 18) ∷ []) ∷ [])
counted_nodes = refl

term_shapes : map process_shapes (elaborated text (codes "top")).design.processes ≡ ((shape_as 2 false ∷ []) ∷ (shape_as 32 false ∷ shape_as 32 false ∷
    shape_as 4 false ∷ shape_as 32 false ∷ []) ∷ (shape_as 2 false ∷ []) ∷ (shape_as 2 false ∷ []) ∷ (shape_as 2 false ∷ shape_as 4 false ∷ []) ∷ (shape_as 2 false ∷
    []) ∷ (shape_as 4 false ∷ []) ∷ (shape_as 4 false ∷ []) ∷ (shape_as 4 false ∷ []) ∷ (shape_as 1 false ∷ []) ∷ (shape_as 4 false ∷ []) ∷ (shape_as 1 false ∷
    shape_as 1 false ∷ shape_as 1 false ∷ shape_as 1 false ∷ shape_as 4 false ∷ shape_as 32 true ∷ []) ∷ [])
term_shapes = refl

process_heads : map process_head (elaborated text (codes "top")).design.processes ≡ (a_comb 1 (5 ∷ []) ∷ an_assign 0 false ∷ an_assign 0 false ∷ a_comb 2 (7 ∷ []) ∷
    an_assign 0 false ∷ an_assign 0 false ∷ a_comb 3 (0 ∷ []) ∷ an_assign 0 false ∷ a_comb 5 (10 ∷ []) ∷ an_assign 4 true ∷ an_assign 0 false ∷ an_assign 0 true ∷ [])
process_heads = refl

laws : keeps_laws (elaborated text (codes "top")).design ≡ true
laws = refl
