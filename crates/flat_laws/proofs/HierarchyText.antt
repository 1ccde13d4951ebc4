-- What elaboration makes of this text:
--   module top(input clk, input [1:0] d, output [1:0] q);
--   reg2 u(.clk(clk), .d(d), .q(q));
--   endmodule
--   module reg2(input clk, input [1:0] d, output reg [1:0] q);
--   always @(posedge clk) q <= d;
--   endmodule
use Rattle.std.proofs.Common.{◌≡◌, refl}
use Rattle.std.specs.Prelude.{true, false, List, [], ◌∷◌, map, Some, None, codes}
use Rattle.four_state.specs.declared.edge.Edge.TheVariants.{Pos}
use Rattle.point_words.specs.declared.line_word.LineWord.TheVariants as word
use Rattle.design_model.specs.Numbered.{line_at, lines_of}
use Rattle.verilog_tree.specs.declared.item.When.TheVariants.{Edges}
use Rattle.verilog_tree.specs.Tree.{literal, identifier, assignment, port_item, always_item, instance_item, Module}
use Rattle.elab_const.specs.Meaning.{shape_as}
use Rattle.flat_design.specs.Faults.{faults_of}
use Rattle.flat_design.specs.Flat.{elaborated}
use Rattle.flat_design.specs.Identifiers.{named}
use Rattle.flat_laws.proofs.TextParts.{given_as, instance_as, item_as, module_as, one_as, port_as, range_as}
use Rattle.flat_laws.proofs.ExampleParts.{at, known, process_nodes, process_shapes, a_clocked, process_head, keeps_laws}

abbrev pub text : List Module
text = module_as (named (codes "top") (at 1 8)) [] ((named (codes "clk") (at 1 18)) ∷ (named (codes "d") (at 1 35)) ∷ (named (codes "q") (at 1 51)) ∷
    []) (item_as (at 1 12) (port_item (port_as true false false None ((named (codes "clk") (at 1 18)) ∷ []))) ∷
    item_as (at 1 23) (port_item (port_as true false false (Some (range_as (literal (at 1 30) (known 32 1 true)) (literal (at 1 32) (known 32 0 true)) (at 1 29)))
    ((named (codes "d") (at 1 35)) ∷ []))) ∷ item_as (at 1 38) (port_item (port_as false false false (Some (range_as (literal (at 1 46) (known 32 1 true)) (literal (at 1
    48) (known 32 0 true)) (at 1 45))) ((named (codes "q") (at 1 51)) ∷ []))) ∷
    item_as (at 2 1) (instance_item (instance_as (named (codes "reg2") (at 2 1)) [] (one_as (named (codes "u") (at 2 6)) (given_as (Some (named (codes "clk") (at 2 9)))
    (Some (identifier (at 2 13) (codes "clk"))) ∷ given_as (Some (named (codes "d") (at 2 20))) (Some (identifier (at 2 22) (codes "d"))) ∷
    given_as (Some (named (codes "q") (at 2 27))) (Some (identifier (at 2 29) (codes "q"))) ∷ []) ∷ []))) ∷ []) ∷
    module_as (named (codes "reg2") (at 4 8)) [] ((named (codes "clk") (at 4 19)) ∷ (named (codes "d") (at 4 36)) ∷ (named (codes "q") (at 4 56)) ∷
    []) (item_as (at 4 13) (port_item (port_as true false false None ((named (codes "clk") (at 4 19)) ∷ []))) ∷
    item_as (at 4 24) (port_item (port_as true false false (Some (range_as (literal (at 4 31) (known 32 1 true)) (literal (at 4 33) (known 32 0 true)) (at 4 30)))
    ((named (codes "d") (at 4 36)) ∷ []))) ∷ item_as (at 4 39) (port_item (port_as false true false (Some (range_as (literal (at 4 51) (known 32 1 true)) (literal (at 4
    53) (known 32 0 true)) (at 4 50))) ((named (codes "q") (at 4 56)) ∷ []))) ∷ item_as (at 5 1) (always_item (Edges ((Pos, (named (codes "clk") (at 5 18))) ∷
    [])) (assignment (at 5 23) (identifier (at 5 23) (codes "q")) false (identifier (at 5 28) (codes "d")))) ∷ []) ∷ []

no_faults : faults_of text (codes "top") ≡ []
no_faults = refl

instances : (elaborated text (codes "top")).design.instances ≡ (record { path = codes "top"; «module» = codes "top" } ∷ record { path = codes "top.u"; «module» = codes "reg2" } ∷ [])
instances = refl

signals : (elaborated text (codes "top")).design.signals ≡ (record {
  instance = 0;
  name = codes "clk";
  high = 0;
  low = 0;
  ranged = false;
  width = 1;
  signed = false;
  input = true;
} ∷ record { instance = 0; name = codes "d"; high = 1; low = 0; ranged = true; width = 2; signed = false; input = true } ∷
    record { instance = 0; name = codes "q"; high = 1; low = 0; ranged = true; width = 2; signed = false; input = false } ∷ [])
signals = refl

memories : (elaborated text (codes "top")).design.memories ≡ ([])
memories = refl

constants : (elaborated text (codes "top")).design.constants ≡ ([])
constants = refl

aliases : (elaborated text (codes "top")).design.aliases ≡ (record { instance = 1; name = codes "clk"; signal = 0 } ∷
    record { instance = 1; name = codes "d"; signal = 1 } ∷ record { instance = 1; name = codes "q"; signal = 2 } ∷ [])
aliases = refl

line_points : map lines_of (elaborated text (codes "top")).design.processes ≡ ((line_at 1 (at 5 23) word.Assign ∷ []) ∷ [])
line_points = refl

counted_nodes : map process_nodes (elaborated text (codes "top")).design.processes ≡ (([]) ∷ [])
counted_nodes = refl

term_shapes : map process_shapes (elaborated text (codes "top")).design.processes ≡ ((shape_as 2 false ∷ []) ∷ [])
term_shapes = refl

process_heads : map process_head (elaborated text (codes "top")).design.processes ≡ (a_clocked 1 ((Pos, 0) ∷ []) ∷ [])
process_heads = refl

laws : keeps_laws (elaborated text (codes "top")).design ≡ true
laws = refl
