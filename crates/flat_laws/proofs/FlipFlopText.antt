-- What elaboration makes of this text:
--   module ff(input clk, input a, output reg q);
--     always @(posedge clk)
--       if (a) q <= 1; else q <= 0;
--   endmodule
use Rattle.std.proofs.Common.{◌≡◌, refl}
use Rattle.std.specs.Prelude.{true, false, List, [], ◌∷◌, map, None, codes}
use Rattle.four_state.specs.declared.edge.Edge.TheVariants.{Pos}
use Rattle.point_words.specs.declared.line_word.LineWord.TheVariants as word
use Rattle.design_model.specs.Numbered.{line_at, lines_of}
use Rattle.verilog_tree.specs.declared.item.When.TheVariants.{Edges}
use Rattle.verilog_tree.specs.Tree.{literal, identifier, if_statement, assignment, no_statements, a_statement, port_item, always_item, Module}
use Rattle.elab_const.specs.Meaning.{shape_as}
use Rattle.flat_design.specs.Faults.{faults_of}
use Rattle.flat_design.specs.Flat.{elaborated}
use Rattle.flat_design.specs.Identifiers.{named}
use Rattle.flat_laws.proofs.TextParts.{item_as, module_as, port_as}
use Rattle.flat_laws.proofs.ExampleParts.{at, known, node_at, process_nodes, process_shapes, a_clocked, process_head, keeps_laws}

abbrev pub text : List Module
text = module_as (named (codes "ff") (at 1 8)) [] ((named (codes "clk") (at 1 17)) ∷ (named (codes "a") (at 1 28)) ∷ (named (codes "q") (at 1 42)) ∷
    []) (item_as (at 1 11) (port_item (port_as true false false None ((named (codes "clk") (at 1 17)) ∷ []))) ∷
    item_as (at 1 22) (port_item (port_as true false false None ((named (codes "a") (at 1 28)) ∷ []))) ∷
    item_as (at 1 31) (port_item (port_as false true false None ((named (codes "q") (at 1 42)) ∷ []))) ∷
    item_as (at 2 3) (always_item (Edges ((Pos, (named (codes "clk") (at 2 20))) ∷
    [])) (if_statement (at 3 5) (identifier (at 3 9) (codes "a")) (assignment (at 3 12) (identifier (at 3 12) (codes "q")) false (literal (at 3 17) (known 32 1 true)))
    (a_statement (assignment (at 3 25) (identifier (at 3 25) (codes "q")) false (literal (at 3 30) (known 32 0 true))) no_statements))) ∷ []) ∷ []

no_faults : faults_of text (codes "ff") ≡ []
no_faults = refl

instances : (elaborated text (codes "ff")).design.instances ≡ (record { path = codes "ff"; «module» = codes "ff" } ∷ [])
instances = refl

signals : (elaborated text (codes "ff")).design.signals ≡ (record {
  instance = 0;
  name = codes "clk";
  high = 0;
  low = 0;
  ranged = false;
  width = 1;
  signed = false;
  input = true;
} ∷ record { instance = 0; name = codes "a"; high = 0; low = 0; ranged = false; width = 1; signed = false; input = true } ∷
    record { instance = 0; name = codes "q"; high = 0; low = 0; ranged = false; width = 1; signed = false; input = false } ∷ [])
signals = refl

memories : (elaborated text (codes "ff")).design.memories ≡ ([])
memories = refl

constants : (elaborated text (codes "ff")).design.constants ≡ ([])
constants = refl

aliases : (elaborated text (codes "ff")).design.aliases ≡ ([])
aliases = refl

line_points : map lines_of (elaborated text (codes "ff")).design.processes ≡ ((line_at 1 (at 3 5) word.If ∷ line_at 2 (at 3 12) word.Assign ∷ line_at 3 (at 3 25) word.Assign ∷ []) ∷ [])
line_points = refl

counted_nodes : map process_nodes (elaborated text (codes "ff")).design.processes ≡ ((node_at 1 (at 3 9) ∷ []) ∷ [])
counted_nodes = refl

term_shapes : map process_shapes (elaborated text (codes "ff")).design.processes ≡ ((shape_as 1 false ∷ shape_as 32 true ∷ shape_as 32 true ∷ []) ∷ [])
term_shapes = refl

process_heads : map process_head (elaborated text (codes "ff")).design.processes ≡ (a_clocked 0 ((Pos, 0) ∷ []) ∷ [])
process_heads = refl

laws : keeps_laws (elaborated text (codes "ff")).design ≡ true
laws = refl
