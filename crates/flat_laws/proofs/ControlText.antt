-- What elaboration makes of this text:
--   module ctl(input clk, input rst, input go, output reg [1:0] st);
--     parameter IDLE = 2'd0, RUN = 2'd1, DONE = 2'd2;
--     reg [1:0] n;
--     wire last = n == 2'd1;
--     always @(posedge clk)
--       if (rst) begin st <= IDLE; n <= 0; end
--       else case (st)
--         IDLE: if (go) st <= RUN;
--         RUN: begin n <= n + 1; if (last) st <= DONE; end
--         default: st <= IDLE;
--       endcase
--   endmodule
use Rattle.std.proofs.Common.{◌≡◌, refl}
use Rattle.std.specs.Prelude.{true, false, List, [], ◌∷◌, map, Some, None, codes}
use Rattle.four_state.specs.declared.edge.Edge.TheVariants.{Pos}
use Rattle.four_state.specs.declared.operator.Binary.TheVariants as binary
use Rattle.four_state.specs.declared.operator.CaseKind.TheVariants as kind
use Rattle.point_words.specs.declared.line_word.LineWord.TheVariants as word
use Rattle.design_model.specs.Numbered.{line_at, lines_of}
use Rattle.verilog_tree.specs.declared.item.When.TheVariants.{Edges}
use Rattle.verilog_tree.specs.Tree.{literal, identifier, binary_operator, no_exprs, an_expr, sequential_block, if_statement, case_statement, assignment, no_statements, a_statement, no_items, case_item, port_item, net_item, variable_item, parameter_item, always_item, Module}
use Rattle.elab_const.specs.Meaning.{shape_as}
use Rattle.flat_design.specs.Faults.{faults_of}
use Rattle.flat_design.specs.Flat.{elaborated}
use Rattle.flat_design.specs.Identifiers.{named}
use Rattle.flat_laws.proofs.TextParts.{declared_as, item_as, module_as, param_as, port_as, range_as, vector_as}
use Rattle.flat_laws.proofs.ExampleParts.{at, known, node_at, process_nodes, process_shapes, an_assign, a_clocked, process_head, keeps_laws}

abbrev pub text : List Module
text = module_as (named (codes "ctl") (at 1 8)) [] ((named (codes "clk") (at 1 18)) ∷ (named (codes "rst") (at 1 29)) ∷ (named (codes "go") (at 1 40)) ∷
    (named (codes "st") (at 1 61)) ∷ []) (item_as (at 1 12) (port_item (port_as true false false None ((named (codes "clk") (at 1 18)) ∷ []))) ∷
    item_as (at 1 23) (port_item (port_as true false false None ((named (codes "rst") (at 1 29)) ∷ []))) ∷
    item_as (at 1 34) (port_item (port_as true false false None ((named (codes "go") (at 1 40)) ∷ []))) ∷
    item_as (at 1 44) (port_item (port_as false true false (Some (range_as (literal (at 1 56) (known 32 1 true)) (literal (at 1 58) (known 32 0 true)) (at 1 55)))
    ((named (codes "st") (at 1 61)) ∷ []))) ∷ item_as (at 2 3) (parameter_item (param_as (named (codes "IDLE") (at 2 13)) false false false None (literal (at 2 20)
    (known 2 0 false)) ∷ param_as (named (codes "RUN") (at 2 26)) false false false None (literal (at 2 32) (known 2 1 false)) ∷
    param_as (named (codes "DONE") (at 2 38)) false false false None (literal (at 2 45) (known 2 2 false)) ∷ [])) ∷
    item_as (at 3 3) (variable_item (vector_as false (Some (range_as (literal (at 3 8) (known 32 1 true)) (literal (at 3 10) (known 32 0 true)) (at 3 7))) (declared_as
    (named (codes "n") (at 3 13)) None None ∷ []))) ∷ item_as (at 4 3) (net_item (vector_as false None (declared_as (named (codes "last") (at 4 8)) (Some
    (binary_operator (at 4 15) binary.Equal (identifier (at 4 15) (codes "n")) (literal (at 4 20) (known 2 1 false)))) None ∷ []))) ∷
    item_as (at 5 3) (always_item (Edges ((Pos, (named (codes "clk") (at 5 20))) ∷
    [])) (if_statement (at 6 5) (identifier (at 6 9) (codes "rst")) (sequential_block (at 6 14) (a_statement (assignment (at 6 20) (identifier (at 6 20) (codes "st"))
    false (identifier (at 6 26) (codes "IDLE"))) (a_statement (assignment (at 6 32) (identifier (at 6 32) (codes "n")) false (literal (at 6 37) (known 32 0 true)))
    no_statements))) (a_statement (case_statement (at 7 10) kind.Exact (identifier (at 7 16) (codes "st")) (case_item (an_expr (identifier (at 8 7) (codes "IDLE"))
    no_exprs) (if_statement (at 8 13) (identifier (at 8 17) (codes "go")) (assignment (at 8 21) (identifier (at 8 21) (codes "st")) false (identifier (at 8 27) (codes
    "RUN"))) no_statements) (case_item (an_expr (identifier (at 9 7) (codes "RUN")) no_exprs) (sequential_block (at 9 12) (a_statement (assignment (at 9 18) (identifier
    (at 9 18) (codes "n")) false (binary_operator (at 9 23) binary.Add (identifier (at 9 23) (codes "n")) (literal (at 9 27) (known 32 1 true)))) (a_statement
    (if_statement (at 9 30) (identifier (at 9 34) (codes "last")) (assignment (at 9 40) (identifier (at 9 40) (codes "st")) false (identifier (at 9 46) (codes "DONE")))
    no_statements) no_statements))) (case_item no_exprs (assignment (at 10 16) (identifier (at 10 16) (codes "st")) false (identifier (at 10 22) (codes "IDLE")))
    no_items)))) no_statements))) ∷ []) ∷ []

no_faults : faults_of text (codes "ctl") ≡ []
no_faults = refl

instances : (elaborated text (codes "ctl")).design.instances ≡ (record { path = codes "ctl"; «module» = codes "ctl" } ∷ [])
instances = refl

signals : (elaborated text (codes "ctl")).design.signals ≡ (record {
  instance = 0;
  name = codes "clk";
  high = 0;
  low = 0;
  ranged = false;
  width = 1;
  signed = false;
  input = true;
} ∷ record { instance = 0; name = codes "rst"; high = 0; low = 0; ranged = false; width = 1; signed = false; input = true } ∷
    record { instance = 0; name = codes "go"; high = 0; low = 0; ranged = false; width = 1; signed = false; input = true } ∷
    record { instance = 0; name = codes "st"; high = 1; low = 0; ranged = true; width = 2; signed = false; input = false } ∷
    record { instance = 0; name = codes "n"; high = 1; low = 0; ranged = true; width = 2; signed = false; input = false } ∷
    record { instance = 0; name = codes "last"; high = 0; low = 0; ranged = false; width = 1; signed = false; input = false } ∷ [])
signals = refl

memories : (elaborated text (codes "ctl")).design.memories ≡ ([])
memories = refl

constants : (elaborated text (codes "ctl")).design.constants ≡ (record { instance = 0; name = codes "IDLE"; value = (known 2 0 false) } ∷
    record { instance = 0; name = codes "RUN"; value = (known 2 1 false) } ∷ record { instance = 0; name = codes "DONE"; value = (known 2 2 false) } ∷ [])
constants = refl

aliases : (elaborated text (codes "ctl")).design.aliases ≡ ([])
aliases = refl

line_points : map lines_of (elaborated text (codes "ctl")).design.processes ≡ ([] ∷ (line_at 1 (at 6 5) word.If ∷ line_at 2 (at 6 20) word.Assign ∷
    line_at 3 (at 6 32) word.Assign ∷ line_at 4 (at 7 10) word.Case ∷ line_at 5 (at 8 13) word.If ∷ line_at 6 (at 8 21) word.Assign ∷ line_at 7 (at 9 18) word.Assign ∷
    line_at 8 (at 9 30) word.If ∷ line_at 9 (at 9 40) word.Assign ∷ line_at 10 (at 10 16) word.Assign ∷ []) ∷ [])
line_points = refl

counted_nodes : map process_nodes (elaborated text (codes "ctl")).design.processes ≡ ((node_at 1 (at 4 15) ∷ []) ∷ (node_at 2 (at 6 9) ∷ node_at 3 (at 8 17) ∷
    node_at 4 (at 9 23) ∷ node_at 5 (at 9 34) ∷ []) ∷ [])
counted_nodes = refl

term_shapes : map process_shapes (elaborated text (codes "ctl")).design.processes ≡ ((shape_as 1 false ∷ shape_as 2 false ∷ shape_as 2 false ∷ []) ∷ (shape_as 1 false ∷
    shape_as 2 false ∷ shape_as 32 true ∷ shape_as 2 false ∷ shape_as 2 false ∷ shape_as 1 false ∷ shape_as 2 false ∷ shape_as 2 false ∷ shape_as 32 false ∷
    shape_as 32 false ∷ shape_as 32 false ∷ shape_as 1 false ∷ shape_as 2 false ∷ shape_as 2 false ∷ []) ∷ [])
term_shapes = refl

process_heads : map process_head (elaborated text (codes "ctl")).design.processes ≡ (an_assign 0 true ∷ a_clocked 0 ((Pos, 0) ∷ []) ∷ [])
process_heads = refl

laws : keeps_laws (elaborated text (codes "ctl")).design ≡ true
laws = refl
