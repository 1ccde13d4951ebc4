use Rattle.std.proofs.Common.{◌≡◌, ◌∙◌, length, map, ap, subst, arith}
use Rattle.std.proofs.lemmas.List.{length-map}
use Rattle.std.proofs.lemmas.Result.{IfOk-weaker}
use Rattle.design_model.specs.View.{process_view}
use Rattle.design_wakes.specs.Tables.{IsEdgeTable, edge_names, machine_edge}
use Rattle.design_wakes.specs.Transpose.{IsTranspose}
use Rattle.design_wakes.proofs.Tables.{edge_table}
use Rattle.design_wakes.proofs.edges.edge_rows.Goals as goal

pub transpose-requires : goal.transpose-requires
transpose-requires c =
    let is : map (λ list. list.items) c.as_slice.result.now ≡ map (λ process. edge_names (machine_edge c.args.edge) (process_view process)) c.args.processes.now = ap (map (λ list. list.items)) c.as_slice.ensures.value ∙ c.in_ok-lists.ensures in
    omega (arith, c.requires, ap length is, length-map c.as_slice.result.now (λ list. list.items), length-map c.args.processes.now (λ process. edge_names (machine_edge c.args.edge) (process_view process)))

pub returns : goal.returns
returns c =
    let is : map (λ list. list.items) c.as_slice.result.now ≡ map (λ process. edge_names (machine_edge c.args.edge) (process_view process)) c.args.processes.now = ap (map (λ list. list.items)) c.as_slice.ensures.value ∙ c.in_ok-lists.ensures in
    IfOk-weaker c.transpose.result (λ rows. IsTranspose (map (λ list. list.items) c.as_slice.result.now) c.args.things rows) (λ rows. IsEdgeTable (machine_edge c.args.edge) (map process_view c.args.processes.now) c.args.things rows) (λ rows t. edge_table (machine_edge c.args.edge) c.args.processes.now c.args.things rows (subst (λ lists. IsTranspose lists c.args.things rows) is t)) c.transpose.ensures
