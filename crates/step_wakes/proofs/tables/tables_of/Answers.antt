use Rattle.std.proofs.Common.{◌≡◌, ◌+◌, true, false, length, map, sym, ap, ap₂, subst, arith}
use Rattle.std.specs.List.{All}
use Rattle.design_model.specs.View.{design_view, process_view}
use Rattle.design_model.specs.Design.{body}
use Rattle.design_model.specs.Machine.{events_of}
use Rattle.design_targets.specs.Written.{IsShapedProcess, written}
use Rattle.design_wakes.specs.Tables.{IsEdgeTable, IsLevelTable}
use Rattle.event_machine.specs.Machine.{Negedge, Posedge}
use Rattle.step_wakes.proofs.DesignTables.{edge_within, events_table, level_within, shaped, tables_are, targets_table}
use Rattle.step_wakes.proofs.Few.{few_memories}
use Rattle.step_wakes.proofs.tables.tables_of.Goals as goal

pub overflow_add-things : goal.overflow_add-things
overflow_add-things c =
    let few = few_memories (design_view c.args.design.now) c.requires in
    omega (arith, c.len.ensures, c.len-2.ensures, c.requires.few_signals, few)

pub target_rows-requires : goal.target_rows-requires
target_rows-requires c = subst (All (λ process. IsShapedProcess (process_view process))) (sym c.as_slice-processes.ensures) (shaped c.args.design.now c.requires)

pub target_rows-requires-2 : goal.target_rows-requires-2
target_rows-requires-2 c = subst (All (λ process. IsShapedProcess (process_view process))) (sym c.as_slice-processes.ensures) (shaped c.args.design.now c.requires)

pub invariant_of-result : goal.invariant_of-result
invariant_of-result c =
    let x = c.args.design.now in
    let ps = c.as_slice-processes.result.now in
    let n = c.len.result + c.len-2.result in
    let things : n ≡ length x.signals + length x.memories = ap₂ (λ a b. a + b) c.len.ensures c.len-2.ensures in
    record {
      level_within = level_within ps n c.in_ok-level.level c.in_ok-level.ensures;
      rising_within = edge_within Posedge ps n c.in_ok-rising.rising c.in_ok-rising.ensures;
      falling_within = edge_within Negedge ps n c.in_ok-falling.falling c.in_ok-falling.ensures;
      blocking_within = targets_table x c.requires true c.in_ok-blocking.blocking ps n c.as_slice-processes.ensures things c.in_ok-blocking.ensures;
      nonblocking_within = targets_table x c.requires false c.in_ok-nonblocking.nonblocking ps n c.as_slice-processes.ensures things c.in_ok-nonblocking.ensures;
      events_within = events_table x c.requires c.in_ok-events.events ps n c.as_slice-processes.ensures things c.in_ok-events.ensures;
    }

pub returns : goal.returns
returns c =
    let x = c.args.design.now in
    let n = c.len.result + c.len-2.result in
    let same = c.as_slice-processes.ensures in
    let things : n ≡ length x.signals + length x.memories = ap₂ (λ a b. a + b) c.len.ensures c.len-2.ensures in
    tables_are x c.requires _ things (ap length same)
    (subst (λ ps. IsLevelTable (map process_view ps) n c.in_ok-level.level) same c.in_ok-level.ensures)
    (subst (λ ps. IsEdgeTable Posedge (map process_view ps) n c.in_ok-rising.rising) same c.in_ok-rising.ensures)
    (subst (λ ps. IsEdgeTable Negedge (map process_view ps) n c.in_ok-falling.falling) same c.in_ok-falling.ensures)
    (subst (λ ps. c.in_ok-blocking.blocking ≡ map (λ process. written true (body (process_view process))) ps) same c.in_ok-blocking.ensures)
    (subst (λ ps. c.in_ok-nonblocking.nonblocking ≡ map (λ process. written false (body (process_view process))) ps) same c.in_ok-nonblocking.ensures)
    (subst (λ ps. c.in_ok-events.events ≡ map (λ process. events_of (process_view process)) ps) same c.in_ok-events.ensures)
