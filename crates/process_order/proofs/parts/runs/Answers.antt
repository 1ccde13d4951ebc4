use Rattle.std.proofs.Common.{arith}
use Rattle.process_order.proofs.Picking.{is_run_at, past_run}
use Rattle.process_order.proofs.parts.runs.Goals as goal

pub returns-then-node-processes : goal.returns-then-node-processes
returns-then-node-processes c = past_run c.args.processes.now c.args.node (omega arith)

pub returns : goal.returns
returns c = is_run_at c.args.processes.now c.args.node c.waits.result (omega arith) c.waits.ensures
