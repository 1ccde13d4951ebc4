use Rattle.std.proofs.Common.{◌∙◌, sym}
use Rattle.process_order.proofs.Picking.{view_at}
use Rattle.process_order.proofs.parts.waits.Goals as goal

pub returns : goal.returns
returns c = c.waits_for_edges.ensures ∙ sym (view_at c.args.processes.now c.args.process c.index-processes-process.result c.requires c.index-processes-process.is)
