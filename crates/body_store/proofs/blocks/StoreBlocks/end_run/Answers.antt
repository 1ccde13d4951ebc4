use Rattle.std.proofs.Common.{ap, ◌∙◌}
use Rattle.body_store.proofs.BlocksKept.{end_kept, whole_room}
use Rattle.body_store.proofs.blocks.StoreBlocks.end_run.Goals as goal

pub returns-clause-kept : goal.returns-clause-kept
returns-clause-kept c = (end_kept c.args.self.now c.end_run.new.self c.args.written.now c.fitting.ensures.kept c.end_run.ensures.design c.requires.own c.end_run.ensures.kept).0

pub returns-clause-own : goal.returns-clause-own
returns-clause-own c = (end_kept c.args.self.now c.end_run.new.self c.args.written.now c.fitting.ensures.kept c.end_run.ensures.design c.requires.own c.end_run.ensures.kept).1

pub returns-clause-log : goal.returns-clause-log
returns-clause-log c =
    ap (λ r. r.log) c.end_run.ensures.rooms ∙ whole_room c.args.self.now c.requires.outside c.outside.ensures.done c.outside.ensures.undone c.outside-2.ensures.done c.outside-2.ensures.undone
