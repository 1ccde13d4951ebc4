use Rattle.clocked_runs.proofs.Flushed.{HasFlushed, flush_knows}
use Rattle.clocked_runs.proofs.between.make_updates.Goals as goal

pub returns-clause-knows : goal.returns-clause-knows
returns-clause-knows c = λ d k ws ps h.
    let f : HasFlushed c.args.store.now c.flush.new.self = record {
      design = c.flush.ensures.design;
      outside = c.flush.ensures.around;
      rooms = c.flush.ensures.rooms;
      kept = c.flush.ensures.kept;
      cells = c.flush.ensures.cells;
      queued = c.flush.ensures.queued;
      hidden = c.flush.ensures.hides;
      room = c.holding-2.ensures.room;
    } in
    flush_knows c.args.store.now c.flush.new.self f d k ws h.meets.keeps h.queued c.requires h.meets.hidden
