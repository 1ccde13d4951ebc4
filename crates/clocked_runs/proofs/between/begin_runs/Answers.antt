use Rattle.clocked_runs.proofs.Flushed.{HasFlushed, begins}
use Rattle.clocked_runs.proofs.between.begin_runs.Goals as goal

pub returns-clause-ready : goal.returns-clause-ready
returns-clause-ready c = λ d k ps once inside h.
    let f : HasFlushed c.args.store.now c.flush.new.self = record {
      design = c.flush.ensures.design;
      outside = c.flush.ensures.around;
      rooms = c.flush.ensures.rooms;
      kept = c.flush.ensures.kept;
      cells = c.flush.ensures.cells;
      queued = c.flush.ensures.queued;
      hidden = c.flush.ensures.hides;
      room = c.holding-2.ensures.room;
    } in
    begins c.args.store.now c.flush.new.self c.show_kept.new.store f c.show_kept.ensures.meets c.show_kept.ensures.design c.show_kept.ensures.updates c.show_kept.ensures.rooms c.requires d k ps once inside h
