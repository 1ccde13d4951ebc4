use Rattle.std.proofs.Common.{◌≡◌, drop, take}
use Rattle.assignments.specs.Pieces.{AllTake, widths}
use Rattle.assignments.proofs.Going.{PlacesOn, QueuesOn}
use Rattle.assignments.proofs.parts.queue_pieces.Given as goal

-- what is queued so far, and what the rest will queue, is all
abbrev pub invariant-loop-piece : goal.invariant-loop-piece
invariant-loop-piece g l =
    record {
      left : l.left ≡ widths (drop l.piece-index l.pieces);
      rest : AllTake (g.B.Reads.scene l.fn.store).design (drop l.piece-index l.pieces);
      scene : g.B.Reads.scene l.store ≡ g.B.Reads.scene l.fn.store;
      queues : QueuesOn (g.B.Reads.scene l.fn.store).design l.certain (g.B.Bodies.queued l.fn.store) l.pieces l.value.bits (g.B.Bodies.queued l.store) (drop l.piece-index l.pieces);
      around : g.B.Bodies.around l.store ≡ g.B.Bodies.around l.fn.store;
      under : g.B.Bodies.under l.store ≡ g.B.Bodies.under l.fn.store;
      rooms : PlacesOn (g.B.Bodies.rooms l.fn.store) l.pieces (g.B.Bodies.rooms l.store) (drop l.piece-index l.pieces);
    }
