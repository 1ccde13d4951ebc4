use Rattle.std.proofs.Common.{◌≡◌, drop, take}
use Rattle.scene_laws.specs.body_calls.Rooms.{takes_in}
use Rattle.assignments.specs.Pieces.{AllTake, widths}
use Rattle.assignments.proofs.Going.{LogsOn, WritesOn}
use Rattle.assignments.proofs.parts.write_pieces.Given as goal

-- the writes so far, and those of the rest, are all
abbrev pub invariant-loop-piece : goal.invariant-loop-piece
invariant-loop-piece g l =
    record {
      left : l.left ≡ widths (drop l.piece-index l.pieces);
      rest : AllTake (g.B.Reads.scene l.fn.store).design (drop l.piece-index l.pieces);
      writes : WritesOn l.blame (g.B.Reads.scene l.fn.store) l.pieces l.value.bits (g.B.Reads.scene l.store) (drop l.piece-index l.pieces);
      queued : g.B.Bodies.queued l.store ≡ g.B.Bodies.queued l.fn.store;
      around : g.B.Bodies.around l.store ≡ g.B.Bodies.around l.fn.store;
      under : g.B.Bodies.under l.store ≡ g.B.Bodies.under l.fn.store;
      rooms : LogsOn (takes_in (g.B.Bodies.around l.fn.store) (g.B.Bodies.rooms l.fn.store)) (g.B.Bodies.rooms l.fn.store) l.pieces (g.B.Bodies.rooms l.store) (drop l.piece-index l.pieces);
    }
