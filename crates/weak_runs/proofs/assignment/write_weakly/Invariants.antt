use Rattle.std.proofs.Common.{◌≡◌, [], drop, take}
use Rattle.value_store.specs.body_replay.Store.{weaken}
use Rattle.open_tests.specs.assignments.Pieces.{AllTake, pieces_writes, widths}
use Rattle.weak_runs.specs.Makes.{at}
use Rattle.weak_runs.proofs.Making.{GoesOn}
use Rattle.weak_runs.proofs.assignment.write_weakly.Given as goal

-- with the writes of the rest of the parts all are made
abbrev pub invariant-loop-piece : goal.invariant-loop-piece
invariant-loop-piece g l =
    record {
      left : l.left ≡ widths (drop l.piece-index l.pieces);
      rest : AllTake (g.S.Reads.scene l.fn.store).design (drop l.piece-index l.pieces);
      goes : GoesOn (weaken (pieces_writes (g.S.Reads.scene l.fn.store).design l.pieces l.value.bits)) [] 0 (at (g.S.Bodies.under l.fn.store) (g.S.Reads.scene l.fn.store) (g.S.Bodies.queued l.fn.store) (g.S.Bodies.around l.fn.store) (g.S.Bodies.rooms l.fn.store)) (at (g.S.Bodies.under l.store) (g.S.Reads.scene l.store) (g.S.Bodies.queued l.store) (g.S.Bodies.around l.store) (g.S.Bodies.rooms l.store)) (weaken (pieces_writes (g.S.Reads.scene l.fn.store).design (drop l.piece-index l.pieces) (take (widths (drop l.piece-index l.pieces)) l.value.bits))) [] 0;
    }
