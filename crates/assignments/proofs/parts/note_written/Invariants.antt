use Rattle.std.proofs.Common.{drop}
use Rattle.scene_laws.proofs.term_replay.Joining.{TellsOn}
use Rattle.assignments.specs.Pieces.{AllTake, pieces_marks}
use Rattle.assignments.proofs.parts.note_written.Given as goal

-- what is noted of the rest makes all noted
abbrev pub invariant-loop-piece : goal.invariant-loop-piece
invariant-loop-piece g l =
    record {
      rest : AllTake (g.R.Reads.scene l.reads).design (drop l.piece-index l.pieces);
      notes : TellsOn g.N.Notes.noted l.fn.mode l.fn.notes (pieces_marks (g.R.Reads.scene l.reads).design l.pieces) l.notes (pieces_marks (g.R.Reads.scene l.reads).design (drop l.piece-index l.pieces));
    }
