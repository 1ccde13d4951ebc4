use Rattle.std.proofs.Common.{[], ◌∷◌, ◌++◌, subst, sym}
use Rattle.block_runs.specs.Notes.{note_of}
use Rattle.run_marks.specs.Reported.{HasListed}
use Rattle.run_marks.proofs.notes.MarkNotesBlockNotes.note.Goals as goal

pub returns : goal.returns
returns c =
    record {
      added = λ s ns h.
          record {
            reported = c.mark.ensures.marked s.marks ns h.reported;
            listed = subst (HasListed s.written (ns ++ note_of c.args.spot c.args.doubt ∷ [])) (sym c.mark.ensures.written) (c.list.ensures s.written ns c.args.doubt h.listed);
          };
    }
