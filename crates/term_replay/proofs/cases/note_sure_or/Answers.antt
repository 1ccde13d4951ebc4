use Rattle.term_replay.proofs.Marking.{adds_more}
use Rattle.term_replay.proofs.cases.note_sure_or.Goals as goal

pub returns : goal.returns
returns g c =
    let first = rw c.both_hold.ensures at c.note_sure.ensures in
    adds_more g.N.Notes.noted c.args.mode _ _ _ _ _ first (adds_more g.N.Notes.noted c.args.mode _ _ _ _ _ c.note_sure-2.ensures c.note_sure-3.ensures)
