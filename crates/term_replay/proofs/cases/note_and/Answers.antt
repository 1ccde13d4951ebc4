use Rattle.term_replay.proofs.Marking.{adds_answer, adds_three, both_answer}
use Rattle.term_replay.proofs.cases.note_and.Goals as goal

pub returns : goal.returns
returns g c =
    let noted = g.N.Notes.noted in
    adds_three noted c.args.mode c.args.node _ _ _ _ _ _ _
    (adds_answer noted c.args.mode c.args.node _ c.both-all.result _ _ _ _ (both_answer _ _ _ _ _ _ _ c.is_true.ensures c.is_true-2.ensures c.both-all.ensures) c.note_case.ensures)
    (adds_answer noted c.args.mode c.args.node _ c.is_false.result _ _ _ _ c.is_false.ensures c.note_case-2.ensures)
    (adds_answer noted c.args.mode c.args.node _ c.is_false-2.result _ _ _ _ c.is_false-2.ensures c.note_case-3.ensures)
