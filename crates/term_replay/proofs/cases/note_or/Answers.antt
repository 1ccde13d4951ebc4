use Rattle.term_replay.proofs.Marking.{adds_answer, adds_three, both_answer}
use Rattle.term_replay.proofs.cases.note_or.Goals as goal

pub returns : goal.returns
returns g c =
    let noted = g.N.Notes.noted in
    adds_three noted c.args.mode c.args.node _ _ _ _ _ _ _
    (adds_answer noted c.args.mode c.args.node _ c.both-none.result _ _ _ _ (both_answer _ _ _ _ _ _ _ c.is_false.ensures c.is_false-2.ensures c.both-none.ensures) c.note_case.ensures)
    (adds_answer noted c.args.mode c.args.node _ c.is_true.result _ _ _ _ c.is_true.ensures c.note_case-2.ensures)
    (adds_answer noted c.args.mode c.args.node _ c.is_true-2.result _ _ _ _ c.is_true-2.ensures c.note_case-3.ensures)
