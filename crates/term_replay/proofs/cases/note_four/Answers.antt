use Rattle.term_replay.proofs.Marking.{adds_answer, adds_four, both_answer}
use Rattle.term_replay.proofs.cases.note_four.Goals as goal

pub returns : goal.returns
returns g c =
    let noted = g.N.Notes.noted in
    adds_four noted c.args.mode c.args.node _ _ _ _ _ _ _ _ _
    (adds_answer noted c.args.mode c.args.node _ c.both.result _ _ _ _ (both_answer _ _ _ _ _ _ _ c.is_false-low.ensures c.is_false-right_low.ensures c.both.ensures) c.note_case.ensures)
    (adds_answer noted c.args.mode c.args.node _ c.both-2.result _ _ _ _ (both_answer _ _ _ _ _ _ _ c.is_false-low.ensures c.is_true-right_high.ensures c.both-2.ensures) c.note_case-2.ensures)
    (adds_answer noted c.args.mode c.args.node _ c.both-3.result _ _ _ _ (both_answer _ _ _ _ _ _ _ c.is_true-high.ensures c.is_false-right_low.ensures c.both-3.ensures) c.note_case-3.ensures)
    (adds_answer noted c.args.mode c.args.node _ c.both-4.result _ _ _ _ (both_answer _ _ _ _ _ _ _ c.is_true-high.ensures c.is_true-right_high.ensures c.both-4.ensures) c.note_case-4.ensures)
