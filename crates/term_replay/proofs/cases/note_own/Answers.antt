use Rattle.std.proofs.Common.{ap, sym}
use Rattle.body_replay.specs.Replay.{node_marks}
use Rattle.term_replay.specs.Noted.{in_this, own_cases}
use Rattle.term_replay.proofs.Marking.{adds_answer, adds_none, adds_same, adds_two}
use Rattle.term_replay.proofs.cases.note_own.Goals as goal

pub returns-in-Some : goal.returns-in-Some
returns-in-Some g c =
    let noted = g.N.Notes.noted in
    adds_same noted _ _ _ _ (ap (λ o. in_this c.args.mode (node_marks o (own_cases c.args.value.now.bits c.args.value.now.blame))) (sym c.in-Some.is))
    (adds_two noted c.args.mode c.in-Some.node _ _ _ _ _
    (adds_answer noted c.args.mode c.in-Some.node _ c.is_false.result _ _ _ _ c.is_false.ensures c.note_case.ensures)
    (adds_answer noted c.args.mode c.in-Some.node _ c.is_true.result _ _ _ _ c.is_true.ensures c.note_case-in-Some.ensures))

pub returns-in_default : goal.returns-in_default
returns-in_default g c =
    let noted = g.N.Notes.noted in
    adds_same noted _ _ _ _ (ap (λ o. in_this c.args.mode (node_marks o (own_cases c.args.value.now.bits c.args.value.now.blame))) (sym c.in_default.is)) (adds_none noted c.args.notes.now)
