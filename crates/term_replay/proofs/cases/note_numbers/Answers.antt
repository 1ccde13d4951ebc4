use Rattle.std.proofs.Common.{◌∙◌, ap, sym}
use Rattle.known_state.specs.Partly.{whole_of}
use Rattle.body_replay.specs.Replay.{node_marks, two_known}
use Rattle.term_replay.specs.Noted.{in_this}
use Rattle.term_replay.specs.Plain.{number_at}
use Rattle.term_replay.proofs.Marking.{adds_same}
use Rattle.term_replay.proofs.Numbers.{two_numbers}
use Rattle.term_replay.proofs.cases.note_numbers.Goals as goal

pub returns-in-Some : goal.returns-in-Some
returns-in-Some g c = λ x y h k.
    adds_same g.N.Notes.noted _ _ _ _ (ap (in_this c.args.mode) (sym (two_numbers c.in-Some.node c.args.op x y c.args.left c.args.right h k)) ∙ ap (λ o. in_this c.args.mode (node_marks o (two_known c.args.op (whole_of (number_at x c.args.left)).bits (whole_of (number_at y c.args.right)).bits 0 0))) (sym c.in-Some.is)) c.note_truths.ensures
