use Rattle.std.proofs.Common.{◌∙◌, [], ◌∷◌, Some, ap, sym}
use Rattle.body_replay.specs.Replay.{case_mark, node}
use Rattle.term_replay.specs.Noted.{in_this}
use Rattle.term_replay.specs.Questions.{answer_of, blame_in}
use Rattle.term_replay.proofs.Marking.{adds_none, adds_same, doubt_in, hit_in}
use Rattle.term_replay.proofs.cases.note_case.Goals as goal

pub returns-in-No : goal.returns-in-No
returns-in-No g c =
    adds_same g.N.Notes.noted _ _ _ _ (ap (λ m. in_this c.args.mode (case_mark c.args.node c.args.case (answer_of m) (blame_in m))) (sym c.in-No.is)) (adds_none g.N.Notes.noted _)

pub returns-in-Yes : goal.returns-in-Yes
returns-in-Yes g c =
    adds_same g.N.Notes.noted _ _ _ _ (ap (λ m. m ∷ []) (sym (hit_in c.args.mode (node c.args.node c.args.case))) ∙ ap (λ m. in_this c.args.mode (case_mark c.args.node c.args.case (answer_of m) (blame_in m))) (sym c.in-Yes.is)) c.note.ensures

pub returns-in-Unsure : goal.returns-in-Unsure
returns-in-Unsure g c =
    adds_same g.N.Notes.noted _ _ _ _ (ap (λ b. record { spot = node c.args.node c.args.case; doubt = Some b } ∷ []) c.unwrap_or.ensures ∙ ap (λ m. m ∷ []) (sym (doubt_in c.args.mode (node c.args.node c.args.case) c.in-Unsure.thing)) ∙ ap (λ m. in_this c.args.mode (case_mark c.args.node c.args.case (answer_of m) (blame_in m))) (sym c.in-Unsure.is)) c.note-in-Unsure.ensures
