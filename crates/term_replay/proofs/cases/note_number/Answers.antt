use Rattle.std.proofs.Common.{◌∙◌, [], ◌∷◌, ap, sym}
use Rattle.known_state.specs.Partly.{whole_of}
use Rattle.body_replay.specs.Replay.{hit, node, node_marks}
use Rattle.term_replay.specs.Noted.{in_this, own_cases}
use Rattle.term_replay.specs.Plain.{number_at}
use Rattle.term_replay.proofs.Marking.{adds_none, adds_same, hit_in}
use Rattle.term_replay.proofs.Numbers.{own_number}
use Rattle.term_replay.proofs.cases.note_number.Goals as goal

pub returns-in-Some : goal.returns-in-Some
returns-in-Some g c = λ x h.
    adds_same g.N.Notes.noted _ _ _ _ (ap (λ m. m ∷ []) (sym (hit_in c.args.mode (node c.in-Some.node c.own_case-case.result))) ∙ ap (in_this c.args.mode) (ap (λ k. hit (node c.in-Some.node k) ∷ []) c.own_case-case.ensures ∙ sym (own_number c.in-Some.node x c.args.number h)) ∙ ap (λ o. in_this c.args.mode (node_marks o (own_cases (whole_of (number_at x c.args.number)).bits 0))) (sym c.in-Some.is)) c.note.ensures

pub returns-in_default : goal.returns-in_default
returns-in_default g c = λ x h.
    adds_same g.N.Notes.noted _ _ _ _ (ap (λ o. in_this c.args.mode (node_marks o (own_cases (whole_of (number_at x c.args.number)).bits 0))) (sym c.in_default.is)) (adds_none g.N.Notes.noted c.args.notes.now)
