use Rattle.std.proofs.Common.{◌∙◌, [], ◌∷◌, ap, sym}
use Rattle.body_replay.specs.Replay.{named_mark}
use Rattle.term_replay.specs.Noted.{access_spot, in_this}
use Rattle.term_replay.proofs.Marking.{adds_none, adds_same, hit_in}
use Rattle.term_replay.proofs.memory.note_named.Goals as goal

pub returns-in-Some : goal.returns-in-Some
returns-in-Some g c =
    let at = access_spot c.args.access c.args.memory in
    adds_same g.N.Notes.noted _ _ _ _ (ap (λ s. record { spot = s; doubt = c.args.mode } ∷ []) c.spot.ensures ∙ ap (λ m. m ∷ []) (sym (hit_in c.args.mode (at c.in-Some.word))) ∙ ap (λ o. in_this c.args.mode (named_mark at o)) (sym c.in-Some.is)) c.note.ensures

pub returns-in_default : goal.returns-in_default
returns-in_default g c =
    adds_same g.N.Notes.noted _ _ _ _ (ap (λ o. in_this c.args.mode (named_mark (access_spot c.args.access c.args.memory) o)) (sym c.in_default.is)) (adds_none g.N.Notes.noted c.args.notes.now)
