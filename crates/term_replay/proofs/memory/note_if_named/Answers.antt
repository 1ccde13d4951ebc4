use Rattle.std.proofs.Common.{◌∙◌, [], ◌∷◌, Some, ap, sym, if◌then◌else◌}
use Rattle.body_replay.specs.Replay.{doubted}
use Rattle.term_replay.specs.Noted.{access_spot}
use Rattle.term_replay.proofs.Marking.{adds_none, adds_same}
use Rattle.term_replay.proofs.memory.note_if_named.Goals as goal

pub returns-then-may_name : goal.returns-then-may_name
returns-then-may_name g c = λ m low high.
    let at = access_spot c.args.access c.args.memory in
    adds_same g.N.Notes.noted _ _ _ _ (ap (λ s. record { spot = s; doubt = Some c.args.thing } ∷ []) c.spot.ensures ∙ ap (λ b. if b then doubted (at c.args.word) c.args.thing ∷ [] else []) (sym c.if-may_name.true ∙ c.may_name.ensures m low high)) c.note.ensures

pub returns-else-may_name : goal.returns-else-may_name
returns-else-may_name g c = λ m low high.
    let at = access_spot c.args.access c.args.memory in
    adds_same g.N.Notes.noted _ _ _ _ (ap (λ b. if b then doubted (at c.args.word) c.args.thing ∷ [] else []) (sym c.if-may_name.false ∙ c.may_name.ensures m low high)) (adds_none g.N.Notes.noted c.args.notes.now)
