use Rattle.std.proofs.Common.{ap, subst, sym}
use Rattle.std.specs.Prelude.{IfSome}
use Rattle.body_replay.specs.Replay.{node_marks}
use Rattle.term_replay.specs.Noted.{in_this, own_cases}
use Rattle.term_replay.specs.Plain.{IsSmall, head_in, held}
use Rattle.term_replay.proofs.Marking.{adds_same}
use Rattle.term_replay.proofs.after.note_value.Goals as goal

pub returns-in-Some : goal.returns-in-Some
returns-in-Some g c =
    let small = subst (λ o. IfSome o (IsSmall (head_in c.args.term.now))) c.in-Some.is c.requires in
    adds_same g.N.Notes.noted _ _ _ _ (ap (λ o. in_this c.args.mode (node_marks c.args.term.now.node (own_cases (held (head_in c.args.term.now) o c.args.place.now).bits (held (head_in c.args.term.now) o c.args.place.now).blame))) (sym c.in-Some.is)) (c.note_number.ensures (head_in c.args.term.now) small)

pub returns-in-None : goal.returns-in-None
returns-in-None g c =
    adds_same g.N.Notes.noted _ _ _ _ (ap (λ o. in_this c.args.mode (node_marks c.args.term.now.node (own_cases (held (head_in c.args.term.now) o c.args.place.now).bits (held (head_in c.args.term.now) o c.args.place.now).blame))) (sym c.in-None.is)) c.note_own.ensures
