use Rattle.std.proofs.Common.{refl}
use Rattle.design_model.specs.Tree as t
use Rattle.term_replay.specs.Plain.{head_in}
use Rattle.term_replay.specs.Stands.{head_of}
use Rattle.term_replay.proofs.Arms.{walked_own}
use Rattle.term_replay.proofs.Marking.{adds_none}
use Rattle.term_replay.proofs.Standing.{number_stands}
use Rattle.term_replay.proofs.evaluation.number_term.Goals as goal

pub returns : goal.returns
returns g c = λ v.
    walked_own g.N.Notes.noted v c.args.term.now c.args.run.now _ _ _ _ _ _ (t.number (head_of (head_in c.args.term.now)) c.args.value.now) _ c.requires.form refl refl (number_stands v c.args.run.now.first (head_in c.args.term.now) c.args.value.now _ _ refl c.settle_vector-number.ensures.value) refl c.settle_vector-number.ensures.small refl refl (adds_none g.N.Notes.noted _) c.note_value.ensures
