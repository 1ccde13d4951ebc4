use Rattle.std.proofs.Common.{◌∙◌, ap, refl}
use Rattle.design_model.specs.Tree as t
use Rattle.design_model.specs.Value.{head}
use Rattle.term_replay.specs.Plain.{head_in}
use Rattle.term_replay.specs.Stands.{head_of}
use Rattle.term_replay.proofs.Arms.{in_head, walked_own}
use Rattle.term_replay.proofs.Contexts.{in_signal}
use Rattle.term_replay.proofs.Marking.{adds_none}
use Rattle.term_replay.proofs.Standing.{signal_stands}
use Rattle.term_replay.proofs.Stepping.{arm_context}
use Rattle.term_replay.proofs.Walking.{noted_is}
use Rattle.term_replay.proofs.evaluation.signal_term.Goals as goal

pub signal-read-requires : goal.signal-read-requires
signal-read-requires g c = in_signal (g.R.Reads.scene c.args.reads.now).design (head_of (head_in c.args.term.now)) c.args.signal (arm_context (g.R.Reads.scene c.args.reads.now).design _ (t.signal (head_of (head_in c.args.term.now)) c.args.signal) c.requires.form c.requires.context)

pub settle-number-requires : goal.settle-number-requires
settle-number-requires g c = in_head (g.R.Reads.scene c.args.reads.now) c.args.term.now (ap head c.requires.form) c.requires.context

pub returns : goal.returns
returns g c =
    let v = (g.R.Reads.scene c.args.reads.now) in
    let first = c.noted-run.ensures ∙ noted_is c.signal-read.result _ _ c.args.run.now.first c.signal-read.ensures.bits c.signal-read.ensures.blame in
    walked_own g.N.Notes.noted v c.args.term.now c.args.run.now _ _ _ _ _ _ (t.signal (head_of (head_in c.args.term.now)) c.args.signal) _ c.requires.form refl refl (signal_stands v c.args.run.now.first (head_in c.args.term.now) c.args.signal c.signal-read.result _ (record { bits = c.signal-read.ensures.bits; blame = c.signal-read.ensures.blame }) c.settle-number.ensures.value) refl c.settle-number.ensures.small first refl (adds_none g.N.Notes.noted _) c.note_value.ensures
