use Rattle.std.proofs.Common.{◌∷◌, ◌++◌, [], refl, subst, sym}
use Rattle.block_runs.specs.Notes.{note_of}
use Rattle.run_marks.specs.Reported.{HasListed}
use Rattle.run_marks.proofs.Listed.{no_write, other_listed, word_listed}
use Rattle.term_replay.specs.declared.notes.Spot.{Spot}
use Rattle.term_replay.specs.declared.notes.Spot.TheVariants.{WordWrite}
use Rattle.run_marks.proofs.notes.list.Goals as goal

pub returns-in-WordWrite : goal.returns-in-WordWrite
returns-in-WordWrite c = λ before ns doubt h.
    let m = c.in-WordWrite.memory in
    let i = c.in-WordWrite.index in
    subst (λ (s : Spot). HasListed before (ns ++ note_of s doubt ∷ []) c.add.new.self) (sym c.in-WordWrite.is)
    (word_listed before c.args.written.now c.add.new.self ns (note_of (WordWrite m i) doubt) m i refl c.add.ensures.first c.add.ensures.ranges c.add.ensures.words h)

pub returns-in_default : goal.returns-in_default
returns-in_default c = λ before ns doubt h. other_listed before c.args.written.now ns (note_of c.args.spot doubt) (λ m i e. no_write c.args.spot m i c.in_default.not-WordWrite e) h
