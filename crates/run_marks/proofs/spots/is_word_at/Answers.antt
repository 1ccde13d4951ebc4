use Rattle.run_marks.proofs.Found.{no_word_is, word_is}
use Rattle.run_marks.proofs.spots.is_word_at.Goals as goal

pub returns-in-Some : goal.returns-in-Some
returns-in-Some c k at =
    word_is c.args.points.now k c.args.memory c.args.index c.args.written c.args.place at c.in-Some.point.now c.as_slice.result.now c.as_slice.ensures.value c.in-Some.ensures.lookup.3.0 c.in-Some.ensures.lookup.3.1 c.is_use.result c.is_use.ensures

pub returns-in-None : goal.returns-in-None
returns-in-None c k at = no_word_is c.args.points.now k c.args.memory c.args.index c.args.written c.args.place at c.as_slice.result.now c.as_slice.ensures.value c.in-None.ensures.lookup.3
