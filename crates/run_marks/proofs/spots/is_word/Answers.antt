use Rattle.std.proofs.Common.{◌≡◌, None, Some, refl}
use Rattle.run_marks.proofs.Found.{before_words}
use Rattle.run_marks.proofs.spots.is_word.Goals as goal

pub returns-in-Some : goal.returns-in-Some
returns-in-Some c = c.is_word_at.ensures c.args.number ((c.in-Some.ensures c.in-Some.place).0 refl)

pub returns-in-None : goal.returns-in-None
returns-in-None c = before_words c.args.points.now c.args.number c.args.memory c.args.index c.args.written (λ j e. let no : None ≡ Some j = (c.in-None.ensures j).1 e in cc)
