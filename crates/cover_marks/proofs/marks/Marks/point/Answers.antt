use Rattle.cover_marks.proofs.marks.Marks.point.Goals as goal

pub returns : goal.returns
returns c = λ points k h v. c.number.ensures points k h.index v
