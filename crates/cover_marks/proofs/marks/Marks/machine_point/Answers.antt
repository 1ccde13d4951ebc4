use Rattle.cover_marks.proofs.marks.Marks.machine_point.Goals as goal

pub returns : goal.returns
returns c = λ points k h at. c.machine_number.ensures points k h.index at
