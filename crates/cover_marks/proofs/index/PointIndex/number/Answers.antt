use Rattle.cover_marks.proofs.index.PointIndex.number.Goals as goal

pub returns-in-Write : goal.returns-in-Write
returns-in-Write c = λ points k h v. c.number-in-Write.ensures k (rw c.index_slot-in-Write.ensures ((h.words k c.in-Write.memory c.in-Write.index).1 (rw c.in-Write.is at v)))
