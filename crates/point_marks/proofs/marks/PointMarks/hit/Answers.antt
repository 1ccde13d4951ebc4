use Rattle.point_marks.proofs.Marking.{hit_marked}
use Rattle.point_marks.proofs.marks.PointMarks.hit.Goals as goal

pub returns-clause-markings : goal.returns-clause-markings
returns-clause-markings c = λ markings h. rw c.self.view_is (hit_marked markings c.args.self.now c.args.point c.requires h)
