use Rattle.std.proofs.Common.{subst, sym}
use Rattle.run_marks.proofs.Settled.{IsOfText, text_hit}
use Rattle.run_marks.proofs.spots.is_settled.Goals as goal

pub returns-in-Line : goal.returns-in-Line
returns-in-Line c = λ t points k m at. text_hit points c.args.marks.now.verdicts c.args.process k c.args.spot ((c.is_settled.ensures points m).0 t) (subst IsOfText (sym c.in-Line.is) tt) at

pub returns-in-Node : goal.returns-in-Node
returns-in-Node c = λ t points k m at. text_hit points c.args.marks.now.verdicts c.args.process k c.args.spot ((c.is_settled-in-Node.ensures points m).0 t) (subst IsOfText (sym c.in-Node.is) tt) at
