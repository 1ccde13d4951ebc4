use Rattle.std.proofs.Common.{◌∙◌, sym}
use Rattle.cover_marks.proofs.Settled.{none_of, settled_of}
use Rattle.cover_marks.proofs.marks.Marks.is_settled.Goals as goal

pub returns : goal.returns
returns c = λ points h.
    let m = c.args.self.now in
    let p = c.args.process in
    (λ t. settled_of points m.verdicts p h.count (sym (h.counts.counts p) ∙ c.is_settled.ensures.0 t), λ s. c.is_settled.ensures.1 (h.counts.counts p ∙ none_of points m.verdicts p s))
