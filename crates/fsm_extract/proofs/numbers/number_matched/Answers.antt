use Rattle.std.proofs.Common.{◌∙◌, ap, length}
use Rattle.fsm_extract.proofs.Cuts.{length-extend}
use Rattle.fsm_extract.proofs.numbers.number_matched.Goals as goal

pub label-requires : goal.label-requires
label-requires c = ap (λ v. length v.bits) c.extend-selector.ensures ∙ length-extend c.width.result c.extend-cut.result.signed c.extend-cut.result.bits ∙ c.width.ensures.value
