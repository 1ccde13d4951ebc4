use Rattle.std.proofs.Common.{◌∙◌}
use Rattle.four_state.proofs.MatchLaws.{exact_law}
use Rattle.design_machines.proofs.drawn.is_same.Goals as goal

pub returns : goal.returns
returns c = c.label.ensures ∙ exact_law c.args.a.now.bits c.args.b.now.bits
