use Rattle.std.proofs.Common.{◌==◌, ◌∙◌, ap}
use Rattle.process_names.proofs.Arms.{default_is}
use Rattle.body_names.proofs.statements.is_default.Goals as goal

pub returns : goal.returns
returns c = c.is_empty.ensures ∙ ap (λ n. n == 0) c.args.arm.now.labels.ok.0 ∙ default_is c.args.arm.now
