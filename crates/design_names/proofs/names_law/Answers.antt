use Rattle.design_names.proofs.Named.{answered_names}
use Rattle.design_names.proofs.names_law.Goals as goal

pub returns : goal.returns
returns c ms top d named e = answered_names ms top d named e
