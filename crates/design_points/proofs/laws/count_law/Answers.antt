use Rattle.design_points.proofs.Counts.{few_or_many}
use Rattle.design_points.proofs.laws.count_law.Goals as goal

pub returns : goal.returns
returns c d ms ns alike few many = few_or_many d ms ns alike few many
