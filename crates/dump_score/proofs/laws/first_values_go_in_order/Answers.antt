use Rattle.dump_score.proofs.BindingFirst.{first_values}
use Rattle.dump_score.proofs.laws.first_values_go_in_order.Goals as goal

pub returns : goal.returns
returns c = first_values
