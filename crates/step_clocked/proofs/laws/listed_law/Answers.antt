use Rattle.step_clocked.proofs.Listed.{all_listed}
use Rattle.step_clocked.proofs.laws.listed_law.Goals as goal

pub returns : goal.returns
returns c d bound tables w lawful tabled of found p s h = all_listed d bound tables w lawful tabled of found p s h
