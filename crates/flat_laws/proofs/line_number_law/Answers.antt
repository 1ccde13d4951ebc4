use Rattle.flat_laws.proofs.line_number_law.Goals as goal
use Rattle.flat_laws.proofs.LineNumbers.{lines_within}

pub returns : goal.returns
returns c g s base l n = lines_within base g s l n
