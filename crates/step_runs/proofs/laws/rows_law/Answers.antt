use Rattle.step_runs.proofs.Watched.{has_rows}
use Rattle.step_runs.proofs.laws.rows_law.Goals as goal

pub returns : goal.returns
returns c d bound tables watched targets written wakes lawful tabled are count blocking names rows = has_rows d bound tables watched targets written wakes lawful tabled are count blocking names rows
