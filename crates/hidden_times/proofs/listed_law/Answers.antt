use Rattle.hidden_times.proofs.Listed.{any_dump_law, listed_law}
use Rattle.hidden_times.proofs.listed_law.Goals as goal

pub returns-clause-listed : goal.returns-clause-listed
returns-clause-listed c = listed_law

pub returns-clause-dumps : goal.returns-clause-dumps
returns-clause-dumps c = any_dump_law
