use Rattle.clocked_laws.proofs.Firm.{clocked_all_kept, clocked_all_made, clocked_contradicts, clocked_firm, clocked_start}
use Rattle.clocked_laws.proofs.clocked_firm_law.Goals as goal

pub returns-clause-firm : goal.returns-clause-firm
returns-clause-firm c st lawful tabled x mine = clocked_firm st lawful tabled x mine

pub returns-clause-start : goal.returns-clause-start
returns-clause-start c st lawful tabled x mine w = clocked_start st lawful tabled x mine w

pub returns-clause-made : goal.returns-clause-made
returns-clause-made c st lawful tabled x mine = clocked_all_made st lawful tabled x mine

pub returns-clause-kept : goal.returns-clause-kept
returns-clause-kept c st lawful tabled x mine = clocked_all_kept st lawful tabled x mine

pub returns-clause-contradicts : goal.returns-clause-contradicts
returns-clause-contradicts c st lawful tabled x mine = clocked_contradicts st lawful tabled x mine
