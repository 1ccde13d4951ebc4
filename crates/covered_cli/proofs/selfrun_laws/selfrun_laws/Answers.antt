use Rattle.covered_cli.proofs.SelfrunGood.{good, is_selfrun_table}
use Rattle.covered_cli.proofs.selfrun_laws.selfrun_laws.Goals as goal

pub returns-clause-good : goal.returns-clause-good
returns-clause-good c = good c.args._alloc c.source_law.ensures c.code_law.ensures c.points_law.ensures c.text_law.ensures c.times_law.ensures c.bound_law.ensures c.says_law.ensures c.shown_law.ensures c.certain_law.ensures

pub returns-clause-table : goal.returns-clause-table
returns-clause-table c values outside table steps has is = is_selfrun_table c.args._alloc c.source_law.ensures c.code_law.ensures c.points_law.ensures c.text_law.ensures c.times_law.ensures c.bound_law.ensures c.says_law.ensures c.shown_law.ensures c.certain_law.ensures values outside steps has table is
