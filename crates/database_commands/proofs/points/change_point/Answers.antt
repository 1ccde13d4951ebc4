use Rattle.database_commands.proofs.points.change_point.Goals as goal

pub returns-in-Exclude-clause-changed : goal.returns-in-Exclude-clause-changed
returns-in-Exclude-clause-changed c = rw c.in-Exclude.is c.exclude.ensures.ok

pub returns-in-Exclude-clause-refused : goal.returns-in-Exclude-clause-refused
returns-in-Exclude-clause-refused c = rw c.in-Exclude.is c.exclude.ensures.err

pub returns-in-Restore-clause-changed : goal.returns-in-Restore-clause-changed
returns-in-Restore-clause-changed c = rw c.in-Restore.is c.restore.ensures.ok

pub returns-in-Restore-clause-refused : goal.returns-in-Restore-clause-refused
returns-in-Restore-clause-refused c = rw c.in-Restore.is c.restore.ensures.err
