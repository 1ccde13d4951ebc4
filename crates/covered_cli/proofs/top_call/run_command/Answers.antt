use Rattle.covered_cli.proofs.top_call.run_command.Goals as goal

pub returns-in-Err-clause-left : goal.returns-in-Err-clause-left
returns-in-Err-clause-left g c = rw c.in-Merge.is c.in-Err.ensures.left

pub returns-in-Err-run_report-clause-left : goal.returns-in-Err-run_report-clause-left
returns-in-Err-run_report-clause-left g c = rw c.in-Report.is c.in-Err-run_report.ensures.left

pub returns-in-Err-run_lcov-clause-left : goal.returns-in-Err-run_lcov-clause-left
returns-in-Err-run_lcov-clause-left g c = rw c.in-Lcov.is c.in-Err-run_lcov.ensures.left

pub returns-in-Err-run_rank-clause-left : goal.returns-in-Err-run_rank-clause-left
returns-in-Err-run_rank-clause-left g c = rw c.in-Rank.is c.in-Err-run_rank.ensures.left

pub returns-in-Err-run_exclude-clause-left : goal.returns-in-Err-run_exclude-clause-left
returns-in-Err-run_exclude-clause-left g c = rw c.in-Exclude.is c.in-Err-run_exclude.ensures.left

pub returns-in-Err-run_restore-clause-left : goal.returns-in-Err-run_restore-clause-left
returns-in-Err-run_restore-clause-left g c = rw c.in-Restore.is c.in-Err-run_restore.ensures.left

pub returns-in-Err-run_selfrun-clause-left : goal.returns-in-Err-run_selfrun-clause-left
returns-in-Err-run_selfrun-clause-left g c = rw c.in-Selfrun.is c.in-Err-run_selfrun.ensures.left
