use Rattle.command_line.proofs.DatabaseReading.{report_stands}
use Rattle.command_line.proofs.database_words.read_report.Goals as goal

pub returns-in-Ok-clause-report : goal.returns-in-Ok-clause-report
returns-in-Ok-clause-report c = report_stands _ _ _ c.in_ok-given.ensures.read c.in-Ok.ensures.report
