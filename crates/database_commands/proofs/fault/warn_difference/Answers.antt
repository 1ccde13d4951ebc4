use Rattle.std.proofs.Common.{append_assoc, rules}
use Rattle.whole_files.proofs.Lines.{WarnsLine-is}
use Rattle.database_commands.proofs.fault.warn_difference.Goals as goal

pub returns-clause-line : goal.returns-clause-line
returns-clause-line g c = WarnsLine-is _ _ (g.H.Host.outside c.args.host.now) (g.H.Host.outside c.warn_lines.new.host) (search (rules, append_assoc, c.format.ensures.text)) c.warn_lines.ensures.line
