use Rattle.std.proofs.Common.{append_assoc, rules}
use Rattle.whole_files.proofs.Lines.{WarnsLine-is}
use Rattle.database_commands.proofs.fault.warn_fault.Goals as goal

pub returns-clause-line : goal.returns-clause-line
returns-clause-line g c = WarnsLine-is _ _ (g.H.Host.outside c.args.host.now) (g.H.Host.outside c.warn_pieces.new.host) (search (rules, append_assoc, c.as_bytes.ensures.value, c.as_bytes-2.ensures.value, c.as_bytes-3.ensures.value, c.as_bytes-4.ensures.value, c.as_bytes-5.ensures.value, c.as_bytes-6.ensures.value, c.as_bytes-7.ensures.value)) c.warn_pieces.ensures.line
