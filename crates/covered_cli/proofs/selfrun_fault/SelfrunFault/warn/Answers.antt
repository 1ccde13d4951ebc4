use Rattle.std.proofs.Common.{append_assoc, rules}
use Rattle.whole_files.proofs.Lines.{WarnsLine-is}
use Rattle.covered_cli.proofs.selfrun_fault.SelfrunFault.warn.Goals as goal

pub returns-in-Print-clause-line : goal.returns-in-Print-clause-line
returns-in-Print-clause-line g c = rw c.in-Print.is (WarnsLine-is _ _ (g.H.Host.outside c.args.host.now) (g.H.Host.outside c.warn_file.new.host) (search (rules, append_assoc, c.as_bytes.ensures.value)) c.warn_file.ensures.line)

pub returns-in-NoMemory-clause-line : goal.returns-in-NoMemory-clause-line
returns-in-NoMemory-clause-line g c = rw c.in-NoMemory.is (WarnsLine-is _ _ (g.H.Host.outside c.args.host.now) (g.H.Host.outside c.warn_pieces.new.host) (search (rules, append_assoc, c.as_bytes-in-NoMemory.ensures.value)) c.warn_pieces.ensures.line)
