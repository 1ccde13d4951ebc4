use Rattle.std.proofs.Common.{append_assoc, rules}
use Rattle.whole_files.proofs.Lines.{WarnsLine-is}
use Rattle.source_design.proofs.fault.SourceFault.warn.Goals as goal

pub returns-in-NoMemory-clause-line : goal.returns-in-NoMemory-clause-line
returns-in-NoMemory-clause-line g c = rw c.in-NoMemory.is (WarnsLine-is _ _ (g.H.Host.outside c.args.host.now) (g.H.Host.outside c.warn_pieces.new.host) (search (rules, c.as_bytes.ensures.value)) c.warn_pieces.ensures.line)

pub returns-in-File-clause-line : goal.returns-in-File-clause-line
returns-in-File-clause-line g c = rw c.in-File.is (WarnsLine-is _ _ (g.H.Host.outside c.args.host.now) (g.H.Host.outside c.warn_file.new.host) (search (rules, append_assoc, c.name.ensures, c.as_bytes-in-File.ensures.value)) c.warn_file.ensures.line)

pub returns-in-Included-clause-line : goal.returns-in-Included-clause-line
returns-in-Included-clause-line g c = rw c.in-Included.is (WarnsLine-is _ _ (g.H.Host.outside c.args.host.now) (g.H.Host.outside c.warn_file-in-Included.new.host) (search (rules, append_assoc, c.name-in-Included.ensures, c.as_slice.ensures)) c.warn_file-in-Included.ensures.line)

pub returns-in-Refused-clause-line : goal.returns-in-Refused-clause-line
returns-in-Refused-clause-line g c = rw c.in-Refused.is c.warn.ensures.line
