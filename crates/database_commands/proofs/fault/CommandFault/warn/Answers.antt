use Rattle.std.proofs.Common.{append_assoc, rules}
use Rattle.whole_files.proofs.Lines.{WarnsLine-is}
use Rattle.database_commands.proofs.fault.CommandFault.warn.Goals as goal

pub returns-in-Files-clause-line : goal.returns-in-Files-clause-line
returns-in-Files-clause-line g c = rw c.in-Files.is (WarnsLine-is _ _ (g.H.Host.outside c.args.host.now) (g.H.Host.outside c.warn_file.new.host) (search (rules, append_assoc, c.name.ensures, c.as_bytes.ensures.value)) c.warn_file.ensures.line)

pub returns-in-Print-clause-line : goal.returns-in-Print-clause-line
returns-in-Print-clause-line g c = rw c.in-Print.is (WarnsLine-is _ _ (g.H.Host.outside c.args.host.now) (g.H.Host.outside c.warn_file-in-Print.new.host) (search (rules, append_assoc, c.as_bytes-in-Print.ensures.value)) c.warn_file-in-Print.ensures.line)

pub returns-in-Memory-clause-line : goal.returns-in-Memory-clause-line
returns-in-Memory-clause-line g c = rw c.in-Memory.is (WarnsLine-is _ _ (g.H.Host.outside c.args.host.now) (g.H.Host.outside c.warn_pieces.new.host) (search (rules, append_assoc, c.as_bytes-in-Memory.ensures.value)) c.warn_pieces.ensures.line)

pub returns-in-NoDatabase-clause-line : goal.returns-in-NoDatabase-clause-line
returns-in-NoDatabase-clause-line g c = rw c.in-NoDatabase.is c.warn_kind.ensures.line

pub returns-in-DesignsDiffer-clause-line : goal.returns-in-DesignsDiffer-clause-line
returns-in-DesignsDiffer-clause-line g c = rw c.in-DesignsDiffer.is (WarnsLine-is _ _ (g.H.Host.outside c.args.host.now) (g.H.Host.outside c.warn_difference.new.host) (search (rules, append_assoc, c.as_slice.ensures, c.as_slice-in-DesignsDiffer.ensures)) c.warn_difference.ensures.line)

pub returns-in-Point-clause-line : goal.returns-in-Point-clause-line
returns-in-Point-clause-line g c = rw c.in-Point.is (WarnsLine-is _ _ (g.H.Host.outside c.args.host.now) (g.H.Host.outside c.warn_fault.new.host) (search (rules, append_assoc, c.text.ensures)) c.warn_fault.ensures.line)
