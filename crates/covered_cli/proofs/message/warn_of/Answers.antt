use Rattle.std.proofs.Common.{append_assoc, rules}
use Rattle.whole_files.proofs.Lines.{WarnsLine-is}
use Rattle.covered_cli.proofs.message.warn_of.Goals as goal

pub returns-in-Contradiction-clause-line : goal.returns-in-Contradiction-clause-line
returns-in-Contradiction-clause-line g c = rw c.in-Contradiction.is c.warn-in-Contradiction.ensures.line

pub returns-in-Files-clause-line : goal.returns-in-Files-clause-line
returns-in-Files-clause-line g c = rw c.in-Files.is (WarnsLine-is _ _ (g.H.Host.outside c.args.host.now) (g.H.Host.outside c.warn_file.new.host) (search (rules, append_assoc, c.name.ensures, c.as_bytes.ensures.value)) c.warn_file.ensures.line)
