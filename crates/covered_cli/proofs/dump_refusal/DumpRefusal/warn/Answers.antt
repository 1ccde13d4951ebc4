use Rattle.std.proofs.Common.{append_assoc, rules}
use Rattle.whole_files.proofs.Lines.{WarnsLine-is}
use Rattle.covered_cli.proofs.dump_refusal.DumpRefusal.warn.Goals as goal

pub returns-in-At-clause-line : goal.returns-in-At-clause-line
returns-in-At-clause-line g c = rw c.in-At.is c.warn_fault.ensures.line

pub returns-in-NoInstance-clause-line : goal.returns-in-NoInstance-clause-line
returns-in-NoInstance-clause-line g c = rw c.in-NoInstance.is c.warn_instance.ensures.line

pub returns-in-NoBaseline-clause-line : goal.returns-in-NoBaseline-clause-line
returns-in-NoBaseline-clause-line g c = rw c.in-NoBaseline.is (WarnsLine-is _ _ (g.H.Host.outside c.args.host.now) (g.H.Host.outside c.warn_signal.new.host) (search (rules, append_assoc)) c.warn_signal.ensures.line)
