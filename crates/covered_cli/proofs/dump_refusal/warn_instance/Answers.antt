use Rattle.std.proofs.Common.{rules}
use Rattle.whole_files.proofs.Lines.{WarnsLine-is}
use Rattle.covered_cli.proofs.dump_refusal.warn_instance.Goals as goal

pub returns-clause-line : goal.returns-clause-line
returns-clause-line g c = WarnsLine-is _ _ (g.H.Host.outside c.args.host.now) (g.H.Host.outside c.warn_pieces.new.host) (search rules) c.warn_pieces.ensures.line
