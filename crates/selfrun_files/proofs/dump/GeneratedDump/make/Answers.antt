use Rattle.selfrun_files.proofs.Lines.{low_made}
use Rattle.selfrun_files.proofs.dump.GeneratedDump.make.Goals as goal

pub returns-in-Low-2-clause-rest : goal.returns-in-Low-2-clause-rest
returns-in-Low-2-clause-rest c =
    low_made c.args.self.now.left c.args.self.now.at c.args.self.now.moment c.args.self.now.block c.push_low.new.block c.args.self.now.next c.in-Low-2.is c.if-self-eq0.false c.requires.read c.push_low.ensures
