use Rattle.vcd_reader.proofs.CodeLemmas.{entered-at}
use Rattle.vcd_reader.proofs.codes.replace.Goals as goal

pub returns-clause-codes : goal.returns-clause-codes
returns-clause-codes c texts text is = entered-at texts c.args.codes.now.items text c.args.code c.args.place is
