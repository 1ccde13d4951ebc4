use Rattle.std.proofs.Common.{◌≤◌}
use Rattle.verilog_lexer.specs.Sources.{total_length}
use Rattle.verilog_lexer.proofs.SourceLemmas.{within_by}
use Rattle.verilog_lexer.proofs.sources.Sources.get.Goals as goal

pub returns-clause-within : goal.returns-clause-within
returns-clause-within c =
    let within : total_length c.args.self.now ≤ 67108864 = rw (← c.self.view_is) c.self.invariant.within.bytes in
    within_by c.args.self.now c.args.place c.find.result c.find.ensures within
