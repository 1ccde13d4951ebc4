use Rattle.std.proofs.Common.{sym}
use Rattle.verilog_lexer.proofs.Quotes.{none_closes-line}
use Rattle.verilog_lexer.proofs.passage.Passage.through_quote.Goals as goal

pub invariant_of-self-clause-none_closes : goal.invariant_of-self-clause-none_closes
invariant_of-self-clause-none_closes c = rw c.line_length-self.ensures.value (none_closes-line c.args.self.now.text.now c.requires (sym (rw c.tail.ensures at c.in-None.ensures.value)))
