use Rattle.verilog_lexer.proofs.Quotes.{none_closes-drop}
use Rattle.verilog_lexer.proofs.Spots.{after_all_in_range}
use Rattle.verilog_lexer.proofs.passage.Passage.advance.Goals as goal

pub invariant_of-self : goal.invariant_of-self
invariant_of-self c = record {
  in_range = rw (c.after_all-spot.ensures, c.front-passed.ensures, c.tail-text.ensures) (after_all_in_range c.args.self.now.text.now c.args.length c.args.self.now.spot c.args.self.now.in_range);
  none_closes = rw (c.tail-text.ensures, c.saturating_sub-self.ensures) (none_closes-drop c.args.length c.args.self.now.unclosed c.args.self.now.text.now c.args.self.now.none_closes);
}
