use Rattle.verilog_lexer.proofs.KeptTokens.{texts_are_parts}
use Rattle.verilog_lexer.proofs.laws.texts_are_parts.Goals as goal

pub returns : goal.returns
returns c = texts_are_parts
