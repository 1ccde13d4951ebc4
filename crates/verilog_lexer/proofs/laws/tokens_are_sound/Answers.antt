use Rattle.verilog_lexer.proofs.KeptTokens.{tokens_are_sound}
use Rattle.verilog_lexer.proofs.laws.tokens_are_sound.Goals as goal

pub returns : goal.returns
returns c = tokens_are_sound
