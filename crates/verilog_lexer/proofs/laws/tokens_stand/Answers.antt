use Rattle.verilog_lexer.proofs.ReadFiles.{tokens_stand}
use Rattle.verilog_lexer.proofs.laws.tokens_stand.Goals as goal

pub returns : goal.returns
returns c = tokens_stand
