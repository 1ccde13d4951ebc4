use Rattle.verilog_grammar.proofs.Verilog.{verilog_exact}
use Rattle.selfrun_design.proofs.Flat.{flat}
use Rattle.selfrun_design.proofs.Modules.{modules}
use Rattle.selfrun_design.proofs.Spelled.{spelled}
use Rattle.selfrun_design.proofs.Tokens.{lexed, tokens}
use Rattle.selfrun_design.proofs.source_law.Goals as goal

pub returns : goal.returns
returns c = record {
  tokens = tokens;
  modules = modules;
  lexed = lexed;
  spelled = verilog_exact.sound 256 tokens modules spelled;
  flat = flat;
}
