use Rattle.std.proofs.Common.{arith}
use Rattle.std.proofs.lemmas.Map.Text.{text_keys}
use Rattle.memory_hosts.proofs.sure_host.SureHost.put.Goals as goal

pub invariant_of-self : goal.invariant_of-self
invariant_of-self c = record {
  output_is_a_file = λ name is_output. grind (arith, text_keys, c.args.self.now.output_is_a_file name is_output);
}

pub returns-clause-file : goal.returns-clause-file
returns-clause-file c = record {
  named = grind (arith, text_keys);
  others = λ other apart. grind (arith, text_keys);
}
