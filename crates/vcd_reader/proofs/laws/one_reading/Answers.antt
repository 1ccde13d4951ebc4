use Rattle.vcd_reader.proofs.FaultLaws.{fault_excludes, one_meaning, one_dump, one_fault, dump_excludes}
use Rattle.vcd_reader.proofs.FaultNames.{fault_is_named, last_fault_is_named}
use Rattle.vcd_reader.proofs.laws.one_reading.Goals as goal

pub returns : goal.returns
returns c = record {
  meaning = λ text word other_word means other s t. (one_meaning text word other_word means other s t).meaning;
  dump = one_dump;
  fault = one_fault;
  excludes = fault_excludes;
  named = fault_is_named;
  named_at_end = last_fault_is_named;
  no_fault_at_end = dump_excludes;
}
