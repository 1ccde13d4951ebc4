use Rattle.std.proofs.Common.{◌≡◌, ap, length, arith}
use Rattle.vcd_reader.specs.Reading.{HeaderReading}
use Rattle.vcd_reader.proofs.header_reader.HeaderReader.new.Goals as goal

pub invariant_of-result-clause-few : goal.invariant_of-result-clause-few
invariant_of-result-clause-few c = let none : length c.new-sections.result.declared.codes ≡ 0 = ap (λ (r : HeaderReading). length r.declared.codes) c.new-sections.ensures in omega (arith, none)
