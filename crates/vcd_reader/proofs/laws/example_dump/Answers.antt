use Rattle.std.proofs.Common.{[], refl, lit≤}
use Rattle.vcd_reader.specs.Reading.{body}
use Rattle.vcd_reader.specs.Example.{example_text, example_body}
use Rattle.vcd_reader.proofs.laws.example_dump.Goals as goal

pub returns : goal.returns
returns c = record {
  word = [];
  means = body example_body;
  stands = record { front = example_text; split = refl; whole = refl; black = refl; meaning = refl; within = lit≤ tt };
  whole = refl;
  meaning = refl;
  closed = refl;
}
