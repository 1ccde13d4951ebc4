use Rattle.std.proofs.Common.{refl}
use Rattle.std.proofs.lemmas.Result.{on_ok_weaker}
use Rattle.vcd_reader.proofs.PlaceLemmas.{place_in-set}
use Rattle.vcd_reader.proofs.places.Places.set.Goals as goal

pub returns-in-Some-clause-set : goal.returns-in-Some-clause-set
returns-in-Some-clause-set c =
    on_ok_weaker c.set_short.result (λ set text. place_in-set c.args.self.now (record { short = c.set_short.new.table; long = c.args.self.now.long }) c.args.bytes.now c.in-Some.number c.args.place c.in-Some.ensures.number refl set text)
    c.set_short.ensures.set
