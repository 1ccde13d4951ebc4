use Rattle.vcd_reader.proofs.PlaceLemmas.{place_under-insert}
use Rattle.vcd_reader.proofs.places.set_long.Goals as goal

pub returns-clause-set : goal.returns-clause-set
returns-clause-set c text = rw c.in_ok-insert.ensures.entries (place_under-insert c.args.table.now.entries c.args.key c.args.place text)
