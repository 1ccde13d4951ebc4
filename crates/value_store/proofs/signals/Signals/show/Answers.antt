use Rattle.std.proofs.Common.{◌<◌, length, arith}
use Rattle.value_store.proofs.Showing.{as_many, hides_shown, reads_shown}
use Rattle.value_store.proofs.Slots.{shown_written}
use Rattle.value_store.proofs.signals.Signals.show.Goals as goal

pub returns-clause-value : goal.returns-clause-value
returns-clause-value c =
    shown_written c.self.inside.epoch c.self.inside.slots.items c.args.signal c.index_mut-slot.result.now c.args.self.now c.index_mut-slot.ensures.value c.self.view_is c.args.value

pub returns-clause-reads : goal.returns-clause-reads
returns-clause-reads c =
    let size = as_many c.self.inside.epoch c.self.inside.slots.items c.args.self.now c.self.view_is in
    let place = c.requires.place in
    let inside : c.args.signal < length c.args.self.now.hidden = omega (arith, size, place) in
    reads_shown c.args.self.now _ c.args.signal c.args.value inside (returns-clause-value c)

pub returns-clause-hides : goal.returns-clause-hides
returns-clause-hides c =
    let size = as_many c.self.inside.epoch c.self.inside.slots.items c.args.self.now c.self.view_is in
    let place = c.requires.place in
    let inside : c.args.signal < length c.args.self.now.hidden = omega (arith, size, place) in
    hides_shown c.args.self.now _ c.args.signal c.args.value inside (returns-clause-value c)
