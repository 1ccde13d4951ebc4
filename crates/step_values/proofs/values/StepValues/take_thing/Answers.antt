use Rattle.std.proofs.Common.{◌∙◌, arith, sym}
use Rattle.step_values.proofs.Taking.{coded_takes, free_takes}
use Rattle.step_values.proofs.values.StepValues.take_thing.Goals as goal

pub known_signal-requires : goal.known_signal-requires
known_signal-requires c = c.requires.coded c.args.thing (sym c.is_coded.ensures ∙ c.if-is_coded.true)

pub set_made-requires : goal.set_made-requires
set_made-requires c = let count = c.requires.fits.made.count in let l = c.requires.coded c.args.thing (sym c.is_coded.ensures ∙ c.if-is_coded.true) in omega (arith, count, l)

pub insert-requires : goal.insert-requires
insert-requires c = let size = c.requires.size in let l = c.requires.coded c.args.thing (sym c.is_coded.ensures ∙ c.if-is_coded.true) in omega (arith, size, l)

pub returns-then-is_coded-clause-takes : goal.returns-then-is_coded-clause-takes
returns-then-is_coded-clause-takes c =
    let coded = sym c.is_coded.ensures ∙ c.if-is_coded.true in
    let count = c.requires.fits.made.count in
    let l = c.requires.coded c.args.thing coded in
    coded_takes c.args.codes.now c.args.store.now c.args.overwritten.now.items c.insert.new.self.items c.args.thing c.args.self.now c.set_made.new.self c.known_signal.result c.insert.result coded (omega (arith, count, l)) c.set_made.ensures c.known_signal.ensures c.insert.ensures.there.0 c.insert.ensures.items

pub returns-else-is_coded-clause-takes : goal.returns-else-is_coded-clause-takes
returns-else-is_coded-clause-takes c = free_takes c.args.codes.now c.args.store.now c.args.overwritten.now.items c.args.thing c.args.self.now (sym c.is_coded.ensures ∙ c.if-is_coded.false)
