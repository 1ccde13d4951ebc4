use Rattle.std.proofs.Common.{◌≡◌, arith, length}
use Rattle.body_store.proofs.NewVeils.{new_veils}
use Rattle.body_store.proofs.veils.Veils.new.Goals as goal

pub returns-clause-fits : goal.returns-clause-fits
returns-clause-fits c =
    let end = c.loop-place-test.false in
    let most = c.loop-place.auto.place-end in
    let all : c.loop-place.place ≡ length c.args.memories.now = omega (arith, end, most) in
    new_veils c.args.first c.loop-place.place c.args.memories.now (record { under = c.loop-place.under; veiled = c.in_ok-veiled.veiled }) c.in_ok-veiled.ensures.size c.in_ok-veiled.ensures.items all c.loop-place.invariant
