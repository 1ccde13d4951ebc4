use Rattle.std.proofs.Common.{◌≡◌, ◌∙◌, ◌<◌, [], ℕ, arith, length, sym, true}
use Rattle.std.proofs.lemmas.List.Elements.{All-cons, All-nil}
use Rattle.settling.specs.step_values.Loose.{has_code}
use Rattle.first_step.proofs.Putting.{no_test, none_put, one_put}
use Rattle.first_step.proofs.dump.put_signal.Goals as goal

pub put_dump-requires-clause-coded : goal.put_dump-requires-clause-coded
put_dump-requires-clause-coded c =
    All-cons (λ (s : ℕ). (s < length c.args.store.now.design.now.signals) × (has_code c.args.codes.now s ≡ true)) c.args.signal [] (c.requires.place, sym c.is_coded.ensures ∙ c.if-is_coded.true) (All-nil (λ (s : ℕ). (s < length c.args.store.now.design.now.signals) × (has_code c.args.codes.now s ≡ true)))

pub make_nothing-requires : goal.make_nothing-requires
make_nothing-requires c = let l = c.requires.place in let count = c.requires.fits.made.count in omega (arith, l, count)

pub returns-then-is_coded-clause-puts : goal.returns-then-is_coded-clause-puts
returns-then-is_coded-clause-puts c =
    let l = c.requires.place in
    let count = c.requires.fits.made.count in
    one_put c.args.codes.now c.args.dump.now.last c.args.signal (sym c.is_coded.ensures ∙ c.if-is_coded.true) c.args.store.now c.put_dump.new.store c.args.values.now c.make_nothing.new.values c.put_dump.ensures.knows (omega (arith, l, count)) c.make_nothing.ensures

pub returns-else-is_coded-clause-puts : goal.returns-else-is_coded-clause-puts
returns-else-is_coded-clause-puts c = none_put c.args.codes.now c.args.dump.now.last _ c.args.store.now c.args.values.now (no_test c.args.codes.now c.args.signal (sym c.is_coded.ensures ∙ c.if-is_coded.false))
