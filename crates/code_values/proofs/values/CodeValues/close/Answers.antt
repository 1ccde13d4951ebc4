use Rattle.std.proofs.Common.{◌≡◌, ◌∙◌, ap, arith}
use Rattle.code_values.proofs.Taking.{all_closed, closed_values}
use Rattle.code_values.proofs.values.CodeValues.close.Goals as goal

pub returns : goal.returns
returns c =
    let now : c.loop-place.self-inside.closed.items ≡ c.self.inside.last.items = all_closed c.self.inside.closed.items c.self.inside.last.items c.loop-place.self-inside.closed.items c.self.inside.given c.loop-place.place c.self.invariant (omega (arith, c.loop-place-test.false, c.len-place-end.ensures.value)) c.loop-place.invariant.2 in
    let last : c.self.inside.last.items ≡ c.args.self.now.last = ap (λ t. t.last) c.self.view_is in
    closed_values c.loop-place.self-inside.closed.items c.loop-place.self-inside.last.items c.args.self.now (now ∙ last) (c.loop-place.invariant.1 ∙ last)
