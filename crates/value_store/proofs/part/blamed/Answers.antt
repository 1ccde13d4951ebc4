use Rattle.std.proofs.Common.{ap, ◌∙◌}
use Rattle.body_replay.specs.known_state.Partly.{with_blame}
use Rattle.value_store.proofs.Left.{joined_self}
use Rattle.value_store.proofs.part.blamed.Goals as goal

pub returns : goal.returns
returns c = c.join.ensures.value ∙ ap (λ ps. with_blame ps c.args.value.now.signed c.args.thing) (joined_self c.args.value.now.bits)
