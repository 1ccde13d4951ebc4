use Rattle.std.proofs.Common.{◌∙◌, None, ap, length, replicate}
use Rattle.known_state.specs.Partly.{Partly}
use Rattle.first_step.proofs.dump.make_nothing.Goals as goal

pub returns : goal.returns
returns c = (
  c.unknown.result,
  c.set_made.ensures,
  ap (λ (q : Partly). q.bits) c.unknown.ensures ∙ ap (λ n. replicate n None) (c.width.ensures.value ∙ ap (λ (q : Partly). length q.bits) c.made-made.ensures),
)
