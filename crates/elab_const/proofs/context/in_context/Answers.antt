use Rattle.std.proofs.Common.{refl}
use Rattle.elab_const.proofs.ContextLemmas.{fit-own}
use Rattle.elab_const.proofs.context.in_context.Goals as goal

pub returns : goal.returns
returns c = rw (c.extend-2.ensures, c.extend.ensures, c.width.ensures.value, fit-own) refl
