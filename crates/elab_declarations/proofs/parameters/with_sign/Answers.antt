use Rattle.std.proofs.Common.{refl}
use Rattle.elab_const.proofs.ContextLemmas.{fit-own}
use Rattle.elab_declarations.proofs.parameters.with_sign.Goals as goal

pub returns : goal.returns
returns c = rw (c.extend.ensures, c.width.ensures.value, fit-own) (rw c.is_signed.ensures refl)
