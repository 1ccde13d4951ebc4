use Rattle.std.proofs.Common.{◌∙◌, sym, ap}
use Rattle.code_values.proofs.Changing.{same_signs, same_vector}
use Rattle.code_values.proofs.values.is_same.Goals as goal

pub returns : goal.returns
returns c = (
  λ t. same_vector c.args.a.now c.args.b.now (sym c.ones.ensures.value ∙ c.if-ones.false ∙ c.ones-2.ensures.value) (sym c.strange.ensures.value ∙ c.if-strange.false ∙ c.strange-else-ones.ensures.value) (sym c.width.ensures.value ∙ c.if-width.false ∙ c.width-2.ensures.value) (sym c.is_signed.ensures ∙ (same_signs c.is_signed.result c.is_signed-2.result).0 t ∙ c.is_signed-2.ensures),
  λ e. (same_signs c.is_signed.result c.is_signed-2.result).1 (c.is_signed.ensures ∙ ap (λ v. v.signed) e ∙ sym c.is_signed-2.ensures),
)
