use Rattle.std.proofs.Common.{◌∙◌, ap, subst}
use Rattle.design_model.specs.Tree as t
use Rattle.term_replay.specs.Stands.{Stands, head_of}
use Rattle.term_replay.proofs.Stepping.{same_value}
use Rattle.term_replay.proofs.after.after_choice.Goals as goal

pub keep-requires-clause-width : goal.keep-requires-clause-width
keep-requires-clause-width c = c.choice-value.ensures.width ∙ ap (λ h. h.width) c.of.ensures

pub returns-clause-value : goal.returns-clause-value
returns-clause-value c = λ v first i x y sm sa sc.
    same_value v first _ _ _ c.keep.ensures.value (subst (λ h. Stands v first (t.choice (head_of h) i x y) c.choice-value.result) c.of.ensures (c.choice-value.ensures.value v first i x y sm sa sc))
