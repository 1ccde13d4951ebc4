use Rattle.std.proofs.Common.{◌∙◌, ap, subst}
use Rattle.design_model.specs.Tree as t
use Rattle.term_replay.specs.Stands.{Stands, head_of}
use Rattle.term_replay.proofs.Stepping.{same_value}
use Rattle.term_replay.proofs.after.after_vectors.Goals as goal

pub keep-requires-clause-width : goal.keep-requires-clause-width
keep-requires-clause-width c = c.binary-value.ensures.width ∙ ap (λ h. h.width) c.of.ensures

pub returns-clause-value : goal.returns-clause-value
returns-clause-value c = λ v first x y sa sc.
    same_value v first _ _ _ c.keep.ensures.value (subst (λ h. Stands v first (t.binary (head_of h) c.args.op x y) c.binary-value.result) c.of.ensures (c.binary-value.ensures.value v first x y sa sc))
