use Rattle.std.proofs.Common.{◌∙◌, ◌++◌, ap, append_assoc}
use Rattle.selfrun_files.specs.Text.{vector_line}
use Rattle.selfrun_files.proofs.dump.push_first.Goals as goal

pub returns-then-step-eq0 : goal.returns-then-step-eq0
returns-then-step-eq0 c =
    rw c.if-step-eq0.true (c.push_vector-then-step-eq0.ensures.line ∙ ap (λ b. b ++ vector_line 113 8 0) c.push_vector.ensures.line ∙ append_assoc c.args.block.now (vector_line 112 8 0) (vector_line 113 8 0))
