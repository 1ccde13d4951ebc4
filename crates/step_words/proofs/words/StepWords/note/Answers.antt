use Rattle.std.proofs.Common.{ap, ap₂, ◌∙◌}
use Rattle.step_words.specs.Words.{StepState, put_if}
use Rattle.step_words.proofs.words.StepWords.note.Goals as goal

pub returns : goal.returns
returns c =
    ap₂ (λ s t. record { first = c.self.inside.first; words = c.self.inside.memories.items; changed = s; unsteady = t }) c.put_in.ensures.value c.put_in-2.ensures.value
    ∙ ap (λ (x : StepState). record { first = x.first; words = x.words; changed = put_if c.args.change.is_sure c.args.memory x.changed; unsteady = put_if c.args.change.may_be c.args.memory x.unsteady }) c.self.view_is
