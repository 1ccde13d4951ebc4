use Rattle.std.proofs.Common.{◌-◌, ap, ◌∙◌}
use Rattle.step_words.specs.Words.{StepState, has_changed}
use Rattle.step_words.proofs.Lists.{member_is}
use Rattle.step_words.proofs.words.StepWords.has_changed.Goals as goal

pub returns : goal.returns
returns c = member_is c.contains.result c.self.inside.changed.items (c.args.memory - c.self.inside.first) c.contains.ensures ∙ ap (λ (x : StepState). has_changed x c.args.memory) c.self.view_is
