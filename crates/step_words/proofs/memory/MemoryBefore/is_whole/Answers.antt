use Rattle.std.proofs.Common.{ap, nat_eq, ◌∙◌}
use Rattle.step_words.specs.Changes.{count_unsure}
use Rattle.step_words.proofs.Counts.{none_counted}
use Rattle.step_words.proofs.memory.MemoryBefore.is_whole.Goals as goal

pub returns : goal.returns
returns c = ap (λ n. nat_eq n 0) (c.self.invariant.0 ∙ ap count_unsure c.self.view_is) ∙ none_counted c.args.self.now
