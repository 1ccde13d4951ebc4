use Rattle.step_words.proofs.memory.fill_words.Goals as goal

pub returns : goal.returns
returns c = c.fill.ensures.after (λ y e. e)
