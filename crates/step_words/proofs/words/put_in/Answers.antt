use Rattle.std.proofs.Common.{ap, sym, ◌∙◌}
use Rattle.step_words.specs.Words.{put_if}
use Rattle.step_words.proofs.Lists.{put_is}
use Rattle.step_words.proofs.words.put_in.Goals as goal

pub returns-then-passes-clause-value : goal.returns-then-passes-clause-value
returns-then-passes-clause-value c =
    put_is c.args.set.now c.insert.new.self c.args.number c.insert.result c.insert.ensures.there c.insert.ensures.size c.insert.ensures.items
    ∙ sym (ap (λ b. put_if b c.args.number c.args.set.now) c.if-passes.true)

pub returns-else-passes-clause-value : goal.returns-else-passes-clause-value
returns-else-passes-clause-value c = sym (ap (λ b. put_if b c.args.number c.args.set.now) c.if-passes.false)
