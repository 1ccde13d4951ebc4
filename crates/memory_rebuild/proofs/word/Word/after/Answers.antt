use Rattle.std.proofs.Common.{ap, sym, ◌∙◌}
use Rattle.known_state.specs.Partly.{with_blame}
use Rattle.memory_rebuild.specs.Words.{bits_left}
use Rattle.memory_rebuild.proofs.Joins.{joined_self}
use Rattle.memory_rebuild.proofs.word.Word.after.Goals as goal

pub returns-then-certain-clause-value : goal.returns-then-certain-clause-value
returns-then-certain-clause-value c =
    c.join.ensures.value
    ∙ ap (λ ps. with_blame ps c.args.value.now.signed c.args.blame) (joined_self c.args.value.now.bits ∙ sym (ap (λ t. bits_left t c.args.value.now.bits c.args.self.now.value.bits) c.if-certain.true))
