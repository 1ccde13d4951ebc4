use Rattle.std.proofs.Common.{sym, ◌∙◌}
use Rattle.memory_rebuild.proofs.Reading.{read_named, read_unnamed}
use Rattle.memory_rebuild.proofs.rebuilt.Rebuilt.looked_up.Goals as goal

pub returns-in-Some-clause-value : goal.returns-in-Some-clause-value
returns-in-Some-clause-value c =
    read_named c.args.self.now c.args.index.now c.word.result c.value.result c.in-Some.place c.shape-shape.result c.shape-shape.ensures.value (c.value.ensures.whole (sym c.is_whole.ensures ∙ c.if-not-is_whole.false)) c.in-Some.ensures.1 c.word.ensures.value

pub returns-in-None-clause-value : goal.returns-in-None-clause-value
returns-in-None-clause-value c =
    read_unnamed c.args.self.now c.args.index.now c.strange.result c.value.result c.shape-shape.result c.shape-shape.ensures.value (c.value.ensures.whole (sym c.is_whole.ensures ∙ c.if-not-is_whole.false)) c.in-None.ensures c.strange.ensures
