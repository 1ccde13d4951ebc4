use Rattle.std.proofs.Common.{sym, ◌∙◌}
use Rattle.memory_rebuild.proofs.Laws.{put_anywhere_left, put_named, put_nothing}
use Rattle.memory_rebuild.proofs.rebuilt.Rebuilt.put.Goals as goal

pub returns-then-not-is_whole-clause-words : goal.returns-then-not-is_whole-clause-words
returns-then-not-is_whole-clause-words c =
    put_anywhere_left c.args.self.now c.put_anywhere.new.self c.args.index.now c.args.value.now.bits c.args.certain (sym c.is_whole.ensures ∙ c.if-not-is_whole.true) c.put_anywhere.ensures.words

pub returns-in-Some-clause-words : goal.returns-in-Some-clause-words
returns-in-Some-clause-words c =
    put_named c.args.self.now c.put_at.new.self c.args.index.now c.args.value.now.bits c.args.certain c.value.result c.in-Some.place c.shape-shape.result c.shape-shape.ensures.value (c.value.ensures.whole (sym c.is_whole.ensures ∙ c.if-not-is_whole.false)) c.in-Some.ensures.1 c.put_at.ensures.word c.put_at.ensures.others

pub returns-in_default-clause-words : goal.returns-in_default-clause-words
returns-in_default-clause-words c =
    put_nothing c.args.self.now c.args.index.now c.args.value.now.bits c.args.certain c.value.result c.shape-shape.result c.shape-shape.ensures.value (c.value.ensures.whole (sym c.is_whole.ensures ∙ c.if-not-is_whole.false)) c.in_default.ensures
