use Rattle.std.proofs.Common.{◌∙◌}
use Rattle.memory_rebuild.proofs.Kept.{current_value, old_value}
use Rattle.memory_rebuild.proofs.rebuilt.Rebuilt.word.Goals as goal

pub returns-then-word-self-clause-value : goal.returns-then-word-self-clause-value
returns-then-word-self-clause-value c = current_value c.self.inside.shape c.self.inside.epoch _ c.self.inside.words.items c.self.inside.written.items c.args.self.now c.self.invariant c.self.view_is c.args.place c.index-word.result.now c.requires c.index-word.ensures c.if-word-self.true

pub returns-else-word-self-clause-value : goal.returns-else-word-self-clause-value
returns-else-word-self-clause-value c = c.unknown.ensures ∙ old_value c.self.inside.shape c.self.inside.epoch _ c.self.inside.words.items c.self.inside.written.items c.args.self.now c.self.invariant c.self.view_is c.args.place c.index-word.result.now c.requires c.index-word.ensures c.if-word-self.false
