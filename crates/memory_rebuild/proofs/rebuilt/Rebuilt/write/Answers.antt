use Rattle.memory_rebuild.proofs.Laws.{AreLeft, left_by_places, left_others, left_sound, left_stands, left_sure, left_weak}
use Rattle.memory_rebuild.proofs.rebuilt.Rebuilt.write.Goals as goal
use Rattle.memory_rebuild.proofs.rebuilt.Rebuilt.write.Goals.{After-put}

left : (c : After-put) → AreLeft c.args.self.now c.put.new.self c.args.index.now c.args.value.now.bits c.args.certain
left c = left_by_places c.args.self.now c.put.new.self c.args.index.now c.args.value.now.bits c.args.certain c.put.ensures.shape c.put.ensures.widths c.requires.width c.put.ensures.words

pub returns-clause-words : goal.returns-clause-words
returns-clause-words c = (left c).words

pub returns-clause-sound : goal.returns-clause-sound
returns-clause-sound c = left_sound c.args.self.now c.put.new.self c.args.index.now c.args.value.now.bits c.args.certain (left c)

pub returns-clause-not_certain : goal.returns-clause-not_certain
returns-clause-not_certain c = left_weak c.args.self.now c.put.new.self c.args.index.now c.args.value.now.bits c.args.certain (left c)

pub returns-clause-sure_index : goal.returns-clause-sure_index
returns-clause-sure_index c = left_sure c.args.self.now c.put.new.self c.args.index.now c.args.value.now.bits c.args.certain (left c)

pub returns-clause-others : goal.returns-clause-others
returns-clause-others c = left_others c.args.self.now c.put.new.self c.args.index.now c.args.value.now.bits c.args.certain (left c)

pub returns-clause-stands : goal.returns-clause-stands
returns-clause-stands c = left_stands c.args.self.now c.put.new.self c.args.index.now c.args.value.now.bits c.args.certain (left c)
