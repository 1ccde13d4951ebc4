use Rattle.std.proofs.Common.{◌≡◌, take}
use Rattle.design_model.specs.Design.{Design}
use Rattle.design_model.specs.View.{design_view}
use Rattle.store_knowledge.specs.body_replay.Store.{Kept}
use Rattle.store_knowledge.specs.Knows.{Knows}
use Rattle.step_words.specs.Words.{FitsRanges, after_memories, unchanged}
use Rattle.step_words.proofs.words.StepWords.compare.Given as goal

-- the memories so far are compared
abbrev pub invariant-loop-listed : goal.invariant-loop-listed
invariant-loop-listed l =
    record {
      fits : FitsRanges (design_view l.store.design.now) l.written.ranges l.self;
      words : (d : Design) (k : Kept) → Knows d k l.store → l.self ≡ after_memories d k l.written (take l.listed l.written.memories.items) (unchanged l.fn.self);
    }
