use Rattle.std.proofs.Common.{◌≡◌, take}
use Rattle.design_model.specs.Design.{Design}
use Rattle.design_model.specs.View.{design_view}
use Rattle.store_knowledge.specs.body_replay.Store.{Kept}
use Rattle.store_knowledge.specs.Knows.{Knows}
use Rattle.word_log.specs.Seen.{words_seen}
use Rattle.written_words.specs.Written.{range_at}
use Rattle.step_words.specs.Words.{FitsRanges, after_places}
use Rattle.step_words.proofs.words.StepWords.compare_memory.Given as goal

-- the words so far are compared
abbrev pub invariant-loop-listed : goal.invariant-loop-listed
invariant-loop-listed l =
    record {
      fits : FitsRanges (design_view l.store.design.now) l.written.ranges l.self;
      words : (d : Design) (k : Kept) → Knows d k l.store → l.self ≡ after_places d k l.memory (range_at l.written.ranges l.memory).least (take l.listed (words_seen l.written.words l.memory)) l.fn.self;
    }
