use Rattle.std.proofs.Common.{◌≡◌, ℕ, [], map, take}
use Rattle.word_log.specs.Seen.{words_seen}
use Rattle.written_words.specs.Written.{sizes_of}
use Rattle.written_words.proofs.words.sets_for.Given as goal

-- a set for each memory so far
abbrev pub invariant-loop-range : goal.invariant-loop-range
invariant-loop-range l =
    record {
      sizes : map (λ s. s.size) l.sets.items ≡ sizes_of (take l.range-index l.ranges);
      empty : (i : ℕ) → words_seen l.sets.items i ≡ [];
    }
