use Rattle.std.proofs.Common.{◌≡◌, ℕ, [], map, take}
use Rattle.word_log.specs.Logs.{sizes_of}
use Rattle.word_log.specs.Seen.{words_seen}
use Rattle.word_log.proofs.seen.sets_of.Given as goal

-- a set for each memory so far
abbrev pub invariant-loop-memory : goal.invariant-loop-memory
invariant-loop-memory l =
    record {
      sizes : map (λ s. s.size) l.sets.items ≡ sizes_of (take l.memory-index l.memories);
      empty : (i : ℕ) → words_seen l.sets.items i ≡ [];
    }
