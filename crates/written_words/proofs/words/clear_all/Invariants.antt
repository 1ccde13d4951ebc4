use Rattle.std.proofs.Common.{◌≡◌, ℕ, [], if◌then◌else◌, length, map, take}
use Rattle.write_log.specs.Entries.{has}
use Rattle.word_log.specs.Seen.{words_seen}
use Rattle.written_words.proofs.words.clear_all.Given as goal

-- the sets of the members so far are empty
abbrev pub invariant-loop-place : goal.invariant-loop-place
invariant-loop-place l =
    record {
      count : length l.sets.items ≡ length l.fn.sets.items;
      sizes : map (λ s. s.size) l.sets.items ≡ map (λ s. s.size) l.fn.sets.items;
      cleared : (i : ℕ) → words_seen l.sets.items i ≡ (if has (take l.place l.numbers.items) i then [] else words_seen l.fn.sets.items i);
    }
