use Rattle.std.proofs.Common.{◌≡◌, take}
use Rattle.word_log.specs.Entries.{Joined, Seen, flags, words}
use Rattle.word_log.specs.Memories.{SameShapes}
use Rattle.word_log.specs.Seen.{seen_sizes, sees_memory, sees_word}
use Rattle.word_log.proofs.joins.join_all.Given as goal

-- what the first entries leave
abbrev pub invariant-loop-entry : goal.invariant-loop-entry
invariant-loop-entry l =
    record {
      of_words : Joined words (take l.entry-index l.entries) (sees_word l.fn.seen) l.fn.memories l.memories;
      of_flags : Joined flags (take l.entry-index l.entries) (sees_memory l.fn.seen) l.fn.memories l.memories;
      seen_words : Seen words (take l.entry-index l.entries) (sees_word l.fn.seen) (sees_word l.seen);
      seen_memories : Seen flags (take l.entry-index l.entries) (sees_memory l.fn.seen) (sees_memory l.seen);
      sizes : seen_sizes l.seen ≡ seen_sizes l.fn.seen;
      shapes : SameShapes l.fn.memories l.memories;
    }
