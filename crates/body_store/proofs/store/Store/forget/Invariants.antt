use Rattle.std.proofs.Common.{◌≡◌, ℕ, ◌<◌, ◌≤◌, length}
use Rattle.word_log.specs.memory_rebuild.Words.{unwritten}
use Rattle.body_store.specs.Fitting.{memory_in}
use Rattle.body_store.specs.Veils.{kept_words}
use Rattle.body_store.proofs.store.Store.forget.Given as goal

-- the words of the memories so far are given up
abbrev pub invariant-loop-place : goal.invariant-loop-place
invariant-loop-place l =
    record {
      design : l.self.design ≡ l.fn.self.design;
      signals : l.self.signals ≡ l.initial.self.signals;
      log : l.self.log ≡ l.fn.self.log;
      words_log : l.self.words ≡ l.fn.self.words;
      updates : l.self.updates ≡ l.fn.self.updates;
      veiled : l.self.veils.veiled ≡ l.fn.self.veils.veiled;
      count : length l.self.memories.items ≡ length l.fn.self.memories.items;
      written : (i : ℕ) → (memory_in l.self.memories.items i).written ≡ (memory_in l.fn.self.memories.items i).written;
      words : (i : ℕ) → i < l.place → kept_words l.self.veils l.self.memories.items i ≡ unwritten (kept_words l.fn.self.veils l.fn.self.memories.items i).shape;
      later : (i : ℕ) → l.place ≤ i → kept_words l.self.veils l.self.memories.items i ≡ kept_words l.fn.self.veils l.fn.self.memories.items i;
    }
