use Rattle.std.proofs.Common.{◌≡◌, ℕ, false, if◌then◌else◌, length, take}
use Rattle.write_log.specs.Entries.{has}
use Rattle.body_store.specs.Fitting.{memory_in}
use Rattle.body_store.specs.Veils.{under_at}
use Rattle.body_store.proofs.store.Store.plain.Given as goal

-- the words of the memories so far lie where bodies read them again
abbrev pub invariant-loop-listed : goal.invariant-loop-listed
invariant-loop-listed l =
    record {
      design : l.self.design ≡ l.fn.self.design;
      signals : l.self.signals ≡ l.fn.self.signals;
      log : l.self.log ≡ l.fn.self.log;
      words_log : l.self.words ≡ l.fn.self.words;
      updates : l.self.updates ≡ l.fn.self.updates;
      veiled : l.self.veils.veiled ≡ l.fn.self.veils.veiled;
      count : length l.self.memories.items ≡ length l.fn.self.memories.items;
      written : (i : ℕ) → (memory_in l.self.memories.items i).written ≡ (memory_in l.fn.self.memories.items i).written;
      read : (i : ℕ) → (memory_in l.self.memories.items i).words ≡ (if has (take l.listed l.fn.self.veils.veiled.items) i then under_at l.fn.self.veils i else (memory_in l.fn.self.memories.items i).words);
      under : (i : ℕ) → has (take l.listed l.fn.self.veils.veiled.items) i ≡ false → under_at l.self.veils i ≡ under_at l.fn.self.veils i;
    }
