-- A log of words, and what it says in the middle of undecided tests.
use Rattle.std.specs.Prelude.{◌≡◌, ℕ, ◌+◌, ◌≤◌, false, if◌then◌else◌, List, [], ◌∷◌, length, map, take, drop, Option, Some, None}
use Rattle.std.specs.Option.{unwrap_or}
use Rattle.std.specs.List.{All}
use Rattle.memory_rebuild.specs.Words.{count}
use Rattle.write_log.specs.Rooms.{AreTests}
use Rattle.write_log.specs.declared.entry.Test.{Test}
use Rattle.word_log.specs.declared.entry.OverwrittenWord.{OverwrittenWord}
use Rattle.word_log.specs.declared.memory.StoredMemory.{StoredMemory}
use Rattle.word_log.specs.Entries.{Fits, undo}
use Rattle.word_log.specs.Seen.{SeenWords, sees_memory, sees_word}

-- a log: what was written and can be undone, what was undone and can be made again, the undecided tests around, the innermost
-- first, for how many entries and tests there is room, and how many words each memory has
pub record WordLogState : Type 0 where
  pub done : List OverwrittenWord
  pub undone : List OverwrittenWord
  pub tests : List Test
  pub room : ℕ
  pub depth : ℕ
  pub sizes : List ℕ

-- how many words each memory has
abbrev pub sizes_of : List StoredMemory → List ℕ
sizes_of rs = map (λ r. count r.words.shape) rs

-- the log is of these memories, and its entries fit them
pub record IsWordLogOf (rs : List StoredMemory) (l : WordLogState) : Type 0 where
  pub sizes : l.sizes ≡ sizes_of rs
  pub done : All (Fits rs) l.done
  pub undone : All (Fits rs) l.undone

-- an undecided test that is around: what was held of the memories when it began, and in its second branch what the first one left
pub record Around : Type 0 where
  pub before : List StoredMemory
  pub left : Option (List StoredMemory)

-- the test that began with so many entries
abbrev pub around_of : Test → List OverwrittenWord → List StoredMemory → Around
around_of t undone before = record { before = before; left = if t.second then Some (undo (drop t.undone undone) before) else None }

-- the tests around, by the entries that undo what was done in them, and those that make again what was undone
abbrev pub tests_of : List Test → List OverwrittenWord → List OverwrittenWord → List StoredMemory → List Around
tests_of [] done undone now = []
tests_of (t ∷ ts) done undone now =
    around_of t undone (undo (drop t.done done) now) ∷ tests_of ts (take t.done done) (take t.undone undone) (undo (drop t.done done) now)

-- the undecided tests around a log, where the memories hold this now
abbrev pub around : WordLogState → List StoredMemory → List Around
around l now = tests_of l.tests l.done l.undone now

-- the innermost test
abbrev pub innermost : List Around → Around
innermost [] = record { before = []; left = None }
innermost (a ∷ rest) = a

-- what its first branch left
abbrev pub left_of : List Around → List StoredMemory
left_of tests = unwrap_or (innermost tests).left []

-- there is room for so many entries in each list, and no more are in both together, and for so many tests; nothing is seen
pub record HasRoom (done undone : List OverwrittenWord) (tests : List Test) (room depth : ℕ) (most_done most_undone most_tests : ℕ) (seen : SeenWords) : Type 0 where
  pub done_room : room ≤ most_done
  pub undone_room : room ≤ most_undone
  pub test_room : depth ≤ most_tests
  pub used : length done + length undone ≤ room
  pub around : AreTests tests (length done) (length undone)
  pub no_word : (k : ℕ × ℕ) → sees_word seen k ≡ false
  pub no_memory : (i : ℕ) → sees_memory seen i ≡ false
