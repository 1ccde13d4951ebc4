-- The undecided tests around the two logs of a store, that of signals and that of words.
use Rattle.std.specs.Prelude.{◌≡◌, ℕ, ◌+◌, ◌-◌, Bool, List, [], ◌∷◌, drop, length, map, Option, Some, None}
use Rattle.body_calls.specs.term_replay.Stands.{Scene}
use Rattle.write_log.specs.Logs as l
use Rattle.write_log.specs.Logs.{LogState, Readings}
use Rattle.write_log.specs.declared.entry.Test.{Test}
use Rattle.word_log.specs.Logs as w
use Rattle.word_log.specs.Logs.{WordLogState}
use Rattle.word_log.specs.declared.memory.StoredMemory.{StoredMemory}
use Rattle.body_calls.specs.Ways.{Around, in_first, in_second}

-- what bodies read of memories and of signals
abbrev pub Reader : Type 0
Reader = List StoredMemory → Readings → Scene

-- a test in its first branch, or in its second one with what the first one left of the signals and of the memories
abbrev pub around_by : Reader → ℕ → Readings → Option Readings → List StoredMemory → Option (List StoredMemory) → Around
around_by scene test before None rs left = in_first test (scene rs before)
around_by scene test before (Some at) rs None = in_second test (scene rs at)
around_by scene test before (Some at) rs (Some left) = in_second test (scene left at)

-- the tests of the log of signals, with those of the log of words
abbrev pub tests_by : Reader → List l.Around → List w.Around → List Around
tests_by scene [] us = []
tests_by scene (t ∷ ts) us = around_by scene t.test t.before t.left (w.innermost us).before (w.innermost us).left ∷ tests_by scene ts (drop 1 us)

-- which of the tests run their second branches
abbrev pub seconds : List Test → List Bool
seconds ts = map (λ t. t.second) ts

-- the room of a log for entries and for tests
abbrev pub log_room : LogState → ℕ
log_room l = l.room - (length l.done + length l.undone + length l.tests)

abbrev pub word_room : WordLogState → ℕ
word_room l = l.room - (length l.done + length l.undone + length l.tests)

-- both logs have the same room for entries and for tests, and run the same branches
pub record SameTests (l : LogState) (q : WordLogState) : Type 0 where
  pub word_depth : q.depth ≡ q.room
  pub room : q.room ≡ l.room
  pub branches : seconds q.tests ≡ seconds l.tests
