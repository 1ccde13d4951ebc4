-- The room of a log.
use Rattle.std.specs.Prelude.{◌≡◌, ◌+◌, ◌≤◌, ℕ, false, List, [], ◌∷◌, length}
use Rattle.write_log.specs.declared.entry.Overwritten.{Overwritten}
use Rattle.write_log.specs.declared.entry.Test.{Test}

-- the numbers of entries that the tests began with, the innermost first, where there are so many entries now
abbrev pub AreTests : List Test → ℕ → ℕ → Type 0
AreTests [] done undone = (done ≡ 0) × (undone ≡ 0)
AreTests (t ∷ ts) done undone = (t.done ≤ done) × (t.undone ≤ undone) × (t.second ≡ false → undone ≡ t.undone) × AreTests ts t.done t.undone

-- there is room for so many entries in each list, and no more are in both together, and for so many tests; no signal is seen
pub record HasRoom (done undone : List Overwritten) (tests : List Test) (room depth : ℕ) (most_done most_undone most_tests : ℕ) (seen : List ℕ) : Type 0 where
  pub done_room : room ≤ most_done
  pub undone_room : room ≤ most_undone
  pub test_room : depth ≤ most_tests
  pub used : length done + length undone ≤ room
  pub around : AreTests tests (length done) (length undone)
  pub unseen : seen ≡ []
