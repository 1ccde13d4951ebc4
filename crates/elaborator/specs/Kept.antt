-- What every walk keeps to.
use Rattle.std.specs.Prelude.{◌≡◌, ◌≤◌, true, false, None}
use Rattle.elaborator.specs.declared.walk.Walk.{Walk}

-- a limit that is passed is reported, and until then no more memories were counted than words
pub record IsKept (w : Walk) : Type 0 where
  pub told : w.tally.ended ≡ true → w.tally.first ≡ None → ⊥
  pub few : w.tally.ended ≡ false → w.memories ≤ w.tally.counts.words
