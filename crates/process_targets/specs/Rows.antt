-- The rows of the bits of signals that the processes of a design may write.
use Rattle.std.specs.Prelude.{◌≡◌, ◌<◌, ◌^◌, ◌==◌, ◌&&◌, ◌||◌, ℕ, Bool, List, length, nat_lt}
use Rattle.std.specs.List.{All, list_any}
use Rattle.design_model.specs.event_machine.Cell.{Cell}
use Rattle.design_model.specs.Design.{Design, body_at, signal_at}
use Rattle.design_model.specs.Mentions.{blocking_target, body_blocks}
use Rattle.design_targets.specs.Leaves.{Leaf}
use Rattle.index_sets.specs.Rows.{row_at}
use Rattle.process_targets.specs.Targets.{IsOnce, leaf_has, names, row_has}
use Rattle.process_targets.specs.declared.bits.Bits.{Bits}

-- the bits are of a signal of the design, and inside of it
abbrev pub IsInside : Design → Bits → Type 0
IsInside d b = (b.signal < length d.signals) × (b.mask < 2 ^ (signal_at d b.signal).width)

-- the row has the bits of signals that pass a test, each signal once
pub record AreBits (d : Design) (test : Cell → Bool) (row : List Bits) : Type 0 where
  pub once : IsOnce row
  pub inside : All (IsInside d) row
  pub has : (c : Cell) → c.thing < length d.signals → row_has row c ≡ test c

-- the row has what process p may write by blocking assignments, and names the signals that they name
pub record AreTargets (d : Design) (p : ℕ) (row : List Bits) : Type 0 where
  pub bits : AreBits d (blocking_target d (body_at d p)) row
  pub named : (s : ℕ) → s < length d.signals → names row s ≡ body_blocks s (body_at d p)

-- the row of each process
pub record AreTargetRows (d : Design) (rows : List (List Bits)) : Type 0 where
  pub count : length rows ≡ length d.processes
  pub each : (p : ℕ) → AreTargets d p (row_at rows p)

-- the row has the bits of these parts of targets, and names their signals
pub record HasLeaves (d : Design) (ls : List Leaf) (row : List Bits) : Type 0 where
  pub has : (c : Cell) → c.thing < length d.signals → row_has row c ≡ list_any (λ l. leaf_has d l c) ls
  pub named : (s : ℕ) → names row s ≡ (nat_lt s (length d.signals) && list_any (λ l. l.0 == s) ls)

-- the row has gained the bits of one part, if it is of a signal
pub record AddsLeaf (d : Design) (l : Leaf) (before after : List Bits) : Type 0 where
  pub has : (c : Cell) → c.thing < length d.signals → row_has after c ≡ (row_has before c || leaf_has d l c)
  pub named : (s : ℕ) → names after s ≡ (names before s || (nat_lt s (length d.signals) && l.0 == s))
