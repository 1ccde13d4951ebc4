-- What the parts of the targets of a process of a lawful design may write.
use Rattle.std.specs.Prelude.{◌≡◌, ◌<◌, ◌≤◌, ◌+◌, ◌&&◌, ℕ, true, length, nat_le, nat_lt, pos}
use Rattle.std.specs.List.{All, list_any}
use Rattle.design_model.specs.event_machine.Cell.{Cell}
use Rattle.four_state.specs.Vector.{fill}
use Rattle.four_state.specs.declared.bit.Bit.TheVariants.{X}
use Rattle.design_model.specs.Assignment.{bit_writes}
use Rattle.design_model.specs.Design.{Design, IsClocked, body_at, cell, process_at}
use Rattle.design_model.specs.Mentions.{blocking_target, body_assigns, body_blocks, has_cell}
use Rattle.design_targets.specs.Leaves.{leaves}
use Rattle.process_targets.specs.Targets.{IsRightLeaf, leaf_has}

-- of a signal the parts may write the cells that the process may write by blocking assignments
abbrev pub LeavesLaw : Design → Type 0
LeavesLaw d = (p : ℕ) (c : Cell) → c.thing < length d.signals → list_any (λ l. leaf_has d l c) (leaves true (body_at d p)) ≡ blocking_target d (body_at d p) c

-- each part is right
abbrev pub RightLaw : Design → Type 0
RightLaw d = (p : ℕ) → All (IsRightLeaf d) (leaves true (body_at d p))

-- the writes of w bits from place k up, of a signal of n bits that has them all, are those of the places from k to before k + w
abbrev pub PartLaw : Type 0
PartLaw = (s n w k i : ℕ) → k + w ≤ n → has_cell (bit_writes s n (pos k) (fill w X)) (cell s i) ≡ (nat_le k i && nat_lt i (k + w))

-- what process p assigns it assigns by blocking assignments, and what it so writes is of signals
pub record WritesSignals (d : Design) (p : ℕ) : Type 0 where
  pub named : (x : ℕ) → body_blocks x (body_at d p) ≡ body_assigns x (body_at d p)
  pub signals : (c : Cell) → blocking_target d (body_at d p) c ≡ true → c.thing < length d.signals

-- an Assign or Comb does so
abbrev pub SettledLaw : Design → Type 0
SettledLaw d = (p : ℕ) → (IsClocked (process_at d p) → ⊥) → WritesSignals d p
