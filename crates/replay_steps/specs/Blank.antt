-- What is known outside the design: nothing.
use Rattle.std.specs.Prelude.{◌≡◌, ℕ, Bool, true, None}
use Rattle.event_machine.specs.Cell.{Cell}
use Rattle.replay_model.specs.design_model.BodyLaws.{all_cells}
use Rattle.replay_model.specs.design_model.Design.{Design, In, body_at}
use Rattle.replay_model.specs.design_model.Mentions.{blocking_target}
use Rattle.replay_model.specs.body_replay.Store.{Kept}
use Rattle.replay_model.specs.Step.{is_dumped}

-- the cell is one of a signal or memory of the design
abbrev pub IsCellOf : Design → Cell → Type 0
IsCellOf d c = In c (all_cells d c.thing)

-- of other cells nothing is known
abbrev pub IsBlank : Design → Kept → Type 0
IsBlank d k = (c : Cell) → (IsCellOf d c → ⊥) → k c ≡ None

-- the dump has cells of the design alone
abbrev pub HasDumpCells : Design → (ℕ → Bool) → Type 0
HasDumpCells d bound = (c : Cell) → is_dumped d bound c ≡ true → IsCellOf d c

-- a process drives cells of the design alone
abbrev pub DrivesCells : Design → ℕ → Type 0
DrivesCells d p = (c : Cell) → blocking_target d (body_at d p) c ≡ true → IsCellOf d c
