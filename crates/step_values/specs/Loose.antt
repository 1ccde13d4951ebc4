-- What is forgotten of the cells of a design.
use Rattle.std.specs.Prelude.{◌<◌, ◌&&◌, ℕ, Bool, not, if◌then◌else◌, List, length, slice_index_or, Option, None, is_some}
use Rattle.std.specs.List.{All, list_any}
use Rattle.event_machine.specs.Cell.{Cell}
use Rattle.design_model.specs.Design.{Design}
use Rattle.store_knowledge.specs.body_replay.Store.{Kept}
use Rattle.index_sets.specs.Rows.{row_at}
use Rattle.process_targets.specs.Rows.{IsInside}
use Rattle.process_targets.specs.Targets.{row_has}
use Rattle.process_targets.specs.declared.bits.Bits.{Bits}

-- the same, with nothing known of the cells that pass a test
abbrev pub forgetting : (Cell → Bool) → Kept → Kept
forgetting test k c = if test c then None else k c

-- the dump has the signal: it has a code
abbrev pub has_code : List (Option ℕ) → ℕ → Bool
has_code codes s = is_some (slice_index_or codes s None)

-- those of the cells that the dump does not have
abbrev pub uncoded : List (Option ℕ) → (Cell → Bool) → Cell → Bool
uncoded codes test c = test c && not (has_code codes c.thing)

-- the row of one of these processes has the cell
abbrev pub some_row_has : List (List Bits) → List ℕ → Cell → Bool
some_row_has rows ps c = list_any (λ p. row_has (row_at rows p) c) ps

-- these processes have rows, with bits of signals of the design
abbrev pub HaveRows : Design → List (List Bits) → List ℕ → Type 0
HaveRows d rows ps = All (λ p. (p < length rows) × All (IsInside d) (row_at rows p)) ps
