-- The signals that each process has a step checked for.
use Rattle.std.specs.Prelude.{◌≡◌, ◌&&◌, ◌==◌, ℕ, Bool, not, List, length, map, Option}
use Rattle.std.specs.List.{filter}
use Rattle.index_sets.specs.Rows.{row_at}
use Rattle.process_targets.specs.declared.bits.Bits.{Bits}
use Rattle.step_changes.specs.step_values.Loose.{has_code}

-- the bits are some, of a signal with a code
abbrev pub is_checked : List (Option ℕ) → Bits → Bool
is_checked codes b = has_code codes b.signal && not (b.mask == 0)

-- the signals with a code of which a row has some bit
abbrev pub checked : List (Option ℕ) → List Bits → List ℕ
checked codes row = map (λ b. b.signal) (filter (is_checked codes) row)

-- those of the row of each process
pub record AreCheckRows (codes : List (Option ℕ)) (targets : List (List Bits)) (rows : List (List ℕ)) : Type 0 where
  pub count : length rows ≡ length targets
  pub each : (p : ℕ) → row_at rows p ≡ checked codes (row_at targets p)
