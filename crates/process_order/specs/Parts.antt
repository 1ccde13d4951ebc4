-- The parts of a list of processes.
use Rattle.std.specs.Prelude.{◌≡◌, ◌&&◌, ℕ, Bool, false, List, length, map, nat_lt, not, slice_index_or}
use Rattle.std.specs.List.{Contains}
use Rattle.design_model.specs.Design.{no_process}
use Rattle.design_model.specs.View.{process_view}
use Rattle.design_model.specs.declared.tree.Process.{Process}
use Rattle.process_order.specs.Names.{is_clocked}

-- the process with this number is a Clocked
abbrev pub waits_at : List Process → ℕ → Bool
waits_at ps p = is_clocked (slice_index_or (map process_view ps) p no_process)

-- the number is that of an Assign or Comb
abbrev pub is_run : List Process → ℕ → Bool
is_run ps p = nat_lt p (length ps) && not (waits_at ps p)

-- the process with this number is an Assign or Comb that is not in the order
abbrev pub IsLeft : List Process → List ℕ → ℕ → Type 0
IsLeft ps order p = (waits_at ps p ≡ false) × (Contains order p → ⊥)
