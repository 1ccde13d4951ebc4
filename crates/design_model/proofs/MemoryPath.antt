-- The path of a memory.
use Rattle.std.proofs.Common.{◌≡◌, ℕ, ◌-◌, ◌<◌, Bool, true, false, length, refl, ap, arith, Some, if◌then◌else◌}
use Rattle.std.proofs.lemmas.Bool.{ltb-true, le-leb}
use Rattle.std.proofs.lemmas.Option.{get_or_from_slice_get}
use Rattle.std.specs.List.{slice_get}
use Rattle.std.specs.Prelude.{nat_lt, nat_le}
use Rattle.std.specs.Prelude.{slice_index_or}
use Rattle.design_model.specs.Design.{Design, Memory, no_memory, path_in, path_of, signal_at}

pub memory_path : (d : Design) (x : ℕ) (m : Memory) → (x < length d.signals → ⊥) → slice_get d.memories (x - length d.signals) ≡ Some m → path_of d x ≡ path_in d m.instance m.name
memory_path d x m past there = other (nat_lt x (length d.signals)) (nat_le (length d.signals) x) refl (le-leb (length d.signals) x (omega (arith, past)))
  where
    found : slice_index_or d.memories (x - length d.signals) no_memory ≡ m
    found = get_or_from_slice_get d.memories (x - length d.signals) m no_memory there

    other : (below above : Bool) → nat_lt x (length d.signals) ≡ below → above ≡ true → (if below then path_in d (signal_at d x).instance (signal_at d x).name else path_in d (if above then slice_index_or d.memories (x - length d.signals) no_memory else no_memory).instance (if above then slice_index_or d.memories (x - length d.signals) no_memory else no_memory).name) ≡ path_in d m.instance m.name
    other true above is at_least = absurd (past (ltb-true x (length d.signals) is))
    other false true is at_least = ap (λ (y : Memory). path_in d y.instance y.name) found
    other false false is at_least = absurd (cc)
