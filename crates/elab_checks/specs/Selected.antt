-- What a select selects from, and the indexes that are inside.
use Rattle.std.specs.Prelude.{ℕ, ◌+◌, ◌-◌, nat_le, min, max, Bool, true, false, not, ◌&&◌, if◌then◌else◌, List, []}
use Rattle.design_model.specs.declared.design.Range.{Range}
use Rattle.four_state.specs.declared.index.Index.{Index}
use Rattle.four_state.specs.declared.index.Index.TheVariants.{Strange, Below, At}
use Rattle.flat_design.specs.Expressions as spec
use Rattle.flat_design.specs.Fault.{Fault, fault_at, fault_if}
use Rattle.flat_design.specs.declared.fault.ElabKind.TheVariants.{WrongUse}
use Rattle.elab_scope.specs.View.{name_view}
use Rattle.elab_checks.specs.declared.selected.Selected.{Selected}
use Rattle.elab_checks.specs.declared.selected.Selected.TheVariants.{Bits, NoBits, Unknown}

-- its meaning
abbrev pub selected_view : Selected → spec.Selected
selected_view (Bits r x) = spec.Selected.bits_in r (name_view x)
selected_view (NoBits x) = spec.Selected.no_bits (name_view x)
selected_view Unknown = spec.Selected.unknown

-- a number between the bounds of a range
abbrev pub contains : Range → ℕ → Bool
contains r n = nat_le (min r.high r.low) n && nat_le n (max r.high r.low)

-- an index of the range; one with an x or z is not checked
abbrev pub has_index : Range → Index → Bool
has_index r Strange = true
has_index r Below = false
has_index r (At n) = contains r n

-- all w indexes from this one on, up or down, are of the range
abbrev pub has_slide : Range → Bool → ℕ → Index → Bool
has_slide r up w Strange = true
has_slide r up w Below = false
has_slide r up w (At n) = contains r n && (if up then nat_le (n + (w - 1)) (max r.high r.low) else nat_le (min r.high r.low + (w - 1)) n)

-- both bounds of a part are of the range
abbrev pub has_part : Range → ℕ → ℕ → Bool
has_part r h l = contains r h && contains r l

-- an index that is not of the range
abbrev pub bit_faults : spec.Selected → Index → List Fault
bit_faults (spec.Selected.bits_in r x) i = fault_if (not (has_index r i)) (fault_at WrongUse x)
bit_faults _ i = []

-- some of w indexes that are not of the range
abbrev pub slide_faults : spec.Selected → Bool → ℕ → Index → List Fault
slide_faults (spec.Selected.bits_in r x) up w i = fault_if (not (has_slide r up w i)) (fault_at WrongUse x)
slide_faults _ up w i = []
