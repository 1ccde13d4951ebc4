-- The kinds of names.
use Rattle.std.proofs.Common.{◌≡◌, Bool, true, false, Some, None, refl}
use Rattle.std.specs.Prelude.{if◌then◌else◌}
use Rattle.design_model.specs.declared.design.Range.{Range}
use Rattle.flat_design.specs.Declarations as spec
use Rattle.elab_declarations.specs.DeclarationView.{sort_view}
use Rattle.elab_declarations.specs.ItemKind.{kind_sort, memory_of, with_fault}
use Rattle.elab_declarations.specs.declared.declaration.Sort.{Sort}
use Rattle.elab_declarations.specs.declared.declaration.Sort.TheVariants.{Net, Variable, Memory, Integer, Parameter, Instance, Faulty, FaultyMemory}

-- the sort where a range has a fault
fault_view : (s : Sort) → sort_view (with_fault s) ≡ spec.faulty_sort (sort_view s)
fault_view Net = refl
fault_view Variable = refl
fault_view (Memory r) = refl
fault_view Integer = refl
fault_view Parameter = refl
fault_view Instance = refl
fault_view Faulty = refl
fault_view FaultyMemory = refl

-- the sort, if the range has no fault
pub kind_sort_view : (sound : Bool) (s : Sort) → sort_view (kind_sort sound s) ≡ spec.sort_if sound (sort_view s)
kind_sort_view true s = refl
kind_sort_view false s = fault_view s

-- a memory, if its words have no fault
pub memory_if : (b : Bool) (r : Range) → memory_of (if b then Some r else None) ≡ spec.sort_if b (spec.words_from r)
memory_if true r = refl
memory_if false r = refl
