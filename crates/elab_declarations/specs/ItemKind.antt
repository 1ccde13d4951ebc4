-- What the names of one item have in common.
use Rattle.verilog_tree.specs.declared.item.Named.{Named}
use Rattle.std.specs.Prelude.{Bool, if◌then◌else◌, Option, Some, None}
use Rattle.design_model.specs.declared.design.Range.{Range}
use Rattle.flat_design.specs.Declarations as spec
use Rattle.elab_declarations.specs.declared.declaration.Sort.{Sort}
use Rattle.elab_declarations.specs.declared.declaration.Sort.TheVariants.{Memory, Faulty, FaultyMemory}
use Rattle.elab_declarations.specs.DeclarationView.{sort_view}
use Rattle.elab_declarations.specs.declared.items.Kind.{Kind}

-- a name of this kind
abbrev pub of_kind : Kind → Named → spec.Declaration
of_kind k x = spec.declaration k.item (sort_view k.sort) k.range k.signed k.direction x

-- the sort where a range has a fault
abbrev pub with_fault : Sort → Sort
with_fault (Memory r) = FaultyMemory
with_fault FaultyMemory = FaultyMemory
with_fault _ = Faulty

-- the sort, if the range has no fault
abbrev pub kind_sort : Bool → Sort → Sort
kind_sort sound sort = if sound then sort else with_fault sort

-- a memory, if its words have no fault
abbrev pub memory_of : Option Range → spec.Sort
memory_of None = spec.faulty_memory
memory_of (Some r) = spec.words_from r
