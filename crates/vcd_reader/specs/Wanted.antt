-- Which changes are said where only some codes are wanted.
use Rattle.std.specs.Prelude.{◌≡◌, ℕ, Bool, false, List, ◌++◌, slice_index_or}
use Rattle.four_state.specs.Vector.{Vector}
use Rattle.vcd_reader.specs.Reading.{Body}
use Rattle.vcd_reader.specs.declared.entry.Entry.{Entry}
use Rattle.vcd_reader.specs.declared.entry.Entry.TheVariants as entry
use Rattle.vcd_reader.specs.declared.item.Item.{Item}
use Rattle.vcd_reader.specs.declared.item.Item.TheVariants as item
use Rattle.vcd_reader.specs.declared.item.Saying.{Saying}
use Rattle.vcd_reader.specs.declared.item.Saying.TheVariants as saying

-- whether the changes of the code with this number are wanted
abbrev pub is_wanted : List Bool → ℕ → Bool
is_wanted wanted code = slice_index_or wanted code false

-- a change of a code that is not wanted
abbrev pub IsUnwanted : List Bool → Entry → Type 0
IsUnwanted wanted (entry.Time time) = ⊥
IsUnwanted wanted (entry.Value code value) = is_wanted wanted code ≡ false
IsUnwanted wanted entry.Off = ⊥
IsUnwanted wanted (entry.On time) = ⊥

-- the body says so much more
abbrev pub saying_more : Body → List Entry → Body
saying_more b more = record b { items = b.items ++ more }

-- what a step says, where a change is one to this value
abbrev pub item_by : Saying → Vector → Item
item_by (saying.Time time) value = item.Time time
item_by (saying.Change code) value = item.Value code value
item_by saying.Off value = item.Off
item_by (saying.On time) value = item.On time
item_by saying.More value = item.More
item_by saying.End value = item.End
