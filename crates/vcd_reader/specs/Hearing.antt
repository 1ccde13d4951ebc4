-- What of a word is heard.
use Rattle.std.specs.Prelude.{◌≡◌, ℕ, Bool, true, false, ◌&&◌, if◌then◌else◌, Option, None, Some}
use Rattle.vcd_reader.specs.Wanted.{is_wanted}
use Rattle.vcd_reader.specs.declared.entry.Entry.{Entry}
use Rattle.vcd_reader.specs.declared.entry.Entry.TheVariants as entry
use Rattle.vcd_reader.specs.declared.filter.Filter.{Filter}
use Rattle.vcd_reader.specs.declared.filter.Filter.TheVariants as filter
use Rattle.vcd_reader.specs.declared.item.Saying.{Saying}
use Rattle.vcd_reader.specs.declared.item.Saying.TheVariants as saying
use Rattle.vcd_reader.specs.declared.reading.Change.{Change}
use Rattle.vcd_reader.specs.declared.reading.Reading.{Reading}
use Rattle.vcd_reader.specs.declared.says.Says.{Says}
use Rattle.vcd_reader.specs.declared.says.Says.TheVariants as says

-- whether the changes of a code are heard
abbrev pub hears : Filter → ℕ → Bool
hears filter.All code = true
hears (filter.Only wanted) code = is_wanted wanted.now code

-- of what a word says, what is heard
abbrev pub heard : Filter → Option Entry → Option Entry
heard f None = None
heard f (Some (entry.Time time)) = Some (entry.Time time)
heard f (Some (entry.Value code value)) = if hears f code then Some (entry.Value code value) else None
heard f (Some entry.Off) = Some entry.Off
heard f (Some (entry.On time)) = Some (entry.On time)

-- what a word said, of which this is kept
abbrev pub said_by : Says → Reading → Option Entry
said_by says.Nothing kept = None
said_by (says.Time time) kept = Some (entry.Time time)
said_by says.Change kept = Some (entry.Value kept.change.code kept.change.value)
said_by says.Off kept = Some entry.Off
said_by (says.On time) kept = Some (entry.On time)

-- the change that is kept, or nothing
abbrev pub change_by : Bool → Change → Option Entry
change_by is_heard change = if is_heard then Some (entry.Value change.code change.value) else None

-- it is dropped where the dump is off
abbrev pub change_says : Bool → Bool → Says
change_says is_on is_heard = if is_on && is_heard then says.Change else says.Nothing

-- what is said at the end of the input, where the last word says this
abbrev pub last_saying : Says → ℕ → Saying
last_saying says.Nothing code = saying.End
last_saying (says.Time time) code = saying.Time time
last_saying says.Change code = saying.Change code
last_saying says.Off code = saying.Off
last_saying (says.On time) code = saying.On time

-- an entry that is not heard
abbrev pub IsPassed : Filter → Entry → Type 0
IsPassed f (entry.Time time) = ⊥
IsPassed f (entry.Value code value) = hears f code ≡ false
IsPassed f entry.Off = ⊥
IsPassed f (entry.On time) = ⊥
