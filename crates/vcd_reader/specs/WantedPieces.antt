-- What the calls of the reader leave where only some codes are wanted.
use Rattle.std.specs.Prelude.{ℕ, Bool, List}
use Rattle.std.specs.List.{All}
use Rattle.four_state.specs.Vector.{Vector}
use Rattle.vcd_reader.specs.Reading.{Body}
use Rattle.vcd_reader.specs.BodyStanding.{IsBehindAt}
use Rattle.vcd_reader.specs.Pieces.{StepsTo}
use Rattle.vcd_reader.specs.Wanted.{IsUnwanted, item_by, saying_more}
use Rattle.vcd_reader.specs.declared.body.Body.{Body as BodyRow}
use Rattle.vcd_reader.specs.declared.entry.Entry.{Entry}
use Rattle.vcd_reader.specs.declared.fault.DumpFault.{DumpFault}
use Rattle.vcd_reader.specs.declared.item.Saying.{Saying}

-- the value of the last change that was said
abbrev pub kept_value : BodyRow → Vector
kept_value body = body.reader.reading.change.value

-- the next piece has the first fault of the text, after changes of codes that are not wanted and nothing else
pub record FailsTo (wanted : List Bool) (text piece : List ℕ) (b : Body) (f : DumpFault) : Type 0 where
  pub passed : List Entry
  pub unwanted : All (IsUnwanted wanted) passed
  pub is : IsBehindAt text piece (saying_more b passed) f

-- what the next piece came to: what a step says after changes of codes that are not wanted
pub record HearsTo (wanted : List Bool) (says : Saying) (used : ℕ) (body : BodyRow) (text piece : List ℕ) (b : Body) : Type 0 where
  pub passed : List Entry
  pub unwanted : All (IsUnwanted wanted) passed
  pub steps : StepsTo (item_by says (kept_value body)) used body text piece (saying_more b passed)
