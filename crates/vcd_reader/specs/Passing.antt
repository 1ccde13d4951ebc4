-- What holds after changes that are not heard.
use Rattle.std.specs.Prelude.{List}
use Rattle.std.specs.List.{All}
use Rattle.vcd_reader.specs.Reading.{Body}
use Rattle.vcd_reader.specs.Wanted.{saying_more}
use Rattle.vcd_reader.specs.Hearing.{IsPassed}
use Rattle.vcd_reader.specs.declared.entry.Entry.{Entry}
use Rattle.vcd_reader.specs.declared.filter.Filter.{Filter}

-- it holds of the body with some more changes, which are not heard
pub record Passing (f : Filter) (b : Body) (P : Body → Type 0) : Type 0 where
  pub passed : List Entry
  pub unheard : All (IsPassed f) passed
  pub then : P (saying_more b passed)
