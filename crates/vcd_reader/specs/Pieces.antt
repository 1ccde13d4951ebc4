-- What the calls of the reader leave, in whatever pieces a dump comes.
use Rattle.std.specs.Prelude.{◌≡◌, ◌<◌, ◌≤◌, ℕ, Bool, true, false, List, [], ◌++◌, length, take, None, Some}
use Rattle.vcd_reader.specs.Reading.{Body}
use Rattle.vcd_reader.specs.Progress.{is_at_end, is_going}
use Rattle.vcd_reader.specs.Standing.{HeaderStands}
use Rattle.vcd_reader.specs.BodyStanding.{BodyStands, BodyEnded, StepsOn}
pub use Rattle.vcd_reader.specs.BodyStanding.{IsFaultAt}
use Rattle.vcd_reader.specs.declared.fault.DumpFault.{DumpFault}
use Rattle.vcd_reader.specs.declared.vars.Var.{Var}
use Rattle.vcd_reader.specs.declared.item.Item.{Item}
use Rattle.vcd_reader.specs.declared.item.Fed.{Fed}
use Rattle.vcd_reader.specs.declared.item.Fed.TheVariants as fed_row
use Rattle.vcd_reader.specs.declared.header.Header.{Header}
use Rattle.vcd_reader.specs.declared.body.Body.{Body as BodyRow}

-- this text was read, and the header goes on
pub record HasRead (h : Header) (text : List ℕ) : Type 0 where
  pub sound : h.fault ≡ None
  pub goes_on : is_going h.reader.progress ≡ true
  pub stands : HeaderStands h.reader text

-- this text was read, and the header is done
pub record IsRead (h : Header) (text : List ℕ) : Type 0 where
  pub sound : h.fault ≡ None
  pub done : is_going h.reader.progress ≡ false
  pub stands : HeaderStands h.reader text

-- this fault was answered
abbrev pub HasFailed : Header → DumpFault → Type 0
HasFailed h fault = h.fault ≡ Some fault

-- the header is done, and the input has ended
abbrev pub header_at_end : Header → Bool
header_at_end h = is_at_end h.reader.progress

-- what the next piece came to: it is not empty, and is used up, or the header is done after some of its bytes
abbrev pub Feeds : Fed → Header → List ℕ → List ℕ → Type 0
Feeds fed_row.More h text piece = (0 < length piece) × HasRead h (text ++ piece)
Feeds (fed_row.Done used) h text piece = (used ≤ length piece) × (header_at_end h ≡ true → piece ≡ []) × IsRead h (text ++ take used piece)

-- this text was read, its words mean this body, and the body goes on
pub record BodyHasRead (body : BodyRow) (text : List ℕ) (b : Body) : Type 0 where
  pub sound : body.fault ≡ None
  pub stands : BodyStands body.reader text b

-- this text was the whole input, and it is the dump of this body
pub record BodyHasEnded (body : BodyRow) (text : List ℕ) (b : Body) : Type 0 where
  pub sound : body.fault ≡ None
  pub ended : BodyEnded body.reader text b

abbrev pub BodyHasFailed : BodyRow → DumpFault → Type 0
BodyHasFailed body fault = body.fault ≡ Some fault

-- the body goes on or not
abbrev pub BodyIs : Bool → BodyRow → List ℕ → Body → Type 0
BodyIs false body text b = BodyHasRead body text b
BodyIs true body text b = BodyHasEnded body text b

-- the input has ended
abbrev pub body_at_end : BodyRow → Bool
body_at_end body = body.reader.is_at_end

-- the variables of the text, and a body that has said nothing
pub record Splits (vars : List Var) (body : BodyRow) (text : List ℕ) : Type 0 where
  pub b : Body
  pub vars_are : vars ≡ b.vars
  pub none : b.items ≡ []
  pub stands : BodyIs (body_at_end body) body text b

-- what the next piece came to
pub record StepsTo (says : Item) (used : ℕ) (body : BodyRow) (text piece : List ℕ) (b : Body) : Type 0 where
  pub sound : body.fault ≡ None
  pub steps : StepsOn says used body.reader text piece b
