-- The state of the reader of a body after a text.
use Rattle.std.specs.Prelude.{◌≡◌, ◌<◌, ◌≤◌, ℕ, ◌+◌, true, false, List, [], ◌∷◌, ◌++◌, length, take, Option, None, Some}
use Rattle.std.specs.Option.{option_to_list}
use Rattle.vcd_reader.specs.Reading.{Body, body}
use Rattle.vcd_reader.specs.Body.{has_begun}
use Rattle.vcd_reader.specs.Text.{Stands, HasFault, EndsWithFault, EndsAs}
use Rattle.vcd_reader.specs.declared.fault.DumpFault.{DumpFault}
use Rattle.vcd_reader.specs.Holding.{IsReading, IsWord}
use Rattle.vcd_reader.specs.declared.entry.Entry.{Entry}
use Rattle.vcd_reader.specs.declared.entry.Entry.TheVariants as entry
use Rattle.vcd_reader.specs.declared.item.Item.{Item}
use Rattle.vcd_reader.specs.declared.item.Item.TheVariants as item
use Rattle.vcd_reader.specs.declared.body_reader.BodyReader.{BodyReader}

-- the text was read, its words mean this body, and what is kept is what they mean
pub record BodyStands (reader : BodyReader) (text : List ℕ) (b : Body) : Type 0 where
  pub word : List ℕ
  pub stands : Stands text (body b) word
  pub at : reader.at ≡ length text
  pub codes : reader.codes ≡ b.codes
  pub reading : IsReading reader.reading b.reading
  pub kept : IsWord reader.word (has_begun b.reading.begun) word
  pub place : 0 < length word → reader.word_at + length word ≡ length text
  pub goes_on : reader.is_at_end ≡ false

-- the text was the whole input, and it is a dump
pub record BodyEnded (reader : BodyReader) (text : List ℕ) (b : Body) : Type 0 where
  pub at_end : reader.is_at_end ≡ true
  pub ends : EndsAs text b

-- the body has this entry more, or none, and the variables that it had
pub record HasSaid (says : Option Entry) (b next : Body) : Type 0 where
  pub items : next.items ≡ b.items ++ option_to_list says
  pub vars : next.vars ≡ b.vars

-- the reader is after this text, which says this entry more than the body
pub record SaysNext (says : Option Entry) (reader : BodyReader) (text : List ℕ) (b : Body) : Type 0 where
  pub next : Body
  pub stands : BodyStands reader text next
  pub said : HasSaid says b next

-- the text is a dump, which says so much more than the body
pub record EndsSaying (says : Option Entry) (text : List ℕ) (b : Body) : Type 0 where
  pub next : Body
  pub ends : EndsAs text next
  pub said : HasSaid says b next

-- this number of bytes of the next piece was used for an entry
pub record HasEntry (says : Entry) (used : ℕ) (reader : BodyReader) (text piece : List ℕ) (b : Body) : Type 0 where
  pub at_least : 1 ≤ used
  pub at_most : used ≤ length piece
  pub next : SaysNext (Some says) reader (text ++ take used piece) b

-- the next piece was used up and says nothing more
pub record IsUsedUp (used : ℕ) (reader : BodyReader) (text piece : List ℕ) (b : Body) : Type 0 where
  pub all : used ≡ length piece
  pub next : SaysNext None reader (text ++ piece) b

-- what the next piece, which is not empty, came to
abbrev pub HasStepped : Item → ℕ → BodyReader → List ℕ → List ℕ → Body → Type 0
HasStepped (item.Time time) used reader text piece b = HasEntry (entry.Time time) used reader text piece b
HasStepped (item.Value code value) used reader text piece b = HasEntry (entry.Value code value) used reader text piece b
HasStepped item.Off used reader text piece b = HasEntry entry.Off used reader text piece b
HasStepped (item.On time) used reader text piece b = HasEntry (entry.On time) used reader text piece b
HasStepped item.More used reader text piece b = IsUsedUp used reader text piece b
HasStepped item.End used reader text piece b = ⊥

-- what the text so far says is what this body has said
pub record SaysNow (text : List ℕ) (b : Body) : Type 0 where
  pub last : Body
  pub word : List ℕ
  pub stands : Stands text (body last) word
  pub items : last.items ≡ b.items
  pub vars : last.vars ≡ b.vars

-- the first fault of the text is directly after a place up to which the text says what this body has said, and no more
pub record IsBehind (text : List ℕ) (b : Body) (f : DumpFault) : Type 0 where
  pub before : List ℕ
  pub byte : ℕ
  pub rest : List ℕ
  pub now : SaysNow before b
  pub split : text ≡ before ++ byte ∷ rest
  pub fault : HasFault (before ++ byte ∷ []) f

-- the same of a text and the next piece, of which an empty one is the end
abbrev pub IsBehindAt : List ℕ → List ℕ → Body → DumpFault → Type 0
IsBehindAt text [] b f = SaysNow text b × EndsWithFault text f
IsBehindAt text (byte ∷ piece) b f = IsBehind (text ++ byte ∷ piece) b f

-- the first fault of a text and the next piece, of which an empty one is the end
abbrev pub IsFaultAt : List ℕ → List ℕ → DumpFault → Type 0
IsFaultAt text [] f = EndsWithFault text f
IsFaultAt text (byte ∷ piece) f = HasFault (text ++ byte ∷ piece) f

-- the input ended, and its last word says an entry
pub record SaysLast (says : Entry) (used : ℕ) (reader : BodyReader) (text : List ℕ) (b : Body) : Type 0 where
  pub none : used ≡ 0
  pub next : Body
  pub ended : BodyEnded reader text next
  pub said : HasSaid (Some says) b next

-- the input ended, and it says nothing more
pub record SaysNoMore (used : ℕ) (reader : BodyReader) (text : List ℕ) (b : Body) : Type 0 where
  pub none : used ≡ 0
  pub next : Body
  pub ended : BodyEnded reader text next
  pub said : HasSaid None b next

-- what the end of the input came to
abbrev pub EndsWith : Item → ℕ → BodyReader → List ℕ → Body → Type 0
EndsWith (item.Time time) used reader text b = SaysLast (entry.Time time) used reader text b
EndsWith (item.Value code value) used reader text b = SaysLast (entry.Value code value) used reader text b
EndsWith item.Off used reader text b = SaysLast entry.Off used reader text b
EndsWith (item.On time) used reader text b = SaysLast (entry.On time) used reader text b
EndsWith item.More used reader text b = ⊥
EndsWith item.End used reader text b = SaysNoMore used reader text b

-- what the next piece came to, of which an empty one is the end
abbrev pub StepsOn : Item → ℕ → BodyReader → List ℕ → List ℕ → Body → Type 0
StepsOn says used reader text [] b = EndsWith says used reader text b
StepsOn says used reader text (byte ∷ piece) b = HasStepped says used reader text (byte ∷ piece) b
