-- The reader of a body after one byte more, or at the end.
use Rattle.std.proofs.Common.{◌≡◌, ℕ, ◌+◌, ◌-◌, ◌<◌, ◌≤◌, Bool, true, false, List, [], ◌∷◌, ◌++◌, length, take, Option, Some, None, Result, Ok, Err, refl, sym, ap, subst, ◌∙◌, append_assoc, inl, inr, arith}
use Rattle.std.specs.Prelude.{◌||◌}
use Rattle.std.specs.Option.{option_to_list}
use Rattle.std.specs.List.{All}
use Rattle.std.proofs.lemmas.Bool.{cases_Bool, cases_lt}
use Rattle.std.proofs.lemmas.List.Elements.{All-append, All-cons, All-nil}
use Rattle.std.proofs.lemmas.List.{length-append, append-nil}
use Rattle.vcd_reader.specs.Words.{is_white_space}
use Rattle.vcd_reader.specs.Answer.{Answer}
use Rattle.vcd_reader.specs.Codes.{Code}
use Rattle.vcd_reader.specs.Body.{BodyReading, Said, has_begun, last_said}
use Rattle.vcd_reader.specs.Reading.{Body, body, fault, after_body_word}
use Rattle.vcd_reader.specs.Text.{Stands, after, is_alone, is_open, HasFault, behind_a_word, in_a_word, EndsWithFault, in_the_last_word, cut_short}
use Rattle.vcd_reader.specs.Holding.{IsReading, IsWord, IsSaid, Gives}
use Rattle.vcd_reader.specs.BodyStanding.{BodyStands, HasSaid, SaysNext, EndsSaying, HasStepped, StepsOn, IsBehind, IsBehindAt, IsFaultAt}
use Rattle.vcd_reader.specs.Wanted.{IsUnwanted, is_wanted, item_by, saying_more}
use Rattle.vcd_reader.specs.Hearing.{IsPassed, heard, hears, last_saying, said_by}
use Rattle.vcd_reader.specs.Passing.{Passing}
use Rattle.vcd_reader.specs.declared.item.Heard.{Heard}
use Rattle.vcd_reader.specs.declared.item.Item.{Item}
use Rattle.vcd_reader.specs.declared.entry.Entry.{Entry}
use Rattle.vcd_reader.specs.declared.entry.Entry.TheVariants as entry
use Rattle.vcd_reader.specs.declared.body_reader.BodyReader.{BodyReader}
use Rattle.vcd_reader.specs.declared.word.Word.TheVariants as word_row
use Rattle.vcd_reader.specs.declared.filter.Filter.{Filter}
use Rattle.vcd_reader.specs.declared.filter.Filter.TheVariants as filter_row
use Rattle.vcd_reader.specs.declared.reading.Reading.{Reading as ReadingRow}
use Rattle.vcd_reader.specs.declared.says.Says.{Says}
use Rattle.vcd_reader.specs.declared.says.Says.TheVariants as says
use Rattle.vcd_reader.specs.declared.fault.DumpFault.{DumpFault}
use Rattle.vcd_reader.specs.declared.fault.DumpFault.TheVariants.{At}
use Rattle.vcd_reader.specs.declared.fault.DumpKind.TheVariants.{Truncated, DumpTooLong}
use Rattle.vcd_reader.proofs.TextLemmas.{with_room, has_room, stands_behind, stands_byte, fault_stays}

-- what a word says, if reading gave something
pub record IsAnswered (f : Filter) (says : Says) (kept : ReadingRow) (answer : Answer Said) : Type 0 where
  pub said : Said
  pub is : answer ≡ Ok said
  pub same : IsSaid f says kept said

pub gives_ok : (f : Filter) (says : Says) (kept : ReadingRow) (answer : Answer Said) → Gives f (Ok says) kept answer → IsAnswered f says kept answer
gives_ok f says kept (Ok said) gives = record { said = said; is = refl; same = gives }
gives_ok f says kept (Err other) gives = absurd gives

pub gives_err : (f : Filter) (kept : ReadingRow) (found : DumpFault) (answer : Answer Said) → Gives f (Err found) kept answer → answer ≡ Err found
gives_err f kept found (Ok said) gives = absurd gives
gives_err f kept found (Err other) gives = ap (λ (g : DumpFault). let answer : Answer Said = Err g in answer) (sym gives)

-- an empty word may be at any offset
pub last_said-at : (table : List Code) (reading : BodyReading) (at other : ℕ) (word : List ℕ) → (0 < length word → at ≡ other) → last_said table reading at word ≡ last_said table reading other word
last_said-at table reading at other [] same = refl
last_said-at table reading at other (byte ∷ word) same = ap (λ (k : ℕ). last_said table reading k (byte ∷ word)) (same (omega arith))

pub after_body : (text word : List ℕ) (b : Body) → Stands text (body b) word → after (body b) (length text) word ≡ after_body_word b (last_said b.codes b.reading (length text - length word) word)
after_body text [] b s = ap (λ (items : List Entry). body (record b { items = items })) (sym (append-nil b.items))
after_body text (byte ∷ word) b s = with_room (body b) (record { at = length text - length (byte ∷ word); bytes = byte ∷ word }) (has_room text (byte ∷ word) (body b) s)

-- what the last word of the text says is what the reader reads
read_last : (reader : BodyReader) (text : List ℕ) (b : Body) (s : BodyStands reader text b) → after (body b) (length text) s.word ≡ after_body_word b (last_said reader.codes b.reading reader.word_at s.word)
read_last reader text b s =
    let place = s.place in
    let same : 0 < length s.word → length text - length s.word ≡ reader.word_at = λ some. let p = place some in omega (arith, p) in
    after_body text s.word b s.stands ∙ ap (after_body_word b) (last_said-at b.codes b.reading _ reader.word_at s.word same ∙ ap (λ (table : List Code). last_said table b.reading reader.word_at s.word) (sym s.codes))

-- the body with what a word says
abbrev pub with_said : Body → Said → Body
with_said b said = record b { items = b.items ++ option_to_list said.0; reading = said.1 }

read_ok : (reader : BodyReader) (text : List ℕ) (b : Body) (s : BodyStands reader text b) (said : Said) → last_said reader.codes b.reading reader.word_at s.word ≡ Ok said → after (body b) (length text) s.word ≡ body (with_said b said)
read_ok reader text b s said e = read_last reader text b s ∙ ap (after_body_word b) e

read_err : (reader : BodyReader) (text : List ℕ) (b : Body) (s : BodyStands reader text b) (f : DumpFault) → last_said reader.codes b.reading reader.word_at s.word ≡ Err f → after (body b) (length text) s.word ≡ fault f
read_err reader text b s f e = read_last reader text b s ∙ ap (after_body_word b) e

-- ---- what is not heard

-- nothing was passed over
pub nothing_passed : (f : Filter) (b : Body) (P : Body → Type 0) → P b → Passing f b P
nothing_passed f b P p = record { passed = []; unheard = All-nil (IsPassed f); then = subst (λ (items : List Entry). P (record b { items = items })) (sym (append-nil b.items)) p }

-- what holds after the same changes
pub passing_on : (f : Filter) (b : Body) (P Q : Body → Type 0) → ((m : Body) → P m → Q m) → Passing f b P → Passing f b Q
passing_on f b P Q step p = record { passed = p.passed; unheard = p.unheard; then = step (saying_more b p.passed) p.then }

-- what was said, as it is heard
heard_said : (f : Filter) (said says : Option Entry) (b next : Body) → says ≡ heard f said → HasSaid said b next → Passing f b (λ m. HasSaid says m next)
heard_said f None says b next e h = nothing_passed f b (λ m. HasSaid says m next) (subst (λ (o : Option Entry). HasSaid o b next) (sym e) h)
heard_said f (Some (entry.Time time)) says b next e h = nothing_passed f b (λ m. HasSaid says m next) (subst (λ (o : Option Entry). HasSaid o b next) (sym e) h)
heard_said f (Some entry.Off) says b next e h = nothing_passed f b (λ m. HasSaid says m next) (subst (λ (o : Option Entry). HasSaid o b next) (sym e) h)
heard_said f (Some (entry.On time)) says b next e h = nothing_passed f b (λ m. HasSaid says m next) (subst (λ (o : Option Entry). HasSaid o b next) (sym e) h)
heard_said f (Some (entry.Value code value)) says b next e h =
    elim (cases_Bool (hears f code)) [
      | inl on ↦ nothing_passed f b (λ m. HasSaid says m next) (subst (λ (o : Option Entry). HasSaid o b next) (sym (rw on at e)) h)
      | inr off ↦ record {
        passed = entry.Value code value ∷ [];
        unheard = All-cons (IsPassed f) (entry.Value code value) [] off (All-nil (IsPassed f));
        then = record { items = h.items ∙ sym (append-nil (b.items ++ entry.Value code value ∷ [])) ∙ ap (λ (o : Option Entry). (b.items ++ entry.Value code value ∷ []) ++ option_to_list o) (sym (rw off at e)); vars = h.vars };
      }
    ]

pub passing_next : (f : Filter) (said says : Option Entry) (reader : BodyReader) (text : List ℕ) (b : Body) → says ≡ heard f said → SaysNext said reader text b → Passing f b (SaysNext says reader text)
passing_next f said says reader text b e s =
    passing_on f b (λ m. HasSaid says m s.next) (SaysNext says reader text) (λ m h. record { next = s.next; stands = s.stands; said = h }) (heard_said f said says b s.next e s.said)

passing_end : (f : Filter) (said says : Option Entry) (text : List ℕ) (b : Body) → says ≡ heard f said → EndsSaying said text b → Passing f b (EndsSaying says text)
passing_end f said says text b e s =
    passing_on f b (λ m. HasSaid says m s.next) (EndsSaying says text) (λ m h. record { next = s.next; ends = s.ends; said = h }) (heard_said f said says b s.next e s.said)

-- where all is heard, nothing is passed over
none_passed : (passed : List Entry) → All (IsPassed filter_row.All) passed → passed ≡ []
none_passed [] all = refl
none_passed (entry.Time time ∷ passed) all = absurd (all 0 (entry.Time time) (omega arith))
none_passed (entry.Off ∷ passed) all = absurd (all 0 entry.Off (omega arith))
none_passed (entry.On time ∷ passed) all = absurd (all 0 (entry.On time) (omega arith))
none_passed (entry.Value code value ∷ passed) all = absurd (let no : true ≡ false = all 0 (entry.Value code value) (omega arith) in cc)

-- what is not heard where only some codes are wanted
pub unwanted_of : (f : Filter) (wanted : List Bool) → ((code : ℕ) → hears f code ≡ is_wanted wanted code) → (e : Entry) → IsPassed f e → IsUnwanted wanted e
unwanted_of f wanted same (entry.Time time) p = p
unwanted_of f wanted same (entry.Value code value) p = sym (same code) ∙ p
unwanted_of f wanted same entry.Off p = p
unwanted_of f wanted same (entry.On time) p = p

-- what was answered is itself
pub heard_is : (a b : Heard) → (let x : Result Heard DumpFault = Ok a in let y : Result Heard DumpFault = Ok b in x ≡ y) → a ≡ b
heard_is a b e = cc

pub all_heard : (b : Body) (P : Body → Type 0) → Passing filter_row.All b P → P b
all_heard b P p =
    let none : p.passed ≡ [] = none_passed p.passed p.unheard in
    subst (λ (items : List Entry). P (record b { items = items })) (ap (λ (passed : List Entry). b.items ++ passed) none ∙ append-nil b.items) p.then

-- what the reader of words is asked, and what it answers and keeps
abbrev pub Reads : Filter → BodyReader → Result Says DumpFault → ReadingRow → Type 0
Reads f reader answered kept = (reading : BodyReading) (bytes : List ℕ) → IsReading reader.reading reading → IsWord reader.word (has_begun reading.begun) bytes → Gives f answered kept (last_said reader.codes reading reader.word_at bytes)

pub space_said : (f : Filter) (old new : BodyReader) (text : List ℕ) (space : ℕ) (b : Body) (says : Says) → is_white_space space ≡ true → BodyStands old text b → Reads f old (Ok says) new.reading → old.at < 1099511627776
    → new.codes ≡ old.codes → new.at ≡ old.at + 1 → new.word ≡ word_row.None → new.is_at_end ≡ old.is_at_end → Passing f b (SaysNext (said_by says new.reading) new (text ++ space ∷ []))
space_said f old new text space b says white s reads room codes at word going =
    let a = gives_ok f says new.reading _ (reads b.reading s.word s.reading s.kept) in
    let long = s.at in
    let next = with_said b a.said in
    passing_next f a.said.0 (said_by says new.reading) new (text ++ space ∷ []) b a.same.says (record {
      next = next;
      stands = record {
        word = [];
        stands = stands_behind text s.word (body b) (body next) space s.stands white (read_ok old text b s a.said a.is) (omega (arith, long, room));
        at = omega (arith, at, long, length-append text (space ∷ []));
        codes = codes ∙ s.codes;
        reading = a.same.reading;
        kept = subst (λ w. IsWord w (has_begun a.said.1.begun) []) (sym word) refl;
        place = λ some. absurd (omega (arith, some));
        goes_on = going ∙ s.goes_on;
      };
      said = record { items = refl; vars = refl };
    })

-- a fault directly after the text
behind_text : (text word : List ℕ) (byte : ℕ) (b : Body) (f : DumpFault) → Stands text (body b) word → HasFault (text ++ byte ∷ []) f → IsBehind (text ++ byte ∷ []) b f
behind_text text word byte b f stands found = record { before = text; byte = byte; rest = []; now = record { last = b; word = word; stands = stands; items = refl; vars = refl }; split = refl; fault = found }

pub space_fault : (f : Filter) (old : BodyReader) (text : List ℕ) (space : ℕ) (b : Body) (kept : ReadingRow) (found : DumpFault) → is_white_space space ≡ true → BodyStands old text b → Reads f old (Err found) kept → IsBehind (text ++ space ∷ []) b found
space_fault f old text space b kept found white s reads =
    let e = gives_err f kept found _ (reads b.reading s.word s.reading s.kept) in
    behind_text text s.word space b found s.stands (behind_a_word text s.word [] (body b) (fault found) space s.stands white (read_err old text b s found e) (omega arith))

pub space_no_room : (f : Filter) (old : BodyReader) (text : List ℕ) (space : ℕ) (b : Body) (says : Says) (kept : ReadingRow) (found : DumpFault) → is_white_space space ≡ true → BodyStands old text b → Reads f old (Ok says) kept → 1099511627776 ≤ old.at → found ≡ At DumpTooLong 1099511627776 → IsBehind (text ++ space ∷ []) b found
space_no_room f old text space b says kept found white s reads full is =
    let a = gives_ok f says kept _ (reads b.reading s.word s.reading s.kept) in
    let long = s.at in
    behind_text text s.word space b found s.stands (rw is (behind_a_word text s.word [] (body b) (body (with_said b a.said)) space s.stands white (read_ok old text b s a.said a.is) (omega (arith, full, long))))

pub push_no_room : (old : BodyReader) (text : List ℕ) (byte : ℕ) (b : Body) (f : DumpFault) → is_white_space byte ≡ false → BodyStands old text b → 1099511627776 ≤ old.at → f ≡ At DumpTooLong 1099511627776 → IsBehind (text ++ byte ∷ []) b f
push_no_room old text byte b f black s full is =
    let long = s.at in
    behind_text text s.word byte b f s.stands (rw is (in_a_word text s.word [] (body b) byte s.stands black (omega (arith, full, long))))

-- a byte of a word
pub pushed : (old new : BodyReader) (text : List ℕ) (byte : ℕ) (b : Body) → is_white_space byte ≡ false → (s : BodyStands old text b) → old.at < 1099511627776
    → new.codes ≡ old.codes → new.at ≡ old.at + 1 → new.reading ≡ old.reading → IsWord new.word (has_begun b.reading.begun) (s.word ++ byte ∷ []) → new.word_at + length (s.word ++ byte ∷ []) ≡ length text + 1 → new.is_at_end ≡ old.is_at_end
    → BodyStands new (text ++ byte ∷ []) b
pushed old new text byte b black s room codes at reading word place going =
    let long = s.at in
    record {
      word = s.word ++ byte ∷ [];
      stands = stands_byte text s.word (body b) byte s.stands black (omega (arith, long, room));
      at = omega (arith, at, long, length-append text (byte ∷ []));
      codes = codes ∙ s.codes;
      reading = subst (λ r. IsReading r b.reading) (sym reading) s.reading;
      kept = word;
      place = λ some. omega (arith, place, length-append text (byte ∷ []));
      goes_on = going ∙ s.goes_on;
    }

-- where the word is with one byte more
pub placed : (reader : BodyReader) (text : List ℕ) (b : Body) (s : BodyStands reader text b) (place byte : ℕ) → (length s.word ≡ 0 → place ≡ reader.at) → (0 < length s.word → place ≡ reader.word_at) → place + length (s.word ++ byte ∷ []) ≡ length text + 1
placed reader text b s place byte none some =
    let long = s.at in
    elim (cases_lt 0 (length s.word)) [
      | inl more ↦ let before = s.place more in let same = some more in omega (arith, before, same, length-append s.word (byte ∷ []))
      | inr first ↦ let same = none (omega arith) in omega (arith, same, long, length-append s.word (byte ∷ []))
    ]

-- nothing was said
pub says_nothing : (f : Filter) (reader : BodyReader) (text : List ℕ) (b : Body) → BodyStands reader text b → Passing f b (SaysNext None reader text)
says_nothing f reader text b s = nothing_passed f b (SaysNext None reader text) (record { next = b; stands = s; said = record { items = sym (append-nil b.items); vars = refl } })

pub ends_saying : (f : Filter) (reader : BodyReader) (text : List ℕ) (b : Body) (says : Says) (kept : ReadingRow) (begun : Bool) (s : BodyStands reader text b) → Reads f reader (Ok says) kept → is_alone (body b) s.word ≡ false
    → ((reading : BodyReading) → IsReading kept reading → begun ≡ has_begun reading.begun) → begun ≡ false → Passing f b (EndsSaying (said_by says kept) text)
ends_saying f reader text b says kept begun s reads whole has closed =
    let a = gives_ok f says kept _ (reads b.reading s.word s.reading s.kept) in
    passing_end f a.said.0 (said_by says kept) text b a.same.says (record {
      next = with_said b a.said;
      ends = record { word = s.word; means = body b; stands = s.stands; whole = whole; meaning = read_ok reader text b s a.said a.is; closed = sym (has a.said.1 a.same.reading) ∙ closed };
      said = record { items = refl; vars = refl };
    })

pub ends_with_fault : (f : Filter) (reader : BodyReader) (text : List ℕ) (b : Body) (kept : ReadingRow) (found : DumpFault) (s : BodyStands reader text b) → Reads f reader (Err found) kept → is_alone (body b) s.word ≡ false → EndsWithFault text found
ends_with_fault f reader text b kept found s reads whole =
    let e = gives_err f kept found _ (reads b.reading s.word s.reading s.kept) in
    in_the_last_word text s.word (body b) found s.stands whole (read_err reader text b s found e)

or_first : (a b : Bool) → a ≡ true → (a || b) ≡ true
or_first a b first = rw first refl

or_second : (a b : Bool) → b ≡ true → (a || b) ≡ true
or_second true b second = refl
or_second false b second = second

cut_at : (reader : BodyReader) (text : List ℕ) (f : DumpFault) → reader.at ≡ length text → f ≡ At Truncated reader.at → EndsWithFault text (At Truncated (length text)) → EndsWithFault text f
cut_at reader text f at is cut = subst (λ (g : DumpFault). EndsWithFault text g) (sym (is ∙ ap (λ (k : ℕ). At Truncated k) at)) cut

pub ends_alone : (reader : BodyReader) (text : List ℕ) (b : Body) (f : DumpFault) (s : BodyStands reader text b) → is_alone (body b) s.word ≡ true → f ≡ At Truncated reader.at → EndsWithFault text f
ends_alone reader text b f s alone is = cut_at reader text f s.at is (cut_short text s.word (body b) s.stands (or_first _ _ alone))

pub ends_open : (f : Filter) (reader : BodyReader) (text : List ℕ) (b : Body) (says : Says) (kept : ReadingRow) (begun : Bool) (found : DumpFault) (s : BodyStands reader text b) → Reads f reader (Ok says) kept
    → ((reading : BodyReading) → IsReading kept reading → begun ≡ has_begun reading.begun) → begun ≡ true → found ≡ At Truncated reader.at → EndsWithFault text found
ends_open f reader text b says kept begun found s reads has goes_on is =
    let a = gives_ok f says kept _ (reads b.reading s.word s.reading s.kept) in
    let opened : is_open (after (body b) (length text) s.word) ≡ true = ap is_open (read_ok reader text b s a.said a.is) ∙ sym (has a.said.1 a.same.reading) ∙ goes_on in
    cut_at reader text found s.at is (cut_short text s.word (body b) s.stands (or_second _ _ opened))

-- ---- pieces

pub read_none : (f : Filter) (reader : BodyReader) (text piece : List ℕ) (b : Body) → BodyStands reader text b → Passing f b (SaysNext None reader (text ++ take 0 piece))
read_none f reader text piece b s = subst (λ (t : List ℕ). Passing f b (SaysNext None reader t)) (sym (append-nil text)) (says_nothing f reader text b s)

-- one thing after nothing
pub says_then : (f : Filter) (says : Option Entry) (earlier reader : BodyReader) (before text : List ℕ) (b : Body) (first : Passing f b (SaysNext None earlier before)) → Passing f first.then.next (SaysNext says reader text) → Passing f b (SaysNext says reader text)
says_then f says earlier reader before text b first later = record {
  passed = first.passed ++ later.passed;
  unheard = All-append (IsPassed f) first.passed later.passed first.unheard later.unheard;
  then = record {
    next = later.then.next;
    stands = later.then.stands;
    said = record {
      items = later.then.said.items ∙ ap (λ (items : List Entry). items ++ option_to_list says)
          (ap (λ (items : List Entry). items ++ later.passed) (first.then.said.items ∙ append-nil (b.items ++ first.passed)) ∙ append_assoc b.items first.passed later.passed);
      vars = later.then.said.vars ∙ first.then.said.vars;
    };
  };
}

-- what follows the same said, where nothing more was said
pub behind_said : (text : List ℕ) (b next m : Body) (f : DumpFault) → next.items ≡ m.items → next.vars ≡ m.vars → IsBehind text next f → IsBehind text m f
behind_said text b next m f items vars is = record {
  before = is.before;
  byte = is.byte;
  rest = is.rest;
  now = record { last = is.now.last; word = is.now.word; stands = is.now.stands; items = is.now.items ∙ items; vars = is.now.vars ∙ vars };
  split = is.split;
  fault = is.fault;
}

-- a fault after what was passed over
pub passing_fault : (f : Filter) (reader : BodyReader) (before text : List ℕ) (b : Body) (found : DumpFault) (first : Passing f b (SaysNext None reader before)) → IsBehind text first.then.next found → Passing f b (λ m. IsBehind text m found)
passing_fault f reader before text b found first is = record {
  passed = first.passed;
  unheard = first.unheard;
  then = behind_said text b first.then.next (saying_more b first.passed) found (first.then.said.items ∙ append-nil (b.items ++ first.passed)) first.then.said.vars is;
}

-- what comes later leaves a fault where it is
pub behind_stays : (text more : List ℕ) (b : Body) (f : DumpFault) → IsBehind text b f → IsBehind (text ++ more) b f
behind_stays text more b f is = record {
  before = is.before;
  byte = is.byte;
  rest = is.rest ++ more;
  now = is.now;
  split = ap (λ (t : List ℕ). t ++ more) is.split ∙ append_assoc is.before (is.byte ∷ is.rest) more;
  fault = is.fault;
}

-- it is the first fault of the text
pub fault_behind : (text : List ℕ) (b : Body) (f : DumpFault) → IsBehind text b f → HasFault text f
fault_behind text b f is =
    subst (λ (t : List ℕ). HasFault t f) (append_assoc is.before (is.byte ∷ []) is.rest ∙ sym is.split) (fault_stays (is.before ++ is.byte ∷ []) is.rest f is.fault)

pub fault_behind_at : (text piece : List ℕ) (b : Body) (f : DumpFault) → IsBehindAt text piece b f → IsFaultAt text piece f
fault_behind_at text [] b f is = is.1
fault_behind_at text (byte ∷ piece) b f is = fault_behind (text ++ byte ∷ piece) b f is

pub has_stepped : (says : Item) (used : ℕ) (reader : BodyReader) (text piece : List ℕ) (b : Body) → 0 < length piece → HasStepped says used reader text piece b → StepsOn says used reader text piece b
has_stepped says used reader text [] b some h = absurd (omega arith)
has_stepped says used reader text (byte ∷ piece) b some h = h

pub behind_at : (text piece : List ℕ) (b : Body) (f : DumpFault) → 0 < length piece → IsBehind (text ++ piece) b f → IsBehindAt text piece b f
behind_at text [] b f some is = absurd (omega arith)
behind_at text (byte ∷ piece) b f some is = is

pub behind_at_end : (reader : BodyReader) (text piece : List ℕ) (b : Body) (f : DumpFault) → length piece ≡ 0 → BodyStands reader text b → EndsWithFault text f → IsBehindAt text piece b f
behind_at_end reader text [] b f none s ends = (record { last = b; word = s.word; stands = s.stands; items = refl; vars = refl }, ends)
behind_at_end reader text (byte ∷ piece) b f none s ends = absurd (omega arith)

-- what the last word says
pub last_steps : (says : Says) (reader : BodyReader) (text piece : List ℕ) (b : Body) → length piece ≡ 0 → reader.is_at_end ≡ true → EndsSaying (said_by says reader.reading) text b
    → StepsOn (item_by (last_saying says reader.reading.change.code) reader.reading.change.value) 0 reader text piece b
last_steps says.Nothing reader text [] b none at_end h = record { none = refl; next = h.next; ended = record { at_end = at_end; ends = h.ends }; said = h.said }
last_steps (says.Time time) reader text [] b none at_end h = record { none = refl; next = h.next; ended = record { at_end = at_end; ends = h.ends }; said = h.said }
last_steps says.Change reader text [] b none at_end h = record { none = refl; next = h.next; ended = record { at_end = at_end; ends = h.ends }; said = h.said }
last_steps says.Off reader text [] b none at_end h = record { none = refl; next = h.next; ended = record { at_end = at_end; ends = h.ends }; said = h.said }
last_steps (says.On time) reader text [] b none at_end h = record { none = refl; next = h.next; ended = record { at_end = at_end; ends = h.ends }; said = h.said }
last_steps says reader text (byte ∷ piece) b none at_end h = absurd (omega (arith, none))
