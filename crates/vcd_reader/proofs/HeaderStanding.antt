-- The reader of a header after one byte more, or at the end.
use Rattle.std.proofs.Common.{◌≡◌, ℕ, ◌+◌, ◌<◌, ◌≤◌, Bool, true, false, cond, List, [], ◌∷◌, ◌++◌, length, take, drop, get_or, Ok, refl, sym, ap, subst, ◌∙◌, append_assoc, arith}
use Rattle.std.proofs.lemmas.List.{length-append, append-nil, take_more, take-append-drop}
use Rattle.vcd_reader.specs.Words.{is_white_space}
use Rattle.vcd_reader.specs.Answer.{Answer, IsFault}
use Rattle.vcd_reader.specs.Reading.{HeaderReading, header, body_after, last_word}
use Rattle.vcd_reader.specs.Text.{Stands, HasFault, EndsAs, EndsWithFault}
use Rattle.vcd_reader.specs.Views.{reading_of}
use Rattle.vcd_reader.specs.Progress.{is_at_end, is_going}
use Rattle.vcd_reader.specs.Standing.{HeaderMeans, HeaderStands, IsFoundFault, IsFaultAtEnd}
use Rattle.vcd_reader.specs.declared.header_reader.HeaderReader.{HeaderReader}
use Rattle.vcd_reader.specs.declared.progress.Progress.{Progress}
use Rattle.vcd_reader.specs.declared.progress.Progress.TheVariants.{Going, Done, AtEnd}
use Rattle.vcd_reader.specs.declared.fault.DumpFault.{DumpFault}
use Rattle.vcd_reader.specs.declared.fault.DumpFault.TheVariants.{NoMemory, At}
use Rattle.vcd_reader.specs.declared.fault.DumpKind.{DumpKind}
use Rattle.vcd_reader.specs.declared.fault.DumpKind.TheVariants.{Truncated, HeaderTooLong}
use Rattle.vcd_reader.proofs.OneHeader.{header_says_none, header_ends_none, none_stays}
use Rattle.vcd_reader.proofs.TextLemmas.{fault_stays, header_goes_on, header_is_done, header_fault, header_too_long, header_word_too_long, header_ends, header_ends_with_fault, header_cut_short}

going_means : (progress : Progress) (reader : HeaderReader) (text : List ℕ) → is_going progress ≡ true → HeaderMeans progress reader text → Stands text (header (reading_of reader.sections)) reader.word.items
going_means Going reader text going means = means
going_means Done reader text going means = absurd cc
going_means AtEnd reader text going means = absurd cc

-- a fault that is directly after a header that goes on is one of the header
found_behind : (text word : List ℕ) (reading : HeaderReading) (byte : ℕ) (kind : DumpKind) (at : ℕ) → Stands text (header reading) word → HasFault (text ++ byte ∷ []) (At kind at) → IsFoundFault (text ++ byte ∷ []) (At kind at)
found_behind text word reading byte kind at stands has = (has, header_says_none text word reading byte (At kind at) stands has)

found_at_end : (text word : List ℕ) (reading : HeaderReading) (kind : DumpKind) (at : ℕ) → Stands text (header reading) word → EndsWithFault text (At kind at) → IsFaultAtEnd text (At kind at)
found_at_end text word reading kind at stands ends = (ends, header_ends_none text word reading (At kind at) stands ends)

-- what the text means to a reader that goes on
pub standing : (reader : HeaderReader) (text : List ℕ) → is_going reader.progress ≡ true → HeaderStands reader text → Stands text (header (reading_of reader.sections)) reader.word.items
standing reader text going stands = going_means reader.progress reader text going stands.means

-- the last word of the text, where the reader says how long that is
at_length : {A : Type 0} (reader : HeaderReader) (text : List ℕ) (answer : Answer A) (read : HeaderReading → ℕ → List ℕ → Answer A) → HeaderStands reader text → read (reading_of reader.sections) reader.at reader.word.items ≡ answer → read (reading_of reader.sections) (length text) reader.word.items ≡ answer
at_length reader text answer read stands e = ap (λ (k : ℕ). read (reading_of reader.sections) k reader.word.items) (sym stands.at) ∙ e

kept_means : (last : Bool) (progress : Progress) (old new : HeaderReader) (text : List ℕ) (space : ℕ) → progress ≡ cond last Done Going → Stands text (header (reading_of old.sections)) old.word.items → is_white_space space ≡ true
    → last_word (reading_of old.sections) (length text) old.word.items ≡ Ok (last, reading_of new.sections) → (last ≡ false → length text < 67108864) → new.word.items ≡ [] → HeaderMeans progress new (text ++ space ∷ [])
kept_means true progress old new text space is s white e room empty = rw is (header_is_done text old.word.items (reading_of old.sections) (reading_of new.sections) space s white e)
kept_means false progress old new text space is s white e room empty = let within = room refl in rw (is, empty) (header_goes_on text old.word.items (reading_of old.sections) (reading_of new.sections) space s white e (omega (arith, within)))

pub space_kept : (old new : HeaderReader) (text : List ℕ) (space : ℕ) (last : Bool) → is_going old.progress ≡ true → HeaderStands old text → is_white_space space ≡ true
    → last_word (reading_of old.sections) old.at old.word.items ≡ Ok (last, reading_of new.sections) → (last ≡ false → old.at < 67108864) → new.word.items ≡ [] → new.at ≡ old.at + 1 → new.progress ≡ cond last Done Going
    → HeaderStands new (text ++ space ∷ [])
space_kept old new text space last going stands white e room empty at progress =
    let long = stands.at in
    record {
      at = omega (arith, at, long, length-append text (space ∷ []));
      means = kept_means last new.progress old new text space progress (standing old text going stands) white (at_length old text _ last_word stands e) (λ on. let few = room on in omega (arith, few, long)) empty;
    }

pub space_fault : (old : HeaderReader) (text : List ℕ) (space : ℕ) (f : DumpFault) → is_going old.progress ≡ true → HeaderStands old text → is_white_space space ≡ true
    → IsFault (last_word (reading_of old.sections) old.at old.word.items) f → IsFoundFault (text ++ space ∷ []) f
space_fault old text space NoMemory going stands white e = tt
space_fault old text space (At kind byte) going stands white e =
    let means = standing old text going stands in
    found_behind text old.word.items (reading_of old.sections) space kind byte means (header_fault text old.word.items (reading_of old.sections) (At kind byte) space means white (at_length old text _ last_word stands e))

pub space_no_room : (old : HeaderReader) (text : List ℕ) (space : ℕ) (f : DumpFault) (last : Bool) (next : HeaderReading) → is_going old.progress ≡ true → HeaderStands old text → is_white_space space ≡ true
    → last_word (reading_of old.sections) old.at old.word.items ≡ Ok (last, next) → last ≡ false → 67108864 ≤ old.at → f ≡ At HeaderTooLong 67108864 → IsFoundFault (text ++ space ∷ []) f
space_no_room old text space f last next going stands white e on full is =
    let long = stands.at in
    let read : last_word (reading_of old.sections) (length text) old.word.items ≡ Ok (false, next) = at_length old text _ last_word stands e ∙ ap (λ (l : Bool). let answer : Answer (Bool × HeaderReading) = Ok (l, next) in answer) on in
    let means = standing old text going stands in
    rw is (found_behind text old.word.items (reading_of old.sections) space HeaderTooLong 67108864 means (header_too_long text old.word.items (reading_of old.sections) next space means white read (omega (arith, full, long))))

pub push_no_room : (old : HeaderReader) (text : List ℕ) (byte : ℕ) (f : DumpFault) → is_going old.progress ≡ true → HeaderStands old text → is_white_space byte ≡ false → 67108864 ≤ old.at → f ≡ At HeaderTooLong 67108864 → IsFoundFault (text ++ byte ∷ []) f
push_no_room old text byte f going stands black full is =
    let long = stands.at in
    let means = standing old text going stands in
    rw is (found_behind text old.word.items (reading_of old.sections) byte HeaderTooLong 67108864 means (header_word_too_long text old.word.items (reading_of old.sections) byte means black (omega (arith, full, long))))

pub end_kept : (old : HeaderReader) (text : List ℕ) (last : Bool) (next : HeaderReading) → is_going old.progress ≡ true → HeaderStands old text → last_word (reading_of old.sections) old.at old.word.items ≡ Ok (last, next) → last ≡ true → EndsAs text (body_after next.declared)
end_kept old text last next going stands e is =
    header_ends text old.word.items (reading_of old.sections) next (standing old text going stands) (at_length old text _ last_word stands e ∙ ap (λ (l : Bool). let answer : Answer (Bool × HeaderReading) = Ok (l, next) in answer) is)

pub end_fault : (old : HeaderReader) (text : List ℕ) (f : DumpFault) → is_going old.progress ≡ true → HeaderStands old text → IsFault (last_word (reading_of old.sections) old.at old.word.items) f → IsFaultAtEnd text f
end_fault old text NoMemory going stands e = tt
end_fault old text (At kind byte) going stands e =
    let means = standing old text going stands in
    found_at_end text old.word.items (reading_of old.sections) kind byte means (header_ends_with_fault text old.word.items (reading_of old.sections) (At kind byte) means (at_length old text _ last_word stands e))

pub end_cut_short : (old : HeaderReader) (text : List ℕ) (f : DumpFault) (last : Bool) (next : HeaderReading) → is_going old.progress ≡ true → HeaderStands old text → last_word (reading_of old.sections) old.at old.word.items ≡ Ok (last, next) → last ≡ false → f ≡ At Truncated old.at → IsFaultAtEnd text f
end_cut_short old text f last next going stands e on is =
    let read : last_word (reading_of old.sections) (length text) old.word.items ≡ Ok (false, next) = at_length old text _ last_word stands e ∙ ap (λ (l : Bool). let answer : Answer (Bool × HeaderReading) = Ok (l, next) in answer) on in
    let means = standing old text going stands in
    rw (is ∙ ap (λ (k : ℕ). At Truncated k) stands.at) (found_at_end text old.word.items (reading_of old.sections) Truncated (length text) means (header_cut_short text old.word.items (reading_of old.sections) next means read))

-- ---- pieces

-- nothing of the piece was read
pub read_none : (reader : HeaderReader) (text piece : List ℕ) → HeaderStands reader text → HeaderStands reader (text ++ take 0 piece)
read_none reader text piece stands = subst (λ (t : List ℕ). HeaderStands reader t) (sym (append-nil text)) stands

-- one byte more of the piece was read
pub one_more : (text piece : List ℕ) (place byte : ℕ) → place < length piece → (text ++ take place piece) ++ get_or piece place byte ∷ [] ≡ text ++ take (place + 1) piece
one_more text piece place byte within = append_assoc text (take place piece) (get_or piece place byte ∷ []) ∙ ap (λ (t : List ℕ). text ++ t) (sym (take_more piece place byte within))

-- a fault in what was read of the piece is one of the piece
pub fault_in_piece : (text piece : List ℕ) (place byte : ℕ) (f : DumpFault) → place < length piece → IsFoundFault ((text ++ take place piece) ++ get_or piece place byte ∷ []) f → IsFoundFault (text ++ piece) f
fault_in_piece text piece place byte NoMemory within found = tt
fault_in_piece text piece place byte (At kind at) within found =
    let whole : ((text ++ take place piece) ++ get_or piece place byte ∷ []) ++ drop (place + 1) piece ≡ text ++ piece =
    ap (λ (t : List ℕ). t ++ drop (place + 1) piece) (one_more text piece place byte within) ∙ append_assoc text (take (place + 1) piece) (drop (place + 1) piece) ∙ ap (λ (t : List ℕ). text ++ t) (take-append-drop (place + 1) piece) in
    let read : List ℕ = (text ++ take place piece) ++ get_or piece place byte ∷ [] in
    subst (λ (t : List ℕ). IsFoundFault t (At kind at)) whole (fault_stays read (drop (place + 1) piece) (At kind at) found.0, none_stays read (drop (place + 1) piece) (At kind at) found.0 found.1)

-- a header that goes on, or that is done before the end, is not at the end
pub going_open : (progress : Progress) → is_going progress ≡ true → is_at_end progress ≡ false
going_open Going going = refl
going_open Done going = refl
going_open AtEnd going = cc

pub done_open : (last : Bool) (progress : Progress) → progress ≡ cond last Done Going → is_at_end progress ≡ false
done_open true progress e = ap is_at_end e
done_open false progress e = ap is_at_end e
