-- What was read of a file, and when a file is there.
use Rattle.std.proofs.Common.{◌≡◌, ℕ, ◌+◌, ◌≤◌, nat_lt, Bool, true, false, if◌then◌else◌, List, [], ◌∷◌, ◌++◌, length, Option, None, Some, refl, sym, ap, subst, ◌∙◌, inl, inr, arith}
use Rattle.std.specs.Prelude.{IfSome, IsSomeAnd, ◌==◌}
use Rattle.std.proofs.lemmas.Bool.{cases_lt}
use Rattle.std.proofs.lemmas.Bool.Decides.{nat_tests}
use Rattle.std.proofs.lemmas.List.{length-append}
use Rattle.std.proofs.lemmas.List.Sums.{sum_by-append}
use Rattle.cov_host.specs.Outside.{Files, Outside, SameFiles, Told}
use Rattle.cov_host.specs.declared.place.Place.{Place}
use Rattle.verilog_lexer.specs.Sources.{AreWithinLimits, SourceText, refusal_of, total_length}
use Rattle.verilog_lexer.specs.declared.fault.LexFault.TheVariants as lex_fault
use Rattle.verilog_lexer.specs.declared.fault.LexKind.{LexKind}
use Rattle.verilog_lexer.specs.declared.fault.LexKind.TheVariants.{SourcesTooLong, TooManySources}
use Rattle.whole_files.specs.Effects.{OnlyReads}
use Rattle.whole_files.specs.Files.{IsContent}
use Rattle.whole_files.specs.declared.call.Call.{Call}
use Rattle.whole_files.specs.declared.call.Call.TheVariants.{OpenRead, Read, OpenWrite, Write, CloseWrite}
use Rattle.whole_files.proofs.Refusals.{refused_earlier}
use Rattle.source_files.specs.Files.{IsFile}
use Rattle.source_files.specs.Joining.{IsJoinFault, IsRefusedCall, Joins}
use Rattle.source_files.specs.declared.fault.JoinFault.{JoinFault}
use Rattle.source_files.specs.declared.fault.JoinFault.TheVariants as join_fault

-- what a call of reading says of the bytes
abbrev pub AreBytesOf : Outside → List ℕ → List ℕ → Type 0
AreBytesOf outside path bytes = IfSome outside.files (λ files. IsSomeAnd (files path) (IsContent 67108864 bytes))

-- the text of a file of which these bytes were read
record TextOf (outside : Outside) (path bytes : List ℕ) : Type 0 where
  text : List ℕ
  is : IsFile outside path text
  content : IsContent 67108864 bytes text

text_at : (path bytes : List ℕ) (outside : Outside) (told : Option Files) → outside.files ≡ told → IfSome told (λ files. IsSomeAnd (files path) (IsContent 67108864 bytes)) → TextOf outside path bytes
text_at path bytes outside None is holds = record {
  text = bytes;
  is = subst (λ f. IfSome f (λ files. files path ≡ Some bytes)) (sym is) tt;
  content = record { whole = λ short. refl; longer = λ long. long };
}
text_at path bytes outside (Some files) is holds = go (files path) refl holds
  where
    go : (found : Option (List ℕ)) → files path ≡ found → IsSomeAnd found (IsContent 67108864 bytes) → TextOf outside path bytes
    go None none content = absurd content
    go (Some text) some content = record {
      text = text;
      is = subst (λ f. IfSome f (λ files. files path ≡ Some text)) (sym is) some;
      content = content;
    }

text_of : (path bytes : List ℕ) (outside : Outside) → AreBytesOf outside path bytes → TextOf outside path bytes
text_of path bytes outside holds = text_at path bytes outside outside.files refl holds

-- a file fits where its bytes do
same_refusal : (sources : List SourceText) (name bytes text : List ℕ) → IsContent 67108864 bytes text → refusal_of sources name (length bytes) ≡ refusal_of sources name (length text)
same_refusal sources name bytes text content =
    elim (cases_lt 67108864 (length text)) [
      | inl long ↦
          let one : nat_lt 67108864 (total_length sources + length bytes) ≡ true = grind (arith, nat_tests, content.longer long) in
          let two : nat_lt 67108864 (total_length sources + length text) ≡ true = grind (arith, nat_tests, long) in
          rw (one, two) refl
      | inr within ↦ ap (λ (b : List ℕ). refusal_of sources name (length b)) (content.whole (omega (arith, within)))
    ]

bytes_fit : (sources : List SourceText) (name : List ℕ) (bytes : ℕ) → refusal_of sources name bytes ≡ None → bytes ≤ 67108864
bytes_fit sources name bytes none = go (length sources == 256) (nat_lt 67108864 (total_length sources + bytes)) refl none
  where
    go : (many long : Bool) → nat_lt 67108864 (total_length sources + bytes) ≡ long
        → (if many then Some (lex_fault.At TooManySources None (Some name)) else if long then Some (lex_fault.At SourcesTooLong None (Some name)) else None) ≡ None → bytes ≤ 67108864
    go true long is none = absurd cc
    go false true is none = absurd cc
    go false false is none = grind (arith, nat_tests)

whole_text : (bytes text : List ℕ) → IsContent 67108864 bytes text → length bytes ≤ 67108864 → bytes ≡ text
whole_text bytes text content short =
    elim (cases_lt 67108864 (length text)) [ inl long ↦ absurd (omega (arith, content.longer long, short)) | inr within ↦ content.whole (omega (arith, within)) ]

pub joins : (before : Outside) (path name bytes : List ℕ) (root : Bool) (old new : List SourceText) → AreBytesOf before path bytes → refusal_of old name (length bytes) ≡ None → new ≡ old ++ record { name = name; bytes = bytes; root = root } ∷ []
    → Joins before path name root old new
joins before path name bytes root old new read none is =
    let t = text_of path bytes before read in
    let same = whole_text bytes t.text t.content (bytes_fit old name (length bytes) none) in
    record {
      text = bytes;
      is = subst (IsFile before path) (sym same) t.is;
      fits = none;
      joined = is;
    }

-- a refusal to add a file gives no place
no_place : (sources : List SourceText) (name : List ℕ) (bytes : ℕ) (kind : LexKind) (place : Option Place) (detail : Option (List ℕ)) → refusal_of sources name bytes ≡ Some (lex_fault.At kind place detail) → refusal_of sources name bytes ≡ Some (lex_fault.At kind None detail)
no_place sources name bytes kind place detail is = go (length sources == 256) (nat_lt 67108864 (total_length sources + bytes)) is
  where
    go : (many long : Bool) → (if many then Some (lex_fault.At TooManySources None (Some name)) else if long then Some (lex_fault.At SourcesTooLong None (Some name)) else None) ≡ Some (lex_fault.At kind place detail)
        → (if many then Some (lex_fault.At TooManySources None (Some name)) else if long then Some (lex_fault.At SourcesTooLong None (Some name)) else None) ≡ Some (lex_fault.At kind None detail)
    go true many is = cc
    go false true is = cc
    go false false is = absurd cc

pub no_fit : (before : Outside) (path name bytes : List ℕ) (old : List SourceText) (kind : LexKind) (place : Option Place) (detail : Option (List ℕ)) → AreBytesOf before path bytes → refusal_of old name (length bytes) ≡ Some (lex_fault.At kind place detail)
    → (text : List ℕ) × IsFile before path text × (refusal_of old name (length text) ≡ Some (lex_fault.At kind None detail))
no_fit before path name bytes old kind place detail read refused =
    let t = text_of path bytes before read in
    (t.text, t.is, sym (same_refusal old name bytes t.text t.content) ∙ no_place old name (length bytes) kind place detail refused)

fits_within : (sources : List SourceText) (source : SourceText) → AreWithinLimits sources → refusal_of sources source.name (length source.bytes) ≡ None → AreWithinLimits (sources ++ source ∷ [])
fits_within sources source within none = go (length sources == 256) (nat_lt 67108864 (total_length sources + length source.bytes)) refl refl none
  where
    go : (many long : Bool) → (length sources == 256) ≡ many → nat_lt 67108864 (total_length sources + length source.bytes) ≡ long
        → (if many then Some (lex_fault.At TooManySources None (Some source.name)) else if long then Some (lex_fault.At SourcesTooLong None (Some source.name)) else None) ≡ None → AreWithinLimits (sources ++ source ∷ [])
    go true long other is none = absurd cc
    go false true other is none = absurd cc
    go false false other is none =
        let count : length sources ≤ 256 = within.count in
        record {
          count = rw (length-append sources (source ∷ [])) (grind (arith, nat_tests, other, count));
          bytes = rw (sum_by-append (λ s. length s.bytes) sources (source ∷ [])) (grind (arith, nat_tests, is));
        }

-- with a file that joins, the sources stay within the limits
pub joins_within : (before : Outside) (path name : List ℕ) (root : Bool) (old new : List SourceText) → AreWithinLimits old → Joins before path name root old new → AreWithinLimits new
joins_within before path name root old new within j =
    subst AreWithinLimits (sym j.joined) (fits_within old (record { name = name; bytes = j.text; root = root }) within j.fits)

-- ---- what holds later held before, where files were only read

pub file_as_before : (path text : List ℕ) (before after : Option Files) → Told SameFiles before after → IfSome after (λ files. files path ≡ Some text) → IfSome before (λ files. files path ≡ Some text)
file_as_before path text None None same is = tt
file_as_before path text None (Some after) same is = absurd same
file_as_before path text (Some before) None same is = absurd same
file_as_before path text (Some before) (Some after) same is = sym (same path) ∙ is

pub call_earlier : (path : List ℕ) (before middle after : Outside) (call : Call) → OnlyReads before middle → OnlyReads middle after → IsRefusedCall middle after path call → IsRefusedCall before after path call
call_earlier path before middle after OpenRead first second is = refused_earlier before middle after first.counts second.counts first.files OpenRead path is
call_earlier path before middle after Read first second is = refused_earlier before middle after first.counts second.counts first.files Read path is
call_earlier path before middle after OpenWrite first second is = absurd is
call_earlier path before middle after Write first second is = absurd is
call_earlier path before middle after CloseWrite first second is = absurd is

pub join_fault_earlier : (path name : List ℕ) (before middle after : Outside) (sources : List SourceText) (fault : JoinFault) → OnlyReads before middle → OnlyReads middle after → IsJoinFault middle after path name sources fault → IsJoinFault before after path name sources fault
join_fault_earlier path name before middle after sources join_fault.NoMemory first second is = tt
join_fault_earlier path name before middle after sources (join_fault.Refused call) first second is = call_earlier path before middle after call first second is
join_fault_earlier path name before middle after sources (join_fault.Full kind detail) first second is = (is.0, file_as_before path is.0 before.files middle.files first.files is.1, is.2)

pub joins_earlier : (path name : List ℕ) (root : Bool) (before middle : Outside) (old new : List SourceText) → OnlyReads before middle → Joins middle path name root old new → Joins before path name root old new
joins_earlier path name root before middle old new first j = record { text = j.text; is = file_as_before path j.text before.files middle.files first.files j.is; fits = j.fits; joined = j.joined }
