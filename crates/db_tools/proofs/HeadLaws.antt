-- The lines of an excluded text before its table.
use Rattle.std.proofs.Common.{◌≡◌, ◌≢◌, ℕ, zero, suc, ◌+◌, ◌^◌, ◌<◌, ◌≤◌, ◌∙◌, Bool, true, false, cond, List, [], ◌∷◌, ◌++◌, length, get_or, map, All, Option, Some, None, inl, inr, refl, sym, ap, subst, append_assoc, length-append, arith}
use Rattle.std.specs.Prelude.{◌==◌, IsTrue, bytes_eq, codes, decimal, replicate}
use Rattle.std.specs.Char.{is_ascii_digit}
use Rattle.std.proofs.lemmas.Bool.{cases_Bool}
use Rattle.std.proofs.lemmas.Fmt.{decimal_digit}
use Rattle.std.proofs.lemmas.List.Elements.{All-append, All-cons, All-nil}
use Rattle.std.proofs.lemmas.List.Splits.{length-slice_split}
use Rattle.std.proofs.lemmas.List.Sums.{count_by-le-length}
use Rattle.std.proofs.lemmas.Option.{cond_some, same_Some}
use Rattle.std.proofs.lemmas.Slice.Eq.{bytes_eq-Decides}
use Rattle.coverage_db.specs.declared.db.Db.{Db}
use Rattle.coverage_db.specs.declared.db.DbInstance.{DbInstance}
use Rattle.coverage_db.specs.declared.db.DbPoint.{DbPoint}
use Rattle.coverage_db.specs.declared.address.Subject.{Subject}
use Rattle.coverage_db.specs.declared.address.Subject.TheVariants.{Line, Logic, Toggle, State, Arc, Word}
use Rattle.coverage_db.specs.declared.fault.DbFault.{DbFault}
use Rattle.coverage_db.specs.declared.fault.DbFault.TheVariants.{At, NoMemory}
use Rattle.coverage_db.specs.declared.fault.DbKind.TheVariants.{BadLine, WrongVersion, WrongCount, DbTooLong}
use Rattle.coverage_db.specs.declared.version.Version.TheVariants.{One, Two}
use Rattle.coverage_db.specs.Faults.{IsFault}
use Rattle.coverage_db.specs.Fields.{◌>>=◌, behind, is_plain, number_of, split_first}
use Rattle.coverage_db.specs.Table.{IsTable}
use Rattle.coverage_db.specs.Text.{IsTextOf, address_text, begins_point, count_line, ended, head_lines, instance_line, letter, lines_of, lines_to_points, point_line, source_lines, subject_fields, path_at, text_in, text_of, text_of_lines, top_line, window_count_line, window_line}
use Rattle.coverage_db.proofs.Lacking.{lacks_append, lacks_by}
use Rattle.coverage_db.proofs.Numbers.{decimal_plain, number_again, number_small, plain_all}
use Rattle.coverage_db.proofs.Splitting.{behind_again, behind_takes, lacks, pieces_split, split_again, split_shorter, split_takes}
use Rattle.coverage_db.proofs.WordLaws.{bind_some}
use Rattle.point_lookup.proofs.AddressFields.{address_whole}
use Rattle.point_lookup.proofs.Searching.{point_is}
use Rattle.db_tools.specs.Excluded.{Exclusion, IsExcludedText, IsExclusion, IsTextWith, addresses, marked, marked_addresses, opening, with_addresses}
use Rattle.db_tools.specs.Faults.{BeginsNewest, CountsOther, HasLine, HasNumber, IsAddressLine, IsExcludedFault, IsExcludedVersion, IsHeadFault, IsInsideFault, IsLineWithin, IsOpenFault, LacksCount, LacksNewest, Opens, Splits, is_count, moved}
use Rattle.db_tools.specs.Greedy.{IsMarkFault}
use Rattle.db_tools.specs.Reading.{address_parts, count_parts, version_parts}

-- ---- a line

-- a line and what is after it
pub one_line : (text line other rest others : List ℕ) → HasLine text line rest → HasLine text other others → (line ≡ other) × (rest ≡ others)
one_line text line other rest others one two =
    let same = same_Some (line, rest) (other, others) (sym one ∙ two) in
    (ap (λ (p : List ℕ × List ℕ). p.0) same, ap (λ (p : List ℕ × List ℕ). p.1) same)

line_then : (line rest : List ℕ) → ended line ++ rest ≡ line ++ 10 ∷ rest
line_then line rest = append_assoc line (10 ∷ []) rest

-- a text whose first line is one, as lines and what is after them
lines_then : (line : List ℕ) (lines : List (List ℕ)) (inner : List ℕ) → text_of_lines (line ∷ lines) ++ inner ≡ line ++ 10 ∷ (text_of_lines lines ++ inner)
lines_then line lines inner = append_assoc (ended line) (text_of_lines lines) inner ∙ line_then line (text_of_lines lines ++ inner)

has_line : (text line rest : List ℕ) → lacks 10 line ≡ true → text ≡ line ++ 10 ∷ rest → HasLine text line rest
has_line text line rest free whole = ap (split_first 10) whole ∙ split_again 10 line rest free

-- ---- lines of addresses

abbrev Ends : List ℕ → Type 0
Ends inner = (line rest : List ℕ) → HasLine inner line rest → begins_point line ≡ false

pub address_line : (text line rest : List ℕ) → HasLine text line rest → begins_point line ≡ true → IsAddressLine line
address_line text line rest has point =
    let parts = split_takes 10 text line rest has in
    record { point = point; whole = λ others. split_again 10 line others parts.lacking }

lines_apart : (lines others : List (List ℕ)) (inner outer : List ℕ) → All IsAddressLine lines → All IsAddressLine others → Ends inner → Ends outer → text_of_lines lines ++ inner ≡ text_of_lines others ++ outer → (lines ≡ others) × (inner ≡ outer)
lines_apart [] [] inner outer each every ends closes same = (refl, same)
lines_apart [] (m ∷ ms) inner outer each every ends closes same =
    let first = every 0 m (omega arith) in
    let rest = text_of_lines ms ++ outer in
    let has : HasLine inner m rest = ap (split_first 10) (same ∙ lines_then m ms outer) ∙ first.whole rest in
    let bad : true ≡ false = sym first.point ∙ ends m rest has in
    absurd cc
lines_apart (l ∷ ls) [] inner outer each every ends closes same =
    let first = each 0 l (omega arith) in
    let rest = text_of_lines ls ++ inner in
    let has : HasLine outer l rest = ap (split_first 10) (sym same ∙ lines_then l ls inner) ∙ first.whole rest in
    let bad : true ≡ false = sym first.point ∙ closes l rest has in
    absurd cc
lines_apart (l ∷ ls) (m ∷ ms) inner outer each every ends closes same =
    let first = each 0 l (omega arith) in
    let other = every 0 m (omega arith) in
    let a = text_of_lines ls ++ inner in
    let b = text_of_lines ms ++ outer in
    let whole : l ++ 10 ∷ a ≡ m ++ 10 ∷ b = sym (lines_then l ls inner) ∙ same ∙ lines_then m ms outer in
    let parts = one_line (l ++ 10 ∷ a) l m a b (first.whole a) (ap (split_first 10) whole ∙ other.whole b) in
    let more = lines_apart ls ms inner outer (λ k d within. each (suc k) d (omega (arith, within))) (λ k d within. every (suc k) d (omega (arith, within))) ends closes parts.1 in
    (ap (λ (x : List ℕ). x ∷ ls) parts.0 ∙ ap (λ (xs : List (List ℕ)). m ∷ xs) more.0, more.1)

pub lines_short : (lines : List (List ℕ)) → length lines ≤ length (text_of_lines lines)
lines_short [] = omega arith
lines_short (line ∷ lines) =
    let more = lines_short lines in
    let here = length-append (ended line) (text_of_lines lines) in
    let one = length-append line (10 ∷ []) in
    omega (arith, more, here, one)

-- ---- the opening

count_lacks : (digits : List ℕ) → IsTrue (is_count digits) → lacks 10 (codes "excluded " ++ digits) ≡ true
count_lacks digits count = lacks_append 10 (codes "excluded ") digits refl (lacks_by is_ascii_digit 10 digits refl (plain_all digits (is_plain_count digits count)))
  where
    is_plain_count : (digits : List ℕ) → IsTrue (is_count digits) → is_plain digits ≡ true
    is_plain_count digits count =
        elim (cases_Bool (is_plain digits)) [
          | inl plain ↦ plain
          | inr no_plain ↦ absurd (let bad : false ≡ true = rw no_plain at count in cc)
        ]

-- what is after the first line, and what is after the second
pub record OpenParts (text digits : List ℕ) (lines : List (List ℕ)) (inner : List ℕ) : Type 0 where
  pub first : HasLine text (codes "covered-ex 1") ((codes "excluded " ++ digits) ++ 10 ∷ (text_of_lines lines ++ inner))
  pub second : HasLine ((codes "excluded " ++ digits) ++ 10 ∷ (text_of_lines lines ++ inner)) (codes "excluded " ++ digits) (text_of_lines lines ++ inner)

opening_then : (digits : List ℕ) (lines : List (List ℕ)) (inner : List ℕ) → text_of_lines (opening digits lines) ++ inner ≡ codes "covered-ex 1" ++ 10 ∷ ((codes "excluded " ++ digits) ++ 10 ∷ (text_of_lines lines ++ inner))
opening_then digits lines inner =
    lines_then (codes "covered-ex 1") ((codes "excluded " ++ digits) ∷ lines) inner ∙ ap (λ (t : List ℕ). codes "covered-ex 1" ++ 10 ∷ t) (lines_then (codes "excluded " ++ digits) lines inner)

pub parts_of : (text digits : List ℕ) (lines : List (List ℕ)) (inner : List ℕ) → Opens text digits lines inner → OpenParts text digits lines inner
parts_of text digits lines inner opens = record {
  first = has_line text (codes "covered-ex 1") ((codes "excluded " ++ digits) ++ 10 ∷ (text_of_lines lines ++ inner)) refl (opens.whole ∙ opening_then digits lines inner);
  second = split_again 10 (codes "excluded " ++ digits) (text_of_lines lines ++ inner) (count_lacks digits opens.count);
}

-- the version, the number and the lines of addresses, read one after another
pub opens_by : (text rest digits after : List ℕ) (lines : List (List ℕ)) (inner : List ℕ) → HasLine text (codes "covered-ex 1") rest → HasNumber rest digits after → Splits after lines inner → Opens text digits lines inner
opens_by text rest digits after lines inner version number splits =
    let one = split_takes 10 text (codes "covered-ex 1") rest version in
    let two = split_takes 10 rest (codes "excluded " ++ digits) after number.line in
    record {
      whole = one.whole ∙ ap (λ (t : List ℕ). codes "covered-ex 1" ++ 10 ∷ t) (two.whole ∙ ap (λ (t : List ℕ). (codes "excluded " ++ digits) ++ 10 ∷ t) splits.whole) ∙ sym (opening_then digits lines inner);
      count = number.count;
      each = splits.each;
      ends = splits.ends;
    }

same_after : (front a b : List ℕ) → front ++ a ≡ front ++ b → a ≡ b
same_after front a b same = same_Some a b (sym (behind_again front a) ∙ ap (behind front) same ∙ behind_again front b)

-- a text has one opening
pub record SameOpening (digits other : List ℕ) (lines others : List (List ℕ)) (inner outer : List ℕ) : Type 0 where
  pub digits_are : digits ≡ other
  pub lines_are : lines ≡ others
  pub inner_is : inner ≡ outer

pub one_opening : (text digits other : List ℕ) (lines others : List (List ℕ)) (inner outer : List ℕ) → Opens text digits lines inner → Opens text other others outer → SameOpening digits other lines others inner outer
one_opening text digits other lines others inner outer one two =
    let p = parts_of text digits lines inner one in
    let q = parts_of text other others outer two in
    let rests = one_line text (codes "covered-ex 1") (codes "covered-ex 1") ((codes "excluded " ++ digits) ++ 10 ∷ (text_of_lines lines ++ inner)) ((codes "excluded " ++ other) ++ 10 ∷ (text_of_lines others ++ outer)) p.first q.first in
    let seconds = one_line ((codes "excluded " ++ digits) ++ 10 ∷ (text_of_lines lines ++ inner)) (codes "excluded " ++ digits) (codes "excluded " ++ other) (text_of_lines lines ++ inner) (text_of_lines others ++ outer) p.second (ap (split_first 10) rests.1 ∙ q.second) in
    let apart = lines_apart lines others inner outer one.each two.each one.ends two.ends seconds.1 in
    record { digits_are = same_after (codes "excluded ") digits other seconds.0; lines_are = apart.0; inner_is = apart.1 }

-- ---- what reading from the front gives

two_same : (line : List ℕ → List ℕ) (text first digits other rest others : List ℕ) → split_first 10 text ≡ Some (first, rest) → first ≡ line digits → ◌≡◌ {A = List ℕ × List ℕ} (digits, rest) (other, others) → HasLine text (line other) others
two_same line text first digits other rest others split is same =
    split ∙ ap (λ (l : List ℕ). Some (l, rest)) is ∙ ap (λ (p : List ℕ × List ℕ). Some (line p.0, p.1)) same

pub version_takes : (text digits rest : List ℕ) → version_parts text ≡ Some (digits, rest) → IsExcludedVersion text digits rest
unfolding version_parts
version_takes text digits rest e =
    let x0 = bind_some (split_first 10 text) (λ parts. behind (codes "covered-ex ") parts.0 >>= λ ds. cond (is_plain ds) (Some (ds, parts.1)) None) (digits, rest) e in
    let x1 = bind_some (behind (codes "covered-ex ") x0.0.0) (λ ds. cond (is_plain ds) (Some (ds, x0.0.1)) None) (digits, rest) x0.2 in
    let taken = cond_some (is_plain x1.0) (x1.0, x0.0.1) (digits, rest) x1.2 in
    let line = behind_takes (codes "covered-ex ") x0.0.0 x1.0 x1.1 in
    record {
      plain = ap (λ (p : List ℕ × List ℕ). is_plain p.0) (sym taken.1) ∙ taken.0;
      line = two_same (λ ds. codes "covered-ex " ++ ds) text x0.0.0 x1.0 digits x0.0.1 rest x0.1 line taken.1;
    }

pub version_again : (text digits rest : List ℕ) → IsExcludedVersion text digits rest → version_parts text ≡ Some (digits, rest)
unfolding version_parts
version_again text digits rest is = let plain : is_plain digits ≡ true = is.plain in rw (is.line, plain) refl

pub version_shorter : (text digits rest : List ℕ) → IsExcludedVersion text digits rest → length rest < length text
version_shorter text digits rest version = split_shorter 10 text (codes "covered-ex " ++ digits) rest version.line

pub no_version : (text digits rest : List ℕ) → version_parts text ≡ None → IsExcludedVersion text digits rest → ⊥
no_version text digits rest none is = let bad : ◌≡◌ {A = Option (List ℕ × List ℕ)} None (Some (digits, rest)) = sym none ∙ version_again text digits rest is in cc

pub count_takes : (text digits rest : List ℕ) → count_parts text ≡ Some (digits, rest) → HasNumber text digits rest
unfolding count_parts
count_takes text digits rest e =
    let x0 = bind_some (split_first 10 text) (λ parts. behind (codes "excluded ") parts.0 >>= λ ds. cond (is_count ds) (Some (ds, parts.1)) None) (digits, rest) e in
    let x1 = bind_some (behind (codes "excluded ") x0.0.0) (λ ds. cond (is_count ds) (Some (ds, x0.0.1)) None) (digits, rest) x0.2 in
    let taken = cond_some (is_count x1.0) (x1.0, x0.0.1) (digits, rest) x1.2 in
    let line = behind_takes (codes "excluded ") x0.0.0 x1.0 x1.1 in
    record {
      count = ap (λ (p : List ℕ × List ℕ). is_count p.0) (sym taken.1) ∙ taken.0;
      line = two_same (λ ds. codes "excluded " ++ ds) text x0.0.0 x1.0 digits x0.0.1 rest x0.1 line taken.1;
    }

count_again : (text digits rest : List ℕ) → HasNumber text digits rest → count_parts text ≡ Some (digits, rest)
unfolding count_parts
count_again text digits rest is = let count : is_count digits ≡ true = is.count in rw (is.line, count) refl

pub no_count : (text digits rest : List ℕ) → count_parts text ≡ None → HasNumber text digits rest → ⊥
no_count text digits rest none is = let bad : ◌≡◌ {A = Option (List ℕ × List ℕ)} None (Some (digits, rest)) = sym none ∙ count_again text digits rest is in cc

-- what an address takes
pub record TookAddress (text line rest : List ℕ) : Type 0 where
  pub first : HasLine text line rest
  pub point : begins_point line ≡ true

pub address_takes : (text line rest : List ℕ) → address_parts text ≡ Some (line, rest) → TookAddress text line rest
unfolding address_parts
address_takes text line rest e =
    let x0 = bind_some (split_first 10 text) (λ parts. cond (begins_point parts.0) (Some parts) None) (line, rest) e in
    let taken = cond_some (begins_point x0.0.0) x0.0 (line, rest) x0.2 in
    record { first = x0.1 ∙ ap Some taken.1; point = ap (λ (p : List ℕ × List ℕ). begins_point p.0) (sym taken.1) ∙ taken.0 }

pub no_address_left : (text line rest : List ℕ) → address_parts text ≡ None → HasLine text line rest → begins_point line ≡ false
unfolding address_parts
no_address_left text line rest none has =
    elim (cases_Bool (begins_point line)) [
      | inl begins ↦ absurd (let bad : ◌≡◌ {A = Option (List ℕ × List ℕ)} (Some (line, rest)) None = rw (has, begins) at none in cc)
      | inr other ↦ other
    ]

-- the lines of addresses that were split off
pub record Gathers (text : List ℕ) (lines : List (List ℕ)) (rest : List ℕ) : Type 0 where
  pub whole : text ≡ text_of_lines lines ++ rest
  pub each : All IsAddressLine lines

pub gathers_none : (text : List ℕ) → Gathers text [] text
gathers_none text = record { whole = refl; each = All-nil IsAddressLine }

lines_push : (lines : List (List ℕ)) (line after : List ℕ) → text_of_lines (lines ++ line ∷ []) ++ after ≡ text_of_lines lines ++ (line ++ 10 ∷ after)
lines_push [] line after = lines_then line [] after
lines_push (first ∷ lines) line after =
    append_assoc (ended first) (text_of_lines (lines ++ line ∷ [])) after
    ∙ ap (λ (t : List ℕ). ended first ++ t) (lines_push lines line after)
    ∙ sym (append_assoc (ended first) (text_of_lines lines) (line ++ 10 ∷ after))

pub gathers_more : (text rest line after : List ℕ) (lines : List (List ℕ)) → Gathers text lines rest → address_parts rest ≡ Some (line, after) → Gathers text (lines ++ line ∷ []) after
gathers_more text rest line after lines has next =
    let took = address_takes rest line after next in
    let parts = split_takes 10 rest line after took.first in
    record {
      whole = has.whole ∙ ap (λ (t : List ℕ). text_of_lines lines ++ t) parts.whole ∙ sym (lines_push lines line after);
      each = All-append IsAddressLine lines (line ∷ []) has.each (All-cons IsAddressLine line [] (address_line rest line after took.first took.point) (All-nil IsAddressLine));
    }

pub gathers_less : (rest line after : List ℕ) → address_parts rest ≡ Some (line, after) → length after < length rest
gathers_less rest line after next = split_shorter 10 rest line after (address_takes rest line after next).first

pub gathers_all : (text rest : List ℕ) (lines : List (List ℕ)) → Gathers text lines rest → address_parts rest ≡ None → Splits text lines rest
gathers_all text rest lines has none = record { whole = has.whole; each = has.each; ends = λ line after is. no_address_left rest line after none is }

-- ---- what is wrong with the number of addresses, and with the line after them

pub cut_after : (digits : List ℕ) (lines : List (List ℕ)) (inner : List ℕ) → split_first 10 inner ≡ None → LacksNewest digits lines inner
cut_after digits lines inner none begins = let bad : ◌≡◌ {A = Option (List ℕ × List ℕ)} None (Some (codes "covered-db 2", begins.0)) = sym none ∙ begins.1 in cc

pub other_after : (digits : List ℕ) (lines : List (List ℕ)) (inner line rest : List ℕ) → HasLine inner line rest → bytes_eq line (codes "covered-db 2") ≡ false → LacksNewest digits lines inner
other_after digits lines inner line rest has other begins =
    let same = one_line inner line (codes "covered-db 2") rest begins.0 has begins.1 in
    let bad : false ≡ true = sym other ∙ (bytes_eq-Decides line (codes "covered-db 2")).1 same.0 in
    cc

pub newest_after : (inner line rest : List ℕ) → HasLine inner line rest → bytes_eq line (codes "covered-db 2") ≡ true → BeginsNewest inner
newest_after inner line rest has is = (rest, has ∙ ap (λ (l : List ℕ). Some (l, rest)) ((bytes_eq-Decides line (codes "covered-db 2")).0 is))

pub other_number : (digits : List ℕ) (lines : List (List ℕ)) (inner line rest : List ℕ) (count : ℕ) → HasLine inner line rest → count ≡ length lines → bytes_eq digits (decimal count) ≡ false → CountsOther digits lines inner
other_number digits lines inner line rest count has is other = (
  λ same. let bad : false ≡ true = sym other ∙ (bytes_eq-Decides digits (decimal count)).1 (same ∙ ap decimal (sym is)) in cc,
  (line, rest, has),
)

-- ---- the first line of a table

-- the lines after the version of a text of the newest version
pub newest_rest : Db → List ℕ
newest_rest db =
    text_of_lines ((((top_line db.top ∷ source_lines 1 db.sources ++ map instance_line db.instances) ++ count_line (decimal (length db.points)) ∷ map (point_line db.instances) db.points) ++ window_count_line (decimal (length db.windows)) ∷ map window_line db.windows) ++ codes "end" ∷ [])

older_rest : Db → List ℕ
older_rest db = text_of_lines (((top_line db.top ∷ source_lines 1 db.sources ++ map instance_line db.instances) ++ count_line (decimal (length db.points)) ∷ map (point_line db.instances) db.points) ++ codes "end" ∷ [])

pub newest_line : (db : Db) → HasLine (text_of db) (codes "covered-db 2") (newest_rest db)
unfolding newest_rest
newest_line db = split_again 10 (codes "covered-db 2") (newest_rest db) refl

older_line : (db : Db) → HasLine (text_in One db) (codes "covered-db 1") (older_rest db)
unfolding older_rest
older_line db = split_again 10 (codes "covered-db 1") (older_rest db) refl

pub begins_newest : (db : Db) (inner : List ℕ) → inner ≡ text_of db → BeginsNewest inner
begins_newest db inner is = (newest_rest db, ap (split_first 10) is ∙ newest_line db)

-- a text that begins as one of the newest version is not of version 1
pub newest_text : (db : Db) (inner : List ℕ) → BeginsNewest inner → IsTextOf db inner → inner ≡ text_of db
newest_text db inner begins (inl newest) = newest
newest_text db inner begins (inr older) =
    let has : HasLine inner (codes "covered-db 1") (older_rest db) = ap (split_first 10) older.1 ∙ older_line db in
    let same = one_line inner (codes "covered-db 2") (codes "covered-db 1") begins.0 (older_rest db) begins.1 has in
    let bad : false ≡ true = ap (λ (line : List ℕ). bytes_eq line (codes "covered-db 1")) same.0 in
    absurd cc

plain_or_excluded : (line digits : List ℕ) → behind (codes "covered-ex ") line ≡ None → line ≡ codes "covered-ex " ++ digits → ⊥
plain_or_excluded line digits none is = let bad : ◌≡◌ {A = Option (List ℕ)} None (Some digits) = sym none ∙ ap (behind (codes "covered-ex ")) is ∙ behind_again (codes "covered-ex ") digits in cc

-- a plain text is no excluded text
pub plain_apart : (db : Db) (text digits rest : List ℕ) → IsTextOf db text → IsExcludedVersion text digits rest → ⊥
plain_apart db text digits rest (inl newest) version =
    let has : HasLine text (codes "covered-db 2") (newest_rest db) = ap (split_first 10) newest ∙ newest_line db in
    let same = one_line text (codes "covered-db 2") (codes "covered-ex " ++ digits) (newest_rest db) rest has version.line in
    plain_or_excluded (codes "covered-db 2") digits refl same.0
plain_apart db text digits rest (inr older) version =
    let has : HasLine text (codes "covered-db 1") (older_rest db) = ap (split_first 10) older.1 ∙ older_line db in
    let same = one_line text (codes "covered-db 1") (codes "covered-ex " ++ digits) (older_rest db) rest has version.line in
    plain_or_excluded (codes "covered-db 1") digits refl same.0

-- ---- the text of a table with excluded points

point_letter : (s : Subject) (rest : List ℕ) → begins_point (letter s ∷ 32 ∷ rest) ≡ true
point_letter (Line n at word) rest = refl
point_letter (Logic n at op c) rest = refl
point_letter (Toggle name index rise) rest = refl
point_letter (State name state) rest = refl
point_letter (Arc name from to) rest = refl
point_letter (Word name index write) rest = refl

point_address_line : (db : Db) (k : ℕ) (d : DbPoint) → IsTable db → k < length db.points → IsAddressLine (address_text db.instances (get_or db.points k d).address)
point_address_line db k d t within =
    let a = (get_or db.points k d).address in
    record {
      point = point_letter a.subject (path_at db.instances a.instance ++ 32 ∷ subject_fields a.subject);
      whole = λ rest. split_again 10 (address_text db.instances a) rest (address_whole (length db.sources) db.instances a (point_is db k d t within));
    }

marked_lines : (instances : List DbInstance) (ps : List DbPoint) (marks : List Bool) → ((k : ℕ) (d : DbPoint) → k < length ps → IsAddressLine (address_text instances (get_or ps k d).address)) → All IsAddressLine (map (λ p. address_text instances p.address) (marked ps marks))
marked_lines instances [] marks each = All-nil IsAddressLine
marked_lines instances (p ∷ ps) [] each = All-nil IsAddressLine
marked_lines instances (p ∷ ps) (true ∷ marks) each =
    All-cons IsAddressLine (address_text instances p.address) (map (λ q. address_text instances q.address) (marked ps marks)) (each 0 p (omega arith)) (marked_lines instances ps marks (λ k d within. each (suc k) d (omega (arith, within))))
marked_lines instances (p ∷ ps) (false ∷ marks) each = marked_lines instances ps marks (λ k d within. each (suc k) d (omega (arith, within)))

marked_few : (instances : List DbInstance) (ps : List DbPoint) (marks : List Bool) → length (map (λ p. address_text instances p.address) (marked ps marks)) ≤ length ps
marked_few instances [] marks = omega arith
marked_few instances (p ∷ ps) [] = omega arith
marked_few instances (p ∷ ps) (true ∷ marks) = let more = marked_few instances ps marks in omega (arith, more)
marked_few instances (p ∷ ps) (false ∷ marks) = let more = marked_few instances ps marks in omega (arith, more)

not_zero : (n : ℕ) → 0 < n → n < 2 ^ 32 → bytes_eq (decimal n) (codes "0") ≡ false
not_zero n some few =
    elim (cases_Bool (bytes_eq (decimal n) (codes "0"))) [
      | inl is ↦ absurd (
          let same : decimal n ≡ codes "0" = (bytes_eq-Decides (decimal n) (codes "0")).0 is in
          let there = number_again 1 4294967295 n (omega arith) (omega (arith, some)) (omega (arith, few)) in
          let none = number_small 1 4294967295 0 (codes "0") refl refl (omega arith) in
          let bad : ◌≡◌ {A = Option ℕ} (Some n) None = sym there ∙ ap (number_of 1 4294967295) same ∙ none in
          cc)
      | inr other ↦ other
    ]

count_is : (n : ℕ) → 0 < n → n < 2 ^ 32 → IsTrue (is_count (decimal n))
count_is n some few = rw (decimal_plain n (omega (arith, few)), not_zero n some few) refl

newest_ends : (db : Db) → Ends (text_of db)
newest_ends db line rest has =
    let same = one_line (text_of db) (codes "covered-db 2") line (newest_rest db) rest (newest_line db) has in
    ap begins_point (sym same.0)

-- the text of a table with some excluded points opens with their addresses
pub text_opens : (table : Db) (marks : List Bool) (lines : List (List ℕ)) (text : List ℕ) → IsTable table → marked_addresses table marks ≡ lines → 0 < length lines → text ≡ with_addresses lines (text_of table) → Opens text (decimal (length lines)) lines (text_of table)
text_opens table marks [] text t named some is = absurd (omega (arith, some))
text_opens table marks (first ∷ others) text t named some is =
    let few = marked_few table.instances table.points marks in
    let same = ap length named in
    record {
      whole = is;
      count = count_is (length (first ∷ others)) some (omega (arith, few, same, t.lines));
      each = subst (All IsAddressLine) named (marked_lines table.instances table.points marks (λ k d within. point_address_line table k d t within));
      ends = newest_ends table;
    }

-- an excluded text begins with the line of its version
pub opens_version : (text digits : List ℕ) (lines : List (List ℕ)) (inner : List ℕ) → Opens text digits lines inner → (rest : List ℕ) × IsExcludedVersion text (codes "1") rest
opens_version text digits lines inner opens =
    let p = parts_of text digits lines inner opens in
    ((codes "excluded " ++ digits) ++ 10 ∷ (text_of_lines lines ++ inner), record { plain = refl; line = p.first })

-- ---- faults

-- what is wrong with the lines before a table is wrong with the text
pub open_fault : (text : List ℕ) (fault : DbFault) → IsOpenFault text fault → IsExcludedFault text fault
open_fault text NoMemory is = tt
open_fault text (At BadLine (Some number)) (inl lacks) = inl lacks
open_fault text (At BadLine (Some number)) (inr inside) = inr (inl inside)
open_fault text (At WrongCount (Some number)) counts = inl counts
open_fault text (At WrongVersion (Some number)) is = absurd is
open_fault text (At DbTooLong (Some number)) is = absurd is
open_fault text (At BadLine None) is = absurd is
open_fault text (At WrongCount None) is = absurd is
open_fault text (At WrongVersion None) is = absurd is
open_fault text (At DbTooLong None) is = absurd is

pub inside_fault : (text digits : List ℕ) (lines : List (List ℕ)) (inner : List ℕ) (fault : DbFault) → Opens text digits lines inner → IsInsideFault digits lines inner fault → IsExcludedFault text fault
inside_fault text digits lines inner NoMemory opens is = tt
inside_fault text digits lines inner (At BadLine (Some number)) opens (inl has) = inr (inr (inl (digits, lines, inner, opens, has)))
inside_fault text digits lines inner (At BadLine (Some number)) opens (inr names) = inr (inr (inr (digits, lines, inner, opens, names)))
inside_fault text digits lines inner (At WrongCount (Some number)) opens has = inr (digits, lines, inner, opens, has)
inside_fault text digits lines inner (At WrongVersion (Some number)) opens is = absurd is
inside_fault text digits lines inner (At DbTooLong (Some number)) opens is = absurd is
inside_fault text digits lines inner (At BadLine None) opens is = absurd is
inside_fault text digits lines inner (At WrongCount None) opens is = absurd is
inside_fault text digits lines inner (At WrongVersion None) opens is = absurd is
inside_fault text digits lines inner (At DbTooLong None) opens is = absurd is

-- nothing is wrong with the lines before the table of a text that has them
pub nothing_open : (text : List ℕ) (lines : List (List ℕ)) (inner : List ℕ) (fault : DbFault) → Opens text (decimal (length lines)) lines inner → BeginsNewest inner → IsOpenFault text fault → fault ≡ NoMemory
nothing_open text lines inner NoMemory opens newest is = refl
nothing_open text lines inner (At BadLine (Some number)) opens newest (inl bad) =
    let p = parts_of text (decimal (length lines)) lines inner opens in
    let same = one_line text (codes "covered-ex 1") (codes "covered-ex 1") ((codes "excluded " ++ decimal (length lines)) ++ 10 ∷ (text_of_lines lines ++ inner)) bad.1.rest p.first bad.1.version in
    absurd (bad.1.none (decimal (length lines)) (text_of_lines lines ++ inner) (record { count = opens.count; line = ap (split_first 10) (sym same.1) ∙ p.second }))
nothing_open text lines inner (At BadLine (Some number)) opens newest (inr (digits, others, outer, other, is)) =
    let same = one_opening text (decimal (length lines)) digits lines others inner outer opens other in
    absurd (is.1 (subst BeginsNewest same.inner_is newest))
nothing_open text lines inner (At WrongCount (Some number)) opens newest (two, (digits, others, outer, other, is)) =
    let same = one_opening text (decimal (length lines)) digits lines others inner outer opens other in
    absurd (is.0 (sym same.digits_are ∙ ap (λ (ls : List (List ℕ)). decimal (length ls)) same.lines_are))
nothing_open text lines inner (At WrongVersion (Some number)) opens newest is = absurd is
nothing_open text lines inner (At DbTooLong (Some number)) opens newest is = absurd is
nothing_open text lines inner (At BadLine None) opens newest is = absurd is
nothing_open text lines inner (At WrongCount None) opens newest is = absurd is
nothing_open text lines inner (At WrongVersion None) opens newest is = absurd is
nothing_open text lines inner (At DbTooLong None) opens newest is = absurd is

-- what is wrong with the head is wrong with the lines of the text
pub head_fault : (text digits : List ℕ) (lines : List (List ℕ)) (inner : List ℕ) (fault : DbFault) → Opens text digits lines inner → IsHeadFault digits lines inner fault → IsOpenFault text fault
head_fault text digits lines inner NoMemory opens is = tt
head_fault text digits lines inner (At BadLine (Some number)) opens is = inr (digits, lines, inner, opens, is)
head_fault text digits lines inner (At WrongCount (Some number)) opens is = (is.0, (digits, lines, inner, opens, is.1))
head_fault text digits lines inner (At WrongVersion (Some number)) opens is = absurd is
head_fault text digits lines inner (At DbTooLong (Some number)) opens is = absurd is
head_fault text digits lines inner (At BadLine None) opens is = absurd is
head_fault text digits lines inner (At WrongCount None) opens is = absurd is
head_fault text digits lines inner (At WrongVersion None) opens is = absurd is
head_fault text digits lines inner (At DbTooLong None) opens is = absurd is

-- ---- the number of the line of a fault

few_lines : (text : List ℕ) → length (lines_of text) ≤ length text + 1
few_lines text = omega (arith, length-slice_split (λ byte. byte == 10) text, count_by-le-length (λ byte. byte == 10) text)

cut_few : (text : List ℕ) (before others : List (List ℕ)) → lines_of text ≡ before ++ others → length before ≤ length text + 1
cut_few text before others split =
    let few = few_lines text in
    let whole = ap (λ (ls : List (List ℕ)). length ls) split in
    let parts = length-append before others in
    omega (arith, few, whole, parts)

pub line_low : (text : List ℕ) (fault : DbFault) → IsFault text fault → IsLineWithin (λ line. line ≤ length text + 2) fault
line_low text NoMemory is = tt
line_low text (At kind None) is = tt
line_low text (At BadLine (Some number)) is = let few = cut_few text is.before is.rest is.split in omega (arith, few, is.number_is)
line_low text (At WrongVersion (Some number)) is = omega (arith, is.1)
line_low text (At WrongCount (Some number)) (inl is) =
    let head = head_lines is.version is.db in
    let more = count_line is.digits ∷ map (point_line is.db.instances) is.db.points in
    let split : lines_of text ≡ head ++ (more ++ is.line ∷ is.next ∷ is.others) = is.split ∙ append_assoc head more (is.line ∷ is.next ∷ is.others) in
    let few = cut_few text head (more ++ is.line ∷ is.next ∷ is.others) split in
    omega (arith, few, is.number_is)
line_low text (At WrongCount (Some number)) (inr is) =
    let head = lines_to_points Two (decimal (length is.db.points)) is.db in
    let more = window_count_line is.digits ∷ map window_line is.db.windows in
    let split : lines_of text ≡ head ++ (more ++ is.line ∷ is.next ∷ is.others) = is.split ∙ append_assoc head more (is.line ∷ is.next ∷ is.others) in
    let few = cut_few text head (more ++ is.line ∷ is.next ∷ is.others) split in
    omega (arith, few, is.number_is)
line_low text (At DbTooLong (Some number)) is = absurd is

-- ---- the fault of the table after the addresses

newer_digits : (inner : List ℕ) (digits next : List ℕ) (others : List (List ℕ)) → BeginsNewest inner → lines_of inner ≡ (codes "covered-db " ++ digits) ∷ next ∷ others → digits ≡ codes "2"
newer_digits inner digits next others begins split =
    let first : lines_of inner ≡ codes "covered-db 2" ∷ lines_of begins.0 = pieces_split 10 inner (codes "covered-db 2") begins.0 begins.1 in
    let same = ap (λ (ls : List (List ℕ)). get_or ls 0 []) (sym first ∙ split) in
    same_after (codes "covered-db ") digits (codes "2") (sym same)

pub moved_fault : (inner digits : List ℕ) (lines : List (List ℕ)) (fault : DbFault) → BeginsNewest inner → length inner ≤ 2147483648 → IsFault inner fault → IsInsideFault digits lines inner (moved (2 + length lines) fault)
moved_fault inner digits lines NoMemory begins short is = tt
moved_fault inner digits lines (At BadLine (Some number)) begins short is = inl (number, refl, begins, is)
moved_fault inner digits lines (At WrongVersion (Some number)) begins short is = absurd (is.0.newer (newer_digits inner is.0.digits is.0.next is.0.others begins is.0.split))
moved_fault inner digits lines (At WrongCount (Some number)) begins short is = (number, refl, begins, is)
moved_fault inner digits lines (At DbTooLong None) begins short is = absurd (omega (arith, short, is))
moved_fault inner digits lines (At BadLine None) begins short is = absurd is
moved_fault inner digits lines (At WrongVersion None) begins short is = absurd is
moved_fault inner digits lines (At WrongCount None) begins short is = absurd is
moved_fault inner digits lines (At DbTooLong (Some number)) begins short is = absurd is

-- ---- what the functions of reading give

pub number_is : (digits : List ℕ) (count : ℕ) → bytes_eq digits (decimal count) ≡ true → digits ≡ decimal count
number_is digits count same = (bytes_eq-Decides digits (decimal count)).0 same

-- the head of a text with this first line
pub head_opens : (text rest digits after : List ℕ) (lines : List (List ℕ)) (inner : List ℕ) → HasLine text (codes "covered-ex 1") rest → HasNumber rest digits after → Splits after lines inner → digits ≡ decimal (length lines) → Opens text (decimal (length lines)) lines inner
head_opens text rest digits after lines inner version number splits is =
    subst (λ (ds : List ℕ). Opens text ds lines inner) is (opens_by text rest digits after lines inner version number splits)

pub head_short : (rest digits after : List ℕ) (lines : List (List ℕ)) (inner : List ℕ) → HasNumber rest digits after → Splits after lines inner → length lines + length inner ≤ length rest
head_short rest digits after lines inner number splits =
    let parts = split_takes 10 rest (codes "excluded " ++ digits) after number.line in
    let whole = ap length parts.whole in
    let first = length-append (codes "excluded " ++ digits) (10 ∷ after) in
    let second = ap length splits.whole in
    let third = length-append (text_of_lines lines) inner in
    let short = lines_short lines in
    omega (arith, whole, first, second, third, short)

-- no number of addresses after the first line
pub lacks_count : (text rest : List ℕ) → HasLine text (codes "covered-ex 1") rest → count_parts rest ≡ None → LacksCount text
lacks_count text rest version none = record { rest = rest; version = version; none = λ digits others is. no_count rest digits others none is }

-- the version of a text with these digits is 1
pub version_one : (text digits rest : List ℕ) → digits ≡ codes "1" → IsExcludedVersion text digits rest → HasLine text (codes "covered-ex 1") rest
version_one text digits rest is version = subst (λ (ds : List ℕ). HasLine text (codes "covered-ex " ++ ds) rest) is version.line

-- the version of the text of a table with excluded points is 1
pub version_of_opening : (text digits rest count : List ℕ) (lines : List (List ℕ)) (inner : List ℕ) → IsExcludedVersion text digits rest → Opens text count lines inner → digits ≡ codes "1"
version_of_opening text digits rest count lines inner version opens =
    let one = opens_version text count lines inner opens in
    let same = one_line text (codes "covered-ex " ++ digits) (codes "covered-ex 1") rest one.0 version.line one.1.line in
    same_after (codes "covered-ex ") digits (codes "1") same.0

-- a text of a table with excluded points that has the line of a version opens with addresses, some of them
pub record IsOpening (e : Exclusion) (text : List ℕ) : Type 0 where
  pub lines : List (List ℕ)
  pub named : addresses e ≡ lines
  pub opens : Opens text (decimal (length lines)) lines (text_of e.table)

opening_by : (e : Exclusion) (text digits rest : List ℕ) (lines : List (List ℕ)) → IsExclusion e → addresses e ≡ lines → IsTextWith lines e.table text → IsExcludedVersion text digits rest → IsOpening e text
opening_by e text digits rest [] is named spelled version = absurd (plain_apart e.table text digits rest spelled version)
opening_by e text digits rest (line ∷ lines) is named spelled version =
    record { lines = line ∷ lines; named = named; opens = text_opens e.table e.marks (line ∷ lines) text is.table named (omega arith) spelled }

pub opening_of : (e : Exclusion) (text digits rest : List ℕ) → IsExclusion e → IsExcludedText e text → IsExcludedVersion text digits rest → IsOpening e text
opening_of e text digits rest is spelled version = opening_by e text digits rest (addresses e) is refl spelled version

-- a text that opens with addresses, some of them, and then has the text of the table
text_by : (lines : List (List ℕ)) (table : Db) (text inner : List ℕ) → Opens text (decimal (length lines)) lines inner → inner ≡ text_of table → 0 < length lines → IsTextWith lines table text
text_by [] table text inner opens is some = absurd (omega (arith, some))
text_by (line ∷ lines) table text inner opens is some = opens.whole ∙ ap (λ (t : List ℕ). text_of_lines (opening (decimal (length (line ∷ lines))) (line ∷ lines)) ++ t) is

some_lines : (lines : List (List ℕ)) → IsTrue (is_count (decimal (length lines))) → 0 < length lines
some_lines [] count =
    let zero : decimal 0 ≡ codes "0" = decimal_digit 0 (omega arith) in
    let bad : false ≡ true = sym (ap is_count zero) ∙ count in
    absurd cc
some_lines (line ∷ lines) count = omega arith

pub excluded_by : (e : Exclusion) (text inner : List ℕ) (lines : List (List ℕ)) → Opens text (decimal (length lines)) lines inner → addresses e ≡ lines → inner ≡ text_of e.table → IsExcludedText e text
excluded_by e text inner lines opens named is =
    subst (λ (ls : List (List ℕ)). IsTextWith ls e.table text) (sym named) (text_by lines e.table text inner opens is (some_lines lines opens.count))

-- a plain text is of a table without excluded points
plain_by : (e : Exclusion) (text : List ℕ) (lines : List (List ℕ)) → IsExclusion e → addresses e ≡ lines → IsTextWith lines e.table text → ((digits rest : List ℕ) → IsExcludedVersion text digits rest → ⊥) → (addresses e ≡ []) × IsTextOf e.table text
plain_by e text [] is named spelled none = (named, spelled)
plain_by e text (line ∷ lines) is named spelled none =
    let opens = text_opens e.table e.marks (line ∷ lines) text is.table named (omega arith) spelled in
    let version = opens_version text (decimal (length (line ∷ lines))) (line ∷ lines) (text_of e.table) opens in
    absurd (none (codes "1") version.0 version.1)

pub plain_of : (e : Exclusion) (text : List ℕ) → IsExclusion e → IsExcludedText e text → ((digits rest : List ℕ) → IsExcludedVersion text digits rest → ⊥) → (addresses e ≡ []) × IsTextOf e.table text
plain_of e text is spelled none = plain_by e text (addresses e) is refl spelled none

pub plain_text : (e : Exclusion) (text : List ℕ) → addresses e ≡ [] → IsTextOf e.table text → IsExcludedText e text
plain_text e text none is = subst (λ (ls : List (List ℕ)). IsTextWith ls e.table text) (sym none) is

-- marks of which none is set exclude no point
pub no_marks : (db : Db) (count : ℕ) → marked_addresses db (replicate count false) ≡ []
no_marks db count = ap (map (λ p. address_text db.instances p.address)) (none db.points count)
  where
    none : (ps : List DbPoint) (count : ℕ) → marked ps (replicate count false) ≡ []
    none [] count = refl
    none (p ∷ ps) zero = refl
    none (p ∷ ps) (suc count) = none ps count

pub first_digits : (digits : List ℕ) → bytes_eq digits (codes "1") ≡ true → digits ≡ codes "1"
first_digits digits same = (bytes_eq-Decides digits (codes "1")).0 same

pub other_digits : (digits : List ℕ) → bytes_eq digits (codes "1") ≡ false → digits ≢ codes "1"
other_digits digits other same = let bad : false ≡ true = sym other ∙ (bytes_eq-Decides digits (codes "1")).1 same in cc

-- the line of a fault of the table fits after the lines before it
pub line_fits : (inner : List ℕ) (fault : DbFault) (before : ℕ) → before + length inner + 2 < 2 ^ 32 → IsFault inner fault → IsLineWithin (λ line. before + line < 2 ^ 32) fault
line_fits inner NoMemory before fits is = tt
line_fits inner (At kind None) before fits is = tt
line_fits inner (At kind (Some line)) before fits is = let low = line_low inner (At kind (Some line)) is in omega (arith, fits, low)

-- a fault of the addresses
pub mark_fault : (digits : List ℕ) (lines : List (List ℕ)) (inner : List ℕ) (table : Db) (fault : DbFault) → IsTable table → inner ≡ text_of table → IsMarkFault table lines fault → IsInsideFault digits lines inner fault
mark_fault digits lines inner table NoMemory t is found = tt
mark_fault digits lines inner table (At BadLine (Some number)) t is found = inr (table, found.0, t, is, found.2, found.1)
mark_fault digits lines inner table (At WrongCount (Some number)) t is found = absurd found
mark_fault digits lines inner table (At WrongVersion (Some number)) t is found = absurd found
mark_fault digits lines inner table (At DbTooLong (Some number)) t is found = absurd found
mark_fault digits lines inner table (At BadLine None) t is found = absurd found
mark_fault digits lines inner table (At WrongCount None) t is found = absurd found
mark_fault digits lines inner table (At WrongVersion None) t is found = absurd found
mark_fault digits lines inner table (At DbTooLong None) t is found = absurd found

-- tables with the same marks are one
pub one_made : (e made : Exclusion) → made.table ≡ e.table → made.marks ≡ e.marks → made ≡ e
one_made e made tables marks =
    let first : made ≡ record made { marks = e.marks } = ap (λ (m : List Bool). record made { marks = m }) marks in
    first ∙ ap (λ (t : Db). record e { table = t }) tables

-- where no point is excluded, no mark is set
unset : (instances : List DbInstance) (ps : List DbPoint) (marks : List Bool) → length marks ≡ length ps → map (λ p. address_text instances p.address) (marked ps marks) ≡ [] → marks ≡ replicate (length ps) false
unset instances [] [] long none = refl
unset instances [] (mark ∷ marks) long none = absurd (omega (arith, long))
unset instances (p ∷ ps) [] long none = absurd (omega (arith, long))
unset instances (p ∷ ps) (true ∷ marks) long none = absurd cc
unset instances (p ∷ ps) (false ∷ marks) long none = ap (λ (ms : List Bool). false ∷ ms) (unset instances ps marks (omega (arith, long)) none)

pub plain_same : (e made : Exclusion) (count : ℕ) → IsExclusion e → addresses e ≡ [] → made.table ≡ e.table → made.marks ≡ replicate count false → count ≡ length e.table.points → made ≡ e
plain_same e made count is none tables marks counted =
    let same : made.marks ≡ e.marks = marks ∙ ap (λ (n : ℕ). replicate n false) counted ∙ sym (unset e.table.instances e.table.points e.marks is.long none) in
    one_made e made tables same
