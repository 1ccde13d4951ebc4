-- The items that have a mark, one place after another.
use Rattle.std.proofs.Common.{◌≡◌, ℕ, suc, ◌+◌, ◌<◌, Bool, true, false, List, [], ◌∷◌, ◌++◌, length, drop, get_or, refl, ◌∙◌, arith}
use Rattle.std.specs.Prelude.{codes, count_by, decimal}
use Rattle.std.specs.List.{filter}
use Rattle.std.proofs.lemmas.List.Sums.{length-filter}
use Rattle.std.proofs.Math.Seq.{drop-cons}
use Rattle.std.proofs.lemmas.List.{length-map}
use Rattle.coverage_db.specs.Text.{address_text, text_of, text_of_lines}
use Rattle.db_tools.specs.Excluded.{Exclusion, marked, unmarked, addresses, with_addresses, excluded_text, opening}

drop_here : {X : Type 0} (xs : List X) (i : ℕ) (d : X) → i < length xs → drop i xs ≡ get_or xs i d ∷ drop (i + 1) xs
drop_here xs i d within = let one : i + 1 ≡ suc i = omega arith in rw one (drop-cons xs i d within)

pub marked_yes : {X : Type 0} (xs : List X) (marks : List Bool) (i : ℕ) (d : X) → i < length xs → i < length marks → get_or marks i false ≡ true
    → marked (drop i xs) (drop i marks) ≡ get_or xs i d ∷ marked (drop (i + 1) xs) (drop (i + 1) marks)
marked_yes xs marks i d here there set-is = rw (drop_here xs i d here, drop_here marks i false there, set-is) refl

pub marked_no : {X : Type 0} (xs : List X) (marks : List Bool) (i : ℕ) (d : X) → i < length xs → i < length marks → get_or marks i false ≡ false
    → marked (drop i xs) (drop i marks) ≡ marked (drop (i + 1) xs) (drop (i + 1) marks)
marked_no xs marks i d here there set-is = rw (drop_here xs i d here, drop_here marks i false there, set-is) refl

pub unmarked_yes : {X : Type 0} (xs : List X) (marks : List Bool) (i : ℕ) (d : X) → i < length xs → i < length marks → get_or marks i false ≡ true
    → unmarked (drop i xs) (drop i marks) ≡ unmarked (drop (i + 1) xs) (drop (i + 1) marks)
unmarked_yes xs marks i d here there set-is = rw (drop_here xs i d here, drop_here marks i false there, set-is) refl

pub unmarked_no : {X : Type 0} (xs : List X) (marks : List Bool) (i : ℕ) (d : X) → i < length xs → i < length marks → get_or marks i false ≡ false
    → unmarked (drop i xs) (drop i marks) ≡ get_or xs i d ∷ unmarked (drop (i + 1) xs) (drop (i + 1) marks)
unmarked_no xs marks i d here there set-is = rw (drop_here xs i d here, drop_here marks i false there, set-is) refl

set_marks : {X : Type 0} (xs : List X) (marks : List Bool) → length marks ≡ length xs → length (marked xs marks) ≡ length (filter (λ mark. mark) marks)
set_marks [] [] same = refl
set_marks [] (m ∷ marks) same = absurd (omega (arith, same))
set_marks (x ∷ xs) [] same = absurd (omega (arith, same))
set_marks (x ∷ xs) (true ∷ marks) same = let more = set_marks xs marks (omega (arith, same)) in omega (arith, more)
set_marks (x ∷ xs) (false ∷ marks) same = set_marks xs marks (omega (arith, same))

pub count_marked : {X : Type 0} (xs : List X) (marks : List Bool) → length marks ≡ length xs → length (marked xs marks) ≡ count_by (λ mark. mark) marks
count_marked xs marks same = set_marks xs marks same ∙ length-filter (λ mark. mark) marks

with_none : (lines : List (List ℕ)) (text : List ℕ) → length lines ≡ 0 → text ≡ with_addresses lines text
with_none [] text none = refl
with_none (line ∷ lines) text none = absurd (omega (arith, none))

with_some : (lines : List (List ℕ)) (text : List ℕ) → 0 < length lines → text_of_lines (opening (decimal (length lines)) lines) ++ text ≡ with_addresses lines text
with_some [] text some = absurd (omega (arith, some))
with_some (line ∷ lines) text some = refl

pub addresses_counted : (e : Exclusion) → length e.marks ≡ length e.table.points → length (addresses e) ≡ count_by (λ mark. mark) e.marks
addresses_counted e long = length-map (marked e.table.points e.marks) (λ p. address_text e.table.instances p.address) ∙ count_marked e.table.points e.marks long

pub none_text : (e : Exclusion) (text : List ℕ) → length e.marks ≡ length e.table.points → count_by (λ mark. mark) e.marks ≡ 0 → text ≡ text_of e.table → text ≡ excluded_text e
none_text e text long none is = is ∙ with_none (addresses e) (text_of e.table) (addresses_counted e long ∙ none)

pub some_text : (e : Exclusion) (head text : List ℕ) → length e.marks ≡ length e.table.points → 0 < count_by (λ mark. mark) e.marks → head ≡ text_of_lines (opening (decimal (count_by (λ mark. mark) e.marks)) (addresses e)) → text ≡ head ++ text_of e.table → text ≡ excluded_text e
some_text e head text long some head-is is =
    let counted = addresses_counted e long in
    let there : 0 < length (addresses e) = omega (arith, some, counted) in
    rw (is, head-is, ← counted) (with_some (addresses e) (text_of e.table) there)

pub head_written : (lines : List (List ℕ)) (one two three four digits : List ℕ) → one ≡ codes "covered-ex 1" ++ 10 ∷ codes "excluded " → two ≡ one ++ digits → three ≡ two ++ 10 ∷ []
    → four ≡ three ++ text_of_lines lines → four ≡ text_of_lines (opening digits lines)
head_written lines one two three four digits a b d e = rw (e, d, b, a) refl
