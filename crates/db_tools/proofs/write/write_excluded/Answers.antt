use Rattle.std.proofs.Common.{◌≡◌, ◌<◌, ◌++◌, ◌∙◌, sym, ap, arith, List, ℕ, Bool, length}
use Rattle.std.specs.Prelude.{count_by, decimal}
use Rattle.std.proofs.lemmas.Bool.Decides.{nat_tests}
use Rattle.coverage_db.specs.declared.db.Db.{Db}
use Rattle.coverage_db.specs.Text.{text_of, text_of_lines}
use Rattle.db_tools.specs.Excluded.{marked_addresses, opening}
use Rattle.db_tools.proofs.Marks.{none_text, some_text}
use Rattle.db_tools.proofs.write.write_excluded.Goals as goal

abbrev heads : Db → List Bool → List ℕ
heads db marks = text_of_lines (opening (decimal (count_by (λ mark. mark) marks)) (marked_addresses db marks))

pub returns-then-count-eq0 : goal.returns-then-count-eq0
returns-then-count-eq0 c =
    let e = c.args.excluded.now in
    let long : length e.marks ≡ length e.table.points = rw c.marks.ensures.value at c.marks.ensures.long in
    let counted : c.count_marks-count.result ≡ count_by (λ mark. mark) e.marks = c.count_marks-count.ensures ∙ ap (λ marks. count_by (λ mark. mark) marks) c.marks.ensures.value in
    let none : c.count_marks-count.result ≡ 0 = grind (arith, nat_tests) in
    let table : c.in_ok-table.table ≡ text_of e.table = c.in_ok-table.ensures ∙ ap text_of c.db.ensures.value in
    none_text e c.in_ok-table.table long (sym counted ∙ none) table

pub returns : goal.returns
returns c =
    let e = c.args.excluded.now in
    let long : length e.marks ≡ length e.table.points = rw c.marks.ensures.value at c.marks.ensures.long in
    let counted : c.count_marks-count.result ≡ count_by (λ mark. mark) e.marks = c.count_marks-count.ensures ∙ ap (λ marks. count_by (λ mark. mark) marks) c.marks.ensures.value in
    let some : 0 < c.count_marks-count.result = grind (arith, nat_tests) in
    let table : c.in_ok-table.table ≡ text_of e.table = c.in_ok-table.ensures ∙ ap text_of c.db.ensures.value in
    let head : c.in_ok-text.text ≡ heads e.table e.marks =
    c.in_ok-text.ensures ∙ ap (λ db. text_of_lines (opening (decimal c.count_marks-count.result) (marked_addresses db c.marks-2.result.now))) c.db-2.ensures.value
    ∙ ap (λ marks. text_of_lines (opening (decimal c.count_marks-count.result) (marked_addresses e.table marks))) c.marks-2.ensures.value ∙ ap (λ n. text_of_lines (opening (decimal n) (marked_addresses e.table e.marks))) counted in
    let text : c.extend_from_slice.new.self ≡ c.in_ok-text.text ++ text_of e.table = c.in_ok-extend_from_slice.ensures.ok ∙ ap (λ t. c.in_ok-text.text ++ t) (c.as_slice.ensures ∙ table) in
    some_text e c.in_ok-text.text c.extend_from_slice.new.self long (rw counted at some) head text
