-- A text is that of one table with its excluded points.
use Rattle.std.proofs.Common.{◌≡◌, ℕ, ◌∙◌, Bool, List, [], ◌∷◌, length, inl, refl, sym, ap, arith}
use Rattle.std.specs.Global.{Global}
use Rattle.std.specs.Prelude.{codes, decimal}
use Rattle.coverage_db.proofs.ReadingLaws.{one_table}
use Rattle.coverage_db.specs.Text.{text_of}
use Rattle.coverage_db.specs.declared.db.Db.{Db}
use Rattle.db_tools.specs.Excluded.{Exclusion, IsExcludedText, IsExclusion, IsTextWith, addresses}
use Rattle.db_tools.specs.Greedy.{matched_marks}
use Rattle.db_tools.proofs.GreedyLaws.{marks_of_addresses}
use Rattle.db_tools.proofs.HeadLaws.{one_opening, plain_apart, opens_version, text_opens}

-- tables with the same addresses excluded are one
same_marks : (e other : Exclusion) (lines : List (List ℕ)) → IsExclusion e → IsExclusion other → e.table ≡ other.table → addresses e ≡ lines → addresses other ≡ lines → e ≡ other
same_marks e other lines is is_other tables named names =
    let first : matched_marks e.table.instances e.table.points lines ≡ e.marks = marks_of_addresses e.table e.marks lines is.table is.long named in
    let second : matched_marks other.table.instances other.table.points lines ≡ other.marks = marks_of_addresses other.table other.marks lines is_other.table is_other.long names in
    let marks : e.marks ≡ other.marks = sym first ∙ ap (λ (t : Db). matched_marks t.instances t.points lines) tables ∙ second in
    let with_marks : e ≡ record e { marks = other.marks } = ap (λ (m : List Bool). record e { marks = m }) marks in
    with_marks ∙ ap (λ (t : Db). record other { table = t }) tables

one_by : (alloc : Global) (e other : Exclusion) (text : List ℕ) (lines others : List (List ℕ)) → IsExclusion e → IsExclusion other → addresses e ≡ lines → addresses other ≡ others → IsTextWith lines e.table text → IsTextWith others other.table text → e ≡ other
one_by alloc e other text [] [] is is_other named names one two =
    same_marks e other [] is is_other (one_table alloc e.table other.table text is.table is_other.table one two) named names
one_by alloc e other text [] (line ∷ more) is is_other named names one two =
    let opens = text_opens other.table other.marks (line ∷ more) text is_other.table names (omega arith) two in
    let version = opens_version text (decimal (length (line ∷ more))) (line ∷ more) (text_of other.table) opens in
    absurd (plain_apart e.table text (codes "1") version.0 one version.1)
one_by alloc e other text (line ∷ more) [] is is_other named names one two =
    let opens = text_opens e.table e.marks (line ∷ more) text is.table named (omega arith) one in
    let version = opens_version text (decimal (length (line ∷ more))) (line ∷ more) (text_of e.table) opens in
    absurd (plain_apart other.table text (codes "1") version.0 two version.1)
one_by alloc e other text (line ∷ more) (first ∷ others) is is_other named names one two =
    let opens = text_opens e.table e.marks (line ∷ more) text is.table named (omega arith) one in
    let opens_other = text_opens other.table other.marks (first ∷ others) text is_other.table names (omega arith) two in
    let same = one_opening text (decimal (length (line ∷ more))) (decimal (length (first ∷ others))) (line ∷ more) (first ∷ others) (text_of e.table) (text_of other.table) opens opens_other in
    let tables = one_table alloc e.table other.table (text_of e.table) is.table is_other.table (inl refl) (inl same.inner_is) in
    same_marks e other (line ∷ more) is is_other tables named (names ∙ sym same.lines_are)

pub one_exclusion : (alloc : Global) (e other : Exclusion) (text : List ℕ) → IsExclusion e → IsExclusion other → IsExcludedText e text → IsExcludedText other text → e ≡ other
one_exclusion alloc e other text is is_other one two = one_by alloc e other text (addresses e) (addresses other) is is_other refl refl one two
