-- Tables of one design have one merge in every order.
use Rattle.std.proofs.Common.{◌≡◌, ◌∙◌, ℕ, List, [], ◌∷◌, refl, sym, ap}
use Rattle.std.proofs.lemmas.List.Elements.{All-cons, All-head, All-nil, All-tail}
use Rattle.std.specs.Prelude.{All}
use Rattle.coverage_db.specs.Merge.{SameDesign, bare_lines, merged, merged_all}
use Rattle.coverage_db.specs.Table.{IsTable}
use Rattle.coverage_db.specs.declared.db.Db.{Db}
use Rattle.coverage_db.proofs.JoinLaws.{merged_assoc, merged_comm}
use Rattle.database_commands.specs.Merging.{IsReordered, nothing, behind, swapped, and_then}

-- a table that has these lines without its verdicts
record IsOf (lines : List (List ℕ)) (db : Db) : Type 0 where
  table : IsTable db
  same : lines ≡ bare_lines db

all_of : (lines : List (List ℕ)) (tables : List Db) → All IsTable tables → All (λ db. lines ≡ bare_lines db) tables → All (IsOf lines) tables
all_of lines [] are same = All-nil (IsOf lines)
all_of lines (db ∷ tables) are same =
    All-cons (IsOf lines) db tables (record { table = All-head IsTable db tables are; same = All-head (λ db. lines ≡ bare_lines db) db tables same })
    (all_of lines tables (All-tail IsTable db tables are) (All-tail (λ db. lines ≡ bare_lines db) db tables same))

all_reordered : (P : Db → Type 0) {xs ys : List Db} → IsReordered xs ys → All P xs → All P ys
all_reordered P nothing all = all
all_reordered P (behind x {xs} {ys} reordered) all = All-cons P x ys (All-head P x xs all) (all_reordered P reordered (All-tail P x xs all))
all_reordered P (swapped x y xs) all =
    let rest = All-tail P x (y ∷ xs) all in
    All-cons P y (x ∷ xs) (All-head P y xs rest) (All-cons P x xs (All-head P x (y ∷ xs) all) (All-tail P y xs rest))
all_reordered P (and_then first second) all = all_reordered P second (all_reordered P first all)

-- the merge of all tables, where there is one
merged_list : List Db → List Db
merged_list [] = []
merged_list (first ∷ others) = merged_all first others ∷ []

merged_onto : Db → List Db → List Db
merged_onto db [] = db ∷ []
merged_onto db (other ∷ others) = merged db other ∷ []

merged_all-front : (first second : Db) (others : List Db) → merged_all (merged first second) others ≡ merged first (merged_all second others)
merged_all-front first second [] = refl
merged_all-front first second (db ∷ others) = ap (λ table. merged_all table others) (merged_assoc first second db) ∙ merged_all-front first (merged second db) others

merged_list-front : (db : Db) (tables : List Db) → merged_list (db ∷ tables) ≡ merged_onto db (merged_list tables)
unfolding merged_list merged_onto
merged_list-front db [] = refl
merged_list-front db (second ∷ tables) = ap (λ table. table ∷ []) (merged_all-front db second tables)

merged_reordered : (lines : List (List ℕ)) {xs ys : List Db} → IsReordered xs ys → All (IsOf lines) xs → merged_list xs ≡ merged_list ys
unfolding merged_list merged_onto
merged_reordered lines nothing all = refl
merged_reordered lines (behind x {xs} {ys} reordered) all =
    merged_list-front x xs ∙ ap (merged_onto x) (merged_reordered lines reordered (All-tail (IsOf lines) x xs all)) ∙ sym (merged_list-front x ys)
merged_reordered lines (swapped x y xs) all =
    let first = All-head (IsOf lines) x (y ∷ xs) all in
    let second = All-head (IsOf lines) y xs (All-tail (IsOf lines) x (y ∷ xs) all) in
    ap (λ table. merged_all table xs ∷ []) (merged_comm x y first.table second.table (sym first.same ∙ second.same))
merged_reordered lines (and_then first second) all =
    merged_reordered lines first all ∙ merged_reordered lines second (all_reordered (IsOf lines) first all)

pub merged_any_order : (first second : Db) (others more : List Db) → All IsTable (first ∷ others) → All (SameDesign first) others → IsReordered (first ∷ others) (second ∷ more) → merged_all first others ≡ merged_all second more
unfolding merged_list
merged_any_order first second others more are same reordered =
    let of_one = All-cons (λ db. bare_lines first ≡ bare_lines db) first others refl same in
    let e = merged_reordered (bare_lines first) reordered (all_of (bare_lines first) (first ∷ others) are of_one) in cc
