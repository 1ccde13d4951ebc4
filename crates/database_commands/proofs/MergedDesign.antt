-- A merge is of the design of its tables.
use Rattle.std.proofs.Common.{◌≡◌, ◌∙◌, ℕ, List, [], ◌∷◌, ◌++◌, length, map, refl, sym, ap, arith}
use Rattle.coverage_db.specs.Merge.{DiffersAt, SameDesign, merged, merged_all, merged_points}
use Rattle.coverage_db.specs.Table.{IsTable}
use Rattle.coverage_db.specs.declared.db.Db.{Db}
use Rattle.coverage_db.specs.declared.db.DbPoint.{DbPoint}
use Rattle.coverage_db.proofs.MergeLaws.{alike_lines, long_same, same_alike}

merged_addresses : (ps qs : List DbPoint) → length ps ≡ length qs → map (λ p. p.address) (merged_points ps qs) ≡ map (λ p. p.address) ps
merged_addresses [] qs same = refl
merged_addresses (p ∷ ps) [] same = absurd (omega (arith, same))
merged_addresses (p ∷ ps) (q ∷ qs) same = ap (λ addresses. p.address ∷ addresses) (merged_addresses ps qs (omega (arith, same)))

pub merged_design : (left right : Db) → IsTable left → IsTable right → SameDesign left right → SameDesign left (merged left right)
merged_design left right is_left is_right same =
    let alike = same_alike left right is_left is_right same in
    alike_lines left (merged left right) (record {
      top = refl;
      sources = refl;
      instances = refl;
      addresses = sym (merged_addresses left.points right.points (long_same left.points right.points alike.addresses));
    })

-- what differs from a table of the design differs from each table of it
pub differs_from_first : (first table other : Db) (line : ℕ) (left right : List ℕ) → SameDesign first table → DiffersAt table other line left right → DiffersAt first other line left right
differs_from_first first table other line left right same differs = record {
  before = differs.before;
  left_others = differs.left_others;
  right_others = differs.right_others;
  left_is = same ∙ differs.left_is;
  right_is = differs.right_is;
  differ = differs.differ;
  number_is = differs.number_is;
}

pub merged_all-push : (first : Db) (tables : List Db) (db : Db) → merged_all first (tables ++ db ∷ []) ≡ merged (merged_all first tables) db
merged_all-push first [] db = refl
merged_all-push first (table ∷ tables) db = merged_all-push (merged first table) tables db
