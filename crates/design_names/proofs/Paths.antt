-- Paths: identifiers with dots between.
use Rattle.std.proofs.Common.{◌≡◌, ◌==◌, ℕ, ◌+◌, Bool, true, false, cond, List, [], ◌∷◌, ◌++◌, length, refl, ◌∙◌, ap, arith}
use Rattle.std.specs.List.{list_all, slice_split, onto_first}
use Rattle.std.proofs.lemmas.List.Splits.{length-slice_split}
use Rattle.cov_host.specs.Identifier.{is_identifier}
use Rattle.coverage_db.specs.Table.{is_path}
use Rattle.coverage_db.proofs.Lacking.{name_lacks}
use Rattle.coverage_db.proofs.Splitting.{pieces_one}
use Rattle.flat_design.specs.Instances.{dotted}
use Rattle.parsed_modules.proofs.flat_laws.LawfulCounts.{all_append}

-- the names in a path
abbrev pieces : List ℕ → List (List ℕ)
pieces path = slice_split (λ byte. byte == 46) path

-- those on both sides of a dot
pieces_at_dot : (xs ys : List ℕ) → pieces (dotted xs ys) ≡ pieces xs ++ pieces ys
pieces_at_dot [] ys = refl
pieces_at_dot (x ∷ xs) ys = ap (λ ps. cond (x == 46) ([] ∷ ps) (onto_first x ps)) (pieces_at_dot xs ys) ∙ by_test (x == 46) (pieces xs) _ (length-slice_split (λ byte. byte == 46) xs)
  where
    by_test : (b : Bool) (ps : List (List ℕ)) (n : ℕ) → length ps ≡ n + 1 → cond b ([] ∷ (ps ++ pieces ys)) (onto_first x (ps ++ pieces ys)) ≡ cond b ([] ∷ ps) (onto_first x ps) ++ pieces ys
    by_test true ps n e = refl
    by_test false [] n e = absurd (omega arith)
    by_test false (piece ∷ ps) n e = refl

-- an identifier is a path
pub name_is_path : (name : List ℕ) → is_identifier name ≡ true → is_path name ≡ true
name_is_path name h = ap (list_all is_identifier) (pieces_one 46 name (name_lacks 46 name refl h)) ∙ rw h refl

-- a path with one more name is a path
pub dotted_is_path : (path name : List ℕ) → is_path path ≡ true → is_identifier name ≡ true → is_path (dotted path name) ≡ true
dotted_is_path path name p h = ap (list_all is_identifier) (pieces_at_dot path name) ∙ all_append is_identifier (pieces path) (pieces name) p (name_is_path name h)
