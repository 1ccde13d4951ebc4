-- Lists of roots.
use Rattle.std.proofs.Common.{◌≡◌, ℕ, zero, suc, ◌+◌, ◌<◌, true, List, [], ◌∷◌, ◌++◌, length, map, take, drop, slice_index_or, refl, ap, subst, sym, arith}
use Rattle.std.specs.Borrow.{Bor}
use native.Mathlib.Numerals.{unary_clauses}
use Rattle.cov_host.specs.Outside.{Outside}
use Rattle.verilog_lexer.specs.Sources.{SourceText}
use Rattle.source_files.specs.Files.{AreRoots, IsRoot}
use Rattle.source_files.specs.Joining.{Joins}

roots_push : (before : Outside) (names : List (List ℕ)) (sources : List SourceText) (name : List ℕ) (source : SourceText) → AreRoots before names sources → IsRoot before name source → AreRoots before (names ++ name ∷ []) (sources ++ source ∷ [])
roots_push before [] [] name source roots root = (root, tt)
roots_push before [] (s ∷ sources) name source roots root = absurd roots
roots_push before (n ∷ names) [] name source roots root = absurd roots
roots_push before (n ∷ names) (s ∷ sources) name source roots root = (roots.0, roots_push before names sources name source roots.1 root)

-- one root more
pub root_joins : (before : Outside) (names : List (List ℕ)) (old new : List SourceText) (name : List ℕ) → AreRoots before names old → Joins before name name true old new → AreRoots before (names ++ name ∷ []) new
root_joins before names old new name roots j =
    subst (AreRoots before (names ++ name ∷ [])) (sym j.joined) (roots_push before names old name (record { name = name; bytes = j.text; root = true }) roots (record { name_is = refl; root = refl; text = j.is }))

names_push_suc : (files : List (Bor (List ℕ))) (i : ℕ) (d : Bor (List ℕ)) → i < length files → map (λ file. file.now) (take (suc i) files) ≡ map (λ file. file.now) (take i files) ++ (slice_index_or files i d).now ∷ []
names_push_suc [] i d within = absurd (omega (arith, within))
names_push_suc (file ∷ files) zero d within = refl
names_push_suc (file ∷ files) (suc i) d within = ap (λ (names : List (List ℕ)). file.now ∷ names) (names_push_suc files i d (omega (arith, within)))

names_around_suc : (files : List (Bor (List ℕ))) (i : ℕ) (d : Bor (List ℕ)) → i < length files → map (λ file. file.now) files ≡ map (λ file. file.now) (take i files) ++ (slice_index_or files i d).now ∷ map (λ file. file.now) (drop (suc i) files)
names_around_suc [] i d within = absurd (omega (arith, within))
names_around_suc (file ∷ files) zero d within = refl
names_around_suc (file ∷ files) (suc i) d within = ap (λ (names : List (List ℕ)). file.now ∷ names) (names_around_suc files i d (omega (arith, within)))

-- the names of files up to one, and with it
pub names_push : (files : List (Bor (List ℕ))) (i : ℕ) (d : Bor (List ℕ)) → i < length files → map (λ file. file.now) (take (i + 1) files) ≡ map (λ file. file.now) (take i files) ++ (slice_index_or files i d).now ∷ []
names_push files i d within = simp unary_clauses (names_push_suc files i d within)

-- the names of all files, around one
pub names_around : (files : List (Bor (List ℕ))) (i : ℕ) (d : Bor (List ℕ)) → i < length files → map (λ file. file.now) files ≡ map (λ file. file.now) (take i files) ++ (slice_index_or files i d).now ∷ map (λ file. file.now) (drop (i + 1) files)
names_around files i d within = simp unary_clauses (names_around_suc files i d within)
