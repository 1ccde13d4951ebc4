-- The names of sources, one by one.
use Rattle.std.proofs.Common.{◌≡◌, ℕ, zero, suc, ◌+◌, ◌-◌, ◌==◌, ◌<◌, false, List, [], ◌∷◌, ◌++◌, length, map, take, None, Some, refl, ap, sym, ◌∙◌, arith}
use Rattle.std.specs.Prelude.{slice_get}
use Rattle.std.proofs.lemmas.Bool.Decides.{nat_tests}
use Rattle.std.specs.Option.{option_map}
use Rattle.verilog_lexer.specs.Sources.{SourceText, name_of}
use native.Mathlib.Numerals.{unary_clauses}

abbrev names : List SourceText → List (List ℕ)
names sources = map (λ source. source.name) sources

name_at : (sources : List SourceText) (place : ℕ) (name : List ℕ) → option_map (λ source. source.name) (slice_get sources place) ≡ Some name
    → (place < length sources) × (names (take (suc place) sources) ≡ names (take place sources) ++ name ∷ [])
name_at [] place name is = absurd cc
name_at (source ∷ sources) zero name is = (omega arith, let same : source.name ≡ name = cc in ap (λ (n : List ℕ). n ∷ []) same)
name_at (source ∷ sources) (suc place) name is =
    let h = name_at sources place name is in
    (omega (arith, h.0), ap (λ (ns : List (List ℕ)). source.name ∷ ns) h.1)

next_is_some : (place : ℕ) → (place + 1 == 0) ≡ false
next_is_some place = grind (arith, nat_tests)

before_next : (place : ℕ) → place + 1 - 1 ≡ place
before_next place = omega arith

name_of_next : (sources : List SourceText) (place : ℕ) → name_of sources (place + 1) ≡ option_map (λ source. source.name) (slice_get sources place)
name_of_next sources place = rw (next_is_some place, before_next place) refl

pub name_more : (sources : List SourceText) (place : ℕ) (name : List ℕ) → Some name ≡ name_of sources (place + 1) → (place < length sources) × (names (take (place + 1) sources) ≡ names (take place sources) ++ name ∷ [])
name_more sources place name is = simp unary_clauses (name_at sources place name (sym (name_of_next sources place) ∙ sym is))

name_none_at : (sources : List SourceText) (place : ℕ) → option_map (λ source. source.name) (slice_get sources place) ≡ None → names (take place sources) ≡ names sources
name_none_at [] zero is = refl
name_none_at [] (suc place) is = refl
name_none_at (source ∷ sources) zero is = absurd cc
name_none_at (source ∷ sources) (suc place) is = ap (λ (ns : List (List ℕ)). source.name ∷ ns) (name_none_at sources place is)

pub name_none : (sources : List SourceText) (place : ℕ) → None ≡ name_of sources (place + 1) → names (take place sources) ≡ names sources
name_none sources place is = name_none_at sources place (sym (name_of_next sources place) ∙ sym is)

-- one name more
pub name_pushed : (sources : List SourceText) (place : ℕ) (so_far new : List (List ℕ)) (item name : List ℕ) → so_far ≡ names (take place sources) → new ≡ so_far ++ item ∷ [] → item ≡ name → names (take (place + 1) sources) ≡ names (take place sources) ++ name ∷ [] → new ≡ names (take (place + 1) sources)
name_pushed sources place so_far new item name before pushed same more = rw (pushed, before, same, more) refl
