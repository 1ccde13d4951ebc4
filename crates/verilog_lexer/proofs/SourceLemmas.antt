-- The sources that are kept, as a list.
use Rattle.std.proofs.Common.{◌≡◌, ◌<◌, ◌≤◌, ◌+◌, Bool, cond, not, Option, None, Some, List, [], ◌∷◌, ℕ, refl, ap, map, length, get_or, arith, sym}
use Rattle.std.proofs.lemmas.List.{length-map}
use Rattle.std.proofs.lemmas.Option.{slice_get_within, get_or_from_slice_get}
use Rattle.std.proofs.lemmas.List.Sums.{get_or-le-sum_by}
use Rattle.std.proofs.lemmas.List.Quantifiers.{position-Some}
use Rattle.std.specs.List.{prefix_len, position, slice_get}
use Rattle.std.specs.Option.{option_map, IfSome}
use Rattle.std.specs.Borrow.{Bor}
use Rattle.verilog_lexer.specs.Sources.{SourceText, total_length, source_view, is_include, include_place}
use Rattle.verilog_lexer.specs.declared.sources.Source.{Source}

pub prefix_len-map : {A B : Type 0} (p : B → Bool) (f : A → B) (xs : List A) → prefix_len p (map f xs) ≡ prefix_len (λ x. p (f x)) xs
prefix_len-map p f [] = refl
prefix_len-map p f (x ∷ xs) = ap (λ n. cond (p (f x)) (1 + n) 0) (prefix_len-map p f xs)

-- the place among images is the place among what they are images of
pub position-map : {A B : Type 0} (p : B → Bool) (f : A → B) (xs : List A) → position p (map f xs) ≡ position (λ x. p (f x)) xs
position-map p f xs = rw (prefix_len-map (λ y. not (p y)) f xs, length-map xs f) refl

pub include_place_by : (items slice : List Source) (sources : List SourceText) (name : List ℕ) → slice ≡ items → map source_view items ≡ sources → position (λ source. is_include name (source_view source)) slice ≡ include_place sources name
include_place_by items slice sources name same is = rw (same, ← is) (sym (position-map (is_include name) source_view items))

-- no source is longer than all together
pub length_within : (sources : List SourceText) (place : ℕ) (source : SourceText) → slice_get sources place ≡ Some source → length source.bytes ≤ total_length sources
length_within sources place source is =
    let bound : length (get_or sources place source).bytes ≤ total_length sources = get_or-le-sum_by (λ s. length s.bytes) sources place source (slice_get_within sources place source is) in
    rw (get_or_from_slice_get sources place source source is) at bound

pub within_by : (sources : List SourceText) (place : ℕ) (found : Option (Bor Source)) → option_map (λ source. source_view source.now) found ≡ slice_get sources place → total_length sources ≤ 67108864 → IfSome found (λ source. length source.now.bytes ≤ 67108864)
within_by sources place None is within = tt
within_by sources place (Some source) is within = omega (arith, length_within sources place (source_view source.now) (sym is))

-- the place of an include is one of at most 256
pub place_within : (slice : List Source) (p : Source → Bool) (found : Option ℕ) → found ≡ position p slice → length slice ≤ 256 → IfSome found (λ place. place < 256)
place_within slice p None is within = tt
place_within [] p (Some place) is within = absurd (cc)
place_within (source ∷ others) p (Some place) is within = omega (arith, (position-Some p (source ∷ others) place source (sym is)).0)
