-- The lines at which a point is hit, and the search among them.
use Rattle.std.proofs.Common.{◌≡◌, ℕ, ◌<◌, ◌≤◌, Bool, true, false, cond, ◌||◌, ◌&&◌, List, [], ◌∷◌, ◌++◌, length, map, drop, get_or, Result, Ok, Err, refl, sym, ap, ◌∙◌, inl, inr, arith}
use Rattle.std.specs.Prelude.{MatchResult}
use Rattle.std.specs.declared.cmp.Ordering.TheVariants.{Less, Equal, Greater}
use Rattle.std.specs.List.{filter}
use Rattle.std.specs.List.Sorted.{IsBinarySearchResult, IsSorted}
use Rattle.std.specs.Result.{is_ok}
use Rattle.std.proofs.lemmas.Bool.{cases_lt}
use Rattle.std.proofs.lemmas.List.Folds.{list_any_at, list_any_none}
use Rattle.std.proofs.lemmas.List.Sorted.{searchable_from_sorted}
use Rattle.coverage_db.specs.declared.address.SourceLine.{SourceLine}
use Rattle.coverage_db.specs.Same.{same_place}
use Rattle.cov_report.proofs.Viewing.{nothing_behind}
use Rattle.cov_report.specs.Order.{place_cmp}
use Rattle.lcov_text.specs.declared.traced.Traced.{Traced}
use Rattle.lcov_text.specs.Points.{is_reached}
use Rattle.lcov_text.specs.Views.{trace_view, is_among}
use Rattle.lcov_text.proofs.Orders.{place_total, other_place, same_place_is}

-- the lines of the points that are hit are those that are reached
pub hits_reach : (points : List Traced) (at : SourceLine) → is_among (map (λ (p : Traced). p.at) (filter (λ (p : Traced). p.is_hit) points)) at ≡ is_reached (map trace_view points) at
hits_reach [] at = refl
hits_reach (p ∷ points) at =
    elim p.is_hit as (λ b. is_among (map (λ (q : Traced). q.at) (cond b (p ∷ filter (λ (q : Traced). q.is_hit) points) (filter (λ (q : Traced). q.is_hit) points))) at ≡ ((b && same_place p.at at) || is_reached (map trace_view points) at)) [
      | true ↦ ap (λ (t : Bool). same_place p.at at || t) (hits_reach points at)
      | false ↦ hits_reach points at
    ]

some_line : (lines : List SourceLine) (i : ℕ) → i < length lines → SourceLine
some_line [] i within = absurd (omega arith)
some_line (x ∷ xs) i within = x

pub searched : (lines : List SourceLine) (at : SourceLine) (r : Result ℕ ℕ) → IsSorted place_cmp lines → MatchResult r (λ i. i < length lines) (λ i. i ≤ length lines) → IsBinarySearchResult (λ line. place_cmp line at) lines r → is_ok r ≡ is_among lines at
searched lines at (Ok i) sorted within found =
    let d = some_line lines i within in
    sym (list_any_at (λ (line : SourceLine). same_place line at) lines i d within (same_place_is (get_or lines i d) at (found d)))
searched lines at (Err i) sorted within parts =
    let both = parts (searchable_from_sorted place_total (λ (line : SourceLine). line) lines at sorted) in
    sym (list_any_none (λ (line : SourceLine). same_place line at) lines (λ k d inside. other_place (get_or lines k d) at (λ e.
    elim (cases_lt k i) [
      | inl low ↦ let bad : Less ≡ Equal = sym (both.0 k d (omega arith) low) ∙ e in cc
      | inr high ↦ let bad : Greater ≡ Equal = sym (both.1 k d high inside) ∙ e in cc
    ])))

-- ---- after the loop

nothing_after : (xs : List SourceLine) → xs ++ [] ≡ xs
nothing_after [] = refl
nothing_after (x ∷ xs) = ap (λ (t : List SourceLine). x ∷ t) (nothing_after xs)

pub hits_done : (lines : List SourceLine) (points : List Traced) (k : ℕ) → length points ≤ k → lines ++ map (λ (p : Traced). p.at) (filter (λ (p : Traced). p.is_hit) (drop k points)) ≡ map (λ (p : Traced). p.at) (filter (λ (p : Traced). p.is_hit) points)
    → lines ≡ map (λ (p : Traced). p.at) (filter (λ (p : Traced). p.is_hit) points)
hits_done lines points k past same =
    sym (nothing_after lines) ∙ ap (λ (t : List Traced). lines ++ map (λ (p : Traced). p.at) (filter (λ (p : Traced). p.is_hit) t)) (sym (nothing_behind points k past)) ∙ same
