-- Points that are sorted and joined.
use Rattle.std.proofs.Common.{◌≡◌, ◌+◌, ◌++◌, ◌<◌, ℕ, List, [], ◌∷◌, Option, Some, None, length, map, get_or, drop, refl, sym, ap, ◌∙◌, append_assoc}
use Rattle.std.specs.List.{filter_map, cons_option}
use Rattle.std.specs.List.Sorted.{IsStableBy}
use Rattle.std.specs.Ordering.{is_lt}
use Rattle.std.proofs.lemmas.List.{map-append, drop_more}
use Rattle.cov_report.specs.Gathered.{gathered}
use Rattle.cov_report.proofs.Gathering.{gathered_sorted}
use Rattle.cov_report.proofs.Viewing.{gathered_view}
use Rattle.lcov_text.specs.declared.traced.Traced.{Traced}
use Rattle.lcov_text.specs.Points.{TracePoint, trace_cmp, joined_trace}
use Rattle.lcov_text.specs.Views.{trace_view, traced_cmp, joined_traced}
use Rattle.lcov_text.proofs.Orders.{traced_total, joined_stays}

-- sorted points that are joined, seen as points of a table
pub sorted_view : (xs ys : List Traced) (points : List TracePoint) → IsStableBy (λ a b. is_lt (traced_cmp a b)) xs ys → map trace_view xs ≡ points → map trace_view (gathered traced_cmp joined_traced ys) ≡ gathered trace_cmp joined_trace points
sorted_view xs ys points stable same =
    ap (map trace_view) (gathered_sorted traced_cmp joined_traced traced_total joined_stays xs ys stable)
    ∙ gathered_view trace_view (λ _. Unit {0}) traced_cmp joined_traced trace_cmp joined_trace (λ a b p q. refl) (λ a b. refl) (λ a b p q. tt) xs (λ k d within. tt)
    ∙ ap (gathered trace_cmp joined_trace) same

-- one more item that has a place, or that has no place
pub placed_more : {X Y Z : Type 0} (f : X → Z) (h : Y → Option Z) (xs : List X) (x : X) (ys : List Y) (whole : List Z) (k : ℕ) (y : Y) → k < length ys → y ≡ get_or ys k y → h y ≡ Some (f x)
    → map f xs ++ filter_map h (drop k ys) ≡ whole → map f (xs ++ x ∷ []) ++ filter_map h (drop (k + 1) ys) ≡ whole
placed_more {X} {Y} {Z} f h xs x ys whole k y within is here same =
    let rest : List Z = filter_map h (drop (k + 1) ys) in
    let step : filter_map h (drop k ys) ≡ f x ∷ rest = ap (filter_map h) (drop_more ys k y within ∙ ap (λ (z : Y). z ∷ drop (k + 1) ys) (sym is)) ∙ ap (λ (o : Option Z). cons_option o rest) here in
    ap (λ (t : List Z). t ++ rest) (map-append f xs (x ∷ [])) ∙ append_assoc (map f xs) (f x ∷ []) rest ∙ ap (λ (t : List Z). map f xs ++ t) (sym step) ∙ same

pub unplaced_more : {Y Z : Type 0} (h : Y → Option Z) (done : List Z) (ys : List Y) (whole : List Z) (k : ℕ) (y : Y) → k < length ys → y ≡ get_or ys k y → h y ≡ None
    → done ++ filter_map h (drop k ys) ≡ whole → done ++ filter_map h (drop (k + 1) ys) ≡ whole
unplaced_more {Y} {Z} h done ys whole k y within is here same =
    let rest : List Z = filter_map h (drop (k + 1) ys) in
    let step : filter_map h (drop k ys) ≡ rest = ap (filter_map h) (drop_more ys k y within ∙ ap (λ (z : Y). z ∷ drop (k + 1) ys) (sym is)) ∙ ap (λ (o : Option Z). cons_option o rest) here in
    ap (λ (t : List Z). done ++ t) (sym step) ∙ same
