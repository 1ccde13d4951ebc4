-- The points of one section are together.
use Rattle.std.proofs.Common.{◌≡◌, ℕ, zero, suc, ◌+◌, ◌-◌, ◌<◌, ◌≤◌, Bool, true, false, cond, List, [], ◌∷◌, length, map, get_or, take, drop, refl, sym, ap, ◌∙◌, inl, inr, arith}
use Rattle.std.specs.Prelude.{bytes_eq}
use Rattle.std.specs.declared.cmp.Ordering.{Ordering}
use Rattle.std.specs.declared.cmp.Ordering.TheVariants.{Less, Equal, Greater}
use Rattle.std.specs.List.{filter}
use Rattle.std.specs.List.Sorted.{IsPartitionedBy, IsPartitionPoint}
use Rattle.std.specs.Ordering.{is_lt, is_le, is_gt}
use Rattle.std.proofs.lemmas.Cmp.{nat_list_cmp_total, tied_itself, upto}
use Rattle.std.proofs.lemmas.Map.Lookups.{exact_bytes}
use Rattle.std.proofs.lemmas.Bool.{cases_lt}
use Rattle.coverage_db.specs.Order.{bytes_cmp}
use Rattle.coverage_db.specs.Table.{Rises}
use Rattle.coverage_db.proofs.PathSearch.{rises_tail, other_path, same_path}
use Rattle.cov_report.proofs.Names.{filter_view}
use Rattle.lcov_text.specs.declared.traced.Traced.{Traced}
use Rattle.lcov_text.specs.Points.{TracePoint, section}
use Rattle.lcov_text.specs.Views.{trace_view, traced_cmp}
use Rattle.lcov_text.proofs.Orders.{sections_rise}

-- ---- a window of a list

nothing_left : (X : Type 0) (from count : ℕ) → take count (drop {A = X} from []) ≡ []
nothing_left X zero zero = refl
nothing_left X zero (suc count) = refl
nothing_left X (suc from) zero = refl
nothing_left X (suc from) (suc count) = refl

-- the first items fail, so many pass, and all others fail
window : {X : Type 0} (p : X → Bool) (xs : List X) (from count : ℕ) → ((k : ℕ) (d : X) → k < length xs → k < from → p (get_or xs k d) ≡ false) → ((k : ℕ) (d : X) → k < length xs → from ≤ k → k < from + count → p (get_or xs k d) ≡ true)
    → ((k : ℕ) (d : X) → k < length xs → from + count ≤ k → p (get_or xs k d) ≡ false) → filter p xs ≡ take count (drop from xs)
window {X} p [] from count before among behind = sym (nothing_left X from count)
window {X} p (x ∷ xs) zero zero before among behind =
    let no : p x ≡ false = behind 0 x (omega arith) (omega arith) in
    ap (λ (b : Bool). cond b (x ∷ filter p xs) (filter p xs)) no
    ∙ window p xs 0 0 (λ k d within low. absurd (omega arith)) (λ k d within low high. absurd (omega arith)) (λ k d within high. behind (suc k) d (omega arith) (omega arith))
window {X} p (x ∷ xs) zero (suc count) before among behind =
    let yes : p x ≡ true = among 0 x (omega arith) (omega arith) (omega arith) in
    ap (λ (b : Bool). cond b (x ∷ filter p xs) (filter p xs)) yes
    ∙ ap (λ (t : List X). x ∷ t) (window p xs 0 count (λ k d within low. absurd (omega arith)) (λ k d within low high. among (suc k) d (omega arith) (omega arith) (omega arith)) (λ k d within high. behind (suc k) d (omega arith) (omega arith)))
window {X} p (x ∷ xs) (suc from) count before among behind =
    let no : p x ≡ false = before 0 x (omega arith) (omega arith) in
    ap (λ (b : Bool). cond b (x ∷ filter p xs) (filter p xs)) no
    ∙ window p xs from count (λ k d within low. before (suc k) d (omega arith) (omega arith)) (λ k d within low high. among (suc k) d (omega arith) (omega arith) (omega arith)) (λ k d within high. behind (suc k) d (omega arith) (omega arith))

-- ---- sections in rising lists

abbrev pub section_at : Traced → List ℕ
section_at point = section (trace_view point)

head_upto : (x : Traced) (xs : List Traced) (j : ℕ) (d : Traced) → Rises traced_cmp (x ∷ xs) → j < length xs → is_gt (bytes_cmp (section_at x) (section_at (get_or xs j d))) ≡ false
head_upto x [] j d r within = absurd (omega arith)
head_upto x (y ∷ ys) zero d r within = sections_rise x y r.0
head_upto x (y ∷ ys) (suc j) d r within =
    upto nat_list_cmp_total (section_at x) (section_at y) (section_at (get_or ys j d)) (sections_rise x y r.0) (head_upto y ys j d r.1 (omega arith))

far_rise : (xs : List Traced) (i j : ℕ) (d : Traced) → Rises traced_cmp xs → i ≤ j → j < length xs → is_gt (bytes_cmp (section_at (get_or xs i d)) (section_at (get_or xs j d))) ≡ false
far_rise [] i j d r up within = absurd (omega arith)
far_rise (x ∷ xs) zero zero d r up within = ap is_gt (tied_itself nat_list_cmp_total (section_at x))
far_rise (x ∷ xs) zero (suc j) d r up within = head_upto x xs j d r (omega arith)
far_rise (x ∷ xs) (suc i) zero d r up within = absurd (omega arith)
far_rise (x ∷ xs) (suc i) (suc j) d r up within = far_rise xs i j d (rises_tail traced_cmp x xs r) (omega arith) (omega arith)

less_is : (w : Ordering) → is_lt w ≡ true → w ≡ Less
less_is Less e = refl
less_is Equal e = absurd cc
less_is Greater e = absurd cc

not_greater : (w : Ordering) → is_le w ≡ true → is_gt w ≡ false
not_greater Less e = refl
not_greater Equal e = refl
not_greater Greater e = absurd cc

less_or_equal : (w : Ordering) → is_gt w ≡ false → is_le w ≡ true
less_or_equal Less e = refl
less_or_equal Equal e = refl
less_or_equal Greater e = absurd cc

less_down : (a b n : List ℕ) (w : Ordering) → bytes_cmp a b ≡ w → is_gt w ≡ false → is_lt (bytes_cmp b n) ≡ true → is_lt (bytes_cmp a n) ≡ true
less_down a b n Less e up less = ap is_lt (nat_list_cmp_total.trans a b n e (less_is (bytes_cmp b n) less))
less_down a b n Equal e up less = ap is_lt (nat_list_cmp_total.congr a b n e) ∙ less
less_down a b n Greater e up less = absurd cc

pub parted_less : (xs : List Traced) (n : List ℕ) → Rises traced_cmp xs → IsPartitionedBy (λ c. is_lt (bytes_cmp (section (trace_view c)) n)) xs
parted_less xs n r = λ i j d up within e. less_down (section_at (get_or xs i d)) (section_at (get_or xs j d)) n (bytes_cmp (section_at (get_or xs i d)) (section_at (get_or xs j d))) refl (far_rise xs i j d r up within) e

pub parted_upto : (xs : List Traced) (n : List ℕ) → Rises traced_cmp xs → IsPartitionedBy (λ c. is_le (bytes_cmp (section (trace_view c)) n)) xs
parted_upto xs n r =
    λ i j d up within e. less_or_equal (bytes_cmp (section_at (get_or xs i d)) n) (upto nat_list_cmp_total (section_at (get_or xs i d)) (section_at (get_or xs j d)) n (far_rise xs i j d r up within) (not_greater (bytes_cmp (section_at (get_or xs j d)) n) e))

-- ---- the points of one section

abbrev pub Before : List ℕ → List Traced → ℕ → Type 0
Before n xs from = IsPartitionPoint (λ c. is_lt (bytes_cmp (section (trace_view c)) n) ≡ true) (λ c. is_lt (bytes_cmp (section (trace_view c)) n) ≡ false) xs from

abbrev pub Through : List ℕ → List Traced → ℕ → Type 0
Through n xs to = IsPartitionPoint (λ c. is_le (bytes_cmp (section (trace_view c)) n) ≡ true) (λ c. is_le (bytes_cmp (section (trace_view c)) n) ≡ false) xs to

less_through : (w : Ordering) → is_lt w ≡ true → is_le w ≡ false → ⊥
less_through Less p q = cc
less_through Equal p q = cc
less_through Greater p q = cc

pub before_through : (n : List ℕ) (xs : List Traced) (from to : ℕ) → from ≤ length xs → Before n xs from → Through n xs to → from ≤ to
before_through n [] from to within before through = omega arith
before_through n (x ∷ xs) from to within before through =
    elim (cases_lt to from) [
      | inl low ↦ absurd (less_through (bytes_cmp (section_at (get_or (x ∷ xs) to x)) n) (before.0 to x (omega arith) low) (through.1 to x (omega arith) (omega arith)))
      | inr high ↦ high
    ]

other_less : (a n : List ℕ) → is_lt (bytes_cmp a n) ≡ true → bytes_eq a n ≡ false
other_less a n e = other_path a n (λ same. let bad : Less ≡ Equal = sym (less_is (bytes_cmp a n) e) ∙ same in cc)

other_beyond : (a n : List ℕ) → is_le (bytes_cmp a n) ≡ false → bytes_eq a n ≡ false
other_beyond a n e = other_path a n (λ same. let bad : true ≡ false = sym (ap is_le same) ∙ e in cc)

equal_is : (w : Ordering) → is_lt w ≡ false → is_le w ≡ true → w ≡ Equal
equal_is Less p q = absurd cc
equal_is Equal p q = refl
equal_is Greater p q = absurd cc

same_between : (a n : List ℕ) → is_lt (bytes_cmp a n) ≡ false → is_le (bytes_cmp a n) ≡ true → bytes_eq a n ≡ true
same_between a n p q = same_path a n (exact_bytes a n (equal_is (bytes_cmp a n) p q))

pub points_between : (n : List ℕ) (xs : List Traced) (from to : ℕ) → from ≤ to → Before n xs from → Through n xs to → map trace_view (take (to - from) (drop from xs)) ≡ filter (λ q. bytes_eq (section q) n) (map trace_view xs)
points_between n xs from to up before through =
    let all : filter (λ (c : Traced). bytes_eq (section (trace_view c)) n) xs ≡ take (to - from) (drop from xs) =
    window (λ (c : Traced). bytes_eq (section (trace_view c)) n) xs from (to - from)
    (λ k d within low. other_less (section_at (get_or xs k d)) n (before.0 k d (omega arith) low))
    (λ k d within low high. same_between (section_at (get_or xs k d)) n (before.1 k d low within) (through.0 k d (omega arith) (omega arith)))
    (λ k d within high. other_beyond (section_at (get_or xs k d)) n (through.1 k d (omega arith) within)) in
    ap (map trace_view) (sym all) ∙ filter_view trace_view (λ (q : TracePoint). bytes_eq (section q) n) xs
