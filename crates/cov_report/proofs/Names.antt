-- The points of one block are next to each other.
use Rattle.std.proofs.Common.{◌≡◌, ℕ, zero, suc, ◌+◌, ◌-◌, ◌<◌, ◌≤◌, Bool, true, false, cond, List, [], ◌∷◌, length, map, get_or, take, drop, refl, sym, ap, ◌∙◌, inl, inr, arith}
use Rattle.std.specs.Prelude.{bytes_eq}
use Rattle.std.specs.declared.cmp.Ordering.{Ordering}
use Rattle.std.specs.declared.cmp.Ordering.TheVariants.{Less, Equal, Greater}
use Rattle.std.specs.List.{filter}
use Rattle.std.specs.List.Sorted.{IsPartitionedBy, IsPartitionPoint}
use Rattle.std.specs.Ordering.{is_lt, is_le, is_gt, ordering_then}
use Rattle.std.proofs.lemmas.Cmp.{nat_list_cmp_total, tied_itself, upto}
use Rattle.std.proofs.lemmas.Map.Lookups.{exact_bytes}
use Rattle.std.proofs.lemmas.Bool.{cases_lt}
use Rattle.coverage_db.specs.Order.{bytes_cmp}
use Rattle.coverage_db.specs.Table.{Rises}
use Rattle.coverage_db.proofs.PathSearch.{rises_tail, other_path, same_path}
use Rattle.cov_report.specs.declared.counted.Counted.{Counted}
use Rattle.cov_report.specs.Order.{subject_cmp}
use Rattle.cov_report.specs.Points.{ReportPoint}
use Rattle.cov_report.specs.Views.{counted_cmp, report_point}

-- ---- filters

pub filter_view : {X Y : Type 0} (f : X → Y) (p : Y → Bool) (xs : List X) → map f (filter (λ x. p (f x)) xs) ≡ filter p (map f xs)
filter_view f p [] = refl
filter_view {X} {Y} f p (x ∷ xs) =
    elim (p (f x)) as (λ b. map f (cond b (x ∷ filter (λ x. p (f x)) xs) (filter (λ x. p (f x)) xs)) ≡ cond b (f x ∷ filter p (map f xs)) (filter p (map f xs))) [
      | true ↦ ap (λ (t : List Y). f x ∷ t) (filter_view f p xs)
      | false ↦ filter_view f p xs
    ]

nothing_left : (X : Type 0) (from count : ℕ) → take count (drop {A = X} from []) ≡ []
nothing_left X zero zero = refl
nothing_left X zero (suc count) = refl
nothing_left X (suc from) zero = refl
nothing_left X (suc from) (suc count) = refl

-- the first items fail, so many pass, and all others fail
window : {X : Type 0} (p : X → Bool) (xs : List X) (from count : ℕ) → ((k : ℕ) (d : X) → k < length xs → k < from → p (get_or xs k d) ≡ false) → ((k : ℕ) (d : X) → k < length xs → from ≤ k → k < from + count → p (get_or xs k d) ≡ true)
    → ((k : ℕ) (d : X) → k < length xs → from + count ≤ k → p (get_or xs k d) ≡ false) → filter p xs ≡ take count (drop from xs)
window {X} p [] from count before among behind = sym (nothing_left X from count)
window {X} p (x ∷ xs) zero zero before among behind =
    let no : p x ≡ false = behind 0 x (omega arith) (omega arith) in
    ap (λ (b : Bool). cond b (x ∷ filter p xs) (filter p xs)) no
    ∙ window p xs 0 0 (λ k d within low. absurd (omega arith)) (λ k d within low high. absurd (omega arith)) (λ k d within high. behind (suc k) d (omega arith) (omega arith))
window {X} p (x ∷ xs) zero (suc count) before among behind =
    let yes : p x ≡ true = among 0 x (omega arith) (omega arith) (omega arith) in
    ap (λ (b : Bool). cond b (x ∷ filter p xs) (filter p xs)) yes
    ∙ ap (λ (t : List X). x ∷ t) (window p xs 0 count (λ k d within low. absurd (omega arith)) (λ k d within low high. among (suc k) d (omega arith) (omega arith) (omega arith)) (λ k d within high. behind (suc k) d (omega arith) (omega arith)))
window {X} p (x ∷ xs) (suc from) count before among behind =
    let no : p x ≡ false = before 0 x (omega arith) (omega arith) in
    ap (λ (b : Bool). cond b (x ∷ filter p xs) (filter p xs)) no
    ∙ window p xs from count (λ k d within low. before (suc k) d (omega arith) (omega arith)) (λ k d within low high. among (suc k) d (omega arith) (omega arith) (omega arith)) (λ k d within high. behind (suc k) d (omega arith) (omega arith))

-- ---- names in rising lists

first_part : (w v : Ordering) → ordering_then w v ≡ Less → is_gt w ≡ false
first_part Less v e = refl
first_part Equal v e = refl
first_part Greater v e = absurd cc

abbrev name_of : Counted → List ℕ
name_of c = c.name.now

head_upto : (x : Counted) (xs : List Counted) (j : ℕ) (d : Counted) → Rises counted_cmp (x ∷ xs) → j < length xs → is_gt (bytes_cmp (name_of x) (name_of (get_or xs j d))) ≡ false
head_upto x [] j d r within = absurd (omega arith)
head_upto x (y ∷ ys) zero d r within = first_part (bytes_cmp (name_of x) (name_of y)) (subject_cmp x.subject.now y.subject.now) r.0
head_upto x (y ∷ ys) (suc j) d r within =
    upto nat_list_cmp_total (name_of x) (name_of y) (name_of (get_or ys j d)) (first_part (bytes_cmp (name_of x) (name_of y)) (subject_cmp x.subject.now y.subject.now) r.0) (head_upto y ys j d r.1 (omega arith))

names_rise : (xs : List Counted) (i j : ℕ) (d : Counted) → Rises counted_cmp xs → i ≤ j → j < length xs → is_gt (bytes_cmp (name_of (get_or xs i d)) (name_of (get_or xs j d))) ≡ false
names_rise [] i j d r up within = absurd (omega arith)
names_rise (x ∷ xs) zero zero d r up within = ap is_gt (tied_itself nat_list_cmp_total (name_of x))
names_rise (x ∷ xs) zero (suc j) d r up within = head_upto x xs j d r (omega arith)
names_rise (x ∷ xs) (suc i) zero d r up within = absurd (omega arith)
names_rise (x ∷ xs) (suc i) (suc j) d r up within = names_rise xs i j d (rises_tail counted_cmp x xs r) (omega arith) (omega arith)

less_is : (w : Ordering) → is_lt w ≡ true → w ≡ Less
less_is Less e = refl
less_is Equal e = absurd cc
less_is Greater e = absurd cc

not_greater : (w : Ordering) → is_le w ≡ true → is_gt w ≡ false
not_greater Less e = refl
not_greater Equal e = refl
not_greater Greater e = absurd cc

less_or_equal : (w : Ordering) → is_gt w ≡ false → is_le w ≡ true
less_or_equal Less e = refl
less_or_equal Equal e = refl
less_or_equal Greater e = absurd cc

less_down : (a b n : List ℕ) (w : Ordering) → bytes_cmp a b ≡ w → is_gt w ≡ false → is_lt (bytes_cmp b n) ≡ true → is_lt (bytes_cmp a n) ≡ true
less_down a b n Less e up less = ap is_lt (nat_list_cmp_total.trans a b n e (less_is (bytes_cmp b n) less))
less_down a b n Equal e up less = ap is_lt (nat_list_cmp_total.congr a b n e) ∙ less
less_down a b n Greater e up less = absurd cc

pub parted_less : (xs : List Counted) (n : List ℕ) → Rises counted_cmp xs → IsPartitionedBy (λ c. is_lt (bytes_cmp c.name.now n)) xs
parted_less xs n r = λ i j d up within e. less_down (name_of (get_or xs i d)) (name_of (get_or xs j d)) n (bytes_cmp (name_of (get_or xs i d)) (name_of (get_or xs j d))) refl (names_rise xs i j d r up within) e

pub parted_upto : (xs : List Counted) (n : List ℕ) → Rises counted_cmp xs → IsPartitionedBy (λ c. is_le (bytes_cmp c.name.now n)) xs
parted_upto xs n r =
    λ i j d up within e. less_or_equal (bytes_cmp (name_of (get_or xs i d)) n) (upto nat_list_cmp_total (name_of (get_or xs i d)) (name_of (get_or xs j d)) n (names_rise xs i j d r up within) (not_greater (bytes_cmp (name_of (get_or xs j d)) n) e))

-- ---- the points of one name

abbrev Before : List ℕ → List Counted → ℕ → Type 0
Before n xs from = IsPartitionPoint (λ c. is_lt (bytes_cmp c.name.now n) ≡ true) (λ c. is_lt (bytes_cmp c.name.now n) ≡ false) xs from

abbrev Through : List ℕ → List Counted → ℕ → Type 0
Through n xs to = IsPartitionPoint (λ c. is_le (bytes_cmp c.name.now n) ≡ true) (λ c. is_le (bytes_cmp c.name.now n) ≡ false) xs to

less_through : (w : Ordering) → is_lt w ≡ true → is_le w ≡ false → ⊥
less_through Less p q = cc
less_through Equal p q = cc
less_through Greater p q = cc

pub before_through : (n : List ℕ) (xs : List Counted) (from to : ℕ) → from ≤ length xs → Before n xs from → Through n xs to → from ≤ to
before_through n [] from to within before through = omega arith
before_through n (x ∷ xs) from to within before through =
    elim (cases_lt to from) [
      | inl low ↦ absurd (less_through (bytes_cmp (name_of (get_or (x ∷ xs) to x)) n) (before.0 to x (omega arith) low) (through.1 to x (omega arith) (omega arith)))
      | inr high ↦ high
    ]

other_less : (a n : List ℕ) → is_lt (bytes_cmp a n) ≡ true → bytes_eq a n ≡ false
other_less a n e = other_path a n (λ same. let bad : Less ≡ Equal = sym (less_is (bytes_cmp a n) e) ∙ same in cc)

other_beyond : (a n : List ℕ) → is_le (bytes_cmp a n) ≡ false → bytes_eq a n ≡ false
other_beyond a n e = other_path a n (λ same. let bad : true ≡ false = sym (ap is_le same) ∙ e in cc)

equal_is : (w : Ordering) → is_lt w ≡ false → is_le w ≡ true → w ≡ Equal
equal_is Less p q = absurd cc
equal_is Equal p q = refl
equal_is Greater p q = absurd cc

same_between : (a n : List ℕ) → is_lt (bytes_cmp a n) ≡ false → is_le (bytes_cmp a n) ≡ true → bytes_eq a n ≡ true
same_between a n p q = same_path a n (exact_bytes a n (equal_is (bytes_cmp a n) p q))

pub points_between : (n : List ℕ) (xs : List Counted) (from to : ℕ) → from ≤ to → Before n xs from → Through n xs to → map report_point (take (to - from) (drop from xs)) ≡ filter (λ q. bytes_eq q.name n) (map report_point xs)
points_between n xs from to up before through =
    let all : filter (λ (c : Counted). bytes_eq c.name.now n) xs ≡ take (to - from) (drop from xs) =
    window (λ (c : Counted). bytes_eq c.name.now n) xs from (to - from)
    (λ k d within low. other_less (name_of (get_or xs k d)) n (before.0 k d (omega arith) low))
    (λ k d within low high. same_between (name_of (get_or xs k d)) n (before.1 k d low within) (through.0 k d (omega arith) (omega arith)))
    (λ k d within high. other_beyond (name_of (get_or xs k d)) n (through.1 k d (omega arith) within)) in
    ap (map report_point) (sym all) ∙ filter_view report_point (λ (q : ReportPoint). bytes_eq q.name n) xs
