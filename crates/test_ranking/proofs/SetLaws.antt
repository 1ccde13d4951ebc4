-- Laws of sets of points.
use Rattle.std.proofs.Common.{◌≡◌, ℕ, zero, suc, ◌+◌, ◌≤◌, Bool, true, false, cond, not, ◌&&◌, ◌||◌, List, [], ◌∷◌, length, take, drop, refl, sym, ap, ◌∙◌, arith}
use Rattle.std.proofs.lemmas.Bool.{false≢true}
use Rattle.std.proofs.lemmas.List.Sums.{count_by-le-length, sum_by-cons, sum_by-take-drop}
use Rattle.test_ranking.specs.PointSet.{has, no_points, size, union, without}

-- the first mark counts 1 or nothing
pub size-cons : (mark : Bool) (set : List Bool) → size (mark ∷ set) ≡ cond mark 1 0 + size set
size-cons mark set = sum_by-cons (λ (m : Bool). cond m 1 0) mark set

pub size-nil : size [] ≡ 0
size-nil = refl

pub size-le-length : (set : List Bool) → size set ≤ length set
size-le-length set = count_by-le-length (λ (m : Bool). m) set

pub size-take-drop : (set : List Bool) (count : ℕ) → size (take count set) + size (drop count set) ≡ size set
size-take-drop set count = sum_by-take-drop (λ (m : Bool). cond m 1 0) set count

pub length-union : (a b : List Bool) → length a ≡ length b → length (union a b) ≡ length a
length-union [] b same = sym same
length-union (x ∷ xs) [] same = refl
length-union (x ∷ xs) (y ∷ ys) same = ap suc (length-union xs ys (omega arith))

pub take-union : (count : ℕ) (a b : List Bool) → take count (union a b) ≡ union (take count a) (take count b)
take-union zero a b = refl
take-union (suc count) [] b = refl
take-union (suc count) (x ∷ xs) [] = refl
take-union (suc count) (x ∷ xs) (y ∷ ys) = ap (λ (set : List Bool). (x || y) ∷ set) (take-union count xs ys)

union-nil : (a : List Bool) → union a [] ≡ a
union-nil [] = refl
union-nil (x ∷ xs) = refl

pub drop-union : (count : ℕ) (a b : List Bool) → drop count (union a b) ≡ union (drop count a) (drop count b)
drop-union zero a b = refl
drop-union (suc count) [] b = refl
drop-union (suc count) (x ∷ xs) [] = sym (union-nil (drop count xs))
drop-union (suc count) (x ∷ xs) (y ∷ ys) = drop-union count xs ys

without-nil : (a : List Bool) → without a [] ≡ a
without-nil [] = refl
without-nil (x ∷ xs) = refl

one_of : (x y : Bool) → cond (x || y) 1 0 ≡ cond x 1 0 + cond (y && not x) 1 0
one_of true true = refl
one_of true false = refl
one_of false true = refl
one_of false false = refl

-- a union has the points of one set, and those that the other adds
pub size-union : (a b : List Bool) → size (union a b) ≡ size a + size (without b a)
size-union [] b = let same : size (without b []) ≡ size b = ap size (without-nil b) in omega arith
size-union (x ∷ xs) [] = omega (arith, size-nil)
size-union (x ∷ xs) (y ∷ ys) =
    omega (arith, size-cons (x || y) (union xs ys), size-cons x xs, size-cons (y && not x) (without ys xs), one_of x y, size-union xs ys)

fewer : (t h s : Bool) → cond (t && not (h || s)) 1 0 ≤ cond (t && not h) 1 0
fewer true true s = omega arith
fewer true false true = omega arith
fewer true false false = omega arith
fewer false h s = omega arith

pub fewer_than_all : (t h : List Bool) → size (without t h) ≤ size t
fewer_than_all [] h = omega (arith, size-nil)
fewer_than_all (x ∷ xs) [] = omega arith
fewer_than_all (true ∷ xs) (true ∷ ys) = omega (arith, size-cons true xs, size-cons false (without xs ys), fewer_than_all xs ys)
fewer_than_all (true ∷ xs) (false ∷ ys) = omega (arith, size-cons true xs, size-cons true (without xs ys), fewer_than_all xs ys)
fewer_than_all (false ∷ xs) (y ∷ ys) = omega (arith, size-cons false xs, size-cons false (without xs ys), fewer_than_all xs ys)

-- the more points are hit, the fewer a set adds
pub without-union : (t h s : List Bool) → size (without t (union h s)) ≤ size (without t h)
without-union [] h s = omega (arith, size-nil)
without-union (x ∷ xs) [] s = fewer_than_all (x ∷ xs) s
without-union (x ∷ xs) (y ∷ ys) [] = omega arith
without-union (x ∷ xs) (y ∷ ys) (z ∷ zs) =
    omega (arith, size-cons (x && not (y || z)) (without xs (union ys zs)), size-cons (x && not y) (without xs ys), fewer x y z, without-union xs ys zs)

none_twice : (h t : Bool) → ◌≡◌ {A = ℕ} (cond (t && not (h || t)) 1 0) 0
none_twice true true = refl
none_twice true false = refl
none_twice false true = refl
none_twice false false = refl

none_of_own : (t : List Bool) → size (without t t) ≡ 0
none_of_own [] = size-nil
none_of_own (true ∷ xs) = omega (arith, size-cons false (without xs xs), none_of_own xs)
none_of_own (false ∷ xs) = omega (arith, size-cons false (without xs xs), none_of_own xs)

-- a set adds nothing to what it was added to
pub without-itself : (h t : List Bool) → size (without t (union h t)) ≡ 0
without-itself [] t = none_of_own t
without-itself (y ∷ ys) [] = size-nil
without-itself (y ∷ ys) (x ∷ xs) = omega (arith, size-cons (x && not (y || x)) (without xs (union ys xs)), none_twice y x, without-itself ys xs)

or-false : (x : Bool) → (x || false) ≡ x
or-false true = refl
or-false false = refl

pub has-union : (a b : List Bool) (place : ℕ) → has (union a b) place ≡ (has a place || has b place)
has-union [] b place = refl
has-union (x ∷ xs) [] place = sym (or-false (has (x ∷ xs) place))
has-union (x ∷ xs) (y ∷ ys) zero = refl
has-union (x ∷ xs) (y ∷ ys) (suc place) = has-union xs ys place

first_missing : (x y : Bool) → ◌≡◌ {A = ℕ} (cond (x && not y) 1 0) 0 → x ≡ true → y ≡ true
first_missing x true none is = refl
first_missing true false none is = absurd (omega arith)
first_missing false false none is = is

-- where a set adds nothing, all its points are hit
pub has-without : (t h : List Bool) (place : ℕ) → size (without t h) ≡ 0 → has t place ≡ true → has h place ≡ true
has-without [] h place none is = absurd (false≢true is)
has-without (true ∷ xs) [] zero none is = absurd (omega (arith, size-cons true xs, none))
has-without (false ∷ xs) [] zero none is = absurd (false≢true is)
has-without (x ∷ xs) [] (suc place) none is =
    let rest : size (without xs []) ≡ 0 = ap size (without-nil xs) ∙ (omega (arith, size-cons x xs, none)) in
    has-without xs [] place rest is
has-without (x ∷ xs) (y ∷ ys) zero none is = first_missing x y (omega (arith, size-cons (x && not y) (without xs ys), none)) is
has-without (x ∷ xs) (y ∷ ys) (suc place) none is = has-without xs ys place (omega (arith, size-cons (x && not y) (without xs ys), none)) is

same_marks : (a b : Bool) → (a ≡ true → b ≡ true) → (b ≡ true → a ≡ true) → a ≡ b
same_marks true b there back = sym (there refl)
same_marks false true there back = absurd (false≢true (back refl))
same_marks false false there back = refl

-- sets of as many points with the same ones are one
pub same_sets : (a b : List Bool) → length a ≡ length b → ((place : ℕ) → has a place ≡ true → has b place ≡ true) → ((place : ℕ) → has b place ≡ true → has a place ≡ true) → a ≡ b
same_sets [] [] long there back = refl
same_sets [] (y ∷ ys) long there back = absurd (omega (arith, long))
same_sets (x ∷ xs) [] long there back = absurd (omega (arith, long))
same_sets (x ∷ xs) (y ∷ ys) long there back =
    let first = same_marks x y (there 0) (back 0) in
    let rest = same_sets xs ys (omega (arith, long)) (λ place. there (suc place)) (λ place. back (suc place)) in
    cc

pub size-none : (points : ℕ) → size (no_points points) ≡ 0
size-none zero = size-nil
size-none (suc points) = omega (arith, size-cons false (no_points points), size-none points)
