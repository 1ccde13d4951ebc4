-- The fault that is answered is the first: no other fault goes before it.
use Rattle.std.proofs.Common.{◌≡◌, ◌⊎◌, refl, inl, inr, ℕ, ◌<◌, ◌≤◌, ◌&&◌, ◌||◌, not, ◌==◌, Bool, true, false, cond, List, [], ◌∷◌, Option, Some, None, sym, subst, arith}
use Rattle.std.specs.Prelude.{nat_lt}
use Rattle.std.proofs.lemmas.Bool.{false≢true, ltb-true, ltb-false, le-ltb, eqb-true, eq-eqb}
use Rattle.cov_host.specs.declared.place.Place.{Place}
use Rattle.elab_const.specs.Scope.{below_or}
use Rattle.flat_design.specs.Fault.{Fault, place_of, before_or, option_before, goes_before, is_undeclared, first_of_faults, IsFirst}

or_false : (x y r : Bool) → (x || (y && r)) ≡ false → (x ≡ false) × (y ≡ true → r ≡ false)
or_false true y r e = absurd (false≢true (sym e))
or_false false true r e = (refl, λ h. e)
or_false false false r e = (refl, λ h. absurd (false≢true h))

false_or : (x y r : Bool) → x ≡ false → (y ≡ true → r ≡ false) → (x || (y && r)) ≡ false
false_or true y r e f = absurd (false≢true (sym e))
false_or false true r e f = f refl
false_or false false r e f = refl

or_true : (x y r : Bool) → (x || (y && r)) ≡ true → (x ≡ true) ⊎ ((y ≡ true) × (r ≡ true))
or_true true y r e = inl refl
or_true false true r e = inr (refl, e)
or_true false false r e = absurd (false≢true e)

below_read : (a b : ℕ) (r : Bool) → below_or a b r ≡ false → (b ≤ a) × (a ≡ b → r ≡ false)
below_read a b r e = let h = or_false (nat_lt a b) (a == b) r e in (ltb-false a b h.0, λ same. h.1 (eq-eqb a b same))

below_false : (a b : ℕ) (r : Bool) → b ≤ a → (a ≡ b → r ≡ false) → below_or a b r ≡ false
below_false a b r h f = false_or (nat_lt a b) (a == b) r (le-ltb a b h) (λ same. f (eqb-true a b same))

-- not below, twice
below_twice : (a b c : ℕ) (r s t : Bool) → below_or a b r ≡ false → below_or b c s ≡ false → (r ≡ false → s ≡ false → t ≡ false) → below_or a c t ≡ false
below_twice a b c r s t e f g =
    let x = below_read a b r e in
    let y = below_read b c s f in
    let b≤a : b ≤ a = x.0 in
    let c≤b : c ≤ b = y.0 in
    below_false a c t (omega arith) (λ same. g (x.1 (omega arith)) (y.1 (omega arith)))

below_back : (a b : ℕ) (r s : Bool) → below_or a b r ≡ true → (r ≡ true → s ≡ false) → below_or b a s ≡ false
below_back a b r s e f = back (or_true (nat_lt a b) (a == b) r e)
  where
    back : (nat_lt a b ≡ true) ⊎ (((a == b) ≡ true) × (r ≡ true)) → below_or b a s ≡ false
    back (inl h) = let a<b : a < b = ltb-true a b h in below_false b a s (omega arith) (λ same. absurd (omega arith))
    back (inr h) = let a≡b : a ≡ b = eqb-true a b h.0 in below_false b a s (omega arith) (λ same. f h.1)

before_twice : (p q o : Place) (r s t : Bool) → before_or r p q ≡ false → before_or s q o ≡ false → (r ≡ false → s ≡ false → t ≡ false) → before_or t p o ≡ false
before_twice p q o r s t e f g =
    below_twice p.source q.source o.source _ _ _ e f
    (λ e2 f2. below_twice p.line q.line o.line _ _ _ e2 f2
    (λ e3 f3. below_twice p.column q.column o.column r s t e3 f3 g))

before_back : (p q : Place) (r s : Bool) → before_or r p q ≡ true → (r ≡ true → s ≡ false) → before_or s q p ≡ false
before_back p q r s e f =
    below_back p.source q.source _ _ e (λ e2. below_back p.line q.line _ _ e2 (λ e3. below_back p.column q.column r s e3 f))

option_twice : (p q o : Option Place) (r s t : Bool) → option_before r p q ≡ false → option_before s q o ≡ false → (r ≡ false → s ≡ false → t ≡ false) → option_before t p o ≡ false
option_twice None q o r s t e f g = refl
option_twice (Some p) None o r s t e f g = absurd (false≢true (sym e))
option_twice (Some p) (Some q) None r s t e f g = absurd (false≢true (sym f))
option_twice (Some p) (Some q) (Some o) r s t e f g = before_twice p q o r s t e f g

option_back : (p q : Option Place) (r s : Bool) → option_before r p q ≡ true → (r ≡ true → s ≡ false) → option_before s q p ≡ false
option_back None q r s e f = absurd (false≢true e)
option_back (Some p) None r s e f = refl
option_back (Some p) (Some q) r s e f = before_back p q r s e f

rank_twice : (x y z : Bool) → (x && not y) ≡ false → (y && not z) ≡ false → (x && not z) ≡ false
rank_twice false y z e f = refl
rank_twice true true z e f = f
rank_twice true false z e f = absurd (false≢true (sym e))

rank_back : (x y : Bool) → (x && not y) ≡ true → (y && not x) ≡ false
rank_back false y e = absurd (false≢true e)
rank_back true true e = refl
rank_back true false e = refl

pub not_before-trans : (f g h : Fault) → goes_before f g ≡ false → goes_before g h ≡ false → goes_before f h ≡ false
not_before-trans f g h e e2 =
    option_twice (place_of f) (place_of g) (place_of h) _ _ _ e e2 (rank_twice (is_undeclared f) (is_undeclared g) (is_undeclared h))

pub before-asym : (f g : Fault) → goes_before f g ≡ true → goes_before g f ≡ false
before-asym f g e = option_back (place_of f) (place_of g) _ _ e (rank_back (is_undeclared f) (is_undeclared g))

before-irrefl : (f : Fault) → goes_before f f ≡ false
before-irrefl f = by_test (goes_before f f) (before-asym f f)
  where
    by_test : (b : Bool) → (b ≡ true → b ≡ false) → b ≡ false
    by_test true h = h refl
    by_test false h = refl

least_of : (f g : Fault) (gs : List Fault) (b : Bool) → goes_before g f ≡ b → IsFirst (first_of_faults g gs) (g ∷ gs) → IsFirst (first_of_faults f gs) (f ∷ gs) → IsFirst (first_of_faults (cond b g f) gs) (f ∷ g ∷ gs)
least_of f g gs true e of_g of_f h (inl same) = subst (λ x. goes_before x (first_of_faults g gs) ≡ false) same (not_before-trans f g (first_of_faults g gs) (before-asym g f e) (of_g g (inl refl)))
least_of f g gs true e of_g of_f h (inr rest) = of_g h rest
least_of f g gs false e of_g of_f h (inl same) = of_f h (inl same)
least_of f g gs false e of_g of_f h (inr (inl same)) = subst (λ x. goes_before x (first_of_faults f gs) ≡ false) same (not_before-trans g f (first_of_faults f gs) e (of_f f (inl refl)))
least_of f g gs false e of_g of_f h (inr (inr rest)) = of_f h (inr rest)

pub first_least : (f : Fault) (gs : List Fault) → IsFirst (first_of_faults f gs) (f ∷ gs)
first_least f [] h (inl same) = subst (λ x. goes_before x f ≡ false) same (before-irrefl f)
first_least f [] h (inr rest) = absurd rest
first_least f (g ∷ gs) h m = least_of f g gs (goes_before g f) refl (first_least g gs) (first_least f gs) h m
