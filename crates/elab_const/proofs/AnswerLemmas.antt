-- Answers of the expressions in an expression, and its own.
use Rattle.std.proofs.Common.{◌≡◌, ◌≤◌, ◌*◌, ℕ, zero, suc, Bool, true, false, nat_lt, refl, sym, ap, subst, if◌then◌else◌, ◌∙◌, ⊎_elim, arith, List, Option, Some, None, Result, Ok, Err}
use Rattle.std.specs.Prelude.{IfOk}
use Rattle.std.proofs.lemmas.Bool.{cases_lt, false≢true, lt-ltb}
use Rattle.std.proofs.Math.Nat.{suc-mul, zero-mul, mul-zero}
use Rattle.cov_host.specs.declared.place.Place.{Place}
use Rattle.design_model.specs.Value.{copies}
use Rattle.four_state.specs.declared.bit.Bit.{Bit}
use Rattle.four_state.specs.declared.index.Index.{Index}
use Rattle.verilog_tree.specs.Tree.{Expr, place_of}
use Rattle.elab_const.specs.Scope.{Names, Fault, ConstKind, NotConstant, BadRange, TooWide, IsWidth, fault_if, both, earlier, on_ok, or_else, unless}
use Rattle.elab_const.specs.Meaning.{Shape, Evaluated, Joined, number_of, count_of, constant, shape_as, bits_before, bits_within}
use Rattle.elab_const.specs.Faults.{fault_of, is_constant, is_no_number, number_fault, is_bad_bound, is_below_one, size_fault, bound_from, size_from, count_from, number_answer, bound_answer, size_answer, count_answer}

-- two answers are one of both
pub both_answers : {A B : Type 0} (f h : Option Fault) (a : A) (b : B) → both (unless f a) (unless h b) ≡ unless (earlier f h) (a, b)
both_answers None None a b = refl
both_answers None (Some h) a b = refl
both_answers (Some f) None a b = refl
both_answers (Some f) (Some h) a b = refl

-- what is made of an answer
pub made_of : {A B : Type 0} (f : Option Fault) (a : A) (k : A → B) → on_ok (unless f a) (λ x. Ok (k x)) ≡ unless f (k a)
made_of None a k = refl
made_of (Some f) a k = refl

-- and where that may have a fault
pub made_or_fault : {A B : Type 0} (f : Option Fault) (a : A) (h : A → Option Fault) (k : A → B) → on_ok (unless f a) (λ x. unless (h x) (k x)) ≡ unless (or_else f (h a)) (k a)
made_or_fault None a h k = refl
made_or_fault (Some f) a h k = refl

-- of two faults in turn none is there
pub none_in_turn : (f h : Option Fault) → or_else f h ≡ None → (f ≡ None) × (h ≡ None)
none_in_turn None h e = (refl, e)
none_in_turn (Some f) h e = absurd cc

-- an answer without a fault
pub sound_answer : {A : Type 0} (f : Option Fault) (a : A) → f ≡ None → unless f a ≡ Ok a
sound_answer None a e = refl
sound_answer (Some f) a e = absurd cc

-- an answer of both, where each answer is given by an equation
pub of_both : {A B : Type 0} (f h : Option Fault) (a : A) (b : B) (ra : Result A Fault) (rb : Result B Fault) (r : Result (A × B) Fault) →
    ra ≡ unless f a → rb ≡ unless h b → r ≡ both ra rb → r ≡ unless (earlier f h) (a, b)
of_both f h a b ra rb r p q e = e ∙ rw (p, q) (both_answers f h a b)

-- and what is made of it
pub of_made : {A B : Type 0} (f : Option Fault) (a : A) (k : A → B) (r : Result A Fault) → r ≡ unless f a → on_ok r (λ x. Ok (k x)) ≡ unless f (k a)
of_made f a k r e = rw e (made_of f a k)

-- and where that may have a fault
pub of_made_or : {A B : Type 0} (f : Option Fault) (a : A) (h : A → Option Fault) (k : A → B) (r : Result A Fault) → r ≡ unless f a → on_ok r (λ x. unless (h x) (k x)) ≡ unless (or_else f (h a)) (k a)
of_made_or f a h k r e = rw e (made_or_fault f a h k)

-- a number as a bound, as a width and as a count
pub bound_is : (g : Names) (p : Place) (e : Expr) (n : Result Index Fault) (r : Result ℕ Fault) → n ≡ number_answer g e → r ≡ on_ok n (bound_from p) → r ≡ bound_answer g p e
bound_is g p e n r number from =
    from ∙ of_made_or (number_fault g e (fault_of g e)) (number_of g e) (λ i. fault_if (is_bad_bound i) BadRange p) (λ i. count_of i) n number

pub size_is : (g : Names) (p : Place) (e : Expr) (n : Result Index Fault) (r : Result ℕ Fault) → n ≡ number_answer g e → r ≡ on_ok n (size_from p) → r ≡ size_answer g p e
size_is g p e n r number from =
    from ∙ of_made_or (number_fault g e (fault_of g e)) (number_of g e) (λ i. or_else (fault_if (is_below_one i) BadRange p) (size_fault (count_of i) p)) (λ i. count_of i) n number

pub count_is : (g : Names) (p : Place) (e : Expr) (n : Result Index Fault) (r : Result ℕ Fault) → n ≡ number_answer g e → r ≡ on_ok n (count_from p) → r ≡ count_answer g p e
count_is g p e n r number from =
    from ∙ of_made_or (number_fault g e (fault_of g e)) (number_of g e) (λ i. fault_if (is_below_one i) BadRange p) (λ i. count_of i) n number

-- an answer that was found has no fault, and is the value
pub found : {A : Type 0} (f : Option Fault) (a x : A) → unless f a ≡ Ok x → (f ≡ None) × (a ≡ x)
found None a x e = (refl, cc)
found (Some f) a x e = absurd cc

-- an answer that failed has that fault
pub is_fault : {A : Type 0} (f : Option Fault) (a : A) (h : Fault) → unless f a ≡ Err h → f ≡ Some h
is_fault None a h e = absurd cc
is_fault (Some f) a h e = cc

-- where there is no fault, its test does not hold
no_fault : (b : Bool) (k : ConstKind) (p : Place) → fault_if b k p ≡ None → b ≡ false
no_fault true k p e = absurd cc
no_fault false k p e = refl

-- what is not below
not_below : (a b : ℕ) → nat_lt a b ≡ false → b ≤ a
not_below a b none = ⊎_elim (λ below. absurd (false≢true (sym none ∙ lt-ltb a b below))) (λ above. above) (cases_lt a b)

-- a width without a fault
pub width_within : (w : ℕ) (p : Place) → size_fault w p ≡ None → IsWidth w
width_within w p e =
    let both = none_in_turn (fault_if (nat_lt w 1) BadRange p) (fault_if (nat_lt 128 w) TooWide p) e in
    let low = no_fault (nat_lt w 1) BadRange p both.0 in
    let high = no_fault (nat_lt 128 w) TooWide p both.1 in
    (not_below w 1 low, not_below 128 w high)

-- both factors of a width
pub factors : (n w : ℕ) → IsWidth (n * w) → (1 ≤ n) × IsWidth w
factors zero w within = absurd (omega (arith, zero-mul w, within.0))
factors (suc n) zero within = absurd (omega (arith, mul-zero (suc n), within.0))
factors (suc n) (suc w) within = (omega arith, (omega arith, omega (arith, suc-mul n (suc w), within.1)))

-- the number of an expression that is constant
pub number_is : (g : Names) (e : Expr) (p : Place) → is_constant g e ≡ true → place_of e ≡ p →
    unless (or_else (fault_of g e) (fault_if (is_no_number (number_of g e)) NotConstant p)) (number_of g e)
    ≡ unless (or_else (if is_constant g e then fault_of g e else fault_if true NotConstant (place_of e)) (fault_if (is_no_number (number_of g e)) NotConstant (place_of e))) (number_of g e)
number_is g e p con here = rw (con, here) refl

-- the value of an expression that is constant
pub constant_is : (g : Names) (e : Expr) → is_constant g e ≡ true → unless (fault_of g e) (constant g e) ≡ unless (if is_constant g e then fault_of g e else fault_if true NotConstant (place_of e)) (constant g e)
constant_is g e con = rw con refl

-- so many copies of parts side by side, in what is around them
pub repeat_is : (p : Place) (around : Option Shape) (h f : Option Fault) (n w : ℕ) (bs : List Bit) (k : Result ℕ Fault) (j : Result Joined Fault) (q : Result (ℕ × Joined) Fault) (r : Result Evaluated Fault) →
    k ≡ unless h n → on_ok j (λ x. Ok x.width) ≡ unless f w → IfOk j (λ x. x.width ≤ 128 → bits_before x.value ≡ bs) → q ≡ both k j →
    r ≡ on_ok q (λ x. unless (size_fault (x.0 * x.1.width) p) (bits_within (shape_as (x.0 * x.1.width) false) (copies x.0 (bits_before x.1.value)) around)) →
    r ≡ unless (or_else (earlier h f) (size_fault (n * w) p)) (bits_within (shape_as (n * w) false) (copies n bs) around)
repeat_is p around h f n w bs k j q r times width bits pair e = rw (e, pair, times) (go h f j width bits)
  where
    made : Result (ℕ × Joined) Fault → Result Evaluated Fault
    made q = on_ok q (λ x. unless (size_fault (x.0 * x.1.width) p) (bits_within (shape_as (x.0 * x.1.width) false) (copies x.0 (bits_before x.1.value)) around))

    fits : (x : Joined) (o : Option Fault) → x.width ≡ w → (x.width ≤ 128 → bits_before x.value ≡ bs) → size_fault (n * x.width) p ≡ o →
        unless o (bits_within (shape_as (n * x.width) false) (copies n (bits_before x.value)) around) ≡ unless o (bits_within (shape_as (n * x.width) false) (copies n bs) around)
    fits x (Some h) same bits is = refl
    fits x None same bits none = ap (λ b. Ok (bits_within (shape_as (n * x.width) false) (copies n b) around)) (bits (factors n x.width (width_within (n * x.width) p none)).1.1)

    go : (h f : Option Fault) (j : Result Joined Fault) → on_ok j (λ x. Ok x.width) ≡ unless f w → IfOk j (λ x. x.width ≤ 128 → bits_before x.value ≡ bs) →
        made (both (unless h n) j) ≡ unless (or_else (earlier h f) (size_fault (n * w) p)) (bits_within (shape_as (n * w) false) (copies n bs) around)
    go None None (Ok x) width bits =
        let same : x.width ≡ w = cc in
        subst (λ m. unless (size_fault (n * x.width) p) (bits_within (shape_as (n * x.width) false) (copies n (bits_before x.value)) around) ≡ unless (size_fault (n * m) p) (bits_within (shape_as (n * m) false) (copies n bs) around)) same (fits x (size_fault (n * x.width) p) same bits refl)
    go (Some h) None (Ok x) width bits = refl
    go None (Some f) (Err y) width bits = cc
    go (Some h) (Some f) (Err y) width bits = cc
    go None (Some f) (Ok x) width bits = absurd cc
    go (Some h) (Some f) (Ok x) width bits = absurd cc
    go None None (Err y) width bits = absurd cc
    go (Some h) None (Err y) width bits = absurd cc
