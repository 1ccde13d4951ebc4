-- Steps one after the other, of which each can fail.
use Rattle.std.proofs.Common.{◌≡◌, Bool, true, false, cond, Result, Ok, Err, refl, ap, ◌⊎◌, inl, inr}
use Rattle.std.specs.Prelude.{◌&&◌, ◌||◌}
use Rattle.grammar_rules.specs.Rule.{◌>>=◌}

-- the value of a step that did not fail
pub bind_ok : {A B F : Type 0} (r : Result A F) (f : A → Result B F) (y : B) → (r >>= f) ≡ Ok y → (x : A) × (r ≡ Ok x) × (f x ≡ Ok y)
bind_ok (Ok x) f y e = (x, refl, e)
bind_ok (Err d) f y e = absurd cc

-- which way a test went
pub chosen : {A : Type 0} (b : Bool) (x y z : A) → cond b x y ≡ z → ((b ≡ true) × (x ≡ z)) ⊎ ((b ≡ false) × (y ≡ z))
chosen true x y z e = inl (refl, e)
chosen false x y z e = inr (refl, e)

pub ok_is : {A F : Type 0} (x y : A) → ◌≡◌ {A = Result A F} (Ok x) (Ok y) → x ≡ y
ok_is x y e = cc

pub done_rest : {A T F : Type 0} (x y : A) (o u : T) → ◌≡◌ {A = Result (A × T) F} (Ok (x, o)) (Ok (y, u)) → o ≡ u
done_rest {A} {T} x y o u e = ap (λ (p : A × T). p.1) (ok_is (x, o) (y, u) e)

pub done_value : {A T F : Type 0} (x y : A) (o u : T) → ◌≡◌ {A = Result (A × T) F} (Ok (x, o)) (Ok (y, u)) → x ≡ y
done_value {A} {T} x y o u e = ap (λ (p : A × T). p.0) (ok_is (x, o) (y, u) e)

pub fault_is : {A F : Type 0} (f h : F) → ◌≡◌ {A = Result A F} (Err f) (Err h) → f ≡ h
fault_is f h e = cc

pub not_both : {A F : Type 0} (x : A) (f : F) → ◌≡◌ {A = Result A F} (Ok x) (Err f) → ⊥
not_both x f e = cc

pub bind_err : {A B F : Type 0} (r : Result A F) (f : A → Result B F) (e : F) → (r >>= f) ≡ Err e → (r ≡ Err e) ⊎ ((x : A) × (r ≡ Ok x) × (f x ≡ Err e))
bind_err (Ok x) f d e = inr (x, refl, e)
bind_err {A} {B} {F} (Err k) f d e = inl (ap (λ (h : F). Err h) (fault_is {A = B} k d e))

-- a step after which nothing fails
pub step_err : {A B F : Type 0} (r : Result A F) (f : A → B) (e : F) → (r >>= λ x. Ok (f x)) ≡ Err e → r ≡ Err e
step_err (Ok x) f d e = absurd cc
step_err {A} {B} {F} (Err k) f d e = ap (λ (h : F). Err h) (fault_is {A = B} k d e)

pub bind_same : {A B F : Type 0} (r : Result A F) (f g : A → Result B F) → ((x : A) → r ≡ Ok x → f x ≡ g x) → (r >>= f) ≡ (r >>= g)
bind_same (Ok x) f g h = h x refl
bind_same (Err d) f g h = refl

-- ---- tests

pub and_false : (a b : Bool) → (a && b) ≡ false → (a ≡ false) ⊎ ((a ≡ true) × (b ≡ false))
and_false true b e = inr (refl, e)
and_false false b e = inl refl

pub or_false : (a b : Bool) → (a || b) ≡ false → (a ≡ false) × (b ≡ false)
or_false true b e = absurd cc
or_false false b e = (refl, e)

pub test_true : {A : Type 0} (b : Bool) (x y z : A) → b ≡ true → x ≡ z → cond b x y ≡ z
test_true true x y z e h = h
test_true false x y z e h = absurd cc

pub test_false : {A : Type 0} (b : Bool) (x y z : A) → b ≡ false → y ≡ z → cond b x y ≡ z
test_false true x y z e h = absurd cc
test_false false x y z e h = h

pub neither : {A F : Type 0} (b : Bool) (f g : Result A F) (x : A) → ((y : A) → f ≡ Ok y → ⊥) → ((y : A) → g ≡ Ok y → ⊥) → cond b f g ≡ Ok x → ⊥
neither true f g x h k e = h x e
neither false f g x h k e = k x e
