-- The macros that are kept, as a function.
use Rattle.std.proofs.Common.{◌≡◌, ◌<◌, ◌+◌, Bool, true, false, cond, Option, None, Some, List, ℕ, refl, map, length, drop, drop-cons, get_or, add-one}
use Rattle.std.specs.Option.{option_map}
use Rattle.verilog_lexer.specs.Defines.{Macros, with_macro, with_macros, define_view}
use Rattle.verilog_lexer.specs.declared.defines.Define.{Define}

-- functions with equal values are equal
pub fun_ext : {A B : Type 0} {f g : A → B} → ((x : A) → f x ≡ g x) → f ≡ g
fun_ext h = λ i x. h x i

-- what is applied to a choice is applied to both sides
pub option_map-cond : {A B : Type 0} (f : A → B) (b : Bool) (x : A) (o : Option A) → option_map f (cond b (Some x) o) ≡ cond b (Some (f x)) (option_map f o)
option_map-cond f true x o = refl
option_map-cond f false x o = refl

pub option_map-cond_none : {A B : Type 0} (f : A → B) (b : Bool) (o : Option A) → option_map f (cond b None o) ≡ cond b None (option_map f o)
option_map-cond_none f true o = refl
option_map-cond_none f false o = refl

-- one definition more
pub with_macros_more : (macros : Macros) (defines : List Define) (i : ℕ) (d : Define) → i < length defines →
    with_macros macros (map define_view (drop i defines)) ≡ with_macros (with_macro macros (define_view (get_or defines i d)).name (define_view (get_or defines i d)).text) (map define_view (drop (i + 1) defines))
with_macros_more macros defines i d within = rw (drop-cons defines i d within, add-one i) refl
