-- The ranges of vectors and memories, by their bounds.
use Rattle.std.proofs.Common.{◌≡◌, ℕ, ◌≤◌, ◌<◌, Bool, true, false, ◌||◌, not, List, [], ◌∷◌, ◌++◌, Option, None, Some, refl, sym, ap, ◌∙◌, arith}
use Rattle.std.specs.Prelude.{◌&&◌, if◌then◌else◌, nat_lt}
use Rattle.std.proofs.lemmas.Bool.Decides.{nat_tests}
use Rattle.cov_host.specs.declared.place.Place.{Place}
use Rattle.design_model.specs.declared.design.Range.{Range}
use Rattle.four_state.specs.declared.index.Index.{Index}
use Rattle.four_state.specs.declared.index.Index.TheVariants.{At, Below, Strange}
use Rattle.verilog_tree.specs.Tree.{Expr, RangeExpr}
use Rattle.elab_const.specs.Faults.{is_bad_bound}
use Rattle.elab_const.specs.Scope as consts
use Rattle.elab_const.specs.declared.fault.ConstKind.{ConstKind}
use Rattle.flat_design.specs.Declarations.{bounds_faults, is_sound_range, range_names_faulty}
use Rattle.flat_design.specs.Expressions.{bound_faults, faults}
use Rattle.flat_design.specs.Fault.{Fault, fault_if, none}
use Rattle.flat_design.specs.Scope.{Scope, names_faulty, natural_number}
use Rattle.flat_design.proofs.NoConstFaults.{both_true}

-- no fault in this case
pub no_fault : (b : Bool) (k : ConstKind) (p : Place) → consts.fault_if b k p ≡ None → b ≡ false
no_fault false k p h = refl
no_fault true k p h = cc

-- a bound that is not bad is a number
pub number_there : (n : Index) → is_bad_bound n ≡ false → (x : ℕ) × (n ≡ At x)
number_there (At x) h = (x, refl)
number_there Below h = cc
number_there Strange h = cc

-- at most 1,048,575
pub bound_within : (x : ℕ) → is_bad_bound (At x) ≡ false → x ≤ 1048575
bound_within x h = grind (arith, nat_tests)

-- two bounds as a range
abbrev pub range_from : Option ℕ → Option ℕ → Option Range
range_from (Some h) (Some l) = Some (record { high = h; low = l })
range_from _ _ = None

-- a bound without a fault
abbrev pub is_sound_bound : Scope → Place → Expr → Bool
is_sound_bound g p e = none (bound_faults g p e (faults g e)) && not (names_faulty g e)

pub none_append : {A : Type 0} (xs ys : List A) → none (xs ++ ys) ≡ (none xs && none ys)
none_append [] ys = refl
none_append (x ∷ xs) ys = refl

four_tests : (a b c d : Bool) → ((a && b) && not (c || d)) ≡ ((a && not c) && (b && not d))
four_tests true true true d = refl
four_tests true true false d = refl
four_tests true false true d = refl
four_tests true false false true = refl
four_tests true false false false = refl
four_tests false b c d = refl

-- both bounds of a sound range are sound
pub sound_bounds : (g : Scope) (r : RangeExpr) → is_sound_range g r ≡ (is_sound_bound g r.bracket r.high && is_sound_bound g r.bracket r.low)
sound_bounds g r =
    ap (λ n. n && not (range_names_faulty g r)) (none_append (bound_faults g r.bracket r.high (faults g r.high)) (bound_faults g r.bracket r.low (faults g r.low))) ∙ four_tests _ _ (names_faulty g r.high) (names_faulty g r.low)

ranged : (b c : Bool) (x y : ℕ) → range_from (if b then Some x else None) (if c then Some y else None) ≡ (if b && c then Some (record { high = x; low = y }) else None)
ranged true true x y = refl
ranged true false x y = refl
ranged false c x y = refl

-- the range, if both bounds are sound
abbrev pub sound_range : Scope → RangeExpr → Option Range
sound_range g r = if is_sound_range g r then Some (record { high = natural_number g r.high; low = natural_number g r.low }) else None

pub range_from_bounds : (g : Scope) (r : RangeExpr) (h l : Option ℕ) → h ≡ (if is_sound_bound g r.bracket r.high then Some (natural_number g r.high) else None) → l ≡ (if is_sound_bound g r.bracket r.low then Some (natural_number g r.low) else None) →
    range_from h l ≡ sound_range g r
range_from_bounds g r h l hs ls =
    rw (hs, ls) (ranged (is_sound_bound g r.bracket r.high) (is_sound_bound g r.bracket r.low) (natural_number g r.high) (natural_number g r.low) ∙ ap (λ b. if b then Some (record { high = natural_number g r.high; low = natural_number g r.low }) else None) (sym (sound_bounds g r)))

-- a range with a fault is not there
pub range_none : {A : Type 0} (b : Bool) (v : A) → None ≡ (if b then Some v else None) → b ≡ false
range_none false v h = refl
range_none true v h = cc

-- and one without is the one that was found
pub range_some : {A : Type 0} (b : Bool) (x v : A) → Some x ≡ (if b then Some v else None) → (b ≡ true) × (x ≡ v)
range_some true x v h = (refl, cc)
range_some false x v h = cc

-- the faults of the bounds, with one of the span where they are sound
abbrev pub with_span : List Fault → Bool → Bool → Fault → List Fault
with_span bs sound wide f = bs ++ fault_if (sound && wide) f

pub and_false : (b : Bool) → (b && false) ≡ false
and_false true = refl
and_false false = refl

append_nil : {A : Type 0} (xs : List A) → xs ++ [] ≡ xs
append_nil [] = refl
append_nil (x ∷ xs) = ap (λ ys. x ∷ ys) (append_nil xs)

module _ (bs : List Fault) (f : Fault) where
  pub unsound_span : (t w : Bool) → t ≡ false → (with_span bs t w f ≡ bs) × ((none (with_span bs t w f) && t) ≡ false)
  unsound_span t w h = (ap (λ b. with_span bs b w f) h ∙ append_nil bs, ap (λ b. none (with_span bs t w f) && b) h ∙ and_false (none (with_span bs t w f)))

  pub wide_span : (t w : Bool) → t ≡ true → w ≡ true → (with_span bs t w f ≡ bs ++ f ∷ []) × ((none (with_span bs t w f) && t) ≡ false)
  wide_span t w h k =
      let list : with_span bs t w f ≡ bs ++ f ∷ [] = ap (λ b. with_span bs b w f) h ∙ ap (λ b. with_span bs true b f) k in
      (list, ap (λ fs. none fs && t) list ∙ ap (λ b. b && t) (none_append bs (f ∷ []) ∙ and_false (none bs)))

  pub narrow_span : (t w : Bool) → t ≡ true → w ≡ false → none bs ≡ true → (with_span bs t w f ≡ bs) × ((none (with_span bs t w f) && t) ≡ true)
  narrow_span t w h k clean =
      let list : with_span bs t w f ≡ bs = ap (λ b. with_span bs b w f) h ∙ ap (λ b. with_span bs true b f) k ∙ append_nil bs in
      (list, ap (λ fs. none fs && t) list ∙ ap (λ b. b && t) clean ∙ h)

-- the bounds of a sound range have no fault
pub clean_bounds : (g : Scope) (r : RangeExpr) → is_sound_range g r ≡ true → none (bounds_faults g r) ≡ true
clean_bounds g r h = (both_true (none (bounds_faults g r)) (not (range_names_faulty g r)) h).0

-- a number is above the limit, or not
pub wider : (n limit : ℕ) → limit < n → nat_lt limit n ≡ true
wider n limit h = grind (arith, nat_tests)

pub narrower : (n limit : ℕ) → n ≤ limit → nat_lt limit n ≡ false
narrower n limit h = grind (arith, nat_tests)

-- the range that the bounds say
abbrev pub bounds_of : Scope → RangeExpr → Range
bounds_of g r = record { high = natural_number g r.high; low = natural_number g r.low }
