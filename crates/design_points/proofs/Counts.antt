-- Two lists of the points of a design are equally long.
use Rattle.std.proofs.Common.{◌≡◌, ◌⊎◌, ℕ, suc, ◌<◌, ◌≤◌, List, [], ◌∷◌, length, get_or, inl, inr, refl, sym, ap, subst, ◌∙◌, arith}
use Rattle.std.proofs.lemmas.List.{get_or_default}
use Rattle.cover_points.specs.Listed.{IsPointList, points_of}
use Rattle.cover_points.specs.Visits.{no_point}
use Rattle.cover_points.specs.declared.listing.Points.{Points}
use Rattle.cover_points.proofs.Apart.{points_once}
use Rattle.cover_points.proofs.Members.{in_contains}
use Rattle.design_model.specs.Design.{AreDistinct, Design, In}
use Rattle.design_model.specs.Points.{IsPoint}
use Rattle.design_model.specs.declared.point.Point.{Point}
use Rattle.design_model.specs.declared.point.Point.TheVariants as point
use Rattle.cover_points.specs.design_machines.state_machines.Drawn.{AreAlike, IsPointWith}
use Rattle.cover_points.specs.design_machines.state_machines.Machines.{StateMachines}
use Rattle.design_points.specs.Counted.{HasFewPoints, HasManyPoints}

-- a list without one of its items
record IsWithout {A : Type 0} (x : A) (ys : List A) : Type 0 where
  others : List A
  count : length ys ≡ suc (length others)
  kept : (y : A) → In y ys → (x ≡ y → ⊥) → In y others

here : {A : Type 0} (x y z : A) (ys : List A) → y ≡ x → (x ≡ z → ⊥) → (y ≡ z) ⊎ In z ys → In z ys
here x y z ys e apart (inl f) = absurd (apart (sym e ∙ f))
here x y z ys e apart (inr i) = i

there : {A : Type 0} (y z : A) (ys others : List A) → (In z ys → In z others) → (y ≡ z) ⊎ In z ys → (y ≡ z) ⊎ In z others
there y z ys others go (inl f) = inl f
there y z ys others go (inr i) = inr (go i)

without : {A : Type 0} (x : A) (ys : List A) → In x ys → IsWithout x ys
without x [] i = absurd i
without x (y ∷ ys) (inl e) = record { others = ys; count = refl; kept = λ z i apart. here x y z ys e apart i }
without x (y ∷ ys) (inr i) =
    let w = without x ys i in
    record { others = y ∷ w.others; count = ap suc w.count; kept = λ z j apart. there y z ys w.others (λ m. w.kept z m apart) j }

-- items that differ are no more than a list that has each of them
fits : {A : Type 0} (xs ys : List A) → AreDistinct xs → ((x : A) → In x xs → In x ys) → length xs ≤ length ys
fits [] ys d h = omega arith
fits (x ∷ xs) ys d h =
    let w = without x ys (h x (inl refl)) in
    let less = fits xs w.others d.1 (λ y i. w.kept y (h y (inr i)) (λ e. d.0 (subst (λ z. In z xs) (sym e) i))) in
    omega (arith, w.count, less)

-- items with one number each differ
distinct : {A : Type 0} (d : A) (xs : List A) → ((j k : ℕ) → j < length xs → k < length xs → get_or xs j d ≡ get_or xs k d → j ≡ k) → AreDistinct xs
distinct d [] once = tt
distinct d (x ∷ xs) once = (
  λ i.
      let c = in_contains x xs i in
      let same : 0 ≡ suc c.0 = once 0 (suc c.0) (omega arith) (omega (arith, c.1)) (sym (get_or_default xs c.0 d x c.1 ∙ c.2)) in
      absurd (omega (arith, same)),
  distinct d xs (λ j k l m e. let same : suc j ≡ suc k = once (suc j) (suc k) (omega (arith, l)) (omega (arith, m)) e in omega (arith, same)),
)

-- the points with machines of which the same is named and drawn are the same
alike_point : (d : Design) (ms ns : StateMachines) → AreAlike ms ns → (x : Point) → IsPointWith d ns x → IsPointWith d ms x
alike_point d ms ns alike (point.Line p n at w) h = h
alike_point d ms ns alike (point.Logic p n at op c) h = h
alike_point d ms ns alike (point.Toggle s i rise) h = h
alike_point d ms ns alike (point.State i name s state x) (inl h) = inl (subst (λ named. IsPoint d named (point.State i name s state x)) (sym alike.named) h)
alike_point d ms ns alike (point.State i name s state x) (inr h) = inr (h.0, (alike.drawn h.0).1 h.1, h.2, h.3, h.4, h.5)
alike_point d ms ns alike (point.Arc i name s from to x y) (inl h) = inl (subst (λ named. IsPoint d named (point.Arc i name s from to x y)) (sym alike.named) h)
alike_point d ms ns alike (point.Arc i name s from to x y) (inr h) = inr (h.0, (alike.drawn h.0).1 h.1, h.2, h.3, h.4, h.5, h.6, h.7, h.8)
alike_point d ms ns alike (point.Word m i write) h = h

-- a list of the points of a design is not longer than another one
pub no_longer : (d : Design) (ms ns : StateMachines) → AreAlike ms ns → (ps qs : Points) → IsPointList d ms ps → IsPointList d ns qs → length (points_of qs) ≤ length (points_of ps)
no_longer d ms ns alike ps qs a b = fits (points_of qs) (points_of ps) (distinct no_point (points_of qs) (points_once d ns qs b)) (λ x i. (a.members x).1 (alike_point d ms ns alike x ((b.members x).0 i)))

pub few_or_many : (d : Design) (ms ns : StateMachines) → AreAlike ms ns → HasFewPoints d ms → HasManyPoints d ns → ⊥
few_or_many d ms ns alike (ps, a, few) (qs, b, many) = omega (arith, few, many, no_longer d ms ns alike ps qs a b)
