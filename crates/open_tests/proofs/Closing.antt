-- The second branches of undecided arms, ended one after the other.
use Rattle.std.proofs.Common.{List, Option, [], arith, length, refl, subst, suc, sym, zero, ℕ, ◌-◌, ◌<◌, ◌∙◌, ◌∷◌, ◌≡◌}
use Rattle.assignments.specs.design_model.Design.{Design}
use Rattle.assignments.specs.body_replay.Store.{KnownWrite}
use Rattle.assignments.specs.body_replay.Replay.{State, joined_states}
use Rattle.assignments.specs.term_replay.Stands.{Scene}
use Rattle.assignments.specs.body_calls.Lvalues.{Like}
use Rattle.assignments.specs.body_calls.Ways.{Around, in_second, joined_scene}
use Rattle.assignments.specs.scene_laws.At.{IsState}
use Rattle.open_tests.specs.Open.{AreOpen, AreSecond, OpenArm, close}
use Rattle.open_tests.proofs.States.{joined_state}

-- the innermost second branch
pub record Innermost (d : Design) (n : ℕ) (outer inner : List Around) : Type 0 where
  pub test : ℕ
  pub left : Scene
  pub rest : List Around
  pub is : inner ≡ in_second test left ∷ rest
  pub design : left.design ≡ d
  pub others : AreSecond d (n - 1) outer rest

pub innermost : (d : Design) (n : ℕ) (outer inner : List Around) → 0 < n → AreSecond d n outer inner → Innermost d n outer inner
innermost d zero outer inner l h = absurd (omega (arith, l))
innermost d (suc n) outer inner l h =
    let same : n ≡ suc n - 1 = omega arith in
    record { test = h.0; left = h.1; rest = h.2; is = h.3; design = h.4; others = subst (λ k. AreSecond d k outer h.2) same h.5 }

-- from each state in which so many tests are open, what is to be once they are ended
pub record ClosesOn (count : ℕ) (before : Scene) (queue : List KnownWrite) (around : List Around) (left : ℕ) (now : Scene) (queued : List KnownWrite) (inner : List Around) : Type 0 where
  pub goes : (d : Design) (xs : List OpenArm) (outer : List Around) (a : State) (first : Option ℕ) → length xs ≡ count → AreOpen d xs outer around → IsState d a first before queue (λ ms. ms ≡ a.marks) → (ys : List OpenArm) × (b : State) × (length ys ≡ left) × AreOpen d ys outer inner × IsState d b first now queued (λ ms. ms ≡ a.marks) × (close d ys b ≡ close d xs a)

module _ (count : ℕ) (before : Scene) (queue : List KnownWrite) (around : List Around) where
  pub closes_start : ClosesOn count before queue around count before queue around
  closes_start = record { goes = λ d xs outer a first n o h. (xs, a, n, o, h, refl) }

  pub closes_further : (left : ℕ) (now next : Scene) (queued more : List KnownWrite) (inner : List Around) (test : ℕ) (way : Scene) (rest rest' : List Around) → 0 < left → inner ≡ in_second test way ∷ rest → more ≡ queued → ((test : ℕ) (way : Scene) (rest : List Around) → inner ≡ in_second test way ∷ rest → Like (joined_scene test way now) next) → ((test : ℕ) (way : Scene) (rest : List Around) → inner ≡ in_second test way ∷ rest → rest' ≡ rest) → ClosesOn count before queue around left now queued inner → ClosesOn count before queue around (left - 1) next more rest'
  closes_further left now next queued more inner test way rest rest' l is same joined outer_is h =
      record { goes = λ d xs outer a first n o k. let g = h.goes d xs outer a first n o k in step d xs outer a first g.0 g.1 g.2 g.3 g.4 g.5 }
    where
      step : (d : Design) (xs : List OpenArm) (outer : List Around) (a : State) (first : Option ℕ) (ys : List OpenArm) (b : State) → length ys ≡ left → AreOpen d ys outer inner → IsState d b first now queued (λ ms. ms ≡ a.marks) → close d ys b ≡ close d xs a → (zs : List OpenArm) × (b : State) × (length zs ≡ left - 1) × AreOpen d zs outer rest' × IsState d b first next more (λ ms. ms ≡ a.marks) × (close d zs b ≡ close d xs a)
      step d xs outer a first [] b n o k e = absurd (omega (arith, n, l))
      step d xs outer a first (y ∷ ys) b n o k e = (
        ys,
        joined_states d y.test y.left b,
        omega (arith, n),
        subst (AreOpen d ys outer) (sym (outer_is y.test o.0 o.1 o.2)) o.4,
        let j = joined_state d y.test y.left b first o.0 now next queued (λ ms. ms ≡ a.marks) o.3 k (joined y.test o.0 o.1 o.2) in record { scene = j.scene; first = j.first; queue = same ∙ j.queue; noted = j.noted },
        e,
      )

  pub closes_end : (now : Scene) (queued : List KnownWrite) (inner : List Around) (left : ℕ) → left ≡ 0 → ClosesOn count before queue around left now queued inner → (d : Design) (xs : List OpenArm) (outer : List Around) (a : State) (first : Option ℕ) → length xs ≡ count → AreOpen d xs outer around → IsState d a first before queue (λ ms. ms ≡ a.marks) → IsState d (close d xs a) first now queued (λ ms. ms ≡ a.marks)
  closes_end now queued inner left z h d xs outer a first n o k = let g = h.goes d xs outer a first n o k in go g.0 g.1 (g.2 ∙ z) g.4 g.5
    where
      go : (ys : List OpenArm) (b : State) → length ys ≡ 0 → IsState d b first now queued (λ ms. ms ≡ a.marks) → close d ys b ≡ close d xs a → IsState d (close d xs a) first now queued (λ ms. ms ≡ a.marks)
      go [] b m s e = subst (λ r. IsState d r first now queued (λ ms. ms ≡ a.marks)) e s
      go (y ∷ ys) b m s e = absurd (omega (arith, m))
