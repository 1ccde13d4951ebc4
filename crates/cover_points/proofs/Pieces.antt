-- What the processes of a design have, one after the other.
use Rattle.std.proofs.Common.{◌≡◌, ◌⊎◌, ◌<◌, ◌+◌, ℕ, zero, suc, Bool, true, nat_lt, inl, inr, List, [], ◌∷◌, length, get_or, sym, subst, arith, zero-add}
use Rattle.std.specs.List.{list_all}
use Rattle.std.proofs.lemmas.Bool.{and_parts}
use Rattle.std.proofs.lemmas.Bool.Decides.{nat_tests}
use Rattle.design_model.specs.Tree.{Process}
use Rattle.design_model.specs.Design.{Design, In, no_process, process_at}
use Rattle.design_model.specs.Lawful.{IsLawfulDesign, instance_of}
use Rattle.cover_points.specs.Texts.{each_from}
use Rattle.cover_points.proofs.Members.{in_append, in_left, in_right}

module _ {A X : Type 0} (f : ℕ → A → List X) (x : X) (none : A) where
  pub parts_of : (k : ℕ) (ps : List A) → In x (each_from f k ps) → (j : ℕ) × (j < length ps) × In x (f (k + j) (get_or ps j none))
  parts_of k [] h = absurd h
  parts_of k (p ∷ ps) h = by_part (parts_of (k + 1) ps) (in_append x (f k p) (each_from f (k + 1) ps) h)
    where
      by_part : (In x (each_from f (k + 1) ps) → (j : ℕ) × (j < length ps) × In x (f (k + 1 + j) (get_or ps j none))) → In x (f k p) ⊎ In x (each_from f (k + 1) ps) → (j : ℕ) × (j < length (p ∷ ps)) × In x (f (k + j) (get_or (p ∷ ps) j none))
      by_part rest (inl a) =
          let e : k ≡ k + 0 = omega arith in
          (0, omega arith, subst (λ n. In x (f n p)) e a)
      by_part rest (inr b) =
          let r = rest b in
          let e : k + 1 + r.0 ≡ k + suc r.0 = omega arith in
          (suc r.0, omega (arith, r.1), subst (λ n. In x (f n (get_or ps r.0 none))) e r.2)

  pub whole_of : (k : ℕ) (ps : List A) (j : ℕ) → j < length ps → In x (f (k + j) (get_or ps j none)) → In x (each_from f k ps)
  whole_of k [] j l h = absurd (omega arith)
  whole_of k (p ∷ ps) zero l h =
      let e : k + 0 ≡ k = omega arith in
      in_left x (f k p) (each_from f (k + 1) ps) (subst (λ n. In x (f n p)) e h)
  whole_of k (p ∷ ps) (suc j) l h =
      let e : k + suc j ≡ k + 1 + j = omega arith in
      in_right x (f k p) (each_from f (k + 1) ps) (whole_of (k + 1) ps j (omega arith) (subst (λ n. In x (f n (get_or ps j none))) e h))

-- what all processes of a design have is what one has
pub from_one : {X : Type 0} (f : ℕ → Process → List X) (x : X) (d : Design) → In x (each_from f 0 d.processes) → (j : ℕ) × (j < length d.processes) × In x (f j (process_at d j))
from_one f x d h =
    let r = parts_of f x no_process 0 d.processes h in
    (r.0, r.1, subst (λ n. In x (f n (process_at d r.0))) (zero-add r.0) r.2)

pub from_all : {X : Type 0} (f : ℕ → Process → List X) (x : X) (d : Design) (j : ℕ) → j < length d.processes → In x (f j (process_at d j)) → In x (each_from f 0 d.processes)
from_all f x d j l h = whole_of f x no_process 0 d.processes j l (subst (λ n. In x (f n (process_at d j))) (sym (zero-add j)) h)

-- a test that each element passes
pub test_at : {A : Type 0} (test : A → Bool) (xs : List A) (k : ℕ) (e : A) → list_all test xs ≡ true → k < length xs → test (get_or xs k e) ≡ true
test_at test [] k e h l = absurd (omega arith)
test_at test (x ∷ xs) zero e h l = (and_parts (test x) (list_all test xs) h).0
test_at test (x ∷ xs) (suc k) e h l = test_at test xs k e (and_parts (test x) (list_all test xs) h).1 (omega arith)

-- the instance of a process is one of the design
pub instance_there : (d : Design) → IsLawfulDesign d → (p : ℕ) → p < length d.processes → instance_of (process_at d p) < length d.instances
instance_there d lawful p l =
    let t = test_at (λ q. nat_lt (instance_of q) (length d.instances)) d.processes p no_process lawful.instances l in
    grind (arith, nat_tests)
