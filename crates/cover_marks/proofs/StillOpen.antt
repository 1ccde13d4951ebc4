-- What a mark does to the count of the points of an owner that are not hit.
use Rattle.std.proofs.Common.{◌≡◌, ◌≢◌, ◌⊎◌, ◌<◌, ◌≤◌, ◌+◌, ℕ, zero, suc, Bool, true, false, cond, List, [], ◌∷◌, length, get_or, set, replicate, refl, sym, ap, subst, ◌∙◌, inl, inr, arith}
use Rattle.std.specs.Prelude.{nat_eq}
use Rattle.std.specs.List.{count_by}
use Rattle.std.proofs.lemmas.Bool.{eq-eqb}
use Rattle.std.proofs.lemmas.Bool.Decides.{eqb_tells}
use Rattle.std.proofs.lemmas.List.Sums.{sum_by-cons}
use Rattle.point_marks.specs.Marking.{with_doubt}
use Rattle.point_marks.specs.declared.verdict.Doubt.{Doubt}
use Rattle.point_marks.specs.declared.verdict.Verdict.{Verdict}
use Rattle.point_marks.specs.declared.verdict.Verdict.TheVariants.{Hit, Missed, Undetermined}
use Rattle.cover_marks.specs.Open.{is_open, open_of, open_one}

-- a verdict that is as open as the one before leaves the count
pub same_open : (p : ℕ) (os : List ℕ) (vs : List Verdict) (k : ℕ) (v : Verdict) → is_open v ≡ is_open (get_or vs k Missed) → open_of p os (set vs k v) ≡ open_of p os vs
same_open p [] vs k v e = refl
same_open p (o ∷ os) [] k v e = refl
same_open p (o ∷ os) (w ∷ vs) zero v e = ap (λ b. cond (nat_eq p o) (cond b 1 0) 0 + open_of p os vs) e
same_open p (o ∷ os) (w ∷ vs) (suc k) v e = ap (λ n. open_one p o w + n) (same_open p os vs k v e)

doubt_open : (y : Doubt) (v : Verdict) → is_open (with_doubt y v) ≡ is_open v
doubt_open y Hit = refl
doubt_open y Missed = refl
doubt_open y (Undetermined x) = refl

-- and so does a doubt
pub open_doubt : (p : ℕ) (os : List ℕ) (vs : List Verdict) (k : ℕ) (y : Doubt) → open_of p os (set vs k (with_doubt y (get_or vs k Missed))) ≡ open_of p os vs
open_doubt p os vs k y = same_open p os vs k (with_doubt y (get_or vs k Missed)) (doubt_open y (get_or vs k Missed))

-- the hit of a point past the owners
pub open_past : (p : ℕ) (os : List ℕ) (vs : List Verdict) (k : ℕ) (v : Verdict) → length os ≤ k → open_of p os (set vs k v) ≡ open_of p os vs
open_past p [] vs k v l = refl
open_past p (o ∷ os) [] k v l = refl
open_past p (o ∷ os) (w ∷ vs) zero v l = absurd (omega arith)
open_past p (o ∷ os) (w ∷ vs) (suc k) v l = ap (λ n. open_one p o w + n) (open_past p os vs k v (omega arith))

-- the hit of a point that was not hit
pub open_hit : (p : ℕ) (os : List ℕ) (vs : List Verdict) (k : ℕ) → k < length os → k < length vs → is_open (get_or vs k Missed) ≡ true → open_of p os (set vs k Hit) + open_one p (get_or os k 0) Missed ≡ open_of p os vs
open_hit p [] vs k l m e = absurd (omega arith)
open_hit p (o ∷ os) [] k l m e = absurd (omega arith)
open_hit p (o ∷ os) (w ∷ vs) zero l m e = first (nat_eq p o) (is_open w) (open_of p os vs) e
  where
    first : (b c : Bool) (n : ℕ) → c ≡ true → cond b 0 0 + n + cond b 1 0 ≡ cond b (cond c 1 0) 0 + n
    first true true n f = omega arith
    first false c n f = omega arith
    first true false n f = cc
open_hit p (o ∷ os) (w ∷ vs) (suc k) l m e = omega (arith, open_hit p os vs k (omega arith) (omega arith) e)

-- of a count of none, each point of the owner is hit
pub none_open : (p : ℕ) (os : List ℕ) (vs : List Verdict) (k : ℕ) → open_of p os vs ≡ 0 → k < length os → k < length vs → get_or os k 0 ≡ p → get_or vs k Missed ≡ Hit
none_open p [] vs k z l m e = absurd (omega arith)
none_open p (o ∷ os) [] k z l m e = absurd (omega arith)
none_open p (o ∷ os) (w ∷ vs) zero z l m e = only (nat_eq p o) (eq-eqb p o (sym e)) w (omega (arith, z))
  where
    only : (b : Bool) → b ≡ true → (w : Verdict) → ◌≡◌ {A = ℕ} (cond b (cond (is_open w) 1 0) 0) 0 → w ≡ Hit
    only false t w f = cc
    only true t Hit f = refl
    only true t Missed f = absurd (omega (arith, f))
    only true t (Undetermined y) f = absurd (omega (arith, f))
none_open p (o ∷ os) (w ∷ vs) (suc k) z l m e = none_open p os vs k (omega (arith, z)) (omega arith) (omega arith) e

nothing : (b : Bool) → ◌≡◌ {A = ℕ} (cond b 0 0) 0
nothing true = refl
nothing false = refl

-- and where each is hit, the count is 0
pub all_hit : (p : ℕ) (os : List ℕ) (vs : List Verdict) → ((k : ℕ) → k < length os → k < length vs → get_or os k 0 ≡ p → get_or vs k Missed ≡ Hit) → open_of p os vs ≡ 0
all_hit p [] vs h = refl
all_hit p (o ∷ os) [] h = refl
all_hit p (o ∷ os) (w ∷ vs) h =
    let first : open_one p o w ≡ 0 = elim (eqb_tells p o) [
      | inl t ↦ ap (open_one p o) (h 0 (omega arith) (omega arith) (sym t.1)) ∙ nothing (nat_eq p o)
      | inr f ↦ ap (λ b. cond b (cond (is_open w) 1 0) 0) f.0
    ] in
    omega (arith, first, all_hit p os vs (λ k l m e. h (suc k) (omega arith) (omega arith) e))

-- none is hit at first
pub open_first : (p : ℕ) (os : List ℕ) (n : ℕ) → length os ≤ n → open_of p os (replicate n Missed) ≡ count_by (nat_eq p) os
open_first p [] n l = refl
open_first p (o ∷ os) zero l = absurd (omega arith)
open_first p (o ∷ os) (suc n) l = ap (λ m. cond (nat_eq p o) 1 0 + m) (open_first p os n (omega arith)) ∙ sym (sum_by-cons (λ (x : ℕ). cond (nat_eq p x) 1 0) o os)
