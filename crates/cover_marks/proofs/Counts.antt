-- The counts after a mark.
use Rattle.std.proofs.Common.{◌≡◌, ◌<◌, ◌≤◌, ◌+◌, ◌-◌, ◌^◌, ℕ, zero, suc, true, cond, List, [], ◌∷◌, length, get_or, set, take, replicate, refl, sym, ap, subst, ◌∙◌, inl, inr, arith}
use Rattle.std.specs.Prelude.{nat_eq}
use Rattle.std.specs.List.{All, count_by}
use Rattle.std.proofs.lemmas.Bool.{eq-eqb}
use Rattle.std.proofs.lemmas.Bool.Decides.{eqb_tells}
use Rattle.std.proofs.lemmas.List.{get_or-set_other, get_or-set_same, get_or_read, length-take}
use Rattle.std.proofs.lemmas.List.Elements.{All-more, All-weaker}
use Rattle.std.proofs.lemmas.List.Sums.{count_by-le-length, count_by_more_no, count_by_more_yes}
use Rattle.point_marks.specs.Marking.{with_doubt}
use Rattle.point_marks.specs.declared.verdict.Doubt.{Doubt}
use Rattle.point_marks.specs.declared.verdict.Verdict.{Verdict}
use Rattle.point_marks.specs.declared.verdict.Verdict.TheVariants.{Hit, Missed}
use Rattle.cover_marks.specs.Counted.{IsOpenBy}
use Rattle.cover_marks.specs.Open.{is_open, open_of, open_one}
use Rattle.cover_marks.specs.declared.open.OpenPoints.{OpenPoints}
use Rattle.cover_marks.proofs.StillOpen.{open_doubt, open_first, open_hit, open_past, same_open}

module _ (os : List ℕ) (vs : List Verdict) (x : OpenPoints) (h : IsOpenBy os vs x) where
  -- a doubt
  pub doubted : (k : ℕ) (y : Doubt) → IsOpenBy os (set vs k (with_doubt y (get_or vs k Missed))) x
  doubted k y = record { owners = h.owners; counts = λ p. h.counts p ∙ sym (open_doubt p os vs k y) }

  -- a hit of what was hit
  pub hit_again : (k : ℕ) → get_or vs k Missed ≡ Hit → IsOpenBy os (set vs k Hit) x
  hit_again k e = record { owners = h.owners; counts = λ p. h.counts p ∙ sym (same_open p os vs k Hit (sym (ap is_open e))) }

  -- a hit of a point without an owner
  pub hit_past : (k : ℕ) → length x.owners.items ≤ k → IsOpenBy os (set vs k Hit) x
  hit_past k l = record { owners = h.owners; counts = λ p. h.counts p ∙ sym (open_past p os vs k Hit (omega (arith, ap length h.owners, l))) }

  -- a hit of a point with an owner, whose count is lowered
  pub closed : (y : OpenPoints) (k o : ℕ) → k < length x.owners.items → o ≡ get_or x.owners.items k 0 → k < length vs → is_open (get_or vs k Missed) ≡ true → y.owners.items ≡ x.owners.items
      → ((p : ℕ) → get_or y.counts.items p 0 ≡ get_or x.counts.items p 0 - cond (nat_eq p o) 1 0) → IsOpenBy os (set vs k Hit) y
  closed y k o l e m was same less =
      let owner : o ≡ get_or os k 0 = e ∙ ap (λ (ns : List ℕ). get_or ns k 0) h.owners in
      record {
        owners = same ∙ h.owners;
        counts = λ p.
            let now : get_or y.counts.items p 0 ≡ get_or x.counts.items p 0 - open_one p o Missed = less p in
            let one : open_one p o Missed ≡ open_one p (get_or os k 0) Missed = ap (λ i. open_one p i Missed) owner in
            omega (arith, now, one, h.counts p, open_hit p os vs k (omega (arith, ap length h.owners, l)) m was);
      }

-- owners below a number, and one more
pub below_more : (os : List ℕ) (i past new : ℕ) → i < length os → past ≤ new → get_or os i 0 < new → All (λ (o : ℕ). o < past) (take i os) → All (λ (o : ℕ). o < new) (take (i + 1) os)
below_more os i past new l a b h = All-more (λ (o : ℕ). o < new) os i 0 l (All-weaker (λ (o : ℕ). o < past) (λ (o : ℕ). o < new) (λ o k. omega (arith, k)) (take i os) h) b

-- the counts of the first owners, and of one more
abbrev pub AreCounts : List ℕ → List ℕ → Type 0
AreCounts ns os = (p : ℕ) → get_or ns p 0 ≡ count_by (nat_eq p) os

pub counts_more : (ns os : List ℕ) (i : ℕ) → i < length os → get_or os i 0 < length ns → AreCounts ns (take i os) → AreCounts (set ns (get_or os i 0) (get_or ns (get_or os i 0) 0 + 1)) (take (i + 1) os)
counts_more ns os i l m h p = elim (eqb_tells p (get_or os i 0)) [
  | inl t ↦ rw t.1 (get_or-set_same ns (get_or os i 0) (get_or ns (get_or os i 0) 0 + 1) 0 m ∙ omega (arith, h (get_or os i 0), count_by_more_yes (nat_eq (get_or os i 0)) os i 0 l (eq-eqb (get_or os i 0) (get_or os i 0) refl)))
  | inr f ↦ get_or-set_other ns (get_or os i 0) p (get_or ns (get_or os i 0) 0 + 1) 0 f.1 ∙ h p ∙ sym (count_by_more_no (nat_eq p) os i 0 l f.0)
]

-- a count fits a number
pub count_small : (ns os : List ℕ) (i p n : ℕ) → i < length os → length os < 2 ^ 32 → AreCounts ns (take i os) → p < length ns → n ≡ get_or ns p n → n + 1 < 2 ^ 32
count_small ns os i p n l few h m is = omega (arith, h p, count_by-le-length (nat_eq p) (take i os), length-take i os, get_or_read ns p n m is 0)

-- no owner is counted yet
pub none_counted : (n : ℕ) → AreCounts (replicate n 0) []
none_counted zero p = refl
none_counted (suc n) zero = refl
none_counted (suc n) (suc p) = none_counted n p

-- no point is hit yet
pub started : (os : List ℕ) (n : ℕ) (x : OpenPoints) → length os ≤ n → x.owners.items ≡ os → AreCounts x.counts.items x.owners.items → IsOpenBy os (replicate n Missed) x
started os n x few is h = record { owners = is; counts = λ p. h p ∙ ap (count_by (nat_eq p)) is ∙ sym (open_first p os n few) }
