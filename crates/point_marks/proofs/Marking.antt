-- Verdicts after one more marking.
use Rattle.std.proofs.Common.{◌≡◌, ◌≢◌, ℕ, ◌<◌, List, [], ◌∷◌, ◌++◌, Some, None, length, get_or, set, refl, sym, ap, subst, ◌∙◌, inl, inr, arith, append_assoc, length-set, get_or-set_same, get_or-set_other}
use Rattle.std.specs.List.{Contains}
use Rattle.std.proofs.lemmas.List.Elements.{All-contains, All-push, Contains-append_cases, Contains-append_left, Contains-append_right}
use Rattle.std.proofs.lemmas.Bool.{cases_eq}
use Rattle.point_marks.specs.Marking.{IsFirst, IsMarked, IsVerdict, Marking, doubt_of, hit_of, with_doubt}
use Rattle.point_marks.specs.declared.verdict.Doubt.{Doubt}
use Rattle.point_marks.specs.declared.verdict.Verdict.{Verdict}
use Rattle.point_marks.specs.declared.verdict.Verdict.TheVariants.{Hit, Missed, Undetermined}

only_one : (x y : Marking) → Contains (x ∷ []) y → x ≡ y
only_one x y c =
    let first : c.0 ≡ 0 = omega arith in
    subst (λ (k : ℕ). get_or (x ∷ []) k y ≡ y) first c.2

-- what is first stays first
still_first : (markings : List Marking) (m n : Marking) → IsFirst markings n → IsFirst (markings ++ m ∷ []) n
still_first markings m n f =
    record { before = f.before; after = f.after ++ m ∷ []; is = ap (λ xs. xs ++ m ∷ []) f.is ∙ append_assoc f.before (n ∷ f.after) (m ∷ []); others = f.others }

-- a hit that was marked is one of those before, where the last marking is another
hit_before : (markings : List Marking) (m : Marking) (p : ℕ) → (m ≡ hit_of p → ⊥) → Contains (markings ++ m ∷ []) (hit_of p) → Contains markings (hit_of p)
hit_before markings m p other c = elim (Contains-append_cases markings (m ∷ []) (hit_of p) c) [ inl h ↦ h | inr h ↦ absurd (other (only_one m (hit_of p) h)) ]

-- a marking of another point changes no verdict
unmoved : (markings : List Marking) (m : Marking) (p : ℕ) (v : Verdict) → m.point ≢ p → IsVerdict markings p v → IsVerdict (markings ++ m ∷ []) p v
unmoved markings m p Hit ne h = Contains-append_left markings (m ∷ []) (hit_of p) h
unmoved markings m p (Undetermined y) ne h = ((λ c. h.0 (hit_before markings m p (λ e. ne (ap (λ n. n.point) e)) c)), still_first markings m (doubt_of p y) h.1)
unmoved markings m p Missed ne h = All-push (λ n. n.point ≢ p) markings m h ne

apart : (p : ℕ) (y : Doubt) → doubt_of p y ≡ hit_of p → ⊥
apart p y e = let f : Some y ≡ None = ap (λ n. n.doubt) e in absurd (cc)

-- a doubt of a point
doubted : (markings : List Marking) (p : ℕ) (y : Doubt) (v : Verdict) → IsVerdict markings p v → IsVerdict (markings ++ doubt_of p y ∷ []) p (with_doubt y v)
doubted markings p y Hit h = Contains-append_left markings (doubt_of p y ∷ []) (hit_of p) h
doubted markings p y Missed h =
    let none : ¬ Contains markings (hit_of p) = λ c. All-contains (λ n. n.point ≢ p) markings (hit_of p) h c refl in
    ((λ c. none (hit_before markings (doubt_of p y) p (apart p y) c)), record { before = markings; after = []; is = refl; others = h })
doubted markings p y (Undetermined x) h = ((λ c. h.0 (hit_before markings (doubt_of p y) p (apart p y) c)), still_first markings (doubt_of p y) (doubt_of p x) h.1)

here : (markings : List Marking) (marks : List Verdict) (m : Marking) (v : Verdict) → m.point < length marks → IsVerdict (markings ++ m ∷ []) m.point v → (p : ℕ) → p ≡ m.point → IsVerdict (markings ++ m ∷ []) p (get_or (set marks m.point v) p Missed)
here markings marks m v l k p e =
    let P : ℕ → Type 0 = λ q. IsVerdict (markings ++ m ∷ []) q (get_or (set marks m.point v) q Missed) in
    subst P (sym e) (rw (get_or-set_same marks m.point v Missed l) k)

there : (markings : List Marking) (marks : List Verdict) (m : Marking) (v : Verdict) → IsMarked markings marks → (p : ℕ) → p < length (set marks m.point v) → (p ≡ m.point → ⊥) → IsVerdict (markings ++ m ∷ []) p (get_or (set marks m.point v) p Missed)
there markings marks m v h p b ne =
    let in_range : p < length marks = omega (arith, length-set {A = Verdict}) in
    rw (get_or-set_other marks m.point p v Missed ne) (unmoved markings m p (get_or marks p Missed) (λ e. ne (sym e)) (h p in_range))

-- where the verdict of one point is right after a marking of it, all are
pub one_set : (markings : List Marking) (marks : List Verdict) (m : Marking) (v : Verdict) → m.point < length marks → IsMarked markings marks → IsVerdict (markings ++ m ∷ []) m.point v → IsMarked (markings ++ m ∷ []) (set marks m.point v)
one_set markings marks m v l h k p b = elim (cases_eq p m.point) [ inl e ↦ here markings marks m v l k p e | inr ne ↦ there markings marks m v h p b ne ]

-- a hit of a point
pub hit_marked : (markings : List Marking) (marks : List Verdict) (p : ℕ) → p < length marks → IsMarked markings marks → IsMarked (markings ++ hit_of p ∷ []) (set marks p Hit)
hit_marked markings marks p l h = one_set markings marks (hit_of p) Hit l h (Contains-append_right markings (hit_of p ∷ []) (hit_of p) (0, omega arith, refl))

-- a doubt of a point
pub doubt_marked : (markings : List Marking) (marks : List Verdict) (p : ℕ) (y : Doubt) → p < length marks → IsMarked markings marks → IsMarked (markings ++ doubt_of p y ∷ []) (set marks p (with_doubt y (get_or marks p Missed)))
doubt_marked markings marks p y l h = one_set markings marks (doubt_of p y) _ l h (doubted markings p y (get_or marks p Missed) (h p l))
