-- Verdicts with one thing more that is reported.
use Rattle.std.proofs.Common.{◌≡◌, ◌≢◌, ◌⊎◌, ◌<◌, ◌++◌, ℕ, Option, Some, None, List, [], ◌∷◌, length, get_or, set, replicate, refl, sym, ap, subst, ◌∙◌, append_assoc, inl, inr, arith}
use Rattle.std.proofs.lemmas.Bool.{cases_eq}
use Rattle.std.proofs.lemmas.List.{get_or-replicate, get_or-set_same, get_or-set_other, length-replicate, length-set}
use Rattle.replay_model.specs.body_replay.Contract.{Doubted}
use Rattle.cover_points.specs.Listed.{points_of}
use Rattle.cover_points.specs.Visits.{AreApart, AreOnce, point_at}
use Rattle.cover_points.specs.declared.listing.Points.{Points}
use Rattle.replay_model.specs.design_model.Design.{Design}
use Rattle.replay_model.specs.design_model.declared.point.Point.{Point}
use Rattle.point_marks.specs.Marking.{with_doubt}
use Rattle.point_marks.specs.declared.verdict.Doubt.{Doubt}
use Rattle.point_marks.specs.declared.verdict.Verdict.{Verdict}
use Rattle.point_marks.specs.declared.verdict.Verdict.TheVariants as marks
use Rattle.replay_model.specs.Marks.{Marking, IsKeyOf, IsHitMarked, IsUnmarked, IsFirstDoubt, IsVerdict, Hit, Undetermined, Missed}
use Rattle.replay_model.specs.Marks as replay
use Rattle.mark_laws.specs.Numbered.{doubt_of, verdict_view}
use Rattle.mark_laws.specs.Marked.{AreVerdicts, IsNoKey, verdict_at}
use Rattle.mark_laws.proofs.Verdicts.{one_key, same_doubt}

module _ (d : Design) (x : Point) (n : Marking) where
  hit_stays : (ns : List Marking) → IsHitMarked d x ns → IsHitMarked d x (ns ++ n ∷ [])
  hit_stays [] h = absurd h
  hit_stays (m ∷ ns) (inl h) = inl h
  hit_stays (m ∷ ns) (inr h) = inr (hit_stays ns h)

  pub hit_more : (ns : List Marking) → IsKeyOf d x n.key → n.doubt ≡ None → IsHitMarked d x (ns ++ n ∷ [])
  hit_more [] key none = inl (key, none)
  hit_more (m ∷ ns) key none = inr (hit_more ns key none)

  hit_split : (ns : List Marking) → IsHitMarked d x (ns ++ n ∷ []) → IsHitMarked d x ns ⊎ (IsKeyOf d x n.key × (n.doubt ≡ None))
  hit_split [] (inl h) = inr h
  hit_split [] (inr h) = absurd h
  hit_split (m ∷ ns) (inl h) = inl (inl h)
  hit_split (m ∷ ns) (inr h) = elim (hit_split ns h) [ inl before ↦ inl (inr before) | inr last ↦ inr last ]

  unmarked_more : (ns : List Marking) → IsUnmarked d x ns → (IsKeyOf d x n.key → ⊥) → IsUnmarked d x (ns ++ n ∷ [])
  unmarked_more [] h other = (other, tt)
  unmarked_more (m ∷ ns) h other = (h.0, unmarked_more ns h.1 other)

  no_hit : (ns : List Marking) → IsUnmarked d x ns → IsHitMarked d x ns → ⊥
  no_hit [] h hit = hit
  no_hit (m ∷ ns) h (inl hit) = h.0 hit.0
  no_hit (m ∷ ns) h (inr hit) = no_hit ns h.1 hit

  first_stays : (ns : List Marking) (y : Doubted) → IsFirstDoubt d x y ns → IsFirstDoubt d x y (ns ++ n ∷ [])
  first_stays ns y f = (f.0, f.1, f.2 ++ n ∷ [], ap (λ (xs : List Marking). xs ++ n ∷ []) f.3 ∙ append_assoc f.0 (f.1 ∷ f.2) (n ∷ []), f.4, f.5, f.6)

  first_more : (ns : List Marking) (y : Doubted) → IsUnmarked d x ns → IsKeyOf d x n.key → n.doubt ≡ Some y → IsFirstDoubt d x y (ns ++ n ∷ [])
  first_more ns y h key doubt = (ns, n, [], refl, h, key, doubt)

  -- what is reported of others leaves the verdict
  pub other_verdict : (ns : List Marking) (v : replay.Verdict) → (IsKeyOf d x n.key → ⊥) → IsVerdict d x ns v → IsVerdict d x (ns ++ n ∷ []) v
  other_verdict ns Hit other h = hit_stays ns h
  other_verdict ns (Undetermined y) other h = ((λ hit. elim (hit_split ns hit) [ inl before ↦ h.0 before | inr last ↦ other last.0 ]), first_stays ns y h.1)
  other_verdict ns Missed other h = unmarked_more ns h other

  -- a doubt leaves a hit and the first doubt
  pub doubt_verdict : (ns : List Marking) (v : Verdict) (y : Doubt) → IsKeyOf d x n.key → n.doubt ≡ Some (record { time = y.time; thing = y.thing }) → IsVerdict d x ns (verdict_view v) → IsVerdict d x (ns ++ n ∷ []) (verdict_view (with_doubt y v))
  doubt_verdict ns marks.Hit y key doubt h = hit_stays ns h
  doubt_verdict ns (marks.Undetermined z) y key doubt h = ((λ hit. elim (hit_split ns hit) [ inl before ↦ h.0 before | inr last ↦ absurd (let no : Some _ ≡ None = sym doubt ∙ last.1 in cc) ]), first_stays ns _ h.1)
  doubt_verdict ns marks.Missed y key doubt h = ((λ hit. elim (hit_split ns hit) [ inl before ↦ no_hit ns h before | inr last ↦ absurd (let no : Some _ ≡ None = sym doubt ∙ last.1 in cc) ]), first_more ns _ h key doubt)

-- the verdict of one point is set to what follows
set_verdict : (d : Design) (ps : Points) (ns : List Marking) (n : Marking) (vs : List Verdict) (k : ℕ) (v : Verdict) → AreApart ps → AreOnce ps → AreVerdicts d ps ns vs → k < length (points_of ps) → IsKeyOf d (point_at ps k) n.key
    → IsVerdict d (point_at ps k) (ns ++ n ∷ []) (verdict_view v) → AreVerdicts d ps (ns ++ n ∷ []) (set vs k v)
set_verdict d ps ns n vs k v apart once h l key is = record {
  count = length-set vs k v ∙ h.count;
  each = λ j m. elim (cases_eq j k) [
    | inl same ↦ subst (λ i. IsVerdict d (point_at ps i) (ns ++ n ∷ []) (verdict_view (get_or (set vs k v) i marks.Missed))) (sym same)
        (subst (λ w. IsVerdict d (point_at ps k) (ns ++ n ∷ []) (verdict_view w)) (sym (get_or-set_same vs k v marks.Missed (let count = h.count in omega (arith, count, l)))) is)
    | inr other ↦ subst (λ w. IsVerdict d (point_at ps j) (ns ++ n ∷ []) (verdict_view w)) (sym (get_or-set_other vs k j v marks.Missed other))
        (other_verdict d (point_at ps j) n ns _ (λ own. other (one_key d ps apart once n.key j k m l own key)) (h.each j m))
  ];
}

pub hit_set : (d : Design) (ps : Points) (ns : List Marking) (n : Marking) (vs : List Verdict) (k : ℕ) → AreApart ps → AreOnce ps → AreVerdicts d ps ns vs → k < length (points_of ps) → IsKeyOf d (point_at ps k) n.key → n.doubt ≡ None → AreVerdicts d ps (ns ++ n ∷ []) (set vs k marks.Hit)
hit_set d ps ns n vs k apart once h l key none = set_verdict d ps ns n vs k marks.Hit apart once h l key (hit_more d (point_at ps k) n ns key none)

pub doubt_set : (d : Design) (ps : Points) (ns : List Marking) (n : Marking) (vs : List Verdict) (k : ℕ) (y : Doubt) → AreApart ps → AreOnce ps → AreVerdicts d ps ns vs → k < length (points_of ps) → IsKeyOf d (point_at ps k) n.key → doubt_of n.doubt ≡ Some y
    → AreVerdicts d ps (ns ++ n ∷ []) (set vs k (with_doubt y (verdict_at vs k)))
doubt_set d ps ns n vs k y apart once h l key is =
    set_verdict d ps ns n vs k (with_doubt y (verdict_at vs k)) apart once h l key (doubt_verdict d (point_at ps k) n ns (verdict_at vs k) y key (same_doubt d ps apart once k l n.doubt y (sym is)) (h.each k l))

pub other_kept : (d : Design) (ps : Points) (ns : List Marking) (n : Marking) (vs : List Verdict) → AreVerdicts d ps ns vs → IsNoKey d ps n.key → AreVerdicts d ps (ns ++ n ∷ []) vs
other_kept d ps ns n vs h none = record { count = h.count; each = λ k l. other_verdict d (point_at ps k) n ns _ (none k l) (h.each k l) }

pub nothing_marked : (d : Design) (ps : Points) (n : ℕ) → n ≡ length (points_of ps) → AreVerdicts d ps [] (replicate n marks.Missed)
nothing_marked d ps n e = record {
  count = length-replicate n marks.Missed ∙ e;
  each = λ k l. subst (λ v. IsVerdict d (point_at ps k) [] (verdict_view v)) (sym (get_or-replicate n k marks.Missed marks.Missed (omega (arith, e, l)))) tt;
}
