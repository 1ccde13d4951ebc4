-- Verdicts by number are the verdicts of the points.
use Rattle.std.proofs.Common.{◌≡◌, ◌≢◌, ◌<◌, ◌++◌, ℕ, zero, suc, true, false, Option, Some, None, List, [], ◌∷◌, length, get_or, refl, sym, ap, subst, ◌∙◌, inl, inr, arith}
use Rattle.std.specs.List.{All, Contains}
use Rattle.std.proofs.lemmas.List.Elements.{All-head, All-tail}
use Rattle.replay_model.specs.body_replay.Contract.{Doubted}
use Rattle.replay_model.specs.body_replay.Replay.{Spot, line, node, word_read, word_write}
use Rattle.cover_points.specs.Listed.{points_of}
use Rattle.cover_points.specs.Visits.{AreApart, AreOnce, point_at, visit_of}
use Rattle.cover_points.specs.declared.listing.Points.{Points}
use Rattle.cover_points.specs.declared.visit.Visit.TheVariants.{Line, Node}
use Rattle.replay_model.specs.design_model.Design.{Design}
use Rattle.replay_model.specs.design_model.declared.point.Point.{Point}
use Rattle.replay_model.specs.design_model.declared.point.Point.TheVariants as point
use Rattle.point_marks.specs.Marking.{IsVerdict, Marking, doubt_of as doubt_told, hit_of}
use Rattle.point_marks.specs.declared.verdict.Doubt.{Doubt}
use Rattle.point_marks.specs.declared.verdict.Verdict.{Verdict}
use Rattle.point_marks.specs.declared.verdict.Verdict.TheVariants as marks
use Rattle.replay_model.specs.Marks as replay
use Rattle.mark_laws.specs.Numbered.{AreNumbered, IsNumbered, doubt_of, verdict_view, visit_at}

visit_of_some : (x : Point) (p : ℕ) (spot s : Spot) → visit_of x ≡ Some (visit_at p s) → Some s ≡ Some spot → visit_of x ≡ Some (visit_at p spot)
visit_of_some x p spot s e f = let same : s ≡ spot = cc in e ∙ ap (λ s. Some (visit_at p s)) same

-- the point of a spot has the visit of the spot
pub visit_of_key : (d : Design) (x : Point) (p : ℕ) (spot : Spot) → replay.IsKeyOf d x (replay.of_process p spot) → visit_of x ≡ Some (visit_at p spot)
visit_of_key d (point.Line q n at w) p spot (e, b) = visit_of_some (point.Line q n at w) p spot (line n) (ap (λ q. Some (Line q n)) (sym b)) e
visit_of_key d (point.Logic q n at op c) p spot (e, b) = visit_of_some (point.Logic q n at op c) p spot (node n c) (ap (λ q. Some (Node q n c)) (sym b)) e
visit_of_key d (point.Toggle s i rise) p spot (e, b) = absurd b
visit_of_key d (point.State i name s state x) p spot (e, b) = absurd b
visit_of_key d (point.Arc i name s from to x y) p spot (e, b) = absurd b
visit_of_key d (point.Word m i true) p spot (e, b) = visit_of_some (point.Word m i true) p spot (word_write m i) refl e
visit_of_key d (point.Word m i false) p spot (e, b) = visit_of_some (point.Word m i false) p spot (word_read m i) refl e

module _ (d : Design) (ps : Points) (apart : AreApart ps) (once : AreOnce ps) where
  -- a key is one of one point
  pub one_key : (key : replay.Key) (j k : ℕ) → j < length (points_of ps) → k < length (points_of ps) → replay.IsKeyOf d (point_at ps j) key → replay.IsKeyOf d (point_at ps k) key → j ≡ k
  one_key (replay.of_process p spot) j k l m a b = apart j k (visit_at p spot) (l, visit_of_key d (point_at ps j) p spot a) (m, visit_of_key d (point_at ps k) p spot b)
  one_key (replay.of_point y) j k l m a b = once j k l m (sym a ∙ b)

  module _ (k : ℕ) (l : k < length (points_of ps)) where
    abbrev x : Point
    x = point_at ps k

    key_is : (n : replay.Marking) (m : Marking) → IsNumbered d ps n m → m.point ≡ k → replay.IsKeyOf d x n.key
    key_is n m h e = subst (λ j. replay.IsKeyOf d (point_at ps j) n.key) e h.key

    other_key : (n : replay.Marking) (m : Marking) → IsNumbered d ps n m → m.point ≢ k → replay.IsKeyOf d x n.key → ⊥
    other_key n m h ne key = ne (one_key n.key m.point k h.listed l h.key key)

    no_doubt : (o : Option Doubted) → None ≡ doubt_of o → o ≡ None
    no_doubt None e = refl
    no_doubt (Some y) e = cc

    pub same_doubt : (o : Option Doubted) (y : Doubt) → Some y ≡ doubt_of o → o ≡ Some (record { time = y.time; thing = y.thing })
    same_doubt None y e = cc
    same_doubt (Some z) y e =
        let same : y ≡ record { thing = z.thing; time = z.time } = cc in
        ap Some (sym (ap (λ (w : Doubt). record { time = w.time; thing = w.thing }) same))

    hit_at : (ns : List replay.Marking) (ms : List Marking) → AreNumbered d ps ns ms → (i : ℕ) → i < length ms → get_or ms i (hit_of k) ≡ hit_of k → replay.IsHitMarked d x ns
    hit_at [] [] h i m e = absurd (omega arith)
    hit_at [] (m ∷ ms) h i b e = absurd h
    hit_at (n ∷ ns) [] h i b e = absurd h
    hit_at (n ∷ ns) (m ∷ ms) h zero b e = inl (key_is n m h.0 (ap (λ (t : Marking). t.point) e), no_doubt n.doubt (sym (ap (λ (t : Marking). t.doubt) e) ∙ h.0.doubt))
    hit_at (n ∷ ns) (m ∷ ms) h (suc i) b e = inr (hit_at ns ms h.1 i (omega arith) e)

    told_hit : (ns : List replay.Marking) (ms : List Marking) → AreNumbered d ps ns ms → replay.IsHitMarked d x ns → Contains ms (hit_of k)
    told_hit [] ms h t = absurd t
    told_hit (n ∷ ns) [] h t = absurd h
    told_hit (n ∷ ns) (m ∷ ms) h (inl t) =
        let point : m.point ≡ k = one_key n.key m.point k h.0.listed l h.0.key t.0 in
        let doubt : m.doubt ≡ None = h.0.doubt ∙ ap doubt_of t.1 in
        let make : ℕ → Option Doubt → Marking = λ (p : ℕ). λ (o : Option Doubt). record { point = p; doubt = o } in
        (0, omega arith, ap (λ p. make p m.doubt) point ∙ ap (make k) doubt)
    told_hit (n ∷ ns) (m ∷ ms) h (inr t) = let c = told_hit ns ms h.1 t in (suc c.0, omega (arith, c.1), c.2)

    untold : (ns : List replay.Marking) (ms : List Marking) → AreNumbered d ps ns ms → All (λ (m : Marking). m.point ≢ k) ms → replay.IsUnmarked d x ns
    untold [] ms h others = tt
    untold (n ∷ ns) [] h others = absurd h
    untold (n ∷ ns) (m ∷ ms) h others =
        (other_key n m h.0 (All-head (λ (m : Marking). m.point ≢ k) m ms others), untold ns ms h.1 (All-tail (λ (m : Marking). m.point ≢ k) m ms others))

    first_doubt : (ns : List replay.Marking) (before : List Marking) (y : Doubt) (after : List Marking) → AreNumbered d ps ns (before ++ doubt_told k y ∷ after) → All (λ (m : Marking). m.point ≢ k) before → replay.IsFirstDoubt d x (record { time = y.time; thing = y.thing }) ns
    first_doubt [] [] y after h others = absurd h
    first_doubt [] (m ∷ before) y after h others = absurd h
    first_doubt (n ∷ ns) [] y after h others = ([], n, ns, refl, tt, key_is n (doubt_told k y) h.0 refl, same_doubt n.doubt y h.0.doubt)
    first_doubt (n ∷ ns) (m ∷ before) y after h others =
        let f = first_doubt ns before y after h.1 (All-tail (λ (m : Marking). m.point ≢ k) m before others) in
        (n ∷ f.0, f.1, f.2, ap (λ xs. n ∷ xs) f.3, (other_key n m h.0 (All-head (λ (m : Marking). m.point ≢ k) m before others), f.4), f.5, f.6)

    pub verdict_is : (ns : List replay.Marking) (ms : List Marking) → AreNumbered d ps ns ms → (v : Verdict) → IsVerdict ms k v → replay.IsVerdict d x ns (verdict_view v)
    verdict_is ns ms h marks.Hit c = hit_at ns ms h c.0 c.1 c.2
    verdict_is ns ms h marks.Missed others = untold ns ms h others
    verdict_is ns ms h (marks.Undetermined y) u =
        ((λ t. u.0 (told_hit ns ms h t)), first_doubt ns u.1.before y u.1.after (subst (AreNumbered d ps ns) u.1.is h) u.1.others)
