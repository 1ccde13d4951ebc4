-- One note more is reported.
use Rattle.std.proofs.Common.{◌≡◌, ◌↔◌, ◌++◌, ℕ, Bool, true, false, List, [], ◌∷◌, Option, Some, None, IsTrue, set, refl, sym, ap, subst, ◌∙◌, append-nil, append_assoc}
use Rattle.std.proofs.lemmas.Bool.{true≢false}
use Rattle.std.proofs.lemmas.List.Elements.{All-cons, All-head, All-nil, All-tail}
use Rattle.std.specs.List.{All}
use Rattle.body_replay.specs.Contract.{Note}
use Rattle.body_replay.specs.Replay.{Spot, line, node, word_read, word_write}
use Rattle.cover_marks.specs.Marks.{AreMarksOf}
use Rattle.cover_marks.specs.declared.marks.Marks.{Marks}
use Rattle.cover_points.specs.Visits.{IsVisitOf, point_at, visit_of}
use Rattle.cover_points.specs.declared.listing.Points.{Points}
use Rattle.cover_points.specs.declared.visit.Visit.{Visit}
use Rattle.cover_points.specs.declared.visit.Visit.TheVariants.{Line}
use Rattle.design_model.specs.Design.{Design}
use Rattle.design_model.specs.declared.point.Point.{Point}
use Rattle.design_model.specs.declared.point.Point.TheVariants as point
use Rattle.mark_laws.specs.Marked.{AreVerdicts, verdict_at}
use Rattle.mark_laws.specs.Numbered.{doubt_of, visit_at}
use Rattle.mark_laws.proofs.Marked.{doubt_set, hit_set}
use Rattle.mark_laws.proofs.Verdicts.{visit_of_key}
use Rattle.point_marks.specs.Marking.{with_doubt}
use Rattle.point_marks.specs.declared.verdict.Doubt.{Doubt}
use Rattle.point_marks.specs.declared.verdict.Verdict.{Verdict}
use Rattle.point_marks.specs.declared.verdict.Verdict.TheVariants.{Hit}
use Rattle.mark_laws.specs.replay_model.Marks.{IsKeyOf, Marking, marking_by, markings_by, of_process}
use Rattle.block_runs.specs.Notes.{note_of}
use Rattle.block_runs.specs.declared.notes.Doubt.{Doubt as RunDoubt}
use Rattle.term_replay.specs.Noted.{spot_of}
use Rattle.term_replay.specs.declared.notes.Spot.{Spot as SpotNow}
use Rattle.run_marks.specs.Reported.{AreNotesOf, HasReported, IsRightStart, IsSpotOf, RunStart}
use Rattle.run_marks.proofs.Settled.{verdicts_stay}

-- a point with the visit of a spot has the spot as a key
key_of_visit : (d : Design) (x : Point) (p : ℕ) (s : Spot) → visit_of x ≡ Some (visit_at p s) → IsSpotOf d p s → IsKeyOf d x (of_process p s)
key_of_visit d (point.Line q n at w) p (line m) e own = let f : Line q n ≡ Line p m = cc in let a : q ≡ p = cc in let b : n ≡ m = cc in (ap (λ i. Some (line i)) b, sym a)
key_of_visit d (point.Line q n at w) p (node m c) e own = cc
key_of_visit d (point.Line q n at w) p (word_read m i) e own = cc
key_of_visit d (point.Line q n at w) p (word_write m i) e own = cc
key_of_visit d (point.Logic q n at op c) p (line m) e own = cc
key_of_visit d (point.Logic q n at op c) p (node m k) e own =
    let a : q ≡ p = cc in let b : n ≡ m = cc in let f : c ≡ k = cc in (ap (λ i. Some (node i c)) b ∙ ap (λ i. Some (node m i)) f, sym a)
key_of_visit d (point.Logic q n at op c) p (word_read m i) e own = cc
key_of_visit d (point.Logic q n at op c) p (word_write m i) e own = cc
key_of_visit d (point.Toggle s i rise) p (line m) e own = cc
key_of_visit d (point.Toggle s i rise) p (node m c) e own = cc
key_of_visit d (point.Toggle s i rise) p (word_read m k) e own = cc
key_of_visit d (point.Toggle s i rise) p (word_write m k) e own = cc
key_of_visit d (point.State i name s state x) p spot e own = cc
key_of_visit d (point.Arc i name s from to x y) p spot e own = cc
key_of_visit d (point.Word m i true) p (line n) e own = cc
key_of_visit d (point.Word m i true) p (node n c) e own = cc
key_of_visit d (point.Word m i true) p (word_read n j) e own = cc
key_of_visit d (point.Word m i true) p (word_write n j) e own =
    let a : m ≡ n = cc in let b : i ≡ j = cc in
    (ap (λ x. Some (word_write x i)) a ∙ ap (λ x. Some (word_write n x)) b, subst (λ x. IsSpotOf d p (word_write x i)) (sym a) (subst (λ x. IsSpotOf d p (word_write n x)) (sym b) own))
key_of_visit d (point.Word m i false) p (line n) e own = cc
key_of_visit d (point.Word m i false) p (node n c) e own = cc
key_of_visit d (point.Word m i false) p (word_write n j) e own = cc
key_of_visit d (point.Word m i false) p (word_read n j) e own =
    let a : m ≡ n = cc in let b : i ≡ j = cc in
    (ap (λ x. Some (word_read x i)) a ∙ ap (λ x. Some (word_read n x)) b, subst (λ x. IsSpotOf d p (word_read x i)) (sym a) (subst (λ x. IsSpotOf d p (word_read n x)) (sym b) own))

markings_more : (p : ℕ) (ns : List Note) (n : Note) → markings_by p (ns ++ n ∷ []) ≡ markings_by p ns ++ marking_by p n ∷ []
markings_more p [] n = refl
markings_more p (m ∷ ns) n = ap (λ xs. marking_by p m ∷ xs) (markings_more p ns n)

-- where the start is right, what is reported with these notes
abbrev pub Reports : RunStart → List Note → List Verdict → Type 0
Reports s ns vs = IsRightStart s → AreNotesOf s.design s.process ns → AreVerdicts s.design s.points (s.earlier ++ markings_by s.process ns) vs

parts : (P : Note → Type 0) (ns : List Note) (n : Note) → All P (ns ++ n ∷ []) → All P ns × P n
parts P [] n h = (All-nil P, All-head P n [] h)
parts P (m ∷ ns) n h =
    let r = parts P ns n (All-tail P m (ns ++ n ∷ []) h) in
    (All-cons P m ns (All-head P m (ns ++ n ∷ []) h) r.0, r.1)

module _ (s : RunStart) (ns : List Note) (n : Note) (vs : List Verdict) (h : Reports s ns vs) where
  longer : (ws : List Verdict) → (IsRightStart s → AreVerdicts s.design s.points (s.earlier ++ markings_by s.process ns) vs → IsSpotOf s.design s.process n.spot → AreVerdicts s.design s.points ((s.earlier ++ markings_by s.process ns) ++ marking_by s.process n ∷ []) ws) → Reports s (ns ++ n ∷ []) ws
  longer ws f right own =
      let r = parts (λ (m : Note). IsSpotOf s.design s.process m.spot) ns n own in
      let e : (s.earlier ++ markings_by s.process ns) ++ marking_by s.process n ∷ [] ≡ s.earlier ++ markings_by s.process (ns ++ n ∷ []) = append_assoc s.earlier (markings_by s.process ns) (marking_by s.process n ∷ []) ∙ ap (λ (xs : List Marking). s.earlier ++ xs) (sym (markings_more s.process ns n)) in
      subst (λ (xs : List Marking). AreVerdicts s.design s.points xs ws) e (f right (h right r.0) r.1)

  -- a spot of a point that is hit already, or of no point
  pub settled_more : ((k : ℕ) → IsVisitOf s.points k (visit_at s.process n.spot) → verdict_at vs k ≡ Hit) → Reports s (ns ++ n ∷ []) vs
  settled_more hit = longer vs (λ right v own. verdicts_stay s.design s.points (s.earlier ++ markings_by s.process ns) (marking_by s.process n) vs v (λ k l key. hit k (l, visit_of_key s.design (point_at s.points k) s.process n.spot key)))

  module _ (k : ℕ) (at : IsVisitOf s.points k (visit_at s.process n.spot)) where
    pub hit_more : n.doubt ≡ None → Reports s (ns ++ n ∷ []) (set vs k Hit)
    hit_more hit = longer (set vs k Hit) (λ right v own. hit_set s.design s.points (s.earlier ++ markings_by s.process ns) (marking_by s.process n) vs k right.apart right.once v at.0 (key_of_visit s.design (point_at s.points k) s.process n.spot at.1 own) hit)

    pub doubt_more : (y : Doubt) → doubt_of n.doubt ≡ Some y → Reports s (ns ++ n ∷ []) (set vs k (with_doubt y (verdict_at vs k)))
    doubt_more y is = longer (set vs k (with_doubt y (verdict_at vs k))) (λ right v own. doubt_set s.design s.points (s.earlier ++ markings_by s.process ns) (marking_by s.process n) vs k y right.apart right.once v at.0 (key_of_visit s.design (point_at s.points k) s.process n.spot at.1 own) is)

pub found_at : (ps : Points) (v : Visit) (number : ℕ) (b : Bool) → (IsTrue b ↔ IsVisitOf ps number v) → b ≡ true → (k : ℕ) → Some number ≡ Some k → IsVisitOf ps k v
found_at ps v number b both holds k e = let same : number ≡ k = cc in subst (λ (i : ℕ). IsVisitOf ps i v) same (both.0 holds)

-- where the point with the number of a visit has another visit, no point has it
pub not_at : (ps : Points) (m : Marks) (v : Visit) (number : ℕ) (b : Bool) → (IsTrue b ↔ IsVisitOf ps number v) → b ≡ false → ((qs : Points) (k : ℕ) → AreMarksOf qs m → IsVisitOf qs k v → number ≡ k) → AreMarksOf ps m → (k : ℕ) → IsVisitOf ps k v → ⊥
not_at ps m v number b both fails find marks k at = let t : b ≡ true = both.1 (subst (λ (i : ℕ). IsVisitOf ps i v) (sym (find ps k marks at)) at) in absurd (true≢false (sym t ∙ fails))

-- what a run begins with
pub none_reported : (s : RunStart) (m : Marks) → AreMarksOf s.points m → s.before ≡ m.verdicts → HasReported s [] s.process s.points m
none_reported s m marks is =
    record {
      process = refl;
      points = refl;
      marks = marks;
      verdicts = λ right own. subst (λ (xs : List Marking). AreVerdicts s.design s.points xs m.verdicts) (sym (append-nil s.earlier)) (subst (AreVerdicts s.design s.points s.earlier) is right.verdicts);
    }

module _ (p : ℕ) (ps : Points) (m after : Marks) (spot : SpotNow) (s : RunStart) (ns : List Note) (h : HasReported s ns p ps m) where
  visit_same : (k : ℕ) → IsVisitOf ps k (visit_at p (spot_of spot)) → IsVisitOf s.points k (visit_at s.process (spot_of spot))
  visit_same k at = subst (λ (q : ℕ). IsVisitOf s.points k (visit_at q (spot_of spot))) h.process (subst (λ (qs : Points). IsVisitOf qs k (visit_at p (spot_of spot))) h.points at)

  pub reports_hit : (k : ℕ) → IsVisitOf ps k (visit_at p (spot_of spot)) → ((qs : Points) → AreMarksOf qs m → AreMarksOf qs after) → after.verdicts ≡ set m.verdicts k Hit → HasReported s (ns ++ note_of spot None ∷ []) p ps after
  reports_hit k at kept is = record {
    process = h.process;
    points = h.points;
    marks = kept s.points h.marks;
    verdicts = subst (Reports s (ns ++ note_of spot None ∷ [])) (sym is) (hit_more s ns (note_of spot None) m.verdicts h.verdicts k (visit_same k at) refl);
  }

  pub reports_doubt : (k : ℕ) (y : RunDoubt) → IsVisitOf ps k (visit_at p (spot_of spot)) → ((qs : Points) → AreMarksOf qs m → AreMarksOf qs after) → after.verdicts ≡ set m.verdicts k (with_doubt (record { thing = y.thing; time = y.time }) (verdict_at m.verdicts k)) → HasReported s (ns ++ note_of spot (Some y) ∷ []) p ps after
  reports_doubt k y at kept is = record {
    process = h.process;
    points = h.points;
    marks = kept s.points h.marks;
    verdicts = subst (Reports s (ns ++ note_of spot (Some y) ∷ [])) (sym is) (doubt_more s ns (note_of spot (Some y)) m.verdicts h.verdicts k (visit_same k at) (record { thing = y.thing; time = y.time }) refl);
  }

  visit_back : (k : ℕ) → IsVisitOf s.points k (visit_at s.process (spot_of spot)) → IsVisitOf ps k (visit_at p (spot_of spot))
  visit_back k at = subst (λ (q : ℕ). IsVisitOf ps k (visit_at q (spot_of spot))) (sym h.process) (subst (λ (qs : Points). IsVisitOf qs k (visit_at s.process (spot_of spot))) (sym h.points) at)

  marks_back : AreMarksOf ps m
  marks_back = subst (λ (qs : Points). AreMarksOf qs m) (sym h.points) h.marks

  pub reports_settled : (doubt : Option RunDoubt) → (AreMarksOf ps m → (k : ℕ) → IsVisitOf ps k (visit_at p (spot_of spot)) → verdict_at m.verdicts k ≡ Hit) → HasReported s (ns ++ note_of spot doubt ∷ []) p ps m
  reports_settled doubt hit = record {
    process = h.process;
    points = h.points;
    marks = h.marks;
    verdicts = settled_more s ns (note_of spot doubt) m.verdicts h.verdicts (λ k at. hit marks_back k (visit_back k at));
  }
