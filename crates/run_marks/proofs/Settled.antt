-- A note of a point that is hit already.
use Rattle.std.proofs.Common.{◌≡◌, ◌<◌, ◌++◌, ℕ, List, [], ◌∷◌, length, inl, inr}
use Rattle.std.specs.Prelude.{⊤}
use Rattle.cover_points.specs.Listed.{points_of}
use Rattle.cover_points.specs.Visits.{IsVisitOf, point_at}
use Rattle.cover_points.specs.declared.listing.Points.{Points}
use Rattle.cover_marks.specs.Owners.{IsSettled}
use Rattle.design_model.specs.Design.{Design}
use Rattle.design_model.specs.declared.point.Point.{Point}
use Rattle.mark_laws.specs.Marked.{AreVerdicts, verdict_at}
use Rattle.mark_laws.specs.Numbered.{verdict_view, visit_at}
use Rattle.mark_laws.proofs.Marked.{other_verdict}
use Rattle.mark_laws.specs.replay_model.Marks.{IsHitMarked, IsKeyOf, IsVerdict, Marking}
use Rattle.mark_laws.specs.replay_model.Marks as replay
use Rattle.point_marks.specs.declared.verdict.Verdict.{Verdict}
use Rattle.point_marks.specs.declared.verdict.Verdict.TheVariants.{Hit, Missed, Undetermined}
use Rattle.term_replay.specs.Noted.{spot_of}
use Rattle.term_replay.specs.declared.notes.Spot.{Spot}
use Rattle.term_replay.specs.declared.notes.Spot.TheVariants.{Line, Node, WordRead, WordWrite}

-- the spot is a statement or a case of a node
abbrev pub IsOfText : Spot → Type 0
IsOfText (Line n) = ⊤
IsOfText (Node n c) = ⊤
IsOfText (WordRead m i) = ⊥
IsOfText (WordWrite m i) = ⊥

-- of a settled process its point is hit
pub text_hit : (ps : Points) (vs : List Verdict) (p k : ℕ) (s : Spot) → IsSettled ps vs p → IsOfText s → IsVisitOf ps k (visit_at p (spot_of s)) → verdict_at vs k ≡ Hit
text_hit ps vs p k (Line n) h t at = h.lines k n at
text_hit ps vs p k (Node n c) h t at = h.nodes k n c at
text_hit ps vs p k (WordRead m i) h t at = absurd t
text_hit ps vs p k (WordWrite m i) h t at = absurd t

module _ (d : Design) (x : Point) (n : Marking) where
  hit_stays : (ns : List Marking) → IsHitMarked d x ns → IsHitMarked d x (ns ++ n ∷ [])
  hit_stays [] h = absurd h
  hit_stays (m ∷ ns) (inl h) = inl h
  hit_stays (m ∷ ns) (inr h) = inr (hit_stays ns h)

  -- where what is marked is of the point only if that is hit, its verdict stays
  verdict_stays : (ns : List Marking) (v : Verdict) → (IsKeyOf d x n.key → v ≡ Hit) → IsVerdict d x ns (verdict_view v) → IsVerdict d x (ns ++ n ∷ []) (verdict_view v)
  verdict_stays ns Hit f h = hit_stays ns h
  verdict_stays ns Missed f h = other_verdict d x n ns replay.Missed (λ key. let e : Missed ≡ Hit = f key in cc) h
  verdict_stays ns (Undetermined y) f h = other_verdict d x n ns (verdict_view (Undetermined y)) (λ key. let e : Undetermined y ≡ Hit = f key in cc) h

-- where what is marked is of points that are hit, each verdict stays
pub verdicts_stay : (d : Design) (ps : Points) (ns : List Marking) (n : Marking) (vs : List Verdict) → AreVerdicts d ps ns vs → ((k : ℕ) → k < length (points_of ps) → IsKeyOf d (point_at ps k) n.key → verdict_at vs k ≡ Hit) → AreVerdicts d ps (ns ++ n ∷ []) vs
verdicts_stay d ps ns n vs h hit = record { count = h.count; each = λ k l. verdict_stays d (point_at ps k) n ns (verdict_at vs k) (hit k l) (h.each k l) }
