-- What is reported in a step is added to what was reported before.
use Rattle.std.proofs.Common.{◌≡◌, ◌≢◌, ◌<◌, ◌++◌, ℕ, Bool, true, false, List, [], ◌∷◌, length, refl, sym, ap, subst, ◌∙◌, inl, inr, append_assoc}
use Rattle.std.proofs.lemmas.List.{append-nil}
use Rattle.std.specs.Prelude.{if◌then◌else◌}
use Rattle.mark_laws.specs.cover_points.Listed.{points_of}
use Rattle.mark_laws.specs.cover_points.Visits.{point_at}
use Rattle.mark_laws.specs.cover_points.declared.listing.Points.{Points}
use Rattle.signal_marks.specs.design_model.Design.{Design}
use Rattle.signal_marks.specs.design_model.declared.point.Point.{Point}
use Rattle.mark_laws.specs.Marked.{AreVerdicts, verdict_at}
use Rattle.mark_laws.specs.Numbered.{verdict_view}
use Rattle.signal_marks.specs.point_marks.declared.verdict.Verdict.{Verdict}
use Rattle.signal_marks.specs.point_marks.declared.verdict.Verdict.TheVariants as marks
use Rattle.mark_laws.specs.replay_model.Marks.{IsHitMarked, IsKeyOf, IsUnmarked, IsVerdict, Marking}
use Rattle.mark_laws.specs.replay_model.Step.{Closing, Working, after_settling, all_run, certainty, clocked_run, is_touched, plain_store, run_all_settling, run_settling, settle_start, settled_kept}
use Rattle.clocked_laws.proofs.Order.{clocked_adds}
use Rattle.step_parts.specs.Laws.{NotedLaw, SeenLaw}

-- ---- the runs

-- the second list begins with the first
abbrev Extends : List Marking → List Marking → Type 0
Extends ns ms = (more : List Marking) × (ms ≡ ns ++ more)

same : (ns : List Marking) → Extends ns ns
same ns = ([], sym (append-nil ns))

both : (a b c : List Marking) → Extends a b → Extends b c → Extends a c
both a b c f g = (f.0 ++ g.0, g.1 ∙ ap (λ (ns : List Marking). ns ++ g.0) f.1 ∙ append_assoc a f.0 g.0)

one : (st : Closing) (ordered : Bool) (p : ℕ) (w : Working) → Extends w.notes (run_settling st ordered p w).notes
one st ordered p w = go (is_touched st p)
  where
    go : (b : Bool) → Extends w.notes (if b then after_settling st ordered p (certainty st w.kept p) (st.run p (plain_store (settled_kept st.design p w.kept)) (certainty st w.kept p)) w else w).notes
    go true = (_, refl)
    go false = same w.notes

all : (st : Closing) (ordered : Bool) (ps : List ℕ) (w : Working) → Extends w.notes (run_all_settling st ordered ps w).notes
all st ordered [] w = same w.notes
all st ordered (p ∷ ps) w = both w.notes (run_settling st ordered p w).notes _ (one st ordered p w) (all st ordered ps (run_settling st ordered p w))

pub noted : NotedLaw
noted st =
    let start : Working = settle_start st (clocked_run st) in
    let middle : Working = run_all_settling st true st.tables.order start in
    both st.start.notes (clocked_run st).notes (all_run st).notes (clocked_adds st)
    (both start.notes middle.notes (all_run st).notes (all st true st.tables.order start) (all st false st.tables.last middle))

-- ---- the masks

module _ (d : Design) (x : Point) where
  hit_stays : (ns more : List Marking) → IsHitMarked d x ns → IsHitMarked d x (ns ++ more)
  hit_stays [] more h = absurd h
  hit_stays (n ∷ ns) more (inl h) = inl h
  hit_stays (n ∷ ns) more (inr h) = inr (hit_stays ns more h)

  no_hit : (ns : List Marking) → IsUnmarked d x ns → IsHitMarked d x ns → ⊥
  no_hit [] h hit = hit
  no_hit (n ∷ ns) h (inl hit) = h.0 hit.0
  no_hit (n ∷ ns) h (inr hit) = no_hit ns h.1 hit

  unmarked_key : (ns : List Marking) (n : Marking) (more : List Marking) → IsUnmarked d x (ns ++ n ∷ more) → IsKeyOf d x n.key → ⊥
  unmarked_key [] n more h key = h.0 key
  unmarked_key (m ∷ ns) n more h key = unmarked_key ns n more h.1 key

module _ (d : Design) (ps : Points) (ns more : List Marking) (before after : List Verdict) (old : AreVerdicts d ps ns before) (new : AreVerdicts d ps (ns ++ more) after) where
  stays_hit : (k : ℕ) → k < length (points_of ps) → verdict_at before k ≡ marks.Hit → verdict_at after k ≡ marks.Hit
  stays_hit k l e = go (verdict_at after k) (new.each k l)
    where
      hit : IsHitMarked d (point_at ps k) (ns ++ more)
      hit = hit_stays d (point_at ps k) ns more (subst (λ v. IsVerdict d (point_at ps k) ns (verdict_view v)) e (old.each k l))

      go : (v : Verdict) → IsVerdict d (point_at ps k) (ns ++ more) (verdict_view v) → v ≡ marks.Hit
      go marks.Hit h = refl
      go (marks.Undetermined y) h = absurd (h.0 hit)
      go marks.Missed h = absurd (no_hit d (point_at ps k) (ns ++ more) h hit)

  stays_marked : (k : ℕ) → k < length (points_of ps) → verdict_at before k ≢ marks.Missed → verdict_at after k ≢ marks.Missed
  stays_marked k l marked e = marked (go (verdict_at before k) (old.each k l))
    where
      none : IsUnmarked d (point_at ps k) (ns ++ more)
      none = subst (λ v. IsVerdict d (point_at ps k) (ns ++ more) (verdict_view v)) e (new.each k l)

      go : (v : Verdict) → IsVerdict d (point_at ps k) ns (verdict_view v) → v ≡ marks.Missed
      go marks.Hit h = absurd (no_hit d (point_at ps k) (ns ++ more) none (hit_stays d (point_at ps k) ns more h))
      go (marks.Undetermined y) h =
          let first = h.1 in
          let split : ns ++ more ≡ first.0 ++ first.1 ∷ (first.2 ++ more) = ap (λ (xs : List Marking). xs ++ more) first.3 ∙ append_assoc first.0 (first.1 ∷ first.2) more in
          absurd (unmarked_key d (point_at ps k) first.0 first.1 (first.2 ++ more) (subst (IsUnmarked d (point_at ps k)) split none) first.5)
      go marks.Missed h = refl

pub seen_more : SeenLaw
seen_more d ps ms ns more before after old new seen = λ s. record {
  rises = λ i k l set is. stays_hit d ps ns more before after old new k is.0 ((seen s).rises i k l set is);
  falls = λ i k l set is. stays_hit d ps ns more before after old new k is.0 ((seen s).falls i k l set is);
  may_rise = λ i k l set is. stays_marked d ps ns more before after old new k is.0 ((seen s).may_rise i k l set is);
  may_fall = λ i k l set is. stays_marked d ps ns more before after old new k is.0 ((seen s).may_fall i k l set is);
}
