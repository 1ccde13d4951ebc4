-- The rows of a table by the verdicts of a replay.
use Rattle.std.proofs.Common.{◌≡◌, ◌<◌, ◌∙◌, ℕ, List, [], ◌∷◌, length, get_or, inl, inr, refl, sym, subst, arith}
use Rattle.std.specs.List.{All}
use Rattle.std.proofs.lemmas.List.{get_or_default}
use Rattle.coverage_db.specs.Table.{IsTable}
use Rattle.coverage_db.specs.declared.db.Db.{Db}
use Rattle.coverage_db.specs.declared.db.DbPoint.{DbPoint}
use Rattle.coverage_db.specs.declared.verdict.DbVerdict.TheVariants as row
use Rattle.mark_laws.specs.cover_points.Listed.{IsPointList, points_of}
use Rattle.mark_laws.specs.cover_points.Visits.{no_point, point_at}
use Rattle.mark_laws.specs.cover_points.declared.listing.Points.{Points}
use Rattle.mark_laws.proofs.cover_points.Members.{in_at}
use Rattle.design_model.specs.Design.{Design, In}
use Rattle.design_model.specs.Lawful.{IsLawfulDesign}
use Rattle.design_model.specs.Points.{IsHit}
use Rattle.mark_laws.specs.cover_points.design_machines.state_machines.Machines.{StateMachines}
use Rattle.design_model.specs.Run.{Run}
use Rattle.design_model.specs.Shows.{BoundDump}
use Rattle.design_model.specs.declared.point.Point.{Point}
use Rattle.event_machine.specs.Habit.{Habit}
use Rattle.mark_laws.specs.Marked.{AreVerdicts, verdict_at}
use Rattle.mark_laws.specs.Numbered.{verdict_view}
use Rattle.point_marks.specs.declared.verdict.Verdict.{Verdict}
use Rattle.point_marks.specs.declared.verdict.Verdict.TheVariants.{Hit, Missed, Undetermined}
use Rattle.table_laws.specs.point_table.Collected.{IsCollected}
use Rattle.table_laws.specs.point_table.Verdicts.{AreShown, no_row, row_verdict}
use Rattle.mark_laws.specs.replay_model.Laws.{AreReasonedVerdicts, AreSoundVerdicts}
use Rattle.mark_laws.specs.replay_model.Marks.{IsHitMarked, IsUnmarked, IsVerdict, Marking}
use Rattle.mark_laws.specs.replay_model.Step.{Replay}
use Rattle.table_laws.specs.Rows.{IsAddressOf, ListsEach}
use Rattle.table_laws.specs.Written.{IsWritten, IsWrittenMachine}
use Rattle.verdict_laws.specs.Sound.{IsShownBy, IsSound, IsSoundRow, Says}
use Rattle.verdict_laws.specs.Reasoned.{IsReasoned, IsReasonedRow, IsReasonedVerdict}
use Rattle.verdict_laws.proofs.OnePoint.{each, one_point}

-- what the verdict of a listed point says of the runs
said : (d : Design) (h : Habit) (dump : BoundDump) (points : List Point) (a : Replay) (x : Point) (v : Verdict) → AreSoundVerdicts d h dump points a → In x points → IsVerdict d x a.notes (verdict_view v) → (r : Run) → IsShownBy d h dump r → Says (row_verdict d v) (IsHit d dump r x)
said d h dump points a x Hit sound i is r shown = sound.hit x is r shown.is_run shown.shows
said d h dump points a x Missed sound i is r shown = sound.missed x i is r shown.is_run shown.shows
said d h dump points a x (Undetermined y) sound i is r shown = tt

-- what a doubt says of them
reasoned : (d : Design) (h : Habit) (dump : BoundDump) (points : List Point) (a : Replay) (x : Point) (v : Verdict) → AreReasonedVerdicts d h dump points a → In x points → IsVerdict d x a.notes (verdict_view v) → IsReasonedVerdict d h dump x (row_verdict d v)
reasoned d h dump points a x Hit are i is = tt
reasoned d h dump points a x Missed are i is = tt
reasoned d h dump points a x (Undetermined y) are i is =
    let doubt = are.doubted x (record { time = y.time; thing = y.thing }) is in
    (record { thing = y.thing; in_window = doubt.0; in_doubt = doubt.1; path_is = refl }, λ r shown t in_window certain. are.decided x (record { time = y.time; thing = y.thing }) i is r shown.is_run shown.shows t in_window certain)

unmarked_alone : (d : Design) (x : Point) (ns : List Marking) → IsUnmarked d x ns → IsHitMarked d x ns → ⊥
unmarked_alone d x [] unmarked marked = marked
unmarked_alone d x (n ∷ ns) unmarked (inl this) = unmarked.0 this.0
unmarked_alone d x (n ∷ ns) unmarked (inr later) = unmarked_alone d x ns unmarked.1 later

-- a verdict that is hit where the point is reported hit
hit_alone : (d : Design) (x : Point) (a : Replay) (v : Verdict) → IsVerdict d x a.notes (verdict_view v) → IsVerdict d x a.notes (verdict_view Hit) → row_verdict d v ≡ row.Hit
hit_alone d x a Hit is hit = refl
hit_alone d x a Missed is hit = absurd (unmarked_alone d x a.notes is hit)
hit_alone d x a (Undetermined y) is hit = absurd (is.0 hit)

module _ (d : Design) (h : Habit) (dump : BoundDump) (sources : List (List ℕ)) (ms : StateMachines) (ps : Points) (verdicts : List Verdict) (a : Replay) (db : Db) (lawful : IsLawfulDesign d) (written : IsWritten sources d) (listed : IsPointList d ms ps) (named : All IsWrittenMachine ps.machines.items) (is : IsCollected d sources ps db) (table : IsTable db) (shown : AreShown d verdicts db.points) (verdicts_are : AreVerdicts d ps a.notes verdicts) where
  lists : ListsEach d ps db
  lists = each d sources ms ps db lawful written listed named is table

  -- the verdict of the point with a number
  verdict_is : (k : ℕ) → k < length db.points → IsVerdict d (point_at ps k) a.notes (verdict_view (verdict_at verdicts k))
  verdict_is k l = verdicts_are.each k (omega (arith, l, lists.count))

  member : (k : ℕ) → k < length db.points → In (point_at ps k) (points_of ps)
  member k l = in_at (points_of ps) k no_point (omega (arith, l, lists.count))

  sound_row : (sound : AreSoundVerdicts d h dump (points_of ps) a) (k : ℕ) → k < length db.points → IsSoundRow d h dump ms db.instances (get_or db.points k no_row)
  sound_row sound k l x is_point names r shows =
      let own = said d h dump (points_of ps) a (point_at ps k) (verdict_at verdicts k) sound (member k l) (verdict_is k l) r shows in
      let here = subst (λ v. Says v (IsHit d dump r (point_at ps k))) (sym (shown.each k l)) own in
      subst (λ y. Says (get_or db.points k no_row).verdict (IsHit d dump r y)) (sym (one_point d sources ms ps db lawful written listed named is table x k is_point l names)) here

  pub sound_table : AreSoundVerdicts d h dump (points_of ps) a → IsSound d h dump ms db
  sound_table sound k e l = subst (IsSoundRow d h dump ms db.instances) (get_or_default db.points k no_row e l) (sound_row sound k l)

  reasoned_row : (are : AreReasonedVerdicts d h dump (points_of ps) a) (k : ℕ) → k < length db.points → IsReasonedRow d h dump (point_at ps k) (get_or db.points k no_row)
  reasoned_row are k l =
      let v = verdict_at verdicts k in
      let x = point_at ps k in
      record {
        reason = subst (IsReasonedVerdict d h dump x) (sym (shown.each k l)) (reasoned d h dump (points_of ps) a x v are (member k l) (verdict_is k l));
        reached = λ there. shown.each k l ∙ hit_alone d x a v (verdict_is k l) (are.reached there.0 there.1 x there.2);
      }

  pub reasoned_table : AreReasonedVerdicts d h dump (points_of ps) a → IsReasoned d h dump ms db
  reasoned_table are k e l x is_point names =
      let here = get_or_default db.points k no_row e l in
      let mine = subst (λ (p : DbPoint). IsAddressOf d db.instances x p.address) (sym here) names in
      let point_is = one_point d sources ms ps db lawful written listed named is table x k is_point l mine in
      subst (IsReasonedRow d h dump x) here (subst (λ y. IsReasonedRow d h dump y (get_or db.points k no_row)) (sym point_is) (reasoned_row are k l))
