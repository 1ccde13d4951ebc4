use Rattle.std.proofs.Common.{◌≡◌, ◌∙◌, ℕ, ◌+◌, true, false, [], ◌∷◌, ◌++◌, ap, drop, subst, sym, arith}
use Rattle.std.proofs.lemmas.List.{length-map}
use Rattle.coverage_db.specs.Text.{address_text}
use Rattle.coverage_db.specs.declared.db.DbPoint.{DbPoint}
use Rattle.db_tools.specs.Greedy.{is_first}
use Rattle.db_tools.specs.Views.{texts}
use Rattle.db_tools.proofs.GreedyLaws.{Matches, Matches-left, Matches-marks, Matches-more, Matches-none}
use Rattle.db_tools.proofs.marking.match_points.Goals as goal
use Rattle.db_tools.proofs.marking.match_points.Goals.{then-is_next, else-is_next}

pub loop-point-init : goal.loop-point-init
loop-point-init c = rw c.in_ok-marks.ensures.items (Matches-none c.args.instances.now c.args.points.now (texts c.args.lines.now))

pub loop-point-preserved : goal.loop-point-preserved
loop-point-preserved c =
    let instances = c.args.instances.now in
    let points = c.args.points.now in
    let lines = texts c.args.lines.now in
    let index = c.loop-point.point-index in
    let matched = c.loop-point.matched in
    let marks = c.loop-point.marks.items in
    let point = c.point-item.result in
    let first = ap (λ (p : DbPoint). is_first (address_text instances p.address) (drop matched lines)) (sym c.point-item.is) ∙ sym c.is_named-is_next.ensures in
    elim c.if-is_next.branch [
      | then-is_next w ↦ rw (w.matched-is, c.in_ok-push.ensures.items, w.if-is_next.true) (Matches-more instances points lines index matched marks true point c.loop-point.invariant (omega arith) (first ∙ w.if-is_next.true))
      | else-is_next w ↦
          let none : matched + 0 ≡ matched = omega arith in
          rw (w.matched-is, c.in_ok-push.ensures.items, w.if-is_next.false)
          (subst (λ (n : ℕ). Matches instances points lines (index + 1) n (marks ++ false ∷ [])) none (Matches-more instances points lines index matched marks false point c.loop-point.invariant (omega arith) (first ∙ w.if-is_next.false)))
    ]

pub returns-clause-marks : goal.returns-clause-marks
returns-clause-marks c = Matches-marks c.args.instances.now c.args.points.now (texts c.args.lines.now) _ c.loop-point.matched c.loop-point.marks.items c.loop-point.invariant (omega arith)

pub returns-clause-left : goal.returns-clause-left
returns-clause-left c = Matches-left c.args.instances.now c.args.points.now (texts c.args.lines.now) _ c.loop-point.matched c.loop-point.marks.items c.loop-point.invariant (omega arith)

pub returns-clause-within : goal.returns-clause-within
returns-clause-within c = omega (arith, length-map c.args.lines.now (λ line. line.now), c.loop-point.invariant.within)
