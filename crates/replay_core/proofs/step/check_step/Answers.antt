use Rattle.std.proofs.Common.{◌≡◌, ◌<◌, ℕ, length, map, subst, sym, arith}
use Rattle.std.specs.List.{All}
use Rattle.std.proofs.lemmas.List.{length-map}
use Rattle.std.proofs.lemmas.List.Elements.{All-weaker}
use Rattle.design_model.specs.View.{design_view, process_view}
use Rattle.first_step.proofs.Checked.{checked_below}
use Rattle.first_step.specs.step_values.Dumped.{AreDumped}
use Rattle.replay_core.proofs.Given.{cells_given}
use Rattle.replay_core.proofs.Parts.{coded, given_cells}
use Rattle.replay_core.proofs.step.check_step.Goals as goal

pub check-requires-clause-rows : goal.check-requires-clause-rows
check-requires-clause-rows c =
    let D = c.args.state.now.store.design.now in
    let tables = c.requires.fits.tables in
    let size : length (map process_view D.processes) ≡ length D.processes = length-map D.processes process_view in
    let count = tables.checks.count in
    let rows = tables.rows.targets.count in
    subst (All (λ (p : ℕ). p < length c.args.tables.now.checks)) (sym c.as_slice.ensures)
    (All-weaker (λ (p : ℕ). p < length D.processes) (λ (p : ℕ). p < length c.args.tables.now.checks) (λ p l. omega (arith, l, size, count, rows)) c.args.room.now.ran.items c.requires.ran)

pub check-requires-clause-below : goal.check-requires-clause-below
check-requires-clause-below c = λ p s has.
    let d = design_view c.args.state.now.store.design.now in
    let x = c.args.tables.now in
    let tables = c.requires.fits.tables in
    let l = checked_below d x.step.targets x.checks x.step.codes.items tables.rows.targets tables.checks (coded d x tables) p s has in
    let size = c.requires.fits.room.checks in
    omega (arith, l, size)

pub check-requires-clause-fits : goal.check-requires-clause-fits
check-requires-clause-fits c =
    let s = c.args.state.now in
    let d = design_view s.store.design.now in
    let x = c.args.tables.now in
    let tables = c.requires.fits.tables in
    let codes = x.step.codes.items in (
      d,
      cells_given codes s.values.last,
      c.requires.fits.room.values,
      subst (λ cs. AreDumped d cs s.values.last (cells_given codes s.values.last)) (sym c.as_slice-2.ensures.value) (given_cells d s.notes.points.now x s c.requires.fits.state c.requires.given),
      checked_below d x.step.targets x.checks codes tables.rows.targets tables.checks (coded d x tables),
    )
