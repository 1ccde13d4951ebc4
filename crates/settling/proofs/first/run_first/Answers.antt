use Rattle.std.proofs.Common.{◌≡◌, ◌∙◌, ap, subst, sym, true}
use Rattle.std.specs.List.{All}
use Rattle.design_model.specs.Design.{IsClocked, process_at}
use Rattle.design_model.specs.Lawful.{IsLawfulDesign}
use Rattle.design_model.specs.View.{design_view}
use Rattle.index_sets.specs.Rows.{row_at}
use Rattle.settled_runs.specs.process_targets.Rows.{AreTargets, IsInside}
use Rattle.settled_runs.specs.process_targets.Targets.{IsOnce, names, row_has}
use Rattle.settled_targets.specs.step_values.Vectors.{FitsSignals}
use Rattle.settled_targets.specs.Returned.{Returns}
use Rattle.settled_targets.specs.Saved.{AreSaved}
use Rattle.settling.proofs.FirstRuns.{first_after}
use Rattle.settling.proofs.first.run_first.Goals as goal

pub put_back-requires-clause-saved : goal.put_back-requires-clause-saved
put_back-requires-clause-saved g c =
    let h = c.requires.known.2 in
    let k = c.requires.known.1 in
    let qs = c.run_saved.new.scratch.saved in
    let x = c.run_saved.new.store in (
      k,
      subst (λ row. AreSaved (design_view x.design.now) k row qs) (sym c.row.ensures)
          (subst (λ e. AreSaved e k (row_at c.args.rows.now.targets.now c.args.process) qs) (sym h.design ∙ c.requires.same ∙ sym c.run_saved.ensures.design) (c.run_saved.ensures.saved c.requires.known.0 k h)),
    )

pub put_back-requires-clause-known : goal.put_back-requires-clause-known
put_back-requires-clause-known g c = (c.requires.known.0, _, c.run_saved.ensures.knows c.requires.known.0 c.requires.known.1 c.requires.known.2)

pub put_back-requires-clause-fits : goal.put_back-requires-clause-fits
put_back-requires-clause-fits g c = subst (λ e. FitsSignals e c.args.values.now) (c.requires.same ∙ sym c.run_saved.ensures.design) c.requires.fits

pub put_back-requires-clause-once : goal.put_back-requires-clause-once
put_back-requires-clause-once g c = subst IsOnce (sym c.row.ensures) (c.requires.rows.targets.each c.args.process).bits.once

pub put_back-requires-clause-inside : goal.put_back-requires-clause-inside
put_back-requires-clause-inside g c =
    subst (λ row. All (IsInside (design_view c.run_saved.new.store.design.now)) row) (sym c.row.ensures)
    (subst (λ e. All (IsInside e) (row_at c.args.rows.now.targets.now c.args.process)) (sym c.run_saved.ensures.design) (c.requires.rows.targets.each c.args.process).bits.inside)

pub returns-clause-same : goal.returns-clause-same
returns-clause-same g c = ap (λ x. design_view x.now) c.put_back.ensures.design ∙ c.run_saved.ensures.design

pub returns-clause-known : goal.returns-clause-known
returns-clause-known g c =
    let d = c.requires.known.0 in
    let k = c.requires.known.1 in
    let h = c.requires.known.2 in
    (d, _, c.put_back.ensures.knows d k _ (subst (λ row. AreSaved d k row c.run_saved.new.scratch.saved) (sym c.row.ensures) (c.run_saved.ensures.saved d k h)) (c.run_saved.ensures.knows d k h))

pub returns-clause-fits : goal.returns-clause-fits
returns-clause-fits g c =
    let d = design_view c.args.store.now.design.now in
    subst (λ e. FitsSignals e c.put_back.new.values) (c.requires.same ∙ sym (ap (λ x. design_view x.now) c.put_back.ensures.design ∙ c.run_saved.ensures.design)) (c.put_back.ensures.fits d c.requires.fits)

pub returns-clause-step : goal.returns-clause-step
returns-clause-step g c = λ d bound tables new before w coded is at.
    let p = c.args.process in
    let m = c.args.rows.now.design.now in
    let h = at.knows in
    let row = row_at c.args.rows.now.targets.now p in
    let qs = c.run_saved.new.scratch.saved in
    let same : design_view m ≡ d = sym c.requires.same ∙ h.design in
    let lawful : IsLawfulDesign d = subst IsLawfulDesign same c.requires.lawful in
    let settles = subst (λ e. IsClocked (process_at e p) → ⊥) same c.requires.settles in
    let targets = subst (λ e. AreTargets e p row) same (c.requires.rows.targets.each p) in
    let back = subst (λ bs. Returns c.args.rows.now.codes.now (names bs) (row_has bs) c.args.is_ordered true (λ e j. AreSaved e j bs qs) c.run_saved.new.store c.put_back.new.store c.args.values.now c.put_back.new.values) c.row.ensures c.put_back.ensures in
    first_after d bound tables new before w p c.args.is_ordered row c.args.rows.now.codes.now c.args.store.now c.run_saved.new.store c.put_back.new.store c.args.values.now c.put_back.new.values qs lawful (c.runs_lawful.ensures d lawful) settles is targets coded at (c.run_saved.ensures.saved d w.kept h) (c.run_saved.ensures.knows d w.kept h) back
