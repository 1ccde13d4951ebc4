use Rattle.std.proofs.Common.{◌∙◌, [], refl, subst, sym}
use Rattle.std.proofs.lemmas.List.{take_all}
use Rattle.design_model.specs.View.{design_view}
use Rattle.store_knowledge.specs.body_calls.Own.{is_in}
use Rattle.step_values.specs.Taken.{Takes, some_row_lists}
use Rattle.step_values.specs.Vectors.{FitsSignals}
use Rattle.step_values.proofs.Taking.{all_coded, nothing_taken, of_rows, rows_step, taken, takes_known}
use Rattle.step_values.proofs.values.StepValues.take_made.Goals as goal

pub loop-process-init : goal.loop-process-init
loop-process-init c = (c.clear.ensures.size, subst (λ xs. Takes c.args.codes.now (some_row_lists c.args.written.now []) c.args.store.now [] xs c.args.self.now c.args.self.now) (sym c.clear.ensures.items) (nothing_taken c.args.codes.now (some_row_lists c.args.written.now []) c.args.store.now [] c.args.self.now (λ s. refl)))

pub take_row-requires-clause-fits : goal.take_row-requires-clause-fits
take_row-requires-clause-fits c =
    let h = c.requires.known.2 in
    subst (λ e. FitsSignals e c.loop-process.self) (sym h.design) (c.loop-process.invariant.1.fits c.requires.known.0 c.requires.known.1 h (subst (λ e. FitsSignals e c.args.self.now) h.design c.requires.fits))

pub take_row-requires-clause-size : goal.take_row-requires-clause-size
take_row-requires-clause-size c = c.loop-process.invariant.0 ∙ c.requires.size

pub loop-process-preserved : goal.loop-process-preserved
loop-process-preserved c = (
  c.take_row.ensures.size ∙ c.loop-process.invariant.0,
  rows_step c.args.codes.now c.args.written.now c.args.ran.now c.loop-process.process-index _ c.args.store.now [] c.loop-process.overwritten.items c.take_row.new.overwritten.items c.args.self.now c.loop-process.self c.take_row.new.self c.loop-process-test.true c.loop-process.invariant.1 (subst (λ row. Takes c.args.codes.now (is_in row) c.args.store.now c.loop-process.overwritten.items c.take_row.new.overwritten.items c.loop-process.self c.take_row.new.self) c.row.ensures c.take_row.ensures.takes),
)

pub returns-clause-before : goal.returns-clause-before
returns-clause-before c = c.loop-process.invariant.1.before

pub returns-clause-fits : goal.returns-clause-fits
returns-clause-fits c =
    let h = c.requires.known.2 in
    subst (λ e. FitsSignals e c.loop-process.self) (sym h.design) (c.loop-process.invariant.1.fits c.requires.known.0 c.requires.known.1 h (subst (λ e. FitsSignals e c.args.self.now) h.design c.requires.fits))

pub returns-clause-size : goal.returns-clause-size
returns-clause-size c = c.loop-process.invariant.0

pub returns-clause-overwritten : goal.returns-clause-overwritten
returns-clause-overwritten c = of_rows c.args.codes.now c.args.written.now c.args.ran.now c.args.store.now c.loop-process.overwritten.items c.args.self.now c.loop-process.self (subst (λ ps. Takes c.args.codes.now (some_row_lists c.args.written.now ps) c.args.store.now [] c.loop-process.overwritten.items c.args.self.now c.loop-process.self) (take_all c.loop-process.process-index c.args.ran.now c.loop-process-test.false) c.loop-process.invariant.1)

pub returns-clause-coded : goal.returns-clause-coded
returns-clause-coded c = all_coded c.args.codes.now c.args.written.now c.args.ran.now c.args.store.now c.loop-process.overwritten.items c.args.self.now c.loop-process.self (subst (λ ps. Takes c.args.codes.now (some_row_lists c.args.written.now ps) c.args.store.now [] c.loop-process.overwritten.items c.args.self.now c.loop-process.self) (take_all c.loop-process.process-index c.args.ran.now c.loop-process-test.false) c.loop-process.invariant.1) (design_view c.args.store.now.design.now) c.requires.coded

pub returns-clause-made : goal.returns-clause-made
returns-clause-made c = λ d k h. takes_known c.args.codes.now c.args.written.now c.args.ran.now c.args.store.now c.loop-process.overwritten.items c.args.self.now c.loop-process.self (subst (λ ps. Takes c.args.codes.now (some_row_lists c.args.written.now ps) c.args.store.now [] c.loop-process.overwritten.items c.args.self.now c.loop-process.self) (take_all c.loop-process.process-index c.args.ran.now c.loop-process-test.false) c.loop-process.invariant.1) d k h (subst (λ e. FitsSignals e c.args.self.now) h.design c.requires.fits)

pub returns-clause-taken : goal.returns-clause-taken
returns-clause-taken c = taken c.args.codes.now c.args.written.now c.args.ran.now c.args.store.now c.loop-process.overwritten.items c.args.self.now c.loop-process.self (subst (λ ps. Takes c.args.codes.now (some_row_lists c.args.written.now ps) c.args.store.now [] c.loop-process.overwritten.items c.args.self.now c.loop-process.self) (take_all c.loop-process.process-index c.args.ran.now c.loop-process-test.false) c.loop-process.invariant.1)
