use Rattle.std.proofs.Common.{◌∙◌, ◌++◌, ap, append-nil, arith, length, refl, subst, sym}
use Rattle.design_model.specs.Design.{process_at}
use Rattle.design_model.specs.View.{design_view}
use Rattle.body_replay.specs.Runs.{runs_of}
use Rattle.settling.specs.First.{AtFirst}
use Rattle.settling.proofs.Stepping.{found_process}
use Rattle.first_step.specs.Begun.{flag_of, is_left_by}
use Rattle.first_step.proofs.Left.{left_none, left_one, left_settles, passed_over, runs_as}
use Rattle.first_step.proofs.runs.run_if_left.Goals as goal

pub run_first-requires-clause-settles : goal.run_first-requires-clause-settles
run_first-requires-clause-settles g c =
    let m = c.args.rows.now.design.now in
    let q = c.index-processes-process.result in
    let found = found_process m (design_view m) c.args.process q c.as_slice-processes.result.now refl c.requires.place c.index-processes-process.is c.as_slice-processes.ensures in
    left_settles (process_at (design_view m) c.args.process) (flag_of c.args.acted.now c.args.process) (ap (λ x. is_left_by x (flag_of c.args.acted.now c.args.process)) found ∙ sym c.is_left.ensures ∙ c.if-not-is_left.false)

pub returns-then-not-is_left-clause-ran : goal.returns-then-not-is_left-clause-ran
returns-then-not-is_left-clause-ran g c =
    let m = c.args.rows.now.design.now in
    let q = c.index-processes-process.result in
    let found = found_process m (design_view m) c.args.process q c.as_slice-processes.result.now refl c.requires.place c.index-processes-process.is c.as_slice-processes.ensures in
    let flag = flag_of c.args.acted.now c.args.process in
    sym (ap (λ ps. c.args.ran.now.items ++ ps) (left_none (design_view m) c.args.acted.now c.args.process (ap (λ x. is_left_by x flag) found ∙ sym c.is_left.ensures ∙ c.if-not-is_left.true)) ∙ append-nil c.args.ran.now.items)

pub returns-then-not-is_left-clause-steps : goal.returns-then-not-is_left-clause-steps
returns-then-not-is_left-clause-steps g c =
    let m = c.args.rows.now.design.now in
    let q = c.index-processes-process.result in
    let found = found_process m (design_view m) c.args.process q c.as_slice-processes.result.now refl c.requires.place c.index-processes-process.is c.as_slice-processes.ensures in
    let flag = flag_of c.args.acted.now c.args.process in
    let none = ap length (left_none (design_view m) c.args.acted.now c.args.process (ap (λ x. is_left_by x flag) found ∙ sym c.is_left.ensures ∙ c.if-not-is_left.true)) in
    omega (arith, none)

pub returns-then-not-is_left-clause-step : goal.returns-then-not-is_left-clause-step
returns-then-not-is_left-clause-step g c = λ d bound tables new before w same are at.
    let m = c.args.rows.now.design.now in
    let q = c.index-processes-process.result in
    let found = found_process m d c.args.process q c.as_slice-processes.result.now (sym c.requires.same ∙ at.knows.design) c.requires.place c.index-processes-process.is c.as_slice-processes.ensures in
    let flag = flag_of c.args.acted.now c.args.process in
    subst (λ z. AtFirst d bound z c.args.store.now c.args.values.now)
    (sym (passed_over d bound (runs_of d) tables new before c.args.is_ordered c.args.process w (runs_as d bound (runs_of d) tables new before c.args.acted.now c.args.process are ∙ ap (λ x. is_left_by x flag) found ∙ sym c.is_left.ensures ∙ c.if-not-is_left.true))) at

pub returns-clause-ran : goal.returns-clause-ran
returns-clause-ran g c =
    let m = c.args.rows.now.design.now in
    let q = c.index-processes-process.result in
    let found = found_process m (design_view m) c.args.process q c.as_slice-processes.result.now refl c.requires.place c.index-processes-process.is c.as_slice-processes.ensures in
    let flag = flag_of c.args.acted.now c.args.process in
    ap (λ r. r.items) c.push.ensures ∙ ap (λ ps. c.args.ran.now.items ++ ps) (sym (left_one (design_view m) c.args.acted.now c.args.process (ap (λ x. is_left_by x flag) found ∙ sym c.is_left.ensures ∙ c.if-not-is_left.false)))

pub returns-clause-steps : goal.returns-clause-steps
returns-clause-steps g c =
    let m = c.args.rows.now.design.now in
    let q = c.index-processes-process.result in
    let found = found_process m (design_view m) c.args.process q c.as_slice-processes.result.now refl c.requires.place c.index-processes-process.is c.as_slice-processes.ensures in
    let flag = flag_of c.args.acted.now c.args.process in
    let one = ap length (left_one (design_view m) c.args.acted.now c.args.process (ap (λ x. is_left_by x flag) found ∙ sym c.is_left.ensures ∙ c.if-not-is_left.false)) in
    let step = c.run_first.ensures.steps in
    omega (arith, one, step)

pub returns-clause-step : goal.returns-clause-step
returns-clause-step g c = λ d bound tables new before w same are at.
    let m = c.args.rows.now.design.now in
    let q = c.index-processes-process.result in
    let found = found_process m d c.args.process q c.as_slice-processes.result.now (sym c.requires.same ∙ at.knows.design) c.requires.place c.index-processes-process.is c.as_slice-processes.ensures in
    let flag = flag_of c.args.acted.now c.args.process in
    c.run_first.ensures.step d bound tables new before w same (runs_as d bound (runs_of d) tables new before c.args.acted.now c.args.process are ∙ ap (λ x. is_left_by x flag) found ∙ sym c.is_left.ensures ∙ c.if-not-is_left.false) at
