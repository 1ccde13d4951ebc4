use Rattle.std.proofs.Common.{◌≡◌, ◌∙◌, ◌<◌, ◌++◌, ℕ, Bool, true, List, length, ap, arith, subst, sym}
use Rattle.std.specs.Prelude.{flat_map}
use Rattle.std.specs.List.{All}
use Rattle.std.proofs.lemmas.List.{length-append, length-map}
use Rattle.event_machine.specs.Cell.{Values}
use Rattle.four_state.specs.declared.bit.Bit.{Bit}
use Rattle.design_model.specs.Design.{Design}
use Rattle.design_model.specs.Lawful.{IsLawfulDesign}
use Rattle.design_model.specs.View.{design_view, process_view}
use Rattle.body_replay.specs.Runs.{runs_of}
use Rattle.dump_check.specs.Checks.{AgreesAt, IsFirstDifference, last_of_each}
use Rattle.index_sets.specs.Rows.{row_at}
use Rattle.process_order.specs.Tables.{tables_of}
use Rattle.settling.specs.process_targets.Rows.{AreTargetRows}
use Rattle.process_order.specs.replay_model.Start.{all_first}
use Rattle.process_order.specs.replay_model.Step.{Replay}
use Rattle.settling.specs.First.{AtFirst}
use Rattle.settling.specs.step_values.Dumped.{AreDumped}
use Rattle.settling.specs.step_values.Loose.{has_code}
use Rattle.settling.specs.step_values.Vectors.{FitsSignals}
use Rattle.first_step.specs.Begun.{IsFirstOf, all_left}
use Rattle.first_step.proofs.Left.{both_ran, few_listed, last_below, left_few, order_below, ran_below}
use Rattle.first_step.proofs.Checked.{agree, checked_below, differ, found_map, none_map}
use Rattle.first_step.proofs.Starting.{ended}
use Rattle.first_step.proofs.begin.begin_first.Given.{Over}
use Rattle.first_step.proofs.begin.begin_first.Goals as goal

pub run_all_left-requires-clause-places : goal.run_all_left-requires-clause-places
run_all_left-requires-clause-places g c =
    let m = c.args.rows.now.design.now in
    subst (All (λ p. p < length m.processes)) (sym c.as_slice-order.ensures.value) (order_below (design_view m) c.requires.tables.0 (tables_of c.args.tables.now) c.requires.tables.1 (length m.processes) (length-map m.processes process_view))

pub run_all_left-requires-clause-ran : goal.run_all_left-requires-clause-ran
run_all_left-requires-clause-ran g c =
    let m = c.args.rows.now.design.now in
    let few = few_listed (design_view m) c.requires.tables.0 (tables_of c.args.tables.now) c.requires.tables.1 in
    let count = length-map m.processes process_view in
    let size = ap length c.as_slice-order.ensures.value in
    let none = ap (λ r. length r.items) c.clear.ensures in
    let room = ap (λ r. r.room) c.clear.ensures in
    let fits = c.requires.ran in
    omega (arith, few, count, size, none, room, fits)

pub run_all_left-requires-clause-known : goal.run_all_left-requires-clause-known
run_all_left-requires-clause-known g c =
    let known = c.requires.known in
    let dumped = c.requires.dumped in
    (known.0, _, c.put_first.ensures.puts.knows known.0 dumped.0 known.1 (subst (λ e. AreDumped e c.args.rows.now.codes.now c.args.dump.now.last dumped.0) (sym c.requires.same ∙ known.2.design) dumped.1) known.2)

pub run_all_left-requires-2-clause-places : goal.run_all_left-requires-2-clause-places
run_all_left-requires-2-clause-places g c =
    let m = c.args.rows.now.design.now in
    subst (All (λ p. p < length m.processes)) (sym c.as_slice-last.ensures.value) (last_below (design_view m) c.requires.tables.0 (tables_of c.args.tables.now) c.requires.tables.1 (length m.processes) (length-map m.processes process_view))

pub run_all_left-requires-2-clause-ran : goal.run_all_left-requires-2-clause-ran
run_all_left-requires-2-clause-ran g c =
    let m = c.args.rows.now.design.now in
    let d = design_view m in
    let few = few_listed d c.requires.tables.0 (tables_of c.args.tables.now) c.requires.tables.1 in
    let count = length-map m.processes process_view in
    let size = ap length c.as_slice-last.ensures.value in
    let ran = ap length (c.run_all_left.ensures.ran ∙ ap (λ r. r.items ++ all_left d c.args.acted.now c.as_slice-order.result.now) c.clear.ensures ∙ ap (all_left d c.args.acted.now) c.as_slice-order.ensures.value) in
    let fewer = left_few d c.args.acted.now c.args.tables.now.order.items in
    let room = c.run_all_left.ensures.free ∙ ap (λ r. r.room) c.clear.ensures in
    let fits = c.requires.ran in
    omega (arith, few, count, size, ran, fewer, room, fits)

pub check-requires-clause-rows : goal.check-requires-clause-rows
check-requires-clause-rows g c =
    let m = c.args.rows.now.design.now in
    let d = design_view m in
    let ran = both_ran d c.args.acted.now c.args.tables.now.order.items c.args.tables.now.last.items c.clear.new.self.items c.run_all_left.new.ran.items c.run_all_left-2.new.ran.items (ap (λ r. r.items) c.clear.ensures)
    (c.run_all_left.ensures.ran ∙ ap (λ ps. c.clear.new.self.items ++ all_left d c.args.acted.now ps) c.as_slice-order.ensures.value)
    (c.run_all_left-2.ensures.ran ∙ ap (λ ps. c.run_all_left.new.ran.items ++ all_left d c.args.acted.now ps) c.as_slice-last.ensures.value) in
    subst (All (λ p. p < length c.args.checks.now)) (sym (c.as_slice.ensures ∙ ran))
    (ran_below d c.requires.tables.0 (tables_of c.args.tables.now) c.requires.tables.1 (length c.args.checks.now) (sym (c.requires.checks.count ∙ c.requires.rows.targets.count)) c.args.acted.now)

pub check-requires-clause-below : goal.check-requires-clause-below
check-requires-clause-below g c = λ p s has.
    let l = checked_below (design_view c.args.rows.now.design.now) c.args.rows.now.targets.now c.args.checks.now c.args.rows.now.codes.now c.requires.rows.targets c.requires.checks c.requires.coded p s has in let size = c.requires.size in omega (arith, l, size)

pub check-requires-clause-fits : goal.check-requires-clause-fits
check-requires-clause-fits g c =
    let d = design_view c.args.rows.now.design.now in
    (d, c.requires.dumped.0, subst (λ e. FitsSignals e c.run_all_left-2.new.values) c.run_all_left-2.ensures.same c.run_all_left-2.ensures.fits, c.requires.dumped.1, checked_below d c.args.rows.now.targets.now c.args.checks.now c.args.rows.now.codes.now c.requires.rows.targets c.requires.checks c.requires.coded)

pub returns-clause-ran : goal.returns-clause-ran
returns-clause-ran g c =
    let d = design_view c.args.rows.now.design.now in
    both_ran d c.args.acted.now c.args.tables.now.order.items c.args.tables.now.last.items c.clear.new.self.items c.run_all_left.new.ran.items c.run_all_left-2.new.ran.items (ap (λ r. r.items) c.clear.ensures)
    (c.run_all_left.ensures.ran ∙ ap (λ ps. c.clear.new.self.items ++ all_left d c.args.acted.now ps) c.as_slice-order.ensures.value)
    (c.run_all_left-2.ensures.ran ∙ ap (λ ps. c.run_all_left.new.ran.items ++ all_left d c.args.acted.now ps) c.as_slice-last.ensures.value)

pub returns-clause-few : goal.returns-clause-few
returns-clause-few g c =
    let m = c.args.rows.now.design.now in
    let d = design_view m in
    let tables = tables_of c.args.tables.now in
    let few = few_listed d c.requires.tables.0 tables c.requires.tables.1 in
    let count = length-map m.processes process_view in
    let size = length-append tables.order tables.last in
    let fewer = left_few d c.args.acted.now (tables.order ++ tables.last) in
    let ran = ap length (returns-clause-ran g c) in
    omega (arith, few, count, size, fewer, ran)

-- the parts of the code after the runs, where this was the first step
at_end : (g : Over) (c : goal.After-check g) (d : Design) (bound : ℕ → Bool) (new : Values Bit) (before : Replay) → IsFirstOf d bound new before c.args.rows.now.codes.now c.args.dump.now.last c.args.acted.now c.args.store.now
    → AtFirst d bound (all_first d bound (runs_of d) (tables_of c.args.tables.now) new before) c.run_all_left-2.new.store c.run_all_left-2.new.values
at_end g c d bound new before first =
    let tables = tables_of c.args.tables.now in
    ended d bound tables new before c.args.rows.now.codes.now c.args.dump.now.last c.args.acted.now c.args.store.now c.put_first.new.store c.args.values.now c.put_first.new.values (length c.args.rows.now.design.now.signals) first c.requires.coded
    (subst (λ e. FitsSignals e c.args.values.now) first.knows.design c.requires.fits)
    c.put_first.ensures.puts
    c.as_slice-order.result.now
    c.as_slice-last.result.now
    c.run_all_left.new.store
    c.run_all_left-2.new.store
    c.run_all_left.new.values
    c.run_all_left-2.new.values
    c.as_slice-order.ensures.value
    c.as_slice-last.ensures.value
    (λ a at. c.run_all_left.ensures.step d bound tables new before a first.bound first.acted at)
    (λ a at. c.run_all_left-2.ensures.step d bound tables new before a first.bound first.acted at)

pub returns-clause-started : goal.returns-clause-started
returns-clause-started g c = λ d bound new before first. (at_end g c d bound new before first).knows

-- the design of the first step is that of the code
same_design : (g : Over) (c : goal.After-check g) (d : Design) (bound : ℕ → Bool) (new : Values Bit) (before : Replay) → IsFirstOf d bound new before c.args.rows.now.codes.now c.args.dump.now.last c.args.acted.now c.args.store.now → design_view c.args.rows.now.design.now ≡ d
same_design g c d bound new before first = sym c.requires.same ∙ first.knows.design

pub returns-clause-none : goal.returns-clause-none
returns-clause-none g c =
    let m = design_view c.args.rows.now.design.now in
    let codes = c.args.rows.now.codes.now in
    let last = c.args.dump.now.last in
    let targets = c.args.rows.now.targets.now in
    let checks = c.args.checks.now in
    let tables = tables_of c.args.tables.now in
    let made = c.run_all_left-2.new.values.made in
    let order = λ (ps : List ℕ). last_of_each (flat_map (row_at checks) ps) in
    none_map c.check.result _ _ (λ all d bound new before first.
    let same = same_design g c d bound new before first in
    let agrees = subst (λ ps. All (AgreesAt codes last made) (order ps)) (c.as_slice.ensures ∙ returns-clause-ran g c ∙ ap (λ e. all_left e c.args.acted.now (tables.order ++ tables.last)) same) all in
    agree d bound tables new before c.args.acted.now first.acted targets checks codes last c.run_all_left-2.new.store c.run_all_left-2.new.values (subst IsLawfulDesign same c.requires.lawful) (subst (λ e. AreTargetRows e targets) same c.requires.rows.targets) c.requires.checks first.bound
    (subst (λ e. (s : ℕ) → has_code codes s ≡ true → s < length e.signals) same c.requires.coded) first.dumped (at_end g c d bound new before first) agrees) c.check.ensures.none

pub returns-clause-some : goal.returns-clause-some
returns-clause-some g c =
    let m = design_view c.args.rows.now.design.now in
    let codes = c.args.rows.now.codes.now in
    let last = c.args.dump.now.last in
    let targets = c.args.rows.now.targets.now in
    let checks = c.args.checks.now in
    let tables = tables_of c.args.tables.now in
    let made = c.run_all_left-2.new.values.made in
    let order = λ (ps : List ℕ). last_of_each (flat_map (row_at checks) ps) in
    found_map c.check.result _ _ (λ found is d bound new before first.
    let same = same_design g c d bound new before first in
    let differs = subst (λ ps. IsFirstDifference codes last made (order ps) found) (c.as_slice.ensures ∙ returns-clause-ran g c ∙ ap (λ e. all_left e c.args.acted.now (tables.order ++ tables.last)) same) is in
    differ d bound tables new before c.args.acted.now first.acted targets checks codes last c.run_all_left-2.new.store c.run_all_left-2.new.values (subst IsLawfulDesign same c.requires.lawful) (subst (λ e. AreTargetRows e targets) same c.requires.rows.targets) c.requires.checks first.bound
    (subst (λ e. (s : ℕ) → has_code codes s ≡ true → s < length e.signals) same c.requires.coded) first.dumped (at_end g c d bound new before first) found differs) c.check.ensures.some
