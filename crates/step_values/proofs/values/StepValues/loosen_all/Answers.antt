use Rattle.std.proofs.Common.{[], refl, subst}
use Rattle.std.proofs.lemmas.List.{take_all}
use Rattle.process_targets.specs.Targets.{row_has}
use Rattle.step_values.specs.Loose.{some_row_has}
use Rattle.step_values.specs.Loosens.{Loosens}
use Rattle.step_values.proofs.Forgets.{nothing_yet, rows_step}
use Rattle.step_values.proofs.values.StepValues.loosen_all.Goals as goal

pub loop-process-init : goal.loop-process-init
loop-process-init c = nothing_yet c.args.codes.now (some_row_has c.args.targets.now []) c.args.store.now c.args.self.now (λ c. refl)

pub loosen-requires-clause-known : goal.loosen-requires-clause-known
loosen-requires-clause-known c = (c.requires.known.0, _, c.loop-process.invariant.knows c.requires.known.0 c.requires.known.1 c.requires.known.2)

pub loop-process-preserved : goal.loop-process-preserved
loop-process-preserved c = rows_step c.args.codes.now c.args.targets.now c.args.running.now c.loop-process.process-index _ c.args.store.now c.loop-process.store c.loosen.new.store c.args.self.now c.loop-process.self c.loosen.new.self c.loop-process-test.true c.loop-process.invariant (subst (λ row. Loosens c.args.codes.now (row_has row) c.loop-process.store c.loosen.new.store c.loop-process.self c.loosen.new.self) c.row.ensures c.loosen.ensures)

pub returns : goal.returns
returns c = subst (λ ps. Loosens c.args.codes.now (some_row_has c.args.targets.now ps) c.args.store.now c.loop-process.store c.args.self.now c.loop-process.self) (take_all c.loop-process.process-index c.args.running.now c.loop-process-test.false) c.loop-process.invariant
