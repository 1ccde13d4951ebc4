use Rattle.std.proofs.Common.{[], refl, subst}
use Rattle.std.proofs.lemmas.List.{take_all}
use Rattle.process_targets.specs.Targets.{row_has}
use Rattle.step_values.specs.Loosens.{Loosens}
use Rattle.step_values.proofs.Forgets.{nothing_yet, row_step}
use Rattle.step_values.proofs.values.StepValues.loosen.Goals as goal

pub loop-bits-init : goal.loop-bits-init
loop-bits-init c = nothing_yet c.args.codes.now (row_has []) c.args.store.now c.args.self.now (λ c. refl)

pub loosen_bits-requires-clause-known : goal.loosen_bits-requires-clause-known
loosen_bits-requires-clause-known c = (c.requires.known.0, _, c.loop-bits.invariant.knows c.requires.known.0 c.requires.known.1 c.requires.known.2)

pub loop-bits-preserved : goal.loop-bits-preserved
loop-bits-preserved c = row_step c.args.codes.now c.args.targets.now c.loop-bits.bits-index _ c.args.store.now c.loop-bits.store c.loosen_bits.new.store c.args.self.now c.loop-bits.self c.loosen_bits.new.self c.loop-bits-test.true c.loop-bits.invariant c.loosen_bits.ensures

pub returns : goal.returns
returns c = subst (λ row. Loosens c.args.codes.now (row_has row) c.args.store.now c.loop-bits.store c.args.self.now c.loop-bits.self) (take_all c.loop-bits.bits-index c.args.targets.now c.loop-bits-test.false) c.loop-bits.invariant
