use Rattle.std.proofs.Common.{refl, subst, arith}
use Rattle.verilog_tree.specs.Tree.{identifier}
use Rattle.verilog_tree.specs.View.{expr_view}
use Rattle.flat_design.specs.Numbering.{nodes}
use Rattle.flat_design.specs.Processes.{continuous}
use Rattle.flat_design.specs.Scope.{binding_of}
use Rattle.elab_bodies.proofs.SoundOfMet.{sound_continuous}
use Rattle.elaborator.specs.Walk.{IsClean}
use Rattle.elaborator.proofs.FreeLemmas.{met_clean}
use Rattle.elaborator.proofs.NetLemmas.{told_clean}
use Rattle.elaborator.proofs.ProcessLemmas.{adds_process, continuous_numbered, passes_process, still_clear}
use Rattle.elaborator.proofs.RoomLemmas.{on_ok_always}
use Rattle.elaborator.proofs.nets.walk_value.Goals as goal

pub net_process-requires : goal.net_process-requires
net_process-requires c =
    let g = binding_of c.args.scope.now in
    let x = identifier c.args.name.now.place c.args.name.now.name in
    let v = expr_view c.args.value.now in
    let k = c.counts-number.result.processes in
    let known = still_clear (continuous 0 g 0 k c.args.place x v 0).met c.in_ok-check_net.ensures (c.builds.ensures.clean c.if-not-builds.false) c.requires.clear in
    let sound = sound_continuous 0 g 0 k c.args.place x v 0 known.0 known.1 in
    record { base = c.requires.base; clear = known.0; to = sound.0; value = sound.1; few = omega (arith, c.requires.few) }

pub returns-then-not-builds-clause-goes : goal.returns-then-not-builds-clause-goes
returns-then-not-builds-clause-goes c =
    let g = binding_of c.args.scope.now in
    let x = identifier c.args.name.now.place c.args.name.now.name in
    let v = expr_view c.args.value.now in
    passes_process c.check_net.new.tally c.counts-number.result 0 (nodes g v) (λ b i k l n. continuous b g i k c.args.place x v n) (continuous_numbered g c.args.place x v)
    c.counts-number.ensures.counts c.in_ok-check_net.ensures (c.builds.ensures.not c.if-not-builds.true)

pub returns-then-not-builds-clause-clean : goal.returns-then-not-builds-clause-clean
returns-then-not-builds-clause-clean c =
    let x = identifier c.args.name.now.place c.args.name.now.name in
    let ms = (continuous 0 (binding_of c.args.scope.now) 0 c.counts-number.result.processes c.args.place x (expr_view c.args.value.now) 0).met in
    λ clean. met_clean c.args.walk.now.tally ms (subst IsClean c.in_ok-check_net.ensures clean)

pub returns-clause-goes : goal.returns-clause-goes
returns-clause-goes c =
    let g = binding_of c.args.scope.now in
    let x = identifier c.args.name.now.place c.args.name.now.name in
    let v = expr_view c.args.value.now in
    adds_process c.add.result c.args.ground.base c.args.walk.now c.add.new.self c.check_net.new.tally c.args.numbers.now (record (c.args.numbers.now) { node = c.net_process.new.nodes }) c.counts-number.result 0 (nodes g v) (λ b i k l n. continuous b g i k c.args.place x v n) c.in_ok-process.process (continuous_numbered g c.args.place x v)
    c.counts-number.ensures.counts c.in_ok-check_net.ensures
    (c.in_ok-process.ensures.built c.counts-number.result.processes c.args.place)
    (refl, omega arith, omega (arith, c.in_ok-process.ensures.counted))
    c.add.ensures.tally c.add.ensures.memories c.add.ensures.drafted c.add.ensures.draft

pub returns-clause-clean : goal.returns-clause-clean
returns-clause-clean c =
    let x = identifier c.args.name.now.place c.args.name.now.name in
    let ms = (continuous 0 (binding_of c.args.scope.now) 0 c.counts-number.result.processes c.args.place x (expr_view c.args.value.now) 0).met in
    told_clean c.add.result c.args.walk.now.tally c.check_net.new.tally c.add.new.self.tally ms c.in_ok-check_net.ensures c.add.ensures.tally

pub returns-clause-few : goal.returns-clause-few
returns-clause-few c = on_ok_always c.add.result (omega arith, omega (arith, c.in_ok-process.ensures.counted))
