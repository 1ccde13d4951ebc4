use Rattle.std.proofs.Common.{refl, arith}
use Rattle.verilog_tree.specs.View.{expr_view}
use Rattle.flat_design.specs.Processes.{joined_output}
use Rattle.flat_design.specs.Scope.{binding_of}
use Rattle.elab_bodies.proofs.SoundOfMet.{sound_joined_output}
use Rattle.elaborator.proofs.ProcessLemmas.{adds_process, output_numbered, passes_process, still_clear}
use Rattle.elaborator.proofs.processes.walk_output.Goals as goal

pub joined_output_process-requires : goal.joined_output_process-requires
joined_output_process-requires c =
    let g = binding_of c.args.scope.now in
    let e = expr_view c.args.value.now in
    let k = c.counts-number.result.processes in
    let known = still_clear (joined_output 0 g 0 k c.args.place c.args.port e).met c.in_ok-check_joined_output.ensures (c.builds.ensures.clean c.if-not-builds.false) c.requires.clear in
    record { base = c.requires.base; clear = known.0; port = c.requires.port; sound = sound_joined_output 0 g 0 k c.args.place c.args.port e known.0 known.1; few = c.requires.few }

pub returns-then-not-builds : goal.returns-then-not-builds
returns-then-not-builds c =
    let g = binding_of c.args.scope.now in
    let e = expr_view c.args.value.now in
    passes_process c.check_joined_output.new.tally c.counts-number.result 0 0 (λ b i k l n. joined_output b g i k c.args.place c.args.port e) (output_numbered g c.args.place c.args.port e)
    c.counts-number.ensures.counts c.in_ok-check_joined_output.ensures (c.builds.ensures.not c.if-not-builds.true)

pub returns : goal.returns
returns c =
    let g = binding_of c.args.scope.now in
    let e = expr_view c.args.value.now in
    adds_process c.add.result c.args.ground.base c.args.walk.now c.add.new.self c.check_joined_output.new.tally c.args.numbers c.args.numbers c.counts-number.result 0 0 (λ b i k l n. joined_output b g i k c.args.place c.args.port e) c.in_ok-process.process (output_numbered g c.args.place c.args.port e)
    c.counts-number.ensures.counts c.in_ok-check_joined_output.ensures
    (c.in_ok-process.ensures c.counts-number.result.processes c.args.place)
    (refl, omega arith, omega arith)
    c.add.ensures.tally c.add.ensures.memories c.add.ensures.drafted c.add.ensures.draft
