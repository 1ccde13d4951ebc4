use Rattle.std.proofs.Common.{◌≡◌, ◌+◌, ◌<◌, ◌^◌, refl, sym, ap, ◌∙◌, subst, arith}
use Rattle.verilog_tree.specs.View.{statement_view}
use Rattle.flat_design.specs.Numbering.{lines, statement_nodes}
use Rattle.flat_design.specs.Processes.{always}
use Rattle.flat_design.specs.Scope.{binding_of}
use Rattle.elab_build.specs.Sound.{IsClear}
use Rattle.elab_bodies.specs.Sound.{IsSoundStatement}
use Rattle.elab_bodies.proofs.SoundOfMet.{sound_always}
use Rattle.elaborator.proofs.ProcessLemmas.{adds_process, always_numbered, passes_process, still_clear}
use Rattle.elaborator.proofs.RoomLemmas.{on_ok_always}
use Rattle.elaborator.proofs.processes.walk_always.Goals as goal

pub always_process-requires : goal.always_process-requires
always_process-requires c =
    let g = binding_of c.args.scope.now in
    let s = statement_view c.args.body.now in
    let k = c.counts-number.result.processes in
    let known = still_clear (always 0 g 0 k c.args.place c.args.when.now s 0 0).met c.in_ok-check_always.ensures.met (c.builds.ensures.clean c.if-not-builds.false) c.requires.clear in
    let sound = sound_always 0 g 0 k c.args.place c.args.when.now s 0 0 known.0 known.1 in
    let same : g ≡ binding_of c.check_always.new.scope = sym c.in_ok-check_always.ensures.kept in
    let few_nodes = subst (λ h. c.args.numbers.now.node + statement_nodes h s < 2 ^ 32) same c.requires.few.1 in
    record { base = c.requires.base; clear = subst IsClear same known.0; sound = subst (λ h. IsSoundStatement h s) same sound; few_lines = c.requires.few.0; few_nodes = few_nodes }

pub returns-then-not-builds-clause-goes : goal.returns-then-not-builds-clause-goes
returns-then-not-builds-clause-goes c =
    let g = binding_of c.args.scope.now in
    let w = c.args.when.now in
    let s = statement_view c.args.body.now in
    passes_process c.check_always.new.tally c.counts-number.result (lines s) (statement_nodes g s) (λ b i k l n. always b g i k c.args.place w s l n) (always_numbered g c.args.place w s)
    c.counts-number.ensures.counts c.in_ok-check_always.ensures.met (c.builds.ensures.not c.if-not-builds.true)

pub returns-clause-goes : goal.returns-clause-goes
returns-clause-goes c =
    let g = binding_of c.args.scope.now in
    let w = c.args.when.now in
    let s = statement_view c.args.body.now in
    let numbers = c.args.numbers.now in
    let k = c.counts-number.result.processes in
    let kept = c.in_ok-check_always.ensures.kept in
    adds_process c.add.result c.args.ground.base c.args.walk.now c.add.new.self c.check_always.new.tally numbers (record numbers { line = c.always_process.new.line; node = c.always_process.new.nodes }) c.counts-number.result (lines s) (statement_nodes g s) (λ b i k l n. always b g i k c.args.place w s l n) c.in_ok-process.process (always_numbered g c.args.place w s)
    c.counts-number.ensures.counts c.in_ok-check_always.ensures.met
    (c.in_ok-process.ensures.built k c.args.place ∙ ap (λ h. (always c.args.ground.base h numbers.instance k c.args.place w s numbers.line numbers.node).process) kept)
    (refl, c.in_ok-process.ensures.lines, c.in_ok-process.ensures.counted ∙ ap (λ h. numbers.node + statement_nodes h s) kept)
    c.add.ensures.tally c.add.ensures.memories c.add.ensures.drafted c.add.ensures.draft

pub returns-clause-few : goal.returns-clause-few
returns-clause-few c =
    let counted = c.in_ok-process.ensures.counted ∙ ap (λ h. c.args.numbers.now.node + statement_nodes h (statement_view c.args.body.now)) c.in_ok-check_always.ensures.kept in
    on_ok_always c.add.result (omega (arith, c.in_ok-process.ensures.lines), omega (arith, counted))
