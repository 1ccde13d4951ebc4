use Rattle.std.proofs.Common.{◌∙◌, ◌++◌, ◌∷◌, [], ap, append-nil, append_assoc, arith, get_or, length, refl, subst, sym, take}
use Rattle.std.proofs.lemmas.List.{length-append, length-take-le, take_all}
use Rattle.design_model.specs.View.{design_view}
use Rattle.body_replay.specs.Runs.{runs_of}
use Rattle.process_order.specs.replay_model.Start.{run_all_first}
use Rattle.settling.specs.First.{AtFirst}
use Rattle.first_step.specs.Begun.{all_left}
use Rattle.first_step.proofs.Left.{left_few, left_more, runs_more}
use Rattle.first_step.proofs.runs.run_all_left.Goals as goal

pub loop-process-init : goal.loop-process-init
loop-process-init g c = record {
  same = c.requires.same;
  known = c.requires.known;
  fits = c.requires.fits;
  ran = sym (append-nil c.args.ran.now.items);
  free = refl;
  room = refl;
  pieces = refl;
  steps = omega arith;
  step = λ d bound tables new before w same are at. at;
}

pub run_if_left-requires-clause-ran : goal.run_if_left-requires-clause-ran
run_if_left-requires-clause-ran g c =
    let m = design_view c.args.rows.now.design.now in
    let ps = c.args.processes.now in
    let i = c.loop-process.process-index in
    let l = c.loop-process-test.true in
    let few = left_few m c.args.acted.now (take i ps) in
    let size = length-take-le i ps (omega (arith, l)) in
    let is = ap length c.loop-process.invariant.ran in
    let both = length-append c.args.ran.now.items (all_left m c.args.acted.now (take i ps)) in
    let free = c.loop-process.invariant.free in
    let room = c.requires.ran in
    omega (arith, l, few, size, is, both, free, room)

pub loop-process-preserved : goal.loop-process-preserved
loop-process-preserved g c =
    let m = design_view c.args.rows.now.design.now in
    let ps = c.args.processes.now in
    let i = c.loop-process.process-index in
    let l = c.loop-process-test.true in
    let inv = c.loop-process.invariant in
    let p = get_or ps i 0 in
    let after = c.run_if_left.ensures in
    let more = left_more m c.args.acted.now ps i 0 l in
    record {
      same = after.same;
      known = after.known;
      fits = after.fits;
      ran = after.ran ∙ ap (λ xs. xs ++ all_left m c.args.acted.now (p ∷ [])) inv.ran ∙ append_assoc c.args.ran.now.items (all_left m c.args.acted.now (take i ps)) (all_left m c.args.acted.now (p ∷ [])) ∙ ap (λ xs. c.args.ran.now.items ++ xs) (sym more);
      free = after.free ∙ inv.free;
      room = after.room ∙ inv.room;
      pieces = after.pieces ∙ inv.pieces;
      steps = let size = ap length more ∙ length-append (all_left m c.args.acted.now (take i ps)) (all_left m c.args.acted.now (p ∷ [])) in let old = inv.steps in let new = after.steps in omega (arith, size, old, new);
      step = λ d bound tables new before w same are at.
          subst (λ z. AtFirst d bound z c.run_if_left.new.store c.run_if_left.new.values) (sym (runs_more d bound (runs_of d) tables new before c.args.is_ordered ps i 0 w l))
          (after.step d bound tables new before (run_all_first d bound (runs_of d) tables new before c.args.is_ordered (take i ps) w) same are (inv.step d bound tables new before w same are at));
    }

pub returns-clause-step : goal.returns-clause-step
returns-clause-step g c = λ d bound tables new before w same are at.
    subst (λ ps. AtFirst d bound (run_all_first d bound (runs_of d) tables new before c.args.is_ordered ps w) c.loop-process.store c.loop-process.values) (take_all c.loop-process.process-index c.args.processes.now c.loop-process-test.false)
    (c.loop-process.invariant.step d bound tables new before w same are at)
