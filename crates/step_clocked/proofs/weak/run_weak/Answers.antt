use Rattle.std.proofs.Common.{arith}
use Rattle.std.proofs.lemmas.List.{length-map}
use Rattle.design_model.specs.View.{process_view}
use Rattle.step_clocked.proofs.weak.run_weak.Goals as goal

pub row-requires : goal.row-requires
row-requires g c = let place = c.requires.place in let rows = c.requires.written.count in let count = length-map c.args.given.now.design.now.processes process_view in omega (arith, place, rows, count)

pub mark_weak-requires-clause-written : goal.mark_weak-requires-clause-written
mark_weak-requires-clause-written g c = λ x. rw c.row.ensures (c.requires.written.each c.args.process x)
