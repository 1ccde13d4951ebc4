use Rattle.std.proofs.Common.{arith}
use Rattle.design_model.specs.View.{design_view}
use Rattle.step_wakes.proofs.Few.{few_memories}
use Rattle.step_wakes.proofs.made.wakes_of.Goals as goal

pub overflow_add-things : goal.overflow_add-things
overflow_add-things c =
    let few = few_memories (design_view c.args.design.now) c.requires in
    omega (arith, c.len.ensures, c.len-2.ensures, c.requires.few_signals, few)
