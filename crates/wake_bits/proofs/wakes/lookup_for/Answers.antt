use Rattle.std.proofs.Common.{arith}
use Rattle.design_model.specs.View.{design_view}
use Rattle.wake_bits.proofs.WakeRows.{few_things}
use Rattle.wake_bits.proofs.wakes.lookup_for.Goals as goal

pub overflow_add-things : goal.overflow_add-things
overflow_add-things c = omega (arith, few_things (design_view c.args.design.now) c.requires, c.len-signals.ensures, c.len.ensures)
