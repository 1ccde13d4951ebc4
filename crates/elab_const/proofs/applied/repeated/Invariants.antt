use Rattle.std.proofs.Common.{◌≡◌}
use Rattle.design_model.specs.Value.{copies}
use Rattle.elab_const.proofs.applied.repeated.Given as goal

-- so many copies so far
abbrev pub invariant-loop : goal.invariant-loop
invariant-loop l = l.value.bits ≡ copies l.counter l.part.bits
