use Rattle.std.proofs.Common.{sym, ◌∙◌}
use Rattle.signal_binding.proofs.binding.bind.Goals as goal

pub returns-clause-instance : goal.returns-clause-instance
returns-clause-instance c = rw c.as_slice.ensures at (sym c.has_instance.ensures ∙ c.if-not-has_instance.false)
