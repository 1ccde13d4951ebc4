use Rattle.std.proofs.Common.{Some}
use Rattle.code_values.proofs.Taking.{taken_more}
use Rattle.code_values.proofs.values.CodeValues.set.Goals as goal

pub invariant_of-self : goal.invariant_of-self
invariant_of-self c =
    taken_more c.self.inside.closed.items c.self.inside.last.items c.self.inside.given c.insert.new.self c.args.code (Some c.args.value) c.insert.result c.self.invariant c.insert.ensures.there.0 c.insert.ensures.size c.insert.ensures.items
