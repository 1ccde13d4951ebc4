use Rattle.std.proofs.Common.{◌≡◌, ◌∙◌, sym}
use Rattle.std.proofs.lemmas.Bool.{both_ways, not-false, not-true}
use Rattle.process_order.specs.Parts.{waits_at}
use Rattle.process_order.proofs.parts.is_left.Goals as goal

pub returns-then-waits-clause-no : goal.returns-then-waits-clause-no
returns-then-waits-clause-no c = λ _ k. both_ways (waits_at c.args.processes.now c.args.process) k.0 (sym c.waits.ensures ∙ c.if-waits.true)

pub returns-clause-yes : goal.returns-clause-yes
returns-clause-yes c = λ t. (sym c.waits.ensures ∙ c.if-waits.false, λ m. both_ways c.contains.result (not-true c.contains.result t) (c.contains.ensures.1 m))

pub returns-clause-no : goal.returns-clause-no
returns-clause-no c = λ f k. k.1 (c.contains.ensures.0 (not-false c.contains.result f))
