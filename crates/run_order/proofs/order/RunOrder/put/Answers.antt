use Rattle.std.proofs.Common.{◌∙◌, sym, arith}
use Rattle.run_order.proofs.Choosing.{put_none, put_some}
use Rattle.run_order.proofs.order.RunOrder.put.Goals as goal

pub put-requires-clause-rank : goal.put-requires-clause-rank
put-requires-clause-rank c =
    let ranks = c.requires.ranked.1 in
    omega (arith, ranks.few, (ranks.others c.args.process c.in-Some.rank (sym c.rank.ensures.value ∙ c.in-Some.is)).0)

pub returns-in-Some-clause-pairs : goal.returns-in-Some-clause-pairs
returns-in-Some-clause-pairs c =
    λ order test ranks is. put_some order c.args.list.now.count c.args.self.now test c.args.process c.in-Some.rank c.put.result c.args.list.now.pairs c.put.new.self.pairs ranks (sym c.rank.ensures.value ∙ c.in-Some.is) is c.put.ensures.there c.put.ensures.pairs

pub returns-in_default-clause-pairs : goal.returns-in_default-clause-pairs
returns-in_default-clause-pairs c =
    λ order test ranks is. put_none order c.args.list.now.count c.args.self.now test c.args.process c.args.list.now.pairs ranks (λ k e. c.in_default.not-Some k (c.rank.ensures.value ∙ e)) is
