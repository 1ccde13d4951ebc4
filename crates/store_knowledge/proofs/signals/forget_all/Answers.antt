use Rattle.store_knowledge.proofs.Knowing.{knows_nothing}
use Rattle.store_knowledge.proofs.signals.forget_all.Goals as goal

pub returns-clause-knows : goal.returns-clause-knows
returns-clause-knows c = knows_nothing c.args.store.now c.forget.new.self c.forget.ensures.design c.forget.ensures.hides c.forget.ensures.around c.forget.ensures.rooms c.forget.ensures.updates c.forget.ensures.kept
