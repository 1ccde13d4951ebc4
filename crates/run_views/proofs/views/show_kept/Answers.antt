use Rattle.run_views.proofs.Showing.{meets_plain}
use Rattle.run_views.proofs.views.show_kept.Goals as goal

pub returns-clause-meets : goal.returns-clause-meets
returns-clause-meets c = λ d k h. meets_plain c.args.store.now c.plain.new.self c.plain.ensures.design c.plain.ensures.around c.plain.ensures.holds c.plain.ensures.hides c.plain.ensures.reads d k h
