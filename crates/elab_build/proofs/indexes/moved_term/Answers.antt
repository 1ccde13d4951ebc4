use Rattle.elab_build.proofs.NumberTerms.{small_fits}
use Rattle.elab_build.proofs.indexes.moved_term.Goals as goal

pub number_term-requires-clause-fits : goal.number_term-requires-clause-fits
number_term-requires-clause-fits c = small_fits c.moved_width-width.result c.args.by c.moved_width-width.ensures.within c.requires.by
