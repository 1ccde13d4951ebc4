use Rattle.std.proofs.Common.{◌∙◌, map, ap, arith}
use Rattle.std.proofs.lemmas.List.{take_all}
use Rattle.design_model.specs.View.{term_view, terms_of}
use Rattle.flat_design.specs.Processes.{uncounted}
use Rattle.elab_bodies.proofs.UncountedTerms.{each_uncounted}
use Rattle.elab_bodies.proofs.uncounted.+uncounted.Goals as goal

pub all_uncounted-returns : goal.all_uncounted-returns
all_uncounted-returns t c =
    let all = take_all c.loop-term.term-index c.args.terms.now (omega arith) in
    ap terms_of (c.loop-term.invariant ∙ ap (map (λ x. uncounted (term_view x))) all) ∙ each_uncounted c.args.terms.now
