use Rattle.std.proofs.Common.{◌≡◌, map, take}
use Rattle.design_model.specs.View.{term_view}
use Rattle.flat_design.specs.Processes.{uncounted}
use Rattle.elab_bodies.proofs.uncounted.+uncounted.Given as goal

-- the terms so far are those of the front without counted nodes
abbrev pub invariant-all_uncounted-loop-term : goal.invariant-all_uncounted-loop-term
invariant-all_uncounted-loop-term l = map term_view l.all.items ≡ map (λ x. uncounted (term_view x)) (take l.term-index l.terms)
