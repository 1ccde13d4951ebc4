-- The faults of four lists.
use Rattle.std.proofs.Common.{◌≡◌, List, ◌++◌, ap, ◌∙◌}
use Rattle.flat_design.specs.Fault.{Fault}
use Rattle.elab_scope.specs.Tally.{Tally, after_faults}
use Rattle.elab_scope.proofs.TallyLemmas.{after_faults-append}

pub after_faults-append_four : (ds es fs gs : List Fault) (t : Tally) → after_faults t (ds ++ es ++ fs ++ gs) ≡ after_faults (after_faults (after_faults (after_faults t ds) es) fs) gs
after_faults-append_four ds es fs gs t =
    after_faults-append t (ds ++ es ++ fs) gs ∙ ap (λ x. after_faults x gs) (after_faults-append t (ds ++ es) fs ∙ ap (λ x. after_faults x fs) (after_faults-append t ds es))
