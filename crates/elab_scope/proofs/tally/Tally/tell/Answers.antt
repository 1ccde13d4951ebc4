use Rattle.std.proofs.Common.{ap, ◌∙◌, true, false}
use Rattle.std.specs.Option.{option_map}
use Rattle.std.specs.Prelude.{map}
use Rattle.elab_scope.specs.Tally as spec
use Rattle.elab_scope.specs.View.{fault_view, writing_view}
use Rattle.elab_scope.proofs.TallyLemmas.{sooner_if}
use Rattle.elab_scope.proofs.tally.Tally.tell.Goals as goal

pub returns-then-tells : goal.returns-then-tells
returns-then-tells c =
    let first = sooner_if (option_map fault_view c.self.inside.first) (fault_view c.args.fault) true c.if-tells.ensures in
    (λ i. record { first = first i; counts = c.self.inside.counts; ended = c.is_limit-self-inside.ensures i; writings = map writing_view c.self.inside.writings.items })
    ∙ ap (spec.with_fault (fault_view c.args.fault)) c.self.view_is

pub returns-else-tells : goal.returns-else-tells
returns-else-tells c =
    let first = sooner_if (option_map fault_view c.self.inside.first) (fault_view c.args.fault) false c.if-tells.ensures in
    (λ i. record { first = first i; counts = c.self.inside.counts; ended = c.is_limit-self-inside.ensures i; writings = map writing_view c.self.inside.writings.items })
    ∙ ap (spec.with_fault (fault_view c.args.fault)) c.self.view_is
