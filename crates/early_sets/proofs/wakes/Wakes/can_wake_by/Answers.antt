use Rattle.std.proofs.Common.{◌∙◌, sym}
use Rattle.std.proofs.lemmas.Bool.{and_left}
use Rattle.early_sets.specs.Edges.{may_be}
use Rattle.early_sets.specs.Has.{is_in}
use Rattle.early_sets.specs.WakeState.{edges_at, state_of}
use Rattle.early_sets.proofs.Membership.{is_in_is}
use Rattle.early_sets.proofs.wakes.Wakes.can_wake_by.Goals as goal

pub returns-else-contains : goal.returns-else-contains
returns-else-contains c =
    let w = c.args.self.now in
    let out = sym (is_in_is w.moves.items c.args.signal c.contains.result c.contains.ensures) ∙ c.if-contains.false in
    c.if-contains.false ∙ sym (and_left (is_in w.moves.items c.args.signal) (may_be (edges_at (state_of w) c.args.signal) c.args.edge) out)
