use Rattle.std.proofs.Common.{◌∙◌, ap, arith}
use Rattle.wake_list.specs.Tournament.{members}
use Rattle.wake_list.proofs.TournamentLemmas.{no_members}
use Rattle.wake_list.proofs.least_set.LeastSet.new.Goals as goal

pub returns : goal.returns
returns c = ap (members c.args.count) (c.in_ok-tree.ensures.items_if_clones_equal (λ y e. e)) ∙ no_members c.args.count c.in-Some.places (omega (arith, c.in-Some.ensures))
