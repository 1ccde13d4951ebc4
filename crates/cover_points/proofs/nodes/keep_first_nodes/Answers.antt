use Rattle.std.proofs.Common.{rules}
use Rattle.std.specs.Ordering.{eq_by_cmp}
use Rattle.std.proofs.lemmas.Fn.{dedup_same}
use Rattle.cover_points.specs.Order.{node_cmp}
use Rattle.cover_points.proofs.nodes.keep_first_nodes.Goals as goal

pub returns : goal.returns
returns c = dedup_same _ (eq_by_cmp (node_cmp c.args.instances.now)) _ (λ x y b f' x' y' k. search rules) _ _ c.dedup_by.ensures.filtered
