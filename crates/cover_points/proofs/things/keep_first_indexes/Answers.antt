use Rattle.std.proofs.Common.{rules}
use Rattle.std.specs.Ordering.{eq_by_cmp}
use Rattle.std.proofs.lemmas.Fn.{dedup_same}
use Rattle.design_model.specs.View.{design_view}
use Rattle.cover_points.specs.Order.{index_cmp}
use Rattle.cover_points.proofs.things.keep_first_indexes.Goals as goal

pub returns : goal.returns
returns c = dedup_same _ (eq_by_cmp (index_cmp (design_view c.args.design.now))) _ (λ x y b f' x' y' k. search rules) _ _ c.dedup_by.ensures.filtered
