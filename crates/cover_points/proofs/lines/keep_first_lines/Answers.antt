use Rattle.std.proofs.Common.{rules}
use Rattle.std.specs.Ordering.{eq_by_cmp}
use Rattle.std.proofs.lemmas.Fn.{dedup_same}
use Rattle.cover_points.specs.Order.{line_cmp}
use Rattle.cover_points.proofs.lines.keep_first_lines.Goals as goal

pub returns : goal.returns
returns c = dedup_same _ (eq_by_cmp (line_cmp c.args.instances.now)) _ (λ x y b f' x' y' k. search rules) _ _ c.dedup_by.ensures.filtered
