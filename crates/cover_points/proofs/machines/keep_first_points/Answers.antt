use Rattle.std.proofs.Common.{rules}
use Rattle.std.specs.Ordering.{eq_by_cmp}
use Rattle.std.proofs.lemmas.Fn.{dedup_same}
use Rattle.cover_points.specs.MachinePoints.{machine_cmp}
use Rattle.cover_points.proofs.machines.keep_first_points.Goals as goal

pub returns : goal.returns
returns c = dedup_same _ (eq_by_cmp (machine_cmp c.args.instances.now c.args.machines.now)) _ (λ x y b f' x' y' k. search rules) _ _ c.dedup_by.ensures.filtered
