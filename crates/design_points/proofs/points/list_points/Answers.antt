use Rattle.design_points.proofs.points.list_points.Goals as goal

pub returns-in_ok-boxed-in-Ok-clause-points : goal.returns-in_ok-boxed-in-Ok-clause-points
returns-in_ok-boxed-in-Ok-clause-points c =
    let all = c.in-Ok.ensures in
    rw c.in_ok-boxed-in-Ok.ensures (record {
      listed = all.points;
      apart = all.apart;
      once = all.once;
      placed = all.placed;
      few = all.few;
    })
