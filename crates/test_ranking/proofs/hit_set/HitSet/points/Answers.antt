use Rattle.std.proofs.Common.{ap, length, sym, ◌∙◌}
use Rattle.test_ranking.proofs.Packing.{length-marks_of}
use Rattle.test_ranking.proofs.hit_set.HitSet.points.Goals as goal

pub returns : goal.returns
returns c = sym (length-marks_of c.self.inside.points c.self.inside.words.items c.self.invariant.enough) ∙ ap (λ set. length set) c.self.view_is
