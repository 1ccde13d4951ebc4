use Rattle.std.proofs.Common.{◌∙◌, List, ap}
use Rattle.coverage_db.specs.declared.address.SourceLine.{SourceLine}
use Rattle.lcov_text.specs.Views.{is_among}
use Rattle.lcov_text.proofs.HitLines.{hits_reach, hits_done}
use Rattle.lcov_text.proofs.hit_lines.lines_of_hits.Goals as goal

pub returns : goal.returns
returns c = λ at. ap (λ (t : List SourceLine). is_among t at) (hits_done c.loop-point.lines.items c.args.points.now c.loop-point.point-index c.loop-point-test.false c.loop-point.invariant) ∙ hits_reach c.args.points.now at
