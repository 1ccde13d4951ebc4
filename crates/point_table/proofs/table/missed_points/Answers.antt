use Rattle.std.proofs.Common.{subst}
use Rattle.design_model.specs.Design.{In}
use Rattle.design_model.specs.View.{design_view}
use Rattle.point_table.proofs.Members.{toggle_of, word_of}
use Rattle.point_table.proofs.table.missed_points.Goals as goal

pub push_toggles-requires : goal.push_toggles-requires
push_toggles-requires c = λ p h. toggle_of (design_view c.args.design.now) c.args.points.now c.requires p (subst (In p) c.as_slice-3.ensures.value h)

pub push_words-requires : goal.push_words-requires
push_words-requires c = λ p h. word_of (design_view c.args.design.now) c.args.points.now c.requires p (subst (In p) c.as_slice-6.ensures.value h)
