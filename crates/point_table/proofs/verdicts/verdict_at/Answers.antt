use Rattle.std.proofs.Common.{subst, sym}
use Rattle.std.proofs.lemmas.List.Elements.{All-get_or}
use Rattle.design_model.specs.View.{design_view}
use Rattle.point_marks.specs.declared.verdict.Verdict.TheVariants.{Missed}
use Rattle.point_table.specs.Verdicts.{IsOfDesign}
use Rattle.point_table.proofs.verdicts.verdict_at.Goals as goal

pub row_verdict-requires : goal.row_verdict-requires
row_verdict-requires c =
    let of_design = IsOfDesign (design_view c.args.design.now) in
    subst of_design (sym c.verdict.ensures.value) (All-get_or of_design c.args.marks.now.verdicts c.args.number Missed c.requires.number c.requires.things)
