use Rattle.std.proofs.Common.{◌++◌, ◌∷◌, [], sym, ap, ◌∙◌}
use Rattle.std.specs.Ordering.{is_eq}
use Rattle.cov_report.proofs.Gathering.{follows_equal, follows_other}
use Rattle.lcov_text.specs.Views.{traced_cmp, joined_traced}
use Rattle.lcov_text.proofs.Orders.{traced_total, joined_stays}
use Rattle.lcov_text.proofs.points.follow.Goals as goal

pub returns-then-is_eq : goal.returns-then-is_eq
returns-then-is_eq c =
    ap (λ y. c.args.kept.now.items ++ y ∷ []) c.joined.ensures
    ∙ sym (follows_equal traced_cmp joined_traced traced_total joined_stays c.args.kept.now.items c.args.last c.args.point.now c.requires.rising (ap is_eq (sym c.compare.ensures) ∙ sym c.is_eq.ensures ∙ c.if-is_eq.true))

pub returns : goal.returns
returns c =
    ap (λ t. t ++ c.args.point.now ∷ []) c.in_ok-push.ensures.items
    ∙ sym (follows_other traced_cmp joined_traced traced_total joined_stays c.args.kept.now.items c.args.last c.args.point.now c.requires.rising (ap is_eq (sym c.compare.ensures) ∙ sym c.is_eq.ensures ∙ c.if-is_eq.false) c.requires.upto)
