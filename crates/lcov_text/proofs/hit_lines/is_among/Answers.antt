use Rattle.std.proofs.Common.{rules, ◌∙◌}
use Rattle.std.proofs.lemmas.Fn.{always_returns_same}
use Rattle.cov_report.specs.Order.{place_cmp}
use Rattle.lcov_text.proofs.HitLines.{searched}
use Rattle.lcov_text.proofs.hit_lines.is_among.Goals as goal

pub returns : goal.returns
returns c =
    let found = c.binary_search_by.ensures.position (λ line. place_cmp line c.args.at) (always_returns_same _ _ _ (λ a r f' k. search rules)) in
    c.is_ok.ensures.value ∙ searched c.args.lines.now c.args.at c.binary_search_by.result c.requires c.binary_search_by.ensures.bound found
