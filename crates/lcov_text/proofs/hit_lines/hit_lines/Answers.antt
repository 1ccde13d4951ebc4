use Rattle.std.proofs.Common.{rules, sym, ◌∙◌}
use Rattle.std.specs.Ordering.{is_lt}
use Rattle.std.proofs.lemmas.List.Sorted.{answers_always, ranks_by, list_any-IsPermutation}
use Rattle.coverage_db.specs.declared.address.SourceLine.{SourceLine}
use Rattle.coverage_db.specs.Same.{same_place}
use Rattle.cov_report.specs.Order.{place_cmp}
use Rattle.lcov_text.proofs.Orders.{place_total}
use Rattle.lcov_text.proofs.hit_lines.hit_lines.Goals as goal

pub returns-clause-lines : goal.returns-clause-lines
returns-clause-lines c = λ at. sym (list_any-IsPermutation (λ (line : SourceLine). same_place line at) c.in_ok-lines.lines.items c.sort_by.new.self.items c.in_ok-sort_by.ensures.permutation) ∙ c.in_ok-lines.ensures at

pub returns-clause-sorted : goal.returns-clause-sorted
returns-clause-sorted c = c.in_ok-sort_by.ensures.sorted (λ a b. is_lt (place_cmp a b)) (ranks_by place_total (λ (x : SourceLine). x)) (answers_always _ _ _ (λ f a r h k. search rules))
