use Rattle.std.proofs.Common.{◌∙◌, ◌++◌, ap}
use Rattle.design_model.specs.Design.{body}
use Rattle.design_model.specs.View.{process_view}
use Rattle.target_counts.specs.Most.{most}
use Rattle.target_counts.proofs.Clearing.{once_counted, uncounted}
use Rattle.target_counts.proofs.once.push_once.Goals as goal

pub clear-requires : goal.clear-requires
clear-requires c = uncounted (λ x. most x (body (process_view c.args.process.now))) c.args.counts.now c.count_process.new.counts c.requires.clear c.in_ok-count_process.ensures

pub returns-clause-found : goal.returns-clause-found
returns-clause-found c = c.in_ok-push_counted.ensures ∙ ap (λ xs. c.args.found.now.items ++ xs) (once_counted (body (process_view c.args.process.now)) c.args.counts.now c.count_process.new.counts c.args.things.now c.requires.clear c.requires.within c.in_ok-count_process.ensures)
