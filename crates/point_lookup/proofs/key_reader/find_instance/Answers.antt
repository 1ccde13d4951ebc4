use Rattle.std.proofs.Common.{◌∙◌, rules}
use Rattle.std.proofs.lemmas.Fn.{always_returns_same}
use Rattle.coverage_db.specs.Order.{bytes_cmp}
use Rattle.coverage_db.proofs.PathSearch.{searched}
use Rattle.point_lookup.proofs.key_reader.find_instance.Goals as goal

pub returns-clause-place : goal.returns-clause-place
returns-clause-place c =
    let found = c.binary_search_by.ensures.position (λ i. bytes_cmp i.path c.args.path.now) (always_returns_same _ _ _ (λ a r f' k. search rules)) in
    c.ok.ensures.value ∙ searched c.args.instances.now c.args.path.now c.binary_search_by.result c.requires c.binary_search_by.ensures.bound found
