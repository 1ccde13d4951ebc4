use Rattle.std.proofs.Common.{rules, subst, sym}
use Rattle.std.proofs.lemmas.Fn.{always_returns_same}
use Rattle.coverage_db.specs.Order.{address_cmp}
use Rattle.point_lookup.specs.Keys.{seen}
use Rattle.point_lookup.specs.Lookup.{IsSearch}
use Rattle.point_lookup.proofs.Searching.{is_search}
use Rattle.point_lookup.proofs.lookup.search_points.Goals as goal

pub returns : goal.returns
returns c =
    let key = seen c.args.key.now in
    let found = c.binary_search_by.ensures.position (λ p. address_cmp p.address key) (always_returns_same _ _ _ (λ a r f' k. search rules)) in
    subst (IsSearch c.args.points.now key) (sym c.ok.ensures.value) (is_search c.args.points.now key c.binary_search_by.result c.requires c.binary_search_by.ensures.bound found)
