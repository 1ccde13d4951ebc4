use Rattle.std.proofs.Common.{◌≡◌, Bool, List, length}
use Rattle.std.proofs.lemmas.List.Elements.{All-push, All-same}
use Rattle.bench.proofs.tables.make_tables.Goals as goal

pub loop-table-preserved : goal.loop-table-preserved
loop-table-preserved c = All-same (λ (set : List Bool). length set ≡ c.args.points) _ _ c.in_ok-push.ensures.items (All-push (λ (set : List Bool). length set ≡ c.args.points) c.loop-table.sets.items c.in_ok-set.set c.loop-table.invariant c.in_ok-set.ensures)
