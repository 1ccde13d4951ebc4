use Rattle.std.proofs.Common.{◌≡◌, ◌+◌, ◌++◌, ◌∷◌, [], length, take, sym, ap, subst, ◌∙◌, arith}
use Rattle.coverage_db.specs.Table.{Rises}
use Rattle.cov_report.specs.Gathered.{gathered}
use Rattle.cov_report.proofs.Gathering.{gathered_rises, last_is_upto, next_gathered, all_taken}
use Rattle.cov_report.proofs.gather.join_neighbours.Goals as goal

pub follow-requires-clause-rising : goal.follow-requires-clause-rising
follow-requires-clause-rising g c =
    subst (Rises g.T.Ranked.cmp) (sym c.loop-item.invariant) (gathered_rises g.T.Ranked.cmp g.T.Ranked.join g.met.T.Ranked.total g.met.T.Ranked.stays (take (c.loop-item.item-index + 1) c.args.items.now))

pub follow-requires-clause-upto : goal.follow-requires-clause-upto
follow-requires-clause-upto g c =
    let both = rw c.in-Some.is at c.split_first.ensures.cases in
    last_is_upto g.T.Ranked.cmp g.T.Ranked.join g.met.T.Ranked.total g.met.T.Ranked.stays c.args.items.now c.in-Some.first.now c.in-Some.others.now c.loop-item.item-index c.loop-item.joined.items c.loop-item.last c.item-item.result both.0 c.requires c.loop-item-test.true c.item-item.is c.loop-item.invariant

pub loop-item-init : goal.loop-item-init
loop-item-init g c =
    let both = rw c.in-Some.is at c.split_first.ensures.cases in
    ap (λ t. t ++ c.in-Some.first.now ∷ []) c.in_ok-joined.ensures.items ∙ sym (ap (λ t. gathered g.T.Ranked.cmp g.T.Ranked.join (take 1 t)) both.0)

pub loop-item-preserved : goal.loop-item-preserved
loop-item-preserved g c =
    let both = rw c.in-Some.is at c.split_first.ensures.cases in
    next_gathered g.T.Ranked.cmp g.T.Ranked.join g.met.T.Ranked.total g.met.T.Ranked.stays c.args.items.now c.in-Some.first.now c.in-Some.others.now c.loop-item.item-index c.loop-item.joined.items c.loop-item.last c.in_ok-last.last c.item-item.result c.follow.new.kept.items both.0 c.loop-item-test.true c.item-item.is
    c.loop-item.invariant c.in_ok-last.ensures

pub returns : goal.returns
returns g c =
    let both = rw c.in-Some.is at c.split_first.ensures.cases in
    let long : length c.in-Some.others.now + 1 ≡ length c.args.items.now = both.1 in
    c.in_ok-push.ensures.items ∙ c.loop-item.invariant ∙ ap (gathered g.T.Ranked.cmp g.T.Ranked.join) (all_taken g.T.Ranked.cmp g.T.Ranked.join g.met.T.Ranked.total g.met.T.Ranked.stays c.args.items.now (c.loop-item.item-index + 1) (omega (arith, long, c.loop-item-test.false)))
