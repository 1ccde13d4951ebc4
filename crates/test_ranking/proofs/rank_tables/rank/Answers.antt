use Rattle.std.proofs.Common.{◌≡◌, ◌<◌, ◌-◌, ℕ, List, Bool, ap, arith, false, length, refl, subst, sym, ◌∙◌}
use Rattle.std.proofs.lemmas.List.{get_or_read, length-replicate, with_items_is}
use Rattle.test_ranking.specs.Candidate.{AreBounds}
use Rattle.test_ranking.specs.PointSet.{size, union}
use Rattle.test_ranking.specs.Ranking.{set_at, skipped_of}
use Rattle.test_ranking.proofs.Better.{bounds_stay, first_bounds, next_total}
use Rattle.test_ranking.proofs.SetLaws.{length-union, size-le-length, size-none}
use Rattle.test_ranking.proofs.Uses.{HasUsed, HasUsed-more, HasUsed-none, all_used}
use Rattle.test_ranking.proofs.rank_tables.rank.Goals as goal

pub loop-next-init : goal.loop-next-init
loop-next-init c = record {
  uses = subst (HasUsed c.args.points c.args.tables.now c.in_ok-hit.hit) (sym c.new-used.ensures) (HasUsed-none c.args.points c.args.tables.now c.in_ok-hit.hit c.in_ok-hit.ensures);
  long = ap (λ (set : List Bool). length set) c.in_ok-hit.ensures ∙ length-replicate c.args.points false;
  total = sym (ap size c.in_ok-hit.ensures ∙ size-none c.args.points);
  counts = ap (λ (cs : List ℕ). length cs) (c.in_ok-counts.ensures.items_if_clones_equal (λ y is. is)) ∙ length-replicate (length c.args.tables.now) c.args.points;
  bounds = first_bounds c.args.points c.args.tables.now c.in_ok-hit.hit c.in_ok-counts.counts.items c.requires (c.in_ok-counts.ensures.items_if_clones_equal (λ y is. is));
}

pub loop-next-smaller : goal.loop-next-smaller
loop-next-smaller c =
    let next = c.in-Some.ensures.next in
    let own : length (set_at c.args.tables.now c.in-Some.next.table) ≡ c.args.points = c.requires c.in-Some.next.table _ next.listed in
    let long = length-union c.loop-next.hit (set_at c.args.tables.now c.in-Some.next.table) (c.loop-next.invariant.long ∙ sym own) in
    let upto : c.args.points - c.in-Some.next.total < c.args.points - c.loop-next.total =
    omega (arith, next_total c.args.tables.now c.loop-next.hit c.in-Some.next next, next.some, next.total, c.loop-next.invariant.total, c.loop-next.invariant.long, long, size-le-length (union c.loop-next.hit (set_at c.args.tables.now c.in-Some.next.table))) in
    upto

pub loop-next-preserved : goal.loop-next-preserved
loop-next-preserved c =
    let so_far = c.loop-next.invariant in
    let next = c.in-Some.ensures.next in
    let tables = c.args.tables.now in
    let place = c.in-Some.next.table in
    let own : length (set_at tables place) ≡ c.args.points = c.requires place _ next.listed in
    let joined : c.add.new.self ≡ union c.loop-next.hit (set_at tables place) = c.add.ensures ∙ ap (union c.loop-next.hit) (get_or_read tables place c.index-tables-next.result next.listed c.index-tables-next.is _) in
    let whole = with_items_is c.loop-next.counts c.next_table.new.counts (omega arith) in
    let read : length c.deref_mut.result.now ≡ length c.loop-next.counts.items = ap (λ (cs : List ℕ). length cs) c.deref_mut.ensures.value in
    record {
      uses = HasUsed-more c.args.points tables c.loop-next.hit c.add.new.self c.loop-next.used c.push.new.self c.in-Some.next so_far.uses next joined c.in_ok-push.ensures.ok;
      long = ap (λ (set : List Bool). length set) joined ∙ length-union c.loop-next.hit (set_at tables place) (so_far.long ∙ sym own) ∙ so_far.long;
      total = next.total ∙ ap size (sym joined);
      counts = ap (λ (cs : List ℕ). length cs) whole ∙ (omega (arith, read, so_far.counts));
      bounds = subst (AreBounds tables c.add.new.self) (sym whole)
          (subst (λ (set : List Bool). AreBounds tables set c.next_table.new.counts) (sym joined) (bounds_stay tables c.loop-next.hit (set_at tables place) c.next_table.new.counts c.in-Some.ensures.bounds));
    }

pub returns : goal.returns
returns c = record {
  used = all_used c.args.points c.args.tables.now c.loop-next.hit c.loop-next.used c.loop-next.invariant.uses c.in_default.ensures.none;
  skipped = c.in_ok-skipped.ensures ∙ ap (skipped_of (length c.args.tables.now)) c.as_slice.ensures;
  hit = c.loop-next.invariant.total ∙ ap size c.loop-next.invariant.uses.hit_is;
  points_are = refl;
}
