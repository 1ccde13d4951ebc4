use Rattle.std.proofs.Common.{◌≡◌, ◌∙◌, ◌++◌, ◌∷◌, [], ◌+◌, length, sym, ap, subst, arith}
use Rattle.std.specs.List.{Contains}
use Rattle.std.proofs.lemmas.List.{length-map, map_push}
use Rattle.index_sets.specs.Rows.{row_at}
use Rattle.rank_order.proofs.Orders.{list_row}
use Rattle.process_order.specs.Names.{lists_of}
use Rattle.process_order.specs.Needs.{HasNeeds, is_bound}
use Rattle.process_order.proofs.Adding.{HaveNeeds, no_needs, process_more}
use Rattle.process_order.proofs.needs.Links.process_needs.Goals as goal

pub loop-process-init : goal.loop-process-init
loop-process-init c =
    subst (λ ls. HaveNeeds c.args.self.now (is_bound c.args.bound.now) (lists_of c.args.watched.now) (lists_of ls) 0) (sym c.new-needs.ensures.items) (no_needs c.args.self.now (is_bound c.args.bound.now) (lists_of c.args.watched.now))

pub needs_of-requires-clause-drivers : goal.needs_of-requires-clause-drivers
needs_of-requires-clause-drivers c =
    let row : row_at (lists_of c.args.watched.now) c.loop-process.process ≡ c.as_slice.result.now = list_row c.args.watched.now c.loop-process.process c.index-watched-process.result c.loop-process-test.true c.index-watched-process.is ∙ sym c.as_slice.ensures.value in
    λ x k. c.requires.drivers c.loop-process.process x (subst (λ r. Contains r x) (sym row) k)

pub needs_of-requires-clause-owners : goal.needs_of-requires-clause-owners
needs_of-requires-clause-owners c =
    let row : row_at (lists_of c.args.watched.now) c.loop-process.process ≡ c.as_slice.result.now = list_row c.args.watched.now c.loop-process.process c.index-watched-process.result c.loop-process-test.true c.index-watched-process.is ∙ sym c.as_slice.ensures.value in
    λ x k. c.requires.owners c.loop-process.process x (subst (λ r. Contains r x) (sym row) k)

pub loop-process-preserved : goal.loop-process-preserved
loop-process-preserved c =
    let k = c.args.self.now in
    let bound = is_bound c.args.bound.now in
    let watched = lists_of c.args.watched.now in
    let i = c.loop-process.process in
    let row : row_at (lists_of c.args.watched.now) c.loop-process.process ≡ c.as_slice.result.now = list_row c.args.watched.now c.loop-process.process c.index-watched-process.result c.loop-process-test.true c.index-watched-process.is ∙ sym c.as_slice.ensures.value in
    let made : lists_of c.push.new.self.items ≡ lists_of c.loop-process.needs.items ++ c.in_ok-list.list.items ∷ [] = ap lists_of c.in_ok-push.ensures.items ∙ map_push (λ v. v.items) c.loop-process.needs.items c.in_ok-list.list in
    let gates : length c.args.watched.now ≡ length watched = sym (length-map c.args.watched.now (λ v. v.items)) in
    let has : HasNeeds k bound (length watched) i (row_at watched i) c.in_ok-list.list.items = subst (λ n. HasNeeds k bound n i (row_at watched i) c.in_ok-list.list.items) gates (subst (λ r. HasNeeds k bound (length c.args.watched.now) i r c.in_ok-list.list.items) (sym row) c.in_ok-list.ensures) in
    subst (λ ls. HaveNeeds k bound watched ls (i + 1)) (sym made) (process_more k bound watched (lists_of c.loop-process.needs.items) i c.in_ok-list.list.items c.loop-process.invariant has)

pub returns : goal.returns
returns c =
    let gates = length-map c.args.watched.now (λ v. v.items) in
    record {
      size = omega (arith, c.loop-process.invariant.count, length-map c.loop-process.needs.items (λ v. v.items), c.loop-process-test.false, c.loop-process.auto.process-end);
      needs = λ p l. subst (λ n. HasNeeds c.args.self.now (is_bound c.args.bound.now) n p (row_at (lists_of c.args.watched.now) p) (row_at (lists_of c.loop-process.needs.items) p)) gates (c.loop-process.invariant.each p (omega (arith, l, c.loop-process-test.false)));
    }
