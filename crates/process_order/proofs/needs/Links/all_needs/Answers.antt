use Rattle.std.proofs.Common.{◌≡◌, ◌∙◌, ◌++◌, ◌∷◌, [], ◌+◌, length, sym, ap, subst, arith}
use Rattle.std.specs.List.{Contains}
use Rattle.std.proofs.lemmas.List.{length-map, map_push}
use Rattle.index_sets.specs.Rows.{row_at}
use Rattle.process_order.specs.Names.{lists_of}
use Rattle.process_order.specs.Needs.{HasNeeds, is_bound}
use Rattle.process_order.proofs.Adding.{HaveGates, all_gates, gate_more, no_gates}
use Rattle.process_order.proofs.needs.Links.all_needs.Goals as goal

pub process_needs-requires-clause-drivers : goal.process_needs-requires-clause-drivers
process_needs-requires-clause-drivers c = λ p x k. omega (arith, c.requires.watched p x k, c.requires.drivers)

pub process_needs-requires-clause-owners : goal.process_needs-requires-clause-owners
process_needs-requires-clause-owners c = λ p x k. omega (arith, c.requires.watched p x k, c.requires.owners)

pub loop-thing-init : goal.loop-thing-init
loop-thing-init c =
    let watched = lists_of c.args.watched.now in
    let gates : length c.args.watched.now ≡ length watched = sym (length-map c.args.watched.now (λ v. v.items)) in
    no_gates c.args.self.now (is_bound c.args.bound.now) watched (lists_of c.in_ok-needs.needs.items) (record {
      count = length-map c.in_ok-needs.needs.items (λ v. v.items) ∙ c.in_ok-needs.ensures.size ∙ gates;
      each = λ p l. subst (λ n. HasNeeds c.args.self.now (is_bound c.args.bound.now) n p (row_at watched p) (row_at (lists_of c.in_ok-needs.needs.items) p)) gates (c.in_ok-needs.ensures.needs p (omega (arith, l, gates)));
    })

pub loop-thing-preserved : goal.loop-thing-preserved
loop-thing-preserved c =
    let k = c.args.self.now in
    let bound = is_bound c.args.bound.now in
    let watched = lists_of c.args.watched.now in
    let made : lists_of c.push.new.self.items ≡ lists_of c.loop-thing.needs.items ++ c.in_ok-gate.gate.items ∷ [] = ap lists_of c.in_ok-push.ensures.items ∙ map_push (λ v. v.items) c.loop-thing.needs.items c.in_ok-gate.gate in
    subst (λ ls. HaveGates k bound watched ls (c.loop-thing.thing + 1)) (sym made) (gate_more k bound watched (lists_of c.loop-thing.needs.items) c.loop-thing.thing c.in_ok-gate.gate.items c.loop-thing.invariant (c.in_ok-gate.ensures ∙ c.row.ensures))

pub returns : goal.returns
returns c =
    all_gates c.args.self.now (is_bound c.args.bound.now) (lists_of c.args.watched.now) (lists_of c.loop-thing.needs.items) c.loop-thing.thing (omega (arith, c.loop-thing-test.false, c.loop-thing.auto.thing-end, c.requires.drivers)) c.loop-thing.invariant
