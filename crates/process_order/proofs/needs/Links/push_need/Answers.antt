use Rattle.std.proofs.Common.{◌≡◌, ◌∙◌, ◌+◌, ◌++◌, ◌∷◌, [], false, sym, subst, arith}
use Rattle.std.specs.List.{Contains}
use Rattle.std.proofs.lemmas.Bool.{both_ways}
use Rattle.std.proofs.lemmas.Result.{on_ok_weaker}
use Rattle.index_sets.specs.Rows.{row_at}
use Rattle.process_order.specs.Needs.{AddsNeeds, AddsOthers, is_bound}
use Rattle.process_order.specs.Owners.{HasOther, IsAlone}
use Rattle.process_order.proofs.Adding.{adds_drivers, adds_gate, adds_none}
use Rattle.process_order.proofs.needs.Links.push_need.Goals as goal

pub returns-then-has : goal.returns-then-has
returns-then-has c =
    adds_none c.args.self.now (is_bound c.args.bound.now) c.args.gates c.args.process c.args.thing c.args.needs.now.items (λ free. both_ways (is_bound c.args.bound.now c.args.thing) free (sym c.has.ensures ∙ c.if-has.true))

pub returns-then-is_alone : goal.returns-then-is_alone
returns-then-is_alone c =
    let k = c.args.self.now in
    let free : is_bound c.args.bound.now c.args.thing ≡ false = sym c.has.ensures ∙ c.if-has.false in
    let alone : IsAlone c.args.process (row_at k.owners c.args.thing) = subst (IsAlone c.args.process) c.row.ensures (c.is_alone.ensures.alone c.if-is_alone.true) in
    on_ok_weaker c.push_others.result (λ h. adds_drivers k (is_bound c.args.bound.now) c.args.gates c.args.process c.args.thing c.args.needs.now.items c.push_others.new.needs.items free alone (subst (λ r. AddsOthers c.args.process r c.args.needs.now.items c.push_others.new.needs.items) c.row-then-is_alone.ensures h)) c.push_others.ensures

pub returns : goal.returns
returns c =
    let k = c.args.self.now in
    let free : is_bound c.args.bound.now c.args.thing ≡ false = sym c.has.ensures ∙ c.if-has.false in
    let other : Contains (row_at k.owners c.args.thing) c.args.process → HasOther c.args.process (row_at k.owners c.args.thing) = subst (λ r. Contains r c.args.process → HasOther c.args.process r) c.row.ensures (c.is_alone.ensures.other c.if-is_alone.false) in
    subst (AddsNeeds k (is_bound c.args.bound.now) c.args.gates c.args.process c.args.thing c.args.needs.now.items) (sym c.in_ok-push.ensures.items) (adds_gate k (is_bound c.args.bound.now) c.args.gates c.args.process c.args.thing c.args.needs.now.items free other)
