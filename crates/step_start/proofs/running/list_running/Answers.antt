use Rattle.std.proofs.Common.{◌≡◌, ◌∙◌, ◌∷◌, ◌++◌, ℕ, [], get_or, take, ap, subst, sym}
use Rattle.std.specs.Prelude.{is_some}
use Rattle.std.proofs.lemmas.List.{take_all, take_more}
use Rattle.code_values.proofs.Changing.{one_in}
use Rattle.index_sets.specs.Members.{Members}
use Rattle.step_start.specs.Settles.{ArePlaced}
use Rattle.step_start.proofs.Placed.{has_place, placed_left, placed_put}
use Rattle.step_start.proofs.running.list_running.Goals as goal
use Rattle.step_start.proofs.running.list_running.Goals.{then-is_some, else-is_some}

pub loop-process-preserved : goal.loop-process-preserved
loop-process-preserved c =
    let woken = c.args.woken.now in
    let ranks = c.args.order.now in
    let i = c.loop-process.process-index in
    let p : ℕ = get_or woken i 0 in
    let before = c.loop-process.running in
    let after = c.if-is_some.running in
    let placed = c.loop-process.invariant.1 in
    let place : c.is_some.result ≡ has_place ranks p = c.is_some.ensures ∙ ap is_some c.rank.ensures.value in
    let more = take_more woken i 0 c.loop-process-test.true in
    elim c.if-is_some.branch [
      | then-is_some w ↦ (
        ap (λ (r : Members). r.size) w.running-is ∙ w.insert.ensures.size ∙ c.loop-process.invariant.0,
        subst (λ zs. ArePlaced ranks zs after.items) (sym more) (placed_put ranks (take i woken) before.items p placed after.items (sym place ∙ w.if-is_some.true)
            (one_in before.items after.items p w.insert.result w.insert.ensures.there.0 (ap (λ (r : Members). r.items) w.running-is ∙ w.insert.ensures.items))),
      )
      | else-is_some w ↦ (
        ap (λ (r : Members). r.size) w.running-is ∙ c.loop-process.invariant.0,
        subst (λ zs. ArePlaced ranks zs after.items) (sym more) (subst (λ ys. ArePlaced ranks (take i woken ++ p ∷ []) ys) (sym (ap (λ (r : Members). r.items) w.running-is))
            (placed_left ranks (take i woken) before.items p placed (sym place ∙ w.if-is_some.false))),
      )
    ]

pub returns-clause-placed : goal.returns-clause-placed
returns-clause-placed c = subst (λ ps. ArePlaced c.args.order.now ps c.loop-process.running.items) (take_all c.loop-process.process-index c.args.woken.now c.loop-process-test.false) c.loop-process.invariant.1
