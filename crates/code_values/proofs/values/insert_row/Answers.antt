use Rattle.std.proofs.Common.{◌≡◌, ◌∙◌, get_or, take, refl, subst, arith}
use Rattle.std.proofs.lemmas.List.{take_all}
use Rattle.std.proofs.lemmas.List.Elements.{Contains-get_or}
use Rattle.code_values.specs.Values.{AddsRow}
use Rattle.code_values.proofs.Changing.{one_in, row_more, row_none}
use Rattle.code_values.proofs.values.insert_row.Goals as goal

pub loop-signal-init : goal.loop-signal-init
loop-signal-init c = (refl, row_none c.args.signals.now c.args.changed.now.items)

pub insert-requires : goal.insert-requires
insert-requires c =
    let row = c.args.signals.now in
    let i = c.loop-signal.signal-index in
    omega (arith, c.loop-signal.invariant.0, c.requires (get_or row i 0) (Contains-get_or row i 0 c.loop-signal-test.true))

pub loop-signal-preserved : goal.loop-signal-preserved
loop-signal-preserved c = (
  c.insert.ensures.size ∙ c.loop-signal.invariant.0,
  row_more c.args.signals.now c.args.changed.now.items c.loop-signal.changed.items c.insert.new.self.items c.loop-signal.signal-index c.loop-signal-test.true c.loop-signal.invariant.1 (one_in c.loop-signal.changed.items c.insert.new.self.items (get_or c.args.signals.now c.loop-signal.signal-index 0) c.insert.result c.insert.ensures.there.0 c.insert.ensures.items),
)

pub returns-clause-added : goal.returns-clause-added
returns-clause-added c =
    let row = c.args.signals.now in
    let all : take c.loop-signal.signal-index row ≡ row = take_all c.loop-signal.signal-index row c.loop-signal-test.false in
    subst (λ zs. AddsRow zs c.args.changed.now.items c.loop-signal.changed.items) all c.loop-signal.invariant.1
