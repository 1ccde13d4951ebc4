use Rattle.std.proofs.Common.{◌≡◌, ◌<◌, length, map, get_or, ap, ◌∙◌, arith}
use Rattle.std.specs.List.{range_with_len}
use Rattle.signal_binding.specs.Table.{own_code}
use Rattle.signal_binding.proofs.AmongLemmas.{own_code_more, own_codes_are}
use Rattle.signal_binding.proofs.binding.own_codes.Goals as goal

pub loop-signal-preserved : goal.loop-signal-preserved
loop-signal-preserved c =
    let design = c.args.design.now in
    let i = c.loop-signal.signal-index in
    let signal = c.signal-item.result in
    let here : signal ≡ get_or design.signals i signal = rw c.as_slice-signal-items.ensures at c.signal-item.is in
    let inside : i < length design.signals = omega (arith, ap length c.as_slice-signal-items.ensures) in
    c.in_ok-push.ensures.items ∙ own_code_more c.args.table.now design c.loop-signal.codes.items i signal c.code_under.result c.loop-signal.invariant inside here c.code_under.ensures

pub returns : goal.returns
returns c =
    let design = c.args.design.now in
    let all : c.loop-signal.signal-index ≡ length design.signals = omega (arith, ap length c.as_slice-signal-items.ensures) in
    own_codes_are c.args.table.now design c.loop-signal.codes.items (c.loop-signal.invariant ∙ ap (λ n. map (own_code c.args.table.now design) (range_with_len 0 n)) all)
