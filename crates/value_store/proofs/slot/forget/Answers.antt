use Rattle.std.proofs.Common.{◌≡◌, ◌+◌, ◌++◌, ◌<◌, ℕ, Bool, None, length, replicate, drop, take, get_or, set, subst, sym, ap₂, arith, ◌∙◌}
use Rattle.body_replay.specs.known_state.Partly.{Partly}
use Rattle.value_store.specs.Slots.{blank_of, forgotten}
use Rattle.value_store.specs.declared.slot.Slot.{Slot}
use Rattle.value_store.proofs.Slots.{forgotten_more}
use Rattle.value_store.proofs.slot.forget.Goals as goal

pub loop-number-preserved : goal.loop-number-preserved
loop-number-preserved c =
    let xs = c.args.slots.now in
    let ys = c.loop-number.slots in
    let i = c.loop-number.number in
    let l : i < length xs = omega arith in
    let x : Slot = get_or ys i c.index-slots-number.result in
    let make : ℕ → Bool → Partly = λ n t. record { bits = replicate n None; signed = t; blame = i } in
    let is : c.unknown-slot.result ≡ blank_of x.kept i = c.unknown-slot.ensures ∙ ap₂ make c.width.ensures.value c.is_signed.ensures in
    let P : Partly → Type 0 = λ q. set ys i (record x { kept = q }) ≡ forgotten 0 (take (i + 1) xs) ++ drop (i + 1) xs in
    subst P (sym is) (forgotten_more xs ys i c.index-slots-number.result l c.loop-number.invariant)
