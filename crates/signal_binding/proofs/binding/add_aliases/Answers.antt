use Rattle.std.proofs.Common.{◌≡◌, ◌+◌, ◌++◌, ◌∷◌, [], length, get_or, take, ap, sym, subst, ◌∙◌, arith}
use Rattle.std.proofs.lemmas.List.{take_more}
use Rattle.signal_binding.specs.Table.{AreCodesAmong}
use Rattle.signal_binding.proofs.binding.add_aliases.Goals as goal

pub loop-alias-preserved : goal.loop-alias-preserved
loop-alias-preserved c =
    let aliases = c.args.design.now.aliases in
    let i = c.loop-alias.alias-index in
    let alias = c.alias-item.result in
    let here : alias ≡ get_or aliases i alias = rw c.as_slice-alias-items.ensures at c.alias-item.is in
    let step : take (i + 1) aliases ≡ take i aliases ++ alias ∷ [] = take_more aliases i alias (omega (arith, ap length c.as_slice-alias-items.ensures)) ∙ ap (λ a. take i aliases ++ a ∷ []) (sym here) in
    subst (λ xs. AreCodesAmong c.args.table.now c.args.design.now xs c.add_alias.new.codes) (sym step) (c.add_alias.ensures (take i aliases) c.loop-alias.invariant)
