use Rattle.std.proofs.Common.{◌≡◌, ◌-◌, ◌+◌, ◌∷◌, drop, ap, sym, subst, ◌∙◌, arith}
use Rattle.std.proofs.lemmas.List.{drop_more}
use Rattle.signal_binding.specs.Table.{AreCodesUnder}
use Rattle.signal_binding.proofs.table.Table.new.Goals as goal

pub loop-place-preserved : goal.loop-place-preserved
loop-place-preserved c =
    let vars = c.args.vars.now in
    let place = c.loop-place.place in
    let back : place - 1 + 1 ≡ place = omega arith in
    let step : drop (place - 1) vars ≡ c.index-vars-place.result ∷ drop place vars =
    drop_more vars (place - 1) c.index-vars-place.result (omega arith) ∙ ap (λ v. v ∷ drop (place - 1 + 1) vars) (sym c.index-vars-place.is) ∙ ap (λ n. c.index-vars-place.result ∷ drop n vars) back
    in
    subst (λ xs. AreCodesUnder c.put.new.self xs c.args.instance.now) (sym step) (c.in_ok-put.ensures (drop place vars) c.loop-place.invariant)
