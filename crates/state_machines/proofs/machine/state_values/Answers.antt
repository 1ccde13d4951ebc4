use Rattle.std.proofs.Common.{◌≡◌, ◌∙◌, ◌+◌, ◌++◌, ◌∷◌, [], List, ℕ, get_or, take, ap, sym, subst, arith}
use Rattle.std.proofs.lemmas.List.{get_or_read, take_more}
use Rattle.state_machines.proofs.Found.{parameters, zip_push}
use Rattle.design_model.specs.Points.{IsStateValue}
use Rattle.design_model.specs.View.{design_view}
use Rattle.state_machines.specs.Values.{IsFirstNoParameter, IsNoParameter}
use Rattle.state_machines.proofs.machine.state_values.Goals as goal

pub returns-in-None-clause-no_parameter : goal.returns-in-None-clause-no_parameter
returns-in-None-clause-no_parameter c = λ place e.
    let d = design_view c.args.design.now in
    let i = c.args.instance in
    let names = c.args.names.now in
    let same : c.loop-place.place ≡ place = cc in
    let name : c.as_slice.result.now ≡ get_or names c.loop-place.place [] = c.as_slice.ensures ∙ get_or_read names c.loop-place.place c.index-names-place.result c.loop-place-test.true c.index-names-place.is [] in
    let none = subst (λ (n : List ℕ). IsNoParameter d i n) name c.in-None.ensures.none in
    subst (IsFirstNoParameter d i names) same (c.loop-place-test.true, none, λ j l. parameters d i c.args.signal names c.loop-place.values.items c.loop-place.place j c.loop-place.invariant (omega (arith, c.loop-place-test.true)) l)

pub loop-place-preserved : goal.loop-place-preserved
loop-place-preserved c =
    let d = design_view c.args.design.now in
    let is_value = rw c.as_slice.ensures at c.in-Some.ensures.some in
    let names = c.args.names.now in
    let i = c.loop-place.place in
    let x = c.index-names-place.result in
    let y = c.in-Some.value in
    let step : take (i + 1) names ≡ take i names ++ x ∷ [] = take_more names i x c.loop-place-test.true ∙ ap (λ (z : List ℕ). take i names ++ z ∷ []) (sym c.index-names-place.is) in
    let R = IsStateValue d c.args.instance c.args.signal in
    rw (c.in_ok-add-in-Some.ensures, step) (zip_push R (take i names) c.loop-place.values.items x y c.loop-place.invariant is_value)
