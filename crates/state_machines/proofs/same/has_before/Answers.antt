use Rattle.std.proofs.Common.{◌≡◌, ◌<◌, ◌∙◌, ℕ, true, length, sym, arith, below_more, rules}
use Rattle.std.proofs.lemmas.Bool.{false≢true}
use Rattle.four_state.specs.Vector.{same_bits}
use Rattle.state_machines.specs.Same.{bits_at}
use Rattle.state_machines.proofs.Found.{alike}
use Rattle.state_machines.proofs.same.has_before.Goals as goal

pub returns-then-label : goal.returns-then-label
returns-then-label c =
    let vs = c.args.values.now in
    let earlier : c.loop-earlier.earlier < length vs = omega (arith, c.requires.listed) in
    let is : c.label.result ≡ same_bits (bits_at vs c.loop-earlier.earlier) (bits_at vs c.args.place) = c.label.ensures ∙ alike vs c.loop-earlier.earlier c.args.place c.index-values-earlier.result c.index-values-place.result earlier c.requires.listed c.index-values-earlier.is c.index-values-place.is in
    ((λ t. (c.loop-earlier.earlier, c.loop-earlier-test.true, sym is ∙ c.if-label.true)), (λ h. search rules))

pub loop-earlier-preserved : goal.loop-earlier-preserved
loop-earlier-preserved c =
    let vs = c.args.values.now in
    let earlier : c.loop-earlier.earlier < length vs = omega (arith, c.requires.listed) in
    let is : c.label.result ≡ same_bits (bits_at vs c.loop-earlier.earlier) (bits_at vs c.args.place) = c.label.ensures ∙ alike vs c.loop-earlier.earlier c.args.place c.index-values-earlier.result c.index-values-place.result earlier c.requires.listed c.index-values-earlier.is c.index-values-place.is in
    below_more (λ (j : ℕ). same_bits (bits_at vs j) (bits_at vs c.args.place) ≡ true → ⊥) c.loop-earlier.earlier c.loop-earlier.invariant (λ t. false≢true (sym c.if-label.false ∙ is ∙ t))
