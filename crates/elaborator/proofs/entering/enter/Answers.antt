use Rattle.std.proofs.Common.{◌≡◌, false, refl, sym, ap, subst, ◌∙◌, arith}
use Rattle.design_model.specs.View.{design_view}
use Rattle.flat_design.specs.Instances.{Instantiation, declared, scope_of}
use Rattle.flat_design.specs.Scope.{binding_of}
use Rattle.elab_instances.specs.Entering.{AreFew, IsInside, numbers_after}
use Rattle.elab_instances.specs.InstanceView.{instantiation_view}
use Rattle.elab_instances.specs.declared.instantiation.Numbers.{Numbers}
use Rattle.elaborator.specs.Walk.{IsClean, opened_design}
use Rattle.elaborator.proofs.EnterLemmas.{counted_before, entered_with, few_after, passed}
use Rattle.elaborator.proofs.entering.enter.Goals as goal

pub returns-then-is_ended : goal.returns-then-is_ended
returns-then-is_ended c = passed c.args.walk.now _ (instantiation_view c.args.given.now) c.in_ok-opened.ensures.met (sym c.is_ended.ensures ∙ c.if-is_ended.true) refl

pub boxed_inside-requires : goal.boxed_inside-requires
boxed_inside-requires c =
    let i = instantiation_view c.args.given.now in
    let first : Numbers = record { signal = c.counts-counts.result.signals; memory = c.args.walk.now.memories } in
    let same = ap (λ o. instantiation_view o.given.now) c.deref.ensures ∙ ap instantiation_view c.in_ok-opened.ensures.given in
    let counted = c.in_ok-opened.ensures.counted first (counted_before c.args.walk.now c.counts-counts.result c.counts-counts.ensures.counts c.counts-counts.ensures.signals c.counts-counts.ensures.words c.requires.few) in
    let P : Instantiation → Type 0 = λ j. AreFew (numbers_after j first) in
    subst P (sym same) (few_after c.boxed_opened.new.tally (numbers_after i first) counted (sym c.is_ended.ensures ∙ c.if-is_ended.false))

pub returns : goal.returns
returns c =
    let w = c.args.walk.now in
    let i = instantiation_view c.args.given.now in
    let first : Numbers = record { signal = c.counts-counts.result.signals; memory = c.args.walk.now.memories } in
    let given = ap instantiation_view c.in_ok-opened.ensures.given in
    let same = ap (λ o. instantiation_view o.given.now) c.deref.ensures ∙ given in
    let added = ap (λ o. instantiation_view o.given.now) c.deref-2.ensures ∙ given in
    let t = c.boxed_opened.new.tally in
    let still : t.ended ≡ false = sym c.is_ended.ensures ∙ c.if-is_ended.false in
    let counted = c.in_ok-opened.ensures.counted first (counted_before w c.counts-counts.result c.counts-counts.ensures.counts c.counts-counts.ensures.signals c.counts-counts.ensures.words c.requires.few) still in
    let inside : IsInside i first c.in_ok-inside.inside.value = subst (λ j. IsInside j first c.in_ok-inside.inside.value) same c.in_ok-inside.ensures in
    let kept = c.in_ok-add_opened.ensures.tally in
    let memory = ap (λ x. x.next.memory) c.deref-3.ensures ∙ ap (λ n. n.memory) inside.next in
    entered_with w _ i _
    (kept ∙ c.in_ok-opened.ensures.met)
    (ap (λ u. u.ended) kept ∙ still)
    memory
    (ap (λ k. k.instances) c.counts-counts.ensures.counts)
    c.in_ok-add_opened.ensures.drafted
    (λ d some clean. let o = c.in_ok-add_opened.ensures.draft d some (subst IsClean kept clean) in (o.0, o.1, λ next. o.2 (ap (λ k. k.instances) c.counts-counts.ensures.counts ∙ next) ∙ ap (λ j. opened_design j (design_view o.0)) added))
    refl refl
    (c.into_declared.ensures ∙ ap (λ o. declared (instantiation_view o.given.now).overrides (instantiation_view o.given.now).of_module) c.into_inner.ensures ∙ ap (λ j. declared j.overrides j.of_module) given)
    (c.into_scope.ensures ∙ ap (λ s. binding_of s.scope) c.into_inner-2.ensures ∙ inside.scope ∙ ap (λ k. scope_of i k.signals w.memories) c.counts-counts.ensures.counts)
    (omega (arith, counted.2, memory, ap (λ u. u.counts.words) kept))
