use Rattle.std.proofs.Common.{◌∙◌, Ok, ap, ap₂, refl, subst}
use Rattle.std.specs.Prelude.{is_err}
use Rattle.std.proofs.lemmas.Bool.{false≢true}
use Rattle.design_model.specs.Design.{signal_at}
use Rattle.design_model.specs.View.{design_view}
use Rattle.state_machines.specs.Values.{IsNamedSignal}
use Rattle.fsm_extract.specs.Fault.{NamesNone}
use Rattle.fsm_extract.proofs.Drawn.{arc_of}
use Rattle.fsm_extract.proofs.Named.{one_signal}
use Rattle.fsm_extract.proofs.names.find.Goals as goal

pub returns-in-Some-signal_as-clause-found : goal.returns-in-Some-signal_as-clause-found
returns-in-Some-signal_as-clause-found c = λ s t x.
    let d = design_view c.args.design.now in
    let i = c.args.instance in
    let named = subst (λ n. IsNamedSignal d i n c.in-Some.from) c.as_bytes.ensures.value c.in-Some.ensures.some in
    ap₂ (λ u v. Ok (arc_of u v)) (one_signal d c.requires i c.in-Some.from s c.args.current.now named.1 x.current_is.1) (one_signal d c.requires i c.in-Some-signal_as.to t c.args.next.now c.in-Some-signal_as.ensures.some.1 x.next_is.1)

pub returns-in-Some-signal_as-clause-no_next : goal.returns-in-Some-signal_as-clause-no_next
returns-in-Some-signal_as-clause-no_next c =
    let d = design_view c.args.design.now in
    let i = c.args.instance in
    let named = subst (λ n. IsNamedSignal d i n c.in-Some.from) c.as_bytes.ensures.value c.in-Some.ensures.some in (
      λ e. absurd (false≢true (ap is_err e)),
      λ x. absurd (x.3 c.in-Some-signal_as.to c.in-Some-signal_as.ensures.some.1 (ap (λ k. (signal_at d k).width) (one_signal d c.requires i x.1 c.in-Some.from c.args.current.now x.2.1 named.1) ∙ c.in-Some-signal_as.ensures.width)),
    )

pub returns-in-None-signal_as-clause-found : goal.returns-in-None-signal_as-clause-found
returns-in-None-signal_as-clause-found c = λ s t x.
    let d = design_view c.args.design.now in
    let i = c.args.instance in
    let named = subst (λ n. IsNamedSignal d i n c.in-Some.from) c.as_bytes.ensures.value c.in-Some.ensures.some in
    absurd (c.in-None-signal_as.ensures.none t x.next_is.1 (ap (λ k. (signal_at d k).width) (one_signal d c.requires i c.in-Some.from s c.args.current.now named.1 x.current_is.1) ∙ x.one_width))

pub returns-in-None-clause-no_current : goal.returns-in-None-clause-no_current
returns-in-None-clause-no_current c =
    let d = design_view c.args.design.now in
    let none = subst (λ n. NamesNone d c.args.instance n) c.as_bytes.ensures.value c.in-None.ensures.none in
    (λ e. (c.is_of_module.ensures.0 c.if-not-is_of_module.false, none), λ x. refl)

pub returns-in-None-clause-no_next : goal.returns-in-None-clause-no_next
returns-in-None-clause-no_next c =
    let d = design_view c.args.design.now in
    let none = subst (λ n. NamesNone d c.args.instance n) c.as_bytes.ensures.value c.in-None.ensures.none in
    (λ e. absurd (cc), λ x. absurd (none x.1 x.2.1))
