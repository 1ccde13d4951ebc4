use Rattle.std.proofs.Common.{◌≡◌, ◌∙◌, ◌&&◌, ap, arith, length, refl, subst, sym}
use Rattle.std.specs.Prelude.{nat_lt}
use Rattle.design_model.specs.View.{design_view}
use Rattle.settling.specs.step_values.Loose.{has_code}
use Rattle.settling.specs.step_values.Vectors.{FitsSignals}
use Rattle.first_step.specs.Begun.{Puts}
use Rattle.first_step.proofs.Putting.{both_put, more_below, none_below, none_put, same_put}
use Rattle.first_step.proofs.dump.put_first.Goals as goal

pub loop-signal-init : goal.loop-signal-init
loop-signal-init c = (refl, none_put c.args.rows.now.codes.now c.args.dump.now.last _ c.args.store.now c.args.values.now (none_below c.args.rows.now.codes.now))

pub loop-signal-preserved : goal.loop-signal-preserved
loop-signal-preserved c =
    let codes = c.args.rows.now.codes.now in
    let given = c.args.dump.now.last in
    let n = c.loop-signal.signal in (
      c.put_signal.ensures.design ∙ c.loop-signal.invariant.0,
      same_put codes given _ _ c.args.store.now c.put_signal.new.store c.args.values.now c.put_signal.new.values (more_below codes n)
          (both_put codes given _ _ c.args.store.now c.loop-signal.store c.put_signal.new.store c.args.values.now c.loop-signal.values c.put_signal.new.values c.loop-signal.invariant.1 c.put_signal.ensures.puts),
    )

pub put_signal-requires-clause-fits : goal.put_signal-requires-clause-fits
put_signal-requires-clause-fits c =
    let inv = c.loop-signal.invariant in
    subst (λ d. FitsSignals d c.loop-signal.values) (ap (λ x. design_view x.now) (sym inv.0)) (inv.1.fits (design_view c.args.store.now.design.now) c.requires.fits)

pub returns-clause-puts : goal.returns-clause-puts
returns-clause-puts c =
    let codes = c.args.rows.now.codes.now in
    let end : c.loop-signal.signal ≡ length c.args.rows.now.design.now.signals = omega (arith, c.loop-signal-test.false, c.len-signal-end.ensures, c.loop-signal.auto.signal-end) in
    subst (λ n. Puts codes c.args.dump.now.last (λ s. has_code codes s && nat_lt s n) c.args.store.now c.loop-signal.store c.args.values.now c.loop-signal.values) end c.loop-signal.invariant.1
