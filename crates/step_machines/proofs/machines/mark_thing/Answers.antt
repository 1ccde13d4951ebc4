use Rattle.std.proofs.Common.{◌≡◌, ◌∙◌, ◌≤◌, ◌<◌, ℕ, List, length, get_or, ap, ap₂, subst, sym, arith}
use Rattle.std.proofs.lemmas.List.{get_or_default, take_all, take_more}
use Rattle.cover_points.specs.Listed.{IsPointList}
use Rattle.cover_points.specs.design_machines.declared.machine.Machine.{Machine}
use Rattle.design_model.specs.Design.{Design, signal_at}
use Rattle.design_model.specs.View.{design_view}
use Rattle.machine_marks.specs.Marked.{MarksMachine}
use Rattle.step_parts.specs.replay_model.Step.{all_run, before_of, known_bits}
use Rattle.step_parts.proofs.step_values.Before.{before_bits, before_length}
use Rattle.step_parts.specs.step_values.Vectors.{bits_before, vector_at}
use Rattle.step_machines.proofs.Fits.{found_at, found_few, found_wide, known_width}
use Rattle.step_machines.proofs.Marked.{MarksNumbers, all_numbers, no_signal_marked, one_number}
use Rattle.step_machines.proofs.machines.mark_thing.Goals as goal

pub returns-then-thing-len-clause-machines : goal.returns-then-thing-len-clause-machines
returns-then-thing-len-clause-machines c = λ st moving.
    let d = design_view c.args.design.now in
    let same : d ≡ st.design = sym c.requires.known.1.design ∙ moving.values.knows.design in
    let past : length d.signals ≤ c.args.thing = omega (arith, c.if-thing-len.true, c.len.ensures) in
    let fits = c.requires.design in
    no_signal_marked st fits.machines c.args.points.now (subst (λ e. IsPointList e fits.machines c.args.points.now) same fits.listed) c.args.thing c.args.marks.now.verdicts (subst (λ (e : Design). length e.signals ≤ c.args.thing) same past)

-- the machine with a number of the list has the signal
pub bounds-machines-number : goal.bounds-machines-number
bounds-machines-number c =
    let ns = c.of_signal-numbers.result.now in
    let i = c.loop-number.number-index in
    let k = get_or ns i 0 in
    let inside : c.args.thing < length c.args.design.now.signals = omega (arith, c.if-thing-len.false, c.len.ensures) in
    let has = (c.of_signal-numbers.ensures c.args.points.now.machines.items (length c.args.design.now.signals) k c.requires.design.index inside).0 (i, c.loop-number-test.true, get_or_default ns i k 0 c.loop-number-test.true) in
    subst (λ (ms : List Machine). k < length ms) (sym c.as_slice-machines.ensures.value) has.0

pub before_step-before-requires-clause-width : goal.before_step-before-requires-clause-width
before_step-before-requires-clause-width c =
    let d = design_view c.args.design.now in
    let inside : c.args.thing < length c.args.design.now.signals = omega (arith, c.if-thing-len.false, c.len.ensures) in
    c.requires.fits.before.width c.args.thing inside ∙ sym (known_width d c.requires.known.0 c.args.thing c.known_signal-after.result.bits (c.known_signal-after.ensures d c.requires.known.0 c.requires.known.1))

pub mark_machine-requires-clause-before : goal.mark_machine-requires-clause-before
mark_machine-requires-clause-before c =
    let d = design_view c.args.design.now in
    let fits = c.requires.design in
    let ps = c.args.points.now in
    let ns = c.of_signal-numbers.result.now in
    let i = c.loop-number.number-index in
    let k = get_or ns i 0 in
    let inside : c.args.thing < length c.args.design.now.signals = omega (arith, c.if-thing-len.false, c.len.ensures) in
    let has = (c.of_signal-numbers.ensures ps.machines.items (length c.args.design.now.signals) k fits.index inside).0 (i, c.loop-number-test.true, get_or_default ns i k 0 c.loop-number-test.true) in
    let x = c.index-machines-number.result in
    let within = subst (λ (ms : List Machine). k < length ms) (sym c.as_slice-machines.ensures.value) has.0 in
    let at = found_at d fits.machines ps fits.listed k x c.as_slice-machines.result.now c.as_slice-machines.ensures.value within c.index-machines-number.is in
    let signal : x.signal ≡ c.args.thing = ap (λ (y : Machine). y.signal) at ∙ has.1 in
    let old = c.requires.fits.before.width c.args.thing inside in
    let new = known_width d c.requires.known.0 c.args.thing c.known_signal-after.result.bits (c.known_signal-after.ensures d c.requires.known.0 c.requires.known.1) in
    let wide = ap length c.before_step-before.ensures ∙ before_length c.args.listed (vector_at c.args.values.now.before c.args.thing).bits c.known_signal-after.result.bits (old ∙ sym new) ∙ old in
    found_wide d fits.machines ps fits.listed k x c.as_slice-machines.result.now c.as_slice-machines.ensures.value within c.index-machines-number.is (length c.before_step-before.result.bits) (wide ∙ ap (λ s. (signal_at d s).width) (sym signal))

pub mark_machine-requires-clause-after : goal.mark_machine-requires-clause-after
mark_machine-requires-clause-after c =
    let d = design_view c.args.design.now in
    let fits = c.requires.design in
    let ps = c.args.points.now in
    let ns = c.of_signal-numbers.result.now in
    let i = c.loop-number.number-index in
    let k = get_or ns i 0 in
    let inside : c.args.thing < length c.args.design.now.signals = omega (arith, c.if-thing-len.false, c.len.ensures) in
    let has = (c.of_signal-numbers.ensures ps.machines.items (length c.args.design.now.signals) k fits.index inside).0 (i, c.loop-number-test.true, get_or_default ns i k 0 c.loop-number-test.true) in
    let x = c.index-machines-number.result in
    let within = subst (λ (ms : List Machine). k < length ms) (sym c.as_slice-machines.ensures.value) has.0 in
    let at = found_at d fits.machines ps fits.listed k x c.as_slice-machines.result.now c.as_slice-machines.ensures.value within c.index-machines-number.is in
    let signal : x.signal ≡ c.args.thing = ap (λ (y : Machine). y.signal) at ∙ has.1 in
    let now = c.known_signal-after.result.bits in
    let wide = known_width d c.requires.known.0 c.args.thing now (c.known_signal-after.ensures d c.requires.known.0 c.requires.known.1) in
    found_wide d fits.machines ps fits.listed k x c.as_slice-machines.result.now c.as_slice-machines.ensures.value within c.index-machines-number.is (length now) (wide ∙ ap (λ s. (signal_at d s).width) (sym signal))

pub mark_machine-requires-clause-few : goal.mark_machine-requires-clause-few
mark_machine-requires-clause-few c =
    let fits = c.requires.design in
    let ps = c.args.points.now in
    let ns = c.of_signal-numbers.result.now in
    let i = c.loop-number.number-index in
    let k = get_or ns i 0 in
    let inside : c.args.thing < length c.args.design.now.signals = omega (arith, c.if-thing-len.false, c.len.ensures) in
    let has = (c.of_signal-numbers.ensures ps.machines.items (length c.args.design.now.signals) k fits.index inside).0 (i, c.loop-number-test.true, get_or_default ns i k 0 c.loop-number-test.true) in
    let within = subst (λ (ms : List Machine). k < length ms) (sym c.as_slice-machines.ensures.value) has.0 in
    found_few (design_view c.args.design.now) fits.machines ps fits.listed k c.index-machines-number.result c.as_slice-machines.result.now c.as_slice-machines.ensures.value within c.index-machines-number.is

pub loop-number-preserved : goal.loop-number-preserved
loop-number-preserved c = (
  c.mark_machine.ensures.points,
  λ st moving.
      let d = design_view c.args.design.now in
      let fits = c.requires.design in
      let ps = c.args.points.now in
      let ns = c.of_signal-numbers.result.now in
      let i = c.loop-number.number-index in
      let k = get_or ns i 0 in
      let s = c.args.thing in
      let l = c.loop-number-test.true in
      let inside : s < length c.args.design.now.signals = omega (arith, c.if-thing-len.false, c.len.ensures) in
      let has = (c.of_signal-numbers.ensures ps.machines.items (length c.args.design.now.signals) k fits.index inside).0 (i, l, get_or_default ns i k 0 l) in
      let x = c.index-machines-number.result in
      let within = subst (λ (ms : List Machine). k < length ms) (sym c.as_slice-machines.ensures.value) has.0 in
      let at = found_at d fits.machines ps fits.listed k x c.as_slice-machines.result.now c.as_slice-machines.ensures.value within c.index-machines-number.is in
      let signal : x.signal ≡ s = ap (λ (y : Machine). y.signal) at ∙ has.1 in
      let same : d ≡ st.design = sym c.requires.known.1.design ∙ moving.values.knows.design in
      let listed = subst (λ e. IsPointList e fits.machines ps) same fits.listed in
      let first = c.args.marks.now.verdicts in
      let middle = c.loop-number.marks.verdicts in
      let after = c.mark_machine.new.marks.verdicts in
      let new : c.known_signal-after.result.bits ≡ known_bits st.design (all_run st).kept s = c.known_signal-after.ensures st.design (all_run st).kept moving.values.knows in
      let old : c.before_step-before.result.bits ≡ known_bits st.design (before_of st) s =
      c.before_step-before.ensures ∙ ap₂ (bits_before c.args.listed) (moving.values.before s (subst (λ (e : Design). s < length e.signals) same inside) moving.moves) new ∙ before_bits st s c.args.listed moving.kind in
      let one =
      subst (λ (y : Machine). MarksMachine st.listed ps k y st.time (known_bits st.design (before_of st) y.signal) (known_bits st.design (all_run st).kept y.signal) middle after) at
      (subst (λ z. MarksMachine st.listed ps k x st.time (known_bits st.design (before_of st) z) (known_bits st.design (all_run st).kept z) middle after) (sym signal)
      (subst (λ t. MarksMachine st.listed ps k x t (known_bits st.design (before_of st) s) (known_bits st.design (all_run st).kept s) middle after) (sym moving.time)
      (subst (λ bs. MarksMachine st.listed ps k x c.args.time bs (known_bits st.design (all_run st).kept s) middle after) old
      (subst (λ bs. MarksMachine st.listed ps k x c.args.time c.before_step-before.result.bits bs middle after) new
      (subst (λ b. MarksMachine b ps k x c.args.time c.before_step-before.result.bits c.known_signal-after.result.bits middle after) (sym moving.kind) c.mark_machine.ensures.machine))))) in
      subst (λ ks. MarksNumbers st ps ks s first after) (sym (take_more ns i 0 l))
      (one_number st fits.machines ps listed k s has.1 _ first middle after (c.loop-number.invariant.1 st moving) one),
)

pub returns-clause-machines : goal.returns-clause-machines
returns-clause-machines c = λ st moving.
    let d = design_view c.args.design.now in
    let fits = c.requires.design in
    let ps = c.args.points.now in
    let ns = c.of_signal-numbers.result.now in
    let s = c.args.thing in
    let inside : s < length c.args.design.now.signals = omega (arith, c.if-thing-len.false, c.len.ensures) in
    let same : d ≡ st.design = sym c.requires.known.1.design ∙ moving.values.knows.design in
    let listed = subst (λ e. IsPointList e fits.machines ps) same fits.listed in
    let of = λ (k : ℕ). c.of_signal-numbers.ensures ps.machines.items (length c.args.design.now.signals) k fits.index inside in
    let first = c.args.marks.now.verdicts in
    let after = c.loop-number.marks.verdicts in
    all_numbers st fits.machines ps listed ns s first after (λ k h. (of k).0 h) (λ k h. (of k).1 h)
    (subst (λ ks. MarksNumbers st ps ks s first after) (take_all c.loop-number.number-index ns c.loop-number-test.false) (c.loop-number.invariant.1 st moving))
