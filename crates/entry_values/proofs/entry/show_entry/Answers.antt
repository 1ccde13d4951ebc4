use Rattle.std.proofs.Common.{◌≡◌, ◌<◌, ◌∙◌, ap, length, refl, subst, sym, take}
use Rattle.std.proofs.lemmas.List.{take_all}
use Rattle.run_views.specs.design_model.View.{design_view}
use Rattle.run_views.specs.Meets.{Meets}
use Rattle.step_values.specs.Dumped.{AreDumped}
use Rattle.entry_values.specs.Entry.{entered}
use Rattle.entry_values.proofs.Entering.{apart_at, enter, enter_more, entered_all}
use Rattle.entry_values.proofs.entry.show_entry.Goals as goal

pub show_early-requires-clause-same : goal.show_early-requires-clause-same
show_early-requires-clause-same c = ap (λ e. design_view e.now) c.loop-thing.invariant.0 ∙ c.requires.same

pub show_trigger-requires-clause-place : goal.show_trigger-requires-clause-place
show_trigger-requires-clause-place c =
    let same : design_view c.loop-thing.store.design.now ≡ design_view c.args.design.now = ap (λ e. design_view e.now) c.loop-thing.invariant.0 ∙ c.requires.same in
    subst (λ e. c.args.trigger < length e.signals) (sym same) c.requires.place

pub show_trigger-requires-clause-after : goal.show_trigger-requires-clause-after
show_trigger-requires-clause-after c =
    let same : design_view c.loop-thing.store.design.now ≡ design_view c.args.design.now = ap (λ e. design_view e.now) c.loop-thing.invariant.0 ∙ c.requires.same in
    (c.requires.after.0, subst (λ e. AreDumped e c.args.codes.now c.args.values.now.last c.requires.after.0) (sym same) c.requires.after.1)

pub loop-thing-init : goal.loop-thing-init
loop-thing-init c = (refl, refl, refl, λ st p w is h. enter st c.args.trigger w.kept c.args.store.now h)

pub loop-thing-preserved : goal.loop-thing-preserved
loop-thing-preserved c = (
  c.show_early.ensures.design ∙ c.loop-thing.invariant.0,
  c.show_early.ensures.updates ∙ c.loop-thing.invariant.1,
  c.show_early.ensures.rooms ∙ c.loop-thing.invariant.2,
  λ st p w is h.
      subst (λ v. Meets st.design v c.show_early.new.store) (enter_more st c.args.trigger w.kept c.args.early.now c.loop-thing.thing-index _ c.loop-thing-test.true)
      (c.show_early.ensures.meets st p c.args.trigger c.args.early.now (entered st c.args.trigger (take c.loop-thing.thing-index c.args.early.now) w.kept) is (apart_at st p c.args.trigger c.args.early.now c.args.codes.now c.args.values.now is c.loop-thing.thing-index _ c.loop-thing-test.true) refl (c.loop-thing.invariant.3 st p w is h)),
)

pub returns-clause-meets : goal.returns-clause-meets
returns-clause-meets c = λ st p w is h.
    subst (λ v. Meets st.design v c.show_trigger.new.store) (entered_all st p c.args.trigger c.args.early.now c.args.codes.now c.args.values.now is w)
    (c.show_trigger.ensures.meets st p c.args.early.now (entered st c.args.trigger c.args.early.now w.kept) is refl
    (subst (λ xs. Meets st.design (entered st c.args.trigger xs w.kept) c.loop-thing.store) (take_all c.loop-thing.thing-index c.args.early.now c.loop-thing-test.false) (c.loop-thing.invariant.3 st p w is h)))
