use Rattle.std.proofs.Common.{◌≡◌, ◌∙◌, ◌<◌, ◌++◌, [], ap, length, refl, subst, sym, true}
use Rattle.design_model.specs.View.{process_view}
use Rattle.early_sets.specs.WakeState.{state_of}
use Rattle.process_names.specs.Names.{body_names}
use Rattle.run_views.specs.Meets.{Meets}
use Rattle.run_views.specs.design_model.Design.{body}
use Rattle.run_views.specs.design_model.View.{design_view}
use Rattle.step_values.specs.Dumped.{AreDumped}
use Rattle.entry_values.specs.Entering.{also_early}
use Rattle.entry_values.specs.Entry.{IsEntryOf, entered}
use Rattle.entry_values.proofs.Entering.{enter}
use Rattle.entry_values.proofs.Showing.{named_view, shown_covers, shown_to}
use Rattle.entry_values.proofs.needed.enter_block.Goals as goal

pub show_named-requires : goal.show_named-requires
show_named-requires c =
    record {
      same = c.requires.same;
      inside = c.requires.things;
      numbers = c.has_numbers_of.ensures c.if-has_numbers_of.true;
      old = c.requires.before.0;
      before = c.requires.before.1;
      new = c.requires.after.0;
      after = c.requires.after.1;
    }

pub show_trigger-requires-clause-place : goal.show_trigger-requires-clause-place
show_trigger-requires-clause-place c =
    let same : design_view c.show_named.new.store.design.now ≡ design_view c.args.design.now = ap (λ e. design_view e.now) c.show_named.ensures.design ∙ c.requires.same in
    subst (λ e. c.args.trigger < length e.signals) (sym same) c.requires.place

pub show_trigger-requires-clause-after : goal.show_trigger-requires-clause-after
show_trigger-requires-clause-after c =
    let same : design_view c.show_named.new.store.design.now ≡ design_view c.args.design.now = ap (λ e. design_view e.now) c.show_named.ensures.design ∙ c.requires.same in
    (c.requires.after.0, subst (λ e. AreDumped e c.args.codes.now c.args.values.now.last c.requires.after.0) (sym same) c.requires.after.1)

pub returns-then-has_numbers_of-clause-meets : goal.returns-then-has_numbers_of-clause-meets
returns-then-has_numbers_of-clause-meets c = λ st p w is h.
    let s = body (process_view c.args.process.now) in
    let t = c.args.trigger in
    let early = (state_of c.args.sets.now).early in
    let names = c.args.written.now ++ body_names s in
    let start = entered st t [] w.kept in
    let shown = c.show_named.ensures.meets st p t start is refl (enter st t w.kept c.args.store.now h) in
    let all = c.show_trigger.ensures.meets st p early (also_early early names start) is refl shown in
    record {
      test = shown_to t names;
      covers = shown_covers s t c.args.written.now c.requires.written;
      meets = subst (λ v. Meets st.design v c.show_trigger.new.store) (named_view st p t early names c.args.codes.now c.args.values.now w is) all;
    }

pub returns-else-early-gt-FEW-clause-meets : goal.returns-else-early-gt-FEW-clause-meets
returns-else-early-gt-FEW-clause-meets c = λ st p w is h.
    record {
      test = λ x. true;
      covers = λ x e. refl;
      meets = c.show_entry.ensures.meets st p w (subst (λ xs. IsEntryOf st p c.args.trigger xs c.args.codes.now c.args.values.now) (sym c.early_things-early.ensures.value) is) h;
    }
