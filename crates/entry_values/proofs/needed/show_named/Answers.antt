use Rattle.std.proofs.Common.{[], ◌++◌, refl, subst, sym}
use Rattle.design_model.specs.View.{process_view}
use Rattle.early_sets.specs.WakeState.{state_of}
use Rattle.process_names.specs.Names.{body_names}
use Rattle.run_views.specs.design_model.Design.{body}
use Rattle.entry_values.specs.Entering.{ShowStart, Shows}
use Rattle.entry_values.proofs.Showing.{shows_none}
use Rattle.entry_values.proofs.needed.show_named.Goals as goal

pub returns : goal.returns
returns c =
    let early = (state_of c.args.sets.now).early in
    let start : ShowStart = record { name = c.entering-1.given; store = c.args.store.now; early = early; codes = c.args.codes.now; values = c.args.values.now } in
    let r = c.name_all.ensures.named.taken start [] (refl, refl, refl, refl, shows_none early c.args.codes.now c.args.values.now c.args.store.now) in
    subst (λ x. Shows early c.args.codes.now c.args.values.now (c.args.written.now ++ body_names (body (process_view c.args.process.now))) c.args.store.now x) (sym (c.store-1.given.1 (sym r.0))) r.4
