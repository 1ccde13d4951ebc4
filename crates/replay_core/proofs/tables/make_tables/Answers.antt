use Rattle.std.proofs.Common.{◌≡◌, ◌∙◌, ◌++◌, ◌↔◌, ap, false, IfNone, IfSome, length, map, refl, subst, sym}
use Rattle.std.proofs.lemmas.List.{length-map}
use Rattle.design_model.specs.View.{design_view, process_view}
use Rattle.process_order.specs.Needs.{is_bound}
use Rattle.process_order.specs.Tables.{tables_of}
use Rattle.replay_model.specs.Tables.{AreTables}
use Rattle.run_order.specs.Ranked.{AreRanksOf}
use Rattle.first_step.specs.step_changes.Changes.{AreSignalsOf}
use Rattle.first_step.specs.step_check.Checks.{AreCheckRows}
use Rattle.first_step.specs.step_values.Loose.{has_code}
use Rattle.replay_core.specs.Codes.{flags_of}
use Rattle.replay_core.specs.Fits.{FitsTables, HasInputs, IsUnbound}
use Rattle.replay_core.proofs.Codes.{bound_is}
use Rattle.replay_core.proofs.Inputs.{lacks_is}
use Rattle.replay_core.proofs.tables.make_tables.Goals as goal

pub step_tables-requires-clause-tabled : goal.step_tables-requires-clause-tabled
step_tables-requires-clause-tabled c =
    subst (λ bound. AreTables (design_view c.args.design.now) bound (tables_of c.in_ok-processes.processes)) (ap is_bound c.requires.bound ∙ bound_is c.args.codes.items) c.in_ok-processes.ensures.tables

pub returns-clause-fits : goal.returns-clause-fits
returns-clause-fits c =
    let D = c.args.design.now in
    let d = design_view D in
    let codes = c.args.codes.items in
    let processes = c.in_ok-processes.processes in
    let order = tables_of processes in
    let step = c.in_ok-step.step in
    let is = c.in_ok-step.ensures in
    let size : length (map process_view D.processes) ≡ length D.processes = length-map D.processes process_view in
    let tabled = subst (λ bound. AreTables d bound order) (ap is_bound c.requires.bound ∙ bound_is codes) c.in_ok-processes.ensures.tables in
    subst (FitsTables d) (sym c.in_ok-new.ensures.ok) (record {
      codes = ap length is.codes ∙ c.requires.codes;
      signals = subst (λ cs. AreSignalsOf cs step.signals) (sym is.codes) is.signals;
      tabled = subst (λ cs. AreTables d (has_code cs) order) (sym is.codes) tabled;
      ranked = subst (λ n. AreRanksOf (processes.order.items ++ processes.last.items) n step.order) (sym size) is.ranked;
      clocked = subst (λ n. AreRanksOf processes.clocked.items n step.clocked) (sym size) is.clocked;
      written = is.written;
      rows = c.rows_law.ensures d (has_code codes) order processes.watched step.targets step.written c.in_ok-wakes.wakes c.requires.lawful tabled (λ p. refl) (c.in_ok-processes.ensures.count ∙ sym size) is.targets is.written c.in_ok-wakes.ensures;
      wakes = c.in_ok-wakes.ensures;
      checks = subst (λ cs. AreCheckRows cs step.targets c.in_ok-checks.checks) c.as_slice.ensures.value c.in_ok-checks.ensures;
      inputs = subst (λ cs. (c.is_some-lacks_input.result ≡ false) ↔ HasInputs D.signals (flags_of cs)) (sym is.codes) (subst (λ o. (o ≡ false) ↔ HasInputs D.signals (flags_of codes)) (sym c.is_some-lacks_input.ensures) (lacks_is D.signals (flags_of codes) c.first_unbound-unbound.result
          (subst (λ bs. IfSome c.first_unbound-unbound.result (IsUnbound D.signals bs)) c.requires.bound (subst (λ ss. IfSome c.first_unbound-unbound.result (IsUnbound ss c.args.bound.now)) c.as_slice-2.ensures c.first_unbound-unbound.ensures.first))
          (subst (λ bs. IfNone c.first_unbound-unbound.result (HasInputs D.signals bs)) c.requires.bound (subst (λ ss. IfNone c.first_unbound-unbound.result (HasInputs ss c.args.bound.now)) c.as_slice-2.ensures c.first_unbound-unbound.ensures.none))));
    })
