use Rattle.std.proofs.Common.{◌≡◌, ◌∙◌, ap, false, get_or, subst, sym, true}
use Rattle.design_model.specs.Design.{process_at}
use Rattle.design_model.specs.View.{design_view}
use Rattle.index_sets.specs.Rows.{row_at}
use Rattle.settled_runs.specs.process_targets.Targets.{names}
use Rattle.settled_runs.proofs.process_targets.Processes.{process_is}
use Rattle.step_parts.specs.replay_model.Step.{is_comb}
use Rattle.settled_runs.specs.store_knowledge.Knows.{Knows}
use Rattle.settled_targets.specs.Saved.{hiding}
use Rattle.settling.proofs.Targets.{hidden_there, shown_there}
use Rattle.settling.proofs.settled.meet_targets.Goals as goal

pub returns-then-is_comb-clause-knows : goal.returns-then-is_comb-clause-knows
returns-then-is_comb-clause-knows c = λ d k h.
    let m = c.args.rows.now.design.now in
    let p = c.args.process in
    let q = c.index-processes-process.result in
    let found : q ≡ get_or m.processes p q = c.index-processes-process.is ∙ ap (λ qs. get_or qs p q) c.as_slice-processes.ensures in
    let comb : is_comb (process_at (design_view m) p) ≡ true = ap is_comb (process_is m p q c.requires.place found) ∙ sym c.is_comb.ensures ∙ c.if-is_comb.true in
    subst (λ j. Knows d j c.hide_targets.new.store)
    (ap (λ row. hiding (names row) k) c.row.ensures ∙ hidden_there (design_view m) d p (row_at c.args.rows.now.targets.now p) k (sym c.requires.same ∙ h.design) c.requires.lawful c.requires.settles (c.requires.rows.targets.each p) comb)
    (c.hide_targets.ensures.knows d k h)

pub returns-else-is_comb-clause-knows : goal.returns-else-is_comb-clause-knows
returns-else-is_comb-clause-knows c = λ d k h.
    let m = c.args.rows.now.design.now in
    let p = c.args.process in
    let q = c.index-processes-process.result in
    let found : q ≡ get_or m.processes p q = c.index-processes-process.is ∙ ap (λ qs. get_or qs p q) c.as_slice-processes.ensures in
    let plain : is_comb (process_at (design_view m) p) ≡ false = ap is_comb (process_is m p q c.requires.place found) ∙ sym c.is_comb.ensures ∙ c.if-is_comb.false in
    subst (λ j. Knows d j c.args.store.now) (shown_there (design_view m) d p (row_at c.args.rows.now.targets.now p) k (sym c.requires.same ∙ h.design) c.requires.lawful c.requires.settles (c.requires.rows.targets.each p) plain) h
