use Rattle.std.proofs.Common.{◌≡◌, ◌∷◌, ◌++◌, [], false, length, sym, ap, ◌∙◌, drop}
use Rattle.verilog_tree.specs.View.{statement_view}
use Rattle.flat_design.specs.Bodies.{met, met_faults, met_process}
use Rattle.flat_design.specs.Processes.{incomplete_faults, mixed_faults, mode_of, when_faults, writings}
use Rattle.flat_design.specs.Scope.{binding_of}
use Rattle.elab_scope.specs.Tally.{after_all, after_faults}
use Rattle.elab_scope.specs.View.{writing_view}
use Rattle.elab_checks.proofs.MetLemmas.{after_two}
use Rattle.elab_checks.proofs.StatementLemmas.{all_then}
use Rattle.elab_processes.proofs.AlwaysLemmas.{drop_before, no_more, nothing_more, written_since}
use Rattle.elab_processes.proofs.always.check_always.Goals as goal

pub check_mixed-requires : goal.check_mixed-requires
check_mixed-requires c =
    let ms = met (binding_of c.args.scope.now) c.mode_of.result c.args.process (statement_view c.args.body.now) in
    let open' : c.check_statement.new.tally.ended ≡ false = sym c.is_ended.ensures ∙ c.if-is_ended.false in
    no_more writing_view c.writings-start.result.now c.check_when.new.tally.writings (writings ms) c.check_statement.new.tally.writings c.writings-start.ensures.written (written_since c.check_when.new.tally c.check_statement.new.tally ms c.in_ok-check_statement.ensures.met open')

pub returns-then-is_ended-clause-met : goal.returns-then-is_ended-clause-met
returns-then-is_ended-clause-met c =
    let g = binding_of c.args.scope.now in
    let t = c.args.tally.now in
    let w = c.args.when.now in
    let s = statement_view c.args.body.now in
    let ms = met g (mode_of w) c.args.process s in
    let u = c.check_statement.new.tally in
    let body = c.in_ok-check_statement.ensures.met ∙ ap (λ m. after_all c.check_when.new.tally (met g m c.args.process s)) c.mode_of.ensures in
    let told = all_then t c.check_when.new.tally u (met_faults (when_faults g w)) ms c.check_when.ensures body in
    let rest = met_faults (mixed_faults (writings ms) ++ incomplete_faults g w s) in
    let ended = sym c.is_ended.ensures ∙ c.if-is_ended.true in
    nothing_more t u ((met_faults (when_faults g w) ++ ms) ++ rest) (met_process c.args.place ∷ []) (nothing_more t u (met_faults (when_faults g w) ++ ms) rest told ended) ended

pub returns-clause-met : goal.returns-clause-met
returns-clause-met c =
    let g = binding_of c.args.scope.now in
    let t = c.args.tally.now in
    let w = c.args.when.now in
    let s = statement_view c.args.body.now in
    let ms = met g (mode_of w) c.args.process s in
    let u = c.check_statement.new.tally in
    let mixed = mixed_faults (writings ms) in
    let incomplete = incomplete_faults g w s in
    let front = met_faults (when_faults g w) ++ ms in
    let body = c.in_ok-check_statement.ensures.met ∙ ap (λ m. after_all c.check_when.new.tally (met g m c.args.process s)) c.mode_of.ensures in
    let told = all_then t c.check_when.new.tally u (met_faults (when_faults g w)) ms c.check_when.ensures body in
    let open' : u.ended ≡ false = sym c.is_ended.ensures ∙ c.if-is_ended.false in
    let since : drop (length c.writings-start.result.now) u.writings ≡ writings ms = drop_before writing_view c.writings-start.result.now c.check_when.new.tally.writings (writings ms) u.writings c.writings-start.ensures.written (written_since c.check_when.new.tally u ms body open') in
    let first : c.check_mixed.new.tally ≡ after_faults u mixed = c.in_ok-check_mixed.ensures ∙ ap (λ ws. after_faults u (mixed_faults ws)) since in
    let second : c.check_incomplete.new.tally ≡ after_faults c.check_mixed.new.tally incomplete = c.in_ok-check_incomplete.ensures.met ∙ ap (λ f. after_faults c.check_mixed.new.tally (incomplete_faults f w s)) c.in_ok-check_statement.ensures.kept in
    let faults = after_two u mixed incomplete first second in
    let so_far = all_then t u c.check_incomplete.new.tally front (met_faults (mixed ++ incomplete)) told faults in
    all_then t c.check_incomplete.new.tally c.process.new.self (front ++ met_faults (mixed ++ incomplete)) (met_process c.args.place ∷ []) so_far c.process.ensures
