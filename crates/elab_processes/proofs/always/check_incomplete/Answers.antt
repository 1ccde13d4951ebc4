use Rattle.std.proofs.Common.{◌≡◌, [], ◌++◌, sym, ap, ◌∙◌}
use Rattle.verilog_tree.specs.View.{statement_view}
use Rattle.flat_design.specs.Bodies.{assigned, reads}
use Rattle.flat_design.specs.Processes.{incomplete_faults, listed_signals}
use Rattle.flat_design.specs.Scope.{binding_of}
use Rattle.elab_scope.specs.Tally.{after_faults}
use Rattle.elab_checks.proofs.StatementLemmas.{ok_along}
use Rattle.elab_processes.specs.Listed.{has, lacking}
use Rattle.elab_processes.proofs.SignalLemmas.{lacking_same, listed_both}
use Rattle.elab_processes.proofs.always.check_incomplete.Goals as goal

pub returns-clause-met : goal.returns-clause-met
returns-clause-met c =
    let g = binding_of c.args.scope.now in
    let t = c.args.tally.now in
    let s = statement_view c.args.body.now in
    let names = c.in-Names.names in
    let known = c.add_assigned.new.known in
    let listed : has c.add_listed.new.known ≡ has (listed_signals g names ++ []) =
    c.in_ok-add_listed.ensures ∙ ap (λ xs. has (listed_signals g xs ++ c.new-known.result)) c.as_slice.ensures ∙ ap (λ ks. has (listed_signals g names ++ ks)) c.new-known.ensures in
    let all : has known ≡ has (listed_signals g (names ++ assigned g s)) = listed_both g c.add_listed.new.known known names (assigned g s) listed c.in_ok-add_assigned.ensures.assigned in
    let same = ap (λ f. after_faults t (lacking f known (reads f s))) c.in_ok-add_assigned.ensures.kept ∙ ap (after_faults t) (lacking_same g known (listed_signals g (names ++ assigned g s)) (reads g s) all) in
    ok_along c.check_reads.result c.check_reads.new.tally _ _ (same ∙ ap (λ w. after_faults t (incomplete_faults g w s)) (sym c.in-Names.is)) c.check_reads.ensures.met
