use Rattle.std.proofs.Common.{◌≡◌, [], ◌∷◌, sym, ap, ◌∙◌, drop}
use Rattle.flat_design.specs.Bodies.{met_fault}
use Rattle.flat_design.specs.Fault.{fault_at}
use Rattle.flat_design.specs.Processes.{mixed_faults}
use Rattle.flat_design.specs.declared.fault.ElabKind.TheVariants.{MixedAssign}
use Rattle.elab_scope.specs.Tally.{after, after_faults}
use Rattle.elab_scope.specs.View.{name_view, writing_view}
use Rattle.elab_conflicts.specs.Conflicts.{faults_at}
use Rattle.elab_processes.proofs.AlwaysLemmas.{end_seen}
use Rattle.elab_processes.proofs.always.check_mixed.Goals as goal

pub returns-in-Some : goal.returns-in-Some
returns-in-Some c =
    let t = c.args.tally.now in
    let seen = end_seen writing_view c.writings.result.now t.writings c.args.start c.writings.ensures.written in
    let found : mixed_faults (drop c.args.start t.writings) ≡ fault_at MixedAssign (name_view c.in-Some.name) ∷ [] = ap mixed_faults (sym seen) ∙ c.in_ok-name.ensures ∙ ap (faults_at MixedAssign) c.in-Some.is in
    c.fault.ensures ∙ ap (λ f. after t (met_fault f)) c.at.ensures ∙ sym (ap (after_faults t) found)

pub returns-in_default : goal.returns-in_default
returns-in_default c =
    let t = c.args.tally.now in
    let seen = end_seen writing_view c.writings.result.now t.writings c.args.start c.writings.ensures.written in
    let found : mixed_faults (drop c.args.start t.writings) ≡ [] = ap mixed_faults (sym seen) ∙ c.in_ok-name.ensures ∙ ap (faults_at MixedAssign) c.in_default.is in
    sym (ap (after_faults t) found)
