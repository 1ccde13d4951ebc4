use Rattle.std.proofs.Common.{◌≡◌, true, [], ◌∷◌, Result, Ok, Some, None, sym, subst, ap, ◌∙◌}
use Rattle.std.specs.Prelude.{OnOk}
use Rattle.verilog_tree.specs.Tree.{identifier}
use Rattle.verilog_tree.specs.View.{expr_view}
use Rattle.flat_design.specs.Bodies.{met_process, met_writing, met_writings}
use Rattle.flat_design.specs.Expressions.{faults}
use Rattle.flat_design.specs.Processes.{self_faults, whole_writing}
use Rattle.flat_design.specs.Scope.{binding_of, look_up}
use Rattle.flat_design.specs.Targets.{target_faults}
use Rattle.flat_design.specs.declared.entry.Mode.TheVariants.{Continuous}
use Rattle.elab_scope.specs.Tally.{after_all, after_faults}
use Rattle.elab_scope.specs.View.{writing_view}
use Rattle.elab_processes.specs.Nets.{driven_net, value_reads}
use Rattle.elab_processes.proofs.MetLemmas.{assignment_met}
use Rattle.elab_processes.proofs.NetLemmas.{net_reads, net_writes, nothing_read, nothing_written}
use Rattle.elab_processes.proofs.nets.check_net.Goals as goal

pub returns-in_default : goal.returns-in_default
returns-in_default c =
    let g = binding_of c.args.scope.now in
    let x = c.args.name.now in
    let here = identifier x.place x.name in
    let v = expr_view c.args.value.now in
    let t = c.check-sound.new.tally in
    let none : driven_net (look_up g x.name) ≡ None = sym c.driven_net-net.ensures.net ∙ c.in_default.is in
    let done : Result (Unit {0}) (Unit {0}) = Ok tt in
    assignment_met done c.args.tally.now c.process.new.self c.driven_net-net.new.tally t t t
    (met_process c.args.place) (target_faults g Continuous here) (faults g v) (self_faults g here v) (met_writings g Continuous true true c.args.process here)
    c.process.ensures c.driven_net-net.ensures.met c.check-sound.ensures.met (ap (after_all t) (sym (nothing_written g x c.args.process none))) (ap (after_faults t) (sym (nothing_read g x v none)))

pub returns : goal.returns
returns c =
    let g = binding_of c.args.scope.now in
    let x = c.args.name.now in
    let here = identifier x.place x.name in
    let v = expr_view c.args.value.now in
    let k = c.args.process in
    let s = c.in-Some.net in
    let t = c.check-sound.new.tally in
    let driven : driven_net (look_up g x.name) ≡ Some s = sym c.driven_net-net.ensures.net ∙ c.in-Some.is in
    let whole : writing_view c.whole.result ≡ whole_writing k x s = c.whole.ensures.value ∙ ap (λ l. whole_writing k l s) c.of-label.ensures in
    let unnumbered : writing_view c.whole-2.result ≡ whole_writing 0 x s = c.whole-2.ensures.value ∙ ap (λ l. whole_writing 0 l s) c.of-label.ensures in
    let written : c.writing.new.self ≡ after_all t (met_writings g Continuous true true k here) =
    c.in_ok-writing.ensures ∙ ap (λ w. after_all t (met_writing w ∷ [])) whole ∙ ap (after_all t) (sym (net_writes g x k s driven)) in
    let reads : value_reads g (writing_view c.whole-2.result) v ≡ self_faults g here v = ap (λ w. value_reads g w v) unnumbered ∙ sym (net_reads g x v s driven) in
    assignment_met c.check_value.result c.args.tally.now c.process.new.self c.driven_net-net.new.tally t c.writing.new.self c.check_value.new.tally
    (met_process c.args.place) (target_faults g Continuous here) (faults g v) (self_faults g here v) (met_writings g Continuous true true k here)
    c.process.ensures c.driven_net-net.ensures.met c.check-sound.ensures.met written
    (subst (λ fs. OnOk c.check_value.result (c.check_value.new.tally ≡ after_faults c.writing.new.self fs)) reads c.check_value.ensures)
