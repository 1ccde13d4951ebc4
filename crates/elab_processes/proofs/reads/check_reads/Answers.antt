use Rattle.std.proofs.Common.{◌≡◌, ◌++◌, flat_map, map, sym, ap, subst, ◌∙◌}
use Rattle.verilog_tree.specs.View.{expr_view}
use Rattle.flat_design.specs.Processes.{self_read}
use Rattle.flat_design.specs.Scope.{binding_of}
use Rattle.elab_scope.specs.Tally.{after_faults}
use Rattle.elab_scope.specs.View.{writing_view}
use Rattle.elab_processes.specs.Reads.{AreSound, parts_view, read_parts}
use Rattle.elab_processes.proofs.ReadLemmas.{reads_by_parts, sound_parts}
use Rattle.elab_processes.proofs.reads.check_reads.Goals as goal

pub check_each-requires-clause-sound : goal.check_each-requires-clause-sound
check_each-requires-clause-sound c =
    let g = binding_of c.args.scope.now in
    let e = expr_view c.args.expr.now in
    let all : parts_view c.deref.result.now ≡ read_parts e = ap parts_view c.deref.ensures.value ∙ c.in_ok-add_parts.ensures ∙ ap (λ xs. parts_view xs ++ read_parts e) c.new-parts.ensures.items in
    subst (AreSound g) (sym all) (sound_parts g e c.requires.sound)

pub returns : goal.returns
returns c =
    let g = binding_of c.args.scope.now in
    let e = expr_view c.args.expr.now in
    let t = c.args.tally.now in
    let ws = map writing_view c.args.driven.now in
    let all : parts_view c.deref.result.now ≡ read_parts e = ap parts_view c.deref.ensures.value ∙ c.in_ok-add_parts.ensures ∙ ap (λ xs. parts_view xs ++ read_parts e) c.new-parts.ensures.items in
    c.check_each.ensures ∙ ap (λ es. after_faults t (flat_map (self_read g ws) es)) all ∙ ap (after_faults t) (sym (reads_by_parts g ws e))
