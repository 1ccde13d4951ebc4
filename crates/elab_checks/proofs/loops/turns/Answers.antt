use Rattle.std.proofs.Common.{◌≡◌, true, false, [], ◌∷◌, ◌++◌, Ok, sym, ap, subst, ◌∙◌}
use Rattle.std.specs.Prelude.{◌*◌, IfOk}
use Rattle.tree_sizes.specs.Sizes.{header_size}
use Rattle.verilog_tree.specs.View.{loop_view}
use Rattle.elab_const.specs.Calls.{told}
use Rattle.elab_const.specs.Loops.{turns_answer}
use Rattle.flat_design.specs.Bodies.{met_faults, met_text}
use Rattle.flat_design.specs.Fault.{answer_faults}
use Rattle.flat_design.specs.Loops.{times, values_of}
use Rattle.flat_design.specs.Scope.{binding_of, names}
use Rattle.elab_scope.specs.Tally.{after_all}
use Rattle.elab_checks.specs.Turns.{is_sound}
use Rattle.elab_checks.proofs.StatementLemmas.{ok_along}
use Rattle.elab_checks.proofs.TurnLemmas.{answer_is, met_header, sound_turns}
use Rattle.elab_checks.proofs.loops.turns.Goals as goal

pub returns-then-not-branch-clause-met : goal.returns-then-not-branch-clause-met
returns-then-not-branch-clause-met c =
    let g = binding_of c.args.scope.now in
    let h = (loop_view c.args.header.now).0 in
    let fails : is_sound g h ≡ false = sym c.in_ok-check_header.ensures.sound ∙ c.if-not-branch.true in
    c.turns.ensures ∙ met_header c.args.tally.now c.check_header.new.tally g h (Ok []) c.in_ok-check_header.ensures.met (answer_is g h false fails)

pub returns-clause-values : goal.returns-clause-values
returns-clause-values c =
    let g = binding_of c.args.scope.now in
    let h = (loop_view c.args.header.now).0 in
    let sound : is_sound g h ≡ true = sym c.in_ok-check_header.ensures.sound ∙ c.if-not-branch.false in
    subst (λ vs. IfOk c.found_turns.result (λ values. values ≡ vs)) (ap (λ s. values_of (told (turns_answer (names s) h))) c.in_ok-check_header.ensures.kept ∙ sym (sound_turns g h sound)) c.found_turns.ensures.values

pub returns-clause-met : goal.returns-clause-met
returns-clause-met c =
    let g = binding_of c.args.scope.now in
    let h = (loop_view c.args.header.now).0 in
    let before = c.check_header.new.tally in
    let sound : is_sound g h ≡ true = sym c.in_ok-check_header.ensures.sound ∙ c.if-not-branch.false in
    let kept = ap (λ s. let a = told (turns_answer (names s) h) in after_all before (met_faults (answer_faults a) ++ met_text h.place (header_size h * times a) ∷ [])) c.in_ok-check_header.ensures.kept in
    let whole = met_header c.args.tally.now before g h (told (turns_answer (names g) h)) c.in_ok-check_header.ensures.met (answer_is g h true sound) in
    ok_along c.found_turns.result c.found_turns.new.tally _ _ (kept ∙ whole) c.found_turns.ensures.met
