use Rattle.std.proofs.Common.{◌≡◌, ◌∙◌, sym, ap, max, true, Some, Ok, arith}
use Rattle.verilog_tree.specs.View.{expr_view}
use Rattle.elab_const.specs.Scope.{look_up}
use Rattle.elab_const.specs.Meaning.{meaning, shape, shape_as, within, vector_in}
use Rattle.elab_const.specs.Faults.{fault_of}
use Rattle.elab_const.specs.Loops.{integer_value, integer_in}
use Rattle.elab_const.proofs.AnswerLemmas.{found, sound_answer}
use Rattle.elab_const.proofs.turn.integer_value.Goals as goal

pub returns : goal.returns
returns c =
    let g = look_up c.args.names.now in
    let e = expr_view c.args.expr.now in
    let s = shape g e in
    let value = found (fault_of g e) (within (meaning g e) (Some (shape_as 32 true))) c.in_ok-found.found (sym c.evaluate.ensures.answer ∙ c.in_ok-found.was) in
    let wide : max 32 s.width ≡ max s.width 32 = omega arith in
    let same = ap (λ w. integer_in (vector_in (meaning g e) (shape_as w s.signed))) wide in
    ap Ok (c.extend.ensures ∙ ap (λ x. integer_in x.value) (sym value.1) ∙ same) ∙ sym (sound_answer (fault_of g e) (integer_value g e) value.0)
