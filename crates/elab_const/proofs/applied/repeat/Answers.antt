use Rattle.std.proofs.Common.{◌∙◌, ◌*◌, length, sym, ap, arith, false}
use Rattle.elab_const.specs.Meaning.{bits_before, shape_as}
use Rattle.elab_const.specs.Faults.{size_fault}
use Rattle.elab_const.proofs.AnswerLemmas.{found, factors, width_within}
use Rattle.elab_const.proofs.applied.repeat.Goals as goal

pub unreachable-requires : goal.unreachable-requires
unreachable-requires c =
    let n = c.in_ok-times.times in
    let w = c.in_ok-times.parts.width in
    let p = c.args.place in
    let none = (found (size_fault (n * w) p) (shape_as (n * w) false) c.in_ok-shape.shape (sym c.repeated_shape.ensures.value ∙ c.in_ok-shape.was)).0 in
    let within = (factors n w (width_within (n * w) p none)).1 in
    let whole = rw c.in_ok-times.was at c.requires.parts in
    let bits = whole within.1 in
    omega (arith, within.0, sym bits ∙ ap (λ o. length (bits_before o)) c.in-None.is)
