use Rattle.std.proofs.Common.{◌≡◌, [], ap, drop, map, sym, ◌∙◌, arith}
use Rattle.std.specs.List.{list_any}
use Rattle.std.specs.Prelude.{bytes_eq}
use Rattle.std.proofs.lemmas.Grind.{common_steps}
use Rattle.elaborator.proofs.InnerLemmas.{any_here, any_next, around_any, name_of_module}
use Rattle.elaborator.proofs.naming.is_around.Goals as goal

pub returns-then-has_name_of : goal.returns-then-has_name_of
returns-then-has_name_of c =
    let p = bytes_eq c.args.inner.now.name.name in
    let ms = c.args.around.now in
    sym (sym (around_any p ms) ∙ any_here p ms c.loop-other.other-index c.other-item.result c.loop-other-test.true c.other-item.is (sym c.has_name_of.ensures ∙ c.if-has_name_of.true))

pub loop-other-preserved : goal.loop-other-preserved
loop-other-preserved c =
    any_next (bytes_eq c.args.inner.now.name.name) c.args.around.now c.loop-other.other-index c.other-item.result c.loop-other-test.true c.other-item.is (sym c.has_name_of.ensures ∙ c.if-has_name_of.false) ∙ c.loop-other.invariant

pub returns : goal.returns
returns c =
    let p = bytes_eq c.args.inner.now.name.name in
    let ms = c.args.around.now in
    let left : drop c.loop-other.other-index ms ≡ [] = grind (arith, common_steps) in
    ap (λ xs. list_any p (map name_of_module xs)) (sym left) ∙ c.loop-other.invariant ∙ around_any p ms
