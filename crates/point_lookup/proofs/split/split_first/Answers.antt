use Rattle.std.proofs.Common.{◌<◌, ◌∙◌, sym, ap, length, Some, arith, List, ℕ}
use Rattle.std.proofs.lemmas.Bool.Decides.{nat_tests}
use Rattle.coverage_db.proofs.Splitting.{split_found, split_lost}
use Rattle.point_lookup.proofs.split.split_first.Goals as goal

pub returns-then-is_empty : goal.returns-then-is_empty
returns-then-is_empty c = sym (split_lost c.args.value c.args.bytes.now c.split_at.result.1.now c.len_before.result c.len_before.ensures.length c.split_at.ensures.back (grind (arith, nat_tests)))

pub returns : goal.returns
returns c =
    let some : 0 < length c.split_at.result.1.now = grind (arith, nat_tests) in
    sym (split_found c.args.value c.args.bytes.now c.split_at.result.0.now c.split_at.result.1.now c.len_before.result c.len_before.ensures.length c.split_at.ensures.front c.split_at.ensures.back some ∙ ap (λ (b : List ℕ). Some (c.split_at.result.0.now, b)) (sym c.split_at-2.ensures.back))
