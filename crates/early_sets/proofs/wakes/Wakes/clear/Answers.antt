use Rattle.std.proofs.Common.{subst, sym, arith}
use Rattle.std.specs.List.{Contains}
use Rattle.early_sets.specs.Once.{IsOnce}
use Rattle.early_sets.proofs.Adding.{row_alone}
use Rattle.early_sets.proofs.Counting.{once_none}
use Rattle.early_sets.proofs.wakes.Wakes.clear.Goals as goal

pub insert_row-requires : goal.insert_row-requires
insert_row-requires g c x h =
    let l = c.args.self.now.sizes.untold_below x (subst (λ r. Contains r x) c.as_slice.ensures.value h) in
    omega (arith, l, c.clear.ensures.size, c.args.self.now.sizes.noted_is)

pub returns-clause-noted : goal.returns-clause-noted
returns-clause-noted g c =
    let adds = rw (c.clear.ensures.items, c.as_slice.ensures.value) at c.insert_row.ensures.adds in
    row_alone c.args.self.now.untold.items c.insert_row.new.set.items adds

pub invariant_of-self-clause-once : goal.invariant_of-self-clause-once
invariant_of-self-clause-once g c =
    record {
      noted_once = c.insert_row.ensures.adds.once (subst IsOnce (sym c.clear.ensures.items) once_none);
      moves_once = subst IsOnce (sym c.clear-3.ensures.items) once_none;
      woken_once = subst IsOnce (sym c.clear-4.ensures.items) once_none;
      early_once = subst IsOnce (sym c.clear-5.ensures.items) once_none;
    }

pub returns-clause-turns : goal.returns-clause-turns
returns-clause-turns g c = rw c.as_slice.ensures.value at c.insert_row.ensures.turns
