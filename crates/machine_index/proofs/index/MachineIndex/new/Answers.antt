use Rattle.std.proofs.Common.{◌≡◌, ◌↔◌, ◌∙◌, ◌∷◌, [], ℕ, List, ap, map, subst}
use Rattle.std.specs.List.{Contains}
use Rattle.index_sets.specs.Rows.{row_at}
use Rattle.machine_index.proofs.Signals.{of_machine}
use Rattle.machine_index.proofs.index.MachineIndex.new.Goals as goal

pub returns : goal.returns
returns c =
    let xs = c.args.machines.now in
    let lists : map (λ list. list.items) c.as_slice.result.now ≡ map (λ machine. machine.signal ∷ []) xs = ap (λ ys. map (λ list. list.items) ys) c.as_slice.ensures.value ∙ c.in_ok-lists.ensures in
    record {
      count_is = c.in_ok-rows.ensures.count_is;
      has = λ s k l.
          let there = subst (λ (ys : List (List ℕ)). Contains (row_at c.in_ok-rows.rows s) k ↔ Contains (row_at ys k) s) lists (c.in_ok-rows.ensures.has s k l) in
          let machine = of_machine xs k s in
          (λ h. machine.0 (there.0 h), λ h. there.1 (machine.1 h));
    }
