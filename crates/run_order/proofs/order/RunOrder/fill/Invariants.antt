use Rattle.std.proofs.Common.{◌≡◌, ℕ, List, take}
use Rattle.wake_list.specs.Members.{has}
use Rattle.run_order.specs.Ranked.{AreRanksOf, chosen}
use Rattle.run_order.proofs.order.RunOrder.fill.Given as goal

-- the processes so far are put on the list
abbrev pub invariant-loop-process : goal.invariant-loop-process
invariant-loop-process l =
    (l.list.count ≡ l.fn.list.count) × ((order : List ℕ) → AreRanksOf order l.fn.list.count l.self → l.list.pairs ≡ chosen (λ p. has p (take l.process-index l.woken)) 0 order)
