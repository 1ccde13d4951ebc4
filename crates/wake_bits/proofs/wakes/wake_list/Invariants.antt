use Rattle.std.proofs.Common.{◌≡◌, ◌↔◌, ℕ, Bool, true, take}
use Rattle.std.specs.List.{Contains}
use Rattle.design_model.specs.View.{design_view}
use Rattle.process_targets.specs.Targets.{row_has}
use Rattle.wake_bits.specs.Wakes.{AreWakes}
use Rattle.wake_bits.proofs.wakes.wake_list.Given as goal

-- each thing so far has its places
abbrev pub invariant-loop-thing : goal.invariant-loop-thing
invariant-loop-thing l =
    (test : ℕ → Bool) → ((x : ℕ) → Contains l.lookup.mentioned.items x ↔ (test x ≡ true)) → AreWakes (design_view l.design) (row_has l.targets) test (take l.thing-index l.watched) l.list.items
