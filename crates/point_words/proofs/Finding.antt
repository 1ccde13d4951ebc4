-- The first item that passes a test, in a loop.
use Rattle.std.proofs.Common.{◌≡◌, ℕ, ◌+◌, ◌<◌, Bool, false, cond, List, length, drop, get_or, Some, ap, ◌∙◌}
use Rattle.std.specs.List.{find}
use Rattle.std.proofs.lemmas.List.{at_drop_more}

pub find_on : {X : Type 0} (test : X → Bool) (items : List X) (i : ℕ) (d : X) → i < length items → test (get_or items i d) ≡ false → find test (drop i items) ≡ find test (drop (i + 1) items)
find_on test items i d within other = at_drop_more (find test) items i d within ∙ ap (λ b. cond b (Some (get_or items i d)) (find test (drop (i + 1) items))) other
