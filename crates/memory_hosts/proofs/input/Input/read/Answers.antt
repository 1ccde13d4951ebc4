use Rattle.std.proofs.Common.{◌≡◌, ℕ, ◌+◌, List, ◌++◌, arith, length, take, drop}
use Rattle.std.proofs.lemmas.Grind.{common_steps}
use Rattle.std.proofs.lemmas.List.{take_at, take-append-drop, drop-drop}
use Rattle.memory_hosts.proofs.input.Input.read.Goals as goal

-- the bytes that were moved and those that are left are all that were left
split : (count at : ℕ) (all moved rest : List ℕ) → moved ≡ take count (drop at all) → length moved ≡ count → drop at all ≡ take count (moved ++ rest) ++ drop (at + count) all
split count at all moved rest is_moved has_count = rw (take_at, is_moved, ← drop-drop, take-append-drop)

pub returns-clause-bytes : goal.returns-clause-bytes
returns-clause-bytes c = rw (← c.self.view_is) (split c.min-count.result c.self.inside.at c.self.inside.bytes.items c.copy_from_slice.new.self _ (grind (arith, common_steps)) (grind (arith, common_steps)))
