use Rattle.std.proofs.Common.{◌≡◌, take}
use Rattle.step_words.specs.Unknown.{unknown_all}
use Rattle.step_words.proofs.words.unknown_words.Given as goal

-- those of the memories so far
abbrev pub invariant-loop-place : goal.invariant-loop-place
invariant-loop-place l = l.words.items ≡ unknown_all (take l.place l.memories) (take l.place l.followed)
