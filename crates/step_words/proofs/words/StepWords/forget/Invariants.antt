use Rattle.std.proofs.Common.{◌≡◌, take}
use Rattle.step_words.proofs.Forgotten.{forgotten_words}
use Rattle.step_words.proofs.words.StepWords.forget.Given as goal

-- the words of the memories so far are given up
abbrev pub invariant-loop-place : goal.invariant-loop-place
invariant-loop-place l = l.self ≡ record l.fn.self { words = forgotten_words (take l.place l.memories) l.fn.self.words }
