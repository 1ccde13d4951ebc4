-- The example of what a run notes of words.
use Rattle.std.proofs.Common.{◌≡◌, ℕ, refl, ap, inl, inr, arith}
use Rattle.body_replay.specs.Contract.{HasNote}
use Rattle.body_replay.specs.Replay.{Spot, word_write}
use Rattle.worked_examples.specs.Word.Noted.{IsNotedExample, run}

-- the index of a word that is written
abbrev index_of : Spot → ℕ
index_of (word_write m i) = i
index_of _ = 0

not_noted : HasNote (word_write 6 2) run.notes → ⊥
not_noted (inl e) = absurd (cc)
not_noted (inr (inl e)) = absurd (cc)
not_noted (inr (inr (inl e))) = absurd (cc)
not_noted (inr (inr (inr (inl e)))) = let q : 3 ≡ 2 = ap index_of e in omega (arith, q)
not_noted (inr (inr (inr (inr e)))) = elim e [ ]

pub noted_example : IsNotedExample
noted_example =
    record {
      noted = inr (inr (inr (inl refl)));
      not_noted = not_noted;
      written = refl;
      left = refl;
      cleanly = tt;
      possibly = tt;
      weakly = tt;
      quietly = λ h. h;
    }
