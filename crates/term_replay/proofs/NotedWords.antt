-- The marks on the words of a memory.
use Rattle.std.proofs.Common.{◌≡◌, ◌∙◌, ℕ, ◌+◌, ◌-◌, Bool, false, if◌then◌else◌, List, [], ◌∷◌, ◌++◌, suc, Option, max, min, sym, ap, ap₂, arith}
use Rattle.std.specs.List.{range_with_len}
use Rattle.std.specs.Option.{unwrap_or}
use Rattle.four_state.specs.Parts.{index}
use Rattle.four_state.specs.Vector.{Vector}
use Rattle.known_state.specs.Partly.{Partly, is_whole, whole_of}
use Rattle.design_model.specs.declared.design.Memory.{Memory}
use Rattle.design_model.specs.declared.design.Range.{Range}
use Rattle.design_model.specs.Value.{named_word}
use Rattle.body_replay.specs.KnownBits.{sure}
use Rattle.body_replay.specs.Store.{may_name, words}
use Rattle.body_replay.specs.Replay.{Mark, Mode, Spot, doubted, named_mark, perhaps_marks}
use Rattle.body_replay.proofs.Answered.{same_sure}
use Rattle.body_replay.proofs.Exact.{on_sure}
use Rattle.body_replay.proofs.Unsure.{not_whole}
use Rattle.term_replay.specs.Noted.{Adds, in_this}
use Rattle.term_replay.specs.Words.{IsOf, marks_of_words}
use Rattle.term_replay.proofs.Marking.{adds_both, adds_same, perhaps_in, perhaps_more}

-- by a whole index
pub words_whole : (m : Memory) (at : ℕ → Spot) (q : Partly) (n : Vector) (o : Option ℕ) → q ≡ whole_of n → o ≡ named_word m (index n.signed n.bits) → named_mark at o ≡ marks_of_words m at q.signed q.bits q.blame
words_whole m at q n o e is =
    ap (named_mark at) is
    ∙ sym (on_sure n.bits (λ js. named_mark at (named_word m (index n.signed js))) (perhaps_marks at (may_name m n.signed (sure n.bits)) (words m) 0))
    ∙ ap (λ y. marks_of_words m at y.signed y.bits y.blame) (sym e)

-- by one that is not
pub words_unsure : (mode : Mode) (m : Memory) (at : ℕ → Spot) (q : Partly) (thing : ℕ) → is_whole q ≡ false → thing ≡ unwrap_or mode q.blame → perhaps_marks at (may_name m q.signed q.bits) (words m) thing ≡ in_this mode (marks_of_words m at q.signed q.bits q.blame)
words_unsure mode m at q thing u e =
    ap (perhaps_marks at (may_name m q.signed q.bits) (words m)) e
    ∙ sym (perhaps_in mode at (may_name m q.signed q.bits) (words m) q.blame)
    ∙ ap (in_this mode) (sym (not_whole q.bits (same_sure q.bits ∙ u) (λ js. named_mark at (named_word m (index q.signed js))) (perhaps_marks at (may_name m q.signed q.bits) (words m) q.blame)))

-- the numbers of the words
pub words_from : (r : Range) (m : Memory) (low high : ℕ) → IsOf r m → low ≡ min r.high r.low → high ≡ max r.high r.low → range_with_len low (high + 1 - low) ≡ words m
words_from r m low high is el eh =
    let a : low ≡ min m.first m.last = el ∙ ap₂ min is.first is.last in
    let b : high + 1 - low ≡ max m.first m.last - min m.first m.last + 1 = omega (arith, a, eh, is.first, is.last) in
    ap₂ range_with_len a b

module _ {T S : Type 0} (noted : T → List Mark → S → Type 0) where
  -- one word more
  pub adds_word : (at : ℕ → Spot) (may : ℕ → Bool) (low word thing : ℕ) (s t u : S) (n : ℕ) → word ≡ low + n → Adds noted s (perhaps_marks at may (range_with_len low n) thing) t → Adds noted t (if may word then doubted (at word) thing ∷ [] else []) u → Adds noted s (perhaps_marks at may (range_with_len low (n + 1)) thing) u
  adds_word at may low word thing s t u n e a b =
      let next : n + 1 ≡ suc n = omega arith in
      adds_same noted s u _ _ (ap (λ k. perhaps_marks at may (range_with_len low n) thing ++ (if may k then doubted (at k) thing ∷ [] else [])) e ∙ sym (perhaps_more at may low n thing) ∙ ap (λ k. perhaps_marks at may (range_with_len low k) thing) (sym next))
      (adds_both noted s t u _ _ a b)
