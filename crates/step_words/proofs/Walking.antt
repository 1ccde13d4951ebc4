-- The words of a memory, and of memories, one after the other.
use Rattle.std.proofs.Common.{◌≡◌, ℕ, ◌+◌, ◌<◌, List, [], ◌∷◌, ◌++◌, length, get_or, take, refl, ap, ◌∙◌}
use Rattle.std.proofs.lemmas.List.{take_more}
use Rattle.design_model.specs.Design.{Design}
use Rattle.store_knowledge.specs.body_replay.Store.{Kept, kept_word}
use Rattle.word_log.specs.Seen.{words_seen}
use Rattle.written_words.specs.Written.{WrittenState, range_at}
use Rattle.step_words.specs.Words.{StepState, after_memories, after_places, after_word}

module _ (d : Design) (k : Kept) where
  -- the number of the first memory stays
  pub first_stays : (m least : ℕ) (qs : List ℕ) (x : StepState) → (after_places d k m least qs x).first ≡ x.first
  first_stays m least [] x = refl
  first_stays m least (q ∷ qs) x = first_stays m least qs (after_word m q (kept_word d k (x.first + m) (least + q)) x)

  places_after : (m least : ℕ) (ps qs : List ℕ) (x : StepState) → after_places d k m least (ps ++ qs) x ≡ after_places d k m least qs (after_places d k m least ps x)
  places_after m least [] qs x = refl
  places_after m least (p ∷ ps) qs x = places_after m least ps qs (after_word m p (kept_word d k (x.first + m) (least + p)) x)

  -- one word more
  pub place_more : (m least : ℕ) (qs : List ℕ) (i : ℕ) (x : StepState) → i < length qs
      → after_places d k m least (take (i + 1) qs) x
      ≡ after_word m (get_or qs i 0) (kept_word d k ((after_places d k m least (take i qs) x).first + m) (least + get_or qs i 0)) (after_places d k m least (take i qs) x)
  place_more m least qs i x below = ap (λ ps. after_places d k m least ps x) (take_more qs i 0 below) ∙ places_after m least (take i qs) (get_or qs i 0 ∷ []) x

  module _ (w : WrittenState) where
    memories_after : (ms ns : List ℕ) (x : StepState) → after_memories d k w (ms ++ ns) x ≡ after_memories d k w ns (after_memories d k w ms x)
    memories_after [] ns x = refl
    memories_after (m ∷ ms) ns x = memories_after ms ns (after_places d k m (range_at w.ranges m).least (words_seen w.words m) x)

    -- one memory more
    pub memory_more : (ms : List ℕ) (i : ℕ) (x : StepState) → i < length ms
        → after_memories d k w (take (i + 1) ms) x
        ≡ after_places d k (get_or ms i 0) (range_at w.ranges (get_or ms i 0)).least (words_seen w.words (get_or ms i 0)) (after_memories d k w (take i ms) x)
    memory_more ms i x below = ap (λ ns. after_memories d k w ns x) (take_more ms i 0 below) ∙ memories_after (take i ms) (get_or ms i 0 ∷ []) x
