-- The words that runs note to be written are listed.
use Rattle.std.proofs.Common.{◌≡◌, ◌⊎◌, inl, inr, ⊎_elim, ℕ, ◌==◌, ◌&&◌, ◌||◌, Bool, true, List, [], ◌∷◌, ◌++◌, refl, sym, ap, ap₂, ◌∙◌, eq-eqb}
use Rattle.std.proofs.lemmas.Bool.{and_from, or_left, or_right}
use Rattle.body_replay.specs.Contract.{HasNote, Note}
use Rattle.body_replay.specs.Replay.{Spot, line, node, word_read, word_write}
use Rattle.run_marks.specs.Reported.{HasListed}
use Rattle.term_replay.specs.Noted.{spot_of}
use Rattle.term_replay.specs.declared.notes.Spot.{Spot as TheSpot}
use Rattle.term_replay.specs.declared.notes.Spot.TheVariants.{Line, Node, WordRead, WordWrite}
use Rattle.written_words.specs.Written.{WrittenState, has_word, is_followed}
use Rattle.written_words.specs.declared.range.WordRange.{WordRange}

pub none_listed : (w : WrittenState) → HasListed w [] w
none_listed w = record { first = refl; ranges = refl; kept = λ m i h. h; noted = λ m i f h. absurd h }

-- a note at the end
last_note : (x : Spot) (ns : List Note) (n : Note) → HasNote x (ns ++ n ∷ []) → HasNote x ns ⊎ (n.spot ≡ x)
last_note x [] n (inl e) = inr e
last_note x [] n (inr h) = absurd h
last_note x (y ∷ ns) n (inl e) = inl (inl e)
last_note x (y ∷ ns) n (inr h) = ⊎_elim (λ g. inl (inr g)) (λ e. inr e) (last_note x ns n h)

-- which words are followed, by the numbers and ranges alone
abbrev followed_by : ℕ → List WordRange → WrittenState → ℕ → ℕ → Bool
followed_by first ranges w m i = is_followed (record w { first = first; ranges = ranges }) m i

-- the same words are followed
pub followed_listed : (before now : WrittenState) (ns : List Note) → HasListed before ns now → (m i : ℕ) → is_followed now m i ≡ is_followed before m i
followed_listed before now ns h m i = ap₂ (λ f r. followed_by f r before m i) h.first h.ranges

-- a note of another spot
pub other_listed : (before now : WrittenState) (ns : List Note) (n : Note) → ((m i : ℕ) → n.spot ≡ word_write m i → ⊥) → HasListed before ns now → HasListed before (ns ++ n ∷ []) now
other_listed before now ns n other h =
    record {
      first = h.first;
      ranges = h.ranges;
      kept = h.kept;
      noted = λ m i f g. ⊎_elim (λ old. h.noted m i f old) (λ e. absurd (other m i e)) (last_note (word_write m i) ns n g);
    }

-- a spot that is no word that is written
pub no_write : (s : TheSpot) (m i : ℕ) → ((k j : ℕ) → s ≡ WordWrite k j → ⊥) → spot_of s ≡ word_write m i → ⊥
no_write (WordWrite k j) m i other e = other k j refl
no_write (Line n) m i other e = cc
no_write (Node n k) m i other e = cc
no_write (WordRead k j) m i other e = cc

abbrev memory_of : Spot → ℕ
memory_of (line n) = 0
memory_of (node n c) = 0
memory_of (word_read k j) = 0
memory_of (word_write k j) = k

abbrev index_of : Spot → ℕ
index_of (line n) = 0
index_of (node n c) = 0
index_of (word_read k j) = 0
index_of (word_write k j) = j

-- a note of a word that is written
module _ (before old new : WrittenState) (ns : List Note) (n : Note) (m i : ℕ) (is : n.spot ≡ word_write m i) (first : new.first ≡ old.first) (ranges : new.ranges ≡ old.ranges)
    (words : (k j : ℕ) → has_word new k j ≡ (has_word old k j || (is_followed old k j && ((m == k) && (i == j))))) (h : HasListed before ns old) where
  followed_same : (k j : ℕ) → is_followed new k j ≡ is_followed old k j
  followed_same k j = ap₂ (λ f r. followed_by f r old k j) first ranges

  stays : (k j : ℕ) → has_word old k j ≡ true → has_word new k j ≡ true
  stays k j e = words k j ∙ or_left (has_word old k j) _ e

  named : (k j : ℕ) → is_followed new k j ≡ true → n.spot ≡ word_write k j → has_word new k j ≡ true
  named k j f e =
      let same : word_write m i ≡ word_write k j = sym is ∙ e in
      words k j ∙ or_right (has_word old k j) _ (and_from (is_followed old k j) _ (sym (followed_same k j) ∙ f) (and_from (m == k) (i == j) (eq-eqb m k (ap memory_of same)) (eq-eqb i j (ap index_of same))))

  pub word_listed : HasListed before (ns ++ n ∷ []) new
  word_listed =
      record {
        first = first ∙ h.first;
        ranges = ranges ∙ h.ranges;
        kept = λ k j e. stays k j (h.kept k j e);
        noted = λ k j f g. ⊎_elim (λ o. stays k j (h.noted k j (sym (followed_same k j) ∙ f) o)) (named k j f) (last_note (word_write k j) ns n g);
      }
