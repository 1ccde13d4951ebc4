-- Reads of signals and words, in the walk over a term.
use Rattle.std.proofs.Common.{◌≡◌, ◌∙◌, ℕ, Bool, true, false, if◌then◌else◌, List, Option, Some, None, refl, sym, ap, ap₂}
use Rattle.std.specs.Bool.{OnTrue}
use Rattle.four_state.specs.declared.bit.Bit.{Bit}
use Rattle.four_state.specs.Parts.{index}
use Rattle.known_state.specs.Partly.{Partly, is_whole}
use Rattle.design_model.specs.Design.{memory_at}
use Rattle.design_model.specs.declared.design.Memory.{Memory}
use Rattle.design_model.specs.declared.design.Range.{Range}
use Rattle.design_model.specs.Tree as t
use Rattle.design_model.specs.Value.{head, named_word}
use Rattle.body_replay.specs.KnownBits.{KnownBits, all_sure, on_whole, whole_bits}
use Rattle.body_replay.specs.Store.{known_value, may_name, read_word, words}
use Rattle.body_replay.specs.Replay.{Blames, Spot, blame_of, first_of, named_mark, note, perhaps_marks, word_blame}
use Rattle.body_replay.proofs.Answered.{same_sure}
use Rattle.body_replay.proofs.Unsure.{whole_none}
use Rattle.body_replay.proofs.Steps as s
use Rattle.term_replay.specs.Stands.{Fitted, Scene, Stands, first_after, head_of}
use Rattle.term_replay.specs.Words.{IsOf, marks_of_words}
use Rattle.term_replay.specs.declared.head.TermHead.{TermHead}
use Rattle.term_replay.proofs.Standing.{from_step, to_fit}

-- a read that was not wholly sure, noted
pub noted_is : (q : Partly) (ps : KnownBits) (thing : ℕ) (f : Option ℕ) → q.bits ≡ ps → (is_whole q ≡ false → q.blame ≡ thing) → note (is_whole q) q.blame f ≡ note (all_sure ps) thing f
noted_is q ps thing f e b = go (is_whole q) refl ∙ ap (λ t. note t thing f) (sym (same_sure q.bits) ∙ ap all_sure e)
  where
    go : (t : Bool) → is_whole q ≡ t → note (is_whole q) q.blame f ≡ note (is_whole q) thing f
    go true h = ap (λ t. note t q.blame f) h ∙ sym (ap (λ t. note t thing f) h)
    go false h = ap (λ y. note (is_whole q) y f) (b h)

blame_same : (e : Blames) (m : ℕ) (b : Bool) (l n : ℕ) (first : Option ℕ) → (b ≡ false → l ≡ n) → word_blame e m b l first ≡ word_blame e m b n first
blame_same e m b l n first h = go (e.wrote m) b h
  where
    go : (w b : Bool) → (b ≡ false → l ≡ n) → (if w then first_of first (e.blame m) else (if b then e.blame m else l)) ≡ (if w then first_of first (e.blame m) else (if b then e.blame m else n))
    go true b h = refl
    go false true h = refl
    go false false h = h refl

module _ (v : Scene) (first : Option ℕ) (y : t.Term) (i : Partly) (a : Stands v first y i) (m : ℕ) where
  -- what is read by the index
  pub read_is : read_word v.design v.kept m i.signed i.bits ≡ read_word v.design v.kept m (head y).signed (known_value v.design v.kept y)
  read_is = ap₂ (read_word v.design v.kept m) a.sign_is a.bits

  pub thing_is : (now : Option ℕ) → now ≡ first_after v first y → word_blame v.blames m (is_whole i) i.blame now ≡ word_blame v.blames m (all_sure (known_value v.design v.kept y)) (blame_of v.design v.kept v.blames first y) (first_after v first y)
  thing_is now e =
      blame_same v.blames m (is_whole i) i.blame (blame_of v.design v.kept v.blames first y) now a.blame
      ∙ ap₂ (λ b o. word_blame v.blames m b (blame_of v.design v.kept v.blames first y) o) (sym (same_sure i.bits) ∙ ap all_sure a.bits) e

  pub word_stands : (x : TermHead) (now : Option ℕ) (q r : Partly) → now ≡ first_after v first y → q.bits ≡ read_word v.design v.kept m i.signed i.bits → (is_whole q ≡ false → q.blame ≡ word_blame v.blames m (is_whole i) i.blame now) → Fitted x q r → Stands v first (t.word (head_of x) m y) r
  word_stands x now q r e bits blame f =
      from_step v first _ r (s.word_stands v.design v.kept v.blames first (head_of x) m y q r (bits ∙ read_is) (λ u. blame u ∙ thing_is now e) (to_fit x q r f))

  -- the marks on the words
  pub words_same : (at : ℕ → Spot) → marks_of_words (memory_at v.design m) at i.signed i.bits i.blame ≡ marks_of_words (memory_at v.design m) at (head y).signed (known_value v.design v.kept y) (blame_of v.design v.kept v.blames first y)
  words_same at =
      ap₂ (λ g ps. marks_of_words (memory_at v.design m) at g ps i.blame) a.sign_is a.bits ∙ go (whole_bits (known_value v.design v.kept y)) refl
    where
      go : (o : Option (List Bit)) → whole_bits (known_value v.design v.kept y) ≡ o → on_whole (whole_bits (known_value v.design v.kept y)) (λ is. named_mark at (named_word (memory_at v.design m) (index (head y).signed is))) (perhaps_marks at (may_name (memory_at v.design m) (head y).signed (known_value v.design v.kept y)) (words (memory_at v.design m)) i.blame) ≡ on_whole (whole_bits (known_value v.design v.kept y)) (λ is. named_mark at (named_word (memory_at v.design m) (index (head y).signed is))) (perhaps_marks at (may_name (memory_at v.design m) (head y).signed (known_value v.design v.kept y)) (words (memory_at v.design m)) (blame_of v.design v.kept v.blames first y))
      go (Some bs) e =
          ap (λ o. on_whole o (λ is. named_mark at (named_word (memory_at v.design m) (index (head y).signed is))) (perhaps_marks at (may_name (memory_at v.design m) (head y).signed (known_value v.design v.kept y)) (words (memory_at v.design m)) i.blame)) e
          ∙ sym (ap (λ o. on_whole o (λ is. named_mark at (named_word (memory_at v.design m) (index (head y).signed is))) (perhaps_marks at (may_name (memory_at v.design m) (head y).signed (known_value v.design v.kept y)) (words (memory_at v.design m)) (blame_of v.design v.kept v.blames first y))) e)
      go None e =
          ap (λ b. on_whole (whole_bits (known_value v.design v.kept y)) (λ is. named_mark at (named_word (memory_at v.design m) (index (head y).signed is))) (perhaps_marks at (may_name (memory_at v.design m) (head y).signed (known_value v.design v.kept y)) (words (memory_at v.design m)) b)) (a.blame (sym (same_sure i.bits) ∙ ap all_sure a.bits ∙ whole_none (known_value v.design v.kept y) e))

pub words_of_range : (r : Range) (m : Memory) → r ≡ record { high = m.first; low = m.last } → IsOf r m
words_of_range r m e = record { first = ap (λ y. y.high) e; last = ap (λ y. y.low) e }

pub on_true : {P : Type 0} (b : Bool) → (b ≡ true → P) → OnTrue b P
on_true true f = f refl
on_true false f = tt
