-- The word that a sure index names.
use Rattle.std.proofs.Common.{◌≡◌, inl, inr, ℕ, zero, suc, ◌+◌, ◌-◌, ◌<◌, ◌≤◌, ◌^◌, false, if◌then◌else◌, map, Some, None, max, min, nat_le, sym, ap, subst, ◌∙◌, arith, le-leb}
use Rattle.std.specs.Prelude.{pos}
use Rattle.std.specs.List.{range_with_len}
use Rattle.std.proofs.lemmas.Bool.{and_from}
use Rattle.four_state.specs.Arithmetic.{natural}
use Rattle.four_state.specs.Masks.{bits_of_masks}
use Rattle.four_state.specs.Parts.{index}
use Rattle.four_state.proofs.NumberLaws.{natural_is}
use Rattle.design_model.specs.BodyLaws.{word_indexes}
use Rattle.design_model.specs.Design.{Design, In, memory_at}
use Rattle.design_model.specs.Value.{named_word}
use Rattle.design_model.specs.View.{design_view}
use Rattle.store_knowledge.specs.body_replay.Store.{Kept, join_words, kept_word, may_name, option_kept, read_word, words}
use Rattle.store_knowledge.proofs.body_store.body_replay.Exact.{on_sure}
use Rattle.store_knowledge.specs.Knows.{Knows}
use Rattle.body_store.specs.Held.{HoldsStore}
use Rattle.body_store.specs.Made.{unblamed}
use Rattle.body_store.specs.declared.store.Store.{Store}
use Rattle.body_store.specs.body_replay.Replay.{Blames}
use Rattle.known_state.specs.Partly.{Partly, whole_of}
use Rattle.term_replay.proofs.Numbers.{number_known, ones_of_number}

in_range : (n w i : ℕ) → In i (range_with_len n w) → (n ≤ i) × (i < n + w)
in_range n zero i h = absurd h
in_range n (suc w) i (inl e) = (omega (arith, e), omega (arith, e))
in_range n (suc w) i (inr h) = let r = in_range (n + 1) w i h in let low = r.0 in let high = r.1 in (omega (arith, low), omega (arith, high))

-- an index of a memory names its word
named_so : (d : Design) (m i : ℕ) → In i (word_indexes d m) → named_word (memory_at d m) (Some (pos i)) ≡ Some i
named_so d m i among =
    let first = (memory_at d m).first in
    let last = (memory_at d m).last in
    let r = in_range (min first last) (max first last - min first last + 1) i among in
    let low : min first last ≤ i = r.0 in
    let high : i ≤ max first last = let h = r.1 in omega (arith, h) in
    ap (λ t. if t then Some i else None) (and_from (nat_le (min first last) i) (nat_le i (max first last)) (le-leb (min first last) i low) (le-leb i (max first last) high))

number_is : (w i : ℕ) → i < 2 ^ w → index false (bits_of_masks w i 0) ≡ Some (pos i)
number_is w i small =
    ap (λ t. if t then Some (pos (natural (bits_of_masks w i 0))) else None) (number_known w i)
    ∙ ap (λ n. Some (pos n)) (natural_is (bits_of_masks w i 0) ∙ sym (ones_of_number w i small))

-- what is read by it is the word
pub read_named : (d : Design) (k : Kept) (m i w : ℕ) → i < 2 ^ w → In i (word_indexes d m) → read_word d k m false (map Some (bits_of_masks w i 0)) ≡ kept_word d k m i
read_named d k m i w small among =
    on_sure (bits_of_masks w i 0) (λ is. option_kept d k m (named_word (memory_at d m) (index false is))) (join_words d k m (may_name (memory_at d m) false (map Some (bits_of_masks w i 0))) (words (memory_at d m)))
    ∙ ap (λ o. option_kept d k m (named_word (memory_at d m) o)) (number_is w i small)
    ∙ ap (option_kept d k m) (named_so d m i among)

-- what a store knows of the word
pub word_known : (d : Design) (k : Kept) (x : Store) (m i : ℕ) (q r : Partly) → ((j : Kept) (e : Blames) → HoldsStore (design_view x.design.now) j e x → q.bits ≡ read_word (design_view x.design.now) j m r.signed r.bits)
    → r ≡ whole_of (record { bits = bits_of_masks 32 i 0; signed = false }) → i < 2 ^ 32 → In i (word_indexes (design_view x.design.now) m) → Knows d k x → q.bits ≡ kept_word d k m i
word_known d k x m i q r kept is small among h =
    kept k unblamed (subst (λ e. HoldsStore e k unblamed x) (sym h.design) h.owned)
    ∙ ap (λ (z : Partly). read_word (design_view x.design.now) k m z.signed z.bits) is
    ∙ read_named (design_view x.design.now) k m i 32 small among
    ∙ ap (λ e. kept_word e k m i) h.design
