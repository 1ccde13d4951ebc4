-- What is read of the smallest design.
use Rattle.std.proofs.Common.{◌≡◌, ◌∙◌, ℕ, ◌<◌, Bool, true, false, cond, List, [], ◌∷◌, Option, None, Some, length, map, refl, ap, arith}
use Rattle.std.specs.Prelude.{nat_le, nat_lt}
use Rattle.std.proofs.lemmas.Bool.{and_parts, leb-true, ltb-true}
use Rattle.four_state.specs.Parts.{index}
use Rattle.four_state.specs.declared.bit.Bit.{Bit}
use Rattle.four_state.specs.declared.bit.Bit.TheVariants.{X}
use Rattle.term_replay.specs.known_state.Join.{joined}
use Rattle.design_model.specs.Design.{is_memory, memory_at, signal_cells}
use Rattle.design_model.specs.Value.{named_word}
use Rattle.term_replay.specs.body_replay.KnownBits.{KnownBits, on_whole, whole_bits}
use Rattle.term_replay.specs.body_replay.Store.{join_words, kept_word, may_name, option_kept, read_word, words}
use Rattle.design_targets.specs.Written.{all_x, smallest_design}

-- it has one signal and one memory
pub only_signal : (s : ℕ) → s < length smallest_design.signals → s ≡ 0
only_signal s l = omega (arith, l)

pub only_memory : (m : ℕ) → is_memory smallest_design m ≡ true → m ≡ 1
only_memory m h =
    let p = and_parts (nat_le 1 m) (nat_lt m 2) h in
    omega (arith, leb-true 1 m p.0, ltb-true m 2 p.1)

-- its signal
pub signal_read : (s : ℕ) → s < length smallest_design.signals → map all_x (signal_cells smallest_design s) ≡ Some X ∷ []
signal_read s l = ap (λ n. map all_x (signal_cells smallest_design n)) (only_signal s l)

either : (b : Bool) (ps qs rs : KnownBits) → ps ≡ rs → qs ≡ rs → cond b ps qs ≡ rs
either true ps qs rs p q = p
either false ps qs rs p q = q

option_read : (k : Option ℕ) → option_kept smallest_design all_x 1 k ≡ Some X ∷ []
option_read None = refl
option_read (Some k) = refl

join_read : (may : ℕ → Bool) → join_words smallest_design all_x 1 may (0 ∷ []) ≡ Some X ∷ []
join_read may = either (may 0) (joined (kept_word smallest_design all_x 1 0) (Some X ∷ [])) (Some X ∷ []) (Some X ∷ []) refl refl

whole_read : (signed : Bool) (ps : KnownBits) (o : Option (List Bit)) → on_whole o (λ is. option_kept smallest_design all_x 1 (named_word (memory_at smallest_design 1) (index signed is))) (join_words smallest_design all_x 1 (may_name (memory_at smallest_design 1) signed ps) (words (memory_at smallest_design 1))) ≡ Some X ∷ []
whole_read signed ps None = join_read (may_name (memory_at smallest_design 1) signed ps)
whole_read signed ps (Some is) = option_read (named_word (memory_at smallest_design 1) (index signed is))

-- a word of its memory, by whatever index
pub word_read : (m : ℕ) (signed : Bool) (ps : KnownBits) → is_memory smallest_design m ≡ true → read_word smallest_design all_x m signed ps ≡ Some X ∷ []
word_read m signed ps h = ap (λ n. read_word smallest_design all_x n signed ps) (only_memory m h) ∙ whole_read signed ps (whole_bits ps)
