-- What a write of a part of an assignment leaves of what bodies read.
use Rattle.std.specs.Prelude.{◌≡◌, ◌<◌, ◌≤◌, ◌==◌, ◌&&◌, ◌||◌, ◌++◌, ℕ, Bool, true, false, if◌then◌else◌, List, length, map, nat_lt, Option}
use Rattle.std.specs.Option.{unwrap_or}
use Rattle.term_replay.specs.design_model.Design.{Design, is_memory, memory_at, signal_at, signal_cells}
use Rattle.term_replay.specs.body_replay.KnownBits.{KnownBits, all_sure}
use Rattle.term_replay.specs.body_replay.Store.{KnownWrite, keep_all, weaken, write_bits, write_word, writes_of}
use Rattle.term_replay.specs.Stands.{Scene}
use Rattle.body_calls.specs.declared.lvalue.Lvalue.{Lvalue}
use Rattle.body_calls.specs.declared.lvalue.Lvalue.TheVariants.{Part, Signal, Word}

-- the signal or memory that is written
abbrev pub written_thing : Lvalue → ℕ
written_thing (Signal s) = s
written_thing (Part s low) = s
written_thing (Word m i) = m

-- it names a signal or memory of the design, and takes so many bits
abbrev pub Takes : Design → Lvalue → ℕ → Type 0
Takes d (Signal s) n = (s < length d.signals) × (n ≡ (signal_at d s).width)
Takes d (Part s low) n = (s < length d.signals) × (1 ≤ n)
Takes d (Word m i) n = (is_memory d m ≡ true) × (n ≡ (memory_at d m).width)

-- the writes that put these bits into it
abbrev pub lvalue_writes : Design → Lvalue → KnownBits → List KnownWrite
lvalue_writes d (Signal s) ps = writes_of (signal_cells d s) ps
lvalue_writes d (Part s low) ps = write_bits d s low.signed low.bits ps
lvalue_writes d (Word m i) ps = write_word d m i.signed i.bits ps

-- the blames after a blocking write of a part of a value with this blame, if the value is not wholly sure
abbrev pub lvalue_blames : Lvalue → Option ℕ → (ℕ → ℕ) → ℕ → ℕ
lvalue_blames (Signal s) blame old x = if s == x then unwrap_or blame (old x) else old x
lvalue_blames (Part s low) blame old x = if s == x then (if all_sure low.bits then unwrap_or blame (old x) else low.blame) else old x
lvalue_blames (Word m i) blame old x = old x

-- it is a word of this memory
abbrev pub is_word_of : Lvalue → ℕ → Bool
is_word_of (Signal s) x = false
is_word_of (Part s low) x = false
is_word_of (Word m i) x = m == x

-- what bodies read after a blocking write of these bits of a value with this blame, if the value is not wholly sure
abbrev pub written : Lvalue → KnownBits → Option ℕ → Scene → Scene
written x ps blame v =
    record v {
      kept = keep_all v.kept (lvalue_writes v.design x ps);
      blames = record { blame = lvalue_blames x blame v.blames.blame; wrote = λ m. v.blames.wrote m || is_word_of x m };
    }

-- the writes, or where they are not certain the same writes, none of them certain
abbrev pub if_certain : Bool → List KnownWrite → List KnownWrite
if_certain true ws = ws
if_certain false ws = weaken ws

-- a signal of which all bits are sure
abbrev pub is_sure_signal : Scene → ℕ → Bool
is_sure_signal v x = nat_lt x (length v.design.signals) && all_sure (map v.kept (signal_cells v.design x))

-- bodies do not distinguish the two: only signals of which all bits are sure, which are never to blame, may differ in their blame
pub record Like (v w : Scene) : Type 0 where
  pub design : w.design ≡ v.design
  pub kept : w.kept ≡ v.kept
  pub wrote : (m : ℕ) → w.blames.wrote m ≡ v.blames.wrote m
  pub blame : (x : ℕ) → is_sure_signal v x ≡ false → w.blames.blame x ≡ v.blames.blame x
