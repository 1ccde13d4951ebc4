-- When what a store has of its signals is what is known of the cells of a design, and what its calls keep of that.
use Rattle.std.specs.Prelude.{◌≡◌, ℕ, ◌<◌, ◌≤◌, ◌==◌, Bool, true, false, if◌then◌else◌, List, length, map, slice_set}
use Rattle.body_replay.specs.known_state.Partly.{Partly, is_whole}
use Rattle.design_model.specs.Design.{Design, signal_at, signal_cells}
use Rattle.body_replay.specs.KnownBits.{all_sure}
use Rattle.body_replay.specs.Store.{Kept, KnownWrite, keep_all, weaken, write_bits, writes_of}
use Rattle.body_replay.specs.Replay.{part_blame}
use Rattle.value_store.specs.Signals.{Signals, kept_at, shape_at, shape_of}
use Rattle.value_store.specs.Parts.{part_written, updated}

-- the vector has the bits of the signal, as they are known, and its blame where not all are sure
pub record IsSignal (d : Design) (k : Kept) (blame : ℕ → ℕ) (s : ℕ) (q : Partly) : Type 0 where
  pub bits : q.bits ≡ map k (signal_cells d s)
  pub blamed : is_whole q ≡ false → q.blame ≡ blame s

-- the store has the signals of the design, and keeps what is known of them, with these blames
pub record HoldsSignals (d : Design) (k : Kept) (blame : ℕ → ℕ) (v : Signals) : Type 0 where
  pub shapes : v.shapes ≡ map shape_of d.signals
  pub count : length v.kept ≡ length d.signals
  pub each : (s : ℕ) → s < length d.signals → IsSignal d k blame s (kept_at v s)

-- the signals with another value kept of one
abbrev pub with_kept : Signals → ℕ → Partly → Signals
with_kept v s q = record v { kept = slice_set v.kept s q }

-- the writes, or where they are not certain the same writes, none of them certain
abbrev pub if_certain : Bool → List KnownWrite → List KnownWrite
if_certain true ws = ws
if_certain false ws = weaken ws

-- the blames after a blocking write of this value to a whole signal
abbrev pub whole_blame : ℕ → Partly → (ℕ → ℕ) → ℕ → ℕ
whole_blame s p old x = if s == x then p.blame else old x

-- the blames after a blocking write of this value to a part of a signal, by this index
abbrev pub after_part : ℕ → Partly → Partly → (ℕ → ℕ) → ℕ → ℕ
after_part s i p old x = if s == x then part_blame (all_sure i.bits) (all_sure p.bits) i.blame p.blame (old x) else old x

-- each signal is to blame for itself
abbrev pub itself : ℕ → ℕ
itself s = s

-- a value that is set is what a blocking assignment to the whole signal leaves
abbrev pub SetLaw : Type 0
SetLaw =
    (d : Design) (k : Kept) (blame : ℕ → ℕ) (v : Signals) (s : ℕ) (p : Partly) → s < length d.signals → length p.bits ≡ (signal_at d s).width
    → HoldsSignals d k blame v → HoldsSignals d (keep_all k (writes_of (signal_cells d s) p.bits)) (whole_blame s p blame) (with_kept v s p)

-- a part that is set is what a blocking assignment to the part leaves
abbrev pub SetPartLaw : Type 0
SetPartLaw =
    (d : Design) (k : Kept) (blame : ℕ → ℕ) (v : Signals) (s : ℕ) (i p : Partly) → s < length d.signals → 1 ≤ length p.bits
    → HoldsSignals d k blame v → HoldsSignals d (keep_all k (write_bits d s i.signed i.bits p.bits)) (after_part s i p blame) (with_kept v s (part_written (shape_at v s).range i p (kept_at v s)))

-- an update is what the queued writes of a nonblocking assignment to the whole signal leave
abbrev pub UpdateLaw : Type 0
UpdateLaw =
    (d : Design) (k : Kept) (v : Signals) (s : ℕ) (p : Partly) (certain : Bool) → s < length d.signals → length p.bits ≡ (signal_at d s).width
    → HoldsSignals d k itself v → HoldsSignals d (keep_all k (if_certain certain (writes_of (signal_cells d s) p.bits))) itself (with_kept v s (updated certain s p (kept_at v s)))

-- an update of a part is what the queued writes of a nonblocking assignment to the part leave
abbrev pub UpdatePartLaw : Type 0
UpdatePartLaw =
    (d : Design) (k : Kept) (v : Signals) (s : ℕ) (i p : Partly) (certain : Bool) → s < length d.signals → 1 ≤ length p.bits
    → HoldsSignals d k itself v
    → HoldsSignals d (keep_all k (if_certain certain (write_bits d s i.signed i.bits p.bits))) itself (with_kept v s (updated certain s (part_written (shape_at v s).range i p (kept_at v s)) (kept_at v s)))
