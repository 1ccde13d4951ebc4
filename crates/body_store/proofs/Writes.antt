-- What bodies read after a blocking write to a signal or to a part of one.
use Rattle.std.proofs.Common.{◌≡◌, ℕ, ◌<◌, ◌≤◌, ◌==◌, Bool, true, false, if◌then◌else◌, List, length, map, replicate, Option, refl, sym, ap, ap₂, ◌∙◌, arith, eq-eqb}
use Rattle.std.specs.Prelude.{nat_lt}
use Rattle.std.specs.Option.{unwrap_or}
use Rattle.std.proofs.lemmas.Bool.Decides.{nat_tests}
use Rattle.known_state.specs.Join.{joined}
use Rattle.known_state.specs.Partly.{Partly, is_whole, with_blame}
use Rattle.design_model.specs.declared.design.Design as m
use Rattle.design_model.specs.declared.design.Range.{Range}
use Rattle.design_model.specs.Assignment.{signal_range}
use Rattle.design_model.specs.Design.{Design, signal_at, signal_cells}
use Rattle.design_model.specs.View.{design_view}
use Rattle.body_calls.specs.body_replay.KnownBits.{KnownBits, all_sure}
use Rattle.body_calls.specs.body_replay.Store.{Kept, keep_all, write_bits, writes_of}
use Rattle.body_calls.proofs.body_replay.Answered.{same_sure}
use Rattle.body_calls.proofs.body_replay.Stored.{signal_stored}
use Rattle.word_log.specs.memory_rebuild.Words.{KnownWords}
use Rattle.write_log.specs.value_store.Parts.{common_bits, part_written, placed_bits, whole_offset}
use Rattle.write_log.specs.value_store.Signals as s
use Rattle.write_log.specs.value_store.Signals.{Shape, Signals, read_at, shape_at}
use Rattle.write_log.proofs.value_store.Left.{bits_after, joined_self, part_left}
use Rattle.body_calls.specs.Lvalues.{Like, written}
use Rattle.body_calls.specs.declared.lvalue.Lvalue.TheVariants.{Part, Signal}
use Rattle.word_log.specs.declared.memory.StoredMemory.{StoredMemory}
use Rattle.body_store.specs.Fitting.{memory_in}
use Rattle.body_store.specs.Scenes.{blames_by, kept_by, scene_with}
use Rattle.body_store.proofs.Alike.{like_one}
use Rattle.body_store.proofs.Fit.{shape_is, width_is}
use Rattle.body_store.proofs.Inside.{inside_part, inside_whole}
use Rattle.body_store.proofs.Rows.{signal_row}

module _ (m : m.Design) (rs : List StoredMemory) (v v' : Signals) (x : ℕ) (q : Partly) (shapes : v.shapes ≡ map s.shape_of m.signals) (l : x < length m.signals) (fits : length (read_at v x).bits ≡ (shape_at v x).width) (reads : (y : ℕ) → read_at v' y ≡ (if x == y then q else read_at v y)) where
  abbrev d : Design
  d = design_view m

  abbrev words : ℕ → KnownWords
  words i = (memory_in rs i).words

  abbrev k : Kept
  k = kept_by (length m.signals) (read_at v) words

  abbrev old_blame : ℕ → ℕ
  old_blame = (blames_by (length m.signals) (read_at v) (λ i. (memory_in rs i).written)).blame

  size : length (read_at v x).bits ≡ (signal_at d x).width
  size = width_is d v x (read_at v x) shapes l fits

  itself : (x == x) ≡ true
  itself = eq-eqb x x refl

  new_here : read_at v' x ≡ q
  new_here = reads x ∙ ap (λ t. if t then q else read_at v x) itself

  others : (y : ℕ) → (x == y) ≡ false → read_at v' y ≡ read_at v y
  others y e = reads y ∙ ap (λ t. if t then q else read_at v y) e

  old_here : old_blame x ≡ (read_at v x).blame
  old_here = let yes : nat_lt x (length m.signals) ≡ true = grind (arith, nat_tests, l) in ap (λ t. if t then (read_at v x).blame else x) yes

  -- ---- a whole signal

  module _ (ps : KnownBits) (signed : Bool) (blame : Option ℕ) (wide : length ps ≡ (signal_at d x).width) (is : q ≡ with_blame ps signed (unwrap_or blame (read_at v x).blame)) where
    whole_here : is_whole (read_at v' x) ≡ false → (read_at v' x).blame ≡ (if x == x then unwrap_or blame (old_blame x) else old_blame x)
    whole_here u =
        ap (λ y. y.blame) (new_here ∙ is)
        ∙ ap (λ t. if t then 0 else unwrap_or blame (read_at v x).blame) (ap is_whole (sym (new_here ∙ is)) ∙ u)
        ∙ ap (unwrap_or blame) (sym old_here)
        ∙ ap (λ t. if t then unwrap_or blame (old_blame x) else old_blame x) (sym itself)

    pub whole_like : Like (written (Signal x) ps blame (scene_with m rs (read_at v))) (scene_with m rs (read_at v'))
    whole_like =
        like_one d (length m.signals) x (read_at v) (read_at v') words (λ i. (memory_in rs i).written) (writes_of (signal_cells d x) ps) (λ y. if x == y then unwrap_or blame (old_blame y) else old_blame y) refl l size
        (ap (λ y. length y.bits) (new_here ∙ is) ∙ wide) others (inside_whole d x ps) (ap (λ y. y.bits) (new_here ∙ is) ∙ sym (signal_stored d x k ps wide)) whole_here
        (λ y e. ap (λ t. if t then unwrap_or blame (old_blame y) else old_blame y) e)

  -- ---- a part of a signal

  -- the bits that are left
  part_bits : (r : Range) (i p o : Partly) → r ≡ signal_range d x → (part_written r i p o).bits ≡ bits_after d x i p.bits o.bits
  part_bits r i p o e = ap (λ z. (part_written z i p o).bits) e ∙ go (is_whole i)
    where
      go : (t : Bool) → (let w : Partly = (if t then with_blame (placed_bits o.bits p.bits (whole_offset (signal_range d x) i)) o.signed (if is_whole p then o.blame else p.blame) else with_blame (joined o.bits (replicate (length o.bits) (common_bits p.bits))) o.signed i.blame) in w.bits) ≡ (if t then placed_bits o.bits p.bits (whole_offset (signal_range d x) i) else joined o.bits (replicate (length o.bits) (common_bits p.bits)))
      go true = refl
      go false = refl

  module _ (low part new : Partly) (thing : ℕ) (blame : Option ℕ) (some : 1 ≤ length part.bits) (left : new ≡ part_written (shape_at v x).range low part (read_at v x)) (wide : length new.bits ≡ (shape_at v x).width) (is : q ≡ with_blame (joined new.bits new.bits) new.signed thing) (blamed : thing ≡ (if is_whole low then unwrap_or blame (read_at v x).blame else low.blame)) where
    bits_here : (read_at v' x).bits ≡ new.bits
    bits_here = ap (λ y. y.bits) (new_here ∙ is) ∙ joined_self new.bits

    bits_left : (read_at v' x).bits ≡ map (keep_all k (write_bits d x low.signed low.bits part.bits)) (signal_cells d x)
    bits_left =
        bits_here ∙ ap (λ y. y.bits) left ∙ part_bits (shape_at v x).range low part (read_at v x) (ap (λ y. y.range) (shape_is d v x shapes l))
        ∙ ap (bits_after d x low part.bits) (signal_row (length m.signals) (read_at v) words d x l size) ∙ sym (part_left d x k low part.bits some)

    abbrev new_blame : ℕ → ℕ
    new_blame y = if x == y then (if all_sure low.bits then unwrap_or blame (old_blame y) else low.blame) else old_blame y

    part_here : is_whole (read_at v' x) ≡ false → (read_at v' x).blame ≡ new_blame x
    part_here u =
        ap (λ y. y.blame) (new_here ∙ is) ∙ ap (λ t. if t then 0 else thing) (ap is_whole (sym (new_here ∙ is)) ∙ u) ∙ blamed
        ∙ ap₂ (λ t b. if t then unwrap_or blame b else low.blame) (sym (same_sure low.bits)) (sym old_here)
        ∙ ap (λ t. if t then (if all_sure low.bits then unwrap_or blame (old_blame x) else low.blame) else old_blame x) (sym itself)

    pub part_like : Like (written (Part x low) part.bits blame (scene_with m rs (read_at v))) (scene_with m rs (read_at v'))
    part_like =
        like_one d (length m.signals) x (read_at v) (read_at v') words (λ i. (memory_in rs i).written) (write_bits d x low.signed low.bits part.bits) new_blame refl l size
        (ap length bits_here ∙ width_is d v x new shapes l wide) others (inside_part d x low.signed low.bits part.bits) bits_left part_here
        (λ y e. ap (λ t. if t then (if all_sure low.bits then unwrap_or blame (old_blame y) else low.blame) else old_blame y) e)
