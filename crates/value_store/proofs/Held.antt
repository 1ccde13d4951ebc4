-- What the calls of a store leave of what is known of the cells of a design.
use Rattle.std.proofs.Common.{◌≡◌, ℕ, ◌<◌, ◌==◌, Bool, true, false, if◌then◌else◌, length, map, get_or, set, replicate, refl, sym, ap, ap₂, subst, ◌∙◌, ◌≢◌, arith, eq-eqb, length-set, get_or-set_same, get_or-set_other}
use Rattle.std.proofs.lemmas.Bool.{eqb-true, eqb-false}
use Rattle.std.proofs.lemmas.List.{get_or-map}
use Rattle.body_replay.specs.known_state.Partly.{Partly, is_whole, with_blame}
use Rattle.body_replay.specs.known_state.Join.{joined}
use Rattle.design_model.specs.Design.{Design, no_signal, signal_at, signal_cells}
use Rattle.design_model.specs.declared.design.Range.{Range}
use Rattle.design_model.specs.Assignment.{signal_range}
use Rattle.body_replay.specs.KnownBits.{all_sure}
use Rattle.body_replay.specs.Store.{Kept, keep_all, write_bits, writes_of}
use Rattle.body_replay.specs.Replay.{part_blame}
use Rattle.body_replay.proofs.Answered.{same_sure}
use Rattle.body_replay.proofs.Stored.{signal_stored, weak_signal_stored}
use Rattle.value_store.specs.Signals.{Shape, Signals, kept_at, no_shape, no_value, shape_at, shape_of}
use Rattle.value_store.specs.Parts.{common_bits, part_written, placed_bits, whole_offset, updated}
use Rattle.value_store.specs.Held.{HoldsSignals, IsSignal, SetLaw, SetPartLaw, UpdateLaw, UpdatePartLaw, after_part, if_certain, itself, whole_blame, with_kept}
use Rattle.value_store.proofs.Left.{bits_after, part_left, part_weak, placed_unsure}
use Rattle.value_store.proofs.Missed.{part_missed, whole_missed}

shape_is : (d : Design) (k : Kept) (blame : ℕ → ℕ) (v : Signals) (s : ℕ) → s < length d.signals → HoldsSignals d k blame v → shape_at v s ≡ shape_of (signal_at d s)
shape_is d k blame v s l h = ap (λ xs. get_or xs s no_shape) h.shapes ∙ get_or-map shape_of d.signals s no_signal no_shape l

-- one signal has another value, and the others are left
module _ (d : Design) (k after : Kept) (blame blames : ℕ → ℕ) (v : Signals) (s : ℕ) (q : Partly) (l : s < length d.signals) (h : HoldsSignals d k blame v) (here : IsSignal d after blames s q) (there : (x : ℕ) → (s == x) ≡ false → map after (signal_cells d x) ≡ map k (signal_cells d x)) (same : (x : ℕ) → (s == x) ≡ false → blames x ≡ blame x) where
  at : (x : ℕ) → x < length d.signals → (t : Bool) → (s == x) ≡ t → IsSignal d after blames x (get_or (set v.kept s q) x no_value)
  at x m true e =
      let is : s ≡ x = eqb-true s x e in
      let fits : s < length v.kept = omega (arith, l, h.count) in
      subst (λ y. IsSignal d after blames y (get_or (set v.kept s q) y no_value)) is (subst (IsSignal d after blames s) (sym (get_or-set_same v.kept s q no_value fits)) here)
  at x m false e =
      let differ : x ≢ s = λ is. eqb-false s x e (sym is) in
      let old : IsSignal d k blame x (get_or v.kept x no_value) = h.each x m in
      subst (IsSignal d after blames x) (sym (get_or-set_other v.kept s x q no_value differ)) (record { bits = old.bits ∙ sym (there x e); blamed = λ u. old.blamed u ∙ sym (same x e) })

  pub one_kept : HoldsSignals d after blames (with_kept v s q)
  one_kept = record { shapes = h.shapes; count = length-set v.kept s q ∙ h.count; each = λ x m. at x m (s == x) refl }

same_number : (s : ℕ) → (s == s) ≡ true
same_number s = eq-eqb s s refl

pub set_law : SetLaw
set_law d k blame v s p l size h =
    one_kept d k (keep_all k (writes_of (signal_cells d s) p.bits)) blame (whole_blame s p blame) v s p l h
    (record { bits = sym (signal_stored d s k p.bits size); blamed = λ u. sym (ap (λ t. if t then p.blame else blame s) (same_number s)) })
    (λ x e. whole_missed d s x e k true p.bits)
    (λ x e. ap (λ t. if t then p.blame else blame x) e)

-- the bits of a vector are known by this shape
bits_written : (d : Design) (s : ℕ) (i p q : Partly) (k : Kept) (r : Shape) → r ≡ shape_of (signal_at d s) → q.bits ≡ map k (signal_cells d s) → (part_written r.range i p q).bits ≡ bits_after d s i p.bits (map k (signal_cells d s))
bits_written d s i p q k r shape e = ap (λ x. (part_written x.range i p q).bits) shape ∙ go (is_whole i) ∙ ap (bits_after d s i p.bits) e
  where
    go : (t : Bool) → (let w : Partly = (if t then with_blame (placed_bits q.bits p.bits (whole_offset (signal_range d s) i)) q.signed (if is_whole p then q.blame else p.blame) else with_blame (joined q.bits (replicate (length q.bits) (common_bits p.bits))) q.signed i.blame) in w).bits ≡ (if t then placed_bits q.bits p.bits (whole_offset (signal_range d s) i) else joined q.bits (replicate (length q.bits) (common_bits p.bits)))
    go true = refl
    go false = refl

-- what a part leaves, by whether the index and the part are whole
abbrev left_by : Range → Partly → Partly → Partly → Bool → Bool → Partly
left_by r i p q t u =
    if t then with_blame (placed_bits q.bits p.bits (whole_offset r i)) q.signed (if u then q.blame else p.blame) else with_blame (joined q.bits (replicate (length q.bits) (common_bits p.bits))) q.signed i.blame

blamed_by : (r : Range) (i p q : Partly) (old : ℕ) → (is_whole q ≡ false → q.blame ≡ old) → (t u : Bool) → is_whole p ≡ u → is_whole (left_by r i p q t u) ≡ false → (left_by r i p q t u).blame ≡ part_blame t u i.blame p.blame old
blamed_by r i p q old blamed true true e h = ap (λ z. if z then 0 else q.blame) h ∙ blamed (placed_unsure q.bits p.bits (whole_offset r i) h e)
blamed_by r i p q old blamed true false e h = ap (λ z. if z then 0 else p.blame) h
blamed_by r i p q old blamed false u e h = ap (λ z. if z then 0 else i.blame) h

-- what is to blame where not all bits are sure
part_blamed : (r : Range) (i p q : Partly) (old : ℕ) → (is_whole q ≡ false → q.blame ≡ old) → is_whole (part_written r i p q) ≡ false → (part_written r i p q).blame ≡ part_blame (all_sure i.bits) (all_sure p.bits) i.blame p.blame old
part_blamed r i p q old blamed un =
    blamed_by r i p q old blamed (is_whole i) (is_whole p) refl un ∙ sym (ap₂ (λ t u. part_blame t u i.blame p.blame old) (same_sure i.bits) (same_sure p.bits))

pub set_part_law : SetPartLaw
set_part_law d k blame v s i p l some h =
    let q : Partly = kept_at v s in
    let old : IsSignal d k blame s q = h.each s l in
    one_kept d k (keep_all k (write_bits d s i.signed i.bits p.bits)) blame (after_part s i p blame) v s (part_written (shape_at v s).range i p q) l h
    (record {
      bits = bits_written d s i p q k (shape_at v s) (shape_is d k blame v s l h) old.bits ∙ sym (part_left d s k i p.bits some);
      blamed = λ u. part_blamed (shape_at v s).range i p q (blame s) old.blamed u ∙ sym (ap (λ t. if t then part_blame (all_sure i.bits) (all_sure p.bits) i.blame p.blame (blame s) else blame s) (same_number s));
    })
    (λ x e. part_missed d s x e k true i.signed i.bits p.bits)
    (λ x e. ap (λ t. if t then part_blame (all_sure i.bits) (all_sure p.bits) i.blame p.blame (blame x) else blame x) e)

-- an update, from what certain and uncertain writes leave
update_held : (d : Design) (k : Kept) (ws : Bool → Kept) (v : Signals) (s : ℕ) (new : Partly) (certain : Bool) → s < length d.signals → HoldsSignals d k itself v → map (ws true) (signal_cells d s) ≡ new.bits → map (ws false) (signal_cells d s) ≡ joined (map k (signal_cells d s)) new.bits → ((x : ℕ) → (s == x) ≡ false → map (ws certain) (signal_cells d x) ≡ map k (signal_cells d x)) → HoldsSignals d (ws certain) itself (with_kept v s (updated certain s new (kept_at v s)))
update_held d k ws v s new certain l h sure weak there =
    one_kept d k (ws certain) itself itself v s (updated certain s new (kept_at v s)) l h (here certain) there (λ x e. refl)
  where
    here : (t : Bool) → IsSignal d (ws t) itself s (updated t s new (kept_at v s))
    here true = record { bits = sym sure; blamed = λ u. ap (λ z. if z then 0 else s) u }
    here false = record { bits = ap (λ z. joined z new.bits) (h.each s l).bits ∙ sym weak; blamed = λ u. ap (λ z. if z then 0 else s) u }

pub update_law : UpdateLaw
update_law d k v s p certain l size h =
    update_held d k (λ t. keep_all k (if_certain t (writes_of (signal_cells d s) p.bits))) v s p certain l h (signal_stored d s k p.bits size) (weak_signal_stored d s k p.bits size) (λ x e. whole_missed d s x e k certain p.bits)

pub update_part_law : UpdatePartLaw
update_part_law d k v s i p certain l some h =
    let q : Partly = kept_at v s in
    let new : Partly = part_written (shape_at v s).range i p q in
    let is = bits_written d s i p q k (shape_at v s) (shape_is d k itself v s l h) (h.each s l).bits in
    update_held d k (λ t. keep_all k (if_certain t (write_bits d s i.signed i.bits p.bits))) v s new certain l h
    (part_left d s k i p.bits some ∙ sym is)
    (part_weak d s k i p.bits some ∙ ap (joined (map k (signal_cells d s))) (sym is))
    (λ x e. part_missed d s x e k certain i.signed i.bits p.bits)
