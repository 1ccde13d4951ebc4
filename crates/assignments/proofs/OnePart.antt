-- A blocking write of one part, by the blame of its value and by what the store is given of that.
use Rattle.std.proofs.Common.{Bool, List, None, Option, Some, [], ap, ap₂, eqb-true, false, if◌then◌else◌, leb-true, length, le-ltb, lt-ltb, map, nat_lt, refl, subst, sym, true, ℕ, ◌&&◌, ◌||◌, ◌<◌, ◌==◌, ◌∙◌, ◌∷◌, ◌≡◌, ℤ, neg_ℤ}
use Rattle.std.proofs.lemmas.Bool.{and_parts, true≢false}
use Rattle.std.specs.Prelude.{nat_le}
use Rattle.std.specs.Option.{unwrap_or}
use Rattle.value_store.specs.four_state.declared.bit.Bit.{Bit}
use Rattle.value_store.specs.four_state.declared.bit.Bit.TheVariants.{One, Zero}
use Rattle.value_store.specs.four_state.Parts.{bits_with, index}
use Rattle.known_state.proofs.Allowed.{whole_filled}
use Rattle.known_state.specs.Join.{joined}
use Rattle.design_model.specs.Design.{Design, is_memory, signal_at, signal_cells}
use Rattle.design_model.specs.Value.{offset_option}
use Rattle.design_model.specs.Assignment.{signal_range}
use Rattle.value_store.specs.body_replay.KnownBits.{KnownBits, all_sure, sure}
use Rattle.value_store.specs.body_replay.Store.{Kept, keep_all, known_bit_option, perhaps_cells, write_bits}
use Rattle.value_store.specs.body_replay.Replay.{part_blame}
use Rattle.value_store.proofs.body_replay.Exact.{on_sure}
use Rattle.value_store.proofs.body_replay.Frames.{join_self}
use Rattle.value_store.proofs.body_replay.Stored.{known_with, part_stored, signal_stored, with_moved}
use Rattle.value_store.proofs.body_replay.Unsure.{all_sure_is, one_unsure}
use Rattle.scene_laws.specs.term_replay.Stands.{Scene}
use Rattle.scene_laws.specs.body_calls.Lvalues.{Like, Takes, is_sure_signal, is_word_of, lvalue_blames, lvalue_writes, written, written_thing}
use Rattle.scene_laws.specs.body_calls.declared.lvalue.Lvalue.{Lvalue}
use Rattle.scene_laws.specs.body_calls.declared.lvalue.Lvalue.TheVariants.{Part, Signal, Word}
use Rattle.assignments.specs.Pieces.{assigned, assigned_blames, blame_option}
use Rattle.assignments.proofs.Others.{other_signal}

joined_self : (ps : KnownBits) → joined ps ps ≡ ps
joined_self [] = refl
joined_self (p ∷ ps) = ap₂ (λ x y. x ∷ y) (join_self p) (joined_self ps)

sure_with : (bs cs : List Bit) (z : ℤ) → known_with (sure bs) (sure cs) z ≡ sure (bits_with bs cs z)
sure_with bs cs z =
    sym (with_moved (sure bs) (sure cs) z) ∙ ap₂ (λ x y. joined (sure x) (sure y)) (ap₂ (λ x y. bits_with x y z) (whole_filled Zero bs) (whole_filled Zero cs)) (ap₂ (λ x y. bits_with x y z) (whole_filled One bs) (whole_filled One cs)) ∙ joined_self (sure (bits_with bs cs z))

-- one test of two that fails
and_less : (b p q : Bool) → (p ≡ false → q ≡ false) → (b && p) ≡ false → (b && q) ≡ false
and_less true p q f e = f e
and_less false p q f e = refl

-- a sure part that is placed leaves what is sure sure
part_unsure : (d : Design) (k : Kept) (s : ℕ) (g : Bool) (is ps : KnownBits) → all_sure is ≡ true → all_sure ps ≡ true → all_sure (map (keep_all k (write_bits d s g is ps)) (signal_cells d s)) ≡ false → all_sure (map k (signal_cells d s)) ≡ false
part_unsure d k s g is ps index_sure sharp u =
    let t = all_sure_is is index_sure in
    let same = ap (λ z. write_bits d s g z ps) t.1 ∙ on_sure t.0 (λ bs. known_bit_option s (signal_at d s).width (offset_option (signal_range d s) (index g bs)) ps) (perhaps_cells (signal_cells d s) ps) in
    go (offset_option (signal_range d s) (index g t.0)) (sym (ap (λ ws. all_sure (map (keep_all k ws) (signal_cells d s))) same) ∙ u)
  where
    placed : (from : ℤ) → (qs : KnownBits) → all_sure (known_with qs ps (neg_ℤ from)) ≡ false → all_sure qs ≡ false
    placed from qs n =
        let p = all_sure_is ps sharp in
        one_unsure (λ q. known_with q ps (neg_ℤ from)) (λ bs. (bits_with bs p.0 (neg_ℤ from), ap (λ z. known_with (sure bs) z (neg_ℤ from)) p.1 ∙ sure_with bs p.0 (neg_ℤ from))) qs n

    go : (o : Option ℤ) → all_sure (map (keep_all k (known_bit_option s (signal_at d s).width o ps)) (signal_cells d s)) ≡ false → all_sure (map k (signal_cells d s)) ≡ false
    go None n = n
    go (Some from) n = placed from (map k (signal_cells d s)) (sym (ap all_sure (part_stored d s k ps from)) ∙ n)

module _ (v w : Scene) (h : Like v w) (ps : KnownBits) (value_sure : Bool) (thing : ℕ) (sharp : value_sure ≡ true → all_sure ps ≡ true) where
  -- a signal that is not written keeps its blame
  kept_blame : (x : Lvalue) (y : ℕ) → (written_thing x == y) ≡ false → is_sure_signal (assigned x ps value_sure thing v) y ≡ false → w.blames.blame y ≡ v.blames.blame y
  kept_blame x y e u = h.blame y (ap (λ qs. nat_lt y (length v.design.signals) && all_sure qs) (sym (other_signal v.design v.kept x ps y e)) ∙ u)

  blame_like : (x : Lvalue) → Takes v.design x (length ps) → (y : ℕ) → is_sure_signal (assigned x ps value_sure thing v) y ≡ false → lvalue_blames x (blame_option value_sure thing) w.blames.blame y ≡ assigned_blames x value_sure thing v.blames.blame y
  blame_like (Signal s) takes y u = go (s == y) refl
    where
      whole : s ≡ y → (b : Bool) → value_sure ≡ b → unwrap_or (blame_option b thing) (w.blames.blame y) ≡ thing
      whole e false q = refl
      whole e true q =
          let is : is_sure_signal (assigned (Signal s) ps value_sure thing v) s ≡ true = ap₂ (λ a b. a && b) (lt-ltb s (length v.design.signals) takes.0) (ap all_sure (signal_stored v.design s v.kept ps takes.1) ∙ sharp q) in
          absurd (true≢false (sym is ∙ ap (is_sure_signal (assigned (Signal s) ps value_sure thing v)) e ∙ u))

      go : (t : Bool) → (s == y) ≡ t → (if t then unwrap_or (blame_option value_sure thing) (w.blames.blame y) else w.blames.blame y) ≡ (if t then thing else v.blames.blame y)
      go true q = whole (eqb-true s y q) value_sure refl
      go false q = kept_blame (Signal s) y q u
  blame_like (Part s low) takes y u = go (s == y) refl
    where
      placed : s ≡ y → all_sure low.bits ≡ true → (b : Bool) → value_sure ≡ b → unwrap_or (blame_option b thing) (w.blames.blame y) ≡ (if b then v.blames.blame y else thing)
      placed e t false q = refl
      placed e t true q =
          let before : all_sure (map (keep_all v.kept (write_bits v.design s low.signed low.bits ps)) (signal_cells v.design s)) ≡ false → all_sure (map v.kept (signal_cells v.design s)) ≡ false = part_unsure v.design v.kept s low.signed low.bits ps t (sharp q) in
          let here : is_sure_signal (assigned (Part s low) ps value_sure thing v) s ≡ false = ap (is_sure_signal (assigned (Part s low) ps value_sure thing v)) e ∙ u in
          ap w.blames.blame (sym e) ∙ h.blame s (and_less (nat_lt s (length v.design.signals)) _ _ before here) ∙ ap v.blames.blame e

      inside : s ≡ y → (t : Bool) → all_sure low.bits ≡ t → (if t then unwrap_or (blame_option value_sure thing) (w.blames.blame y) else low.blame) ≡ part_blame t value_sure low.blame thing (v.blames.blame y)
      inside e true q = placed e q value_sure refl
      inside e false q = refl

      go : (t : Bool) → (s == y) ≡ t → (if t then (if all_sure low.bits then unwrap_or (blame_option value_sure thing) (w.blames.blame y) else low.blame) else w.blames.blame y) ≡ (if t then part_blame (all_sure low.bits) value_sure low.blame thing (v.blames.blame y) else v.blames.blame y)
      go true q = inside (eqb-true s y q) (all_sure low.bits) refl
      go false q = kept_blame (Part s low) y q u
  blame_like (Word m i) takes y u = go (m == y) refl
    where
      go : (t : Bool) → (m == y) ≡ t → w.blames.blame y ≡ v.blames.blame y
      go true q =
          let above : nat_le (length v.design.signals) m ≡ true = (and_parts (nat_le (length v.design.signals) m) _ takes.0).0 in
          let no_signal : nat_lt y (length v.design.signals) ≡ false = ap (λ z. nat_lt z (length v.design.signals)) (sym (eqb-true m y q)) ∙ le-ltb m (length v.design.signals) (leb-true (length v.design.signals) m above) in
          h.blame y (ap (λ t. t && all_sure (map v.kept (signal_cells v.design y))) no_signal)
      go false q = kept_blame (Word m i) y q u

  -- where the scenes are alike before, they are after
  pub written_like : (x : Lvalue) → Takes v.design x (length ps) → Like (assigned x ps value_sure thing v) (written x ps (blame_option value_sure thing) w)
  written_like x takes =
      record {
        design = h.design;
        kept = ap₂ (λ d k. keep_all k (lvalue_writes d x ps)) h.design h.kept;
        wrote = λ m. ap (λ t. t || is_word_of x m) (h.wrote m);
        blame = blame_like x takes;
      }
