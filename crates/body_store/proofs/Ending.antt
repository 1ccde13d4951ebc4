-- A store once the run of a body has ended.
use Rattle.std.proofs.Common.{◌≡◌, ℕ, ◌+◌, ◌<◌, ◌≤◌, ◌==◌, true, false, if◌then◌else◌, List, [], ◌∷◌, ◌++◌, length, set, refl, sym, ap, subst, ◌∙◌, arith, eq-eqb, ne_eqb, get_or, ⊎_elim}
use Rattle.std.proofs.lemmas.Bool.{cases_eq}
use Rattle.std.proofs.lemmas.Bool.Decides.{nat_tests}
use Rattle.known_state.specs.Partly.{with_blame}
use Rattle.design_model.specs.declared.design.Memory.{Memory}
use Rattle.design_model.specs.declared.design.Signal.{Signal}
use Rattle.design_model.specs.Design.{Design, no_memory}
use Rattle.body_calls.specs.body_replay.Replay.{Blames}
use Rattle.body_calls.specs.body_replay.Store.{Kept}
use Rattle.word_log.specs.memory_rebuild.Words.{StandsFor}
use Rattle.write_log.specs.value_store.Signals.{Signals, kept_at}
use Rattle.write_log.specs.value_store.Held.{HoldsSignals, IsSignal, with_kept}
use Rattle.write_log.proofs.value_store.Held.{one_kept}
use Rattle.word_log.specs.declared.memory.StoredMemory.{StoredMemory}
use Rattle.body_store.specs.Ended.{ended, settled}
use Rattle.body_store.specs.Fitting.{FitsDesign, FitsWords, memory_in}
use Rattle.body_store.specs.Held.{HoldsMemories, IsMemory}
use Rattle.body_store.proofs.Memories.{fits_set}

-- ---- a signal

pub signal_settled : (d : Design) (k : Kept) (e : Blames) (v : Signals) (s : ℕ) → s < length d.signals → HoldsSignals d k e.blame v → HoldsSignals d k (settled s e).blame (with_kept v s (with_blame (kept_at v s).bits (kept_at v s).signed s))
signal_settled d k e v s l h =
    let old : IsSignal d k e.blame s (kept_at v s) = h.each s l in
    one_kept d k k e.blame (settled s e).blame v s (with_blame (kept_at v s).bits (kept_at v s).signed s) l h
    (record { bits = old.bits; blamed = λ u. ap (λ t. if t then 0 else s) u ∙ sym (ap (λ t. if t then s else e.blame s) (eq-eqb s s refl)) })
    (λ x o. refl)
    (λ x o. ap (λ t. if t then x else e.blame x) o)

pub memories_apart : (d : Design) (k : Kept) (e : Blames) (n : ℕ) (held : ℕ → StoredMemory) (s : ℕ) → s < length d.signals → HoldsMemories d k e n held → HoldsMemories d k (settled s e) n held
memories_apart d k e n held s l h =
    record {
      count = h.count;
      each = λ i b.
          let old : IsMemory d k e (length d.signals + i) (held i) = h.each i b in
          let other : (s == length d.signals + i) ≡ false = grind (arith, nat_tests, l) in
          record { words = old.words; blame = old.blame ∙ sym (ap (λ t. if t then length d.signals + i else e.blame (length d.signals + i)) other); wrote = old.wrote ∙ sym (ap (λ t. if t then false else e.wrote (length d.signals + i)) other) };
    }

-- ---- a memory

pub signals_apart : (d : Design) (k : Kept) (e : Blames) (v : Signals) (m : ℕ) → length d.signals ≤ m → HoldsSignals d k e.blame v → HoldsSignals d k (settled m e).blame v
signals_apart d k e v m l h =
    record {
      shapes = h.shapes;
      count = h.count;
      each = λ s b.
          let old : IsSignal d k e.blame s (kept_at v s) = h.each s b in
          let other : (m == s) ≡ false = grind (arith, nat_tests, l, b) in
          record { bits = old.bits; blamed = λ u. old.blamed u ∙ sym (ap (λ t. if t then s else e.blame s) other) };
    }

-- a flag of a memory says nothing of its shape
pub flag_fits : (ss : List Signal) (ms : List Memory) (v : Signals) (rs : List StoredMemory) (p : ℕ) (new : StoredMemory) → FitsDesign ss ms v rs → new.words ≡ (memory_in rs p).words → FitsDesign ss ms v (set rs p new)
flag_fits ss ms v rs p new fits words =
    fits_set ss ms v rs p new fits (λ l. subst (FitsWords (get_or ms p no_memory) (length ss + p)) (sym words) (fits.each p l))

-- a memory is to blame for itself, and counts as not written
pub memory_settled : (d : Design) (k : Kept) (e : Blames) (n n' : ℕ) (held held' : ℕ → StoredMemory) (p : ℕ) → HoldsMemories d k e n held → n' ≡ n → (p < length d.memories → (held p).words.shape.blame ≡ length d.signals + p) → (held' p).words ≡ (held p).words → (held' p).written ≡ false → ((i : ℕ) → (p == i) ≡ false → held' i ≡ held i) → HoldsMemories d k (settled (length d.signals + p) e) n' held'
memory_settled d k e n n' held held' p h count own words flag others =
    record { count = count ∙ h.count; each = λ i l. ⊎_elim (λ q. here i l q) (λ ne. there i l ne) (cases_eq i p) }
  where
    here : (i : ℕ) → i < length d.memories → i ≡ p → IsMemory d k (settled (length d.signals + p) e) (length d.signals + i) (held' i)
    here i l q =
        let old : IsMemory d k e (length d.signals + i) (held i) = h.each i l in
        let same : (length d.signals + p == length d.signals + i) ≡ true = eq-eqb _ _ (ap (λ j. length d.signals + j) (sym q)) in
        let is : (held' i).words ≡ (held i).words = ap (λ j. (held' j).words) q ∙ words ∙ ap (λ j. (held j).words) (sym q) in
        record {
          words = subst (StandsFor d k (length d.signals + i)) (sym is) old.words;
          blame = ap (λ w. w.shape.blame) is ∙ ap (λ j. (held j).words.shape.blame) q ∙ own (subst (λ j. j < length d.memories) q l) ∙ ap (λ j. length d.signals + j) (sym q) ∙ sym (ap (λ t. if t then length d.signals + i else e.blame (length d.signals + i)) same);
          wrote = ap (λ j. (held' j).written) q ∙ flag ∙ sym (ap (λ t. if t then false else e.wrote (length d.signals + i)) same);
        }

    there : (i : ℕ) → i < length d.memories → (i ≡ p → ⊥) → IsMemory d k (settled (length d.signals + p) e) (length d.signals + i) (held' i)
    there i l ne =
        let old : IsMemory d k e (length d.signals + i) (held i) = h.each i l in
        let other : (length d.signals + p == length d.signals + i) ≡ false = ne_eqb _ _ (λ q. ne (omega (arith, q))) in
        let away : (p == i) ≡ false = ne_eqb p i (λ q. ne (sym q)) in
        subst (IsMemory d k (settled (length d.signals + p) e) (length d.signals + i)) (sym (others i away))
        (record { words = old.words; blame = old.blame ∙ sym (ap (λ t. if t then length d.signals + i else e.blame (length d.signals + i)) other); wrote = old.wrote ∙ sym (ap (λ t. if t then false else e.wrote (length d.signals + i)) other) })

-- ---- in order

pub ended_more : (ts : List ℕ) (t : ℕ) (e : Blames) → ended (ts ++ t ∷ []) e ≡ settled t (ended ts e)
ended_more [] t e = refl
ended_more (x ∷ ts) t e = ended_more ts t (settled x e)
