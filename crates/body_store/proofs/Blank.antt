-- A store in which nothing is known.
use Rattle.std.proofs.Common.{◌≡◌, ℕ, zero, suc, ◌+◌, ◌-◌, ◌<◌, true, List, [], ◌∷◌, ◌++◌, length, map, get_or, replicate, None, refl, sym, ap, subst, ◌∙◌, arith, ⊎_elim}
use Rattle.std.specs.Prelude.{nat_le}
use Rattle.std.proofs.lemmas.Bool.Decides.{nat_tests}
use Rattle.std.specs.List.{range_with_len}
use Rattle.std.specs.Option.{unwrap_or}
use Rattle.std.proofs.lemmas.List.{get_or-map, get_or_append_left, get_or_push, length-map}
use Rattle.std.proofs.lemmas.Bool.{cases_eq}
use Rattle.std.proofs.Math.Path.{fun_ext}
use Rattle.design_model.specs.declared.design.Memory.{Memory}
use Rattle.design_model.specs.declared.design.Signal.{Signal}
use Rattle.design_model.specs.Design.{Design, cell, memory_at, no_memory, no_signal, signal_at}
use Rattle.body_calls.specs.body_replay.Store.{Kept}
use Rattle.body_calls.specs.body_replay.Replay.{Blames}
use Rattle.word_log.proofs.memory_rebuild.Laws.{unwritten_stands}
use Rattle.word_log.specs.memory_rebuild.Words.{KnownWords, unwritten}
use Rattle.write_log.specs.value_store.Signals.{Shape, Signals, kept_at, hidden_at, no_shape, no_value, shape_of, unknown_from, unknown_of, unknown_signals}
use Rattle.write_log.specs.value_store.Held.{HoldsSignals, IsSignal}
use Rattle.word_log.specs.declared.memory.StoredMemory.{StoredMemory}
use Rattle.body_store.specs.declared.store.Store.{Store}
use Rattle.body_store.specs.Made as m
use Rattle.body_store.specs.Made.{AreUnknown, nothing, unblamed, unknown_memory}
use Rattle.body_store.specs.Held.{HoldsMemories, HoldsStore, IsMemory, ReadsSignals, ReadsStore}
use Rattle.body_store.specs.Fitting.{memory_in}
use Rattle.body_store.proofs.Veiling.{plain_memory}

-- ---- the first memories of a list

pub record Filled (n i : ℕ) (xs : List Memory) (rs : List StoredMemory) : Type 0 where
  pub count : length rs ≡ i
  pub each : (j : ℕ) (r : StoredMemory) (x : Memory) → j < i → get_or rs j r ≡ unknown_memory (get_or xs j x) (n + j)

pub one_filled : (n i : ℕ) (xs : List Memory) (rs ss : List StoredMemory) (a : Memory) (b : StoredMemory) → ((x : Memory) → a ≡ get_or xs i x) → ss ≡ rs ++ b ∷ [] → b ≡ unknown_memory a (n + i) → length ss ≡ i + 1 → Filled n i xs rs → Filled n (i + 1) xs ss
one_filled n i xs rs ss a b is pushed made size f =
    record {
      count = size;
      each = λ j r x l. ⊎_elim
          (λ e. ap (λ zs. get_or zs j r) pushed ∙ ap (λ k. get_or (rs ++ b ∷ []) k r) e ∙ get_or_push rs b r i f.count ∙ made ∙ ap (λ y. unknown_memory y (n + i)) (is x) ∙ ap (λ k. unknown_memory (get_or xs k x) (n + k)) (sym e))
          (λ ne. let less : j < i = omega (arith, l, ne) in
          let count = f.count in
          ap (λ zs. get_or zs j r) pushed ∙ get_or_append_left rs (b ∷ []) r j (omega (arith, less, count)) ∙ f.each j r x less)
          (cases_eq j i);
    }

-- the words of the first memories of a list
pub record Blank (n i : ℕ) (xs : List Memory) (ws : List KnownWords) : Type 0 where
  pub count : length ws ≡ i
  pub each : (j : ℕ) (w : KnownWords) (x : Memory) → j < i → get_or ws j w ≡ unwritten (m.shape_of (get_or xs j x) (n + j))

pub one_blank : (n i : ℕ) (xs : List Memory) (ws us : List KnownWords) (a : Memory) (b : KnownWords) → ((x : Memory) → a ≡ get_or xs i x) → us ≡ ws ++ b ∷ [] → b ≡ unwritten (m.shape_of a (n + i)) → length us ≡ i + 1 → Blank n i xs ws → Blank n (i + 1) xs us
one_blank n i xs ws us a b is pushed made size f =
    record {
      count = size;
      each = λ j w x l. ⊎_elim
          (λ e. ap (λ zs. get_or zs j w) pushed ∙ ap (λ k. get_or (ws ++ b ∷ []) k w) e ∙ get_or_push ws b w i f.count ∙ made ∙ ap (λ y. unwritten (m.shape_of y (n + i))) (is x) ∙ ap (λ k. unwritten (m.shape_of (get_or xs k x) (n + k))) (sym e))
          (λ ne. let less : j < i = omega (arith, l, ne) in
          let count = f.count in
          ap (λ zs. get_or zs j w) pushed ∙ get_or_append_left ws (b ∷ []) w j (omega (arith, less, count)) ∙ f.each j w x less)
          (cases_eq j i);
    }

-- ---- signals of which nothing is known

pub length-unknown : (n : ℕ) (xs : List Shape) → length (unknown_from n xs) ≡ length xs
length-unknown n [] = refl
length-unknown n (x ∷ xs) = ap suc (length-unknown (n + 1) xs)

get-unknown : (n s : ℕ) (xs : List Shape) → s < length xs → get_or (unknown_from n xs) s no_value ≡ unknown_of (get_or xs s no_shape) (n + s)
get-unknown n s [] l = absurd (omega (arith, l))
get-unknown n zero (x ∷ xs) l = ap (unknown_of x) (omega arith)
get-unknown n (suc s) (x ∷ xs) l = get-unknown (n + 1) s xs (omega (arith, l)) ∙ ap (unknown_of (get_or xs s no_shape)) (omega arith)

none_hidden : (s : ℕ) (xs : List Shape) → get_or (unknown_signals xs).hidden s None ≡ None
none_hidden s [] = refl
none_hidden zero (x ∷ xs) = refl
none_hidden (suc s) (x ∷ xs) = none_hidden s xs

none_known : (s n k : ℕ) → map nothing (map (cell s) (range_with_len n k)) ≡ replicate k None
none_known s n zero = refl
none_known s n (suc k) = ap (λ ps. None ∷ ps) (none_known s (n + 1) k)

-- what is kept of signals is read, where none is shown or veiled
pub plainly : (d : Design) (k : Kept) (e : Blames) (v : Signals) → ((s : ℕ) → hidden_at v s ≡ None) → HoldsSignals d k e.blame v → ReadsSignals d k e v
plainly d k e v none h =
    record { shapes = h.shapes; count = h.count; each = λ s l. subst (IsSignal d k e.blame s) (ap (λ o. unwrap_or o (kept_at v s)) (sym (none s))) (h.each s l) }

unknown_signal : (d : Design) (s : ℕ) → s < length d.signals → IsSignal d nothing (λ x. x) s (kept_at (unknown_signals (map shape_of d.signals)) s)
unknown_signal d s l =
    let size : length (map shape_of d.signals) ≡ length d.signals = length-map d.signals shape_of in
    let here : kept_at (unknown_signals (map shape_of d.signals)) s ≡ unknown_of (shape_of (signal_at d s)) s = get-unknown 0 s (map shape_of d.signals) (omega (arith, l, size)) ∙ (let start : 0 + s ≡ s = omega arith in ap (unknown_of (get_or (map shape_of d.signals) s no_shape)) start) ∙ ap (λ x. unknown_of x s) (get_or-map shape_of d.signals s no_signal no_shape l) in
    subst (IsSignal d nothing (λ x. x) s) (sym here) (record { bits = sym (none_known s 0 (signal_at d s).width); blamed = λ u. refl })

pub unknown_holds : (d : Design) → HoldsSignals d nothing (λ x. x) (unknown_signals (map shape_of d.signals))
unknown_holds d =
    record { shapes = refl; count = length-unknown 0 (map shape_of d.signals) ∙ length-map d.signals shape_of; each = unknown_signal d }

-- none is shown or veiled
pub none_shown : (d : Design) (v : Signals) → v ≡ unknown_signals (map shape_of d.signals) → (s : ℕ) → hidden_at v s ≡ None
none_shown d v e s = ap (λ y. hidden_at y s) e ∙ none_hidden s (map shape_of d.signals)

-- ---- memories of which nothing is known

pub memory_is : (d : Design) (i : ℕ) → memory_at d (length d.signals + i) ≡ get_or d.memories i no_memory
memory_is d i =
    let yes : nat_le (length d.signals) (length d.signals + i) ≡ true = grind (arith, nat_tests) in
    let place : length d.signals + i - length d.signals ≡ i = omega arith in
    rw (yes, place) refl

unknown_is : (d : Design) (i : ℕ) → IsMemory d nothing unblamed (length d.signals + i) (unknown_memory (get_or d.memories i no_memory) (length d.signals + i))
unknown_is d i =
    let x : Memory = get_or d.memories i no_memory in
    let is : x ≡ memory_at d (length d.signals + i) = sym (memory_is d i) in
    record {
      words = unwritten_stands d nothing (length d.signals + i) (m.shape_of x (length d.signals + i)) (ap (λ y. y.first) is) (ap (λ y. y.last) is) (ap (λ y. y.width) is) (λ c e. refl);
      blame = refl;
      wrote = refl;
    }

pub unknown_memories : (d : Design) (rs : List StoredMemory) → AreUnknown (length d.signals) d.memories rs → HoldsMemories d nothing unblamed (length rs) (memory_in rs)
unknown_memories d rs a =
    record { count = a.count; each = λ i l. subst (IsMemory d nothing unblamed (length d.signals + i)) (sym (a.each i (unknown_memory no_memory 0) no_memory l)) (unknown_is d i) }

pub unknown_store : (d : Design) (x : Store) → x.signals ≡ unknown_signals (map shape_of d.signals) → AreUnknown (length d.signals) d.memories x.memories.items → x.veils.veiled.items ≡ [] → HoldsStore d nothing unblamed x
unknown_store d x e a none =
    record {
      signals = subst (HoldsSignals d nothing (λ y. y)) (sym e) (unknown_holds d);
      memories = subst (HoldsMemories d nothing unblamed (length x.memories.items)) (fun_ext (λ i. sym (plain_memory x.veils x.memories.items none i))) (unknown_memories d x.memories.items a);
    }

pub unknown_read : (d : Design) (x : Store) → x.signals ≡ unknown_signals (map shape_of d.signals) → AreUnknown (length d.signals) d.memories x.memories.items → ReadsStore d nothing unblamed x
unknown_read d x e a =
    let signals : HoldsSignals d nothing (λ y. y) x.signals = subst (HoldsSignals d nothing (λ y. y)) (sym e) (unknown_holds d) in
    record { signals = plainly d nothing unblamed x.signals (none_shown d x.signals e) signals; memories = unknown_memories d x.memories.items a }

-- ---- as a store is made

pub made_store : (d : Design) (n : ℕ) (ss : List Signal) (ms : List Memory) (x : Store) → n ≡ length d.signals → ss ≡ d.signals → ms ≡ d.memories → x.signals ≡ unknown_signals (map shape_of ss) → AreUnknown n ms x.memories.items → x.veils.veiled.items ≡ [] → HoldsStore d nothing unblamed x × ReadsStore d nothing unblamed x
made_store d n ss ms x count signals memories e a none =
    let is : x.signals ≡ unknown_signals (map shape_of d.signals) = e ∙ ap (λ y. unknown_signals (map shape_of y)) signals in
    let all : AreUnknown (length d.signals) d.memories x.memories.items = subst (λ k. AreUnknown k d.memories x.memories.items) count (subst (λ y. AreUnknown n y x.memories.items) memories a) in
    (unknown_store d x is all none, unknown_read d x is all)
