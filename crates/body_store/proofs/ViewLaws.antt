-- What bodies read of a store and what is kept of it, by one another.
use Rattle.std.proofs.Common.{◌≡◌, ℕ, ◌+◌, ◌-◌, ◌<◌, Bool, true, false, if◌then◌else◌, is_some, [], ◌∷◌, length, Option, Some, None, refl, sym, ap, ap₂, subst, ◌∙◌, arith}
use Rattle.std.specs.Prelude.{nat_lt}
use Rattle.std.specs.List.{flat_map}
use Rattle.std.specs.Option.{unwrap_or}
use Rattle.std.proofs.Math.Path.{fun_ext}
use Rattle.std.proofs.lemmas.Bool.{false≢true}
use Rattle.std.proofs.lemmas.Bool.Decides.{nat_tests}
use Rattle.design_model.specs.event_machine.Cell.{Cell}
use Rattle.known_state.specs.Partly.{Partly}
use Rattle.design_model.specs.View.{design_view}
use Rattle.body_calls.specs.body_replay.Runs.{seen_of}
use Rattle.body_calls.specs.body_replay.Store.{Kept, keep_all}
use Rattle.body_calls.proofs.body_replay.Writes.{keep_append}
use Rattle.word_log.specs.memory_rebuild.Words.{KnownWords}
use Rattle.body_calls.specs.term_replay.Stands.{Scene}
use Rattle.write_log.specs.value_store.Signals.{hidden_at, kept_at, read_at}
use Rattle.write_log.specs.value_store.Held.{IsSignal}
use Rattle.body_calls.specs.Under.{kept_with}
use Rattle.body_store.specs.declared.store.Store.{Store}
use Rattle.body_store.specs.Fitting.{memory_in}
use Rattle.body_store.specs.Held.{IsMemory}
use Rattle.body_store.specs.Laws.{FlushLaw, PlainLaw, SeenLaw, UnderLaw}
use Rattle.body_store.specs.Scenes.{bit_at, scene_of, signal_count, word_bit}
use Rattle.body_store.specs.Veils.{is_veiled, kept_words, under_at}
use Rattle.body_store.specs.Views.{kept_scene, under_of, view_of}

module _ (x : Store) where
  abbrev n : ℕ
  n = signal_count x

  -- the bits of a signal, by what is shown
  seen_signal : (o : Option Partly) (q : Partly) (k : ℕ) → (if is_some o then bit_at (unwrap_or o q).bits k else bit_at q.bits k) ≡ bit_at (unwrap_or o q).bits k
  seen_signal None q k = refl
  seen_signal (Some p) q k = refl

  under_signal : (o : Option Partly) (q : Partly) (k : ℕ) → (if is_some o then (if is_some o then bit_at q.bits k else None) else bit_at (unwrap_or o q).bits k) ≡ bit_at q.bits k
  under_signal None q k = refl
  under_signal (Some p) q k = refl

  under_blame : (o : Option Partly) (q : Partly) → (if is_some o then (if is_some o then q.blame else 0) else (unwrap_or o q).blame) ≡ q.blame
  under_blame None q = refl
  under_blame (Some p) q = refl

  -- the bits of a memory, by whether it is veiled
  seen_memory : (t : Bool) (u w : KnownWords) (k : ℕ) → (if t then word_bit w k else word_bit (if t then u else w) k) ≡ word_bit w k
  seen_memory true u w k = refl
  seen_memory false u w k = refl

  under_memory : (t : Bool) (u w : KnownWords) (k : ℕ) → (if t then (if t then word_bit (if t then u else w) k else None) else word_bit w k) ≡ word_bit (if t then u else w) k
  under_memory true u w k = refl
  under_memory false u w k = refl

  own_blame : (t : Bool) (m : ℕ) → (if t then (if t then m else 0) else m) ≡ m
  own_blame true m = refl
  own_blame false m = refl

  seen_by : (c : Cell) (b : Bool) → nat_lt c.thing n ≡ b
      → (if (if b then is_some (hidden_at x.signals c.thing) else is_veiled x.veils (c.thing - n)) then (if b then bit_at (read_at x.signals c.thing).bits c.place else word_bit (memory_in x.memories.items (c.thing - n)).words c.place) else (if b then bit_at (kept_at x.signals c.thing).bits c.place else word_bit (kept_words x.veils x.memories.items (c.thing - n)) c.place))
      ≡ (if b then bit_at (read_at x.signals c.thing).bits c.place else word_bit (memory_in x.memories.items (c.thing - n)).words c.place)
  seen_by c true e = seen_signal (hidden_at x.signals c.thing) (kept_at x.signals c.thing) c.place
  seen_by c false e = seen_memory (is_veiled x.veils (c.thing - n)) (under_at x.veils (c.thing - n)) (memory_in x.memories.items (c.thing - n)).words c.place

  pub seen_here : seen_of (view_of x) ≡ (scene_of x).kept
  seen_here = fun_ext (λ c. seen_by c (nat_lt c.thing n) refl)

  under_by : (c : Cell) (b : Bool) → nat_lt c.thing n ≡ b
      → (if (if b then is_some (hidden_at x.signals c.thing) else is_veiled x.veils (c.thing - n)) then (if (if b then is_some (hidden_at x.signals c.thing) else is_veiled x.veils (c.thing - n)) then (if b then bit_at (kept_at x.signals c.thing).bits c.place else word_bit (kept_words x.veils x.memories.items (c.thing - n)) c.place) else None) else (if b then bit_at (read_at x.signals c.thing).bits c.place else word_bit (memory_in x.memories.items (c.thing - n)).words c.place))
      ≡ (if b then bit_at (kept_at x.signals c.thing).bits c.place else word_bit (kept_words x.veils x.memories.items (c.thing - n)) c.place)
  under_by c true e = under_signal (hidden_at x.signals c.thing) (kept_at x.signals c.thing) c.place
  under_by c false e = under_memory (is_veiled x.veils (c.thing - n)) (under_at x.veils (c.thing - n)) (memory_in x.memories.items (c.thing - n)).words c.place

  blame_by : (t : ℕ) (b : Bool) → nat_lt t n ≡ b
      → (if (if b then is_some (hidden_at x.signals t) else is_veiled x.veils (t - n)) then (if (if b then is_some (hidden_at x.signals t) else is_veiled x.veils (t - n)) then (if b then (kept_at x.signals t).blame else t) else 0) else (if b then (read_at x.signals t).blame else t))
      ≡ (if b then (kept_at x.signals t).blame else t)
  blame_by t true e = under_blame (hidden_at x.signals t) (kept_at x.signals t)
  blame_by t false e = own_blame (is_veiled x.veils (t - n)) t

  pub under_here : kept_with (under_of x) (scene_of x) ≡ kept_scene x
  under_here =
      ap₂ {C = Scene} (λ (k : Kept) (f : ℕ → ℕ). record { design = design_view x.design.now; kept = k; blames = record { blame = f; wrote = (scene_of x).blames.wrote } })
      (fun_ext (λ c. under_by c (nat_lt c.thing n) refl)) (fun_ext (λ t. blame_by t (nat_lt t n) refl))

pub seen_law : SeenLaw
seen_law x = seen_here x

pub under_law : UnderLaw
under_law x = under_here x

below_yes : (s m n : ℕ) → s < m → m ≡ n → nat_lt s n ≡ true
below_yes s m n l e = grind (arith, nat_tests, l, e)

past_no : (n i : ℕ) → nat_lt (n + i) n ≡ false
past_no n i = grind (arith, nat_tests)

none_of : (o : Option Partly) → is_some o ≡ false → o ≡ None
none_of None e = refl
none_of (Some q) e = absurd (false≢true (sym e))

pub plain_law : PlainLaw
plain_law d k e x none h =
    record {
      signals = record {
        shapes = h.signals.shapes;
        count = h.signals.count;
        each = λ s l.
            let count : length d.signals ≡ signal_count x = sym h.signals.count ∙ x.fits.signals in
            let yes : nat_lt s (signal_count x) ≡ true = below_yes s (length d.signals) (signal_count x) l count in
            let shown : is_some (hidden_at x.signals s) ≡ false = sym (ap (λ t. if t then is_some (hidden_at x.signals s) else is_veiled x.veils (s - signal_count x)) yes) ∙ none s in
            subst (IsSignal d k e.blame s) (ap (λ o. unwrap_or o (kept_at x.signals s)) (sym (none_of (hidden_at x.signals s) shown))) (h.signals.each s l);
      };
      memories = record {
        count = h.memories.count;
        each = λ i l.
            let m : ℕ = signal_count x + i in
            let past : nat_lt m (signal_count x) ≡ false = past_no (signal_count x) i in
            let place : m - signal_count x ≡ i = omega arith in
            let plain : is_veiled x.veils i ≡ false = ap (is_veiled x.veils) (sym place) ∙ sym (ap (λ t. if t then is_some (hidden_at x.signals m) else is_veiled x.veils (m - signal_count x)) past) ∙ none m in
            subst (IsMemory d k e (length d.signals + i)) (ap (λ t. record { words = if t then under_at x.veils i else (memory_in x.memories.items i).words; written = (memory_in x.memories.items i).written }) plain) (h.memories.each i l);
      };
    }

pub flush_law : FlushLaw
flush_law k [] = refl
flush_law k (ws ∷ queue) = flush_law (keep_all k ws) queue ∙ sym (keep_append k ws (flat_map (λ vs. vs) queue))
