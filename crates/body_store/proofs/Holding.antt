-- What is kept of a store where what bodies read changes, and what a run leaves of it.
use Rattle.std.proofs.Common.{◌≡◌, ℕ, ◌+◌, ◌-◌, ◌<◌, ◌==◌, ◌||◌, Bool, true, false, if◌then◌else◌, List, [], ◌∷◌, length, is_some, None, refl, sym, ap, ap₂, subst, ◌∙◌, arith}
use Rattle.std.specs.Prelude.{min, nat_lt, slice_index_or}
use Rattle.std.proofs.Math.Path.{fun_ext}
use Rattle.std.proofs.lemmas.Bool.Decides.{nat_tests}
use Rattle.design_model.specs.event_machine.Cell.{Cell}
use Rattle.known_state.specs.Partly.{Partly}
use Rattle.design_model.specs.Design.{Design}
use Rattle.body_calls.specs.body_replay.Replay.{Blames}
use Rattle.body_calls.specs.body_replay.Store.{Kept}
use Rattle.write_log.specs.value_store.Signals.{SameUnder, Signals, hidden_at, kept_at}
use Rattle.write_log.specs.value_store.Held.{HoldsSignals, IsSignal}
use Rattle.write_log.specs.Entries.{has}
use Rattle.write_log.specs.Logs.{LogState, Readings, around, is_inside, reads_of}
use Rattle.write_log.specs.declared.entry.Test.{Test}
use Rattle.body_calls.specs.Rooms.{Rooms}
use Rattle.body_calls.specs.Under.{Under}
use Rattle.word_log.specs.declared.memory.StoredMemory.{StoredMemory}
use Rattle.body_store.specs.declared.store.Store.{Store}
use Rattle.body_store.specs.declared.veils.Veils.{Veils}
use Rattle.body_store.specs.Bodies.{around_of, rooms_of, write_takes}
use Rattle.body_store.specs.Tests.{Reader, log_room, tests_by, word_room}
use Rattle.word_log.specs.Logs as w
use Rattle.body_store.specs.Fitting.{memory_in}
use Rattle.body_store.specs.Held.{HoldsMemories, IsMemory}
use Rattle.body_store.specs.Scenes.{bit_at, kept_by, scene_with, signal_count, word_bit}
use Rattle.body_store.specs.Veils.{is_veiled, kept_words, under_at}
use Rattle.body_store.specs.Views.{hides, under_of}
use Rattle.body_store.proofs.Rooms.{no_tests_by}

-- ---- what is kept stays

pub signals_kept : (d : Design) (k : Kept) (blame : ℕ → ℕ) (v w : Signals) → w.shapes ≡ v.shapes → w.kept ≡ v.kept → HoldsSignals d k blame v → HoldsSignals d k blame w
signals_kept d k blame v w shapes kept h =
    record {
      shapes = shapes ∙ h.shapes;
      count = ap length kept ∙ h.count;
      each = λ s l. subst (IsSignal d k blame s) (ap (λ qs. kept_at (record v { kept = qs }) s) (sym kept)) (h.each s l);
    }

pub memories_kept : (d : Design) (k : Kept) (e : Blames) (n n' : ℕ) (held held' : ℕ → StoredMemory) → n' ≡ n → ((i : ℕ) → held' i ≡ held i) → HoldsMemories d k e n held → HoldsMemories d k e n' held'
memories_kept d k e n n' held held' count same h =
    record { count = count ∙ h.count; each = λ i l. subst (IsMemory d k e (length d.signals + i)) (sym (same i)) (h.each i l) }

-- ---- no test is around

pub inside_by : (scene : Reader) (now : Readings) (us : List w.Around) (ts : List Test) (l : LogState) → l.tests ≡ ts → tests_by scene (around (record l { tests = ts }) now) us ≡ [] → is_inside ts ≡ false
inside_by scene now us [] l e none = refl
inside_by scene now us (t ∷ ts) l e none = absurd (let more = ap length none in omega (arith, more))

pub still_none : (scene scene' : Reader) (now now' : Readings) (us us' : List w.Around) (l : LogState) → tests_by scene (around l now) us ≡ [] → tests_by scene' (around l now') us' ≡ []
still_none scene scene' now now' us us' l none = no_tests_by scene' now' us' l.tests l refl (inside_by scene now us l.tests l refl none)

pub around_closed : (x y : Store) → y.log ≡ x.log → around_of x ≡ [] → around_of y ≡ []
around_closed x y log none =
    subst (λ l. tests_by (scene_with y.design.now) (around l (reads_of y.signals)) (w.around y.words y.memories.items) ≡ []) (sym log)
    (still_none (scene_with x.design.now) (scene_with y.design.now) (reads_of x.signals) (reads_of y.signals) (w.around x.words x.memories.items) (w.around y.words y.memories.items) x.log none)

-- the room hangs on the design, the logs and the queue
pub rooms_left : (x y : Store) → y.design ≡ x.design → y.log ≡ x.log → y.words ≡ x.words → y.updates ≡ x.updates → rooms_of y ≡ rooms_of x
rooms_left x y design log words updates =
    ap₂ {C = Rooms} (λ b k. record { log = min (log_room k) (word_room y.words); takes = write_takes b.now; queue = y.updates.room - length y.updates.items }) design log
    ∙ ap₂ {C = Rooms} (λ k q. record { log = min (log_room x.log) (word_room k); takes = write_takes x.design.now; queue = q.room - length q.items }) words updates

-- ---- what is shown or veiled

-- a signal more
pub hides_signal : (n s : ℕ) (f g veiled : ℕ → Bool) → s < n → ((x : ℕ) → g x ≡ ((s == x) || f x)) → (x : ℕ) → (if nat_lt x n then g x else veiled (x - n)) ≡ ((s == x) || (if nat_lt x n then f x else veiled (x - n)))
hides_signal n s f g veiled l h x = go (nat_lt x n) refl
  where
    go : (t : Bool) → nat_lt x n ≡ t → (if t then g x else veiled (x - n)) ≡ ((s == x) || (if t then f x else veiled (x - n)))
    go true e = h x
    go false e = let other : (s == x) ≡ false = grind (arith, nat_tests, e, l) in sym (ap (λ t. t || veiled (x - n)) other)

-- a memory more
pub hides_memory : (n p : ℕ) (f v w : ℕ → Bool) → ((i : ℕ) → w i ≡ ((p == i) || v i)) → (x : ℕ) → (if nat_lt x n then f x else w (x - n)) ≡ ((n + p == x) || (if nat_lt x n then f x else v (x - n)))
hides_memory n p f v w h x = go (nat_lt x n) refl
  where
    go : (t : Bool) → nat_lt x n ≡ t → (if t then f x else w (x - n)) ≡ ((n + p == x) || (if t then f x else v (x - n)))
    go true e = let other : (n + p == x) ≡ false = grind (arith, nat_tests, e) in sym (ap (λ t. t || f x) other)
    go false e = let same : (p == x - n) ≡ (n + p == x) = grind (arith, nat_tests, e) in h (x - n) ∙ ap (λ t. t || v (x - n)) same

-- nothing is
pub no_hides : (n : ℕ) (f : ℕ → Bool) (v : Veils) → ((x : ℕ) → f x ≡ false) → v.veiled.items ≡ [] → (x : ℕ) → (if nat_lt x n then f x else is_veiled v (x - n)) ≡ false
no_hides n f v h none x = go (nat_lt x n)
  where
    go : (t : Bool) → (if t then f x else is_veiled v (x - n)) ≡ false
    go true = h x
    go false = ap (λ xs. has xs (x - n)) none

-- ---- what a run leaves

under_is : {f g : ℕ → Bool} {a b : Kept} {x y : ℕ → ℕ} {i j : ℕ} → f ≡ g → a ≡ b → x ≡ y → i ≡ j → ◌≡◌ {A = Under} (record { hidden = f; kept = a; blame = x; log = i }) (record { hidden = g; kept = b; blame = y; log = j })
under_is {f} {g} {a} {b} {x} {y} {i} {j} p q r s =
    ap₂ {C = Under} (λ (u : ℕ → Bool) (v : Kept). record { hidden = u; kept = v; blame = x; log = i }) p q
    ∙ ap₂ {C = Under} (λ (u : ℕ → ℕ) (v : ℕ). record { hidden = g; kept = b; blame = u; log = v }) r s

-- whether a signal or memory is shown or veiled, of so many signals
abbrev pub hidden_by : ℕ → Signals → Veils → ℕ → Bool
hidden_by n v u t = if nat_lt t n then is_some (hidden_at v t) else is_veiled u (t - n)

-- what is kept of those
abbrev pub under_by : ℕ → Signals → Veils → List StoredMemory → ℕ → Under
under_by n v u rs log =
    record {
      hidden = hidden_by n v u;
      kept = λ c. if hidden_by n v u c.thing then kept_by n (kept_at v) (kept_words u rs) c else None;
      blame = λ t. if hidden_by n v u t then (if nat_lt t n then (kept_at v t).blame else t) else 0;
      log = log;
    }

module _ (n : ℕ) (v w : Signals) (u : Veils) (rs rs' : List StoredMemory) (i j : ℕ) (same : SameUnder v w) (log : j ≡ i) where
  same_hides : (t : ℕ) → hidden_by n w u t ≡ hidden_by n v u t
  same_hides t = ap (λ a. if nat_lt t n then a else is_veiled u (t - n)) (same.hides t)

  cell_by : (c : Cell) (b : Bool) → nat_lt c.thing n ≡ b
      → (if (if b then is_some (hidden_at v c.thing) else is_veiled u (c.thing - n)) then (if b then bit_at (kept_at w c.thing).bits c.place else word_bit (kept_words u rs' (c.thing - n)) c.place) else None)
      ≡ (if (if b then is_some (hidden_at v c.thing) else is_veiled u (c.thing - n)) then (if b then bit_at (kept_at v c.thing).bits c.place else word_bit (kept_words u rs (c.thing - n)) c.place) else None)
  cell_by c true e = go (is_some (hidden_at v c.thing)) refl
    where
      go : (t : Bool) → is_some (hidden_at v c.thing) ≡ t → (if t then bit_at (kept_at w c.thing).bits c.place else None) ≡ (if t then bit_at (kept_at v c.thing).bits c.place else None)
      go true h = ap (λ (q : Partly). bit_at q.bits c.place) (same.under c.thing h)
      go false h = refl
  cell_by c false e = go (is_veiled u (c.thing - n))
    where
      go : (t : Bool) → (if t then word_bit (if t then under_at u (c.thing - n) else (memory_in rs' (c.thing - n)).words) c.place else None) ≡ (if t then word_bit (if t then under_at u (c.thing - n) else (memory_in rs (c.thing - n)).words) c.place else None)
      go true = refl
      go false = refl

  blame_by : (t : ℕ) (b : Bool) → nat_lt t n ≡ b
      → (if (if b then is_some (hidden_at v t) else is_veiled u (t - n)) then (if b then (kept_at w t).blame else t) else 0)
      ≡ (if (if b then is_some (hidden_at v t) else is_veiled u (t - n)) then (if b then (kept_at v t).blame else t) else 0)
  blame_by t true e = go (is_some (hidden_at v t)) refl
    where
      go : (h : Bool) → is_some (hidden_at v t) ≡ h → (if h then (kept_at w t).blame else 0) ≡ (if h then (kept_at v t).blame else 0)
      go true h = ap (λ (q : Partly). q.blame) (same.under t h)
      go false h = refl
  blame_by t false e = refl

  pub under_same : under_by n w u rs' j ≡ under_by n v u rs i
  under_same =
      under_is (fun_ext same_hides)
      (fun_ext (λ c. ap (λ h. if h then kept_by n (kept_at w) (kept_words u rs') c else None) (same_hides c.thing) ∙ cell_by c (nat_lt c.thing n) refl))
      (fun_ext (λ t. ap (λ h. if h then (if nat_lt t n then (kept_at w t).blame else t) else 0) (same_hides t) ∙ blame_by t (nat_lt t n) refl))
      log

pub under_left : (x y : Store) → signal_count y ≡ signal_count x → y.veils ≡ x.veils → SameUnder x.signals y.signals → y.log.room ≡ x.log.room → under_of y ≡ under_of x
under_left x y count veils same log =
    ap₂ (λ k u. under_by k y.signals u y.memories.items y.log.room) count veils
    ∙ under_same (signal_count x) x.signals y.signals x.veils x.memories.items y.memories.items x.log.room y.log.room same log

-- the same signals, as they are
pub same_under : (v : Signals) → SameUnder v v
same_under v = record { shapes = refl; count = refl; hides = λ x. refl; under = λ x h. refl }

-- the same is shown or veiled, where of the signals the same ones are shown and the same memories are veiled
pub hides_left : (x y : Store) → y.design ≡ x.design → y.signals.hidden ≡ x.signals.hidden → y.veils.veiled ≡ x.veils.veiled → hides y ≡ hides x
hides_left x y design hidden veiled =
    ap₂ {C = ℕ → Bool} (λ b hs. λ t. if nat_lt t (length b.now.signals) then is_some (slice_index_or hs t None) else has y.veils.veiled.items (t - length b.now.signals)) design hidden
    ∙ ap (λ q. λ t. if nat_lt t (signal_count x) then is_some (hidden_at x.signals t) else has q.items (t - signal_count x)) veiled
