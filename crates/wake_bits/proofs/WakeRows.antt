-- What processes watch, with the places of bits, row by row.
use Rattle.std.proofs.Common.{◌≡◌, ◌↔◌, ◌∙◌, ⊎_elim, ℕ, ◌+◌, ◌<◌, ◌≤◌, ◌==◌, ◌&&◌, Bool, true, false, not, List, [], ◌∷◌, ◌++◌, length, get_or, take, refl, sym, ap, ap₂, subst, arith}
use Rattle.std.specs.Prelude.{nat_lt, sum_by}
use Rattle.std.specs.List.{All}
use Rattle.std.proofs.Math.ListN.{get_or-map}
use Rattle.std.proofs.lemmas.Bool.{cases_lt, eqb-true, false≢true, or_cases}
use Rattle.std.proofs.lemmas.Bool.Decides.{nat_tests}
use Rattle.std.proofs.lemmas.List.{get_or_past, length-map, map-append, take_more}
use Rattle.std.proofs.lemmas.List.Sums.{sum_by-cons}
use Rattle.std.proofs.lemmas.List.Elements.{All-append, All-cons, All-from_get_or, All-get_or, All-head, All-nil, All-tail, Contains-get_or}
use Rattle.event_machine.specs.Cell.{Cell}
use Rattle.design_model.specs.Design.{Design, In, IsClocked, body_at, cell, no_signal, process_at, signal_at}
use Rattle.design_model.specs.Lawful.{IsLawfulDesign, span}
use Rattle.design_model.specs.Machine.{is_level}
use Rattle.design_model.specs.Mentions.{blocking_target, body_mentions}
use Rattle.design_model.specs.Tree.{Process, assign, clocked, comb}
use Rattle.design_model.specs.declared.design.Memory.{Memory}
use Rattle.index_sets.specs.Rows.{row_at}
use Rattle.process_names.specs.Laws.{has}
use Rattle.process_order.proofs.Distinct.{contains_in}
use Rattle.process_targets.specs.Rows.{AreBits, IsInside}
use Rattle.process_targets.specs.Targets.{names, row_has}
use Rattle.process_targets.specs.declared.bits.Bits.{Bits}
use Rattle.wake_bits.specs.Mentions.{mentioned_names}
use Rattle.wake_bits.specs.Wakes.{AreWakeRows, AreWakes, IsWake}
use Rattle.wake_bits.specs.declared.wakes.Wake.{Wake}
use Rattle.wake_bits.proofs.Mentioned.{mentioned_is}

-- nothing is watched
pub no_wakes : (d : Design) (writes : Cell → Bool) (mentions : ℕ → Bool) → AreWakes d writes mentions [] []
no_wakes d writes mentions = record { things = refl; each = All-nil (IsWake d writes mentions) }

-- one thing more
pub wakes_more : (d : Design) (writes : Cell → Bool) (mentions : ℕ → Bool) (xs : List ℕ) (i : ℕ) (ws : List Wake) (w : Wake) → i < length xs → w.thing ≡ get_or xs i 0 → IsWake d writes mentions w
    → AreWakes d writes mentions (take i xs) ws → AreWakes d writes mentions (take (i + 1) xs) (ws ++ w ∷ [])
wakes_more d writes mentions xs i ws w l e is h =
    record {
      things = map-append (λ v. v.thing) ws (w ∷ []) ∙ ap₂ (λ ys y. ys ++ y ∷ []) h.things e ∙ sym (take_more xs i 0 l);
      each = All-append (IsWake d writes mentions) ws (w ∷ []) h.each (All-cons (IsWake d writes mentions) w [] is (All-nil (IsWake d writes mentions)));
    }

none_below : (k : ℕ) → nat_lt k 0 ≡ false
none_below k = grind (arith, nat_tests)

-- what is no signal has no places
pub no_width : (d : Design) (x k : ℕ) (b : Bool) → length d.signals ≤ x → (nat_lt k (signal_at d x).width && b) ≡ false
no_width d x k b past = ap (λ s. nat_lt k s.width && b) (get_or_past d.signals x no_signal past) ∙ ap (λ a. a && b) (none_below k)

level_settles : (p : Process) (x : ℕ) → is_level p x ≡ true → IsClocked p → ⊥
level_settles (assign i y t counted) x l c = c
level_settles (comb i wakes s) x l c = c
level_settles (clocked i events s) x l c = false≢true l

-- those of a process, by the row of the bits that it writes and by the names of its body
pub wakes_of_process : (d : Design) (p : ℕ) (row : List Bits) (xs : List ℕ) (ws : List Wake) → AreBits d (blocking_target d (body_at d p)) row → ((x : ℕ) → In x xs → is_level (process_at d p) x ≡ true)
    → AreWakes d (row_has row) (λ x. has x (mentioned_names (process_at d p))) xs ws → AreWakes d (blocking_target d (body_at d p)) (λ x. body_mentions x (body_at d p)) xs ws
wakes_of_process d p row xs ws bits level h =
    record { things = h.things; each = All-from_get_or (IsWake d (blocking_target d (body_at d p)) (λ x. body_mentions x (body_at d p))) ws no_wake one }
  where
    no_wake : Wake
    no_wake = record { thing = 0; mask = 0; mentioned = false }

    watches : (k : ℕ) → k < length ws → In (get_or ws k no_wake).thing xs
    watches k l =
        let less : k < length xs = omega (arith, l, length-map ws (λ w. w.thing), ap length h.things) in
        subst (λ x. In x xs) (ap (λ ys. get_or ys k 0) (sym h.things) ∙ get_or-map (λ w. w.thing) ws k no_wake) (contains_in (get_or xs k 0) xs (Contains-get_or xs k 0 less))

    one : (k : ℕ) → k < length ws → IsWake d (blocking_target d (body_at d p)) (λ x. body_mentions x (body_at d p)) (get_or ws k no_wake)
    one k l =
        let is = All-get_or (IsWake d (row_has row) (λ x. has x (mentioned_names (process_at d p)))) ws k no_wake l h.each in
        let x = (get_or ws k no_wake).thing in
        record {
          places = λ i. is.places i ∙ ⊎_elim (λ below. ap (λ b. nat_lt i (signal_at d x).width && not b) (bits.has (cell x i) below)) (λ past. no_width d x i (not (row_has row (cell x i))) past ∙ sym (no_width d x i (not (blocking_target d (body_at d p) (cell x i))) past)) (cases_lt x (length d.signals));
          mentioned = is.mentioned ∙ mentioned_is (process_at d p) x (level_settles (process_at d p) x (level x (watches k l)));
        }

-- the rows of all processes
pub all_wakes : (d : Design) (watched : List (List ℕ)) (rows : List (List Wake)) → length rows ≡ length watched
    → ((p : ℕ) → p < length watched → AreWakes d (blocking_target d (body_at d p)) (λ x. body_mentions x (body_at d p)) (row_at watched p) (row_at rows p)) → AreWakeRows d watched rows
all_wakes d watched rows e h = record { count = e; each = λ p. ⊎_elim (λ l. h p l) (λ past. past_row p past) (cases_lt p (length watched)) }
  where
    past_row : (p : ℕ) → length watched ≤ p → AreWakes d (blocking_target d (body_at d p)) (λ x. body_mentions x (body_at d p)) (row_at watched p) (row_at rows p)
    past_row p past =
        subst (λ xs. AreWakes d (blocking_target d (body_at d p)) (λ x. body_mentions x (body_at d p)) xs (row_at rows p)) (sym (get_or_past watched p [] past))
        (subst (λ ws. AreWakes d (blocking_target d (body_at d p)) (λ x. body_mentions x (body_at d p)) [] ws) (sym (get_or_past rows p [] (omega (arith, past, e)))) (no_wakes d (blocking_target d (body_at d p)) (λ x. body_mentions x (body_at d p))))

-- two tests of one fact
pub iff_same : {C : Type 0} (a b : Bool) → ((a ≡ true) ↔ C) → (C ↔ (b ≡ true)) → a ≡ b
iff_same true true f g = refl
iff_same true false f g = absurd (false≢true (g.0 (f.0 refl)))
iff_same false true f g = absurd (false≢true (f.1 (g.1 refl)))
iff_same false false f g = refl

-- the signals of a row are of the design
pub named_below : (d : Design) (row : List Bits) (s : ℕ) → All (IsInside d) row → names row s ≡ true → s < length d.signals
named_below d [] s h n = absurd (false≢true n)
named_below d (b ∷ row) s h n =
    ⊎_elim (λ e. subst (λ x. x < length d.signals) (eqb-true b.signal s e) (All-head (IsInside d) b row h).0) (λ e. named_below d row s (All-tail (IsInside d) b row h) e) (or_cases (b.signal == s) _ n)

-- a design has few things
few_memories : (ms : List Memory) → length ms ≤ sum_by (λ m. span m.first m.last) ms
few_memories [] = omega arith
few_memories (m ∷ ms) =
    let step : sum_by (λ k. span k.first k.last) (m ∷ ms) ≡ span m.first m.last + sum_by (λ k. span k.first k.last) ms = sum_by-cons (λ k. span k.first k.last) m ms in
    let some : 1 ≤ span m.first m.last = omega arith in
    omega (arith, few_memories ms, step, some)

pub few_things : (d : Design) → IsLawfulDesign d → length d.signals + length d.memories ≤ 327680
few_things d lawful = omega (arith, lawful.few_signals, lawful.few_words, few_memories d.memories)
