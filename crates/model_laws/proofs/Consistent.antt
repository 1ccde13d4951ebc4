-- What is clear contradicts itself at no time: by rounds, and in time.
use Rattle.std.proofs.Common.{◌≡◌, ⊎_elim, ℕ, zero, suc, ◌+◌, ◌<◌, ◌≤◌, List, length, max, refl, sym, subst, ◌∙◌, arith}
use Rattle.std.proofs.lemmas.Bool.{cases_lt}
use Rattle.design_model.specs.event_machine.Cell.{Values}
use Rattle.design_model.specs.event_machine.Habit.{Habit}
use Rattle.design_model.specs.four_state.declared.bit.Bit.{Bit}
use Rattle.design_model.specs.Design.{Design, IsThing, Thing, a_signal, a_word, memory_at, owner, thing_bits}
use Rattle.design_model.specs.Mentions.{blank}
use Rattle.design_model.specs.Reads.{Agrees, HasValue, PartialMap, nothing_known}
use Rattle.design_model.specs.Shows.{BoundDump}
use Rattle.design_model.specs.Clear.{clear, clear_from, clear_in}
use Rattle.design_model.specs.Lawful.{IsLawfulDesign}
use Rattle.design_model.proofs.AssignLaws.{own_not_clear_law}
use Rattle.design_model.proofs.Bound.{clear-thing, clear_in-thing}
use Rattle.design_model.proofs.Rounds.{rounds_grow}
use Rattle.model_laws.specs.Consistent.{ConsistentLaw, HasOwnUnclear, OneValueLaw}
use Rattle.model_laws.proofs.Rules.{served}
use Rattle.model_laws.proofs.States.{bits_or, combine, middle, owner_below, some_round}

module _ (d : Design) (lawful : IsLawfulDesign d) (h : Habit) (dump : BoundDump) (t : ℕ) (start : PartialMap) (u : Values Bit) (au : Agrees d start u) (things : (x : Thing) (bits : List Bit) → start x bits → IsThing d x) where
  -- each round agrees with some state
  round_agrees : (n : ℕ) → ((v : Values Bit) → Agrees d (clear_in d h dump t start n) v → ⊥) → ⊥
  round_agrees zero done = done u (λ x bits none. absurd none)
  round_agrees (suc n) done =
      round_agrees n
      (λ v av.
      combine d (clear_in d h dump t start (suc n)) (served d lawful h dump t start u au things n v av) u (length d.signals + length d.memories)
      (λ w all. done w (λ x bits k. all (owner x) (owner_below d x (clear_in-thing d h dump t start (suc n) x bits k)) x bits refl k)))

  up : (n m : ℕ) → n ≤ m → (x : Thing) (bits : List Bit) → clear_in d h dump t start n x bits → clear_in d h dump t start m x bits
  up zero m le x bits k = absurd k
  up (suc n) zero le x bits k = absurd (omega (arith, le))
  up (suc n) (suc m) le x bits k = ⊎_elim (λ below. rounds_grow d h dump t start m x bits (up (suc n) m (omega (arith, below)) x bits k)) (λ over. subst (λ z. clear_in d h dump t start z x bits) (same over) k) (cases_lt n m)
    where
      same : m ≤ n → suc n ≡ suc m
      same over = omega (arith, le, over)

  -- what is clear of a thing is so in this round
  abbrev IsBy : ℕ → Thing → Type 0
  IsBy n x = HasValue (clear_from d h dump t start) x → HasValue (clear_in d h dump t start n) x

  by_up : (a b : ℕ) (x : Thing) → a ≤ b → IsBy a x → IsBy b x
  by_up a b x le f k = let r = f k in (r.0, up a b le x r.0 r.1)

  some_by : (x : Thing) → ((n : ℕ) → IsBy n x → ⊥) → ⊥
  some_by x done = middle (HasValue (clear_from d h dump t start) x) (⊎_elim (λ k. done k.1.0 (λ z. (k.0, k.1.1))) (λ none. done 0 (λ k. absurd (none k))))

  -- of the signal and the words with a number
  abbrev AreBy : ℕ → ℕ → Type 0
  AreBy n o = IsBy n (a_signal o) × ((i : ℕ) → i < suc (max (memory_at d o).first (memory_at d o).last) → IsBy n (a_word o i))

  some_are : (o : ℕ) → ((n : ℕ) → AreBy n o → ⊥) → ⊥
  some_are o done =
      some_by (a_signal o)
      (λ a f.
      some_round (suc (max (memory_at d o).first (memory_at d o).last)) (λ n i. IsBy n (a_word o i)) (λ b c i le g. by_up b c (a_word o i) le g) (λ i. some_by (a_word o i))
      (λ b g. done (a + b) (by_up a (a + b) (a_signal o) (omega arith) f, λ i below. by_up b (a + b) (a_word o i) (omega arith) (g i below))))

  are_up : (a b o : ℕ) → a ≤ b → AreBy a o → AreBy b o
  are_up a b o le f = (by_up a b (a_signal o) le f.0, λ i below. by_up a b (a_word o i) le (f.1 i below))

  -- so all of it is in some round, and some state agrees with it
  pub from_agrees : ((v : Values Bit) → Agrees d (clear_from d h dump t start) v → ⊥) → ⊥
  from_agrees done =
      some_round (length d.signals + length d.memories) AreBy are_up some_are
      (λ n all. round_agrees n (λ v av. done v (λ x bits k. agrees n all v av x bits k)))
    where
      by_round : (n : ℕ) → ((o : ℕ) → o < length d.signals + length d.memories → AreBy n o) → (x : Thing) → IsThing d x → IsBy n x
      by_round n all (a_signal s) is = (all s (owner_below d (a_signal s) is)).0
      by_round n all (a_word m i) is = (all m (owner_below d (a_word m i) is)).1 i (let most = is.2 in omega (arith, most))

      agrees : (n : ℕ) → ((o : ℕ) → o < length d.signals + length d.memories → AreBy n o) → (v : Values Bit) → Agrees d (clear_in d h dump t start n) v → (x : Thing) (bits : List Bit) → clear_from d h dump t start x bits → thing_bits d v x ≡ bits
      agrees n all v av x bits k = ⊎_elim (λ e. e) (λ apart. absurd (never apart)) (bits_or (thing_bits d v x) bits)
        where
          last : HasValue (clear_in d h dump t start n) x
          last = by_round n all x (clear_in-thing d h dump t start k.0 x bits k.1) (bits, k)

          never : (thing_bits d v x ≡ bits → ⊥) → ⊥
          never apart =
              round_agrees (k.0 + n)
              (λ w aw. apart (av x last.0 last.1 ∙ sym (aw x last.0 (up n (k.0 + n) (omega arith) x last.0 last.1)) ∙ aw x bits (up k.0 (k.0 + n) (omega arith) x bits k.1)))

pub consistent_law : (d : Design) → IsLawfulDesign d → (h : Habit) → ConsistentLaw d h
consistent_law d lawful h dump zero done = from_agrees d lawful h dump 0 nothing_known blank (λ x bits none. absurd none) (λ x bits none. absurd none) done
consistent_law d lawful h dump (suc t) done = consistent_law d lawful h dump t (λ u au. from_agrees d lawful h dump (suc t) (clear d h dump t) u au (λ x bits k. clear-thing d h dump t x bits k) done)

pub one_value_law : (d : Design) → IsLawfulDesign d → (h : Habit) → OneValueLaw d h
one_value_law d lawful h dump t x a b first second = ⊎_elim (λ e. e) (λ apart. absurd (consistent_law d lawful h dump t (λ v av. apart (sym (av x a first) ∙ av x b second)))) (bits_or a b)

pub own_unclear_law : (d : Design) → IsLawfulDesign d → HasOwnUnclear d
own_unclear_law d lawful h dump t p y is_a mentioned mine free value = consistent_law d lawful h dump t (λ v av. own_not_clear_law d lawful h dump t p y v (is_a, mentioned, mine) free av value)
