-- At 15 the block knows we and the word that it reads, so one path is open.
use Rattle.std.proofs.Common.{◌≡◌, ◌≢◌, refl, sym, ap, subst, ◌∙◌, ℕ, zero, suc, true, false, List, [], ◌∷◌, ◌++◌, inl, inr, arith, suc-ne-zero, lit<, lit≤, Some}
use Rattle.std.specs.List.{list_any}
use Rattle.std.proofs.lemmas.Bool.{false≢true}
use Rattle.event_machine.specs.Cell.{Cell, Values}
use Rattle.event_machine.specs.Machine.{Posedge}
use Rattle.event_machine.specs.Habit.{Free}
use Rattle.event_machine.specs.MayMove.{MayMove}
use Rattle.event_machine.specs.Early.{IsEarly}
use Rattle.four_state.specs.Parts.{index}
use Rattle.four_state.specs.Vector.{extend, truth}
use Rattle.four_state.specs.declared.bit.Bit.{Bit}
use Rattle.four_state.specs.declared.bit.Bit.TheVariants.{One, X, Zero}
use Rattle.design_model.specs.Tree.{Term, signal, word}
use Rattle.design_model.specs.Design.{In, Thing, a_signal, a_word, body_at, cell, memory_at, thing_bits}
use Rattle.design_model.specs.Value.{named_word, option_word, value, word_named}
use Rattle.design_model.specs.Execution.{cases, node_visits, visits_of, word_read}
use Rattle.design_model.specs.Paths.{Path, paths, reaches}
use Rattle.design_model.specs.Reads.{Agrees, AllInside, PartialMap}
use Rattle.design_model.specs.Machine.{is_input_cell, machine}
use Rattle.design_model.specs.declared.point.Point.TheVariants.{Word as word_point}
use Rattle.design_model.specs.MayMove.{IsCleanAt, told_at}
use Rattle.design_model.specs.Early.{IsEarlyAt}
use Rattle.design_model.specs.Clear.{EntryFrom, clear, of_dump}
use Rattle.design_model.specs.Open.{ActionReads, FollowsAll, HasAction, IsFixed, IsOpen, IsOpenPath, IsSurelyOpen, KnownOnEntry, is_true, outer}
use Rattle.design_model.specs.ExampleParts.{counted, wide}
use Rattle.design_model.specs.Ram.{ram, ram_dump, ram_values}
use Rattle.design_model.proofs.Bound.{clear-thing, clear_bound}
use Rattle.design_model.proofs.RamClear.{clear_14, word_value}
use Rattle.worked_examples.specs.Design.RamPoints.{IsRamPointsExample, line_zero}
use Rattle.worked_examples.specs.Design.Unread.{line_one, line_write}
use Rattle.worked_examples.proofs.Design.OneSet.{one_rise}
use Rattle.worked_examples.proofs.Design.Parts.{Zero≢One, path_at, thing_of}
use Rattle.worked_examples.proofs.Design.PathSteps.{is_reaching, node_inside, reaching_found}
use Rattle.worked_examples.proofs.Design.UnreadClear.{no_word}

signal_ne : (s : ℕ) → a_signal (suc s) ≢ a_signal 0
signal_ne s e = suc-ne-zero s (ap thing_of e)

-- ---- the block is clean at 15, and nothing is early

is_clean : IsCleanAt ram ram_dump 15 0 (cell 0 0)
is_clean =
    record {
      clocked = λ x. refl;
      can_wake = ((Posedge, refl, λ s. refl), MayMove.of_input (cell 0 0) (refl, λ s. Zero≢One));
      alone = λ c wakes. one_rise 0 wakes.0.0 c wakes.0.1;
      is_single = (refl, refl);
    }

only : (e : Cell) → IsCleanAt ram ram_dump 15 0 e → e ≡ cell 0 0
only e clean = one_rise 0 clean.can_wake.0.0 e clean.can_wake.0.1

no_blocking : (p : ℕ) (c : Cell) → (machine ram).blocking p c ≡ true → ⊥
no_blocking zero c h = false≢true h
no_blocking (suc p) c h = false≢true h

moving_clk : (x k : ℕ) → is_input_cell ram (cell x k) ≡ true → (ram_dump.bound x ≡ true → (told_at ram_dump 15).old (cell x k) ≢ (told_at ram_dump 15).new (cell x k)) → x ≢ 0 → ⊥
moving_clk zero k h moves ne = ne refl
moving_clk (suc zero) k h moves ne = moves refl refl
moving_clk (suc (suc zero)) k h moves ne = moves refl refl
moving_clk (suc (suc (suc zero))) k h moves ne = moves refl refl
moving_clk (suc (suc (suc (suc zero)))) k h moves ne = moves refl refl
moving_clk (suc (suc (suc (suc (suc zero))))) k h moves ne = false≢true h
moving_clk (suc (suc (suc (suc (suc (suc x)))))) k h moves ne = false≢true h

none_is_early : (x : ℕ) → IsEarlyAt ram Free ram_dump 15 0 (cell 0 0) x → ⊥
none_is_early x (IsEarly.of_input c moving free other) = moving_clk c.thing c.place moving.0 moving.1 other
none_is_early x (IsEarly.of_trigger p c stirs other blocks away) = no_blocking p c blocks
none_is_early x (IsEarly.of_blocking y p c is stirs other blocks away) = no_blocking p c blocks
none_is_early x (IsEarly.of_nonblocking y p c is stirs queues away) = none_is_early y is

-- ---- what the block knows

abbrev K : PartialMap
K = KnownOnEntry ram Free ram_dump 15 0

abbrev now : Values Bit
now = ram_values One Zero Zero (X ∷ X ∷ X ∷ One ∷ [])

old_of : (x : Thing) (bits : List Bit) → EntryFrom ram Free ram_dump 15 (clear ram Free ram_dump 14) 0 (cell 0 0) x bits → x ≢ a_signal 0 → clear ram Free ram_dump 14 x bits
old_of x bits (inl new) other = absurd (other new.0)
old_of x bits (inr old) other = old.2

entry_agrees : Agrees ram (EntryFrom ram Free ram_dump 15 (clear ram Free ram_dump 14) 0 (cell 0 0)) (ram_values One Zero Zero (X ∷ X ∷ X ∷ One ∷ []))
entry_agrees (a_signal zero) bits (inl new) = sym new.1
entry_agrees (a_signal zero) bits (inr old) = absurd (old.0 refl)
entry_agrees (a_signal (suc zero)) bits k = sym (clear_bound ram Free ram_dump 14 1 bits (old_of _ bits k (signal_ne 0)) refl)
entry_agrees (a_signal (suc (suc zero))) bits k = sym (clear_bound ram Free ram_dump 14 2 bits (old_of _ bits k (signal_ne 1)) refl)
entry_agrees (a_signal (suc (suc (suc zero)))) bits k = sym (clear_bound ram Free ram_dump 14 3 bits (old_of _ bits k (signal_ne 2)) refl)
entry_agrees (a_signal (suc (suc (suc (suc zero))))) bits k = sym (clear_bound ram Free ram_dump 14 4 bits (old_of _ bits k (signal_ne 3)) refl)
entry_agrees (a_signal (suc (suc (suc (suc (suc zero)))))) bits k = sym (clear_bound ram Free ram_dump 14 5 bits (old_of _ bits k (signal_ne 4)) refl)
entry_agrees (a_signal (suc (suc (suc (suc (suc (suc s))))))) bits k = absurd (omega (arith, clear-thing ram Free ram_dump 14 (a_signal (suc (suc (suc (suc (suc (suc s))))))) bits (old_of _ bits k (signal_ne (suc (suc (suc (suc (suc s)))))))))
entry_agrees (a_word m i) bits k =
    let is = word_value 9 m i bits (lit< tt) (old_of (a_word m i) bits k (λ e. no_word 0 m i (sym e))) in
    subst (λ x. thing_bits ram now x ≡ bits) (sym is.0) (sym is.1)

agrees : Agrees ram (KnownOnEntry ram Free ram_dump 15 0) (ram_values One Zero Zero (X ∷ X ∷ X ∷ One ∷ []))
agrees x bits k = entry_agrees x bits (subst (λ e. EntryFrom ram Free ram_dump 15 (clear ram Free ram_dump 14) 0 e x bits) (only k.0 k.1) k.2)

knows_we : KnownOnEntry ram Free ram_dump 15 0 (a_signal 1) (Zero ∷ [])
knows_we = (cell 0 0, is_clean, inr (signal_ne 0, none_is_early 1, (1, of_dump 1 (Zero ∷ []) (lit≤ tt, lit< tt) refl (lit< tt) refl)))

knows_ra : KnownOnEntry ram Free ram_dump 15 0 (a_signal 3) (One ∷ One ∷ [])
knows_ra = (cell 0 0, is_clean, inr (signal_ne 2, none_is_early 3, (1, of_dump 3 (One ∷ One ∷ []) (lit≤ tt, lit< tt) refl (lit< tt) refl)))

knows_word : KnownOnEntry ram Free ram_dump 15 0 (a_word 6 3) (One ∷ [])
knows_word = (cell 0 0, is_clean, inr ((λ e. no_word 0 6 3 (sym e)), none_is_early 6, clear_14))

-- ---- the tests

fixed_we : IsFixed ram (KnownOnEntry ram Free ram_dump 15 0) (body_at ram 0) (signal (counted 1) 1)
fixed_we = record { within = λ v a. ((Zero ∷ [], knows_we), node_inside K (Some 1) (cases ram v (signal (counted 1) 1))); unwritten = λ x m. refl }

we_is : (v : Values Bit) → Agrees ram (KnownOnEntry ram Free ram_dump 15 0) v → is_true (truth (value ram v (signal (counted 1) 1))) ≡ false
we_is v av = ap (λ bs. is_true (truth (extend 1 false bs))) (av (a_signal 1) (Zero ∷ []) knows_we)

fixed_ra : IsFixed ram (KnownOnEntry ram Free ram_dump 15 0) (body_at ram 0) (signal wide 3)
fixed_ra = record { within = λ v a. ((One ∷ One ∷ [], knows_ra), tt); unwritten = λ x m. refl }

-- ra names word 3
names_three : (v : Values Bit) → Agrees ram (KnownOnEntry ram Free ram_dump 15 0) v → word_named ram v 6 (signal wide 3) ≡ Some 3
names_three v av = ap (λ bs. named_word (memory_at ram 6) (index false (extend 2 false bs))) (av (a_signal 3) (One ∷ One ∷ []) knows_ra)

-- m[ra]
abbrev read_word : Term
read_word = word (counted 2) 6 (signal wide 3)

fixed_word : IsFixed ram (KnownOnEntry ram Free ram_dump 15 0) (body_at ram 0) read_word
fixed_word = record { within = told; unwritten = λ x m. refl }
  where
    told : (v : Values Bit) → Agrees ram K v → AllInside K (visits_of ram v outer read_word)
    told v av = ((One ∷ One ∷ [], knows_ra), subst (λ o. AllInside K (word_read outer 6 o ++ node_visits (Some 2) (cases ram v read_word))) (sym (names_three v av)) ((One ∷ [], knows_word), node_inside K (Some 2) (cases ram v read_word)))

word_is : (v : Values Bit) → Agrees ram (KnownOnEntry ram Free ram_dump 15 0) v → is_true (truth (value ram v read_word)) ≡ true
word_is v av = ap (λ o. is_true (truth (extend 1 false (option_word ram v 6 o)))) (names_three v av) ∙ ap (λ bs. is_true (truth (extend 1 false bs))) (av (a_word 6 3) (One ∷ []) knows_word)

-- ---- the paths: that of the write and that of a word that is not true are closed

abbrev path_of : ℕ → Path
path_of n = path_at n (paths [] (body_at ram 0))

write_closed : FollowsAll ram K (body_at ram 0) (path_of 0) → ⊥
write_closed f = false≢true (sym (we_is now agrees) ∙ f.1.0 fixed_we now agrees)

zero_closed : FollowsAll ram K (body_at ram 0) (path_of 2) → ⊥
zero_closed f = false≢true (sym (f.1.1.1.0 fixed_word now agrees) ∙ word_is now agrees)

-- so an open path is the other one
one_path : (P : Path → Type 0) → P (path_of 1) → (path : Path) → IsOpenPath ram K (body_at ram 0) path → P path
one_path P is path o = go o.is_path
  where
    go : In path (paths [] (body_at ram 0)) → P path
    go (inl e) = absurd (write_closed (subst (FollowsAll ram K (body_at ram 0)) (sym e) o.follows))
    go (inr (inl e)) = subst P e is
    go (inr (inr (inl e))) = absurd (zero_closed (subst (FollowsAll ram K (body_at ram 0)) (sym e) o.follows))
    go (inr (inr (inr n))) = absurd n

-- a line that it does not reach is not open
away : (n : ℕ) → list_any (λ y. is_reaching n y.action) (path_of 1) ≡ false → (path : Path) → IsOpenPath ram K (body_at ram 0) path → (at : List ℕ) → HasAction (λ x. x ≡ reaches n) at path → ⊥
away n none path o at h = false≢true (sym (one_path (λ p. list_any (λ y. is_reaching n y.action) p ≡ false) none path o) ∙ reaching_found n h.0 path h.1 h.3)

is_write_not_open : IsOpen ram (KnownOnEntry ram Free ram_dump 15 0) (body_at ram 0) line_write → ⊥
is_write_not_open h = away 2 refl h.0 h.1 h.2.0 h.2.1

is_not_open : IsOpen ram (KnownOnEntry ram Free ram_dump 15 0) (body_at ram 0) line_zero → ⊥
is_not_open h = away 5 refl h.0 h.1 h.2.0 h.2.1

is_surely_open : IsSurelyOpen ram (KnownOnEntry ram Free ram_dump 15 0) (body_at ram 0) line_one
is_surely_open = (0 ∷ 1 ∷ [], λ path o. one_path (HasAction (λ x. x ≡ reaches 4) (0 ∷ 1 ∷ [])) (_, inr (inr (inr (inr (inl refl)))), refl, refl) path o)

is_read_sure : IsSurelyOpen ram (KnownOnEntry ram Free ram_dump 15 0) (body_at ram 0) (word_point 6 3 false)
is_read_sure = (signal wide 3, fixed_ra, names_three, (1 ∷ [], λ path o. one_path (HasAction (λ x. ActionReads 6 x (signal wide 3)) (1 ∷ [])) (_, inr (inr (inr (inl refl))), refl, (counted 2, inl refl)) path o))

pub ram_points_example : IsRamPointsExample
ram_points_example = record { write_not_open = is_write_not_open; not_open = is_not_open; read_surely_open = is_read_sure; surely_open = is_surely_open }
