-- What is open, and in doubt, where the word that is read was not written.
use Rattle.std.proofs.Common.{◌≡◌, ◌≢◌, refl, sym, ap, subst, ◌∙◌, ℕ, zero, suc, ◌≤◌, true, false, List, [], ◌∷◌, inl, inr, arith, lit<, lit≤, Some}
use Rattle.std.specs.List.{list_any}
use Rattle.std.proofs.lemmas.Bool.{false≢true}
use Rattle.event_machine.specs.Cell.{Values, Write, put}
use Rattle.event_machine.specs.Habit.{Free}
use Rattle.four_state.specs.Vector.{extend, truth}
use Rattle.four_state.specs.declared.bit.Bit.{Bit}
use Rattle.four_state.specs.declared.bit.Bit.TheVariants.{One, X, Zero}
use Rattle.design_model.specs.Tree.{Head, Term, signal, word}
use Rattle.design_model.specs.Design.{In, a_signal, a_word, body_at, cell, thing_bits}
use Rattle.design_model.specs.Value.{value}
use Rattle.design_model.specs.Execution.{at_line, cases, execution, reads}
use Rattle.design_model.specs.Paths.{Path, PlacedAction, paths, reaches}
use Rattle.design_model.specs.Reads.{Agrees, HasValue, PartialMap, UpToOutside}
use Rattle.design_model.specs.declared.point.Point.TheVariants.{Word as word_point}
use Rattle.design_model.specs.Clear.{all_writes, clear}
use Rattle.design_model.specs.Open.{ActionReads, ActionWrites, FollowsAll, HasAction, IsFixed, IsOpen, IsOpenPath, IsSurelyOpen, KnownOnEntry, NamesWord, is_true}
use Rattle.design_model.specs.Doubt.{IsInDoubt, of_block, unclear_at_start}
use Rattle.design_model.specs.ExampleParts.{counted, wide}
use Rattle.design_model.specs.Ram.{ram}
use Rattle.worked_examples.specs.Design.Unread.{IsOtherWordExample, IsUnknownWordExample, line_one, line_test, line_write, other_dump, unknown_dump, words_dump, words_values}
use Rattle.worked_examples.proofs.Design.Parts.{none_some, path_at}
use Rattle.worked_examples.proofs.Design.PathSteps.{is_reaching, node_inside, reaching_found}
use Rattle.worked_examples.proofs.Design.UnreadClear.{clean_15, clean_5, has_15, has_5, knows_15, knows_we, knows_5, no_word, none_early_15, unwritten, word_at_14, word_unknown, words_before}

some_apart : (a b : ℕ) → (a ≡ b → ⊥) → Some a ≢ Some b
some_apart a b ne = grind arith

abbrev path_of : ℕ → Path
path_of n = path_at n (paths [] (body_at ram 0))

-- m[ra]
abbrev read_word : Term
read_word = word (counted 2) 6 (signal wide 3)

-- each word of m that the path reads has this index
abbrev ReadsBy : Term → Path → Type 0
ReadsBy j [] = Unit {0}
ReadsBy j (x ∷ xs) = ((i : Term) → ActionReads 6 x.action i → j ≡ i) × ReadsBy j xs

-- so has each that it writes
abbrev WritesBy : Term → Path → Type 0
WritesBy j [] = Unit {0}
WritesBy j (x ∷ xs) = ((i : Term) → ActionWrites 6 x.action i → j ≡ i) × WritesBy j xs

read_by : (j : Term) (path : Path) → ReadsBy j path → (x : PlacedAction) → In x path → (i : Term) → ActionReads 6 x.action i → j ≡ i
read_by j [] all x h i does = absurd h
read_by j (y ∷ ys) all x (inl e) i does = all.0 i (subst (λ z. ActionReads 6 z.action i) (sym e) does)
read_by j (y ∷ ys) all x (inr h) i does = read_by j ys all.1 x h i does

written_by : (j : Term) (path : Path) → WritesBy j path → (x : PlacedAction) → In x path → (i : Term) → ActionWrites 6 x.action i → j ≡ i
written_by j [] all x h i does = absurd h
written_by j (y ∷ ys) all x (inl e) i does = all.0 i (subst (λ z. ActionWrites 6 z.action i) (sym e) does)
written_by j (y ∷ ys) all x (inr h) i does = written_by j ys all.1 x h i does

module _ (wa ra : List Bit) where
  abbrev K : PartialMap
  K = KnownOnEntry ram Free (words_dump wa ra) 15 0

  abbrev now : List Bit → Values Bit
  now words = words_values One Zero wa ra Zero words

  module _ (words : List Bit) (agrees : Agrees ram (KnownOnEntry ram Free (words_dump wa ra) 15 0) (words_values One Zero wa ra Zero words)) where
    -- we is known to be 0
    fixed_we : IsFixed ram (KnownOnEntry ram Free (words_dump wa ra) 15 0) (body_at ram 0) (signal (counted 1) 1)
    fixed_we = record { within = λ v a. (has_15 wa ra 0 (lit< tt), node_inside K (Some 1) (cases ram v (signal (counted 1) 1))); unwritten = λ x m. refl }

    we_is : (v : Values Bit) → Agrees ram (KnownOnEntry ram Free (words_dump wa ra) 15 0) v → is_true (truth (value ram v (signal (counted 1) 1))) ≡ false
    we_is v av = ap (λ bs. is_true (truth (extend 1 false bs))) (av (a_signal 1) (Zero ∷ []) (knows_we wa ra))

    -- the path of the write is closed
    closed : FollowsAll ram K (body_at ram 0) (path_of 0) → ⊥
    closed f = false≢true (sym (we_is (now words) agrees) ∙ f.1.0 fixed_we (now words) agrees)

    pub write_closed : IsOpen ram (KnownOnEntry ram Free (words_dump wa ra) 15 0) (body_at ram 0) line_write → ⊥
    write_closed h = go h.1.is_path
      where
        none : (k : ℕ) → path_of k ≡ h.0 → list_any (λ y. is_reaching 2 y.action) (path_of k) ≡ false → ⊥
        none k e away = false≢true (sym away ∙ reaching_found 2 h.2.1.0 (path_of k) (subst (In h.2.1.0) (sym e) h.2.1.1) h.2.1.3)

        go : In h.0 (paths [] (body_at ram 0)) → ⊥
        go (inl e) = closed (subst (FollowsAll ram K (body_at ram 0)) (sym e) h.1.follows)
        go (inr (inl e)) = none 1 e refl
        go (inr (inr (inl e))) = none 2 e refl
        go (inr (inr (inr n))) = n

    pub test_sure : IsSurelyOpen ram (KnownOnEntry ram Free (words_dump wa ra) 15 0) (body_at ram 0) line_test
    test_sure = (1 ∷ [], λ path o. go path o o.is_path)
      where
        go : (path : Path) → IsOpenPath ram K (body_at ram 0) path → In path (paths [] (body_at ram 0)) → HasAction (λ x. x ≡ reaches 3) (1 ∷ []) path
        go path o (inl e) = absurd (closed (subst (FollowsAll ram K (body_at ram 0)) (sym e) o.follows))
        go path o (inr (inl e)) = subst (HasAction (λ x. x ≡ reaches 3) (1 ∷ [])) e (_, inr (inr (inl refl)), refl, refl)
        go path o (inr (inr (inl e))) = subst (HasAction (λ x. x ≡ reaches 3) (1 ∷ [])) e (_, inr (inr (inl refl)), refl, refl)
        go path o (inr (inr (inr n))) = absurd n

    -- where the test of the word is not fixed, the line after it is open
    pub open_one : (IsFixed ram (KnownOnEntry ram Free (words_dump wa ra) 15 0) (body_at ram 0) (word (counted 2) 6 (signal wide 3)) → ⊥) → IsOpen ram (KnownOnEntry ram Free (words_dump wa ra) 15 0) (body_at ram 0) line_one
    open_one not_fixed = (path_of 1, record { is_path = inr (inl refl); follows = (tt, ((λ f v av. we_is v av), (tt, ((λ f. absurd (not_fixed f)), (tt, (tt, tt)))))) }, (0 ∷ 1 ∷ [], (_, inr (inr (inr (inr (inl refl)))), refl, refl)))

    -- so m is in doubt for it, if the word that is read was not clear
    pub word_doubt : (i : ℕ) → i ≤ 3 → (HasValue (clear ram Free (words_dump wa ra) 14) (a_word 6 i) → ⊥) → UpToOutside (KnownOnEntry ram Free (words_dump wa ra) 15 0) (reads (a_word 6 i) false) (execution ram (body_at ram 0) (words_values One Zero wa ra Zero words)).visits → IsOpen ram (KnownOnEntry ram Free (words_dump wa ra) 15 0) (body_at ram 0) line_one → IsInDoubt ram Free (words_dump wa ra) line_one 15 6
    word_doubt i below unclear upto is_open =
        of_block 0 (lit< tt, lit< tt) refl (inl ((cell 0 0, (clean_15 wa ra).can_wake), inr is_open))
        (unclear_at_start (record {
          thing = a_word 6 i;
          is_thing = (refl, omega arith, below);
          of_owner = refl;
          can_wake = (cell 0 0, (clean_15 wa ra).can_wake);
          is_read = inl (words_values One Zero wa ra Zero words, agrees, upto);
          no_trigger = λ c clean e. no_word c.thing 6 i (sym e);
          unclear = unclear;
        }))

-- ---- word 3 is written, and word 2 is read

abbrev other_writes : List (Write Bit)
other_writes = all_writes (execution ram (body_at ram 0) (words_values One One (One ∷ One ∷ []) (Zero ∷ One ∷ []) Zero []))

two_unclear : HasValue (clear ram Free other_dump 14) (a_word 6 2) → ⊥
two_unclear = unwritten (One ∷ One ∷ []) (Zero ∷ One ∷ []) 2 refl

three_is : (bits : List Bit) → clear ram Free other_dump 14 (a_word 6 3) bits → One ∷ [] ≡ bits
unfolding put
three_is bits k = (word_at_14 (One ∷ One ∷ []) (Zero ∷ One ∷ []) 3 bits k).is (words_values One One (One ∷ One ∷ []) (Zero ∷ One ∷ []) Zero []) (λ w old. absurd (words_before (One ∷ One ∷ []) (Zero ∷ One ∷ []) 4 6 3 w (lit< tt) old))

other_fits : (i : ℕ) (bits : List Bit) → i ≤ 3 → clear ram Free other_dump 14 (a_word 6 i) bits → thing_bits ram (words_values One Zero (One ∷ One ∷ []) (Zero ∷ One ∷ []) Zero (X ∷ X ∷ X ∷ One ∷ [])) (a_word 6 i) ≡ bits
other_fits zero bits below k = absurd (unwritten (One ∷ One ∷ []) (Zero ∷ One ∷ []) 0 refl (bits, k))
other_fits (suc zero) bits below k = absurd (unwritten (One ∷ One ∷ []) (Zero ∷ One ∷ []) 1 refl (bits, k))
other_fits (suc (suc zero)) bits below k = absurd (unwritten (One ∷ One ∷ []) (Zero ∷ One ∷ []) 2 refl (bits, k))
other_fits (suc (suc (suc zero))) bits below k = three_is bits k
other_fits (suc (suc (suc (suc i)))) bits below k = absurd (omega (arith, below))

other_agrees : Agrees ram (KnownOnEntry ram Free other_dump 15 0) (words_values One Zero (One ∷ One ∷ []) (Zero ∷ One ∷ []) Zero (X ∷ X ∷ X ∷ One ∷ []))
other_agrees = knows_15 (One ∷ One ∷ []) (Zero ∷ One ∷ []) (X ∷ X ∷ X ∷ One ∷ []) other_fits

abbrev OtherK : PartialMap
OtherK = KnownOnEntry ram Free other_dump 15 0

reads_two : UpToOutside (KnownOnEntry ram Free other_dump 15 0) (reads (a_word 6 2) false) (execution ram (body_at ram 0) (words_values One Zero (One ∷ One ∷ []) (Zero ∷ One ∷ []) Zero (X ∷ X ∷ X ∷ One ∷ []))).visits
reads_two = inr (tt, inr (has_15 (One ∷ One ∷ []) (Zero ∷ One ∷ []) 0 (lit< tt), inr (tt, inr (tt, inr (has_15 (One ∷ One ∷ []) (Zero ∷ One ∷ []) 2 (lit< tt), inl refl)))))

other_not_fixed : IsFixed ram (KnownOnEntry ram Free other_dump 15 0) (body_at ram 0) read_word → ⊥
other_not_fixed f = word_unknown (One ∷ One ∷ []) (Zero ∷ One ∷ []) 2 two_unclear (f.within (words_values One Zero (One ∷ One ∷ []) (Zero ∷ One ∷ []) Zero (X ∷ X ∷ X ∷ One ∷ [])) other_agrees).1.0

-- the only word that is read is that of ra
abbrev index_of : Term → Term
index_of (word h m i) = i
index_of t = t

abbrev IsWord : Term → Type 0
IsWord (word h m i) = Unit {0}
IsWord t = ⊥

not_word : (t : Term) (h : Head) (i : Term) → (IsWord t → ⊥) → t ≡ word h 6 i → ⊥
not_word t h i none e = none (subst IsWord (sym e) tt)

no_term : (i : Term) → ((h : Head) × In (word h 6 i) []) → signal wide 3 ≡ i
no_term i r = absurd r.1

one_term : (t : Term) → (IsWord t → ⊥) → (i : Term) → ((h : Head) × In (word h 6 i) (t ∷ [])) → signal wide 3 ≡ i
one_term t none i (h, inl e) = absurd (not_word t h i none e)
one_term t none i (h, inr n) = absurd n

two_terms : (t u : Term) → (IsWord t → ⊥) → (IsWord u → ⊥) → (i : Term) → ((h : Head) × In (word h 6 i) (t ∷ u ∷ [])) → signal wide 3 ≡ i
two_terms t u a b i (h, inl e) = absurd (not_word t h i a e)
two_terms t u a b i (h, inr (inl e)) = absurd (not_word u h i b e)
two_terms t u a b i (h, inr (inr n)) = absurd n

word_terms : (i : Term) → ((h : Head) × In (word h 6 i) (read_word ∷ signal wide 3 ∷ [])) → signal wide 3 ≡ i
word_terms i (h, inl e) = ap index_of e
word_terms i (h, inr (inl e)) = absurd (not_word (signal wide 3) h i (λ n. n) e)
word_terms i (h, inr (inr n)) = absurd n

fixed_ra : IsFixed ram (KnownOnEntry ram Free other_dump 15 0) (body_at ram 0) (signal wide 3)
fixed_ra = record { within = λ v a. (has_15 (One ∷ One ∷ []) (Zero ∷ One ∷ []) 2 (lit< tt), tt); unwritten = λ x m. refl }

three_closed : IsOpen ram (KnownOnEntry ram Free other_dump 15 0) (body_at ram 0) (word_point 6 3 false) → ⊥
three_closed h = named (by_path h.1.is_path)
  where
    by_path : In h.0 (paths [] (body_at ram 0)) → signal wide 3 ≡ h.2.1.3.0
    by_path (inl e) = read_by (signal wide 3) (path_of 0) (no_term, (one_term _ (λ n. n), (no_term, (two_terms _ _ (λ n. n) (λ n. n), tt)))) h.2.1.0 (subst (In h.2.1.0) (sym e) h.2.1.1) h.2.1.3.0 h.2.1.3.1
    by_path (inr (inl e)) = read_by (signal wide 3) (path_of 1) (no_term, (one_term _ (λ n. n), (no_term, (word_terms, (no_term, (one_term _ (λ n. n), tt)))))) h.2.1.0 (subst (In h.2.1.0) (sym e) h.2.1.1) h.2.1.3.0 h.2.1.3.1
    by_path (inr (inr (inl e))) = read_by (signal wide 3) (path_of 2) (no_term, (one_term _ (λ n. n), (no_term, (word_terms, (no_term, (one_term _ (λ n. n), tt)))))) h.2.1.0 (subst (In h.2.1.0) (sym e) h.2.1.1) h.2.1.3.0 h.2.1.3.1
    by_path (inr (inr (inr n))) = absurd n

    named : signal wide 3 ≡ h.2.1.3.0 → ⊥
    named e = some_apart 2 3 (λ x. absurd (two_three 2 refl x)) ((subst (λ i. IsFixed ram OtherK (body_at ram 0) i → NamesWord ram OtherK 6 3 i) (sym e) h.2.1.3.2) fixed_ra (words_values One Zero (One ∷ One ∷ []) (Zero ∷ One ∷ []) Zero (X ∷ X ∷ X ∷ One ∷ [])) other_agrees)
      where
        two_three : (n : ℕ) → n ≡ 2 → n ≡ 3 → ⊥
        two_three n a b = omega (arith, a, b)

pub other_word_example : IsOtherWordExample
other_word_example =
    record {
      clean = clean_15 (One ∷ One ∷ []) (Zero ∷ One ∷ []);
      none_early = none_early_15 (One ∷ One ∷ []) (Zero ∷ One ∷ []);
      not_clear = two_unclear;
      read_reached = ((lit< tt, lit< tt), refl, inl (cell 0 0, clean_15 (One ∷ One ∷ []) (Zero ∷ One ∷ []), inl (reads (a_word 6 2) false, (false, refl), (words_values One Zero (One ∷ One ∷ []) (Zero ∷ One ∷ []) Zero (X ∷ X ∷ X ∷ One ∷ []), other_agrees, reads_two))));
      doubt = word_doubt (One ∷ One ∷ []) (Zero ∷ One ∷ []) (X ∷ X ∷ X ∷ One ∷ []) other_agrees 2 (lit≤ tt) two_unclear reads_two (open_one (One ∷ One ∷ []) (Zero ∷ One ∷ []) (X ∷ X ∷ X ∷ One ∷ []) other_agrees other_not_fixed);
      read_not_open = three_closed;
      not_open = write_closed (One ∷ One ∷ []) (Zero ∷ One ∷ []) (X ∷ X ∷ X ∷ One ∷ []) other_agrees;
      surely_open = test_sure (One ∷ One ∷ []) (Zero ∷ One ∷ []) (X ∷ X ∷ X ∷ One ∷ []) other_agrees;
    }

-- ---- no word is written

abbrev UnknownK : PartialMap
UnknownK = KnownOnEntry ram Free unknown_dump 5 0

none_clear : (i : ℕ) → HasValue (clear ram Free unknown_dump 14) (a_word 6 i) → ⊥
none_clear i = unwritten (X ∷ One ∷ []) (One ∷ One ∷ []) i refl

unknown_agrees : Agrees ram (KnownOnEntry ram Free unknown_dump 15 0) (words_values One Zero (X ∷ One ∷ []) (One ∷ One ∷ []) Zero [])
unknown_agrees = knows_15 (X ∷ One ∷ []) (One ∷ One ∷ []) [] (λ i bits below k. absurd (none_clear i (bits, k)))

reads_three : UpToOutside (KnownOnEntry ram Free unknown_dump 15 0) (reads (a_word 6 3) false) (execution ram (body_at ram 0) (words_values One Zero (X ∷ One ∷ []) (One ∷ One ∷ []) Zero [])).visits
reads_three = inr (tt, inr (has_15 (X ∷ One ∷ []) (One ∷ One ∷ []) 0 (lit< tt), inr (tt, inr (tt, inr (has_15 (X ∷ One ∷ []) (One ∷ One ∷ []) 2 (lit< tt), inl refl)))))

unknown_not_fixed : IsFixed ram (KnownOnEntry ram Free unknown_dump 15 0) (body_at ram 0) read_word → ⊥
unknown_not_fixed f = word_unknown (X ∷ One ∷ []) (One ∷ One ∷ []) 3 (none_clear 3) (f.within (words_values One Zero (X ∷ One ∷ []) (One ∷ One ∷ []) Zero []) unknown_agrees).1.0

fixed_wa : IsFixed ram (KnownOnEntry ram Free unknown_dump 5 0) (body_at ram 0) (signal wide 2)
fixed_wa = record { within = λ v a. (has_5 (X ∷ One ∷ []) (One ∷ One ∷ []) 1 (lit< tt), tt); unwritten = λ x m. refl }

no_target : (i : Term) → ⊥ → signal wide 2 ≡ i
no_target i none = absurd none

write_unnamed : (k : ℕ) → IsOpen ram (KnownOnEntry ram Free unknown_dump 5 0) (body_at ram 0) (word_point 6 k true) → ⊥
write_unnamed k h = named (by_path h.1.is_path)
  where
    by_path : In h.0 (paths [] (body_at ram 0)) → signal wide 2 ≡ h.2.1.3.0
    by_path (inl e) = written_by (signal wide 2) (path_of 0) (no_target, (no_target, (no_target, ((λ i w. w.1), tt)))) h.2.1.0 (subst (In h.2.1.0) (sym e) h.2.1.1) h.2.1.3.0 h.2.1.3.1
    by_path (inr (inl e)) = written_by (signal wide 2) (path_of 1) (no_target, (no_target, (no_target, (no_target, (no_target, (no_target, tt)))))) h.2.1.0 (subst (In h.2.1.0) (sym e) h.2.1.1) h.2.1.3.0 h.2.1.3.1
    by_path (inr (inr (inl e))) = written_by (signal wide 2) (path_of 2) (no_target, (no_target, (no_target, (no_target, (no_target, (no_target, tt)))))) h.2.1.0 (subst (In h.2.1.0) (sym e) h.2.1.1) h.2.1.3.0 h.2.1.3.1
    by_path (inr (inr (inr n))) = absurd n

    named : signal wide 2 ≡ h.2.1.3.0 → ⊥
    named e = none_some k ((subst (λ i. IsFixed ram UnknownK (body_at ram 0) i → NamesWord ram UnknownK 6 k i) (sym e) h.2.1.3.2) fixed_wa (words_values One One (X ∷ One ∷ []) (One ∷ One ∷ []) Zero []) (knows_5 (X ∷ One ∷ []) (One ∷ One ∷ [])))

pub unknown_word_example : IsUnknownWordExample
unknown_word_example =
    record {
      line_reached = ((lit< tt, lit< tt), refl, inl (cell 0 0, clean_5 (X ∷ One ∷ []) (One ∷ One ∷ []), inl (at_line 2, refl, (words_values One One (X ∷ One ∷ []) (One ∷ One ∷ []) Zero [], knows_5 (X ∷ One ∷ []) (One ∷ One ∷ []), inr (tt, inr (has_5 (X ∷ One ∷ []) (One ∷ One ∷ []) 0 (lit< tt), inr (tt, inl refl)))))));
      none_written = write_unnamed;
      not_clear = none_clear;
      doubt = word_doubt (X ∷ One ∷ []) (One ∷ One ∷ []) [] unknown_agrees 3 (lit≤ tt) (none_clear 3) reads_three (open_one (X ∷ One ∷ []) (One ∷ One ∷ []) [] unknown_agrees unknown_not_fixed);
      surely_open = test_sure (X ∷ One ∷ []) (One ∷ One ∷ []) [] unknown_agrees;
    }
