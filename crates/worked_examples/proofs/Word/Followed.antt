-- The examples of the words that are followed and of those that are written.
use Rattle.std.proofs.Common.{◌≡◌, ◌<◌, ◌≤◌, ◌⊎◌, ◌-◌, if◌then◌else◌, ℕ, zero, suc, true, false, [], ◌∷◌, refl, sym, ap, subst, length, get_or, inl, inr, ◌∙◌, arith, lit<, lit≤}
use Rattle.std.proofs.lemmas.Bool.{false≢true}
use Rattle.std.proofs.lemmas.Bool.Decides.{nat_tests}
use Rattle.event_machine.specs.Cell.{Cell}
use Rattle.design_model.specs.Design.{In, cell, is_memory, no_memory, word_cells}
use Rattle.design_model.specs.Ram.{ram}
use Rattle.word_log.specs.Seen.{words_seen}
use Rattle.write_log.specs.Entries.{has}
use Rattle.design_model.specs.BodyLaws.{word_indexes}
use Rattle.written_words.specs.Written.{AreSmall, has_word, is_followed, no_range, range_at, range_of}
use Rattle.worked_examples.specs.Word.Followed.{IsRangeExample, IsUnwrittenExample, IsWrittenExample, earlier, last_place, later, listed, memories, no_places, none_followed, ranges, written}

small : AreSmall ranges
small zero l = lit≤ tt
small (suc zero) l = lit≤ tt
small (suc (suc m)) l = lit≤ tt

each_range : (m : ℕ) → m < 2 → range_at ranges m ≡ (if get_or (true ∷ false ∷ []) m false then range_of (get_or memories m no_memory) else no_range)
each_range zero l = refl
each_range (suc zero) l = refl
each_range (suc (suc m)) l = refl

pub range_example : IsRangeExample
range_example =
    record {
      all = refl;
      least = refl;
      greatest = refl;
      below = refl;
      above = refl;
      none = refl;
      past = refl;
      sizes = refl;
      small = small;
      not_small = λ h. (let l = h 0 (lit< tt) in omega (arith, l));
      flag = refl;
      no_flag = refl;
      flagged = record { count = refl; each = each_range };
      not_flagged = λ h. (let e : 0 ≡ 3 = ap (λ r. r.count) (h.each 1 (lit< tt)) in omega (arith, e));
    }

-- a memory that is not listed has no word
unlisted : (m : ℕ) → has listed.items m ≡ false → words_seen (last_place ∷ no_places ∷ []) m ≡ []
unlisted zero e = absurd (false≢true (sym e))
unlisted (suc zero) e = refl
unlisted (suc (suc m)) e = refl

within : (m : ℕ) → has listed.items m ≡ true → m < 2
within zero e = lit< tt
within (suc m) e = absurd (let f : ⊥ = grind (arith, nat_tests, e) in f)

inside : (m q : ℕ) → has (words_seen (last_place ∷ no_places ∷ []) m) q ≡ true → q < (range_at ranges m).count
inside zero zero e = lit< tt
inside zero (suc zero) e = lit< tt
inside zero (suc (suc zero)) e = lit< tt
inside zero (suc (suc (suc zero))) e = lit< tt
inside zero (suc (suc (suc (suc q)))) e = absurd (let f : ⊥ = grind (arith, nat_tests, e) in f)
inside (suc zero) q e = absurd (false≢true e)
inside (suc (suc m)) q e = absurd (false≢true e)

pub written_example : IsWrittenExample
written_example =
    record {
      followed = refl;
      past = refl;
      not_followed = refl;
      signal = refl;
      word = refl;
      other_word = refl;
      other_memory = refl;
      sets = record { count = refl; sizes = refl; unlisted = unlisted; within = within; inside = inside; small = small };
      not_listed = λ h. (let e : 1 ≡ 0 = ap length (h.unlisted 0 refl) in omega (arith, e));
      not_inside = λ h. (let l = h.inside 0 4 refl in omega (arith, l));
      not_sized = λ h. (let e : 0 ≡ 4 = ap (λ xs. get_or xs 0 0) h.sizes in omega (arith, e));
    }

-- of each cell of a word but word 3 of memory 6 nothing is known
same_cell : (i : ℕ) (c : Cell) → is_followed written 6 i ≡ true → has_word written 6 i ≡ false → In c (word_cells ram 6 i) → later c ≡ earlier c
same_cell zero c f h (inl e) = subst (λ x. later x ≡ earlier x) e refl
same_cell (suc zero) c f h (inl e) = subst (λ x. later x ≡ earlier x) e refl
same_cell (suc (suc zero)) c f h (inl e) = subst (λ x. later x ≡ earlier x) e refl
same_cell zero c f h (inr e) = elim e [ ]
same_cell (suc zero) c f h (inr e) = elim e [ ]
same_cell (suc (suc zero)) c f h (inr e) = elim e [ ]
same_cell (suc (suc (suc zero))) c f h n = absurd (false≢true (sym h))
same_cell (suc (suc (suc (suc i)))) c f h n = absurd (let z : ⊥ = grind (arith, nat_tests, f) in z)

same : (m i : ℕ) (c : Cell) → is_memory ram m ≡ true → is_followed written m i ≡ true → has_word written m i ≡ false → In c (word_cells ram m i) → later c ≡ earlier c
same zero i c e f h n = absurd (false≢true e)
same (suc zero) i c e f h n = absurd (false≢true e)
same (suc (suc zero)) i c e f h n = absurd (false≢true e)
same (suc (suc (suc zero))) i c e f h n = absurd (false≢true e)
same (suc (suc (suc (suc zero)))) i c e f h n = absurd (false≢true e)
same (suc (suc (suc (suc (suc zero))))) i c e f h n = absurd (false≢true e)
same (suc (suc (suc (suc (suc (suc zero)))))) i c e f h n = same_cell i c f h n
same (suc (suc (suc (suc (suc (suc (suc m))))))) i c e f h n = absurd (let z : ⊥ = grind (arith, nat_tests, e) in z)

-- each word of memory 6 is followed
follows : (i : ℕ) → In i (word_indexes ram 6) → is_followed written 6 i ≡ true
follows i (inl e) = subst (λ x. is_followed written 6 x ≡ true) e refl
follows i (inr (inl e)) = subst (λ x. is_followed written 6 x ≡ true) e refl
follows i (inr (inr (inl e))) = subst (λ x. is_followed written 6 x ≡ true) e refl
follows i (inr (inr (inr (inl e)))) = subst (λ x. is_followed written 6 x ≡ true) e refl
follows i (inr (inr (inr (inr e)))) = elim e [ ]

-- no word is followed where no memory is
none_range : (m : ℕ) → range_at none_followed.ranges m ≡ no_range
none_range zero = refl
none_range (suc m) = refl

none_is : (m i : ℕ) → is_followed none_followed m i ≡ true → ⊥
none_is m i f = grind (arith, nat_tests, f, none_range (m - 6))

pub unwritten_example : IsUnwrittenExample
unwritten_example =
    record {
      same = λ m i c e n f h l. same m i c e f h l;
      not_same = λ h. (let e : later (cell 6 3) ≡ earlier (cell 6 3) = h 6 3 (cell 6 3) refl (inr (inr (inr (inl refl)))) refl refl (inl refl) in absurd (cc));
      left_out = λ m i c e n f h l. absurd (none_is m i f);
      follows = follows;
      not_all = λ h. false≢true (h 0 (inl refl));
    }
