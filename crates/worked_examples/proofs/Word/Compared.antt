-- The examples of how words are compared in a step.
use Rattle.std.proofs.Common.{◌≡◌, ◌<◌, ◌+◌, ℕ, zero, suc, true, false, [], ◌∷◌, Some, refl, sym, ap, length, get_or, inl, inr, arith, lit<}
use Rattle.std.specs.Bool.{⊤}
use Rattle.std.proofs.lemmas.Bool.{false≢true}
use Rattle.std.proofs.lemmas.Bool.Decides.{nat_tests}
use Rattle.design_model.specs.BodyLaws.{word_indexes}
use Rattle.design_model.specs.Design.{In, memory_at}
use Rattle.design_model.specs.Ram.{ram}
use Rattle.body_replay.specs.Store.{kept_word}
use Rattle.written_words.specs.Written.{range_at}
use Rattle.step_words.specs.Changes.{word_in}
use Rattle.step_words.specs.Words.{AreWordChanges, words_of}
use Rattle.worked_examples.specs.Word.Followed.{earlier, later}
use Rattle.worked_examples.specs.Word.Compared.{IsChangeExample, IsCompareExample, IsFitExample, IsStateExample, first, new, none, old, one_known, range, state, three_zero, unknowns}

pub change_example : IsChangeExample
change_example = record { differ = refl; not_differ = refl; agree = refl; not_agree = refl; unsure = refl; not_whole = refl; whole = refl; word = refl; past = refl }

size : (m : ℕ) → m < 1 → length (words_of (state unknowns none none) m) ≡ (range_at range m).count
size zero l = refl
size (suc m) l = refl

width : (m q : ℕ) → m < 1 → q < (range_at range m).count → length (word_in (words_of (state unknowns none none) m) q) ≡ (memory_at ram (6 + m)).width
width zero zero l k = refl
width zero (suc zero) l k = refl
width zero (suc (suc zero)) l k = refl
width zero (suc (suc (suc zero))) l k = refl
width zero (suc (suc (suc (suc q)))) l k = absurd (let f : ⊥ = omega (arith, k) in f)
width (suc m) q l k = absurd (let f : ⊥ = omega (arith, l) in f)

inside : (m q : ℕ) → m < 1 → q < (range_at range m).count → In ((range_at range m).least + q) (word_indexes ram (6 + m))
inside zero zero l k = inl refl
inside zero (suc zero) l k = inr (inl refl)
inside zero (suc (suc zero)) l k = inr (inr (inl refl))
inside zero (suc (suc (suc zero))) l k = inr (inr (inr (inl refl)))
inside zero (suc (suc (suc (suc q)))) l k = absurd (let f : ⊥ = omega (arith, k) in f)
inside (suc m) q l k = absurd (let f : ⊥ = omega (arith, l) in f)

has : (m q : ℕ) → m < 1 → q < (range_at range m).count → word_in (words_of (state one_known none none) m) q ≡ kept_word ram later (6 + m) ((range_at range m).least + q)
has zero zero l k = refl
has zero (suc zero) l k = refl
has zero (suc (suc zero)) l k = refl
has zero (suc (suc (suc zero))) l k = refl
has zero (suc (suc (suc (suc q)))) l k = absurd (let f : ⊥ = omega (arith, k) in f)
has (suc m) q l k = absurd (let f : ⊥ = omega (arith, l) in f)

pub fit_example : IsFitExample
fit_example =
    record {
      followed = refl;
      all = refl;
      fits = record { memories = record { first = refl; count = refl }; ranged = refl; sizes = size; widths = width; inside = inside };
      too_few = λ h. (let e : 0 ≡ 4 = h.sizes 0 (lit< tt) in omega (arith, e));
      too_wide = λ h. (let e : 2 ≡ 1 = h.widths 0 0 (lit< tt) (lit< tt) in omega (arith, e));
      other_first = λ h. (let e : 5 ≡ 6 = h.first in omega (arith, e));
      has = has;
      has_not = λ h. (let e = h 0 3 (lit< tt) (lit< tt) in absurd (cc));
    }

pub state_example : IsStateExample
state_example =
    record {
      found = refl;
      changed = refl;
      stayed = refl;
      places = refl;
      memories = refl;
      cleared = refl;
      put = refl;
      twice = refl;
      not_put = refl;
      words = refl;
      past = refl;
      has = refl;
      has_not = refl;
      still = refl;
      not_still = refl;
      not_known = refl;
    }

found : AreWordChanges ram (λ m. ⊤) old new (state three_zero first first)
found zero e f = absurd (false≢true e)
found (suc zero) e f = absurd (false≢true e)
found (suc (suc zero)) e f = absurd (false≢true e)
found (suc (suc (suc zero))) e f = absurd (false≢true e)
found (suc (suc (suc (suc zero)))) e f = absurd (false≢true e)
found (suc (suc (suc (suc (suc zero))))) e f = absurd (false≢true e)
found (suc (suc (suc (suc (suc (suc zero)))))) e f = (refl, refl)
found (suc (suc (suc (suc (suc (suc (suc m))))))) e f = absurd (let z : ⊥ = grind (arith, nat_tests, e) in z)

unsure : AreWordChanges ram (λ m. ⊤) earlier later (state one_known none first)
unsure zero e f = absurd (false≢true e)
unsure (suc zero) e f = absurd (false≢true e)
unsure (suc (suc zero)) e f = absurd (false≢true e)
unsure (suc (suc (suc zero))) e f = absurd (false≢true e)
unsure (suc (suc (suc (suc zero)))) e f = absurd (false≢true e)
unsure (suc (suc (suc (suc (suc zero))))) e f = absurd (false≢true e)
unsure (suc (suc (suc (suc (suc (suc zero)))))) e f = (refl, refl)
unsure (suc (suc (suc (suc (suc (suc (suc m))))))) e f = absurd (let z : ⊥ = grind (arith, nat_tests, e) in z)

pub compare_example : IsCompareExample
compare_example =
    record {
      found = found;
      passed_over = λ h. false≢true ((h 6 refl tt).0);
      unsure = unsure;
      too_sure = λ h. false≢true (sym ((h 6 refl tt).0));
    }
