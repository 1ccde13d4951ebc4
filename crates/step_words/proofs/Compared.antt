-- The words of a step once those that are written have been compared.
use Rattle.std.proofs.Common.{◌≡◌, ◌⊎◌, inl, inr, ⊎_elim, ℕ, zero, suc, ◌+◌, ◌-◌, ◌*◌, ◌<◌, ◌≤◌, ◌==◌, ◌&&◌, ◌||◌, Bool, true, false, not, if◌then◌else◌, List, [], ◌∷◌, ◌++◌, map, set, length, Option, Some, None, refl, sym, ap, ap₂, subst, ◌∙◌, arith, eq-eqb, nat_le, nat_lt, lt-ltb, le-leb, length-set, get_or-set_same, get_or-set_other}
use Rattle.std.specs.List.{list_all, list_any}
use Rattle.std.proofs.lemmas.Bool.{and_from, and_parts, eqb-true, false_from_ne_true, false≢true, leb-true, ltb-true, or_cases, or_left, or_right}
use Rattle.std.proofs.lemmas.List.{length-map}
use Rattle.std.proofs.lemmas.List.FromFn.{length-map-range_with_len}
use Rattle.event_machine.specs.Cell.{Cell}
use Rattle.four_state.specs.declared.bit.Bit.{Bit}
use Rattle.design_model.specs.BodyLaws.{all_cells, word_indexes, words_cells}
use Rattle.design_model.specs.Design.{Design, In, cell, is_memory, memory_at, signal_cells, word_cells}
use Rattle.design_model.proofs.Lawful.{same_bit_self}
use Rattle.known_state.specs.Partly.{are_sure}
use Rattle.index_sets.specs.Members.{Members}
use Rattle.replay_steps.specs.replay_model.Step as model
use Rattle.store_knowledge.specs.body_replay.KnownBits.{KnownBits}
use Rattle.store_knowledge.specs.body_replay.Store.{Kept, kept_word}
use Rattle.word_log.specs.Seen.{words_seen}
use Rattle.write_log.specs.Entries.{has}
use Rattle.write_log.proofs.Joins.{has_append}
use Rattle.written_words.specs.Same.{FollowsAll, SameUnwritten}
use Rattle.written_words.specs.Written.{AreWritten, WrittenState, has_word, in_range, is_followed, range_at}
use Rattle.step_words.specs.Changes.{are_whole, word_in, words_agree, words_differ}
use Rattle.step_words.specs.Words.{AreWordChanges, FitsRanges, HasWords, StepState, after_memories, after_places, after_word, has_changed, is_still, put_if, unchanged, words_of}
use Rattle.step_words.proofs.Cells.{agree_cells, all_from, all_gives, any_from, differ_cells, found_in, word_in_words, word_of_cell}

-- ---- tests

same_tests : (a b : Bool) → (a ≡ true → b ≡ true) → (b ≡ true → a ≡ true) → a ≡ b
same_tests true b there back = sym (there refl)
same_tests false true there back = absurd (false≢true (back refl))
same_tests false false there back = refl

or_false : (t : Bool) → (t || false) ≡ t
or_false true = refl
or_false false = refl

not_true : (t : Bool) → not t ≡ true → t ≡ false
not_true true e = absurd (false≢true e)
not_true false e = refl

put_has : (t : Bool) (m : ℕ) (s : Members) (k : ℕ) → has (put_if t m s).items k ≡ (has s.items k || (t && (m == k)))
put_has false m s k = sym (or_false (has s.items k))
put_has true m s k = go (has s.items m) refl
  where
    there : (u : Bool) → (m == k) ≡ u → has s.items m ≡ true → has s.items k ≡ (has s.items k || u)
    there false e h = sym (or_false (has s.items k))
    there true e h =
        let known : has s.items k ≡ true = ap (has s.items) (sym (eqb-true m k e)) ∙ h in
        known ∙ sym (ap (λ t. t || true) known)

    go : (t : Bool) → has s.items m ≡ t → has (if t then s else record s { items = s.items ++ m ∷ [] }).items k ≡ (has s.items k || (m == k))
    go true h = there (m == k) refl h
    go false h = has_append s.items (m ∷ []) k ∙ ap (λ t. has s.items k || t) (or_false (m == k))

-- ---- bits

differ_self : (p : Option Bit) → model.surely_differ p p ≡ false
differ_self None = refl
differ_self (Some x) = ap not (same_bit_self x)

whole_of_same : (p q : Option Bit) → model.surely_same p q ≡ true → model.surely_same q q ≡ true
whole_of_same (Some x) (Some y) e = same_bit_self y
whole_of_same (Some x) None e = absurd (false≢true e)
whole_of_same None q e = absurd (false≢true e)

module _ (d : Design) (old new : Kept) (w : WrittenState) where
  abbrev n : ℕ
  n = length d.signals

  abbrev low : ℕ → ℕ
  low m = (range_at w.ranges m).least

  abbrev cells_of : ℕ → ℕ → List Cell
  cells_of m q = word_cells d (n + m) (low m + q)

  abbrev was : ℕ → ℕ → KnownBits
  was m q = kept_word d old (n + m) (low m + q)

  abbrev now : ℕ → ℕ → KnownBits
  now m q = kept_word d new (n + m) (low m + q)

  abbrev Inside : ℕ → ℕ → Type 0
  Inside m q = (m < length d.memories) × (q < (range_at w.ranges m).count)

  -- a word that was compared and passes a test
  record Passing (done : ℕ → ℕ → Bool) (test : ℕ → ℕ → Bool) (m : ℕ) : Type 0 where
    place : ℕ
    inside : Inside m place
    compared : done m place ≡ true
    passes : test m place ≡ true

  abbrev differs : ℕ → ℕ → Bool
  differs m q = words_differ (was m q) (now m q)

  abbrev strays : ℕ → ℕ → Bool
  strays m q = not (words_agree (was m q) (now m q))

  -- these words were compared
  record Stands (done : ℕ → ℕ → Bool) (x : StepState) : Type 0 where
    fits : FitsRanges d w.ranges x
    here : (m q : ℕ) → Inside m q → done m q ≡ true → word_in (words_of x m) q ≡ now m q
    there : (m q : ℕ) → Inside m q → done m q ≡ false → word_in (words_of x m) q ≡ was m q
    changed_from : (m : ℕ) → has x.changed.items m ≡ true → Passing done differs m
    changed_to : (m q : ℕ) → Inside m q → done m q ≡ true → differs m q ≡ true → has x.changed.items m ≡ true
    unsteady_from : (m : ℕ) → has x.unsteady.items m ≡ true → Passing done strays m
    unsteady_to : (m q : ℕ) → Inside m q → done m q ≡ true → strays m q ≡ true → has x.unsteady.items m ≡ true

  -- the same with an equal test
  moved : (f g : ℕ → ℕ → Bool) (x : StepState) → ((m q : ℕ) → f m q ≡ g m q) → Stands f x → Stands g x
  moved f g x same s =
      record {
        fits = s.fits;
        here = λ m q i e. s.here m q i (same m q ∙ e);
        there = λ m q i e. s.there m q i (same m q ∙ e);
        changed_from = λ m h. let p = s.changed_from m h in record { place = p.place; inside = p.inside; compared = sym (same m p.place) ∙ p.compared; passes = p.passes };
        changed_to = λ m q i e t. s.changed_to m q i (same m q ∙ e) t;
        unsteady_from = λ m h. let p = s.unsteady_from m h in record { place = p.place; inside = p.inside; compared = sym (same m p.place) ∙ p.compared; passes = p.passes };
        unsteady_to = λ m q i e t. s.unsteady_to m q i (same m q ∙ e) t;
      }

  -- before the first
  begun : (x : StepState) → FitsRanges d w.ranges x → HasWords d old w.ranges x → Stands (λ m q. false) (unchanged x)
  begun x fits words =
      record {
        fits = record { memories = record { first = fits.memories.first; count = fits.memories.count }; ranged = fits.ranged; sizes = fits.sizes; widths = fits.widths; inside = fits.inside };
        here = λ m q i e. absurd (false≢true e);
        there = λ m q i e. words m q i.0 i.1;
        changed_from = λ m h. absurd (false≢true h);
        changed_to = λ m q i e t. absurd (false≢true e);
        unsteady_from = λ m h. absurd (false≢true h);
        unsteady_to = λ m q i e t. absurd (false≢true e);
      }

  -- ---- one word more

  module _ (done : ℕ → ℕ → Bool) (x : StepState) (s : Stands done x) (m₀ q₀ : ℕ) (inside : Inside m₀ q₀) where
    abbrev cur : KnownBits
    cur = word_in (words_of x m₀) q₀

    abbrev y : StepState
    y = after_word m₀ q₀ (now m₀ q₀) x

    abbrev done' : ℕ → ℕ → Bool
    done' m q = done m q || ((m₀ == m) && (q₀ == q))

    place : m₀ < length x.words
    place = let i = inside.0 in let count = s.fits.memories.count in omega (arith, i, count)

    word_place : q₀ < length (words_of x m₀)
    word_place = let i = inside.1 in let size = s.fits.sizes m₀ inside.0 in omega (arith, i, size)

    words_here : (m : ℕ) → m₀ ≡ m → words_of y m ≡ set (words_of x m₀) q₀ (now m₀ q₀)
    words_here m e = ap (words_of y) (sym e) ∙ get_or-set_same x.words m₀ (set (words_of x m₀) q₀ (now m₀ q₀)) [] place

    words_there : (m : ℕ) → (m₀ == m) ≡ false → words_of y m ≡ words_of x m
    words_there m e = get_or-set_other x.words m₀ m (set (words_of x m₀) q₀ (now m₀ q₀)) [] (λ i. false≢true (sym e ∙ eq-eqb m₀ m (sym i)))

    word_here : (m q : ℕ) → m₀ ≡ m → q₀ ≡ q → word_in (words_of y m) q ≡ now m q
    word_here m q e f =
        ap (λ ws. word_in ws q) (words_here m e) ∙ ap (word_in (set (words_of x m₀) q₀ (now m₀ q₀))) (sym f)
        ∙ get_or-set_same (words_of x m₀) q₀ (now m₀ q₀) [] word_place ∙ ap₂ now e f

    word_there : (m q : ℕ) → ((m₀ == m) && (q₀ == q)) ≡ false → word_in (words_of y m) q ≡ word_in (words_of x m) q
    word_there m q e = go (m₀ == m) refl e
      where
        go : (t : Bool) → (m₀ == m) ≡ t → (t && (q₀ == q)) ≡ false → word_in (words_of y m) q ≡ word_in (words_of x m) q
        go false f g = ap (λ ws. word_in ws q) (words_there m f)
        go true f g =
            let same : m₀ ≡ m = eqb-true m₀ m f in
            ap (λ ws. word_in ws q) (words_here m same) ∙ get_or-set_other (words_of x m₀) q₀ q (now m₀ q₀) [] (λ i. false≢true (sym g ∙ eq-eqb q₀ q (sym i))) ∙ ap (λ k. word_in (words_of x k) q) same

    width_is : length (now m₀ q₀) ≡ (memory_at d (n + m₀)).width
    width_is = width_of new (n + m₀) (low m₀ + q₀)
      where
        width_of : (k : Kept) (m i : ℕ) → length (kept_word d k m i) ≡ (memory_at d m).width
        width_of k m i = length-map (word_cells d m i) k ∙ length-map-range_with_len (λ j. cell m (i * (memory_at d m).width + j)) 0 (memory_at d m).width

    -- what it had
    cur_is : (t : Bool) → done m₀ q₀ ≡ t → cur ≡ (if t then now m₀ q₀ else was m₀ q₀)
    cur_is true e = s.here m₀ q₀ inside e
    cur_is false e = s.there m₀ q₀ inside e

    differs_so : words_differ cur (now m₀ q₀) ≡ true → differs m₀ q₀ ≡ true
    differs_so e = go (done m₀ q₀) refl
      where
        go : (t : Bool) → done m₀ q₀ ≡ t → differs m₀ q₀ ≡ true
        go false f = sym (ap (λ ps. words_differ ps (now m₀ q₀)) (cur_is false f)) ∙ e
        go true f = absurd (false≢true (sym (differ_cells new new (cells_of m₀ q₀) ∙ none) ∙ sym (ap (λ ps. words_differ ps (now m₀ q₀)) (cur_is true f)) ∙ e))
          where
            none : list_any (λ c. model.surely_differ (new c) (new c)) (cells_of m₀ q₀) ≡ false
            none = all_fail (cells_of m₀ q₀)
              where
                all_fail : (cs : List Cell) → list_any (λ c. model.surely_differ (new c) (new c)) cs ≡ false
                all_fail [] = refl
                all_fail (c ∷ cs) = ap₂ (λ a b. a || b) (differ_self (new c)) (all_fail cs)

    strays_so : not (words_agree cur (now m₀ q₀)) ≡ true → strays m₀ q₀ ≡ true
    strays_so e = go (done m₀ q₀) refl
      where
        go : (t : Bool) → done m₀ q₀ ≡ t → strays m₀ q₀ ≡ true
        go false f = sym (ap (λ ps. not (words_agree ps (now m₀ q₀))) (cur_is false f)) ∙ e
        go true f = stray (words_agree (was m₀ q₀) (now m₀ q₀)) refl
          where
            less : words_agree (now m₀ q₀) (now m₀ q₀) ≡ false
            less = ap (λ ps. words_agree ps (now m₀ q₀)) (sym (cur_is true f)) ∙ not_true (words_agree cur (now m₀ q₀)) e

            stray : (t : Bool) → words_agree (was m₀ q₀) (now m₀ q₀) ≡ t → not t ≡ true
            stray false g = refl
            stray true g =
                absurd (false≢true (sym less ∙ agree_cells new new (cells_of m₀ q₀) ∙ all_from (λ c. model.surely_same (new c) (new c)) (cells_of m₀ q₀) (λ c i.
                whole_of_same (old c) (new c) (all_gives (λ c. model.surely_same (old c) (new c)) (cells_of m₀ q₀) (sym (agree_cells old new (cells_of m₀ q₀)) ∙ g) c i))))

    found_here : (test : ℕ → ℕ → Bool) (m : ℕ) → m₀ ≡ m → test m₀ q₀ ≡ true → Passing done' test m
    found_here test m e h =
        record {
          place = q₀;
          inside = subst (λ k. Inside k q₀) e inside;
          compared = or_right (done m q₀) _ (and_from (m₀ == m) (q₀ == q₀) (eq-eqb m₀ m e) (eq-eqb q₀ q₀ refl));
          passes = subst (λ k. test k q₀ ≡ true) e h;
        }

    found_there : (test : ℕ → ℕ → Bool) (m : ℕ) → Passing done test m → Passing done' test m
    found_there test m p = record { place = p.place; inside = p.inside; compared = or_left (done m p.place) _ p.compared; passes = p.passes }

    -- a word that is compared now, or was before
    either : (m q : ℕ) → done' m q ≡ true → (done m q ≡ true) ⊎ ((done m q ≡ false) × (m₀ ≡ m) × (q₀ ≡ q))
    either m q e = go (done m q) refl e
      where
        go : (t : Bool) → done m q ≡ t → (t || ((m₀ == m) && (q₀ == q))) ≡ true → (done m q ≡ true) ⊎ ((done m q ≡ false) × (m₀ ≡ m) × (q₀ ≡ q))
        go true f g = inl f
        go false f g = let p = and_parts (m₀ == m) (q₀ == q) g in inr (f, eqb-true m₀ m p.0, eqb-true q₀ q p.1)

    sizes_after : (m : ℕ) → length (words_of y m) ≡ length (words_of x m)
    sizes_after m = go (m₀ == m) refl
      where
        go : (t : Bool) → (m₀ == m) ≡ t → length (words_of y m) ≡ length (words_of x m)
        go false e = ap length (words_there m e)
        go true e = let same : m₀ ≡ m = eqb-true m₀ m e in ap length (words_here m same) ∙ length-set (words_of x m₀) q₀ (now m₀ q₀) ∙ ap (λ k. length (words_of x k)) same

    widths_after : (m q : ℕ) → m < length d.memories → q < (range_at w.ranges m).count → length (word_in (words_of y m) q) ≡ (memory_at d (n + m)).width
    widths_after m q l k = go ((m₀ == m) && (q₀ == q)) refl
      where
        go : (t : Bool) → ((m₀ == m) && (q₀ == q)) ≡ t → length (word_in (words_of y m) q) ≡ (memory_at d (n + m)).width
        go false e = ap length (word_there m q e) ∙ s.fits.widths m q l k
        go true e =
            let p = and_parts (m₀ == m) (q₀ == q) e in
            let same : m₀ ≡ m = eqb-true m₀ m p.0 in
            let here : q₀ ≡ q = eqb-true q₀ q p.1 in
            ap length (word_here m q same here) ∙ sym (ap₂ (λ a b. length (now a b)) same here) ∙ width_is ∙ ap (λ k. (memory_at d (n + k)).width) same

    fits_after : FitsRanges d w.ranges y
    fits_after =
        record {
          memories = record { first = s.fits.memories.first; count = length-set x.words m₀ (set (words_of x m₀) q₀ (now m₀ q₀)) ∙ s.fits.memories.count };
          ranged = s.fits.ranged;
          sizes = λ m l. sizes_after m ∙ s.fits.sizes m l;
          widths = widths_after;
          inside = s.fits.inside;
        }

    one_more : Stands done' y
    one_more =
        record {
          fits = fits_after;
          here = λ m q i e. here_at m q i ((m₀ == m) && (q₀ == q)) refl e;
          there = λ m q i e. let p = parts_false (done m q) ((m₀ == m) && (q₀ == q)) e in word_there m q p.1 ∙ s.there m q i p.0;
          changed_from = λ m h.
              ⊎_elim (λ g. found_there differs m (s.changed_from m g)) (λ g. let p = and_parts (words_differ cur (now m₀ q₀)) (m₀ == m) g in found_here differs m (eqb-true m₀ m p.1) (differs_so p.0))
              (or_cases (has x.changed.items m) (words_differ cur (now m₀ q₀) && (m₀ == m)) (sym (put_has (words_differ cur (now m₀ q₀)) m₀ x.changed m) ∙ h));
          changed_to = λ m q i e t. put_has (words_differ cur (now m₀ q₀)) m₀ x.changed m ∙ ⊎_elim (λ g. or_left (has x.changed.items m) _ (s.changed_to m q i g t)) (λ g.
              or_right (has x.changed.items m) _ (and_from (words_differ cur (now m₀ q₀)) (m₀ == m)
              (ap (λ ps. words_differ ps (now m₀ q₀)) (cur_is false (ap₂ done g.1 g.2 ∙ g.0)) ∙ ap₂ differs g.1 g.2 ∙ t) (eq-eqb m₀ m g.1))) (either m q e);
          unsteady_from = λ m h.
              ⊎_elim (λ g. found_there strays m (s.unsteady_from m g)) (λ g. let p = and_parts (not (words_agree cur (now m₀ q₀))) (m₀ == m) g in found_here strays m (eqb-true m₀ m p.1) (strays_so p.0))
              (or_cases (has x.unsteady.items m) (not (words_agree cur (now m₀ q₀)) && (m₀ == m)) (sym (put_has (not (words_agree cur (now m₀ q₀))) m₀ x.unsteady m) ∙ h));
          unsteady_to = λ m q i e t. put_has (not (words_agree cur (now m₀ q₀))) m₀ x.unsteady m ∙ ⊎_elim (λ g. or_left (has x.unsteady.items m) _ (s.unsteady_to m q i g t)) (λ g.
              or_right (has x.unsteady.items m) _ (and_from (not (words_agree cur (now m₀ q₀))) (m₀ == m)
              (ap (λ ps. not (words_agree ps (now m₀ q₀))) (cur_is false (ap₂ done g.1 g.2 ∙ g.0)) ∙ ap₂ strays g.1 g.2 ∙ t) (eq-eqb m₀ m g.1))) (either m q e);
        }
      where
        parts_false : (a b : Bool) → (a || b) ≡ false → (a ≡ false) × (b ≡ false)
        parts_false false b e = (refl, e)
        parts_false true b e = absurd (false≢true (sym e))

        here_at : (m q : ℕ) → Inside m q → (t : Bool) → ((m₀ == m) && (q₀ == q)) ≡ t → (done m q || t) ≡ true → word_in (words_of y m) q ≡ now m q
        here_at m q i true f e = let p = and_parts (m₀ == m) (q₀ == q) f in word_here m q (eqb-true m₀ m p.0) (eqb-true q₀ q p.1)
        here_at m q i false f e = word_there m q f ∙ s.here m q i (sym (or_false (done m q)) ∙ e)

  -- ---- the words of a memory, and of memories

  grouped : (a b e : Bool) → ((a || b) || e) ≡ (a || (b || e))
  grouped true b e = refl
  grouped false b e = refl

  split_and : (a b e : Bool) → ((a && b) || (a && e)) ≡ (a && (b || e))
  split_and true b e = refl
  split_and false b e = refl

  places_more : (done : ℕ → ℕ → Bool) (m₀ : ℕ) (qs : List ℕ) (x : StepState) → m₀ < length d.memories → ((q : ℕ) → has qs q ≡ true → q < (range_at w.ranges m₀).count) → Stands done x
      → Stands (λ m q. done m q || ((m₀ == m) && has qs q)) (after_places d new m₀ (low m₀) qs x)
  places_more done m₀ [] x l inside s = moved done _ x (λ m q. none (done m q) (m₀ == m)) s
    where
      none : (a b : Bool) → a ≡ (a || (b && false))
      none true b = refl
      none false true = refl
      none false false = refl
  places_more done m₀ (q₀ ∷ qs) x l inside s =
      let one : Stands (λ m q. done m q || ((m₀ == m) && (q₀ == q))) (after_word m₀ q₀ (kept_word d new (x.first + m₀) (low m₀ + q₀)) x) =
      subst (λ f. Stands (λ m q. done m q || ((m₀ == m) && (q₀ == q))) (after_word m₀ q₀ (kept_word d new (f + m₀) (low m₀ + q₀)) x)) (sym s.fits.memories.first)
      (one_more done x s m₀ q₀ (l, inside q₀ (or_left (q₀ == q₀) _ (eq-eqb q₀ q₀ refl)))) in
      moved _ _ _ (λ m q. grouped (done m q) ((m₀ == m) && (q₀ == q)) ((m₀ == m) && has qs q) ∙ ap (λ t. done m q || t) (split_and (m₀ == m) (q₀ == q) (has qs q)))
      (places_more (λ m q. done m q || ((m₀ == m) && (q₀ == q))) m₀ qs _ l (λ q h. inside q (or_right (q₀ == q) _ h)) one)

  memories_more : (done : ℕ → ℕ → Bool) (ms : List ℕ) (x : StepState) → ((m : ℕ) → has ms m ≡ true → m < length d.memories) → ((m q : ℕ) → has (words_seen w.words m) q ≡ true → q < (range_at w.ranges m).count) → Stands done x
      → Stands (λ m q. done m q || (has ms m && has (words_seen w.words m) q)) (after_memories d new w ms x)
  memories_more done [] x within inside s = moved done _ x (λ m q. sym (or_false (done m q))) s
  memories_more done (m₀ ∷ ms) x within inside s =
      let one = places_more done m₀ (words_seen w.words m₀) x (within m₀ (or_left (m₀ == m₀) _ (eq-eqb m₀ m₀ refl))) (inside m₀) s in
      moved _ _ _ (λ m q. grouped (done m q) _ _ ∙ ap (λ t. done m q || t) (both m q (m₀ == m) refl))
      (memories_more (λ m q. done m q || ((m₀ == m) && has (words_seen w.words m₀) q)) ms _ (λ m h. within m (or_right (m₀ == m) _ h)) inside one)
    where
      both : (m q : ℕ) (t : Bool) → (m₀ == m) ≡ t → ((t && has (words_seen w.words m₀) q) || (has ms m && has (words_seen w.words m) q)) ≡ ((t || has ms m) && has (words_seen w.words m) q)
      both m q false e = refl
      both m q true e = ap (λ k. has (words_seen w.words k) q || (has ms m && has (words_seen w.words m) q)) (eqb-true m₀ m e) ∙ absorbs (has (words_seen w.words m) q) (has ms m)
        where
          absorbs : (a b : Bool) → (a || (b && a)) ≡ a
          absorbs true b = refl
          absorbs false true = refl
          absorbs false false = refl

  -- ---- once all that is written was compared

  module _ (x : StepState) (sets : AreWritten w.ranges w.memories w.words) (first : w.first ≡ n) (fits : FitsRanges d w.ranges x) (words : HasWords d old w.ranges x) (same : SameUnwritten d old new w) where
    abbrev done : ℕ → ℕ → Bool
    done m q = false || (has w.memories.items m && has (words_seen w.words m) q)

    abbrev end : StepState
    end = after_memories d new w w.memories.items (unchanged x)

    ended : Stands done end
    ended = memories_more (λ m q. false) w.memories.items (unchanged x) (λ m h. let l = sets.within m h in let many = fits.ranged in omega (arith, l, many)) sets.inside (begun x fits words)

    number_of : (m : ℕ) → (n + m) - w.first ≡ m
    number_of m = let e = first in omega (arith, e)

    listed_is : (m q : ℕ) → (has w.memories.items m && has (words_seen w.words m) q) ≡ has (words_seen w.words m) q
    listed_is m q = go (has w.memories.items m) refl
      where
        go : (t : Bool) → has w.memories.items m ≡ t → (t && has (words_seen w.words m) q) ≡ has (words_seen w.words m) q
        go true e = refl
        go false e = sym (ap (λ xs. has xs q) (sets.unlisted m e))

    followed : (m q : ℕ) → Inside m q → is_followed w (n + m) (low m + q) ≡ true
    followed m q i =
        let f = first in
        and_from (nat_le w.first (n + m)) _ (le-leb w.first (n + m) (omega (arith, f)))
        (ap (λ k. in_range (range_at w.ranges k) (low m + q)) (number_of m)
        ∙ and_from (nat_le (low m) (low m + q)) _ (le-leb (low m) (low m + q) (omega arith)) (lt-ltb ((low m + q) - low m) (range_at w.ranges m).count (let below = i.1 in omega (arith, below))))

    done_is : (m q : ℕ) → Inside m q → done m q ≡ has_word w (n + m) (low m + q)
    done_is m q i =
        let at : (low m + q) - low m ≡ q = omega arith in
        listed_is m q ∙ ap (has (words_seen w.words m)) (sym at) ∙ ap (λ k. has (words_seen w.words k) ((low m + q) - low k)) (sym (number_of m))
        ∙ sym (ap (λ t. t && has (words_seen w.words ((n + m) - w.first)) ((low m + q) - low ((n + m) - w.first))) (followed m q i))

    memory_is : (m : ℕ) → m < length d.memories → is_memory d (n + m) ≡ true
    memory_is m l = and_from (nat_le n (n + m)) _ (le-leb n (n + m) (omega arith)) (lt-ltb (n + m) (n + length d.memories) (omega (arith, l)))

    same_cell : (m q : ℕ) → Inside m q → done m q ≡ false → (c : Cell) → In c (cells_of m q) → new c ≡ old c
    same_cell m q i e c h = same (n + m) (low m + q) c (memory_is m i.0) (fits.inside m q i.0 i.1) (followed m q i) (sym (done_is m q i) ∙ e) h

    map_same : (f g : Kept) (cs : List Cell) → ((c : Cell) → In c cs → f c ≡ g c) → map f cs ≡ map g cs
    map_same f g [] h = refl
    map_same f g (c ∷ cs) h = ap₂ (λ a b. a ∷ b) (h c (inl refl)) (map_same f g cs (λ z i. h z (inr i)))

    word_now : (m q : ℕ) → Inside m q → word_in (words_of end m) q ≡ now m q
    word_now m q i = go (done m q) refl
      where
        go : (t : Bool) → done m q ≡ t → word_in (words_of end m) q ≡ now m q
        go true e = ended.here m q i e
        go false e = ended.there m q i e ∙ map_same old new (cells_of m q) (λ c h. sym (same_cell m q i e c h))

    pub compared_fits : FitsRanges d w.ranges end
    compared_fits = ended.fits

    pub compared_words : HasWords d new w.ranges end
    compared_words m q l k = word_now m q (l, k)

    -- ---- a memory

    module _ (m : ℕ) (here : m < length d.memories) (follows : FollowsAll d w (n + m)) where
      -- the place of an index
      record PlaceOf (i : ℕ) : Type 0 where
        place : ℕ
        inside : Inside m place
        is : low m + place ≡ i

      place_of : (i : ℕ) → In i (word_indexes d (n + m)) → PlaceOf i
      place_of i h =
          let f = (and_parts (nat_le w.first (n + m)) _ (follows i h)).1 in
          let g : in_range (range_at w.ranges m) i ≡ true = ap (λ k. in_range (range_at w.ranges k) i) (sym (number_of m)) ∙ f in
          let p = and_parts (nat_le (low m) i) (nat_lt (i - low m) (range_at w.ranges m).count) g in
          let least : low m ≤ i = leb-true (low m) i p.0 in
          record { place = i - low m; inside = (here, ltb-true (i - low m) (range_at w.ranges m).count p.1); is = omega (arith, least) }

      abbrev changed : Cell → Bool
      changed c = model.surely_differ (old c) (new c)

      abbrev kept : Cell → Bool
      kept c = model.surely_same (old c) (new c)

      abbrev all : List Cell
      all = words_cells d (n + m) (word_indexes d (n + m))

      in_all : (q : ℕ) → Inside m q → (c : Cell) → In c (cells_of m q) → In c all
      in_all q i c h = word_in_words d (n + m) (low m + q) (word_indexes d (n + m)) c (fits.inside m q i.0 i.1) h

      changed_is : has end.changed.items m ≡ list_any changed all
      changed_is = same_tests _ _ there back
        where
          there : has end.changed.items m ≡ true → list_any changed all ≡ true
          there h =
              let p = ended.changed_from m h in
              let r = found_in changed (cells_of m p.place) (sym (differ_cells old new (cells_of m p.place)) ∙ p.passes) in
              any_from changed all r.cell (in_all p.place p.inside r.cell r.member) r.passes

          back : list_any changed all ≡ true → has end.changed.items m ≡ true
          back h =
              let r = found_in changed all h in
              let o = word_of_cell d (n + m) (word_indexes d (n + m)) r.cell r.member in
              let p = place_of o.index o.listed in
              let at : In r.cell (cells_of m p.place) = subst (λ i. In r.cell (word_cells d (n + m) i)) (sym p.is) o.member in
              go p.place p.inside r.cell at r.passes (done m p.place) refl
            where
              go : (q : ℕ) → Inside m q → (c : Cell) → In c (cells_of m q) → changed c ≡ true → (t : Bool) → done m q ≡ t → has end.changed.items m ≡ true
              go q i c at e true f = ended.changed_to m q i f (differ_cells old new (cells_of m q) ∙ any_from changed (cells_of m q) c at e)
              go q i c at e false f = absurd (false≢true (sym (ap (model.surely_differ (old c)) (same_cell m q i f c at) ∙ differ_self (old c)) ∙ e))

      still_is : (not (has end.unsteady.items m) && are_whole (words_of end m)) ≡ list_all kept all
      still_is = same_tests _ _ there back
        where
          whole_word : (cs : List Cell) → are_sure (map new cs) ≡ true → (c : Cell) → In c cs → model.surely_same (new c) (new c) ≡ true
          whole_word (z ∷ cs) e c h = go (λ g i. whole_word cs g c i) (new z) refl e h
            where
              go : (are_sure (map new cs) ≡ true → In c cs → model.surely_same (new c) (new c) ≡ true) → (o : Option Bit) → new z ≡ o → are_sure (o ∷ map new cs) ≡ true → In c (z ∷ cs) → model.surely_same (new c) (new c) ≡ true
              go rest None f g i = absurd (false≢true g)
              go rest (Some b) f g (inl is) = ap (λ k. model.surely_same k k) (ap new (sym is) ∙ f) ∙ same_bit_self b
              go rest (Some b) f g (inr i) = rest g i
          whole_word [] e c h = absurd h

          sure_word : (cs : List Cell) → ((c : Cell) → In c cs → kept c ≡ true) → are_sure (map new cs) ≡ true
          sure_word [] h = refl
          sure_word (z ∷ cs) h = go (sure_word cs (λ c i. h c (inr i))) (new z) refl
            where
              go : are_sure (map new cs) ≡ true → (o : Option Bit) → new z ≡ o → are_sure (o ∷ map new cs) ≡ true
              go rest None f = absurd (false≢true (sym (ap (model.surely_same (old z)) f ∙ no_same (old z)) ∙ h z (inl refl)))
                where
                  no_same : (o : Option Bit) → model.surely_same o None ≡ false
                  no_same None = refl
                  no_same (Some b) = refl
              go rest (Some b) f = rest

          at_place : (ws : List KnownBits) (q : ℕ) → are_whole ws ≡ true → q < length ws → are_sure (word_in ws q) ≡ true
          at_place [] q e l = absurd (omega (arith, l))
          at_place (v ∷ ws) zero e l = (and_parts (are_sure v) (are_whole ws) e).0
          at_place (v ∷ ws) (suc q) e l = at_place ws q (and_parts (are_sure v) (are_whole ws) e).1 (omega (arith, l))

          from_places : (ws : List KnownBits) → ((q : ℕ) → q < length ws → are_sure (word_in ws q) ≡ true) → are_whole ws ≡ true
          from_places [] h = refl
          from_places (v ∷ ws) h = and_from (are_sure v) (are_whole ws) (h 0 (omega arith)) (from_places ws (λ q l. h (suc q) (omega (arith, l))))

          size : length (words_of end m) ≡ (range_at w.ranges m).count
          size = ended.fits.sizes m here

          there : (not (has end.unsteady.items m) && are_whole (words_of end m)) ≡ true → list_all kept all ≡ true
          there e = all_from kept all (λ c h.
              let o = word_of_cell d (n + m) (word_indexes d (n + m)) c h in
              let p = place_of o.index o.listed in
              go p.place p.inside c (subst (λ i. In c (word_cells d (n + m) i)) (sym p.is) o.member) (done m p.place) refl)
            where
              parts : (not (has end.unsteady.items m) ≡ true) × (are_whole (words_of end m) ≡ true)
              parts = and_parts (not (has end.unsteady.items m)) _ e

              go : (q : ℕ) → Inside m q → (c : Cell) → In c (cells_of m q) → (t : Bool) → done m q ≡ t → kept c ≡ true
              go q i c at true f = all_gives kept (cells_of m q) (sym (agree_cells old new (cells_of m q)) ∙ agrees (words_agree (was m q) (now m q)) refl) c at
                where
                  agrees : (t : Bool) → words_agree (was m q) (now m q) ≡ t → words_agree (was m q) (now m q) ≡ true
                  agrees true g = g
                  agrees false g = absurd (false≢true (sym (not_true (has end.unsteady.items m) parts.0) ∙ ended.unsteady_to m q i f (ap not g)))
              go q i c at false f =
                  ap (λ k. model.surely_same k (new c)) (sym (same_cell m q i f c at))
                  ∙ whole_word (cells_of m q) (ap are_sure (sym (word_now m q i)) ∙ at_place (words_of end m) q parts.1 (let below = i.1 in let s = size in omega (arith, below, s))) c at

          back : list_all kept all ≡ true → (not (has end.unsteady.items m) && are_whole (words_of end m)) ≡ true
          back e =
              and_from (not (has end.unsteady.items m)) _ (steady (has end.unsteady.items m) refl)
              (from_places (words_of end m) (λ q l. let s = size in let i : Inside m q = (here, omega (arith, l, s)) in ap are_sure (word_now m q i) ∙ sure_word (cells_of m q) (λ c h. all_gives kept all e c (in_all q i c h))))
            where
              steady : (t : Bool) → has end.unsteady.items m ≡ t → not t ≡ true
              steady false f = refl
              steady true f =
                  let p = ended.unsteady_from m f in
                  absurd (false≢true (sym (not_true (words_agree (was m p.place) (now m p.place)) p.passes) ∙ agree_cells old new (cells_of m p.place) ∙ all_from kept (cells_of m p.place) (λ c h. all_gives kept all e c (in_all p.place p.inside c h))))

    abbrev Of : ℕ → Type 0
    Of z = (has_changed end z ≡ list_any (λ c. model.surely_differ (old c) (new c)) (all_cells d z)) × (is_still end z ≡ list_all (λ c. model.surely_same (old c) (new c)) (all_cells d z))

    pub compared_changes : AreWordChanges d (FollowsAll d w) old new end
    compared_changes k is follows = subst (λ z. Of z) at (both (k - n) here (subst (FollowsAll d w) (sym at) follows))
      where
        bounds : (n ≤ k) × (k < n + length d.memories)
        bounds = let p = and_parts (nat_le n k) _ is in (leb-true n k p.0, ltb-true k (n + length d.memories) p.1)

        at : n + (k - n) ≡ k
        at = let low = bounds.0 in omega (arith, low)

        here : k - n < length d.memories
        here = let low = bounds.0 in let high = bounds.1 in omega (arith, low, high)

        both : (m : ℕ) → m < length d.memories → FollowsAll d w (n + m) → Of (n + m)
        both m l f =
            let place : (n + m) - end.first ≡ m = let e = ended.fits.memories.first in omega (arith, e) in
            let memory : nat_lt (n + m) n ≡ false = false_from_ne_true _ (λ e. let below : n + m < n = ltb-true (n + m) n e in omega (arith, below)) in
            let cells : words_cells d (n + m) (word_indexes d (n + m)) ≡ all_cells d (n + m) = sym (ap (λ t. if t then signal_cells d (n + m) else words_cells d (n + m) (word_indexes d (n + m))) memory) in (
              ap (has end.changed.items) place ∙ changed_is m l f ∙ ap (list_any (λ c. model.surely_differ (old c) (new c))) cells,
              ap (λ z. not (has end.unsteady.items z) && are_whole (words_of end z)) place ∙ still_is m l f ∙ ap (list_all (λ c. model.surely_same (old c) (new c))) cells,
            )
