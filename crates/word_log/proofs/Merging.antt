-- What both ways of an undecided test leave of the memories.
use Rattle.std.proofs.Common.{◌≡◌, ℕ, ◌==◌, ◌&&◌, ◌||◌, Bool, true, false, not, if◌then◌else◌, List, [], ◌∷◌, ◌++◌, refl, sym, ap, ap₂, subst, ◌∙◌}
use Rattle.std.specs.List.{All}
use Rattle.std.proofs.lemmas.Bool.{and_parts, eqb-true, false≢true}
use Rattle.known_state.specs.Join.{joined}
use Rattle.memory_rebuild.specs.body_replay.KnownBits.{KnownBits}
use Rattle.word_log.specs.declared.entry.OverwrittenWord.{OverwrittenWord}
use Rattle.word_log.specs.declared.memory.StoredMemory.{StoredMemory}
use Rattle.word_log.specs.Entries.{Fits, Joined, Reading, Seen, is_of, is_word_at, names, put, undo}
use Rattle.word_log.specs.Memories.{SameShapes, memory_in, word_in}
use Rattle.word_log.proofs.Shapes.{all_under, shapes_both, undo_shapes}
use Rattle.word_log.proofs.Undone.{IsReading, names_append, undo_append, undone_named, undone_unnamed}

or_left : (s t : Bool) → (s || t) ≡ false → s ≡ false
or_left true t e = e
or_left false t e = refl

or_right : (s t : Bool) → (s || t) ≡ false → t ≡ false
or_right true t e = absurd (false≢true (sym e))
or_right false t e = e

or_assoc : (r s t : Bool) → ((r || s) || t) ≡ (r || (s || t))
or_assoc true s t = refl
or_assoc false s t = refl

or_false : (t : Bool) → (t || false) ≡ t
or_false true = refl
or_false false = refl

module _ (K V : Type 0) (x : Reading K V) (h : IsReading K V x) where
  -- ---- one entry, and several

  -- what is seen for the first time is joined, and the rest is put back as it is
  pub joined_one : (e l : OverwrittenWord) (seen : K → Bool) (rs rs' : List StoredMemory) → Fits rs e → Fits rs l → ((k : K) → x.here l k ≡ x.here e k) → ((k : K) → x.here e k ≡ true → x.value l ≡ (if seen k then x.read rs k else x.merge (x.value e) (x.read rs k))) → rs' ≡ put l rs → Joined x (e ∷ []) seen rs rs'
  joined_one e l seen rs rs' fit_e fit_l same value is =
      record {
        seen_before = λ k i. reads k ∙ by_seen k (x.here e k) refl i;
        unnamed = λ k i. reads k ∙ ap (λ t. if t then x.value l else x.read rs k) (sym (or_false (x.here e k)) ∙ i);
        joined = λ k i j.
            let here : x.here e k ≡ true = sym (or_false (x.here e k)) ∙ j in
            let undone : x.read (put e rs) k ≡ x.value e = h.step rs e fit_e k ∙ ap (λ t. if t then x.value e else x.read rs k) here in
            reads k ∙ ap (λ t. if t then x.value l else x.read rs k) here ∙ value k here ∙ ap (λ t. if t then x.read rs k else x.merge (x.value e) (x.read rs k)) i ∙ ap (λ a. x.merge a (x.read rs k)) (sym undone);
      }
    where
      reads : (k : K) → x.read rs' k ≡ (if x.here e k then x.value l else x.read rs k)
      reads k = ap (λ r. x.read r k) is ∙ h.step rs l fit_l k ∙ ap (λ t. if t then x.value l else x.read rs k) (same k)

      by_seen : (k : K) (t : Bool) → x.here e k ≡ t → seen k ≡ true → (if t then x.value l else x.read rs k) ≡ x.read rs k
      by_seen k true here i = value k here ∙ ap (λ t. if t then x.read rs k else x.merge (x.value e) (x.read rs k)) i
      by_seen k false here i = refl

  pub joined_nothing : (seen : K → Bool) (rs : List StoredMemory) → Joined x [] seen rs rs
  joined_nothing seen rs = record { seen_before = λ k i. refl; unnamed = λ k i. refl; joined = λ k i j. absurd (false≢true j) }

  pub seen_nothing : (seen : K → Bool) → Seen x [] seen seen
  seen_nothing seen k = sym (or_false (seen k))

  pub seen_both : (es fs : List OverwrittenWord) (a b c : K → Bool) → Seen x es a b → Seen x fs b c → Seen x (es ++ fs) a c
  seen_both es fs a b c s t k =
      t k ∙ ap (λ u. u || names x.here fs k) (s k) ∙ or_assoc (a k) (names x.here es k) (names x.here fs k) ∙ ap (λ u. a k || u) (sym (names_append K x.here es fs k))

  pub joined_both : (es fs : List OverwrittenWord) (seen seen' : K → Bool) (u v w : List StoredMemory) → All (Fits u) es → All (Fits u) fs → SameShapes u v → Seen x es seen seen' → Joined x es seen u v → Joined x fs seen' v w → Joined x (es ++ fs) seen u w
  joined_both es fs seen seen' u v w fit_e fit_f shapes s a b =
      record {
        seen_before = λ k i. b.seen_before k (s k ∙ ap (λ t. t || names x.here es k) i) ∙ a.seen_before k i;
        unnamed = λ k i.
            let none : (names x.here es k || names x.here fs k) ≡ false = sym (names_append K x.here es fs k) ∙ i in
            b.unnamed k (or_right (names x.here es k) (names x.here fs k) none) ∙ a.unnamed k (or_left (names x.here es k) (names x.here fs k) none);
        joined = λ k i j. by k (names x.here es k) refl i (sym (names_append K x.here es fs k) ∙ j);
      }
    where
      by : (k : K) (t : Bool) → names x.here es k ≡ t → seen k ≡ false → (t || names x.here fs k) ≡ true → x.read w k ≡ x.merge (x.read (undo (es ++ fs) u) k) (x.read u k)
      by k true e i j =
          let known : seen' k ≡ true = s k ∙ ap₂ (λ p q. p || q) i e in
          let first : x.read (undo es u) k ≡ x.read (undo (es ++ fs) u) k = undone_named K V x h es u (undo fs u) fit_e (undo_shapes fs u fit_f) k e ∙ ap (λ r. x.read r k) (sym (undo_append es fs u)) in
          b.seen_before k known ∙ a.joined k i e ∙ ap (λ p. x.merge p (x.read u k)) first
      by k false e i j =
          let unknown : seen' k ≡ false = s k ∙ ap₂ (λ p q. p || q) i e in
          let same : x.read v k ≡ x.read u k = a.unnamed k e in
          let first : x.read (undo fs v) k ≡ x.read (undo (es ++ fs) u) k =
          sym (undone_named K V x h fs u v fit_f shapes k j) ∙ sym (undone_unnamed K V x h es (undo fs u) (all_under u (undo fs u) es (undo_shapes fs u fit_f) fit_e) k e) ∙ ap (λ r. x.read r k) (sym (undo_append es fs u)) in
          b.joined k unknown j ∙ ap₂ x.merge first same

  -- ---- both branches: s is what the second one overwrote, and came is what the first one wrote, over what the second one left

  module _ (s gone came : List OverwrittenWord) (v v3 v4 v5 : List StoredMemory) (none seen : K → Bool) (fit_s : All (Fits v) s) (fit_gone : All (Fits v) gone) (fit_came : All (Fits v3) came) (forth : undo gone v ≡ v3) (back : undo came v3 ≡ v) (named : (k : K) → names x.here came k ≡ names x.here gone k) (nothing : (k : K) → none k ≡ false) (first : Joined x came none v3 v4) (known : Seen x came none seen) (rest : Joined x s seen v4 v5) (shapes4 : SameShapes v v4) (shapes35 : SameShapes v3 v5) (shapes5 : SameShapes v v5) where
    abbrev before : List StoredMemory
    before = undo s v

    abbrev left : List StoredMemory
    left = undo gone before

    is_seen : (k : K) → seen k ≡ names x.here came k
    is_seen k = known k ∙ ap (λ t. t || names x.here came k) (nothing k)

    -- what the first branch wrote, and what it did not
    reached : (k : K) → names x.here came k ≡ true → x.read v3 k ≡ x.read left k
    reached k e = ap (λ r. x.read r k) (sym forth) ∙ undone_named K V x h gone v before fit_gone (undo_shapes s v fit_s) k (sym (named k) ∙ e)

    missed : (k : K) → names x.here came k ≡ false → x.read v4 k ≡ x.read v k
    missed k e = first.unnamed k e ∙ ap (λ r. x.read r k) (sym forth) ∙ undone_unnamed K V x h gone v fit_gone k (sym (named k) ∙ e)

    untouched : (k : K) → names x.here came k ≡ false → x.read left k ≡ x.read before k
    untouched k e = undone_unnamed K V x h gone before (all_under v before gone (undo_shapes s v fit_s) fit_gone) k (sym (named k) ∙ e)

    pub common : (k : K) → x.read v5 k ≡ x.merge (x.read left k) (x.read v k)
    common k = by (names x.here came k) refl
      where
        other : (t : Bool) → names x.here s k ≡ t → names x.here came k ≡ false → x.read v5 k ≡ x.merge (x.read left k) (x.read v k)
        other true i e =
            let here : x.read v5 k ≡ x.merge (x.read (undo s v4) k) (x.read v4 k) = rest.joined k (is_seen k ∙ e) i in
            let first_is : x.read (undo s v4) k ≡ x.read left k = sym (undone_named K V x h s v v4 fit_s shapes4 k i) ∙ sym (untouched k e) in
            here ∙ ap₂ x.merge first_is (missed k e)
        other false i e =
            let alike : x.read left k ≡ x.read v k = untouched k e ∙ undone_unnamed K V x h s v fit_s k i in
            rest.unnamed k i ∙ missed k e ∙ sym (h.self (x.read v k)) ∙ ap (λ a. x.merge a (x.read v k)) (sym alike)

        by : (t : Bool) → names x.here came k ≡ t → x.read v5 k ≡ x.merge (x.read left k) (x.read v k)
        by true e =
            rest.seen_before k (is_seen k ∙ e) ∙ first.joined k (nothing k) e ∙ ap₂ x.merge (ap (λ r. x.read r k) back) (reached k e) ∙ h.swap (x.read v k) (x.read left k)
        by false e = other (names x.here s k) refl e

    -- both lists lead back to what was held when the test began
    pub led_back : (k : K) → x.read (undo (s ++ came) v5) k ≡ x.read before k
    led_back k = ap (λ r. x.read r k) (undo_append s came v5) ∙ by (names x.here s k) refl
      where
        fit5 : All (Fits v5) came
        fit5 = all_under v3 v5 came shapes35 fit_came

        shapes : SameShapes v (undo came v5)
        shapes = shapes_both v v5 (undo came v5) shapes5 (undo_shapes came v5 fit5)

        other : (t : Bool) → names x.here came k ≡ t → names x.here s k ≡ false → x.read (undo came v5) k ≡ x.read before k
        other true e i =
            sym (undone_named K V x h came v3 v5 fit_came shapes35 k e) ∙ ap (λ r. x.read r k) back ∙ sym (undone_unnamed K V x h s v fit_s k i)
        other false e i =
            undone_unnamed K V x h came v5 fit5 k e ∙ rest.unnamed k i ∙ missed k e ∙ sym (undone_unnamed K V x h s v fit_s k i)

        by : (t : Bool) → names x.here s k ≡ t → x.read (undo s (undo came v5)) k ≡ x.read before k
        by true i = sym (undone_named K V x h s v (undo came v5) fit_s shapes k i)
        by false i =
            undone_unnamed K V x h s (undo came v5) (all_under v (undo came v5) s shapes fit_s) k i ∙ other (names x.here came k) refl i

-- ---- what is left of one word and of one flag

pub word_left : (rs : List StoredMemory) (e : OverwrittenWord) (seen : ℕ × ℕ → Bool) (first : Bool) (ps : KnownBits) → first ≡ not (seen (e.memory, e.place)) → ps ≡ (if first then joined e.value.bits (word_in (memory_in rs e.memory) e.place) else word_in (memory_in rs e.memory) e.place) → (k : ℕ × ℕ) → is_word_at e k ≡ true → ps ≡ (if seen k then word_in (memory_in rs k.0) k.1 else joined e.value.bits (word_in (memory_in rs k.0) k.1))
word_left rs e seen first ps new is k here =
    let both = and_parts (e.memory == k.0) (e.place == k.1) here in
    let same : (e.memory, e.place) ≡ k = ap₂ (λ (a : ℕ) (b : ℕ). (a, b)) (eqb-true e.memory k.0 both.0) (eqb-true e.place k.1 both.1) in
    subst (λ (p : ℕ × ℕ). ps ≡ (if seen p then word_in (memory_in rs p.0) p.1 else joined e.value.bits (word_in (memory_in rs p.0) p.1))) same
    (is ∙ ap (λ t. if t then joined e.value.bits (word_in (memory_in rs e.memory) e.place) else word_in (memory_in rs e.memory) e.place) new ∙ go (seen (e.memory, e.place)))
  where
    go : (t : Bool) → (if not t then joined e.value.bits (word_in (memory_in rs e.memory) e.place) else word_in (memory_in rs e.memory) e.place) ≡ (if t then word_in (memory_in rs e.memory) e.place else joined e.value.bits (word_in (memory_in rs e.memory) e.place))
    go true = refl
    go false = refl

pub flag_left : (rs : List StoredMemory) (e : OverwrittenWord) (seen : ℕ → Bool) (first w : Bool) → first ≡ not (seen e.memory) → w ≡ ((memory_in rs e.memory).written || (first && e.written)) → (i : ℕ) → is_of e i ≡ true → w ≡ (if seen i then (memory_in rs i).written else (e.written || (memory_in rs i).written))
flag_left rs e seen first w new is i here =
    subst (λ j. w ≡ (if seen j then (memory_in rs j).written else (e.written || (memory_in rs j).written))) (eqb-true e.memory i here)
    (is ∙ ap (λ t. (memory_in rs e.memory).written || (t && e.written)) new ∙ go (seen e.memory) (memory_in rs e.memory).written e.written)
  where
    go : (t a b : Bool) → (a || (not t && b)) ≡ (if t then a else (b || a))
    go true true b = refl
    go true false b = refl
    go false true true = refl
    go false true false = refl
    go false false true = refl
    go false false false = refl
