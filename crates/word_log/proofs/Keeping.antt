-- What is logged before a write leads back to what was held.
use Rattle.std.proofs.Common.{◌≡◌, inl, inr, ℕ, ◌+◌, ◌-◌, ◌<◌, ◌≤◌, ◌==◌, ◌&&◌, ◌||◌, Bool, true, false, if◌then◌else◌, List, [], ◌∷◌, ◌++◌, length, set, append_assoc, get_or, Option, Some, None, refl, sym, ap, ap₂, subst, ◌∙◌, ⊎_elim, arith, min, max, eq-eqb}
use Rattle.std.proofs.Math.Nat.{le-max_left, min-le_left}
use Rattle.std.specs.Prelude.{◌⊎◌, Contains, MatchOption}
use Rattle.std.specs.Option.{unwrap_or}
use Rattle.std.specs.List.{All}
use Rattle.std.proofs.lemmas.Bool.{cases_eq, cases_lt, eqb-true, false≢true}
use Rattle.std.proofs.lemmas.List.{append-nil, get_or_past, set-get_or}
use Rattle.std.proofs.lemmas.List.Elements.{All-append, All-head, All-nil, All-push, All-tail, All-weaker}
use Rattle.memory_rebuild.specs.four_state.declared.bit.Bit.{Bit}
use Rattle.known_state.specs.Partly.{Partly, are_sure, with_blame}
use Rattle.known_state.specs.Join.{joined}
use Rattle.memory_rebuild.specs.body_replay.KnownBits.{KnownBits, is_whole, on_whole, unknown, whole_bits}
use Rattle.memory_rebuild.specs.body_replay.Store.{is_word}
use Rattle.memory_rebuild.proofs.body_replay.Answered.{same_sure}
use Rattle.memory_rebuild.specs.declared.shape.Shape.{Shape}
use Rattle.memory_rebuild.specs.Words.{HaveWidth, IsIndex, KnownWords, count, least, may_be, named_by, word_after, word_at}
use Rattle.memory_rebuild.proofs.Joins.{length-joined, unknown_joined}
use Rattle.write_log.specs.Entries.{has}
use Rattle.write_log.proofs.Joins.{contains_has, has_append}
use Rattle.word_log.specs.declared.entry.OverwrittenWord.{OverwrittenWord}
use Rattle.word_log.specs.declared.memory.StoredMemory.{StoredMemory}
use Rattle.word_log.specs.Entries.{Fits, Reading, flags, is_of, is_word_at, names, put, undo, words}
use Rattle.word_log.specs.Keeps.{Added, AfterWrite, IsLeft, IsTaken, Kept, NamedKept}
use Rattle.word_log.specs.Memories.{memory_in, with_word, word_in}
use Rattle.word_log.proofs.SeenSets.{or_false}
use Rattle.word_log.proofs.Shapes.{all_under, memory_here, memory_there, no_stored, same_memories, shapes_both, shapes_set, undo_shapes}
use Rattle.word_log.proofs.Undone.{IsReading, flags_read, names_append, undone_named, undone_unnamed, words_read}

-- ---- entries that say what is held

taken_put : (rs : List StoredMemory) (m : ℕ) (e : OverwrittenWord) → IsTaken (memory_in rs m) m e → put e rs ≡ rs
taken_put rs m e t =
    let r : StoredMemory = memory_in rs m in
    ap (λ i. set rs i (with_word (memory_in rs i) e.place e.value.bits e.written)) t.memory
    ∙ ap₂ (λ ps w. set rs m (with_word r e.place ps w)) t.bits t.written
    ∙ ap (λ ws. set rs m (record { words = record { shape = r.words.shape; words = ws }; written = r.written })) (set-get_or r.words.words e.place (unknown r.words.shape.width))
    ∙ set-get_or rs m no_stored

taken_undone : (rs : List StoredMemory) (m : ℕ) (es : List OverwrittenWord) → All (IsTaken (memory_in rs m) m) es → undo es rs ≡ rs
taken_undone rs m [] h = refl
taken_undone rs m (e ∷ es) h =
    let P : OverwrittenWord → Type 0 = IsTaken (memory_in rs m) m in
    ap (put e) (taken_undone rs m es (All-tail P e es h)) ∙ taken_put rs m e (All-head P e es h)

taken_fits : (rs : List StoredMemory) (m : ℕ) → m < length rs → (e : OverwrittenWord) → IsTaken (memory_in rs m) m e → Fits rs e
taken_fits rs m inside e t =
    record {
      inside = subst (λ i. i < length rs) (sym t.memory) inside;
      place = subst (λ i. e.place < count (memory_in rs i).words.shape) (sym t.memory) t.place;
      listed = subst (λ i. e.place < length (memory_in rs i).words.words) (sym t.memory) t.listed;
      held = subst (λ i. length (word_in (memory_in rs i) e.place) ≡ (memory_in rs i).words.shape.width) (sym t.memory) (ap length (sym t.bits) ∙ t.width);
      width = subst (λ i. length e.value.bits ≡ (memory_in rs i).words.shape.width) (sym t.memory) t.width;
      sign_is = subst (λ i. e.value.signed ≡ (memory_in rs i).words.shape.signed) (sym t.memory) t.sign_is;
    }

pub all_taken_fit : (rs : List StoredMemory) (m : ℕ) (es : List OverwrittenWord) → m < length rs → All (IsTaken (memory_in rs m) m) es → All (Fits rs) es
all_taken_fit rs m es inside h = All-weaker (IsTaken (memory_in rs m) m) (Fits rs) (taken_fits rs m inside) es h

-- ---- they lead back from what the write leaves

module _ (rs rs' : List StoredMemory) (m : ℕ) (index : Partly) (inside : m < length rs) (a : AfterWrite m index rs rs') (before after : List OverwrittenWord) (k : Kept (memory_in rs m) m index before after) where
  fit : All (Fits rs) k.entries
  fit = all_taken_fit rs m k.entries inside k.are.taken

  fit' : All (Fits rs') k.entries
  fit' = all_under rs rs' k.entries a.shapes fit

  named : (K V : Type 0) (x : Reading K V) (h : IsReading K V x) (i : K) → names x.here k.entries i ≡ true → x.read (undo k.entries rs') i ≡ x.read rs i
  named K V x h i n = sym (undone_named K V x h k.entries rs rs' fit a.shapes i n) ∙ ap (λ r. x.read r i) (taken_undone rs m k.entries k.are.taken)

  word_here : (q : ℕ) → names is_word_at k.entries (m, q) ≡ false → word_in (memory_in rs' m) q ≡ word_in (memory_in rs m) q
  word_here q n = ⊎_elim listed past (cases_lt q (count (memory_in rs m).words.shape))
    where
      listed : q < count (memory_in rs m).words.shape → word_in (memory_in rs' m) q ≡ word_in (memory_in rs m) q
      listed l =
          let place : least (memory_in rs m).words.shape + q - least (memory_in rs m).words.shape ≡ q = omega arith in
          a.words q l ∙ k.left q l n a.value a.width ∙ ap (λ j. get_or (memory_in rs m).words.words j (unknown (memory_in rs m).words.shape.width)) place

      past : count (memory_in rs m).words.shape ≤ q → word_in (memory_in rs' m) q ≡ word_in (memory_in rs m) q
      past l =
          let size = k.size in
          let same = a.shapes.size m in
          get_or_past (memory_in rs' m).words.words q (unknown (memory_in rs' m).words.shape.width) (omega (arith, l, size, same))
          ∙ ap (λ x. unknown x.width) (a.shapes.shape m)
          ∙ sym (get_or_past (memory_in rs m).words.words q (unknown (memory_in rs m).words.shape.width) (omega (arith, l, size)))

  word_back : (i q : ℕ) (t : Bool) → names is_word_at k.entries (i, q) ≡ t → word_in (memory_in (undo k.entries rs') i) q ≡ word_in (memory_in rs i) q
  word_back i q true n = named (ℕ × ℕ) KnownBits words words_read (i, q) n
  word_back i q false n =
      undone_unnamed (ℕ × ℕ) KnownBits words words_read k.entries rs' fit' (i, q) n
      ∙ ⊎_elim (λ e. ap (λ j. word_in (memory_in rs' j) q) e ∙ word_here q (ap (λ j. names is_word_at k.entries (j, q)) (sym e) ∙ n) ∙ ap (λ j. word_in (memory_in rs j) q) (sym e)) (λ ne. ap (λ r. word_in r q) (a.others i ne)) (cases_eq i m)

  flag_back : (i : ℕ) (t : Bool) → names is_of k.entries i ≡ t → (memory_in (undo k.entries rs') i).written ≡ (memory_in rs i).written
  flag_back i true n = named ℕ Bool flags flags_read i n
  flag_back i false n =
      undone_unnamed ℕ Bool flags flags_read k.entries rs' fit' i n
      ∙ ap (λ r. r.written) (a.others i (λ e. false≢true (sym n ∙ ap (names is_of k.entries) e ∙ k.some)))

  pub kept_undone : undo k.entries rs' ≡ rs
  kept_undone =
      same_memories rs (undo k.entries rs') (shapes_both rs rs' (undo k.entries rs') a.shapes (undo_shapes k.entries rs' fit'))
      (λ i q. word_back i q (names is_word_at k.entries (i, q)) refl) (λ i. flag_back i (names is_of k.entries i) refl)

-- ---- what a write leaves of the words that its index does not name

some_whole : (ps : KnownBits) → are_sure ps ≡ true → whole_bits ps ≡ None → ⊥
some_whole ps e n = false≢true (sym (ap is_whole n) ∙ same_sure ps ∙ e)

-- one entry, for a sure index: of the word that it names, if there is one
pub sure_left : (r : StoredMemory) (m : ℕ) (index : Partly) (e : OverwrittenWord) (named : Option ℕ) → are_sure index.bits ≡ true → e.memory ≡ m → ((bits : List Bit) → whole_bits index.bits ≡ Some bits → named_by r.words.shape index.signed bits ≡ named) → (named ≡ None) ⊎ (named ≡ Some (least r.words.shape + e.place)) → (q : ℕ) → names is_word_at (e ∷ []) (m, q) ≡ false → IsLeft r index q
sure_left r m index e named sure memory is which q n ps wide = go (whole_bits index.bits) refl
  where
    old : KnownBits
    old = word_at r.words (least r.words.shape + q)

    misses : (t : Bool) → (e.memory == m) ≡ true → ((t || false) ≡ false) → t ≡ false
    misses true i j = j
    misses false i j = refl

    other : (e.place == q) ≡ false
    other =
        let here : (e.memory == m) ≡ true = eq-eqb e.memory m memory in
        misses (e.place == q) here (sym (ap (λ t. (t && (e.place == q)) || false) here) ∙ n)

    apart : (least r.words.shape + e.place == least r.words.shape + q) ≡ false
    apart = by (least r.words.shape + e.place == least r.words.shape + q) refl
      where
        by : (t : Bool) → (least r.words.shape + e.place == least r.words.shape + q) ≡ t → t ≡ false
        by false i = refl
        by true i = absurd (let both : least r.words.shape + e.place ≡ least r.words.shape + q = eqb-true _ _ i in false≢true (sym other ∙ eq-eqb e.place q (omega (arith, both))))

    go : (o : Option (List Bit)) → whole_bits index.bits ≡ o → on_whole o (λ bs. if is_word (named_by r.words.shape index.signed bs) (least r.words.shape + q) then ps else old) (if may_be r.words.shape index (least r.words.shape + q) then joined old ps else old) ≡ old
    go None i = absurd (some_whole index.bits sure i)
    go (Some bs) i = ⊎_elim (λ w. ap (λ o. if is_word o (least r.words.shape + q) then ps else old) (is bs i ∙ w)) (λ w. ap (λ o. if is_word o (least r.words.shape + q) then ps else old) (is bs i ∙ w) ∙ ap (λ t. if t then ps else old) apart) which

-- entries for an index that is not sure
pub unsure_left : (r : StoredMemory) (index : Partly) (q : ℕ) → are_sure index.bits ≡ false → (may_be r.words.shape index (least r.words.shape + q) ≡ true → word_at r.words (least r.words.shape + q) ≡ unknown r.words.shape.width) → IsLeft r index q
unsure_left r index q unsure none ps wide = go (whole_bits index.bits) refl
  where
    old : KnownBits
    old = word_at r.words (least r.words.shape + q)

    by : (t : Bool) → may_be r.words.shape index (least r.words.shape + q) ≡ t → (if t then joined old ps else old) ≡ old
    by true e = ap (λ o. joined o ps) (none e) ∙ unknown_joined r.words.shape.width ps wide ∙ sym (none e)
    by false e = refl

    go : (o : Option (List Bit)) → whole_bits index.bits ≡ o → on_whole o (λ bs. if is_word (named_by r.words.shape index.signed bs) (least r.words.shape + q) then ps else old) (if may_be r.words.shape index (least r.words.shape + q) then joined old ps else old) ≡ old
    go None i = by (may_be r.words.shape index (least r.words.shape + q)) refl
    go (Some bs) i = absurd (false≢true (sym unsure ∙ sym (same_sure index.bits) ∙ ap is_whole i))

-- ---- entries that are added in turn

pub entry_taken : (r : StoredMemory) (m place : ℕ) (e : OverwrittenWord) → place < count r.words.shape → e ≡ record { memory = m; place = place; value = with_blame (word_in r place) r.words.shape.signed r.words.shape.blame; written = r.written } → length (word_in r place) ≡ r.words.shape.width → length r.words.words ≡ count r.words.shape → IsTaken r m e
entry_taken r m place e inside is wide size =
    subst (IsTaken r m) (sym is) (record { memory = refl; place = inside; listed = omega (arith, inside, size); bits = refl; width = wide; sign_is = refl; written = refl })

-- the words of these places that the index may name are logged
pub record NamedSoFar (r : StoredMemory) (m : ℕ) (index : Partly) (listed : List ℕ) (before after : List OverwrittenWord) : Type 0 where
  pub entries : List OverwrittenWord
  pub are : Added r m before after entries
  pub covers : (q : ℕ) → has listed q ≡ true → may_be r.words.shape index (least r.words.shape + q) ≡ true → names is_word_at entries (m, q) ≡ true

pub named_none : (r : StoredMemory) (m : ℕ) (index : Partly) (before : List OverwrittenWord) → NamedSoFar r m index [] before before
named_none r m index before = record { entries = []; are = record { added = sym (append-nil before); taken = All-nil (IsTaken r m) }; covers = λ q i j. absurd (false≢true i) }

added_more : (r : StoredMemory) (m : ℕ) (before now after es : List OverwrittenWord) (e : OverwrittenWord) → Added r m before now es → IsTaken r m e → after ≡ now ++ e ∷ [] → Added r m before after (es ++ e ∷ [])
added_more r m before now after es e a t is =
    record { added = is ∙ ap (λ l. l ++ e ∷ []) a.added ∙ append_assoc before es (e ∷ []); taken = All-push (IsTaken r m) es e a.taken t }

or_true : (t : Bool) → (t || true) ≡ true
or_true true = refl
or_true false = refl

module _ (r : StoredMemory) (m : ℕ) (index : Partly) (listed : List ℕ) (p : ℕ) (before now : List OverwrittenWord) (n : NamedSoFar r m index listed before now) where
  one_more : (q : ℕ) → has (listed ++ p ∷ []) q ≡ (has listed q || (p == q))
  one_more q = has_append listed (p ∷ []) q ∙ ap (λ t. has listed q || t) (or_false (p == q))

  pub named_more : (after : List OverwrittenWord) (e : OverwrittenWord) → IsTaken r m e → e.place ≡ p → after ≡ now ++ e ∷ [] → NamedSoFar r m index (listed ++ p ∷ []) before after
  named_more after e t place is =
      record {
        entries = n.entries ++ e ∷ [];
        are = added_more r m before now after n.entries e n.are t is;
        covers = λ q i may. names_append (ℕ × ℕ) is_word_at n.entries (e ∷ []) (m, q) ∙ go q (has listed q) refl (sym (one_more q) ∙ i) may;
      }
    where
      go : (q : ℕ) (t : Bool) → has listed q ≡ t → (t || (p == q)) ≡ true → may_be r.words.shape index (least r.words.shape + q) ≡ true → (names is_word_at n.entries (m, q) || (((e.memory == m) && (e.place == q)) || false)) ≡ true
      go q true i j may = ap (λ t. t || (((e.memory == m) && (e.place == q)) || false)) (n.covers q i may)
      go q false i j may =
          ap₂ (λ s t. names is_word_at n.entries (m, q) || ((s && t) || false)) (eq-eqb e.memory m t.memory) (eq-eqb e.place q (place ∙ eqb-true p q j)) ∙ or_true (names is_word_at n.entries (m, q))

  pub named_same : may_be r.words.shape index (least r.words.shape + p) ≡ false → NamedSoFar r m index (listed ++ p ∷ []) before now
  named_same not_named = record { entries = n.entries; are = n.are; covers = λ q i may. go q (has listed q) refl (sym (one_more q) ∙ i) may }
    where
      go : (q : ℕ) (t : Bool) → has listed q ≡ t → (t || (p == q)) ≡ true → may_be r.words.shape index (least r.words.shape + q) ≡ true → names is_word_at n.entries (m, q) ≡ true
      go q true i j may = n.covers q i may
      go q false i j may = absurd (false≢true (sym not_named ∙ ap (λ x. may_be r.words.shape index (least r.words.shape + x)) (eqb-true p q j) ∙ may))

pub named_kept : (r : StoredMemory) (m : ℕ) (index : Partly) (written : List ℕ) (before after : List OverwrittenWord) → NamedSoFar r m index written before after → ((q : ℕ) → q < count r.words.shape → (Contains written q → ⊥) → word_at r.words (least r.words.shape + q) ≡ unknown r.words.shape.width) → NamedKept r m index before after
named_kept r m index written before after n others =
    record {
      entries = n.entries;
      are = n.are;
      others = λ q l may none. others q l (λ h. false≢true (sym none ∙ n.covers q (contains_has written q h) may));
    }

-- one entry for a sure index
pub kept_sure : (r : StoredMemory) (m : ℕ) (index : Partly) (before after : List OverwrittenWord) (e : OverwrittenWord) (named : Option ℕ) → are_sure index.bits ≡ true → IsTaken r m e → length r.words.words ≡ count r.words.shape → after ≡ before ++ e ∷ [] → ((bits : List Bit) → whole_bits index.bits ≡ Some bits → named_by r.words.shape index.signed bits ≡ named) → (named ≡ None) ⊎ (named ≡ Some (least r.words.shape + e.place)) → Kept r m index before after
kept_sure r m index before after e named sure t size added is which =
    record {
      entries = e ∷ [];
      are = record { added = added; taken = All-push (IsTaken r m) [] e (All-nil (IsTaken r m)) t };
      size = size;
      some = ap (λ s. s || false) (eq-eqb e.memory m t.memory);
      left = λ q l none. sure_left r m index e named sure t.memory is which q none;
    }

-- an entry for the memory, and those for an index that is not sure
pub kept_unsure : (r : StoredMemory) (m : ℕ) (index : Partly) (before now after : List OverwrittenWord) (e : OverwrittenWord) → are_sure index.bits ≡ false → IsTaken r m e → length r.words.words ≡ count r.words.shape → now ≡ before ++ e ∷ [] → NamedKept r m index now after → Kept r m index before after
kept_unsure r m index before now after e unsure t size first n =
    record {
      entries = e ∷ n.entries;
      are = record {
        added = n.are.added ∙ ap (λ l. l ++ n.entries) first ∙ append_assoc before (e ∷ []) n.entries;
        taken = All-append (IsTaken r m) (e ∷ []) n.entries (All-push (IsTaken r m) [] e (All-nil (IsTaken r m)) t) n.are.taken;
      };
      size = size;
      some = ap (λ s. s || names is_of n.entries m) (eq-eqb e.memory m t.memory);
      left = λ q l none. unsure_left r index q unsure (λ may. n.others q l may (rest q (is_word_at e (m, q)) none));
    }
  where
    rest : (q : ℕ) (t : Bool) → (t || names is_word_at n.entries (m, q)) ≡ false → names is_word_at n.entries (m, q) ≡ false
    rest q true i = absurd (false≢true (sym i))
    rest q false i = i

-- ---- what a write leaves

-- a word is as wide as before
wide_after : (w : KnownWords) (index : Partly) (ps : KnownBits) (i : ℕ) → length ps ≡ w.shape.width → length (word_at w i) ≡ w.shape.width → length (word_after w index ps true i) ≡ w.shape.width
wide_after w index ps i wide old = go (whole_bits index.bits)
  where
    either : (t : Bool) (qs : KnownBits) → length qs ≡ w.shape.width → length (if t then qs else word_at w i) ≡ w.shape.width
    either true qs e = e
    either false qs e = old

    go : (o : Option (List Bit)) → length (on_whole o (λ bs. if is_word (named_by w.shape index.signed bs) i then ps else word_at w i) (if may_be w.shape index i then joined (word_at w i) ps else word_at w i)) ≡ w.shape.width
    go None = either (may_be w.shape index i) (joined (word_at w i) ps) (length-joined (word_at w i) ps w.shape.width old wide)
    go (Some bs) = either (is_word (named_by w.shape index.signed bs) i) ps wide

pub after_write : (rs : List StoredMemory) (m : ℕ) (index : Partly) (ps : KnownBits) (r : StoredMemory) → m < length rs → r.words.shape ≡ (memory_in rs m).words.shape → length (memory_in rs m).words.words ≡ count (memory_in rs m).words.shape → length r.words.words ≡ count (memory_in rs m).words.shape → length ps ≡ (memory_in rs m).words.shape.width → HaveWidth (memory_in rs m).words → ((i : ℕ) → IsIndex (memory_in rs m).words.shape i → word_at r.words i ≡ word_after (memory_in rs m).words index ps true i) → AfterWrite m index rs (set rs m r)
after_write rs m index ps r inside shape before after wide old h =
    record {
      shapes = shapes_set rs m r inside shape (after ∙ sym before) (λ q. ⊎_elim (listed q) (past q) (cases_lt q (count (memory_in rs m).words.shape)));
      others = λ i ne. memory_there rs m r inside i ne;
      value = ps;
      width = wide;
      words = λ q l. ap (λ x. word_in x q) (memory_here rs m r inside) ∙ here q l;
    }
  where
    here : (q : ℕ) → q < count (memory_in rs m).words.shape → word_in r q ≡ word_after (memory_in rs m).words index ps true (least (memory_in rs m).words.shape + q)
    here q l =
        let s : Shape = (memory_in rs m).words.shape in
        let low : min s.first s.last ≤ s.first = min-le_left s.first s.last in
        let high : s.first ≤ max s.first s.last = le-max_left s.first s.last in
        let named : IsIndex s (least s + q) = (omega arith, omega (arith, l, low, high)) in
        let place : q ≡ least r.words.shape + q - least r.words.shape = omega arith in
        ap (λ j. get_or r.words.words j (unknown r.words.shape.width)) place ∙ ap (λ x. word_at r.words (least x + q)) shape ∙ h (least s + q) named

    held : (q : ℕ) → length (word_in (memory_in rs m) q) ≡ (memory_in rs m).words.shape.width
    held q =
        let place : q ≡ least (memory_in rs m).words.shape + q - least (memory_in rs m).words.shape = omega arith in
        ap (λ j. length (get_or (memory_in rs m).words.words j (unknown (memory_in rs m).words.shape.width))) place ∙ old (least (memory_in rs m).words.shape + q)

    listed : (q : ℕ) → q < count (memory_in rs m).words.shape → length (word_in r q) ≡ length (word_in (memory_in rs m) q)
    listed q l =
        ap length (here q l) ∙ wide_after (memory_in rs m).words index ps (least (memory_in rs m).words.shape + q) wide (old (least (memory_in rs m).words.shape + q)) ∙ sym (held q)

    past : (q : ℕ) → count (memory_in rs m).words.shape ≤ q → length (word_in r q) ≡ length (word_in (memory_in rs m) q)
    past q l =
        ap length (get_or_past r.words.words q (unknown r.words.shape.width) (omega (arith, l, after)) ∙ ap (λ x. unknown x.width) shape ∙ sym (get_or_past (memory_in rs m).words.words q (unknown (memory_in rs m).words.shape.width) (omega (arith, l, before))))

pub all_kept_fit : (rs : List StoredMemory) (m : ℕ) (before after es : List OverwrittenWord) → m < length rs → Added (memory_in rs m) m before after es → All (Fits rs) before → All (Fits rs) after
all_kept_fit rs m before after es inside a h = subst (All (Fits rs)) (sym a.added) (All-append (Fits rs) before es h (all_taken_fit rs m es inside a.taken))

-- ---- the word that a sure index names

pub whole_some : (ps : KnownBits) → are_sure ps ≡ true → (bs : List Bit) × (whole_bits ps ≡ Some bs)
whole_some ps e = go (whole_bits ps) refl
  where
    go : (o : Option (List Bit)) → whole_bits ps ≡ o → (bs : List Bit) × (whole_bits ps ≡ Some bs)
    go None i = absurd (some_whole ps e i)
    go (Some bs) i = (bs, i)

-- what the place of the named word says
abbrev pub IsNamed : Shape → Partly → Option ℕ → Type 0
IsNamed s index o = (bits : List Bit) → whole_bits index.bits ≡ Some bits → MatchOption o (named_by s index.signed bits ≡ None) (λ place. (place < count s) × (named_by s index.signed bits ≡ Some (least s + place)))

module _ (s : Shape) (index : Partly) (o : Option ℕ) (place : ℕ) (sure : are_sure index.bits ≡ true) (named : IsNamed s index o) (is : place ≡ unwrap_or o 0) where
  abbrev pub bits : List Bit
  bits = (whole_some index.bits sure).0

  are_bits : whole_bits index.bits ≡ Some bits
  are_bits = (whole_some index.bits sure).1

  abbrev pub named_word : Option ℕ
  named_word = named_by s index.signed bits

  pub place_inside : place < count s
  place_inside = subst (λ p. p < count s) (sym is) (go o (named bits are_bits))
    where
      go : (q : Option ℕ) → MatchOption q (named_by s index.signed bits ≡ None) (λ p. (p < count s) × (named_by s index.signed bits ≡ Some (least s + p))) → unwrap_or q 0 < count s
      go None h = omega arith
      go (Some p) h = h.0

  pub named_is : (bs : List Bit) → whole_bits index.bits ≡ Some bs → named_by s index.signed bs ≡ named_by s index.signed bits
  named_is bs e = ap (λ q. named_by s index.signed (unwrap_or q [])) (sym e ∙ are_bits)

  pub named_which : (named_by s index.signed bits ≡ None) ⊎ (named_by s index.signed bits ≡ Some (least s + place))
  named_which = go o (named bits are_bits) is
    where
      go : (q : Option ℕ) → MatchOption q (named_by s index.signed bits ≡ None) (λ p. (p < count s) × (named_by s index.signed bits ≡ Some (least s + p))) → place ≡ unwrap_or q 0 → (named_by s index.signed bits ≡ None) ⊎ (named_by s index.signed bits ≡ Some (least s + place))
      go None h i = inl h
      go (Some p) h i = inr (h.1 ∙ ap (λ x. Some (least s + x)) (sym i))
