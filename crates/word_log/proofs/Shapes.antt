-- Memories of which one word is changed.
use Rattle.std.proofs.Common.{◌≡◌, ℕ, ◌+◌, ◌-◌, ◌<◌, ◌==◌, ◌&&◌, arith, Bool, true, false, if◌then◌else◌, List, [], ◌∷◌, length, set, get_or, refl, sym, ap, ap₂, subst, ◌∙◌, ⊎_elim, length-set, get_or-set_same, get_or-set_other, eq-eqb}
use Rattle.std.specs.List.{All}
use Rattle.std.proofs.lemmas.Bool.{cases_eq, eqb-true, false≢true}
use Rattle.std.proofs.lemmas.List.{ext_get_or, get_or-map, length-map}
use Rattle.std.proofs.lemmas.List.Elements.{All-head, All-tail, All-weaker}
use Rattle.write_log.specs.design_model.Design.{no_memory}
use Rattle.memory_rebuild.specs.body_replay.KnownBits.{KnownBits, unknown}
use Rattle.memory_rebuild.specs.declared.shape.Shape.{Shape}
use Rattle.memory_rebuild.specs.Words.{KnownWords, count, least, word_at}
use Rattle.word_log.specs.declared.entry.OverwrittenWord.{OverwrittenWord}
use Rattle.word_log.specs.declared.memory.StoredMemory.{StoredMemory}
use Rattle.word_log.specs.Entries.{Fits, put, undo}
use Rattle.word_log.specs.Logs.{sizes_of}
use Rattle.word_log.specs.Memories.{SameShapes, memory_in, unknown_memory, with_word, word_in}

abbrev pub no_stored : StoredMemory
no_stored = unknown_memory no_memory 0

-- ---- the same shapes

pub shapes_self : (rs : List StoredMemory) → SameShapes rs rs
shapes_self rs = record { count = refl; shape = λ i. refl; size = λ i. refl; widths = λ i q. refl }

pub shapes_both : (p q r : List StoredMemory) → SameShapes p q → SameShapes q r → SameShapes p r
shapes_both p q r a b =
    record { count = b.count ∙ a.count; shape = λ i. b.shape i ∙ a.shape i; size = λ i. b.size i ∙ a.size i; widths = λ i j. b.widths i j ∙ a.widths i j }

pub shapes_back : (p q : List StoredMemory) → SameShapes p q → SameShapes q p
shapes_back p q a = record { count = sym a.count; shape = λ i. sym (a.shape i); size = λ i. sym (a.size i); widths = λ i j. sym (a.widths i j) }

pub fits_under : (p q : List StoredMemory) (e : OverwrittenWord) → SameShapes p q → Fits p e → Fits q e
fits_under p q e s f =
    record {
      inside = subst (λ n. e.memory < n) (sym s.count) f.inside;
      place = subst (λ x. e.place < count x) (sym (s.shape e.memory)) f.place;
      listed = subst (λ n. e.place < n) (sym (s.size e.memory)) f.listed;
      held = s.widths e.memory e.place ∙ f.held ∙ ap (λ x. x.width) (sym (s.shape e.memory));
      width = subst (λ x. length e.value.bits ≡ x.width) (sym (s.shape e.memory)) f.width;
      sign_is = subst (λ x. e.value.signed ≡ x.signed) (sym (s.shape e.memory)) f.sign_is;
    }

pub all_under : (p q : List StoredMemory) (es : List OverwrittenWord) → SameShapes p q → All (Fits p) es → All (Fits q) es
all_under p q es s h = All-weaker (Fits p) (Fits q) (λ e f. fits_under p q e s f) es h

-- ---- one word is changed

module _ (rs : List StoredMemory) (m : ℕ) (new : StoredMemory) (inside : m < length rs) where
  pub memory_here : memory_in (set rs m new) m ≡ new
  memory_here = get_or-set_same rs m new no_stored inside

  pub memory_there : (i : ℕ) → (i ≡ m → ⊥) → memory_in (set rs m new) i ≡ memory_in rs i
  memory_there i ne = get_or-set_other rs m i new no_stored ne

  pub shapes_set : new.words.shape ≡ (memory_in rs m).words.shape → length new.words.words ≡ length (memory_in rs m).words.words → ((q : ℕ) → length (word_in new q) ≡ length (word_in (memory_in rs m) q)) → SameShapes rs (set rs m new)
  shapes_set shape size wide =
      record {
        count = length-set rs m new;
        shape = λ i. ⊎_elim (λ e. ap (λ j. (memory_in (set rs m new) j).words.shape) e ∙ ap (λ r. r.words.shape) memory_here ∙ shape ∙ ap (λ j. (memory_in rs j).words.shape) (sym e)) (λ ne. ap (λ r. r.words.shape) (memory_there i ne)) (cases_eq i m);
        size = λ i. ⊎_elim (λ e. ap (λ j. length (memory_in (set rs m new) j).words.words) e ∙ ap (λ r. length r.words.words) memory_here ∙ size ∙ ap (λ j. length (memory_in rs j).words.words) (sym e)) (λ ne. ap (λ r. length r.words.words) (memory_there i ne)) (cases_eq i m);
        widths = λ i q. ⊎_elim (λ e. ap (λ j. length (word_in (memory_in (set rs m new) j) q)) e ∙ ap (λ r. length (word_in r q)) memory_here ∙ wide q ∙ ap (λ j. length (word_in (memory_in rs j) q)) (sym e)) (λ ne. ap (λ r. length (word_in r q)) (memory_there i ne)) (cases_eq i m);
      }

  pub flag_set : (i : ℕ) (t : Bool) → (m == i) ≡ t → (memory_in (set rs m new) i).written ≡ (if t then new.written else (memory_in rs i).written)
  flag_set i true e = ap (λ j. (memory_in (set rs m new) j).written) (sym (eqb-true m i e)) ∙ ap (λ r. r.written) memory_here
  flag_set i false e = ap (λ r. r.written) (memory_there i (λ q. false≢true (sym e ∙ eq-eqb m i (sym q))))

module _ (r : StoredMemory) (q : ℕ) (ps : KnownBits) (written : Bool) (listed : q < length r.words.words) where
  pub word_with : (p : ℕ) (t : Bool) → (q == p) ≡ t → word_in (with_word r q ps written) p ≡ (if t then ps else word_in r p)
  word_with p true e =
      ap (λ j. get_or (set r.words.words q ps) j (unknown r.words.shape.width)) (sym (eqb-true q p e)) ∙ get_or-set_same r.words.words q ps (unknown r.words.shape.width) listed
  word_with p false e = get_or-set_other r.words.words q p ps (unknown r.words.shape.width) (λ s. false≢true (sym e ∙ eq-eqb q p (sym s)))

-- what an entry puts back
module _ (rs : List StoredMemory) (e : OverwrittenWord) (f : Fits rs e) where
  abbrev new : StoredMemory
  new = with_word (memory_in rs e.memory) e.place e.value.bits e.written

  pub put_shapes : SameShapes rs (put e rs)
  put_shapes = shapes_set rs e.memory new f.inside refl (length-set (memory_in rs e.memory).words.words e.place e.value.bits) (λ q. ap length (word_with (memory_in rs e.memory) e.place e.value.bits e.written f.listed q (e.place == q) refl) ∙ go q (e.place == q) refl)
    where
      go : (q : ℕ) (t : Bool) → (e.place == q) ≡ t → length (if t then e.value.bits else word_in (memory_in rs e.memory) q) ≡ length (word_in (memory_in rs e.memory) q)
      go q true i = f.width ∙ sym f.held ∙ ap (λ j. length (word_in (memory_in rs e.memory) j)) (eqb-true e.place q i)
      go q false i = refl

  pub put_flag : (i : ℕ) → (memory_in (put e rs) i).written ≡ (if e.memory == i then e.written else (memory_in rs i).written)
  put_flag i = flag_set rs e.memory new f.inside i (e.memory == i) refl

  pub put_word : (k : ℕ × ℕ) → word_in (memory_in (put e rs) k.0) k.1 ≡ (if (e.memory == k.0) && (e.place == k.1) then e.value.bits else word_in (memory_in rs k.0) k.1)
  put_word k = go (e.memory == k.0) refl
    where
      go : (t : Bool) → (e.memory == k.0) ≡ t → word_in (memory_in (put e rs) k.0) k.1 ≡ (if t && (e.place == k.1) then e.value.bits else word_in (memory_in rs k.0) k.1)
      go true i =
          let same : e.memory ≡ k.0 = eqb-true e.memory k.0 i in
          ap (λ j. word_in (memory_in (put e rs) j) k.1) (sym same) ∙ ap (λ r. word_in r k.1) (memory_here rs e.memory new f.inside)
          ∙ word_with (memory_in rs e.memory) e.place e.value.bits e.written f.listed k.1 (e.place == k.1) refl
          ∙ ap (λ j. if e.place == k.1 then e.value.bits else word_in (memory_in rs j) k.1) same
      go false i = ap (λ r. word_in r k.1) (memory_there rs e.memory new f.inside k.0 (λ q. false≢true (sym i ∙ eq-eqb e.memory k.0 (sym q))))

pub undo_shapes : (es : List OverwrittenWord) (rs : List StoredMemory) → All (Fits rs) es → SameShapes rs (undo es rs)
undo_shapes [] rs fit = shapes_self rs
undo_shapes (e ∷ es) rs fit =
    let rest : SameShapes rs (undo es rs) = undo_shapes es rs (All-tail (Fits rs) e es fit) in
    shapes_both rs (undo es rs) (undo (e ∷ es) rs) rest (put_shapes (undo es rs) e (fits_under rs (undo es rs) e rest (All-head (Fits rs) e es fit)))

-- ---- memories that hold the same

same_memory : (a b : StoredMemory) → a.words.shape ≡ b.words.shape → a.words.words ≡ b.words.words → a.written ≡ b.written → a ≡ b
same_memory a b shape words written =
    ap₂ (λ s ws. record { words = record { shape = s; words = ws }; written = a.written }) shape words ∙ ap (λ w. record { words = b.words; written = w }) written

pub same_memories : (rs rs' : List StoredMemory) → SameShapes rs rs' → ((i q : ℕ) → word_in (memory_in rs' i) q ≡ word_in (memory_in rs i) q) → ((i : ℕ) → (memory_in rs' i).written ≡ (memory_in rs i).written) → rs' ≡ rs
same_memories rs rs' s words written =
    ext_get_or no_stored rs' rs s.count
    (λ i l.
    same_memory (memory_in rs' i) (memory_in rs i) (s.shape i)
    (ext_get_or (unknown (memory_in rs' i).words.shape.width) (memory_in rs' i).words.words (memory_in rs i).words.words (s.size i)
    (λ q b. words i q ∙ ap (λ x. get_or (memory_in rs i).words.words q (unknown x.width)) (sym (s.shape i))))
    (written i))

-- ---- a word that is put, by what each place holds then

words_put : (s : Shape) (ws ws' : List KnownBits) (place : ℕ) (ps : KnownBits) → length ws ≡ count s → length ws' ≡ count s → place < count s → ((q : ℕ) → q < count s → word_at (record { shape = s; words = ws' }) (least s + q) ≡ (if place == q then ps else word_at (record { shape = s; words = ws }) (least s + q))) → ws' ≡ set ws place ps
words_put s ws ws' place ps size size' inside h =
    ext_get_or (unknown s.width) ws' (set ws place ps) (size' ∙ sym (length-set ws place ps ∙ size))
    (λ q l.
    let here : least s + q - least s ≡ q = omega arith in
    let below : q < count s = omega (arith, l, size') in
    ap (λ i. get_or ws' i (unknown s.width)) (sym here) ∙ h q below ∙ ap (λ i. if place == q then ps else get_or ws i (unknown s.width)) here ∙ by q (place == q) refl)
  where
    by : (q : ℕ) (t : Bool) → (place == q) ≡ t → (if t then ps else get_or ws q (unknown s.width)) ≡ get_or (set ws place ps) q (unknown s.width)
    by q true e =
        sym (ap (λ i. get_or (set ws place ps) i (unknown s.width)) (sym (eqb-true place q e)) ∙ get_or-set_same ws place ps (unknown s.width) (omega (arith, inside, size)))
    by q false e = sym (get_or-set_other ws place q ps (unknown s.width) (λ n. false≢true (sym e ∙ eq-eqb place q (sym n))))

pub word_put : (r r' : KnownWords) (place : ℕ) (ps : KnownBits) → r'.shape ≡ r.shape → length r.words ≡ count r.shape → length r'.words ≡ count r.shape → place < count r.shape → ((q : ℕ) → q < count r.shape → word_at r' (least r.shape + q) ≡ (if place == q then ps else word_at r (least r.shape + q))) → r' ≡ record r { words = set r.words place ps }
word_put r r' place ps shape size size' inside h =
    let plain : r' ≡ record { shape = r.shape; words = r'.words } = ap (λ s. record { shape = s; words = r'.words }) shape in
    plain ∙ ap (λ ws. record { shape = r.shape; words = ws }) (words_put r.shape r.words r'.words place ps size size' inside (λ q l. ap (λ y. word_at y (least r.shape + q)) (sym plain) ∙ h q l))

-- ---- how many words there are

pub sizes_same : (p q : List StoredMemory) → SameShapes p q → sizes_of q ≡ sizes_of p
sizes_same p q s =
    ext_get_or 0 (sizes_of q) (sizes_of p) (length-map q size ∙ s.count ∙ sym (length-map p size))
    (λ i l.
    let here : i < length q = omega (arith, l, length-map q size) in
    let there : i < length p = (let same = s.count in omega (arith, here, same)) in
    get_or-map size q i no_stored 0 here ∙ ap count (s.shape i) ∙ sym (get_or-map size p i no_stored 0 there))
  where
    size : StoredMemory → ℕ
    size r = count r.words.shape
