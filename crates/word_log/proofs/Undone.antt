-- What memories hold after entries are undone.
use Rattle.std.proofs.Common.{◌≡◌, ℕ, ◌||◌, Bool, true, false, if◌then◌else◌, List, [], ◌∷◌, ◌++◌, set, append_assoc, refl, sym, ap, ap₂, subst, ◌∙◌}
use Rattle.std.specs.List.{All}
use Rattle.std.proofs.lemmas.Bool.{false≢true}
use Rattle.std.proofs.lemmas.List.{append-nil, set-get_or, set-set}
use Rattle.std.proofs.lemmas.List.Elements.{All-head, All-push, All-tail}
use Rattle.memory_rebuild.specs.body_replay.KnownBits.{KnownBits, unknown}
use Rattle.memory_rebuild.proofs.Joins.{joined_comm, joined_self}
use Rattle.word_log.specs.declared.entry.OverwrittenWord.{OverwrittenWord}
use Rattle.word_log.specs.declared.memory.StoredMemory.{StoredMemory}
use Rattle.word_log.specs.Entries.{Fits, Moved, Reading, flags, is_of, is_word_at, names, put, undo, words}
use Rattle.word_log.specs.Memories.{SameShapes, memory_in, with_word, word_in}
use Rattle.word_log.proofs.Shapes.{all_under, fits_under, memory_here, no_stored, put_flag, put_shapes, put_word, shapes_both, shapes_self, undo_shapes}

-- ---- what an entry says of what is read

-- an entry that is put back changes what it is of alone, and two ways have no order
pub record IsReading (K V : Type 0) (x : Reading K V) : Type 0 where
  pub step : (rs : List StoredMemory) (e : OverwrittenWord) → Fits rs e → (k : K) → x.read (put e rs) k ≡ (if x.here e k then x.value e else x.read rs k)
  pub self : (a : V) → x.merge a a ≡ a
  pub swap : (a b : V) → x.merge a b ≡ x.merge b a

or_self : (a : Bool) → (a || a) ≡ a
or_self true = refl
or_self false = refl

or_swap : (a b : Bool) → (a || b) ≡ (b || a)
or_swap true true = refl
or_swap true false = refl
or_swap false true = refl
or_swap false false = refl

pub words_read : IsReading (ℕ × ℕ) KnownBits words
words_read = record { step = put_word; self = joined_self; swap = joined_comm }

pub flags_read : IsReading ℕ Bool flags
flags_read = record { step = put_flag; self = or_self; swap = or_swap }

pub names_append : (K : Type 0) (here : OverwrittenWord → K → Bool) (es fs : List OverwrittenWord) (k : K) → names here (es ++ fs) k ≡ (names here es k || names here fs k)
names_append K here [] fs k = refl
names_append K here (e ∷ es) fs k = go (here e k) (names_append K here es fs k)
  where
    go : (t : Bool) → names here (es ++ fs) k ≡ (names here es k || names here fs k) → (t || names here (es ++ fs) k) ≡ ((t || names here es k) || names here fs k)
    go true i = refl
    go false i = i

pub undo_append : (es fs : List OverwrittenWord) (rs : List StoredMemory) → undo (es ++ fs) rs ≡ undo es (undo fs rs)
undo_append [] fs rs = refl
undo_append (e ∷ es) fs rs = ap (put e) (undo_append es fs rs)

module _ (K V : Type 0) (x : Reading K V) (h : IsReading K V x) where
  -- the entries decide, whatever the memories held
  pub undone_named : (es : List OverwrittenWord) (rs rs' : List StoredMemory) → All (Fits rs) es → SameShapes rs rs' → (k : K) → names x.here es k ≡ true → x.read (undo es rs) k ≡ x.read (undo es rs') k
  undone_named [] rs rs' fit s k n = absurd (false≢true n)
  undone_named (e ∷ es) rs rs' fit s k n =
      let one : Fits rs e = All-head (Fits rs) e es fit in
      let rest : All (Fits rs) es = All-tail (Fits rs) e es fit in
      let here : SameShapes rs (undo es rs) = undo_shapes es rs rest in
      let there : SameShapes rs (undo es rs') = shapes_both rs rs' (undo es rs') s (undo_shapes es rs' (all_under rs rs' es s rest)) in
      h.step (undo es rs) e (fits_under rs (undo es rs) e here one) k ∙ go (x.here e k) (undone_named es rs rs' rest s k) n ∙ sym (h.step (undo es rs') e (fits_under rs (undo es rs') e there one) k)
    where
      go : (t : Bool) → (names x.here es k ≡ true → x.read (undo es rs) k ≡ x.read (undo es rs') k) → (t || names x.here es k) ≡ true → (if t then x.value e else x.read (undo es rs) k) ≡ (if t then x.value e else x.read (undo es rs') k)
      go true f i = refl
      go false f i = f i

  pub undone_unnamed : (es : List OverwrittenWord) (rs : List StoredMemory) → All (Fits rs) es → (k : K) → names x.here es k ≡ false → x.read (undo es rs) k ≡ x.read rs k
  undone_unnamed [] rs fit k n = refl
  undone_unnamed (e ∷ es) rs fit k n =
      let one : Fits rs e = All-head (Fits rs) e es fit in
      let rest : All (Fits rs) es = All-tail (Fits rs) e es fit in
      h.step (undo es rs) e (fits_under rs (undo es rs) e (undo_shapes es rs rest) one) k ∙ go (x.here e k) (undone_unnamed es rs rest k) n
    where
      go : (t : Bool) → (names x.here es k ≡ false → x.read (undo es rs) k ≡ x.read rs k) → (t || names x.here es k) ≡ false → (if t then x.value e else x.read (undo es rs) k) ≡ x.read rs k
      go true f i = absurd (false≢true (sym i))
      go false f i = f i

-- ---- entries that are moved

pub moved_nothing : (from to : List OverwrittenWord) (rs : List StoredMemory) → Moved from to rs from to rs
moved_nothing from to rs =
    record {
      gone = [];
      came = [];
      taken = sym (append-nil from);
      added = sym (append-nil to);
      forth = refl;
      back = refl;
      words = λ k. refl;
      memories = λ i. refl;
      shapes = shapes_self rs;
    }

-- a word that is put back, and then what it overwrote
put_twice : (rs : List StoredMemory) (e f : OverwrittenWord) → Fits rs e → f.memory ≡ e.memory → f.place ≡ e.place → f.value.bits ≡ word_in (memory_in rs e.memory) e.place → f.written ≡ (memory_in rs e.memory).written → put f (put e rs) ≡ rs
put_twice rs e f fit memory place bits written =
    let r : StoredMemory = memory_in rs e.memory in
    let new : StoredMemory = with_word r e.place e.value.bits e.written in
    let later : List StoredMemory = set rs e.memory new in
    let held : memory_in later e.memory ≡ new = memory_here rs e.memory new fit.inside in
    let words : set (set r.words.words e.place e.value.bits) e.place (word_in r e.place) ≡ r.words.words = set-set r.words.words e.place e.value.bits (word_in r e.place) ∙ set-get_or r.words.words e.place (unknown r.words.shape.width) in
    ap₂ (λ m q. set later m (with_word (memory_in later m) q f.value.bits f.written)) memory place
    ∙ ap₂ (λ ps w. set later e.memory (with_word (memory_in later e.memory) e.place ps w)) bits written
    ∙ ap (λ y. set later e.memory (with_word y e.place (word_in r e.place) r.written)) held
    ∙ ap (λ ws. set later e.memory (record { words = record { shape = r.words.shape; words = ws }; written = r.written })) words
    ∙ set-set rs e.memory new r
    ∙ set-get_or rs e.memory no_stored

pub moved_one : (from to from' to' : List OverwrittenWord) (rs rs' : List StoredMemory) (e f : OverwrittenWord) → from ≡ from' ++ e ∷ [] → to' ≡ to ++ f ∷ [] → Fits rs e → f.memory ≡ e.memory → f.place ≡ e.place → f.value.bits ≡ word_in (memory_in rs e.memory) e.place → f.written ≡ (memory_in rs e.memory).written → rs' ≡ put e rs → Moved from to rs from' to' rs'
moved_one from to from' to' rs rs' e f taken added fit memory place bits written is =
    record {
      gone = e ∷ [];
      came = f ∷ [];
      taken = taken;
      added = added;
      forth = sym is;
      back = ap (put f) is ∙ put_twice rs e f fit memory place bits written;
      words = λ k. ap₂ (λ m q. is_word_at (record f { memory = m; place = q }) k || false) memory place;
      memories = λ i. ap (λ m. is_of (record f { memory = m }) i || false) memory;
      shapes = subst (SameShapes rs) (sym is) (put_shapes rs e fit);
    }

pub moved_both : (a b a' b' a'' b'' : List OverwrittenWord) (u v w : List StoredMemory) → Moved a b u a' b' v → Moved a' b' v a'' b'' w → Moved a b u a'' b'' w
moved_both a b a' b' a'' b'' u v w m n =
    record {
      gone = n.gone ++ m.gone;
      came = m.came ++ n.came;
      taken = m.taken ∙ ap (λ l. l ++ m.gone) n.taken ∙ append_assoc a'' n.gone m.gone;
      added = n.added ∙ ap (λ l. l ++ n.came) m.added ∙ append_assoc b m.came n.came;
      forth = undo_append n.gone m.gone u ∙ ap (undo n.gone) m.forth ∙ n.forth;
      back = undo_append m.came n.came w ∙ ap (undo m.came) n.back ∙ m.back;
      words = λ k. names_append (ℕ × ℕ) is_word_at m.came n.came k ∙ ap₂ (λ s t. s || t) (m.words k) (n.words k) ∙ or_swap (names is_word_at m.gone k) (names is_word_at n.gone k) ∙ sym (names_append (ℕ × ℕ) is_word_at n.gone m.gone k);
      memories = λ i. names_append ℕ is_of m.came n.came i ∙ ap₂ (λ s t. s || t) (m.memories i) (n.memories i) ∙ or_swap (names is_of m.gone i) (names is_of n.gone i) ∙ sym (names_append ℕ is_of n.gone m.gone i);
      shapes = shapes_both u v w m.shapes n.shapes;
    }

-- one entry more
pub kept_fits : (rs rs' : List StoredMemory) (ts ts' : List OverwrittenWord) (e : OverwrittenWord) → ts' ≡ ts ++ e ∷ [] → Fits rs e → SameShapes rs rs' → All (Fits rs) ts → All (Fits rs') ts'
kept_fits rs rs' ts ts' e added fit s h =
    subst (All (Fits rs')) (sym added) (all_under rs rs' (ts ++ e ∷ []) s (All-push (Fits rs) ts e h fit))
