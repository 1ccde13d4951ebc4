-- The words of a memory as they are kept: what they represent, and that they stay in order.
use Rattle.std.proofs.Common.{◌≡◌, ℕ, zero, suc, ◌+◌, ◌-◌, ◌<◌, ◌≤◌, ◌==◌, Bool, true, false, cond, if◌then◌else◌, List, [], ◌∷◌, ◌++◌, length, map, replicate, set, take, drop, get_or, None, refl, sym, ap, ap₂, subst, ◌∙◌, ⊎_elim, arith, length-set, length-append, get_or-set_same, get_or-set_other, eq-eqb}
use Rattle.std.specs.Prelude.{All, Contains, count_by}
use Rattle.std.specs.List.{sum_by}
use Rattle.std.proofs.lemmas.Bool.{cases_eq, cases_lt, cases_Bool, eqb-true, false≢true}
use Rattle.std.proofs.lemmas.List.{append-nil, drop_all, get_or-map, get_or_past, length-map, length-replicate, take_all}
use Rattle.std.proofs.lemmas.List.Elements.{All-head, All-nil, All-push, All-set, All-tail, All-weaker, Contains-append_left, Contains-push}
use Rattle.std.proofs.lemmas.List.Sums.{count_by-le-length, sum_by-cons, sum_by-set}
use Rattle.known_state.specs.Partly.{Partly, with_blame}
use Rattle.known_state.specs.Join.{joined}
use Rattle.body_replay.specs.KnownBits.{KnownBits, unknown}
use Rattle.memory_rebuild.specs.declared.shape.Shape.{Shape}
use Rattle.memory_rebuild.specs.declared.word.Word.{Word}
use Rattle.memory_rebuild.specs.Words.{HaveWidth, KnownWords, bits_left, count, least, may_be, unwritten, word_at}
use Rattle.memory_rebuild.specs.Epochs.{AreKept, Fits, bits_now, is_of, weakened}
use Rattle.memory_rebuild.proofs.Joins.{joined_self, length-joined, unknown_joined}

-- what the words represent
abbrev pub words_of : Shape → ℕ → List Word → KnownWords
words_of s epoch ws = record { shape = s; words = map (bits_now s.width epoch) ws }

no_word : Word
no_word = record { value = record { bits = []; signed = false; blame = 0 }; epoch = 0 }

-- the bits of the word at a place
pub word_in : (s : Shape) (epoch : ℕ) (ws : List Word) (q : ℕ) (d : Word) → q < length ws → word_at (words_of s epoch ws) (least s + q) ≡ bits_now s.width epoch (get_or ws q d)
word_in s epoch ws q d l =
    ap (λ i. get_or (map (bits_now s.width epoch) ws) i (unknown s.width)) (let e : least s + q - least s ≡ q = omega arith in e) ∙ get_or-map (bits_now s.width epoch) ws q d (unknown s.width) l

unknown_length : (w : ℕ) → length (unknown w) ≡ w
unknown_length w = length-replicate w None

fitting_length : (s : Shape) (epoch : ℕ) (w : Word) → Fits s w → length (bits_now s.width epoch w) ≡ s.width
fitting_length s epoch w f = go (is_of epoch w)
  where
    go : (t : Bool) → length (if t then w.value.bits else unknown s.width) ≡ s.width
    go true = f.width
    go false = unknown_length s.width

pub sizes_of : (s : Shape) (epoch : ℕ) (ws : List Word) → All (Fits s) ws → HaveWidth (words_of s epoch ws)
sizes_of s epoch ws fit i = ⊎_elim inside outside (cases_lt (i - least s) (length ws))
  where
    inside : i - least s < length ws → length (word_at (words_of s epoch ws) i) ≡ s.width
    inside l = ap length (get_or-map (bits_now s.width epoch) ws (i - least s) no_word (unknown s.width) l) ∙ fitting_length s epoch (get_or ws (i - least s) no_word) (fit (i - least s) no_word l)

    outside : length ws ≤ i - least s → length (word_at (words_of s epoch ws) i) ≡ s.width
    outside l = ap length (get_or_past (map (bits_now s.width epoch) ws) (i - least s) (unknown s.width) (omega (arith, l, length-map ws (bits_now s.width epoch)))) ∙ unknown_length s.width

-- ---- how many words are of an epoch

count_none : (p : Word → Bool) (ws : List Word) → All (λ w. p w ≡ false) ws → count_by p ws ≡ 0
count_none p [] h = refl
count_none p (w ∷ ws) h =
    sum_by-cons (λ x. cond (p x) 1 0) w ws ∙ ap₂ (λ t n. (if t then 1 else 0) + n) (All-head (λ x. p x ≡ false) w ws h) (count_none p ws (All-tail (λ x. p x ≡ false) w ws h))

count_same : (p : Word → Bool) (vs ws : List Word) → length vs ≡ length ws → ((i : ℕ) (d : Word) → i < length vs → p (get_or vs i d) ≡ p (get_or ws i d)) → count_by p vs ≡ count_by p ws
count_same p [] [] e h = refl
count_same p [] (w ∷ ws) e h = cc
count_same p (v ∷ vs) [] e h = cc
count_same p (v ∷ vs) (w ∷ ws) e h =
    let size : length vs ≡ length ws = cc in
    sum_by-cons (λ x. cond (p x) 1 0) v vs ∙ ap₂ (λ t n. (if t then 1 else 0) + n) (h 0 v (omega arith)) (count_same p vs ws size (λ i d l. h (suc i) d (omega (arith, l)))) ∙ sym (sum_by-cons (λ x. cond (p x) 1 0) w ws)

-- ---- a new memory, and one that is forgotten

all_old : (w epoch : ℕ) (ws : List Word) → All (λ x. is_of epoch x ≡ false) ws → map (bits_now w epoch) ws ≡ replicate (length ws) (unknown w)
all_old w epoch [] h = refl
all_old w epoch (x ∷ xs) h =
    ap₂ (λ y ys. y ∷ ys) (ap (λ t. if t then x.value.bits else unknown w) (All-head (λ x. is_of epoch x ≡ false) x xs h)) (all_old w epoch xs (All-tail (λ x. is_of epoch x ≡ false) x xs h))

-- words of older epochs are unknown, and none of them is listed
pub old_words : (s : Shape) (epoch : ℕ) (ws : List Word) → length ws ≡ count s → All (λ x. is_of epoch x ≡ false) ws → words_of s epoch ws ≡ unwritten s
old_words s epoch ws size old = ap (λ xs. record { shape = s; words = xs }) (all_old s.width epoch ws old ∙ ap (λ n. replicate n (unknown s.width)) size)

not_this : (m n : ℕ) → m < n → (m == n) ≡ false
not_this m n l = ⊎_elim (λ e. absurd (let same : m ≡ n = eqb-true m n e in omega (arith, same, l))) (λ e. e) (cases_Bool (m == n))

pub old_kept : (s : Shape) (epoch room : ℕ) (ws : List Word) → 1 ≤ s.width → s.width ≤ 128 → length ws ≡ count s → All (Fits s) ws → All (λ x. x.epoch < epoch) ws → length ws ≤ room → AreKept s epoch ws [] room
old_kept s epoch room ws low high size fit old room_for =
    record {
      at_least = low;
      at_most = high;
      size = size;
      fit = fit;
      older = All-weaker (λ x. x.epoch < epoch) (λ x. x.epoch ≤ epoch) (λ x l. omega (arith, l)) ws old;
      inside = All-nil (λ i. i < length ws);
      listed = λ i d l e. absurd (false≢true (sym (not_this (get_or ws i d).epoch epoch (old i d l)) ∙ e));
      each = sym (count_none (is_of epoch) ws (All-weaker (λ x. x.epoch < epoch) (λ x. is_of epoch x ≡ false) (λ x l. not_this x.epoch epoch l) ws old));
      room = room_for;
    }

pub old_none : (epoch : ℕ) (ws : List Word) → All (λ x. x.epoch < epoch) ws → All (λ x. is_of epoch x ≡ false) ws
old_none epoch ws old = All-weaker (λ x. x.epoch < epoch) (λ x. is_of epoch x ≡ false) (λ x l. not_this x.epoch epoch l) ws old

-- ---- a word is written

abbrev one_of : ℕ → Word → ℕ
one_of epoch x = cond (is_of epoch x) 1 0

set_inside : (ws : List Word) (q : ℕ) (x : Word) (written : List ℕ) → All (λ i. i < length ws) written → All (λ i. i < length (set ws q x)) written
set_inside ws q x written h = All-weaker (λ i. i < length ws) (λ i. i < length (set ws q x)) (λ i l. omega (arith, l, length-set ws q x)) written h

-- one of this epoch in place of another
pub kept_replaced : (s : Shape) (epoch room : ℕ) (ws : List Word) (written : List ℕ) (q : ℕ) (d x : Word) → AreKept s epoch ws written room → q < length ws → is_of epoch (get_or ws q d) ≡ true → x.epoch ≡ epoch → Fits s x → AreKept s epoch (set ws q x) written room
kept_replaced s epoch room ws written q d x k l now same f =
    record {
      at_least = k.at_least;
      at_most = k.at_most;
      size = length-set ws q x ∙ k.size;
      fit = All-set (Fits s) ws q x f k.fit;
      older = All-set (λ w. w.epoch ≤ epoch) ws q x (omega (arith, same)) k.older;
      inside = set_inside ws q x written k.inside;
      listed = λ i e m h. ⊎_elim (λ at. subst (λ n. Contains written n) (sym at) (k.listed q d l now)) (λ ne. k.listed i e (omega (arith, m, length-set ws q x)) (ap (is_of epoch) (sym (get_or-set_other ws q i x e ne)) ∙ h)) (cases_eq i q);
      each =
          k.each
          ∙ (let f : one_of epoch x ≡ 1 = ap (λ n. cond (n == epoch) 1 0) same ∙ ap (λ t. cond t 1 0) (eq-eqb epoch epoch refl) in
          let g : one_of epoch (get_or ws q d) ≡ 1 = ap (λ t. cond t 1 0) now in
          let h : sum_by (one_of epoch) (set ws q x) + one_of epoch (get_or ws q d) ≡ sum_by (one_of epoch) ws + one_of epoch x = sum_by-set (one_of epoch) ws q x d l in
          omega (arith, f, g, h));
      room = omega (arith, k.room, length-set ws q x);
    }

-- there is room to list one word more
pub room_left : (s : Shape) (epoch room : ℕ) (ws : List Word) (written : List ℕ) (q : ℕ) (d : Word) → AreKept s epoch ws written room → q < length ws → is_of epoch (get_or ws q d) ≡ false → length written < room
room_left s epoch room ws written q d k l old =
    let x : Word = record { value = (get_or ws q d).value; epoch = epoch } in
    let f : one_of epoch x ≡ 1 = ap (λ t. cond t 1 0) (eq-eqb epoch epoch refl) in
    let g : one_of epoch (get_or ws q d) ≡ 0 = ap (λ t. cond t 1 0) old in
    let h : sum_by (one_of epoch) (set ws q x) + one_of epoch (get_or ws q d) ≡ sum_by (one_of epoch) ws + one_of epoch x = sum_by-set (one_of epoch) ws q x d l in
    let most : sum_by (one_of epoch) (set ws q x) ≤ length (set ws q x) = count_by-le-length (is_of epoch) (set ws q x) in
    let each : length written ≡ sum_by (one_of epoch) ws = k.each in
    omega (arith, f, g, h, most, each, k.room, length-set ws q x)

-- one of this epoch in place of an older one
pub kept_added : (s : Shape) (epoch room more : ℕ) (ws : List Word) (written : List ℕ) (q : ℕ) (d x : Word) → AreKept s epoch ws written room → q < length ws → is_of epoch (get_or ws q d) ≡ false → x.epoch ≡ epoch → Fits s x → room ≤ more → AreKept s epoch (set ws q x) (written ++ q ∷ []) more
kept_added s epoch room more ws written q d x k l old same f grown =
    record {
      at_least = k.at_least;
      at_most = k.at_most;
      size = length-set ws q x ∙ k.size;
      fit = All-set (Fits s) ws q x f k.fit;
      older = All-set (λ w. w.epoch ≤ epoch) ws q x (omega (arith, same)) k.older;
      inside = All-push (λ i. i < length (set ws q x)) written q (set_inside ws q x written k.inside) (omega (arith, l, length-set ws q x));
      listed = λ i e m h.
          ⊎_elim (λ at. subst (λ n. Contains (written ++ q ∷ []) n) (sym at) (Contains-push written q)) (λ ne. Contains-append_left written (q ∷ []) i (k.listed i e (omega (arith, m, length-set ws q x)) (ap (is_of epoch) (sym (get_or-set_other ws q i x e ne)) ∙ h))) (cases_eq i q);
      each =
          let f : one_of epoch x ≡ 1 = ap (λ n. cond (n == epoch) 1 0) same ∙ ap (λ t. cond t 1 0) (eq-eqb epoch epoch refl) in
          let g : one_of epoch (get_or ws q d) ≡ 0 = ap (λ t. cond t 1 0) old in
          let h : sum_by (one_of epoch) (set ws q x) + one_of epoch (get_or ws q d) ≡ sum_by (one_of epoch) ws + one_of epoch x = sum_by-set (one_of epoch) ws q x d l in
          let each : length written ≡ sum_by (one_of epoch) ws = k.each in
          let one : length (written ++ q ∷ []) ≡ length written + 1 = length-append written (q ∷ []) in
          omega (arith, f, g, h, each, one);
      room = omega (arith, k.room, grown, length-set ws q x);
    }

-- words with other values
pub kept_weakened : (s : Shape) (epoch room : ℕ) (ws vs : List Word) (written : List ℕ) → AreKept s epoch ws written room → length vs ≡ length ws → All (Fits s) vs → ((q : ℕ) (d : Word) → q < length ws → (get_or vs q d).epoch ≡ (get_or ws q d).epoch) → AreKept s epoch vs written room
kept_weakened s epoch room ws vs written k size fit same =
    record {
      at_least = k.at_least;
      at_most = k.at_most;
      size = size ∙ k.size;
      fit = fit;
      older = λ q d l. let m : q < length ws = omega (arith, l, size) in omega (arith, same q d m, k.older q d m);
      inside = All-weaker (λ i. i < length ws) (λ i. i < length vs) (λ i l. omega (arith, l, size)) written k.inside;
      listed = λ i d l h. let m : i < length ws = omega (arith, l, size) in k.listed i d m (ap (λ n. n == epoch) (sym (same i d m)) ∙ h);
      each = k.each ∙ sym (count_same (is_of epoch) vs ws size (λ i d l. ap (λ n. n == epoch) (same i d (omega (arith, l, size)))));
      room = omega (arith, k.room, size);
    }

-- ---- what the writes leave

-- the other words
pub set_others : (s : Shape) (epoch : ℕ) (ws : List Word) (q p : ℕ) (x : Word) → q < length ws → (q ≡ p → ⊥) → word_at (words_of s epoch (set ws p x)) (least s + q) ≡ word_at (words_of s epoch ws) (least s + q)
set_others s epoch ws q p x l ne =
    word_in s epoch (set ws p x) q no_word (omega (arith, l, length-set ws p x)) ∙ ap (bits_now s.width epoch) (get_or-set_other ws p q x no_word ne) ∙ sym (word_in s epoch ws q no_word l)

bits_current : (w epoch : ℕ) (x : Word) → is_of epoch x ≡ true → bits_now w epoch x ≡ x.value.bits
bits_current w epoch x e = ap (λ t. if t then x.value.bits else unknown w) e

bits_old : (w epoch : ℕ) (x : Word) → is_of epoch x ≡ false → bits_now w epoch x ≡ unknown w
bits_old w epoch x e = ap (λ t. if t then x.value.bits else unknown w) e

-- the word that is set
pub set_word : (s : Shape) (epoch : ℕ) (ws : List Word) (p : ℕ) (x : Word) → p < length ws → x.epoch ≡ epoch → word_at (words_of s epoch (set ws p x)) (least s + p) ≡ x.value.bits
set_word s epoch ws p x l same =
    word_in s epoch (set ws p x) p x (omega (arith, l, length-set ws p x)) ∙ ap (bits_now s.width epoch) (get_or-set_same ws p x x l) ∙ bits_current s.width epoch x (ap (λ n. n == epoch) same ∙ eq-eqb epoch epoch refl)

-- a word of this epoch is as it is kept, and an older one is unknown
pub current_word : (s : Shape) (epoch : ℕ) (ws : List Word) (p : ℕ) (d : Word) → p < length ws → is_of epoch (get_or ws p d) ≡ true → word_at (words_of s epoch ws) (least s + p) ≡ (get_or ws p d).value.bits
current_word s epoch ws p d l e = word_in s epoch ws p d l ∙ bits_current s.width epoch (get_or ws p d) e

pub old_word : (s : Shape) (epoch : ℕ) (ws : List Word) (p : ℕ) (d : Word) → p < length ws → is_of epoch (get_or ws p d) ≡ false → word_at (words_of s epoch ws) (least s + p) ≡ unknown s.width
old_word s epoch ws p d l e = word_in s epoch ws p d l ∙ bits_old s.width epoch (get_or ws p d) e

-- an older word stays unknown where it is only perhaps written
pub old_weakened : (s : Shape) (epoch : ℕ) (ws : List Word) (p : ℕ) (d : Word) (value : KnownBits) → p < length ws → is_of epoch (get_or ws p d) ≡ false → length value ≡ s.width → word_at (words_of s epoch ws) (least s + p) ≡ bits_left false value (word_at (words_of s epoch ws) (least s + p))
old_weakened s epoch ws p d value l e size =
    old_word s epoch ws p d l e ∙ sym (ap (λ ps. joined ps value) (old_word s epoch ws p d l e) ∙ unknown_joined s.width value size)

-- all words after the listed ones were joined with a value
pub weakened_word : (s : Shape) (epoch room : ℕ) (ws vs : List Word) (written : List ℕ) (may : ℕ → Bool) (value : KnownBits) → AreKept s epoch ws written room → length vs ≡ length ws → length value ≡ s.width → ((q : ℕ) (d : Word) → q < length ws → (get_or vs q d).epoch ≡ (get_or ws q d).epoch) → ((q : ℕ) (d : Word) → q < length ws → Contains written q → (get_or vs q d).value.bits ≡ weakened (may (least s + q)) value (get_or ws q d).value.bits) → (q : ℕ) → q < length ws → word_at (words_of s epoch vs) (least s + q) ≡ (if may (least s + q) then joined (word_at (words_of s epoch ws) (least s + q)) value else word_at (words_of s epoch ws) (least s + q))
weakened_word s epoch room ws vs written may value k size value_size same listed q l = ⊎_elim now before (cases_Bool (is_of epoch (get_or ws q no_word)))
  where
    m : q < length vs
    m = omega (arith, l, size)

    now : is_of epoch (get_or ws q no_word) ≡ true → word_at (words_of s epoch vs) (least s + q) ≡ (if may (least s + q) then joined (word_at (words_of s epoch ws) (least s + q)) value else word_at (words_of s epoch ws) (least s + q))
    now e =
        current_word s epoch vs q no_word m (ap (λ n. n == epoch) (same q no_word l) ∙ e) ∙ listed q no_word l (k.listed q no_word l e) ∙ ap (weakened (may (least s + q)) value) (sym (current_word s epoch ws q no_word l e))

    before : is_of epoch (get_or ws q no_word) ≡ false → word_at (words_of s epoch vs) (least s + q) ≡ (if may (least s + q) then joined (word_at (words_of s epoch ws) (least s + q)) value else word_at (words_of s epoch ws) (least s + q))
    before e =
        old_word s epoch vs q no_word m (ap (λ n. n == epoch) (same q no_word l) ∙ e)
        ∙ go (may (least s + q)) ∙ ap (weakened (may (least s + q)) value) (sym (old_word s epoch ws q no_word l e))
      where
        go : (t : Bool) → unknown s.width ≡ weakened t value (unknown s.width)
        go true = sym (unknown_joined s.width value value_size)
        go false = refl

-- ---- a word as it is read

unknown_blames : (w : ℕ) (signed : Bool) (thing : ℕ) → 1 ≤ w → record { bits = unknown w; signed = signed; blame = thing } ≡ with_blame (unknown w) signed thing
unknown_blames zero signed thing l = absurd (omega (arith, l))
unknown_blames (suc w) signed thing l = refl

module _ (s : Shape) (epoch room : ℕ) (ws : List Word) (written : List ℕ) (r : KnownWords) (k : AreKept s epoch ws written room) (is : words_of s epoch ws ≡ r) (place : ℕ) (w : Word) (inside : place < count r.shape) (at : w ≡ get_or ws place w) where
  pub in_words : place < length ws
  in_words = let e : length ws ≡ count s = k.size in let f : count s ≡ count r.shape = ap (λ x. count x.shape) is in omega (arith, inside, e, f)

  own_current : w.epoch ≡ epoch → w.value ≡ with_blame (word_at (words_of s epoch ws) (least s + place)) s.signed s.blame
  own_current same =
      let fits : Fits s w = subst (Fits s) (sym at) (k.fit place w in_words) in
      let now : is_of epoch (get_or ws place w) ≡ true = ap (is_of epoch) (sym at) ∙ ap (λ n. n == epoch) same ∙ eq-eqb epoch epoch refl in
      fits.whole ∙ ap (λ ps. with_blame ps s.signed s.blame) (sym (current_word s epoch ws place w in_words now ∙ ap (λ x. x.value.bits) (sym at)))

  -- a word of this epoch
  pub current_value : w.epoch ≡ epoch → w.value ≡ with_blame (word_at r (least r.shape + place)) r.shape.signed r.shape.blame
  current_value same = subst (λ x. w.value ≡ with_blame (word_at x (least x.shape + place)) x.shape.signed x.shape.blame) is (own_current same)

  own_old : (w.epoch ≡ epoch → ⊥) → record { bits = unknown s.width; signed = s.signed; blame = s.blame } ≡ with_blame (word_at (words_of s epoch ws) (least s + place)) s.signed s.blame
  own_old other =
      let old : is_of epoch (get_or ws place w) ≡ false = ap (is_of epoch) (sym at) ∙ ⊎_elim (λ e. absurd (other (eqb-true w.epoch epoch e))) (λ e. e) (cases_Bool (is_of epoch w)) in
      unknown_blames s.width s.signed s.blame k.at_least ∙ ap (λ ps. with_blame ps s.signed s.blame) (sym (old_word s epoch ws place w in_words old))

  -- an older one
  pub old_value : (w.epoch ≡ epoch → ⊥) → record { bits = unknown s.width; signed = s.signed; blame = s.blame } ≡ with_blame (word_at r (least r.shape + place)) r.shape.signed r.shape.blame
  old_value other = subst (λ x. record { bits = unknown s.width; signed = s.signed; blame = s.blame } ≡ with_blame (word_at x (least x.shape + place)) x.shape.signed x.shape.blame) is (own_old other)

-- ---- a word as it is written

module _ (s : Shape) (epoch room : ℕ) (ws : List Word) (written : List ℕ) (r : KnownWords) (k : AreKept s epoch ws written room) (is : words_of s epoch ws ≡ r) (place : ℕ) (w : Word) (inside : place < count r.shape) (at : w ≡ get_or ws place w) (v : Partly) (wide : length v.bits ≡ r.shape.width) (sign : v.signed ≡ r.shape.signed) where
  within : place < length ws
  within = in_words s epoch room ws written r k is place w inside at

  same_shape : s ≡ r.shape
  same_shape = ap (λ x. x.shape) is

  own : Fits s w
  own = subst (Fits s) (sym at) (k.fit place w within)

  now_of : w.epoch ≡ epoch → is_of epoch (get_or ws place w) ≡ true
  now_of same = ap (is_of epoch) (sym at) ∙ ap (λ n. n == epoch) same ∙ eq-eqb epoch epoch refl

  old_of : (w.epoch ≡ epoch → ⊥) → is_of epoch (get_or ws place w) ≡ false
  old_of other = ap (is_of epoch) (sym at) ∙ ⊎_elim (λ e. absurd (other (eqb-true w.epoch epoch e))) (λ e. e) (cases_Bool (is_of epoch w))

  pub value_width : length w.value.bits ≡ length v.bits
  value_width = own.width ∙ ap (λ x. x.width) same_shape ∙ sym wide

  pub value_sign : w.value.signed ≡ v.signed
  value_sign = ap (λ x. x.signed) own.whole ∙ ap (λ x. x.signed) same_shape ∙ sym sign

  -- a vector with the blame of the memory fits
  blamed_fits : (x : Word) (bits : KnownBits) → length bits ≡ s.width → x.value ≡ with_blame bits v.signed s.blame → Fits s x
  blamed_fits x bits size e =
      record {
        width = ap (λ y. length y.bits) e ∙ size;
        whole = e ∙ ap₂ (λ bs t. with_blame bs t s.blame) (sym (ap (λ y. y.bits) e)) (sign ∙ sym (ap (λ y. y.signed) same_shape));
      }

  wide_too : length v.bits ≡ s.width
  wide_too = wide ∙ sym (ap (λ x. x.width) same_shape)

  left_width : (certain : Bool) → length (bits_left certain v.bits w.value.bits) ≡ s.width
  left_width true = wide_too
  left_width false = length-joined w.value.bits v.bits s.width own.width wide_too

  -- one of this epoch is replaced
  pub replaced : (certain : Bool) (x : Word) → w.epoch ≡ epoch → x.epoch ≡ w.epoch → x.value ≡ with_blame (bits_left certain v.bits w.value.bits) v.signed s.blame → AreKept s epoch (set ws place x) written room
  replaced certain x same e value = kept_replaced s epoch room ws written place w x k within (now_of same) (e ∙ same) (blamed_fits x (bits_left certain v.bits w.value.bits) (left_width certain) value)

  pub replaced_word : (certain : Bool) (x : Word) → w.epoch ≡ epoch → x.epoch ≡ w.epoch → x.value ≡ with_blame (bits_left certain v.bits w.value.bits) v.signed s.blame → word_at (words_of s epoch (set ws place x)) (least r.shape + place) ≡ bits_left certain v.bits (word_at r (least r.shape + place))
  replaced_word certain x same e value =
      subst (λ y. word_at (words_of s epoch (set ws place x)) (least y.shape + place) ≡ bits_left certain v.bits (word_at y (least y.shape + place))) is
      (set_word s epoch ws place x within (e ∙ same) ∙ ap (λ y. y.bits) value ∙ ap (bits_left certain v.bits) (sym (current_word s epoch ws place w within (now_of same) ∙ ap (λ y. y.value.bits) (sym at))))

  -- an older one is surely written
  pub left_room : (w.epoch ≡ epoch → ⊥) → length written < room
  left_room other = room_left s epoch room ws written place w k within (old_of other)

  pub added : (x : Word) (more : ℕ) → (w.epoch ≡ epoch → ⊥) → x.epoch ≡ epoch → x.value ≡ with_blame (joined v.bits v.bits) v.signed s.blame → room ≤ more → AreKept s epoch (set ws place x) (written ++ place ∷ []) more
  added x more other e value grown = kept_added s epoch room more ws written place w x k within (old_of other) e (blamed_fits x (joined v.bits v.bits) (ap length (joined_self v.bits) ∙ wide_too) value) grown

  pub added_word : (x : Word) → x.epoch ≡ epoch → x.value ≡ with_blame (joined v.bits v.bits) v.signed s.blame → word_at (words_of s epoch (set ws place x)) (least r.shape + place) ≡ v.bits
  added_word x e value =
      subst (λ y. word_at (words_of s epoch (set ws place x)) (least y.shape + place) ≡ v.bits) is (set_word s epoch ws place x within e ∙ ap (λ y. y.bits) value ∙ joined_self v.bits)

  -- an older one is perhaps written
  pub unwritten_word : (w.epoch ≡ epoch → ⊥) → word_at r (least r.shape + place) ≡ bits_left false v.bits (word_at r (least r.shape + place))
  unwritten_word other =
      subst (λ y. word_at y (least y.shape + place) ≡ bits_left false v.bits (word_at y (least y.shape + place))) is (old_weakened s epoch ws place w v.bits within (old_of other) wide_too)

  pub other_words : (x : Word) (q : ℕ) → q < count r.shape → (q ≡ place → ⊥) → word_at (words_of s epoch (set ws place x)) (least r.shape + q) ≡ word_at r (least r.shape + q)
  other_words x q l ne =
      subst (λ y. word_at (words_of s epoch (set ws place x)) (least y.shape + q) ≡ word_at y (least y.shape + q)) is
      (set_others s epoch ws q place x (let e : length ws ≡ count s = k.size in let f : count s ≡ count r.shape = ap (λ y. count y.shape) is in omega (arith, l, e, f)) ne)

-- ---- a slice of all words

pub whole_slice : {X : Type 0} (n : ℕ) (xs ys : List X) → length xs ≡ length ys → n ≡ length ys → take n (xs ++ drop (length xs) ys) ≡ xs
whole_slice n xs ys e f =
    ap (λ zs. take n (xs ++ zs)) (drop_all (length xs) ys (omega (arith, e))) ∙ ap (take n) (append-nil xs) ∙ take_all n xs (omega (arith, e, f))

-- the words after the next epoch began
pub forgotten_kept : (s : Shape) (epoch next room more : ℕ) (ws vs : List Word) (written : List ℕ) → AreKept s epoch ws written room → length vs ≡ length ws → All (Fits s) vs → All (λ x. x.epoch < next) vs → more ≡ room → AreKept s next vs [] more
forgotten_kept s epoch next room more ws vs written k size fit old same = old_kept s next more vs k.at_least k.at_most (size ∙ k.size) fit old (omega (arith, k.room, size, same))

-- the words after a value was perhaps written into each that an index may name
pub weakened_words : (s : Shape) (epoch room : ℕ) (ws vs : List Word) (written : List ℕ) (r : KnownWords) (index : Partly) (value : KnownBits) → AreKept s epoch ws written room → words_of s epoch ws ≡ r → length vs ≡ length ws → length value ≡ r.shape.width → ((q : ℕ) (d : Word) → q < length ws → (get_or vs q d).epoch ≡ (get_or ws q d).epoch) → ((q : ℕ) (d : Word) → q < length ws → Contains written q → (get_or vs q d).value.bits ≡ weakened (may_be s index (least s + q)) value (get_or ws q d).value.bits) → (q : ℕ) → q < count r.shape → word_at (words_of s epoch vs) (least r.shape + q) ≡ (if may_be r.shape index (least r.shape + q) then joined (word_at r (least r.shape + q)) value else word_at r (least r.shape + q))
weakened_words s epoch room ws vs written r index value k is size wide same listed =
    subst (λ y. (q : ℕ) → q < count y.shape → word_at (words_of s epoch vs) (least y.shape + q) ≡ (if may_be y.shape index (least y.shape + q) then joined (word_at y (least y.shape + q)) value else word_at y (least y.shape + q))) is
    (λ q l. weakened_word s epoch room ws vs written (may_be s index) value k size (wide ∙ sym (ap (λ y. y.shape.width) is)) same listed q (let e : length ws ≡ count s = k.size in omega (arith, l, e)))

-- a word that is not listed is unknown
pub not_listed : (s : Shape) (epoch room : ℕ) (ws : List Word) (written : List ℕ) (r : KnownWords) → AreKept s epoch ws written room → words_of s epoch ws ≡ r → (q : ℕ) → q < count r.shape → (Contains written q → ⊥) → word_at r (least r.shape + q) ≡ unknown r.shape.width
not_listed s epoch room ws written r k is q l none =
    let size : length ws ≡ count s = k.size in
    let shape : count r.shape ≡ count s = ap (λ (x : KnownWords). count x.shape) (sym is) in
    let inside : q < length ws = omega (arith, l, size, shape) in
    let w : Word = get_or ws q no_word in
    let other : is_of epoch w ≡ false = go (is_of epoch w) refl inside in
    subst (λ (x : KnownWords). word_at x (least x.shape + q) ≡ unknown x.shape.width) is (word_in s epoch ws q no_word inside ∙ ap (λ t. if t then w.value.bits else unknown s.width) other)
  where
    go : (t : Bool) → is_of epoch (get_or ws q no_word) ≡ t → q < length ws → t ≡ false
    go false e m = refl
    go true e m = absurd (none (k.listed q no_word m e))
