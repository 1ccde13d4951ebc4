-- What a term gives depends on what is known and to blame of the things that it mentions.
use Rattle.std.proofs.Common.{◌≡◌, ℕ, ◌==◌, Bool, true, ◌||◌, List, [], ◌∷◌, ◌++◌, map, take, drop, refl, ap, ap₂, eq-eqb, ◌∙◌, Option, Some, None, if◌then◌else◌}
use Rattle.std.proofs.lemmas.Bool.{or_left, or_right}
use Rattle.std.specs.List.{range_with_len}
use Rattle.design_model.specs.event_machine.Cell.{Cell}
use Rattle.design_model.specs.four_state.declared.bit.Bit.{Bit}
use Rattle.design_model.specs.four_state.Arithmetic.{natural}
use Rattle.design_model.specs.four_state.Parts.{index}
use Rattle.design_model.specs.Tree.{Term, number, signal, word, bit, part, slide, unary, binary, choice, concat, repeat, sign, Terms, no_terms, a_term, Target, all_of, bits_of, word_of, several, Targets, no_targets, a_target}
use Rattle.design_model.specs.Design.{Design, cell, signal_at, memory_at, signal_cells}
use Rattle.design_model.specs.Value.{head, range_of, offset_option, slide_offset, named_word, part_width}
use Rattle.design_model.specs.Assignment.{target_width, targets_width}
use Rattle.design_model.specs.Mentions.{index_mentions, indexes_mention, mentions, mentions_any}
use Rattle.design_model.specs.point_words.declared.node_case.NodeCase.TheVariants.{ValueFalse, ValueTrue}
use Rattle.body_replay.specs.KnownBits.{KnownBits, all_sure, copies_partly, extend_partly, known_truth, on_whole, select_option, whole_bits, unary_partly, unknown}
use Rattle.body_replay.specs.Store.{Kept, binary_of, choice_partly, join_words, known_joined, known_value, known_writes, known_writes_all, kept_word, may_name, option_kept, read_word, set_bits, words, write_bits, write_word}
use Rattle.body_replay.specs.Replay.{Blames, Mark, Spot, ask, blame_of, blame_of_all, choice_blame, first_read, first_of, first_reads, index_first, indexes_first, index_marks, indexes_marks, node_marks, note, one_case, term_marks, terms_marks, two_known, word_blame, word_marks, word_read, word_write, written_marks, all_written_marks}

pub ap₃ : {A B C D : Type 0} (f : A → B → C → D) {a a' : A} {b b' : B} {c c' : C} → a ≡ a' → b ≡ b' → c ≡ c' → f a b c ≡ f a' b' c'
ap₃ f {a' = a'} {b = b} {c = c} p q r = ap (λ x. f x b c) p ∙ ap₂ (f a') q r

pub ap₄ : {A B C D E : Type 0} (f : A → B → C → D → E) {a a' : A} {b b' : B} {c c' : C} {d d' : D} → a ≡ a' → b ≡ b' → c ≡ c' → d ≡ d' → f a b c d ≡ f a' b' c' d'
ap₄ f {a' = a'} {b = b} {c = c} {d = d} p q r s = ap (λ x. f x b c d) p ∙ ap₃ (f a') q r s

pub ap₅ : {A B C D E F : Type 0} (f : A → B → C → D → E → F) {a a' : A} {b b' : B} {c c' : C} {d d' : D} {e e' : E} → a ≡ a' → b ≡ b' → c ≡ c' → d ≡ d' → e ≡ e' → f a b c d e ≡ f a' b' c' d' e'
ap₅ f {a' = a'} {b = b} {c = c} {d = d} {e = e} p q r s t = ap (λ x. f x b c d e) p ∙ ap₄ (f a') q r s t

-- the same is known of thing x, and it has the same blame
pub record SameThing (b b' : Kept) (e e' : Blames) (x : ℕ) : Type 0 where
  pub kept : (c : Cell) → c.thing ≡ x → b c ≡ b' c
  pub blame : e.blame x ≡ e'.blame x
  pub wrote : e.wrote x ≡ e'.wrote x

module _ (d : Design) (b b' : Kept) (e e' : Blames) where
  -- the same is known of each thing that passes the test
  abbrev pub Same : (ℕ → Bool) → Type 0
  Same f = (x : ℕ) → f x ≡ true → SameThing b b' e e' x

  left_of : (f g : ℕ → Bool) → Same (λ x. f x || g x) → Same f
  left_of f g s x h = s x (or_left (f x) (g x) h)

  right_of : (f g : ℕ → Bool) → Same (λ x. f x || g x) → Same g
  right_of f g s x h = s x (or_right (f x) (g x) h)

  itself : (m : ℕ) → Same (λ x. m == x) → SameThing b b' e e' m
  itself m s = s m (eq-eqb m m refl)

  row_same : (m : ℕ) (f : ℕ → ℕ) (ns : List ℕ) → SameThing b b' e e' m → map b (map (λ k. cell m (f k)) ns) ≡ map b' (map (λ k. cell m (f k)) ns)
  row_same m f [] s = refl
  row_same m f (n ∷ ns) s = ap₂ (λ x xs. x ∷ xs) (s.kept (cell m (f n)) refl) (row_same m f ns s)

  pub signal_same : (s : ℕ) → SameThing b b' e e' s → map b (signal_cells d s) ≡ map b' (signal_cells d s)
  signal_same s h = row_same s (λ k. k) (range_with_len 0 (signal_at d s).width) h

  word_same : (m i : ℕ) → SameThing b b' e e' m → kept_word d b m i ≡ kept_word d b' m i
  word_same m i h = row_same m _ (range_with_len 0 (memory_at d m).width) h

  option_same : (m : ℕ) (o : Option ℕ) → SameThing b b' e e' m → option_kept d b m o ≡ option_kept d b' m o
  option_same m None h = refl
  option_same m (Some i) h = word_same m i h

  join_same : (m : ℕ) (may : ℕ → Bool) (is : List ℕ) → SameThing b b' e e' m → join_words d b m may is ≡ join_words d b' m may is
  join_same m may [] h = refl
  join_same m may (i ∷ is) h = ap₂ (λ x y. if may i then Rattle.known_state.specs.Join.joined x y else y) (word_same m i h) (join_same m may is h)

  pub read_same : (m : ℕ) (signed : Bool) (ps : KnownBits) → SameThing b b' e e' m → read_word d b m signed ps ≡ read_word d b' m signed ps
  read_same m signed ps h = go (whole_bits ps)
    where
      go : (o : Option (List Bit)) → on_whole o (λ is. option_kept d b m (named_word (memory_at d m) (index signed is))) (join_words d b m (may_name (memory_at d m) signed ps) (words (memory_at d m))) ≡ on_whole o (λ is. option_kept d b' m (named_word (memory_at d m) (index signed is))) (join_words d b' m (may_name (memory_at d m) signed ps) (words (memory_at d m)))
      go None = join_same m (may_name (memory_at d m) signed ps) (words (memory_at d m)) h
      go (Some is) = option_same m (named_word (memory_at d m) (index signed is)) h

  -- the value of a term
  mutual
    pub value_same : (t : Term) → Same (λ x. mentions x t) → known_value d b t ≡ known_value d b' t
    value_same (number h n) s = refl
    value_same (signal h x) s = ap (extend_partly h.width h.signed) (signal_same x (itself x s))
    value_same (word h m i) s =
        let at = itself m (left_of (λ x. m == x) (λ x. mentions x i) s) in
        let of = value_same i (right_of (λ x. m == x) (λ x. mentions x i) s) in
        ap (extend_partly h.width h.signed) (ap (read_word d b m (head i).signed) of ∙ read_same m (head i).signed (known_value d b' i) at)
    value_same (bit h t i) s =
        ap₂ (λ x y. on_whole (whole_bits y) (λ is. extend_partly h.width h.signed (select_option x (offset_option (range_of d t) (index (head i).signed is)) 1)) (unknown h.width)) (value_same t (left_of (λ x. mentions x t) (λ x. mentions x i) s)) (value_same i (right_of (λ x. mentions x t) (λ x. mentions x i) s))
    value_same (part h t i j) s =
        let rest = right_of (λ x. mentions x t) (λ x. mentions x i || mentions x j) s in
        ap₃ (λ x y z. on_whole (whole_bits y) (λ is. on_whole (whole_bits z) (λ js. extend_partly h.width h.signed (select_option x (offset_option (range_of d t) (index (head j).signed js)) (part_width is js))) (unknown h.width)) (unknown h.width)) (value_same t (left_of (λ x. mentions x t) (λ x. mentions x i || mentions x j) s)) (value_same i (left_of (λ x. mentions x i) (λ x. mentions x j) rest)) (value_same j (right_of (λ x. mentions x i) (λ x. mentions x j) rest))
    value_same (slide h t i w up) s =
        let rest = right_of (λ x. mentions x t) (λ x. mentions x i || mentions x w) s in
        ap₃ (λ x y z. on_whole (whole_bits y) (λ xs. on_whole (whole_bits z) (λ ws. extend_partly h.width h.signed (select_option x (slide_offset (range_of d t) up (natural ws) (index (head i).signed xs)) (natural ws))) (unknown h.width)) (unknown h.width)) (value_same t (left_of (λ x. mentions x t) (λ x. mentions x i || mentions x w) s)) (value_same i (left_of (λ x. mentions x i) (λ x. mentions x w) rest)) (value_same w (right_of (λ x. mentions x i) (λ x. mentions x w) rest))
    value_same (unary h op t) s = ap (λ x. extend_partly h.width h.signed (unary_partly op x)) (value_same t s)
    value_same (binary h op t u) s = ap₂ (binary_of h op (head t).signed) (value_same t (left_of (λ x. mentions x t) (λ x. mentions x u) s)) (value_same u (right_of (λ x. mentions x t) (λ x. mentions x u) s))
    value_same (choice h c t u) s =
        let rest = right_of (λ x. mentions x c) (λ x. mentions x t || mentions x u) s in
        ap₃ (choice_partly h) (value_same c (left_of (λ x. mentions x c) (λ x. mentions x t || mentions x u) s)) (value_same t (left_of (λ x. mentions x t) (λ x. mentions x u) rest)) (value_same u (right_of (λ x. mentions x t) (λ x. mentions x u) rest))
    value_same (concat h ts) s = ap (extend_partly h.width h.signed) (joined_same ts s)
    value_same (repeat h n ts) s =
        ap₂ (λ x y. on_whole (whole_bits x) (λ ns. extend_partly h.width h.signed (copies_partly (natural ns) y)) (unknown h.width)) (value_same n (left_of (λ x. mentions x n) (λ x. mentions_any x ts) s)) (joined_same ts (right_of (λ x. mentions x n) (λ x. mentions_any x ts) s))
    value_same (sign h g t) s = ap (extend_partly h.width h.signed) (value_same t s)

    joined_same : (ts : Terms) → Same (λ x. mentions_any x ts) → known_joined d b ts ≡ known_joined d b' ts
    joined_same no_terms s = refl
    joined_same (a_term t ts) s = ap₂ (λ x y. x ++ y) (joined_same ts (right_of (λ x. mentions x t) (λ x. mentions_any x ts) s)) (value_same t (left_of (λ x. mentions x t) (λ x. mentions_any x ts) s))

  abbrev FirstSame : Term → Option ℕ → Type 0
  FirstSame t f = first_read d b e f t ≡ first_read d b' e' f t

  abbrev BlameSame : Term → Option ℕ → Type 0
  BlameSame t f = blame_of d b e f t ≡ blame_of d b' e' f t

  abbrev MarksSame : Term → Option ℕ → Type 0
  MarksSame t f = term_marks d b e f t ≡ term_marks d b' e' f t

  two_firsts : (i j : Term) (f : Option ℕ) → FirstSame i f → FirstSame j (first_read d b' e' f i) → first_read d b e (first_read d b e f i) j ≡ first_read d b' e' (first_read d b' e' f i) j
  two_firsts i j f p q = ap (λ g. first_read d b e g j) p ∙ q

  two_blames : (i j : Term) (f : Option ℕ) → FirstSame i f → BlameSame j (first_read d b' e' f i) → blame_of d b e (first_read d b e f i) j ≡ blame_of d b' e' (first_read d b' e' f i) j
  two_blames i j f p q = ap (λ g. blame_of d b e g j) p ∙ q

  two_marks : (i j : Term) (f : Option ℕ) → FirstSame i f → MarksSame j (first_read d b' e' f i) → term_marks d b e (first_read d b e f i) j ≡ term_marks d b' e' (first_read d b' e' f i) j
  two_marks i j f p q = ap (λ g. term_marks d b e g j) p ∙ q

  three_firsts : (t i j : Term) (f : Option ℕ) → FirstSame i f → FirstSame j (first_read d b' e' f i) → FirstSame t (first_read d b' e' (first_read d b' e' f i) j) → first_read d b e (first_read d b e (first_read d b e f i) j) t ≡ first_read d b' e' (first_read d b' e' (first_read d b' e' f i) j) t
  three_firsts t i j f p q r = ap (λ g. first_read d b e g t) (two_firsts i j f p q) ∙ r

  three_blames : (t i j : Term) (f : Option ℕ) → FirstSame i f → FirstSame j (first_read d b' e' f i) → BlameSame t (first_read d b' e' (first_read d b' e' f i) j) → blame_of d b e (first_read d b e (first_read d b e f i) j) t ≡ blame_of d b' e' (first_read d b' e' (first_read d b' e' f i) j) t
  three_blames t i j f p q r = ap (λ g. blame_of d b e g t) (two_firsts i j f p q) ∙ r

  three_marks : (t i j : Term) (f : Option ℕ) → FirstSame i f → FirstSame j (first_read d b' e' f i) → MarksSame t (first_read d b' e' (first_read d b' e' f i) j) → term_marks d b e (first_read d b e (first_read d b e f i) j) t ≡ term_marks d b' e' (first_read d b' e' (first_read d b' e' f i) j) t
  three_marks t i j f p q r = ap (λ g. term_marks d b e g t) (two_firsts i j f p q) ∙ r

  word_blame_same : (m : ℕ) (i : Term) (f : Option ℕ) → SameThing b b' e e' m → known_value d b i ≡ known_value d b' i → BlameSame i f → FirstSame i f → word_blame e m (all_sure (known_value d b i)) (blame_of d b e f i) (first_read d b e f i) ≡ word_blame e' m (all_sure (known_value d b' i)) (blame_of d b' e' f i) (first_read d b' e' f i)
  word_blame_same m i f at p q r =
      ap₅ (λ wrote own sure of_index first. if wrote then first_of first own else (if sure then own else of_index)) at.wrote at.blame (ap all_sure p) q r

  -- the first read that is not wholly sure, and the blame
  mutual
    pub first_same : (t : Term) → Same (λ x. mentions x t) → (f : Option ℕ) → first_read d b e f t ≡ first_read d b' e' f t
    first_same (number h n) s f = refl
    first_same (signal h x) s f = ap₂ (λ u v. note (all_sure u) v f) (signal_same x (itself x s)) (itself x s).blame
    first_same (word h m i) s f =
        let at = itself m (left_of (λ x. m == x) (λ x. mentions x i) s) in
        let of = right_of (λ x. m == x) (λ x. mentions x i) s in
        ap₃ (λ u v w. note (all_sure u) v w) (ap (read_word d b m (head i).signed) (value_same i of) ∙ read_same m (head i).signed (known_value d b' i) at) (word_blame_same m i f at (value_same i of) (blame_same i of f) (first_same i of f)) (first_same i of f)
    first_same (bit h t i) s f =
        let of = first_same i (right_of (λ x. mentions x t) (λ x. mentions x i) s) f in
        ap (λ g. first_read d b e g t) of ∙ first_same t (left_of (λ x. mentions x t) (λ x. mentions x i) s) (first_read d b' e' f i)
    first_same (part h t i j) s f =
        let of = left_of (λ x. mentions x t) (λ x. mentions x i || mentions x j) s in
        let rest = right_of (λ x. mentions x t) (λ x. mentions x i || mentions x j) s in
        let one = left_of (λ x. mentions x i) (λ x. mentions x j) rest in
        let two = right_of (λ x. mentions x i) (λ x. mentions x j) rest in
        three_firsts t i j f (first_same i one f) (first_same j two (first_read d b' e' f i)) (first_same t of (first_read d b' e' (first_read d b' e' f i) j))
    first_same (slide h t i w up) s f =
        let of = left_of (λ x. mentions x t) (λ x. mentions x i || mentions x w) s in
        let rest = right_of (λ x. mentions x t) (λ x. mentions x i || mentions x w) s in
        let one = left_of (λ x. mentions x i) (λ x. mentions x w) rest in
        let two = right_of (λ x. mentions x i) (λ x. mentions x w) rest in
        three_firsts t i w f (first_same i one f) (first_same w two (first_read d b' e' f i)) (first_same t of (first_read d b' e' (first_read d b' e' f i) w))
    first_same (unary h op t) s f = first_same t s f
    first_same (binary h op t u) s f =
        ap (λ g. first_read d b e g u) (first_same t (left_of (λ x. mentions x t) (λ x. mentions x u) s) f) ∙ first_same u (right_of (λ x. mentions x t) (λ x. mentions x u) s) (first_read d b' e' f t)
    first_same (choice h c t u) s f =
        let rest = right_of (λ x. mentions x c) (λ x. mentions x t || mentions x u) s in
        ap (λ g. first_read d b e g u) (ap (λ g. first_read d b e g t) (first_same c (left_of (λ x. mentions x c) (λ x. mentions x t || mentions x u) s) f) ∙ first_same t (left_of (λ x. mentions x t) (λ x. mentions x u) rest) (first_read d b' e' f c)) ∙ first_same u (right_of (λ x. mentions x t) (λ x. mentions x u) rest) (first_read d b' e' (first_read d b' e' f c) t)
    first_same (concat h ts) s f = firsts_same ts s f
    first_same (repeat h n ts) s f =
        ap (λ g. first_reads d b e g ts) (first_same n (left_of (λ x. mentions x n) (λ x. mentions_any x ts) s) f) ∙ firsts_same ts (right_of (λ x. mentions x n) (λ x. mentions_any x ts) s) (first_read d b' e' f n)
    first_same (sign h g t) s f = first_same t s f

    pub firsts_same : (ts : Terms) → Same (λ x. mentions_any x ts) → (f : Option ℕ) → first_reads d b e f ts ≡ first_reads d b' e' f ts
    firsts_same no_terms s f = refl
    firsts_same (a_term t ts) s f =
        ap (λ g. first_reads d b e g ts) (first_same t (left_of (λ x. mentions x t) (λ x. mentions_any x ts) s) f) ∙ firsts_same ts (right_of (λ x. mentions x t) (λ x. mentions_any x ts) s) (first_read d b' e' f t)

    pub blame_same : (t : Term) → Same (λ x. mentions x t) → (f : Option ℕ) → blame_of d b e f t ≡ blame_of d b' e' f t
    blame_same (number h n) s f = refl
    blame_same (signal h x) s f = (itself x s).blame
    blame_same (word h m i) s f =
        let of = right_of (λ x. m == x) (λ x. mentions x i) s in
        word_blame_same m i f (itself m (left_of (λ x. m == x) (λ x. mentions x i) s)) (value_same i of) (blame_same i of f) (first_same i of f)
    blame_same (bit h t i) s f =
        let of = right_of (λ x. mentions x t) (λ x. mentions x i) s in
        ap₃ (λ sure x y. if sure then x else y) (ap all_sure (value_same i of)) (ap (λ g. blame_of d b e g t) (first_same i of f) ∙ blame_same t (left_of (λ x. mentions x t) (λ x. mentions x i) s) (first_read d b' e' f i)) (blame_same i of f)
    blame_same (part h t i j) s f =
        let of = left_of (λ x. mentions x t) (λ x. mentions x i || mentions x j) s in
        let rest = right_of (λ x. mentions x t) (λ x. mentions x i || mentions x j) s in
        let one = left_of (λ x. mentions x i) (λ x. mentions x j) rest in
        let two = right_of (λ x. mentions x i) (λ x. mentions x j) rest in
        ap₅ (λ p q x y z. if p then (if q then x else y) else z) (ap all_sure (value_same i one)) (ap all_sure (value_same j two))
        (three_blames t i j f (first_same i one f) (first_same j two (first_read d b' e' f i)) (blame_same t of (first_read d b' e' (first_read d b' e' f i) j))) (two_blames i j f (first_same i one f) (blame_same j two (first_read d b' e' f i))) (blame_same i one f)
    blame_same (slide h t i w up) s f =
        let of = left_of (λ x. mentions x t) (λ x. mentions x i || mentions x w) s in
        let rest = right_of (λ x. mentions x t) (λ x. mentions x i || mentions x w) s in
        let one = left_of (λ x. mentions x i) (λ x. mentions x w) rest in
        let two = right_of (λ x. mentions x i) (λ x. mentions x w) rest in
        ap₅ (λ p q x y z. if p then (if q then x else y) else z) (ap all_sure (value_same i one)) (ap all_sure (value_same w two))
        (three_blames t i w f (first_same i one f) (first_same w two (first_read d b' e' f i)) (blame_same t of (first_read d b' e' (first_read d b' e' f i) w))) (two_blames i w f (first_same i one f) (blame_same w two (first_read d b' e' f i))) (blame_same i one f)
    blame_same (unary h op t) s f = blame_same t s f
    blame_same (binary h op t u) s f =
        let of = left_of (λ x. mentions x t) (λ x. mentions x u) s in
        ap₃ (λ sure x y. if sure then x else y) (ap all_sure (value_same t of)) (ap (λ g. blame_of d b e g u) (first_same t of f) ∙ blame_same u (right_of (λ x. mentions x t) (λ x. mentions x u) s) (first_read d b' e' f t)) (blame_same t of f)
    blame_same (choice h c t u) s f =
        let of = left_of (λ x. mentions x c) (λ x. mentions x t || mentions x u) s in
        let rest = right_of (λ x. mentions x c) (λ x. mentions x t || mentions x u) s in
        let yes = left_of (λ x. mentions x t) (λ x. mentions x u) rest in
        let no = right_of (λ x. mentions x t) (λ x. mentions x u) rest in
        ap₅ choice_blame (ap known_truth (value_same c of)) (blame_same c of f) (ap all_sure (value_same t yes))
        (ap (λ g. blame_of d b e g t) (first_same c of f) ∙ blame_same t yes (first_read d b' e' f c))
        (ap (λ g. blame_of d b e g u) (ap (λ g. first_read d b e g t) (first_same c of f) ∙ first_same t yes (first_read d b' e' f c)) ∙ blame_same u no (first_read d b' e' (first_read d b' e' f c) t))
    blame_same (concat h ts) s f = blames_same ts s f
    blame_same (repeat h n ts) s f =
        let of = left_of (λ x. mentions x n) (λ x. mentions_any x ts) s in
        ap₃ (λ sure x y. if sure then x else y) (ap all_sure (value_same n of)) (ap (λ g. blame_of_all d b e g ts) (first_same n of f) ∙ blames_same ts (right_of (λ x. mentions x n) (λ x. mentions_any x ts) s) (first_read d b' e' f n)) (blame_same n of f)
    blame_same (sign h g t) s f = blame_same t s f

    pub blames_same : (ts : Terms) → Same (λ x. mentions_any x ts) → (f : Option ℕ) → blame_of_all d b e f ts ≡ blame_of_all d b' e' f ts
    blames_same no_terms s f = refl
    blames_same (a_term t ts) s f =
        let of = left_of (λ x. mentions x t) (λ x. mentions_any x ts) s in
        ap₃ (λ sure x y. if sure then x else y) (ap all_sure (value_same t of)) (ap (λ g. blame_of_all d b e g ts) (first_same t of f) ∙ blames_same ts (right_of (λ x. mentions x t) (λ x. mentions_any x ts) s) (first_read d b' e' f t)) (blame_same t of f)

  -- the marks of a term
  abbrev own_marks : Option ℕ → KnownBits → ℕ → List Mark
  own_marks n v w = node_marks n (one_case ValueFalse (ask v Rattle.design_model.specs.four_state.declared.truth.Truth.TheVariants.False) w ∷ one_case ValueTrue (ask v Rattle.design_model.specs.four_state.declared.truth.Truth.TheVariants.True) w ∷ [])

  pub word_marks_same : (at : ℕ → Spot) (m : ℕ) (i : Term) → Same (λ x. mentions x i) → (f : Option ℕ) → word_marks d at m (head i).signed (known_value d b i) (blame_of d b e f i) ≡ word_marks d at m (head i).signed (known_value d b' i) (blame_of d b' e' f i)
  word_marks_same at m i s f = ap₂ (word_marks d at m (head i).signed) (value_same i s) (blame_same i s f)

  mutual
    pub marks_same : (t : Term) → Same (λ x. mentions x t) → (f : Option ℕ) → term_marks d b e f t ≡ term_marks d b' e' f t
    marks_same (number h n) s f = refl
    marks_same (signal h x) s f = ap₂ (own_marks h.node) (value_same (signal h x) s) (blame_same (signal h x) s f)
    marks_same (word h m i) s f =
        let of = right_of (λ x. m == x) (λ x. mentions x i) s in
        ap₃ (λ x y z. x ++ y ++ z) (marks_same i of f) (word_marks_same (word_read m) m i of f) (ap₂ (own_marks h.node) (value_same (word h m i) s) (blame_same (word h m i) s f))
    marks_same (bit h t i) s f =
        let of = right_of (λ x. mentions x t) (λ x. mentions x i) s in
        ap₃ (λ x y z. x ++ y ++ z) (marks_same i of f) (ap (λ g. term_marks d b e g t) (first_same i of f) ∙ marks_same t (left_of (λ x. mentions x t) (λ x. mentions x i) s) (first_read d b' e' f i)) (ap₂ (own_marks h.node) (value_same (bit h t i) s) (blame_same (bit h t i) s f))
    marks_same (part h t i j) s f =
        let of = left_of (λ x. mentions x t) (λ x. mentions x i || mentions x j) s in
        let rest = right_of (λ x. mentions x t) (λ x. mentions x i || mentions x j) s in
        let one = left_of (λ x. mentions x i) (λ x. mentions x j) rest in
        let two = right_of (λ x. mentions x i) (λ x. mentions x j) rest in
        ap₄ (λ x y z w. x ++ y ++ z ++ w) (marks_same i one f) (two_marks i j f (first_same i one f) (marks_same j two (first_read d b' e' f i)))
        (three_marks t i j f (first_same i one f) (first_same j two (first_read d b' e' f i)) (marks_same t of (first_read d b' e' (first_read d b' e' f i) j))) (ap₂ (own_marks h.node) (value_same (part h t i j) s) (blame_same (part h t i j) s f))
    marks_same (slide h t i w up) s f =
        let of = left_of (λ x. mentions x t) (λ x. mentions x i || mentions x w) s in
        let rest = right_of (λ x. mentions x t) (λ x. mentions x i || mentions x w) s in
        let one = left_of (λ x. mentions x i) (λ x. mentions x w) rest in
        let two = right_of (λ x. mentions x i) (λ x. mentions x w) rest in
        ap₄ (λ x y z w. x ++ y ++ z ++ w) (marks_same i one f) (two_marks i w f (first_same i one f) (marks_same w two (first_read d b' e' f i)))
        (three_marks t i w f (first_same i one f) (first_same w two (first_read d b' e' f i)) (marks_same t of (first_read d b' e' (first_read d b' e' f i) w))) (ap₂ (own_marks h.node) (value_same (slide h t i w up) s) (blame_same (slide h t i w up) s f))
    marks_same (unary h op t) s f = ap₂ (λ x y. x ++ y) (marks_same t s f) (ap₂ (own_marks h.node) (value_same (unary h op t) s) (blame_same (unary h op t) s f))
    marks_same (binary h op t u) s f =
        let one = left_of (λ x. mentions x t) (λ x. mentions x u) s in
        let two = right_of (λ x. mentions x t) (λ x. mentions x u) s in
        ap₃ (λ x y z. x ++ y ++ z) (marks_same t one f) (ap (λ g. term_marks d b e g u) (first_same t one f) ∙ marks_same u two (first_read d b' e' f t))
        (ap₄ (λ p q l r. node_marks h.node (two_known op p q l r)) (value_same t one) (value_same u two) (blame_same t one f) (ap (λ g. blame_of d b e g u) (first_same t one f) ∙ blame_same u two (first_read d b' e' f t)))
    marks_same (choice h c t u) s f =
        let of = left_of (λ x. mentions x c) (λ x. mentions x t || mentions x u) s in
        let rest = right_of (λ x. mentions x c) (λ x. mentions x t || mentions x u) s in
        let yes = left_of (λ x. mentions x t) (λ x. mentions x u) rest in
        let no = right_of (λ x. mentions x t) (λ x. mentions x u) rest in
        ap₄ (λ x y z w. x ++ y ++ z ++ w) (marks_same c of f) (ap (λ g. term_marks d b e g t) (first_same c of f) ∙ marks_same t yes (first_read d b' e' f c))
        (ap (λ g. term_marks d b e g u) (ap (λ g. first_read d b e g t) (first_same c of f) ∙ first_same t yes (first_read d b' e' f c)) ∙ marks_same u no (first_read d b' e' (first_read d b' e' f c) t))
        (ap₂ (own_marks h.node) (value_same (choice h c t u) s) (blame_same (choice h c t u) s f))
    marks_same (concat h ts) s f = ap₂ (λ x y. x ++ y) (all_marks_same ts s f) (ap₂ (own_marks h.node) (value_same (concat h ts) s) (blame_same (concat h ts) s f))
    marks_same (repeat h n ts) s f =
        let of = left_of (λ x. mentions x n) (λ x. mentions_any x ts) s in
        ap₃ (λ x y z. x ++ y ++ z) (marks_same n of f) (ap (λ g. terms_marks d b e g ts) (first_same n of f) ∙ all_marks_same ts (right_of (λ x. mentions x n) (λ x. mentions_any x ts) s) (first_read d b' e' f n)) (ap₂ (own_marks h.node) (value_same (repeat h n ts) s) (blame_same (repeat h n ts) s f))
    marks_same (sign h g t) s f = ap₂ (λ x y. x ++ y) (marks_same t s f) (ap₂ (own_marks h.node) (value_same (sign h g t) s) (blame_same (sign h g t) s f))

    pub all_marks_same : (ts : Terms) → Same (λ x. mentions_any x ts) → (f : Option ℕ) → terms_marks d b e f ts ≡ terms_marks d b' e' f ts
    all_marks_same no_terms s f = refl
    all_marks_same (a_term t ts) s f =
        let of = left_of (λ x. mentions x t) (λ x. mentions_any x ts) s in
        ap₂ (λ x y. x ++ y) (marks_same t of f) (ap (λ g. terms_marks d b e g ts) (first_same t of f) ∙ all_marks_same ts (right_of (λ x. mentions x t) (λ x. mentions_any x ts) s) (first_read d b' e' f t))

  -- targets
  mutual
    pub index_first_same : (y : Target) → Same (λ x. index_mentions x y) → (f : Option ℕ) → index_first d b e f y ≡ index_first d b' e' f y
    index_first_same (all_of k) s f = refl
    index_first_same (bits_of k low w) s f = first_same low s f
    index_first_same (word_of m i) s f = first_same i s f
    index_first_same (several ts) s f = indexes_first_same ts s f

    indexes_first_same : (ts : Targets) → Same (λ x. indexes_mention x ts) → (f : Option ℕ) → indexes_first d b e f ts ≡ indexes_first d b' e' f ts
    indexes_first_same no_targets s f = refl
    indexes_first_same (a_target t ts) s f =
        ap (λ g. indexes_first d b e g ts) (index_first_same t (left_of (λ x. index_mentions x t) (λ x. indexes_mention x ts) s) f) ∙ indexes_first_same ts (right_of (λ x. index_mentions x t) (λ x. indexes_mention x ts) s) (index_first d b' e' f t)

  mutual
    pub index_marks_same : (y : Target) → Same (λ x. index_mentions x y) → (f : Option ℕ) → index_marks d b e f y ≡ index_marks d b' e' f y
    index_marks_same (all_of k) s f = refl
    index_marks_same (bits_of k low w) s f = marks_same low s f
    index_marks_same (word_of m i) s f = marks_same i s f
    index_marks_same (several ts) s f = indexes_marks_same ts s f

    indexes_marks_same : (ts : Targets) → Same (λ x. indexes_mention x ts) → (f : Option ℕ) → indexes_marks d b e f ts ≡ indexes_marks d b' e' f ts
    indexes_marks_same no_targets s f = refl
    indexes_marks_same (a_target t ts) s f =
        let of = left_of (λ x. index_mentions x t) (λ x. indexes_mention x ts) s in
        ap₂ (λ x y. x ++ y) (index_marks_same t of f) (ap (λ g. indexes_marks d b e g ts) (index_first_same t of f) ∙ indexes_marks_same ts (right_of (λ x. index_mentions x t) (λ x. indexes_mention x ts) s) (index_first d b' e' f t))

  mutual
    pub written_same : (y : Target) → Same (λ x. index_mentions x y) → (f : Option ℕ) → written_marks d b e f y ≡ written_marks d b' e' f y
    written_same (all_of k) s f = refl
    written_same (bits_of k low w) s f = refl
    written_same (word_of m i) s f = word_marks_same (word_write m) m i s f
    written_same (several ts) s f = all_written_same ts s f

    all_written_same : (ts : Targets) → Same (λ x. indexes_mention x ts) → (f : Option ℕ) → all_written_marks d b e f ts ≡ all_written_marks d b' e' f ts
    all_written_same no_targets s f = refl
    all_written_same (a_target t ts) s f =
        let of = left_of (λ x. index_mentions x t) (λ x. indexes_mention x ts) s in
        ap₂ (λ x y. x ++ y) (written_same t of f) (ap (λ g. all_written_marks d b e g ts) (index_first_same t of f) ∙ all_written_same ts (right_of (λ x. index_mentions x t) (λ x. indexes_mention x ts) s) (index_first d b' e' f t))

  mutual
    pub writes_same : (y : Target) (ps : KnownBits) → Same (λ x. index_mentions x y) → known_writes d b y ps ≡ known_writes d b' y ps
    writes_same (all_of k) ps s = refl
    writes_same (bits_of k low w) ps s = ap (λ z. write_bits d k (head low).signed z ps) (value_same low s)
    writes_same (word_of m i) ps s = ap (λ z. write_word d m (head i).signed z ps) (value_same i s)
    writes_same (several ts) ps s = all_writes_same ts ps s

    all_writes_same : (ts : Targets) (ps : KnownBits) → Same (λ x. indexes_mention x ts) → known_writes_all d b ts ps ≡ known_writes_all d b' ts ps
    all_writes_same no_targets ps s = refl
    all_writes_same (a_target t ts) ps s =
        ap₂ (λ x y. x ++ y) (writes_same t (drop (targets_width d ts) ps) (left_of (λ x. index_mentions x t) (λ x. indexes_mention x ts) s)) (all_writes_same ts (take (targets_width d ts) ps) (right_of (λ x. index_mentions x t) (λ x. indexes_mention x ts) s))

  pub set_same : (y : Target) (t : Term) → Same (λ x. index_mentions x y || mentions x t) → known_writes d b y (set_bits d b y t) ≡ known_writes d b' y (set_bits d b' y t)
  set_same y t s =
      ap (known_writes d b y) (ap (extend_partly (target_width d y) (head t).signed) (value_same t (right_of (λ x. index_mentions x y) (λ x. mentions x t) s))) ∙ writes_same y (set_bits d b' y t) (left_of (λ x. index_mentions x y) (λ x. mentions x t) s)
