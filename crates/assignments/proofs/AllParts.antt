-- The parts of a target, and what an assignment to them does, against the definition.
use Rattle.std.proofs.Common.{Bool, List, None, Option, Some, [], ap, ap₂, append-nil, append_assoc, arith, drop, false, if◌then◌else◌, leb-true, length, ltb-true, map, max, min, nat_lt, refl, subst, suc, sym, take, true, zero, ℕ, ◌&&◌, ◌||◌, ◌+◌, ◌-◌, ◌<◌, ◌≤◌, ◌==◌, ◌++◌, ◌∙◌, ◌∷◌, ◌≡◌}
use Rattle.std.proofs.lemmas.Bool.{and_parts}
use Rattle.std.proofs.lemmas.List.{drop-drop, drop-take, length-drop, length-take, take-take, take_all}
use Rattle.std.specs.Prelude.{nat_le}
use Rattle.known_state.specs.Partly.{Partly}
use Rattle.design_model.specs.Design.{Design, is_memory, memory_at, signal_at}
use Rattle.design_model.specs.Lawful.{span}
use Rattle.design_model.specs.Shape.{are_targets, is_alone, is_target}
use Rattle.design_model.specs.Tree.{Target, Targets, Term, a_target, all_of, bits_of, no_targets, several, word_of}
use Rattle.design_model.specs.Assignment.{target_width, targets_width}
use Rattle.design_model.specs.Value.{head}
use Rattle.value_store.specs.body_replay.KnownBits.{KnownBits, all_sure}
use Rattle.value_store.specs.body_replay.Store.{Kept, keep_all, known_value, known_writes, known_writes_all, weaken, write_bits, write_word}
use Rattle.value_store.specs.body_replay.Replay.{Mark, all_written_marks, blame_of, index_first, part_blame, some_writes_memory, target_blames, targets_blames, word_marks, word_write, writes_memory, written_marks}
use Rattle.value_store.proofs.body_replay.Answered.{same_sure}
use Rattle.value_store.proofs.body_replay.Writes.{keep_append}
use Rattle.scene_laws.specs.term_replay.Stands.{Scene, Stands}
use Rattle.scene_laws.specs.body_calls.Lvalues.{Like, Takes, is_word_of, lvalue_writes}
use Rattle.scene_laws.specs.body_calls.declared.lvalue.Lvalue.{Lvalue}
use Rattle.scene_laws.specs.body_calls.declared.lvalue.Lvalue.TheVariants.{Part, Signal, Word}
use Rattle.scene_laws.proofs.LikeTerms.{words_like}
use Rattle.assignments.specs.Pieces.{AllTake, AreAllPieces, ArePieces, all_assigned, assigned, assigned_blames, lvalue_marks, pieces_marks, pieces_take, pieces_writes, widths}
use Rattle.assignments.specs.Takes.{all_take, target_takes}
use Rattle.assignments.specs.Widths.{HasWidths, IsWidth}
use Rattle.assignments.specs.declared.piece.Piece.{Piece}

pub widths_append : (ys zs : List Piece) → widths (ys ++ zs) ≡ widths ys + widths zs
widths_append [] zs = omega arith
widths_append (y ∷ ys) zs = let rest = widths_append ys zs in omega (arith, rest)

mutual
  pub pieces_width : (v : Scene) (f : Option ℕ) (x : Target) (xs : List Piece) → ArePieces v f x xs → widths xs ≡ target_width v.design x
  pieces_width v f (all_of s) xs e = ap widths e ∙ omega arith
  pieces_width v f (bits_of s low w) xs e = ap widths e.2 ∙ omega arith
  pieces_width v f (word_of m i) xs e = ap widths e.2 ∙ omega arith
  pieces_width v f (several ts) xs e = all_pieces_width v f ts xs e

  pub all_pieces_width : (v : Scene) (f : Option ℕ) (ts : Targets) (xs : List Piece) → AreAllPieces v f ts xs → widths xs ≡ targets_width v.design ts
  all_pieces_width v f no_targets xs e = ap widths e
  all_pieces_width v f (a_target t ts) xs e =
      ap widths e.2 ∙ widths_append e.0 e.1 ∙ ap₂ (λ a b. a + b) (pieces_width v f t e.0 e.3) (all_pieces_width v (index_first v.design v.kept v.blames f t) ts e.1 e.4)

-- ---- the writes

module _ (d : Design) where
  pub writes_append : (ys zs : List Piece) (ps : KnownBits) → length ps ≡ widths ys + widths zs → pieces_writes d (ys ++ zs) ps ≡ pieces_writes d ys (drop (widths zs) ps) ++ pieces_writes d zs (take (widths zs) ps)
  writes_append [] zs ps size = ap (pieces_writes d zs) (sym (take_all (widths zs) ps (omega (arith, size))))
  writes_append (y ∷ ys) zs ps size =
      let all : widths (ys ++ zs) ≡ widths ys + widths zs = widths_append ys zs in
      let rest : KnownBits = take (widths ys + widths zs) ps in
      let rest_size : length rest ≡ widths ys + widths zs = length-take (widths ys + widths zs) ps ∙ omega (arith, size) in
      let first : drop (widths (ys ++ zs)) ps ≡ drop (widths ys) (drop (widths zs) ps) = ap (λ n. drop n ps) (all ∙ omega arith) ∙ sym (drop-drop (widths ys) (widths zs) ps) in
      let inner : drop (widths zs) rest ≡ take (widths ys) (drop (widths zs) ps) = ap (λ n. drop (widths zs) (take n ps)) (omega arith) ∙ drop-take (widths zs) (widths ys) ps in
      let last : take (widths zs) rest ≡ take (widths zs) ps = take-take (widths zs) (widths ys + widths zs) ps (omega arith) in
      ap₂ (λ a b. lvalue_writes d y.to a ++ b) first (ap (λ n. pieces_writes d (ys ++ zs) (take n ps)) all ∙ writes_append ys zs rest rest_size ∙ ap₂ (λ a b. pieces_writes d ys a ++ pieces_writes d zs b) inner last)
      ∙ sym (append_assoc (lvalue_writes d y.to (drop (widths ys) (drop (widths zs) ps))) (pieces_writes d ys (take (widths ys) (drop (widths zs) ps))) (pieces_writes d zs (take (widths zs) ps)))

  one_write : (x : Lvalue) (w : ℕ) (ps : KnownBits) → lvalue_writes d x ps ≡ pieces_writes d (record { to = x; width = w } ∷ []) ps
  one_write x w ps = sym (append-nil (lvalue_writes d x ps))

mutual
  pub writes_are : (v : Scene) (f : Option ℕ) (x : Target) (xs : List Piece) (ps : KnownBits) → length ps ≡ target_width v.design x → ArePieces v f x xs → known_writes v.design v.kept x ps ≡ pieces_writes v.design xs ps
  writes_are v f (all_of s) xs ps size e = one_write v.design (Signal s) (signal_at v.design s).width ps ∙ ap (λ z. pieces_writes v.design z ps) (sym e)
  writes_are v f (bits_of s low w) xs ps size e =
      ap₂ (λ g is. write_bits v.design s g is ps) (sym e.1.sign_is) (sym e.1.bits) ∙ one_write v.design (Part s e.0) w ps ∙ ap (λ z. pieces_writes v.design z ps) (sym e.2)
  writes_are v f (word_of m i) xs ps size e =
      ap₂ (λ g is. write_word v.design m g is ps) (sym e.1.sign_is) (sym e.1.bits) ∙ one_write v.design (Word m e.0) (memory_at v.design m).width ps ∙ ap (λ z. pieces_writes v.design z ps) (sym e.2)
  writes_are v f (several ts) xs ps size e = all_writes_are v f ts xs ps size e

  all_writes_are : (v : Scene) (f : Option ℕ) (ts : Targets) (xs : List Piece) (ps : KnownBits) → length ps ≡ targets_width v.design ts → AreAllPieces v f ts xs → known_writes_all v.design v.kept ts ps ≡ pieces_writes v.design xs ps
  all_writes_are v f no_targets xs ps size e = ap (λ z. pieces_writes v.design z ps) (sym e)
  all_writes_are v f (a_target t ts) xs ps size e =
      let here : widths e.0 ≡ target_width v.design t = pieces_width v f t e.0 e.3 in
      let later : widths e.1 ≡ targets_width v.design ts = all_pieces_width v (index_first v.design v.kept v.blames f t) ts e.1 e.4 in
      let high : length (drop (targets_width v.design ts) ps) ≡ target_width v.design t = length-drop (targets_width v.design ts) ps ∙ omega (arith, size) in
      let low : length (take (targets_width v.design ts) ps) ≡ targets_width v.design ts = length-take (targets_width v.design ts) ps ∙ omega (arith, size) in
      ap₂ (λ a b. a ++ b) (writes_are v f t e.0 (drop (targets_width v.design ts) ps) high e.3) (all_writes_are v (index_first v.design v.kept v.blames f t) ts e.1 (take (targets_width v.design ts) ps) low e.4)
      ∙ ap (λ n. pieces_writes v.design e.0 (drop n ps) ++ pieces_writes v.design e.1 (take n ps)) (sym later)
      ∙ sym (writes_append v.design e.0 e.1 ps (size ∙ ap₂ (λ a b. a + b) (sym here) (sym later)))
      ∙ ap (λ z. pieces_writes v.design z ps) (sym e.2)

-- ---- the marks of the words that are written

pub marks_append : (d : Design) (ys zs : List Piece) → pieces_marks d (ys ++ zs) ≡ pieces_marks d ys ++ pieces_marks d zs
marks_append d [] zs = refl
marks_append d (y ∷ ys) zs = ap (λ ms. lvalue_marks d y.to ++ ms) (marks_append d ys zs) ∙ sym (append_assoc (lvalue_marks d y.to) (pieces_marks d ys) (pieces_marks d zs))

-- the blame of an index that is not wholly sure
index_blame : (v : Scene) (f : Option ℕ) (i : Term) (q : Partly) → Stands v f i q → all_sure q.bits ≡ false → q.blame ≡ blame_of v.design v.kept v.blames f i
index_blame v f i q s u = s.blame (sym (same_sure q.bits) ∙ u)

mutual
  pub marks_are : (v : Scene) (f : Option ℕ) (x : Target) (xs : List Piece) → ArePieces v f x xs → written_marks v.design v.kept v.blames f x ≡ pieces_marks v.design xs
  marks_are v f (all_of s) xs e = ap (pieces_marks v.design) (sym e)
  marks_are v f (bits_of s low w) xs e = ap (pieces_marks v.design) (sym e.2)
  marks_are v f (word_of m i) xs e =
      ap₂ (λ g is. word_marks v.design (word_write m) m g is (blame_of v.design v.kept v.blames f i)) (sym e.1.sign_is) (sym e.1.bits)
      ∙ sym (words_like v.design (word_write m) m e.0.signed e.0.bits (blame_of v.design v.kept v.blames f i) e.0.blame (index_blame v f i e.0 e.1))
      ∙ sym (append-nil (word_marks v.design (word_write m) m e.0.signed e.0.bits e.0.blame))
      ∙ ap (pieces_marks v.design) (sym e.2)
  marks_are v f (several ts) xs e = all_marks_are v f ts xs e

  all_marks_are : (v : Scene) (f : Option ℕ) (ts : Targets) (xs : List Piece) → AreAllPieces v f ts xs → all_written_marks v.design v.kept v.blames f ts ≡ pieces_marks v.design xs
  all_marks_are v f no_targets xs e = ap (pieces_marks v.design) (sym e)
  all_marks_are v f (a_target t ts) xs e =
      ap₂ (λ a b. a ++ b) (marks_are v f t e.0 e.3) (all_marks_are v (index_first v.design v.kept v.blames f t) ts e.1 e.4)
      ∙ sym (marks_append v.design e.0 e.1) ∙ ap (pieces_marks v.design) (sym e.2)

-- ---- what bodies read after a blocking assignment

-- the blames after writes of all parts
abbrev blames_after : List Piece → Bool → ℕ → (ℕ → ℕ) → ℕ → ℕ
blames_after [] value_sure thing old y = old y
blames_after (x ∷ xs) value_sure thing old y = blames_after xs value_sure thing (assigned_blames x.to value_sure thing old) y

-- some part is a word of the memory
abbrev has_word_of : List Piece → ℕ → Bool
has_word_of [] y = false
has_word_of (x ∷ xs) y = is_word_of x.to y || has_word_of xs y

or_assoc : (a b c : Bool) → ((a || b) || c) ≡ (a || (b || c))
or_assoc true b c = refl
or_assoc false b c = refl

or_false : (a : Bool) → (a || false) ≡ a
or_false true = refl
or_false false = refl

module _ (value_sure : Bool) (thing : ℕ) where
  one_at : (x : Lvalue) (old old' : ℕ → ℕ) (y : ℕ) → old y ≡ old' y → assigned_blames x value_sure thing old y ≡ assigned_blames x value_sure thing old' y
  one_at (Signal s) old old' y e = ap (λ z. if s == y then thing else z) e
  one_at (Part s low) old old' y e = ap (λ z. if s == y then part_blame (all_sure low.bits) value_sure low.blame thing z else z) e
  one_at (Word m i) old old' y e = e

  blames_at : (xs : List Piece) (old old' : ℕ → ℕ) (y : ℕ) → old y ≡ old' y → blames_after xs value_sure thing old y ≡ blames_after xs value_sure thing old' y
  blames_at [] old old' y e = e
  blames_at (x ∷ xs) old old' y e = blames_at xs (assigned_blames x.to value_sure thing old) (assigned_blames x.to value_sure thing old') y (one_at x.to old old' y e)

  blames_append : (xs ys : List Piece) (old : ℕ → ℕ) (y : ℕ) → blames_after (xs ++ ys) value_sure thing old y ≡ blames_after ys value_sure thing (blames_after xs value_sure thing old) y
  blames_append [] ys old y = blames_at ys old (blames_after [] value_sure thing old) y refl
  blames_append (x ∷ xs) ys old y = blames_append xs ys (assigned_blames x.to value_sure thing old) y ∙ blames_at ys (blames_after xs value_sure thing (assigned_blames x.to value_sure thing old)) (blames_after (x ∷ xs) value_sure thing old) y refl

  part_same : (index_sure : Bool) (l l' old : ℕ) → (index_sure ≡ false → l' ≡ l) → part_blame index_sure value_sure l thing old ≡ part_blame index_sure value_sure l' thing old
  part_same true l l' old g = refl
  part_same false l l' old g = sym (g refl)

  mutual
    blames_are : (v : Scene) (f : Option ℕ) (x : Target) (xs : List Piece) → ArePieces v f x xs → (old : ℕ → ℕ) (y : ℕ) → target_blames v.design v.kept v.blames f x value_sure thing old y ≡ blames_after xs value_sure thing old y
    blames_are v f (all_of s) xs e old y = ap (λ z. blames_after z value_sure thing old y) (sym e)
    blames_are v f (bits_of s low w) xs e old y =
        ap (λ t. if s == y then part_blame t value_sure (blame_of v.design v.kept v.blames f low) thing (old y) else old y) (sym (ap all_sure e.1.bits))
        ∙ ap (λ z. if s == y then z else old y) (part_same (all_sure e.0.bits) (blame_of v.design v.kept v.blames f low) e.0.blame (old y) (index_blame v f low e.0 e.1))
        ∙ ap (λ z. blames_after z value_sure thing old y) (sym e.2)
    blames_are v f (word_of m i) xs e old y = ap (λ z. blames_after z value_sure thing old y) (sym e.2)
    blames_are v f (several ts) xs e old y = all_blames_are v f ts xs e old y

    all_blames_are : (v : Scene) (f : Option ℕ) (ts : Targets) (xs : List Piece) → AreAllPieces v f ts xs → (old : ℕ → ℕ) (y : ℕ) → targets_blames v.design v.kept v.blames f ts value_sure thing old y ≡ blames_after xs value_sure thing old y
    all_blames_are v f no_targets xs e old y = ap (λ z. blames_after z value_sure thing old y) (sym e)
    all_blames_are v f (a_target t ts) xs e old y =
        all_blames_are v (index_first v.design v.kept v.blames f t) ts e.1 e.4 (target_blames v.design v.kept v.blames f t value_sure thing old) y
        ∙ blames_at e.1 (target_blames v.design v.kept v.blames f t value_sure thing old) (blames_after e.0 value_sure thing old) y (blames_are v f t e.0 e.3 old y)
        ∙ sym (blames_append e.0 e.1 old y)
        ∙ ap (λ z. blames_after z value_sure thing old y) (sym e.2)

  words_append : (xs ys : List Piece) (y : ℕ) → has_word_of (xs ++ ys) y ≡ (has_word_of xs y || has_word_of ys y)
  words_append [] ys y = refl
  words_append (x ∷ xs) ys y = ap (λ t. is_word_of x.to y || t) (words_append xs ys y) ∙ sym (or_assoc (is_word_of x.to y) (has_word_of xs y) (has_word_of ys y))

  mutual
    words_are : (v : Scene) (f : Option ℕ) (x : Target) (xs : List Piece) → ArePieces v f x xs → (y : ℕ) → writes_memory x y ≡ has_word_of xs y
    words_are v f (all_of s) xs e y = ap (λ z. has_word_of z y) (sym e)
    words_are v f (bits_of s low w) xs e y = ap (λ z. has_word_of z y) (sym e.2)
    words_are v f (word_of m i) xs e y = sym (or_false (m == y)) ∙ ap (λ z. has_word_of z y) (sym e.2)
    words_are v f (several ts) xs e y = all_words_are v f ts xs e y

    all_words_are : (v : Scene) (f : Option ℕ) (ts : Targets) (xs : List Piece) → AreAllPieces v f ts xs → (y : ℕ) → some_writes_memory ts y ≡ has_word_of xs y
    all_words_are v f no_targets xs e y = ap (λ z. has_word_of z y) (sym e)
    all_words_are v f (a_target t ts) xs e y =
        ap₂ (λ a b. a || b) (words_are v f t e.0 e.3 y) (all_words_are v (index_first v.design v.kept v.blames f t) ts e.1 e.4 y)
        ∙ sym (words_append e.0 e.1 y) ∙ ap (λ z. has_word_of z y) (sym e.2)

  -- what the writes of all parts leave
  record Left (xs : List Piece) (ps : KnownBits) (v : Scene) : Type 0 where
    design : (all_assigned xs ps value_sure thing v).design ≡ v.design
    kept : (all_assigned xs ps value_sure thing v).kept ≡ keep_all v.kept (pieces_writes v.design xs ps)
    wrote : (y : ℕ) → (all_assigned xs ps value_sure thing v).blames.wrote y ≡ (v.blames.wrote y || has_word_of xs y)
    blame : (y : ℕ) → (all_assigned xs ps value_sure thing v).blames.blame y ≡ blames_after xs value_sure thing v.blames.blame y

  left : (xs : List Piece) (ps : KnownBits) (v : Scene) → Left xs ps v
  left [] ps v = record { design = refl; kept = refl; wrote = λ y. sym (or_false (v.blames.wrote y)); blame = λ y. refl }
  left (x ∷ xs) ps v =
      let rest = left xs (take (widths xs) ps) (assigned x.to (drop (widths xs) ps) value_sure thing v) in
      record {
        design = rest.design;
        kept = rest.kept ∙ sym (keep_append v.kept (lvalue_writes v.design x.to (drop (widths xs) ps)) (pieces_writes v.design xs (take (widths xs) ps)));
        wrote = λ y. rest.wrote y ∙ or_assoc (v.blames.wrote y) (is_word_of x.to y) (has_word_of xs y);
        blame = λ y. rest.blame y;
      }

  -- the definition leaves the same
  pub assigned_alike : (v : Scene) (f : Option ℕ) (x : Target) (xs : List Piece) (ps : KnownBits) → length ps ≡ target_width v.design x → ArePieces v f x xs → Like (record { design = v.design; kept = keep_all v.kept (known_writes v.design v.kept x ps); blames = record { blame = target_blames v.design v.kept v.blames f x value_sure thing v.blames.blame; wrote = λ m. v.blames.wrote m || writes_memory x m } }) (all_assigned xs ps value_sure thing v)
  assigned_alike v f x xs ps size e =
      let l = left xs ps v in
      record {
        design = l.design;
        kept = l.kept ∙ ap (keep_all v.kept) (sym (writes_are v f x xs ps size e));
        wrote = λ y. l.wrote y ∙ ap (λ t. v.blames.wrote y || t) (sym (words_are v f x xs e y));
        blame = λ y u. l.blame y ∙ sym (blames_are v f x xs e v.blames.blame y);
      }

-- ---- the parts are parts of the design

take_append : (d : Design) (ys zs : List Piece) → AllTake d ys → AllTake d zs → AllTake d (ys ++ zs)
take_append d [] zs h k = k
take_append d (y ∷ ys) zs h k = (h.0, h.1, take_append d ys zs h.2 k)

some_bits : (w high low : ℕ) → IsWidth w high low → 1 ≤ w
some_bits w high low h = let e : w ≡ span high low = h.spans in omega (arith, e)

mutual
  pub pieces_take_them : (v : Scene) (f : Option ℕ) (x : Target) (xs : List Piece) → HasWidths v.design → is_target v.design x ≡ true → ArePieces v f x xs → AllTake v.design xs
  pieces_take_them v f (all_of s) xs k h e =
      let is : s < length v.design.signals = ltb-true s (length v.design.signals) h in
      subst (AllTake v.design) (sym e) (some_bits _ _ _ (k.signals s is), (is, refl), tt)
  pieces_take_them v f (bits_of s low w) xs k h e =
      let p = and_parts (nat_lt s (length v.design.signals) && is_alone v.design low) (nat_le 1 w) h in
      subst (AllTake v.design) (sym e.2) (leb-true 1 w p.1, (ltb-true s (length v.design.signals) (and_parts (nat_lt s (length v.design.signals)) (is_alone v.design low) p.0).0, leb-true 1 w p.1), tt)
  pieces_take_them v f (word_of m i) xs k h e =
      let is : is_memory v.design m ≡ true = (and_parts (is_memory v.design m) (is_alone v.design i) h).0 in
      subst (AllTake v.design) (sym e.2) (some_bits _ _ _ (k.memories m is), (is, refl), tt)
  pieces_take_them v f (several ts) xs k h e = all_pieces_take_them v f ts xs k h e

  all_pieces_take_them : (v : Scene) (f : Option ℕ) (ts : Targets) (xs : List Piece) → HasWidths v.design → are_targets v.design ts ≡ true → AreAllPieces v f ts xs → AllTake v.design xs
  all_pieces_take_them v f no_targets xs k h e = subst (AllTake v.design) (sym e) tt
  all_pieces_take_them v f (a_target t ts) xs k h e =
      let p = and_parts (is_target v.design t) (are_targets v.design ts) h in
      subst (AllTake v.design) (sym e.2) (take_append v.design e.0 e.1 (pieces_take_them v f t e.0 k p.0 e.3) (all_pieces_take_them v (index_first v.design v.kept v.blames f t) ts e.1 k p.1 e.4))

-- ---- how much room they take

takes_append : (takes : ℕ → ℕ) (ys zs : List Piece) → pieces_take takes (ys ++ zs) ≡ pieces_take takes ys + pieces_take takes zs
takes_append takes [] zs = omega arith
takes_append takes (y ∷ ys) zs = let rest = takes_append takes ys zs in omega (arith, rest)

mutual
  pub takes_are : (takes : ℕ → ℕ) (v : Scene) (f : Option ℕ) (x : Target) (xs : List Piece) → ArePieces v f x xs → pieces_take takes xs ≡ target_takes takes x
  takes_are takes v f (all_of s) xs e = ap (pieces_take takes) e ∙ omega arith
  takes_are takes v f (bits_of s low w) xs e = ap (pieces_take takes) e.2 ∙ omega arith
  takes_are takes v f (word_of m i) xs e = ap (pieces_take takes) e.2 ∙ omega arith
  takes_are takes v f (several ts) xs e = all_takes_are takes v f ts xs e

  all_takes_are : (takes : ℕ → ℕ) (v : Scene) (f : Option ℕ) (ts : Targets) (xs : List Piece) → AreAllPieces v f ts xs → pieces_take takes xs ≡ all_take takes ts
  all_takes_are takes v f no_targets xs e = ap (pieces_take takes) e
  all_takes_are takes v f (a_target t ts) xs e =
      ap (pieces_take takes) e.2 ∙ takes_append takes e.0 e.1 ∙ ap₂ (λ a b. a + b) (takes_are takes v f t e.0 e.3) (all_takes_are takes v (index_first v.design v.kept v.blames f t) ts e.1 e.4)

pub each_one : (xs : List Piece) → pieces_take (λ y. 1) xs ≡ length xs
each_one [] = refl
each_one (x ∷ xs) = let rest = each_one xs in omega (arith, rest)

pub widths_drop : (xs : List Piece) (i : ℕ) → widths (drop i xs) ≤ widths xs
widths_drop xs zero = omega arith
widths_drop [] (suc i) = omega arith
widths_drop (x ∷ xs) (suc i) = let rest = widths_drop xs i in omega (arith, rest)

-- there are no more parts than bits
few_pieces : (d : Design) (xs : List Piece) → AllTake d xs → length xs ≤ widths xs
few_pieces d [] h = omega arith
few_pieces d (x ∷ xs) h = let one = h.0 in let rest = few_pieces d xs h.2 in omega (arith, one, rest)

pub pieces_length : (v : Scene) (f : Option ℕ) (x : Target) (xs : List Piece) → HasWidths v.design → is_target v.design x ≡ true → ArePieces v f x xs → length xs ≤ target_width v.design x
pieces_length v f x xs k h e = subst (λ n. length xs ≤ n) (pieces_width v f x xs e) (few_pieces v.design xs (pieces_take_them v f x xs k h e))
