-- Terms are the same in two scenes that differ only in the blames of signals of which all bits are sure.
use Rattle.std.proofs.Common.{Bool, List, None, Option, Some, [], ap, ap₂, false, if◌then◌else◌, inl, inr, le-ltb, length, map, nat_lt, refl, subst, sym, true, zero, ℕ, ⊎_elim, ◌&&◌, ◌*◌, ◌+◌, ◌-◌, ◌++◌, ◌∙◌, ◌∷◌, ◌≡◌, ◌⊎◌}
use Rattle.std.proofs.lemmas.Bool.{true≢false}
use Rattle.std.specs.Prelude.{nat_le, slice_index_or}
use Rattle.std.specs.List.{range_with_len}
use borrow.Author.Tests.{leb-true}
use Rattle.body_calls.specs.four_state.declared.operator.Binary.{Binary}
use Rattle.body_calls.specs.four_state.declared.operator.Binary.TheVariants.{BitwiseAnd, BitwiseOr, LogicalAnd, LogicalOr}
use Rattle.body_calls.specs.four_state.declared.bit.Bit.{Bit}
use Rattle.body_calls.specs.four_state.declared.bit.Bit.TheVariants.{X}
use Rattle.body_calls.specs.four_state.declared.truth.Truth.{Truth}
use Rattle.body_calls.specs.four_state.declared.truth.Truth.TheVariants.{False, Strange, True}
use Rattle.body_calls.specs.four_state.Vector.{fill}
use Rattle.body_calls.specs.four_state.Parts.{index}
use Rattle.body_calls.specs.four_state.Arithmetic.{natural}
use Rattle.body_calls.specs.known_state.Join.{joined}
use Rattle.body_calls.specs.point_words.declared.node_case.NodeCase.{NodeCase}
use Rattle.body_calls.specs.point_words.declared.node_case.NodeCase.TheVariants.{BothFalse, BothTrue, FalseTrue, LeftFalse, LeftTrue, RightFalse, RightTrue, TrueFalse, ValueFalse, ValueTrue}
use Rattle.body_calls.specs.design_model.declared.design.Memory.{Memory}
use Rattle.body_calls.specs.design_model.Design.{Design, cell, memory_at, no_memory, signal_cells, word_cells}
use Rattle.body_calls.specs.design_model.Tree.{Head, Term, Terms, a_term, binary, bit, choice, concat, no_terms, number, part, repeat, sign, signal, slide, unary, word}
use Rattle.body_calls.specs.design_model.Value.{head, named_word, offset_option, part_width, range_of, slide_offset}
use Rattle.body_calls.specs.body_replay.KnownBits.{KnownBits, all_sure, both, copies_partly, extend_partly, known_truth, on_whole, select_option, sure, whole_bits, unknown}
use Rattle.body_calls.specs.body_replay.Store.{Kept, choice_of, choice_partly, join_words, known_joined, known_value, may_name, option_kept, read_word, words}
use Rattle.body_calls.specs.body_replay.Replay.{Blames, Mark, Spot, ask, blame_of, blame_of_all, case_mark, case_marks, choice_blame, doubted, first_of, first_read, first_reads, four_known, named_mark, node_marks, note, one_case, perhaps_marks, term_marks, terms_marks, two_known, undecided, word_blame, word_marks, word_read}
use Rattle.body_calls.proofs.body_replay.BlamedTerms.{cases_sure}
use Rattle.body_calls.proofs.body_replay.Unsure.{all_sure_sure, append_unsure, ask_none, binary_unsure, choice_unsure, copies_unsure, extend_unsure, false_unsure, known_truth_none, not_unsure, select_unsure, whole_none, whole_unsure, true_unsure, unary_unsure}

pub ap₃ : {A B C D : Type 0} (f : A → B → C → D) {a a' : A} {b b' : B} {c c' : C} → a ≡ a' → b ≡ b' → c ≡ c' → f a b c ≡ f a' b' c'
ap₃ f {a' = a'} {b = b} {c = c} p q r = ap (λ x. f x b c) p ∙ ap₂ (f a') q r

pub ap₄ : {A B C D E : Type 0} (f : A → B → C → D → E) {a a' : A} {b b' : B} {c c' : C} {d d' : D} → a ≡ a' → b ≡ b' → c ≡ c' → d ≡ d' → f a b c d ≡ f a' b' c' d'
ap₄ f {a' = a'} {b = b} {c = c} {d = d} p q r s = ap (λ x. f x b c d) p ∙ ap₃ (f a') q r s

-- ---- a memory that the design does not have reads nothing that is not sure

module _ (d : Design) (k : Kept) (m : ℕ) (none : (memory_at d m).width ≡ zero) where
  no_word : (i : ℕ) → map k (word_cells d m i) ≡ []
  no_word i = ap (λ n. map k (map (λ j. cell m (i * n + j)) (range_with_len 0 n))) none

  sure_option : (o : Option ℕ) → all_sure (option_kept d k m o) ≡ true
  sure_option None = all_sure_sure (fill (memory_at d m).width X)
  sure_option (Some i) = ap all_sure (no_word i)

  sure_words : (may : ℕ → Bool) (is : List ℕ) → all_sure (join_words d k m may is) ≡ true
  sure_words may [] = all_sure_sure (fill (memory_at d m).width X)
  sure_words may (i ∷ is) = go (may i) (sure_words may is)
    where
      go : (t : Bool) → all_sure (join_words d k m may is) ≡ true → all_sure (if t then joined (map k (word_cells d m i)) (join_words d k m may is) else join_words d k m may is) ≡ true
      go true h = ap (λ ps. all_sure (joined ps (join_words d k m may is))) (no_word i)
      go false h = h

  sure_read : (signed : Bool) (ps : KnownBits) → all_sure (read_word d k m signed ps) ≡ true
  sure_read signed ps = go (whole_bits ps)
    where
      go : (o : Option (List Bit)) → all_sure (on_whole o (λ is. option_kept d k m (named_word (memory_at d m) (index signed is))) (join_words d k m (may_name (memory_at d m) signed ps) (words (memory_at d m)))) ≡ true
      go None = sure_words (may_name (memory_at d m) signed ps) (words (memory_at d m))
      go (Some is) = sure_option (named_word (memory_at d m) (index signed is))

and_none : (b : Bool) → (b && false) ≡ false
and_none true = refl
and_none false = refl

-- ---- marks by one blame and by another that is the same where the value is not wholly sure

case_like : (n : ℕ) (c : NodeCase) (o : Option Bool) (l l' : ℕ) → (o ≡ None → l' ≡ l) → case_mark n c o l' ≡ case_mark n c o l
case_like n c (Some true) l l' g = refl
case_like n c (Some false) l l' g = refl
case_like n c None l l' g = ap (λ z. case_mark n c None z) (g refl)

own_like : (o : Option ℕ) (ps : KnownBits) (l l' : ℕ) → (all_sure ps ≡ false → l' ≡ l) → node_marks o (one_case ValueFalse (ask ps False) l' ∷ one_case ValueTrue (ask ps True) l' ∷ []) ≡ node_marks o (one_case ValueFalse (ask ps False) l ∷ one_case ValueTrue (ask ps True) l ∷ [])
own_like None ps l l' g = refl
own_like (Some n) ps l l' g =
    ap₂ (λ x y. x ++ (y ++ [])) (case_like n ValueFalse (ask ps False) l l' (λ e. g (ask_none ps False e))) (case_like n ValueTrue (ask ps True) l l' (λ e. g (ask_none ps True e)))

both_none : (o p : Option Bool) → both o p ≡ None → (o ≡ None) ⊎ ((undecided o ≡ false) × (p ≡ None))
both_none None p e = inl refl
both_none (Some true) p e = inr (refl, e)
both_none (Some false) p e = let bad : ⊥ = cc in absurd bad

module _ (ps qs : KnownBits) (l l' r r' : ℕ) (gl : all_sure ps ≡ false → l' ≡ l) (gr : all_sure qs ≡ false → r' ≡ r) where
  pair_like : (n : ℕ) (c : NodeCase) (x y : Truth) → case_mark n c (both (ask ps x) (ask qs y)) (if undecided (ask ps x) then l' else r') ≡ case_mark n c (both (ask ps x) (ask qs y)) (if undecided (ask ps x) then l else r)
  pair_like n c x y =
      case_like n c (both (ask ps x) (ask qs y)) (if undecided (ask ps x) then l else r) (if undecided (ask ps x) then l' else r') (λ e. ⊎_elim first second (both_none (ask ps x) (ask qs y) e))
    where
      first : ask ps x ≡ None → (if undecided (ask ps x) then l' else r') ≡ (if undecided (ask ps x) then l else r)
      first e = subst (λ o. (if undecided o then l' else r') ≡ (if undecided o then l else r)) (sym e) (gl (ask_none ps x e))

      second : (undecided (ask ps x) ≡ false) × (ask qs y ≡ None) → (if undecided (ask ps x) then l' else r') ≡ (if undecided (ask ps x) then l else r)
      second e = subst (λ t. (if t then l' else r') ≡ (if t then l else r)) (sym e.0) (gr (ask_none qs y e.1))

  left_like : (n : ℕ) (c : NodeCase) (x : Truth) → case_mark n c (ask ps x) l' ≡ case_mark n c (ask ps x) l
  left_like n c x = case_like n c (ask ps x) l l' (λ e. gl (ask_none ps x e))

  right_like : (n : ℕ) (c : NodeCase) (x : Truth) → case_mark n c (ask qs x) r' ≡ case_mark n c (ask qs x) r
  right_like n c x = case_like n c (ask qs x) r r' (λ e. gr (ask_none qs x e))

  two_like : (o : Option ℕ) (op : Binary) → node_marks o (two_known op ps qs l' r') ≡ node_marks o (two_known op ps qs l r)
  two_like None op = refl
  two_like (Some n) op = go op
    where
      ands : case_marks n (two_known BitwiseAnd ps qs l' r') ≡ case_marks n (two_known BitwiseAnd ps qs l r)
      ands = ap₃ (λ x y z. x ++ (y ++ (z ++ []))) (pair_like n BothTrue True True) (left_like n LeftFalse False) (right_like n RightFalse False)

      ors : case_marks n (two_known BitwiseOr ps qs l' r') ≡ case_marks n (two_known BitwiseOr ps qs l r)
      ors = ap₃ (λ x y z. x ++ (y ++ (z ++ []))) (pair_like n BothFalse False False) (left_like n LeftTrue True) (right_like n RightTrue True)

      four : case_marks n (four_known ps qs l' r') ≡ case_marks n (four_known ps qs l r)
      four = ap₄ (λ x y z w. x ++ (y ++ (z ++ (w ++ [])))) (pair_like n BothFalse False False) (pair_like n FalseTrue False True) (pair_like n TrueFalse True False) (pair_like n BothTrue True True)

      go : (op : Binary) → case_marks n (two_known op ps qs l' r') ≡ case_marks n (two_known op ps qs l r)
      go BitwiseAnd = ands
      go LogicalAnd = ands
      go BitwiseOr = ors
      go LogicalOr = ors
      go _ = four

pub words_like : (d : Design) (at : ℕ → Spot) (m : ℕ) (signed : Bool) (ps : KnownBits) (l l' : ℕ) → (all_sure ps ≡ false → l' ≡ l) → word_marks d at m signed ps l' ≡ word_marks d at m signed ps l
words_like d at m signed ps l l' g = go (whole_bits ps) refl
  where
    go : (o : Option (List Bit)) → whole_bits ps ≡ o → on_whole o (λ is. named_mark at (named_word (memory_at d m) (index signed is))) (perhaps_marks at (may_name (memory_at d m) signed ps) (words (memory_at d m)) l') ≡ on_whole o (λ is. named_mark at (named_word (memory_at d m) (index signed is))) (perhaps_marks at (may_name (memory_at d m) signed ps) (words (memory_at d m)) l)
    go None e = ap (λ z. perhaps_marks at (may_name (memory_at d m) signed ps) (words (memory_at d m)) z) (g (whole_none ps e))
    go (Some is) e = refl

if_like : (t : Bool) (x x' y y' : ℕ) → (t ≡ true → x' ≡ x) → (t ≡ false → y' ≡ y) → (if t then x' else y') ≡ (if t then x else y)
if_like true x x' y y' f g = f refl
if_like false x x' y y' f g = g refl

note_like : (t : Bool) (l l' : ℕ) (f f' : Option ℕ) → f' ≡ f → (t ≡ false → l' ≡ l) → note t l' f' ≡ note t l f
note_like true l l' f f' e g = e
note_like false l l' f f' e g = ap₂ (note false) (g refl) e

choice_like : (h : Head) (c ps qs : KnownBits) (bc bt bu bc' bt' bu' : ℕ) → (all_sure c ≡ false → bc' ≡ bc) → (all_sure ps ≡ false → bt' ≡ bt) → (all_sure qs ≡ false → bu' ≡ bu) → all_sure (choice_partly h c ps qs) ≡ false → choice_blame (known_truth c) bc' (all_sure ps) bt' bu' ≡ choice_blame (known_truth c) bc (all_sure ps) bt bu
choice_like h c ps qs bc bt bu bc' bt' bu' gc gt gu u = go (known_truth c) refl u
  where
    go : (o : Option Truth) → known_truth c ≡ o → all_sure (choice_of h o ps qs) ≡ false → choice_blame o bc' (all_sure ps) bt' bu' ≡ choice_blame o bc (all_sure ps) bt bu
    go None q z = gc (known_truth_none c q)
    go (Some True) q z = gt (true_unsure h ps qs z)
    go (Some False) q z = gu (false_unsure h ps qs z)
    go (Some Strange) q z = side (all_sure ps) refl (choice_unsure h Strange ps qs z)
      where
        side : (t : Bool) → all_sure ps ≡ t → all_sure (if t then qs else ps) ≡ false → (if t then bu' else bt') ≡ (if t then bu else bt)
        side true y r = gu r
        side false y r = gt r

-- the blames are the same except for signals of which all bits are sure
pub record LikeBlames (d : Design) (k : Kept) (e e' : Blames) : Type 0 where
  pub wrote : (m : ℕ) → e'.wrote m ≡ e.wrote m
  pub blame : (x : ℕ) → (nat_lt x (length d.signals) && all_sure (map k (signal_cells d x))) ≡ false → e'.blame x ≡ e.blame x

module _ (d : Design) (k : Kept) (e e' : Blames) (like : LikeBlames d k e e') where
  signal_like : (s : ℕ) → all_sure (map k (signal_cells d s)) ≡ false → e'.blame s ≡ e.blame s
  signal_like s h = like.blame s (ap (λ t. nat_lt s (length d.signals) && t) h ∙ and_none (nat_lt s (length d.signals)))

  memory_like : (m : ℕ) (signed : Bool) (ps : KnownBits) → all_sure (read_word d k m signed ps) ≡ false → e'.blame m ≡ e.blame m
  memory_like m signed ps h = go (nat_le (length d.signals) m) refl
    where
      go : (t : Bool) → nat_le (length d.signals) m ≡ t → e'.blame m ≡ e.blame m
      go true q = like.blame m (ap (λ t. t && all_sure (map k (signal_cells d m))) (le-ltb m (length d.signals) (leb-true (length d.signals) m q)))
      go false q =
          let none : (memory_at d m).width ≡ zero = ap (λ (x : Memory). x.width) (ap (λ t. if t then slice_index_or d.memories (m - length d.signals) no_memory else no_memory) q) in
          absurd (true≢false (sym (sure_read d k m none signed ps) ∙ h))

  word_like : (m : ℕ) (signed : Bool) (ps : KnownBits) (l l' : ℕ) (f f' : Option ℕ) → f' ≡ f → (all_sure ps ≡ false → l' ≡ l) → all_sure (read_word d k m signed ps) ≡ false → word_blame e' m (all_sure ps) l' f' ≡ word_blame e m (all_sure ps) l f
  word_like m signed ps l l' f f' q g h =
      let own = memory_like m signed ps h in
      ap (λ t. if t then first_of f' (e'.blame m) else (if all_sure ps then e'.blame m else l')) (like.wrote m) ∙ go (e.wrote m) own
    where
      go : (t : Bool) → e'.blame m ≡ e.blame m → (if t then first_of f' (e'.blame m) else (if all_sure ps then e'.blame m else l')) ≡ (if t then first_of f (e.blame m) else (if all_sure ps then e.blame m else l))
      go true own = ap₂ first_of q own
      go false own = if_like (all_sure ps) (e.blame m) (e'.blame m) l l' (λ z. own) g

  -- what a term gives by the two
  pub record TermLike (t : Term) (f f' : Option ℕ) : Type 0 where
    pub first : first_read d k e' f' t ≡ first_read d k e f t
    pub blame : all_sure (known_value d k t) ≡ false → blame_of d k e' f' t ≡ blame_of d k e f t
    pub marks : term_marks d k e' f' t ≡ term_marks d k e f t

  -- what terms give by the two
  pub record TermsLike (ts : Terms) (f f' : Option ℕ) : Type 0 where
    pub first : first_reads d k e' f' ts ≡ first_reads d k e f ts
    pub blame : all_sure (known_joined d k ts) ≡ false → blame_of_all d k e' f' ts ≡ blame_of_all d k e f ts
    pub marks : terms_marks d k e' f' ts ≡ terms_marks d k e f ts

  mutual
    pub term_like : (t : Term) (f f' : Option ℕ) → f' ≡ f → TermLike t f f'
    term_like (number h n) f f' q =
        record { first = q; blame = λ u. refl; marks = refl }
    term_like (signal h s) f f' q =
        let of : all_sure (known_value d k (signal h s)) ≡ false → e'.blame s ≡ e.blame s = λ u. signal_like s (extend_unsure h.width h.signed (map k (signal_cells d s)) u) in
        record {
          first = note_like (all_sure (map k (signal_cells d s))) (e.blame s) (e'.blame s) f f' q (signal_like s);
          blame = of;
          marks = own_like h.node (known_value d k (signal h s)) (e.blame s) (e'.blame s) of;
        }
    term_like (word h m i) f f' q =
        let g = term_like i f f' q in
        let read : KnownBits = read_word d k m (head i).signed (known_value d k i) in
        let blamed : all_sure read ≡ false → word_blame e' m (all_sure (known_value d k i)) (blame_of d k e' f' i) (first_read d k e' f' i) ≡ word_blame e m (all_sure (known_value d k i)) (blame_of d k e f i) (first_read d k e f i) = word_like m (head i).signed (known_value d k i) (blame_of d k e f i) (blame_of d k e' f' i) (first_read d k e f i) (first_read d k e' f' i) g.first g.blame in
        let of : all_sure (known_value d k (word h m i)) ≡ false → blame_of d k e' f' (word h m i) ≡ blame_of d k e f (word h m i) = λ u. blamed (extend_unsure h.width h.signed read u) in
        record {
          first = note_like (all_sure read) _ _ (first_read d k e f i) (first_read d k e' f' i) g.first blamed;
          blame = of;
          marks = ap₃ (λ x y z. x ++ y ++ z) g.marks (words_like d (word_read m) m (head i).signed (known_value d k i) (blame_of d k e f i) (blame_of d k e' f' i) g.blame) (own_like h.node (known_value d k (word h m i)) _ _ of);
        }
    term_like (bit h t i) f f' q =
        let g = term_like i f f' q in
        let g2 = term_like t (first_read d k e f i) (first_read d k e' f' i) g.first in
        let others : all_sure (known_value d k (bit h t i)) ≡ false → all_sure (known_value d k i) ≡ true → all_sure (known_value d k t) ≡ false = λ u z. let r = whole_unsure (known_value d k i) (λ is. extend_partly h.width h.signed (select_option (known_value d k t) (offset_option (range_of d t) (index (head i).signed is)) 1)) (unknown h.width) u z in select_unsure h (known_value d k t) (offset_option (range_of d t) (index (head i).signed r.0)) 1 r.2 in
        let of : all_sure (known_value d k (bit h t i)) ≡ false → blame_of d k e' f' (bit h t i) ≡ blame_of d k e f (bit h t i) = λ u. if_like (all_sure (known_value d k i)) _ _ _ _ (λ z. g2.blame (others u z)) g.blame in
        record { first = g2.first; blame = of; marks = ap₃ (λ x y z. x ++ y ++ z) g.marks g2.marks (own_like h.node (known_value d k (bit h t i)) _ _ of) }
    term_like (part h t i j) f f' q =
        let g = term_like i f f' q in
        let g1 = term_like j (first_read d k e f i) (first_read d k e' f' i) g.first in
        let g2 = term_like t (first_read d k e (first_read d k e f i) j) (first_read d k e' (first_read d k e' f' i) j) g1.first in
        let inner : List Bit → List Bit → KnownBits = λ is js. extend_partly h.width h.signed (select_option (known_value d k t) (offset_option (range_of d t) (index (head j).signed js)) (part_width is js)) in
        let others : all_sure (known_value d k (part h t i j)) ≡ false → all_sure (known_value d k i) ≡ true → all_sure (known_value d k j) ≡ true → all_sure (known_value d k t) ≡ false =
        λ u z y. let r = whole_unsure (known_value d k i) (λ is. on_whole (whole_bits (known_value d k j)) (inner is) (unknown h.width)) (unknown h.width) u z in let p = whole_unsure (known_value d k j) (inner r.0) (unknown h.width) r.2 y in select_unsure h (known_value d k t) (offset_option (range_of d t) (index (head j).signed p.0)) (part_width r.0 p.0) p.2 in
        let of : all_sure (known_value d k (part h t i j)) ≡ false → blame_of d k e' f' (part h t i j) ≡ blame_of d k e f (part h t i j) =
        λ u. if_like (all_sure (known_value d k i)) _ _ _ _ (λ z. if_like (all_sure (known_value d k j)) _ _ _ _ (λ y. g2.blame (others u z y)) g1.blame) g.blame in
        record { first = g2.first; blame = of; marks = ap₄ (λ x y z w. x ++ y ++ z ++ w) g.marks g1.marks g2.marks (own_like h.node (known_value d k (part h t i j)) _ _ of) }
    term_like (slide h t i j up) f f' q =
        let g = term_like i f f' q in
        let g1 = term_like j (first_read d k e f i) (first_read d k e' f' i) g.first in
        let g2 = term_like t (first_read d k e (first_read d k e f i) j) (first_read d k e' (first_read d k e' f' i) j) g1.first in
        let inner : List Bit → List Bit → KnownBits = λ is js. extend_partly h.width h.signed (select_option (known_value d k t) (slide_offset (range_of d t) up (natural js) (index (head i).signed is)) (natural js)) in
        let others : all_sure (known_value d k (slide h t i j up)) ≡ false → all_sure (known_value d k i) ≡ true → all_sure (known_value d k j) ≡ true → all_sure (known_value d k t) ≡ false =
        λ u z y. let r = whole_unsure (known_value d k i) (λ is. on_whole (whole_bits (known_value d k j)) (inner is) (unknown h.width)) (unknown h.width) u z in let p = whole_unsure (known_value d k j) (inner r.0) (unknown h.width) r.2 y in select_unsure h (known_value d k t) (slide_offset (range_of d t) up (natural p.0) (index (head i).signed r.0)) (natural p.0) p.2 in
        let of : all_sure (known_value d k (slide h t i j up)) ≡ false → blame_of d k e' f' (slide h t i j up) ≡ blame_of d k e f (slide h t i j up) =
        λ u. if_like (all_sure (known_value d k i)) _ _ _ _ (λ z. if_like (all_sure (known_value d k j)) _ _ _ _ (λ y. g2.blame (others u z y)) g1.blame) g.blame in
        record { first = g2.first; blame = of; marks = ap₄ (λ x y z w. x ++ y ++ z ++ w) g.marks g1.marks g2.marks (own_like h.node (known_value d k (slide h t i j up)) _ _ of) }
    term_like (unary h op t) f f' q =
        let g = term_like t f f' q in
        let of : all_sure (known_value d k (unary h op t)) ≡ false → blame_of d k e' f' t ≡ blame_of d k e f t = λ u. g.blame (unary_unsure h op (known_value d k t) u) in
        record { first = g.first; blame = of; marks = ap₂ (λ x y. x ++ y) g.marks (own_like h.node (known_value d k (unary h op t)) _ _ of) }
    term_like (binary h op t u) f f' q =
        let g = term_like t f f' q in
        let g2 = term_like u (first_read d k e f t) (first_read d k e' f' t) g.first in
        record {
          first = g2.first;
          blame = λ n. if_like (all_sure (known_value d k t)) _ _ _ _ (λ z. g2.blame (binary_unsure h op (head t).signed (known_value d k t) (known_value d k u) n z)) g.blame;
          marks = ap₃ (λ x y z. x ++ y ++ z) g.marks g2.marks (two_like (known_value d k t) (known_value d k u) (blame_of d k e f t) (blame_of d k e' f' t) (blame_of d k e (first_read d k e f t) u) (blame_of d k e' (first_read d k e' f' t) u) g.blame g2.blame h.node op);
        }
    term_like (choice h c t u) f f' q =
        let g = term_like c f f' q in
        let g1 = term_like t (first_read d k e f c) (first_read d k e' f' c) g.first in
        let g2 = term_like u (first_read d k e (first_read d k e f c) t) (first_read d k e' (first_read d k e' f' c) t) g1.first in
        let of : all_sure (known_value d k (choice h c t u)) ≡ false → blame_of d k e' f' (choice h c t u) ≡ blame_of d k e f (choice h c t u) = choice_like h (known_value d k c) (known_value d k t) (known_value d k u) _ _ _ _ _ _ g.blame g1.blame g2.blame in
        record { first = g2.first; blame = of; marks = ap₄ (λ x y z w. x ++ y ++ z ++ w) g.marks g1.marks g2.marks (own_like h.node (known_value d k (choice h c t u)) _ _ of) }
    term_like (concat h ts) f f' q =
        let g = terms_like ts f f' q in
        let of : all_sure (known_value d k (concat h ts)) ≡ false → blame_of_all d k e' f' ts ≡ blame_of_all d k e f ts = λ u. g.blame (extend_unsure h.width h.signed (known_joined d k ts) u) in
        record { first = g.first; blame = of; marks = ap₂ (λ x y. x ++ y) g.marks (own_like h.node (known_value d k (concat h ts)) _ _ of) }
    term_like (repeat h n ts) f f' q =
        let g = term_like n f f' q in
        let g2 = terms_like ts (first_read d k e f n) (first_read d k e' f' n) g.first in
        let others : all_sure (known_value d k (repeat h n ts)) ≡ false → all_sure (known_value d k n) ≡ true → all_sure (known_joined d k ts) ≡ false = λ u z. let r = whole_unsure (known_value d k n) (λ ns. extend_partly h.width h.signed (copies_partly (natural ns) (known_joined d k ts))) (unknown h.width) u z in copies_unsure (natural r.0) (known_joined d k ts) (extend_unsure h.width h.signed (copies_partly (natural r.0) (known_joined d k ts)) r.2) in
        let of : all_sure (known_value d k (repeat h n ts)) ≡ false → blame_of d k e' f' (repeat h n ts) ≡ blame_of d k e f (repeat h n ts) = λ u. if_like (all_sure (known_value d k n)) _ _ _ _ (λ z. g2.blame (others u z)) g.blame in
        record { first = g2.first; blame = of; marks = ap₃ (λ x y z. x ++ y ++ z) g.marks g2.marks (own_like h.node (known_value d k (repeat h n ts)) _ _ of) }
    term_like (sign h s t) f f' q =
        let g = term_like t f f' q in
        let of : all_sure (known_value d k (sign h s t)) ≡ false → blame_of d k e' f' t ≡ blame_of d k e f t = λ u. g.blame (extend_unsure h.width h.signed (known_value d k t) u) in
        record { first = g.first; blame = of; marks = ap₂ (λ x y. x ++ y) g.marks (own_like h.node (known_value d k (sign h s t)) _ _ of) }

    pub terms_like : (ts : Terms) (f f' : Option ℕ) → f' ≡ f → TermsLike ts f f'
    terms_like no_terms f f' q = record { first = q; blame = λ u. refl; marks = refl }
    terms_like (a_term t ts) f f' q =
        let g = term_like t f f' q in
        let g2 = terms_like ts (first_read d k e f t) (first_read d k e' f' t) g.first in
        record {
          first = g2.first;
          blame = λ u. if_like (all_sure (known_value d k t)) _ _ _ _ (λ z. g2.blame (append_unsure (known_joined d k ts) (known_value d k t) u z)) g.blame;
          marks = ap₂ (λ x y. x ++ y) g.marks g2.marks;
        }
