-- What a sink took, one note after the other, and the marks of cases and words.
use Rattle.std.proofs.Common.{◌≡◌, ◌∙◌, ℕ, zero, suc, ◌+◌, Bool, true, false, if◌then◌else◌, List, [], ◌∷◌, ◌++◌, Option, Some, None, refl, sym, ap, ap₂, subst, append_assoc, append-nil, arith}
use Rattle.std.specs.List.{range_with_len}
use Rattle.std.specs.Option.{unwrap_or}
use Rattle.std.proofs.lemmas.List.{map-append}
use Rattle.design_model.specs.point_words.declared.node_case.NodeCase.{NodeCase}
use Rattle.known_state.specs.declared.maybe.Maybe.{Maybe}
use Rattle.known_state.specs.declared.maybe.Maybe.TheVariants.{Yes, No, Unsure}
use Rattle.body_replay.specs.KnownBits.{both}
use Rattle.body_replay.specs.Replay.{Case, Mark, Mode, Spot, case_mark, case_marks, doubted, hit, in_mode, perhaps_marks, undecided}
use Rattle.term_replay.specs.Noted.{Adds, in_this}
use Rattle.term_replay.specs.Questions.{IsAnswer, answer_of, blame_in}

module _ {T S : Type 0} (noted : T → List Mark → S → Type 0) where
  pub adds_none : (s : S) → Adds noted s [] s
  adds_none s = record { added = λ start earlier h. subst (λ z. noted start z s) (sym (append-nil earlier)) h }

  pub adds_both : (s t u : S) (ms ns : List Mark) → Adds noted s ms t → Adds noted t ns u → Adds noted s (ms ++ ns) u
  adds_both s t u ms ns a b = record { added = λ start earlier h. subst (λ z. noted start z u) (append_assoc earlier ms ns) (b.added start (earlier ++ ms) (a.added start earlier h)) }

  pub adds_same : (s t : S) (ms ns : List Mark) → ms ≡ ns → Adds noted s ms t → Adds noted s ns t
  adds_same s t ms ns e a = subst (λ z. Adds noted s z t) e a

  pub adds_more : (mode : Mode) (s t u : S) (ms ns : List Mark) → Adds noted s (in_this mode ms) t → Adds noted t (in_this mode ns) u → Adds noted s (in_this mode (ms ++ ns)) u
  adds_more mode s t u ms ns a b = adds_same s u _ _ (sym (map-append (in_mode mode) ms ns)) (adds_both s t u (in_this mode ms) (in_this mode ns) a b)

  -- the marks of a case, and then those of the others
  pub adds_case : (mode : Mode) (n : ℕ) (c : Case) (cs : List Case) (s t u : S) → Adds noted s (in_this mode (case_mark n c.kind c.answer c.blame)) t → Adds noted t (in_this mode (case_marks n cs)) u → Adds noted s (in_this mode (case_marks n (c ∷ cs))) u
  adds_case mode n c cs s t u a b = adds_more mode s t u _ _ a b

  case_same : (n : ℕ) (c : NodeCase) (m : Maybe) (a : Option Bool) (thing : ℕ) → answer_of m ≡ a → (a ≡ None → blame_in m ≡ thing) → case_mark n c (answer_of m) (blame_in m) ≡ case_mark n c a thing
  case_same n c Yes a thing is b = ap (λ o. case_mark n c o thing) is
  case_same n c No a thing is b = ap (λ o. case_mark n c o thing) is
  case_same n c (Unsure x) a thing is b = ap (λ y. doubted (Rattle.body_replay.specs.Replay.node n c) y ∷ []) (b (sym is)) ∙ ap (λ o. case_mark n c o thing) is

  -- a case by its answer
  pub adds_answer : (mode : Mode) (n : ℕ) (c : NodeCase) (m : Maybe) (a : Option Bool) (thing : ℕ) (s t : S) → IsAnswer a thing m → Adds noted s (in_this mode (case_mark n c (answer_of m) (blame_in m))) t → Adds noted s (in_this mode (case_mark n c a thing)) t
  adds_answer mode n c m a thing s t is d = adds_same s t _ _ (ap (in_this mode) (case_same n c m a thing is.is is.blame)) d

  pub adds_two : (mode : Mode) (n : ℕ) (c e : Case) (s t u : S) → Adds noted s (in_this mode (case_mark n c.kind c.answer c.blame)) t → Adds noted t (in_this mode (case_mark n e.kind e.answer e.blame)) u → Adds noted s (in_this mode (case_marks n (c ∷ e ∷ []))) u
  adds_two mode n c e s t u a b = adds_case mode n c (e ∷ []) s t u a (adds_case mode n e [] t u u b (adds_none u))

  pub adds_three : (mode : Mode) (n : ℕ) (c e f : Case) (s t u w : S) → Adds noted s (in_this mode (case_mark n c.kind c.answer c.blame)) t → Adds noted t (in_this mode (case_mark n e.kind e.answer e.blame)) u → Adds noted u (in_this mode (case_mark n f.kind f.answer f.blame)) w → Adds noted s (in_this mode (case_marks n (c ∷ e ∷ f ∷ []))) w
  adds_three mode n c e f s t u w a b d = adds_case mode n c (e ∷ f ∷ []) s t w a (adds_two mode n e f t u w b d)

  pub adds_four : (mode : Mode) (n : ℕ) (c e f g : Case) (s t u w x : S) → Adds noted s (in_this mode (case_mark n c.kind c.answer c.blame)) t → Adds noted t (in_this mode (case_mark n e.kind e.answer e.blame)) u → Adds noted u (in_this mode (case_mark n f.kind f.answer f.blame)) w → Adds noted w (in_this mode (case_mark n g.kind g.answer g.blame)) x → Adds noted s (in_this mode (case_marks n (c ∷ e ∷ f ∷ g ∷ []))) x
  adds_four mode n c e f g s t u w x a b d h = adds_case mode n c (e ∷ f ∷ g ∷ []) s t x a (adds_three mode n e f g t u w x b d h)

-- a hit and a doubt as they count in a mode
pub hit_in : (mode : Mode) (x : Spot) → in_mode mode (hit x) ≡ record { spot = x; doubt = mode }
hit_in None x = refl
hit_in (Some b) x = refl

pub doubt_in : (mode : Mode) (x : Spot) (thing : ℕ) → in_mode mode (doubted x thing) ≡ record { spot = x; doubt = Some (unwrap_or mode thing) }
doubt_in None x thing = refl
doubt_in (Some b) x thing = refl

-- two tests of which both are to hold
both_at : (m n : Maybe) (a b : Option Bool) (l r : ℕ) (z : Maybe) → answer_of m ≡ a → answer_of n ≡ b → (a ≡ None → blame_in m ≡ l) → (b ≡ None → blame_in n ≡ r) → answer_of z ≡ both (answer_of m) (answer_of n) → (both (answer_of m) (answer_of n) ≡ None → blame_in z ≡ (if undecided (answer_of m) then blame_in m else blame_in n)) → IsAnswer (both a b) (if undecided a then l else r) z
both_at m n a b l r z ea eb fa fb is blame =
    record {
      is = is ∙ ap₂ both ea eb;
      blame = λ u. blame (ap₂ both ea eb ∙ u) ∙ go m ea fa u;
    }
  where
    last : (b : Option Bool) → answer_of n ≡ b → (b ≡ None → blame_in n ≡ r) → both (Some true) b ≡ None → blame_in n ≡ r
    last b e f u = f u

    go : (m : Maybe) → answer_of m ≡ a → (a ≡ None → blame_in m ≡ l) → both a b ≡ None → (if undecided (answer_of m) then blame_in m else blame_in n) ≡ (if undecided a then l else r)
    go Yes e f u = last b eb fb (ap (λ o. both o b) e ∙ u) ∙ ap (λ o. if undecided o then l else r) e
    go No e f u = absurd (let w : Some false ≡ None = ap (λ o. both o b) e ∙ u in cc)
    go (Unsure x) e f u = f (sym e) ∙ ap (λ o. if undecided o then l else r) e

pub both_answer : (m n z : Maybe) (a b : Option Bool) (l r : ℕ) → IsAnswer a l m → IsAnswer b r n → IsAnswer (both (answer_of m) (answer_of n)) (if undecided (answer_of m) then blame_in m else blame_in n) z → IsAnswer (both a b) (if undecided a then l else r) z
both_answer m n z a b l r ma nb is = both_at m n a b l r z ma.is nb.is ma.blame nb.blame is.is is.blame

one_more : (at : ℕ → Spot) (may : ℕ → Bool) (low n thing : ℕ) (b : Bool) → may low ≡ b → perhaps_marks at may (range_with_len (low + 1) (suc n)) thing ≡ perhaps_marks at may (range_with_len (low + 1) n) thing ++ (if may (low + suc n) then doubted (at (low + suc n)) thing ∷ [] else []) → (if may low then doubted (at low) thing ∷ perhaps_marks at may (range_with_len (low + 1) (suc n)) thing else perhaps_marks at may (range_with_len (low + 1) (suc n)) thing) ≡ (if may low then doubted (at low) thing ∷ perhaps_marks at may (range_with_len (low + 1) n) thing else perhaps_marks at may (range_with_len (low + 1) n) thing) ++ (if may (low + suc n) then doubted (at (low + suc n)) thing ∷ [] else [])
one_more at may low n thing true e later = rw e (ap (λ ms. doubted (at low) thing ∷ ms) later)
one_more at may low n thing false e later = rw e later

-- one word more
pub perhaps_more : (at : ℕ → Spot) (may : ℕ → Bool) (low n thing : ℕ) → perhaps_marks at may (range_with_len low (suc n)) thing ≡ perhaps_marks at may (range_with_len low n) thing ++ (if may (low + n) then doubted (at (low + n)) thing ∷ [] else [])
perhaps_more at may low zero thing = ap (λ k. if may k then doubted (at k) thing ∷ [] else []) (omega arith)
perhaps_more at may low (suc n) thing =
    one_more at may low n thing (may low) refl (perhaps_more at may (low + 1) n thing ∙ ap (λ k. perhaps_marks at may (range_with_len (low + 1) n) thing ++ (if may k then doubted (at k) thing ∷ [] else [])) (omega arith))

one_in : (mode : Mode) (at : ℕ → Spot) (may : ℕ → Bool) (i : ℕ) (is : List ℕ) (thing : ℕ) (b : Bool) → in_this mode (perhaps_marks at may is thing) ≡ perhaps_marks at may is (unwrap_or mode thing) → in_this mode (if b then doubted (at i) thing ∷ perhaps_marks at may is thing else perhaps_marks at may is thing) ≡ (if b then doubted (at i) (unwrap_or mode thing) ∷ perhaps_marks at may is (unwrap_or mode thing) else perhaps_marks at may is (unwrap_or mode thing))
one_in mode at may i is thing true rest = ap₂ (λ x y. x ∷ y) (doubt_in mode (at i) thing) rest
one_in mode at may i is thing false rest = rest

-- doubts in a mode are blamed on the mode's test
pub perhaps_in : (mode : Mode) (at : ℕ → Spot) (may : ℕ → Bool) (is : List ℕ) (thing : ℕ) → in_this mode (perhaps_marks at may is thing) ≡ perhaps_marks at may is (unwrap_or mode thing)
perhaps_in mode at may [] thing = refl
perhaps_in mode at may (i ∷ is) thing = one_in mode at may i is thing (may i) (perhaps_in mode at may is thing)
