-- Values side by side, and copies of them.
use Rattle.std.proofs.Common.{◌≡◌, ◌∙◌, ℕ, zero, suc, ◌+◌, ◌-◌, ◌*◌, ◌<◌, ◌≤◌, Bool, true, false, ◌&&◌, if◌then◌else◌, List, [], ◌∷◌, ◌++◌, Option, Some, None, length, map, min, drop, get_or, refl, sym, ap, ap₂, subst, append-nil, append_assoc, add-one, drop-cons, arith}
use Rattle.std.specs.Prelude.{IsTrue}
use Rattle.std.proofs.lemmas.List.{length-append}
use Rattle.four_state.specs.declared.bit.Bit.{Bit}
use Rattle.four_state.specs.Arithmetic.{natural}
use Rattle.four_state.specs.Vector.{Vector}
use Rattle.four_state.specs.Parts.{appended_vector}
use Rattle.known_state.specs.Partly.{Partly, allows, are_sure, is_whole, whole_of}
use Rattle.known_state.specs.Join.{first_blame}
use Rattle.known_state.specs.Answers.{IsTight, allow_both}
use Rattle.design_model.specs.Shape.{are_alone, own_widths}
use Rattle.design_model.specs.Tree as t
use Rattle.design_model.specs.View.{term_view, terms_of}
use Rattle.design_model.specs.declared.tree.Term.{Term}
use Rattle.body_replay.specs.KnownBits.{KnownBits, copies_partly, extend_partly, sure}
use Rattle.body_replay.specs.Store.{known_joined, known_value}
use Rattle.body_replay.specs.Replay.{Mark, Mode, blame_of, blame_of_all}
use Rattle.body_replay.proofs.Answered.{append_answer, same_sure}
use Rattle.body_replay.proofs.Exact.{append_exact}
use Rattle.body_replay.proofs.Steps as s
use Rattle.term_replay.specs.Noted.{Adds, in_this}
use Rattle.term_replay.specs.Stands.{Fitted, Scene, Stands, StandsAll, copied, first_after, head_of, so_far, whole_at}
use Rattle.term_replay.specs.declared.head.TermHead.{TermHead}
use Rattle.term_replay.proofs.Contexts.{length-joined}
use Rattle.term_replay.proofs.Marking.{adds_more, adds_none}
use Rattle.term_replay.proofs.Standing.{from_step, not_false, to_all, to_fit, to_step, whole_fits}

pub whole_appended : (a b q : Partly) (m n : Vector) → a ≡ whole_of m → b ≡ whole_of n → q ≡ whole_of (appended_vector m n) → q.bits ≡ b.bits ++ a.bits
whole_appended a b q m n ea eb eq = ap (λ y. y.bits) eq ∙ sym (append_exact n.bits m.bits) ∙ sym (ap₂ (λ x y. x.bits ++ y.bits) eb ea)

pub slow_appended : (a b q : Partly) → ((v w : Vector) → IsTrue (allows a v) → IsTrue (allows b w) → IsTrue (allows q (appended_vector v w))) → IsTight (allow_both a b) (λ p. p.1.bits ++ p.0.bits) q.bits → q.bits ≡ b.bits ++ a.bits
slow_appended a b q sound tight = append_answer a b q sound tight

-- ---- copies

pub length-copies : (n : ℕ) (ps : KnownBits) → length (copies_partly n ps) ≡ n * length ps
length-copies zero ps = grind arith
length-copies (suc n) ps = length-append ps (copies_partly n ps) ∙ ap (λ k. length ps + k) (length-copies n ps) ∙ grind arith

pub room_for_copy : (made count size a : ℕ) → a ≡ made * size → made < count → size * count ≤ 128 → a + size ≤ 128
room_for_copy made count size a e l h =
    let d : ℕ = count - made - 1 in
    let is : count ≡ made + 1 + d = omega arith in
    let all : size * (made + 1 + d) ≤ 128 = subst (λ n. size * n ≤ 128) is h in
    let parts : size * (made + 1 + d) ≡ made * size + size + size * d = grind arith in
    omega (arith, e, all, parts)

pub no_copies : (n : ℕ) → copies_partly n [] ≡ []
no_copies zero = refl
no_copies (suc n) = no_copies n

-- one copy more
pub blame_again : (a c : Partly) (thing : ℕ) → (is_whole a ≡ false → a.blame ≡ thing) → c.blame ≡ thing → first_blame a c ≡ thing
blame_again a c thing h e = go (is_whole a) refl
  where
    go : (b : Bool) → is_whole a ≡ b → (if is_whole a then c.blame else a.blame) ≡ thing
    go true f = ap (λ g. if g then c.blame else a.blame) f ∙ e
    go false f = ap (λ g. if g then c.blame else a.blame) f ∙ h f

-- the same bits, and the same blame where not all are sure
pub fits_same : (x : TermHead) (p q r : Partly) → p.bits ≡ q.bits → (is_whole p ≡ false → p.blame ≡ q.blame) → Fitted x p r → Fitted x q r
fits_same x p q r e b f = record {
  bits = f.bits ∙ ap (extend_partly x.width x.signed) e;
  sign_is = f.sign_is;
  blame = λ u. let g = f.blame u in (ap are_sure (sym e) ∙ g.0, g.1 ∙ b g.0);
}

pub blank_fits : (x : TermHead) (q r : Partly) → q.bits ≡ [] → r ≡ whole_at x [] → Fitted x q r
blank_fits x q r e f =
    fits_same x (whole_of (record { bits = []; signed = false })) q r (sym e) (λ u. not_false true refl u) (whole_fits x (record { bits = []; signed = false }) _ r refl f)

-- copies that are more than 128 have no bits
pub copies_cut : (n : ℕ) (ps : KnownBits) → n * length ps ≤ 128 → copies_partly (min n 128) ps ≡ copies_partly n ps
copies_cut n [] h = no_copies (min n 128) ∙ sym (no_copies n)
copies_cut n (p ∷ ps) h =
    let x : n * suc (length ps) ≡ n + n * length ps = grind arith in
    let e : min n 128 ≡ n = omega (arith, x, h) in
    ap (λ m. copies_partly m (p ∷ ps)) e

-- ---- terms side by side

pub concat_stands : (v : Scene) (first : Option ℕ) (x : TermHead) (ts : t.Terms) (q r : Partly) → StandsAll v first ts q → Fitted x (copied 1 q) r → Stands v first (t.concat (head_of x) ts) r
concat_stands v first x ts q r sq f =
    from_step v first _ r (s.concat_stands v.design v.kept v.blames first (head_of x) ts q r (to_all v first ts q sq) (to_fit x q r (fits_same x (copied 1 q) q r (append-nil q.bits) (λ u. refl) f)))

pub repeat_stands : (v : Scene) (first : Option ℕ) (x : TermHead) (i : t.Term) (ts : t.Terms) (ns : List Bit) (c q r : Partly) → Stands v first i c → c.bits ≡ sure ns → StandsAll v (first_after v first i) ts q → Fitted x (copied (natural ns) q) r → Stands v first (t.repeat (head_of x) i ts) r
repeat_stands v first x i ts ns c q r sc e sq f =
    from_step v first _ r (s.whole_copies_stand v.design v.kept v.blames first (head_of x) i ts ns c q (copied (natural ns) q) r (to_step v first i c sc) e (to_all v (first_after v first i) ts q sq) (record { bits = refl; blame = λ u. refl }) (to_fit x (copied (natural ns) q) r f))

-- a concatenation that is repeated, as often as it has bits for
pub repeat_all : (v : Scene) (first : Option ℕ) (x : TermHead) (i : t.Term) (ts : t.Terms) (ns : List Bit) (c q r : Partly) → Stands v first i c → c.bits ≡ sure ns → are_alone v.design ts ≡ true → natural ns * own_widths v.design ts ≤ 128 → (own_widths v.design ts ≤ 128 → StandsAll v (first_after v first i) ts q) → Fitted x (copied (min (natural ns) 128) q) r → Stands v first (t.repeat (head_of x) i ts) r
repeat_all v first x i ts ns c q r sc e alone room sq f = go (natural ns) refl
  where
    go : (k : ℕ) → natural ns ≡ k → Stands v first (t.repeat (head_of x) i ts) r
    go zero z =
        let none : Partly = record { bits = known_joined v.design v.kept ts; signed = false; blame = blame_of_all v.design v.kept v.blames (first_after v first i) ts } in
        repeat_stands v first x i ts ns c none r sc e (record { bits = refl; blame = λ u. refl })
        (fits_same x (copied (min (natural ns) 128) q) (copied (natural ns) none) r (ap (λ k. copies_partly (min k 128) q.bits) z ∙ sym (ap (λ k. copies_partly k none.bits) z)) (λ u. not_false true refl (sym (ap (λ k. are_sure (copies_partly (min k 128) q.bits)) z) ∙ u)) f)
    go (suc k) z =
        let more : suc k * own_widths v.design ts ≡ own_widths v.design ts + k * own_widths v.design ts = grind arith in
        let room0 : suc k * own_widths v.design ts ≤ 128 = subst (λ m. m * own_widths v.design ts ≤ 128) z room in
        let all : StandsAll v (first_after v first i) ts q = sq (omega (arith, more, room0)) in
        let size : length q.bits ≡ own_widths v.design ts = ap length all.bits ∙ length-joined v.design v.kept ts alone in
        repeat_stands v first x i ts ns c q r sc e all
        (fits_same x (copied (min (natural ns) 128) q) (copied (natural ns) q) r (copies_cut (natural ns) q.bits (subst (λ m. natural ns * m ≤ 128) (sym size) room)) (λ u. refl) f)

-- there is room for the copies
pub room_for_all : (v : Scene) (next : Option ℕ) (ts : t.Terms) (n : ℕ) (q : Partly) → are_alone v.design ts ≡ true → n * own_widths v.design ts ≤ 128 → (own_widths v.design ts ≤ 128 → StandsAll v next ts q) → length q.bits * min n 128 ≤ 128
room_for_all v next ts zero q alone room sq = let z : length q.bits * min 0 128 ≡ 0 = grind arith in omega (arith, z)
room_for_all v next ts (suc k) q alone room sq = go (own_widths v.design ts) refl
  where
    go : (w : ℕ) → own_widths v.design ts ≡ w → length q.bits * min (suc k) 128 ≤ 128
    go zero e =
        let all : StandsAll v next ts q = sq (omega (arith, e)) in
        let size : length q.bits ≡ 0 = ap length all.bits ∙ length-joined v.design v.kept ts alone ∙ e in
        subst (λ m. m * min (suc k) 128 ≤ 128) (sym size) (let z : 0 * min (suc k) 128 ≡ 0 = grind arith in omega (arith, z))
    go (suc w) e =
        let room0 : suc k * suc w ≤ 128 = subst (λ m. suc k * m ≤ 128) e room in
        let parts : suc k * suc w ≡ suc w + k + k * w = grind arith in
        let all : StandsAll v next ts q = sq (omega (arith, e, parts, room0)) in
        let size : length q.bits ≡ suc w = ap length all.bits ∙ length-joined v.design v.kept ts alone ∙ e in
        let few : min (suc k) 128 ≡ suc k = omega (arith, parts, room0) in
        subst (λ m. m * min (suc k) 128 ≤ 128) (sym size) (subst (λ m. suc w * m ≤ 128) (sym few) (let turned : suc w * suc k ≡ suc k * suc w = grind arith in omega (arith, turned, room0)))

-- the terms from the one at i on
pub terms_from : (xs : List Term) (i : ℕ) (x : Term) → i < length xs → x ≡ get_or xs i x → terms_of (map term_view (drop i xs)) ≡ t.a_term (term_view x) (terms_of (map term_view (drop (i + 1) xs)))
terms_from xs i x within is = rw (add-one, drop-cons xs i x within, ← is) refl

-- the bits so far and those of the rest are those of all, and so are the blames
pub record GoesOn (v : Scene) (first : Option ℕ) (all : t.Terms) (now : Option ℕ) (rest : t.Terms) (q : Partly) : Type 0 where
  pub bits : known_joined v.design v.kept all ≡ known_joined v.design v.kept rest ++ q.bits
  pub blame : blame_of_all v.design v.kept v.blames first all ≡ (if is_whole q then blame_of_all v.design v.kept v.blames now rest else q.blame)

pub goes_start : (v : Scene) (first : Option ℕ) (all : t.Terms) → GoesOn v first all first all (so_far None)
goes_start v first all = record { bits = sym (append-nil (known_joined v.design v.kept all)); blame = refl }

pub goes_end : (v : Scene) (first : Option ℕ) (all : t.Terms) (now : Option ℕ) (q : Partly) → GoesOn v first all now t.no_terms q → StandsAll v first all q
goes_end v first all now q g = record {
  bits = sym g.bits;
  blame = λ u. sym (g.blame ∙ ap (λ b. if b then 0 else q.blame) u);
}

-- there is room for the next value
pub room_left : (v : Scene) (first : Option ℕ) (all : t.Terms) (now : Option ℕ) (x : t.Term) (rest : t.Terms) (p q : Partly) → are_alone v.design all ≡ true → own_widths v.design all ≤ 128 → GoesOn v first all now (t.a_term x rest) q → Stands v now x p → length q.bits + length p.bits ≤ 128
room_left v first all now x rest p q a w g sp =
    let whole : length (known_joined v.design v.kept all) ≡ own_widths v.design all = length-joined v.design v.kept all a in
    let parts : length (known_joined v.design v.kept all) ≡ length (known_joined v.design v.kept rest ++ known_value v.design v.kept x) + length q.bits = ap length g.bits ∙ length-append (known_joined v.design v.kept rest ++ known_value v.design v.kept x) q.bits in
    let two : length (known_joined v.design v.kept rest ++ known_value v.design v.kept x) ≡ length (known_joined v.design v.kept rest) + length (known_value v.design v.kept x) = length-append (known_joined v.design v.kept rest) (known_value v.design v.kept x) in
    let last : length p.bits ≡ length (known_value v.design v.kept x) = ap length sp.bits in
    omega (arith, w, whole, parts, two, last)

are_both : (ps qs : KnownBits) → are_sure (ps ++ qs) ≡ (are_sure ps && are_sure qs)
are_both [] qs = refl
are_both (None ∷ ps) qs = refl
are_both (Some b ∷ ps) qs = are_both ps qs

pub goes_further : (v : Scene) (first : Option ℕ) (all : t.Terms) (now next : Option ℕ) (x : t.Term) (rest : t.Terms) (p q r : Partly) → GoesOn v first all now (t.a_term x rest) q → Stands v now x p → next ≡ first_after v now x → r.bits ≡ p.bits ++ q.bits → (is_whole r ≡ false → r.blame ≡ first_blame q p) → GoesOn v first all next rest r
goes_further v first all now next x rest p q r g sp e bits blame = record {
  bits = g.bits ∙ ap (λ ps. (known_joined v.design v.kept rest ++ ps) ++ q.bits) (sym sp.bits) ∙ append_assoc (known_joined v.design v.kept rest) p.bits q.bits ∙ ap (λ ps. known_joined v.design v.kept rest ++ ps) (sym bits);
  blame = g.blame ∙ go (is_whole q) (is_whole p) refl refl ∙ ap (λ o. if is_whole r then blame_of_all v.design v.kept v.blames o rest else r.blame) (sym e);
}
  where
    later : ℕ
    later = blame_of_all v.design v.kept v.blames (first_after v now x) rest

    whole_both : is_whole r ≡ (is_whole p && is_whole q)
    whole_both = ap are_sure bits ∙ are_both p.bits q.bits

    -- the blame of the rest, by whether the next value is whole
    whole_x : Rattle.body_replay.specs.KnownBits.all_sure (known_value v.design v.kept x) ≡ is_whole p
    whole_x = ap Rattle.body_replay.specs.KnownBits.all_sure (sym sp.bits) ∙ same_sure p.bits

    go : (b c : Bool) → is_whole q ≡ b → is_whole p ≡ c → (if is_whole q then (if Rattle.body_replay.specs.KnownBits.all_sure (known_value v.design v.kept x) then later else blame_of v.design v.kept v.blames now x) else q.blame) ≡ (if is_whole r then later else r.blame)
    go true true f h = rw (f, whole_x, h, whole_both, h, f) refl
    go true false f h =
        let u : is_whole r ≡ false = rw (whole_both, h) refl in
        rw (f, whole_x, h, u) (sym (blame u ∙ ap (λ g. if g then p.blame else q.blame) f ∙ sp.blame h))
    go false true f h =
        let u : is_whole r ≡ false = rw (whole_both, h, f) refl in
        rw (f, u) (sym (blame u ∙ ap (λ g. if g then p.blame else q.blame) f))
    go false false f h =
        let u : is_whole r ≡ false = rw (whole_both, h) refl in
        rw (f, u) (sym (blame u ∙ ap (λ g. if g then p.blame else q.blame) f))

-- what the sink takes of the rest makes it take all
pub record TellsOn {T S : Type 0} (noted : T → List Mark → S → Type 0) (mode : Mode) (before : S) (all : List Mark) (now : S) (rest : List Mark) : Type 0 where
  pub goes : (after : S) → Adds noted now (in_this mode rest) after → Adds noted before (in_this mode all) after

pub tells_start : {T S : Type 0} (noted : T → List Mark → S → Type 0) (mode : Mode) (before : S) (all : List Mark) → TellsOn noted mode before all before all
tells_start noted mode before all = record { goes = λ after a. a }

pub tells_further : {T S : Type 0} (noted : T → List Mark → S → Type 0) (mode : Mode) (before : S) (all : List Mark) (now next : S) (ms rest : List Mark) → TellsOn noted mode before all now (ms ++ rest) → Adds noted now (in_this mode ms) next → TellsOn noted mode before all next rest
tells_further noted mode before all now next ms rest g a = record { goes = λ after b. g.goes after (adds_more noted mode now next after ms rest a b) }

pub tells_end : {T S : Type 0} (noted : T → List Mark → S → Type 0) (mode : Mode) (before : S) (all : List Mark) (now : S) → TellsOn noted mode before all now [] → Adds noted before (in_this mode all) now
tells_end noted mode before all now g = g.goes now (adds_none noted now)
