-- What is kept of the writings of one signal or memory shows whether another one is at odds with them.
use Rattle.std.proofs.Common.{◌≡◌, ℕ, ◌+◌, ◌-◌, ◌^◌, ◌==◌, Bool, true, false, not, ◌||◌, ◌&&◌, if◌then◌else◌, Option, Some, unwrap_or, List, [], ◌∷◌, ◌++◌, refl, sym, ap, ◌∙◌, subst, bit_and, bit_or}
use Rattle.std.specs.Int.{bit_at}
use Rattle.std.specs.List.{list_any}
use Rattle.std.proofs.lemmas.Bool.{false≢true}
use borrow.Author.Tests.{eq-eqb, eqb-true}
use Rattle.flat_design.specs.Processes.{have_common}
use Rattle.flat_design.specs.Scope.{is_same_thing}
use Rattle.flat_design.specs.declared.entry.Thing.{Thing}
use Rattle.flat_design.specs.declared.entry.Thing.TheVariants.{Signal, Memory}
use Rattle.elab_scope.specs.declared.tally.Written.{Written}
use Rattle.elab_conflicts.specs.declared.conflicts.Conflict.TheVariants.{TwoDrivers}
use Rattle.elab_conflicts.specs.declared.conflicts.Earlier.{Earlier}
use Rattle.elab_conflicts.specs.Conflicts.{Summarizes, at_odds, has_other, key, same_key}
use Rattle.elab_scope.specs.View.{writing_view}
use Rattle.elab_conflicts.proofs.ConflictsLists.{or_false, any_same, any_push, any_or, any_and, any_swap, eqb-comm, mask-run, mask-meets, bit_or-test}

-- the bits that a writing writes, as a number
abbrev pub mask : Written → ℕ
mask w = 2 ^ (w.low + w.count) - 2 ^ w.low

either : (a b c d : Bool) → (a && (if b then c else d)) ≡ ((a && (b && c)) || (a && (not b && d)))
either false b c d = refl
either true true c d = sym (or_false c)
either true false c d = refl

and_and : (a b : Bool) (xs : List ℕ) (q : ℕ → Bool) → (a && (b && list_any q xs)) ≡ list_any (λ x. a && (b && q x)) xs
and_and a b xs q = ap (λ t. a && t) (any_and b q xs) ∙ any_and a (λ x. b && q x) xs

-- a bit that the writing shares with the continuous ones
shared : (e : Earlier) (w : Written) (ws : List Written) → Summarizes e w.thing ws → not (bit_and e.driven (mask w) == 0) ≡ list_any (λ v. is_same_thing w.thing v.thing && (v.continuous && have_common (writing_view w).offsets (writing_view v).offsets)) ws
shared e w ws s =
    mask-meets e.driven w.low w.count
    ∙ any_same (λ k. bit_at e.driven k == 1) (λ k. list_any (λ v. is_same_thing w.thing v.thing && (v.continuous && list_any (λ x. k == x) (writing_view v).offsets)) ws) s.driven (writing_view w).offsets
    ∙ any_swap (λ k v. is_same_thing w.thing v.thing && (v.continuous && list_any (λ x. k == x) (writing_view v).offsets)) (writing_view w).offsets ws
    ∙ any_same _ _ (λ v. sym (and_and (is_same_thing w.thing v.thing) v.continuous (writing_view w).offsets (λ k. list_any (λ x. k == x) (writing_view v).offsets))) ws

-- a continuous writing
pub drivers-continuous : (e : Earlier) (w : Written) (ws : List Written) → Summarizes e w.thing ws → w.continuous ≡ true → (not (bit_and e.driven (mask w) == 0) || has_other e.procedural w.process) ≡ list_any (λ v. at_odds TwoDrivers (writing_view w) (writing_view v)) ws
drivers-continuous e w ws s c =
    ap (λ t. t || has_other e.procedural w.process) (shared e w ws s)
    ∙ ap (λ t. list_any (λ v. is_same_thing w.thing v.thing && (v.continuous && have_common (writing_view w).offsets (writing_view v).offsets)) ws || t) (s.procedural w.process)
    ∙ sym (any_or (λ v. is_same_thing w.thing v.thing && (v.continuous && have_common (writing_view w).offsets (writing_view v).offsets)) (λ v. is_same_thing w.thing v.thing && (not v.continuous && not (w.process == v.process))) ws)
    ∙ any_same _ _ (λ v. sym (either (is_same_thing w.thing v.thing) v.continuous (have_common (writing_view w).offsets (writing_view v).offsets) (not (w.process == v.process)))) ws
    ∙ any_same _ _ (λ v. ap (λ t. is_same_thing w.thing v.thing && (if t && v.continuous then have_common (writing_view w).offsets (writing_view v).offsets else not (w.process == v.process))) (sym c)) ws

-- ---- one more writing

kept : {A : Type 0} (f : A → Bool) (b c : Bool) (ws : List A) (w : A) → b ≡ list_any f ws → f w ≡ c → (b || c) ≡ list_any f (ws ++ w ∷ [])
kept f b c ws w e h = ap (λ t. t || c) e ∙ ap (λ t. list_any f ws || t) (sym h) ∙ sym (any_push f ws w)

unchanged : {A : Type 0} (f : A → Bool) (b : Bool) (ws : List A) (w : A) → b ≡ list_any f ws → f w ≡ false → b ≡ list_any f (ws ++ w ∷ [])
unchanged f b ws w e h = sym (or_false b) ∙ kept f b false ws w e h

same-itself : (t : Thing) → is_same_thing t t ≡ true
same-itself (Signal s) = eq-eqb s s refl
same-itself (Memory m) = eq-eqb m m refl

-- of another signal or memory
pub Summarizes-other : (e : Earlier) (t : Thing) (ws : List Written) (w : Written) → Summarizes e t ws → is_same_thing t w.thing ≡ false → Summarizes e t (ws ++ w ∷ [])
Summarizes-other e t ws w s other = record {
  blocking = unchanged _ e.blocking ws w s.blocking (ap (λ b. b && w.blocking) other);
  nonblocking = unchanged _ e.nonblocking ws w s.nonblocking (ap (λ b. b && not w.blocking) other);
  driven = λ k. unchanged _ _ ws w (s.driven k) (ap (λ b. b && (w.continuous && list_any (λ x. k == x) (writing_view w).offsets)) other);
  processes = λ p. unchanged _ _ ws w (s.processes p) (ap (λ b. b && not (p == w.process)) other);
  procedural = λ p. unchanged _ _ ws w (s.procedural p) (ap (λ b. b && (not w.continuous && not (p == w.process))) other);
}

-- of this one
pub Summarizes-more : (e f : Earlier) (ws : List Written) (w : Written) → Summarizes e w.thing ws → f.blocking ≡ (e.blocking || w.blocking) → f.nonblocking ≡ (e.nonblocking || not w.blocking)
    → f.driven ≡ (if w.continuous then bit_or e.driven (mask w) else e.driven)
    → ((p : ℕ) → has_other f.processes p ≡ (has_other e.processes p || not (p == w.process)))
    → ((p : ℕ) → has_other f.procedural p ≡ (has_other e.procedural p || (not w.continuous && not (p == w.process))))
    → Summarizes f w.thing (ws ++ w ∷ [])
Summarizes-more e f ws w s b n d p q =
    let here = same-itself w.thing in record {
      blocking = b ∙ kept _ e.blocking w.blocking ws w s.blocking (ap (λ t. t && w.blocking) here);
      nonblocking = n ∙ kept _ e.nonblocking (not w.blocking) ws w s.nonblocking (ap (λ t. t && not w.blocking) here);
      driven = λ k. ap (λ m. bit_at m k == 1) d ∙ by k w.continuous ∙ kept _ _ (w.continuous && list_any (λ x. k == x) (writing_view w).offsets) ws w (s.driven k) (ap (λ t. t && (w.continuous && list_any (λ x. k == x) (writing_view w).offsets)) here);
      processes = λ k. p k ∙ kept _ _ (not (k == w.process)) ws w (s.processes k) (ap (λ t. t && not (k == w.process)) here);
      procedural = λ k. q k ∙ kept _ _ (not w.continuous && not (k == w.process)) ws w (s.procedural k) (ap (λ t. t && (not w.continuous && not (k == w.process))) here);
    }
  where
    by : (k : ℕ) (c : Bool) → (bit_at (if c then bit_or e.driven (mask w) else e.driven) k == 1) ≡ ((bit_at e.driven k == 1) || (c && list_any (λ x. k == x) (writing_view w).offsets))
    by k false = sym (or_false _)
    by k true = bit_or-test e.driven (mask w) k ∙ ap (λ t. (bit_at e.driven k == 1) || t) (mask-run k w.low w.count)

-- ---- the table

pub same_thing-comm : (t u : Thing) → is_same_thing t u ≡ is_same_thing u t
same_thing-comm (Signal s) (Signal r) = eqb-comm s r
same_thing-comm (Signal s) (Memory m) = refl
same_thing-comm (Memory m) (Signal s) = refl
same_thing-comm (Memory m) (Memory k) = eqb-comm m k

same_thing-true : (t u : Thing) → is_same_thing t u ≡ true → t ≡ u
same_thing-true (Signal s) (Signal r) e = ap Signal (eqb-true s r e)
same_thing-true (Signal s) (Memory m) e = absurd (false≢true e)
same_thing-true (Memory m) (Signal s) e = absurd (false≢true e)
same_thing-true (Memory m) (Memory k) e = ap Memory (eqb-true m k e)

pub key-same : (t u : Thing) → same_key (key t) (key u) ≡ is_same_thing t u
key-same (Signal s) (Signal r) = refl
key-same (Signal s) (Memory m) = refl
key-same (Memory m) (Signal s) = refl
key-same (Memory m) (Memory k) = refl

pub unwrap_or-cond : (b : Bool) (e f : Earlier) (o : Option Earlier) → unwrap_or (if b then Some e else o) f ≡ (if b then e else unwrap_or o f)
unwrap_or-cond true e f o = refl
unwrap_or-cond false e f o = refl

-- a turn of the loop
pub kept-more : (old new : Thing → Earlier) (f : Earlier) (ws : List Written) (w : Written) → ((t : Thing) → new t ≡ (if is_same_thing w.thing t then f else old t)) → ((t : Thing) → Summarizes (old t) t ws) → Summarizes f w.thing (ws ++ w ∷ []) → (t : Thing) → Summarizes (new t) t (ws ++ w ∷ [])
kept-more old new f ws w set before here t = by (is_same_thing w.thing t) refl
  where
    by : (b : Bool) → is_same_thing w.thing t ≡ b → Summarizes (new t) t (ws ++ w ∷ [])
    by true e =
        let at : new t ≡ f = set t ∙ ap (λ b. if b then f else old t) e in
        subst (λ g. Summarizes g t (ws ++ w ∷ [])) (sym at) (subst (λ u. Summarizes f u (ws ++ w ∷ [])) (same_thing-true w.thing t e) here)
    by false e =
        let at : new t ≡ old t = set t ∙ ap (λ b. if b then f else old t) e in
        subst (λ g. Summarizes g t (ws ++ w ∷ [])) (sym at) (Summarizes-other (old t) t ws w (before t) (same_thing-comm t w.thing ∙ e))
