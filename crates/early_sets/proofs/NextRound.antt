-- From a round of a step to the next one.
use Rattle.std.proofs.Common.{◌≡◌, ◌↔◌, inl, inr, ⊎_elim, ◌∙◌, ℕ, ◌+◌, ◌<◌, Bool, true, false, not, ◌&&◌, List, [], ◌∷◌, ◌++◌, None, length, get_or, take, refl, sym, ap, subst, arith, append-nil, length-append}
use Rattle.std.specs.List.{Contains}
use Rattle.std.proofs.lemmas.Bool.{and_from, and_parts, both_ways, false_from_ne_true, not-true, or_right}
use Rattle.std.proofs.lemmas.List.{take_more}
use Rattle.std.proofs.lemmas.List.Elements.{Contains-append_left, Contains-push, Contains-push_cases}
use Rattle.early_sets.specs.Adds.{Adds}
use Rattle.early_sets.specs.Has.{is_in}
use Rattle.early_sets.specs.Changes.{is_told_by}
use Rattle.early_sets.specs.Reached.{IsItemWhere}
use Rattle.early_sets.specs.Rounds.{HasMoves, IsNextRound, becomes_single, is_written_by, writer_at}
use Rattle.early_sets.specs.WakeState.{WakeState, is_single}
use Rattle.early_sets.proofs.Adding.{extends_has, member_at}
use Rattle.early_sets.proofs.Membership.{is_in_from, is_in_gives}

-- a thing that becomes single is not among those that were found before
pub not_before : (w : WakeState) (x : ℕ) → becomes_single w x ≡ true → Contains w.derived x → ⊥
not_before w x h c =
    let parts = and_parts (is_in w.moves x) _ h in
    let out = not-true (is_single w x) (and_parts (not (is_single w x)) _ parts.1).0 in
    both_ways (is_single w x) out (or_right (is_told_by w.told x) (is_in w.derived x) (is_in_from w.derived x c.0 c.1 c.2))

longer : (x : ℕ) (xs more ys : List ℕ) → ys ≡ xs ++ more → Contains ys x → (Contains xs x → ⊥) → length xs < length ys
longer x xs [] ys is c none = absurd (none (subst (λ zs. Contains zs x) (is ∙ append-nil xs) c))
longer x xs (y ∷ more) ys is c none = omega (arith, ap length is, length-append xs (y ∷ more))

-- what is put in that was not in makes a list longer
pub grew : (P : ℕ → Type 0) (xs ys : List ℕ) (x : ℕ) → Adds P xs ys → P x → (Contains xs x → ⊥) → length xs < length ys
grew P xs ys x a p none = longer x xs a.extends.more ys a.extends.is (a.all x p) none

-- what a round may change
pub same_rest : (a b : WakeState) → b.tables ≡ a.tables → b.told ≡ a.told → b.untold ≡ a.untold → b.writers ≡ a.writers → b.own ≡ a.own → b.noted ≡ a.noted → b.changed ≡ a.changed → b.early ≡ a.early → b ≡ record a { derived = b.derived; rounds = b.rounds; moves = b.moves; woken = b.woken }
same_rest a b tables told untold writers own noted changed early =
    λ i. record {
      tables = tables i;
      told = told i;
      untold = untold i;
      writers = writers i;
      own = own i;
      noted = noted i;
      changed = changed i;
      derived = b.derived;
      rounds = b.rounds;
      moves = b.moves;
      woken = b.woken;
      early = early i;
    }

module _ (n : ℕ) (a b : WakeState) (ready : List ℕ) (is : (x : ℕ) → Contains ready x ↔ (becomes_single a x ≡ true)) (one : 0 < length ready) (derived : Adds (Contains ready) a.derived b.derived) where
  first_ready : becomes_single a (get_or ready 0 0) ≡ true
  first_ready = (is (get_or ready 0 0)).0 (member_at ready 0 (get_or ready 0 0) one refl)

  pub next_round : b ≡ record a { derived = b.derived; rounds = b.rounds; moves = b.moves; woken = b.woken } → ((x : ℕ) → Contains ready x → get_or b.rounds x 0 ≡ n + 1) → ((x : ℕ) → (Contains ready x → ⊥) → get_or b.rounds x 0 ≡ get_or a.rounds x 0) → HasMoves b → IsNextRound n a b
  next_round rest now before moves =
      record {
        rest = rest;
        derived = λ x. (
          λ c. ⊎_elim (λ k. inl k) (λ r. inr ((is x).0 r)) (derived.only x c),
          ⊎_elim (λ k. extends_has a.derived b.derived x derived.extends k) (λ h. derived.all x ((is x).1 h)),
        );
        now = λ x h. now x ((is x).1 h);
        before = λ x h. before x (λ c. both_ways (becomes_single a x) h ((is x).0 c));
        some = (get_or ready 0 0, first_ready);
        moves = moves;
      }

  pub more_derived : length a.derived < length b.derived
  more_derived = grew (Contains ready) a.derived b.derived (get_or ready 0 0) derived (member_at ready 0 (get_or ready 0 0) one refl) (not_before a (get_or ready 0 0) first_ready)

-- nothing is ready
pub none_ready : (w : WakeState) (ready : List ℕ) → ((x : ℕ) → Contains ready x ↔ (becomes_single w x ≡ true)) → length ready ≡ 0 → (x : ℕ) → becomes_single w x ≡ false
none_ready w ready is none x = false_from_ne_true (becomes_single w x) (λ h. let c = (is x).1 h in omega (arith, c.1, none))

-- the test of a member, without the test that it is one
abbrev pub is_ready : WakeState → ℕ → Bool
is_ready w x = not (is_single w x) && is_written_by w (writer_at w x)

-- of the first members of what may move, these become single
pub record AreReady (w : WakeState) (members ready : List ℕ) : Type 0 where
  pub only : (x : ℕ) → Contains ready x → Contains members x × (is_ready w x ≡ true)
  pub all : (x : ℕ) → Contains members x → is_ready w x ≡ true → Contains ready x

pub ready_none : (w : WakeState) (members : List ℕ) → AreReady w (take 0 members) []
ready_none w members = record { only = λ x c. absurd (omega (arith, c.1)); all = λ x c. absurd (omega (arith, c.1)) }

pub ready_more : (w : WakeState) (members : List ℕ) (i : ℕ) (before after : List ℕ) → i < length members → Adds (IsItemWhere (is_ready w (get_or members i 0)) (get_or members i 0) None) before after → AreReady w (take i members) before → AreReady w (take (i + 1) members) after
ready_more w members i before after l adds so =
    let y = get_or members i 0 in
    let more : take (i + 1) members ≡ take i members ++ y ∷ [] = take_more members i 0 l in
    record {
      only = λ x c.
          ⊎_elim
          (λ k. let e = so.only x k in (subst (λ zs. Contains zs x) (sym more) (Contains-append_left (take i members) (y ∷ []) x e.0), e.1))
          (λ p. (subst (λ zs. Contains zs x) (sym more) (subst (Contains (take i members ++ y ∷ [])) p.1.0 (Contains-push (take i members) y)), subst (λ z. is_ready w z ≡ true) p.1.0 p.0))
          (adds.only x c);
      all = λ x c h.
          ⊎_elim
          (λ k. extends_has before after x adds.extends (so.all x k h))
          (λ e. adds.all x (subst (λ z. is_ready w z ≡ true) (sym e) h, (e, refl)))
          (Contains-push_cases (take i members) y x (subst (λ zs. Contains zs x) more c));
    }

pub all_ready : (w : WakeState) (ready : List ℕ) → AreReady w w.moves ready → (x : ℕ) → Contains ready x ↔ (becomes_single w x ≡ true)
all_ready w ready so x = (
  λ c. let e = so.only x c in and_from (is_in w.moves x) (is_ready w x) (is_in_from w.moves x e.0.0 e.0.1 e.0.2) e.1,
  λ h. let parts = and_parts (is_in w.moves x) (is_ready w x) h in so.all x (is_in_gives w.moves x parts.0) parts.1,
)
