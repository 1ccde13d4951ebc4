-- Tests of states and arcs.
use Rattle.std.proofs.Common.{◌≡◌, ◌≢◌, ◌∙◌, ℕ, ◌+◌, ◌==◌, ◌&&◌, ◌||◌, nat_lt, Bool, true, false, List, Option, refl, ap, ap₂, arith}
use Rattle.std.proofs.lemmas.Bool.{eq-eqb, eqb-true, false≢true}
use Rattle.std.proofs.lemmas.Bool.Decides.{nat_tests}
use Rattle.cover_points.specs.declared.machine_point.MachinePoint.{MachinePoint}
use Rattle.cover_points.specs.declared.machine_point.MachinePoint.TheVariants.{Arc, State}
use Rattle.design_machines.specs.state_machines.Same.{bits_at}
use Rattle.four_state.specs.declared.bit.Bit.{Bit}
use Rattle.four_state.specs.Vector.{Vector}
use Rattle.mark_laws.specs.replay_model.Step.{are_surely, may_be}
use Rattle.machine_marks.specs.Marked.{chances_from, chances_in, chances_of, is_arc_below, is_arc_from, is_arc_of, is_of_machine, is_point, is_state_of}

pub both_so : (a b : Bool) → (a && b) ≡ true → (a ≡ true) × (b ≡ true)
both_so true b h = (refl, h)
both_so false b h = absurd (false≢true h)

-- a state or an arc is itself
pub is_itself : (p : MachinePoint) → is_point p p ≡ true
is_itself (State k i) = ap₂ (λ a b. a && b) (eq-eqb k k refl) (eq-eqb i i refl)
is_itself (Arc k i j) = ap₂ (λ a b. a && b) (eq-eqb k k refl) (ap₂ (λ a b. a && b) (eq-eqb i i refl) (eq-eqb j j refl))

-- and no other one
pub is_same : (p q : MachinePoint) → is_point p q ≡ true → p ≡ q
is_same (State k i) (State m j) h = let b = both_so (k == m) (i == j) h in ap₂ State (eqb-true k m b.0) (eqb-true i j b.1)
is_same (State k i) (Arc m j b) h = absurd (false≢true h)
is_same (Arc k i a) (State m j) h = absurd (false≢true h)
is_same (Arc k i a) (Arc m j b) h =
    let t = both_so (k == m) ((i == j) && (a == b)) h in
    let u = both_so (i == j) (a == b) t.1 in
    ap (λ n. Arc n i a) (eqb-true k m t.0) ∙ ap (λ n. Arc m n a) (eqb-true i j u.0) ∙ ap (Arc m j) (eqb-true a b u.1)

-- one number more
pub lt_more : (j i : ℕ) → nat_lt j (i + 1) ≡ (nat_lt j i || (i == j))
lt_more j i = grind (arith, nat_tests)

-- it is not below itself
pub not_below : (i : ℕ) → nat_lt i i ≡ false
not_below i = grind (arith, nat_tests)

pub and_or : (a b c : Bool) → (a && (b || c)) ≡ ((a && b) || (a && c))
and_or true b c = refl
and_or false b c = refl

-- the states up to one more
pub next_states : (k i : ℕ) (q : MachinePoint) → is_state_of k (i + 1) q ≡ (is_state_of k i q || is_point (State k i) q)
next_states k i (State m j) = ap (λ b. (k == m) && b) (lt_more j i) ∙ and_or (k == m) (nat_lt j i) (i == j)
next_states k i (Arc m j b) = refl

pub state_apart : (k i : ℕ) (q : MachinePoint) → is_state_of k i q ≡ true → is_point (State k i) q ≡ true → ⊥
state_apart k i (State m j) a b = let below = both_so (k == m) (nat_lt j i) a in let same = both_so (k == m) (i == j) b in grind (arith, nat_tests)
state_apart k i (Arc m j b) a e = false≢true a

pub no_states : (k : ℕ) (q : MachinePoint) → is_state_of k 0 q ≡ false
no_states k (State m j) = grind (arith, nat_tests)
no_states k (Arc m j b) = refl

-- the arcs that leave a state, up to one state more
pub next_arcs : (k i from : ℕ) (q : MachinePoint) → is_arc_from k (i + 1) from q ≡ (is_arc_from k i from q || is_point (Arc k from i) q)
next_arcs k i from (State m j) = refl
next_arcs k i from (Arc m a b) =
    ap (λ t. (k == m) && ((from == a) && t)) (lt_more b i) ∙ ap (λ t. (k == m) && t) (and_or (from == a) (nat_lt b i) (i == b)) ∙ and_or (k == m) ((from == a) && nat_lt b i) ((from == a) && (i == b))

pub arc_apart : (k i from : ℕ) (q : MachinePoint) → is_arc_from k i from q ≡ true → is_point (Arc k from i) q ≡ true → ⊥
arc_apart k i from (State m j) a b = false≢true a
arc_apart k i from (Arc m x y) a b =
    let t = both_so (k == m) ((from == x) && nat_lt y i) a in
    let below = both_so (from == x) (nat_lt y i) t.1 in
    let u = both_so (k == m) ((from == x) && (i == y)) b in
    let same = both_so (from == x) (i == y) u.1 in
    grind (arith, nat_tests)

pub no_arcs_from : (k from : ℕ) (q : MachinePoint) → is_arc_from k 0 from q ≡ false
no_arcs_from k from (State m j) = refl
no_arcs_from k from (Arc m a b) = grind (arith, nat_tests)

-- the arcs that leave states, up to one state more
pub next_left : (k n i : ℕ) (q : MachinePoint) → is_arc_below k n (i + 1) q ≡ (is_arc_below k n i q || is_arc_from k n i q)
next_left k n i (State m j) = refl
next_left k n i (Arc m a b) = ap (λ t. (k == m) && (t && nat_lt b n)) (lt_more a i) ∙ spread (k == m) (nat_lt a i) (i == a) (nat_lt b n)
  where
    spread : (x y z u : Bool) → (x && ((y || z) && u)) ≡ ((x && (y && u)) || (x && (z && u)))
    spread true true z u = or_true u z
      where
        or_true : (u z : Bool) → u ≡ (u || (z && u))
        or_true true z = refl
        or_true false true = refl
        or_true false false = refl
    spread true false z u = refl
    spread false y z u = refl

pub left_apart : (k n i : ℕ) (q : MachinePoint) → is_arc_below k n i q ≡ true → is_arc_from k n i q ≡ true → ⊥
left_apart k n i (State m j) a b = false≢true a
left_apart k n i (Arc m x y) a b =
    let t = both_so (k == m) (nat_lt x i && nat_lt y n) a in
    let below = both_so (nat_lt x i) (nat_lt y n) t.1 in
    let u = both_so (k == m) ((i == x) && nat_lt y n) b in
    let same = both_so (i == x) (nat_lt y n) u.1 in
    grind (arith, nat_tests)

pub no_arcs : (k n : ℕ) (q : MachinePoint) → is_arc_below k n 0 q ≡ false
no_arcs k n (State m j) = refl
no_arcs k n (Arc m a b) = grind (arith, nat_tests)

-- the states and arcs of a machine are its states, and its arcs
pub of_both : (k n : ℕ) (q : MachinePoint) → is_of_machine k n q ≡ (is_state_of k n q || is_arc_of k n q)
of_both k n (State m j) = or_false (is_state_of k n (State m j))
  where
    or_false : (b : Bool) → b ≡ (b || false)
    or_false true = refl
    or_false false = refl
of_both k n (Arc m a b) = refl

pub kinds_apart : (k n : ℕ) (q : MachinePoint) → is_state_of k n q ≡ true → is_arc_of k n q ≡ true → ⊥
kinds_apart k n (State m j) a b = false≢true b
kinds_apart k n (Arc m x y) a b = false≢true a

-- how sure an arc is that leaves one state
pub from_chances : (k n i : ℕ) (vs : List Vector) (old now : List (Option Bit)) (sure possible : Bool) → sure ≡ are_surely old (bits_at vs i) → possible ≡ may_be old (bits_at vs i) → (q : MachinePoint) → is_arc_from k n i q ≡ true
    → chances_from sure possible vs now q ≡ chances_of vs old now q
from_chances k n i vs old now sure possible e f (State m j) h = absurd (false≢true h)
from_chances k n i vs old now sure possible e f (Arc m x y) h =
    let t = both_so (k == m) ((i == x) && nat_lt y n) h in
    let same : i ≡ x = eqb-true i x (both_so (i == x) (nat_lt y n) t.1).0 in
    ap₂ (λ (a b : Bool). record { sure = a && are_surely now (bits_at vs y); possible = b && may_be now (bits_at vs y) }) (e ∙ ap (λ j. are_surely old (bits_at vs j)) same) (f ∙ ap (λ j. may_be old (bits_at vs j)) same)

-- how sure a state is asks only of the end of the step
pub state_chances : (k n : ℕ) (vs : List Vector) (old now : List (Option Bit)) (q : MachinePoint) → is_state_of k n q ≡ true → chances_of vs now now q ≡ chances_of vs old now q
state_chances k n vs old now (State m j) h = refl
state_chances k n vs old now (Arc m x y) h = absurd (false≢true h)

-- how sure an arc is does not ask whether the time is listed
pub arc_chances : (listed : Bool) (k n : ℕ) (vs : List Vector) (old now : List (Option Bit)) (q : MachinePoint) → is_arc_of k n q ≡ true → chances_of vs old now q ≡ chances_in listed vs old now q
arc_chances true k n vs old now q h = refl
arc_chances false k n vs old now (State m j) h = absurd (false≢true h)
arc_chances false k n vs old now (Arc m x y) h = refl
