-- The turns of a loop whose header has no fault.
use Rattle.std.proofs.Common.{◌≡◌, ◌∙◌, ℕ, Bool, true, false, not, ◌&&◌, ◌||◌, List, [], refl, sym, ap, if◌then◌else◌, Ok, Err}
use Rattle.cov_host.specs.declared.place.Place.{Place}
use Rattle.four_state.specs.Vector.{Vector}
use Rattle.verilog_tree.specs.Tree.{Header, Statement}
use Rattle.elab_const.specs.Calls.{told}
use Rattle.elab_const.specs.Loops.{turns_answer}
use Rattle.elab_const.specs.Scope.{fault_at}
use Rattle.elab_const.specs.declared.fault.ConstKind.{ConstKind}
use Rattle.flat_design.specs.Fault.{answer_faults, none}
use Rattle.flat_design.specs.Identifiers.{base_name}
use Rattle.flat_design.specs.Loops as loops
use Rattle.flat_design.specs.Loops.{header_faults, header_names_faulty, in_some_turn, turn_faults, values_of}
use Rattle.flat_design.specs.Scope.{Scope, names, with_turn}
use Rattle.flat_design.proofs.NoConstFaults.{both_none}
use Rattle.elab_build.specs.Sound.{IsClear}
use Rattle.elab_build.proofs.SoundTargets.{clear_names}
use Rattle.elab_bodies.specs.Sound.{InTurns, IsSoundStatement}
use Rattle.elab_bodies.proofs.ClearTurns.{clear_turn}

no_faulty : (a b c d : Bool) → a ≡ false → b ≡ false → c ≡ false → d ≡ false → (a || b || c || d) ≡ false
no_faulty a b c d p q r s = rw (p, q, r, s) refl

-- its header names nothing that has a fault
names_nothing_faulty : (g : Scope) (h : Header) → IsClear g → header_names_faulty g h ≡ false
names_nothing_faulty g h clear =
    let turn : IsClear (in_some_turn h g) = clear_turn (base_name h.name).name _ g clear in
    no_faulty _ _ _ _ (clear_names g clear h.name) (clear_names g clear h.first) (clear_names (in_some_turn h g) turn h.test) (clear_names (in_some_turn h g) turn h.step)

answer_if : {A : Type 0} (a b : Bool) (r s : A) → a ≡ true → b ≡ false → (if a && not b then r else s) ≡ r
answer_if a b r s p q = rw (p, q) refl

-- so its turns are those of its constants
sound_answer : (g : Scope) (h : Header) → IsClear g → none (turn_faults g h) ≡ true → loops.answer g h ≡ told (turns_answer (names g) h)
sound_answer g h clear sound =
    answer_if (none (header_faults g h)) (header_names_faulty g h) (told (turns_answer (names g) h)) (Ok []) (both_none (header_faults g h) (answer_faults (loops.answer g h)) sound).0 (names_nothing_faulty g h clear)

-- the turns that were found
pub found_turns : (g : Scope) (h : Header) (vs : List Vector) → IsClear g → none (turn_faults g h) ≡ true → turns_answer (names g) h ≡ Ok vs → vs ≡ loops.turns g h
found_turns g h vs clear sound found = sym (ap values_of (sound_answer g h clear sound ∙ ap told found))

-- no fault is found
pub no_turn_fault : (g : Scope) (h : Header) (k : ConstKind) (p : Place) → IsClear g → none (turn_faults g h) ≡ true → turns_answer (names g) h ≡ Err (fault_at k p) → ⊥
no_turn_fault g h k p clear sound found =
    let answer = sound_answer g h clear sound ∙ ap told found in
    let tells = (both_none (header_faults g h) (answer_faults (loops.answer g h)) sound).1 in
    let told_none = rw answer at tells in
    absurd (cc told_none)

-- its turns are sound, by equal values, names and bodies
pub same_sound : (vs ws : List Vector) (x y : List ℕ) (g : Scope) (s r : Statement) → vs ≡ ws → x ≡ y → s ≡ r → InTurns ws (λ v. IsSoundStatement (with_turn y v g) r) → InTurns vs (λ v. IsSoundStatement (with_turn x v g) s)
same_sound vs ws x y g s r p q e sound = rw (p, q, e) sound
