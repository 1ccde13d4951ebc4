-- Where no fault is met nothing is wrong.
use Rattle.std.proofs.Common.{◌≡◌, ℕ, Bool, true, false, List, [], ◌∷◌, ◌++◌, refl}
use Rattle.std.specs.List.{list_any}
use Rattle.cov_host.specs.declared.place.Place.{Place}
use Rattle.four_state.specs.Vector.{Vector}
use Rattle.verilog_tree.specs.declared.item.Named.{Named}
use Rattle.verilog_tree.specs.declared.item.When.{When}
use Rattle.verilog_tree.specs.Tree.{Expr, Exprs, no_exprs, an_expr, Statement, sequential_block, if_statement, case_statement, for_loop, assignment, system_task, null_statement, Statements, no_statements, a_statement, CaseItems, no_items, case_item}
use Rattle.flat_design.specs.Bodies.{Met, met_fault, met_process, met_text, met_writing, met_faults, met_writings, met_turns, met, all_met, items_met, in_turn}
use Rattle.flat_design.specs.Expressions.{faults, all_faults}
use Rattle.flat_design.specs.Fault.{Fault, none}
use Rattle.flat_design.specs.Identifiers.{base_name}
use Rattle.flat_design.specs.Loops.{turn_faults, turns, turns_size}
use Rattle.flat_design.specs.Processes.{continuous, always, joined_input, joined_output, self_faults, when_faults, mixed_faults, writings, incomplete_faults, mode_of, whole_writing}
use Rattle.flat_design.specs.Scope.{Scope}
use Rattle.flat_design.specs.Targets.{target_faults}
use Rattle.flat_design.specs.declared.entry.Mode.{Mode}
use Rattle.flat_design.specs.declared.entry.Mode.TheVariants.{Continuous}
use Rattle.flat_design.specs.declared.entry.SignalEntry.{SignalEntry}
use Rattle.flat_design.proofs.NoConstFaults.{both_none, neither}
use Rattle.elab_build.specs.Sound.{IsSound, AreSound, IsClear, IsSoundTarget}
use Rattle.elab_build.proofs.SoundTargets.{clear_sound}
use Rattle.elab_bodies.specs.Sound.{InTurns, IsSoundStatement, AreSoundStatements, AreSoundItems}
use Rattle.elab_bodies.proofs.ClearTurns.{clear_turn}

-- a fault
abbrev pub is_fault : Met → Bool
is_fault (met_fault f) = true
is_fault _ = false

-- nothing that was met is a fault
abbrev pub IsFree : List Met → Type 0
IsFree ms = list_any is_fault ms ≡ false

pub free_both : (xs ys : List Met) → IsFree (xs ++ ys) → IsFree xs × IsFree ys
free_both xs ys free = neither is_fault xs ys free

pub free_faults : (fs : List Fault) → IsFree (met_faults fs) → none fs ≡ true
free_faults [] free = refl
free_faults (f ∷ fs) free = absurd cc

-- what holds of each turn in which no fault is met
free_turns : (vs : List Vector) (f : Vector → List Met) (P : Vector → Type 0) → ((v : Vector) → IsFree (f v) → P v) → IsFree (met_turns vs f) → InTurns vs P
free_turns [] f P each free = tt
free_turns (v ∷ vs) f P each free =
    let both = free_both (f v) (met_turns vs f) free in
    (each v both.0, free_turns vs f P each both.1)

sound_labels : (g : Scope) (es : Exprs) → IsClear g → none (all_faults g es) ≡ true → AreSound g es
sound_labels g no_exprs clear free = tt
sound_labels g (an_expr e es) clear free =
    let both = both_none (faults g e) (all_faults g es) free in
    (clear_sound g clear e both.0, sound_labels g es clear both.1)

-- a statement in which no fault is met
mutual
  pub sound_of_met : (g : Scope) (mode : Mode) (k : ℕ) (s : Statement) → IsClear g → IsFree (met g mode k s) → IsSoundStatement g s
  sound_of_met g mode k (sequential_block p ss) clear free = all_sound g mode k ss clear free
  sound_of_met g mode k (if_statement p c s other) clear free =
      let behind = free_both (met_faults (faults g c) ++ met g mode k s) (all_met g mode k other) free in
      let before = free_both (met_faults (faults g c)) (met g mode k s) behind.0 in
      (clear_sound g clear c (free_faults (faults g c) before.0), sound_of_met g mode k s clear before.1, all_sound g mode k other clear behind.1)
  sound_of_met g mode k (case_statement p kind e is) clear free =
      let both = free_both (met_faults (faults g e)) (items_met g mode k is) free in
      (clear_sound g clear e (free_faults (faults g e) both.0), items_sound g mode k is clear both.1)
  sound_of_met g mode k (for_loop p h s) clear free =
      let both = free_both (met_faults (turn_faults g h)) (met_text h.place (turns_size g h) ∷ met_turns (turns g h) (λ v. met (in_turn h v g) mode k s)) free in
      let each : (v : Vector) → IsFree (met (in_turn h v g) mode k s) → IsSoundStatement (in_turn h v g) s = λ v f. sound_of_met (in_turn h v g) mode k s (clear_turn (base_name h.name).name v g clear) f in
      (free_faults (turn_faults g h) both.0, free_turns (turns g h) (λ v. met (in_turn h v g) mode k s) (λ v. IsSoundStatement (in_turn h v g) s) each both.1)
  sound_of_met g mode k (assignment p x blocking v) clear free =
      let both = free_both (met_faults (target_faults g mode x ++ faults g v)) (met_writings g mode blocking false k x) free in
      let parts = both_none (target_faults g mode x) (faults g v) (free_faults (target_faults g mode x ++ faults g v) both.0) in
      ((mode, parts.0), clear_sound g clear v parts.1)
  sound_of_met g mode k (system_task p) clear free = tt
  sound_of_met g mode k (null_statement p) clear free = tt

  pub all_sound : (g : Scope) (mode : Mode) (k : ℕ) (ss : Statements) → IsClear g → IsFree (all_met g mode k ss) → AreSoundStatements g ss
  all_sound g mode k no_statements clear free = tt
  all_sound g mode k (a_statement s ss) clear free =
      let both = free_both (met g mode k s) (all_met g mode k ss) free in
      (sound_of_met g mode k s clear both.0, all_sound g mode k ss clear both.1)

  pub items_sound : (g : Scope) (mode : Mode) (k : ℕ) (is : CaseItems) → IsClear g → IsFree (items_met g mode k is) → AreSoundItems g is
  items_sound g mode k no_items clear free = tt
  items_sound g mode k (case_item labels s is) clear free =
      let behind = free_both (met_faults (all_faults g labels) ++ met g mode k s) (items_met g mode k is) free in
      let before = free_both (met_faults (all_faults g labels)) (met g mode k s) behind.0 in
      (sound_labels g labels clear (free_faults (all_faults g labels) before.0), sound_of_met g mode k s clear before.1, items_sound g mode k is clear behind.1)

-- a continuous assignment with which no fault is met
pub sound_continuous : (base : ℕ) (g : Scope) (i k : ℕ) (p : Place) (x v : Expr) (n : ℕ) → IsClear g → IsFree (continuous base g i k p x v n).met → IsSoundTarget g x × IsSound g v
sound_continuous base g i k p x v n clear free =
    let own : List Met = met_faults (target_faults g Continuous x ++ faults g v) in
    let writes : List Met = met_writings g Continuous true true k x in
    let front = free_both (met_process p ∷ own ++ writes) (met_faults (self_faults g x v)) free in
    let told = free_both (met_process p ∷ own) writes front.0 in
    let parts = both_none (target_faults g Continuous x) (faults g v) (free_faults (target_faults g Continuous x ++ faults g v) told.0) in
    ((Continuous, parts.0), clear_sound g clear v parts.1)

-- an always block with which none is
pub sound_always : (base : ℕ) (g : Scope) (i k : ℕ) (p : Place) (w : When) (s : Statement) (l n : ℕ) → IsClear g → IsFree (always base g i k p w s l n).met → IsSoundStatement g s
sound_always base g i k p w s l n clear free =
    let body : List Met = met g (mode_of w) k s in
    let rest : List Met = met_faults (mixed_faults (writings body) ++ incomplete_faults g w s) in
    let front = free_both (met_faults (when_faults g w) ++ body ++ rest) (met_process p ∷ []) free in
    let told = free_both (met_faults (when_faults g w) ++ body) rest front.0 in
    sound_of_met g (mode_of w) k s clear (free_both (met_faults (when_faults g w)) body told.0).1

-- an input that is joined to an expression
pub sound_joined_input : (base : ℕ) (g : Scope) (i k : ℕ) (p : Place) (label : Named) (s : SignalEntry) (e : Expr) → IsClear g → IsFree (joined_input base g i k p label s e).met → IsSound g e
sound_joined_input base g i k p label s e clear free =
    clear_sound g clear e (free_faults (faults g e) (free_both (met_process p ∷ met_faults (faults g e)) (met_writing (whole_writing k label s) ∷ []) free).0)

-- an output that is joined to a target
pub sound_joined_output : (base : ℕ) (g : Scope) (i k : ℕ) (p : Place) (s : SignalEntry) (e : Expr) → IsClear g → IsFree (joined_output base g i k p s e).met → IsSoundTarget g e
sound_joined_output base g i k p s e clear free =
    (Continuous, free_faults (target_faults g Continuous e) (free_both (met_process p ∷ met_faults (target_faults g Continuous e)) (met_writings g Continuous true true k e) free).0)
