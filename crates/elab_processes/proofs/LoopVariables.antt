-- What the variable of a loop means, outside its turns and in one.
use Rattle.std.proofs.Common.{◌≡◌, ℕ, ◌<◌, Bool, true, false, List, [], ◌∷◌, Option, Some, None, length, refl, sym, ap, ◌∙◌, inl, inr, arith}
use Rattle.std.specs.Prelude.{◌&&◌, bytes_eq, if◌then◌else◌, not}
use Rattle.std.proofs.lemmas.Bool.{cases_Bool}
use Rattle.std.proofs.lemmas.Slice.Eq.{bytes_eq-Decides}
use Rattle.cov_host.specs.declared.place.Place.{Place}
use Rattle.four_state.specs.Vector.{Vector}
use Rattle.verilog_tree.specs.Tree.{Expr, identifier, Header}
use Rattle.verilog_tree.specs.declared.item.Named.{Named}
use Rattle.flat_design.specs.Fault.{none, of_constant}
use Rattle.flat_design.specs.Identifiers.{base_name}
use Rattle.flat_design.specs.Loops as loops
use Rattle.flat_design.specs.Loops.{is_identifier, is_over_one_name, named_faults, over_faults, variable_faults}
use Rattle.elab_const.specs.declared.fault.ConstKind.TheVariants.{LoopNotConstant}
use Rattle.flat_design.specs.Scope.{Scope, is_faulty_entry, look_up, names_faulty, with_turn}
use Rattle.flat_design.specs.declared.entry.Entry.{Entry}
use Rattle.flat_design.specs.declared.entry.Entry.TheVariants.{Turn as a_turn, LoopVariable as a_loop_variable, Faulty as a_faulty_one}
use Rattle.flat_design.proofs.NoConstFaults.{both_false, both_true}
use Rattle.elab_checks.specs.Turns.{is_sound, outer_faults, outer_names_faulty}
use Rattle.elab_checks.proofs.ExpressionLemmas.{none_append}
use Rattle.elab_checks.proofs.TurnLemmas.{no_turns}

-- a plain name that has no fault of a declaration
name_sound : (g : Scope) (e : Expr) → is_identifier e ≡ true → names_faulty g e ≡ false → is_faulty_entry (look_up g (base_name e).name) ≡ false
name_sound g (identifier p x) is known = (both_false (is_faulty_entry (look_up g x)) false known).0
name_sound g e is known = absurd cc

-- a name over which a loop may go, unless its declaration has a fault
variable_is : (o : Option Entry) (p : Place) (x : Named) → none (variable_faults o p x) ≡ true → is_faulty_entry o ≡ false → o ≡ Some a_loop_variable
variable_is (Some a_loop_variable) p x sound known = refl
variable_is (Some a_faulty_one) p x sound known = absurd cc
variable_is (Some (a_turn v)) p x sound known = absurd cc
variable_is None p x sound known = absurd cc
variable_is (Some e) p x sound known = absurd cc

over_is : (g : Scope) (h : Header) (over : Bool) → is_over_one_name h ≡ over → none (if over then variable_faults (look_up g (base_name h.name).name) h.place (base_name h.name) else of_constant LoopNotConstant h.place ∷ []) ≡ true → (over ≡ true) × (none (variable_faults (look_up g (base_name h.name).name) h.place (base_name h.name)) ≡ true)
over_is g h true is sound = (refl, sound)
over_is g h false is sound = absurd cc

-- the name of a sound header is that of a loop variable
sound_variable : (g : Scope) (h : Header) → is_sound g h ≡ true → look_up g (base_name h.name).name ≡ Some a_loop_variable
sound_variable g h sound =
    let outer = (both_true (none (outer_faults g h) && not (outer_names_faulty g h)) _ sound).0 in
    let parts = both_true (none (outer_faults g h)) (not (outer_names_faulty g h)) outer in
    let told : none (over_faults g h) ≡ true = (both_true (none (over_faults g h)) (none (named_faults g h.place h.first)) (sym (none_append (over_faults g h) (named_faults g h.place h.first)) ∙ parts.0)).0 in
    let known : names_faulty g h.name ≡ false = (both_false (names_faulty g h.name) (names_faulty g h.first) (is_false (outer_names_faulty g h) parts.1)).0 in
    let over = over_is g h (is_over_one_name h) refl told in
    let plain : is_identifier h.name ≡ true = (both_true (is_identifier h.name) _ (both_true (is_identifier h.name && is_identifier h.target) _ over.0).0).0 in
    variable_is (look_up g (base_name h.name).name) h.place (base_name h.name) over.1 (name_sound g h.name plain known)
  where
    is_false : (b : Bool) → not b ≡ true → b ≡ false
    is_false false e = refl
    is_false true e = absurd cc

-- so is that of a loop that has a turn
pub turn_variable : (g : Scope) (h : Header) (i : ℕ) → i < length (loops.turns g h) → look_up g (base_name h.name).name ≡ Some a_loop_variable
turn_variable g h i within =
    elim (cases_Bool (is_sound g h)) [
      | inl sound ↦ sound_variable g h sound
      | inr fails ↦ let none_left : i < 0 = rw (no_turns g h fails) at within in absurd (omega arith)
    ]

-- what does not distinguish a turn and a loop variable says the same of each name in a turn
pub same_in_turn : {A : Type 0} (F : Option Entry → A) (g : Scope) (x : List ℕ) (v : Vector) → F (Some (a_turn v)) ≡ F (Some a_loop_variable) → look_up g x ≡ Some a_loop_variable →
    (y : List ℕ) → F (look_up (with_turn x v g) y) ≡ F (look_up g y)
same_in_turn F g x v same is y =
    elim (cases_Bool (bytes_eq y x)) [
      | inl here ↦ ap (λ b. F (if b then Some (a_turn v) else g y)) here ∙ same ∙ sym (ap F (ap g ((bytes_eq-Decides y x).0 here) ∙ is))
      | inr other ↦ ap (λ b. F (if b then Some (a_turn v) else g y)) other
    ]
