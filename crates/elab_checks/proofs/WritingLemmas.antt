-- What the parts of a target write, one after another.
use Rattle.std.proofs.Common.{◌≡◌, refl, sym, ap, ◌∙◌, ℕ, Bool, true, false, not, ◌||◌, if◌then◌else◌, List, [], ◌∷◌, map, Option, Some, None}
use Rattle.std.specs.List.{list_any}
use Rattle.cov_host.specs.declared.place.Place.{Place}
use Rattle.verilog_tree.specs.Tree.{Expr, concatenation, Exprs, no_exprs, an_expr}
use Rattle.flat_design.specs.Bodies.{Met, met_writing, met_writings}
use Rattle.flat_design.specs.Expressions.{faults}
use Rattle.flat_design.specs.Fault.{Fault, none}
use Rattle.flat_design.specs.Identifiers.{identifiers, all_identifiers, base_name}
use Rattle.flat_design.specs.Processes.{is_signal_entry}
use Rattle.flat_design.specs.Scope.{Scope, is_faulty_entry, look_up, names_faulty}
use Rattle.flat_design.specs.Targets.{Writing, all_target_faults, fixed_faults, leaf_faults, leaves, target_faults, writing_of}
use Rattle.flat_design.specs.declared.entry.Entry.{Entry}
use Rattle.flat_design.specs.declared.entry.Entry.TheVariants.{Signal}
use Rattle.flat_design.specs.declared.entry.Mode.{Mode}
use Rattle.flat_design.specs.declared.entry.Mode.TheVariants.{Continuous, Combinational, Clocked}
use Rattle.elab_scope.specs.View.{writing_view}
use Rattle.elab_scope.specs.declared.tally.Written.{Written}
use Rattle.elab_checks.specs.Writings.{EachTarget, HasSoundSignal, IsTarget, is_single}
use Rattle.flat_design.proofs.NoConstFaults.{both_none, neither}

-- what a list has after a fault that does not hold
none_unless : (b : Bool) (f : Fault) (xs : List Fault) → none (if b then f ∷ [] else xs) ≡ true → none xs ≡ true
none_unless true f xs e = absurd cc
none_unless false f xs e = e

-- a target that is a signal, or a select of one, has no fault as an expression
signal_leaf : (g : Scope) (mode : Mode) (o : Option Entry) (e : Expr) → is_signal_entry o ≡ true → none (leaf_faults g mode o e) ≡ true → none (faults g e) ≡ true
signal_leaf g mode None e is f = absurd cc
signal_leaf g Continuous (Some (Signal s)) e is f = (both_none (faults g e) (fixed_faults g e) (none_unless (s.input || not s.net) _ _ f)).0
signal_leaf g Combinational (Some (Signal s)) e is f = none_unless (s.input || s.net) _ _ f
signal_leaf g Clocked (Some (Signal s)) e is f = none_unless (s.input || s.net) _ _ f
signal_leaf g mode (Some _) e is f = absurd cc

pub single_target : (g : Scope) (e : Expr) → is_single e ≡ true → IsTarget g e → HasSoundSignal g e
single_target g (concatenation p es) one t = absurd cc
single_target g e one t = λ is. signal_leaf g t.0.0 (look_up g (base_name e).name) e is t.0.1

-- the parts of a concatenation without a fault have none
pub joined_targets : (g : Scope) (p : Place) (es : Exprs) → IsTarget g (concatenation p es) → EachTarget g es
joined_targets g p es t = go es (both_none (all_target_faults g t.0.0 es) _ t.0.1).0 t.1
  where
    go : (es : Exprs) → none (all_target_faults g t.0.0 es) ≡ true → list_any (λ x. is_faulty_entry (look_up g x.name)) (all_identifiers es) ≡ false → EachTarget g es
    go no_exprs f n = tt
    go (an_expr e es) f n =
        let sound = both_none (target_faults g t.0.0 e) (all_target_faults g t.0.0 es) f in
        let known = neither (λ x. is_faulty_entry (look_up g x.name)) (identifiers e) (all_identifiers es) n in
        (((t.0.0, sound.0), known.0), go es sound.1 known.1)

-- what is met of writings
abbrev pub all_met : List Written → List Met
all_met ws = map (λ w. met_writing (writing_view w)) ws

met_again : (f : Expr → Writing) (ws : List Written) (es : List Expr) → map writing_view ws ≡ map f es → all_met ws ≡ map (λ e. met_writing (f e)) es
met_again f ws es e = map-twice writing_view met_writing ws ∙ ap (map met_writing) e ∙ sym (map-twice f met_writing es)
  where
    map-twice : {A B C : Type 0} (f : A → B) (h : B → C) (xs : List A) → map (λ x. h (f x)) xs ≡ map h (map f xs)
    map-twice f h [] = refl
    map-twice f h (x ∷ xs) = ap (λ ys. h (f x) ∷ ys) (map-twice f h xs)

-- what is met of a target without a fault
pub met_is : (g : Scope) (mode : Mode) (b c : Bool) (k : ℕ) (e : Expr) (ws : List Written) → none (target_faults g mode e) ≡ true → names_faulty g e ≡ false → map writing_view ws ≡ map (writing_of g b c k) (leaves e) → all_met ws ≡ met_writings g mode b c k e
met_is g mode b c k e ws sound known is = rw (sound, known) (met_again (writing_of g b c k) ws (leaves e) is)
