-- The faults of expressions that must be constant, in the order in which they are reported.
use Rattle.std.proofs.Common.{◌≡◌, refl, ap, Bool, true, false, ◌&&◌, if◌then◌else◌, List, [], ◌∷◌, ◌++◌, is_none, Option, Some, None}
use Rattle.std.specs.List.{list_all, list_any}
use Rattle.verilog_tree.specs.Tree.{Expr}
use Rattle.verilog_tree.specs.declared.item.Named.{Named}
use Rattle.flat_design.specs.Expressions.{constant_faults, is_no_constant, is_sound_constant}
use Rattle.flat_design.specs.Fault.{Fault, none}
use Rattle.flat_design.specs.Identifiers.{identifiers}
use Rattle.flat_design.specs.Scope.{Scope, look_up, names_constants, is_constant_entry}
use Rattle.flat_design.specs.declared.entry.Entry.{Entry}
use Rattle.flat_design.specs.declared.entry.Entry.TheVariants.{Constant as a_constant, Turn as a_turn}
use Rattle.elab_scope.specs.Tally.{Tally, after_faults}
use Rattle.elab_checks.proofs.ExpressionLemmas.{missing, met_then, none_then_both}
use Rattle.flat_design.proofs.NoConstFaults.{both_true}

-- constants are declared
known_constant : (o : Option Entry) → is_constant_entry o ≡ true → (is_none o ≡ false) × (is_no_constant o ≡ false)
known_constant None a = absurd cc
known_constant (Some (a_constant v)) a = (refl, refl)
known_constant (Some (a_turn v)) a = (refl, refl)
known_constant (Some _) a = absurd cc

none_missing : (g : Scope) (xs : List Named) → list_all (λ x. is_constant_entry (look_up g x.name)) xs ≡ true → missing g xs ≡ []
none_missing g [] a = refl
none_missing g (x ∷ xs) a =
    let p = both_true (is_constant_entry (look_up g x.name)) (list_all (λ x. is_constant_entry (look_up g x.name)) xs) a in
    rw ((known_constant (look_up g x.name) p.0).0, none_missing g xs p.1) refl

none_other : (g : Scope) (xs : List Named) → list_all (λ x. is_constant_entry (look_up g x.name)) xs ≡ true → list_any (λ x. is_no_constant (look_up g x.name)) xs ≡ false
none_other g [] a = refl
none_other g (x ∷ xs) a =
    let p = both_true (is_constant_entry (look_up g x.name)) (list_all (λ x. is_constant_entry (look_up g x.name)) xs) a in
    rw ((known_constant (look_up g x.name) p.0).1, none_other g xs p.1) refl

-- the faults of what names constants alone
pub constant_faults_are : (g : Scope) (e : Expr) (fs : List Fault) → names_constants g e ≡ true → constant_faults g e fs ≡ fs
constant_faults_are g e fs a = rw (none_missing g (identifiers e) a, none_other g (identifiers e) a) refl

-- it is sound where it has no fault as a constant
pub sound_is : (g : Scope) (e : Expr) (fs : List Fault) → is_sound_constant g e fs ≡ (none (constant_faults g e fs) && names_constants g e)
sound_is g e fs = go (names_constants g e) (constant_faults_are g e fs)
  where
    go : (c : Bool) → (c ≡ true → constant_faults g e fs ≡ fs) → (c && none fs) ≡ (none (constant_faults g e fs) && c)
    go true same = rw (same refl) (last (none fs))
      where
        last : (b : Bool) → b ≡ (b && true)
        last true = refl
        last false = refl
    go false same = never (none (constant_faults g e fs))
      where
        never : (b : Bool) → false ≡ (b && false)
        never true = refl
        never false = refl

append_none : (xs : List Fault) → xs ++ [] ≡ xs
append_none [] = refl
append_none (x ∷ xs) = ap (λ ys. x ∷ ys) (append_none xs)

-- what is reported where the test does not hold, and where it does
pub stops : (t u : Tally) (s : Bool) (xs ys : List Fault) (test : Bool) → u ≡ after_faults t xs → s ≡ none xs → test ≡ false →
    (u ≡ after_faults t (xs ++ (if test then ys else []))) × (s ≡ none (xs ++ (if test then ys else [])))
stops t u s xs ys test p q e = rw (e, append_none xs) (p, q)

pub goes_on : (t u v : Tally) (s r : Bool) (xs ys : List Fault) (test : Bool) → u ≡ after_faults t xs → s ≡ none xs → s ≡ true → v ≡ after_faults u ys → r ≡ none ys → test ≡ true →
    (v ≡ after_faults t (xs ++ (if test then ys else []))) × (r ≡ none (xs ++ (if test then ys else [])))
goes_on t u v s r xs ys test p q sound a b e = rw e (met_then t u v xs ys p a, rw sound at (none_then_both s r xs ys q b))
