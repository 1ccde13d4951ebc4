-- The type of a parameter, by its range without a fault.
use Rattle.std.proofs.Common.{◌≡◌, Bool, true, Option, Some, None, refl, ap, ◌∙◌, false, not, List}
use Rattle.std.specs.Prelude.{if◌then◌else◌, ◌&&◌, unwrap_or, bytes_eq}
use Rattle.std.specs.Prelude as std
use Rattle.std.specs.Option.{option_map}
use Rattle.four_state.specs.Vector.{Vector, extend}
use Rattle.verilog_tree.specs.Tree.{Param, RangeExpr}
use Rattle.flat_design.specs.Declarations.{Override, is_sound_vector, override_or, param_entry, param_faults, range_value, ranged_value, typed_value, vector_faults}
use Rattle.flat_design.specs.Expressions.{constant_faults, faults}
use Rattle.flat_design.specs.Fault.{none}
use Rattle.flat_design.specs.declared.entry.Entry.TheVariants.{Constant, Faulty}
use Rattle.flat_design.specs.Scope.{Scope, constant, names_faulty}
use Rattle.elab_declarations.specs.Typed.{entry_given, ranged_as, typed_as}
use Rattle.elab_declarations.proofs.BoundLemmas.{and_false, none_append}
use Rattle.flat_design.proofs.NoConstFaults.{both_true, none_both}

ranged_is : (g : Scope) (r : Option RangeExpr) (signed : Bool) (v : Vector) → is_sound_vector g r ≡ true → ranged_as (range_value g r) signed v ≡ ranged_value g r signed v
ranged_is g None signed v h = refl
ranged_is g (Some r) signed v h = rw h refl

-- the value that the definition says
pub typed_is : (g : Scope) (p : Param) (v : Vector) → is_sound_vector g p.range ≡ true → typed_as p.integer (range_value g p.range) p.signed v ≡ typed_value g p v
typed_is g p v h =
    let integer : Vector = record { bits = extend 32 v.signed v.bits; signed = true } in
    ap (λ w. if p.integer then integer else w) (ranged_is g p.range p.signed v h)

-- a sound vector has no fault
pub clean_vector : (g : Scope) (r : Option RangeExpr) → is_sound_vector g r ≡ true → none (vector_faults g r) ≡ true
clean_vector g None h = refl
clean_vector g (Some r) h = (both_true (none (vector_faults g (Some r))) _ h).0

-- what a sound parameter means
pub sound_entry : (g : Scope) (given : Option Vector) (p : Param) → is_sound_vector g p.range ≡ true → none (constant_faults g p.value (faults g p.value)) ≡ true → names_faulty g p.value ≡ false →
    entry_given g given p ≡ Constant (typed_value g p (unwrap_or given (constant g p.value)))
sound_entry g given p a b k =
    let v = typed_value g p (unwrap_or given (constant g p.value)) in
    ap (λ t. if t && is_sound_vector g p.range && not (names_faulty g p.value) then Constant v else Faulty) (none_both (vector_faults g p.range) (constant_faults g p.value (faults g p.value)) (clean_vector g p.range a) b) ∙ ap (λ t. if true && t && not (names_faulty g p.value) then Constant v else Faulty) a ∙ ap (λ t. if true && true && not t then Constant v else Faulty) k

-- the value that the first override of a name gives
given_or : (o : Option Override) (v : Vector) → unwrap_or (option_map (λ o. o.value) o) v ≡ override_or o v
given_or None v = refl
given_or (Some o) v = refl

-- what a parameter means, with these overrides
pub entry_of_overrides : (g : Scope) (os : List Override) (p : Param) → entry_given g (option_map (λ o. o.value) (std.find (λ o. bytes_eq o.name p.name.name) os)) p ≡ param_entry g os p
entry_of_overrides g os p =
    ap (λ v. if none (param_faults g p) && is_sound_vector g p.range && not (names_faulty g p.value) then Constant (typed_value g p v) else Faulty) (given_or (std.find (λ o. bytes_eq o.name p.name.name) os) (constant g p.value))

if_false : (t : Bool) (v : Vector) → t ≡ false → Faulty ≡ (if t then Constant v else Faulty)
if_false false v h = refl
if_false true v h = cc

by_range : (n s f : Bool) → s ≡ false → (n && s && not f) ≡ false
by_range true false f h = refl
by_range false false f h = refl
by_range n true f h = cc

by_faults : (n s f : Bool) → n ≡ false → (n && s && not f) ≡ false
by_faults false s f h = refl
by_faults true s f h = cc

by_name : (n s f : Bool) → f ≡ true → (n && s && not f) ≡ false
by_name true true true h = refl
by_name true false true h = refl
by_name false s true h = refl
by_name n s false h = cc

module _ (g : Scope) (given : Option Vector) (p : Param) where
  pub faulty_by_range : is_sound_vector g p.range ≡ false → Faulty ≡ entry_given g given p
  faulty_by_range h = if_false _ _ (by_range (none (param_faults g p)) (is_sound_vector g p.range) (names_faulty g p.value) h)

  pub faulty_by_value : none (constant_faults g p.value (faults g p.value)) ≡ false → Faulty ≡ entry_given g given p
  faulty_by_value h =
      let both : none (param_faults g p) ≡ false = none_append (vector_faults g p.range) (constant_faults g p.value (faults g p.value)) ∙ ap (λ b. none (vector_faults g p.range) && b) h ∙ and_false (none (vector_faults g p.range)) in
      if_false _ _ (by_faults (none (param_faults g p)) (is_sound_vector g p.range) (names_faulty g p.value) both)

  pub faulty_by_name : names_faulty g p.value ≡ true → Faulty ≡ entry_given g given p
  faulty_by_name h = if_false _ _ (by_name (none (param_faults g p)) (is_sound_vector g p.range) (names_faulty g p.value) h)
