-- Each declared name of a module without fault means one declaration.
use Rattle.std.proofs.Common.{◌≡◌, ◌⊎◌, inl, inr, ℕ, Bool, true, false, not, ◌&&◌, cond, if◌then◌else◌, List, [], ◌∷◌, ◌++◌, Some, None, refl, sym, ap, ◌∙◌, subst, map}
use Rattle.std.specs.List.{flat_map}
use Rattle.std.specs.Prelude.{bytes_eq, is_none}
use Rattle.std.proofs.lemmas.Bool.{false≢true, and_parts}
use Rattle.std.proofs.lemmas.List.{map-append}
use Rattle.design_model.specs.Design.{In, AreDistinct}
use Rattle.verilog_tree.specs.Tree.{Param, ItemForm, initial_item, port_item, net_item, variable_item, integer_item, parameter_item, continuous_item, always_item, instance_item, Item, Module}
use Rattle.flat_design.specs.Declarations.{Declaration, Override, Sort, a_parameter, declaration, item_declarations, all_declarations, is_vector, completes, completed, add_declaration, declarations_from, is_declared_again, twice_faults, param_entry, with_param, constants_from}
use Rattle.flat_design.specs.Identifiers.{params_of, item_params}
use Rattle.flat_design.specs.Instances.{constants, constant_scope, declaration_faults, declared, other_names}
use Rattle.flat_design.specs.Scope.{Scope, Bindings, binding_of, with_bindings}
use Rattle.flat_design.specs.declared.entry.Entry.{Entry}
use Rattle.flat_laws.proofs.Distinct.{AreApart, distinct_join}
use Rattle.flat_laws.proofs.Freedom.{both_empty, not_told}
use Rattle.flat_laws.proofs.LawfulNames.{in_map_back}
use Rattle.flat_laws.proofs.LawfulScope.{bytes_same, same_bytes}
use Rattle.flat_laws.proofs.LawfulSound.{no_declaration_faults, none_passes}
use Rattle.flat_laws.proofs.Members.{in_append, in_left, in_right, in_flat_map, in_flat_map_back}

-- the name of a declaration
abbrev pub name_of : Declaration → List ℕ
name_of d = d.name.name

-- a name among the declarations with one more
added_names : (cs : List Declaration) (d : Declaration) (x : List ℕ) → In x (map name_of (add_declaration cs d)) → In x (map name_of cs) ⊎ (name_of d ≡ x)
added_names [] d x (inl e) = inr e
added_names [] d x (inr h) = absurd h
added_names (c ∷ cs) d x h = by_name (added_names cs d x) (bytes_eq c.name.name d.name.name) h
  where
    by_completion : (b : Bool) → In x (map name_of ((if b then completed c d else c) ∷ cs)) → In x (map name_of (c ∷ cs)) ⊎ (name_of d ≡ x)
    by_completion true k = inl k
    by_completion false k = inl k

    further : In x (map name_of cs) ⊎ (name_of d ≡ x) → In x (map name_of (c ∷ cs)) ⊎ (name_of d ≡ x)
    further (inl k) = inl (inr k)
    further (inr e) = inr e

    by_name : (In x (map name_of (add_declaration cs d)) → In x (map name_of cs) ⊎ (name_of d ≡ x)) → (b : Bool) → In x (map name_of (if b then (if completes c d then completed c d else c) ∷ cs else c ∷ add_declaration cs d)) → In x (map name_of (c ∷ cs)) ⊎ (name_of d ≡ x)
    by_name rest true k = by_completion (completes c d) k
    by_name rest false (inl e) = inl (inl e)
    by_name rest false (inr k) = further (rest k)

added_distinct : (cs : List Declaration) (d : Declaration) → AreDistinct (map name_of cs) → AreDistinct (map name_of (add_declaration cs d))
added_distinct [] d h = (λ k. k, tt)
added_distinct (c ∷ cs) d h = by_name (added_distinct cs d h.1) (bytes_eq c.name.name d.name.name) refl
  where
    by_completion : (b : Bool) → AreDistinct (map name_of ((if b then completed c d else c) ∷ cs))
    by_completion true = h
    by_completion false = h

    not_again : bytes_eq c.name.name d.name.name ≡ false → In (name_of c) (map name_of cs) ⊎ (name_of d ≡ name_of c) → ⊥
    not_again other (inl k) = h.0 k
    not_again other (inr e) = false≢true (sym other ∙ bytes_same c.name.name d.name.name (sym e))

    by_name : AreDistinct (map name_of (add_declaration cs d)) → (b : Bool) → bytes_eq c.name.name d.name.name ≡ b → AreDistinct (map name_of (if b then (if completes c d then completed c d else c) ∷ cs else c ∷ add_declaration cs d))
    by_name rest true is = by_completion (completes c d)
    by_name rest false is = (λ k. not_again is (added_names cs d (name_of c) k), rest)

from_distinct : (sofar ds : List Declaration) → AreDistinct (map name_of sofar) → AreDistinct (map name_of (declarations_from sofar ds))
from_distinct sofar [] h = h
from_distinct sofar (d ∷ ds) h = from_distinct (add_declaration sofar d) ds (added_distinct sofar d h)

-- each declared name once
pub declared_distinct : (os : List Override) (m : Module) → AreDistinct (map name_of (declared os m))
declared_distinct os m = from_distinct [] (all_declarations (constant_scope os m) m) tt

-- neither a net nor a variable, so that nothing completes it
abbrev pub is_plain : Sort → Bool
is_plain s = not (is_vector s)

not_true : (b : Bool) → not b ≡ true → b ≡ false
not_true true h = absurd (false≢true h)
not_true false h = refl

-- what is neither net nor variable completes nothing, and nothing completes it
plain_first : (c d : Declaration) → is_plain c.sort ≡ true → completes c d ≡ true → ⊥
plain_first c d plain h =
    let p = and_parts _ _ h in
    let q = and_parts _ _ p.0 in
    let r = and_parts _ _ q.0 in
    let s = and_parts _ _ r.0 in
    false≢true (sym (not_true (is_vector c.sort) plain) ∙ s.1)

plain_second : (c d : Declaration) → is_plain d.sort ≡ true → completes c d ≡ true → ⊥
plain_second c d plain h =
    let p = and_parts _ _ h in
    let q = and_parts _ _ p.0 in
    let r = and_parts _ _ q.0 in
    false≢true (sym (not_true (is_vector d.sort) plain) ∙ r.1)

-- what is neither net nor variable is not declared again
pub not_again : (sofar : List Declaration) (c d : Declaration) → is_plain d.sort ≡ true → is_declared_again sofar d ≡ false → In c sofar → name_of c ≡ name_of d → ⊥
not_again sofar c d plain once c_in same =
    by_test (bytes_eq c.name.name d.name.name) (completes c d) (bytes_same c.name.name d.name.name same) (λ h. plain_second c d plain h) (none_passes (λ x. bytes_eq x.name.name d.name.name && not (completes x d)) sofar c once c_in)
  where
    by_test : (a b : Bool) → a ≡ true → (b ≡ true → ⊥) → (a && not b) ≡ false → ⊥
    by_test true true h k n = k refl
    by_test true false h k n = false≢true (sym n)
    by_test false b h k n = false≢true h

-- a declaration that nothing completes stays
stays_in : (cs : List Declaration) (e d : Declaration) → is_plain d.sort ≡ true → In d cs → In d (add_declaration cs e)
stays_in [] e d plain h = absurd h
stays_in (c ∷ cs) e d plain h = by_name (stays_in cs e d plain) (bytes_eq c.name.name e.name.name) h
  where
    by_completion : (b : Bool) → completes c e ≡ b → In d (c ∷ cs) → In d ((if b then completed c e else c) ∷ cs)
    by_completion true is (inl same) = absurd (plain_first d e plain (subst (λ z. completes z e ≡ true) same is))
    by_completion true is (inr k) = inr k
    by_completion false is k = k

    by_name : (In d cs → In d (add_declaration cs e)) → (b : Bool) → In d (c ∷ cs) → In d (if b then (if completes c e then completed c e else c) ∷ cs else c ∷ add_declaration cs e)
    by_name rest true k = by_completion (completes c e) refl k
    by_name rest false (inl same) = inl same
    by_name rest false (inr k) = inr (rest k)

-- a declaration of a new name is added
added_in : (cs : List Declaration) (d : Declaration) → ((c : Declaration) → In c cs → name_of c ≡ name_of d → ⊥) → In d (add_declaration cs d)
added_in [] d new = inl refl
added_in (c ∷ cs) d new = by_name (added_in cs d (λ x h. new x (inr h))) (bytes_eq c.name.name d.name.name) refl
  where
    by_name : In d (add_declaration cs d) → (b : Bool) → bytes_eq c.name.name d.name.name ≡ b → In d (if b then (if completes c d then completed c d else c) ∷ cs else c ∷ add_declaration cs d)
    by_name rest true is = absurd (new c (inl refl) (same_bytes c.name.name d.name.name is))
    by_name rest false is = inr rest

from_in : (sofar ds : List Declaration) → twice_faults sofar ds ≡ [] → (d : Declaration) → is_plain d.sort ≡ true → In d sofar ⊎ In d ds → In d (declarations_from sofar ds)
from_in sofar [] once d plain (inl h) = h
from_in sofar [] once d plain (inr h) = absurd h
from_in sofar (e ∷ ds) once d plain h =
    let p = both_empty _ (twice_faults (add_declaration sofar e) ds) once in
    from_in (add_declaration sofar e) ds p.1 d plain (by_place (not_told (is_declared_again sofar e) _ p.0) h)
  where
    by_place : is_declared_again sofar e ≡ false → In d sofar ⊎ In d (e ∷ ds) → In d (add_declaration sofar e) ⊎ In d ds
    by_place new (inl k) = inl (stays_in sofar e d plain k)
    by_place new (inr (inl same)) =
        inl (subst (λ z. In z (add_declaration sofar e)) same (added_in sofar e (λ c c_in named. not_again sofar c e (subst (λ z. is_plain z.sort ≡ true) (sym same) plain) new c_in named)))
    by_place new (inr (inr k)) = inr k

-- a declaration that nothing completes is one of the declared names
pub plain_declared : (os : List Override) (m : Module) → declaration_faults os m ≡ [] → (d : Declaration) → is_plain d.sort ≡ true → In d (all_declarations (constant_scope os m) m) → In d (declared os m)
plain_declared os m e d plain h = from_in [] (all_declarations (constant_scope os m) m) (no_declaration_faults os m e).twice d plain (inr h)

-- a parameter is declared as one
pub record IsParameter (os : List Override) (m : Module) (x : List ℕ) : Type 0 where
  pub declared_as : Declaration
  pub is_in : In declared_as (declared os m)
  pub named : name_of declared_as ≡ x
  pub sort : declared_as.sort ≡ a_parameter

param_in : (g : Scope) (m : Module) (p : Param) → In p (params_of m) → (d : Declaration) × In d (all_declarations g m) × (name_of d ≡ p.name.name) × (d.sort ≡ a_parameter)
param_in g m p h = by_part (in_append p m.params (flat_map (λ i. item_params i.form) m.items) h)
  where
    in_header : List Declaration
    in_header = map (λ q. declaration q.name.place a_parameter None false None q.name) m.params

    in_items : List Declaration
    in_items = flat_map (λ i. item_declarations g i.place i.form) m.items

    in_form : (i : Item) (form : ItemForm) → In p (item_params form) → In (declaration i.place a_parameter None false None p.name) (item_declarations g i.place form)
    in_form i (parameter_item ps) k = in_map_back (λ q. declaration i.place a_parameter None false None q.name) p ps k
    in_form i (port_item x) k = absurd k
    in_form i (net_item x) k = absurd k
    in_form i (variable_item x) k = absurd k
    in_form i (integer_item x) k = absurd k
    in_form i (instance_item x) k = absurd k
    in_form i (continuous_item x v) k = absurd k
    in_form i (always_item x v) k = absurd k
    in_form i (initial_item x) k = absurd k

    by_part : In p m.params ⊎ In p (flat_map (λ i. item_params i.form) m.items) → (d : Declaration) × In d (all_declarations g m) × (name_of d ≡ p.name.name) × (d.sort ≡ a_parameter)
    by_part (inl k) = (declaration p.name.place a_parameter None false None p.name, in_left _ in_header in_items (in_map_back (λ q. declaration q.name.place a_parameter None false None q.name) p m.params k), refl, refl)
    by_part (inr k) =
        let l = in_flat_map (λ (i : Item). item_params i.form) p m.items k in
        (declaration l.0.place a_parameter None false None p.name, in_right _ in_header in_items (in_flat_map_back (λ (i : Item). item_declarations g i.place i.form) l.0 m.items _ l.1 (in_form l.0 l.0.form l.2)), refl, refl)

-- the names that are bound
abbrev pub bound_names : Bindings → List (List ℕ)
bound_names bs = map (λ b. b.0) bs

not_bound : (bs : Bindings) (x : List ℕ) → is_none (binding_of bs x) ≡ true → In x (bound_names bs) → ⊥
not_bound [] x h k = k
not_bound ((w, f) ∷ bs) x h k = by_test (not_bound bs x) (bytes_eq x w) refl h k
  where
    by_test : (is_none (binding_of bs x) ≡ true → In x (bound_names bs) → ⊥) → (b : Bool) → bytes_eq x w ≡ b → is_none (cond b (Some f) (binding_of bs x)) ≡ true → (w ≡ x) ⊎ In x (bound_names bs) → ⊥
    by_test rest true is none k = false≢true none
    by_test rest false is none (inl e) = false≢true (sym is ∙ bytes_same x w (sym e))
    by_test rest false is none (inr k) = rest none k

-- the names of constants differ, and are those of parameters
constants_distinct : (others : Scope) (os : List Override) (sofar : Bindings) (ps : List Param) → AreDistinct (bound_names sofar) → AreDistinct (bound_names (constants_from others os sofar ps))
constants_distinct others os sofar [] h = h
constants_distinct others os sofar (p ∷ ps) h = constants_distinct others os (with_param others os sofar p) ps (by_test (is_none (binding_of sofar p.name.name)) refl)
  where
    here : Entry
    here = param_entry (with_bindings sofar others) os p

    apart : is_none (binding_of sofar p.name.name) ≡ true → AreApart (bound_names sofar) (p.name.name ∷ [])
    apart new x k (inl e) = not_bound sofar p.name.name new (subst (λ z. In z (bound_names sofar)) (sym e) k)
    apart new x k (inr l) = l

    by_test : (b : Bool) → is_none (binding_of sofar p.name.name) ≡ b → AreDistinct (bound_names (if b then sofar ++ (p.name.name, here) ∷ [] else sofar))
    by_test true is = subst AreDistinct (sym (map-append (λ b. b.0) sofar ((p.name.name, here) ∷ []))) (distinct_join (bound_names sofar) (p.name.name ∷ []) h (λ k. k, tt) (apart is))
    by_test false is = h

constants_named : (others : Scope) (os : List Override) (sofar : Bindings) (ps : List Param) (b : List ℕ × Entry) → In b (constants_from others os sofar ps) → In b sofar ⊎ ((p : Param) × In p ps × (p.name.name ≡ b.0))
constants_named others os sofar [] b h = inl h
constants_named others os sofar (p ∷ ps) b h = by_place (constants_named others os (with_param others os sofar p) ps b h)
  where
    here : Entry
    here = param_entry (with_bindings sofar others) os p

    by_test : (t : Bool) → In b (if t then sofar ++ (p.name.name, here) ∷ [] else sofar) → In b sofar ⊎ ((q : Param) × In q (p ∷ ps) × (q.name.name ≡ b.0))
    by_test false k = inl k
    by_test true k = by_side (in_append b sofar ((p.name.name, here) ∷ []) k)
      where
        by_side : In b sofar ⊎ In b ((p.name.name, here) ∷ []) → In b sofar ⊎ ((q : Param) × In q (p ∷ ps) × (q.name.name ≡ b.0))
        by_side (inl l) = inl l
        by_side (inr (inl e)) = inr (p, inl refl, ap (λ z. z.0) e)
        by_side (inr (inr l)) = absurd l

    by_place : In b (with_param others os sofar p) ⊎ ((q : Param) × In q ps × (q.name.name ≡ b.0)) → In b sofar ⊎ ((q : Param) × In q (p ∷ ps) × (q.name.name ≡ b.0))
    by_place (inl k) = by_test (is_none (binding_of sofar p.name.name)) k
    by_place (inr k) = inr (k.0, inr k.1, k.2)

pub constant_names_distinct : (os : List Override) (m : Module) → AreDistinct (bound_names (constants os m))
constant_names_distinct os m = constants_distinct (other_names m) os [] (params_of m) tt

-- a constant is declared as a parameter
pub constant_declared : (os : List Override) (m : Module) → declaration_faults os m ≡ [] → (b : List ℕ × Entry) → In b (constants os m) → IsParameter os m b.0
constant_declared os m e b h = by_place (constants_named (other_names m) os [] (params_of m) b h)
  where
    by_place : In b [] ⊎ ((p : Param) × In p (params_of m) × (p.name.name ≡ b.0)) → IsParameter os m b.0
    by_place (inl k) = absurd k
    by_place (inr k) =
        let d = param_in (constant_scope os m) m k.0 k.1 in
        record { declared_as = d.0; is_in = plain_declared os m e d.0 (ap is_plain d.3) d.1; named = d.2 ∙ k.2; sort = d.3 }
