-- The parameters of a module, found one after the other.
use Rattle.std.proofs.Common.{◌≡◌, ℕ, ◌+◌, ◌<◌, Bool, true, false, cond, List, [], ◌∷◌, ◌++◌, map, length, drop, drop-cons, get_or, add-one, append_assoc, Option, Some, None, Result, Ok, Err, refl, sym, ap, ◌∙◌, inl, inr}
use Rattle.std.specs.Prelude.{bytes_eq, if◌then◌else◌, is_none, is_some, OnOk}
use Rattle.std.proofs.lemmas.Bool.{cases_Bool}
use Rattle.std.proofs.lemmas.Slice.Eq.{bytes_eq-Decides}
use Rattle.four_state.specs.Vector.{Vector}
use Rattle.verilog_tree.specs.Tree.{Module, Param}
use Rattle.flat_design.specs.Declarations.{Override, constants_faults, constants_from, param_entry, param_faults, with_param}
use Rattle.flat_design.specs.Fault.{Fault}
use Rattle.flat_design.specs.Identifiers.{is_among, names_of}
use Rattle.flat_design.specs.Instances.{other_names}
use Rattle.flat_design.specs.Scope.{Scope, Bindings, binding_of, entry_or, with_bindings, with_entry}
use Rattle.flat_design.specs.declared.entry.Entry.{Entry}
use Rattle.flat_design.specs.declared.entry.Entry.TheVariants.{Constant, NoConstant, Faulty}
use Rattle.elab_const.proofs.ScopeLemmas.{fun_ext}
use Rattle.elab_declarations.specs.Constants.{AreParams, AreSeen, given_value, is_param_entry}
use Rattle.elab_scope.specs.Entries.{IsEntry}
use Rattle.elab_declarations.specs.Typed.{entry_given}
use Rattle.elab_scope.specs.Tally.{Tally, after_faults}
use Rattle.elab_scope.proofs.TallyLemmas.{after_faults-append}
use Rattle.elab_declarations.proofs.TypedLemmas.{entry_of_overrides}

param_if : (b : Bool) (v : Vector) → is_param_entry (Some (if b then Constant v else Faulty)) ≡ true
param_if true v = refl
param_if false v = refl

-- a parameter is a constant, or its declaration has a fault
pub given_is_param : (g : Scope) (given : Option Vector) (p : Param) → is_param_entry (Some (entry_given g given p)) ≡ true
given_is_param g given p = param_if _ _

-- what a parameter means is within all bounds
pub param_is_entry : (e : Entry) → is_param_entry (Some e) ≡ true → IsEntry e
param_is_entry (Constant v) h = tt
param_is_entry Faulty h = tt
param_is_entry _ h = absurd cc

no_param : (b : Bool) → is_param_entry (if b then Some NoConstant else None) ≡ false
no_param true = refl
no_param false = refl

-- the scope shows which parameters were found
pub param_found : (m : Module) (bs : Bindings) (x : List ℕ) → AreParams bs → is_param_entry (with_bindings bs (other_names m) x) ≡ is_some (binding_of bs x)
param_found m [] x h = no_param (is_among (names_of m) x)
param_found m (b ∷ bs) x h = by (bytes_eq x b.0) (param_found m bs x h.1)
  where
    by : (t : Bool) → is_param_entry (with_bindings bs (other_names m) x) ≡ is_some (binding_of bs x) → is_param_entry (entry_or (cond t (Some b.1) (binding_of bs x)) (other_names m x)) ≡ is_some (cond t (Some b.1) (binding_of bs x))
    by true r = h.0
    by false r = r

-- one more at the end
binding_append : (bs : Bindings) (x : List ℕ) (e : Entry) (y : List ℕ) → binding_of (bs ++ (x, e) ∷ []) y ≡ entry_or (binding_of bs y) (if bytes_eq y x then Some e else None)
binding_append [] x e y = refl
binding_append (b ∷ bs) x e y = by (bytes_eq y b.0) (binding_append bs x e y)
  where
    by : (t : Bool) → binding_of (bs ++ (x, e) ∷ []) y ≡ entry_or (binding_of bs y) (if bytes_eq y x then Some e else None) → cond t (Some b.1) (binding_of (bs ++ (x, e) ∷ []) y) ≡ entry_or (cond t (Some b.1) (binding_of bs y)) (if bytes_eq y x then Some e else None)
    by true r = refl
    by false r = r

or_none : (o r : Option Entry) → entry_or (entry_or o None) r ≡ entry_or o r
or_none None r = refl
or_none (Some e) r = refl

-- a new name at the end means its entry
pub bound_more : (bs : Bindings) (x : List ℕ) (e : Entry) (g : Scope) → binding_of bs x ≡ None → with_bindings (bs ++ (x, e) ∷ []) g ≡ with_entry x e (with_bindings bs g)
bound_more bs x e g absent = fun_ext (λ y. ap (λ o. entry_or o (g y)) (binding_append bs x e y) ∙ at y)
  where
    at : (y : List ℕ) → entry_or (entry_or (binding_of bs y) (if bytes_eq y x then Some e else None)) (g y) ≡ (if bytes_eq y x then Some e else entry_or (binding_of bs y) (g y))
    at y =
        elim (cases_Bool (bytes_eq y x)) [
          | inl same ↦
              let one : y ≡ x = (bytes_eq-Decides y x).0 same in
              let none : binding_of bs y ≡ None = ap (binding_of bs) one ∙ absent in
              rw (none, same) refl
          | inr other ↦ rw other (or_none (binding_of bs y) (g y))
        ]

params_more : (bs : Bindings) (x : List ℕ) (e : Entry) → AreParams bs → is_param_entry (Some e) ≡ true → AreParams (bs ++ (x, e) ∷ [])
params_more [] x e all h = (h, tt)
params_more (b ∷ bs) x e all h = (all.0, params_more bs x e all.1 h)

-- one more parameter is seen
pub seen_more : (m : Module) (bs : Bindings) (x : List ℕ) (e : Entry) (g next : Scope) → AreSeen m bs g → binding_of bs x ≡ None → is_param_entry (Some e) ≡ true → next ≡ with_entry x e g → AreSeen m (bs ++ (x, e) ∷ []) next
seen_more m bs x e g next seen absent h is =
    (is ∙ ap (with_entry x e) seen.0 ∙ sym (bound_more bs x e (other_names m) absent), params_more bs x e seen.1 h)

pub none_of : {A : Type 0} (o : Option A) → is_some o ≡ false → o ≡ None
none_of None h = refl
none_of (Some x) h = cc

pub is_none_by : {A : Type 0} (o : Option A) (b : Bool) → is_some o ≡ true → is_none o ≡ false
is_none_by None b h = cc
is_none_by (Some x) b h = refl

module _ (others : Scope) (os : List Override) where
  -- some parameters and then others
  pub constants_append : (s : Bindings) (ps qs : List Param) → constants_from others os s (ps ++ qs) ≡ constants_from others os (constants_from others os s ps) qs
  constants_append s [] qs = refl
  constants_append s (p ∷ ps) qs = constants_append (with_param others os s p) ps qs

  pub constants_faults_append : (s : Bindings) (ps qs : List Param) → constants_faults others os s (ps ++ qs) ≡ constants_faults others os s ps ++ constants_faults others os (constants_from others os s ps) qs
  constants_faults_append s [] qs = refl
  constants_faults_append s (p ∷ ps) qs =
      let own : List Fault = if is_none (binding_of s p.name.name) then param_faults (with_bindings s others) p else [] in
      ap (λ fs. own ++ fs) (constants_faults_append (with_param others os s p) ps qs) ∙ sym (append_assoc own (constants_faults others os (with_param others os s p) ps) (constants_faults others os (constants_from others os (with_param others os s p) ps) qs))

  -- the tally after some and then others
  pub met_append : (s next : Bindings) (ps qs : List Param) (t u : Tally) → next ≡ constants_from others os s ps → u ≡ after_faults t (constants_faults others os s ps) →
      after_faults u (constants_faults others os next qs) ≡ after_faults t (constants_faults others os s (ps ++ qs))
  met_append s next ps qs t u is met =
      rw (is, met) (sym (after_faults-append t (constants_faults others os s ps) (constants_faults others os (constants_from others os s ps) qs)) ∙ ap (after_faults t) (sym (constants_faults_append s ps qs)))

-- one override of the rest
pub given_more : {B : Type 0} (v : B → Override) (os : List B) (i : ℕ) (o : B) (x : List ℕ) → i < length os → o ≡ get_or os i o → bytes_eq (v o).name x ≡ false →
    given_value (map v (drop (i + 1) os)) x ≡ given_value (map v (drop i os)) x
given_more v os i o x within is other = rw (drop-cons os i o within, ← is, add-one i) (rw other refl)

pub given_here : {B : Type 0} (v : B → Override) (os : List B) (i : ℕ) (o : B) (x : List ℕ) → i < length os → o ≡ get_or os i o → bytes_eq (v o).name x ≡ true →
    Some (v o).value ≡ given_value (map v (drop i os)) x
given_here v os i o x within is same = rw (drop-cons os i o within, ← is) (rw same refl)

module _ (m : Module) (bs : Bindings) (g : Scope) (p : Param) (b : Bool) where
  -- the scope shows whether the name of the parameter was found before
  seen_is : AreSeen m bs g → b ≡ is_param_entry (g p.name.name) → is_some (binding_of bs p.name.name) ≡ b
  seen_is seen is = sym (param_found m bs p.name.name seen.1) ∙ ap (λ f. is_param_entry (f p.name.name)) (sym seen.0) ∙ sym is

  pub found_before : AreSeen m bs g → b ≡ is_param_entry (g p.name.name) → b ≡ true → is_none (binding_of bs p.name.name) ≡ false
  found_before seen is there = is_none_by (binding_of bs p.name.name) b (seen_is seen is ∙ there)

  pub found_new : AreSeen m bs g → b ≡ is_param_entry (g p.name.name) → b ≡ false → binding_of bs p.name.name ≡ None
  found_new seen is away = none_of (binding_of bs p.name.name) (seen_is seen is ∙ away)

-- a parameter that was found before changes nothing
pub with_param-same : (others : Scope) (os : List Override) (bs : Bindings) (p : Param) → is_none (binding_of bs p.name.name) ≡ false → bs ≡ with_param others os bs p
with_param-same others os bs p there = rw there refl

-- a new one comes after the others
pub with_param-new : (others : Scope) (os : List Override) (bs : Bindings) (p : Param) (g : Scope) (e : Entry) → g ≡ with_bindings bs others → e ≡ entry_given g (given_value os p.name.name) p → binding_of bs p.name.name ≡ None →
    bs ++ (p.name.name, e) ∷ [] ≡ with_param others os bs p
with_param-new others os bs p g e seen is absent =
    let whole : e ≡ param_entry (with_bindings bs others) os p = is ∙ entry_of_overrides g os p ∙ ap (λ f. param_entry f os p) seen in
    ap (λ e. bs ++ (p.name.name, e) ∷ []) whole ∙ rw absent refl

-- what holds where a call gives a value
pub on_ok : {A E : Type 0} (r : Result A E) (X Y : Type 0) → (X → Y) → OnOk r X → OnOk r Y
on_ok (Ok a) X Y f h = f h
on_ok (Err a) X Y f h = h

pub always : {A E : Type 0} (r : Result A E) (Y : Type 0) → Y → OnOk r Y
always (Ok a) Y h = h
always (Err a) Y h = tt
