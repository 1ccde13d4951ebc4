-- Where no fault is met in the declarations of an instance, no name in it means something faulty.
use Rattle.std.proofs.Common.{◌≡◌, ◌⊎◌, inl, inr, ℕ, ◌+◌, Bool, true, false, not, ◌&&◌, ◌||◌, cond, if◌then◌else◌, List, [], ◌∷◌, ◌++◌, Option, Some, None, refl, sym, ap, ◌∙◌, subst, map}
use Rattle.std.specs.List.{flat_map, list_any}
use Rattle.std.specs.Prelude.{bytes_eq, is_none, unwrap_or}
use Rattle.std.proofs.lemmas.Bool.{false≢true}
use Rattle.cov_host.specs.declared.place.Place.{Place}
use Rattle.design_model.specs.Design.{In}
use Rattle.design_model.specs.declared.design.Range.{Range}
use Rattle.verilog_tree.specs.declared.item.Named.{Named}
use Rattle.verilog_tree.specs.Tree.{Expr, RangeExpr, Param, ItemForm, initial_item, port_item, net_item, variable_item, integer_item, parameter_item, continuous_item, always_item, instance_item, Item, Module, Declared}
use Rattle.flat_design.specs.Declarations.{Declaration, Override, Sort, a_net, a_variable, words_from, an_integer, a_parameter, some_instance, faulty, faulty_memory, bounds_faults, vector_faults, words_faults, is_sound_range, is_sound_vector, param_faults, param_entry, typed_value, overridden, with_param, constants_from, constants_faults, declaration, sort_if, words_sort, item_declarations, item_range_faults, declared_words_faults, all_declarations, is_parameter, is_variable, is_faulty, names_parameter, completes, completed, twice_faults, listed_twice, direction_faults}
use Rattle.flat_design.specs.Expressions.{constant_faults, faults}
use Rattle.flat_design.specs.Fault.{none}
use Rattle.flat_design.specs.Identifiers.{identifiers, is_among, params_of, item_params, names_of}
use Rattle.flat_design.specs.Instances.{Instantiation, constants, constant_scope, other_names, declared, declaration_faults, range_faults, PortAliases, entries, declared_entry, other_entry, signal_entry, is_own, is_memory, is_signal, is_signal_sort, alias_number, scope_of}
use Rattle.flat_design.specs.Numbering.{one_if}
use Rattle.flat_design.specs.Scope.{Scope, Bindings, binding_of, entry_or, with_bindings, look_up, names_faulty, is_faulty_entry, constant}
use Rattle.flat_design.specs.declared.entry.Entry.{Entry}
use Rattle.flat_design.specs.declared.entry.Entry.TheVariants.{Constant as a_constant, NoConstant as no_constant, Faulty as a_faulty_one}
use Rattle.flat_laws.proofs.Freedom.{both_empty, neither}
use Rattle.flat_laws.proofs.LawfulDeclared.{completed_kept, from_all}
use Rattle.flat_laws.proofs.LawfulEvents.{each_empty}
use Rattle.flat_laws.proofs.LawfulScope.{same_bytes, bytes_same, binding_kept}
use Rattle.flat_laws.proofs.Members.{in_append, in_left, in_right, in_map, in_flat_map, in_flat_map_back}

-- no name means something faulty
pub record IsSoundScope (g : Scope) : Type 0 where
  pub sound : (x : List ℕ) → is_faulty_entry (look_up g x) ≡ false

any_faulty : (g : Scope) → IsSoundScope g → (xs : List Named) → list_any (λ x. is_faulty_entry (look_up g x.name)) xs ≡ false
any_faulty g h [] = refl
any_faulty g h (x ∷ xs) = rw (h.sound x.name) (any_faulty g h xs)

-- so no expression names something faulty
pub names_sound : (g : Scope) → IsSoundScope g → (e : Expr) → names_faulty g e ≡ false
names_sound g h e = any_faulty g h (identifiers e)

empty_none : {A : Type 0} (xs : List A) → xs ≡ [] → none xs ≡ true
empty_none xs e = ap none e

pub range_sound : (g : Scope) → IsSoundScope g → (r : RangeExpr) → bounds_faults g r ≡ [] → is_sound_range g r ≡ true
range_sound g h r e = rw (empty_none (bounds_faults g r) e, names_sound g h r.high, names_sound g h r.low) refl

pub vector_sound : (g : Scope) → IsSoundScope g → (r : Option RangeExpr) → vector_faults g r ≡ [] → is_sound_vector g r ≡ true
vector_sound g h None e = refl
vector_sound g h (Some r) e = rw (empty_none (vector_faults g (Some r)) e, range_sound g h r (both_empty (bounds_faults g r) _ e).0) refl

-- a parameter without fault is a constant
param_sound : (g : Scope) → IsSoundScope g → (os : List Override) (p : Param) → param_faults g p ≡ [] → is_faulty_entry (Some (param_entry g os p)) ≡ false
param_sound g h os p e = by_test (none (param_faults g p) && is_sound_vector g p.range && not (names_faulty g p.value)) all
  where
    all : (none (param_faults g p) && is_sound_vector g p.range && not (names_faulty g p.value)) ≡ true
    all = rw (empty_none (param_faults g p) e, vector_sound g h p.range (both_empty (vector_faults g p.range) (constant_faults g p.value (faults g p.value)) e).0, names_sound g h p.value) refl

    by_test : (b : Bool) → b ≡ true → is_faulty_entry (Some (if b then a_constant (typed_value g p (overridden os p.name.name (constant g p.value))) else a_faulty_one)) ≡ false
    by_test true k = refl
    by_test false k = absurd (false≢true k)

-- one more binding that is not faulty
pushed_sound : (bs : Bindings) (y : List ℕ) (e : Entry) (o : Option Entry) (x : List ℕ) → is_faulty_entry (entry_or (binding_of bs x) o) ≡ false → is_faulty_entry (Some e) ≡ false → is_faulty_entry (entry_or (binding_of (bs ++ (y, e) ∷ []) x) o) ≡ false
pushed_sound [] y e o x all here = by_test (bytes_eq x y)
  where
    by_test : (b : Bool) → is_faulty_entry (entry_or (cond b (Some e) None) o) ≡ false
    by_test true = here
    by_test false = all
pushed_sound ((w, f) ∷ bs) y e o x all here = by_test (λ k. pushed_sound bs y e o x k here) (bytes_eq x w) all
  where
    by_test : (is_faulty_entry (entry_or (binding_of bs x) o) ≡ false → is_faulty_entry (entry_or (binding_of (bs ++ (y, e) ∷ []) x) o) ≡ false) → (b : Bool) → is_faulty_entry (entry_or (cond b (Some f) (binding_of bs x)) o) ≡ false → is_faulty_entry (entry_or (cond b (Some f) (binding_of (bs ++ (y, e) ∷ []) x)) o) ≡ false
    by_test further true h = h
    by_test further false h = further h

-- the constants of a module without fault
constants_sound : (others : Scope) (os : List Override) (sofar : Bindings) (ps : List Param) → IsSoundScope (with_bindings sofar others) → constants_faults others os sofar ps ≡ [] → IsSoundScope (with_bindings (constants_from others os sofar ps) others)
constants_sound others os sofar [] h e = h
constants_sound others os sofar (p ∷ ps) h e =
    let q = both_empty (if is_none (binding_of sofar p.name.name) then param_faults (with_bindings sofar others) p else []) _ e in
    constants_sound others os (with_param others os sofar p) ps (by_test (is_none (binding_of sofar p.name.name)) q.0) q.1
  where
    by_test : (b : Bool) → (if b then param_faults (with_bindings sofar others) p else []) ≡ [] → IsSoundScope (with_bindings (if b then sofar ++ (p.name.name, param_entry (with_bindings sofar others) os p) ∷ [] else sofar) others)
    by_test true k = record { sound = λ x. pushed_sound sofar p.name.name (param_entry (with_bindings sofar others) os p) (others x) x (h.sound x) (param_sound (with_bindings sofar others) h os p k) }
    by_test false k = h

others_sound : (m : Module) → IsSoundScope (with_bindings [] (other_names m))
others_sound m = record { sound = λ x. by_test (is_among (names_of m) x) }
  where
    by_test : (b : Bool) → is_faulty_entry (if b then Some no_constant else None) ≡ false
    by_test true = refl
    by_test false = refl

pub constant_scope_sound : (os : List Override) (m : Module) → declaration_faults os m ≡ [] → IsSoundScope (constant_scope os m)
constant_scope_sound os m e =
    let a = both_empty (constants_faults (other_names m) os [] (params_of m) ++ range_faults (constant_scope os m) m ++ twice_faults [] (all_declarations (constant_scope os m) m) ++ listed_twice [] m.ports) (direction_faults (declared os m) m.ports) e in
    let b = both_empty (constants_faults (other_names m) os [] (params_of m) ++ range_faults (constant_scope os m) m ++ twice_faults [] (all_declarations (constant_scope os m) m)) (listed_twice [] m.ports) a.0 in
    let c = both_empty (constants_faults (other_names m) os [] (params_of m) ++ range_faults (constant_scope os m) m) (twice_faults [] (all_declarations (constant_scope os m) m)) b.0 in
    let f = both_empty (constants_faults (other_names m) os [] (params_of m)) (range_faults (constant_scope os m) m) c.0 in
    constants_sound (other_names m) os [] (params_of m) (others_sound m) f.0

-- the parts of the faults of declarations
pub record NoDeclarationFaults (os : List Override) (m : Module) : Type 0 where
  pub ranges : range_faults (constant_scope os m) m ≡ []
  pub twice : twice_faults [] (all_declarations (constant_scope os m) m) ≡ []
  pub listed : listed_twice [] m.ports ≡ []
  pub directions : direction_faults (declared os m) m.ports ≡ []

pub no_declaration_faults : (os : List Override) (m : Module) → declaration_faults os m ≡ [] → NoDeclarationFaults os m
no_declaration_faults os m e =
    let a = both_empty (constants_faults (other_names m) os [] (params_of m) ++ range_faults (constant_scope os m) m ++ twice_faults [] (all_declarations (constant_scope os m) m) ++ listed_twice [] m.ports) (direction_faults (declared os m) m.ports) e in
    let b = both_empty (constants_faults (other_names m) os [] (params_of m) ++ range_faults (constant_scope os m) m ++ twice_faults [] (all_declarations (constant_scope os m) m)) (listed_twice [] m.ports) a.0 in
    let c = both_empty (constants_faults (other_names m) os [] (params_of m) ++ range_faults (constant_scope os m) m) (twice_faults [] (all_declarations (constant_scope os m) m)) b.0 in
    let f = both_empty (constants_faults (other_names m) os [] (params_of m)) (range_faults (constant_scope os m) m) c.0 in
    record { ranges = f.1; twice = c.1; listed = b.1; directions = a.1 }

-- a declared name is not faulty, and where it is a parameter it is one of the module's
pub record IsFine (m : Module) (d : Declaration) : Type 0 where
  pub sound : is_faulty d.sort ≡ false
  pub parameter : d.sort ≡ a_parameter → (p : Param) × In p (params_of m) × (p.name ≡ d.name)

not_parameter : Sort → Bool
not_parameter a_parameter = false
not_parameter _ = true

-- of a sort that is no parameter
fine_sort : (m : Module) (d : Declaration) → is_faulty d.sort ≡ false → not_parameter d.sort ≡ true → IsFine m d
unfolding not_parameter
fine_sort m d a b = record { sound = a; parameter = λ e. absurd (false≢true (sym (ap not_parameter e) ∙ b)) }

either_sort : (P : Sort → Type 0) (b : Bool) → P a_variable → P a_net → P (if b then a_variable else a_net)
either_sort P true h k = h
either_sort P false h k = k

completed_fine : (m : Module) (c d : Declaration) → IsFine m c → IsFine m d → completes c d ≡ true → IsFine m (completed c d)
unfolding not_parameter
completed_fine m c d h o k =
    let v : Bool = is_variable c.sort || is_variable d.sort in
    fine_sort m (completed c d) (completed_kept (λ s. is_faulty s ≡ false) (is_faulty c.sort) (is_faulty d.sort) v h.sound o.sound refl refl) (completed_kept (λ s. not_parameter s ≡ true) (is_faulty c.sort) (is_faulty d.sort) v h.sound o.sound refl refl)

-- a sort that is kept where the range is sound
kept_sort : (P : Sort → Type 0) (b : Bool) (s : Sort) → b ≡ true → P s → P (sort_if b s)
kept_sort P true s e h = h
kept_sort P false s e h = absurd (false≢true e)

words_kept : (P : Sort → Type 0) (g : Scope) → IsSoundScope g → (p : Place) (r : Option RangeExpr) → declared_words_faults g p r ≡ [] → P a_variable → ((q : Range) → P (words_from q)) → P (words_sort g p r a_variable)
words_kept P g h p None e k l = k
words_kept P g h p (Some r) e k l =
    kept_sort P (none (words_faults g p r) && is_sound_range g r) (words_from _) (rw (empty_none (words_faults g p r) e, range_sound g h r (both_empty (bounds_faults g r) _ e).0) refl) (l _)

item_fine : (m : Module) (g : Scope) → IsSoundScope g → (x : Item) → In x m.items → (form : ItemForm) → x.form ≡ form → item_range_faults g x.place form ≡ [] → (d : Declaration) → In d (item_declarations g x.place form) → IsFine m d
unfolding not_parameter
item_fine m g h x x_in (port_item i) is e d k =
    let l = in_map _ d i.names k in
    subst (IsFine m) l.2 (fine_sort m _ (kept_sort (λ s. is_faulty s ≡ false) (is_sound_vector g i.range) _ (vector_sound g h i.range e) (either_sort (λ s. is_faulty s ≡ false) i.reg refl refl)) (kept_sort (λ s. not_parameter s ≡ true) (is_sound_vector g i.range) _ (vector_sound g h i.range e) (either_sort (λ s. not_parameter s ≡ true) i.reg refl refl)))
item_fine m g h x x_in (net_item i) is e d k =
    let l = in_map _ d i.names k in
    subst (IsFine m) l.2 (fine_sort m _ (kept_sort (λ s. is_faulty s ≡ false) (is_sound_vector g i.range) a_net (vector_sound g h i.range e) refl) (kept_sort (λ s. not_parameter s ≡ true) (is_sound_vector g i.range) a_net (vector_sound g h i.range e) refl))
item_fine m g h x x_in (variable_item i) is e d k =
    let l = in_map _ d i.names k in
    let q = both_empty (vector_faults g i.range) (flat_map (λ y. declared_words_faults g x.place y.words) i.names) e in
    let sound = vector_sound g h i.range q.0 in
    let words = each_empty (λ (y : Declared). declared_words_faults g x.place y.words) i.names l.0 q.1 l.1 in
    subst (IsFine m) l.2 (fine_sort m _
    (kept_sort (λ s. is_faulty s ≡ false) (is_sound_vector g i.range) _ sound (words_kept (λ s. is_faulty s ≡ false) g h x.place l.0.words words refl (λ r. refl)))
    (kept_sort (λ s. not_parameter s ≡ true) (is_sound_vector g i.range) _ sound (words_kept (λ s. not_parameter s ≡ true) g h x.place l.0.words words refl (λ r. refl))))
item_fine m g h x x_in (integer_item ds) is e d k = let l = in_map _ d ds k in subst (IsFine m) l.2 (fine_sort m _ refl refl)
item_fine m g h x x_in (instance_item i) is e d k = let l = in_map _ d i.ones k in subst (IsFine m) l.2 (fine_sort m _ refl refl)
item_fine m g h x x_in (parameter_item ps) is e d k =
    let l = in_map _ d ps k in
    subst (IsFine m) l.2 (record { sound = refl; parameter = λ same. (l.0, in_right l.0 m.params _ (in_flat_map_back (λ (y : Item). item_params y.form) x m.items l.0 x_in (subst (λ f. In l.0 (item_params f)) (sym is) l.1)), refl) })
item_fine m g h x x_in (continuous_item y v) is e d k = absurd k
item_fine m g h x x_in (always_item y v) is e d k = absurd k
item_fine m g h x x_in (initial_item v) is e d k = absurd k

pub declarations_fine : (m : Module) (g : Scope) → IsSoundScope g → range_faults g m ≡ [] → (d : Declaration) → In d (all_declarations g m) → IsFine m d
declarations_fine m g h e d k = by_part (in_append d (map (λ p. declaration p.name.place a_parameter None false None p.name) m.params) _ k)
  where
    by_part : In d (map (λ p. declaration p.name.place a_parameter None false None p.name) m.params) ⊎ In d (flat_map (λ i. item_declarations g i.place i.form) m.items) → IsFine m d
    by_part (inl l) = let q = in_map _ d m.params l in subst (IsFine m) q.2 (record { sound = refl; parameter = λ same. (q.0, in_left q.0 m.params _ q.1, refl) })
    by_part (inr l) = let q = in_flat_map _ d m.items l in item_fine m g h q.0 q.1 q.0.form refl (each_empty _ m.items q.0 e q.1) d q.2

-- each declared name of a module without fault
pub declared_fine : (os : List Override) (m : Module) → declaration_faults os m ≡ [] → (d : Declaration) → In d (declared os m) → IsFine m d
declared_fine os m e d h =
    let g = constant_scope os m in
    from_all (IsFine m) (completed_fine m) [] (all_declarations g m) (λ x k. absurd k) (declarations_fine m g (constant_scope_sound os m e) (no_declaration_faults os m e).ranges) d h

-- a name that is bound stays bound
pushed_bound : (bs : Bindings) (y : List ℕ) (e : Entry) (x : List ℕ) → is_none (binding_of bs x) ≡ false → is_none (binding_of (bs ++ (y, e) ∷ []) x) ≡ false
pushed_bound [] y e x h = absurd (false≢true (sym h))
pushed_bound ((w, f) ∷ bs) y e x h = by_test (λ k. pushed_bound bs y e x k) (bytes_eq x w) h
  where
    by_test : (is_none (binding_of bs x) ≡ false → is_none (binding_of (bs ++ (y, e) ∷ []) x) ≡ false) → (b : Bool) → is_none (cond b (Some f) (binding_of bs x)) ≡ false → is_none (cond b (Some f) (binding_of (bs ++ (y, e) ∷ []) x)) ≡ false
    by_test further true k = refl
    by_test further false k = further k

pushed_here : (bs : Bindings) (x : List ℕ) (e : Entry) → is_none (binding_of (bs ++ (x, e) ∷ []) x) ≡ false
pushed_here [] x e = rw (bytes_same x x refl) refl
pushed_here ((w, f) ∷ bs) x e = by_test (bytes_eq x w) (pushed_here bs x e)
  where
    by_test : (b : Bool) → is_none (binding_of (bs ++ (x, e) ∷ []) x) ≡ false → is_none (cond b (Some f) (binding_of (bs ++ (x, e) ∷ []) x)) ≡ false
    by_test true k = refl
    by_test false k = k

with_param_bound : (others : Scope) (os : List Override) (sofar : Bindings) (p : Param) (x : List ℕ) → is_none (binding_of sofar x) ≡ false → is_none (binding_of (with_param others os sofar p) x) ≡ false
with_param_bound others os sofar p x h = by_test (is_none (binding_of sofar p.name.name))
  where
    by_test : (b : Bool) → is_none (binding_of (if b then sofar ++ (p.name.name, param_entry (with_bindings sofar others) os p) ∷ [] else sofar) x) ≡ false
    by_test true = pushed_bound sofar p.name.name _ x h
    by_test false = h

with_param_here : (others : Scope) (os : List Override) (sofar : Bindings) (p : Param) → is_none (binding_of (with_param others os sofar p) p.name.name) ≡ false
with_param_here others os sofar p = by_test (is_none (binding_of sofar p.name.name)) refl
  where
    by_test : (b : Bool) → is_none (binding_of sofar p.name.name) ≡ b → is_none (binding_of (if b then sofar ++ (p.name.name, param_entry (with_bindings sofar others) os p) ∷ [] else sofar) p.name.name) ≡ false
    by_test true k = pushed_here sofar p.name.name _
    by_test false k = k

stays_bound : (others : Scope) (os : List Override) (sofar : Bindings) (ps : List Param) (x : List ℕ) → is_none (binding_of sofar x) ≡ false → is_none (binding_of (constants_from others os sofar ps) x) ≡ false
stays_bound others os sofar [] x h = h
stays_bound others os sofar (p ∷ ps) x h = stays_bound others os (with_param others os sofar p) ps x (with_param_bound others os sofar p x h)

-- each parameter is bound
parameter_bound : (others : Scope) (os : List Override) (sofar : Bindings) (ps : List Param) (p : Param) → In p ps → is_none (binding_of (constants_from others os sofar ps) p.name.name) ≡ false
parameter_bound others os sofar [] p h = absurd h
parameter_bound others os sofar (q ∷ ps) p (inl e) = stays_bound others os (with_param others os sofar q) ps p.name.name (subst (λ z. is_none (binding_of (with_param others os sofar q) z.name.name) ≡ false) e (with_param_here others os sofar q))
parameter_bound others os sofar (q ∷ ps) p (inr h) = parameter_bound others os (with_param others os sofar q) ps p h

-- what holds of the entry of each declaration holds of what a name means
pub entries_all : (P : Option Entry → Type 0) (aliases : PortAliases) (m : Module) (s k : ℕ) (ds : List Declaration) (x : List ℕ) → P None → ((d : Declaration) → In d ds → x ≡ d.name.name → (s k : ℕ) → P (Some (declared_entry aliases m s k d))) → P (binding_of (entries aliases m s k ds) x)
entries_all P aliases m s k [] x none_of each = none_of
entries_all P aliases m s k (d ∷ ds) x none_of each = by_name (entries_all P aliases m (s + one_if (is_own aliases m d)) (k + one_if (is_memory d)) ds x none_of (λ y h. each y (inr h))) (bytes_eq x d.name.name) refl
  where
    by_name : P (binding_of (entries aliases m (s + one_if (is_own aliases m d)) (k + one_if (is_memory d)) ds) x) → (b : Bool) → bytes_eq x d.name.name ≡ b → P (cond b (Some (declared_entry aliases m s k d)) (binding_of (entries aliases m (s + one_if (is_own aliases m d)) (k + one_if (is_memory d)) ds) x))
    by_name rest true is = each d (inl refl) (same_bytes x d.name.name is) s k
    by_name rest false is = rest

sort_not_faulty : (m : Module) (x : List ℕ) (k : ℕ) (d : Declaration) (s : Sort) → is_signal_sort m x s ≡ false → is_faulty s ≡ false → (s ≡ a_parameter → ⊥) → is_faulty_entry (Some (other_entry k d s)) ≡ false
sort_not_faulty m x k d (words_from r) n a b = refl
sort_not_faulty m x k d an_integer n a b = refl
sort_not_faulty m x k d some_instance n a b = refl
sort_not_faulty m x k d a_parameter n a b = absurd (b refl)
sort_not_faulty m x k d faulty n a b = absurd (false≢true (sym a))
sort_not_faulty m x k d faulty_memory n a b = absurd (false≢true (sym a))
sort_not_faulty m x k d a_net n a b = absurd (false≢true (sym n))
sort_not_faulty m x k d a_variable n a b = absurd (false≢true (sym n))

-- a test that none passes
pub none_passes : {A : Type 0} (p : A → Bool) (xs : List A) (x : A) → list_any p xs ≡ false → In x xs → p x ≡ false
none_passes p [] x h k = absurd k
none_passes p (y ∷ ys) x h (inl e) = subst (λ z. p z ≡ false) e (neither (p y) (list_any p ys) h).0
none_passes p (y ∷ ys) x h (inr k) = none_passes p ys x (neither (p y) (list_any p ys) h).1 k

-- in an instance whose declarations have no fault no name means something faulty
pub scope_sound : (i : Instantiation) (s k : ℕ) → declaration_faults i.overrides i.of_module ≡ [] → IsSoundScope (scope_of i s k)
scope_sound i s k e = record { sound = λ x. subst (λ o. is_faulty_entry (entry_or o (entry_or (binding_of (entries i.aliases m s k ds) x) None)) ≡ false) (sym (binding_kept (names_parameter ds) cs x)) (by_test x (names_parameter ds x) refl) }
  where
    m : Module
    m = i.of_module

    cs : Bindings
    cs = constants i.overrides m

    ds : List Declaration
    ds = declared i.overrides m

    of_constants : IsSoundScope (with_bindings cs (other_names m))
    of_constants = constant_scope_sound i.overrides m e

    by_declaration : (x : List ℕ) → ((d : Declaration) → In d ds → d.name.name ≡ x → d.sort ≡ a_parameter → ⊥) → (d : Declaration) → In d ds → x ≡ d.name.name → (s k : ℕ) → is_faulty_entry (Some (declared_entry i.aliases m s k d)) ≡ false
    by_declaration x no_parameter d h same s k = by_signal (is_signal m d) refl
      where
        by_signal : (b : Bool) → is_signal m d ≡ b → is_faulty_entry (Some (if b then signal_entry (unwrap_or (alias_number i.aliases d.name.name) s) d else other_entry k d d.sort)) ≡ false
        by_signal true is = refl
        by_signal false is = sort_not_faulty m d.name.name k d d.sort is (declared_fine i.overrides m e d h).sound (no_parameter d h (sym same))

    or_none : (o : Option Entry) → is_faulty_entry o ≡ false → is_faulty_entry (entry_or o None) ≡ false
    or_none None h = refl
    or_none (Some y) h = h

    of_declared : (x : List ℕ) → ((d : Declaration) → In d ds → d.name.name ≡ x → d.sort ≡ a_parameter → ⊥) → is_faulty_entry (entry_or (binding_of (entries i.aliases m s k ds) x) None) ≡ false
    of_declared x no_parameter = or_none _ (entries_all (λ o. is_faulty_entry o ≡ false) i.aliases m s k ds x refl (by_declaration x no_parameter))

    not_bound : (x : List ℕ) → binding_of cs x ≡ None → (d : Declaration) → In d ds → d.name.name ≡ x → d.sort ≡ a_parameter → ⊥
    not_bound x none_of d h same is =
        let p = (declared_fine i.overrides m e d h).parameter is in
        let bound : is_none (binding_of cs p.0.name.name) ≡ false = parameter_bound (other_names m) i.overrides [] (params_of m) p.0 p.1 in
        let name : p.0.name.name ≡ x = ap (λ z. z.name) p.2 ∙ same in
        false≢true (sym (subst (λ z. is_none (binding_of cs z) ≡ false) name bound) ∙ ap (λ o. is_none o) none_of)

    by_constant : (x : List ℕ) (o : Option Entry) → binding_of cs x ≡ o → is_faulty_entry (entry_or o (other_names m x)) ≡ false → is_faulty_entry (entry_or o (entry_or (binding_of (entries i.aliases m s k ds) x) None)) ≡ false
    by_constant x (Some y) is h = h
    by_constant x None is h = of_declared x (not_bound x is)

    by_test : (x : List ℕ) (b : Bool) → names_parameter ds x ≡ b → is_faulty_entry (entry_or (cond b (binding_of cs x) None) (entry_or (binding_of (entries i.aliases m s k ds) x) None)) ≡ false
    by_test x true is = by_constant x (binding_of cs x) refl (of_constants.sound x)
    by_test x false is = of_declared x (λ d h same sort.
        let told : (bytes_eq d.name.name x && is_parameter d.sort) ≡ true = rw (bytes_same d.name.name x same, sort) refl in
        false≢true (sym (none_passes (λ c. bytes_eq c.name.name x && is_parameter c.sort) ds d is h) ∙ told))
