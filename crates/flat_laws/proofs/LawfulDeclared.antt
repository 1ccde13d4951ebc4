-- The range of a declared name that is not faulty is that of a signal or memory.
use Rattle.std.proofs.Common.{◌≡◌, ◌⊎◌, inl, inr, ℕ, ◌≤◌, Bool, true, false, ◌&&◌, ◌||◌, nat_lt, if◌then◌else◌, List, [], ◌∷◌, Option, Some, None, refl, sym, subst, map, arith}
use Rattle.std.specs.List.{flat_map}
use Rattle.std.specs.Prelude.{bytes_eq}
use Rattle.std.proofs.lemmas.Bool.{false≢true, and_parts, ltb-false}
use Rattle.cov_host.specs.declared.place.Place.{Place}
use Rattle.design_model.specs.Design.{In}
use Rattle.design_model.specs.Lawful.{span}
use Rattle.verilog_tree.specs.declared.item.Named.{Named}
use Rattle.verilog_tree.specs.Tree.{RangeExpr, ItemForm, initial_item, port_item, net_item, variable_item, integer_item, parameter_item, continuous_item, always_item, instance_item, Module}
use Rattle.flat_design.specs.Declarations.{Declaration, Override, Sort, a_net, a_variable, words_from, a_parameter, faulty, faulty_memory, range_value, bounds_faults, vector_faults, words_faults, is_sound_range, is_sound_vector, declaration, is_any_memory, sort_if, words_sort, item_declarations, all_declarations, is_variable, is_faulty, completes, completed, add_declaration, declarations_from}
use Rattle.flat_design.specs.Fault.{Fault, fault_if, none}
use Rattle.flat_design.specs.Instances.{declared, constant_scope}
use Rattle.flat_design.specs.Scope.{Scope, range_width, natural_number}
use Rattle.flat_laws.proofs.Freedom.{both_empty, not_told}
use Rattle.flat_laws.proofs.Members.{in_append, in_map, in_flat_map}

pub is_empty : {A : Type 0} (xs : List A) → none xs ≡ true → xs ≡ []
is_empty [] h = refl
is_empty (x ∷ xs) h = absurd (false≢true h)

-- the range of a memory's words is small enough
abbrev pub FewWords : Sort → Type 0
FewWords (words_from r) = span r.high r.low ≤ 65536
FewWords _ = Unit {0}

-- unless it is faulty, at most 128 bits, and few words
pub record HasRange (d : Declaration) : Type 0 where
  pub bits : is_faulty d.sort ≡ false → range_width d.range ≤ 128
  pub words : FewWords d.sort

small_span : (k : ℕ) (b : Bool) (n : ℕ) (f : Fault) → b ≡ true → fault_if (b && nat_lt k n) f ≡ [] → n ≤ k
small_span k b n f sound h = ltb-false k n (not_told (nat_lt k n) f (subst (λ c. fault_if (c && nat_lt k n) f ≡ []) sound h))

pub sound_width : (g : Scope) (r : Option RangeExpr) → is_sound_vector g r ≡ true → range_width (range_value g r) ≤ 128
sound_width g None h = omega arith
sound_width g (Some r) h =
    let p = and_parts (none (vector_faults g (Some r))) (is_sound_range g r) h in
    let q = both_empty (bounds_faults g r) _ (is_empty (vector_faults g (Some r)) p.0) in
    subst (λ b. range_width (if b then Some (record { high = natural_number g r.high; low = natural_number g r.low }) else None) ≤ 128) (sym h) (small_span 128 (is_sound_range g r) _ _ p.1 q.1)

-- where a range has a fault
faulty_told : (b : Bool) → is_faulty (if b then faulty_memory else faulty) ≡ false → ⊥
faulty_told true h = false≢true (sym h)
faulty_told false h = false≢true (sym h)

faulty_few : (b : Bool) → FewWords (if b then faulty_memory else faulty)
faulty_few true = tt
faulty_few false = tt

has_range_if : (g : Scope) (p : Place) (r : Option RangeExpr) (sort : Sort) (signed : Bool) (direction : Option Bool) (x : Named) → FewWords sort → HasRange (declaration p (sort_if (is_sound_vector g r) sort) (range_value g r) signed direction x)
has_range_if g p r sort signed direction x few = record { bits = λ h. by_test (is_sound_vector g r) refl h; words = by_words (is_sound_vector g r) }
  where
    by_test : (b : Bool) → is_sound_vector g r ≡ b → is_faulty (sort_if b sort) ≡ false → range_width (range_value g r) ≤ 128
    by_test true is h = sound_width g r is
    by_test false is h = absurd (faulty_told (is_any_memory sort) h)

    by_words : (b : Bool) → FewWords (sort_if b sort)
    by_words true = few
    by_words false = faulty_few (is_any_memory sort)

few_words_sort : (g : Scope) (p : Place) (r : Option RangeExpr) → FewWords (words_sort g p r a_variable)
few_words_sort g p None = tt
few_words_sort g p (Some r) = by_test (none (words_faults g p r)) (is_sound_range g r) refl refl
  where
    by_test : (a b : Bool) → none (words_faults g p r) ≡ a → is_sound_range g r ≡ b → FewWords (sort_if (a && b) (words_from (record { high = natural_number g r.high; low = natural_number g r.low })))
    by_test false b h k = tt
    by_test true false h k = tt
    by_test true true h k = small_span 65536 (is_sound_range g r) _ _ k (both_empty (bounds_faults g r) _ (is_empty (words_faults g p r) h)).1

item_has_range : (g : Scope) (p : Place) (form : ItemForm) (d : Declaration) → In d (item_declarations g p form) → HasRange d
item_has_range g p (port_item i) d h =
    let k = in_map _ d i.names h in
    subst HasRange k.2 (has_range_if g p i.range (if i.reg then a_variable else a_net) i.signed (Some i.input) k.0 (either i.reg))
  where
    either : (b : Bool) → FewWords (if b then a_variable else a_net)
    either true = tt
    either false = tt
item_has_range g p (net_item i) d h = let k = in_map _ d i.names h in subst HasRange k.2 (has_range_if g p i.range a_net i.signed None _ tt)
item_has_range g p (variable_item i) d h = let k = in_map _ d i.names h in subst HasRange k.2 (has_range_if g p i.range _ i.signed None _ (few_words_sort g p k.0.words))
item_has_range g p (integer_item ds) d h = let k = in_map _ d ds h in subst HasRange k.2 (record { bits = λ e. omega arith; words = tt })
item_has_range g p (parameter_item ps) d h = let k = in_map _ d ps h in subst HasRange k.2 (record { bits = λ e. omega arith; words = tt })
item_has_range g p (instance_item i) d h = let k = in_map _ d i.ones h in subst HasRange k.2 (record { bits = λ e. omega arith; words = tt })
item_has_range g p (continuous_item x v) d h = absurd h
item_has_range g p (always_item x v) d h = absurd h
item_has_range g p (initial_item v) d h = absurd h

all_have_range : (g : Scope) (m : Module) (d : Declaration) → In d (all_declarations g m) → HasRange d
all_have_range g m d h = by_part (in_append d (map (λ p. declaration p.name.place a_parameter None false None p.name) m.params) _ h)
  where
    by_part : In d (map (λ p. declaration p.name.place a_parameter None false None p.name) m.params) ⊎ In d (flat_map (λ i. item_declarations g i.place i.form) m.items) → HasRange d
    by_part (inl k) = let l = in_map _ d m.params k in subst HasRange l.2 (record { bits = λ e. omega arith; words = tt })
    by_part (inr k) = let l = in_flat_map _ d m.items k in item_has_range g l.0.place l.0.form d l.2

-- the sort of two declarations of one port
pub completed_kept : (P : Sort → Type 0) (a b v : Bool) → a ≡ false → b ≡ false → P a_variable → P a_net → P (if a || b then faulty else (if v then a_variable else a_net))
completed_kept P true b v h k x y = absurd (false≢true (sym h))
completed_kept P false true v h k x y = absurd (false≢true (sym k))
completed_kept P false false true h k x y = x
completed_kept P false false false h k x y = y

-- where it is not faulty, the first is not
completed_first : (a b v : Bool) → is_faulty (if a || b then faulty else (if v then a_variable else a_net)) ≡ false → a ≡ false
completed_first true b v h = absurd (false≢true (sym h))
completed_first false b v h = refl

completed_few : (a v : Bool) → FewWords (if a then faulty else (if v then a_variable else a_net))
completed_few true v = tt
completed_few false true = tt
completed_few false false = tt

completed_has_range : (c d : Declaration) → HasRange c → HasRange d → completes c d ≡ true → HasRange (completed c d)
completed_has_range c d h o k =
    record { bits = λ e. h.bits (completed_first (is_faulty c.sort) (is_faulty d.sort) (is_variable c.sort || is_variable d.sort) e); words = completed_few (is_faulty c.sort || is_faulty d.sort) (is_variable c.sort || is_variable d.sort) }

-- what a completed declaration keeps
pub added_all : (P : Declaration → Type 0) → ((c d : Declaration) → P c → P d → completes c d ≡ true → P (completed c d)) → (cs : List Declaration) (d : Declaration) → ((x : Declaration) → In x cs → P x) → P d → (x : Declaration) → In x (add_declaration cs d) → P x
added_all P keeps [] d all here x (inl e) = subst P e here
added_all P keeps [] d all here x (inr h) = absurd h
added_all P keeps (c ∷ cs) d all here x h = by_name (added_all P keeps cs d (λ y l. all y (inr l)) here x) (bytes_eq c.name.name d.name.name) h
  where
    by_completion : (b : Bool) → completes c d ≡ b → In x ((if b then completed c d else c) ∷ cs) → P x
    by_completion true is (inl e) = subst P e (keeps c d (all c (inl refl)) here is)
    by_completion false is (inl e) = subst P e (all c (inl refl))
    by_completion true is (inr k) = all x (inr k)
    by_completion false is (inr k) = all x (inr k)

    by_name : (In x (add_declaration cs d) → P x) → (b : Bool) → In x (if b then (if completes c d then completed c d else c) ∷ cs else c ∷ add_declaration cs d) → P x
    by_name rest true k = by_completion (completes c d) refl k
    by_name rest false (inl e) = subst P e (all c (inl refl))
    by_name rest false (inr k) = rest k

-- each declared name once keeps what all declarations have
pub from_all : (P : Declaration → Type 0) → ((c d : Declaration) → P c → P d → completes c d ≡ true → P (completed c d)) → (sofar ds : List Declaration) → ((x : Declaration) → In x sofar → P x) → ((x : Declaration) → In x ds → P x) → (x : Declaration) → In x (declarations_from sofar ds) → P x
from_all P keeps sofar [] h k x l = h x l
from_all P keeps sofar (d ∷ ds) h k x l = from_all P keeps (add_declaration sofar d) ds (added_all P keeps sofar d h (k d (inl refl))) (λ y r. k y (inr r)) x l

-- each declared name
pub declared_has_range : (os : List Override) (m : Module) (d : Declaration) → In d (declared os m) → HasRange d
declared_has_range os m d h = from_all HasRange completed_has_range [] (all_declarations (constant_scope os m) m) (λ x k. absurd k) (all_have_range (constant_scope os m) m) d h
