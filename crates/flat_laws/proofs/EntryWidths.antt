-- What names mean has from 1 to 128 bits, and so has each expression without fault.
use Rattle.std.proofs.Common.{◌≡◌, inl, inr, ℕ, zero, suc, ◌≤◌, max, Bool, true, false, not, ◌&&◌, cond, if◌then◌else◌, List, [], ◌∷◌, ◌++◌, Option, Some, None, Result, Ok, Err, refl, sym, ap, subst, length, arith}
use Rattle.std.specs.List.{find}
use Rattle.std.specs.Prelude.{bytes_eq, is_none, unwrap_or}
use Rattle.std.proofs.lemmas.Bool.{false≢true, and_parts}
use Rattle.cov_host.specs.declared.place.Place.{Place}
use Rattle.four_state.specs.Vector.{Vector, HasWidth, extend, top}
use Rattle.four_state.specs.declared.bit.Bit.{Bit}
use Rattle.four_state.specs.declared.bit.Bit.TheVariants.{Zero}
use Rattle.four_state.specs.declared.operator.Binary.{Binary}
use Rattle.design_model.specs.Design.{In}
use Rattle.design_model.specs.Shape.{is_wide_unary}
use Rattle.design_model.specs.declared.design.Range.{Range}
use Rattle.verilog_tree.specs.declared.item.Named.{Named}
use Rattle.verilog_tree.specs.Tree.{Expr, literal, identifier, bit_select, part_select, indexed_part, unary_operator, binary_operator, conditional, concatenation, replication, sign_cast, parentheses, Given, Header, Module, Param, RangeExpr}
use Rattle.elab_const.specs.Calls as const
use Rattle.elab_const.specs.Faults.{fault_of, first_fault, size_fault, bound_fault, number_fault, count_fault}
use Rattle.elab_const.specs.Loops.{begins, integer_answer, integer_value, more_if, turn_before, turns_answer, turns_by, turns_from, variable_of, is_over}
use Rattle.elab_const.specs.Meaning.{count_of, entry_shape, indexed_shape, meaning, number_of, one_bit, binary_shape, parts_of, part_width, falls, select_shape}
use Rattle.elab_const.specs.declared.fault.ConstKind.TheVariants.{LoopNotConstant, LoopTooLong}
use Rattle.elab_const.specs.declared.width.Shape.{Shape}
use Rattle.elab_const.specs.Scope.{Names, IsWidth, earlier, fault_at, on_ok, unless, with_turn}
use Rattle.elab_const.specs.declared.fault.ConstFault.{ConstFault}
use Rattle.elab_const.proofs.AnswerLemmas.{none_in_turn, width_within}
use Rattle.elab_const.proofs.ContextLemmas.{length-fit}
use Rattle.flat_design.specs.Bodies.{in_turn}
use Rattle.flat_design.specs.Connections.{Connection, connection, connections, free_names, override_of, override_value_faults, override_faults, overrides, are_sound_overrides, given_faults}
use Rattle.flat_design.specs.Declarations.{Declaration, Override, Sort, a_net, a_variable, words_from, an_integer, a_parameter, some_instance, faulty, faulty_memory, is_faulty, is_sound_vector, names_parameter, override_or, overridden, param_entry, param_faults, range_value, ranged_value, typed_value, vector_faults, with_param, constants_from}
use Rattle.flat_design.specs.Expressions.{constant_faults, faults}
use Rattle.flat_design.specs.Fault.{none}
use Rattle.flat_design.specs.Identifiers.{base_name, is_among, names_of, params_of}
use Rattle.flat_design.specs.Instances.{Instantiation, PortAliases, alias_number, constants, declared, declared_entry, entries, is_signal, other_entry, other_names, scope_of, signal_entry}
use Rattle.flat_design.specs.Loops as loops
use Rattle.flat_design.specs.Scope.{Scope, Bindings, binding_of, constant, entry_or, look_up, names, names_faulty, range_width, shape, value_entry, with_bindings}
use Rattle.flat_laws.specs.Literals.{literals, given_literals, option_literals}
use Rattle.flat_design.specs.declared.entry.Entry.{Entry}
use Rattle.flat_design.specs.declared.entry.Entry.TheVariants.{Constant as a_constant, Turn as a_turn, Signal as a_signal, Memory as a_memory, LoopVariable as a_loop_variable, Instance as an_instance, NoConstant as no_constant, Faulty as a_faulty_one}
use Rattle.flat_design.proofs.NoConstFaults.{both_none, constant_clean, no_const_fault}
use Rattle.flat_laws.proofs.LawfulDeclared.{declared_has_range, is_empty, sound_width}
use Rattle.flat_laws.proofs.LawfulEvents.{each_empty}
use Rattle.flat_laws.proofs.LawfulLists.{signal_sort_sound}
use Rattle.flat_laws.proofs.LawfulPaths.{found_in}
use Rattle.flat_laws.proofs.LawfulScope.{binding_kept}
use Rattle.flat_laws.proofs.LawfulSound.{IsSoundScope, entries_all, names_sound}
use Rattle.flat_laws.proofs.TakenOperands.{IsTaken, taken}
use Rattle.flat_laws.proofs.Members.{in_left, in_right, in_flat_map, in_flat_map_back}

-- a constant, signal or memory has from 1 to 128 bits
abbrev pub EntryWidth : Option Entry → Type 0
EntryWidth (Some (a_constant v)) = HasWidth v
EntryWidth (Some (a_turn v)) = HasWidth v
EntryWidth (Some (a_signal s)) = IsWidth (range_width s.range)
EntryWidth (Some (a_memory m)) = IsWidth (range_width m.range)
EntryWidth _ = Unit {0}

pub record HasWidths (g : Scope) : Type 0 where
  pub widths : (x : List ℕ) → EntryWidth (look_up g x)

-- so have all of these
abbrev pub AreFit : List Vector → Type 0
AreFit vs = (v : Vector) → In v vs → HasWidth v

pub fit_left : (xs ys : List Vector) → AreFit (xs ++ ys) → AreFit xs
fit_left xs ys h v k = h v (in_left v xs ys k)

pub fit_right : (xs ys : List Vector) → AreFit (xs ++ ys) → AreFit ys
fit_right xs ys h v k = h v (in_right v xs ys k)

-- of three lists, which are joined from the left
pub fit_first : (xs ys zs : List Vector) → AreFit (xs ++ ys ++ zs) → AreFit xs
fit_first xs ys zs h = fit_left xs ys (fit_left (xs ++ ys) zs h)

pub fit_second : (xs ys zs : List Vector) → AreFit (xs ++ ys ++ zs) → AreFit ys
fit_second xs ys zs h = fit_right xs ys (fit_left (xs ++ ys) zs h)

pub fit_third : (xs ys zs : List Vector) → AreFit (xs ++ ys ++ zs) → AreFit zs
fit_third xs ys zs h = fit_right (xs ++ ys) zs h

-- of two faults none is there
pub no_earlier : (f h : Option _) → earlier f h ≡ None → (f ≡ None) × (h ≡ None)
no_earlier None h e = (refl, e)
no_earlier (Some f) None e = absurd cc
no_earlier (Some f) (Some h) e = absurd cc

pub one_width : IsWidth 1
one_width = (omega arith, omega arith)

pub max_width : (a b : ℕ) → IsWidth a → IsWidth b → IsWidth (max a b)
max_width a b h k =
    let from : 1 ≤ a = h.0 in
    let below : a ≤ 128 = h.1 in
    let other : b ≤ 128 = k.1 in
    (omega arith, omega arith)

value_width : (o : Option Entry) → EntryWidth o → IsWidth (entry_shape (value_entry o)).width
value_width None h = one_width
value_width (Some (a_constant v)) h = h
value_width (Some (a_turn v)) h = h
value_width (Some (a_signal s)) h = h
value_width (Some (a_memory m)) h = h
value_width (Some a_loop_variable) h = one_width
value_width (Some an_instance) h = one_width
value_width (Some no_constant) h = one_width
value_width (Some a_faulty_one) h = one_width

indexed_width : (o : Option Entry) → EntryWidth o → IsWidth (indexed_shape (value_entry o)).width
indexed_width None h = one_width
indexed_width (Some (a_constant v)) h = one_width
indexed_width (Some (a_turn v)) h = one_width
indexed_width (Some (a_signal s)) h = one_width
indexed_width (Some (a_memory m)) h = h
indexed_width (Some a_loop_variable) h = one_width
indexed_width (Some an_instance) h = one_width
indexed_width (Some no_constant) h = one_width
indexed_width (Some a_faulty_one) h = one_width

select_width : (g : Scope) → HasWidths g → (of : Expr) → IsWidth (select_shape (names g) of).width
select_width g h (identifier p x) = indexed_width (look_up g x) (h.widths x)
select_width g h (literal p v) = one_width
select_width g h (bit_select p of i) = one_width
select_width g h (part_select p of i j b) = one_width
select_width g h (indexed_part p of b w up k) = one_width
select_width g h (unary_operator p op a) = one_width
select_width g h (binary_operator p op a b) = one_width
select_width g h (conditional p c a b) = one_width
select_width g h (concatenation p es) = one_width
select_width g h (replication p k es) = one_width
select_width g h (sign_cast p s a) = one_width
select_width g h (parentheses p a) = one_width

wide_width : (b : Bool) (a : Shape) → IsWidth a.width → IsWidth (if b then a else one_bit).width
wide_width true a h = h
wide_width false a h = one_width

binary_width : (o : Binary) (a b : Shape) → IsWidth a.width → IsWidth b.width → IsWidth (binary_shape o a b).width
binary_width o a b h k = by_case (taken o)
  where
    by_case : IsTaken o → IsWidth (binary_shape o a b).width
    by_case (inl t) = subst (λ s. IsWidth s.width) (sym (t.shape a b)) (max_width a.width b.width h k)
    by_case (inr (inl t)) = subst (λ s. IsWidth s.width) (sym (t.shape a b)) h
    by_case (inr (inr (inl t))) = subst (λ s. IsWidth s.width) (sym (t.shape a b)) one_width
    by_case (inr (inr (inr t))) = subst (λ s. IsWidth s.width) (sym (t.shape a b)) one_width

-- an expression without fault
pub expr_width : (g : Scope) → HasWidths g → (e : Expr) → AreFit (literals e) → fault_of (names g) e ≡ None → IsWidth (shape g e).width
expr_width g h (literal p v) fit e = fit v (inl refl)
expr_width g h (identifier p x) fit e = value_width (look_up g x) (h.widths x)
expr_width g h (bit_select p of i) fit e = select_width g h of
expr_width g h (part_select p of i j b) fit e =
    width_within (part_width (falls (names g) of) (count_of (number_of (names g) i)) (count_of (number_of (names g) j))) b (none_in_turn (earlier (fault_of (names g) of) (earlier (bound_fault (names g) b i (fault_of (names g) i)) (bound_fault (names g) b j (fault_of (names g) j)))) _ e).1
expr_width g h (indexed_part p of b w up k) fit e =
    let parts = no_earlier (fault_of (names g) of) _ e in
    let more = no_earlier (fault_of (names g) b) _ parts.1 in
    let size = none_in_turn (number_fault (names g) w (fault_of (names g) w)) _ more.1 in
    width_within (count_of (number_of (names g) w)) k (none_in_turn _ (size_fault (count_of (number_of (names g) w)) k) size.1).1
expr_width g h (unary_operator p op a) fit e = wide_width (is_wide_unary op) (shape g a) (expr_width g h a fit e)
expr_width g h (binary_operator p op a b) fit e =
    let parts = no_earlier (fault_of (names g) a) (fault_of (names g) b) e in
    binary_width op (shape g a) (shape g b) (expr_width g h a (fit_left (literals a) (literals b) fit) parts.0) (expr_width g h b (fit_right (literals a) (literals b) fit) parts.1)
expr_width g h (conditional p c a b) fit e =
    let parts = no_earlier (fault_of (names g) c) _ e in
    let more = no_earlier (fault_of (names g) a) (fault_of (names g) b) parts.1 in
    max_width (shape g a).width (shape g b).width (expr_width g h a (fit_second (literals c) (literals a) (literals b) fit) more.0) (expr_width g h b (fit_third (literals c) (literals a) (literals b) fit) more.1)
expr_width g h (concatenation p es) fit e = width_within (parts_of (names g) es).width p (none_in_turn (first_fault (names g) None es) _ e).1
expr_width g h (replication p k es) fit e = width_within (shape g (replication p k es)).width p (none_in_turn (earlier (count_fault (names g) p k (fault_of (names g) k)) (first_fault (names g) None es)) _ e).1
expr_width g h (sign_cast p s a) fit e = expr_width g h a fit e
expr_width g h (parentheses p a) fit e = expr_width g h a fit e

-- bits that are extended
extended_width : (w : ℕ) (s t : Bool) (bs : List Bit) → IsWidth w → HasWidth (record { bits = extend w s bs; signed = t })
extended_width w s t bs h = subst IsWidth (sym (length-fit w (if s then top bs else Zero) bs)) h

-- a constant without fault has its width
constant_width : (g : Scope) → HasWidths g → (e : Expr) → AreFit (literals e) → none (constant_faults g e (faults g e)) ≡ true → names_faulty g e ≡ false → HasWidth (constant g e)
constant_width g h e fit sound named =
    let clean = constant_clean g e (faults g e) sound named in
    extended_width (shape g e).width (shape g e).signed (shape g e).signed ((meaning (names g) e).bits (shape g e).width (shape g e).signed) (expr_width g h e fit (no_const_fault g e clean.1 named))

-- so have the values of overrides
abbrev pub AreOverrides : List Override → Type 0
AreOverrides os = (o : Override) → In o os → HasWidth o.value

overridden_width : (os : List Override) → AreOverrides os → (x : List ℕ) (v : Vector) → HasWidth v → HasWidth (overridden os x v)
overridden_width os h x v own = by_case (find (λ o. bytes_eq o.name x) os) refl
  where
    by_case : (o : Option Override) → find (λ o. bytes_eq o.name x) os ≡ o → HasWidth (override_or o v)
    by_case None is = own
    by_case (Some o) is = h o (found_in (λ o. bytes_eq o.name x) os o is)

span_positive : (r : Option Range) → 1 ≤ range_width r
span_positive None = omega arith
span_positive (Some r) = omega arith

ranged_width : (g : Scope) (r : Option RangeExpr) (signed : Bool) (v : Vector) → is_sound_vector g r ≡ true → HasWidth v → HasWidth (ranged_value g r signed v)
ranged_width g None signed v sound h = h
ranged_width g (Some r) signed v sound h = extended_width (range_width (range_value g (Some r))) v.signed signed v.bits (span_positive (range_value g (Some r)), sound_width g (Some r) sound)

typed_width : (g : Scope) (p : Param) (v : Vector) → is_sound_vector g p.range ≡ true → HasWidth v → HasWidth (typed_value g p v)
typed_width g p v sound h = by_case p.integer
  where
    by_case : (b : Bool) → HasWidth (if b then record { bits = extend 32 v.signed v.bits; signed = true } else ranged_value g p.range p.signed v)
    by_case true = extended_width 32 v.signed true v.bits (omega arith, omega arith)
    by_case false = ranged_width g p.range p.signed v sound h

not_true : (b : Bool) → not b ≡ true → b ≡ false
not_true true h = absurd (false≢true h)
not_true false h = refl

param_width : (g : Scope) → HasWidths g → (os : List Override) → AreOverrides os → (p : Param) → AreFit (literals p.value) → EntryWidth (Some (param_entry g os p))
param_width g h os given p fit = by_test (none (param_faults g p) && is_sound_vector g p.range && not (names_faulty g p.value)) refl
  where
    by_test : (b : Bool) → (none (param_faults g p) && is_sound_vector g p.range && not (names_faulty g p.value)) ≡ b → EntryWidth (Some (if b then a_constant (typed_value g p (overridden os p.name.name (constant g p.value))) else a_faulty_one))
    by_test false is = tt
    by_test true is =
        let q = and_parts (none (param_faults g p) && is_sound_vector g p.range) (not (names_faulty g p.value)) is in
        let r = and_parts (none (param_faults g p)) (is_sound_vector g p.range) q.0 in
        let s = both_none (vector_faults g p.range) (constant_faults g p.value (faults g p.value)) r.0 in
        typed_width g p _ r.1 (overridden_width os given p.name.name (constant g p.value) (constant_width g h p.value fit s.1 (not_true (names_faulty g p.value) q.1)))

-- one more binding
pushed_entry : (P : Option Entry → Type 0) (bs : Bindings) (y : List ℕ) (e : Entry) (o : Option Entry) (x : List ℕ) → P (entry_or (binding_of bs x) o) → P (Some e) → P (entry_or (binding_of (bs ++ (y, e) ∷ []) x) o)
pushed_entry P [] y e o x all here = by_test (bytes_eq x y)
  where
    by_test : (b : Bool) → P (entry_or (cond b (Some e) None) o)
    by_test true = here
    by_test false = all
pushed_entry P ((w, f) ∷ bs) y e o x all here = by_test (λ k. pushed_entry P bs y e o x k here) (bytes_eq x w) all
  where
    by_test : (P (entry_or (binding_of bs x) o) → P (entry_or (binding_of (bs ++ (y, e) ∷ []) x) o)) → (b : Bool) → P (entry_or (cond b (Some f) (binding_of bs x)) o) → P (entry_or (cond b (Some f) (binding_of (bs ++ (y, e) ∷ []) x)) o)
    by_test further true h = h
    by_test further false h = further h

constants_widths : (others : Scope) (os : List Override) → AreOverrides os → (sofar : Bindings) (ps : List Param) → HasWidths (with_bindings sofar others) → ((p : Param) → In p ps → AreFit (literals p.value)) → HasWidths (with_bindings (constants_from others os sofar ps) others)
constants_widths others os given sofar [] h fit = h
constants_widths others os given sofar (p ∷ ps) h fit = constants_widths others os given (with_param others os sofar p) ps (by_test (is_none (binding_of sofar p.name.name))) (λ q k. fit q (inr k))
  where
    by_test : (b : Bool) → HasWidths (with_bindings (if b then sofar ++ (p.name.name, param_entry (with_bindings sofar others) os p) ∷ [] else sofar) others)
    by_test true = record { widths = λ x. pushed_entry EntryWidth sofar p.name.name (param_entry (with_bindings sofar others) os p) (others x) x (h.widths x) (param_width (with_bindings sofar others) h os given p (fit p (inl refl))) }
    by_test false = h

others_widths : (m : Module) → HasWidths (with_bindings [] (other_names m))
others_widths m = record { widths = λ x. by_test (is_among (names_of m) x) }
  where
    by_test : (b : Bool) → EntryWidth (if b then Some no_constant else None)
    by_test true = tt
    by_test false = tt

-- a declared name that is not faulty
declared_width : (os : List Override) (m : Module) (d : Declaration) → In d (declared os m) → is_faulty d.sort ≡ false → IsWidth (range_width d.range)
declared_width os m d d_in sound = (span_positive d.range, (declared_has_range os m d d_in).bits sound)

entry_width : (os : List Override) (aliases : PortAliases) (m : Module) (s k : ℕ) (d : Declaration) → In d (declared os m) → EntryWidth (Some (declared_entry aliases m s k d))
entry_width os aliases m s k d d_in = by_signal (is_signal m d) refl
  where
    by_sort : (t : Sort) → d.sort ≡ t → EntryWidth (Some (other_entry k d t))
    by_sort (words_from r) is = declared_width os m d d_in (ap is_faulty is)
    by_sort a_net is = tt
    by_sort a_variable is = tt
    by_sort an_integer is = tt
    by_sort a_parameter is = tt
    by_sort some_instance is = tt
    by_sort faulty is = tt
    by_sort faulty_memory is = tt

    by_signal : (b : Bool) → is_signal m d ≡ b → EntryWidth (Some (if b then signal_entry (unwrap_or (alias_number aliases d.name.name) s) d else other_entry k d d.sort))
    by_signal true is = declared_width os m d d_in (signal_sort_sound m d.name.name d.sort is)
    by_signal false is = by_sort d.sort refl

-- the names of an instance
pub scope_widths : (i : Instantiation) (s k : ℕ) → AreOverrides i.overrides → ((p : Param) → In p (params_of i.of_module) → AreFit (literals p.value)) → HasWidths (scope_of i s k)
scope_widths i s k given fit = record { widths = λ x. subst (λ o. EntryWidth (entry_or o (entry_or (binding_of (entries i.aliases m s k ds) x) None))) (sym (binding_kept (names_parameter ds) (constants i.overrides m) x)) (by_test x (names_parameter ds x)) }
  where
    m : Module
    m = i.of_module

    of_constants : HasWidths (with_bindings (constants i.overrides m) (other_names m))
    of_constants = constants_widths (other_names m) i.overrides given [] (params_of m) (others_widths m) fit

    or_none : (o : Option Entry) → EntryWidth o → EntryWidth (entry_or o None)
    or_none None h = tt
    or_none (Some e) h = h

    ds : List Declaration
    ds = declared i.overrides m

    of_declared : (x : List ℕ) → EntryWidth (entry_or (binding_of (entries i.aliases m s k ds) x) None)
    of_declared x = or_none _ (entries_all EntryWidth i.aliases m s k ds x tt (λ d d_in same s2 k2. entry_width i.overrides i.aliases m s2 k2 d d_in))

    either : (x : List ℕ) (o : Option Entry) → EntryWidth (entry_or o (other_names m x)) → EntryWidth (entry_or o (entry_or (binding_of (entries i.aliases m s k ds) x) None))
    either x (Some e) h = h
    either x None h = of_declared x

    by_test : (x : List ℕ) (b : Bool) → EntryWidth (entry_or (cond b (binding_of (constants i.overrides m) x) None) (entry_or (binding_of (entries i.aliases m s k ds) x) None))
    by_test x true = either x (binding_of (constants i.overrides m) x) (of_constants.widths x)
    by_test x false = of_declared x

-- and those of a turn
pub turn_widths : (g : Scope) (h : Header) (v : Vector) → HasWidths g → HasWidth v → HasWidths (in_turn h v g)
turn_widths g h v all here = record { widths = λ x. by_test x (bytes_eq x (base_name h.name).name) }
  where
    by_test : (x : List ℕ) (b : Bool) → EntryWidth (if b then Some (a_turn v) else g x)
    by_test x true = here
    by_test x false = all.widths x

-- values that have 32 bits, where they are answered
abbrev AreIntegers : {E : Type 0} → Result (List Vector) E → Type 0
AreIntegers (Ok vs) = (v : Vector) → In v vs → length v.bits ≡ 32
AreIntegers (Err f) = Unit {0}

abbrev IsInteger : {E : Type 0} → Result Vector E → Type 0
IsInteger (Ok v) = length v.bits ≡ 32
IsInteger (Err f) = Unit {0}

integer_there : (g : Names) (e : Expr) → IsInteger (integer_answer g e)
integer_there g e = by_fault (fault_of g e)
  where
    by_fault : (f : Option _) → IsInteger (unless f (integer_value g e))
    by_fault None = length-fit 32 _ _
    by_fault (Some f) = tt

more_integers : (b : Result Bool _) (more : Result (List Vector) _) → AreIntegers more → AreIntegers (on_ok b (more_if more))
more_integers (Ok true) more h = h
more_integers (Ok false) more h = λ v k. absurd k
more_integers (Err f) more h = tt

before_integers : (v : Vector) (more : Result (List Vector) _) → length v.bits ≡ 32 → AreIntegers more → AreIntegers (turn_before v more)
before_integers v (Err f) here h = tt
before_integers v (Ok vs) here h = both
  where
    both : (u : Vector) → In u (v ∷ vs) → length u.bits ≡ 32
    both u (inl e) = subst (λ z. length z.bits ≡ 32) e here
    both u (inr k) = h u k

next_integers : (r : Result Vector _) (f : Vector → Result (List Vector) _) → IsInteger r → ((v : Vector) → length v.bits ≡ 32 → AreIntegers (f v)) → AreIntegers (on_ok r f)
next_integers (Ok v) f h each = each v h
next_integers (Err e) f h each = tt

turns_integers : (g : Names) (p : Place) (x : List ℕ) (test step : Expr) (k : ℕ) (v : Vector) → length v.bits ≡ 32 → AreIntegers (turns_from g p x test step k v)
turns_integers g p x test step zero v here = more_integers (begins (with_turn x v g) p test) (Err (fault_at LoopTooLong p)) tt
turns_integers g p x test step (suc k) v here =
    more_integers (begins (with_turn x v g) p test) _
    (next_integers (integer_answer (with_turn x v g) step) (λ next. turn_before v (turns_from g p x test step k next)) (integer_there (with_turn x v g) step) (λ next is. before_integers v (turns_from g p x test step k next) here (turns_integers g p x test step k next is)))

header_integers : (g : Names) (h : Header) → AreIntegers (turns_answer g h)
header_integers g h = by_variable (variable_of h.name h.target)
  where
    by_over : (x : List ℕ) (b : Bool) → AreIntegers (if b then on_ok (integer_answer g h.first) (turns_from g h.place x h.test h.step 1024) else Err (fault_at LoopNotConstant h.place))
    by_over x true = next_integers (integer_answer g h.first) (turns_from g h.place x h.test h.step 1024) (integer_there g h.first) (λ v is. turns_integers g h.place x h.test h.step 1024 v is)
    by_over x false = tt

    by_variable : (o : Option (List ℕ)) → AreIntegers (turns_by g h o)
    by_variable None = tt
    by_variable (Some x) = by_over x (is_over g x h.first h.test h.step)

told_integers : (r : Result (List Vector) _) → AreIntegers r → AreIntegers (const.told r)
told_integers (Ok vs) h = h
told_integers (Err f) h = tt

-- the value of a variable in a turn
pub turn_width : (g : Scope) (h : Header) (v : Vector) → In v (loops.turns g h) → HasWidth v
turn_width g h v k = let is : length v.bits ≡ 32 = by_answer (loops.answer g h) all k in (omega (arith, is), omega (arith, is))
  where
    by_answer : (r : Result (List Vector) ConstFault) → AreIntegers r → In v (loops.values_of r) → length v.bits ≡ 32
    by_answer (Ok vs) h k = h v k
    by_answer (Err f) h k = absurd k

    all : AreIntegers (loops.answer g h)
    all = by_test (none (loops.header_faults g h) && not (loops.header_names_faulty g h))
      where
        by_test : (b : Bool) → AreIntegers (if b then const.told (turns_answer (names g) h) else Ok [])
        by_test true = told_integers (turns_answer (names g) h) (header_integers (names g) h)
        by_test false = λ v k. absurd k

-- a connection has the value of one that is given
pub connection_given : (label : Named) (xs : List Named) (cs : List Given) (c : Connection) → In c (connections label xs cs) → (d : Given) × In d cs × (d.value ≡ c.value)
connection_given label xs [] c h = absurd h
connection_given label xs (d ∷ cs) c h = by_name (connection_given label xs cs c) (λ ys. connection_given label ys cs c) d.name xs h
  where
    further : ((e : Given) × In e cs × (e.value ≡ c.value)) → (e : Given) × In e (d ∷ cs) × (e.value ≡ c.value)
    further r = (r.0, inr r.1, r.2)

    by_name : (In c (connections label xs cs) → (e : Given) × In e cs × (e.value ≡ c.value)) → ((ys : List Named) → In c (connections label ys cs) → (e : Given) × In e cs × (e.value ≡ c.value)) → (o : Option Named) (zs : List Named) →
        In c (elim o [ Some x ↦ connection x.name x d.value ∷ connections label xs cs | None ↦ elim zs [ [] ↦ connections label [] cs | x ∷ ys ↦ connection x.name label d.value ∷ connections label ys cs ] ]) → (e : Given) × In e (d ∷ cs) × (e.value ≡ c.value)
    by_name rest more (Some x) zs (inl e) = (d, inl refl, ap (λ z. z.value) e)
    by_name rest more (Some x) zs (inr k) = further (rest k)
    by_name rest more None [] k = further (more [] k)
    by_name rest more None (x ∷ ys) (inl e) = (d, inl refl, ap (λ z. z.value) e)
    by_name rest more None (x ∷ ys) (inr k) = further (more ys k)

-- the values of sound overrides
pub overrides_fit : (g : Scope) → HasWidths g → IsSoundScope g → (label : Named) (m : Module) (cs : List Given) → AreFit (given_literals cs) → are_sound_overrides g label m cs ≡ true → AreOverrides (overrides g label m cs)
overrides_fit g h sound label m cs fit clean o o_in =
    let ks : List Connection = connections label (free_names m) cs in
    let k = in_flat_map (λ c. override_of g c.port c.value) o ks o_in in
    let d = connection_given label (free_names m) cs k.0 k.1 in
    let all = (both_none (given_faults label (free_names m) cs) _ (and_parts (none (override_faults g label m cs)) _ clean).0).1 in
    let own = each_empty (λ (c : Connection). override_value_faults g c.value) ks k.0 (is_empty _ all) k.1 in
    by_value k.0.port k.0.value (λ v v_in. fit v (in_flat_map_back (λ (c : Given). option_literals c.value) d.0 cs v d.1 (subst (λ z. In v (option_literals z)) (sym d.2) v_in))) own k.2
  where
    by_value : (x : List ℕ) (v : Option Expr) → AreFit (option_literals v) → override_value_faults g v ≡ [] → In o (override_of g x v) → HasWidth o.value
    by_value x None fit own k = absurd k
    by_value x (Some e) fit own (inl same) = subst (λ z. HasWidth z.value) same (constant_width g h e fit (ap none own) (names_sound g sound e))
    by_value x (Some e) fit own (inr k) = absurd k
