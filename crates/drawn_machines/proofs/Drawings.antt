-- What the instances of a design draw, one by one.
use Rattle.std.proofs.Common.{◌≡◌, ◌≢◌, ◌⊎◌, ◌↔◌, ◌<◌, ◌+◌, ◌^◌, ◌++◌, ℕ, zero, suc, ◌/◌, ◌%◌, ◌==◌, ◌&&◌, Bool, true, false, inl, inr, List, [], ◌∷◌, Result, Ok, Err, length, map, get_or, refl, sym, ap, subst, ◌∙◌, arith}
use Rattle.std.specs.List.{Contains}
use Rattle.std.proofs.lemmas.Bool.{cases_lt, false≢true}
use Rattle.design_model.specs.Design.{Design, In, signal_at}
use Rattle.design_model.specs.Points.{IsInstanceOf, IsNameOf}
use Rattle.fsm_extract.specs.Arcs.{IsArc, IsState}
use Rattle.fsm_extract.specs.Fault.{IsMachine, NamesNone, NamesNoneAs}
use Rattle.fsm_extract.specs.declared.names.MachineFault.{MachineFault}
use Rattle.fsm_extract.specs.declared.names.MachineFault.TheVariants as machine_fault
use Rattle.fsm_extract.specs.declared.names.MachinePart.{MachinePart}
use Rattle.fsm_extract.specs.declared.names.MachinePart.TheVariants as parts
use Rattle.state_machines.specs.declared.drawn.Drawn.{Drawn}
use Rattle.state_machines.specs.Drawn.{IsOfDesign, IsValueOf}
use Rattle.state_machines.specs.Machines.{drawn_of}
use Rattle.state_machines.specs.Values.{IsNamedSignal}
use Rattle.four_state.specs.Arithmetic.{low_bits}
use Rattle.four_state.specs.Vector.{all_known, bit_of, is_known}
use Rattle.drawn_machines.specs.declared.fault.DrawFault.{DrawFault}
use Rattle.drawn_machines.specs.Drawing.{AreDrawings, AreDrawnIn, AreDrawnOf, AreNumberPairs, AreNumbers, HasMachine, IsDrawing, IsDrawnIn, IsDrawnOf, IsNoMachine, IsNoMachineIn, IsPlaced, arc_drawn, arcs_drawn, number_value, state_drawn, states_drawn}

-- e is drawn in an instance with a number below n
abbrev pub IsDrawnBelow : Design → List ℕ → List ℕ → List ℕ → ℕ → Drawn → Type 0
IsDrawnBelow d of_module current next n e = (i : ℕ) × (i < n) × IsDrawnOf d of_module current next i e

in_append : {A : Type 0} (x : A) (xs ys : List A) → In x (xs ++ ys) → In x xs ⊎ In x ys
in_append x [] ys h = inr h
in_append x (y ∷ xs) ys (inl e) = inl (inl e)
in_append x (y ∷ xs) ys (inr h) = further (in_append x xs ys h)
  where
    further : In x xs ⊎ In x ys → In x (y ∷ xs) ⊎ In x ys
    further (inl k) = inl (inr k)
    further (inr k) = inr k

in_at : {A : Type 0} (xs : List A) (j : ℕ) (d : A) → j < length xs → In (get_or xs j d) xs
in_at [] j d l = absurd (omega arith)
in_at (x ∷ xs) zero d l = inl refl
in_at (x ∷ xs) (suc j) d l = inr (in_at xs j d (omega arith))

in_mapped : {A B : Type 0} (f : A → B) (x : B) (ys : List A) → In x (map f ys) → (y : A) × In y ys × (f y ≡ x)
in_mapped f x [] h = absurd h
in_mapped f x (y ∷ ys) (inl e) = (y, inl refl, e)
in_mapped f x (y ∷ ys) (inr h) = let r = in_mapped f x ys h in (r.0, inr r.1, r.2)

in_map_back : {A B : Type 0} (f : A → B) (y : A) (xs : List A) → In y xs → In (f y) (map f xs)
in_map_back f y [] h = absurd h
in_map_back f y (x ∷ xs) (inl e) = inl (ap f e)
in_map_back f y (x ∷ xs) (inr h) = inr (in_map_back f y xs h)

contains_in : {A : Type 0} (x : A) (xs : List A) (k : ℕ) → k < length xs → get_or xs k x ≡ x → In x xs
contains_in x [] k l e = absurd (omega arith)
contains_in x (y ∷ ys) zero l e = inl e
contains_in x (y ∷ ys) (suc k) l e = inr (contains_in x ys k (omega arith) e)

in_contains : {A : Type 0} (x : A) (xs : List A) → In x xs → Contains xs x
in_contains x [] h = absurd h
in_contains x (y ∷ ys) (inl e) = (0, omega arith, e)
in_contains x (y ∷ ys) (inr h) = let c = in_contains x ys h in (suc c.0, omega (arith, c.1), c.2)

pub in_left : {A : Type 0} (x : A) (xs ys : List A) → In x xs → In x (xs ++ ys)
in_left x [] ys h = absurd h
in_left x (y ∷ xs) ys (inl e) = inl e
in_left x (y ∷ xs) ys (inr h) = inr (in_left x xs ys h)

pub in_right : {A : Type 0} (x : A) (xs ys : List A) → In x ys → In x (xs ++ ys)
in_right x [] ys h = h
in_right x (y ∷ xs) ys h = inr (in_right x xs ys h)

-- ---- in one instance

module _ (d : Design) (i : ℕ) (name : List ℕ) (s t : ℕ) (states : List ℕ) (pairs : List (ℕ × ℕ)) (one_width : (signal_at d s).width ≡ (signal_at d t).width) (are_states : (v : ℕ) → Contains states v ↔ IsState d s t v) (are_pairs : (v w : ℕ) → Contains pairs (v, w) ↔ IsArc d s t v w) where
  arc_inside : (v w : ℕ) → IsArc d s t v w → (v < 2 ^ (signal_at d s).width) × (w < 2 ^ (signal_at d s).width)
  arc_inside v w arc = (arc.from.matched.inside, subst (λ n. w < 2 ^ n) (sym one_width) arc.assigns.gives.inside)

  state_inside : (v : ℕ) → IsState d s t v → v < 2 ^ (signal_at d s).width
  state_inside v (inl (p, x, arm)) = arm.matched.inside
  state_inside v (inr (u, arc)) = (arc_inside u v arc).1

  pub numbers_inside : AreNumbers d s states
  numbers_inside = λ k v l. state_inside (get_or states k v) ((are_states (get_or states k v)).0 (in_contains (get_or states k v) states (in_at states k v l)))

  pub pairs_inside : AreNumberPairs d s pairs
  pairs_inside = λ k a l.
      let p = get_or pairs k a in
      arc_inside p.0 p.1 ((are_pairs p.0 p.1).0 (in_contains p pairs (in_at pairs k a l)))

  there : (e : Drawn) → In e (states_drawn d i name s states) ⊎ In e (arcs_drawn d i name s pairs) → IsDrawnIn d i name s t e
  there e (inl h) = let r = in_mapped (state_drawn d i name s) e states h in inl (r.0, (are_states r.0).0 (in_contains r.0 states r.1), sym r.2)
  there e (inr h) = let r = in_mapped (arc_drawn d i name s) e pairs h in inr (r.0.0, r.0.1, (are_pairs r.0.0 r.0.1).0 (in_contains r.0 pairs r.1), sym r.2)

  back : (e : Drawn) → IsDrawnIn d i name s t e → In e (states_drawn d i name s states ++ arcs_drawn d i name s pairs)
  back e (inl (v, is, same)) =
      let c = (are_states v).1 is in
      let here = in_map_back (state_drawn d i name s) v states (contains_in v states c.0 c.1 c.2) in
      in_left e (states_drawn d i name s states) (arcs_drawn d i name s pairs) (subst (λ (x : Drawn). In x (states_drawn d i name s states)) (sym same) here)
  back e (inr (v, w, is, same)) =
      let c = (are_pairs v w).1 is in
      let here = in_map_back (arc_drawn d i name s) (v, w) pairs (contains_in (v, w) pairs c.0 c.1 c.2) in
      in_right e (states_drawn d i name s states) (arcs_drawn d i name s pairs) (subst (λ (x : Drawn). In x (arcs_drawn d i name s pairs)) (sym same) here)

  pub all_drawn : AreDrawnIn d i name s t (states_drawn d i name s states ++ arcs_drawn d i name s pairs)
  all_drawn e = (λ h. there e (in_append e (states_drawn d i name s states) (arcs_drawn d i name s pairs) h), back e)

-- in an instance of the module, with its signals
pub own_drawn : (d : Design) (of_module current next : List ℕ) (n s t : ℕ) (es : List Drawn) → IsMachine d of_module n current next s t → ((p q : ℕ) → IsMachine d of_module n current next p q → (p ≡ s) × (q ≡ t))
    → AreDrawnIn d n current s t es → AreDrawnOf d of_module current next n es
own_drawn d of_module current next n s t es machine one own e = (λ h. (s, t, machine, (own e).0 h), back)
  where
    back : IsDrawnOf d of_module current next n e → In e es
    back h =
        let both = one h.0 h.1 h.2 in
        let a : IsDrawnIn d n current s h.1 e = subst (λ k. IsDrawnIn d n current k h.1 e) both.0 h.3 in
        (own e).1 (subst (λ k. IsDrawnIn d n current s k e) both.1 a)

-- in an instance of another module
pub none_of : (d : Design) (of_module current next : List ℕ) (n : ℕ) → (IsInstanceOf d n of_module → ⊥) → AreDrawnOf d of_module current next n []
none_of d of_module current next n other e = (λ h. absurd h, λ h. absurd (other h.2.instance))

-- ---- one instance more

module _ (d : Design) (of_module current next : List ℕ) where
  pub none_below : (e : Drawn) → In e [] ↔ IsDrawnBelow d of_module current next 0 e
  none_below e = (λ h. absurd h, λ h. absurd (omega (arith, h.1)))

  pub more_below : (n : ℕ) (es new : List Drawn) → ((e : Drawn) → In e es ↔ IsDrawnBelow d of_module current next n e) → AreDrawnOf d of_module current next n new → (e : Drawn) → In e (es ++ new) ↔ IsDrawnBelow d of_module current next (n + 1) e
  more_below n es new are own e = (λ h. there (in_append e es new h), back)
    where
      there : In e es ⊎ In e new → IsDrawnBelow d of_module current next (n + 1) e
      there (inl h) = let r = (are e).0 h in (r.0, omega (arith, r.1), r.2)
      there (inr h) = (n, omega arith, (own e).0 h)

      back : IsDrawnBelow d of_module current next (n + 1) e → In e (es ++ new)
      back h = elim (cases_lt h.0 n) [
        | inl l ↦ in_left e es new ((are e).1 (h.0, l, h.2))
        | inr m ↦ (let same : h.0 ≡ n = omega (arith, h.1) in in_right e es new ((own e).1 (subst (λ k. IsDrawnOf d of_module current next k e) same h.2)))
      ]

  -- all instances
  pub whole_drawn : (es : List Drawn) → ((e : Drawn) → In e es ↔ IsDrawnBelow d of_module current next (length d.instances) e) → AreDrawings d of_module current next es
  whole_drawn es are e = (λ h. let r = (are e).0 h in (r.0, r.2), λ h. (are e).1 (h.0, h.1.2.instance.0, h.1))

  -- with one instance more each has a machine
  pub more_machines : (n : ℕ) → ((i : ℕ) → i < n → IsInstanceOf d i of_module → HasMachine d of_module current next i) → (IsInstanceOf d n of_module → HasMachine d of_module current next n) → (i : ℕ) → i < n + 1 → IsInstanceOf d i of_module → HasMachine d of_module current next i
  more_machines n each own i l is = elim (cases_lt i n) [
    | inl a ↦ each i a is
    | inr b ↦ (let same : i ≡ n = omega (arith, l) in subst (λ k. HasMachine d of_module current next k) (sym same) (own (subst (λ k. IsInstanceOf d k of_module) same is)))
  ]

-- the fault in an instance, before which each has a machine
pub no_machine_at : (d : Design) (of_module current next : List ℕ) (n : ℕ) (part : MachinePart) → IsInstanceOf d n of_module → IsNoMachineIn d current next n part → ((j : ℕ) → j < n → IsInstanceOf d j of_module → HasMachine d of_module current next j) → IsNoMachine d of_module current next part
no_machine_at d of_module current next n parts.Module is fault before = absurd fault
no_machine_at d of_module current next n parts.In is fault before = (n, is, fault, before)
no_machine_at d of_module current next n parts.Out is fault before = (n, is, fault, before)

-- a name at fault in an instance, as `find` says it
pub no_machine_in : (d : Design) (of_module current next : List ℕ) (i : ℕ) (found : Result (ℕ × ℕ) MachineFault) (at part : MachinePart)
    → (found ≡ Err (machine_fault.NoMachine parts.In) → IsInstanceOf d i of_module × NamesNone d i current)
    → (found ≡ Err (machine_fault.NoMachine parts.Out) → IsInstanceOf d i of_module × (s : ℕ) × IsNamedSignal d i current s × NamesNoneAs d i next s)
    → (at ≢ parts.Module) → found ≡ Err (machine_fault.NoMachine at) → at ≡ part → IsInstanceOf d i of_module × IsNoMachineIn d current next i part
no_machine_in d of_module current next i found parts.Module part of_in of_out other is same = absurd (other refl)
no_machine_in d of_module current next i found parts.In part of_in of_out other is same = subst (λ (p : MachinePart). IsInstanceOf d i of_module × IsNoMachineIn d current next i p) same (of_in is)
no_machine_in d of_module current next i found parts.Out part of_in of_out other is same =
    let fault = of_out is in
    subst (λ (p : MachinePart). IsInstanceOf d i of_module × IsNoMachineIn d current next i p) same (fault.0, (fault.1, fault.2, fault.3))

-- two answers that are found are the same
ok_same : {A E : Type 0} (x y : A) (r : Result A E) → r ≡ Ok x → r ≡ Ok y → x ≡ y
ok_same x y r a b =
    let both : Ok x ≡ Ok y = sym a ∙ b in
    cc

pub same_pair : (s t p q : ℕ) (r : Result (ℕ × ℕ) MachineFault) → r ≡ Ok (s, t) → r ≡ Ok (p, q) → (p ≡ s) × (q ≡ t)
same_pair s t p q r a b =
    let e = ok_same {A = ℕ × ℕ} (s, t) (p, q) r a b in
    (sym (ap (λ (x : ℕ × ℕ). x.0) e), sym (ap (λ (x : ℕ × ℕ). x.1) e))

-- a fault that a call hands on
pub handed_on : {T : Type 0} (r : Result T DrawFault) (x y f : DrawFault) → r ≡ Err y → y ≡ x → r ≡ Err f → x ≡ f
handed_on r x y f a b e =
    let both : Err y ≡ Err f = sym a ∙ e in
    let same : y ≡ f = cc in
    sym b ∙ same

-- ---- whether the module has an instance

-- an instance with a number below n is of the module
abbrev pub IsSomeBelow : Design → List ℕ → ℕ → Type 0
IsSomeBelow d of_module n = (i : ℕ) × (i < n) × IsInstanceOf d i of_module

pub some_here : (d : Design) (of_module : List ℕ) (n : ℕ) (new : Bool) → new ≡ true → IsInstanceOf d n of_module → (new ≡ true) ↔ IsSomeBelow d of_module (n + 1)
some_here d of_module n new e is = (λ t. (n, omega arith, is), λ h. e)

pub some_before : (d : Design) (of_module : List ℕ) (n : ℕ) (old new : Bool) → new ≡ old → (IsInstanceOf d n of_module → ⊥) → ((old ≡ true) ↔ IsSomeBelow d of_module n) → (new ≡ true) ↔ IsSomeBelow d of_module (n + 1)
some_before d of_module n old new e other has = (λ t. let r = has.0 (sym e ∙ t) in (r.0, omega (arith, r.1), r.2), back)
  where
    back : IsSomeBelow d of_module (n + 1) → new ≡ true
    back h = elim (cases_lt h.0 n) [
      | inl l ↦ e ∙ has.1 (h.0, l, h.2)
      | inr m ↦ (let same : h.0 ≡ n = omega (arith, h.1) in absurd (other (subst (λ k. IsInstanceOf d k of_module) same h.2)))
    ]

-- ---- once all instances are looked at

pub placed_all : (d : Design) (of_module current next : List ℕ) (n : ℕ) → n ≡ length d.instances → ((i : ℕ) → i < n → IsInstanceOf d i of_module → HasMachine d of_module current next i) → IsSomeBelow d of_module n → IsPlaced d of_module current next
placed_all d of_module current next n whole each some = record { some = (some.0, some.2); all = λ i is. each i (omega (arith, whole, is.0)) is }

pub no_module : (d : Design) (of_module : List ℕ) (n : ℕ) (has : Bool) → n ≡ length d.instances → ((has ≡ true) ↔ IsSomeBelow d of_module n) → has ≡ false → (i : ℕ) → IsInstanceOf d i of_module → ⊥
no_module d of_module n has whole some none i is = false≢true (sym none ∙ some.1 (i, omega (arith, whole, is.0), is))

pub all_drawings : (d : Design) (of_module current next : List ℕ) (n : ℕ) (es : List Drawn) → n ≡ length d.instances → ((e : Drawn) → In e es ↔ IsDrawnBelow d of_module current next n e) → AreDrawings d of_module current next es
all_drawings d of_module current next n es whole are = whole_drawn d of_module current next es (subst (λ k. (e : Drawn) → In e es ↔ IsDrawnBelow d of_module current next k e) whole are)

-- ---- what follows from the definitions

low_length : (w n : ℕ) → length (low_bits w n) ≡ w
low_length zero n = refl
low_length (suc w) n = ap suc (low_length w (n / 2))

low_known : (w n : ℕ) → all_known (low_bits w n) ≡ true
low_known zero n = refl
low_known (suc w) n = and_true (is_known (bit_of (n % 2 == 1))) (all_known (low_bits w (n / 2))) (one_known (n % 2 == 1)) (low_known w (n / 2))
  where
    one_known : (b : Bool) → is_known (bit_of b) ≡ true
    one_known true = refl
    one_known false = refl

    and_true : (a b : Bool) → a ≡ true → b ≡ true → (a && b) ≡ true
    and_true a b e f = rw (e, f) refl

-- a value that is a number is one of the signal, without x and z
number_is : (d : Design) (s n : ℕ) → IsValueOf d s (number_value d s n)
number_is d s n = (low_length (signal_at d s).width n, refl)

-- what is drawn is of the design, and its values have no x or z
pub record IsPlain (d : Design) (current : List ℕ) (e : Drawn) : Type 0 where
  pub of_design : IsOfDesign d e
  pub name : e.name ≡ current
  pub from : all_known e.from.bits ≡ true
  pub to : all_known e.to.bits ≡ true

plain_values : (d : Design) (i s v w : ℕ) (current : List ℕ) → i < length d.instances → IsNamedSignal d i current s → IsPlain d current (drawn_of i current s (number_value d s v) (number_value d s w))
plain_values d i s v w current there named =
    record {
      of_design = record { instance = there; signal = named; from = number_is d s v; to = number_is d s w };
      name = refl;
      from = low_known (signal_at d s).width v;
      to = low_known (signal_at d s).width w;
    }

pub drawing_plain : (d : Design) (of_module current next : List ℕ) (e : Drawn) → IsDrawing d of_module current next e → IsPlain d current e
drawing_plain d of_module current next e (i, (s, t, machine, inl (v, is, same))) = subst (IsPlain d current) (sym same) (plain_values d i s v v current machine.instance.0 machine.current_is)
drawing_plain d of_module current next e (i, (s, t, machine, inr (v, w, is, same))) = subst (IsPlain d current) (sym same) (plain_values d i s v w current machine.instance.0 machine.current_is)

-- names of machines that are all there have no fault
pub placed_or_fault : (d : Design) (of_module current next : List ℕ) → ((i s t : ℕ) → IsNameOf d i current s → IsNameOf d i current t → s ≡ t) → IsPlaced d of_module current next → (part : MachinePart) → IsNoMachine d of_module current next part → ⊥
placed_or_fault d of_module current next one placed parts.Module none = none placed.some.0 placed.some.1
placed_or_fault d of_module current next one placed parts.In (i, is, none, before) = let m = placed.all i is in none m.0 m.2.current_is.1
placed_or_fault d of_module current next one placed parts.Out (i, is, (s, named, none), before) =
    let m = placed.all i is in
    let same : m.0 ≡ s = one i m.0 s m.2.current_is.1 named.1 in
    none m.1 m.2.next_is.1 (ap (λ k. (signal_at d k).width) (sym same) ∙ m.2.one_width)
