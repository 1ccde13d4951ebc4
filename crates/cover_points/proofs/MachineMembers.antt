-- The points of machines that are found are those of the design.
use Rattle.std.proofs.Common.{◌≡◌, ◌≢◌, ◌⊎◌, ◌↔◌, ◌<◌, ◌≤◌, ◌+◌, ℕ, zero, suc, Bool, true, false, cond, inl, inr, List, [], ◌∷◌, length, map, get_or, refl, sym, ap, ap₂, subst, ◌∙◌, arith, zero-add}
use Rattle.std.specs.Prelude.{◌==◌}
use Rattle.std.specs.declared.cmp.Ordering.TheVariants.{Equal}
use Rattle.std.specs.List.{AllZip, dedup, range_with_len}
use Rattle.std.specs.List.Sorted.{IsPermutation}
use Rattle.std.specs.Ordering.{eq_by_cmp, nat_cmp, ordering_then}
use Rattle.std.proofs.lemmas.Bool.{and_parts, cases_order, false_from_ne_true, false≢true}
use Rattle.std.proofs.lemmas.Bool.Decides.{nat_tests}
use Rattle.std.proofs.lemmas.List.{get_or-map, length-map}
use Rattle.design_machines.proofs.state_machines.Digits.{digits_apart}
use Rattle.design_model.specs.four_state.Vector.{Vector, same_bit, same_bits}
use Rattle.design_model.specs.four_state.declared.bit.Bit.{Bit}
use Rattle.design_model.specs.four_state.declared.bit.Bit.TheVariants.{One, X, Z, Zero}
use Rattle.design_machines.specs.state_machines.Same.{bits_at, no_value}
use Rattle.design_model.specs.Design.{Design, In, no_instance, signal_at}
use Rattle.design_model.specs.Lawful.{IsLawfulDesign}
use Rattle.design_model.specs.Points.{IsMachineAt, IsNameOf, IsStateValue, StateNames}
use Rattle.design_model.specs.declared.point.Point.{Point}
use Rattle.design_model.specs.declared.point.Point.TheVariants.{Line, Logic, Toggle, State as state_point, Arc as arc_point, Word}
use Rattle.design_machines.specs.Drawn.{AreAllMachines, IsWhole, drawn_machine, values_of}
use Rattle.design_machines.specs.Machines.{AreApart, IsMachineOf, machine_at, no_machine}
use Rattle.design_machines.specs.state_machines.Drawn.{AreDrawable, IsDrawnAt, IsOfDesign, IsPointWith, digits_of}
use Rattle.design_machines.specs.state_machines.Machines.{StateMachines}
use Rattle.design_machines.specs.state_machines.declared.drawn.Drawn.{Drawn}
use Rattle.design_machines.specs.declared.machine.Machine.{Machine}
use Rattle.cover_points.specs.MachinePoints.{IsOfMachine, arc_to, arcs_from, arcs_of, first_name, machine_cmp, machine_path, machine_rank, machine_variable, machine_view, points_of_machine, second_name, state_name, state_value, states_of}
use Rattle.cover_points.specs.Listed.{IsPlaced}
use Rattle.cover_points.specs.Order.{bytes_cmp, path_at}
use Rattle.cover_points.specs.Texts.{each_from}
use Rattle.cover_points.specs.declared.machine_point.MachinePoint.{MachinePoint}
use Rattle.cover_points.specs.declared.machine_point.MachinePoint.TheVariants.{State, Arc}
use Rattle.cover_points.proofs.Members.{both_equal, in_append, in_at, in_flat_map, in_flat_map_back, in_left, in_map, in_map_back, in_right, once_from, once_keeps, same_bytes, same_number, same_place}
use Rattle.cover_points.proofs.NamedOnce.{one_signal, one_value}
use Rattle.cover_points.proofs.Orders.{machine_total}
use Rattle.cover_points.proofs.Pieces.{parts_of, whole_of}
use Rattle.cover_points.proofs.ThingMembers.{in_range, range_in}

-- what is in the lists of one machine
of_states : (xs : List Machine) (k : ℕ) (p : MachinePoint) → k < length xs → In p (states_of k (length (machine_at xs k).names)) → IsPlaced xs p
of_states xs k p l h =
    let n = length (machine_at xs k).names in
    let s = in_flat_map (λ s. State k s ∷ []) p (range_with_len 0 n) h in
    by_one s.0 (in_range s.0 0 n s.1).1 s.2
  where
    by_one : (s : ℕ) → s < 0 + length (machine_at xs k).names → In p (State k s ∷ []) → IsPlaced xs p
    by_one s m (inl e) = let there : s < length (machine_at xs k).names = omega (arith, m) in subst (IsPlaced xs) e (l, there)
    by_one s m (inr e) = absurd e

of_arc : (k i j : ℕ) (p : MachinePoint) → In p (arc_to k i j) → (i ≢ j) × (Arc k i j ≡ p)
of_arc k i j p h = by_test (i == j) refl h
  where
    by_test : (b : Bool) → i == j ≡ b → In p (cond b [] (Arc k i j ∷ [])) → (i ≢ j) × (Arc k i j ≡ p)
    by_test true e g = absurd g
    by_test false e (inl g) = (grind (arith, nat_tests), g)
    by_test false e (inr g) = absurd g

of_arcs : (xs : List Machine) (k : ℕ) (p : MachinePoint) → k < length xs → (machine_at xs k).leaving ≤ length (machine_at xs k).names → In p (arcs_of k (machine_at xs k).leaving (length (machine_at xs k).names)) → IsPlaced xs p
of_arcs xs k p l few h =
    let n = length (machine_at xs k).names in
    let m = (machine_at xs k).leaving in
    let i = in_flat_map (arcs_from k n) p (range_with_len 0 m) h in
    let j = in_flat_map (arc_to k i.0) p (range_with_len 0 n) i.2 in
    let a = of_arc k i.0 j.0 p j.2 in
    let leaves : i.0 < m = omega (arith, (in_range i.0 0 m i.1).1) in
    let from : i.0 < n = omega (arith, leaves, few) in
    let to : j.0 < n = omega (arith, (in_range j.0 0 n j.1).1) in
    subst (IsPlaced xs) a.1 (l, from, to, a.0, leaves)

-- arcs leave no more states than there are
abbrev LeavesStates : List Machine → Type 0
LeavesStates xs = (k : ℕ) → k < length xs → (machine_at xs k).leaving ≤ length (machine_at xs k).names

pub from_found : (xs : List Machine) → LeavesStates xs → (p : MachinePoint) → In p (each_from points_of_machine 0 xs) → IsPlaced xs p
from_found xs few p h =
    let r = parts_of points_of_machine p no_machine 0 xs h in
    let here : In p (points_of_machine r.0 (machine_at xs r.0)) = subst (λ k. In p (points_of_machine k (machine_at xs r.0))) (zero-add r.0) r.2 in
    let n = length (machine_at xs r.0).names in
    by_part r.0 r.1 (in_append p (states_of r.0 n) (arcs_of r.0 (machine_at xs r.0).leaving n) here)
  where
    by_part : (k : ℕ) → k < length xs → In p (states_of k (length (machine_at xs k).names)) ⊎ In p (arcs_of k (machine_at xs k).leaving (length (machine_at xs k).names)) → IsPlaced xs p
    by_part k l (inl a) = of_states xs k p l a
    by_part k l (inr a) = of_arcs xs k p l (few k l) a

arc_there : (k i j : ℕ) → i ≢ j → In (Arc k i j) (arc_to k i j)
arc_there k i j ne = by_test (i == j) refl
  where
    by_test : (b : Bool) → i == j ≡ b → In (Arc k i j) (cond b [] (Arc k i j ∷ []))
    by_test true e = absurd (ne (grind (arith, nat_tests)))
    by_test false e = inl refl

pub to_found : (xs : List Machine) (p : MachinePoint) → IsPlaced xs p → In p (each_from points_of_machine 0 xs)
to_found xs (State k s) h =
    let n = length (machine_at xs k).names in
    let state : In (State k s) (states_of k n) = in_flat_map_back (λ s. State k s ∷ []) s (range_with_len 0 n) (State k s) (range_in s 0 n (omega arith) (omega (arith, h.1))) (inl refl) in
    let here : In (State k s) (points_of_machine k (machine_at xs k)) = in_left (State k s) (states_of k n) (arcs_of k (machine_at xs k).leaving n) state in
    whole_of points_of_machine (State k s) no_machine 0 xs k h.0 (subst (λ m. In (State k s) (points_of_machine m (machine_at xs k))) (sym (zero-add k)) here)
to_found xs (Arc k i j) h =
    let n = length (machine_at xs k).names in
    let m = (machine_at xs k).leaving in
    let p = Arc k i j in
    let inner : In p (arcs_from k n i) = in_flat_map_back (arc_to k i) j (range_with_len 0 n) p (range_in j 0 n (omega arith) (omega (arith, h.2))) (arc_there k i j h.3) in
    let arc : In p (arcs_of k m n) = in_flat_map_back (arcs_from k n) i (range_with_len 0 m) p (range_in i 0 m (omega arith) (omega (arith, h.4))) inner in
    let here : In p (points_of_machine k (machine_at xs k)) = in_right p (states_of k n) (arcs_of k m n) arc in
    whole_of points_of_machine p no_machine 0 xs k h.0 (subst (λ m. In p (points_of_machine m (machine_at xs k))) (sym (zero-add k)) here)

-- two lists have as many elements, and those at a place go together
zip_at : {A B : Type 0} (R : A → B → Type 0) (xs : List A) (ys : List B) (k : ℕ) (a : A) (b : B) → AllZip R xs ys → k < length xs → R (get_or xs k a) (get_or ys k b)
zip_at R [] ys k a b h l = absurd (omega arith)
zip_at R (x ∷ xs) [] k a b h l = absurd h
zip_at R (x ∷ xs) (y ∷ ys) zero a b h l = h.0
zip_at R (x ∷ xs) (y ∷ ys) (suc k) a b h l = zip_at R xs ys k a b h.1 (omega arith)

zip_length : {A B : Type 0} (R : A → B → Type 0) (xs : List A) (ys : List B) → AllZip R xs ys → length xs ≡ length ys
zip_length R [] [] h = refl
zip_length R [] (y ∷ ys) h = absurd h
zip_length R (x ∷ xs) [] h = absurd h
zip_length R (x ∷ xs) (y ∷ ys) h = ap suc (zip_length R xs ys h.1)

place_of : {A : Type 0} (x : A) (xs : List A) (d : A) → In x xs → (j : ℕ) × (j < length xs) × (get_or xs j d ≡ x)
place_of x [] d h = absurd h
place_of x (y ∷ xs) d (inl e) = (0, omega arith, e)
place_of x (y ∷ xs) d (inr h) = let r = place_of x xs d h in (suc r.0, omega (arith, r.1), r.2)

same_bits_itself : (bs : List Bit) → same_bits bs bs ≡ true
same_bits_itself [] = refl
same_bits_itself (Zero ∷ bs) = same_bits_itself bs
same_bits_itself (One ∷ bs) = same_bits_itself bs
same_bits_itself (X ∷ bs) = same_bits_itself bs
same_bits_itself (Z ∷ bs) = same_bits_itself bs

-- values that differ are at different places
one_of_apart : (vs : List Vector) (i j : ℕ) → AreApart vs → i < length vs → j < length vs → get_or vs i no_value ≡ get_or vs j no_value → i ≡ j
one_of_apart vs i j h l m e = elim (cases_order i j) [
  | inl same ↦ same
  | inr (inl less) ↦ absurd (h j m (i, less, ap (λ (v : Vector). same_bits v.bits (bits_at vs j)) e ∙ same_bits_itself (bits_at vs j)))
  | inr (inr more) ↦ absurd (h i l (j, more, ap (λ (v : Vector). same_bits v.bits (bits_at vs i)) (sym e) ∙ same_bits_itself (bits_at vs i)))
]

-- bits that are the same, bit by bit, are equal
one_bit : (a b : Bit) → same_bit a b ≡ true → a ≡ b
one_bit Zero Zero e = refl
one_bit One One e = refl
one_bit X X e = refl
one_bit Z Z e = refl
one_bit Zero One e = absurd (false≢true e)
one_bit Zero X e = absurd (false≢true e)
one_bit Zero Z e = absurd (false≢true e)
one_bit One Zero e = absurd (false≢true e)
one_bit One X e = absurd (false≢true e)
one_bit One Z e = absurd (false≢true e)
one_bit X Zero e = absurd (false≢true e)
one_bit X One e = absurd (false≢true e)
one_bit X Z e = absurd (false≢true e)
one_bit Z Zero e = absurd (false≢true e)
one_bit Z One e = absurd (false≢true e)
one_bit Z X e = absurd (false≢true e)

equal_bits : (bs cs : List Bit) → same_bits bs cs ≡ true → bs ≡ cs
equal_bits [] [] e = refl
equal_bits [] (c ∷ cs) e = absurd (false≢true e)
equal_bits (b ∷ bs) [] e = absurd (false≢true e)
equal_bits (b ∷ bs) (c ∷ cs) e =
    let both = and_parts (same_bit b c) (same_bits bs cs) e in
    ap₂ (λ x xs. x ∷ xs) (one_bit b c both.0) (equal_bits bs cs both.1)

-- values with the same bits and the same sign
same_vector : (v w : Vector) → v.bits ≡ w.bits → v.signed ≡ w.signed → v ≡ w
same_vector v w e f =
    let make : List Bit → Bool → Vector = λ (bs : List Bit). λ (s : Bool). record { bits = bs; signed = s } in
    ap (λ bs. make bs v.signed) e ∙ ap (make w.bits) f

-- of the values that are drawn, each once
abbrev Drawing : Bool → Vector → Vector → List Vector
Drawing b x y = cond b (x ∷ []) (x ∷ y ∷ [])

drawn_value : (b : Bool) (x y : Vector) (s : ℕ) → s < length (Drawing b x y) → (x ≡ get_or (Drawing b x y) s no_value) ⊎ (y ≡ get_or (Drawing b x y) s no_value)
drawn_value true x y zero l = inl refl
drawn_value true x y (suc s) l = absurd (omega arith)
drawn_value false x y zero l = inl refl
drawn_value false x y (suc zero) l = inr refl
drawn_value false x y (suc (suc s)) l = absurd (omega arith)

drawn_arc : (b : Bool) (x y : Vector) (i j : ℕ) → i < 1 → j < length (Drawing b x y) → i ≢ j → (b ≡ false) × (x ≡ get_or (Drawing b x y) i no_value) × (y ≡ get_or (Drawing b x y) j no_value)
drawn_arc b x y (suc i) j l m ne = absurd (omega arith)
drawn_arc b x y zero zero l m ne = absurd (ne refl)
drawn_arc true x y zero (suc j) l m ne = absurd (omega arith)
drawn_arc false x y zero (suc zero) l m ne = (refl, refl, refl)
drawn_arc false x y zero (suc (suc j)) l m ne = absurd (omega arith)

drawn_place : (b : Bool) (x y v : Vector) → (b ≡ true → x ≡ y) → (x ≡ v) ⊎ (y ≡ v) → (t : ℕ) × (t < length (Drawing b x y)) × (get_or (Drawing b x y) t no_value ≡ v)
drawn_place true x y v same (inl e) = (0, omega arith, e)
drawn_place true x y v same (inr e) = (0, omega arith, same refl ∙ e)
drawn_place false x y v same (inl e) = (0, omega arith, e)
drawn_place false x y v same (inr e) = (1, omega arith, e)

drawn_two : (b : Bool) (x y : Vector) → b ≡ false → (0 < length (Drawing b x y)) × (1 < length (Drawing b x y)) × (get_or (Drawing b x y) 0 no_value ≡ x) × (get_or (Drawing b x y) 1 no_value ≡ y)
drawn_two true x y e = absurd (false≢true (sym e))
drawn_two false x y e = (omega arith, omega arith, refl, refl)

module _ (d : Design) (ms : StateMachines) (xs : List Machine) (h : AreAllMachines d ms xs) where
  pub leaves_states : LeavesStates xs
  leaves_states k l = (h.whole (machine_at xs k) (in_at xs k no_machine l)).leaving

module _ (d : Design) (lawful : IsLawfulDesign d) (ms : StateMachines) (drawable : AreDrawable d ms) (xs : List Machine) (h : AreAllMachines d ms xs) where
  whole : (k : ℕ) → k < length xs → IsWhole d (machine_at xs k)
  whole k l = h.whole (machine_at xs k) (in_at xs k no_machine l)

  -- the machine at a place is one of those that are named, or of one that is drawn
  abbrev Named : ℕ → Type 0
  Named k = (m : StateNames) × In m ms.named × IsMachineOf d m (machine_at xs k)

  abbrev IsOneDrawn : ℕ → Type 0
  IsOneDrawn k = (e : Drawn) × In e ms.drawn × (drawn_machine e ≡ machine_at xs k)

  kind : (k : ℕ) → k < length xs → Named k ⊎ IsOneDrawn k
  kind k l = by_part (in_append (machine_at xs k) h.named (map drawn_machine ms.drawn) (subst (λ (ys : List Machine). In (machine_at xs k) ys) h.are (in_at xs k no_machine l)))
    where
      by_part : In (machine_at xs k) h.named ⊎ In (machine_at xs k) (map drawn_machine ms.drawn) → Named k ⊎ IsOneDrawn k
      by_part (inl g) = inl (h.are_named.each (machine_at xs k) g)
      by_part (inr g) = inr (in_map drawn_machine (machine_at xs k) ms.drawn g)

  signal_is : (k : ℕ) → k < length xs → IsNameOf d (machine_at xs k).instance (machine_at xs k).variable (machine_at xs k).signal
  signal_is k l = (whole k l).signal.1

  -- ---- a machine that is named

  -- a state has its value, and its name is one of the machine's
  value_is : (k s : ℕ) → Named k → s < length (machine_at xs k).names → IsStateValue d (machine_at xs k).instance (machine_at xs k).signal (state_name xs k s) (state_value xs k s)
  value_is k s n g =
      let values = subst (λ (ns : List (List ℕ)). AllZip (IsStateValue d (machine_at xs k).instance (machine_at xs k).signal) ns (machine_at xs k).values) (sym n.2.names) n.2.values in
      zip_at (IsStateValue d (machine_at xs k).instance (machine_at xs k).signal) (machine_at xs k).names (machine_at xs k).values s [] no_value values g

  name_in : (k s : ℕ) (m : StateNames) → (machine_at xs k).names ≡ m.names → s < length (machine_at xs k).names → In (state_name xs k s) m.names
  name_in k s m e g = subst (λ (ns : List (List ℕ)). In (state_name xs k s) ns) e (in_at (machine_at xs k).names s [] g)

  at_machine : (k : ℕ) (l : k < length xs) (n : Named k) → IsMachineAt d n.0 (machine_at xs k).instance (machine_at xs k).variable (machine_at xs k).signal
  at_machine k l n = (n.2.instance, n.2.variable, signal_is k l)

  -- different states have different values
  values_differ : (k i j : ℕ) → k < length xs → i < length (machine_at xs k).names → j < length (machine_at xs k).names → state_value xs k i ≡ state_value xs k j → i ≡ j
  values_differ k i j l a b e =
      let w = whole k l in
      one_of_apart (machine_at xs k).values i j w.apart (omega (arith, w.count)) (omega (arith, w.count)) e

  -- and different names
  names_differ : (k i j : ℕ) → k < length xs → Named k → i < length (machine_at xs k).names → j < length (machine_at xs k).names → i ≢ j → state_name xs k i ≢ state_name xs k j
  names_differ k i j l n a b ne e =
      let x = machine_at xs k in
      let other = subst (λ (n : List ℕ). IsStateValue d x.instance x.signal n (state_value xs k i)) e (value_is k i n a) in
      let same : state_value xs k i ≡ state_value xs k j = one_value d lawful x.instance x.signal (state_name xs k j) (state_value xs k i) (state_value xs k j) other (value_is k j n b) in
      ne (values_differ k i j l a b same)

  -- ---- a machine that is drawn

  drawn_at : (k : ℕ) (e : Drawn) → drawn_machine e ≡ machine_at xs k → IsDrawnAt e (machine_at xs k).instance (machine_at xs k).variable (machine_at xs k).signal
  drawn_at k e is = (ap (λ (y : Machine). y.instance) is, ap (λ (y : Machine). y.variable) is, ap (λ (y : Machine). y.signal) is)

  drawn_names : (k : ℕ) (e : Drawn) → drawn_machine e ≡ machine_at xs k → map digits_of (values_of e) ≡ (machine_at xs k).names
  drawn_names k e is = ap (λ (y : Machine). y.names) is

  drawn_values : (k : ℕ) (e : Drawn) → drawn_machine e ≡ machine_at xs k → values_of e ≡ (machine_at xs k).values
  drawn_values k e is = ap (λ (y : Machine). y.values) is

  drawn_count : (k : ℕ) (e : Drawn) → drawn_machine e ≡ machine_at xs k → length (values_of e) ≡ length (machine_at xs k).names
  drawn_count k e is = sym (length-map (values_of e) digits_of) ∙ ap (λ (ns : List (List ℕ)). length ns) (drawn_names k e is)

  -- a state has the digits of its value
  drawn_name : (k s : ℕ) (e : Drawn) → drawn_machine e ≡ machine_at xs k → s < length (machine_at xs k).names → state_name xs k s ≡ digits_of (state_value xs k s)
  drawn_name k s e is l =
      ap (λ (ns : List (List ℕ)). get_or ns s []) (sym (drawn_names k e is)) ∙ get_or-map digits_of (values_of e) s no_value [] (omega (arith, drawn_count k e is)) ∙ ap (λ (vs : List Vector). digits_of (get_or vs s no_value)) (drawn_values k e is)

  drawn_is : (k s : ℕ) (e : Drawn) → drawn_machine e ≡ machine_at xs k → s < length (machine_at xs k).names → (e.from ≡ state_value xs k s) ⊎ (e.to ≡ state_value xs k s)
  drawn_is k s e is l =
      subst (λ (vs : List Vector). (e.from ≡ get_or vs s no_value) ⊎ (e.to ≡ get_or vs s no_value)) (drawn_values k e is) (drawn_value (same_bits e.from.bits e.to.bits) e.from e.to s (omega (arith, drawn_count k e is)))

  -- the values are those of the signal
  drawn_sign : (k s : ℕ) (e : Drawn) → In e ms.drawn → drawn_machine e ≡ machine_at xs k → s < length (machine_at xs k).names → (state_value xs k s).signed ≡ (signal_at d (machine_at xs k).signal).signed
  drawn_sign k s e g is l = by_one (drawn_is k s e is l)
    where
      of : IsOfDesign d e
      of = drawable.of_design e g

      by_one : (e.from ≡ state_value xs k s) ⊎ (e.to ≡ state_value xs k s) → (state_value xs k s).signed ≡ (signal_at d (machine_at xs k).signal).signed
      by_one (inl f) = sym (ap (λ (v : Vector). v.signed) f) ∙ of.from.1 ∙ ap (λ s. (signal_at d s).signed) (drawn_at k e is).2
      by_one (inr f) = sym (ap (λ (v : Vector). v.signed) f) ∙ of.to.1 ∙ ap (λ s. (signal_at d s).signed) (drawn_at k e is).2

  -- values that are drawn with the same bits are equal
  drawn_same : (e : Drawn) → In e ms.drawn → same_bits e.from.bits e.to.bits ≡ true → e.from ≡ e.to
  drawn_same e g same = let of = drawable.of_design e g in same_vector e.from e.to (equal_bits e.from.bits e.to.bits same) (of.from.1 ∙ sym of.to.1)

  -- ---- the points that are listed are points

  state_listed : (k s : ℕ) → IsPlaced xs (State k s) → Named k ⊎ IsOneDrawn k → IsPointWith d ms (machine_view xs (State k s))
  state_listed k s l (inl n) = inl (n.0, n.1, at_machine k l.0 n, name_in k s n.0 n.2.names l.1, value_is k s n l.1)
  state_listed k s l (inr (e, g, is)) = inr (e, g, drawable.of_design e g, drawn_at k e is, drawn_name k s e is l.1, drawn_is k s e is l.1)

  arc_listed : (k i j : ℕ) → IsPlaced xs (Arc k i j) → Named k ⊎ IsOneDrawn k → IsPointWith d ms (machine_view xs (Arc k i j))
  arc_listed k i j l (inl n) =
      inl (n.0, n.1, at_machine k l.0 n, name_in k i n.0 n.2.names l.1, name_in k j n.0 n.2.names l.2, names_differ k i j l.0 n l.1 l.2 l.3, value_is k i n l.1, value_is k j n l.2)
  arc_listed k i j l (inr (e, g, is)) =
      let leaves : i < 1 = subst (λ n. i < n) (sym (ap (λ (y : Machine). y.leaving) is)) l.4 in
      let a = drawn_arc (same_bits e.from.bits e.to.bits) e.from e.to i j leaves (omega (arith, l.2, drawn_count k e is)) l.3 in
      let from : e.from ≡ state_value xs k i = a.1 ∙ ap (λ (vs : List Vector). get_or vs i no_value) (drawn_values k e is) in
      let to : e.to ≡ state_value xs k j = a.2 ∙ ap (λ (vs : List Vector). get_or vs j no_value) (drawn_values k e is) in
      let differ : (state_value xs k i).bits ≢ (state_value xs k j).bits = λ same.
      (let bits : e.from.bits ≡ e.to.bits = ap (λ (v : Vector). v.bits) from ∙ same ∙ sym (ap (λ (v : Vector). v.bits) to) in
      false≢true (sym a.0 ∙ ap (λ bs. same_bits bs e.to.bits) bits ∙ same_bits_itself e.to.bits)) in
      inr (e, g, drawable.of_design e g, drawn_at k e is, drawn_name k i e is l.1, drawn_name k j e is l.2, from, to, differ)

  pub listed_is : (p : MachinePoint) → IsPlaced xs p → IsPointWith d ms (machine_view xs p)
  listed_is (State k s) l = state_listed k s l (kind k l.0)
  listed_is (Arc k i j) l = arc_listed k i j l (kind k l.0)

  -- ---- what two points of one address have alike

  same_signal : (i j s t : ℕ) (a b : List ℕ) → i ≡ j → a ≡ b → IsNameOf d i a s → IsNameOf d j b t → s ≡ t
  same_signal i j s t a b e f g k =
      let moved : IsNameOf d j b s = subst (λ (n : List ℕ). IsNameOf d j n s) f (subst (λ (n : ℕ). IsNameOf d n a s) e g) in
      one_signal d lawful j s t b moved k

  same_value : (i j s t : ℕ) (a b : List ℕ) (x y : Vector) → i ≡ j → s ≡ t → a ≡ b → IsStateValue d i s a x → IsStateValue d j t b y → x ≡ y
  same_value i j s t a b x y e f g k l =
      let moved : IsStateValue d j t b x = subst (λ (n : List ℕ). IsStateValue d j t n x) g (subst (λ (n : ℕ). IsStateValue d j n a x) f (subst (λ (n : ℕ). IsStateValue d n s a x) e k)) in
      one_value d lawful j t b x y moved l

  -- no state that is named has the digits of one that is drawn
  named_apart : (k s l t : ℕ) → Named k → IsOneDrawn l → s < length (machine_at xs k).names → t < length (machine_at xs l).names → state_name xs k s ≢ state_name xs l t
  named_apart k s l t n (e, g, is) a b same = by_one (drawn_is l t e is b)
    where
      digits : state_name xs k s ≡ digits_of (state_value xs l t)
      digits = same ∙ drawn_name l t e is b

      other : (state_name xs k s ≢ digits_of e.from) × (state_name xs k s ≢ digits_of e.to)
      other = drawable.apart n.0 (state_name xs k s) e n.1 (name_in k s n.0 n.2.names a) g

      by_one : (e.from ≡ state_value xs l t) ⊎ (e.to ≡ state_value xs l t) → ⊥
      by_one (inl f) = other.0 (digits ∙ ap digits_of (sym f))
      by_one (inr f) = other.1 (digits ∙ ap digits_of (sym f))

  -- states of one name of one signal have one value
  same_state : (k s l t : ℕ) → Named k ⊎ IsOneDrawn k → Named l ⊎ IsOneDrawn l → s < length (machine_at xs k).names → t < length (machine_at xs l).names → (machine_at xs k).instance ≡ (machine_at xs l).instance → (machine_at xs k).signal ≡ (machine_at xs l).signal → state_name xs k s ≡ state_name xs l t → state_value xs k s ≡ state_value xs l t
  same_state k s l t (inl m) (inl n) a b e f g = same_value (machine_at xs k).instance (machine_at xs l).instance (machine_at xs k).signal (machine_at xs l).signal (state_name xs k s) (state_name xs l t) (state_value xs k s) (state_value xs l t) e f g (value_is k s m a) (value_is l t n b)
  same_state k s l t (inl m) (inr n) a b e f g = absurd (named_apart k s l t m n a b g)
  same_state k s l t (inr m) (inl n) a b e f g = absurd (named_apart l t k s n m b a (sym g))
  same_state k s l t (inr m) (inr n) a b e f g =
      same_vector (state_value xs k s) (state_value xs l t) (digits_apart (state_value xs k s) (state_value xs l t) (sym (drawn_name k s m.0 m.2 a) ∙ g ∙ drawn_name l t n.0 n.2 b))
      (drawn_sign k s m.0 m.1 m.2 a ∙ ap (λ s. (signal_at d s).signed) f ∙ sym (drawn_sign l t n.0 n.1 n.2 b))

  one_state : (i j s t : ℕ) (a b m n : List ℕ) (x y : Vector) → i ≡ j → a ≡ b → s ≡ t → m ≡ n → x ≡ y → state_point i a s m x ≡ state_point j b t n y
  one_state i j s t a b m n x y e f g k l = cc

  one_arc : (i j s t : ℕ) (a b m n p q : List ℕ) (x y u v : Vector) → i ≡ j → a ≡ b → s ≡ t → m ≡ n → p ≡ q → x ≡ y → u ≡ v → arc_point i a s m p x u ≡ arc_point j b t n q y v
  one_arc i j s t a b m n p q x y u v e f g k l r w = cc

  -- ---- the points are listed

  -- the machine of a point that is named, and the place of a state in it
  record Found (m : StateNames) (i s : ℕ) : Type 0 where
    place : ℕ
    listed : place < length xs
    is : IsMachineOf d m (machine_at xs place)
    instance : (machine_at xs place).instance ≡ i
    variable : (machine_at xs place).variable ≡ m.variable
    signal : (machine_at xs place).signal ≡ s

  found : (m : StateNames) (i s : ℕ) (name : List ℕ) → In m ms.named → IsMachineAt d m i name s → Found m i s
  found m i s name g at =
      let x = h.are_named.all m i g at.0 in
      let k = place_of x.0 xs no_machine (subst (λ (ys : List Machine). In x.0 ys) (sym h.are) (in_left x.0 h.named (map drawn_machine ms.drawn) x.1)) in
      let is : IsMachineOf d m (machine_at xs k.0) = subst (IsMachineOf d m) (sym k.2) x.2 in
      let instance : (machine_at xs k.0).instance ≡ i = ap (λ (y : Machine). y.instance) k.2 ∙ x.3 in
      record {
        place = k.0;
        listed = k.1;
        is = is;
        instance = instance;
        variable = is.variable;
        signal = same_signal (machine_at xs k.0).instance i (machine_at xs k.0).signal s m.variable name instance (sym at.1) is.signal.1 at.2;
      }

  -- the machine of what is drawn
  record FoundDrawn (e : Drawn) : Type 0 where
    place : ℕ
    listed : place < length xs
    is : drawn_machine e ≡ machine_at xs place

  found_drawn : (e : Drawn) → In e ms.drawn → FoundDrawn e
  found_drawn e g =
      let k = place_of (drawn_machine e) xs no_machine (subst (λ (ys : List Machine). In (drawn_machine e) ys) (sym h.are) (in_right (drawn_machine e) h.named (map drawn_machine ms.drawn) (in_map_back drawn_machine e ms.drawn g))) in
      record { place = k.0; listed = k.1; is = sym k.2 }

  state_place : (m : StateNames) (k : ℕ) (name : List ℕ) → IsMachineOf d m (machine_at xs k) → In name m.names → (s : ℕ) × (s < length (machine_at xs k).names) × (state_name xs k s ≡ name)
  state_place m k name is g = place_of name (machine_at xs k).names [] (subst (λ (ns : List (List ℕ)). In name ns) (sym is.names) g)

  pub point_listed : (x : Point) → IsOfMachine x → IsPointWith d ms x → (p : MachinePoint) × IsPlaced xs p × (machine_view xs p ≡ x)
  point_listed (state_point i name s state v) o (inl (m, g, at, there, value)) =
      let f = found m i s name g at in
      let k = f.place in
      let n : Named k = (m, g, f.is) in
      let t = state_place m k state f.is there in
      let variable : (machine_at xs k).variable ≡ name = f.variable ∙ sym at.1 in
      let same = same_value (machine_at xs k).instance i (machine_at xs k).signal s (state_name xs k t.0) state (state_value xs k t.0) v f.instance f.signal t.2 (value_is k t.0 n t.1) value in
      (State k t.0, (f.listed, t.1), one_state (machine_at xs k).instance i (machine_at xs k).signal s (machine_at xs k).variable name (state_name xs k t.0) state (state_value xs k t.0) v f.instance variable f.signal t.2 same)
  point_listed (state_point i name s state v) o (inr (e, g, of, at, named, which)) =
      let f = found_drawn e g in
      let k = f.place in
      let t = drawn_place (same_bits e.from.bits e.to.bits) e.from e.to v (drawn_same e g) which in
      let within : t.0 < length (machine_at xs k).names = omega (arith, t.1, drawn_count k e f.is) in
      let value : state_value xs k t.0 ≡ v = ap (λ (vs : List Vector). get_or vs t.0 no_value) (sym (drawn_values k e f.is)) ∙ t.2 in
      let own = drawn_at k e f.is in
      (State k t.0, (f.listed, within), one_state (machine_at xs k).instance i (machine_at xs k).signal s (machine_at xs k).variable name (state_name xs k t.0) state (state_value xs k t.0) v (sym own.0 ∙ at.0) (sym own.1 ∙ at.1) (sym own.2 ∙ at.2) (drawn_name k t.0 e f.is within ∙ ap digits_of value ∙ sym named) value)
  point_listed (arc_point i name s from to v w) o (inl (m, g, at, leaves, enters, differ, old, new)) =
      let f = found m i s name g at in
      let k = f.place in
      let n : Named k = (m, g, f.is) in
      let a = state_place m k from f.is leaves in
      let b = state_place m k to f.is enters in
      let variable : (machine_at xs k).variable ≡ name = f.variable ∙ sym at.1 in
      let first = same_value (machine_at xs k).instance i (machine_at xs k).signal s (state_name xs k a.0) from (state_value xs k a.0) v f.instance f.signal a.2 (value_is k a.0 n a.1) old in
      let second = same_value (machine_at xs k).instance i (machine_at xs k).signal s (state_name xs k b.0) to (state_value xs k b.0) w f.instance f.signal b.2 (value_is k b.0 n b.1) new in
      let apart : a.0 ≢ b.0 = λ e. differ (sym a.2 ∙ ap (state_name xs k) e ∙ b.2) in
      let leaving : a.0 < (machine_at xs k).leaving = subst (λ n. a.0 < n) (sym f.is.leaving) a.1 in
      (Arc k a.0 b.0, (f.listed, a.1, b.1, apart, leaving), one_arc (machine_at xs k).instance i (machine_at xs k).signal s (machine_at xs k).variable name (state_name xs k a.0) from (state_name xs k b.0) to (state_value xs k a.0) v (state_value xs k b.0) w f.instance variable f.signal a.2 b.2 first second)
  point_listed (arc_point i name s from to v w) o (inr (e, g, of, at, leaves, enters, first, second, differ)) =
      let f = found_drawn e g in
      let k = f.place in
      let test = same_bits e.from.bits e.to.bits in
      let apart : test ≡ false = false_from_ne_true test (λ same. differ (ap (λ (v : Vector). v.bits) (sym first) ∙ equal_bits e.from.bits e.to.bits same ∙ ap (λ (v : Vector). v.bits) second)) in
      let two = drawn_two test e.from e.to apart in
      let a : 0 < length (machine_at xs k).names = omega (arith, two.0, drawn_count k e f.is) in
      let b : 1 < length (machine_at xs k).names = omega (arith, two.1, drawn_count k e f.is) in
      let old : state_value xs k 0 ≡ v = ap (λ (vs : List Vector). get_or vs 0 no_value) (sym (drawn_values k e f.is)) ∙ two.2 ∙ first in
      let new : state_value xs k 1 ≡ w = ap (λ (vs : List Vector). get_or vs 1 no_value) (sym (drawn_values k e f.is)) ∙ two.3 ∙ second in
      let own = drawn_at k e f.is in
      let leaving : 0 < (machine_at xs k).leaving = subst (λ n. 0 < n) (ap (λ (y : Machine). y.leaving) f.is) (omega arith) in
      (Arc k 0 1, (f.listed, a, b, (λ e. absurd (omega (arith, e))), leaving), one_arc (machine_at xs k).instance i (machine_at xs k).signal s (machine_at xs k).variable name (state_name xs k 0) from (state_name xs k 1) to (state_value xs k 0) v (state_value xs k 1) w (sym own.0 ∙ at.0) (sym own.1 ∙ at.1) (sym own.2 ∙ at.2) (drawn_name k 0 e f.is a ∙ ap digits_of old ∙ sym leaves) (drawn_name k 1 e f.is b ∙ ap digits_of new ∙ sym enters) old new)
  point_listed (Line p n at w) o g = absurd o
  point_listed (Logic p n at op c) o g = absurd o
  point_listed (Toggle s i rise) o g = absurd o
  point_listed (Word m i write) o g = absurd o

  -- the parts of a tie
  record Tie (p q : MachinePoint) : Type 0 where
    paths : machine_path d.instances xs p ≡ machine_path d.instances xs q
    variables : machine_variable xs p ≡ machine_variable xs q
    ranks : machine_rank p ≡ machine_rank q
    firsts : first_name xs p ≡ first_name xs q
    seconds : second_name xs p ≡ second_name xs q

  tie : (p q : MachinePoint) → machine_cmp d.instances xs p q ≡ Equal → Tie p q
  tie p q tied =
      let paths = bytes_cmp (machine_path d.instances xs p) (machine_path d.instances xs q) in
      let variables = bytes_cmp (machine_variable xs p) (machine_variable xs q) in
      let ranks = nat_cmp (machine_rank p) (machine_rank q) in
      let firsts = bytes_cmp (first_name xs p) (first_name xs q) in
      let four = both_equal (ordering_then (ordering_then (ordering_then paths variables) ranks) firsts) (bytes_cmp (second_name xs p) (second_name xs q)) tied in
      let three = both_equal (ordering_then (ordering_then paths variables) ranks) firsts four.0 in
      let two = both_equal (ordering_then paths variables) ranks three.0 in
      let one = both_equal paths variables two.0 in
      record { paths = same_bytes _ _ one.0; variables = same_bytes _ _ one.1; ranks = same_number _ _ two.1; firsts = same_bytes _ _ three.1; seconds = same_bytes _ _ four.1 }

  same_instance : (k l : ℕ) → k < length xs → l < length xs → path_at d.instances (machine_at xs k).instance ≡ path_at d.instances (machine_at xs l).instance → (machine_at xs k).instance ≡ (machine_at xs l).instance
  same_instance k l a b e =
      same_place (λ i. i.path) d.instances (machine_at xs k).instance (machine_at xs l).instance no_instance lawful.instance_paths (whole k a).instance (whole l b).instance e

  pub one_point : (p q : MachinePoint) → IsPlaced xs p → IsPlaced xs q → machine_cmp d.instances xs p q ≡ Equal → machine_view xs p ≡ machine_view xs q
  one_point (State k s) (State l t) a b tied =
      let e = tie (State k s) (State l t) tied in
      let instance = same_instance k l a.0 b.0 e.paths in
      let signal = same_signal (machine_at xs k).instance (machine_at xs l).instance (machine_at xs k).signal (machine_at xs l).signal (machine_at xs k).variable (machine_at xs l).variable instance e.variables (signal_is k a.0) (signal_is l b.0) in
      let value = same_state k s l t (kind k a.0) (kind l b.0) a.1 b.1 instance signal e.firsts in
      one_state (machine_at xs k).instance (machine_at xs l).instance (machine_at xs k).signal (machine_at xs l).signal (machine_at xs k).variable (machine_at xs l).variable (state_name xs k s) (state_name xs l t) (state_value xs k s) (state_value xs l t) instance e.variables signal e.firsts value
  one_point (Arc k i j) (Arc l m n) a b tied =
      let e = tie (Arc k i j) (Arc l m n) tied in
      let instance = same_instance k l a.0 b.0 e.paths in
      let signal = same_signal (machine_at xs k).instance (machine_at xs l).instance (machine_at xs k).signal (machine_at xs l).signal (machine_at xs k).variable (machine_at xs l).variable instance e.variables (signal_is k a.0) (signal_is l b.0) in
      let old = same_state k i l m (kind k a.0) (kind l b.0) a.1 b.1 instance signal e.firsts in
      let new = same_state k j l n (kind k a.0) (kind l b.0) a.2 b.2 instance signal e.seconds in
      one_arc (machine_at xs k).instance (machine_at xs l).instance (machine_at xs k).signal (machine_at xs l).signal (machine_at xs k).variable (machine_at xs l).variable (state_name xs k i) (state_name xs l m) (state_name xs k j) (state_name xs l n) (state_value xs k i) (state_value xs l m) (state_value xs k j) (state_value xs l n) instance e.variables signal e.firsts e.seconds old new
  one_point (State k s) (Arc l m n) a b tied = let e = tie (State k s) (Arc l m n) tied in absurd (omega (arith, e.ranks))
  one_point (Arc k i j) (State l t) a b tied = let e = tie (Arc k i j) (State l t) tied in absurd (omega (arith, e.ranks))

  pub machines_are : (found sorted kept : List MachinePoint) → found ≡ each_from points_of_machine 0 xs → IsPermutation found sorted → kept ≡ dedup (eq_by_cmp (machine_cmp d.instances xs)) sorted → (x : Point) → IsOfMachine x → In x (map (machine_view xs) kept) ↔ IsPointWith d ms x
  machines_are found sorted kept is moved kept_is x o = (there, back)
    where
      listed : (p : MachinePoint) → In p found → IsPlaced xs p
      listed p g = from_found xs (leaves_states d ms xs h) p (subst (In p) is g)

      there : In x (map (machine_view xs) kept) → IsPointWith d ms x
      there g =
          let y = in_map (machine_view xs) x kept g in
          let was = once_from (machine_total d.instances xs) found sorted moved y.0 (subst (In y.0) kept_is y.1) in
          subst (IsPointWith d ms) y.2 (listed_is y.0 (listed y.0 was))

      back : IsPointWith d ms x → In x (map (machine_view xs) kept)
      back g =
          let p = point_listed x o g in
          let was : In p.0 found = subst (In p.0) (sym is) (to_found xs p.0 p.1) in
          let same : (a b : MachinePoint) → In a found → In b found → machine_cmp d.instances xs a b ≡ Equal → machine_view xs a ≡ machine_view xs b = λ a b m n e. one_point a b (listed a m) (listed b n) e in
          let seen = once_keeps (machine_total d.instances xs) found sorted moved (machine_view xs) same p.0 was in
          subst (λ y. In y (map (machine_view xs) kept)) p.2 (subst (λ ks. In (machine_view xs p.0) (map (machine_view xs) ks)) (sym kept_is) seen)
