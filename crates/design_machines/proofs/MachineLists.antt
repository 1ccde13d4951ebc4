-- The machines that are found.
use Rattle.std.proofs.Common.{◌≡◌, ◌⊎◌, ◌<◌, ◌+◌, ◌++◌, ◌∷◌, [], ℕ, zero, suc, inl, inr, List, length, take, get_or, refl, sym, ap, subst, ◌∙◌, arith}
use Rattle.std.specs.List.{AllZip}
use Rattle.std.proofs.lemmas.Bool.{cases_lt}
use Rattle.std.proofs.lemmas.List.{take_more}
use Rattle.four_state.specs.Vector.{Vector, fit}
use Rattle.four_state.specs.declared.bit.Bit.{Bit}
use Rattle.state_machines.specs.design_model.Design.{Design, In, signal_at}
use Rattle.state_machines.specs.design_model.Points.{IsInstanceOf, IsStateValue, StateNames}
use Rattle.state_machines.specs.Machines.{no_machine}
use Rattle.design_machines.specs.Machines.{AreMachines, AreMachinesBelow, IsCounted, IsMachineOf}
use Rattle.design_machines.specs.declared.machine.Machine.{Machine}

length_fit : (w : ℕ) (b : Bit) (bs : List Bit) → length (fit w b bs) ≡ w
length_fit zero b bs = refl
length_fit (suc w) b [] = ap suc (length_fit w b [])
length_fit (suc w) b (c ∷ bs) = ap suc (length_fit w b bs)

-- the values of a signal's states have its width
pub widths : (d : Design) (i s : ℕ) (names : List (List ℕ)) (vs : List Vector) → AllZip (IsStateValue d i s) names vs → (k : ℕ) (v : Vector) → k < length vs → length (get_or vs k v).bits ≡ (signal_at d s).width
widths d i s names [] h k v l = absurd (omega arith)
widths d i s [] (x ∷ vs) h k v l = absurd h
widths d i s (n ∷ names) (x ∷ vs) h zero v l = ap (λ (y : Vector). length y.bits) h.0.4 ∙ length_fit (signal_at d s).width _ _
widths d i s (n ∷ names) (x ∷ vs) h (suc k) v l = widths d i s names vs h.1 k v (omega arith)

pub in_more : {A : Type 0} (x y : A) (xs : List A) → In x (xs ++ y ∷ []) → In x xs ⊎ (y ≡ x)
in_more x y [] (inl e) = inr e
in_more x y [] (inr h) = absurd h
in_more x y (z ∷ xs) (inl e) = inl (inl e)
in_more x y (z ∷ xs) (inr h) = further (in_more x y xs h)
  where
    further : In x xs ⊎ (y ≡ x) → In x (z ∷ xs) ⊎ (y ≡ x)
    further (inl k) = inl (inr k)
    further (inr e) = inr e

pub in_front : {A : Type 0} (x : A) (xs ys : List A) → In x xs → In x (xs ++ ys)
in_front x [] ys h = absurd h
in_front x (y ∷ xs) ys (inl e) = inl e
in_front x (y ∷ xs) ys (inr h) = inr (in_front x xs ys h)

pub in_back : {A : Type 0} (x : A) (xs ys : List A) → In x ys → In x (xs ++ ys)
in_back x [] ys h = h
in_back x (y ∷ xs) ys h = inr (in_back x xs ys h)

pub in_either : {A : Type 0} (x : A) (xs ys : List A) → In x (xs ++ ys) → In x xs ⊎ In x ys
in_either x [] ys h = inr h
in_either x (y ∷ xs) ys (inl e) = inl (inl e)
in_either x (y ∷ xs) ys (inr h) = further (in_either x xs ys h)
  where
    further : In x xs ⊎ In x ys → In x (y ∷ xs) ⊎ In x ys
    further (inl k) = inl (inr k)
    further (inr k) = inr k

module _ (d : Design) (m : StateNames) where
  pub none_below : AreMachinesBelow d m 0 []
  none_below = record { each = λ x h. absurd h; all = λ i l at. absurd (omega arith) }

  -- with the machine of one instance more
  pub one_below : (n : ℕ) (xs : List Machine) (y : Machine) → AreMachinesBelow d m n xs → IsMachineOf d m y → y.instance ≡ n → AreMachinesBelow d m (n + 1) (xs ++ y ∷ [])
  one_below n xs y h is at =
      record {
        each = λ x g. each x (in_more x y xs g);
        all = λ i l g. elim (cases_lt i n) [
          | inl a ↦ (let x = h.all i a g in (x.0, in_front x.0 xs (y ∷ []) x.1, x.2))
          | inr a ↦ (y, in_back y xs (y ∷ []) (inl refl), at ∙ omega arith)
        ];
      }
    where
      each : (x : Machine) → In x xs ⊎ (y ≡ x) → IsMachineOf d m x
      each x (inl g) = h.each x g
      each x (inr e) = subst (IsMachineOf d m) e is

  -- with one instance more that is of another module
  pub other_below : (n : ℕ) (xs : List Machine) → AreMachinesBelow d m n xs → (IsInstanceOf d n m.of_module → ⊥) → AreMachinesBelow d m (n + 1) xs
  other_below n xs h other =
      record {
        each = h.each;
        all = λ i l g. elim (cases_lt i n) [
          | inl a ↦ h.all i a g
          | inr a ↦ (let e : i ≡ n = omega arith in absurd (other (subst (λ k. IsInstanceOf d k m.of_module) e g)))
        ];
      }

module _ (d : Design) where
  pub no_machines : AreMachines d [] []
  no_machines = record { each = λ x h. absurd h; all = λ m i h at. absurd h; counted = λ m h. absurd h; placed = λ m h. absurd h }

  -- with one machine more, in all its instances
  pub more_machines : (ms : List StateNames) (m : StateNames) (xs ys : List Machine) → AreMachines d ms xs → IsCounted m → ((i : ℕ) × IsInstanceOf d i m.of_module) → AreMachinesBelow d m (length d.instances) ys → AreMachines d (ms ++ m ∷ []) (xs ++ ys)
  more_machines ms m xs ys h counted placed g =
      record {
        each = λ x k. each x (in_either x xs ys k);
        all = λ n i k at. all n i at (in_more n m ms k);
        counted = λ n k. counts n (in_more n m ms k);
        placed = λ n k. places n (in_more n m ms k);
      }
    where
      each : (x : Machine) → In x xs ⊎ In x ys → (n : StateNames) × In n (ms ++ m ∷ []) × IsMachineOf d n x
      each x (inl k) = let e = h.each x k in (e.0, in_front e.0 ms (m ∷ []) e.1, e.2)
      each x (inr k) = (m, in_back m ms (m ∷ []) (inl refl), g.each x k)

      all : (n : StateNames) (i : ℕ) → IsInstanceOf d i n.of_module → In n ms ⊎ (m ≡ n) → (x : Machine) × In x (xs ++ ys) × IsMachineOf d n x × (x.instance ≡ i)
      all n i at (inl k) = let e = h.all n i k at in (e.0, in_front e.0 xs ys e.1, e.2, e.3)
      all n i at (inr e) =
          let own : IsInstanceOf d i m.of_module = subst (λ (n : StateNames). IsInstanceOf d i n.of_module) (sym e) at in
          let x = g.all i own.0 own in
          (x.0, in_back x.0 xs ys x.1, subst (λ (n : StateNames). IsMachineOf d n x.0) e (g.each x.0 x.1), x.2)

      counts : (n : StateNames) → In n ms ⊎ (m ≡ n) → IsCounted n
      counts n (inl k) = h.counted n k
      counts n (inr e) = subst IsCounted e counted

      places : (n : StateNames) → In n ms ⊎ (m ≡ n) → (i : ℕ) × IsInstanceOf d i n.of_module
      places n (inl k) = h.placed n k
      places n (inr e) = subst (λ (n : StateNames). (i : ℕ) × IsInstanceOf d i n.of_module) e placed

-- a list up to a place, with the element there
pub taken : (ms : List StateNames) (k : ℕ) → k < length ms → take (k + 1) ms ≡ take k ms ++ get_or ms k no_machine ∷ []
taken ms k l = take_more ms k no_machine l

pub zip_length : {A B : Type 0} (R : A → B → Type 0) (xs : List A) (ys : List B) → AllZip R xs ys → length xs ≡ length ys
zip_length R [] [] h = refl
zip_length R [] (y ∷ ys) h = absurd h
zip_length R (x ∷ xs) [] h = absurd h
zip_length R (x ∷ xs) (y ∷ ys) h = ap suc (zip_length R xs ys h.1)
