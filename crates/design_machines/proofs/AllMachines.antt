-- The machines that are named and those that are drawn together.
use Rattle.std.proofs.Common.{◌≡◌, ◌⊎◌, ◌≤◌, ◌<◌, ◌++◌, ◌∷◌, [], ℕ, zero, suc, Bool, true, false, cond, inl, inr, List, length, map, get_or, refl, sym, ap, subst, ◌∙◌, arith}
use Rattle.std.specs.List.{All}
use Rattle.std.proofs.lemmas.Bool.{false≢true}
use Rattle.std.proofs.lemmas.List.{length-map}
use Rattle.four_state.specs.Vector.{Vector, same_bits}
use Rattle.state_machines.specs.design_model.Design.{Design, In, signal_at}
use Rattle.state_machines.specs.design_model.Points.{StateNames}
use Rattle.state_machines.specs.Drawn.{AreDrawable, IsOfDesign, digits_of}
use Rattle.state_machines.specs.Machines.{StateMachines}
use Rattle.state_machines.specs.Same.{bits_at}
use Rattle.state_machines.specs.Values.{IsNamedSignal}
use Rattle.state_machines.specs.declared.drawn.Drawn.{Drawn}
use Rattle.state_machines.proofs.Members.{in_at}
use Rattle.design_machines.specs.Drawn.{AreAllMachines, HasOneWidth, IsWhole, drawn_machine, values_of}
use Rattle.design_machines.specs.Machines.{AreMachines}
use Rattle.design_machines.specs.declared.machine.Machine.{Machine}
use Rattle.design_machines.proofs.MachineLists.{in_either, widths, zip_length}

in_mapped : {A B : Type 0} (f : A → B) (x : B) (ys : List A) → In x (map f ys) → (y : A) × In y ys × (f y ≡ x)
in_mapped f x [] h = absurd h
in_mapped f x (y ∷ ys) (inl e) = (y, inl refl, e)
in_mapped f x (y ∷ ys) (inr h) = let r = in_mapped f x ys h in (r.0, inr r.1, r.2)

-- of the values that are drawn, each once
abbrev Drawing : Bool → Vector → Vector → List Vector
Drawing b x y = cond b (x ∷ []) (x ∷ y ∷ [])

drawn_few : (b : Bool) (x y : Vector) → (1 ≤ length (Drawing b x y)) × (length (Drawing b x y) ≤ 64)
drawn_few true x y = (omega arith, omega arith)
drawn_few false x y = (omega arith, omega arith)

drawn_width : (b : Bool) (x y : Vector) (w : ℕ) → length x.bits ≡ w → length y.bits ≡ w → (k : ℕ) (v : Vector) → k < length (Drawing b x y) → length (get_or (Drawing b x y) k v).bits ≡ w
drawn_width true x y w e f zero v l = e
drawn_width true x y w e f (suc k) v l = absurd (omega arith)
drawn_width false x y w e f zero v l = e
drawn_width false x y w e f (suc zero) v l = f
drawn_width false x y w e f (suc (suc k)) v l = absurd (omega arith)

drawn_before : (b : Bool) (x y : Vector) → (b ≡ false → same_bits x.bits y.bits ≡ true → ⊥) → (j k : ℕ) → j < k → k < length (Drawing b x y) → same_bits (bits_at (Drawing b x y) j) (bits_at (Drawing b x y) k) ≡ true → ⊥
drawn_before true x y h j zero m l e = absurd (omega arith)
drawn_before true x y h j (suc k) m l e = absurd (omega arith)
drawn_before false x y h j zero m l e = absurd (omega arith)
drawn_before false x y h zero (suc zero) m l e = h refl e
drawn_before false x y h (suc j) (suc zero) m l e = absurd (omega arith)
drawn_before false x y h j (suc (suc k)) m l e = absurd (omega arith)

module _ (d : Design) where
  named_whole : (ms : List StateNames) (xs : List Machine) → AreMachines d ms xs → (x : Machine) → In x xs → IsWhole d x
  named_whole ms xs are x h =
      let of = are.each x h in
      let m = of.0 in
      let counted = are.counted m of.1 in
      let names = ap (λ (ns : List (List ℕ)). length ns) of.2.names in
      record {
        instance = of.2.instance.0;
        signal = subst (λ (v : List ℕ). IsNamedSignal d x.instance v x.signal) (sym of.2.variable) of.2.signal;
        count = names ∙ zip_length _ m.names x.values of.2.values;
        most = omega (arith, counted.1, names);
        widths = λ k v l. widths d x.instance x.signal m.names x.values of.2.values k v l;
        apart = of.2.apart;
        leaving = omega (arith, of.2.leaving);
      }

  drawn_whole : (e : Drawn) → IsOfDesign d e → IsWhole d (drawn_machine e)
  drawn_whole e of =
      let test = same_bits e.from.bits e.to.bits in
      let count = length-map (values_of e) digits_of in
      let few = drawn_few test e.from e.to in
      record {
        instance = of.instance;
        signal = of.signal;
        count = count;
        most = omega (arith, count, few.1);
        widths = drawn_width test e.from e.to (signal_at d e.signal).width of.from.0 of.to.0;
        apart = λ k l before. drawn_before test e.from e.to (λ other same. false≢true (sym other ∙ same)) before.0 k before.1 l before.2;
        leaving = omega (arith, count, few.0);
      }

  module _ (ms : StateMachines) (drawable : AreDrawable d ms) where
    pub one_widths : All HasOneWidth ms.drawn
    one_widths = λ k e l. let of = drawable.of_design (get_or ms.drawn k e) (in_at ms.drawn k e l) in of.from.0 ∙ sym of.to.0

    pub all_are : (named : List Machine) → AreMachines d ms.named named → AreAllMachines d ms (named ++ map drawn_machine ms.drawn)
    all_are named are =
        record {
          named = named;
          are_named = are;
          are = refl;
          whole = λ x h. whole x (in_either x named (map drawn_machine ms.drawn) h);
        }
      where
        whole : (x : Machine) → In x named ⊎ In x (map drawn_machine ms.drawn) → IsWhole d x
        whole x (inl h) = named_whole ms.named named are x h
        whole x (inr h) = let r = in_mapped drawn_machine x ms.drawn h in subst (IsWhole d) r.2 (drawn_whole r.0 (drawable.of_design r.0 r.1))
