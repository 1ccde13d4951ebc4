-- The state machines that the words of a command name and have drawn, in a design.
use Rattle.std.proofs.Common.{◌≡◌, ◌⊎◌, ◌∙◌, ◌++◌, ℕ, Bool, true, false, cond, List, [], ◌∷◌, ◌||◌, map, get_or, inl, inr, refl, sym, ap, subst, arith}
use Rattle.std.specs.Prelude.{All, IsTrue, if◌then◌else◌}
use Rattle.std.proofs.lemmas.Bool.{false≢true}
use Rattle.std.proofs.lemmas.List.Elements.{All-cons, All-head, All-nil, All-tail, All-weaker}
use Rattle.command_line.specs.CommandWords.{AreDrawingIdentifiers, AreIdentifiers, HaveForms, ScoreValues}
use Rattle.command_line.specs.DrawingWords.{DrawingNames}
use Rattle.command_line.specs.MachineWords.{MachineNames}
use Rattle.cov_host.specs.Identifier.{is_identifier}
use Rattle.coverage_db.specs.Table.{is_state}
use Rattle.cover_points.proofs.NamedOnce.{one_signal}
use Rattle.cover_points.specs.declared.listing.Points.{Points}
use Rattle.design_model.proofs.AssignLaws.{has_bit}
use Rattle.design_model.specs.Design.{Design, In}
use Rattle.design_model.specs.Lawful.{IsLawfulDesign}
use Rattle.design_model.specs.Points.{StateNames}
use Rattle.design_points.specs.Counted.{AreAllPoints}
use Rattle.drawn_machines.proofs.Drawings.{IsPlain, drawing_plain, placed_or_fault}
use Rattle.four_state.specs.Vector.{Vector}
use Rattle.state_machines.proofs.Members.{in_at, place_of}
use Rattle.state_machines.specs.Drawn.{AreAlike, AreDrawable, digits_of}
use Rattle.state_machines.specs.Machines.{StateMachines, is_same_variable, machine_of, with_machine}
use Rattle.state_machines.specs.declared.drawn.Drawn.{Drawn}
use Rattle.written_designs.specs.table_laws.Written.{IsWrittenMachine}
use Rattle.written_designs.specs.table_laws.point_table.design_machines.Drawn.{AreAllMachines, drawn_machine}
use Rattle.written_designs.specs.table_laws.point_table.design_machines.Machines.{AreMachines}
use Rattle.written_designs.specs.table_laws.point_table.design_machines.declared.machine.Machine.{Machine}
use Rattle.covered_cli.specs.Drawing.{IsNoMachineOf, drawing_at, no_drawing}
use Rattle.covered_cli.specs.ScoreMachines.{AreAllDrawn, AreMachinesOf, ArePlaced, with_machines}
use Rattle.covered_cli.proofs.Digits.{no_identifier, plain_digits, plain_state}

-- what holds of each element, by members
holds_of : {A : Type 0} (P : A → Type 0) (xs : List A) (x : A) → All P xs → In x xs → P x
holds_of P xs x all h = let r = place_of x xs x h in subst P r.2 (all r.0 x r.1)

holds_in : {A : Type 0} (P : A → Type 0) (xs : List A) → ((x : A) → In x xs → P x) → All P xs
holds_in P xs each = λ k d l. each (get_or xs k d) (in_at xs k d l)

-- the names of a machine are identifiers
record AreNamed (m : StateNames) : Type 0 where
  pub variable : IsTrue (is_identifier m.variable)
  pub names : All (λ name. IsTrue (is_identifier name)) m.names

abbrev AllNamed : List StateNames → Type 0
AllNamed ms = (m : StateNames) → In m ms → AreNamed m

named_more : (m : StateNames) (ms : List StateNames) → AreNamed m → AllNamed ms → AllNamed (with_machine m ms)
named_more m [] one all x (inl e) = subst AreNamed e one
named_more m [] one all x (inr h) = absurd h
named_more m (n ∷ ns) one all x h = go (is_same_variable m n) (named_more m ns one (λ y i. all y (inr i)) x) h
  where
    go : (b : Bool) → (In x (with_machine m ns) → AreNamed x) → In x (if b then record n { names = m.names } ∷ ns else n ∷ with_machine m ns) → AreNamed x
    go true rest (inl e) = subst AreNamed e (record { variable = (all n (inl refl)).variable; names = one.names })
    go true rest (inr k) = all x (inr k)
    go false rest (inl e) = subst AreNamed e (all n (inl refl))
    go false rest (inr k) = rest k

named_all : (xs : List MachineNames) (ms : List StateNames) → All AreIdentifiers xs → AllNamed ms → AllNamed (with_machines xs ms)
named_all [] ms are all = all
named_all (x ∷ xs) ms are all =
    let own = All-head AreIdentifiers x xs are in
    named_all xs (with_machine (machine_of x.of_module x.variable x.names) ms) (All-tail AreIdentifiers x xs are) (named_more (machine_of x.of_module x.variable x.names) ms (record { variable = own.variable; names = own.names }) all)

left : (a b : Bool) → IsTrue a → IsTrue (a || b)
left true b h = refl
left false b h = absurd (false≢true h)

named_states : (names : List (List ℕ)) → All (λ name. IsTrue (is_identifier name)) names → All (λ name. IsTrue (is_state name)) names
named_states names all = All-weaker (λ name. IsTrue (is_identifier name)) (λ name. IsTrue (is_state name)) (λ name h. left (is_identifier name) _ h) names all

drawn_states : (b : Bool) (x y : Vector) → IsTrue (is_state (digits_of x)) → IsTrue (is_state (digits_of y)) → All (λ name. IsTrue (is_state name)) (map digits_of (cond b (x ∷ []) (x ∷ y ∷ [])))
drawn_states true x y h k = All-cons (λ name. IsTrue (is_state name)) (digits_of x) [] h (All-nil (λ name. IsTrue (is_state name)))
drawn_states false x y h k =
    All-cons (λ name. IsTrue (is_state name)) (digits_of x) (digits_of y ∷ []) h (All-cons (λ name. IsTrue (is_state name)) (digits_of y) [] k (All-nil (λ name. IsTrue (is_state name))))

in_either : {A : Type 0} (x : A) (xs ys : List A) → In x (xs ++ ys) → In x xs ⊎ In x ys
in_either x [] ys h = inr h
in_either x (y ∷ xs) ys (inl e) = inl (inl e)
in_either x (y ∷ xs) ys (inr h) = further (in_either x xs ys h)
  where
    further : In x xs ⊎ In x ys → In x (y ∷ xs) ⊎ In x ys
    further (inl k) = inl (inr k)
    further (inr k) = inr k

in_mapped : {A B : Type 0} (f : A → B) (x : B) (ys : List A) → In x (map f ys) → (y : A) × In y ys × (f y ≡ x)
in_mapped f x [] h = absurd h
in_mapped f x (y ∷ ys) (inl e) = (y, inl refl, e)
in_mapped f x (y ∷ ys) (inr h) = let r = in_mapped f x ys h in (r.0, inr r.1, r.2)

module _ (score : ScoreValues) (d : Design) (lawful : IsLawfulDesign d) (forms : HaveForms score) (ms : StateMachines) (are : AreMachinesOf score d ms) where
  named_are : (m : StateNames) → In m ms.named → AreNamed m
  named_are m h = named_all score.machines [] forms.machines (λ n k. absurd k) m (subst (λ (ns : List StateNames). In m ns) are.named h)

  -- what is drawn is of the design, without x and z
  plain : (e : Drawn) → In e ms.drawn → (m : DrawingNames) × In m score.drawings × IsPlain d m.current e
  plain e h = let r = (are.drawn e).0 h in (r.0, r.1, drawing_plain d r.0.of_module r.0.current r.0.next e r.2)

  pub drawable : AreDrawable d ms
  drawable = record {
    of_design = λ e h. (plain e h).2.of_design;
    apart = λ m name e at in_names h.
        let is = holds_of (λ name. IsTrue (is_identifier name)) m.names name (named_are m at).names in_names in
        let p = (plain e h).2 in (
          λ same. no_identifier name (subst (λ ds. plain_digits ds ≡ true) (sym same) (plain_state e.from p.from).0) is,
          λ same. no_identifier name (subst (λ ds. plain_digits ds ≡ true) (sym same) (plain_state e.to p.to).0) is,
        );
  }

  named_written : (xs : List Machine) → AreMachines d ms.named xs → (x : Machine) → In x xs → IsWrittenMachine x
  named_written xs machines x h =
      let of = machines.each x h in
      let named = named_are of.0 of.1 in (
        subst (λ name. IsTrue (is_identifier name)) (sym of.2.variable) named.variable,
        subst (λ names. All (λ name. IsTrue (is_state name)) names) (sym of.2.names) (named_states of.0.names named.names),
      )

  drawn_written : (e : Drawn) → In e ms.drawn → IsWrittenMachine (drawn_machine e)
  drawn_written e h =
      let p = plain e h in
      let own = holds_of AreDrawingIdentifiers score.drawings p.0 forms.drawings p.1 in
      let of = p.2.of_design in
      let some = has_bit d lawful e.signal of.signal.0 in (
        subst (λ name. IsTrue (is_identifier name)) (sym p.2.name) own.current,
        drawn_states _ e.from e.to ((plain_state e.from p.2.from).1 (omega (arith, of.from.0, some))) ((plain_state e.to p.2.to).1 (omega (arith, of.to.0, some))),
      )

  -- each machine of the points can be written in a table
  pub written_machines : (points : Points) → AreAllPoints d ms points → All IsWrittenMachine points.machines.items
  written_machines points all = holds_in IsWrittenMachine points.machines.items (λ x h. written x (in_either x machines.named (map drawn_machine ms.drawn) (subst (λ (xs : List Machine). In x xs) machines.are h)))
    where
      machines : AreAllMachines d ms points.machines.items
      machines = all.listed.machines

      written : (x : Machine) → In x machines.named ⊎ In x (map drawn_machine ms.drawn) → IsWrittenMachine x
      written x (inl h) = named_written machines.named machines.are_named x h
      written x (inr h) = let r = in_mapped drawn_machine x ms.drawn h in subst IsWrittenMachine r.2 (drawn_written r.0 r.1)

-- what was named and drawn are the machines of the words
pub machines_are : (score : ScoreValues) (d : Design) (old new : StateMachines) → old.named ≡ with_machines score.machines [] → old.drawn ≡ [] → new.named ≡ old.named
    → ((es : List Drawn) × (new.drawn ≡ old.drawn ++ es) × AreAllDrawn d score.drawings es) → ArePlaced d score.drawings → AreMachinesOf score d new
machines_are score d old new named none kept (es, is, drawn) placed =
    record {
      named = kept ∙ named;
      drawn = subst (λ (ds : List Drawn). AreAllDrawn d score.drawings ds) (sym (is ∙ ap (λ (ds : List Drawn). ds ++ es) none)) drawn;
      placed = placed;
    }

-- machines of the same words are alike
pub alike_machines : (score : ScoreValues) (d : Design) (ms ns : StateMachines) → AreMachinesOf score d ms → AreMachinesOf score d ns → AreAlike ms ns
alike_machines score d ms ns a b = record {
  named = a.named ∙ sym b.named;
  drawn = λ e. (λ h. (b.drawn e).1 ((a.drawn e).0 h), λ h. (a.drawn e).1 ((b.drawn e).0 h));
}

-- where there are the machines of the words, none of them has a name at fault
pub none_refused : (score : ScoreValues) (d : Design) → IsLawfulDesign d → (ms : StateMachines) → AreMachinesOf score d ms → (name : List ℕ) → IsNoMachineOf d score.drawings name → ⊥
none_refused score d lawful ms are name (k, l, (part, fault, same), before) =
    let m = drawing_at score.drawings k in
    placed_or_fault d m.of_module m.current m.next (λ i s t a b. one_signal d lawful i s t m.current a b) (are.placed m (in_at score.drawings k no_drawing l)) part fault
