-- Which connections are at fault, by sets of names.
use Rattle.std.proofs.Common.{◌≡◌, ℕ, Bool, true, false, not, ◌||◌, List, [], ◌∷◌, ◌++◌, refl, ap, sym, subst, ◌∙◌, inl, inr}
use Rattle.std.specs.Prelude.{bytes_eq}
use Rattle.std.specs.List.{list_any}
use Rattle.std.proofs.lemmas.Bool.{cases_Bool}
use Rattle.std.proofs.lemmas.Slice.Eq.{bytes_eq-Decides}
use Rattle.verilog_tree.specs.declared.item.Named.{Named}
use Rattle.flat_design.specs.Connections.{Connection, connection_faults}
use Rattle.flat_design.specs.Fault.{Fault, fault_at, fault_if}
use Rattle.flat_design.specs.declared.fault.ElabKind.TheVariants.{PortMismatch}
use Rattle.flat_design.specs.Identifiers.{is_among}
use Rattle.elab_const.proofs.ScopeLemmas.{fun_ext}
use Rattle.elab_scope.specs.NameSet.{name_faults, with_name}
use Rattle.elab_scope.specs.Tally.{Tally, after, after_faults}
use Rattle.flat_design.specs.Bodies.{met_fault}

-- the faults of connections, by which names are known and which were given before
abbrev pub faults_by : (List ℕ → Bool) → (List ℕ → Bool) → List Connection → List Fault
faults_by known given [] = []
faults_by known given (c ∷ cs) = name_faults known given c ++ faults_by known (with_name c.port given) cs

-- the ports of these
abbrev pub ports_in : List Connection → List ℕ → Bool
ports_in cs x = list_any (λ d. bytes_eq d.port x) cs

pub bytes_eq-sym : (a b : List ℕ) → bytes_eq a b ≡ bytes_eq b a
bytes_eq-sym a b =
    elim (cases_Bool (bytes_eq a b)) [
      | inl same ↦ subst (λ x. bytes_eq a x ≡ bytes_eq x a) ((bytes_eq-Decides a b).0 same) refl
      | inr other ↦
          elim (cases_Bool (bytes_eq b a)) [ inl same ↦ subst (λ x. bytes_eq x b ≡ bytes_eq b x) ((bytes_eq-Decides b a).0 same) refl | inr away ↦ other ∙ sym away ]
    ]

pub by_sets : (xs : List Named) (sofar cs : List Connection) → connection_faults xs sofar cs ≡ faults_by (is_among xs) (ports_in sofar) cs
by_sets xs sofar [] = refl
by_sets xs sofar (c ∷ cs) = ap (λ fs. fault_if (not (is_among xs c.port) || ports_in sofar c.port) (fault_at PortMismatch c.label) ++ fs) (by_sets xs (c ∷ sofar) cs)

-- a set with all of these names
abbrev pub with_names : List Named → (List ℕ → Bool) → List ℕ → Bool
with_names [] known = known
with_names (x ∷ xs) known = with_names xs (with_name x.name known)

moved : (a b r : Bool) → (b || (a || r)) ≡ ((a || b) || r)
moved true true r = refl
moved true false r = refl
moved false true r = refl
moved false false r = refl

has_names : (xs : List Named) (known : List ℕ → Bool) (x : List ℕ) → with_names xs known x ≡ (is_among xs x || known x)
has_names [] known x = refl
has_names (y ∷ ys) known x = has_names ys (with_name y.name known) x ∙ moved (bytes_eq y.name x) (is_among ys x) (known x)

or_false : (b : Bool) → (b || false) ≡ b
or_false true = refl
or_false false = refl

-- of no name and these it is these
pub has_only : (xs : List Named) → with_names xs (λ x. false) ≡ is_among xs
has_only xs = fun_ext (λ x. has_names xs (λ y. false) x ∙ or_false (is_among xs x))

-- after some faults and then others
pub after_met : (t : Tally) (fs gs : List Fault) → after_faults t (fs ++ gs) ≡ after_faults (after_faults t fs) gs
after_met t [] gs = refl
after_met t (f ∷ fs) gs = after_met (after t (met_fault f)) fs gs

-- after one connection and the others
pub after_next : (t u : Tally) (known given next : List ℕ → Bool) (c : Connection) (cs : List Connection) →
    u ≡ after_faults t (name_faults known given c) → next ≡ with_name c.port given → after_faults t (faults_by known given (c ∷ cs)) ≡ after_faults u (faults_by known next cs)
after_next t u known given next c cs e f = rw (e, f) (after_met t (name_faults known given c) (faults_by known (with_name c.port given) cs))
