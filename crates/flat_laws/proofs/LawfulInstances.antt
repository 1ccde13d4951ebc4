-- The instances of a design that is answered have different paths.
use Rattle.std.proofs.Common.{◌≡◌, ◌⊎◌, inl, inr, ℕ, ◌==◌, false, List, [], ◌∷◌, ◌++◌, Ok, refl, sym, ap, ◌∙◌, subst, length, map, arith, append_assoc, append-nil, length-append}
use Rattle.std.specs.Prelude.{bytes_eq}
use Rattle.std.proofs.lemmas.Bool.{false≢true, eq-eqb}
use Rattle.std.proofs.lemmas.List.{map-append}
use Rattle.design_model.specs.Design.{Design, In, AreDistinct}
use Rattle.design_model.specs.declared.design.Instance.{Instance}
use Rattle.verilog_tree.specs.Tree.{InstanceItem, ItemForm, initial_item, port_item, net_item, variable_item, integer_item, parameter_item, continuous_item, always_item, instance_item, Item, Module, One}
use Rattle.flat_design.specs.Faults.{answer}
use Rattle.flat_design.specs.Flat.{elaborated}
use Rattle.flat_design.specs.Instances.{Instantiation, Sofar, context, dotted, opened}
use Rattle.flat_laws.specs.Tokens.{has_dot, AreOfTokens}
use Rattle.flat_laws.proofs.Distinct.{distinct_join}
use Rattle.flat_laws.proofs.Freedom.{IsSound, answered_sound, neither}
use Rattle.flat_laws.proofs.InstancesOnce.{one_name, instances_distinct}
use Rattle.flat_laws.proofs.LawfulLimits.{base_of, answered_design}
use Rattle.flat_laws.proofs.LawfulNames.{in_map_back}
use Rattle.flat_laws.proofs.LawfulNumbers.{answered_walks}
use Rattle.flat_laws.proofs.LawfulPaths.{found_in, opening_parts}
use Rattle.flat_laws.proofs.Members.{in_append, in_left, in_right, in_map, in_flat_map}
use Rattle.flat_laws.proofs.Steps.{Walk, Progress, progress, Kept, Here, IsBelow, inner_of, ones_in, ones_of}

-- the path is this one, or goes on after a dot
abbrev IsUnder : List ℕ → List ℕ → Type 0
IsUnder path x = (x ≡ path) ⊎ ((rest : List ℕ) × (x ≡ dotted path rest))

-- what may follow a name in a path
abbrev IsEnd : List ℕ → Type 0
IsEnd s = (s ≡ []) ⊎ ((rest : List ℕ) × (s ≡ 46 ∷ rest))

cancel : (p xs ys : List ℕ) → p ++ xs ≡ p ++ ys → xs ≡ ys
cancel [] xs ys e = e
cancel (x ∷ p) xs ys e = let tails : p ++ xs ≡ p ++ ys = cc in cancel p xs ys tails

no_dot_first : (y : ℕ) (b : List ℕ) → has_dot (y ∷ b) ≡ false → y ≡ 46 → ⊥
no_dot_first y b h e = false≢true (sym (neither (y == 46) (has_dot b) h).0 ∙ eq-eqb y 46 e)

no_dot_rest : (y : ℕ) (b : List ℕ) → has_dot (y ∷ b) ≡ false → has_dot b ≡ false
no_dot_rest y b h = (neither (y == 46) (has_dot b) h).1

-- a name without dot does not go on in what ends before a dot
ends_first : (y : ℕ) (b t s : List ℕ) → has_dot (y ∷ b) ≡ false → IsEnd s → s ≡ y ∷ (b ++ t) → ⊥
ends_first y b t s h (inl e) same = let none : [] ≡ y ∷ (b ++ t) = sym e ∙ same in cc
ends_first y b t s h (inr k) same = let one : 46 ∷ k.0 ≡ y ∷ (b ++ t) = sym k.1 ∙ same in let dot : y ≡ 46 = cc in no_dot_first y b h dot

-- two names without dots with which a path goes on are one
one_name_only : (a b s t : List ℕ) → has_dot a ≡ false → has_dot b ≡ false → IsEnd s → IsEnd t → a ++ s ≡ b ++ t → a ≡ b
one_name_only [] [] s t h k l m e = refl
one_name_only [] (y ∷ b) s t h k l m e = absurd (ends_first y b t s k l e)
one_name_only (x ∷ a) [] s t h k l m e = absurd (ends_first x a s t h m (sym e))
one_name_only (x ∷ a) (y ∷ b) s t h k l m e =
    let first : x ≡ y = cc in
    let tails : a ++ s ≡ b ++ t = cc in
    let rest : a ≡ b = one_name_only a b s t (no_dot_rest x a h) (no_dot_rest y b k) l m tails in
    cc

-- what is under a path and a name, as the path, the name and an end
under_name : (path name x : List ℕ) → IsUnder (dotted path name) x → (s : List ℕ) × IsEnd s × (x ≡ path ++ 46 ∷ (name ++ s))
under_name path name x (inl e) = ([], inl refl, e ∙ ap (λ z. path ++ 46 ∷ z) (sym (append-nil name)))
under_name path name x (inr k) = (46 ∷ k.0, inr (k.0, refl), k.1 ∙ append_assoc path (46 ∷ name) (46 ∷ k.0))

same_name : (path a b x : List ℕ) → has_dot a ≡ false → has_dot b ≡ false → IsUnder (dotted path a) x → IsUnder (dotted path b) x → a ≡ b
same_name path a b x h k l m =
    let p = under_name path a x l in
    let q = under_name path b x m in
    let tails : 46 ∷ (a ++ p.0) ≡ 46 ∷ (b ++ q.0) = cancel path (46 ∷ (a ++ p.0)) (46 ∷ (b ++ q.0)) (sym p.2 ∙ q.2) in
    let rest : a ++ p.0 ≡ b ++ q.0 = cc in
    one_name_only a b p.0 q.0 h k p.1 q.1 rest

-- what is under a name is under the path before it
under_path : (path name x : List ℕ) → IsUnder (dotted path name) x → IsUnder path x
under_path path name x h = let p = under_name path name x h in inr (name ++ p.0, p.2)

longer : (path name x : List ℕ) → IsUnder (dotted path name) x → x ≡ path → ⊥
longer path name x h e =
    let p = under_name path name x h in
    let same : length path ≡ length (path ++ 46 ∷ (name ++ p.0)) = ap length (sym e ∙ p.2) in
    absurd (omega (arith, length-append path (46 ∷ (name ++ p.0))))

abbrev path_of : Instance → List ℕ
path_of x = x.path

abbrev HavePaths : Sofar → Type 0
HavePaths st = AreDistinct (map path_of st.design.instances)

-- no instance is under the path of one that is to be opened, and its module is one of these
record IsNew (ms : List Module) (i : Instantiation) (st : Sofar) : Type 0 where
  module_in : In i.of_module ms
  new : (x : Instance) → In x st.design.instances → IsUnder i.path x.path → ⊥

-- what was added since an instance was opened is under its path, with the names so far
abbrev AreUnder : Instantiation → Sofar → Progress → Sofar → Type 0
AreUnder i before r now =
    (x : Instance) → In x now.design.instances → In x before.design.instances ⊎ ((x.path ≡ i.path) ⊎ ((o : One) × In o r.ones × IsUnder (dotted i.path (one_name o)) x.path))

paths_opened : (ms : List Module) (i : Instantiation) (st : Sofar) → IsNew ms i st → HavePaths st → Kept HavePaths AreUnder i st (progress 1 1 []) (opened i st)
paths_opened ms i st new h = record {
  holds = subst AreDistinct (sym (map-append path_of st.design.instances (here ∷ []))) (distinct_join (map path_of st.design.instances) (i.path ∷ []) h (λ k. k, tt) apart);
  added = λ x k. by_place x (in_append x st.design.instances (here ∷ []) k);
}
  where
    here : Instance
    here = record { path = i.path; «module» = i.of_module.name.name }

    apart : (x : List ℕ) → In x (map path_of st.design.instances) → In x (i.path ∷ []) → ⊥
    apart x k (inl e) = let l = in_map path_of x st.design.instances k in new.new l.0 l.1 (inl (l.2 ∙ sym e))
    apart x k (inr l) = l

    by_place : (x : Instance) → In x st.design.instances ⊎ In x (here ∷ []) → In x st.design.instances ⊎ ((x.path ≡ i.path) ⊎ ((o : One) × In o [] × IsUnder (dotted i.path (one_name o)) x.path))
    by_place x (inl k) = inl k
    by_place x (inr (inl e)) = inr (inl (sym (ap path_of e)))
    by_place x (inr (inr k)) = absurd k

more_names : (i : Instantiation) (before now : Sofar) (l n : ℕ) (os more : List One) → AreUnder i before (progress l n os) now → AreUnder i before (progress l n (os ++ more)) now
more_names i before now l n os more h x k = wider (h x k)
  where
    wider : In x before.design.instances ⊎ ((x.path ≡ i.path) ⊎ ((o : One) × In o os × IsUnder (dotted i.path (one_name o)) x.path)) → In x before.design.instances ⊎ ((x.path ≡ i.path) ⊎ ((o : One) × In o (os ++ more) × IsUnder (dotted i.path (one_name o)) x.path))
    wider (inl m) = inl m
    wider (inr (inl e)) = inr (inl e)
    wider (inr (inr m)) = inr (inr (m.0, in_left m.0 os more m.1, m.2))

-- what an instance below added is under its name
paths_inside : (i j : Instantiation) (before at now : Sofar) (l n : ℕ) (os : List One) (o : One) (last : Progress) → j.path ≡ dotted i.path (one_name o) → AreUnder i before (progress l n os) at → AreUnder j at last now → AreUnder i before (progress l n (os ++ o ∷ [])) now
paths_inside i j before at now l n os o last path outer inner x k = by_place (inner x k)
  where
    here : IsUnder j.path x.path → In x before.design.instances ⊎ ((x.path ≡ i.path) ⊎ ((p : One) × In p (os ++ o ∷ []) × IsUnder (dotted i.path (one_name p)) x.path))
    here h = inr (inr (o, in_right o os (o ∷ []) (inl refl), subst (λ z. IsUnder z x.path) path h))

    by_place : In x at.design.instances ⊎ ((x.path ≡ j.path) ⊎ ((p : One) × In p last.ones × IsUnder (dotted j.path (one_name p)) x.path)) → In x before.design.instances ⊎ ((x.path ≡ i.path) ⊎ ((p : One) × In p (os ++ o ∷ []) × IsUnder (dotted i.path (one_name p)) x.path))
    by_place (inl h) = more_names i before at l n os (o ∷ []) outer x h
    by_place (inr (inl e)) = here (inl e)
    by_place (inr (inr h)) = here (under_path j.path (one_name h.0) x.path h.2)

-- there is no dot in the names of the instances of a module
plain_names : (ms : List Module) → AreOfTokens ms → (m : Module) → In m ms → (o : One) → In o (ones_of m.items) → has_dot (one_name o) ≡ false
plain_names ms tokens m m_in o h = let k = in_flat_map (λ (x : Item). ones_in x.form) o m.items h in by_form k.0 k.1 k.0.form refl k.2
  where
    by_form : (x : Item) → In x m.items → (form : ItemForm) → x.form ≡ form → In o (ones_in form) → has_dot (one_name o) ≡ false
    by_form x x_in (instance_item k) is l = tokens.instances m m_in x x_in k is o l
    by_form x x_in (port_item k) is l = absurd l
    by_form x x_in (net_item k) is l = absurd l
    by_form x x_in (variable_item k) is l = absurd l
    by_form x x_in (integer_item k) is l = absurd l
    by_form x x_in (parameter_item k) is l = absurd l
    by_form x x_in (continuous_item y v) is l = absurd l
    by_form x x_in (always_item y v) is l = absurd l
    by_form x x_in (initial_item k) is l = absurd l

-- the name of one that comes next is not among those so far
next_differs : (os later : List One) (o p : One) → AreDistinct (map one_name (os ++ o ∷ later)) → In p os → one_name p ≡ one_name o → ⊥
next_differs [] later o p h k e = k
next_differs (q ∷ os) later o p h (inl same) e = h.0 (subst (λ z. In z (map one_name (os ++ o ∷ later))) (sym (ap one_name same ∙ e)) (in_map_back one_name o (os ++ o ∷ later) (in_right o os (o ∷ later) (inl refl))))
next_differs (q ∷ os) later o p h (inr k) e = next_differs os later o p h.1 k e

-- so an instance that comes next is under a new path
next_new : (base : ℕ) (ms : List Module) → AreOfTokens ms → (depth : ℕ) (i : Instantiation) (before st : Sofar) → Here (λ depth. IsNew ms) depth i before st → (l n : ℕ) (os : List One) → AreUnder i before (progress l n os) st →
    (x : Item) (k : InstanceItem) (m : Module) (o : One) → IsBelow base ms i before x k m o → (later : List One) → ones_of i.of_module.items ≡ os ++ o ∷ later → IsNew ms (inner_of (context base i before) x.place k m o) st
next_new base ms tokens depth i before st here l n os added x k m o under later whole = record {
  module_in = found_in (λ z. bytes_eq z.name.name k.of_module.name) ms m under.module_is;
  new = λ y y_in h. by_place y h (added y y_in);
}
  where
    distinct : AreDistinct (map one_name (os ++ o ∷ later))
    distinct = subst (λ z. AreDistinct (map one_name z)) whole (instances_distinct i.overrides i.of_module (opening_parts i here.opening).2)

    plain : (p : One) → In p (os ++ o ∷ later) → has_dot (one_name p) ≡ false
    plain p h = plain_names ms tokens i.of_module here.known.module_in p (subst (In p) (sym whole) h)

    by_place : (y : Instance) → IsUnder (dotted i.path (one_name o)) y.path → In y before.design.instances ⊎ ((y.path ≡ i.path) ⊎ ((p : One) × In p os × IsUnder (dotted i.path (one_name p)) y.path)) → ⊥
    by_place y h (inl y_in) = here.known.new y y_in (under_path i.path (one_name o) y.path h)
    by_place y h (inr (inl e)) = longer i.path (one_name o) y.path h e
    by_place y h (inr (inr p)) =
        next_differs os later o p.0 distinct p.1 (same_name i.path (one_name p.0) (one_name o) y.path (plain p.0 (in_left p.0 os (o ∷ later) p.1)) (plain o (in_right o os (o ∷ later) (inl refl))) p.2 h)

paths_walk : (base : ℕ) (ms : List Module) → AreOfTokens ms → Walk base ms HavePaths (λ depth. IsNew ms) AreUnder
paths_walk base ms tokens = record {
  meets = λ i before st r h. record { holds = h.holds; added = h.added };
  opens = λ depth i st free known h. paths_opened ms i st known h;
  assigns = λ depth i before st here x x_in y v l n os assigned free h. record { holds = h.holds; added = h.added };
  runs = λ depth i before st here x x_in w s l n os form free h. record { holds = h.holds; added = h.added };
  inputs = λ depth i before at st x k m o inside r j s joined way free h. record { holds = h.holds; added = h.added };
  outputs = λ depth i before at st x k m o inside r j s joined way free h. record { holds = h.holds; added = h.added };
  below = λ depth i before st here l n os h x k m o under later whole.
      let new = next_new base ms tokens depth i before st here l n os h.added x k m o under later whole in
      record { module_in = new.module_in; new = new.new };
  inside = λ depth i before at now x k m o within l n os outer last inner. paths_inside i (inner_of (context base i before) x.place k m o) before at now l n os o last refl outer inner;
  skips = λ i before st l n os more h. more_names i before st l n os more h;
}

answered_apart : (ms : List Module) (top : List ℕ) → AreOfTokens ms → IsSound ms top → HavePaths (elaborated ms top)
answered_apart ms top tokens sound =
    answered_walks ms top HavePaths (λ depth. IsNew ms) AreUnder (paths_walk (base_of ms top) ms tokens)
    (λ m found. record { module_in = found_in (λ z. bytes_eq z.name.name top) ms m found; new = λ x h. absurd h }) tt sound

-- no path is twice among the instances
pub record HasDistinctPaths (d : Design) : Type 0 where
  pub instance_paths : AreDistinct (map (λ i. i.path) d.instances)

pub answered_instances : (ms : List Module) (top : List ℕ) (d : Design) → AreOfTokens ms → answer ms top ≡ Ok d → HasDistinctPaths d
answered_instances ms top d tokens e = subst HasDistinctPaths (answered_design ms top d e) (record { instance_paths = answered_apart ms top tokens (answered_sound ms top d e) })
