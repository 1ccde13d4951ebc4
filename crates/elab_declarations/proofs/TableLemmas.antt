-- The table of declared names, as the list of declarations.
use Rattle.std.proofs.Common.{◌≡◌, ℕ, Bool, true, false, ◌||◌, List, [], ◌∷◌, map, Option, None, Some, refl, sym, ap, ◌∙◌, inl, inr}
use Rattle.std.specs.Prelude.{bytes_eq, ◌&&◌, if◌then◌else◌}
use Rattle.std.specs.Borrow.{Bor}
use Rattle.std.specs.List.{list_any}
use Rattle.std.specs.Option.{option_copied, option_map}
use Rattle.std.specs.Map.{lookup}
use Rattle.std.proofs.lemmas.Bool.{cases_Bool}
use Rattle.std.proofs.lemmas.Slice.Eq.{bytes_eq-Decides}
use Rattle.indexmap.specs.IndexMap.{insert_entry}
use Rattle.flat_design.specs.Connections.{declaration_of}
use Rattle.flat_design.specs.Declarations as spec
use Rattle.elab_declarations.specs.DeclarationView.{declaration_view, declarations_view}
use Rattle.elab_declarations.specs.DeclarationTable.{Table, declarations_in, AreByName}
use Rattle.elab_declarations.specs.declared.declaration.Declaration.{Declaration}
use Rattle.elab_scope.proofs.ConnectionLemmas.{bytes_eq-sym}
use Rattle.elab_scope.proofs.NameSetLemmas.{same_name}

-- the entries by this name
abbrev pub found : List ℕ → Table → Option Declaration
found x es = lookup (λ name. bytes_eq x name.now) es

-- the declaration that was found, with one more
abbrev pub merged : Option Declaration → spec.Declaration → spec.Declaration
merged None d = d
merged (Some c) d = if spec.completes (declaration_view c) d then spec.completed (declaration_view c) d else declaration_view c

-- the test of what was found
abbrev pub holds_of : (spec.Declaration → Bool) → Option Declaration → Bool
holds_of P None = false
holds_of P (Some c) = P (declaration_view c)

or_false : (b : Bool) → (b || false) ≡ b
or_false true = refl
or_false false = refl

by_name : (x : List ℕ) (e : Bor (List ℕ) × Declaration) → (e.1.name.now.name ≡ e.0.now) → bytes_eq e.1.name.now.name x ≡ bytes_eq x e.0.now
by_name x e named = ap (λ n. bytes_eq n x) named ∙ bytes_eq-sym e.0.now x

-- a name is in the table once
pub any_named : (P : spec.Declaration → Bool) (x : List ℕ) (es : Table) → AreByName es → list_any (λ c. bytes_eq c.name.name x && P c) (declarations_in es) ≡ holds_of P (found x es)
any_named P x [] h = refl
any_named P x (e ∷ es) h =
    elim (cases_Bool (bytes_eq x e.0.now)) [
      | inl same ↦
          let one : x ≡ e.0.now = (bytes_eq-Decides x e.0.now).0 same in
          let absent : found x es ≡ None = ap (λ n. found n es) one ∙ h.1 in
          let rest : list_any (λ c. bytes_eq c.name.name x && P c) (declarations_in es) ≡ false = any_named P x es h.2 ∙ ap (holds_of P) absent in
          rw (same, by_name x e h.0, same, rest) (or_false (P (declaration_view e.1)))
      | inr other ↦ rw (by_name x e h.0, other) (any_named P x es h.2)
    ]

-- what is found by a name is the declaration of that name
found_named : (x : List ℕ) (es : Table) → AreByName es → option_map declaration_view (found x es) ≡ declaration_of (declarations_in es) x
found_named x [] h = refl
found_named x (e ∷ es) h =
    elim (cases_Bool (bytes_eq x e.0.now)) [
      | inl same ↦ rw (same, by_name x e h.0, same) refl
      | inr other ↦ rw (other, by_name x e h.0, other) (found_named x es h.2)
    ]

viewed : (r : Option (Bor Declaration)) → option_map (λ d. declaration_view d.now) r ≡ option_map declaration_view (option_copied r)
viewed None = refl
viewed (Some d) = refl

pub declaration_found : (x : List ℕ) (es : Table) (r : Option (Bor Declaration)) → AreByName es → option_copied r ≡ found x es → option_map (λ d. declaration_view d.now) r ≡ declaration_of (declarations_in es) x
declaration_found x es r h is = viewed r ∙ ap (option_map declaration_view) is ∙ found_named x es h

-- an insertion of what was found, with one more
pub added : (x : Bor (List ℕ)) (new : Declaration) (d : spec.Declaration) (es : Table) → AreByName es → d.name.name ≡ x.now → declaration_view new ≡ merged (found x.now es) d →
    declarations_in (insert_entry same_name es x new) ≡ spec.add_declaration (declarations_in es) d
added x new d [] h named is = ap (λ v. v ∷ []) is
added x new d (e ∷ es) h named is =
    let test : bytes_eq e.1.name.now.name d.name.name ≡ bytes_eq x.now e.0.now = ap (bytes_eq e.1.name.now.name) named ∙ by_name x.now e h.0 in
    elim (cases_Bool (bytes_eq x.now e.0.now)) [
      | inl same ↦
          let whole : declaration_view new ≡ merged (Some e.1) d = is ∙ rw same refl in
          rw (test, same) (ap (λ v. v ∷ declarations_in es) whole)
      | inr other ↦
          let whole : declaration_view new ≡ merged (found x.now es) d = is ∙ rw other refl in
          rw (test, other) (ap (λ vs. declaration_view e.1 ∷ vs) (added x new d es h.2 named whole))
    ]

-- a declaration keeps its name when it is completed
pub completed_name : (b : Bool) (c d : spec.Declaration) → (if b then spec.completed c d else c).name ≡ c.name
completed_name true c d = refl
completed_name false c d = refl

-- what was found has the name
pub merged_name : (x : List ℕ) (d : spec.Declaration) (es : Table) → AreByName es → d.name.name ≡ x → (merged (found x es) d).name.name ≡ x
merged_name x d [] h named = named
merged_name x d (e ∷ es) h named =
    elim (cases_Bool (bytes_eq x e.0.now)) [
      | inl same ↦
          let one : x ≡ e.0.now = (bytes_eq-Decides x e.0.now).0 same in
          let own : (merged (Some e.1) d).name.name ≡ e.1.name.now.name = ap (λ n. n.name) (completed_name (spec.completes (declaration_view e.1) d) (declaration_view e.1) d) in
          rw same (own ∙ h.0 ∙ sym one)
      | inr other ↦ rw other (merged_name x d es h.2 named)
    ]

-- a name that is not there is not there after an insertion of another
absent_inserted : (x k : Bor (List ℕ)) (new : Declaration) (es : Table) → bytes_eq k.now x.now ≡ false → found k.now es ≡ None → found k.now (insert_entry same_name es x new) ≡ None
absent_inserted x k new [] away none = rw away refl
absent_inserted x k new (e ∷ es) away none =
    elim (cases_Bool (bytes_eq x.now e.0.now)) [
      | inl same ↦
          let one : x.now ≡ e.0.now = (bytes_eq-Decides x.now e.0.now).0 same in
          let other : bytes_eq k.now e.0.now ≡ false = ap (bytes_eq k.now) (sym one) ∙ away in
          let rest : found k.now es ≡ None = rw other at none in
          rw (same, other) rest
      | inr off ↦
          elim (cases_Bool (bytes_eq k.now e.0.now)) [
            | inl here ↦ let no : Some e.1 ≡ None = rw here at none in cc
            | inr other ↦
                let rest : found k.now es ≡ None = rw other at none in
                rw (off, other) (absent_inserted x k new es away rest)
          ]
    ]

-- an insertion keeps each declaration by its own name, once
pub inserted_by_name : (x : Bor (List ℕ)) (new : Declaration) (es : Table) → new.name.now.name ≡ x.now → AreByName es → AreByName (insert_entry same_name es x new)
inserted_by_name x new [] named h = (named, refl, tt)
inserted_by_name x new (e ∷ es) named h =
    elim (cases_Bool (bytes_eq x.now e.0.now)) [
      | inl same ↦
          let one : x.now ≡ e.0.now = (bytes_eq-Decides x.now e.0.now).0 same in
          rw same (named ∙ one, h.1, h.2)
      | inr other ↦
          let away : bytes_eq e.0.now x.now ≡ false = bytes_eq-sym e.0.now x.now ∙ other in
          rw other (h.0, absent_inserted x e.0 new es away h.1, inserted_by_name x new es named h.2)
    ]

-- the same for what is looked up by an equal name
pub any_named_at : (P : spec.Declaration → Bool) (x : List ℕ) (es : Table) → AreByName es → (y : List ℕ) → y ≡ x → list_any (λ c. bytes_eq c.name.name x && P c) (declarations_in es) ≡ holds_of P (found y es)
any_named_at P x es h y one = any_named P x es h ∙ ap (λ n. holds_of P (found n es)) (sym one)

-- the declarations of the table, without their names
pub declarations_of_values : (es : Table) → declarations_view (map (λ e. e.1) es) ≡ declarations_in es
declarations_of_values [] = refl
declarations_of_values (e ∷ es) = ap (λ ds. declaration_view e.1 ∷ ds) (declarations_of_values es)
