-- A name that means something else for a while.
use Rattle.std.proofs.Common.{◌≡◌, false, ℕ, List, Option, Some, None, refl, sym, ap, ◌∙◌, inl, inr}
use Rattle.std.specs.Prelude.{bytes_eq, if◌then◌else◌}
use Rattle.std.proofs.lemmas.Bool.{cases_Bool}
use Rattle.std.proofs.lemmas.Slice.Eq.{bytes_eq-Decides}
use Rattle.elab_const.proofs.ScopeLemmas.{fun_ext}
use Rattle.flat_design.specs.Scope.{Scope, with_entry}
use Rattle.flat_design.specs.declared.entry.Entry.{Entry}
use Rattle.elab_checks.specs.Turns.{restored}

-- all names except x mean the same
abbrev pub SameBut : List ℕ → Scope → Scope → Type 0
SameBut x f g = (y : List ℕ) → bytes_eq y x ≡ false → f y ≡ g y

pub same_itself : (x : List ℕ) (g : Scope) → SameBut x g g
same_itself x g y other = refl

-- also where x means something else
pub same_with : (x : List ℕ) (e : Entry) (f g : Scope) → SameBut x f g → SameBut x (with_entry x e f) g
same_with x e f g same y other = ap (λ b. if b then Some e else f y) other ∙ same y other

-- what x meant does not matter where it means something else
pub with_same : (x : List ℕ) (e : Entry) (f g : Scope) → SameBut x f g → with_entry x e f ≡ with_entry x e g
with_same x e f g same =
    fun_ext (λ y.
    elim (cases_Bool (bytes_eq y x)) [
      | inl here ↦ ap (λ b. if b then Some e else f y) here ∙ sym (ap (λ b. if b then Some e else g y) here)
      | inr other ↦ ap (λ b. if b then Some e else f y) other ∙ same y other ∙ sym (ap (λ b. if b then Some e else g y) other)
    ])

either : (x : List ℕ) (b : Option Entry) (f g : Scope) → SameBut x f g → g x ≡ b → (y : List ℕ) → (if bytes_eq y x then b else f y) ≡ g y
either x b f g same is y =
    elim (cases_Bool (bytes_eq y x)) [
      | inl here ↦ ap (λ t. if t then b else f y) here ∙ sym (ap g ((bytes_eq-Decides y x).0 here) ∙ is)
      | inr other ↦ ap (λ t. if t then b else f y) other ∙ same y other
    ]

-- the scope is as before where x means again what it meant
pub restored_same : (x : List ℕ) (b : Option Entry) (f g : Scope) → SameBut x f g → g x ≡ b → restored x b f ≡ g
restored_same x None f g same is = fun_ext (either x None f g same is)
restored_same x (Some e) f g same is = fun_ext (either x (Some e) f g same is)
