-- The table that the declared names are found in.
use Rattle.std.specs.Prelude.{◌≡◌, ℕ, List, [], ◌∷◌, bytes_eq, map, None}
use Rattle.std.specs.Borrow.{Bor}
use Rattle.std.specs.Map.{lookup}
use Rattle.flat_design.specs.Declarations as spec
use Rattle.elab_declarations.specs.DeclarationView.{declaration_view}
use Rattle.elab_declarations.specs.declared.declaration.Declaration.{Declaration}

-- names with their declarations
abbrev pub Table : Type 0
Table = List (Bor (List ℕ) × Declaration)

-- the declarations in order
abbrev pub declarations_in : Table → List spec.Declaration
declarations_in es = map (λ e. declaration_view e.1) es

-- each declaration is found by its own name, once
abbrev pub AreByName : Table → Type 0
AreByName [] = Unit {0}
AreByName (e ∷ es) = (e.1.name.now.name ≡ e.0.now) × (lookup (λ name. bytes_eq e.0.now name.now) es ≡ None) × AreByName es
