-- A table with one variable more.
use Rattle.std.proofs.Common.{◌≡◌, ℕ, ◌==◌, ◌&&◌, ◌++◌, Bool, true, false, cond, Some, List, ◌∷◌, refl, sym, ap, ◌∙◌}
use Rattle.std.specs.Prelude.{find}
use Rattle.std.specs.Option.{option_map}
use Rattle.std.specs.Str.{bytes_eq}
use Rattle.vcd_reader.specs.declared.vars.Var.{Var}
use Rattle.signal_binding.specs.Kinds.{holds_value}
use Rattle.signal_binding.specs.Names.{ScopedName, code_under, holds}
use Rattle.signal_binding.specs.Table.{AreCodesUnder, code_in}
use Rattle.signal_binding.specs.declared.table.Table.{Table}

and_true : (b : Bool) → b && true ≡ b
and_true true = refl
and_true false = refl

and_false : (b : Bool) → b && false ≡ false
and_false true = refl
and_false false = refl

and_next : (a b c : Bool) → (a && b) && c ≡ a && (b && c)
and_next true b c = refl
and_next false b c = refl

-- the first variable goes before the others
code_first : (vars : List Var) (var : Var) (size : ℕ) (x : ScopedName) → code_under (var ∷ vars) size x ≡ cond (holds x size var) (Some var.code) (code_under vars size x)
code_first vars var size x = go (holds x size var)
  where
    go : (b : Bool) → option_map (λ (v : Var). v.code) (cond b (Some var) (find (holds x size) vars)) ≡ cond b (Some var.code) (code_under vars size x)
    go true = refl
    go false = refl

module _ (table : Table) (var : Var) (vars : List Var) (instance : List ℕ) (h : AreCodesUnder table vars instance) where
  left_out : ((below name : List ℕ) (size : ℕ) → holds (record { scope = instance ++ below; name = name }) size var ≡ false) → AreCodesUnder table (var ∷ vars) instance
  left_out not =
      λ below name size.
      let x : ScopedName = record { scope = instance ++ below; name = name } in
      h below name size ∙ sym (code_first vars var size x ∙ ap (λ b. cond b (Some var.code) (code_under vars size x)) (not below name size))

  -- a variable of a scope that is not that of the instance or below it
  pub left_out_scope : ((below : List ℕ) → bytes_eq var.scope (instance ++ below) ≡ false) → AreCodesUnder table (var ∷ vars) instance
  left_out_scope other = left_out (λ below name size. ap (λ b. b && bytes_eq var.name name && var.size == size && holds_value var.kind) (other below))

  -- a variable that holds no value of a signal
  pub left_out_kind : holds_value var.kind ≡ false → AreCodesUnder table (var ∷ vars) instance
  left_out_kind none =
      left_out (λ below name size.
      let first = bytes_eq var.scope (instance ++ below) && bytes_eq var.name name && var.size == size in
      ap (λ b. first && b) none ∙ and_false first)

  -- a variable that is put before the others
  pub put_first : (new : Table) (rest : List ℕ) → holds_value var.kind ≡ true → ((below : List ℕ) → bytes_eq var.scope (instance ++ below) ≡ bytes_eq rest below)
      → ((below name : List ℕ) (size : ℕ) → code_in new below name size ≡ cond (bytes_eq rest below && (bytes_eq var.name name && var.size == size)) (Some var.code) (code_in table below name size)) → AreCodesUnder new (var ∷ vars) instance
  put_first new rest kind front put =
      λ below name size.
      let x : ScopedName = record { scope = instance ++ below; name = name } in
      let first = bytes_eq var.scope (instance ++ below) && bytes_eq var.name name && var.size == size in
      let same : holds x size var ≡ (bytes_eq rest below && (bytes_eq var.name name && var.size == size)) = ap (λ b. first && b) kind ∙ and_true first ∙ ap (λ b. b && bytes_eq var.name name && var.size == size) (front below) ∙ and_next (bytes_eq rest below) (bytes_eq var.name name) (var.size == size) in
      put below name size
      ∙ ap (cond (bytes_eq rest below && (bytes_eq var.name name && var.size == size)) (Some var.code)) (h below name size)
      ∙ sym (code_first vars var size x ∙ ap (λ b. cond b (Some var.code) (code_under vars size x)) same)
