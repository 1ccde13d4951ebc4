-- The first entries of signals.
use Rattle.std.proofs.Common.{◌≡◌, ℕ, ◌==◌, ◌||◌, Bool, true, false, if◌then◌else◌, List, [], ◌∷◌, ◌++◌, refl, sym, ap}
use Rattle.std.proofs.lemmas.Bool.{false≢true}
use Rattle.known_state.specs.Partly.{Partly}
use Rattle.write_log.specs.Entries.{first_value, names}
use Rattle.write_log.specs.declared.entry.Overwritten.{Overwritten}

pub first_append : (es fs : List Overwritten) (x : ℕ) (q : Partly) → first_value (es ++ fs) x q ≡ first_value es x (first_value fs x q)
first_append [] fs x q = refl
first_append (e ∷ es) fs x q = ap (λ r. if e.signal == x then e.value else r) (first_append es fs x q)

pub names_append : (es fs : List Overwritten) (x : ℕ) → names (es ++ fs) x ≡ (names es x || names fs x)
names_append [] fs x = refl
names_append (e ∷ es) fs x = go (e.signal == x) (names_append es fs x)
  where
    go : (t : Bool) → names (es ++ fs) x ≡ (names es x || names fs x) → (t || names (es ++ fs) x) ≡ ((t || names es x) || names fs x)
    go true i = refl
    go false i = i

-- the first entry decides, whatever there was
pub first_named : (es : List Overwritten) (x : ℕ) (q r : Partly) → names es x ≡ true → first_value es x q ≡ first_value es x r
first_named [] x q r e = absurd (false≢true e)
first_named (e ∷ es) x q r h = go (e.signal == x) (first_named es x q r) h
  where
    go : (t : Bool) → (names es x ≡ true → first_value es x q ≡ first_value es x r) → (t || names es x) ≡ true → (if t then e.value else first_value es x q) ≡ (if t then e.value else first_value es x r)
    go true i h = refl
    go false i h = i h

pub first_unnamed : (es : List Overwritten) (x : ℕ) (q : Partly) → names es x ≡ false → first_value es x q ≡ q
first_unnamed [] x q h = refl
first_unnamed (e ∷ es) x q h = go (e.signal == x) (first_unnamed es x q) h
  where
    go : (t : Bool) → (names es x ≡ false → first_value es x q ≡ q) → (t || names es x) ≡ false → (if t then e.value else first_value es x q) ≡ q
    go true i h = absurd (false≢true (sym h))
    go false i h = i h
