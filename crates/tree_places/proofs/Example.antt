-- The places of a test are those of its tokens.
use Rattle.std.proofs.Common.{◌≡◌, ℕ, ◌∙◌, inl, inr, refl, sym, ap}
use Rattle.cov_host.specs.declared.place.Place.{Place}
use Rattle.tree_places.specs.Example.{at, front, test, token_at, whole}
use Rattle.tree_places.specs.Placed.{IsPlacedBody, IsTokenPlace}
use Rattle.verilog_lexer.specs.Tokens.{Lexeme}

pub placed : IsPlacedBody (IsTokenPlace whole) test
placed = (
  (token_at 1, inr (inr (inl refl)), refl),
  (token_at 5, inr (inr (inr (inr (inl refl)))), refl),
  (
    (token_at 8, inr (inr (inr (inr (inr (inr (inl refl)))))), refl),
    (token_at 8, inr (inr (inr (inr (inr (inr (inl refl)))))), refl),
    (token_at 12, inl refl, refl),
  ),
  tt,
)

-- a token that is at the last name has its column
column : (n : ℕ) (t : Lexeme) → token_at n ≡ t → t.place ≡ at 12 → 12 ≡ n
column n t e same = sym (ap (λ (p : Place). p.column) same) ∙ ap (λ (u : Lexeme). u.place.column) (sym e)

not_in_front : IsTokenPlace front (at 12) → ⊥
not_in_front (t, inl e, same) = let c = column 1 t e same in absurd cc
not_in_front (t, inr (inl e), same) = let c = column 4 t e same in absurd cc
not_in_front (t, inr (inr (inl e)), same) = let c = column 5 t e same in absurd cc
not_in_front (t, inr (inr (inr (inl e))), same) = let c = column 6 t e same in absurd cc
not_in_front (t, inr (inr (inr (inr (inl e)))), same) = let c = column 8 t e same in absurd cc
not_in_front (t, inr (inr (inr (inr (inr (inl e))))), same) = let c = column 10 t e same in absurd cc
not_in_front (t, inr (inr (inr (inr (inr (inr k))))), same) = absurd k

pub refused : IsPlacedBody (IsTokenPlace front) test → ⊥
refused h = not_in_front h.2.2
