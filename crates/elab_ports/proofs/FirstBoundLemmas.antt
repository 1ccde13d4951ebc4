-- Maps of which the first of equal names counts.
use Rattle.std.proofs.Common.{◌≡◌, ℕ, Bool, true, false, List, [], ◌∷◌, ◌++◌, Option, Some, None, if◌then◌else◌, refl, ap, sym, ◌∙◌, inl, inr}
use Rattle.std.specs.Prelude.{bytes_eq, is_none}
use Rattle.std.specs.Option.{option_map, option_or}
use Rattle.std.proofs.lemmas.Bool.{cases_Bool}
use Rattle.std.proofs.lemmas.Slice.Eq.{bytes_eq-Decides}
use Rattle.flat_design.specs.Connections as spec
use Rattle.flat_design.specs.Connections.{connection_of}
use Rattle.flat_design.specs.Instances.{PortAliases, alias_number}
use Rattle.elab_const.proofs.ScopeLemmas.{fun_ext}
use Rattle.elab_scope.specs.NameMap.{bound_to, with_binding}
use Rattle.elab_scope.proofs.ConnectionLemmas.{bytes_eq-sym}
use Rattle.elab_ports.specs.ConnectionView.{connection_view}
use Rattle.elab_ports.specs.FirstBound.{connections_by, only_bound, or_bound}
use Rattle.elab_ports.specs.declared.given.Connection.{Connection}

or_none : {V : Type 0} (o : Option V) → option_or o None ≡ o
or_none None = refl
or_none (Some v) = refl

absent : {V : Type 0} (o : Option V) → is_none o ≡ true → o ≡ None
absent None e = refl
absent (Some v) e = cc

present : {V : Type 0} (o p : Option V) → is_none o ≡ false → o ≡ option_or o p
present None p e = cc
present (Some v) p e = refl

-- what has nothing after it
pub or_nothing : {V : Type 0} (f : List ℕ → Option V) → f ≡ or_bound f (λ x. None)
or_nothing f = fun_ext (λ x. sym (or_none (f x)))

or_assoc : {V : Type 0} (o p q : Option V) → option_or (option_or o p) q ≡ option_or o (option_or p q)
or_assoc None p q = refl
or_assoc (Some v) p q = refl

pub or_bound_assoc : {V : Type 0} (f g h : List ℕ → Option V) → or_bound (or_bound f g) h ≡ or_bound f (or_bound g h)
or_bound_assoc f g h = fun_ext (λ x. or_assoc (f x) (g x) (h x))

module _ {V : Type 0} (name : List ℕ) (v : V) (f : List ℕ → Option V) where
  kept_at : is_none (f name) ≡ false → (x : List ℕ) → f x ≡ option_or (f x) (if bytes_eq x name then Some v else None)
  kept_at there x =
      elim (cases_Bool (bytes_eq x name)) [
        | inl same ↦
            let is : x ≡ name = (bytes_eq-Decides x name).0 same in
            present (f x) _ (ap (λ y. is_none (f y)) is ∙ there)
        | inr other ↦ rw other (sym (or_none (f x)))
      ]

  -- a name that is bound stays so
  pub first_kept : is_none (f name) ≡ false → f ≡ or_bound f (only_bound name v)
  first_kept there = fun_ext (kept_at there)

  bound_at : is_none (f name) ≡ true → (x : List ℕ) → with_binding name v f x ≡ option_or (f x) (if bytes_eq x name then Some v else None)
  bound_at away x =
      elim (cases_Bool (bytes_eq x name)) [
        | inl same ↦
            let is : x ≡ name = (bytes_eq-Decides x name).0 same in
            let gone : f x ≡ None = absent (f x) (ap (λ y. is_none (f y)) is ∙ away) in
            rw (same, gone) refl
        | inr other ↦ rw other (sym (or_none (f x)))
      ]

  -- one that is not is bound to the value
  pub first_bound : is_none (f name) ≡ true → with_binding name v f ≡ or_bound f (only_bound name v)
  first_bound away = fun_ext (bound_at away)

-- no connection yet
pub connections_none : (es : List (List ℕ × Connection)) (f : List ℕ → Option spec.Connection) → bound_to es ≡ (λ x. None) → or_bound (connections_by es) f ≡ f
connections_none es f is = ap (λ h. or_bound (λ x. option_map connection_view (h x)) f) is

-- one connection more
connected : (o : Option Connection) (b : Bool) (c : Connection) (r : Option spec.Connection) →
    option_or (option_map connection_view (option_or o (if b then Some c else None))) r ≡ option_or (option_map connection_view o) (if b then Some (connection_view c) else r)
connected None true c r = refl
connected None false c r = refl
connected (Some d) b c r = refl

pub connections_more : (old new : List (List ℕ × Connection)) (c : Connection) (cs : List spec.Connection) → bound_to new ≡ or_bound (bound_to old) (only_bound c.port.now c) →
    or_bound (connections_by new) (connection_of cs) ≡ or_bound (connections_by old) (connection_of (connection_view c ∷ cs))
connections_more old new c cs is =
    ap (λ f. or_bound (λ x. option_map connection_view (f x)) (connection_of cs)) is ∙
    fun_ext (λ x. connected (bound_to old x) (bytes_eq x c.port.now) c (connection_of cs x) ∙ ap (λ b. option_or (option_map connection_view (bound_to old x)) (if b then Some (connection_view c) else connection_of cs x)) (bytes_eq-sym x c.port.now))

-- one port with its number
pub alias_bound : (x : List ℕ) (n : ℕ) → only_bound x n ≡ alias_number ((x, n) ∷ [])
alias_bound x n = fun_ext (λ y. refl)

-- the numbers of some ports and then of others
number_append : (x : List ℕ) (as' bs : PortAliases) → alias_number (as' ++ bs) x ≡ option_or (alias_number as' x) (alias_number bs x)
number_append x [] bs = refl
number_append x (a ∷ as') bs = by (bytes_eq x a.0) (number_append x as' bs)
  where
    by : (b : Bool) → alias_number (as' ++ bs) x ≡ option_or (alias_number as' x) (alias_number bs x) → (if b then Some a.1 else alias_number (as' ++ bs) x) ≡ option_or (if b then Some a.1 else alias_number as' x) (alias_number bs x)
    by true r = refl
    by false r = r

pub aliases_append : (as' bs : PortAliases) → alias_number (as' ++ bs) ≡ or_bound (alias_number as') (alias_number bs)
aliases_append as' bs = fun_ext (λ x. number_append x as' bs)
