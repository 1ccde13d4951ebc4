-- The bindings of a scope, as the map in order of insertion keeps them.
use Rattle.std.proofs.Common.{◌≡◌, ℕ, ◌-◌, Bool, true, false, cond, if◌then◌else◌, List, [], ◌∷◌, map, length, position, Option, Some, None, refl, ap, sym, ◌∙◌, inl, inr, arith}
use Rattle.std.specs.Prelude.{bytes_eq, IfSome, All}
use Rattle.std.specs.Option.{option_copied, option_map_or}
use Rattle.std.specs.Borrow.{Bor}
use Rattle.std.specs.List.{swap_remove}
use Rattle.std.proofs.lemmas.List.Elements.{All-nil, All-cons, All-head, All-tail, All-take, All-set}
use Rattle.std.specs.Global.{Vec}
use Rattle.std.specs.Map.{lookup, keys_of, KeepsOthers}
use Rattle.std.proofs.lemmas.Bool.{cases_Bool}
use Rattle.std.proofs.lemmas.Slice.Eq.{bytes_eq-Decides}
use Rattle.indexmap.specs.IndexMap.{insert_entry, swap_remove_entry}

-- what holds of an entry holds of a reference to it
pub copied_some : {A : Type 0} (P : A → Type 0) (r : Option (Bor A)) → IfSome (option_copied r) P → IfSome r (λ e. P e.now)
copied_some P None h = h
copied_some P (Some x) h = h

pub fun_ext : {A B : Type 0} {f g : A → B} → ((x : A) → f x ≡ g x) → f ≡ g
fun_ext h = λ i x. h x i

-- the keys that have these bytes
abbrev pub is_named : List ℕ → Vec ℕ → Bool
is_named name key = bytes_eq name key.items

-- whether two keys have the same bytes
abbrev pub same_key : Vec ℕ → Vec ℕ → Bool
same_key a b = bytes_eq a.items b.items

same_named : (name : List ℕ) (a b : Vec ℕ) → same_key a b ≡ true → is_named name a ≡ is_named name b
same_named name a b same = ap (bytes_eq name) ((bytes_eq-Decides a.items b.items).0 same)

other_named : (name : List ℕ) (a b : Vec ℕ) → same_key a b ≡ false → is_named name a ≡ true → is_named name b ≡ false
other_named name a b other here =
    let same : name ≡ a.items = (bytes_eq-Decides name a.items).0 here in
    ap (λ n. bytes_eq n b.items) same ∙ other

twice : {A : Type 0} (b : Bool) (x y z : A) → cond b x z ≡ cond b x (cond b y z)
twice true x y z = refl
twice false x y z = refl

module _ {E : Type 0} where
  -- the entries as names and what they mean
  abbrev pub bindings_in : List (Vec ℕ × E) → List (List ℕ × E)
  bindings_in es = map (λ bound. (bound.0.items, bound.1)) es

  -- what a name is bound to
  abbrev pub bound_to : List (Vec ℕ × E) → List ℕ → Option E
  bound_to es name = lookup (λ bound. bytes_eq name bound) (bindings_in es)

  -- what the map finds is what the scope says
  pub found_name : (name : List ℕ) (es : List (Vec ℕ × E)) → lookup (is_named name) es ≡ bound_to es name
  found_name name [] = refl
  found_name name (e ∷ es) = ap (cond (is_named name e.0) (Some e.1)) (found_name name es)

  -- after an insertion the name means the new entry
  pub inserted_name : (key : Vec ℕ) (new : E) (es : List (Vec ℕ × E)) (name : List ℕ) →
      bound_to (insert_entry same_key es key new) name ≡ (if bytes_eq name key.items then Some new else bound_to es name)
  inserted_name key new [] name = refl
  inserted_name key new (e ∷ es) name =
      elim (cases_Bool (same_key key e.0)) [
        | inl same ↦ rw (same, same_named name key e.0 same) (twice (is_named name e.0) (Some new) (Some e.1) (bound_to es name))
        | inr other ↦
            elim (cases_Bool (is_named name key)) [
              | inl here ↦
                  let rest = inserted_name key new es name in
                  let next : bound_to (insert_entry same_key es key new) name ≡ Some new = rest ∙ rw here refl in
                  rw (other, here, other_named name key e.0 other here) next
              | inr away ↦
                  let rest = inserted_name key new es name in
                  let next : bound_to (insert_entry same_key es key new) name ≡ bound_to es name = rest ∙ rw away refl in
                  rw (other, away, next) refl
            ]
      ]

  -- after a removal the name means nothing
  pub removed_name : (x : List ℕ) (old new : List (Vec ℕ × E)) → lookup (is_named x) new ≡ None → KeepsOthers same_key (is_named x) old new → (name : List ℕ) →
      bound_to new name ≡ (if bytes_eq name x then None else bound_to old name)
  unfolding KeepsOthers
  removed_name x old new gone others name =
      elim (cases_Bool (bytes_eq name x)) [
        | inl here ↦
            let same : name ≡ x = (bytes_eq-Decides name x).0 here in
            rw here (ap (bound_to new) same ∙ sym (found_name x new) ∙ gone)
        | inr away ↦
            let one = λ (a b : Vec ℕ) (h : is_named name a ≡ true). ap (λ n. bytes_eq n b.items) ((bytes_eq-Decides name a.items).0 h) in
            let apart = λ (k : Vec ℕ) (h : is_named x k ≡ true). ap (bytes_eq name) (sym ((bytes_eq-Decides x k.items).0 h)) ∙ away in
            rw away (sym (found_name name new) ∙ others (is_named name) one apart ∙ found_name name old)
      ]

module _ {E : Type 0} (P : E → Type 0) where
  -- what is bound is such an entry
  abbrev pub IsBound : Vec ℕ × E → Type 0
  IsBound bound = P bound.1

  -- an insertion keeps the entries
  pub inserted_all : (key : Vec ℕ) (new : E) (es : List (Vec ℕ × E)) → P new → All IsBound es → All IsBound (insert_entry same_key es key new)
  inserted_all key new [] h all = All-cons IsBound (key, new) [] h (All-nil IsBound)
  inserted_all key new (e ∷ es) h all =
      elim (cases_Bool (same_key key e.0)) [
        | inl same ↦ rw same (All-cons IsBound (e.0, new) es h (All-tail IsBound e es all))
        | inr other ↦ rw other (All-cons IsBound e (insert_entry same_key es key new) (All-head IsBound e es all) (inserted_all key new es h (All-tail IsBound e es all)))
      ]

  -- a removal keeps the entries
  pub removed_all : (test : Vec ℕ → Bool) (es : List (Vec ℕ × E)) → All IsBound es → All IsBound (swap_remove_entry test es)
  removed_all test [] all = all
  removed_all test (e ∷ es) all = by (position test (keys_of (e ∷ es)))
    where
      by : (r : Option ℕ) → All IsBound (option_map_or (λ i. swap_remove (e ∷ es) i e) r (e ∷ es))
      by None = all
      by (Some i) = All-take IsBound _ _ (All-set IsBound (e ∷ es) i _ (all (length (e ∷ es) - 1) e (omega arith)) all)
