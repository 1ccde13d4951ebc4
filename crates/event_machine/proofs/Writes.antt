-- Lists of writes: what they leave, what they change, and whom they wake.
use Rattle.std.specs.Prelude.{⊤}
use Rattle.std.proofs.Common.{◌≡◌, ◌≢◌, ◌⊎◌, inl, inr, ⊎_elim, ℕ, Bool, true, false, not, ◌&&◌, ◌||◌, true≢false, List, [], ◌∷◌, ◌++◌, refl, sym, ap, subst, subst₂, ◌∙◌, append_assoc, arith}
use Rattle.std.proofs.lemmas.Bool.{cases_eq, cases_Bool, or_cases, and_parts, and_from, not-true}
use Rattle.std.proofs.lemmas.Bool.Decides.{nat_tests}
use Rattle.event_machine.specs.Cell.{Cell, Changes, Update, UpdatesCell, Values, Write, WritesCell, join, put, put_all, same_cell}
use Rattle.event_machine.specs.Machine.{Edge, IsLawful, Machine, Negedge, Posedge, is_sensitive, wakes}
use Rattle.event_machine.specs.Event.{first, rest}
use Rattle.event_machine.specs.Habit.{MakesNoEdge}
use Rattle.event_machine.specs.Told.{Told}
use Rattle.event_machine.specs.MayMove.{CanBeEdge, MayWake}

pub cases_cell : (c d : Cell) → (c ≡ d) ⊎ (c ≡ d → ⊥)
cases_cell c d = elim (cases_eq c.thing d.thing) [
  | inl things ↦ elim (cases_eq c.place d.place) [
    | inl places ↦ inl (λ i. record { thing = things i; place = places i })
    | inr differ ↦ inr (λ e. differ (ap (λ (x : Cell). x.place) e))
  ]
  | inr differ ↦ inr (λ e. differ (ap (λ (x : Cell). x.thing) e))
]

pub same_cell_is : (c d : Cell) → c ≡ d → same_cell c d ≡ true
same_cell_is c d e = subst (λ x. same_cell c x ≡ true) e (grind (arith, nat_tests))

pub same_cell_not : (c d : Cell) → (c ≡ d → ⊥) → same_cell c d ≡ false
same_cell_not c d n = elim (cases_eq c.thing d.thing) [
  | inl things ↦ elim (cases_eq c.place d.place) [
    | inl places ↦ absurd (n (λ i. record { thing = things i; place = places i }))
    | inr differ ↦ grind (arith, nat_tests)
  ]
  | inr differ ↦ grind (arith, nat_tests)
]

module _ {V : Type 0} where
  pub put_same : (v : Values V) (w : Write V) (c : Cell) → w.cell ≡ c → put v w c ≡ w.value
  unfolding put
  put_same v w c e = rw (same_cell_is w.cell c e)

  pub put_other : (v : Values V) (w : Write V) (c : Cell) → (w.cell ≡ c → ⊥) → put v w c ≡ v c
  unfolding put
  put_other v w c n = rw (same_cell_not w.cell c n)

  pub UpdatesCell-append : (us vs : List (Update V)) (c : Cell) → UpdatesCell (us ++ vs) c → UpdatesCell us c ⊎ UpdatesCell vs c
  UpdatesCell-append [] vs c h = inr h
  UpdatesCell-append (u ∷ us) vs c (inl h) = inl (inl h)
  UpdatesCell-append (u ∷ us) vs c (inr h) = ⊎_elim (λ k. inl (inr k)) (λ k. inr k) (UpdatesCell-append us vs c h)

  -- what the list does not write keeps its value
  pub put_all_other : (v : Values V) (ws : List (Write V)) (c : Cell) → (WritesCell ws c → ⊥) → put_all v ws c ≡ v c
  put_all_other v [] c n = refl
  put_all_other v (w ∷ ws) c n = put_all_other (put v w) ws c (λ h. n (inr h)) ∙ put_other v w c (λ e. n (inl e))

  pub Changes-WritesCell : (v : Values V) (ws : List (Write V)) (c : Cell) → Changes v ws c → WritesCell ws c
  Changes-WritesCell v (w ∷ ws) c (inl h) = inl h.0
  Changes-WritesCell v (w ∷ ws) c (inr h) = inr (Changes-WritesCell (put v w) ws c h)
  Changes-WritesCell v [] c h = absurd h

  pub join-append : (us vs : List (Update V)) → join (us ++ vs) ≡ join us ++ join vs
  join-append [] vs = refl
  join-append (u ∷ us) vs = ap (λ (l : List (Write V)). u ++ l) (join-append us vs) ∙ sym (append_assoc u (join us) (join vs))

  pub join_first : (us : List (Update V)) → first us ++ join (rest us) ≡ join us
  join_first [] = refl
  join_first (u ∷ us) = refl

  module _ (c : Cell) where
    pub WritesCell-left : (ws us : List (Write V)) → WritesCell ws c → WritesCell (ws ++ us) c
    WritesCell-left [] us h = absurd h
    WritesCell-left (w ∷ ws) us (inl is) = inl is
    WritesCell-left (w ∷ ws) us (inr h) = inr (WritesCell-left ws us h)

    pub WritesCell-split : (ws us : List (Write V)) → WritesCell (ws ++ us) c → WritesCell ws c ⊎ WritesCell us c
    WritesCell-split [] us h = inr h
    WritesCell-split (w ∷ ws) us (inl is) = inl (inl is)
    WritesCell-split (w ∷ ws) us (inr h) = ⊎_elim (λ k. inl (inr k)) (λ k. inr k) (WritesCell-split ws us h)

    pub WritesCell-join : (us : List (Update V)) → WritesCell (join us) c → UpdatesCell us c
    WritesCell-join [] h = h
    WritesCell-join (u ∷ us) h = ⊎_elim (λ k. inl k) (λ k. inr (WritesCell-join us k)) (WritesCell-split u (join us) h)

pub or_left : (x y : Bool) → x ≡ true → (x || y) ≡ true
or_left x y e = rw e refl

pub or_right : (x y : Bool) → y ≡ true → (x || y) ≡ true
or_right true y e = refl
or_right false y e = e

module _ {V : Type 0} (m : Machine V) (lawful : IsLawful m) where
  pub cases_value : (x y : V) → (x ≡ y) ⊎ (x ≢ y)
  cases_value x y = elim (cases_Bool (m.same x y)) [
    | inl same ↦ inl (lawful.same_is x y same)
    | inr differ ↦ inr (λ e. true≢false (sym (lawful.same_self x) ∙ ap (m.same x) e ∙ differ))
  ]

  differs : (x y : V) → x ≢ y → m.same x y ≡ false
  differs x y n = elim (cases_Bool (m.same x y)) [
    | inl same ↦ absurd (n (lawful.same_is x y same))
    | inr no_same ↦ no_same
  ]

  pub Changes-cases : (v : Values V) (ws : List (Write V)) (c : Cell) → Changes v ws c ⊎ (put_all v ws c ≡ v c)
  Changes-cases v [] c = inr refl
  Changes-cases v (w ∷ ws) c = go (cases_cell w.cell c) (cases_value (v c) w.value) (Changes-cases (put v w) ws c)
    where
      go : (w.cell ≡ c) ⊎ (w.cell ≡ c → ⊥) → (v c ≡ w.value) ⊎ (v c ≢ w.value) → Changes (put v w) ws c ⊎ (put_all (put v w) ws c ≡ put v w c) → Changes v (w ∷ ws) c ⊎ (put_all v (w ∷ ws) c ≡ v c)
      go here value (inl later) = inl (inr later)
      go (inl here) (inl same) (inr kept) = inr (kept ∙ put_same v w c here ∙ sym same)
      go (inl here) (inr differ) (inr kept) = inl (inl (here, differ))
      go (inr other) value (inr kept) = inr (kept ∙ put_other v w c other)

  sensitive_level : (p : ℕ) (c : Cell) (x y : V) → m.level p c.thing ≡ true → x ≢ y → is_sensitive m p c x y ≡ true
  unfolding is_sensitive
  sensitive_level p c x y level n = rw (level, differs x y n) refl

  sensitive_edge : (p : ℕ) (e : Edge) (c : Cell) (x y : V) → m.edge p e c ≡ true → m.is_edge e x y ≡ true → is_sensitive m p c x y ≡ true
  unfolding is_sensitive
  sensitive_edge p Posedge c x y listed is = or_right (m.level p c.thing && not (m.same x y)) _ (or_left _ _ (and_from _ _ listed is))
  sensitive_edge p Negedge c x y listed is = or_right (m.level p c.thing && not (m.same x y)) _ (or_right (m.edge p Posedge c && m.is_edge Posedge x y) _ (and_from _ _ listed is))

  -- why a process wakes
  abbrev WakesBy : ℕ → Cell → V → V → Type 0
  WakesBy p c x y = (m.level p c.thing ≡ true) ⊎ ((e : Edge) × (m.edge p e c ≡ true) × (m.is_edge e x y ≡ true))

  sensitive_why : (p : ℕ) (c : Cell) (x y : V) → is_sensitive m p c x y ≡ true → (x ≢ y) × WakesBy p c x y
  unfolding is_sensitive
  sensitive_why p c x y is = elim (or_cases _ _ is) [
    | inl by_level ↦
        let both = and_parts _ _ by_level in
        (λ e. true≢false (sym (lawful.same_self x) ∙ ap (m.same x) e ∙ not-true _ both.1), inl both.0)
    | inr by_edge ↦ elim (or_cases _ _ by_edge) [
      | inl pos ↦ let both = and_parts _ _ pos in (moves Posedge both.1, inr (Posedge, both.0, both.1))
      | inr neg ↦ let both = and_parts _ _ neg in (moves Negedge both.1, inr (Negedge, both.0, both.1))
    ]
  ]
    where
      moves : (e : Edge) → m.is_edge e x y ≡ true → x ≢ y
      moves e is_edge same = true≢false (sym is_edge ∙ ap (m.is_edge e x) (sym same) ∙ lawful.edge_changes e x)

  -- a change wakes each process that is level-sensitive to it
  pub wakes_level : (p : ℕ) (v : Values V) (ws : List (Write V)) (c : Cell) → m.level p c.thing ≡ true → Changes v ws c → wakes m p v ws ≡ true
  wakes_level p v [] c level h = absurd h
  wakes_level p v (w ∷ ws) c level (inl h) =
      or_left _ _ (subst (λ d. is_sensitive m p d (v d) w.value ≡ true) (sym h.0) (sensitive_level p c (v c) w.value level h.1))
  wakes_level p v (w ∷ ws) c level (inr h) = or_right (is_sensitive m p w.cell (v w.cell) w.value) _ (wakes_level p (put v w) ws c level h)

-- each of these writes, from v, that changes a single cell takes it from its old to its new value
abbrev pub AreOldToNew : {V : Type 0} → Told V → (Cell → Type 0) → Values V → List (Write V) → Type 0
AreOldToNew t single v [] = ⊤
AreOldToNew t single v (w ∷ ws) =
    (single w.cell → v w.cell ≢ w.value → (v w.cell ≡ t.old w.cell) × (w.value ≡ t.new w.cell)) × AreOldToNew t single (put v w) ws

-- a change of this very cell may wake p
abbrev pub CellMayWake : {V : Type 0} → Machine V → Told V → (Cell → Type 0) → Cell → ℕ → Type 0
CellMayWake m t single c p = (m.level p c.thing ≡ true) ⊎ CanBeEdge m t single c p

pub may_wake_thing : {V : Type 0} (m : Machine V) (t : Told V) (single : Cell → Type 0) (c : Cell) (p : ℕ) → CellMayWake m t single c p → MayWake m t single c.thing p
may_wake_thing m t single c p (inl level) = inl level
may_wake_thing m t single c p (inr by) = inr (c, refl, by)

module _ {V : Type 0} (m : Machine V) (lawful : IsLawful m) (t : Told V) (single : Cell → Type 0) where
  -- a process that wakes is woken by a cell that changes
  pub wakes_why : (p : ℕ) (v : Values V) (ws : List (Write V)) → AreOldToNew t single v ws → wakes m p v ws ≡ true → (c : Cell) × Changes v ws c × CellMayWake m t single c p
  wakes_why p v [] old_new is = absurd (true≢false (sym is))
  wakes_why p v (w ∷ ws) old_new is = go (or_cases _ _ is) (wakes_why p (put v w) ws old_new.1)
    where
      may_wake : (v w.cell ≢ w.value) → WakesBy m lawful p w.cell (v w.cell) w.value → CellMayWake m t single w.cell p
      may_wake n (inl level) = inl level
      may_wake n (inr why) =
          inr (why.0, why.1, λ one. subst₂ (λ x y. m.is_edge why.0 x y ≡ true) (old_new.0 one n).0 (old_new.0 one n).1 why.2)

      go : (is_sensitive m p w.cell (v w.cell) w.value ≡ true) ⊎ (wakes m p (put v w) ws ≡ true) → (wakes m p (put v w) ws ≡ true → (c : Cell) × Changes (put v w) ws c × CellMayWake m t single c p) → (c : Cell) × Changes v (w ∷ ws) c × CellMayWake m t single c p
      go (inl now) _ = let why = sensitive_why m lawful p w.cell (v w.cell) w.value now in (w.cell, inl (refl, why.0), may_wake why.0 why.1)
      go (inr later) in_rest = let found = in_rest later in (found.0, inr found.1, found.2)

  -- a single cell that changes has its old value before the writes and its new value after them
  pub single_changes : (v : Values V) (ws : List (Write V)) (c : Cell) → single c → t.old c ≢ t.new c → AreOldToNew t single v ws → Changes v ws c → (v c ≡ t.old c) × (put_all v ws c ≡ t.new c)
  single_changes v [] c one two old_new h = absurd h
  single_changes v (w ∷ ws) c one two old_new (inl h) = (old, after (single_changes (put v w) ws c one two old_new.1) (Changes-cases m lawful (put v w) ws c))
    where
      moves : (v c ≡ t.old c) × (w.value ≡ t.new c)
      moves =
          subst
          (λ d. single d → v d ≢ w.value → (v d ≡ t.old d) × (w.value ≡ t.new d))
          h.0
          old_new.0
          one
          h.1

      old : v c ≡ t.old c
      old = moves.0

      put_new : put v w c ≡ t.new c
      put_new = put_same v w c h.0 ∙ moves.1

      after : (Changes (put v w) ws c → (put v w c ≡ t.old c) × (put_all (put v w) ws c ≡ t.new c)) → Changes (put v w) ws c ⊎ (put_all (put v w) ws c ≡ put v w c) → put_all v (w ∷ ws) c ≡ t.new c
      after in_rest (inl again) = absurd (two (sym (in_rest again).0 ∙ put_new))
      after in_rest (inr kept) = kept ∙ put_new
  single_changes v (w ∷ ws) c one two old_new (inr h) =
      let later = single_changes (put v w) ws c one two old_new.1 h in
      (old later.0 (cases_cell w.cell c) (cases_value m lawful (v c) w.value), later.1)
    where
      old : put v w c ≡ t.old c → (w.cell ≡ c) ⊎ (w.cell ≡ c → ⊥) → (v c ≡ w.value) ⊎ (v c ≢ w.value) → v c ≡ t.old c
      old later (inr other) value = sym (put_other v w c other) ∙ later
      old later (inl here) (inl same) = same ∙ sym (put_same v w c here) ∙ later
      old later (inl here) (inr differ) =
          (subst (λ d. single d → v d ≢ w.value → (v d ≡ t.old d) × (w.value ≡ t.new d)) here old_new.0 one differ).0

  -- a single cell whose change is an edge that p lists wakes p where it changes
  pub wakes_edge : (p : ℕ) (v : Values V) (ws : List (Write V)) (c : Cell) (e : Edge) → single c → m.edge p e c ≡ true → m.is_edge e (t.old c) (t.new c) ≡ true → AreOldToNew t single v ws → Changes v ws c → wakes m p v ws ≡ true
  wakes_edge p v [] c e one listed is old_new h = absurd h
  wakes_edge p v (w ∷ ws) c e one listed is old_new (inl h) =
      or_left _ _ (sensitive_edge m lawful p e w.cell (v w.cell) w.value (subst (λ d. m.edge p e d ≡ true) (sym h.0) listed) now)
    where
      moves : (v w.cell ≡ t.old c) × (w.value ≡ t.new c)
      moves = subst (λ d. single d → v d ≢ w.value → (v w.cell ≡ t.old d) × (w.value ≡ t.new d)) h.0 old_new.0 one h.1

      now : m.is_edge e (v w.cell) w.value ≡ true
      now = subst₂ (λ x y. m.is_edge e x y ≡ true) (sym moves.0) (sym moves.1) is
  wakes_edge p v (w ∷ ws) c e one listed is old_new (inr h) =
      or_right (is_sensitive m p w.cell (v w.cell) w.value) _ (wakes_edge p (put v w) ws c e one listed is old_new.1 h)

  -- where no listed edge is made, such a cell does not change
  pub no_edge : (p : ℕ) (v : Values V) (ws : List (Write V)) (c : Cell) (e : Edge) → single c → m.edge p e c ≡ true → m.is_edge e (t.old c) (t.new c) ≡ true → AreOldToNew t single v ws → MakesNoEdge m v ws → Changes v ws c → ⊥
  no_edge p v [] c e one listed is old_new none h = h
  no_edge p v (w ∷ ws) c e one listed is old_new none (inl h) =
      true≢false (sym now ∙ none.0 p e (subst (λ d. m.edge p e d ≡ true) (sym h.0) listed))
    where
      moves : (v w.cell ≡ t.old c) × (w.value ≡ t.new c)
      moves = subst (λ d. single d → v d ≢ w.value → (v w.cell ≡ t.old d) × (w.value ≡ t.new d)) h.0 old_new.0 one h.1

      now : m.is_edge e (v w.cell) w.value ≡ true
      now = subst₂ (λ x y. m.is_edge e x y ≡ true) (sym moves.0) (sym moves.1) is
  no_edge p v (w ∷ ws) c e one listed is old_new none (inr h) = no_edge p (put v w) ws c e one listed is old_new.1 none.1 h
