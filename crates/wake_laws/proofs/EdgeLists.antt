-- Lists of edges.
use Rattle.std.proofs.Common.{◌≡◌, inl, inr, ⊎_elim, ◌∙◌, ℕ, Bool, true, false, cond, ◌==◌, ◌&&◌, List, [], ◌∷◌, Some, None, refl, sym, ap, eq-eqb}
use Rattle.std.specs.List.{list_all, list_any}
use Rattle.std.proofs.lemmas.Bool.{and_from, and_parts, eqb-true, false≢true, or_cases, or_left, or_right}
use Rattle.event_machine.specs.Machine.{Edge as MachineEdge}
use Rattle.event_machine.specs.Cell.{Cell}
use Rattle.design_model.specs.four_state.declared.edge.Edge.{Edge}
use Rattle.design_model.specs.Tree.{Process, assign, clocked, comb}
use Rattle.design_model.specs.Design.{In, cell}
use Rattle.design_model.specs.Machine.{events_of, is_level, lists_edge, same_edge}
use Rattle.early_sets.specs.WakeState.{first_signal}

abbrev pub Listed : Type 0
Listed = Edge × ℕ

pub any_from : (f : Listed → Bool) (es : List Listed) (e : Listed) → In e es → f e ≡ true → list_any f es ≡ true
any_from f [] e h is = absurd h
any_from f (x ∷ es) e (inl same) is = or_left (f x) (list_any f es) (ap f same ∙ is)
any_from f (x ∷ es) e (inr h) is = or_right (f x) (list_any f es) (any_from f es e h is)

pub any_gives : (f : Listed → Bool) (es : List Listed) → list_any f es ≡ true → (e : Listed) × In e es × (f e ≡ true)
any_gives f [] h = absurd (false≢true h)
any_gives f (x ∷ es) h = ⊎_elim (λ is. (x, inl refl, is)) (λ rest. let r = any_gives f es rest in (r.0, inr r.1, r.2)) (or_cases (f x) (list_any f es) h)

pub all_from : (f : Listed → Bool) (es : List Listed) → ((e : Listed) → In e es → f e ≡ true) → list_all f es ≡ true
all_from f [] h = refl
all_from f (x ∷ es) h = and_from (f x) (list_all f es) (h x (inl refl)) (all_from f es (λ e i. h e (inr i)))

pub all_gives : (f : Listed → Bool) (es : List Listed) (e : Listed) → list_all f es ≡ true → In e es → f e ≡ true
all_gives f [] e h i = absurd i
all_gives f (x ∷ es) e h (inl same) = sym (ap f same) ∙ (and_parts (f x) (list_all f es) h).0
all_gives f (x ∷ es) e h (inr i) = all_gives f es e (and_parts (f x) (list_all f es) h).1 i

first_cons : (f : Listed → Bool) (e : Listed) (es : List Listed) (s : ℕ) (b : Bool) → f e ≡ b → (first_signal f es ≡ Some s → (x : Listed) × In x es × (f x ≡ true) × (x.1 ≡ s)) → cond b (Some e.1) (first_signal f es) ≡ Some s → (x : Listed) × In x (e ∷ es) × (f x ≡ true) × (x.1 ≡ s)
first_cons f e es s true is rest h = let same : e.1 ≡ s = cc in (e, inl refl, is, same)
first_cons f e es s false is rest h = let r = rest h in (r.0, inr r.1, r.2, r.3)

pub first_gives : (f : Listed → Bool) (es : List Listed) (s : ℕ) → first_signal f es ≡ Some s → (e : Listed) × In e es × (f e ≡ true) × (e.1 ≡ s)
first_gives f [] s h = absurd (cc)
first_gives f (e ∷ es) s h = first_cons f e es s (f e) refl (first_gives f es s) h

none_cons : (f : Listed → Bool) (x : Listed) (es : List Listed) (e : Listed) (b : Bool) → f x ≡ b → (first_signal f es ≡ None → In e es → f e ≡ false) → cond b (Some x.1) (first_signal f es) ≡ None → In e (x ∷ es) → f e ≡ false
none_cons f x es e true is rest h i = absurd (cc)
none_cons f x es e false is rest h (inl same) = sym (ap f same) ∙ is
none_cons f x es e false is rest h (inr i) = rest h i

pub first_none : (f : Listed → Bool) (es : List Listed) (e : Listed) → first_signal f es ≡ None → In e es → f e ≡ false
first_none f [] e h i = absurd i
first_none f (x ∷ es) e h i = none_cons f x es e (f x) refl (first_none f es e) h i

-- an edge of a process's list is one that it lists
pub listed_of : (q : Process) (e : Listed) (m : MachineEdge) → In e (events_of q) → same_edge e.0 m ≡ true → lists_edge q m (cell e.1 0) ≡ true
listed_of (assign i x t counted) e m h same = absurd h
listed_of (comb i wakes s) e m h same = absurd h
listed_of (clocked i events s) e m h same = any_from (λ f. same_edge f.0 m && (f.1 == e.1)) events e h (and_from (same_edge e.0 m) (e.1 == e.1) same (eq-eqb e.1 e.1 refl))

pub listed_by : (q : Process) (m : MachineEdge) (c : Cell) → lists_edge q m c ≡ true → (e : Listed) × In e (events_of q) × (same_edge e.0 m ≡ true) × (e.1 ≡ c.thing)
listed_by (assign i x t counted) m c h = absurd (false≢true h)
listed_by (comb i wakes s) m c h = absurd (false≢true h)
listed_by (clocked i events s) m c h =
    let r = any_gives (λ f. same_edge f.0 m && (f.1 == c.thing)) events (and_parts (c.place == 0) _ h).1 in
    let both = and_parts (same_edge r.0.0 m) (r.0.1 == c.thing) r.2 in
    (r.0, r.1, both.0, eqb-true r.0.1 c.thing both.1)

-- a process with a list of edges is a block of edges
pub no_level : (q : Process) (e : Listed) → In e (events_of q) → (x : ℕ) → is_level q x ≡ false
no_level (assign i y t counted) e h x = absurd h
no_level (comb i wakes s) e h x = absurd h
no_level (clocked i events s) e h x = refl
