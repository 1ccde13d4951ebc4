-- Of some names, those that are early are shown one after the other.
use Rattle.std.proofs.Common.{◌≡◌, ℕ, ◌==◌, ◌+◌, ◌<◌, Bool, true, false, List, [], ◌∷◌, ◌++◌, length, get_or, Option, refl, sym, ap, subst, ◌∙◌, eq-eqb}
use Rattle.std.specs.Prelude.{◌&&◌, ◌||◌}
use Rattle.std.specs.List.{All, Contains}
use Rattle.std.proofs.Math.Path.{fun_ext}
use Rattle.std.proofs.lemmas.Bool.{eqb-true, false_from_ne_true, false≢true, or_left, or_parts, or_right}
use Rattle.std.proofs.lemmas.List.{get_or_default}
use Rattle.code_values.specs.Values.{Values}
use Rattle.design_model.specs.Mentions.{body_assigns, body_mentions}
use Rattle.process_names.specs.Names.{body_names}
use Rattle.process_names.proofs.NamesLaw.{body_is, has-append}
use Rattle.early_sets.specs.WakeState.{WakeState}
use Rattle.early_sets.proofs.Membership.{is_in_from, is_in_gives}
use Rattle.local_runs.specs.Narrowed.{Covers, narrowed}
use Rattle.run_views.specs.body_calls.Own.{is_in}
use Rattle.run_views.specs.body_replay.Runs.{StoreView}
use Rattle.run_views.specs.body_replay.Store.{Kept}
use Rattle.run_views.specs.body_store.Bodies.{rooms_of}
use Rattle.run_views.specs.body_store.declared.store.Store.{Store}
use Rattle.run_views.specs.design_model.Tree.{Stmt}
use Rattle.run_views.specs.Meets.{Meets, also_hiding}
use Rattle.step_values.specs.replay_model.Step.{Closing, Working, clean_store, entry}
use Rattle.run_views.specs.design_model.Design.{Design}
use Rattle.run_views.specs.design_model.View.{design_view}
use Rattle.entry_values.specs.Entering.{IsReady, IsShownSince, ShowStart, Shows, also_early}
use Rattle.entry_values.specs.Entry.{IsEntryOf, entered}
use Rattle.entry_values.proofs.Entering.{same_order}

-- views are equal where the same is hidden
same_hidden : (v : StoreView) (f g : ℕ → Bool) → ((y : ℕ) → f y ≡ g y) → record v { hidden = f } ≡ record v { hidden = g }
same_hidden v f g same = ap (λ h. record v { hidden = h }) (fun_ext same)

-- what one list or another has, of what is early
either_list : (a b e h : Bool) → ((b && e) || ((a && e) || h)) ≡ (((a || b) && e) || h)
either_list true true true h = refl
either_list true true false h = refl
either_list true false true h = refl
either_list true false false h = refl
either_list false true true h = refl
either_list false true false h = refl
either_list false false true h = refl
either_list false false false h = refl

-- a number of the list passes what all of it pass
pub all_of_it : (n : ℕ) (xs : List ℕ) → All (λ x. x < n) xs → (x : ℕ) → is_in xs x ≡ true → x < n
all_of_it n xs all x e =
    let c : Contains xs x = is_in_gives xs x e in
    subst (λ z. z < n) c.2 (all c.0 x c.1)

-- what a set has is in its list
pub in_list : (xs : List ℕ) (x : ℕ) → Contains xs x → is_in xs x ≡ true
in_list xs x c = is_in_from xs x c.0 c.1 c.2

pub not_in_list : (xs : List ℕ) (x : ℕ) → (Contains xs x → ⊥) → is_in xs x ≡ false
not_in_list xs x none = false_from_ne_true _ (λ e. none (is_in_gives xs x e))

module _ (early : List ℕ) (codes : List (Option ℕ)) (values : Values) where
  pub shows_none : (x : Store) → Shows early codes values [] x x
  shows_none x = record { design = refl; updates = refl; rooms = refl; meets = λ st p t v is shown h. h }

  pub shows_then : (x y z : Store) (xs ys : List ℕ) → Shows early codes values xs x y → Shows early codes values ys y z → Shows early codes values (xs ++ ys) x z
  shows_then x y z xs ys a b =
      record {
        design = b.design ∙ a.design;
        updates = b.updates ∙ a.updates;
        rooms = b.rooms ∙ a.rooms;
        meets = λ st p t v is shown h.
            subst (λ u. Meets st.design u z)
            (same_hidden v _ _ (λ k. either_list (is_in xs k) (is_in ys k) (is_in early k) (v.hidden k) ∙ ap (λ c. (c && is_in early k) || v.hidden k) (sym (has-append k xs ys))))
            (b.meets st p t (also_early early xs v) is shown (a.meets st p t v is shown h));
      }

  -- the trigger is not among what is early
  apart : (st : Closing) (p trigger thing : ℕ) → IsEntryOf st p trigger early codes values → is_in early thing ≡ true → (thing == trigger) ≡ false
  apart st p trigger thing is e = false_from_ne_true _ (λ h. false≢true (sym is.apart ∙ subst (λ z. is_in early z ≡ true) (eqb-true thing trigger h) e))

  one_hidden : (thing y : ℕ) (h : Bool) → is_in early thing ≡ true → ((thing == y) || h) ≡ (((thing == y) || false) && is_in early y) || h
  one_hidden thing y h in_early = go (thing == y) refl
    where
      go : (b : Bool) → (thing == y) ≡ b → (b || h) ≡ (((b || false) && is_in early y) || h)
      go true e = ap (λ t. t || h) (sym (subst (λ z. is_in early z ≡ true) (eqb-true thing y e) in_early))
      go false e = refl

  none_hidden : (thing y : ℕ) (h : Bool) → is_in early thing ≡ false → h ≡ (((thing == y) || false) && is_in early y) || h
  none_hidden thing y h free = go (thing == y) refl
    where
      go : (b : Bool) → (thing == y) ≡ b → h ≡ (((b || false) && is_in early y) || h)
      go true e = ap (λ t. t || h) (sym (subst (λ z. is_in early z ≡ false) (eqb-true thing y e) free))
      go false e = refl

  -- one that is early is shown
  pub shows_one : (thing : ℕ) (x y : Store) → is_in early thing ≡ true → y.design ≡ x.design → y.updates ≡ x.updates → rooms_of y ≡ rooms_of x
      → ((st : Closing) (p trigger : ℕ) (all : List ℕ) (v : StoreView) → IsEntryOf st p trigger all codes values → (thing == trigger) ≡ false → v.shown ≡ entry st trigger → Meets st.design v x → Meets st.design (also_hiding thing v) y)
      → Shows early codes values (thing ∷ []) x y
  shows_one thing x y in_early design updates rooms meets =
      record {
        design = design;
        updates = updates;
        rooms = rooms;
        meets = λ st p t v is shown h.
            subst (λ u. Meets st.design u y) (same_hidden v _ _ (λ k. one_hidden thing k (v.hidden k) in_early)) (meets st p t early v is (apart st p t thing is in_early) shown h);
      }

  -- one that is not early is passed over
  pub shows_other : (thing : ℕ) (x : Store) → is_in early thing ≡ false → Shows early codes values (thing ∷ []) x x
  shows_other thing x free =
      record {
        design = refl;
        updates = refl;
        rooms = refl;
        meets = λ st p t v is shown h. subst (λ u. Meets st.design u x) (same_hidden v _ _ (λ k. none_hidden thing k (v.hidden k) free)) h;
      }

-- what can be shown in a store can be in another one of the same design
pub ready_after : (d : Design) (sets : WakeState) (codes : List (Option ℕ)) (values : Values) (x y : Store) → IsReady d sets codes values x → y.design ≡ x.design → IsReady d sets codes values y
ready_after d sets codes values x y h same =
    record { same = ap (λ e. design_view e.now) same ∙ h.same; inside = h.inside; numbers = h.numbers; old = h.old; before = h.before; new = h.new; after = h.after }

-- what was shown since a start, and these names too
pub since_more : (s : ShowStart) (earlier names : List ℕ) (name : ℕ) (early : List ℕ) (codes : List (Option ℕ)) (values : Values) (x y : Store)
    → IsShownSince s earlier name early codes values x → Shows early codes values names x y → IsShownSince s (earlier ++ names) name early codes values y
since_more s earlier names name early codes values x y h a = (
  h.0,
  h.1,
  h.2,
  h.3,
  shows_then s.early s.codes s.values s.store x y earlier names h.4
      (subst (λ e. Shows e s.codes s.values names x y) h.1 (subst (λ cs. Shows early cs s.values names x y) h.2 (subst (λ vs. Shows early codes vs names x y) h.3 a))),
)

-- what a block is shown: its trigger, and of what is early what is named
abbrev pub shown_to : ℕ → List ℕ → ℕ → Bool
shown_to trigger names x = (x == trigger) || is_in names x

-- it is all that its body mentions or assigns
pub shown_covers : (s : Stmt) (trigger : ℕ) (written : List ℕ) → ((x : ℕ) → is_in written x ≡ body_assigns x s) → Covers (shown_to trigger (written ++ body_names s)) s
shown_covers s trigger written assigns x e = or_right (x == trigger) _ (has-append x written (body_names s) ∙ go (body_mentions x s) (body_assigns x s) (sym (body_is x s)) (sym (assigns x)) e)
  where
    go : (m a : Bool) → m ≡ is_in (body_names s) x → a ≡ is_in written x → (m || a) ≡ true → (is_in written x || is_in (body_names s) x) ≡ true
    go m true p q h = or_left (is_in written x) _ (sym q)
    go true false p q h = or_right (is_in written x) _ (sym p)
    go false false p q h = absurd (false≢true h)

only_named : (t n e : Bool) → ((t || n) && (t || e)) ≡ (t || ((n && e) || false))
only_named true n e = refl
only_named false true true = refl
only_named false true false = refl
only_named false false e = refl

-- with the trigger shown too, this is what it meets of the store that a clean block meets
pub named_view : (st : Closing) (p trigger : ℕ) (early names : List ℕ) (codes : List (Option ℕ)) (values : Values) (w : Working) → IsEntryOf st p trigger early codes values
    → also_hiding trigger (also_early early names (entered st trigger [] w.kept)) ≡ narrowed (shown_to trigger names) (clean_store st p trigger w)
named_view st p trigger early names codes values w is =
    same_hidden (entered st trigger [] w.kept) _ _
    (λ y. ap (λ t. t || ((is_in names y && is_in early y) || false)) (same_order trigger y) ∙ sym (only_named (y == trigger) (is_in names y) (is_in early y)) ∙ ap (λ e. ((y == trigger) || is_in names y) && ((y == trigger) || e)) (sym (is.early_are y)))
