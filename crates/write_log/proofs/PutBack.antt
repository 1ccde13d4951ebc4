-- Entries that are taken from one list, undone, and added to another one.
use Rattle.std.proofs.Common.{◌≡◌, ℕ, ◌<◌, ◌==◌, ◌||◌, Bool, true, false, if◌then◌else◌, List, [], ◌∷◌, ◌++◌, length, get_or, append_assoc, refl, sym, ap, ap₂, subst, ◌∙◌}
use Rattle.std.specs.List.{All}
use Rattle.std.proofs.lemmas.Bool.{eqb-true}
use Rattle.std.proofs.lemmas.List.{append-nil}
use Rattle.std.proofs.lemmas.List.Elements.{All-push, All-weaker}
use Rattle.known_state.specs.Partly.{Partly}
use Rattle.value_store.specs.Signals.{HasShape, SameUnder, Signals, no_shape, read_at, shape_at}
use Rattle.write_log.specs.Entries.{Fits, Moved, Undoes, first_value, names}
use Rattle.write_log.specs.declared.entry.Overwritten.{Overwritten}
use Rattle.write_log.proofs.Firsts.{first_append, names_append}

pub under_self : (v : Signals) → SameUnder v v
under_self v = record { shapes = refl; count = refl; hides = λ x. refl; under = λ x h. refl }

pub under_both : (u v w : Signals) → SameUnder u v → SameUnder v w → SameUnder u w
under_both u v w a b =
    record {
      shapes = b.shapes ∙ a.shapes;
      count = b.count ∙ a.count;
      hides = λ x. b.hides x ∙ a.hides x;
      under = λ x h. b.under x (a.hides x ∙ h) ∙ a.under x h;
    }

pub fits_under : (v w : Signals) (e : Overwritten) → SameUnder v w → Fits v e → Fits w e
fits_under v w e u f =
    let inside : e.signal < length v.kept = f.inside in
    record {
      inside = subst (λ n. e.signal < n) (sym u.count) inside;
      shape = subst (λ xs. HasShape (get_or xs e.signal no_shape) e.value) (sym u.shapes) f.shape;
    }

pub all_under : (v w : Signals) (es : List Overwritten) → SameUnder v w → All (Fits v) es → All (Fits w) es
all_under v w es u h = All-weaker (Fits v) (Fits w) (λ e f. fits_under v w e u f) es h

-- undoing one list and then the one before it
pub undoes_both : (es fs : List Overwritten) (u v w : Signals) → Undoes fs u v → Undoes es v w → Undoes (es ++ fs) u w
undoes_both es fs u v w f e x = first_append es fs x (read_at u x) ∙ ap (first_value es x) (f x) ∙ e x

pub moved_nothing : (from to : List Overwritten) (v : Signals) → Moved from to v from to v
moved_nothing from to v =
    record {
      gone = [];
      came = [];
      taken = sym (append-nil from);
      added = sym (append-nil to);
      forth = λ x. refl;
      back = λ x. refl;
      named = λ x. refl;
      under = under_self v;
    }

-- what is put back of one signal
back_of : (e : Overwritten) (v w : Signals) → ((x : ℕ) → read_at w x ≡ (if e.signal == x then e.value else read_at v x)) → (x : ℕ) → (if e.signal == x then read_at v e.signal else read_at w x) ≡ read_at v x
back_of e v w h x = go (e.signal == x) refl
  where
    go : (t : Bool) → (e.signal == x) ≡ t → (if t then read_at v e.signal else read_at w x) ≡ read_at v x
    go true i = ap (read_at v) (eqb-true e.signal x i)
    go false i = h x ∙ ap (λ t. if t then e.value else read_at v x) i

pub moved_one : (from to from' to' : List Overwritten) (v w : Signals) (e : Overwritten) (old : Partly) → from ≡ from' ++ e ∷ [] → old ≡ read_at v e.signal → to' ≡ to ++ record { signal = e.signal; value = old } ∷ [] → ((x : ℕ) → read_at w x ≡ (if e.signal == x then e.value else read_at v x)) → SameUnder v w → Moved from to v from' to' w
moved_one from to from' to' v w e old taken is added reads under =
    record {
      gone = e ∷ [];
      came = record { signal = e.signal; value = old } ∷ [];
      taken = taken;
      added = added;
      forth = λ x. sym (reads x);
      back = λ x. ap (λ q. if e.signal == x then q else read_at w x) is ∙ back_of e v w reads x;
      named = λ x. refl;
      under = under;
    }

pub moved_both : (a b a' b' a'' b'' : List Overwritten) (u v w : Signals) → Moved a b u a' b' v → Moved a' b' v a'' b'' w → Moved a b u a'' b'' w
moved_both a b a' b' a'' b'' u v w m n =
    record {
      gone = n.gone ++ m.gone;
      came = m.came ++ n.came;
      taken = m.taken ∙ ap (λ l. l ++ m.gone) n.taken ∙ append_assoc a'' n.gone m.gone;
      added = n.added ∙ ap (λ l. l ++ n.came) m.added ∙ append_assoc b m.came n.came;
      forth = undoes_both n.gone m.gone u v w m.forth n.forth;
      back = undoes_both m.came n.came w v u n.back m.back;
      named = λ x. names_append m.came n.came x ∙ ap₂ (λ s t. s || t) (m.named x) (n.named x) ∙ or_swap (names m.gone x) (names n.gone x) ∙ sym (names_append n.gone m.gone x);
      under = under_both u v w m.under n.under;
    }
  where
    or_swap : (s t : Bool) → (s || t) ≡ (t || s)
    or_swap true true = refl
    or_swap true false = refl
    or_swap false true = refl
    or_swap false false = refl

-- one entry more
pub kept_fits : (v w : Signals) (ts ts' : List Overwritten) (s : ℕ) (q : Partly) → ts' ≡ ts ++ record { signal = s; value = q } ∷ [] → s < length v.kept → HasShape (shape_at v s) q → SameUnder v w → All (Fits v) ts → All (Fits w) ts'
kept_fits v w ts ts' s q added inside shape u h =
    subst (All (Fits w)) (sym added) (all_under v w (ts ++ record { signal = s; value = q } ∷ []) u (All-push (Fits v) ts (record { signal = s; value = q }) h (record { inside = inside; shape = shape })))
