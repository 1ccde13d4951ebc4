-- The first and the next times of the stretch that is on, and that nothing is shown between stretches.
use Rattle.std.proofs.Common.{◌≡◌, ⊎_elim, ℕ, ◌<◌, ◌≤◌, true, false, List, [], ◌∷◌, ◌++◌, length, map, Option, None, Some, refl, sym, ap, subst, ◌∙◌, inl, inr, arith, append_assoc, append-nil}
use Rattle.std.proofs.lemmas.Bool.{cases_Bool}
use Rattle.std.proofs.lemmas.List.{map-append}
use Rattle.design_model.specs.Design.{In}
use Rattle.design_model.specs.Shows.{AreBeforeAll, AreRising, InSome, IsFirstOf, IsListed, IsShown, IsShownOf, IsWindow, IsWindowOf, last_time as last_of}
use Rattle.vcd_reader.specs.Dump.{steps_of, stretches_of, times_of}
use Rattle.vcd_reader.specs.Order.{is_on}
use Rattle.vcd_reader.specs.Times.{Rises, last_time}
use Rattle.vcd_reader.specs.declared.entry.Entry.{Entry}
use Rattle.vcd_reader.specs.declared.entry.Entry.TheVariants.{Off, Time}
use Rattle.shown_dumps.specs.Laws.{IsFirstTime, IsNextTime, dump_with}
use Rattle.shown_dumps.specs.Said.{EndsIn, end_from, end_of, ended_at, ended_stretches, open_stretch, times_in}
use Rattle.shown_dumps.specs.Shown.{dump_of}
use Rattle.shown_dumps.proofs.Order.{InOrder, end_among, shown_before_end, some_apart, some_cases, some_cons, steps_order, stretch_times}
use Rattle.shown_dumps.proofs.Split.{ended_again, ended_off, on_of_last, on_of_times, open_going, split_off, split_on}
use Rattle.shown_dumps.proofs.Stretches.{back_last, back_steps, front_first, front_steps, here_rises, here_times, ordered, own_steps, some_here_of, time_parts}
use Rattle.shown_dumps.proofs.Times.{between_window, in_middle, in_window, last_front, last_later, none_between, tail_rises, times_are}

-- the first ones of stretches in order are in order
order_front : (front back : List (List ℕ)) → InOrder (front ++ back) → InOrder front
order_front [] back o = tt
order_front (ts ∷ front) back o = (o.0, before_front front o.1, order_front front back o.2)
  where
    before_front : (tss : List (List ℕ)) → AreBeforeAll ts (tss ++ back) → AreBeforeAll ts tss
    before_front [] b = tt
    before_front (us ∷ tss) b = (b.0, before_front tss b.1)

-- a time of one stretch that is shown is not before its first
shown_from : (ts : List ℕ) (t : ℕ) → IsShownOf ts t → (f : ℕ) × In f ts × (f ≤ t)
shown_from [] t shown = absurd shown
shown_from (u ∷ us) t shown = (u, inl refl, shown.0)

-- where a time is shown by some of these, a time of them is not after it
some_shown_from : (tss : List (List ℕ)) (t : ℕ) → InSome (λ ts. IsShownOf ts t) tss → (f : ℕ) × InSome (In f) tss × (f ≤ t)
some_shown_from [] t h = absurd h
some_shown_from (ts ∷ tss) t h =
    ⊎_elim (λ own. let f = shown_from ts t own in (f.0, some_cons (In f.0) ts tss (inl f.1), f.2))
    (λ rest. let f = some_shown_from tss t rest in (f.0, some_cons (In f.0) ts tss (inr f.1), f.2)) (some_cases (λ us. IsShownOf us t) ts tss h)

-- ---- where a time is said next

module _ (codes : List (Option ℕ)) (entries more : List Entry) (next : ℕ) (on : is_on entries ≡ true) (rises : Rises None (entries ++ Time next ∷ more)) where
  abbrev fronts : List (List ℕ)
  fronts = map times_of (front_steps entries more next on rises)

  abbrev backs : List (List ℕ)
  backs = map times_of (back_steps entries more next on rises)

  abbrev own : List ℕ
  own = times_of (own_steps entries more next on rises)

  -- the stretches before end at or before each time of this one
  ends_before : (t : ℕ) → In t own → ended_at entries ≤ t
  ends_before t h =
      let times : map times_in (ended_stretches entries) ≡ fronts = sym (stretch_times (ended_stretches entries)) in
      let end : ended_at entries ≡ end_from 0 fronts = ap (end_from 0) times in
      ⊎_elim (λ none. omega (arith, end, none))
      (λ some. let less = front_first entries more next on rises (end_from 0 fronts) t some h in omega (arith, end, less)) (end_among 0 fronts)

  -- from there up to its first time nothing is shown
  none_shown : (first : ℕ) (times : List ℕ) → own ≡ first ∷ times → (t : ℕ) → ended_at entries ≤ t → t < first → IsShown (dump_with codes entries next more) t → ⊥
  none_shown first times e t from until shown =
      let shows = λ (ts : List ℕ). IsShownOf ts t in
      let first_in : In first own = subst (In first) (sym e) (inl refl) in
      let end : ended_at entries ≡ end_from 0 fronts = ap (end_from 0) (sym (stretch_times (ended_stretches entries))) in
      ⊎_elim
      (λ earlier. let less = shown_before_end 0 t fronts (order_front fronts (own ∷ backs) (ordered entries more next on rises)) earlier in omega (arith, less, end, from))
      (λ others. ⊎_elim (λ here. let late = (subst (λ ts. IsShownOf ts t) e here).0 in omega (arith, late, until))
      (λ later. let f = some_shown_from backs t later in let after = back_last entries more next on rises first f.0 first_in f.1 in let at = f.2 in omega (arith, after, at, until))
      (some_cases shows own backs others))
      (some_apart shows fronts (own ∷ backs) (subst (InSome shows) (time_parts entries more next on rises) shown))

  -- no time is listed between neighbours
  none_listed : (front : List ℕ) (p t : ℕ) (back : List ℕ) → own ≡ front ++ p ∷ t ∷ back → (u : ℕ) → p < u → u < t → IsListed (dump_with codes entries next more) u → ⊥
  none_listed front p t back e u above below listed =
      let p_in : In p own = subst (In p) (sym e) (in_middle front p (t ∷ back)) in
      let t_in : In t own = subst (In t) (sym e) (subst (In t) (append_assoc front (p ∷ []) (t ∷ back)) (in_middle (front ++ p ∷ []) t back)) in
      ⊎_elim (λ earlier. let less = front_first entries more next on rises u p earlier p_in in omega (arith, less, above))
      (λ others. ⊎_elim (λ here. none_between front p t back (subst AreRising e (here_rises entries more next on rises)) u above below (subst (In u) e here))
      (λ later. let less = back_last entries more next on rises t u t_in later in omega (arith, less, below)) (some_cases (In u) own backs others))
      (some_apart (In u) fronts (own ∷ backs) (subst (InSome (In u)) (time_parts entries more next on rises) listed))

-- the only time of the stretch that is on
pub first_time : (codes : List (Option ℕ)) (entries more : List Entry) (first next : ℕ) → Rises None (entries ++ Time next ∷ more) → times_in (open_stretch entries) ≡ first ∷ []
    → IsFirstTime (dump_with codes entries next more) (ended_at entries) first
first_time codes entries more first next rises one =
    let on = on_of_times entries first [] one in
    let times : times_of (own_steps entries more next on rises) ≡ first ∷ next ∷ times_in more = here_times entries more next on rises ∙ ap (λ ts. ts ++ next ∷ times_in more) one in
    let up : AreRising (first ∷ next ∷ times_in more) = subst AreRising times (here_rises entries more next on rises) in
    let last = last_later next (times_in more) up.1 in
    record {
      is_first = some_here_of entries more next on rises (λ ts. IsFirstOf ts first) (subst (λ ts. IsFirstOf ts first) (sym times) refl);
      shown = some_here_of entries more next on rises (λ ts. IsShownOf ts first) (subst (λ ts. IsShownOf ts first) (sym times) (omega arith, omega (arith, up.0, last)));
      later = ends_before codes entries more next on rises first (subst (In first) (sym times) (inl refl));
      none = none_shown codes entries more next on rises first (next ∷ times_in more) times;
    }

-- its last times
pub next_time : (codes : List (Option ℕ)) (entries more : List Entry) (before last next : ℕ) → Rises None (entries ++ Time next ∷ more) → EndsIn (times_in (open_stretch entries)) before last
    → IsNextTime (dump_with codes entries next more) before last
next_time codes entries more before last next rises ends =
    let on = on_of_ends (times_in (open_stretch entries)) ends.earlier ends.are refl in
    let times : times_of (own_steps entries more next on rises) ≡ ends.earlier ++ before ∷ last ∷ next ∷ times_in more =
    here_times entries more next on rises ∙ ap (λ ts. ts ++ next ∷ times_in more) ends.are ∙ append_assoc ends.earlier (before ∷ last ∷ []) (next ∷ times_in more) in
    let up : AreRising (ends.earlier ++ before ∷ last ∷ next ∷ times_in more) = subst AreRising times (here_rises entries more next on rises) in
    record {
      rises = (tail_rises ends.earlier (before ∷ last ∷ next ∷ times_in more) up).0;
      listed =
          some_here_of entries more next on rises (In last) (subst (In last) (sym times) (subst (In last) (append_assoc ends.earlier (before ∷ []) (last ∷ next ∷ times_in more)) (in_middle (ends.earlier ++ before ∷ []) last (next ∷ times_in more))));
      none = none_listed codes entries more next on rises ends.earlier before last (next ∷ times_in more) times;
      in_window = some_here_of entries more next on rises (λ ts. IsWindowOf ts last) (subst (λ ts. IsWindowOf ts last) (sym times) (in_window ends.earlier before last next (times_in more) up));
    }
  where
    on_of_ends : (times earlier : List ℕ) → times ≡ earlier ++ before ∷ last ∷ [] → times_in (open_stretch entries) ≡ times → is_on entries ≡ true
    on_of_ends times [] e f = on_of_times entries before (last ∷ []) (f ∙ e)
    on_of_ends times (t ∷ ts) e f = on_of_times entries t (ts ++ before ∷ last ∷ []) (f ∙ e)

-- the times between its last one and the next
pub rest_time : (codes : List (Option ℕ)) (entries more : List Entry) (last next t : ℕ) → Rises None (entries ++ Time next ∷ more) → last_time None (open_stretch entries) ≡ Some last → last < t → t < next
    → IsWindow (dump_with codes entries next more) t × (IsListed (dump_with codes entries next more) t → ⊥)
rest_time codes entries more last next t rises is_last above below =
    let on = on_of_last entries last is_last in
    let front = last_front (open_stretch entries) last (open_going entries) is_last in
    let times : times_of (own_steps entries more next on rises) ≡ front.0 ++ last ∷ next ∷ times_in more =
    here_times entries more next on rises ∙ ap (λ ts. ts ++ next ∷ times_in more) front.1 ∙ append_assoc front.0 (last ∷ []) (next ∷ times_in more) in
    let up : AreRising (front.0 ++ last ∷ next ∷ times_in more) = subst AreRising times (here_rises entries more next on rises) in (
      some_here_of entries more next on rises (λ ts. IsWindowOf ts t) (subst (λ ts. IsWindowOf ts t) (sym times) (between_window front.0 last next (times_in more) up t above below)),
      none_listed codes entries more next on rises front.0 last next (times_in more) times t above below,
    )

-- ---- where stretches end

end_append : (end : ℕ) (tss : List (List ℕ)) (ts : List ℕ) → end_from end (tss ++ ts ∷ []) ≡ end_of (end_from end tss) ts
end_append end [] ts = refl
end_append end (us ∷ tss) ts = end_append (end_of end us) tss ts

last_end : (t : ℕ) (ts : List ℕ) (before last : ℕ) → last_of t (ts ++ before ∷ last ∷ []) ≡ last
last_end t [] before last = refl
last_end t (u ∷ us) before last = last_end u us before last

end_is : (end : ℕ) (earlier : List ℕ) (before last : ℕ) → end_of end (earlier ++ before ∷ last ∷ []) ≡ last
end_is end [] before last = refl
end_is end (t ∷ []) before last = refl
end_is end (t ∷ u ∷ us) before last = last_end u us before last

-- a stretch with two times that ends is the last that has ended with two
pub end_two : (entries : List Entry) (before last : ℕ) → EndsIn (times_in (open_stretch entries)) before last → ended_at (entries ++ Off ∷ []) ≡ last
end_two entries before last ends =
    ap (end_from 0) (ended_off entries (on_of_ends ends.earlier ends.are)) ∙ end_append 0 (map times_in (ended_stretches entries)) (times_in (open_stretch entries))
    ∙ ap (end_of (ended_at entries)) ends.are ∙ end_is (ended_at entries) ends.earlier before last
  where
    on_of_ends : (earlier : List ℕ) → times_in (open_stretch entries) ≡ earlier ++ before ∷ last ∷ [] → is_on entries ≡ true
    on_of_ends [] e = on_of_times entries before (last ∷ []) e
    on_of_ends (t ∷ ts) e = on_of_times entries t (ts ++ before ∷ last ∷ []) e

short_end : (end : ℕ) (ts : List ℕ) → length ts ≤ 1 → end_of end ts ≡ end
short_end end [] l = refl
short_end end (t ∷ []) l = refl
short_end end (t ∷ u ∷ us) l = absurd (omega (arith, l))

-- one with fewer changes nothing
pub end_short : (entries : List Entry) → length (times_in (open_stretch entries)) ≤ 1 → ended_at (entries ++ Off ∷ []) ≡ ended_at entries
end_short entries l =
    ⊎_elim
    (λ on. ap (end_from 0) (ended_off entries on) ∙ end_append 0 (map times_in (ended_stretches entries)) (times_in (open_stretch entries)) ∙ short_end (ended_at entries) (times_in (open_stretch entries)) l)
    (λ off. ap (end_from 0) (ended_again entries Off off refl)) (cases_Bool (is_on entries))

short_shown : (ts : List ℕ) (t : ℕ) → length ts ≤ 1 → IsShownOf ts t → ⊥
short_shown [] t l shown = shown
short_shown (u ∷ []) t l shown = omega (arith, shown.0, shown.1)
short_shown (u ∷ v ∷ vs) t l shown = omega (arith, l)

-- at the end all that is shown is before the end of the last stretch with two times that has ended, where the one that is on has fewer
pub past_end : (codes : List (Option ℕ)) (entries : List Entry) (t : ℕ) → Rises None entries → length (times_in (open_stretch entries)) ≤ 1 → IsShown (dump_of codes (stretches_of entries)) t → t < ended_at entries
past_end codes entries t rises short shown = ⊎_elim where_on where_off (cases_Bool (is_on entries))
  where
    again : InSome (λ ts. IsShownOf ts t) (map times_of (stretches_of (entries ++ [])))
    again = subst (λ es. InSome (λ ts. IsShownOf ts t) (map times_of (stretches_of es))) (sym (append-nil entries)) shown

    order : InOrder (map times_of (stretches_of (entries ++ [])))
    order = subst (λ es. InOrder (map times_of (stretches_of es))) (sym (append-nil entries)) (steps_order entries rises)

    where_on : is_on entries ≡ true → t < ended_at entries
    where_on on =
        let now = open_stretch entries ++ [] in
        let times : map times_of (stretches_of (entries ++ [])) ≡ map times_in (ended_stretches entries) ++ times_in now ∷ [] =
        ap (map times_of) (split_on entries [] on) ∙ map-append times_of (map steps_of (ended_stretches entries)) (steps_of now ∷ [])
        ∙ ap (λ tss. tss ++ times_of (steps_of now) ∷ []) (stretch_times (ended_stretches entries)) ∙ ap (λ ts. map times_in (ended_stretches entries) ++ ts ∷ []) (times_are now) in
        ⊎_elim (λ earlier. shown_before_end 0 t (map times_in (ended_stretches entries)) (order_front (map times_in (ended_stretches entries)) (times_in now ∷ []) (subst InOrder times order)) earlier)
        (λ here. absurd (short_shown (times_in now) t (subst (λ s. length (times_in s) ≤ 1) (sym (append-nil (open_stretch entries))) short) here))
        (some_apart (λ ts. IsShownOf ts t) (map times_in (ended_stretches entries)) (times_in now ∷ []) (subst (InSome (λ ts. IsShownOf ts t)) times again))

    where_off : is_on entries ≡ false → t < ended_at entries
    where_off off =
        let times : map times_of (stretches_of (entries ++ [])) ≡ map times_in (ended_stretches entries) =
        ap (map times_of) (split_off entries [] off ∙ append-nil (map steps_of (ended_stretches entries))) ∙ stretch_times (ended_stretches entries) in
        shown_before_end 0 t (map times_in (ended_stretches entries)) (subst InOrder times order) (subst (InSome (λ ts. IsShownOf ts t)) times again)
