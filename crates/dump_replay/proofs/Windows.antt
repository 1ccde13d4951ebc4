-- The windows of the stretches of a dump.
use Rattle.std.proofs.Common.{◌≡◌, ◌≢◌, ◌⊎◌, ⊎_elim, ℕ, ◌+◌, ◌<◌, ◌≤◌, true, false, List, [], ◌∷◌, ◌++◌, length, map, Option, None, Some, refl, sym, ap, subst, ◌∙◌, arith, append-nil, append_assoc, length-append}
use Rattle.std.specs.Prelude.{nat_lt}
use Rattle.std.specs.Option.{option_to_list}
use Rattle.std.proofs.lemmas.Bool.{cases_Bool, false≢true}
use Rattle.std.proofs.lemmas.Bool.Decides.{nat_tests}
use Rattle.std.proofs.lemmas.List.{length-map, map-append}
use Rattle.coverage_db.specs.declared.window.Window.{Window}
use Rattle.design_model.specs.Shows.{AreRising, last_time as last_of}
use Rattle.score_tables.proofs.Windows.{few_windows}
use Rattle.score_tables.specs.Windows.{window_of, windows_of}
use Rattle.shown_dumps.specs.Said.{ended_stretches, has_ended, open_stretch, times_in}
use Rattle.vcd_reader.specs.Dump.{HasFewStretches, later_stretches, steps_of, stretches_of, times_of}
use Rattle.vcd_reader.specs.Order.{is_on}
use Rattle.vcd_reader.specs.Times.{Rises, last_time}
use Rattle.vcd_reader.specs.declared.entry.Entry.{Entry}
use Rattle.vcd_reader.specs.declared.entry.Entry.TheVariants.{Off, On, Time, Value}
use Rattle.shown_dumps.proofs.Order.{stretch_times}
use Rattle.shown_dumps.proofs.Split.{open_going, open_none, split_off, split_on}
use Rattle.shown_dumps.proofs.Times.{times_are, times_rise}
use Rattle.shown_dumps.proofs.Values.{rises_open}
use Rattle.dump_replay.specs.Windows.{first_of, span_of}

-- a time more does not change the first
pub first_kept : (ts : List ℕ) (t : ℕ) → ts ≢ [] → first_of (ts ++ t ∷ []) ≡ first_of ts
first_kept [] t some = absurd (some refl)
first_kept (u ∷ us) t some = refl

no_last : (entries : List Entry) → has_ended entries ≡ false → times_in entries ≡ [] → last_time None entries ≡ None
no_last [] going e = refl
no_last (Time time ∷ entries) going e = absurd cc
no_last (Value code value ∷ entries) going e = no_last entries going e
no_last (Off ∷ entries) going e = absurd (false≢true (sym going))
no_last (On time ∷ entries) going e = absurd (false≢true (sym going))

pub some_times : (entries : List Entry) (last : ℕ) → last_time None (open_stretch entries) ≡ Some last → times_in (open_stretch entries) ≢ []
some_times entries last e none = let bad : ◌≡◌ {A = Option ℕ} (Some last) None = sym e ∙ no_last (open_stretch entries) (open_going entries) none in cc

-- the last of these times
last_in : List ℕ → Option ℕ
last_in [] = None
last_in (t ∷ ts) = Some (last_of t ts)

last_after : (t : ℕ) (entries : List Entry) → has_ended entries ≡ false → last_time (Some t) entries ≡ Some (last_of t (times_in entries))
last_after t [] going = refl
last_after t (Time time ∷ entries) going = last_after time entries going
last_after t (Value code value ∷ entries) going = last_after t entries going
last_after t (Off ∷ entries) going = absurd (false≢true (sym going))
last_after t (On time ∷ entries) going = absurd (false≢true (sym going))

last_is : (entries : List Entry) → has_ended entries ≡ false → last_time None entries ≡ last_in (times_in entries)
unfolding last_in
last_is [] going = refl
last_is (Time time ∷ entries) going = last_after time entries going
last_is (Value code value ∷ entries) going = last_is entries going
last_is (Off ∷ entries) going = absurd (false≢true (sym going))
last_is (On time ∷ entries) going = absurd (false≢true (sym going))

last_beyond : (t : ℕ) (ts : List ℕ) → AreRising (t ∷ ts) → t ≤ last_of t ts
last_beyond t [] up = omega arith
last_beyond t (u ∷ us) up = omega (arith, up.0, last_beyond u us up.1)

spanned : (ts : List ℕ) → AreRising ts → option_to_list (span_of (first_of ts) (last_in ts)) ≡ window_of ts
unfolding last_in
spanned [] up = refl
spanned (t ∷ []) up = let none : nat_lt t t ≡ false = grind (arith, nat_tests) in rw none refl
spanned (t ∷ u ∷ us) up =
    let later = last_beyond u us up.1 in
    let before : t < last_of u us = omega (arith, up.0, later) in
    let is : nat_lt t (last_of u us) ≡ true = grind (arith, nat_tests, before) in
    rw is refl

windows_append : (tss uss : List (List ℕ)) → windows_of (tss ++ uss) ≡ windows_of tss ++ windows_of uss
windows_append [] uss = refl
windows_append (ts ∷ tss) uss = ap (λ ws. window_of ts ++ ws) (windows_append tss uss) ∙ sym (append_assoc (window_of ts) (windows_of tss) (windows_of uss))

-- the times of the stretch that is on rise
own_rise : (entries : List Entry) → Rises None entries → AreRising (times_in (open_stretch entries))
own_rise entries rises =
    ⊎_elim
    (λ on. times_rise (open_stretch entries) (subst (Rises None) (append-nil (open_stretch entries)) (rises_open entries [] on (subst (Rises None) (sym (append-nil entries)) rises))))
    (λ off. subst (λ es. AreRising (times_in es)) (sym (open_none entries off)) tt) (cases_Bool (is_on entries))

-- the window of the stretch that is on, beside those of the stretches that have ended
pub one_more : (entries : List Entry) (noted : List Window) (first last : Option ℕ) → Rises None entries → noted ≡ windows_of (map times_in (ended_stretches entries)) → first ≡ first_of (times_in (open_stretch entries)) → last ≡ last_time None (open_stretch entries)
    → noted ++ option_to_list (span_of first last) ≡ windows_of (map times_in (ended_stretches entries) ++ times_in (open_stretch entries) ∷ [])
one_more entries noted first last rises n p q =
    let span : option_to_list (span_of first last) ≡ window_of (times_in (open_stretch entries)) =
    ap (λ (o : Option ℕ). option_to_list (span_of o last)) p ∙ ap (λ (o : Option ℕ). option_to_list (span_of (first_of (times_in (open_stretch entries))) o)) (q ∙ last_is (open_stretch entries) (open_going entries))
    ∙ spanned (times_in (open_stretch entries)) (own_rise entries rises) in
    ap (λ ws. ws ++ option_to_list (span_of first last)) n ∙ ap (λ ws. windows_of (map times_in (ended_stretches entries)) ++ ws) (span ∙ sym (append-nil (window_of (times_in (open_stretch entries)))))
    ∙ sym (windows_append (map times_in (ended_stretches entries)) (times_in (open_stretch entries) ∷ []))

-- the stretches of what was said
stretches_on : (entries : List Entry) → is_on entries ≡ true → map times_of (stretches_of entries) ≡ map times_in (ended_stretches entries) ++ times_in (open_stretch entries) ∷ []
stretches_on entries on =
    ap (λ es. map times_of (stretches_of es)) (sym (append-nil entries)) ∙ ap (map times_of) (split_on entries [] on)
    ∙ ap (λ es. map times_of (map steps_of (ended_stretches entries) ++ steps_of es ∷ [])) (append-nil (open_stretch entries))
    ∙ map-append times_of (map steps_of (ended_stretches entries)) (steps_of (open_stretch entries) ∷ [])
    ∙ ap (λ tss. tss ++ times_of (steps_of (open_stretch entries)) ∷ []) (stretch_times (ended_stretches entries))
    ∙ ap (λ ts. map times_in (ended_stretches entries) ++ ts ∷ []) (times_are (open_stretch entries))

stretches_off : (entries : List Entry) → is_on entries ≡ false → map times_of (stretches_of entries) ≡ map times_in (ended_stretches entries)
stretches_off entries off =
    ap (λ es. map times_of (stretches_of es)) (sym (append-nil entries)) ∙ ap (map times_of) (split_off entries [] off)
    ∙ ap (map times_of) (append-nil (map steps_of (ended_stretches entries))) ∙ stretch_times (ended_stretches entries)

pub windows_are : (entries : List Entry) (noted : List Window) (first last : Option ℕ) → Rises None entries → noted ≡ windows_of (map times_in (ended_stretches entries)) → first ≡ first_of (times_in (open_stretch entries)) → last ≡ last_time None (open_stretch entries)
    → noted ++ option_to_list (span_of first last) ≡ windows_of (map times_of (stretches_of entries))
windows_are entries noted first last rises n p q =
    ⊎_elim
    (λ on. one_more entries noted first last rises n p q ∙ ap windows_of (sym (stretches_on entries on)))
    (λ off.
    let closed : first_of (times_in (open_stretch entries)) ≡ None = ap (λ es. first_of (times_in es)) (open_none entries off) in
    ap (λ (o : Option ℕ). noted ++ option_to_list (span_of o last)) (p ∙ closed) ∙ append-nil noted ∙ n ∙ ap windows_of (sym (stretches_off entries off)))
    (cases_Bool (is_on entries))

-- there is room for the window of the stretch that is on
pub windows_few : (entries : List Entry) → is_on entries ≡ true → HasFewStretches entries → length (windows_of (map times_in (ended_stretches entries))) < 1024
windows_few entries on few =
    let most : length (windows_of (map times_in (ended_stretches entries))) ≤ length (map times_in (ended_stretches entries)) = few_windows (map times_in (ended_stretches entries)) in
    let parts : length (map times_of (stretches_of entries)) ≡ length (map times_in (ended_stretches entries)) + 1 =
    ap length (stretches_on entries on) ∙ length-append (map times_in (ended_stretches entries)) (times_in (open_stretch entries) ∷ []) in
    let all : length (map times_of (stretches_of entries)) ≡ 1 + length (later_stretches entries) =
    omega (arith, length-map (stretches_of entries) times_of, length-map (later_stretches entries) steps_of) in
    omega (arith, few, most, parts, all)
