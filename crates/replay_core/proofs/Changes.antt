-- A value is given to a code.
use Rattle.std.proofs.Common.{◌≡◌, ◌≢◌, ◌⊎◌, ◌∙◌, ℕ, ◌≤◌, false, List, length, Option, Some, None, inl, inr, sym, ap, subst, arith}
use Rattle.std.specs.Prelude.{is_none, nat_eq, nat_lt, slice_index_or, slice_set}
use Rattle.std.proofs.lemmas.Bool.{both_ways, cases_Bool, eqb-true}
use Rattle.std.proofs.lemmas.Bool.Decides.{nat_tests}
use Rattle.std.proofs.lemmas.Grind.{get_or-set_at}
use Rattle.std.proofs.lemmas.List.{get_or-set_other, length-set, set_past}
use Rattle.four_state.specs.Parts.{extended_vector}
use Rattle.four_state.specs.Vector.{Vector}
use Rattle.four_state.specs.declared.bit.Bit.{Bit}
use Rattle.first_step.proofs.term_replay.Standing.{extend_own}
use Rattle.code_values.specs.Values.{Values, lacks_code, value_of}
use Rattle.cover_points.specs.declared.listing.Points.{Points}
use Rattle.design_model.specs.Design.{Design, signal_at}
use Rattle.first_step.specs.step_changes.Changes.{AreUnsigned}
use Rattle.replay_core.specs.Fits.{AreWideValues, FitsReplay, HaveValues}
use Rattle.replay_core.specs.Parts.{without_sign}
use Rattle.replay_core.specs.declared.fault.Phase.{Phase}
use Rattle.replay_core.specs.declared.room.ReplayRoom.{ReplayRoom}
use Rattle.replay_core.specs.declared.state.ReplayState.{ReplayState}
use Rattle.replay_core.specs.declared.tables.ReplayTables.{ReplayTables}

abbrev plain : List Bit → Vector
plain bits = record { bits = bits; signed = false }

-- a vector at its own width without a sign
pub unsigned_is : (v : Vector) (n : ℕ) → n ≡ length v.bits → extended_vector n false v ≡ without_sign v
unsigned_is v n e = ap (λ k. extended_vector k false v) e ∙ ap plain (extend_own v.signed v.bits)

-- what a code has after that: the value, or what it had
set_value : (values : List (Option Vector)) (code : ℕ) (v : Vector) (n : ℕ) → ((n ≡ code) × (value_of (slice_set values code (Some v)) n ≡ Some v)) ⊎ (value_of (slice_set values code (Some v)) n ≡ value_of values n)
set_value values code v n = elim (cases_Bool (nat_eq n code)) [
  | inl e ↦
      let same = eqb-true n code e in
      elim (cases_Bool (nat_lt code (length values))) [
        | inl l ↦ inl (same, get_or-set_at values code n (Some v) None same (grind (arith, nat_tests, l)))
        | inr l ↦ let past : length values ≤ code = grind (arith, nat_tests, l) in inr (ap (λ vs. value_of vs n) (set_past values code (Some v) past))
      ]
  | inr e ↦ let other : n ≢ code = λ same. both_ways _ e (grind (arith, nat_tests, same)) in inr (get_or-set_other values code n (Some v) None other)
]

module _ (d : Design) (codes : List (Option ℕ)) (values : List (Option Vector)) (code : ℕ) (v : Vector) where
  abbrev after : List (Option Vector)
  after = slice_set values code (Some v)

  wide_after : ((s : ℕ) → slice_index_or codes s None ≡ Some code → length v.bits ≡ (signal_at d s).width) → AreWideValues d codes values → AreWideValues d codes after
  wide_after width wide s n u coded is = elim (set_value values code v n) [
    | inl (same, given) ↦
        let at : slice_index_or codes s None ≡ Some code = coded ∙ ap Some same in
        let one : v ≡ u = (let e = sym given ∙ is in cc) in
        subst (λ (w : Vector). length w.bits ≡ (signal_at d s).width) one (width s at)
    | inr other ↦ wide s n u coded (sym other ∙ is)
  ]

  unsigned_after : v.signed ≡ false → AreUnsigned values → AreUnsigned after
  unsigned_after none unsigned n u is = elim (set_value values code v n) [
    | inl (same, given) ↦
        let one : v ≡ u = (let e = sym given ∙ is in cc) in
        subst (λ (w : Vector). w.signed ≡ false) one none
    | inr other ↦ unsigned n u (sym other ∙ is)
  ]

  lacks_after : (o : Option ℕ) → lacks_code values o ≡ false → lacks_code after o ≡ false
  lacks_after None have = have
  lacks_after (Some n) have = elim (set_value values code v n) [
    | inl (same, given) ↦ ap is_none given
    | inr other ↦ ap is_none other ∙ have
  ]

pub given_ready : (d : Design) (points : Points) (x : ReplayTables) (r : ReplayRoom) (s : ReplayState) (phase : Phase) (code : ℕ) (v : Vector) (values : Values) → FitsReplay d points x r s phase → values.last ≡ slice_set s.values.last code (Some v) → values.closed ≡ s.values.closed → v.signed ≡ false
    → ((y : ℕ) → slice_index_or x.step.codes.items y None ≡ Some code → length v.bits ≡ (signal_at d y).width) → FitsReplay d points x r (record s { values = values }) phase
given_ready d points x r s phase code v values fits is closed none width =
    let codes = x.step.codes.items in
    let last = s.values.last in
    let state = fits.parts.state in
    record {
      replayable = fits.replayable;
      parts = record {
        tables = fits.parts.tables;
        room = fits.parts.room;
        state = record {
          kept = state.kept;
          known = state.known;
          acted = state.acted;
          seen = state.seen;
          machines = state.machines;
          few_machines = state.few_machines;
          noted = state.noted;
          marks = state.marks;
          rows = state.rows ∙ sym (ap length is ∙ length-set last code (Some v));
          wide = subst (AreWideValues d codes) (sym is) (wide_after d codes last code v width state.wide);
          wide_closed = subst (AreWideValues d codes) (sym closed) state.wide_closed;
          unsigned = subst AreUnsigned (sym is) (unsigned_after d codes last code v none state.unsigned);
        };
        words = fits.parts.words;
      };
      none = fits.none;
      none_clocked = fits.none_clocked;
      forgotten = λ off. let u = fits.forgotten off in record { knows = u.knows; words = u.words; told = u.told };
      begun = λ started. subst (HaveValues codes) (sym is) (λ y. lacks_after d codes last code v (slice_index_or codes y None) (fits.begun started y));
      closed = λ started. subst (HaveValues codes) (sym closed) (fits.closed started);
      refused = fits.refused;
    }
