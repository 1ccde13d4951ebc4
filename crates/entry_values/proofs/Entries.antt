-- What a clean block reads of its trigger and of what is early is what is shown of it.
use Rattle.std.proofs.Common.{◌≡◌, ℕ, ◌==◌, Bool, true, false, if◌then◌else◌, List, map, get_or, Option, Some, None, refl, sym, ap, ap₂, ◌∙◌, eq-eqb}
use Rattle.std.specs.Prelude.{◌&&◌, nat_lt}
use Rattle.std.proofs.lemmas.Bool.{and_from}
use Rattle.event_machine.specs.Cell.{Cell}
use Rattle.four_state.specs.Vector.{Vector}
use Rattle.four_state.specs.declared.bit.Bit.{Bit}
use Rattle.known_state.specs.Join.{join_bit, joined}
use Rattle.code_values.specs.Values.{Values}
use Rattle.run_views.specs.body_replay.KnownBits.{KnownBits}
use Rattle.run_views.specs.design_model.Design.{Design, cell, signal_at, signal_bits}
use Rattle.step_values.specs.Dumped.{dumped_of}
use Rattle.step_values.specs.Loose.{has_code}
use Rattle.step_values.specs.replay_model.Step.{Closing, dumped, entry}
use Rattle.step_values.proofs.Dumps.{said, value_bits}
use Rattle.entry_values.specs.Entry.{IsEntryOf, common_bits, early_bits}
use Rattle.entry_values.proofs.Bits.{common_at, join_none, sure_at, unsaid}

-- a bit of what may be read
abbrev pub bit_of : Option KnownBits → ℕ → Option Bit
bit_of None k = None
bit_of (Some ps) k = get_or ps k None

module _ (st : Closing) (p trigger : ℕ) (early : List ℕ) (codes : List (Option ℕ)) (values : Values) (is : IsEntryOf st p trigger early codes values) where
  abbrev d : Design
  d = st.design

  abbrev width : ℕ → ℕ
  width s = (signal_at d s).width

  -- what the dump says of a bit
  dumped_at : (s k : ℕ) → has_code codes s ≡ true → (b : Bool) → nat_lt k (width s) ≡ b → dumped st (cell s k) ≡ (if b then Some (st.new (cell s k)) else None)
  dumped_at s k coded b e =
      ap (λ t. if t && nat_lt k (width s) then Some (st.new (cell s k)) else None) (is.bound s ∙ coded)
      ∙ ap (λ t. if t then Some (st.new (cell s k)) else None) e

  undumped_at : (s k : ℕ) → has_code codes s ≡ false → dumped st (cell s k) ≡ None
  undumped_at s k free = ap (λ t. if t && nat_lt k (width s) then Some (st.new (cell s k)) else None) (is.bound s ∙ free)

  known_at : (s k : ℕ) → has_code codes s ≡ true → nat_lt k (width s) ≡ true → st.start.kept (cell s k) ≡ Some (is.old (cell s k))
  known_at s k coded e = is.known (cell s k) (and_from (st.bound s) (nat_lt k (width s)) (is.bound s ∙ coded) e)

  pub trigger_at : (v : Vector) → dumped_of codes values.last trigger ≡ Some v → (k : ℕ) → get_or (map Some v.bits) k None ≡ entry st trigger (cell trigger k)
  trigger_at v e k =
      ap (λ ps. get_or (map Some ps) k None) (value_bits d codes values.last st.new trigger v is.after is.coded e)
      ∙ sure_at d trigger st.new k (nat_lt k (width trigger)) refl
      ∙ sym (dumped_at trigger k is.coded (nat_lt k (width trigger)) refl)
      ∙ sym (ap (λ t. if t then dumped st (cell trigger k) else (if (signal_at d trigger).input then join_bit (st.start.kept (cell trigger k)) (dumped st (cell trigger k)) else None)) (eq-eqb trigger trigger refl))

  module _ (x k : ℕ) where
    abbrev c : Cell
    c = cell x k

    both_at : (b : Bool) → nat_lt k (width x) ≡ b → has_code codes x ≡ true → get_or (joined (map Some (signal_bits d is.old x)) (map Some (signal_bits d st.new x))) k None ≡ join_bit (st.start.kept c) (dumped st c)
    both_at true e coded = common_at d x is.old st.new k true e ∙ sym (ap₂ join_bit (known_at x k coded e) (dumped_at x k coded true e))
    both_at false e coded = common_at d x is.old st.new k false e ∙ sym (ap (join_bit (st.start.kept c)) (dumped_at x k coded false e) ∙ join_none (st.start.kept c))

    coded_at : (h : Bool) → has_code codes x ≡ h → bit_of (common_bits (dumped_of codes values.closed x) (dumped_of codes values.last x)) k ≡ join_bit (st.start.kept c) (dumped st c)
    coded_at true coded =
        let a = said d codes values.closed is.old x is.before coded in
        let b = said d codes values.last st.new x is.after coded in
        ap₂ (λ o q. bit_of (common_bits o q) k) a.is b.is ∙ ap₂ (λ ps qs. get_or (joined (map Some ps) (map Some qs)) k None) a.bits b.bits ∙ both_at (nat_lt k (width x)) refl coded
    coded_at false free =
        ap (λ o. bit_of (common_bits o (dumped_of codes values.last x)) k) (unsaid codes values.closed x free)
        ∙ sym (ap (join_bit (st.start.kept c)) (undumped_at x k free) ∙ join_none (st.start.kept c))

    input_at : (i : Bool) → bit_of (if i then common_bits (dumped_of codes values.closed x) (dumped_of codes values.last x) else None) k ≡ (if i then join_bit (st.start.kept c) (dumped st c) else None)
    input_at true = coded_at (has_code codes x) refl
    input_at false = refl

    pub early_at : (x == trigger) ≡ false → bit_of (early_bits d codes values x) k ≡ entry st trigger c
    early_at apart =
        input_at (signal_at d x).input
        ∙ sym (ap (λ t. if t then dumped st c else (if (signal_at d x).input then join_bit (st.start.kept c) (dumped st c) else None)) apart)
