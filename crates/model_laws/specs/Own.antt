-- Signals that an Assign both drives and mentions: when it has a wake bit of them, and what holds where it has no wake bit of them.
use Rattle.std.specs.Prelude.{◌≡◌, ◌≢◌, ◌⊎◌, ◌∷◌, ◌<◌, ℕ, true, false, [], length, codes}
use Rattle.std.specs.List.{list_any}
use Rattle.design_model.specs.event_machine.Cell.{Cell, Values}
use Rattle.design_model.specs.four_state.declared.bit.Bit.{Bit}
use Rattle.design_model.specs.four_state.declared.bit.Bit.TheVariants.{X, Zero}
use Rattle.design_model.specs.Tree.{Term, all_of, assign, bit, signal}
use Rattle.design_model.specs.Design.{Design, body_at, cell, is_assign, process_at}
use Rattle.design_model.specs.Value.{value}
use Rattle.design_model.specs.Mentions.{body_assigns, body_mentions, body_terms}
use Rattle.design_model.specs.Execution.{execution}
use Rattle.design_model.specs.BodyLaws.{DrivesAndMentions, is_unknown_select}
use Rattle.design_model.specs.Open.{IsWakeBit}
use Rattle.design_model.specs.Lawful.{IsLawfulDesign}
use Rattle.design_model.specs.ExampleParts.{bit_number, one_instance, wide}

-- Own wake bits: of a signal that an Assign both drives and mentions it has a wake bit.
abbrev pub HasOwnWakes : Design → Type 0
HasOwnWakes d =
    (p y : ℕ) → is_assign (process_at d p) ≡ true → body_mentions y (body_at d p) ≡ true → body_assigns y (body_at d p) ≡ true → (k : ℕ) × IsWakeBit d p (cell y k)

-- no Assign selects a signal that it drives by a constant index with an x or z
abbrev pub HasKnownSelects : Design → Type 0
HasKnownSelects d = (p y : ℕ) → DrivesAndMentions d p y → list_any (is_unknown_select d y) (body_terms (body_at d p)) ≡ false

-- Own-wake law: where none does, each Assign has these wake bits.
abbrev pub OwnWakesLaw : Design → Type 0
OwnWakesLaw d = HasKnownSelects d → HasOwnWakes d

-- what process p visits does not depend on signal y
abbrev pub IsIgnored : Design → ℕ → ℕ → Type 0
IsIgnored d p y = (u v : Values Bit) → ((c : Cell) → c.thing ≢ y → u c ≡ v c) → (execution d (body_at d p) u).visits ≡ (execution d (body_at d p) v).visits

-- Own wake bits or none that matter: of a signal that an Assign mentions it has a wake bit, or what it visits does not depend on the signal.
abbrev pub WakeOrIgnoredLaw : Design → Type 0
WakeOrIgnoredLaw d =
    (p y : ℕ) → is_assign (process_at d p) ≡ true → body_mentions y (body_at d p) ≡ true → y < length d.signals → ((k : ℕ) × IsWakeBit d p (cell y k)) ⊎ IsIgnored d p y

-- y[1'bx], where y is signal 0 with the range [1:0]
abbrev pub no_bit : Term
no_bit = bit wide (signal wide 0) (bit_number X)

-- wire [1:0] y; assign y = y[1'bx];
abbrev pub picking : Design
picking =
    record {
      top = codes "picking";
      instances = one_instance (codes "picking");
      signals = record { instance = 0; name = codes "y"; high = 1; low = 0; ranged = true; width = 2; signed = false; input = false } ∷ [];
      memories = [];
      processes = assign 0 (all_of 0) no_bit true ∷ [];
      constants = [];
      aliases = [];
    }

-- The select takes no bit, whatever y is, so the Assign may drive each bit of y and still mention it: the design is lawful, and has no own wake bit.
pub record IsPickingExample : Type 0 where
  pub lawful : IsLawfulDesign picking
  pub is_assign : is_assign (process_at picking 0) ≡ true
  pub mentions : body_mentions 0 (body_at picking 0) ≡ true
  pub assigns : body_assigns 0 (body_at picking 0) ≡ true
  pub same_value : (v : Values Bit) → value picking v no_bit ≡ X ∷ Zero ∷ []
  pub no_wake_bit : (k : ℕ) → IsWakeBit picking 0 (cell 0 k) → ⊥
  pub no_own_wakes : HasOwnWakes picking → ⊥
