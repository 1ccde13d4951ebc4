-- The values of the codes at the two times of each step.
use Rattle.std.proofs.Common.{◌≡◌, ℕ, zero, suc, ◌+◌, ◌*◌, ◌<◌, ◌≤◌, ◌==◌, Bool, true, false, List, [], ◌∷◌, ◌++◌, map, Option, None, Some, refl, ap, ◌∙◌, arith, if◌then◌else◌}
use Rattle.std.specs.Option.{option_or}
use Rattle.std.proofs.lemmas.Bool.{eqb-true, false_from_ne_true}
use Rattle.four_state.specs.Arithmetic.{low_bits}
use Rattle.four_state.specs.Vector.{Vector, bit_of}
use Rattle.four_state.specs.declared.bit.Bit.{Bit}
use Rattle.four_state.specs.declared.bit.Bit.TheVariants.{One, Zero}
use Rattle.vcd_reader.specs.Dump.{Change, last_value, value_at}
use Rattle.selfrun_files.specs.Moments.{inputs_in, moment, registers_after}
use Rattle.selfrun_files.specs.Samples.{bit, first_values, vector}
use Rattle.selfrun_runs.proofs.Registers.{steps_counted}
use Rattle.selfrun_dump.proofs.Steps.{change_of, changes_until, high_changes, low_changes, past, past_high, past_low, steps_from}

-- an unsigned value
abbrev pub unsigned : List Bit → Vector
unsigned bits = record { bits = bits; signed = false }

or_none : (o : Option Vector) → o ≡ option_or o None
or_none None = refl
or_none (Some x) = refl

or_assoc : (a b c : Option Vector) → option_or (option_or a b) c ≡ option_or a (option_or b c)
or_assoc None b c = refl
or_assoc (Some x) b c = refl

last_append : (code : ℕ) (xs ys : List Change) → last_value code (xs ++ ys) ≡ option_or (last_value code ys) (last_value code xs)
last_append code [] ys = or_none (last_value code ys)
last_append code (x ∷ xs) ys =
    let own : Option Vector = if x.code == code then Some x.value else None in
    ap (λ o. option_or o own) (last_append code xs ys) ∙ or_assoc (last_value code ys) (last_value code xs) own

-- a change after others gives the value
some_after : (code : ℕ) (xs ys : List Change) (x : Vector) → last_value code ys ≡ Some x → last_value code (xs ++ ys) ≡ Some x
some_after code xs ys x is = last_append code xs ys ∙ ap (λ o. option_or o (last_value code xs)) is

-- without one it stays
none_after : (code : ℕ) (xs ys : List Change) → last_value code ys ≡ None → last_value code (xs ++ ys) ≡ last_value code xs
none_after code xs ys is = last_append code xs ys ∙ ap (λ o. option_or o (last_value code xs)) is

module _ (number : ℕ) where
  -- what is given at the first time of step k, with the registers or without
  abbrev given : ℕ → Bool → List Change
  given k first =
      map change_of (bit 99 false ∷ bit 119 (inputs_in number k).we ∷ vector 97 4 (inputs_in number k).a ∷ vector 100 8 (inputs_in number k).d ∷ (if first then first_values else []))

  given_clk : (k : ℕ) (first : Bool) → last_value 0 (given k first) ≡ Some (unsigned (Zero ∷ []))
  given_clk k true = refl
  given_clk k false = refl

  given_we : (k : ℕ) (first : Bool) → last_value 1 (given k first) ≡ Some (unsigned (bit_of (inputs_in number k).we ∷ []))
  given_we k true = refl
  given_we k false = refl

  given_a : (k : ℕ) (first : Bool) → last_value 2 (given k first) ≡ Some (unsigned (low_bits 4 (inputs_in number k).a))
  given_a k true = refl
  given_a k false = refl

  given_d : (k : ℕ) (first : Bool) → last_value 3 (given k first) ≡ Some (unsigned (low_bits 8 (inputs_in number k).d))
  given_d k true = refl
  given_d k false = refl

  abbrev is_first : ℕ → Bool
  is_first k = (moment number k).step == 0

  not_first : (k : ℕ) → is_first (suc k) ≡ false
  not_first k = false_from_ne_true (is_first (suc k)) (λ e. omega (arith, steps_counted number (suc k), eqb-true (moment number (suc k)).step 0 e))

  -- the registers after a step
  past_p : (k : ℕ) → last_value 4 (past number (suc k)) ≡ Some (unsigned (low_bits 8 (registers_after number (suc k)).p))
  past_p k = some_after 4 (past number k) (low_changes number k ++ high_changes number k) _ (some_after 4 (low_changes number k) (high_changes number k) _ refl)

  past_q : (k : ℕ) → last_value 5 (past number (suc k)) ≡ Some (unsigned (low_bits 8 (registers_after number (suc k)).q))
  past_q k = some_after 5 (past number k) (low_changes number k ++ high_changes number k) _ (some_after 5 (low_changes number k) (high_changes number k) _ refl)

  low_p : (k : ℕ) → last_value 4 (past number k ++ low_changes number k) ≡ Some (unsigned (low_bits 8 (registers_after number k).p))
  low_p zero = refl
  low_p (suc k) = none_after 4 (past number (suc k)) (low_changes number (suc k)) (ap (λ b. last_value 4 (given (suc k) b)) (not_first k)) ∙ past_p k

  low_q : (k : ℕ) → last_value 5 (past number k ++ low_changes number k) ≡ Some (unsigned (low_bits 8 (registers_after number k).q))
  low_q zero = refl
  low_q (suc k) = none_after 5 (past number (suc k)) (low_changes number (suc k)) (ap (λ b. last_value 5 (given (suc k) b)) (not_first k)) ∙ past_q k

  -- an input after a step
  input_after : (code k : ℕ) (x : Vector) → last_value code (high_changes number k) ≡ None → last_value code (low_changes number k) ≡ Some x → last_value code (past number (suc k)) ≡ Some x
  input_after code k x none is =
      some_after code (past number k) (low_changes number k ++ high_changes number k) x (none_after code (low_changes number k) (high_changes number k) none ∙ is)

  -- the values of the six codes
  pub record ValuesAre (value : ℕ → Option Vector) (clk : Bit) (k n : ℕ) : Type 0 where
    pub is_clk : value 0 ≡ Some (unsigned (clk ∷ []))
    pub is_we : value 1 ≡ Some (unsigned (bit_of (inputs_in number k).we ∷ []))
    pub is_a : value 2 ≡ Some (unsigned (low_bits 4 (inputs_in number k).a))
    pub is_d : value 3 ≡ Some (unsigned (low_bits 8 (inputs_in number k).d))
    pub is_p : value 4 ≡ Some (unsigned (low_bits 8 (registers_after number n).p))
    pub is_q : value 5 ≡ Some (unsigned (low_bits 8 (registers_after number n).q))

  pub values_low : (steps k t : ℕ) → k < steps → 10 * k ≤ t → t < 10 * k + 5 → ValuesAre (λ code. value_at (steps_from number steps 0) code t) Zero k k
  values_low steps k t inside from until =
      let changes : changes_until number steps 0 t ≡ past number k ++ low_changes number k = past_low number steps 0 k t (omega arith) (omega (arith, inside)) from until in
      record {
        is_clk = ap (last_value 0) changes ∙ some_after 0 (past number k) (low_changes number k) _ (given_clk k (is_first k));
        is_we = ap (last_value 1) changes ∙ some_after 1 (past number k) (low_changes number k) _ (given_we k (is_first k));
        is_a = ap (last_value 2) changes ∙ some_after 2 (past number k) (low_changes number k) _ (given_a k (is_first k));
        is_d = ap (last_value 3) changes ∙ some_after 3 (past number k) (low_changes number k) _ (given_d k (is_first k));
        is_p = ap (last_value 4) changes ∙ low_p k;
        is_q = ap (last_value 5) changes ∙ low_q k;
      }

  pub values_high : (steps k t : ℕ) → k < steps → 10 * k + 5 ≤ t → t < 10 * suc k → ValuesAre (λ code. value_at (steps_from number steps 0) code t) One k (suc k)
  values_high steps k t inside from until =
      let changes : changes_until number steps 0 t ≡ past number (suc k) = past_high number steps 0 k t (omega arith) (omega (arith, inside)) from until in
      record {
        is_clk = ap (last_value 0) changes ∙ some_after 0 (past number k) (low_changes number k ++ high_changes number k) _ (some_after 0 (low_changes number k) (high_changes number k) _ refl);
        is_we = ap (last_value 1) changes ∙ input_after 1 k _ refl (given_we k (is_first k));
        is_a = ap (last_value 2) changes ∙ input_after 2 k _ refl (given_a k (is_first k));
        is_d = ap (last_value 3) changes ∙ input_after 3 k _ refl (given_d k (is_first k));
        is_p = ap (last_value 4) changes ∙ past_p k;
        is_q = ap (last_value 5) changes ∙ past_q k;
      }
