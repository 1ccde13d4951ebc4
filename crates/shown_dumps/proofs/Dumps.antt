-- What a body says of a design to which its header is bound is a dump of the design.
use Rattle.std.proofs.Common.{◌≡◌, ◌⊎◌, ℕ, suc, ◌+◌, ◌<◌, ◌≤◌, Bool, true, false, cond, is_some, nat_le, List, [], ◌∷◌, length, map, Option, None, Some, refl, sym, ap, ◌∙◌, inl, inr, arith}
use Rattle.std.specs.List.{filter, flat_map}
use Rattle.std.proofs.lemmas.Bool.{cases_lt, false≢true}
use Rattle.std.proofs.lemmas.Bool.Decides.{nat_tests}
use Rattle.std.proofs.lemmas.List.{get_or_past}
use Rattle.std.proofs.lemmas.List.FromFn.{get_or-map-range_with_len, length-map-range_with_len}
use Rattle.design_model.specs.Design.{In}
use Rattle.design_model.specs.Shows.{InSome}
use Rattle.design_model.specs.View.{design_view}
use Rattle.design_model.specs.declared.design.Design.{Design}
use Rattle.hidden_times.specs.Hidden.{IsAnyDumpOf}
use Rattle.vcd_reader.specs.Dump.{DumpStep, last_value, stretches_of, times_of}
use Rattle.vcd_reader.specs.Times.{Rises}
use Rattle.vcd_reader.specs.declared.entry.Entry.{Entry}
use Rattle.vcd_reader.specs.declared.vars.Var.{Var}
use Rattle.signal_binding.specs.Binding.{code_of, codes_of}
use Rattle.shown_dumps.specs.Shown.{bit_at, code_at, dump_of, has_begun, stretch_at, stretch_from, value_of_code}
use Rattle.shown_dumps.proofs.Order.{are_stretches, some_cons}

-- ---- a time that is not listed changes no value

same_test : (time t : ℕ) → (time ≡ suc t → ⊥) → nat_le time (suc t) ≡ nat_le time t
same_test time t apart = go (cases_lt t time)
  where
    go : (t < time) ⊎ (time ≤ t) → nat_le time (suc t) ≡ nat_le time t
    go (inl after) = more (cases_lt (suc t) time)
      where
        more : (suc t < time) ⊎ (time ≤ suc t) → nat_le time (suc t) ≡ nat_le time t
        more (inl later) = let a : nat_le time (suc t) ≡ false = grind (arith, nat_tests) in let b : nat_le time t ≡ false = grind (arith, nat_tests) in a ∙ sym b
        more (inr same) = absurd (apart (omega (arith, after, same)))
    go (inr before) = let a : nat_le time (suc t) ≡ true = grind (arith, nat_tests) in let b : nat_le time t ≡ true = grind (arith, nat_tests) in a ∙ sym b

same_steps : (steps : List DumpStep) (t : ℕ) → (In (suc t) (times_of steps) → ⊥) → filter (λ step. nat_le step.time (suc t)) steps ≡ filter (λ step. nat_le step.time t) steps
same_steps [] t none = refl
same_steps (step ∷ steps) t none =
    let rest = same_steps steps t (λ h. none (inr h)) in
    let one = filter (λ (s : DumpStep). nat_le s.time t) steps in
    ap (λ ss. cond (nat_le step.time (suc t)) (step ∷ ss) ss) rest ∙ ap (λ b. cond b (step ∷ one) one) (same_test step.time t (λ e. none (inl e)))

same_value : (steps : List DumpStep) (t : ℕ) → (In (suc t) (times_of steps) → ⊥) → (o : Option ℕ) → value_of_code steps (suc t) o ≡ value_of_code steps t o
same_value steps t none None = refl
same_value steps t none (Some code) = ap (λ ss. last_value code (flat_map (λ (step : DumpStep). step.changes) ss)) (same_steps steps t none)

-- and no stretch begins at it
same_begun : (steps : List DumpStep) (t : ℕ) → (In (suc t) (times_of steps) → ⊥) → has_begun steps (suc t) ≡ has_begun steps t
same_begun [] t none = refl
same_begun (step ∷ steps) t none = same_test step.time t (λ e. none (inl e))

same_from : (steps : List DumpStep) (later : List (List DumpStep)) (t : ℕ) → (In (suc t) (times_of steps) → ⊥) → (InSome (In (suc t)) (map times_of later) → ⊥) → (o : Option ℕ)
    → value_of_code (stretch_from steps later (suc t)) (suc t) o ≡ value_of_code (stretch_from steps later t) t o
same_from steps [] t own none o = same_value steps t own o
same_from steps (next ∷ later) t own none o =
    let first : In (suc t) (times_of next) → ⊥ = λ h. none (some_cons (In (suc t)) (times_of next) (map times_of later) (inl h)) in
    let rest : InSome (In (suc t)) (map times_of later) → ⊥ = λ h. none (some_cons (In (suc t)) (times_of next) (map times_of later) (inr h)) in
    ap (λ b. value_of_code (stretch_from (cond b next steps) later (suc t)) (suc t) o) (same_begun next t first)
    ∙ either (has_begun next t) (same_from next later t first rest o) (same_from steps later t own rest o)
  where
    either : (b : Bool) → value_of_code (stretch_from next later (suc t)) (suc t) o ≡ value_of_code (stretch_from next later t) t o
        → value_of_code (stretch_from steps later (suc t)) (suc t) o ≡ value_of_code (stretch_from steps later t) t o
        → value_of_code (stretch_from (cond b next steps) later (suc t)) (suc t) o ≡ value_of_code (stretch_from (cond b next steps) later t) t o
    either true p q = p
    either false p q = q

same_at : (stretches : List (List DumpStep)) (t : ℕ) → (InSome (In (suc t)) (map times_of stretches) → ⊥) → (o : Option ℕ) → value_of_code (stretch_at stretches (suc t)) (suc t) o ≡ value_of_code (stretch_at stretches t) t o
same_at [] t none o = same_value [] t (λ h. h) o
same_at (steps ∷ later) t none o =
    same_from steps later t (λ h. none (some_cons (In (suc t)) (times_of steps) (map times_of later) (inl h))) (λ h. none (some_cons (In (suc t)) (times_of steps) (map times_of later) (inr h))) o

pub codes_long : (design : Design) (vars : List Var) (instance : List ℕ) → length (codes_of design vars instance) ≡ length design.signals
codes_long design vars instance = length-map-range_with_len (code_of design vars instance) 0 (length design.signals)

-- only signals of the design have a code
pub coded_signal : (design : Design) (vars : List Var) (instance : List ℕ) (s : ℕ) → is_some (code_at (codes_of design vars instance) s) ≡ true → s < length design.signals
coded_signal design vars instance s bound = go (cases_lt s (length design.signals))
  where
    go : (s < length design.signals) ⊎ (length design.signals ≤ s) → s < length design.signals
    go (inl within) = within
    go (inr past) =
        let none : code_at (codes_of design vars instance) s ≡ None = get_or_past (codes_of design vars instance) s None (omega (arith, past, codes_long design vars instance)) in
        absurd (false≢true (sym (ap is_some none) ∙ bound))

pub code_is : (design : Design) (vars : List Var) (instance : List ℕ) (s : ℕ) → s < length design.signals → code_at (codes_of design vars instance) s ≡ code_of design vars instance s
code_is design vars instance s within = get_or-map-range_with_len (code_of design vars instance) 0 (length design.signals) s s None within (let same : 0 + s ≡ s = omega arith in same)

pub is_dump : (design : Design) (vars : List Var) (instance : List ℕ) (entries : List Entry) → Rises None entries → IsAnyDumpOf (design_view design) (dump_of (codes_of design vars instance) (stretches_of entries))
is_dump design vars instance entries rises = record {
  rising = are_stretches entries rises;
  signals = λ s bound. coded_signal design vars instance s bound;
  stays = λ t none. λ i c. bit_at (same_at (stretches_of entries) t none (code_at (codes_of design vars instance) c.thing) i) c.place;
}
