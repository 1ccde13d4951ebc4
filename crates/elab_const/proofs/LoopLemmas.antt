-- The turns of a loop, one after the other.
use Rattle.std.proofs.Common.{◌≡◌, ◌<◌, ◌≤◌, ◌+◌, ◌-◌, ◌∙◌, ◌++◌, ℕ, suc, refl, sym, ap, append_assoc, append-nil, arith, Bool, true, false, List, [], ◌∷◌, Option, Some, None, Result, Ok, Err, if◌then◌else◌}
use Rattle.cov_host.specs.declared.place.Place.{Place}
use Rattle.four_state.specs.Vector.{Vector}
use Rattle.verilog_tree.specs.Tree as t
use Rattle.verilog_tree.specs.View.{expr_view, loop_view}
use Rattle.verilog_tree.specs.declared.statement.For.{For, out-For, fold_out-For}
use Rattle.elab_const.specs.Scope.{Names, Fault, LoopTooLong, LoopNotConstant, fault_at, on_ok, with_turn}
use Rattle.elab_const.specs.Loops.{some_if, more_if, end_if, turn_before, begins, integer_answer, next_answer, turns_from, turns_by, turns_answer, variable_of, is_over}

-- turns before others
abbrev pub turns_before : List Vector → Result (List Vector) Fault → Result (List Vector) Fault
turns_before vs more = on_ok more (λ ws. Ok (vs ++ ws))

-- none before others
pub before_none : (more : Result (List Vector) Fault) → turns_before [] more ≡ more
before_none (Ok vs) = refl
before_none (Err f) = refl

-- the first of the others joins those before
pub before_one : (vs : List Vector) (v : Vector) (more : Result (List Vector) Fault) → turns_before vs (turn_before v more) ≡ turns_before (vs ++ v ∷ []) more
before_one vs v (Ok ws) = ap Ok (sym (append_assoc vs (v ∷ []) ws))
before_one vs v (Err f) = refl

-- a turn that begins, one that does not, and a fault
pub goes_on : (b : Result Bool Fault) (i : Result Vector Fault) (k : Vector → Result (List Vector) Fault) (n : Vector) → on_ok b (some_if i) ≡ Ok (Some n) → on_ok b (more_if (on_ok i k)) ≡ k n
goes_on (Ok true) (Ok v) k n e = ap k cc
goes_on (Ok true) (Err f) k n e = absurd cc
goes_on (Ok false) i k n e = absurd cc
goes_on (Err f) i k n e = absurd cc

pub stops : (b : Result Bool Fault) (i : Result Vector Fault) (k : Vector → Result (List Vector) Fault) → on_ok b (some_if i) ≡ Ok None → on_ok b (more_if (on_ok i k)) ≡ Ok []
stops (Ok true) (Ok v) k e = absurd cc
stops (Ok true) (Err f) k e = absurd cc
stops (Ok false) i k e = refl
stops (Err f) i k e = absurd cc

pub fails : (b : Result Bool Fault) (i : Result Vector Fault) (k : Vector → Result (List Vector) Fault) (f : Fault) → on_ok b (some_if i) ≡ Err f → on_ok b (more_if (on_ok i k)) ≡ Err f
fails (Ok true) (Ok v) k f e = absurd cc
fails (Ok true) (Err h) k f e = cc
fails (Ok false) i k f e = absurd cc
fails (Err h) i k f e = cc

-- where the test fails or no turn begins, and where the step fails
pub test_fails : (b : Result Bool Fault) (i : Result Vector Fault) (f : Fault) → b ≡ Err f → Err f ≡ on_ok b (some_if i)
test_fails b i f fails = rw fails refl

pub no_next : (b : Result Bool Fault) (i : Result Vector Fault) → b ≡ Ok false → Ok None ≡ on_ok b (some_if i)
no_next b i ends = rw ends refl

pub step_fails : (b : Result Bool Fault) (i : Result Vector Fault) (f : Fault) → b ≡ Ok true → i ≡ Err f → Err f ≡ on_ok b (some_if i)
step_fails b i f begun fails = rw (begun, fails) refl

-- what follows a turn that begins
pub next_is : (b : Result Bool Fault) (i : Result Vector Fault) (n : Vector) → b ≡ Ok true → i ≡ Ok n → Ok (Some n) ≡ on_ok b (some_if i)
next_is b i n begun is = rw (begun, is) refl

-- the turns of a header over a variable, and the fault of its first value
pub turns_are : (g : Names) (h : t.Header) (x : List ℕ) (v : Vector) → variable_of h.name h.target ≡ Some x → is_over g x h.first h.test h.step ≡ true → integer_answer g h.first ≡ Ok v → turns_answer g h ≡ turns_from g h.place x h.test h.step 1024 v
turns_are g h x v named over first =
    ap (turns_by g h) named ∙ ap (λ b. if b then on_ok (integer_answer g h.first) (turns_from g h.place x h.test h.step 1024) else Err (fault_at LoopNotConstant h.place)) over ∙ ap (λ r. on_ok r (turns_from g h.place x h.test h.step 1024)) first

pub turns_fail : (g : Names) (h : t.Header) (x : List ℕ) (f : Fault) → variable_of h.name h.target ≡ Some x → is_over g x h.first h.test h.step ≡ true → integer_answer g h.first ≡ Err f → turns_answer g h ≡ Err f
turns_fail g h x f named over first =
    ap (turns_by g h) named ∙ ap (λ b. if b then on_ok (integer_answer g h.first) (turns_from g h.place x h.test h.step 1024) else Err (fault_at LoopNotConstant h.place)) over ∙ ap (λ r. on_ok r (turns_from g h.place x h.test h.step 1024)) first

-- the end after as many turns as there may be
pub ends : (b : Result Bool Fault) (p : Place) → on_ok b (end_if p) ≡ Ok tt → on_ok b (more_if (Err (fault_at LoopTooLong p))) ≡ Ok []
ends (Ok true) p e = absurd cc
ends (Ok false) p e = refl
ends (Err f) p e = absurd cc

pub too_long : (b : Result Bool Fault) (p : Place) (f : Fault) → on_ok b (end_if p) ≡ Err f → on_ok b (more_if (Err (fault_at LoopTooLong p))) ≡ Err f
too_long (Ok true) p f e = cc
too_long (Ok false) p f e = absurd cc
too_long (Err h) p f e = cc

-- the plain header of a loop
pub header_view : (h : For) → (loop_view h).0 ≡ record { place = (out-For h).place; name = expr_view (out-For h).name; first = expr_view (out-For h).first; test = expr_view (out-For h).test; target = expr_view (out-For h).target; step = expr_view (out-For h).step }
header_view h = rw fold_out-For refl

module _ (g : Names) (p : Place) (x : List ℕ) (test step : t.Expr) where
  -- what follows one turn
  abbrev pub next : Vector → Result (Option Vector) Fault
  next v = next_answer (with_turn x v g) p test step

  one_less : (c : ℕ) → c < 1024 → 1024 - c ≡ suc (1024 - (c + 1))
  one_less c below = omega arith

  -- a turn, the last one, and a fault
  pub turn_follows : (vs : List Vector) (c : ℕ) (v n : Vector) → c < 1024 → next v ≡ Ok (Some n) → turns_before vs (turns_from g p x test step (1024 - c) v) ≡ turns_before (vs ++ v ∷ []) (turns_from g p x test step (1024 - (c + 1)) n)
  turn_follows vs c v n below is =
      let more = goes_on (begins (with_turn x v g) p test) (integer_answer (with_turn x v g) step) (λ m. turn_before v (turns_from g p x test step (1024 - (c + 1)) m)) n is in
      ap (λ k. turns_before vs (turns_from g p x test step k v)) (one_less c below) ∙ ap (turns_before vs) more ∙ before_one vs v (turns_from g p x test step (1024 - (c + 1)) n)

  pub turns_end : (vs : List Vector) (c : ℕ) (v : Vector) → c < 1024 → next v ≡ Ok None → turns_before vs (turns_from g p x test step (1024 - c) v) ≡ Ok vs
  turns_end vs c v below is =
      let none = stops (begins (with_turn x v g) p test) (integer_answer (with_turn x v g) step) (λ m. turn_before v (turns_from g p x test step (1024 - (c + 1)) m)) is in
      ap (λ k. turns_before vs (turns_from g p x test step k v)) (one_less c below) ∙ ap (turns_before vs) none ∙ ap Ok (append-nil vs)

  pub turn_fails : (vs : List Vector) (c : ℕ) (v : Vector) (f : Fault) → c < 1024 → next v ≡ Err f → turns_before vs (turns_from g p x test step (1024 - c) v) ≡ Err f
  turn_fails vs c v f below is =
      let none = fails (begins (with_turn x v g) p test) (integer_answer (with_turn x v g) step) (λ m. turn_before v (turns_from g p x test step (1024 - (c + 1)) m)) f is in
      ap (λ k. turns_before vs (turns_from g p x test step k v)) (one_less c below) ∙ ap (turns_before vs) none

  none_left : (c : ℕ) → 1024 ≤ c → 1024 - c ≡ 0
  none_left c above = omega arith

  -- after the most turns: no more, and a fault
  pub all_turns : (vs : List Vector) (c : ℕ) (v : Vector) → 1024 ≤ c → on_ok (begins (with_turn x v g) p test) (end_if p) ≡ Ok tt → turns_before vs (turns_from g p x test step (1024 - c) v) ≡ Ok vs
  all_turns vs c v above is =
      ap (λ k. turns_before vs (turns_from g p x test step k v)) (none_left c above) ∙ ap (turns_before vs) (ends (begins (with_turn x v g) p test) p is) ∙ ap Ok (append-nil vs)

  pub end_fails : (vs : List Vector) (c : ℕ) (v : Vector) (f : Fault) → 1024 ≤ c → on_ok (begins (with_turn x v g) p test) (end_if p) ≡ Err f → turns_before vs (turns_from g p x test step (1024 - c) v) ≡ Err f
  end_fails vs c v f above is =
      ap (λ k. turns_before vs (turns_from g p x test step k v)) (none_left c above) ∙ ap (turns_before vs) (too_long (begins (with_turn x v g) p test) p f is)
