-- The dump and the processes that drive signals have cells of the design alone.
use Rattle.std.proofs.Common.{◌≡◌, ◌<◌, ℕ, Bool, true, false, not, ◌&&◌, ◌||◌, eqb, ltb, List, length, refl, sym, ap, subst, inl, inr, arith}
use Rattle.std.specs.Prelude.{nat_lt, nat_le}
use Rattle.std.proofs.lemmas.Bool.{and_parts, both_ways, eqb-true, lt-ltb, ltb-true, or_cases}
use Rattle.std.proofs.lemmas.Bool.Decides.{nat_tests}
use Rattle.event_machine.specs.Cell.{Cell}
use Rattle.replay_model.specs.design_model.BodyLaws.{all_cells}
use Rattle.replay_model.specs.design_model.Design.{Design, In, body_at, signal_at, signal_cells}
use Rattle.replay_model.specs.design_model.Mentions.{any_set, any_set_in, any_set_of, blocking_target, body_blocks, may_write, some_may_write}
use Rattle.replay_model.specs.design_model.Shows.{BoundDump}
use Rattle.replay_model.specs.hidden_times.Hidden.{IsAnyDumpOf}
use Rattle.replay_model.specs.design_model.Machine.{machine}
use Rattle.replay_model.specs.design_model.Tree.{Arms, Stmt, Stmts, Target, Targets, a_stmt, a_target, all_of, arm, bits_of, block, branch, empty, no_arms, no_stmts, no_targets, select, set, several, turns, word_of}
use Rattle.replay_model.specs.Step.{is_dumped}
use Rattle.replay_model.proofs.Clocked.{at_true}
use Rattle.replay_model.proofs.Existing.{signal_has}
use Rattle.replay_model.proofs.Targets.{blocks_from}
use Rattle.replay_steps.specs.Blank.{DrivesCells, HasDumpCells, IsCellOf}

-- a place within the width of a signal
in_design : (d : Design) (c : Cell) → c.thing < length d.signals → nat_lt c.place (signal_at d c.thing).width ≡ true → IsCellOf d c
in_design d c signal below = at_true (λ cs. In c cs) (nat_lt c.thing (length d.signals)) (signal_cells d c.thing) _ (lt-ltb _ _ signal) (signal_has d c (ltb-true _ _ below))

pub dump_cells : (d : Design) (dump : BoundDump) → IsAnyDumpOf d dump → HasDumpCells d dump.bound
dump_cells d dump fits = λ c has. let parts = and_parts (dump.bound c.thing) _ has in in_design d c (fits.signals c.thing parts.0) parts.1

module _ (d : Design) (c : Cell) (signal : c.thing < length d.signals) where
  -- the place is within the width of the cell's signal
  abbrev inside : Bool
  inside = nat_lt c.place (signal_at d c.thing).width

  same_signal : (s : ℕ) → eqb c.thing s ≡ true → nat_lt c.place (signal_at d s).width ≡ true → inside ≡ true
  same_signal s e below = subst (λ x. nat_lt c.place (signal_at d x).width ≡ true) (sym (eqb-true c.thing s e)) below

  no_word : (m : ℕ) → eqb c.thing m ≡ true → nat_le (length d.signals) m ≡ true → ⊥
  no_word m e past = let same : c.thing ≡ m = eqb-true c.thing m e in grind (arith, nat_tests, same, past, signal)

  mutual
    written_inside : (t : Target) → may_write d t c ≡ true → inside ≡ true
    written_inside (all_of s) e = let parts = and_parts (eqb c.thing s) _ e in same_signal s parts.0 parts.1
    written_inside (bits_of s low w) e = let parts = and_parts (eqb c.thing s) _ e in same_signal s parts.0 (and_parts (nat_lt c.place (signal_at d s).width) _ parts.1).0
    written_inside (word_of m i) e = let parts = and_parts (eqb c.thing m) _ e in absurd (no_word m parts.0 parts.1)
    written_inside (several ts) e = some_inside ts e

    some_inside : (ts : Targets) → some_may_write d ts c ≡ true → inside ≡ true
    some_inside no_targets e = absurd (both_ways false refl e)
    some_inside (a_target t ts) e = elim (or_cases (may_write d t c) _ e) [ inl h ↦ written_inside t h | inr h ↦ some_inside ts h ]

  mutual
    set_inside : (s : Stmt) → any_set (λ blocking x t. blocking && may_write d x c) s ≡ true → inside ≡ true
    set_inside (block p ss) e = all_inside ss e
    set_inside (branch p n t s other) e = elim (or_cases (any_set (λ blocking x t. blocking && may_write d x c) s) _ e) [ inl h ↦ set_inside s h | inr h ↦ all_inside other h ]
    set_inside (select p n kind t arms) e = arms_inside arms e
    set_inside (turns p n ss) e = all_inside ss e
    set_inside (set p n blocking x t) e = written_inside x (and_parts blocking _ e).1
    set_inside (empty p) e = absurd (both_ways false refl e)

    all_inside : (ss : Stmts) → any_set_of (λ blocking x t. blocking && may_write d x c) ss ≡ true → inside ≡ true
    all_inside no_stmts e = absurd (both_ways false refl e)
    all_inside (a_stmt s ss) e = elim (or_cases (any_set (λ blocking x t. blocking && may_write d x c) s) _ e) [ inl h ↦ set_inside s h | inr h ↦ all_inside ss h ]

    arms_inside : (arms : Arms) → any_set_in (λ blocking x t. blocking && may_write d x c) arms ≡ true → inside ≡ true
    arms_inside no_arms e = absurd (both_ways false refl e)
    arms_inside (arm labels s arms) e = elim (or_cases (any_set (λ blocking x t. blocking && may_write d x c) s) _ e) [ inl h ↦ set_inside s h | inr h ↦ arms_inside arms h ]

pub drives_cells : (d : Design) (p : ℕ) → ((x : ℕ) → body_blocks x (body_at d p) ≡ true → x < length d.signals) → DrivesCells d p
drives_cells d p signals = λ c e. let signal = signals c.thing (blocks_from d p c e) in in_design d c signal (set_inside d c signal (body_at d p) e)
