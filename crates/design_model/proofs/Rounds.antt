-- The rules of what is clear grow with the map that they begin from, so the rounds grow, and the map is the least one.
use Rattle.std.proofs.Common.{◌≡◌, ℕ, zero, suc, Bool, true, false, List, [], ◌∷◌, sym, ◌∙◌}
use Rattle.event_machine.specs.Cell.{Values}
use Rattle.event_machine.specs.Habit.{Habit}
use Rattle.four_state.specs.declared.bit.Bit.{Bit}
use Rattle.design_model.specs.Tree.{Stmt}
use Rattle.design_model.specs.Design.{Design, Thing, a_signal, body_at}
use Rattle.design_model.specs.Execution.{Visit, at_line, at_node, execution, reads, writes_word}
use Rattle.design_model.specs.Reads.{Agrees, AllInside, ReadsWithin, PartialMap, nothing_known}
use Rattle.design_model.specs.Shows.{BoundDump}
use Rattle.design_model.specs.Clear.{IsClearBy, IsCombValue, IsNetValue, clear, clear_in, clear_start, of_assigns, of_clean, of_comb, of_dump, of_unwoken}
use Rattle.design_model.specs.Lawful.{is_signal}
use Rattle.design_model.specs.Laws.{ClearLaw, ClearLeastLaw, ClearRoundsLaw, ClearValueLaw}
use Rattle.design_model.proofs.FlipFlopDoubt.{agrees}

-- what the one map has, the other has
abbrev MoreKnown : PartialMap → PartialMap → Type 0
MoreKnown K L = (x : Thing) (bits : List Bit) → K x bits → L x bits

module _ (d : Design) (K L : PartialMap) (more : (x : Thing) (bits : List Bit) → K x bits → L x bits) where
  agrees_less : (v : Values Bit) → Agrees d L v → Agrees d K v
  agrees_less v agrees x bits k = agrees x bits (more x bits k)

  pub inside_more : (xs : List Visit) → AllInside K xs → AllInside L xs
  inside_more [] inside = tt
  inside_more (at_line n ∷ xs) inside = (tt, inside_more xs inside.1)
  inside_more (at_node n c ∷ xs) inside = (tt, inside_more xs inside.1)
  inside_more (reads x true ∷ xs) inside = (tt, inside_more xs inside.1)
  inside_more (reads x false ∷ xs) inside = ((inside.0.0, more x inside.0.0 inside.0.1), inside_more xs inside.1)
  inside_more (writes_word m i ∷ xs) inside = (tt, inside_more xs inside.1)

  within_more : (b : Stmt) → ReadsWithin d K b → ReadsWithin d L b
  within_more b told v agrees = inside_more (execution d b v).visits (told v (agrees_less v agrees))

  net_more : (s : ℕ) (bits : List Bit) → IsNetValue d K s bits → IsNetValue d L s bits
  net_more s bits is =
      record {
        is_signal = is.is_signal;
        driven = is.driven;
        within = λ p drives_it. within_more (body_at d p) (is.within p drives_it);
        gives = λ v agrees. is.gives v (agrees_less v agrees);
      }

  comb_more : (dump : BoundDump) (t p s : ℕ) (bits : List Bit) → IsCombValue d dump t K p s bits → IsCombValue d dump t L p s bits
  comb_more dump t p s bits is =
      record {
        is_signal = is.is_signal;
        is_comb = is.is_comb;
        target = is.target;
        written_whole = is.written_whole;
        writes_first = is.writes_first;
        all_clear = λ x level other signal. let has = is.all_clear x level other signal in (has.0, more (a_signal x) has.0 has.1);
        within = within_more (body_at d p) is.within;
        has_changed = is.has_changed;
        gives = λ v agrees. is.gives v (agrees_less v agrees);
      }

  pub rules_more : (h : Habit) (dump : BoundDump) (t : ℕ) (start : PartialMap) (x : Thing) (bits : List Bit) → IsClearBy d h dump t start K x bits → IsClearBy d h dump t start L x bits
  rules_more h dump t start x bits (of_dump s w0 is_shown is_bound is_signal is) = of_dump s w0 is_shown is_bound is_signal is
  rules_more h dump t start x bits (of_assigns s w0 unbound is) = of_assigns s w0 unbound (net_more s w0 is)
  rules_more h dump t start x bits (of_comb p s w0 unbound is) = of_comb p s w0 unbound (comb_more dump t p s w0 is)
  rules_more h dump t start x bits (of_unwoken p x0 w0 window unbound target cannot old) = of_unwoken p x0 w0 window unbound target cannot old
  rules_more h dump t start x bits (of_clean p c x0 w0 window unbound is) = of_clean p c x0 w0 window unbound is

pub rounds_grow : (d : Design) (h : Habit) (dump : BoundDump) (t : ℕ) (start : PartialMap) (n : ℕ) (x : Thing) (bits : List Bit) → clear_in d h dump t start n x bits → clear_in d h dump t start (suc n) x bits
rounds_grow d h dump t start zero x bits k = absurd k
rounds_grow d h dump t start (suc n) x bits k =
    rules_more d (clear_in d h dump t start n) (clear_in d h dump t start (suc n)) (rounds_grow d h dump t start n) h dump t start x bits k

pub rounds_law : (d : Design) (h : Habit) → ClearRoundsLaw d h
rounds_law d h dump t n x bits k = rounds_grow d h dump t (clear_start d h dump t) n x bits k

module _ (d : Design) (h : Habit) (dump : BoundDump) (t : ℕ) (start : PartialMap) (has : Thing → List Bit → Bool) (closed : (x : Thing) (bits : List Bit) → IsClearBy d h dump t start (λ y w. has y w ≡ true) x bits → has x bits ≡ true) where
  in_closed : (n : ℕ) (x : Thing) (bits : List Bit) → clear_in d h dump t start n x bits → has x bits ≡ true
  in_closed zero x bits k = absurd k
  in_closed (suc n) x bits k = closed x bits (rules_more d (clear_in d h dump t start n) (λ y w. has y w ≡ true) (in_closed n) h dump t start x bits k)

pub least_law : (d : Design) (h : Habit) → ClearLeastLaw d h
least_law d h dump zero has closed x bits k = in_closed d h dump zero nothing_known has closed k.0 x bits k.1
least_law d h dump (suc t) has closed x bits k = in_closed d h dump (suc t) (clear d h dump t) has closed k.0 x bits k.1

pub value_law : (d : Design) (h : Habit) → ClearLaw d h → ClearValueLaw d h
value_law d h clear_holds dump r t binds showing is_shown x a b first second =
    sym (clear_holds dump r t binds showing is_shown x a first) ∙ clear_holds dump r t binds showing is_shown x b second
