-- The design of row 1 is lawful, and in every run that shows its dump line 2 is hit.
use Rattle.std.proofs.Common.{◌<◌, ◌≤◌, ◌&&◌, if◌then◌else◌, length, Bool, ◌≡◌, ◌⊎◌, inl, inr, ⊎_elim, refl, sym, ap, subst, ◌∙◌, ℕ, zero, suc, ◌==◌, true, false, lit<, lit≤, arith}
use Rattle.std.proofs.lemmas.Bool.{or_cases, eqb-true, ltb-true, lt-leb, le-leb, cases_lt, false≢true}
use Rattle.std.specs.Prelude.{nat_lt, nat_le}
use Rattle.std.specs.List.{list_all}
use Rattle.std.specs.Prelude.{slice_index_or}
use Rattle.event_machine.specs.Habit.{Habit}
use Rattle.four_state.specs.declared.bit.Bit.{Bit}
use Rattle.four_state.specs.declared.bit.Bit.TheVariants.{One, X, Zero}
use Rattle.design_model.specs.Design.{In, IsAssign, IsComb, Named, body_at, cell, is_number, path_of, process_at, signal_at}
use Rattle.design_model.specs.Mentions.{body_assigns, body_blocks, body_queues}
use Rattle.design_model.specs.Numbered.{LineAt, NodeAt, lines_of, nodes_of}
use Rattle.design_model.specs.Machine.{events_of, machine}
use Rattle.design_model.specs.Run.{IsRun, Run}
use Rattle.design_model.specs.Shows.{IsDumpOf, IsListed, Shows}
use Rattle.design_model.specs.Points.{IsHit}
use Rattle.design_model.specs.Early.{IsEarlyAt}
use Rattle.design_model.specs.Shape.{is_body}
use Rattle.design_model.specs.WellFormed.{is_well_formed_body}
use Rattle.design_model.specs.Lawful.{IsLawfulDesign, target_once, wakes_of}
use Rattle.design_model.specs.FlipFlop.{flip_flop, flip_flop_dump, flip_flop_values, line_two}
use Rattle.design_model.proofs.Assigns.{machine_lawful}
use Rattle.design_model.proofs.FlipFlopDoubt.{input_bound, reached_two}
use Rattle.design_model.proofs.FlipFlopRun.{is_run, shows}
use Rattle.design_model.proofs.Reached.{reached_law}
use Rattle.design_model.proofs.StepLaws.{step_laws}

no_assign : (p : ℕ) → IsAssign (process_at flip_flop p) → ⊥
no_assign zero h = h
no_assign (suc p) h = h

assigns_q : (p x : ℕ) → body_assigns x (body_at flip_flop p) ≡ true → (p ≡ 0) × (x ≡ 2)
assigns_q zero x h = (refl, ⊎_elim (λ e. sym (eqb-true 2 x e)) (λ e. ⊎_elim (λ f. sym (eqb-true 2 x f)) (λ f. absurd (false≢true f)) (or_cases (2 == x) false e)) (or_cases (2 == x) _ h))
assigns_q (suc p) x h = absurd (false≢true h)

-- equal numbers are at one place
same_line : (x y : LineAt) → In x (lines_of (process_at flip_flop 0)) → In y (lines_of (process_at flip_flop 0)) → x.line ≡ y.line → x ≡ y
same_line x y (inl a) (inl b) e = sym a ∙ b
same_line x y (inl a) (inr (inl b)) e = absurd (omega (arith, ap (λ z. z.line) a, ap (λ z. z.line) b, e))
same_line x y (inl a) (inr (inr (inl b))) e = absurd (omega (arith, ap (λ z. z.line) a, ap (λ z. z.line) b, e))
same_line x y (inr (inl a)) (inl b) e = absurd (omega (arith, ap (λ z. z.line) a, ap (λ z. z.line) b, e))
same_line x y (inr (inl a)) (inr (inl b)) e = sym a ∙ b
same_line x y (inr (inl a)) (inr (inr (inl b))) e = absurd (omega (arith, ap (λ z. z.line) a, ap (λ z. z.line) b, e))
same_line x y (inr (inr (inl a))) (inl b) e = absurd (omega (arith, ap (λ z. z.line) a, ap (λ z. z.line) b, e))
same_line x y (inr (inr (inl a))) (inr (inl b)) e = absurd (omega (arith, ap (λ z. z.line) a, ap (λ z. z.line) b, e))
same_line x y (inr (inr (inl a))) (inr (inr (inl b))) e = sym a ∙ b
same_line x y (inr (inr (inr a))) b e = absurd a
same_line x y (inl a) (inr (inr (inr b))) e = absurd b
same_line x y (inr (inl a)) (inr (inr (inr b))) e = absurd b
same_line x y (inr (inr (inl a))) (inr (inr (inr b))) e = absurd b

lines_once : (p q : ℕ) (x y : LineAt) → In x (lines_of (process_at flip_flop p)) → In y (lines_of (process_at flip_flop q)) → x.line ≡ y.line → (p ≡ q) × (x ≡ y)
lines_once zero zero x y a b e = (refl, same_line x y a b e)
lines_once zero (suc q) x y a b e = absurd b
lines_once (suc p) q x y a b e = absurd a

nodes_once : (p q : ℕ) (x y : NodeAt) → In x (nodes_of (process_at flip_flop p)) → In y (nodes_of (process_at flip_flop q)) → (p ≡ q) × (x ≡ y)
nodes_once zero zero x y (inl a) (inl b) = (refl, sym a ∙ b)
nodes_once zero zero x y (inl a) (inr none) = absurd none
nodes_once zero zero x y (inr none) b = absurd none
nodes_once zero (suc q) x y a none = absurd none
nodes_once (suc p) q x y none b = absurd none

well_formed : (p : ℕ) → is_well_formed_body flip_flop (body_at flip_flop p) ≡ true
well_formed zero = refl
well_formed (suc p) = refl

-- the first letters of two names differ
other_name : (n : ℕ) {x y : Named} → y ≡ x → slice_index_or y.1 0 0 ≡ n → (slice_index_or x.1 0 0 ≡ n → ⊥) → ⊥
other_name n e is differ = differ (sym (ap (λ z. slice_index_or z.1 0 0) e) ∙ is)

pub flip_flop_lawful : IsLawfulDesign flip_flop
flip_flop_lawful =
    record {
      signals = refl;
      memories = refl;
      instances = refl;
      bodies = bodies;
      well_formed = well_formed;
      constants = refl;
      aliases = refl;
      lists = lists;
      instance_paths = (λ h. h, tt);
      names = (
        λ h. ⊎_elim (λ e. other_name 97 e refl (λ z. omega (arith, z))) (λ g. ⊎_elim (λ e. other_name 113 e refl (λ z. omega (arith, z))) (λ none. none) g) h,
        (λ h. ⊎_elim (λ e. other_name 113 e refl (λ z. omega (arith, z))) (λ none. none) h, (λ h. h, tt)),
      );
      short_instances = refl;
      short_paths = short_paths;
      few_signals = lit≤ tt;
      few_processes = lit≤ tt;
      few_words = lit≤ tt;
      few_instances = lit≤ tt;
      few_statements = lit≤ tt;
      lines_once = λ p q x y a b i e. lines_once p q x y a b e;
      nodes_once = λ p q x y a b i e. nodes_once p q x y a b;
      one_writer = λ p q x np nq a b. (assigns_q p x a).0 ∙ sym (assigns_q q x b).0;
      one_driver = λ p q c a b w v. absurd (no_assign p a);
      apart = λ p q x a w v. absurd (no_assign p a);
      no_input = λ p s a. subst (λ y. (signal_at flip_flop y).input ≡ false) (sym (assigns_q p s a).1) refl;
      not_both = not_both;
      targets = targets;
      comb_writes = comb_writes;
      reads_no_own = λ p c a. absurd (no_assign p a);
      events = event_bits;
    }
  where
    bodies : (p : ℕ) → is_body flip_flop (body_at flip_flop p) ≡ true
    bodies zero = refl
    bodies (suc p) = refl

    lists : (p : ℕ) → list_all (λ x. nat_lt x (length flip_flop.signals)) (wakes_of (process_at flip_flop p)) ≡ true
    lists zero = refl
    lists (suc p) = refl

    short_paths : (x : ℕ) → is_number flip_flop x ≡ true → length (path_of flip_flop x) ≤ 256
    short_paths zero h = lit≤ tt
    short_paths (suc zero) h = lit≤ tt
    short_paths (suc (suc zero)) h = lit≤ tt
    short_paths (suc (suc (suc x))) h = absurd (omega (arith, ltb-true (suc (suc (suc x))) 3 h))

    targets : (p : ℕ) → target_once (process_at flip_flop p) flip_flop ≡ true
    targets zero = refl
    targets (suc p) = refl

    comb_writes : (p x : ℕ) → IsComb (process_at flip_flop p) → body_assigns x (body_at flip_flop p) ≡ true → x < length flip_flop.signals
    comb_writes zero x c a = absurd c
    comb_writes (suc p) x c a = absurd (false≢true a)

    event_bits : (p : ℕ) → list_all (λ e. nat_lt e.1 (length flip_flop.signals) && ((signal_at flip_flop e.1).width == 1)) (events_of (process_at flip_flop p)) ≡ true
    event_bits zero = refl
    event_bits (suc p) = refl

    not_both : (p q x : ℕ) → body_blocks x (body_at flip_flop p) ≡ true → body_queues x (body_at flip_flop q) ≡ true → ⊥
    not_both zero q x a b = false≢true a
    not_both (suc p) q x a b = false≢true a

values_by : (a : Bit) (b c : Bool) (t : ℕ) → nat_le 10 t ≡ b → nat_le 5 t ≡ c → (flip_flop_dump a).values t ≡ (if b then flip_flop_values Zero a One else (if c then flip_flop_values One a One else flip_flop_values Zero One X))
values_by a b c t e f = rw (e, f) refl

early_same : (a : Bit) (t : ℕ) → t < 4 → (flip_flop_dump a).values (suc t) ≡ (flip_flop_dump a).values t
early_same a t h = values_by a false false (suc t) (lt-leb 10 (suc t) (omega arith)) (lt-leb 5 (suc t) (omega arith)) ∙ sym (values_by a false false t (lt-leb 10 t (omega arith)) (lt-leb 5 t (omega arith)))

mid : (a : Bit) (t : ℕ) → 4 ≤ t → t < 9 → (IsListed (flip_flop_dump a) (suc t) → ⊥) → (flip_flop_dump a).values (suc t) ≡ (flip_flop_dump a).values t
mid a t from to none = ⊎_elim (λ is. absurd (none (inr (inl (omega (arith, is)))))) (λ over. values_by a false true (suc t) (lt-leb 10 (suc t) (omega arith)) (le-leb 5 (suc t) (omega arith)) ∙ sym (values_by a false true t (lt-leb 10 t (omega arith)) (le-leb 5 t (omega (arith, over))))) (least t from)
  where
    least : (t : ℕ) → 4 ≤ t → (t ≡ 4) ⊎ (5 ≤ t)
    least t h = ⊎_elim (λ u. inl (omega (arith, u, h))) (λ o. inr o) (cases_lt t 5)

late : (a : Bit) (t : ℕ) → 9 ≤ t → (IsListed (flip_flop_dump a) (suc t) → ⊥) → (flip_flop_dump a).values (suc t) ≡ (flip_flop_dump a).values t
late a t from none = ⊎_elim (λ is. absurd (none (inr (inr (inl (omega (arith, is))))))) (λ over. values_by a true true (suc t) (le-leb 10 (suc t) (omega (arith, over))) (le-leb 5 (suc t) (omega (arith, over))) ∙ sym (values_by a true true t (le-leb 10 t over) (le-leb 5 t (omega (arith, over))))) (least t from)
  where
    least : (t : ℕ) → 9 ≤ t → (t ≡ 9) ⊎ (10 ≤ t)
    least t h = ⊎_elim (λ u. inl (omega (arith, u, h))) (λ o. inr o) (cases_lt t 10)

pub flip_flop_fits : (a : Bit) → IsDumpOf flip_flop (flip_flop_dump a)
flip_flop_fits a = record { rising = (lit< tt, (lit< tt, tt)); signals = λ s b. ltb-true s 3 b; inputs = λ c i. input_bound c.thing c.place i; stays = stays }
  where
    stays : (t : ℕ) → (IsListed (flip_flop_dump a) (suc t) → ⊥) → (flip_flop_dump a).values (suc t) ≡ (flip_flop_dump a).values t
    stays t none = ⊎_elim (λ early. early_same a t early) (λ later. ⊎_elim (λ five. mid a t later five none) (λ ten. late a t ten none) (cases_lt t 9)) (cases_lt t 4)

-- where a is not early line 2 is hit in every run that shows the dump
pub line_two_hit : (h : Habit) (a : Bit) → ((x : ℕ) → IsEarlyAt flip_flop h (flip_flop_dump a) 5 0 (cell 0 0) x → ⊥) → (r : Run) → IsRun flip_flop h r → Shows flip_flop (flip_flop_dump a) r → IsHit flip_flop (flip_flop_dump a) r line_two
line_two_hit h a not_early r is_run shows =
    reached_law flip_flop h flip_flop_lawful (step_laws (machine flip_flop) (machine_lawful flip_flop flip_flop_lawful) h) (flip_flop_dump a) r 5 (flip_flop_fits a).signals (record { is_run = is_run; shows = record { starts = shows.starts; shows = λ t now le. shows.shows t now } }) 0 line_two (reached_two h a not_early)
