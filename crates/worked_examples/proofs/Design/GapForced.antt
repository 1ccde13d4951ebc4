-- The window of a dump that goes off and on, and what is forced at the first time of its second stretch.
use Rattle.std.proofs.Common.{◌≡◌, ◌≢◌, ◌<◌, ◌≤◌, ◌&&◌, ◌==◌, length, inl, inr, ⊎_elim, refl, sym, ◌∙◌, ℕ, zero, suc, true, false, [], ◌∷◌, arith, lit<, lit≤, true≢false}
use Rattle.std.specs.Prelude.{nat_lt}
use Rattle.std.specs.List.{list_all}
use Rattle.std.proofs.lemmas.Bool.{eqb-true, false≢true, ltb-true}
use Rattle.event_machine.specs.Cell.{Values, put}
use Rattle.event_machine.specs.Habit.{Free}
use Rattle.four_state.specs.declared.bit.Bit.{Bit}
use Rattle.four_state.specs.declared.bit.Bit.TheVariants.{One, Zero}
use Rattle.design_model.specs.Design.{In, IsAssign, IsComb, a_signal, body_at, is_number, path_of, process_at, signal_at}
use Rattle.design_model.specs.Mentions.{body_assigns, body_blocks, body_queues}
use Rattle.design_model.specs.Execution.{execution}
use Rattle.design_model.specs.Reads.{Agrees, HasValue}
use Rattle.design_model.specs.Paths.{reads_signal_before_writing}
use Rattle.design_model.specs.Numbered.{LineAt, NodeAt, lines_of, nodes_of}
use Rattle.design_model.specs.Machine.{events_of, is_level, machine}
use Rattle.design_model.specs.Shows.{IsContradicted, IsShown, IsWindow}
use Rattle.design_model.specs.Clear.{HasChanged, IsCombValue, IsForced, IsSignal, bits_after, clear, first_comb, of_dump}
use Rattle.design_model.specs.Shape.{is_body}
use Rattle.design_model.specs.WellFormed.{is_well_formed_body}
use Rattle.design_model.specs.Lawful.{IsLawfulDesign, target_once, wakes_of}
use Rattle.design_model.proofs.Assigns.{machine_lawful}
use Rattle.design_model.proofs.ForcedSound.{contradiction_law}
use Rattle.design_model.proofs.StepLaws.{step_laws}
use Rattle.worked_examples.proofs.Design.LawfulParts.{other_name}
use Rattle.worked_examples.specs.Design.Gap.{IsGapExample, buffer, gap_dump}

-- ---- the design is lawful

no_assign : (p : ℕ) → IsAssign (process_at buffer p) → ⊥
no_assign zero h = h
no_assign (suc p) h = h

-- process 0 writes signal 1
writes : (p x : ℕ) → body_assigns x (body_at buffer p) ≡ true → (x ≡ 1) × (p ≡ 0)
writes zero x h = (sym (eqb-true 1 x h), refl)
writes (suc p) x h = absurd (false≢true h)

lines_once : (p q : ℕ) (x y : LineAt) → In x (lines_of (process_at buffer p)) → In y (lines_of (process_at buffer q)) → (p ≡ q) × (x ≡ y)
lines_once zero zero x y (inl a) (inl b) = (refl, sym a ∙ b)
lines_once zero q x y (inr none) b = absurd none
lines_once zero zero x y (inl a) (inr none) = absurd none
lines_once zero (suc q) x y (inl a) none = absurd none
lines_once (suc p) q x y none b = absurd none

no_node : (p : ℕ) (x : NodeAt) → In x (nodes_of (process_at buffer p)) → ⊥
no_node zero x h = h
no_node (suc p) x h = h

is_lawful : IsLawfulDesign buffer
is_lawful =
    record {
      signals = refl;
      memories = refl;
      instances = refl;
      bodies = bodies;
      well_formed = well_formed;
      constants = refl;
      aliases = refl;
      lists = lists;
      instance_paths = (λ h. h, tt);
      names = (⊎_elim (λ e. other_name 121 97 e refl refl (λ z. omega (arith, z))) (λ none. none), ((λ none. none), tt));
      short_instances = refl;
      short_paths = short_paths;
      few_signals = lit≤ tt;
      few_processes = lit≤ tt;
      few_words = lit≤ tt;
      few_instances = lit≤ tt;
      few_statements = lit≤ tt;
      lines_once = λ p q x y a b i e. lines_once p q x y a b;
      nodes_once = λ p q x y a b i e. absurd (no_node p x a);
      one_writer = λ p q x np nq a b. let first = (writes p x a).1 in let second = (writes q x b).1 in omega (arith, first, second);
      one_driver = λ p q c a b w v. absurd (no_assign p a);
      apart = λ p q x a w v. absurd (no_assign p a);
      no_input = no_input;
      not_both = not_both;
      targets = targets;
      comb_writes = comb_writes;
      reads_no_own = λ p c a. absurd (no_assign p a);
      events = event_bits;
    }
  where
    bodies : (p : ℕ) → is_body buffer (body_at buffer p) ≡ true
    bodies zero = refl
    bodies (suc p) = refl

    well_formed : (p : ℕ) → is_well_formed_body buffer (body_at buffer p) ≡ true
    well_formed zero = refl
    well_formed (suc p) = refl

    lists : (p : ℕ) → list_all (λ x. nat_lt x (length buffer.signals)) (wakes_of (process_at buffer p)) ≡ true
    lists zero = refl
    lists (suc p) = refl

    short_paths : (x : ℕ) → is_number buffer x ≡ true → length (path_of buffer x) ≤ 256
    short_paths zero h = lit≤ tt
    short_paths (suc zero) h = lit≤ tt
    short_paths (suc (suc x)) h = absurd (omega (arith, ltb-true (suc (suc x)) 2 h))

    no_input : (p s : ℕ) → body_assigns s (body_at buffer p) ≡ true → (signal_at buffer s).input ≡ false
    no_input p zero a = absurd (let is = (writes p 0 a).0 in omega (arith, is))
    no_input p (suc zero) a = refl
    no_input p (suc (suc s)) a = refl

    targets : (p : ℕ) → target_once (process_at buffer p) buffer ≡ true
    targets zero = refl
    targets (suc p) = refl

    comb_writes : (p x : ℕ) → IsComb (process_at buffer p) → body_assigns x (body_at buffer p) ≡ true → x < length buffer.signals
    comb_writes p x c a = let is = (writes p x a).0 in omega (arith, is)

    event_bits : (p : ℕ) → list_all (λ e. nat_lt e.1 (length buffer.signals) && ((signal_at buffer e.1).width == 1)) (events_of (process_at buffer p)) ≡ true
    event_bits zero = refl
    event_bits (suc p) = refl

    not_both : (p q x : ℕ) → body_blocks x (body_at buffer p) ≡ true → body_queues x (body_at buffer q) ≡ true → ⊥
    not_both p zero x a b = false≢true b
    not_both p (suc q) x a b = false≢true b

-- ---- the times

low : (t : ℕ) → In t (0 ∷ 5 ∷ 10 ∷ []) → t ≤ 10
low t (inl e) = omega (arith, e)
low t (inr (inl e)) = omega (arith, e)
low t (inr (inr (inl e))) = omega (arith, e)
low t (inr (inr (inr none))) = absurd none

high : (t : ℕ) → In t (20 ∷ 25 ∷ 30 ∷ []) → 20 ≤ t
high t (inl e) = omega (arith, e)
high t (inr (inl e)) = omega (arith, e)
high t (inr (inr (inl e))) = omega (arith, e)
high t (inr (inr (inr none))) = absurd none

not_between : (b : Bit) (t : ℕ) → 10 ≤ t → t ≤ 20 → IsWindow (gap_dump b) t → ⊥
not_between b t from until (inl window) = omega (arith, from, window.1)
not_between b t from until (inr window) = omega (arith, until, window.0)

none_shown : (b : Bit) (t : ℕ) → 9 < t → t < 20 → IsShown (gap_dump b) t → ⊥
none_shown b t after before (inl shown) = omega (arith, after, shown.1)
none_shown b t after before (inr shown) = omega (arith, before, shown.0)

-- ---- what is forced

zero_one : Zero ∷ [] ≢ One ∷ []
zero_one = grind arith

module _ (b : Bit) where
  -- a is clear at 20
  knows_a : clear buffer Free (gap_dump b) 20 (a_signal 0) (Zero ∷ [])
  knows_a = (1, of_dump 0 (Zero ∷ []) (inr (lit≤ tt, lit< tt)) refl (lit< tt) refl)

  all_clear : (x : ℕ) → is_level (process_at buffer 0) x ≡ true → body_assigns x (body_at buffer 0) ≡ false → IsSignal buffer x → HasValue (clear buffer Free (gap_dump b) 20) (a_signal x)
  all_clear zero level own below = (Zero ∷ [], knows_a)
  all_clear (suc zero) level own below = absurd (true≢false own)
  all_clear (suc (suc x)) level own below = absurd (omega (arith, below))

  writes_first : (x : ℕ) → body_assigns x (body_at buffer 0) ≡ true → reads_signal_before_writing buffer (body_at buffer 0) x ≡ false
  writes_first zero a = absurd (false≢true a)
  writes_first (suc zero) a = refl
  writes_first (suc (suc x)) a = absurd (let is = (writes 0 (suc (suc x)) a).0 in omega (arith, is))

  -- a has changed at 5
  has_changed : HasChanged (gap_dump b) buffer (body_at buffer 0) 20
  has_changed = record { by = 0; time = 5; mentioned = refl; is_bound = refl; until = lit≤ tt; in_window = inl (lit< tt, lit< tt); changed = zero_one }

  gives : (v : Values Bit) → Agrees buffer (clear buffer Free (gap_dump b) 20) v → bits_after buffer v (execution buffer (body_at buffer 0) v).blocking (a_signal 1) ≡ Zero ∷ []
  unfolding put
  gives v agrees = agrees (a_signal 0) (Zero ∷ []) knows_a

  made : IsCombValue buffer (gap_dump b) 20 (clear buffer Free (gap_dump b) 20) 0 1 (Zero ∷ [])
  made =
      record {
        is_signal = lit< tt;
        is_comb = tt;
        target = refl;
        written_whole = refl;
        writes_first = writes_first;
        all_clear = all_clear;
        within = λ v agrees. (tt, ((Zero ∷ [], knows_a), tt));
        has_changed = has_changed;
        gives = gives;
      }

  is_forced : IsForced buffer Free (gap_dump b) 20 1 (Zero ∷ [])
  is_forced =
      record {
        is_bound = refl;
        no_input = refl;
        is_signal = lit< tt;
        is_listed = inr (inl refl);
        is_shown = inr (lit≤ tt, lit< tt);
        forced = first_comb 0 (inr refl) made;
      }

is_contradicted : IsContradicted buffer Free (gap_dump One) 20
is_contradicted = contradiction_law buffer is_lawful Free (step_laws (machine buffer) (machine_lawful buffer is_lawful) Free) (gap_dump One) 20 1 (Zero ∷ []) (λ s b. ltb-true s 2 b) (is_forced One) one_zero
  where
    one_zero : One ∷ [] ≢ Zero ∷ []
    one_zero = grind arith

pub gap_example : IsGapExample
gap_example =
    record {
      in_order = λ b. ((lit< tt, (lit< tt, tt)), ((λ t u first second. let before = low t first in let after = high u second in omega (arith, before, after)), tt), (lit< tt, (lit< tt, tt)));
      in_first = λ b. inl (lit< tt, lit< tt);
      in_second = λ b. inr (lit< tt, lit< tt);
      not_between = not_between;
      none_shown = none_shown;
      begins = λ b. inr refl;
      forced = is_forced;
      contradicted = is_contradicted;
    }
