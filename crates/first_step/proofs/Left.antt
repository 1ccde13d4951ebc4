-- What runs of a list in the first step of a stretch, and what that makes.
use Rattle.std.proofs.Common.{◌≡◌, ◌⊎◌, inl, inr, ◌∙◌, ℕ, ◌+◌, ◌<◌, ◌≤◌, ◌==◌, Bool, true, false, if◌then◌else◌, List, [], ◌∷◌, ◌++◌, length, get_or, take, None, refl, sym, ap, arith}
use Rattle.std.specs.List.{All}
use Rattle.std.proofs.lemmas.Bool.{cases_Bool, eqb-true, false_from_ne_true, or_cases, true≢false}
use Rattle.std.proofs.lemmas.List.{length-append, take_more}
use Rattle.std.proofs.lemmas.List.Elements.{All-from_get_or, Contains-get_or, filter-append}
use Rattle.event_machine.specs.Cell.{Cell, Values}
use Rattle.four_state.specs.declared.bit.Bit.{Bit}
use Rattle.design_model.specs.Design.{AreDistinct, Design, In, IsClocked, IsComb, body_at, process_at}
use Rattle.design_model.specs.Tree.{Process, assign, clocked, comb}
use Rattle.design_model.specs.Mentions.{blocking_target}
use Rattle.body_replay.specs.Contract.{quiet}
use Rattle.body_replay.specs.Runs.{Runs}
use Rattle.process_order.proofs.Distinct.{contains_in, in_either, in_filter, in_left, in_right}
use Rattle.process_order.specs.replay_model.Start.{Starting, after_first, all_first, first_kept, first_store, run_all_first, run_first, runs_first}
use Rattle.process_order.specs.replay_model.Step.{Replay, settled_kept}
use Rattle.process_order.specs.replay_model.Tables.{AreTables, Tables}
use Rattle.process_order.proofs.replay_model.Clocked.{at_false, at_true}
use Rattle.wake_list.specs.Members.{IsOnce, has}
use Rattle.wake_list.proofs.MemberLemmas.{once_few}
use Rattle.first_step.specs.Begun.{AreActed, all_left, flag_of, is_left, is_left_by}

-- ---- a list and one more

pub left_more : (d : Design) (acted : List Bool) (ps : List ℕ) (i e : ℕ) → i < length ps → all_left d acted (take (i + 1) ps) ≡ all_left d acted (take i ps) ++ all_left d acted (get_or ps i e ∷ [])
left_more d acted ps i e l = ap (all_left d acted) (take_more ps i e l) ∙ filter-append (is_left d acted) (take i ps) (get_or ps i e ∷ [])

pub left_few : (d : Design) (acted : List Bool) (ps : List ℕ) → length (all_left d acted ps) ≤ length ps
left_few d acted [] = omega arith
left_few d acted (p ∷ ps) = go (is_left d acted p) (left_few d acted ps)
  where
    go : (t : Bool) → length (all_left d acted ps) ≤ length ps → length (if t then p ∷ all_left d acted ps else all_left d acted ps) ≤ length (p ∷ ps)
    go true l = omega (arith, l)
    go false l = omega (arith, l)

pub left_one : (d : Design) (acted : List Bool) (p : ℕ) → is_left d acted p ≡ true → all_left d acted (p ∷ []) ≡ p ∷ []
left_one d acted p e = ap (λ t. if t then p ∷ [] else []) e

pub left_none : (d : Design) (acted : List Bool) (p : ℕ) → is_left d acted p ≡ false → all_left d acted (p ∷ []) ≡ []
left_none d acted p e = ap (λ t. if t then p ∷ [] else []) e

-- what runs is no Clocked
pub left_settles : (x : Process) (acted : Bool) → is_left_by x acted ≡ true → IsClocked x → ⊥
left_settles (assign i y t counted) acted e h = h
left_settles (comb i wakes b) acted e h = h
left_settles (clocked i events b) acted e h = absurd (true≢false (sym e))

left_by : (x : Process) (a b : Bool) → (IsComb x → b ≡ a) → is_left_by x a ≡ is_left_by x b
left_by (assign i y t counted) a b same = refl
left_by (comb i wakes s) a b same = sym (same tt)
left_by (clocked i events s) a b same = refl

-- by the flags and by the definition the same runs
pub runs_as : (d : Design) (bound : ℕ → Bool) (run : Runs) (tables : Tables) (new : Values Bit) (before : Replay) (acted : List Bool) (p : ℕ) → AreActed d acted before → runs_first d bound run tables new before p ≡ is_left d acted p
runs_as d bound run tables new before acted p are = left_by (process_at d p) (before.acted p) (flag_of acted p) (are p)

module _ (d : Design) (bound : ℕ → Bool) (run : Runs) (tables : Tables) (new : Values Bit) (before : Replay) (ordered : Bool) where
  runs_push : (ps : List ℕ) (p : ℕ) (w : Starting) → run_all_first d bound run tables new before ordered (ps ++ p ∷ []) w ≡ run_first d bound run tables new before ordered p (run_all_first d bound run tables new before ordered ps w)
  runs_push [] p w = refl
  runs_push (q ∷ ps) p w = runs_push ps p (run_first d bound run tables new before ordered q w)

  pub runs_more : (ps : List ℕ) (i e : ℕ) (w : Starting) → i < length ps
      → run_all_first d bound run tables new before ordered (take (i + 1) ps) w ≡ run_first d bound run tables new before ordered (get_or ps i e) (run_all_first d bound run tables new before ordered (take i ps) w)
  runs_more ps i e w l = ap (λ qs. run_all_first d bound run tables new before ordered qs w) (take_more ps i e l) ∙ runs_push (take i ps) (get_or ps i e) w

  -- the others do not run
  pub passed_over : (p : ℕ) (w : Starting) → runs_first d bound run tables new before p ≡ false → run_first d bound run tables new before ordered p w ≡ w
  passed_over p w e = at_false (λ z. z ≡ w) (runs_first d bound run tables new before p) _ w e refl

-- what runs of two lists, one after the other
pub both_ran : (d : Design) (acted : List Bool) (order last xs ys zs : List ℕ) → xs ≡ [] → ys ≡ xs ++ all_left d acted order → zs ≡ ys ++ all_left d acted last → zs ≡ all_left d acted (order ++ last)
both_ran d acted order last xs ys zs none first second =
    second ∙ ap (λ us. us ++ all_left d acted last) (first ∙ ap (λ us. us ++ all_left d acted order) none) ∙ sym (filter-append (is_left d acted) order last)

-- ---- the tables

has_in : (p : ℕ) (ps : List ℕ) → has p ps ≡ true → In p ps
has_in p [] h = absurd (true≢false (sym h))
has_in p (q ∷ ps) h = elim (or_cases (p == q) (has p ps) h) [ inl e ↦ inl (sym (eqb-true p q e)) | inr r ↦ inr (has_in p ps r) ]

once_of : (ps : List ℕ) → AreDistinct ps → IsOnce ps
once_of [] h = tt
once_of (p ∷ ps) h = (false_from_ne_true (has p ps) (λ e. h.0 (has_in p ps e)), once_of ps h.1)

pub all_below : (n : ℕ) (ps : List ℕ) → ((p : ℕ) → In p ps → p < n) → All (λ p. p < n) ps
all_below n ps below = All-from_get_or (λ p. p < n) ps 0 (λ k l. below (get_or ps k 0) (contains_in (get_or ps k 0) ps (Contains-get_or ps k 0 l)))

right_distinct : (ps qs : List ℕ) → AreDistinct (ps ++ qs) → AreDistinct qs
right_distinct [] qs h = h
right_distinct (p ∷ ps) qs h = right_distinct ps qs h.1

module _ (d : Design) (bound : ℕ → Bool) (tables : Tables) (tabled : AreTables d bound tables) where
  pub listed_below : (p : ℕ) → In p tables.order ⊎ In p tables.last → p < length d.processes
  listed_below p i = ((tabled.others p).0 i).0

  -- each process is listed once
  pub few_listed : length tables.order + length tables.last ≤ length d.processes
  few_listed =
      let few = once_few (tables.order ++ tables.last) (length d.processes) (once_of (tables.order ++ tables.last) (right_distinct tables.clocked (tables.order ++ tables.last) tabled.once)) (λ p h. listed_below p (in_either p tables.order tables.last (has_in p (tables.order ++ tables.last) h))) in
      omega (arith, few, length-append tables.order tables.last)

  -- the processes of both lists, and what runs of them, are processes of the design
  module _ (n : ℕ) (count : length d.processes ≡ n) where
    pub order_below : All (λ p. p < n) tables.order
    order_below = all_below n tables.order (λ p i. let l = listed_below p (inl i) in omega (arith, l, count))

    pub last_below : All (λ p. p < n) tables.last
    last_below = all_below n tables.last (λ p i. let l = listed_below p (inr i) in omega (arith, l, count))

    pub ran_below : (acted : List Bool) → All (λ p. p < n) (all_left d acted (tables.order ++ tables.last))
    ran_below acted = all_below n (all_left d acted (tables.order ++ tables.last)) (λ p i. let l = listed_below p (in_either p tables.order tables.last (in_filter (is_left d acted) p (tables.order ++ tables.last) i).0) in omega (arith, l, count))

-- ---- what is made of a cell

module _ (d : Design) (bound : ℕ → Bool) (run : Runs) (tables : Tables) (new : Values Bit) (before : Replay) (c : Cell) where
  -- something of a list that runs may write the cell
  abbrev pub IsMadeBy : List ℕ → Type 0
  IsMadeBy ps = (p : ℕ) × In p ps × (runs_first d bound run tables new before p ≡ true) × (blocking_target d (body_at d p) c ≡ true)

  made_one : (ordered : Bool) (p : ℕ) (ps : List ℕ) (w : Starting) → ((run_first d bound run tables new before ordered p w).made c ≡ w.made c) ⊎ IsMadeBy (p ∷ ps)
  made_one ordered p ps w = elim (cases_Bool (runs_first d bound run tables new before p)) [
    | inr passed ↦ inl (ap (λ (z : Starting). z.made c) (passed_over d bound run tables new before ordered p w passed))
    | inl runs ↦ elim (cases_Bool (blocking_target d (body_at d p) c)) [
      | inl writes ↦ inr (p, inl refl, runs, writes)
      | inr not ↦ inl (at_true (λ (z : Starting). z.made c ≡ w.made c) (runs_first d bound run tables new before p) (after_first d bound run tables new before ordered p (run p (first_store d bound run tables new before (settled_kept d p w.kept)) quiet) w) w runs
          (at_false (λ z. z ≡ w.made c) (blocking_target d (body_at d p) c) ((run p (first_store d bound run tables new before (settled_kept d p w.kept)) quiet).kept c) (w.made c) not refl))
    ]
  ]

  made_by : (ordered : Bool) (ps : List ℕ) (w : Starting) → ((run_all_first d bound run tables new before ordered ps w).made c ≡ w.made c) ⊎ IsMadeBy ps
  made_by ordered [] w = inl refl
  made_by ordered (p ∷ ps) w = elim (made_by ordered ps (run_first d bound run tables new before ordered p w)) [
    | inl same ↦ elim (made_one ordered p ps w) [ inl one ↦ inl (same ∙ one) | inr by ↦ inr by ]
    | inr by ↦ inr (by.0, inr by.1, by.2, by.3)
  ]

  -- nothing is made of what nothing that runs may write
  pub all_made : ((all_first d bound run tables new before).made c ≡ None) ⊎ IsMadeBy (tables.order ++ tables.last)
  all_made =
      let start : Starting = record { kept = first_kept d bound run tables new before; made = λ b. None } in
      elim (made_by false tables.last (run_all_first d bound run tables new before true tables.order start)) [
        | inr by ↦ inr (by.0, in_right by.0 tables.order tables.last by.1, by.2, by.3)
        | inl last ↦ elim (made_by true tables.order start) [
          | inr by ↦ inr (by.0, in_left by.0 tables.order tables.last by.1, by.2, by.3)
          | inl first ↦ inl (last ∙ first)
        ]
      ]
