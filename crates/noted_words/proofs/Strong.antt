-- A run that evaluates the body leaves each word that it does not mark to be written.
use Rattle.std.proofs.Common.{◌≡◌, inl, inr, ℕ, Bool, true, false, List, [], ◌∷◌, ◌++◌, map, refl, ap₂, ◌∙◌, Option, Some, None, if◌then◌else◌}
use Rattle.design_model.specs.event_machine.Cell.{Cell}
use Rattle.design_model.specs.four_state.declared.operator.CaseKind.{CaseKind}
use Rattle.design_model.specs.Tree.{Term, Target, Stmt, block, branch, select, turns, set, empty, Stmts, no_stmts, a_stmt, Arms, no_arms, arm}
use Rattle.design_model.specs.Design.{Design, In, is_memory, memory_at, word_cells}
use Rattle.design_model.specs.Execution.{is_default}
use Rattle.design_model.specs.Shape.{is_target}
use Rattle.design_model.proofs.Execution.{EachSet, EachSetOf, EachSetIn}
use Rattle.known_state.specs.Join.{join_bit}
use Rattle.body_replay.specs.KnownBits.{KnownBits, holds, known_truth}
use Rattle.body_replay.specs.Store.{KnownWrite, known_value, set_bits, words}
use Rattle.body_replay.specs.Replay.{HasMark, Mark, Mode, Spot, State, again, blame_of, decide, deeper, evaluate_known, hit, in_mode, index_first, index_marks, joined_states, labels_blame, labels_match, line, queued, reach, run, run_all, run_arms, run_default, run_set, see_labels, set_known, set_marks, term_marks, word_write, written_marks}
use Rattle.body_replay.proofs.Frames.{Misses, QueueMisses, join_self, miss_weaken, missed, queue_more}
use Rattle.body_replay.proofs.Marks.{mark_left, mark_right}
use Rattle.noted_words.proofs.Targets.{target_misses}

-- a mark keeps its spot in each mode
in_mode_spot : (mode : Mode) (m : Mark) → (in_mode mode m).spot ≡ m.spot
in_mode_spot None m = refl
in_mode_spot (Some blame) m = refl

moded : (mode : Mode) (x : Spot) (ms : List Mark) → HasMark x ms → HasMark x (map (in_mode mode) ms)
moded mode x [] h = absurd h
moded mode x (m ∷ ms) (inl e) = inl (in_mode_spot mode m ∙ e)
moded mode x (m ∷ ms) (inr h) = inr (moded mode x ms h)

module _ (d : Design) (m i : ℕ) (is_memory_m : is_memory d m ≡ true) (among : In i (words (memory_at d m))) (c : Cell) (at : In c (word_cells d m i)) where
  abbrev x : Spot
  x = word_write m i

  -- from one state of a run to a later one: marks stay, and where the word is not marked the cell stays
  pub record Led (a b : State) : Type 0 where
    pub grows : HasMark x a.marks → HasMark x b.marks
    pub kept : (HasMark x b.marks → ⊥) → b.kept c ≡ a.kept c
    pub queue : (HasMark x b.marks → ⊥) → QueueMisses c a.queue → QueueMisses c b.queue

  stays : (a : State) → Led a a
  stays a = record { grows = λ h. h; kept = λ un. refl; queue = λ un q. q }

  then_ : (a b e : State) → Led a b → Led b e → Led a e
  then_ a b e f g = record { grows = λ h. g.grows (f.grows h); kept = λ un. g.kept un ∙ f.kept (λ h. un (g.grows h)); queue = λ un q. g.queue un (f.queue (λ h. un (g.grows h)) q) }

  marked : (a : State) (first : Option ℕ) (ms : List Mark) → Led a (record a { first = first; marks = a.marks ++ ms })
  marked a first ms = record { grows = λ h. mark_left x a.marks ms h; kept = λ un. refl; queue = λ un q. q }

  abbrev Leads : (Mode → State → State) → Type 0
  Leads f = (mode : Mode) (a : State) → Led a (f mode a)

  joined : (test : ℕ) (a left right : State) → Led a left → Led (again a left) right → Led a (joined_states d test left right)
  joined test a left right f g =
      record {
        grows = λ h. g.grows (f.grows h);
        kept = λ un. ap₂ join_bit (f.kept (λ h. un (g.grows h))) (g.kept un) ∙ join_self (a.kept c);
        queue = λ un q. g.queue un (f.queue (λ h. un (g.grows h)) q);
      }

  decided : (test : ℕ) (f g : Mode → State → State) → Leads f → Leads g → (o : Option Bool) (mode : Mode) (a : State) → Led a (decide d mode test f g o a)
  decided test f g hf hg (Some true) mode a = hf mode a
  decided test f g hf hg (Some false) mode a = hg mode a
  decided test f g hf hg None mode a =
      let left : State = f (deeper mode test) a in
      joined test a left (g (deeper mode test) (again a left)) (hf (deeper mode test) a) (hg (deeper mode test) (again a left))

  -- what an assignment marks of its target
  of_set : (n : ℕ) (y : Target) (t : Term) (mode : Mode) (a : State) → (HasMark x (a.marks ++ map (in_mode mode) (set_marks d n y t a)) → ⊥) → HasMark x (written_marks d a.kept a.blames a.first y) → ⊥
  of_set n y t mode a un h =
      un (mark_right x a.marks (map (in_mode mode) (set_marks d n y t a)) (moded mode x (set_marks d n y t a)
      (mark_right x ((hit (line n) ∷ index_marks d a.kept a.blames a.first y) ++ term_marks d a.kept a.blames (index_first d a.kept a.blames a.first y) t) (written_marks d a.kept a.blames a.first y) h)))

  misses : (y : Target) (t : Term) (a : State) → is_target d y ≡ true → (HasMark x (written_marks d a.kept a.blames a.first y) → ⊥) → Misses c (set_known d y t a)
  misses y t a is un = target_misses d m i is_memory_m among c at a.kept a.blames a.first y (set_bits d a.kept y t) is un

  queued_missed : (mode : Mode) (ks : List KnownWrite) → Misses c ks → Misses c (queued mode ks)
  queued_missed None ks h = h
  queued_missed (Some blame) ks h = miss_weaken c ks h

  abbrev IsTarget : ℕ → Bool → Target → Term → Type 0
  IsTarget n b y t = is_target d y ≡ true

  set_leads : (n : ℕ) (b : Bool) (y : Target) (t : Term) → is_target d y ≡ true → (mode : Mode) (a : State) → Led a (run_set d mode n b y t a)
  set_leads n true y t is mode a =
      record {
        grows = λ h. mark_left x a.marks (map (in_mode mode) (set_marks d n y t a)) h;
        kept = λ un. missed c (set_known d y t a) a.kept (misses y t a is (of_set n y t mode a un));
        queue = λ un q. q;
      }
  set_leads n false y t is mode a =
      record {
        grows = λ h. mark_left x a.marks (map (in_mode mode) (set_marks d n y t a)) h;
        kept = λ un. refl;
        queue = λ un q. queue_more c a.queue (queued mode (set_known d y t a)) q (queued_missed mode (set_known d y t a) (misses y t a is (of_set n y t mode a un)));
      }

  mutual
    pub run_leads : (s : Stmt) → EachSet IsTarget s → (mode : Mode) (a : State) → Led a (run d s mode a)
    run_leads (block p ss) e mode a = all_lead ss e mode a
    run_leads (branch p n t s other) e mode a =
        let b : State = reach mode n a in
        then_ a b _ (marked a _ _) (then_ b (evaluate_known d mode t b) _ (marked b _ _)
        (decided (blame_of d b.kept b.blames b.first t) (run d s) (run_all d other) (run_leads s e.0) (all_lead other e.1) (holds (known_truth (known_value d b.kept t))) mode (evaluate_known d mode t b)))
    run_leads (select p n kind t arms) e mode a =
        let b : State = reach mode n a in
        then_ a b _ (marked a _ _) (then_ b (evaluate_known d mode t b) _ (marked b _ _)
        (arms_lead kind (known_value d b.kept t) (blame_of d b.kept b.blames b.first t) arms e (run_default d arms) (default_leads arms e) mode (evaluate_known d mode t b)))
    run_leads (turns p n ss) e mode a = then_ a (reach mode n a) _ (marked a _ _) (all_lead ss e mode (reach mode n a))
    run_leads (set p n b y t) e mode a = set_leads n b y t e mode a
    run_leads (empty p) e mode a = stays a

    all_lead : (ss : Stmts) → EachSetOf IsTarget ss → (mode : Mode) (a : State) → Led a (run_all d ss mode a)
    all_lead no_stmts e mode a = stays a
    all_lead (a_stmt s ss) e mode a = then_ a (run d s mode a) _ (run_leads s e.0 mode a) (all_lead ss e.1 mode (run d s mode a))

    arms_lead : (kind : CaseKind) (on : KnownBits) (on_blame : ℕ) (arms : Arms) → EachSetIn IsTarget arms → (otherwise : Mode → State → State) → Leads otherwise → (mode : Mode) (a : State) → Led a (run_arms d kind on on_blame arms otherwise mode a)
    arms_lead kind on on_blame no_arms e otherwise o mode a = o mode a
    arms_lead kind on on_blame (arm labels s arms) e otherwise o mode a =
        then_ a (see_labels d mode kind on on_blame labels a) _ (marked a _ _)
        (decided (labels_blame d kind on on_blame a.kept a.blames a.first labels) (run d s) (run_arms d kind on on_blame arms otherwise) (run_leads s e.0) (arms_lead kind on on_blame arms e.1 otherwise o) (labels_match d kind on a.kept labels) mode (see_labels d mode kind on on_blame labels a))

    default_leads : (arms : Arms) → EachSetIn IsTarget arms → (mode : Mode) (a : State) → Led a (run_default d arms mode a)
    default_leads no_arms e mode a = stays a
    default_leads (arm labels s arms) e mode a = go (is_default labels) (run_leads s e.0 mode a) (default_leads arms e.1 mode a)
      where
        go : (t : Bool) → Led a (run d s mode a) → Led a (run_default d arms mode a) → Led a (if t then run d s mode a else run_default d arms mode a)
        go true p q = p
        go false p q = q
