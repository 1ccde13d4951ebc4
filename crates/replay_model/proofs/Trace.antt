-- What a closing step reports to the marks: the notes of which runs, on which stores.
use Rattle.std.proofs.Common.{◌≡◌, ◌⊎◌, inl, inr, ⊎_elim, ℕ, suc, ◌≤◌, Bool, true, false, ◌||◌, ◌==◌, List, [], ◌∷◌, ◌++◌, refl, sym, subst, ◌∙◌, Option, Some, None, if◌then◌else◌}
use Rattle.std.proofs.lemmas.Bool.{both_ways, cases_Bool, or_left, or_right}
use Rattle.std.proofs.lemmas.Bool.{eq-eqb}
use Rattle.event_machine.specs.Cell.{Cell}
use Rattle.event_machine.specs.Habit.{Habit}
use Rattle.event_machine.specs.Laws.{EarlyLaw}
use Rattle.design_model.specs.Design.{AreDistinct, Design, In, cell}
use Rattle.design_model.specs.Machine.{machine}
use Rattle.design_model.specs.Shows.{BoundDump}
use Rattle.design_model.specs.Lawful.{IsLawfulDesign}
use Rattle.design_model.specs.declared.point.Point.{Point}
use Rattle.body_replay.specs.Contract.{Doubted, Note, clean, weak}
use Rattle.body_replay.specs.Runs.{AreRuns, Runs, StoreView, seen_of}
use Rattle.replay_model.specs.Sets.{AreSets, Sets}
use Rattle.replay_model.specs.Tables.{Tables}
use Rattle.replay_model.specs.Marks.{IsKeyOf, IsDoubtMarked, IsHitMarked, Marking, markings_by}
use Rattle.replay_model.specs.Step.{Closing, Replay, Working, all_run, certainty, clean_order, clean_store, clocked_run, entry, entry_kept, is_touched, opened, plain_store, run_all_clean, run_all_settling, run_all_weak, run_clean, run_settling, run_weak, settle_start, settled_kept}
use Rattle.replay_model.specs.Laws.{closing_at}
use Rattle.replay_model.proofs.Bits.{in_halves, in_left, in_right}
use Rattle.replay_model.proofs.Rounds.{AreSorted, order_distinct, order_in, order_sorted, others_early}

-- what was reported of a point is in the list
pub hit_in : (d : Design) (x : Point) (ns : List Marking) → IsHitMarked d x ns → (n : Marking) × In n ns × IsKeyOf d x n.key × (n.doubt ≡ None)
hit_in d x [] h = absurd h
hit_in d x (n ∷ ns) (inl h) = (n, inl refl, h.0, h.1)
hit_in d x (n ∷ ns) (inr h) = let r = hit_in d x ns h in (r.0, inr r.1, r.2, r.3)

pub in_hit : (d : Design) (x : Point) (ns : List Marking) (n : Marking) → In n ns → IsKeyOf d x n.key → n.doubt ≡ None → IsHitMarked d x ns
in_hit d x [] n h k e = absurd h
in_hit d x (m ∷ ns) n (inl q) k e = inl (subst (λ z. IsKeyOf d x z.key) (sym q) k, subst (λ z. z.doubt ≡ None) (sym q) e)
in_hit d x (m ∷ ns) n (inr h) k e = inr (in_hit d x ns n h k e)

pub doubt_in : (d : Design) (x : Point) (y : Doubted) (ns : List Marking) → IsDoubtMarked d x y ns → (n : Marking) × In n ns × IsKeyOf d x n.key × (n.doubt ≡ Some y)
doubt_in d x y [] h = absurd h
doubt_in d x y (n ∷ ns) (inl h) = (n, inl refl, h.0, h.1)
doubt_in d x y (n ∷ ns) (inr h) = let r = doubt_in d x y ns h in (r.0, inr r.1, r.2, r.3)

pub in_doubt : (d : Design) (x : Point) (y : Doubted) (ns : List Marking) (n : Marking) → In n ns → IsKeyOf d x n.key → n.doubt ≡ Some y → IsDoubtMarked d x y ns
in_doubt d x y [] n h k e = absurd h
in_doubt d x y (m ∷ ns) n (inl q) k e = inl (subst (λ z. IsKeyOf d x z.key) (sym q) k, subst (λ z. z.doubt ≡ Some y) (sym q) e)
in_doubt d x y (m ∷ ns) n (inr h) k e = inr (in_doubt d x y ns n h k e)

-- from one state of the replay to a later one: each note is an old one or one of a run of this kind, and these runs are there
pub record Traced (Of : ℕ → List Note → Type 0) (Must : ℕ → Type 0) (before later : List Marking) : Type 0 where
  pub from : (n : Marking) → In n later → In n before ⊎ ((p : ℕ) × (ns : List Note) × Of p ns × In n (markings_by p ns))
  pub keeps : (n : Marking) → In n before → In n later
  pub has : (p : ℕ) → Must p → (ns : List Note) × Of p ns × ((n : Marking) → In n (markings_by p ns) → In n later)

pub traced_none : (Of : ℕ → List Note → Type 0) (Must : ℕ → Type 0) → ((p : ℕ) → Must p → ⊥) → (xs : List Marking) → Traced Of Must xs xs
traced_none Of Must never xs = record { from = λ n h. inl h; keeps = λ n h. h; has = λ p m. absurd (never p m) }

pub traced_one : (Of : ℕ → List Note → Type 0) (Must : ℕ → Type 0) (p : ℕ) (ns : List Note) → Of p ns → ((q : ℕ) → Must q → q ≡ p) → (xs : List Marking) → Traced Of Must xs (xs ++ markings_by p ns)
traced_one Of Must p ns of_kind only xs =
    record {
      from = λ n h. ⊎_elim (λ x. inl x) (λ x. inr (p, ns, of_kind, x)) (in_halves n xs (markings_by p ns) h);
      keeps = λ n h. in_left n xs (markings_by p ns) h;
      has = λ q m. (ns, subst (λ z. Of z ns) (sym (only q m)) of_kind, λ n h. in_right n xs (markings_by p ns) (subst (λ z. In n (markings_by z ns)) (only q m) h));
    }

pub traced_next : (Of : ℕ → List Note → Type 0) (M N : ℕ → Type 0) (xs ys zs : List Marking) → Traced Of M xs ys → Traced Of N ys zs → Traced Of (λ q. M q ⊎ N q) xs zs
traced_next Of M N xs ys zs a b =
    record {
      from = λ n h. ⊎_elim (λ x. a.from n x) (λ x. inr x) (b.from n h);
      keeps = λ n h. b.keeps n (a.keeps n h);
      has = λ p m. ⊎_elim (λ x. let k = a.has p x in (k.0, k.1, λ n h. b.keeps n (k.2 n h))) (λ x. b.has p x) m;
    }

pub traced_weaker : (Of Of' : ℕ → List Note → Type 0) (M N : ℕ → Type 0) (xs ys : List Marking) → ((p : ℕ) (ns : List Note) → Of p ns → Of' p ns) → ((q : ℕ) → N q → M q) → Traced Of M xs ys → Traced Of' N xs ys
traced_weaker Of Of' M N xs ys wider fewer a =
    record {
      from = λ n h. ⊎_elim (λ x. inl x) (λ x. inr (x.0, x.1, wider x.0 x.1 x.2, x.3)) (a.from n h);
      keeps = a.keeps;
      has = λ p m. let k = a.has p (fewer p m) in (k.0, wider p k.0 k.1, k.2);
    }

module _ (d : Design) (lawful : IsLawfulDesign d) (h : Habit) (early_law : EarlyLaw (machine d)) (dump : BoundDump) (run : Runs) (runs : AreRuns d run) (tables : Tables) (t : ℕ) (sets : Sets) (are : AreSets d h dump (suc t) sets) (a : Replay) where
  abbrev st : Closing
  st = closing_at d dump run tables sets t a

  -- the notes of a clean run, of a weak one, and of one on settled values
  pub record CleanRun (p : ℕ) (ns : List Note) : Type 0 where
    pub trigger : ℕ
    pub is_trigger : sets.trigger p ≡ Some trigger
    pub store : StoreView
    pub reads : (c : Cell) → seen_of store c ≡ entry_kept st p trigger c
    pub notes : ns ≡ (run p store (clean (suc t))).notes

  pub record WeakRun (p : ℕ) (ns : List Note) : Type 0 where
    pub not_clean : sets.trigger p ≡ None
    pub thing : ℕ
    pub by : sets.wakes p ≡ Some thing
    pub store : StoreView
    pub notes : ns ≡ (run p store (weak (suc t) thing)).notes

  -- what is kept is as at the start, except for what the clean blocks that ran write by blocking assignments
  abbrev pub KeptOr : (ℕ → Type 0) → Working → Type 0
  KeptOr Ran wk = (c : Cell) → (wk.kept c ≡ a.kept c) ⊎ ((q : ℕ) × Ran q × ((machine d).blocking q c ≡ true))

  -- those that have run are clean, and of no later round than p
  abbrev pub IsBefore : (ℕ → Type 0) → ℕ → Type 0
  IsBefore Ran p = (q : ℕ) → Ran q → (x : ℕ) × (sets.trigger q ≡ Some x) × (sets.round q ≤ sets.round p)

  -- so it is of each of these
  abbrev pub AreBefore : (ℕ → Type 0) → List ℕ → Type 0
  AreBefore Ran ps = (p : ℕ) → In p ps → IsBefore Ran p

  pub reads_entry : (Ran : ℕ → Type 0) (wk : Working) → KeptOr Ran wk → (p : ℕ) → IsBefore Ran p → (Ran p → ⊥) → (s : ℕ) → sets.trigger p ≡ Some s → (c : Cell) → seen_of (clean_store st p s wk) c ≡ entry_kept st p s c
  reads_entry Ran wk kept p before fresh s is c = go ((c.thing == s) || sets.early p c.thing) refl
    where
      moved : ((c.thing == s) || sets.early p c.thing) ≡ false → (q : ℕ) × Ran q × ((machine d).blocking q c ≡ true) → ⊥
      moved e q =
          let x = before q.0 q.1 in
          let off : (c.thing ≡ s) → ⊥ = λ k. both_ways _ e (or_left (c.thing == s) _ (eq-eqb c.thing s k)) in
          both_ways _ e (or_right (c.thing == s) _ ((are.early p (cell s 0) (are.trigger p s is) c.thing).1
          (others_early d lawful dump (suc t) h p q.0 (cell s 0) (cell x.0 0) (are.trigger p s is) (are.trigger q.0 x.0 x.1) (sets.round p) (sets.round q.0) (are.round p s is) (are.round q.0 x.0 x.1) x.2 (λ k. fresh (subst Ran k q.1)) c q.2 off)))

      same : ((c.thing == s) || sets.early p c.thing) ≡ false → wk.kept c ≡ a.kept c
      same e = ⊎_elim (λ x. x) (λ x. absurd (moved e x)) (kept c)

      go : (b : Bool) → ((c.thing == s) || sets.early p c.thing) ≡ b → (if b then entry st s c else wk.kept c) ≡ (if b then entry st s c else a.kept c)
      go true e = refl
      go false e = same e

  abbrev pub RanClean : ℕ → Type 0
  RanClean q = (s : ℕ) × (sets.trigger q ≡ Some s)

  abbrev pub RanWeak : ℕ → Type 0
  RanWeak q = (sets.trigger q ≡ None) × ((s : ℕ) × (sets.wakes q ≡ Some s))

  some_none : (o : Option ℕ) (s : ℕ) → o ≡ Some s → o ≡ None → ⊥
  some_none o s e f = cc

  abbrev pub Wider : (ℕ → Type 0) → ℕ → ℕ → Type 0
  Wider Ran p q = Ran q ⊎ ((q ≡ p) × RanClean q)

  pub one_kept : (Ran : ℕ → Type 0) (wk : Working) → KeptOr Ran wk → (p : ℕ) (o : Option ℕ) → sets.trigger p ≡ o → KeptOr (Wider Ran p) (run_clean st o p wk)
  one_kept Ran wk kept p None e c = ⊎_elim (λ x. inl x) (λ x. inr (x.0, inl x.1, x.2)) (kept c)
  one_kept Ran wk kept p (Some s) e c =
      ⊎_elim (λ b. inr (p, inr (refl, (s, e)), b)) (λ b. ⊎_elim (λ x. inl (runs.frame p (clean_store st p s wk) (clean (suc t)) c b ∙ x)) (λ x. inr (x.0, inl x.1, x.2)) (kept c)) (cases_Bool ((machine d).blocking p c))

  -- one more has run
  pub next_before : (Ran : ℕ → Type 0) (p : ℕ) (ps : List ℕ) → AreSorted sets.round (p ∷ ps) → AreBefore Ran (p ∷ ps) → AreBefore (Wider Ran p) ps
  next_before Ran p ps sorted before r h q ran =
      ⊎_elim (before r (inr h) q) (λ x. (x.1.0, x.1.1, subst (λ z. sets.round z ≤ sets.round r) (sym x.0) (sorted.0 r h))) ran

  one_traced : (Ran : ℕ → Type 0) (wk : Working) → KeptOr Ran wk → (p : ℕ) → IsBefore Ran p → (Ran p → ⊥) → (o : Option ℕ) → sets.trigger p ≡ o → Traced CleanRun (λ q. (q ≡ p) × RanClean q) wk.notes (run_clean st o p wk).notes
  one_traced Ran wk kept p before fresh None e =
      traced_none CleanRun (λ q. (q ≡ p) × RanClean q) (λ q m. some_none (sets.trigger p) m.1.0 (subst (λ z. sets.trigger z ≡ Some m.1.0) m.0 m.1.1) e) wk.notes
  one_traced Ran wk kept p before fresh (Some s) e =
      traced_one CleanRun (λ q. (q ≡ p) × RanClean q) p (run p (clean_store st p s wk) (clean (suc t))).notes (record { trigger = s; is_trigger = e; store = clean_store st p s wk; reads = reads_entry Ran wk kept p before fresh s e; notes = refl }) (λ q m. m.0) wk.notes

  distinct_head : (p q : ℕ) (ps : List ℕ) → AreDistinct (p ∷ ps) → In q ps → q ≡ p → ⊥
  distinct_head p q ps once h e = once.0 (subst (λ z. In z ps) e h)

  pub all_traced : (Ran : ℕ → Type 0) (ps : List ℕ) (wk : Working) → KeptOr Ran wk → AreBefore Ran ps → ((q : ℕ) → In q ps → Ran q → ⊥) → AreDistinct ps → AreSorted sets.round ps → Traced CleanRun (λ q. In q ps × RanClean q) wk.notes (run_all_clean st ps wk).notes
  all_traced Ran [] wk kept before fresh once sorted = traced_none CleanRun (λ q. In q [] × RanClean q) (λ q m. m.0) wk.notes
  all_traced Ran (p ∷ ps) wk kept before fresh once sorted =
      traced_weaker CleanRun CleanRun (λ q. ((q ≡ p) × RanClean q) ⊎ (In q ps × RanClean q)) (λ q. In q (p ∷ ps) × RanClean q) wk.notes (run_all_clean st ps (run_clean st (sets.trigger p) p wk)).notes (λ q ns k. k) (λ q m. ⊎_elim (λ e. inl (sym e, m.1)) (λ k. inr (k, m.1)) m.0)
      (traced_next CleanRun (λ q. (q ≡ p) × RanClean q) (λ q. In q ps × RanClean q) wk.notes (run_clean st (sets.trigger p) p wk).notes (run_all_clean st ps (run_clean st (sets.trigger p) p wk)).notes
      (one_traced Ran wk kept p (before p (inl refl)) (fresh p (inl refl)) (sets.trigger p) refl)
      (all_traced (Wider Ran p) ps (run_clean st (sets.trigger p) p wk) (one_kept Ran wk kept p (sets.trigger p) refl) (next_before Ran p ps sorted before) (λ q k r. ⊎_elim (fresh q (inr k)) (λ x. distinct_head p q ps once k x.0) r) once.1 sorted.1))

  -- those of the Clocked, in order of rounds
  pub order_traced : AreDistinct tables.clocked → Traced CleanRun (λ q. In q tables.clocked × RanClean q) a.notes (run_all_clean st (clean_order st) (opened st)).notes
  order_traced once =
      traced_weaker CleanRun CleanRun (λ q. In q (clean_order st) × RanClean q) (λ q. In q tables.clocked × RanClean q) a.notes (run_all_clean st (clean_order st) (opened st)).notes (λ q ns k. k) (λ q m. (order_in sets.round q tables.clocked m.0, m.1))
      (all_traced (λ q. ⊥) (clean_order st) (opened st) (λ c. inl refl) (λ p i q x. absurd x) (λ q x y. y) (order_distinct sets.round tables.clocked once) (order_sorted sets.round tables.clocked))

  weak_one : (wk : Working) (p : ℕ) (o : Option ℕ) → sets.trigger p ≡ o → (n : Option ℕ) → sets.wakes p ≡ n → Traced WeakRun (λ q. (q ≡ p) × RanWeak q) wk.notes (run_weak st o n p wk).notes
  weak_one wk p (Some s) e n f = traced_none WeakRun (λ q. (q ≡ p) × RanWeak q) (λ q m. some_none (sets.trigger p) s e (subst (λ z. sets.trigger z ≡ None) m.0 m.1.0)) wk.notes
  weak_one wk p None e None f = traced_none WeakRun (λ q. (q ≡ p) × RanWeak q) (λ q m. some_none (sets.wakes p) m.1.1.0 (subst (λ z. sets.wakes z ≡ Some m.1.1.0) m.0 m.1.1.1) f) wk.notes
  weak_one wk p None e (Some thing) f =
      traced_one WeakRun (λ q. (q ≡ p) × RanWeak q) p (run p (plain_store wk.kept) (weak (suc t) thing)).notes (record { not_clean = e; thing = thing; by = f; store = plain_store wk.kept; notes = refl }) (λ q m. m.0) wk.notes

  pub weak_all : (ps : List ℕ) (wk : Working) → Traced WeakRun (λ q. In q ps × RanWeak q) wk.notes (run_all_weak st ps wk).notes
  weak_all [] wk = traced_none WeakRun (λ q. In q [] × RanWeak q) (λ q m. m.0) wk.notes
  weak_all (p ∷ ps) wk =
      traced_weaker WeakRun WeakRun (λ q. ((q ≡ p) × RanWeak q) ⊎ (In q ps × RanWeak q)) (λ q. In q (p ∷ ps) × RanWeak q) wk.notes (run_all_weak st ps (run_weak st (sets.trigger p) (sets.wakes p) p wk)).notes (λ q ns k. k) (λ q m. ⊎_elim (λ e. inl (sym e, m.1)) (λ k. inr (k, m.1)) m.0)
      (traced_next WeakRun (λ q. (q ≡ p) × RanWeak q) (λ q. In q ps × RanWeak q) wk.notes (run_weak st (sets.trigger p) (sets.wakes p) p wk).notes (run_all_weak st ps (run_weak st (sets.trigger p) (sets.wakes p) p wk)).notes (weak_one wk p (sets.trigger p) refl (sets.wakes p) refl) (weak_all ps (run_weak st (sets.trigger p) (sets.wakes p) p wk)))

  -- a run on settled values, from a state with P, before these that are still to run
  pub record SettleRun (P : List ℕ → Working → Type 0) (p : ℕ) (ns : List Note) : Type 0 where
    pub rest : List ℕ
    pub wk : Working
    pub holds : P (p ∷ rest) wk
    pub touched : is_touched st p ≡ true
    pub notes : ns ≡ (run p (plain_store (settled_kept d p wk.kept)) (certainty st wk.kept p)).notes

  abbrev Touched : ℕ → Type 0
  Touched q = is_touched st q ≡ true

  module _ (P : List ℕ → Working → Type 0) (ordered : Bool) (next : (p : ℕ) (rest : List ℕ) (wk : Working) → P (p ∷ rest) wk → P rest (run_settling st ordered p wk)) where
    settle_one : (p : ℕ) (rest : List ℕ) (wk : Working) → P (p ∷ rest) wk → Traced (SettleRun P) (λ q. (q ≡ p) × Touched q) wk.notes (run_settling st ordered p wk).notes
    settle_one p rest wk holds = go (is_touched st p) refl
      where
        go : (b : Bool) → is_touched st p ≡ b → Traced (SettleRun P) (λ q. (q ≡ p) × Touched q) wk.notes (if b then Rattle.replay_model.specs.Step.after_settling st ordered p (certainty st wk.kept p) (run p (plain_store (settled_kept d p wk.kept)) (certainty st wk.kept p)) wk else wk).notes
        go true e = traced_one (SettleRun P) (λ q. (q ≡ p) × Touched q) p (run p (plain_store (settled_kept d p wk.kept)) (certainty st wk.kept p)).notes (record { rest = rest; wk = wk; holds = holds; touched = e; notes = refl }) (λ q m. m.0) wk.notes
        go false e = traced_none (SettleRun P) (λ q. (q ≡ p) × Touched q) (λ q m. both_ways _ e (subst (λ z. is_touched st z ≡ true) m.0 m.1)) wk.notes

    pub settle_all : (ps : List ℕ) (wk : Working) → P ps wk → Traced (SettleRun P) (λ q. In q ps × Touched q) wk.notes (run_all_settling st ordered ps wk).notes
    settle_all [] wk holds = traced_none (SettleRun P) (λ q. In q [] × Touched q) (λ q m. m.0) wk.notes
    settle_all (p ∷ ps) wk holds =
        traced_weaker (SettleRun P) (SettleRun P) (λ q. ((q ≡ p) × Touched q) ⊎ (In q ps × Touched q)) (λ q. In q (p ∷ ps) × Touched q) wk.notes (run_all_settling st ordered ps (run_settling st ordered p wk)).notes (λ q ns k. k) (λ q m. ⊎_elim (λ e. inl (sym e, m.1)) (λ k. inr (k, m.1)) m.0)
        (traced_next (SettleRun P) (λ q. (q ≡ p) × Touched q) (λ q. In q ps × Touched q) wk.notes (run_settling st ordered p wk).notes (run_all_settling st ordered ps (run_settling st ordered p wk)).notes (settle_one p ps wk holds) (settle_all ps (run_settling st ordered p wk) (next p ps wk holds)))

    pub settle_keeps : (ps : List ℕ) (wk : Working) → P ps wk → P [] (run_all_settling st ordered ps wk)
    settle_keeps [] wk holds = holds
    settle_keeps (p ∷ ps) wk holds = settle_keeps ps (run_settling st ordered p wk) (next p ps wk holds)
