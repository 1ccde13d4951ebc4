-- The run of a block that runs, from what is kept and queued before it, against the definition.
use Rattle.std.proofs.Common.{Bool, List, None, Option, [], append-nil, ap, ap₂, false, if◌then◌else◌, length, map, refl, subst, sym, true, ℕ, ◌&&◌, ◌++◌, ◌∙◌, ◌∷◌, ◌≡◌}
use Rattle.std.specs.Prelude.{nat_lt}
use Rattle.std.specs.List.{range_with_len}
use Rattle.std.proofs.lemmas.Bool.{false_from_ne_true, true≢false}
use Rattle.std.proofs.Math.Path.{fun_ext}
use Rattle.four_state.specs.declared.bit.Bit.{Bit}
use Rattle.design_model.specs.Design.{Design, cell, signal_at, signal_cells}
use Rattle.design_model.specs.Mentions.{body_assigns}
use Rattle.design_model.specs.Tree.{Stmt}
use Rattle.body_replay.specs.Contract.{Store, kept_after, read_of, shown_of}
use Rattle.body_replay.specs.KnownBits.{all_sure}
use Rattle.body_replay.specs.Replay.{Mark, State, run, started}
use Rattle.body_replay.specs.Runs.{own_store}
use Rattle.body_replay.specs.Store.{Kept, KnownWrite}
use Rattle.term_replay.specs.Stands.{Scene}
use Rattle.body_calls.specs.Lvalues.{is_sure_signal}
use Rattle.body_calls.specs.Own.{IsOwn, IsOwnOutside, is_in}
use Rattle.body_calls.specs.Under.{Under, kept_with}
use Rattle.assignments.specs.scene_laws.At.{IsState, flat}
use Rattle.block_runs.specs.Met.{met}
use Rattle.block_runs.proofs.Blames.{IsLeft, run_left}
use Rattle.block_runs.proofs.Queued.{after_queue, run_passes}

twice : (b : Bool) (x y : Option Bit) → (if b then x else (if b then y else x)) ≡ x
twice true x y = refl
twice false x y = refl

once : (b : Bool) (x y z w : Option Bit) → z ≡ w → (if b then x else z) ≡ (if b then (if b then x else y) else w)
once true x y z w e = refl
once false x y z w e = e

row_same : (f g : Kept) (x : ℕ) (ns : List ℕ) → ((n : ℕ) → f (cell x n) ≡ g (cell x n)) → map f (map (cell x) ns) ≡ map g (map (cell x) ns)
row_same f g x [] h = refl
row_same f g x (n ∷ ns) h = ap₂ (λ a b. a ∷ b) (h n) (row_same f g x ns h)

-- whether all bits of the signal are sure, by what is known of its own cells alone
sure_same : (d e : Design) (f g : Kept) (x : ℕ) → d ≡ e → ((n : ℕ) → f (cell x n) ≡ g (cell x n)) → (nat_lt x (length d.signals) && all_sure (map f (signal_cells d x))) ≡ (nat_lt x (length e.signals) && all_sure (map g (signal_cells e x)))
sure_same d e f g x same h =
    ap (λ z. nat_lt x (length d.signals) && all_sure z) (row_same f g x (range_with_len 0 (signal_at d x).width) h)
    ∙ ap (λ z. nat_lt x (length z.signals) && all_sure (map g (signal_cells z x))) same

module _ (u : Under) (v : Scene) (s : Stmt) where
  abbrev pub st : Store
  st = own_store (met u v)

  abbrev pub begun : State
  begun = started (shown_of st)

  abbrev pub left : State
  left = run v.design s None begun

  pub reads_as : read_of st ≡ v.kept
  reads_as = fun_ext (λ c. twice (u.hidden c.thing) (v.kept c) (u.kept c))

  pub begins : (q0 : List KnownWrite) (Noted : List Mark → Type 0) → IsOwn v → Noted [] → IsState v.design (after_queue (q0 ∷ []) begun) None v q0 Noted
  begins q0 Noted own n =
      record {
        scene =
            record {
              design = refl;
              kept = sym reads_as;
              wrote = λ m. own.wrote m;
              blame = λ x e. own.blame x (subst (λ k. (nat_lt x (length v.design.signals) && all_sure (map k (signal_cells v.design x))) ≡ false) reads_as e);
            };
        first = refl;
        queue = sym (append-nil q0);
        noted = n;
      }

  module _ (q0 q1 : List KnownWrite) (first : Option ℕ) (v' : Scene) (Noted : List Mark → Type 0) (ran : IsState v.design (run v.design s None (after_queue (q0 ∷ []) begun)) first v' q1 Noted) where
    ended : IsState v.design (after_queue (q0 ∷ []) left) first v' q1 Noted
    ended = subst (λ z. IsState v.design z first v' q1 Noted) (run_passes v.design (q0 ∷ []) s None begun) ran

    pub marks_noted : Noted left.marks
    marks_noted = ended.noted

    pub writes_queued : q1 ≡ q0 ++ flat left.queue
    writes_queued = ended.queue

    pub is_kept : (u' : Under) → u' ≡ u → (kept_with u' v').kept ≡ kept_after st left.kept
    is_kept u' e = ap (λ z. (kept_with z v').kept) e ∙ fun_ext (λ c. once (u.hidden c.thing) (u.kept c) (v.kept c) (v'.kept c) (left.kept c) (ap (λ k. k c) ended.scene.kept))

    pub same_design : v'.design ≡ v.design
    same_design = ended.scene.design

    -- what is to blame for what the body does not assign
    pub owned : (u' : Under) → u' ≡ u → IsOwn (kept_with u v) → (xs : List ℕ) → ((x : ℕ) → body_assigns x s ≡ true → is_in xs x ≡ true) → IsOwnOutside xs (kept_with u' v')
    owned u' e own xs all = subst (λ z. IsOwnOutside xs (kept_with z v')) (sym e) (record { wrote = wrote; blame = λ x out loose. go x out (u.hidden x) refl loose })
      where
        unassigned : (x : ℕ) → is_in xs x ≡ false → body_assigns x s ≡ false
        unassigned x out = false_from_ne_true (body_assigns x s) (λ a. true≢false (sym (all x a) ∙ out))

        untouched : (x : ℕ) → is_in xs x ≡ false → IsLeft v.design x x false (read_of st) left
        untouched x out = run_left v.design x x false (read_of st) s (unassigned x out) None begun (record { blame = refl; wrote_is = refl; kept = λ c q. refl })

        wrote : (m : ℕ) → is_in xs m ≡ false → (kept_with u v').blames.wrote m ≡ false
        wrote m out = ended.scene.wrote m ∙ (untouched m out).wrote_is

        go : (x : ℕ) → is_in xs x ≡ false → (b : Bool) → u.hidden x ≡ b → is_sure_signal (kept_with u v') x ≡ false → (kept_with u v').blames.blame x ≡ x
        go x out true hidden loose =
            ap (λ b. if b then u.blame x else v'.blames.blame x) hidden
            ∙ sym (ap (λ b. if b then u.blame x else v.blames.blame x) hidden)
            ∙ own.blame x (sure_same v.design v'.design (kept_with u v).kept (kept_with u v').kept x (sym same_design) (λ n. ap (λ b. if b then u.kept (cell x n) else v.kept (cell x n)) hidden ∙ sym (ap (λ b. if b then u.kept (cell x n) else v'.kept (cell x n)) hidden)) ∙ loose)
        go x out false hidden loose =
            ap (λ b. if b then u.blame x else v'.blames.blame x) hidden
            ∙ ended.scene.blame x (sure_same v.design v'.design left.kept (kept_with u v').kept x (sym same_design) (λ n. sym (ap (λ k. k (cell x n)) ended.scene.kept) ∙ sym (ap (λ b. if b then u.kept (cell x n) else v'.kept (cell x n)) hidden)) ∙ loose)
            ∙ (untouched x out).blame
