-- What a run leaves and marks depends on what is known and to blame of the things that the body mentions.
use Rattle.std.proofs.Common.{◌≡◌, ℕ, ◌==◌, Bool, true, false, ◌&&◌, ◌||◌, List, [], ◌∷◌, ◌++◌, map, refl, ap, ap₂, subst, ◌∙◌, Option, Some, None, if◌then◌else◌}
use Rattle.std.proofs.lemmas.Bool.{or_left, or_right}
use Rattle.std.specs.List.{list_all, range_with_len}
use Rattle.design_model.specs.event_machine.Cell.{Cell}
use Rattle.design_model.specs.four_state.declared.operator.CaseKind.{CaseKind}
use Rattle.known_state.specs.Join.{join_bit}
use Rattle.design_model.specs.Tree.{Term, Terms, no_terms, a_term, Target, all_of, bits_of, word_of, several, Targets, no_targets, a_target, Stmt, block, branch, select, turns, set, empty, Stmts, no_stmts, a_stmt, Arms, no_arms, arm}
use Rattle.design_model.specs.Design.{Design, cell, signal_at}
use Rattle.design_model.specs.Mentions.{arms_mention, body_mentions, body_mentions_all, index_mentions, indexes_mention, mentions, mentions_any}
use Rattle.design_model.specs.Execution.{is_default}
use Rattle.body_replay.specs.KnownBits.{KnownBits, all_sure, holds, known_match, known_truth}
use Rattle.body_replay.specs.Store.{Kept, known_value}
use Rattle.body_replay.specs.Replay.{Blames, Mark, Mode, State, after_first, after_label, again, blame_of, decide, deeper, either, evaluate_known, first_read, hit, in_mode, index_first, join_blame, joined_states, label_first, label_marks, labels_blame, labels_match, line, part_blame, queued, reach, run, run_all, run_arms, run_default, run_set, same_kept, see_labels, select_blame, set_blames, set_first, set_known, set_marks, target_blames, targets_blames, term_marks, undecided, writes_memory}
use Rattle.local_runs.proofs.Locals.{Same, ap₃, ap₄, blame_same, first_same, index_first_same, index_marks_same, marks_same, set_same, value_same, written_same}
use Rattle.body_replay.proofs.Ways.{keep_same}

-- of labels
module _ (d : Design) (b b' : Kept) (e e' : Blames) where
  labels_left : (t : Term) (ts : Terms) → Same d b b' e e' (λ x. mentions_any x (a_term t ts)) → Same d b b' e e' (λ x. mentions x t)
  labels_left t ts s x h = s x (or_left (mentions x t) (mentions_any x ts) h)

  labels_right : (t : Term) (ts : Terms) → Same d b b' e e' (λ x. mentions_any x (a_term t ts)) → Same d b b' e e' (λ x. mentions_any x ts)
  labels_right t ts s x h = s x (or_right (mentions x t) (mentions_any x ts) h)

  pub match_same : (kind : CaseKind) (on : KnownBits) (ts : Terms) → Same d b b' e e' (λ x. mentions_any x ts) → labels_match d kind on b ts ≡ labels_match d kind on b' ts
  match_same kind on no_terms s = refl
  match_same kind on (a_term t ts) s = ap₂ (λ v r. either (known_match kind on v) r) (value_same d b b' e e' t (labels_left t ts s)) (match_same kind on ts (labels_right t ts s))

  pub labels_blame_same : (kind : CaseKind) (on : KnownBits) (ob : ℕ) (ts : Terms) (f : Option ℕ) → Same d b b' e e' (λ x. mentions_any x ts) → labels_blame d kind on ob b e f ts ≡ labels_blame d kind on ob b' e' f ts
  labels_blame_same kind on ob no_terms f s = refl
  labels_blame_same kind on ob (a_term t ts) f s =
      let of = labels_left t ts s in
      ap₃ (λ v w r. if undecided (known_match kind on v) then select_blame on ob w else r) (value_same d b b' e e' t of) (blame_same d b b' e e' t of f)
      (ap (λ g. labels_blame d kind on ob b e g ts) (first_same d b b' e e' t of f) ∙ labels_blame_same kind on ob ts (first_read d b' e' f t) (labels_right t ts s))

  pub label_marks_same : (kind : CaseKind) (on : KnownBits) (ob : ℕ) (ts : Terms) (f : Option ℕ) → Same d b b' e e' (λ x. mentions_any x ts) → label_marks d kind on ob b e ts f ≡ label_marks d kind on ob b' e' ts f
  label_marks_same kind on ob no_terms f s = refl
  label_marks_same kind on ob (a_term t ts) f s =
      let of = labels_left t ts s in
      ap₄ (λ m v w r. m ++ after_label (known_match kind on v) (select_blame on ob w) r) (marks_same d b b' e e' t of f) (value_same d b b' e e' t of) (blame_same d b b' e e' t of f)
      (ap (λ g. label_marks d kind on ob b e ts g) (first_same d b b' e e' t of f) ∙ label_marks_same kind on ob ts (first_read d b' e' f t) (labels_right t ts s))

  pub label_first_same : (kind : CaseKind) (on : KnownBits) (ts : Terms) (f : Option ℕ) → Same d b b' e e' (λ x. mentions_any x ts) → label_first d kind on b e ts f ≡ label_first d kind on b' e' ts f
  label_first_same kind on no_terms f s = refl
  label_first_same kind on (a_term t ts) f s =
      let of = labels_left t ts s in
      ap₃ (λ v x r. after_first (known_match kind on v) x r) (value_same d b b' e e' t of) (first_same d b b' e e' t of f)
      (ap (λ g. label_first d kind on b e ts g) (first_same d b b' e e' t of f) ∙ label_first_same kind on ts (first_read d b' e' f t) (labels_right t ts s))

  -- the blames after an assignment, of a thing whose blame is the same before
  mutual
    pub target_blames_same : (y : Target) (f : Option ℕ) (value_sure : Bool) (value_blame : ℕ) (old old' : ℕ → ℕ) (x : ℕ) → Same d b b' e e' (λ z. index_mentions z y) → old x ≡ old' x → target_blames d b e f y value_sure value_blame old x ≡ target_blames d b' e' f y value_sure value_blame old' x
    target_blames_same (all_of k) f vs vb old old' x s q = ap (λ z. if k == x then vb else z) q
    target_blames_same (bits_of k low w) f vs vb old old' x s q =
        ap₃ (λ v l z. if k == x then part_blame (all_sure v) vs l vb z else z) (value_same d b b' e e' low s) (blame_same d b b' e e' low s f) q
    target_blames_same (word_of m i) f vs vb old old' x s q = q
    target_blames_same (several ts) f vs vb old old' x s q = targets_blames_same ts f vs vb old old' x s q

    targets_blames_same : (ts : Targets) (f : Option ℕ) (value_sure : Bool) (value_blame : ℕ) (old old' : ℕ → ℕ) (x : ℕ) → Same d b b' e e' (λ z. indexes_mention z ts) → old x ≡ old' x → targets_blames d b e f ts value_sure value_blame old x ≡ targets_blames d b' e' f ts value_sure value_blame old' x
    targets_blames_same no_targets f vs vb old old' x s q = q
    targets_blames_same (a_target t ts) f vs vb old old' x s q =
        let of : Same d b b' e e' (λ z. index_mentions z t) = λ z h. s z (or_left (index_mentions z t) (indexes_mention z ts) h) in
        let rest : Same d b b' e e' (λ z. indexes_mention z ts) = λ z h. s z (or_right (index_mentions z t) (indexes_mention z ts) h) in
        ap (λ g. targets_blames d b e g ts vs vb (target_blames d b e f t vs vb old) x) (index_first_same d b b' e e' t of f)
        ∙ targets_blames_same ts (index_first d b' e' f t) vs vb (target_blames d b e f t vs vb old) (target_blames d b' e' f t vs vb old') x rest (target_blames_same t f vs vb old old' x of q)

-- two runs so far of a body are alike: they know the same of these things, and have queued and marked the same
pub record Alike (d : Design) (M : ℕ → Bool) (a a' : State) : Type 0 where
  pub things : Same d a.kept a'.kept a.blames a'.blames M
  pub first : a.first ≡ a'.first
  pub queue : a.queue ≡ a'.queue
  pub marks : a.marks ≡ a'.marks

row_all : (x : ℕ) (l r l' r' : Kept) (ns : List ℕ) → ((c : Cell) → c.thing ≡ x → l c ≡ l' c) → ((c : Cell) → c.thing ≡ x → r c ≡ r' c) → list_all (λ c. same_kept (l c) (r c)) (map (cell x) ns) ≡ list_all (λ c. same_kept (l' c) (r' c)) (map (cell x) ns)
row_all x l r l' r' [] p q = refl
row_all x l r l' r' (n ∷ ns) p q = ap₃ (λ u v w. same_kept u v && w) (p (cell x n) refl) (q (cell x n) refl) (row_all x l r l' r' ns p q)

module _ (d : Design) (M : ℕ → Bool) where
  abbrev Within : (ℕ → Bool) → Type 0
  Within f = (x : ℕ) → f x ≡ true → M x ≡ true

  narrow : (f : ℕ → Bool) (a a' : State) → Within f → Alike d M a a' → Same d a.kept a'.kept a.blames a'.blames f
  narrow f a a' w h x e = h.things x (w x e)

  marked : (a a' : State) (f f' : Option ℕ) (ms ms' : List Mark) → Alike d M a a' → f ≡ f' → ms ≡ ms' → Alike d M (record a { first = f; marks = a.marks ++ ms }) (record a' { first = f'; marks = a'.marks ++ ms' })
  marked a a' f f' ms ms' h p q = record { things = λ x e. let t = h.things x e in record { kept = t.kept; blame = t.blame; wrote = t.wrote }; first = p; queue = h.queue; marks = ap₂ (λ u v. u ++ v) h.marks q }

  reached : (mode : Mode) (n : ℕ) (a a' : State) → Alike d M a a' → Alike d M (reach mode n a) (reach mode n a')
  reached mode n a a' h = record { things = λ x e. let t = h.things x e in record { kept = t.kept; blame = t.blame; wrote = t.wrote }; first = h.first; queue = h.queue; marks = ap (λ u. u ++ map (in_mode mode) (hit (line n) ∷ [])) h.marks }

  anew : (a a' left left' : State) → Alike d M a a' → Alike d M left left' → Alike d M (again a left) (again a' left')
  anew a a' left left' h k = record { things = λ x e. let t = h.things x e in record { kept = t.kept; blame = t.blame; wrote = t.wrote }; first = k.first; queue = k.queue; marks = k.marks }

  joined_alike : (test : ℕ) (l l' r r' : State) → Alike d M l l' → Alike d M r r' → Alike d M (joined_states d test l r) (joined_states d test l' r')
  joined_alike test l l' r r' h k =
      record {
        things = λ x e.
            record {
              kept = λ c at. ap₂ join_bit ((h.things x e).kept c at) ((k.things x e).kept c at);
              blame =
                  ap₃ (λ u v same. if (u == v) && same then u else test) (h.things x e).blame (k.things x e).blame
                  (row_all x l.kept r.kept l'.kept r'.kept (range_with_len 0 (signal_at d x).width) (h.things x e).kept (k.things x e).kept);
              wrote = ap₂ (λ u v. u || v) (h.things x e).wrote (k.things x e).wrote;
            };
        first = k.first;
        queue = k.queue;
        marks = k.marks;
      }

  abbrev Keeps : (Mode → State → State) → Type 0
  Keeps f = (mode : Mode) (a a' : State) → Alike d M a a' → Alike d M (f mode a) (f mode a')

  decided : (test : ℕ) (f g : Mode → State → State) → Keeps f → Keeps g → (o : Option Bool) (mode : Mode) (a a' : State) → Alike d M a a' → Alike d M (decide d mode test f g o a) (decide d mode test f g o a')
  decided test f g hf hg (Some true) mode a a' h = hf mode a a' h
  decided test f g hf hg (Some false) mode a a' h = hg mode a a' h
  decided test f g hf hg None mode a a' h =
      let left = hf (deeper mode test) a a' h in
      joined_alike test (f (deeper mode test) a) (f (deeper mode test) a') (g (deeper mode test) (again a (f (deeper mode test) a))) (g (deeper mode test) (again a' (f (deeper mode test) a'))) left
      (hg (deeper mode test) (again a (f (deeper mode test) a)) (again a' (f (deeper mode test) a')) (anew a a' (f (deeper mode test) a) (f (deeper mode test) a') h left))

  decide_alike : (test test' : ℕ) (f g : Mode → State → State) → Keeps f → Keeps g → (o o' : Option Bool) (mode : Mode) (a a' : State) → test ≡ test' → o ≡ o' → Alike d M a a' → Alike d M (decide d mode test f g o a) (decide d mode test' f g o' a')
  decide_alike test test' f g hf hg o o' mode a a' p q h =
      subst (λ z. Alike d M (decide d mode test f g o a) (decide d mode z f g o' a')) p (subst (λ z. Alike d M (decide d mode test f g o a) (decide d mode test f g z a')) q (decided test f g hf hg o mode a a' h))

  evaluated : (mode : Mode) (t : Term) (a a' : State) → Within (λ x. mentions x t) → Alike d M a a' → Alike d M (evaluate_known d mode t a) (evaluate_known d mode t a')
  evaluated mode t a a' w h =
      let s = narrow (λ x. mentions x t) a a' w h in
      marked a a' (first_read d a.kept a.blames a.first t) (first_read d a'.kept a'.blames a'.first t) (map (in_mode mode) (term_marks d a.kept a.blames a.first t)) (map (in_mode mode) (term_marks d a'.kept a'.blames a'.first t)) h
      (ap (λ f. first_read d a.kept a.blames f t) h.first ∙ first_same d a.kept a'.kept a.blames a'.blames t s a'.first)
      (ap (map (in_mode mode)) (ap (λ f. term_marks d a.kept a.blames f t) h.first ∙ marks_same d a.kept a'.kept a.blames a'.blames t s a'.first))

  blame_alike : (t : Term) (a a' : State) → Within (λ x. mentions x t) → Alike d M a a' → blame_of d a.kept a.blames a.first t ≡ blame_of d a'.kept a'.blames a'.first t
  blame_alike t a a' w h = ap (λ f. blame_of d a.kept a.blames f t) h.first ∙ blame_same d a.kept a'.kept a.blames a'.blames t (narrow (λ x. mentions x t) a a' w h) a'.first

  module _ (x : Target) (t : Term) (w : Within (λ z. index_mentions z x || mentions z t)) where
    in_index : Within (λ z. index_mentions z x)
    in_index z e = w z (or_left (index_mentions z x) (mentions z t) e)

    in_value : Within (λ z. mentions z t)
    in_value z e = w z (or_right (index_mentions z x) (mentions z t) e)

    module _ (a a' : State) (h : Alike d M a a') where
      at_index : Same d a.kept a'.kept a.blames a'.blames (λ z. index_mentions z x)
      at_index = narrow (λ z. index_mentions z x) a a' in_index h

      at_value : Same d a.kept a'.kept a.blames a'.blames (λ z. mentions z t)
      at_value = narrow (λ z. mentions z t) a a' in_value h

      after : index_first d a.kept a.blames a.first x ≡ index_first d a'.kept a'.blames a'.first x
      after = ap (λ f. index_first d a.kept a.blames f x) h.first ∙ index_first_same d a.kept a'.kept a.blames a'.blames x at_index a'.first

      set_first_same : set_first d x t a ≡ set_first d x t a'
      set_first_same = ap (λ f. first_read d a.kept a.blames f t) after ∙ first_same d a.kept a'.kept a.blames a'.blames t at_value (index_first d a'.kept a'.blames a'.first x)

      set_marks_same : (n : ℕ) → set_marks d n x t a ≡ set_marks d n x t a'
      set_marks_same n =
          ap₃ (λ u v z. (hit (line n) ∷ u) ++ v ++ z)
          (ap (λ f. Rattle.body_replay.specs.Replay.index_marks d a.kept a.blames f x) h.first ∙ index_marks_same d a.kept a'.kept a.blames a'.blames x at_index a'.first)
          (ap (λ f. term_marks d a.kept a.blames f t) after ∙ marks_same d a.kept a'.kept a.blames a'.blames t at_value (index_first d a'.kept a'.blames a'.first x))
          (ap (λ f. Rattle.body_replay.specs.Replay.written_marks d a.kept a.blames f x) h.first ∙ written_same d a.kept a'.kept a.blames a'.blames x at_index a'.first)

      set_known_same : set_known d x t a ≡ set_known d x t a'
      set_known_same = set_same d a.kept a'.kept a.blames a'.blames x t (narrow (λ z. index_mentions z x || mentions z t) a a' w h)

      visited : (mode : Mode) (n : ℕ) → a.marks ++ map (in_mode mode) (set_marks d n x t a) ≡ a'.marks ++ map (in_mode mode) (set_marks d n x t a')
      visited mode n = ap₂ (λ u v. u ++ map (in_mode mode) v) h.marks (set_marks_same n)

      blamed : (z : ℕ) → a.blames.blame z ≡ a'.blames.blame z → (set_blames d x t a).blame z ≡ (set_blames d x t a').blame z
      blamed z q =
          ap₃ (λ f v l. target_blames d a.kept a.blames f x (all_sure v) l a.blames.blame z) h.first (value_same d a.kept a'.kept a.blames a'.blames t at_value)
          (ap (λ f. blame_of d a.kept a.blames f t) after ∙ blame_same d a.kept a'.kept a.blames a'.blames t at_value (index_first d a'.kept a'.blames a'.first x))
          ∙ target_blames_same d a.kept a'.kept a.blames a'.blames x a'.first (all_sure (known_value d a'.kept t)) (blame_of d a'.kept a'.blames (index_first d a'.kept a'.blames a'.first x) t) a.blames.blame a'.blames.blame z at_index q

    set_alike : (n : ℕ) (blocking : Bool) → Keeps (λ mode. run_set d mode n blocking x t)
    set_alike n true mode a a' h =
        record {
          things = λ z e.
              record {
                kept = λ c at. keep_same (set_known d x t a) a.kept a'.kept c ((h.things z e).kept c at) ∙ ap (λ ks. Rattle.body_replay.specs.Store.keep_all a'.kept ks c) (set_known_same a a' h);
                blame = blamed a a' h z (h.things z e).blame;
                wrote = ap (λ u. u || writes_memory x z) (h.things z e).wrote;
              };
          first = set_first_same a a' h;
          queue = h.queue;
          marks = visited a a' h mode n;
        }
    set_alike n false mode a a' h = record { things = λ z e. let k = h.things z e in record { kept = k.kept; blame = k.blame; wrote = k.wrote }; first = set_first_same a a' h; queue = ap₂ (λ qs ks. qs ++ queued mode ks ∷ []) h.queue (set_known_same a a' h); marks = visited a a' h mode n }

  labels_seen : (mode : Mode) (kind : CaseKind) (on : KnownBits) (ob : ℕ) (ts : Terms) (a a' : State) → Within (λ x. mentions_any x ts) → Alike d M a a' → Alike d M (see_labels d mode kind on ob ts a) (see_labels d mode kind on ob ts a')
  labels_seen mode kind on ob ts a a' w h =
      let s = narrow (λ x. mentions_any x ts) a a' w h in
      marked a a' (label_first d kind on a.kept a.blames ts a.first) (label_first d kind on a'.kept a'.blames ts a'.first) (map (in_mode mode) (label_marks d kind on ob a.kept a.blames ts a.first)) (map (in_mode mode) (label_marks d kind on ob a'.kept a'.blames ts a'.first)) h
      (ap (label_first d kind on a.kept a.blames ts) h.first ∙ label_first_same d a.kept a'.kept a.blames a'.blames kind on ts a'.first s)
      (ap (map (in_mode mode)) (ap (label_marks d kind on ob a.kept a.blames ts) h.first ∙ label_marks_same d a.kept a'.kept a.blames a'.blames kind on ob ts a'.first s))

  arms_alike : (kind : CaseKind) (on on' : KnownBits) (ob ob' : ℕ) (arms : Arms) (otherwise : Mode → State → State) (mode : Mode) (a a' : State) → on ≡ on' → ob ≡ ob' → Alike d M (run_arms d kind on ob arms otherwise mode a) (run_arms d kind on ob arms otherwise mode a') → Alike d M (run_arms d kind on ob arms otherwise mode a) (run_arms d kind on' ob' arms otherwise mode a')
  arms_alike kind on on' ob ob' arms otherwise mode a a' p q h =
      subst (λ z. Alike d M (run_arms d kind on ob arms otherwise mode a) (run_arms d kind z ob' arms otherwise mode a')) p (subst (λ z. Alike d M (run_arms d kind on ob arms otherwise mode a) (run_arms d kind on z arms otherwise mode a')) q h)

  mutual
    pub run_alike : (s : Stmt) → Within (λ x. body_mentions x s) → Keeps (run d s)
    run_alike (block p ss) w mode a a' h = all_alike ss w mode a a' h
    run_alike (branch p n t s other) w mode a a' h =
        let of : Within (λ x. mentions x t) = λ x e. w x (or_left (mentions x t) (body_mentions x s || body_mentions_all x other) e) in
        let yes : Within (λ x. body_mentions x s) = λ x e. w x (or_right (mentions x t) (body_mentions x s || body_mentions_all x other) (or_left (body_mentions x s) (body_mentions_all x other) e)) in
        let no : Within (λ x. body_mentions_all x other) = λ x e. w x (or_right (mentions x t) (body_mentions x s || body_mentions_all x other) (or_right (body_mentions x s) (body_mentions_all x other) e)) in
        let r = reached mode n a a' h in
        decide_alike (blame_of d (reach mode n a).kept (reach mode n a).blames (reach mode n a).first t) (blame_of d (reach mode n a').kept (reach mode n a').blames (reach mode n a').first t) (run d s) (run_all d other) (run_alike s yes) (all_alike other no) (holds (known_truth (known_value d (reach mode n a).kept t))) (holds (known_truth (known_value d (reach mode n a').kept t))) mode (evaluate_known d mode t (reach mode n a)) (evaluate_known d mode t (reach mode n a')) (blame_alike t (reach mode n a) (reach mode n a') of r)
        (ap (λ z. holds (known_truth z)) (value_same d (reach mode n a).kept (reach mode n a').kept (reach mode n a).blames (reach mode n a').blames t (narrow (λ x. mentions x t) (reach mode n a) (reach mode n a') of r))) (evaluated mode t (reach mode n a) (reach mode n a') of r)
    run_alike (select p n kind t arms) w mode a a' h =
        let of : Within (λ x. mentions x t) = λ x e. w x (or_left (mentions x t) (arms_mention x arms) e) in
        let rest : Within (λ x. arms_mention x arms) = λ x e. w x (or_right (mentions x t) (arms_mention x arms) e) in
        let r = reached mode n a a' h in
        arms_alike kind (known_value d (reach mode n a).kept t) (known_value d (reach mode n a').kept t) (blame_of d (reach mode n a).kept (reach mode n a).blames (reach mode n a).first t) (blame_of d (reach mode n a').kept (reach mode n a').blames (reach mode n a').first t) arms (run_default d arms) mode (evaluate_known d mode t (reach mode n a)) (evaluate_known d mode t (reach mode n a'))
        (value_same d (reach mode n a).kept (reach mode n a').kept (reach mode n a).blames (reach mode n a').blames t (narrow (λ x. mentions x t) (reach mode n a) (reach mode n a') of r)) (blame_alike t (reach mode n a) (reach mode n a') of r)
        (same_arms kind (known_value d (reach mode n a).kept t) (blame_of d (reach mode n a).kept (reach mode n a).blames (reach mode n a).first t) arms rest (run_default d arms) (default_alike arms rest) mode (evaluate_known d mode t (reach mode n a)) (evaluate_known d mode t (reach mode n a')) (evaluated mode t (reach mode n a) (reach mode n a') of r))
    run_alike (turns p n ss) w mode a a' h = all_alike ss w mode (reach mode n a) (reach mode n a') (reached mode n a a' h)
    run_alike (set p n blocking x t) w mode a a' h = set_alike x t w n blocking mode a a' h
    run_alike (empty p) w mode a a' h = h

    all_alike : (ss : Stmts) → Within (λ x. body_mentions_all x ss) → Keeps (run_all d ss)
    all_alike no_stmts w mode a a' h = h
    all_alike (a_stmt s ss) w mode a a' h = all_alike ss (λ x e. w x (or_right (body_mentions x s) (body_mentions_all x ss) e)) mode (run d s mode a) (run d s mode a') (run_alike s (λ x e. w x (or_left (body_mentions x s) (body_mentions_all x ss) e)) mode a a' h)

    same_arms : (kind : CaseKind) (on : KnownBits) (ob : ℕ) (arms : Arms) → Within (λ x. arms_mention x arms) → (otherwise : Mode → State → State) → Keeps otherwise → Keeps (run_arms d kind on ob arms otherwise)
    same_arms kind on ob no_arms w otherwise o mode a a' h = o mode a a' h
    same_arms kind on ob (arm labels s arms) w otherwise o mode a a' h =
        let of : Within (λ x. mentions_any x labels) = λ x e. w x (or_left (mentions_any x labels) (body_mentions x s || arms_mention x arms) e) in
        let yes : Within (λ x. body_mentions x s) = λ x e. w x (or_right (mentions_any x labels) (body_mentions x s || arms_mention x arms) (or_left (body_mentions x s) (arms_mention x arms) e)) in
        let no : Within (λ x. arms_mention x arms) = λ x e. w x (or_right (mentions_any x labels) (body_mentions x s || arms_mention x arms) (or_right (body_mentions x s) (arms_mention x arms) e)) in
        let t = narrow (λ x. mentions_any x labels) a a' of h in
        decide_alike (labels_blame d kind on ob a.kept a.blames a.first labels) (labels_blame d kind on ob a'.kept a'.blames a'.first labels) (run d s) (run_arms d kind on ob arms otherwise) (run_alike s yes) (same_arms kind on ob arms no otherwise o) (labels_match d kind on a.kept labels) (labels_match d kind on a'.kept labels) mode (see_labels d mode kind on ob labels a) (see_labels d mode kind on ob labels a')
        (ap (λ f. labels_blame d kind on ob a.kept a.blames f labels) h.first ∙ labels_blame_same d a.kept a'.kept a.blames a'.blames kind on ob labels a'.first t) (match_same d a.kept a'.kept a.blames a'.blames kind on labels t) (labels_seen mode kind on ob labels a a' of h)

    default_alike : (arms : Arms) → Within (λ x. arms_mention x arms) → Keeps (run_default d arms)
    default_alike no_arms w mode a a' h = h
    default_alike (arm labels s arms) w mode a a' h =
        go (is_default labels) (run_alike s (λ x e. w x (or_right (mentions_any x labels) (body_mentions x s || arms_mention x arms) (or_left (body_mentions x s) (arms_mention x arms) e))) mode a a' h)
        (default_alike arms (λ x e. w x (or_right (mentions_any x labels) (body_mentions x s || arms_mention x arms) (or_right (body_mentions x s) (arms_mention x arms) e))) mode a a' h)
      where
        go : (t : Bool) → Alike d M (run d s mode a) (run d s mode a') → Alike d M (run_default d arms mode a) (run_default d arms mode a') → Alike d M (if t then run d s mode a else run_default d arms mode a) (if t then run d s mode a' else run_default d arms mode a')
        go true x y = x
        go false x y = y
