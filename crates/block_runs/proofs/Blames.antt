-- A run leaves what is to blame for each signal and memory that its body does not assign.
use Rattle.std.proofs.Common.{Bool, List, None, Option, Some, [], ap, ap₂, eq-eqb, false, if◌then◌else◌, map, refl, subst, sym, true, ℕ, ◌&&◌, ◌||◌, ◌∙◌, ◌∷◌, ◌≡◌}
use Rattle.std.specs.List.{list_all, range_with_len}
use Rattle.std.proofs.lemmas.Bool.{or_parts}
use Rattle.event_machine.specs.Cell.{Cell}
use Rattle.four_state.specs.declared.bit.Bit.{Bit}
use Rattle.assignments.specs.known_state.Join.{join_bit}
use Rattle.assignments.proofs.known_state.Cases.{same_bit_refl}
use Rattle.design_model.specs.Design.{Design, cell, signal_at}
use Rattle.design_model.specs.Mentions.{body_assigns, some_target_names, target_names}
use Rattle.design_model.specs.Tree.{Stmt, Target, Targets, Term, a_target, all_of, bits_of, no_targets, several, word_of}
use Rattle.design_model.proofs.Execution.{each_fails, each_gives}
use Rattle.body_replay.specs.KnownBits.{all_sure}
use Rattle.body_replay.specs.Store.{Kept, known_value, set_bits}
use Rattle.body_replay.specs.Replay.{Blames, Mode, State, blame_of, index_first, join_blame, part_blame, run, run_set, same_kept, set_known, some_writes_memory, target_blames, targets_blames, writes_memory}
use Rattle.body_replay.proofs.Frames.{join_self, miss_target, missed}
use Rattle.body_replay.proofs.Induction.{Closed, run_holds}

same_self : (p : Option Bit) → same_kept p p ≡ true
same_self None = refl
same_self (Some a) = same_bit_refl a

or_self : (b : Bool) → (b || b) ≡ b
or_self true = refl
or_self false = refl

mutual
  blame_missed : (d : Design) (b : Kept) (e : Blames) (first : Option ℕ) (t : Target) (sure : Bool) (thing : ℕ) (old : ℕ → ℕ) (x : ℕ) → target_names x t ≡ false → target_blames d b e first t sure thing old x ≡ old x
  blame_missed d b e first (all_of s) sure thing old x h = ap (λ z. if z then thing else old x) h
  blame_missed d b e first (bits_of s low w) sure thing old x h = ap (λ z. if z then part_blame (all_sure (known_value d b low)) sure (blame_of d b e first low) thing (old x) else old x) h
  blame_missed d b e first (word_of m i) sure thing old x h = refl
  blame_missed d b e first (several ts) sure thing old x h = blames_missed d b e first ts sure thing old x h

  blames_missed : (d : Design) (b : Kept) (e : Blames) (first : Option ℕ) (ts : Targets) (sure : Bool) (thing : ℕ) (old : ℕ → ℕ) (x : ℕ) → some_target_names x ts ≡ false → targets_blames d b e first ts sure thing old x ≡ old x
  blames_missed d b e first no_targets sure thing old x h = refl
  blames_missed d b e first (a_target t ts) sure thing old x h =
      let p = or_parts (target_names x t) (some_target_names x ts) h in
      blames_missed d b e (index_first d b e first t) ts sure thing (target_blames d b e first t sure thing old) x p.1 ∙ blame_missed d b e first t sure thing old x p.0

mutual
  memory_missed : (t : Target) (x : ℕ) → target_names x t ≡ false → writes_memory t x ≡ false
  memory_missed (all_of s) x h = refl
  memory_missed (bits_of s low w) x h = refl
  memory_missed (word_of m i) x h = h
  memory_missed (several ts) x h = memories_missed ts x h

  memories_missed : (ts : Targets) (x : ℕ) → some_target_names x ts ≡ false → some_writes_memory ts x ≡ false
  memories_missed no_targets x h = refl
  memories_missed (a_target t ts) x h = let p = or_parts (target_names x t) (some_target_names x ts) h in ap₂ (λ a b. a || b) (memory_missed t x p.0) (memories_missed ts x p.1)

module _ (d : Design) (x : ℕ) (thing : ℕ) (wrote : Bool) (k : Kept) where
  -- what is known of the cells of x, what is to blame for it, and whether it was written
  pub record IsLeft (a : State) : Type 0 where
    pub blame : a.blames.blame x ≡ thing
    pub wrote_is : a.blames.wrote x ≡ wrote
    pub kept : (c : Cell) → c.thing ≡ x → a.kept c ≡ k c

  all_same : (left right : State) → IsLeft left → IsLeft right → (ns : List ℕ) → list_all (λ c. same_kept (left.kept c) (right.kept c)) (map (cell x) ns) ≡ true
  all_same left right h g [] = refl
  all_same left right h g (n ∷ ns) = ap₂ (λ a b. a && b) (ap₂ same_kept (h.kept (cell x n) refl) (g.kept (cell x n) refl) ∙ same_self (k (cell x n))) (all_same left right h g ns)

  joined_left : (test : ℕ) (left right : State) → IsLeft left → IsLeft right → join_blame d test left right x ≡ thing
  joined_left test left right h g =
      ap (λ z. if z then left.blames.blame x else test) (ap₂ (λ a b. a && b) (eq-eqb _ _ (h.blame ∙ sym g.blame)) (all_same left right h g (range_with_len 0 (signal_at d x).width))) ∙ h.blame

  left_closed : Closed d IsLeft
  left_closed =
      record {
        mark = λ a first ms h. record { blame = h.blame; wrote_is = h.wrote_is; kept = h.kept };
        anew = λ a left h g. record { blame = h.blame; wrote_is = h.wrote_is; kept = h.kept };
        join = λ test left right h g.
            record {
              blame = joined_left test left right h g;
              wrote_is = ap₂ (λ a b. a || b) h.wrote_is g.wrote_is ∙ or_self wrote;
              kept = λ c e. ap₂ join_bit (h.kept c e) (g.kept c e) ∙ join_self (k c);
            };
      }

  set_left : (n : ℕ) (b : Bool) (y : Target) (t : Term) → target_names x y ≡ false → (mode : Mode) (a : State) → IsLeft a → IsLeft (run_set d mode n b y t a)
  set_left n true y t e mode a h =
      record {
        blame = blame_missed d a.kept a.blames a.first y _ _ a.blames.blame x e ∙ h.blame;
        wrote_is = ap₂ (λ u v. u || v) h.wrote_is (memory_missed y x e) ∙ or_none wrote;
        kept = λ c q. missed c (set_known d y t a) a.kept (miss_target d a.kept c y (set_bits d a.kept y t) (subst (λ z. target_names z y ≡ false) (sym q) e)) ∙ h.kept c q;
      }
    where
      or_none : (u : Bool) → (u || false) ≡ u
      or_none true = refl
      or_none false = refl
  set_left n false y t e mode a h = record { blame = h.blame; wrote_is = h.wrote_is; kept = h.kept }

  pub run_left : (s : Stmt) → body_assigns x s ≡ false → (mode : Mode) (a : State) → IsLeft a → IsLeft (run d s mode a)
  run_left s e mode a h = run_holds d IsLeft left_closed s (each_gives (λ n b y t f. set_left n b y t f) s (each_fails (λ b y t. target_names x y) s e)) mode a h
