-- A process whose body has an assignment to a word of a memory is a block of the points of writes of this memory.
use Rattle.std.proofs.Common.{◌≡◌, ⊎_elim, ℕ, Bool, true, false, ◌&&◌, not, ◌==◌, List, [], ◌∷◌, ◌++◌, Option, Some, None, map, length, nat_le, eq-eqb, refl, sym, inl, inr}
use Rattle.std.specs.Prelude.{⊤}
use Rattle.std.proofs.lemmas.Bool.{and_from, and_parts, or_left, or_right}
use Rattle.event_machine.specs.Cell.{Cell}
use Rattle.event_machine.specs.Machine.{IsTarget}
use Rattle.point_words.specs.declared.node_case.NodeCase.{NodeCase}
use Rattle.design_model.specs.Tree.{Arms, Stmt, Stmts, Target, Targets, Term, Terms, a_stmt, a_target, a_term, all_of, arm, binary, bit, bits_of, block, branch, choice, concat, empty, no_arms, no_stmts, no_targets, no_terms, number, part, repeat, select, set, several, sign, signal, slide, turns, unary, word, word_of}
use Rattle.design_model.specs.Design.{Design, body_at, cell, is_memory, memory_at}
use Rattle.design_model.specs.Lawful.{IsLawfulDesign}
use Rattle.design_model.specs.Machine.{machine}
use Rattle.design_model.specs.Mentions.{any_set, may_write, some_may_write}
use Rattle.design_model.specs.Open.{SomeTargetWord, TargetWord}
use Rattle.design_model.specs.Shape.{are_targets, is_target}
use Rattle.design_model.proofs.BodyLaws.{each_both, each_target}
use Rattle.design_model.proofs.Execution.{EachSet, EachSetIn, EachSetOf}
use Rattle.design_model.proofs.OpenPath.{each_any}
use Rattle.body_replay.specs.Contract.{all_spots, arms_spots, body_spots, node_spots, target_spots, targets_spots, term_spots, terms_spots}
use Rattle.body_replay.specs.Replay.{Spot, line, node, word_read, word_write}
use Rattle.body_replay.specs.Store.{words}

-- the process may write a cell of the memory
abbrev pub WritesMemory : Design → ℕ → ℕ → Type 0
WritesMemory d p m = (c : Cell) × (c.thing ≡ m) × IsTarget (machine d) p c

mutual
  may : (d : Design) (m : ℕ) (x : Target) (j : Term) → is_target d x ≡ true → TargetWord m x j → may_write d x (cell m 0) ≡ true
  may d m (all_of s) j is n = absurd n
  may d m (bits_of s low w) j is n = absurd n
  may d m (word_of k i) j is n = and_from (m == k) (nat_le (length d.signals) k) (eq-eqb m k (sym n.0)) (and_parts (nat_le (length d.signals) k) _ (and_parts (is_memory d k) _ is).0).0
  may d m (several ts) j is n = some_may d m ts j is n

  some_may : (d : Design) (m : ℕ) (ts : Targets) (j : Term) → are_targets d ts ≡ true → SomeTargetWord m ts j → some_may_write d ts (cell m 0) ≡ true
  some_may d m no_targets j is n = absurd n
  some_may d m (a_target t ts) j is n =
      let p = and_parts (is_target d t) (are_targets d ts) is in
      ⊎_elim (λ k. or_left (may_write d t (cell m 0)) _ (may d m t j p.0 k)) (λ k. or_right (may_write d t (cell m 0)) _ (some_may d m ts j p.1 k)) n

module _ (d : Design) (p : ℕ) where
  -- of each word that the target of an assignment names, the process may write its memory
  abbrev pub Names : Bool → Target → Term → Type 0
  Names b x t = (m : ℕ) (j : Term) → TargetWord m x j → WritesMemory d p m

  names_of : (n : ℕ) (b : Bool) (x : Target) (t : Term) → is_target d x ≡ true → ((f : Bool → Target → Term → Bool) → f b x t ≡ true → any_set f (body_at d p) ≡ true) → Names b x t
  names_of n true x t is any m j w = (cell m 0, refl, inl (any (λ k y z. k && may_write d y (cell m 0)) (may d m x j is w)))
  names_of n false x t is any m j w = (cell m 0, refl, inr (any (λ k y z. not k && may_write d y (cell m 0)) (may d m x j is w)))

  pub each_names : IsLawfulDesign d → EachSet (λ n. Names) (body_at d p)
  each_names lawful = each_both names_of (body_at d p) (each_target d (body_at d p) (lawful.bodies p)) (each_any (body_at d p))

  -- the spot is no write, or the process may write its memory
  abbrev pub MayWrite : Spot → Type 0
  MayWrite (line n) = ⊤
  MayWrite (node n c) = ⊤
  MayWrite (word_read m i) = ⊤
  MayWrite (word_write m i) = WritesMemory d p m

  abbrev pub AllMay : List Spot → Type 0
  AllMay [] = ⊤
  AllMay (x ∷ xs) = MayWrite x × AllMay xs

  both : (xs ys : List Spot) → AllMay xs → AllMay ys → AllMay (xs ++ ys)
  both [] ys a b = b
  both (x ∷ xs) ys a b = (a.0, both xs ys a.1 b)

  cases : (o : Option ℕ) (cs : List NodeCase) → AllMay (node_spots o cs)
  cases None cs = tt
  cases (Some n) [] = tt
  cases (Some n) (c ∷ cs) = (tt, cases (Some n) cs)

  reads : (m : ℕ) (ks : List ℕ) → AllMay (map (word_read m) ks)
  reads m [] = tt
  reads m (k ∷ ks) = (tt, reads m ks)

  writes : (m : ℕ) (ks : List ℕ) → WritesMemory d p m → AllMay (map (word_write m) ks)
  writes m [] w = tt
  writes m (k ∷ ks) w = (w, writes m ks w)

  mutual
    of_term : (t : Term) → AllMay (term_spots d t)
    of_term (number h n) = cases h.node _
    of_term (signal h s) = cases h.node _
    of_term (word h m i) = both _ _ (both (term_spots d i) _ (of_term i) (reads m (words (memory_at d m)))) (cases h.node _)
    of_term (bit h t i) = both _ _ (both (term_spots d i) _ (of_term i) (of_term t)) (cases h.node _)
    of_term (part h t i j) = both _ _ (both _ _ (both (term_spots d i) _ (of_term i) (of_term j)) (of_term t)) (cases h.node _)
    of_term (slide h t i j up) = both _ _ (both _ _ (both (term_spots d i) _ (of_term i) (of_term j)) (of_term t)) (cases h.node _)
    of_term (unary h op t) = both (term_spots d t) _ (of_term t) (cases h.node _)
    of_term (binary h op t u) = both _ _ (both (term_spots d t) _ (of_term t) (of_term u)) (cases h.node _)
    of_term (choice h t u v) = both _ _ (both _ _ (both (term_spots d t) _ (of_term t) (of_term u)) (of_term v)) (cases h.node _)
    of_term (concat h ts) = both (terms_spots d ts) _ (of_terms ts) (cases h.node _)
    of_term (repeat h n ts) = both _ _ (both (term_spots d n) _ (of_term n) (of_terms ts)) (cases h.node _)
    of_term (sign h s t) = both (term_spots d t) _ (of_term t) (cases h.node _)

    of_terms : (ts : Terms) → AllMay (terms_spots d ts)
    of_terms no_terms = tt
    of_terms (a_term t ts) = both (term_spots d t) _ (of_term t) (of_terms ts)

  mutual
    of_target : (x : Target) → ((m : ℕ) (j : Term) → TargetWord m x j → WritesMemory d p m) → AllMay (target_spots d x)
    of_target (all_of s) f = tt
    of_target (bits_of s low w) f = of_term low
    of_target (word_of m i) f = both (term_spots d i) _ (of_term i) (writes m (words (memory_at d m)) (f m i (refl, refl)))
    of_target (several ts) f = of_targets ts f

    of_targets : (ts : Targets) → ((m : ℕ) (j : Term) → SomeTargetWord m ts j → WritesMemory d p m) → AllMay (targets_spots d ts)
    of_targets no_targets f = tt
    of_targets (a_target t ts) f = both (target_spots d t) _ (of_target t (λ m j w. f m j (inl w))) (of_targets ts (λ m j w. f m j (inr w)))

  mutual
    pub of_body : (s : Stmt) → EachSet (λ n. Names) s → AllMay (body_spots d s)
    of_body (block at ss) e = of_all ss e
    of_body (branch at n t s other) e = both ((line n ∷ term_spots d t) ++ body_spots d s) (all_spots d other) (both (line n ∷ term_spots d t) (body_spots d s) (tt, of_term t) (of_body s e.0)) (of_all other e.1)
    of_body (select at n kind t arms) e = both (line n ∷ term_spots d t) (arms_spots d arms) (tt, of_term t) (of_arms arms e)
    of_body (turns at n ss) e = (tt, of_all ss e)
    of_body (set at n b x t) e = both (line n ∷ target_spots d x) (term_spots d t) (tt, of_target x e) (of_term t)
    of_body (empty at) e = tt

    of_all : (ss : Stmts) → EachSetOf (λ n. Names) ss → AllMay (all_spots d ss)
    of_all no_stmts e = tt
    of_all (a_stmt s ss) e = both (body_spots d s) (all_spots d ss) (of_body s e.0) (of_all ss e.1)

    of_arms : (arms : Arms) → EachSetIn (λ n. Names) arms → AllMay (arms_spots d arms)
    of_arms no_arms e = tt
    of_arms (arm labels s arms) e = both (terms_spots d labels ++ body_spots d s) (arms_spots d arms) (both (terms_spots d labels) (body_spots d s) (of_terms labels) (of_body s e.0)) (of_arms arms e.1)
