-- What the runs of the bodies of a lawful design log at most is a small number.
use Rattle.std.proofs.Common.{Bool, List, [], ap, arith, false, if◌then◌else◌, length, refl, slice_index_or, subst, suc, sym, true, zero, ℕ, ◌&&◌, ◌*◌, ◌+◌, ◌-◌, ◌<◌, ◌==◌, ◌||◌, ◌∷◌, ◌≡◌, ◌≤◌}
use Rattle.std.specs.Prelude.{nat_le, nat_lt, sum_by}
use Rattle.std.specs.List.{list_all}
use Rattle.std.proofs.lemmas.Bool.{and_parts, leb-true, ltb-true}
use Rattle.std.proofs.lemmas.List.Sums.{sum_by-cons}
use Rattle.design_model.specs.declared.design.Memory.{Memory}
use Rattle.design_model.specs.Assignment.{target_width, targets_width}
use Rattle.design_model.specs.Design.{Design, body, is_memory, memory_at, no_memory, no_process}
use Rattle.design_model.specs.Lawful.{IsLawfulDesign, arm_sizes, is_memory_of, size, size_of, sizes, span}
use Rattle.design_model.specs.Shape.{are_bodies, are_shaped, are_targets, is_alone, is_arms, is_body, is_target}
use Rattle.design_model.specs.Tree.{Arms, Process, Stmt, Stmts, Target, Targets, a_stmt, a_target, all_of, arm, assign, bits_of, block, branch, clocked, comb, empty, no_arms, no_stmts, no_targets, select, set, several, turns, word_of}
use Rattle.value_store.specs.Rooms.{all_logged, all_parts, all_take, arms_logged, log_takes, logged, most_logged, target_parts, target_takes}
use Rattle.open_tests.specs.assignments.Widths.{HasWidths}
use Rattle.open_tests.proofs.assignments.Assigned.{set_narrow}
use Rattle.open_tests.proofs.assignments.Lawful.{lawful_widths}
use Rattle.body_rooms.specs.Rooms.{CountedLaw}

module _ (d : Design) (w : HasWidths d) where
  mutual
    -- a part has at least one bit
    pub parts_fit : (x : Target) → is_target d x ≡ true → target_parts x ≤ target_width d x
    parts_fit (all_of s) h = let e = (w.signals s (ltb-true s (length d.signals) h)).spans in omega (arith, e)
    parts_fit (bits_of s low k) h = leb-true 1 k (and_parts _ (nat_le 1 k) h).1
    parts_fit (word_of m i) h = let e = (w.memories m (and_parts (is_memory d m) (is_alone d i) h).0).spans in omega (arith, e)
    parts_fit (several ts) h = all_parts_fit ts h

    all_parts_fit : (ts : Targets) → are_targets d ts ≡ true → all_parts ts ≤ targets_width d ts
    all_parts_fit no_targets h = omega arith
    all_parts_fit (a_target t ts) h =
        let both = and_parts (is_target d t) (are_targets d ts) h in
        let one = parts_fit t both.0 in
        let more = all_parts_fit ts both.1 in
        omega (arith, one, more)

module _ (takes : ℕ → ℕ) (few : (y : ℕ) → takes y ≤ 65537) where
  mutual
    part_takes : (x : Target) → target_takes takes x ≤ target_parts x * 65537
    part_takes (all_of s) = let f = few s in omega (arith, f)
    part_takes (bits_of s low k) = let f = few s in omega (arith, f)
    part_takes (word_of m i) = let f = few m in omega (arith, f)
    part_takes (several ts) = all_part_takes ts

    all_part_takes : (ts : Targets) → all_take takes ts ≤ all_parts ts * 65537
    all_part_takes no_targets = omega arith
    all_part_takes (a_target t ts) = let one = part_takes t in let more = all_part_takes ts in omega (arith, one, more)

-- the most that a statement takes
abbrev most : ℕ
most = 8388737

module _ (d : Design) (w : HasWidths d) (takes : ℕ → ℕ) (few : (y : ℕ) → takes y ≤ 65537) where
  set_few : (inside blocking : Bool) (x : Target) → is_target d x ≡ true → target_width d x ≤ 128 → (if blocking && inside then target_takes takes x else 0) + 1 ≤ most
  set_few true true x h n = let f = part_takes takes few x in let p = parts_fit d w x h in omega (arith, f, p, n)
  set_few false true x h n = omega arith
  set_few true false x h n = omega arith
  set_few false false x h n = omega arith

  mutual
    logged_few : (inside : Bool) (s : Stmt) → is_body d s ≡ true → logged takes inside s + 1 ≤ size s * most
    logged_few inside (block p ss) h = let more = all_logged_few inside ss h in omega (arith, more)
    logged_few inside (branch p n t s other) h =
        let both = and_parts (is_alone d t && is_body d s) (are_bodies d other) h in
        let one = logged_few true s (and_parts (is_alone d t) (is_body d s) both.0).1 in
        let more = all_logged_few true other both.1 in
        omega (arith, one, more)
    logged_few inside (select p n kind t arms) h = let more = arms_logged_few arms _ _ (and_parts _ (is_arms d _ _ arms) h).1 in omega (arith, more)
    logged_few inside (turns p n ss) h = let more = all_logged_few inside ss h in omega (arith, more)
    logged_few inside (set p n blocking x t) h =
        let one = set_few inside blocking x (and_parts (is_target d x) _ h).0 (set_narrow d x t h) in
        omega (arith, one)
    logged_few inside (empty p) h = omega arith

    all_logged_few : (inside : Bool) (ss : Stmts) → are_bodies d ss ≡ true → all_logged takes inside ss ≤ sizes ss * most
    all_logged_few inside no_stmts h = omega arith
    all_logged_few inside (a_stmt s ss) h =
        let both = and_parts (is_body d s) (are_bodies d ss) h in
        let one = logged_few inside s both.0 in
        let more = all_logged_few inside ss both.1 in
        omega (arith, one, more)

    arms_logged_few : (arms : Arms) (k : ℕ) (g : Bool) → is_arms d k g arms ≡ true → arms_logged takes arms ≤ arm_sizes arms * most
    arms_logged_few no_arms k g h = omega arith
    arms_logged_few (arm labels s arms) k g h =
        let outer = and_parts (are_shaped d k g labels && is_body d s) (is_arms d k g arms) h in
        let one = logged_few true s (and_parts (are_shaped d k g labels) (is_body d s) outer.0).1 in
        let more = arms_logged_few arms k g outer.1 in
        omega (arith, one, more)

  process_few : (p : Process) → is_body d (body p) ≡ true → logged takes false (body p) ≤ size_of p * most
  process_few (assign i x t counted) h = omega arith
  process_few (comb i wakes s) h = let one = logged_few false s h in omega (arith, one)
  process_few (clocked i events s) h = let one = logged_few false s h in omega (arith, one)

  most_few : (ps : List Process) → ((i : ℕ) → i < length ps → is_body d (body (slice_index_or ps i no_process)) ≡ true) → most_logged takes ps ≤ sum_by size_of ps * most
  most_few [] h = omega arith
  most_few (p ∷ ps) h =
      let one = process_few p (h 0 (omega arith)) in
      let more = most_few ps (λ i less. h (suc i) (omega (arith, less))) in
      let sum : sum_by size_of (p ∷ ps) ≡ size_of p + sum_by size_of ps = sum_by-cons size_of p ps in
      omega (arith, one, more, sum)

few_words : (d : Design) (xs : List Memory) → list_all (is_memory_of d) xs ≡ true → (i : ℕ) → span (slice_index_or xs i no_memory).first (slice_index_or xs i no_memory).last ≤ 65536
few_words d [] h zero = omega arith
few_words d [] h (suc i) = omega arith
few_words d (m ∷ ms) h zero =
    let p = and_parts _ (m.ranged || ((m.high == 0) && (m.low == 0))) (and_parts (is_memory_of d m) (list_all (is_memory_of d) ms) h).0 in
    let q = and_parts _ (m.width == span m.high m.low) p.0 in
    leb-true (span m.first m.last) 65536 (and_parts _ (nat_le (span m.first m.last) 65536) q.0).1
few_words d (m ∷ ms) h (suc i) = few_words d ms (and_parts (is_memory_of d m) (list_all (is_memory_of d) ms) h).1 i

few_at : (d : Design) → IsLawfulDesign d → (y : ℕ) (b : Bool) → nat_le (length d.signals) y ≡ b → span (memory_at d y).first (memory_at d y).last ≤ 65536
few_at d h y true e =
    let P : Memory → Type 0 = λ m. span m.first m.last ≤ 65536 in
    subst P (sym (ap (λ b. if b then slice_index_or d.memories (y - length d.signals) no_memory else no_memory) e)) (few_words d d.memories h.memories (y - length d.signals))
few_at d h y false e =
    let P : Memory → Type 0 = λ m. span m.first m.last ≤ 65536 in
    subst P (sym (ap (λ b. if b then slice_index_or d.memories (y - length d.signals) no_memory else no_memory) e)) (omega arith)

few_taken : (d : Design) → IsLawfulDesign d → (y : ℕ) → log_takes d y ≤ 65537
few_taken d h y = go (nat_lt y (length d.signals))
  where
    go : (b : Bool) → (if b then 1 else span (memory_at d y).first (memory_at d y).last + 1) ≤ 65537
    go true = omega arith
    go false = let f = few_at d h y (nat_le (length d.signals) y) refl in omega (arith, f)

pub counted : CountedLaw
counted d h =
    let most_is = most_few d (lawful_widths d h) (log_takes d) (few_taken d h) d.processes (λ i less. h.bodies i) in
    let few = h.few_statements in
    omega (arith, most_is, few)
