-- What a tree in a list says of its root and leaves.
use Rattle.std.proofs.Common.{◌≡◌, ◌⊎◌, inl, inr, ⊎_elim, ◌∙◌, ℕ, zero, suc, ◌+◌, ◌-◌, ◌*◌, ◌/◌, ◌%◌, ◌<◌, ◌≤◌, Bool, true, false, cond, ltb, List, min, length, get_or, set, drop, replicate, refl, sym, ap, subst, arith}
use Rattle.std.proofs.Math.ListN.{get_or-map}
use Rattle.std.proofs.lemmas.Bool.{cases_eq, cases_lt, le-ltb, lt-ltb}
use Rattle.std.proofs.lemmas.List.{ext_get_or, get_or_default, get_or_past, get_or-drop, get_or-replicate, get_or-set_other, get_or-set_same, length-drop, length-map, length-replicate, length-set}
use Rattle.wake_list.specs.Tournament.{IsLeast, IsTournament, IsTree, NoneIsMember, members}

halves : (j : ℕ) → (j ≡ 2 * (j / 2)) ⊎ (j ≡ 2 * (j / 2) + 1)
halves j = ⊎_elim (λ e. inl (omega arith)) (λ ne. inr (omega arith)) (cases_eq (j % 2) 0)

module _ (count : ℕ) (tree : List ℕ) (h : IsTournament count tree) where
  -- no node holds less than the root
  root_least : (f j : ℕ) → j ≤ f → 0 < j → j < length tree → get_or tree 1 0 ≤ get_or tree j 0
  root_least zero j a b l = absurd (omega arith)
  root_least (suc f) j a b l =
      ⊎_elim
      (λ e. let same : get_or tree j 0 ≡ get_or tree 1 0 = ap (λ n. get_or tree n 0) e in omega arith)
      (λ ne.
      let i : ℕ = j / 2 in
      let up : get_or tree 1 0 ≤ get_or tree i 0 = root_least f i (omega arith) (omega arith) (omega arith) in
      let node : get_or tree i 0 ≡ min (get_or tree (2 * i) 0) (get_or tree (2 * i + 1) 0) = h.nodes i (omega arith) (omega (arith, h.size)) in
      ⊎_elim
      (λ e. let same : get_or tree j 0 ≡ get_or tree (2 * i) 0 = ap (λ n. get_or tree n 0) e in omega arith)
      (λ e. let same : get_or tree j 0 ≡ get_or tree (2 * i + 1) 0 = ap (λ n. get_or tree n 0) e in omega arith)
      (halves j))
      (cases_eq j 1)

  -- what a node holds is what some leaf holds
  leaf_below : (f i : ℕ) → 2 * count ≤ i + f → 0 < i → i < 2 * count → (k : ℕ) × (k < count) × (get_or tree i 0 ≡ get_or tree (count + k) 0)
  leaf_below zero i a b l = absurd (omega arith)
  leaf_below (suc f) i a b l =
      ⊎_elim
      (λ inner.
      let node : get_or tree i 0 ≡ min (get_or tree (2 * i) 0) (get_or tree (2 * i + 1) 0) = h.nodes i b (omega (arith, h.size)) in
      ⊎_elim
      (λ left. let k = leaf_below f (2 * i) (omega arith) (omega arith) (omega arith) in (k.0, k.1, let here : get_or tree i 0 ≡ get_or tree (2 * i) 0 = omega arith in here ∙ k.2))
      (λ right. let k = leaf_below f (2 * i + 1) (omega arith) (omega arith) (omega arith) in (k.0, k.1, let here : get_or tree i 0 ≡ get_or tree (2 * i + 1) 0 = omega arith in here ∙ k.2))
      (cases_lt (get_or tree (2 * i) 0) (get_or tree (2 * i + 1) 0)))
      (λ outer. (i - count, omega arith, ap (λ n. get_or tree n 0) (omega arith)))
      (cases_lt i count)

  pub length-members : length (members count tree) ≡ count
  length-members = length-map (drop count tree) (λ held. ltb held count) ∙ length-drop count tree ∙ omega (arith, h.size)

  member_at : (k : ℕ) → k < count → get_or (members count tree) k false ≡ ltb (get_or tree (count + k) 0) count
  member_at k l =
      get_or_default (members count tree) k false (ltb 0 count) (omega (arith, length-members)) ∙ get_or-map (λ held. ltb held count) (drop count tree) k 0 ∙ ap (λ held. ltb held count) (get_or-drop count tree k 0)

  -- the leaf of a number below the root's is that of no member
  not_member : (k : ℕ) → k < count → (k < get_or tree 1 0) ⊎ (count ≤ get_or tree 1 0) → ltb (get_or tree (count + k) 0) count ≡ false
  not_member k l above =
      let least : get_or tree 1 0 ≤ get_or tree (count + k) 0 = root_least (count + k) (count + k) (omega arith) (omega arith) (omega (arith, h.size)) in
      ⊎_elim
      (λ holds.
      let is : get_or tree (count + k) 0 ≡ k = h.leaf k l ∙ ap (λ b. cond b k count) (lt-ltb (get_or tree (count + k) 0) count holds) in
      absurd (⊎_elim (λ a. omega arith) (λ a. omega arith) above))
      (λ no. le-ltb (get_or tree (count + k) 0) count no)
      (cases_lt (get_or tree (count + k) 0) count)

  pub none_member : (count ≤ get_or tree 1 0) ⊎ (count ≡ 0) → NoneIsMember (members count tree)
  none_member big k =
      ⊎_elim
      (λ l. member_at k l ∙ not_member k l (⊎_elim (λ a. inr a) (λ z. absurd (omega arith)) big))
      (λ g. get_or_past (members count tree) k false (omega (arith, length-members)))
      (cases_lt k count)

  pub root_is_least : get_or tree 1 0 < count → IsLeast (get_or tree 1 0) (members count tree)
  root_is_least l =
      let root = get_or tree 1 0 in
      let k = leaf_below (2 * count) 1 (omega arith) (omega arith) (omega arith) in
      let small : get_or tree (count + k.0) 0 < count = omega (arith, k.2) in
      let is : get_or tree (count + k.0) 0 ≡ k.0 = h.leaf k.0 k.1 ∙ ap (λ b. cond b k.0 count) (lt-ltb (get_or tree (count + k.0) 0) count small) in
      let here : root ≡ k.0 = k.2 ∙ is in
      record {
        below = omega (arith, length-members);
        member = member_at root l ∙ ap (λ n. ltb (get_or tree (count + n) 0) count) here ∙ lt-ltb (get_or tree (count + k.0) 0) count small;
        least = λ j below. member_at j (omega arith) ∙ not_member j (omega arith) (inl below);
      }

-- a tree in which all nodes hold the same
pub same_tree : (count n : ℕ) → n ≡ 2 * count → IsTournament count (replicate n count)
same_tree count n e =
    record {
      size = length-replicate n count ∙ e;
      nodes = λ i a l.
          let inside : 2 * i + 1 < n = omega (arith, length-replicate n count) in
          omega (arith, get_or-replicate n i count 0 (omega arith), get_or-replicate n (2 * i) count 0 (omega arith), get_or-replicate n (2 * i + 1) count 0 inside);
      leaf = λ k l.
          let is : get_or (replicate n count) (count + k) 0 ≡ count = get_or-replicate n (count + k) count 0 (omega arith) in
          is ∙ sym (ap (λ held. cond (ltb held count) k count) is ∙ ap (λ b. cond b k count) (le-ltb count count (omega arith)));
    }

pub no_members : (count n : ℕ) → n ≡ 2 * count → members count (replicate n count) ≡ replicate count false
no_members count n e =
    let t = same_tree count n e in
    ext_get_or false (members count (replicate n count)) (replicate count false) (length-members count (replicate n count) t ∙ sym (length-replicate count false)) (λ k l.
    let below : k < count = omega (arith, length-members count (replicate n count) t) in
    member_at count (replicate n count) t k below ∙ ap (λ held. ltb held count) (get_or-replicate n (count + k) count 0 (omega arith)) ∙ le-ltb count count (omega arith) ∙ sym (get_or-replicate count k false false below))

-- every node but one holds the lesser of what its children hold
abbrev pub IsTreeBut : ℕ → List ℕ → Type 0
IsTreeBut j tree = (i : ℕ) → (i ≡ j → ⊥) → 0 < i → 2 * i + 1 < length tree → get_or tree i 0 ≡ min (get_or tree (2 * i) 0) (get_or tree (2 * i + 1) 0)

module _ (tree : List ℕ) where
  -- after a leaf is written only the node above it may be wrong
  pub leaf_written : (leaf held : ℕ) → IsTree tree → length tree ≤ 2 * leaf → IsTreeBut (leaf / 2) (set tree leaf held)
  leaf_written leaf held h far i apart a l =
      let size : length (set tree leaf held) ≡ length tree = length-set tree leaf held in
      let one : i ≡ leaf → ⊥ = λ e. absurd (omega arith) in
      let two : 2 * i ≡ leaf → ⊥ = λ e. apart (omega arith) in
      let three : 2 * i + 1 ≡ leaf → ⊥ = λ e. apart (omega arith) in
      omega (arith, get_or-set_other tree leaf i held 0 one, get_or-set_other tree leaf (2 * i) held 0 two, get_or-set_other tree leaf (2 * i + 1) held 0 three, h i a (omega arith))

  -- after a node is made right only the node above it may be wrong
  pub node_written : (node least : ℕ) → IsTreeBut node tree → 0 < node → 2 * node + 1 < length tree → least ≡ min (get_or tree (2 * node) 0) (get_or tree (2 * node + 1) 0) → IsTreeBut (node / 2) (set tree node least)
  node_written node least h b inside is i apart a l =
      let size : length (set tree node least) ≡ length tree = length-set tree node least in
      let two : 2 * i ≡ node → ⊥ = λ e. apart (omega arith) in
      let three : 2 * i + 1 ≡ node → ⊥ = λ e. apart (omega arith) in
      let left = get_or-set_other tree node (2 * i) least 0 two in
      let right = get_or-set_other tree node (2 * i + 1) least 0 three in
      ⊎_elim
      (λ e.
      let here : get_or (set tree node least) i 0 ≡ least = ap (λ n. get_or (set tree node least) n 0) e ∙ get_or-set_same tree node least 0 (omega arith) in
      let l2 : get_or tree (2 * i) 0 ≡ get_or tree (2 * node) 0 = ap (λ n. get_or tree (2 * n) 0) e in
      let r2 : get_or tree (2 * i + 1) 0 ≡ get_or tree (2 * node + 1) 0 = ap (λ n. get_or tree (2 * n + 1) 0) e in
      omega arith)
      (λ ne. omega (arith, get_or-set_other tree node i least 0 ne, h i ne a (omega arith)))
      (cases_eq i node)

  -- where that one is right too, all are
  pub all_right : (node : ℕ) → IsTreeBut node tree → (0 < node → 2 * node + 1 < length tree → get_or tree node 0 ≡ min (get_or tree (2 * node) 0) (get_or tree (2 * node + 1) 0)) → IsTree tree
  all_right node h right i a l =
      ⊎_elim
      (λ e. subst (λ n. get_or tree n 0 ≡ min (get_or tree (2 * n) 0) (get_or tree (2 * n + 1) 0)) (sym e) (right (omega arith) (omega arith)))
      (λ ne. h i ne a l)
      (cases_eq i node)

-- the leaves of a tree are those of another one, with one written
module _ (count : ℕ) (tree after : List ℕ) (number held : ℕ) (h : IsTournament count tree) (l : number < count) (size : length after ≡ length tree) (nodes : IsTree after) (leaves : (k : ℕ) → length tree ≤ 2 * k → get_or after k 0 ≡ get_or (set tree (count + number) held) k 0) (fits : held ≡ cond (ltb held count) number count) where
  pub after_tournament : IsTournament count after
  after_tournament =
      record {
        size = size ∙ h.size;
        nodes = nodes;
        leaf = λ k below.
            let is = leaves (count + k) (omega (arith, h.size)) in
            ⊎_elim
            (λ e.
            let here : get_or after (count + k) 0 ≡ held = is ∙ ap (λ n. get_or (set tree (count + number) held) (count + n) 0) e ∙ get_or-set_same tree (count + number) held 0 (omega (arith, h.size)) in
            here ∙ fits ∙ ap (λ n. cond (ltb held count) n count) (sym e) ∙ ap (λ x. cond (ltb x count) k count) (sym here))
            (λ ne.
            let other : get_or after (count + k) 0 ≡ get_or tree (count + k) 0 = is ∙ get_or-set_other tree (count + number) (count + k) held 0 (λ e. ne (omega arith)) in
            other ∙ h.leaf k below ∙ ap (λ x. cond (ltb x count) k count) (sym other))
            (cases_eq k number);
      }

  pub after_members : members count after ≡ set (members count tree) number (ltb held count)
  after_members =
      let size_before : length (members count tree) ≡ count = length-members count tree h in
      let size_after : length (members count after) ≡ count = length-members count after after_tournament in
      ext_get_or false (members count after) (set (members count tree) number (ltb held count)) (size_after ∙ sym (length-set (members count tree) number (ltb held count) ∙ size_before)) (λ k inside.
      let below : k < count = omega (arith, size_after) in
      let is = leaves (count + k) (omega (arith, h.size)) in
      member_at count after after_tournament k below ∙ ⊎_elim
      (λ e.
      let here : get_or after (count + k) 0 ≡ held = is ∙ ap (λ n. get_or (set tree (count + number) held) (count + n) 0) e ∙ get_or-set_same tree (count + number) held 0 (omega (arith, h.size)) in
      ap (λ x. ltb x count) here ∙ sym (ap (λ n. get_or (set (members count tree) number (ltb held count)) n false) e ∙ get_or-set_same (members count tree) number (ltb held count) false (omega arith)))
      (λ ne.
      let other : get_or after (count + k) 0 ≡ get_or tree (count + k) 0 = is ∙ get_or-set_other tree (count + number) (count + k) held 0 (λ e. ne (omega arith)) in
      ap (λ x. ltb x count) other ∙ sym (get_or-set_other (members count tree) number k (ltb held count) false ne ∙ member_at count tree h k below))
      (cases_eq k number))

-- a leaf is written, and the nodes above it from this one on are not yet right
pub record IsWritten (before after : List ℕ) (leaf held node : ℕ) : Type 0 where
  pub nodes : IsTreeBut node after
  pub inside : 2 * node + 1 < length after
  pub leaves : (k : ℕ) → length before ≤ 2 * k → get_or after k 0 ≡ get_or (set before leaf held) k 0

pub first_written : (before : List ℕ) (leaf held : ℕ) → IsTree before → length before % 2 ≡ 0 → leaf < length before → length before ≤ 2 * leaf → IsWritten before (set before leaf held) leaf held (leaf / 2)
first_written before leaf held h even inside far = record { nodes = leaf_written before leaf held h far; inside = omega (arith, length-set before leaf held); leaves = λ k l. refl }

pub next_written : (before after : List ℕ) (leaf held node least : ℕ) → IsWritten before after leaf held node → length after ≡ length before → 0 < node → least ≡ min (get_or after (2 * node) 0) (get_or after (2 * node + 1) 0) → IsWritten before (set after node least) leaf held (node / 2)
next_written before after leaf held node least h size some is =
    record {
      nodes = node_written after node least h.nodes some h.inside is;
      inside = omega (arith, length-set after node least, h.inside);
      leaves = λ k l. get_or-set_other after node k least 0 (λ e. absurd (omega (arith, h.inside))) ∙ h.leaves k l;
    }

-- what the leaf of a number holds
pub held_is : (count number held : ℕ) (member : Bool) → number < count → held ≡ cond member number count → ltb held count ≡ member
held_is count number held true l e = lt-ltb held count (omega (arith, e))
held_is count number held false l e = le-ltb held count (omega (arith, e))

pub held_fits : (count number held : ℕ) (member : Bool) → number < count → held ≡ cond member number count → held ≡ cond (ltb held count) number count
held_fits count number held member l e = e ∙ ap (λ b. cond b number count) (sym (held_is count number held member l e))
