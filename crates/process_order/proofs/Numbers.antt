-- From lists of names and an order to the tables of a design.
use Rattle.std.proofs.Common.{◌≡◌, ◌↔◌, ◌⊎◌, inl, inr, ⊎_elim, ◌∙◌, ℕ, ◌+◌, ◌<◌, Bool, true, false, not, ◌==◌, ltb, List, [], ◌∷◌, ◌++◌, length, map, get_or, refl, sym, ap, subst, arith}
use Rattle.std.specs.Prelude.{filter}
use Rattle.std.specs.List.{Contains, list_any}
use Rattle.std.proofs.Math.ListN.{get_or-map}
use Rattle.std.proofs.lemmas.Bool.{and_from, and_parts, both_ways, cases_Bool, lt-ltb, ltb-true, not-true, not_from_false, true≢false}
use Rattle.std.proofs.lemmas.List.{length-map}
use Rattle.std.proofs.lemmas.Simd.{map-map}
use Rattle.design_model.specs.Design.{AreDistinct, Design, In, IsClocked, body, body_at, no_process, process_at}
use Rattle.design_model.specs.Machine.{is_level}
use Rattle.design_model.specs.Mentions.{body_assigns}
use Rattle.design_model.specs.Tree.{Process}
use Rattle.design_model.specs.View.{process_view}
use Rattle.design_model.specs.declared.tree.Process.{Process as CodeProcess}
use Rattle.design_wakes.proofs.early_sets.Membership.{is_in_from, is_in_gives}
use Rattle.index_sets.specs.Rows.{row_at}
use Rattle.design_wakes.specs.process_names.Names.{level_names}
use Rattle.design_wakes.proofs.process_names.NamesLaw.{level_is}
use Rattle.replay_model.specs.Tables.{AreTables, Drives, StandsBefore, Tables}
use Rattle.process_order.specs.Names.{driven_names, is_clocked}
use Rattle.process_order.specs.Order.{IsRunOrder}
use Rattle.process_order.specs.Parts.{is_run, waits_at}
use Rattle.process_order.proofs.Distinct.{before_filter, contains_in, distinct_both, distinct_filter, filter_in, in_contains, in_either, in_filter}
use Rattle.process_order.proofs.Driven.{clocked_drives_none, clocked_is, driven_is, is_clocked_from, not_clocked, not_clocked_from}
use Rattle.process_order.proofs.RowLemmas.{none_in, row_inside}

-- the names of the process with a number
names_row : (names : Process → List ℕ) (ps : List CodeProcess) (p : ℕ) → names no_process ≡ [] → row_at (map (λ q. names (process_view q)) ps) p ≡ names (get_or (map process_view ps) p no_process)
names_row names ps p none =
    ap (λ ls. get_or ls p []) (sym (map-map names process_view ps)) ∙ ap (λ d. get_or (map names (map process_view ps)) p d) (sym none) ∙ get_or-map names (map process_view ps) p no_process

abbrev has : ℕ → List ℕ → Bool
has x xs = list_any (λ y. y == x) xs

has_from : (x : ℕ) (xs : List ℕ) → Contains xs x → has x xs ≡ true
has_from x xs c = is_in_from xs x c.0 c.1 c.2

module _ (d : Design) (ps : List CodeProcess) (is : d.processes ≡ map process_view ps) (bound : ℕ → Bool) (watched : List (List ℕ)) (same : (p x : ℕ) → Contains (row_at watched p) x ↔ Contains (row_at (map (λ q. level_names (process_view q)) ps) p) x) (size : length watched ≡ length ps) (order : List ℕ) (run : IsRunOrder watched (map (λ q. driven_names (process_view q)) ps) bound order) where
  process_is : (p : ℕ) → get_or (map process_view ps) p no_process ≡ process_at d p
  process_is p = ap (λ l. get_or l p no_process) (sym is)

  length_is : length d.processes ≡ length ps
  length_is = ap length is ∙ length-map ps process_view

  watches : (p x : ℕ) → Contains (row_at watched p) x ↔ (is_level (process_at d p) x ≡ true)
  watches p x =
      let row : row_at (map (λ q. level_names (process_view q)) ps) p ≡ level_names (process_at d p) = names_row level_names ps p refl ∙ ap level_names (process_is p) in (
        λ c. sym (level_is x (process_at d p)) ∙ has_from x (level_names (process_at d p)) (subst (λ r. Contains r x) row ((same p x).0 c)),
        λ e. (same p x).1 (subst (λ r. Contains r x) (sym row) (is_in_gives (level_names (process_at d p)) x (level_is x (process_at d p) ∙ e))),
      )

  driven_row : (q : ℕ) → row_at (map (λ q. driven_names (process_view q)) ps) q ≡ driven_names (process_at d q)
  driven_row q = names_row driven_names ps q refl ∙ ap driven_names (process_is q)

  drives_to : (q x : ℕ) → Drives d q x → Contains (row_at (map (λ q. driven_names (process_view q)) ps) q) x
  drives_to q x h =
      let settles : is_clocked (process_at d q) ≡ false = not_clocked_from (process_at d q) h.settles in
      subst (λ r. Contains r x) (sym (driven_row q)) (is_in_gives (driven_names (process_at d q)) x (driven_is x (process_at d q) settles ∙ h.drives))

  drives_not_clocked : (q x : ℕ) → Contains (driven_names (process_at d q)) x → is_clocked (process_at d q) ≡ false
  drives_not_clocked q x c =
      ⊎_elim
      (λ yes. absurd (none_in x (subst (λ r. Contains r x) (clocked_drives_none (process_at d q) yes) c)))
      (λ no. no)
      (cases_Bool (is_clocked (process_at d q)))

  drives_from : (q x : ℕ) → Contains (row_at (map (λ q. driven_names (process_view q)) ps) q) x → Drives d q x
  drives_from q x c =
      let here : Contains (driven_names (process_at d q)) x = subst (λ r. Contains r x) (driven_row q) c in
      let settles : is_clocked (process_at d q) ≡ false = drives_not_clocked q x here in
      record {
        is_process = omega (arith, length_is, length-map ps (λ (q : CodeProcess). driven_names (process_view q)), row_inside (map (λ q. driven_names (process_view q)) ps) q x c);
        settles = not_clocked (process_at d q) settles;
        drives = sym (driven_is x (process_at d q) settles) ∙ has_from x (driven_names (process_at d q)) here;
      }

  waits_is : (p : ℕ) → waits_at ps p ≡ is_clocked (process_at d p)
  waits_is p = ap is_clocked (process_is p)

  run_to : (p : ℕ) → p < length ps → is_clocked (process_at d p) ≡ false → is_run ps p ≡ true
  run_to p l e = and_from (ltb p (length ps)) (not (waits_at ps p)) (lt-ltb p (length ps) l) (not_from_false (waits_at ps p) (waits_is p ∙ e))

  run_from : (p : ℕ) → is_run ps p ≡ true → (p < length ps) × (is_clocked (process_at d p) ≡ false)
  run_from p e =
      let both = and_parts (ltb p (length ps)) (not (waits_at ps p)) e in
      (ltb-true p (length ps) both.0, sym (waits_is p) ∙ not-true (waits_at ps p) both.1)

  -- the three parts
  module _ (clocked last : List ℕ) (clocked_has : (p : ℕ) → In p clocked ↔ ((p < length ps) × (waits_at ps p ≡ true))) (clocked_once : AreDistinct clocked) (last_has : (p : ℕ) → In p last ↔ ((p < length ps) × (waits_at ps p ≡ false) × (Contains order p → ⊥))) (last_once : AreDistinct last) where
    abbrev ordered : List ℕ
    ordered = filter (is_run ps) order

    ordered_run : (p : ℕ) → In p ordered → Contains order p × (is_run ps p ≡ true)
    ordered_run p i = let k = in_filter (is_run ps) p order i in (in_contains p order k.0, k.1)

    not_in_order : (p : ℕ) → has p order ≡ false → Contains order p → ⊥
    not_in_order p e c = both_ways (has p order) e (has_from p order c)

    others_to : (p : ℕ) → In p ordered ⊎ In p last → (p < length d.processes) × (IsClocked (process_at d p) → ⊥)
    others_to p i =
        ⊎_elim
        (λ o. let k = run_from p (ordered_run p o).1 in (omega (arith, k.0, length_is), not_clocked (process_at d p) k.1))
        (λ l. let k = (last_has p).0 l in (omega (arith, k.0, length_is), not_clocked (process_at d p) (sym (waits_is p) ∙ k.1)))
        i

    others_from : (p : ℕ) → (p < length d.processes) × (IsClocked (process_at d p) → ⊥) → In p ordered ⊎ In p last
    others_from p h =
        let inside : p < length ps = omega (arith, h.0, length_is) in
        let settles : is_clocked (process_at d p) ≡ false = not_clocked_from (process_at d p) h.1 in
        ⊎_elim
        (λ yes. inl (filter_in (is_run ps) p order (contains_in p order (is_in_gives order p yes)) (run_to p inside settles)))
        (λ no. inr ((last_has p).1 (inside, waits_is p ∙ settles, not_in_order p no)))
        (cases_Bool (has p order))

    all_distinct : AreDistinct (clocked ++ (ordered ++ last))
    all_distinct =
        distinct_both clocked (ordered ++ last) clocked_once
        (distinct_both ordered last (distinct_filter (is_run ps) order run.once) last_once (λ p o l. ((last_has p).0 l).2 (ordered_run p o).0))
        (λ p c i.
        let waits : waits_at ps p ≡ true = ((clocked_has p).0 c).1 in
        let none = others_to p (in_either p ordered last i) in
        none.1 (clocked_is (process_at d p) (sym (waits_is p) ∙ waits)))

    after_drivers : (p q x : ℕ) → In p ordered → is_level (process_at d p) x ≡ true → bound x ≡ false → Drives d q x → (q ≡ p → ⊥) → StandsBefore q ordered p
    after_drivers p q x i level free drives apart =
        let here = ordered_run p i in
        let inside = run_from p here.1 in
        before_filter (is_run ps) q p order (run.after p q x (omega (arith, inside.0, size)) here.0 ((watches p x).1 level) free (drives_to q x drives) apart) (run_to q (omega (arith, drives.is_process, length_is)) (not_clocked_from (process_at d q) drives.settles)) here.1

    left_by : (p : ℕ) → In p last → (x q : ℕ) × (is_level (process_at d p) x ≡ true) × (bound x ≡ false) × In q last × (q ≡ p → ⊥) × Drives d q x
    left_by p i =
        let k = (last_has p).0 i in
        let w = run.left p (omega (arith, k.0, size)) k.2 in
        let drives : Drives d w.1 w.0 = drives_from w.1 w.0 w.4 in
        (w.0, w.1, (watches p w.0).0 w.2, w.3, (last_has w.1).1 (omega (arith, drives.is_process, length_is), waits_is w.1 ∙ not_clocked_from (process_at d w.1) drives.settles, w.6), w.5, drives)

    pub tables_are : AreTables d bound (record { watched = row_at watched; clocked = clocked; order = ordered; last = last })
    tables_are =
        record {
          watched = λ p x. (λ i. (watches p x).0 (in_contains x (row_at watched p) i), λ e. contains_in x (row_at watched p) ((watches p x).1 e));
          clocked = λ p. (
            λ i. let k = (clocked_has p).0 i in (omega (arith, k.0, length_is), clocked_is (process_at d p) (sym (waits_is p) ∙ k.1)),
            λ h. (clocked_has p).1 (omega (arith, h.0, length_is), waits_is p ∙ is_clocked_from (process_at d p) h.1),
          );
          others = λ p. (others_to p, others_from p);
          once = all_distinct;
          ordered = after_drivers;
          behind = left_by;
        }

    -- with the parts as they are kept
    pub tables_made : (rows : List (List ℕ)) (kept : List ℕ) → rows ≡ watched → kept ≡ filter (is_run ps) order → AreTables d bound (record { watched = row_at rows; clocked = clocked; order = kept; last = last })
    tables_made rows kept r k =
        subst (λ rs. AreTables d bound (record { watched = row_at rs; clocked = clocked; order = kept; last = last })) (sym r)
        (subst (λ xs. AreTables d bound (record { watched = row_at watched; clocked = clocked; order = xs; last = last })) (sym k) tables_are)
