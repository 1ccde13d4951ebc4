-- What is clear is sure at the end of a closing step, by rounds, where each process of the order has made what it may.
use Rattle.std.proofs.Common.{◌≡◌, ◌⊎◌, inl, inr, ⊎_elim, ℕ, zero, suc, ◌<◌, ◌≤◌, Bool, true, false, not, ◌&&◌, ◌||◌, List, [], ◌∷◌, ◌++◌, map, length, refl, sym, ap, subst, ◌∙◌, arith, Option, Some, None, if◌then◌else◌}
use Rattle.std.specs.Prelude.{nat_le, slice_index_or}
use Rattle.std.specs.List.{list_any}
use Rattle.std.proofs.lemmas.Bool.{and_parts, and_from, and_left, and_right, both_ways, cases_Bool, cases_lt, false_from_ne_true, leb-true, lt-ltb, not_from_true, or_from}
use Rattle.event_machine.specs.Cell.{Cell, Values, join, put_all, same_cell}
use Rattle.event_machine.specs.Habit.{Habit}
use Rattle.event_machine.specs.Machine.{IsCombinational}
use Rattle.design_model.specs.four_state.declared.bit.Bit.{Bit}
use Rattle.design_model.specs.four_state.declared.bit.Bit.TheVariants.{X}
use Rattle.design_model.specs.declared.point.Point.{Point}
use Rattle.design_model.specs.Tree.{Process, assign, clocked, comb}
use Rattle.design_model.specs.Design.{Design, In, IsAssign, IsClocked, IsComb, Thing, a_signal, a_word, body, body_at, cell, cells, is_assign, no_process, owner, process_at, signal_at, signal_bits, signal_cells}
use Rattle.design_model.specs.Mentions.{any_set, blocking_target, body_assigns, body_mentions, has_cell, may_write, target_names}
use Rattle.design_model.specs.Execution.{Visit, at_line, at_node, execution, execution_start, reads, writes_word}
use Rattle.design_model.specs.Machine.{is_level, machine}
use Rattle.design_model.specs.Shows.{BoundDump, IsWindow}
use Rattle.design_model.specs.Reads.{Agrees, AllInside, HasValue, ReadsWithin, PartialMap}
use Rattle.design_model.specs.MayMove.{CanWakeSome}
use Rattle.design_model.specs.Clear.{HasChanged, IsClockedTarget, IsUnbound, IsWrittenValue, IsClearBy, IsCombValue, IsNetValue, clear_from, clear_in, driven_writes, drives, is_driven, of_assigns, of_clean, of_comb, of_dump, of_unwoken}
use Rattle.design_model.specs.Lawful.{IsLawfulDesign}
use Rattle.design_model.proofs.Assigns.{machine_lawful}
use Rattle.design_model.proofs.Bound.{clear_in-thing}
use Rattle.design_model.proofs.Combs.{AllInnerOf, body_inner, body_writes}
use Rattle.design_model.proofs.Lawful.{any_weaker, assign_or, names_from}
use Rattle.design_model.proofs.MadeSound.{comb_blocks}
use Rattle.design_model.proofs.Mentions.{AllReads, execute_reads}
use Rattle.design_model.proofs.Named.{has_cell-from, WritesCell-from}
use Rattle.design_model.proofs.WithinMap.{put_append, put_same, within_by}
use Rattle.design_model.proofs.Untouched.{put_other}
use Rattle.replay_model.proofs.AllowedBy.{past}
use Rattle.replay_model.proofs.AskedLaws.{AskedLaws}
use Rattle.body_replay.specs.Contract.{all_written, sure_in}
use Rattle.body_replay.specs.Runs.{Runs}
use Rattle.body_replay.specs.Store.{Kept}
use Rattle.replay_model.specs.Tables.{Drives, Tables}
use Rattle.replay_model.specs.Step.{is_comb, is_dumped}
use Rattle.replay_model.specs.Stands.{IsMade, made_kept}
use Rattle.replay_model.specs.Laws.{IsReplayOf}
use Rattle.replay_model.proofs.Bits.{all_in, any_in}
use Rattle.replay_model.proofs.Clocked.{UpdatesCell-join, at_false, at_true}
use Rattle.replay_model.proofs.Existing.{signal_has}
use Rattle.replay_model.proofs.Grows.{Within, sample, sample_agrees, within_agrees}
use Rattle.replay_model.proofs.Order.{distinct_apart, distinct_right}
use Rattle.replay_model.proofs.Reasons.{in_owner, map_same, map_sure, sure_bit}
use Rattle.replay_model.proofs.Settling.{comb_not_clocked, in_signal, queues_none}
use Rattle.replay_model.proofs.Targets.{one_assigner, queues_from}
use Rattle.replay_model.proofs.Tells.{at_all}

in_process : (xs : List Process) (x : Process) → In x xs → (j : ℕ) × (slice_index_or xs j no_process ≡ x)
in_process [] x h = absurd h
in_process (y ∷ xs) x (inl e) = (0, e)
in_process (y ∷ xs) x (inr h) = let r = in_process xs x h in (suc r.0, r.1)

is_assign-from : (x : Process) → is_assign x ≡ true → IsAssign x
is_assign-from (assign i t v c) e = tt
is_assign-from (comb i wakes s) e = absurd (both_ways false refl e)
is_assign-from (clocked i events s) e = absurd (both_ways false refl e)

is_assign-of : (x : Process) → IsAssign x → is_assign x ≡ true
is_assign-of (assign i t v c) h = refl
is_assign-of (comb i wakes s) h = absurd h
is_assign-of (clocked i events s) h = absurd h

comb_not_assign : (x : Process) → IsComb x → IsAssign x → ⊥
comb_not_assign (assign i t v c) h a = h
comb_not_assign (comb i wakes s) h a = a
comb_not_assign (clocked i events s) h a = a

pub assign_level : (x : Process) (y : ℕ) → is_assign x ≡ true → is_level x y ≡ true → body_mentions y (body x) ≡ true
assign_level (assign i t v c) y e level = level
assign_level (comb i wakes s) y e level = absurd (both_ways false refl e)
assign_level (clocked i events s) y e level = absurd (both_ways false refl e)

assign_settles : (x : Process) → is_assign x ≡ true → IsClocked x → ⊥
assign_settles (assign i t v c) e h = h
assign_settles (comb i wakes s) e h = h
assign_settles (clocked i events s) e h = both_ways false refl e

-- a read that is inside
pub inside_read : (K : PartialMap) (x : Thing) (xs : List Visit) → AllInside K xs → In (reads x false) xs → HasValue K x
inside_read K x [] all h = absurd h
inside_read K x (y ∷ xs) all (inl e) = (subst (λ z. AllInside K (z ∷ xs)) e all).0
inside_read K x (y ∷ xs) all (inr h) = inside_read K x xs all.1 h

-- what is inside a map is inside another that has what is so read
pub inside_as : (K L : PartialMap) (xs : List Visit) → ((x : Thing) → In (reads x false) xs → HasValue K x → HasValue L x) → AllInside K xs → AllInside L xs
inside_as K L [] f a = tt
inside_as K L (at_line n ∷ xs) f a = (tt, inside_as K L xs (λ x h. f x (inr h)) a.1)
inside_as K L (at_node n c ∷ xs) f a = (tt, inside_as K L xs (λ x h. f x (inr h)) a.1)
inside_as K L (writes_word m i ∷ xs) f a = (tt, inside_as K L xs (λ x h. f x (inr h)) a.1)
inside_as K L (reads x true ∷ xs) f a = (tt, inside_as K L xs (λ y h. f y (inr h)) a.1)
inside_as K L (reads x false ∷ xs) f a = (f x (inl refl) a.0, inside_as K L xs (λ y h. f y (inr h)) a.1)

pub read_in : (Q : ℕ → Type 0) (xs : List Visit) (x : Thing) → AllReads Q xs → In (reads x false) xs → Q (owner x)
read_in Q [] x all h = absurd h
read_in Q (y ∷ xs) x all (inl e) = (subst (λ z. AllReads Q (z ∷ xs)) e all).0
read_in Q (y ∷ xs) x all (inr h) = read_in Q xs x all.1 h

inner_in : (s : ℕ) (xs : List Visit) → AllInnerOf s xs → In (reads (a_signal s) false) xs → ⊥
inner_in s [] all h = h
inner_in s (y ∷ xs) all (inl e) = both_ways false refl ((subst (λ z. AllInnerOf s (z ∷ xs)) e all).0 refl)
inner_in s (y ∷ xs) all (inr h) = inner_in s xs all.1 h

some_of : Bit → Option Bit → Bit
some_of b None = b
some_of b (Some x) = x

-- the bits of a bound signal are those that the dump has
pub signal_dumped : (d : Design) (bound : ℕ → Bool) (s : ℕ) (c : Cell) → bound s ≡ true → In c (signal_cells d s) → is_dumped d bound c ≡ true
signal_dumped d bound s c is_bound inside =
    and_from (bound c.thing) _ (subst (λ z. bound z ≡ true) (sym (in_signal d s c inside).0) is_bound) (lt-ltb _ _ (subst (λ z. c.place < (signal_at d z).width) (sym (in_signal d s c inside).0) (in_signal d s c inside).1))

-- a bound signal that is sure has the dump's value, where what the dump has is known so
pub bound_sure : (d : Design) (bound : ℕ → Bool) (new : Values Bit) (k : Kept) → ((c : Cell) → is_dumped d bound c ≡ true → k c ≡ Some (new c)) → (s : ℕ) (bits : List Bit) → bound s ≡ true → sure_in d k (a_signal s) bits → signal_bits d new s ≡ bits
bound_sure d bound new k dumped s bits is_bound e = map_same new (sample k) (signal_cells d s) (λ c inside. value (k c) (new c) (dumped c (signal_dumped d bound s c is_bound inside))) ∙ sample_agrees d k (a_signal s) bits e
  where
    value : (o : Option Bit) (z : Bit) → o ≡ Some z → z ≡ elim o as (λ o. Bit) [ None ↦ X | Some b ↦ b ]
    value None z e = absurd (cc)
    value (Some b) z e = cc

module _ (d : Design) (h : Habit) (dump : BoundDump) (run : Runs) (tables : Tables) (points : List Point) (is : IsReplayOf d h dump run tables points) (asked : AskedLaws d) (now : ℕ) (start : PartialMap) (final : Kept) (acted : ℕ → Bool) (dumped : (c : Cell) → is_dumped d dump.bound c ≡ true → final c ≡ Some (dump.values now c)) (made : (p : ℕ) → In p tables.order → (IsComb (process_at d p) → acted p ≡ true) → IsMade d dump.bound p final) (has_acted : (p : ℕ) → IsComb (process_at d p) → HasChanged dump d (body_at d p) now → acted p ≡ true) (own_unclear : (p y : ℕ) → is_assign (process_at d p) ≡ true → body_mentions y (body_at d p) ≡ true → body_assigns y (body_at d p) ≡ true → dump.bound y ≡ false → (n : ℕ) → HasValue (clear_in d h dump now start n) (a_signal y) → ⊥) (unwoken : (p : ℕ) (x : Thing) (bits : List Bit) → IsWindow dump now → IsUnbound dump x → IsClockedTarget d p x → (CanWakeSome d dump now p → ⊥) → start x bits → sure_in d final x bits) (written : (p : ℕ) (c : Cell) (x : Thing) (bits : List Bit) → IsWindow dump now → IsUnbound dump x → IsWrittenValue d h dump now start p c x bits → sure_in d final x bits) where
  abbrev v0 : Values Bit
  v0 = sample final

  abbrev In_round : ℕ → PartialMap
  In_round n = clear_in d h dump now start n

  wide : (s : ℕ) → s < length d.signals → 0 < (signal_at d s).width
  wide s below =
      let all = at_all (Rattle.design_model.specs.Lawful.is_signal d) d.signals s is.lawful.signals below in
      omega (arith, leb-true 1 (signal_at d s).width (and_parts _ _ (and_parts _ _ (and_parts _ _ (and_parts _ _ all).0).0).0).1)

  -- of a thing that a Comb assigns no other process is a driver
  comb_one : (p q x : ℕ) → IsComb (process_at d p) → body_assigns x (body_at d p) ≡ true → body_assigns x (body_at d q) ≡ true → q ≡ p
  comb_one p q x is_comb' mine theirs =
      ⊎_elim (λ y. absurd (comb_not_assign (process_at d p) is_comb' (is.lawful.apart q p x y theirs mine))) (λ n. is.lawful.one_writer q p x n (comb_not_assign (process_at d p) is_comb') theirs mine) (assign_or (process_at d q))

  -- some Assign drives each cell of a driven signal
  driver : (s : ℕ) → is_driven d s ≡ true → (c : Cell) → In c (signal_cells d s) → (j : ℕ) × (is_assign (process_at d j) ≡ true) × (any_set (λ k y z. may_write d y c) (body_at d j) ≡ true)
  driver s driven c inside =
      let p = any_in (λ p. is_assign p && any_set (λ k y z. may_write d y c) (body p)) d.processes (all_in (λ c. list_any (λ p. is_assign p && any_set (λ k y z. may_write d y c) (body p)) d.processes) (signal_cells d s) driven c inside) in
      let j = in_process d.processes p.0 p.1 in
      (j.0, subst (λ z. is_assign z ≡ true) (sym j.1) (and_parts (is_assign p.0) _ p.2).0, subst (λ z. any_set (λ k y z. may_write d y c) (body z) ≡ true) (sym j.1) (and_parts (is_assign p.0) _ p.2).1)

  any_assigns : (c : Cell) (j : ℕ) → any_set (λ k y z. may_write d y c) (body_at d j) ≡ true → body_assigns c.thing (body_at d j) ≡ true
  any_assigns c j e = any_weaker (λ k y z. may_write d y c) (λ k y z. target_names c.thing y) (λ k y z g. names_from d y c g) (body_at d j) e

  -- a driver of a driven signal is an Assign
  net_driver : (s : ℕ) → s < length d.signals → is_driven d s ≡ true → (q : ℕ) → body_assigns s (body_at d q) ≡ true → is_assign (process_at d q) ≡ true
  net_driver s below driven q theirs =
      let j = driver s driven (cell s 0) (signal_has d (cell s 0) (wide s below)) in
      is_assign-of (process_at d q) (is.lawful.apart j.0 q s (is_assign-from (process_at d j.0) j.1) (any_assigns (cell s 0) j.0 j.2) theirs)

  -- what a map has is sure at the end, and what drives an unbound signal of it is in the order
  record IsPlaced (K : PartialMap) : Type 0 where
    pub sure : Within K (sure_in d final)
    pub order : (s : ℕ) (bits : List Bit) → K (a_signal s) bits → dump.bound s ≡ false → (q : ℕ) → Drives d q s → In q tables.order
    pub words : (m i : ℕ) (bits : List Bit) → K (a_word m i) bits → length d.signals ≤ m
    pub unclear : (p y : ℕ) → is_assign (process_at d p) ≡ true → body_mentions y (body_at d p) ≡ true → body_assigns y (body_at d p) ≡ true → dump.bound y ≡ false → HasValue K (a_signal y) → ⊥

  in_order : (q : ℕ) → (q < length d.processes) × (IsClocked (process_at d q) → ⊥) → (In q tables.last → ⊥) → In q tables.order
  in_order q known never = ⊎_elim (λ x. x) (λ x. absurd (never x)) ((is.tabled.others q).1 known)

  agrees : (K : PartialMap) → IsPlaced K → Agrees d K v0
  agrees K k = within_agrees d K (sure_in d final) k.sure v0 (sample_agrees d final)

  not_last : (K : PartialMap) → IsPlaced K → (q : ℕ) → is_assign (process_at d q) ≡ true → ReadsWithin d K (body_at d q) → In q tables.last → ⊥
  not_last K k q is_a told x =
      let b = is.tabled.behind q x in
      let below = asked.settled_signals b.1 b.0 b.6.settles b.6.drives in
      let known = inside_read K (a_signal b.0) (execution d (body_at d q) v0).visits (told v0 (agrees K k)) (asked.mention_read q b.0 is_a (assign_level (process_at d q) b.0 is_a b.2) below v0) in
      distinct_apart tables.order tables.last (distinct_right tables.clocked (tables.order ++ tables.last) is.tabled.once) b.1 (k.order b.0 known.0 known.1 b.3 b.1 b.6) b.4

  comb_not_last : (K : PartialMap) → IsPlaced K → (p s : ℕ) (bits : List Bit) → IsCombValue d dump now K p s bits → In p tables.last → ⊥
  comb_not_last K k p s bits value x =
      let b = is.tabled.behind p x in
      let below = asked.settled_signals b.1 b.0 b.6.settles b.6.drives in
      let foreign : body_assigns b.0 (body_at d p) ≡ false = false_from_ne_true _ (λ mine. b.5 (comb_one p b.1 b.0 value.is_comb mine b.6.drives)) in
      let known = value.all_clear b.0 b.2 foreign below in
      distinct_apart tables.order tables.last (distinct_right tables.clocked (tables.order ++ tables.last) is.tabled.once) b.1 (k.order b.0 known.0 known.1 b.3 b.1 b.6) b.4

  -- the Assigns of a net whose value is known are in the order
  net_order : (K : PartialMap) → IsPlaced K → (s : ℕ) (bits : List Bit) → IsNetValue d K s bits → (q : ℕ) → Drives d q s → In q tables.order
  net_order K k s bits net q drives' =
      let is_a = net_driver s net.is_signal net.driven q drives'.drives in
      in_order q (drives'.is_process, drives'.settles) (not_last K k q is_a (net.within q (and_from (is_assign (process_at d q)) _ is_a drives'.drives)))

  placed_next : (K : PartialMap) → IsPlaced K → (s : ℕ) (bits : List Bit) → IsClearBy d h dump now start K (a_signal s) bits → dump.bound s ≡ false → (q : ℕ) → Drives d q s → In q tables.order
  placed_next K k s bits (of_dump z bits' shown bound below e) free q drives = absurd (both_ways _ free bound)
  placed_next K k s bits (of_assigns z bits' unbound net) free q drives' = net_order K k s bits net q drives'
  placed_next K k s bits (of_comb p z bits' unbound value) free q drives' =
      let same = comb_one p q s value.is_comb value.target drives'.drives in
      in_order q (drives'.is_process, drives'.settles) (λ x. comb_not_last K k p s bits value (subst (λ y. In y tables.last) same x))
  placed_next K k s bits (of_unwoken p z bits' window' unbound target never known) free q drives' =
      absurd (drives'.settles (subst (λ y. IsClocked (process_at d y)) (sym (one_assigner d is.lawful p q s target.is_clocked target.target drives'.drives)) target.is_clocked))
  placed_next K k s bits (of_clean p c z bits' window' unbound value) free q drives' =
      absurd (drives'.settles (subst (λ y. IsClocked (process_at d y)) (sym (one_assigner d is.lawful p q s value.writer.is_clocked value.writer.target drives'.drives)) value.writer.is_clocked))

  -- what an Assign or Comb writes it writes by blocking assignments
  settled_writes : (p : ℕ) → (IsClocked (process_at d p) → ⊥) → (u v : Values Bit) (c : Cell) → put_all u (all_written d (body_at d p) v) c ≡ put_all u (execution d (body_at d p) v).blocking c
  settled_writes p settles u v c =
      ap (λ f. f c) (put_append u (execution d (body_at d p) v).blocking (join (execution d (body_at d p) v).nonblocking))
      ∙ put_other (put_all u (execution d (body_at d p) v).blocking) (join (execution d (body_at d p) v).nonblocking) c
      (λ x. both_ways _ (queues_none d (process_at d p) settles (is.lawful.targets p) c.thing) (queues_from d p c ((machine_lawful d is.lawful).nonblocking_kept p v c (UpdatesCell-join (execution d (body_at d p) v).nonblocking c x))))

  has_blocking : (p : ℕ) (v : Values Bit) (c : Cell) → has_cell (execution d (body_at d p) v).blocking c ≡ true → has_cell (all_written d (body_at d p) v) c ≡ true
  has_blocking p v c e = has_cell-from (all_written d (body_at d p) v) c (Rattle.design_model.proofs.Named.WritesCell-left (execution d (body_at d p) v).blocking _ c (WritesCell-from (execution d (body_at d p) v).blocking c e))

  -- what is known without the targets of p is what is known
  made_agrees : (p : ℕ) → Agrees d (sure_in d (made_kept d dump.bound p final)) v0
  made_agrees p x bits e = sample_agrees d final x bits (map_same final (made_kept d dump.bound p final) (cells d x) same ∙ e)
    where
      same : (c : Cell) → In c (cells d x) → final c ≡ made_kept d dump.bound p final c
      same c inside = go (body_assigns c.thing (body_at d p) && (is_comb (process_at d p) || not (dump.bound c.thing))) refl
        where
          go : (b : Bool) → (body_assigns c.thing (body_at d p) && (is_comb (process_at d p) || not (dump.bound c.thing))) ≡ b → final c ≡ (if b then None else final c)
          go false f = refl
          go true f = absurd (sure_bit (made_kept d dump.bound p final) (cells d x) bits e c inside (at_true (λ z. z ≡ None) _ None (final c) f refl))

  made_same : (p : ℕ) (x : Thing) (bits : List Bit) → (body_assigns (owner x) (body_at d p) && (is_comb (process_at d p) || not (dump.bound (owner x)))) ≡ false → sure_in d final x bits → sure_in d (made_kept d dump.bound p final) x bits
  made_same p x bits e k =
      map_same (made_kept d dump.bound p final) final (cells d x) (λ c inside. at_false (λ z. z ≡ final c) _ None (final c) (subst (λ z. (body_assigns z (body_at d p) && (is_comb (process_at d p) || not (dump.bound z))) ≡ false) (sym (in_owner d x c inside)) e) refl) ∙ k

  mentions_all : (p : ℕ) → AllReads (λ q. body_mentions q (body_at d p) ≡ true) (execution d (body_at d p) v0).visits
  mentions_all p = execute_reads (λ q. body_mentions q (body_at d p) ≡ true) d (body_at d p) (λ q f. f) (execution_start v0) tt

  -- a net
  module _ (K : PartialMap) (k : IsPlaced K) where
    assign_told : (p : ℕ) → is_assign (process_at d p) ≡ true → ReadsWithin d K (body_at d p) → ReadsWithin d (sure_in d (made_kept d dump.bound p final)) (body_at d p)
    assign_told p is_a told =
        within_by d (sure_in d (made_kept d dump.bound p final)) (body_at d p) v0 (made_agrees p) (inside_as K (sure_in d (made_kept d dump.bound p final)) (execution d (body_at d p) v0).visits has (told v0 (agrees K k)))
      where
        own : (x : Thing) (bits : List Bit) → In (reads x false) (execution d (body_at d p) v0).visits → K x bits → (body_assigns (owner x) (body_at d p) && (is_comb (process_at d p) || not (dump.bound (owner x)))) ≡ false
        own (a_signal s) bits read known =
            ⊎_elim (λ mine. ⊎_elim (λ bound. and_right _ _ (or_from _ _ (not_comb (process_at d p) is_a) (not_from_true _ bound))) (λ free. absurd (k.unclear p s is_a (read_in (λ q. body_mentions q (body_at d p) ≡ true) _ (a_signal s) (mentions_all p) read) mine free (bits, known))) (cases_Bool (dump.bound s)))
            (λ other. and_left _ _ other) (cases_Bool (body_assigns s (body_at d p)))
          where
            not_comb : (x : Process) → is_assign x ≡ true → is_comb x ≡ false
            not_comb (assign i t v c) e = refl
            not_comb (comb i wakes s) e = absurd (both_ways false refl e)
            not_comb (clocked i events s) e = refl
        own (a_word m i) bits read known =
            and_left _ _
            (false_from_ne_true _ (λ mine. omega (arith, asked.settled_signals p m (assign_settles (process_at d p) is_a) mine, k.words m i bits known)))

        has : (x : Thing) → In (reads x false) (execution d (body_at d p) v0).visits → HasValue K x → HasValue (sure_in d (made_kept d dump.bound p final)) x
        has x read v = (v.0, made_same p x v.0 (own x v.0 read v.1) (k.sure x v.0 v.1))

    net_sure : (s : ℕ) (bits : List Bit) → IsNetValue d K s bits → sure_in d final (a_signal s) bits
    net_sure s bits net = map_sure final v0 (signal_cells d s) each ∙ ap (map Some) whole
      where
        known : (j : ℕ) → is_assign (process_at d j) ≡ true → body_assigns s (body_at d j) ≡ true → In j tables.order
        known j is_a mine = net_order K k s bits net j (record { is_process = below (cases_lt j (length d.processes)); settles = assign_settles (process_at d j) is_a; drives = mine })
          where
            below : (j < length d.processes) ⊎ (length d.processes ≤ j) → j < length d.processes
            below (inl lt) = lt
            below (inr le) = absurd (both_ways false refl (subst (λ z. is_assign z ≡ true) (past d.processes j le) is_a))

        -- a bit that an Assign of s writes is made
        makes_it : (j : ℕ) → is_assign (process_at d j) ≡ true → body_assigns s (body_at d j) ≡ true → (c : Cell) → c.thing ≡ s → has_cell (execution d (body_at d j) v0).blocking c ≡ true → final c ≡ Some (put_all v0 (execution d (body_at d j) v0).blocking c)
        makes_it j is_a mine c on has =
            made j (known j is_a mine) (λ y. absurd (comb_not_assign (process_at d j) y (is_assign-from (process_at d j) is_a))) v0 (made_agrees j) (assign_told j is_a (net.within j (and_from (is_assign (process_at d j)) _ is_a mine))) c (has_blocking j v0 c has)
            ∙ ap Some (settled_writes j (assign_settles (process_at d j) is_a) v0 v0 c)

        each : (c : Cell) → In c (signal_cells d s) → final c ≡ Some (v0 c)
        each c inside =
            let j = driver s net.driven c inside in
            let mine = subst (λ z. body_assigns z (body_at d j.0) ≡ true) (in_signal d s c inside).0 (any_assigns c j.0 j.2) in
            let combinational : IsCombinational (machine d) j.0 c = (machine_lawful d is.lawful).assigns_combinational j.0 c j.1 (blocks (process_at d j.0) j.1 j.2) in
            is_some (final c) (put_all v0 (execution d (body_at d j.0) v0).blocking c) (makes_it j.0 j.1 mine c (in_signal d s c inside).0 (has_cell-from (execution d (body_at d j.0) v0).blocking c (combinational.writes v0)))
          where
            is_some : (o : Option Bit) (z : Bit) → o ≡ Some z → o ≡ Some (elim o as (λ o. Bit) [ None ↦ X | Some b ↦ b ])
            is_some None z e = absurd (cc)
            is_some (Some b) z e = refl

            blocks : (x : Process) → is_assign x ≡ true → any_set (λ k y z. may_write d y c) (body x) ≡ true → blocking_target d (body x) c ≡ true
            blocks (assign i y z counted) e f = f
            blocks (comb i wakes b) e f = absurd (both_ways false refl e)
            blocks (clocked i events b) e f = absurd (both_ways false refl e)

        holds : (j : ℕ) → drives s (process_at d j) ≡ true → (c : Cell) → c.thing ≡ s → put_all v0 (execution d (body_at d j) v0).blocking c ≡ v0 c
        holds j e c on =
            let p = and_parts (is_assign (process_at d j)) _ e in
            ⊎_elim (λ has. value (final c) (put_all v0 (execution d (body_at d j) v0).blocking c) (makes_it j p.0 p.1 c on has)) (λ away. put_other v0 (execution d (body_at d j) v0).blocking c (λ x. both_ways _ away (has_cell-from (execution d (body_at d j) v0).blocking c x))) (cases_Bool (has_cell (execution d (body_at d j) v0).blocking c))
          where
            value : (o : Option Bit) (z : Bit) → o ≡ Some z → z ≡ elim o as (λ o. Bit) [ None ↦ X | Some b ↦ b ]
            value None z e = absurd (cc)
            value (Some b) z e = cc

        all_hold : (ps : List Process) → ((j : ℕ) → drives s (slice_index_or ps j no_process) ≡ true → (c : Cell) → c.thing ≡ s → put_all v0 (execution d (body (slice_index_or ps j no_process)) v0).blocking c ≡ v0 c) → (c : Cell) → c.thing ≡ s → put_all v0 (driven_writes d v0 s ps) c ≡ v0 c
        all_hold [] hold c on = refl
        all_hold (p ∷ ps) hold c on =
            ap (λ f. f c) (put_append v0 (if drives s p then (execution d (body p) v0).blocking else []) (driven_writes d v0 s ps))
            ∙ put_same (put_all v0 (if drives s p then (execution d (body p) v0).blocking else [])) v0 (driven_writes d v0 s ps) c (one (drives s p) refl (hold 0)) ∙ all_hold ps (λ j. hold (suc j)) c on
          where
            one : (b : Bool) → drives s p ≡ b → (drives s p ≡ true → (c : Cell) → c.thing ≡ s → put_all v0 (execution d (body p) v0).blocking c ≡ v0 c) → put_all v0 (if b then (execution d (body p) v0).blocking else []) c ≡ v0 c
            one false e f = refl
            one true e f = f e c on

        whole : map v0 (signal_cells d s) ≡ bits
        whole = map_same v0 (put_all v0 (driven_writes d v0 s d.processes)) (signal_cells d s) (λ c inside. sym (all_hold d.processes holds c (in_signal d s c inside).0)) ∙ net.gives v0 (agrees K k)

    -- a target of a Comb
    comb_sure : (p s : ℕ) (bits : List Bit) → IsCombValue d dump now K p s bits → sure_in d final (a_signal s) bits
    comb_sure p s bits value = map_sure final (put_all v0 (execution d (body_at d p) v0).blocking) (signal_cells d s) each ∙ ap (map Some) (value.gives v0 (agrees K k))
      where
        settles : IsClocked (process_at d p) → ⊥
        settles = comb_not_clocked (process_at d p) value.is_comb

        below : (p < length d.processes) ⊎ (length d.processes ≤ p) → p < length d.processes
        below (inl lt) = lt
        below (inr le) = absurd (both_ways false refl (subst (λ z. body_assigns s (body z) ≡ true) (past d.processes p le) value.target))

        order : In p tables.order
        order = in_order p (below (cases_lt p (length d.processes)), settles) (comb_not_last K k p s bits value)

        own : (x : Thing) (bits : List Bit) → In (reads x false) (execution d (body_at d p) v0).visits → K x bits → body_assigns (owner x) (body_at d p) ≡ false
        own (a_signal q) bits' read known =
            false_from_ne_true _ (λ mine. inner_in q (execution d (body_at d p) v0).visits (body_inner d (body_at d p) q v0 (comb_blocks d (process_at d p) value.is_comb (is.lawful.targets p)) (value.writes_first q mine)) read)
        own (a_word m i) bits' read known =
            false_from_ne_true _ (λ mine. omega (arith, asked.settled_signals p m (comb_not_clocked (process_at d p) value.is_comb) mine, k.words m i bits' known))

        told : ReadsWithin d (sure_in d (made_kept d dump.bound p final)) (body_at d p)
        told =
            within_by d (sure_in d (made_kept d dump.bound p final)) (body_at d p) v0 (made_agrees p)
            (inside_as K (sure_in d (made_kept d dump.bound p final)) (execution d (body_at d p) v0).visits (λ x read v. (v.0, made_same p x v.0 (and_left _ _ (own x v.0 read v.1)) (k.sure x v.0 v.1))) (value.within v0 (agrees K k)))

        each : (c : Cell) → In c (signal_cells d s) → final c ≡ Some (put_all v0 (execution d (body_at d p) v0).blocking c)
        each c inside =
            made p order (λ y. has_acted p value.is_comb value.has_changed) v0 (made_agrees p) told c
            (has_blocking p v0 c (all_in (λ c. list_any (λ w. same_cell w.cell c) (execution d (body_at d p) v0).blocking) (signal_cells d s) (body_writes d (body_at d p) s v0 (comb_blocks d (process_at d p) value.is_comb (is.lawful.targets p)) value.written_whole) c inside))
            ∙ ap Some (settled_writes p (comb_not_clocked (process_at d p) value.is_comb) v0 v0 c)

    sure_next : (x : Thing) (bits : List Bit) → IsClearBy d h dump now start K x bits → sure_in d final x bits
    sure_next x bits (of_dump s bits' shown bound below e) =
        map_sure final (dump.values now) (signal_cells d s) (λ c inside. dumped c (signal_dumped d dump.bound s c bound inside)) ∙ ap (map Some) (sym e)
    sure_next x bits (of_assigns s bits' unbound net) = net_sure s bits' net
    sure_next x bits (of_comb p s bits' unbound value) = comb_sure p s bits' value
    sure_next x bits (of_unwoken p z bits' window' unbound target never known) = unwoken p z bits' window' unbound target never known
    sure_next x bits (of_clean p c z bits' window' unbound value) = written p c z bits' window' unbound value

  rounds : (n : ℕ) → IsPlaced (In_round n)
  rounds zero = record { sure = λ x bits e. absurd e; order = λ s bits e. absurd e; words = λ m i bits e. absurd e; unclear = λ p y is_a m mine free v. absurd v.1 }
  rounds (suc n) =
      let r = rounds n in
      record {
        sure = sure_next (In_round n) r;
        order = placed_next (In_round n) r;
        words = λ m i bits e. leb-true (length d.signals) m (and_parts (nat_le (length d.signals) m) _ (clear_in-thing d h dump now start (suc n) (a_word m i) bits e).0).0;
        unclear = λ p y is_a m mine free v. own_unclear p y is_a m mine free (suc n) v;
      }

  -- all rounds
  all_rounds : IsPlaced (clear_from d h dump now start)
  all_rounds =
      record {
        sure = λ x bits e. (rounds e.0).sure x bits e.1;
        order = λ s bits e. (rounds e.0).order s bits e.1;
        words = λ m i bits e. (rounds e.0).words m i bits e.1;
        unclear = λ p y is_a m mine free v. own_unclear p y is_a m mine free v.1.0 (v.0, v.1.1);
      }

  -- what is clear in some round is sure
  pub clear_sure : (n : ℕ) (x : Thing) (bits : List Bit) → clear_in d h dump now start n x bits → sure_in d final x bits
  clear_sure n x bits e = (rounds n).sure x bits e

  -- and so is the value of a net, a bound one too, whose Assigns read only what is clear
  pub net_clear : (s : ℕ) (bits : List Bit) → IsNetValue d (clear_from d h dump now start) s bits → sure_in d final (a_signal s) bits
  net_clear s bits net = net_sure (clear_from d h dump now start) all_rounds s bits net

  -- and the value that a Comb gives a signal
  pub comb_clear : (p s : ℕ) (bits : List Bit) → IsCombValue d dump now (clear_from d h dump now start) p s bits → sure_in d final (a_signal s) bits
  comb_clear p s bits value = comb_sure (clear_from d h dump now start) all_rounds p s bits value
