-- What is single after the rounds of a step is so by the definitions.
use Rattle.std.proofs.Common.{◌≡◌, inl, inr, ⊎_elim, ◌∙◌, ℕ, zero, suc, ◌+◌, ◌-◌, ◌<◌, ◌≤◌, Bool, true, false, cond, not, ◌||◌, List, [], ◌∷◌, Some, None, length, get_or, refl, sym, ap, subst, arith}
use Rattle.std.specs.List.{Contains}
use Rattle.std.proofs.lemmas.Bool.{and_parts, both_ways, cases_Bool, cases_lt, false≢true, or_cases, or_left, or_right}
use Rattle.event_machine.specs.Cell.{Cell}
use Rattle.event_machine.specs.Single.{IsSameNext, IsSingle}
use Rattle.design_model.specs.Design.{Design, cell}
use Rattle.design_model.specs.Lawful.{IsLawfulDesign}
use Rattle.design_model.specs.Machine.{machine}
use Rattle.design_model.specs.MayMove.{told_at}
use Rattle.design_model.specs.RoundLaws.{read_by}
use Rattle.design_model.specs.Shows.{BoundDump}
use Rattle.design_model.proofs.FiniteRounds.{growing_law}
use Rattle.early_sets.specs.wake_tables.declared.tables.WakeTables.{WakeTables}
use Rattle.early_sets.specs.declared.edges.Edges.{Edges}
use Rattle.early_sets.specs.Edges.{any_edges}
use Rattle.early_sets.specs.Has.{is_in}
use Rattle.early_sets.specs.Reached.{MayWakeBy, Reached, of_seed, of_target}
use Rattle.early_sets.specs.Rounds.{AreRounds, HasMoves, IsNextRound, becomes_single, is_written_by, writer_at}
use Rattle.early_sets.specs.WakeState.{WakeState, edges_at, is_single, is_told, nothing_left, own_edges}
use Rattle.early_sets.proofs.Membership.{is_in_from, is_in_gives}
use Rattle.wake_laws.specs.OfDesign.{AreTablesOf, AreWritersOf}
use Rattle.wake_laws.specs.Laws.{AreNotes, AreSingle, HasNoWriters, IsFirstSingle, RoundsLaw}
use Rattle.wake_laws.proofs.MovesLaw.{input_told, reached_below, told_input}
use Rattle.wake_laws.proofs.OnceWriters.{becomes, becoming, written}

-- by fewer edges no more is reached
fewer_wake : (t : WakeTables) (e f : ℕ → Edges) → ((x : ℕ) → (e x).rise ≡ true → (f x).rise ≡ true) → ((x : ℕ) → (e x).fall ≡ true → (f x).fall ≡ true) → (x p : ℕ) → MayWakeBy t e x p → MayWakeBy t f x p
fewer_wake t e f rise fall x p (inl l) = inl l
fewer_wake t e f rise fall x p (inr (inl r)) = inr (inl (rise x r.0, r.1))
fewer_wake t e f rise fall x p (inr (inr k)) = inr (inr (fall x k.0, k.1))

fewer_reached : (t : WakeTables) (e f : ℕ → Edges) (P : ℕ → Type 0) → ((x : ℕ) → (e x).rise ≡ true → (f x).rise ≡ true) → ((x : ℕ) → (e x).fall ≡ true → (f x).fall ≡ true) → (x : ℕ) → Reached t e nothing_left P x → Reached t f nothing_left P x
fewer_reached t e f P rise fall x (of_seed _ h) = of_seed x h
fewer_reached t e f P rise fall y (of_target x p _ m wakes target) = of_target x p y (fewer_reached t e f P rise fall x m) (fewer_wake t e f rise fall x p wakes) target

-- the same edges, or all
edge_kept : (s s' : Bool) (own : Edges) → (s ≡ true → s' ≡ true) → (cond s' own any_edges).rise ≡ true → (cond s own any_edges).rise ≡ true
edge_kept true true own kept h = h
edge_kept true false own kept h = absurd (false≢true (kept refl))
edge_kept false s' own kept h = refl

fall_kept : (s s' : Bool) (own : Edges) → (s ≡ true → s' ≡ true) → (cond s' own any_edges).fall ≡ true → (cond s own any_edges).fall ≡ true
fall_kept true true own kept h = h
fall_kept true false own kept h = absurd (false≢true (kept refl))
fall_kept false s' own kept h = refl

pub has_moves : (w : WakeState) (earlier : List WakeState) → AreRounds (w ∷ earlier) → HasMoves w
has_moves w [] rounds = rounds.1
has_moves w (a ∷ earlier) rounds = rounds.0.moves

abbrev R : WakeState → ℕ → Type 0
R w x = Reached w.tables (edges_at w) nothing_left (Contains w.noted) x

abbrev Same : WakeState → WakeState → Type 0
Same a b = b ≡ record a { derived = b.derived; rounds = b.rounds; moves = b.moves; woken = b.woken }

module _ (d : Design) (lawful : IsLawfulDesign d) (dump : BoundDump) (t : ℕ) where
  -- the dump, each step of which is judged by this round
  abbrev at : ℕ → BoundDump
  at k = read_by dump (λ u. k)

  abbrev Single : ℕ → Cell → Type 0
  Single n c = IsSingle (machine d) (told_at dump t) n c

  notes_at : (k : ℕ) (w : WakeState) → AreNotes d dump t w → AreNotes d (at k) t w
  notes_at k w notes = record { told_are = notes.told_are; noted_are = notes.noted_are; changes = notes.changes; others = notes.others }

  notes_back : (a b : WakeState) → Same a b → AreNotes d dump t b → AreNotes d dump t a
  notes_back a b same notes =
      let k = subst (AreNotes d dump t) same notes in
      record { told_are = k.told_are; noted_are = k.noted_are; changes = k.changes; others = k.others }

  grows : (n : ℕ) (c : Cell) → Single n c → Single (suc n) c
  grows n c = (growing_law d lawful dump t n).single c

  grows_to : (j n : ℕ) (c : Cell) → Single n c → Single (n + j) c
  grows_to zero n c one = let is : n ≡ n + 0 = omega arith in subst (λ k. Single k c) is one
  grows_to (suc j) n c one = let is : suc n + j ≡ n + suc j = omega arith in subst (λ k. Single k c) is (grows_to j (suc n) c (grows n c one))

  -- in round 0 the inputs whose changes are reported are single
  first_round : (w : WakeState) → AreTablesOf d w.tables → AreNotes d dump t w → w.derived ≡ [] → AreSingle d (at 0) t w
  first_round w tables notes none =
      record {
        candidates = λ x c. absurd (empty x c);
        sound = λ x l h. ⊎_elim (told_input d lawful dump t w tables notes x l) (λ other. absurd (empty x (is_in_gives w.derived x other))) (or_cases (is_told w x) (is_in w.derived x) h);
        complete = λ x m one. or_left (is_told w x) (is_in w.derived x) (input_told d lawful dump t w tables notes x (reached_below d lawful dump t w tables notes x m) one);
      }
    where
      empty : (x : ℕ) → Contains w.derived x → ⊥
      empty x c = let l = subst (λ xs. Contains xs x) none c in omega (arith, l.1)

  -- from round n to the next
  module _ (n : ℕ) (a b : WakeState) (tables : AreTablesOf d a.tables) (notes : AreNotes d dump t a) (writers : AreWritersOf d dump.bound a.tables.things a.writers) (moves : HasMoves a) (single : AreSingle d (at n) t a) (next : IsNextRound n a b) where
    becomes_a : (x : ℕ) → becomes_single a x ≡ true → R a x × (is_single a x ≡ false) × Single (suc n) (cell x 0)
    becomes_a x h =
        let k = becoming d lawful (at n) t a tables (notes_at n a notes) single moves writers x h in
        (k.0, k.1, inr (written d lawful (at n) t a tables (notes_at n a notes) single moves writers x h))

    candidate : (x : ℕ) → becomes_single a x ≡ true → (p : ℕ) × (writer_at a x ≡ Some p)
    candidate x h = let k = becoming d lawful (at n) t a tables (notes_at n a notes) single moves writers x h in (k.2.0, k.2.1)

    told_same : b.told ≡ a.told
    told_same = ap (λ w. w.told) next.rest

    things_same : b.tables ≡ a.tables
    things_same = ap (λ w. w.tables) next.rest

    derived_kept : (x : ℕ) → is_in a.derived x ≡ true → is_in b.derived x ≡ true
    derived_kept x h = let c = (next.derived x).1 (inl (is_in_gives a.derived x h)) in is_in_from b.derived x c.0 c.1 c.2

    single_kept : (x : ℕ) → is_single a x ≡ true → (is_told a x || is_in b.derived x) ≡ true
    single_kept x h = ⊎_elim (or_left (is_told a x) (is_in b.derived x)) (λ k. or_right (is_told a x) (is_in b.derived x) (derived_kept x k)) (or_cases (is_told a x) (is_in a.derived x) h)

    -- what is reached in the next round is reached in this one
    reached_before : (x : ℕ) → R b x → R a x
    reached_before x m =
        let c : WakeState = record a { derived = b.derived; rounds = b.rounds; moves = b.moves; woken = b.woken } in
        fewer_reached a.tables (edges_at c) (edges_at a) (Contains a.noted)
        (λ y. edge_kept (is_single a y) (is_single c y) (own_edges a y) (single_kept y))
        (λ y. fall_kept (is_single a y) (is_single c y) (own_edges a y) (single_kept y))
        x (subst (λ w. R w x) next.rest m)

    back : (x : ℕ) → is_told b x ≡ true → is_told a x ≡ true
    back x h = ap (λ ts. get_or ts x false) (sym told_same) ∙ h

    forth : (x : ℕ) → is_told a x ≡ true → is_told b x ≡ true
    forth x h = ap (λ ts. get_or ts x false) told_same ∙ h

    -- what may move and is single in the next round
    complete_next : (x : ℕ) → R b x → Single (suc n) (cell x 0) → is_single b x ≡ true
    complete_next x m (inl told) =
        let r = reached_before x m in
        or_left (is_told b x) (is_in b.derived x) (forth x (input_told d lawful dump t a tables notes x (reached_below d lawful dump t a tables notes x r) told))
    complete_next x m (inr made) =
        let r = reached_before x m in
        ⊎_elim
        (λ one. ⊎_elim (λ told. or_left (is_told b x) (is_in b.derived x) (forth x told)) (λ k. or_right (is_told b x) (is_in b.derived x) k) (or_cases (is_told a x) (is_in b.derived x) (single_kept x one)))
        (λ out. let c = (next.derived x).1 (inr (becomes d lawful (at n) t a tables (notes_at n a notes) single moves writers x r out made)) in or_right (is_told b x) (is_in b.derived x) (is_in_from b.derived x c.0 c.1 c.2))
        (cases_Bool (is_single a x))

    next_single : AreSingle d (at (suc n)) t b
    next_single =
        record {
          candidates = λ x c. ⊎_elim (λ k. let p = single.candidates x k in (p.0, ap (λ w. writer_at w x) next.rest ∙ p.1)) (λ h. let p = candidate x h in (p.0, ap (λ w. writer_at w x) next.rest ∙ p.1)) ((next.derived x).0 c);
          sound = λ x l h.
              let below : x < a.tables.things = subst (λ s. x < s.things) things_same l in
              ⊎_elim
              (λ told. inl (told_input d lawful dump t a tables notes x below (back x told)))
              (λ k. ⊎_elim
              (λ before. grows n (cell x 0) (single.sound x below (or_right (is_told a x) (is_in a.derived x) (is_in_from a.derived x before.0 before.1 before.2))))
              (λ now. (becomes_a x now).2)
              ((next.derived x).0 (is_in_gives b.derived x k)))
              (or_cases (is_told b x) (is_in b.derived x) h);
          complete = complete_next;
        }

    -- the round is not the last
    goes_on : IsSameNext (machine d) (told_at dump t) n → ⊥
    goes_on same =
        let x = next.some.0 in
        let k = becomes_a x next.some.1 in
        both_ways _ k.1 (single.complete x k.0 ((same (cell x 0)).1 k.2))

    -- since when what becomes single is so
    first_now : (x : ℕ) → becomes_single a x ≡ true → IsFirstSingle d dump t x (suc n)
    first_now x h =
        let k = becomes_a x h in
        record {
          is_single = k.2;
          not_before = λ j l one.
              let is : j + (n - j) ≡ n = omega (arith, l) in
              both_ways _ k.1 (single.complete x k.0 (subst (λ i. Single i (cell x 0)) is (grows_to (n - j) j (cell x 0) one)));
        }

  -- from a round on in which nothing becomes single all are the same
  module _ (w : WakeState) (tables : AreTablesOf d w.tables) (notes : AreNotes d dump t w) (writers : AreWritersOf d dump.bound w.tables.things w.writers) (moves : HasMoves w) (last : (x : ℕ) → becomes_single w x ≡ false) where
    stays : (k : ℕ) → AreSingle d (at k) t w → AreSingle d (at (suc k)) t w
    stays k single =
        record {
          candidates = single.candidates;
          sound = λ x l h. grows k (cell x 0) (single.sound x l h);
          complete = kept;
        }
      where
        kept : (x : ℕ) → R w x → Single (suc k) (cell x 0) → is_single w x ≡ true
        kept x m (inl told) = or_left (is_told w x) (is_in w.derived x) (input_told d lawful dump t w tables notes x (reached_below d lawful dump t w tables notes x m) told)
        kept x m (inr made) =
            ⊎_elim
            (λ one. one)
            (λ out. absurd (both_ways _ (last x) (becomes d lawful (at k) t w tables (notes_at k w notes) single moves writers x m out made)))
            (cases_Bool (is_single w x))

    stays_to : (j k : ℕ) → AreSingle d (at k) t w → AreSingle d (at (k + j)) t w
    stays_to zero k single = let is : k ≡ k + 0 = omega arith in subst (λ i. AreSingle d (at i) t w) is single
    stays_to (suc j) k single = let is : suc k + j ≡ k + suc j = omega arith in subst (λ i. AreSingle d (at i) t w) is (stays_to j (suc k) (stays k single))

  -- the state of each round
  module _ (a b : WakeState) (n : ℕ) (next : IsNextRound n a b) where
    tables_back : AreTablesOf d b.tables → AreTablesOf d a.tables
    tables_back = subst (AreTablesOf d) (ap (λ w. w.tables) next.rest)

    writers_back : AreWritersOf d dump.bound b.tables.things b.writers → AreWritersOf d dump.bound a.tables.things a.writers
    writers_back = subst (λ w. AreWritersOf d dump.bound w.tables.things w.writers) next.rest

  rounds_single : (w : WakeState) (earlier : List WakeState) → AreTablesOf d w.tables → AreNotes d dump t w → AreWritersOf d dump.bound w.tables.things w.writers → AreRounds (w ∷ earlier) → AreSingle d (at (length earlier)) t w
  rounds_single w [] tables notes writers rounds = first_round w tables notes rounds.0
  rounds_single w (a ∷ earlier) tables notes writers (next, rounds) =
      let n = length earlier in
      let ts = tables_back a w n next tables in
      let ns = notes_back a w next.rest notes in
      let ws = writers_back a w n next writers in
      next_single n a w ts ns ws (has_moves a earlier rounds) (rounds_single a earlier ts ns ws rounds) next

  -- no round before the last is the last by the definitions
  not_last : (w : WakeState) (earlier : List WakeState) → AreTablesOf d w.tables → AreNotes d dump t w → AreWritersOf d dump.bound w.tables.things w.writers → AreRounds (w ∷ earlier) → (k : ℕ) → k < length earlier → IsSameNext (machine d) (told_at dump t) k → ⊥
  not_last w [] tables notes writers rounds k l same = omega (arith, l)
  not_last w (a ∷ earlier) tables notes writers (next, rounds) k l same =
      let n = length earlier in
      let ts = tables_back a w n next tables in
      let ns = notes_back a w next.rest notes in
      let ws = writers_back a w n next writers in
      ⊎_elim
      (λ before. not_last a earlier ts ns ws rounds k before same)
      (λ past. let is : k ≡ n = omega (arith, l, past) in goes_on n a w ts ns ws (has_moves a earlier rounds) (rounds_single a earlier ts ns ws rounds) next (subst (IsSameNext (machine d) (told_at dump t)) is same))
      (cases_lt k n)

  -- each number is that of the first round in which the thing is single
  first_rounds : (w : WakeState) (earlier : List WakeState) → AreTablesOf d w.tables → AreNotes d dump t w → AreWritersOf d dump.bound w.tables.things w.writers → AreRounds (w ∷ earlier) → (x : ℕ) → Contains w.derived x → IsFirstSingle d dump t x (get_or w.rounds x 0)
  first_rounds w [] tables notes writers rounds x c = let l = subst (λ xs. Contains xs x) rounds.0 c in absurd (omega (arith, l.1))
  first_rounds w (a ∷ earlier) tables notes writers (next, rounds) x c =
      let n = length earlier in
      let ts = tables_back a w n next tables in
      let ns = notes_back a w next.rest notes in
      let ws = writers_back a w n next writers in
      let now : becomes_single a x ≡ true → IsFirstSingle d dump t x (get_or w.rounds x 0) = λ h.
      let is : suc n ≡ get_or w.rounds x 0 = omega (arith, next.now x h) in
      subst (IsFirstSingle d dump t x) is (first_now n a w ts ns ws (has_moves a earlier rounds) (rounds_single a earlier ts ns ws rounds) next x h) in
      ⊎_elim
      now
      (λ out. ⊎_elim
      (λ before. subst (IsFirstSingle d dump t x) (sym (next.before x out)) (first_rounds a earlier ts ns ws rounds x before))
      now
      ((next.derived x).0 c))
      (cases_Bool (becomes_single a x))

  input_first : (w : WakeState) → AreTablesOf d w.tables → AreNotes d dump t w → (x : ℕ) → x < w.tables.things → is_told w x ≡ true → IsFirstSingle d dump t x 0
  input_first w tables notes x l h = record { is_single = told_input d lawful dump t w tables notes x l h; not_before = λ k less one. omega (arith, less) }

  first_of : (w : WakeState) → AreTablesOf d w.tables → AreNotes d dump t w → ((x : ℕ) → Contains w.derived x → IsFirstSingle d dump t x (get_or w.rounds x 0)) → (x : ℕ) → x < w.tables.things → is_single w x ≡ true → (b : Bool) → is_told w x ≡ b → IsFirstSingle d dump t x (cond b 0 (get_or w.rounds x 0))
  first_of w tables notes derived x l h true told = input_first w tables notes x l told
  first_of w tables notes derived x l h false told = ⊎_elim (λ yes'. absurd (both_ways _ told yes')) (λ k. derived x (is_in_gives w.derived x k)) (or_cases (is_told w x) (is_in w.derived x) h)

  -- read by the round of the step
  at_round : (w : WakeState) → AreSingle d (at (dump.round t)) t w → AreSingle d dump t w
  at_round w single = record { candidates = single.candidates; sound = single.sound; complete = single.complete }

  no_rounds : (w : WakeState) (earlier : List WakeState) → HasNoWriters w → AreRounds (w ∷ earlier) → w.derived ≡ []
  no_rounds w [] none rounds = rounds.0
  no_rounds w (a ∷ earlier) none (next, rounds) = absurd (never (ap (λ z. writer_at z next.some.0) (sym next.rest) ∙ none next.some.0) next.some.1)
    where
      never : writer_at a next.some.0 ≡ None → becomes_single a next.some.0 ≡ true → ⊥
      never is h =
          let rest = and_parts (not (is_single a next.some.0)) _ (and_parts (is_in a.moves next.some.0) _ h).1 in
          false≢true (sym (ap (is_written_by a) is) ∙ rest.1)

pub rounds_law : (d : Design) → IsLawfulDesign d → RoundsLaw d
rounds_law d lawful dump t w earlier tables notes (inl (none, zero')) rounds last =
    let empty = no_rounds d lawful dump t w earlier none rounds in
    let first = first_round d lawful dump t w tables notes empty in
    record {
      single = at_round d lawful dump t w (subst (λ k. AreSingle d (at d lawful dump t k) t w) (sym zero') first);
      first = λ x l h. first_of d lawful dump t w tables notes (λ y c. let m = subst (λ xs. Contains xs y) empty c in absurd (omega (arith, m.1))) x l h (is_told w x) refl;
    }
rounds_law d lawful dump t w earlier tables notes (inr (writers, is_last)) rounds last =
    let n = length earlier in
    let single = rounds_single d lawful dump t w earlier tables notes writers rounds in
    let k = dump.round t in
    let at_least : n ≤ k = ⊎_elim (λ less. absurd (not_last d lawful dump t w earlier tables notes writers rounds k less is_last.same_next)) (λ past. past) (cases_lt k n) in
    let is : n + (k - n) ≡ k = omega (arith, at_least) in
    record {
      single = at_round d lawful dump t w (subst (λ i. AreSingle d (at d lawful dump t i) t w) is (stays_to d lawful dump t w tables notes writers (has_moves w earlier rounds) last (k - n) n single));
      first = λ x l h. first_of d lawful dump t w tables notes (first_rounds d lawful dump t w earlier tables notes writers rounds) x l h (is_told w x) refl;
    }
