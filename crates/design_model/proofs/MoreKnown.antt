-- With more known, more bodies read within what is known, more is visited and surely open, and fewer points are open.
use Rattle.std.proofs.Common.{List, [], ap, ap₂, false, true, ℕ, inl, inr, ⊎_elim, ◌∙◌, ◌∷◌, ◌≡◌}
use Rattle.std.proofs.lemmas.Bool.{false≢true}
use Rattle.event_machine.specs.Cell.{Values}
use Rattle.four_state.specs.declared.bit.Bit.{Bit}
use Rattle.four_state.specs.Parts.{index}
use Rattle.four_state.specs.Operators.{matches}
use Rattle.four_state.specs.Vector.{truth}
use Rattle.design_model.specs.Paths.{Action, Path, assigns, compares, reaches, selects, tests}
use Rattle.design_model.specs.Points.{Point, arc_point, line_point, logic_point, state_point, toggle_point, word_point}
use Rattle.design_model.specs.Open.{ActionOnWord, AreAsked, Asked, FollowsAll, FollowsFixed, IsFixed, IsNode, IsOpen, IsOpenPath, IsSurelyOpen, MayBeAsked, NamesWord, OnEachPath, ReachesFrom, asks, is_true, outer}
use Rattle.design_model.specs.Reads.{Agrees, AllInside, IsInside, ReadsWithin, PartialMap, UpToOutside, VisitsFrom}
use Rattle.design_model.specs.Design.{Design, Thing, memory_at}
use Rattle.design_model.specs.Tree.{Stmt, Term}
use Rattle.design_model.specs.Execution.{Visit, at_line, at_node, execution, reads, writes_word}
use Rattle.design_model.specs.Value.{head, named_word, value}
use Rattle.design_model.specs.MoreKnown.{MoreKnownLaw}
use Rattle.design_model.proofs.WithinMap.{inside_outer}
use Rattle.design_model.proofs.Agree.{value_same}
use Rattle.design_model.proofs.Prefix.{visits_on_all}

module _ (d : Design) (b : Stmt) (K L : PartialMap) (more : (x : Thing) (bits : List Bit) → K x bits → L x bits) (v : Values Bit) (agrees : Agrees d L v) where
  pub agrees_less : (u : Values Bit) → Agrees d L u → Agrees d K u
  agrees_less u a x bits k = a x bits (more x bits k)

  pub inside_more : (xs : List Visit) → AllInside K xs → AllInside L xs
  inside_more [] a = tt
  inside_more (at_line n ∷ xs) a = (tt, inside_more xs a.1)
  inside_more (at_node n c ∷ xs) a = (tt, inside_more xs a.1)
  inside_more (reads x true ∷ xs) a = (tt, inside_more xs a.1)
  inside_more (reads x false ∷ xs) a = ((a.0.0, more x a.0.0 a.0.1), inside_more xs a.1)
  inside_more (writes_word m i ∷ xs) a = (tt, inside_more xs a.1)

  pub within_more : ReadsWithin d K b → ReadsWithin d L b
  within_more told u a = inside_more (execution d b u).visits (told u (agrees_less u a))

  one_inside : (y : Visit) → IsInside K y → IsInside L y
  one_inside (at_line n) h = tt
  one_inside (at_node n c) h = tt
  one_inside (writes_word m i) h = tt
  one_inside (reads x true) h = tt
  one_inside (reads x false) h = (h.0, more x h.0 h.1)

  upto_more : (y : Visit) (xs : List Visit) → UpToOutside K y xs → UpToOutside L y xs
  upto_more y [] h = h
  upto_more y (x ∷ xs) (inl e) = inl e
  upto_more y (x ∷ xs) (inr h) = inr (one_inside x h.0, upto_more y xs h.1)

  pub visits_more : (y : Visit) → VisitsFrom d K b y → VisitsFrom d L b y
  visits_more y from = (v, agrees, upto_more y (execution d b v).visits (visits_on_all d K b y from v (agrees_less v agrees)))

  pub fixed_more : (t : Term) → IsFixed d K b t → IsFixed d L b t
  fixed_more t f = record { within = λ u a. inside_more _ (f.within u (agrees_less u a)); unwritten = f.unwritten }

  -- a term that is fixed by the lesser map has one value on all states that agree with it
  pub same_value : (t : Term) → IsFixed d K b t → (u : Values Bit) → Agrees d K u → value d u t ≡ value d v t
  same_value t f u a = value_same d u v outer (λ x e. absurd (false≢true e)) t (inside_outer d K u v a (agrees_less v agrees) _ (f.within u a))

  follows_less : (x : Action) → FollowsFixed d L b x → FollowsFixed d K b x
  follows_less (reaches n) h = tt
  follows_less (tests t taken) h = λ f u a. ap (λ z. is_true (truth z)) (same_value t f u a) ∙ h (fixed_more t f) v agrees
  follows_less (selects t) h = tt
  follows_less (compares kind on t taken) h = λ fo f u a. ap₂ (matches kind) (same_value on fo u a) (same_value t f u a) ∙ h (fixed_more on fo) (fixed_more t f) v agrees
  follows_less (assigns blocking x t) h = tt

  all_less : (path : Path) → FollowsAll d L b path → FollowsAll d K b path
  all_less [] h = tt
  all_less (x ∷ xs) h = (follows_less x.action h.0, all_less xs h.1)

  pub open_path_less : (path : Path) → IsOpenPath d L b path → IsOpenPath d K b path
  open_path_less path o = record { is_path = o.is_path; follows = all_less path o.follows }

  may_less : (as' : List Asked) → MayBeAsked d L b as' → MayBeAsked d K b as'
  may_less [] h = tt
  may_less (a ∷ as') h = ((λ f u e. ap truth (same_value a.operand f u e) ∙ h.0 (fixed_more a.operand f) v agrees), may_less as' h.1)

  asked_more : (as' : List Asked) → AreAsked d K b as' → AreAsked d L b as'
  asked_more [] h = tt
  asked_more (a ∷ as') h = (fixed_more a.operand h.0, (λ u e. h.1 u (agrees_less u e)), asked_more as' h.2)

  names_less : (m k : ℕ) (i : Term) → (IsFixed d L b i → NamesWord d L m k i) → IsFixed d K b i → NamesWord d K m k i
  names_less m k i h f u a = ap (λ z. named_word (memory_at d m) (index (head i).signed z)) (same_value i f u a) ∙ h (fixed_more i f) v agrees

  pub open_less : (p : Point) → IsOpen d L b p → IsOpen d K b p
  open_less (line_point p n at w) h = (h.0, open_path_less h.0 h.1, h.2)
  open_less (logic_point p n at op c) h = (h.0, open_path_less h.0 h.1, (h.2.0, (h.2.1.0, h.2.1.1, h.2.1.2, (h.2.1.3.0, h.2.1.3.1, may_less (asks c h.2.1.3.0) h.2.1.3.2))))
  open_less (word_point m k w) h = (h.0, open_path_less h.0 h.1, (h.2.0, (h.2.1.0, h.2.1.1, h.2.1.2, (h.2.1.3.0, h.2.1.3.1, names_less m k h.2.1.3.0 h.2.1.3.2))))
  open_less (toggle_point s i rise) h = h
  open_less (state_point i name s state y) h = h
  open_less (arc_point i name s from to y z) h = h

  each_more : (P : Action → Type 0) → OnEachPath d K b P → OnEachPath d L b P
  each_more P h = (h.0, λ path o. h.1 path (open_path_less path o))

  pub surely_open_more : (p : Point) → IsSurelyOpen d K b p → IsSurelyOpen d L b p
  surely_open_more (line_point p n at w) h = each_more (λ x. x ≡ reaches n) h
  surely_open_more (logic_point p n at op c) h = (h.0, h.1, asked_more (asks c h.0) h.2, each_more (λ x. IsNode n x h.0) h.3)
  surely_open_more (word_point m k w) h = (h.0, fixed_more h.0 h.1, (λ u a. h.2 u (agrees_less u a)), each_more (λ x. ActionOnWord w m x h.0) h.3)
  surely_open_more (toggle_point s i rise) h = h
  surely_open_more (state_point i name s state y) h = h
  surely_open_more (arc_point i name s from to y z) h = h

  pub reaches_more : (p : Point) → ReachesFrom d K b p → ReachesFrom d L b p
  reaches_more p h = ⊎_elim (λ y. inl (y.0, y.1, visits_more y.0 y.2)) (λ sure. inr (surely_open_more p sure)) h

pub more_known_law : (d : Design) (K L : PartialMap) → MoreKnownLaw d K L
more_known_law d K L v agrees more b =
    record {
      reads_within = within_more d b K L more v agrees;
      visits = visits_more d b K L more v agrees;
      surely_open = surely_open_more d b K L more v agrees;
      reaches = reaches_more d b K L more v agrees;
      no_more_open = open_less d b K L more v agrees;
    }
