-- What a body reads, visits and leaves open where more is known.
use Rattle.std.proofs.Common.{◌≡◌, ◌≢◌, ◌⊎◌, inl, inr, ⊎_elim, ℕ, Bool, true, false, List, [], ◌∷◌, ◌++◌, map, refl, sym, ap, subst, ◌∙◌, Option, Some, None}
use Rattle.event_machine.specs.Cell.{Cell, Values}
use Rattle.design_model.specs.four_state.Operators.{matches}
use Rattle.design_model.specs.four_state.Parts.{index}
use Rattle.design_model.specs.four_state.Vector.{truth}
use Rattle.design_model.specs.four_state.declared.bit.Bit.{Bit}
use Rattle.design_model.specs.four_state.declared.bit.Bit.TheVariants.{X}
use Rattle.design_model.specs.Tree.{Stmt, Term}
use Rattle.design_model.specs.declared.point.Point.{Point}
use Rattle.design_model.specs.declared.point.Point.TheVariants.{Line as line_point, Logic as logic_point, Toggle as toggle_point, State as state_point, Arc as arc_point, Word as word_point}
use Rattle.design_model.specs.Design.{Design, Thing, cells, memory_at}
use Rattle.design_model.specs.Value.{head, named_word, value}
use Rattle.design_model.specs.Execution.{Visit, at_line, at_node, reads, visits_of, writes_word}
use Rattle.design_model.specs.Paths.{Action, Path, assigns, compares, reaches, selects, tests}
use Rattle.design_model.specs.Reads.{Agrees, AllInside, IsInside, ReadsWithin, PartialMap, UpToOutside, VisitsFrom}
use Rattle.design_model.specs.Open.{ActionOnWord, AreAsked, Asked, FollowsAll, FollowsFixed, IsFixed, IsNode, IsOpen, IsOpenPath, IsSurelyOpen, MayBeAsked, NamesWord, OnEachPath, OnSomePath, asks, is_true, outer}
use Rattle.design_model.proofs.Agree.{value_same}
use Rattle.design_model.proofs.Prefix.{visits_on_all}
use Rattle.design_model.proofs.WithinMap.{inside_outer}
use Rattle.body_replay.specs.Contract.{sure_in}
use Rattle.body_replay.specs.Store.{Kept}

-- the first map has no other values than the second
abbrev pub Within : PartialMap → PartialMap → Type 0
Within K L = (x : Thing) (bits : List Bit) → K x bits → L x bits

pub within_agrees : (d : Design) (K L : PartialMap) → Within K L → (v : Values Bit) → Agrees d L v → Agrees d K v
within_agrees d K L w v a x bits k = a x bits (w x bits k)

pub within_inside : (K L : PartialMap) → Within K L → (xs : List Visit) → AllInside K xs → AllInside L xs
within_inside K L w [] a = tt
within_inside K L w (at_line n ∷ xs) a = (tt, within_inside K L w xs a.1)
within_inside K L w (at_node n c ∷ xs) a = (tt, within_inside K L w xs a.1)
within_inside K L w (writes_word m i ∷ xs) a = (tt, within_inside K L w xs a.1)
within_inside K L w (reads x true ∷ xs) a = (tt, within_inside K L w xs a.1)
within_inside K L w (reads x false ∷ xs) a = ((a.0.0, w x a.0.0 a.0.1), within_inside K L w xs a.1)

pub reads_within : (d : Design) (K L : PartialMap) (b : Stmt) → Within K L → ReadsWithin d K b → ReadsWithin d L b
reads_within d K L b w told v a = within_inside K L w _ (told v (within_agrees d K L w v a))

inside_more : (K L : PartialMap) → Within K L → (y : Visit) → IsInside K y → IsInside L y
inside_more K L w (at_line n) h = tt
inside_more K L w (at_node n c) h = tt
inside_more K L w (writes_word m i) h = tt
inside_more K L w (reads x true) h = tt
inside_more K L w (reads x false) h = (h.0, w x h.0 h.1)

upto_more : (K L : PartialMap) → Within K L → (y : Visit) (xs : List Visit) → UpToOutside K y xs → UpToOutside L y xs
upto_more K L w y [] h = h
upto_more K L w y (x ∷ xs) (inl e) = inl e
upto_more K L w y (x ∷ xs) (inr h) = inr (inside_more K L w x h.0, upto_more K L w y xs h.1)

-- a state with the sure values
or_x : Option Bit → Bit
or_x None = X
or_x (Some b) = b

abbrev pub sample : Kept → Values Bit
sample k c = elim (k c) as (λ o. Bit) [ None ↦ X | Some b ↦ b ]

sample_bits : (k : Kept) (cs : List Cell) (bits : List Bit) → map k cs ≡ map Some bits → map (sample k) cs ≡ bits
sample_bits k [] [] e = refl
sample_bits k [] (b ∷ bits) e = absurd (cc)
sample_bits k (c ∷ cs) [] e = absurd (cc)
sample_bits k (c ∷ cs) (b ∷ bits) e = Rattle.std.proofs.Common.ap₂ (λ x xs. x ∷ xs) (ap (λ o. elim o as (λ o. Bit) [ None ↦ X | Some y ↦ y ]) (ap (head_or None) e)) (sample_bits k cs bits (ap tail_of e))
  where
    head_or : Option Bit → List (Option Bit) → Option Bit
    head_or o [] = o
    head_or o (p ∷ ps) = p

    tail_of : List (Option Bit) → List (Option Bit)
    tail_of [] = []
    tail_of (p ∷ ps) = ps

pub sample_agrees : (d : Design) (k : Kept) → Agrees d (sure_in d k) (sample k)
sample_agrees d k x bits e = sample_bits k (cells d x) bits e

-- a larger map, with which some state agrees
module _ (d : Design) (K L : PartialMap) (w : Within K L) (v0 : Values Bit) (a0 : Agrees d L v0) (b : Stmt) where
  pub visits_more : (y : Visit) → VisitsFrom d K b y → VisitsFrom d L b y
  visits_more y from = (v0, a0, upto_more K L w y _ (visits_on_all d K b y from v0 (within_agrees d K L w v0 a0)))

  pub fixed_more : (t : Term) → IsFixed d K b t → IsFixed d L b t
  fixed_more t f = record { within = λ v a. within_inside K L w (visits_of d v outer t) (f.within v (within_agrees d K L w v a)); unwritten = f.unwritten }

  -- the value of a term that is fixed is one
  pub fixed_value : (t : Term) → IsFixed d K b t → (v : Values Bit) → Agrees d K v → value d v0 t ≡ value d v t
  fixed_value t f v a =
      value_same d v0 v outer (λ x e. absurd (Rattle.std.proofs.lemmas.Bool.both_ways false refl e)) t (inside_outer d K v0 v (within_agrees d K L w v0 a0) a (visits_of d v0 outer t) (f.within v0 (within_agrees d K L w v0 a0)))

  follows_less : (x : Action) → FollowsFixed d L b x → FollowsFixed d K b x
  follows_less (reaches n) f = tt
  follows_less (tests t taken) f = λ fixed v a. ap (λ z. is_true (truth z)) (sym (fixed_value t fixed v a)) ∙ f (fixed_more t fixed) v0 a0
  follows_less (selects t) f = tt
  follows_less (compares kind on t taken) f =
      λ fixed_on fixed v a. ap (λ z. matches kind z (value d v t)) (sym (fixed_value on fixed_on v a)) ∙ ap (λ z. matches kind (value d v0 on) z) (sym (fixed_value t fixed v a)) ∙ f (fixed_more on fixed_on) (fixed_more t fixed) v0 a0
  follows_less (assigns blocking x t) f = tt

  all_follow_less : (p : Path) → FollowsAll d L b p → FollowsAll d K b p
  all_follow_less [] f = tt
  all_follow_less (x ∷ xs) f = (follows_less x.action f.0, all_follow_less xs f.1)

  path_less : (p : Path) → IsOpenPath d L b p → IsOpenPath d K b p
  path_less p open_path = record { is_path = open_path.is_path; follows = all_follow_less p open_path.follows }

  each_more : (P : Action → Type 0) → OnEachPath d K b P → OnEachPath d L b P
  each_more P each = (each.0, λ p open_path. each.1 p (path_less p open_path))

  some_less : (P Q : Action → Type 0) → ((x : Action) → P x → Q x) → OnSomePath d L b P → OnSomePath d K b Q
  some_less P Q f some = (some.0, path_less some.0 some.1, (some.2.0, (some.2.1.0, some.2.1.1, some.2.1.2, f some.2.1.0.action some.2.1.3)))

  asked_more : (xs : List Asked) → AreAsked d K b xs → AreAsked d L b xs
  asked_more [] a = tt
  asked_more (x ∷ xs) a = (fixed_more x.operand a.0, λ v c. a.1 v (within_agrees d K L w v c), asked_more xs a.2)

  may_ask_less : (xs : List Asked) → MayBeAsked d L b xs → MayBeAsked d K b xs
  may_ask_less [] a = tt
  may_ask_less (x ∷ xs) a = (λ fixed v c. ap truth (sym (fixed_value x.operand fixed v c)) ∙ a.0 (fixed_more x.operand fixed) v0 a0, may_ask_less xs a.1)

  -- what is surely open stays so, and what is open was
  pub surely_more : (x : Point) → IsSurelyOpen d K b x → IsSurelyOpen d L b x
  surely_more (line_point p n at word) s = each_more _ s
  surely_more (logic_point p n at op c) s = (s.0, s.1, asked_more (asks c s.0) s.2, each_more _ s.3)
  surely_more (toggle_point s i rise) h = h
  surely_more (state_point i name s state bits) h = h
  surely_more (arc_point i name s from to old new) h = h
  surely_more (word_point m k write) s = (s.0, fixed_more s.0 s.1, λ v a. s.2 v (within_agrees d K L w v a), each_more _ s.3)

  pub open_less : (x : Point) → IsOpen d L b x → IsOpen d K b x
  open_less (line_point p n at word) o = some_less (λ x. x ≡ reaches n) (λ x. x ≡ reaches n) (λ x e. e) o
  open_less (logic_point p n at op c) o =
      some_less (λ x. (t : Term) × IsNode n x t × MayBeAsked d L b (asks c t)) (λ x. (t : Term) × IsNode n x t × MayBeAsked d K b (asks c t)) (λ x e. (e.0, e.1, may_ask_less (asks c e.0) e.2)) o
  open_less (toggle_point s i rise) h = h
  open_less (state_point i name s state bits) h = h
  open_less (arc_point i name s from to old new) h = h
  open_less (word_point m k write) o =
      some_less (λ x. (i : Term) × ActionOnWord write m x i × (IsFixed d L b i → NamesWord d L m k i)) (λ x. (i : Term) × ActionOnWord write m x i × (IsFixed d K b i → NamesWord d K m k i))
      (λ x e. (e.0, e.1, λ fixed v a. ap (λ z. named_word (memory_at d m) (index (head e.0).signed z)) (sym (fixed_value e.0 fixed v a)) ∙ e.2 (fixed_more e.0 fixed) v0 a0)) o
