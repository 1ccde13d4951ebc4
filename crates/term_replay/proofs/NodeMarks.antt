-- The marks of a node are those by the values that represent its operands.
use Rattle.std.proofs.Common.{◌≡◌, ◌∙◌, ℕ, Bool, true, false, if◌then◌else◌, List, [], ◌∷◌, ◌++◌, Option, Some, None, refl, sym, ap, ap₂}
use Rattle.four_state.specs.declared.truth.Truth.{Truth}
use Rattle.four_state.specs.declared.truth.Truth.TheVariants.{True, False}
use Rattle.four_state.specs.declared.operator.Binary.{Binary}
use Rattle.four_state.specs.declared.operator.Binary.TheVariants.{Multiply, Divide, Modulus, Add, Subtract, ShiftLeft, ShiftRight, ArithmeticShiftLeft, ArithmeticShiftRight, LessThan, LessOrEqual, GreaterThan, GreaterOrEqual, Equal, NotEqual, CaseEqual, CaseNotEqual, BitwiseAnd, BitwiseXor, BitwiseXnor, BitwiseNxor, BitwiseOr, LogicalAnd, LogicalOr}
use Rattle.known_state.specs.Partly.{Partly}
use Rattle.design_model.specs.Tree as t
use Rattle.design_model.specs.Value.{head}
use Rattle.design_model.specs.point_words.declared.node_case.NodeCase.{NodeCase}
use Rattle.body_replay.specs.KnownBits.{KnownBits, both}
use Rattle.body_replay.specs.Store.{known_value}
use Rattle.body_replay.specs.Replay.{Mark, Mode, ask, blame_of, case_mark, case_marks, doubted, four_known, known_cases, node, node_marks, two_known, undecided}
use Rattle.body_replay.proofs.Answered.{same_sure}
use Rattle.body_replay.proofs.Unsure.{ask_none}
use Rattle.term_replay.specs.Noted.{Adds, and_cases, in_this, inner_marks, marks_of, or_cases, own_cases}
use Rattle.term_replay.specs.Stands.{Scene, Stands, first_after}
use Rattle.term_replay.proofs.Marking.{adds_more, adds_same}

mark_blame : (n : ℕ) (c : NodeCase) (o : Option Bool) (l m : ℕ) → (o ≡ None → l ≡ m) → case_mark n c o l ≡ case_mark n c o m
mark_blame n c (Some true) l m h = refl
mark_blame n c (Some false) l m h = refl
mark_blame n c None l m h = ap (λ b. doubted (node n c) b ∷ []) (h refl)

both_blame : (a b : Option Bool) (l m r s : ℕ) → (a ≡ None → l ≡ m) → (b ≡ None → r ≡ s) → both a b ≡ None → (if undecided a then l else r) ≡ (if undecided a then m else s)
both_blame (Some true) b l m r s h k u = k u
both_blame (Some false) b l m r s h k u = absurd (cc)
both_blame None b l m r s h k u = h refl

-- the thing does not matter where each answer is decided
abbrev pub SameThing : KnownBits → ℕ → ℕ → Type 0
SameThing ps l m = (w : Truth) → ask ps w ≡ None → l ≡ m

own_blame : (n : ℕ) (ps : KnownBits) (l m : ℕ) → SameThing ps l m → case_marks n (own_cases ps l) ≡ case_marks n (own_cases ps m)
own_blame n ps l m h = ap₂ (λ x y. x ++ (y ++ [])) (mark_blame n _ (ask ps False) l m (h False)) (mark_blame n _ (ask ps True) l m (h True))

module _ (n : ℕ) (ps qs : KnownBits) (l m r s : ℕ) (h : SameThing ps l m) (k : SameThing qs r s) where
  two_mark : (c : NodeCase) (v w : Truth) → case_mark n c (both (ask ps v) (ask qs w)) (if undecided (ask ps v) then l else r) ≡ case_mark n c (both (ask ps v) (ask qs w)) (if undecided (ask ps v) then m else s)
  two_mark c v w = mark_blame n c _ _ _ (both_blame (ask ps v) (ask qs w) l m r s (h v) (k w))

  and_blame : case_marks n (and_cases ps qs l r) ≡ case_marks n (and_cases ps qs m s)
  and_blame = ap₂ (λ x y. x ++ y) (two_mark _ True True) (ap₂ (λ x y. x ++ (y ++ [])) (mark_blame n _ (ask ps False) l m (h False)) (mark_blame n _ (ask qs False) r s (k False)))

  or_blame : case_marks n (or_cases ps qs l r) ≡ case_marks n (or_cases ps qs m s)
  or_blame = ap₂ (λ x y. x ++ y) (two_mark _ False False) (ap₂ (λ x y. x ++ (y ++ [])) (mark_blame n _ (ask ps True) l m (h True)) (mark_blame n _ (ask qs True) r s (k True)))

  four_blame : case_marks n (four_known ps qs l r) ≡ case_marks n (four_known ps qs m s)
  four_blame = ap₂ (λ x y. x ++ y) (two_mark _ False False) (ap₂ (λ x y. x ++ y) (two_mark _ False True) (ap₂ (λ x y. x ++ (y ++ [])) (two_mark _ True False) (two_mark _ True True)))

  two_blame : (op : Binary) → case_marks n (two_known op ps qs l r) ≡ case_marks n (two_known op ps qs m s)
  two_blame Multiply = four_blame
  two_blame Divide = four_blame
  two_blame Modulus = four_blame
  two_blame Add = four_blame
  two_blame Subtract = four_blame
  two_blame ShiftLeft = four_blame
  two_blame ShiftRight = four_blame
  two_blame ArithmeticShiftLeft = four_blame
  two_blame ArithmeticShiftRight = four_blame
  two_blame LessThan = four_blame
  two_blame LessOrEqual = four_blame
  two_blame GreaterThan = four_blame
  two_blame GreaterOrEqual = four_blame
  two_blame Equal = four_blame
  two_blame NotEqual = four_blame
  two_blame CaseEqual = four_blame
  two_blame CaseNotEqual = four_blame
  two_blame BitwiseAnd = and_blame
  two_blame BitwiseXor = four_blame
  two_blame BitwiseXnor = four_blame
  two_blame BitwiseNxor = four_blame
  two_blame BitwiseOr = or_blame
  two_blame LogicalAnd = and_blame
  two_blame LogicalOr = or_blame

-- a value that is undecided in some question is blamed as its term is
same_thing : (v : Scene) (first : Option ℕ) (x : t.Term) (r : Partly) → Stands v first x r → SameThing r.bits r.blame (blame_of v.design v.kept v.blames first x)
same_thing v first x r a w e = a.blame (sym (same_sure r.bits) ∙ ask_none r.bits w e)

own_node : (v : Scene) (first : Option ℕ) (x : t.Term) (r : Partly) (o : Option ℕ) → Stands v first x r → node_marks o (own_cases r.bits r.blame) ≡ node_marks o (own_cases (known_value v.design v.kept x) (blame_of v.design v.kept v.blames first x))
own_node v first x r None a = refl
own_node v first x r (Some n) a =
    own_blame n r.bits r.blame (blame_of v.design v.kept v.blames first x) (same_thing v first x r a) ∙ ap (λ ps. case_marks n (own_cases ps (blame_of v.design v.kept v.blames first x))) a.bits

two_node : (v : Scene) (first : Option ℕ) (op : Binary) (y z : t.Term) (a c : Partly) (o : Option ℕ) → Stands v first y a → Stands v (first_after v first y) z c → node_marks o (two_known op a.bits c.bits a.blame c.blame) ≡ node_marks o (two_known op (known_value v.design v.kept y) (known_value v.design v.kept z) (blame_of v.design v.kept v.blames first y) (blame_of v.design v.kept v.blames (first_after v first y) z))
two_node v first op y z a c None sa sc = refl
two_node v first op y z a c (Some n) sa sc =
    two_blame n a.bits c.bits a.blame (blame_of v.design v.kept v.blames first y) c.blame (blame_of v.design v.kept v.blames (first_after v first y) z) (same_thing v first y a sa) (same_thing v (first_after v first y) z c sc) op
    ∙ ap₂ (λ ps qs. case_marks n (two_known op ps qs (blame_of v.design v.kept v.blames first y) (blame_of v.design v.kept v.blames (first_after v first y) z))) sa.bits sc.bits

-- the marks of the terms in a term, and those of its own cases
marks_are : (v : Scene) (first : Option ℕ) (x : t.Term) → marks_of v first x ≡ inner_marks v first x ++ node_marks (head x).node (known_cases v.design v.kept v.blames first x)
marks_are v first (t.number h n) = refl
marks_are v first (t.signal h s) = refl
marks_are v first (t.word h m i) = refl
marks_are v first (t.bit h y i) = refl
marks_are v first (t.part h y i j) = refl
marks_are v first (t.slide h y b w up) = refl
marks_are v first (t.unary h op y) = refl
marks_are v first (t.binary h op y z) = refl
marks_are v first (t.choice h c y z) = refl
marks_are v first (t.concat h ts) = refl
marks_are v first (t.repeat h n ts) = refl
marks_are v first (t.sign h g y) = refl

module _ {T S : Type 0} (noted : T → List Mark → S → Type 0) (v : Scene) (mode : Mode) (first : Option ℕ) where
  -- a term that is no operator with two operands
  pub seen_own : (x : t.Term) (r : Partly) (s m u : S) → known_cases v.design v.kept v.blames first x ≡ own_cases (known_value v.design v.kept x) (blame_of v.design v.kept v.blames first x) → Stands v first x r → Adds noted s (in_this mode (inner_marks v first x)) m → Adds noted m (in_this mode (node_marks (head x).node (own_cases r.bits r.blame))) u → Adds noted s (in_this mode (marks_of v first x)) u
  seen_own x r s m u is a inner own =
      adds_same noted s u _ _ (ap (in_this mode) (ap (λ cs. inner_marks v first x ++ cs) (own_node v first x r (head x).node a ∙ ap (node_marks (head x).node) (sym is)) ∙ sym (marks_are v first x)))
      (adds_more noted mode s m u (inner_marks v first x) _ inner own)

  -- an operator with two operands
  pub seen_two : (h : t.Head) (op : Binary) (y z : t.Term) (a c : Partly) (s m u : S) → Stands v first y a → Stands v (first_after v first y) z c → Adds noted s (in_this mode (inner_marks v first (t.binary h op y z))) m → Adds noted m (in_this mode (node_marks h.node (two_known op a.bits c.bits a.blame c.blame))) u → Adds noted s (in_this mode (marks_of v first (t.binary h op y z))) u
  seen_two h op y z a c s m u sa sc inner own =
      adds_same noted s u _ _ (ap (in_this mode) (ap (λ cs. inner_marks v first (t.binary h op y z) ++ cs) (two_node v first op y z a c h.node sa sc)))
      (adds_more noted mode s m u (inner_marks v first (t.binary h op y z)) _ inner own)

  -- $signed or $unsigned, whichever of them it is
  pub seen_sign : (x : t.Term) (h : t.Head) (g : Bool) (y : t.Term) (r : Partly) (s m u : S) → x ≡ t.sign h g y → ((k : Bool) → Stands v first (t.sign h k y) r) → Adds noted s (in_this mode (marks_of v first y)) m → Adds noted m (in_this mode (node_marks h.node (own_cases r.bits r.blame))) u → Adds noted s (in_this mode (marks_of v first x)) u
  seen_sign x h g y r s m u e a inner own = adds_same noted s u _ _ (ap (λ z. in_this mode (marks_of v first z)) (sym e)) (seen_own (t.sign h g y) r s m u refl (a g) inner own)
