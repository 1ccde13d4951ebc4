-- What a walk collects is what is drawn.
use Rattle.std.proofs.Common.{◌≡◌, ◌∙◌, ◌⊎◌, ⊎_elim, inl, inr, ℕ, zero, suc, ◌≤◌, Bool, true, false, ◌&&◌, ◌==◌, cond, max, List, [], ◌∷◌, ◌++◌, Option, Some, None, length, map, get_or, refl, sym, ap, ap₂, subst, arith}
use Rattle.std.specs.Prelude.{is_some, option_and_then}
use Rattle.std.specs.Option.{option_to_list}
use Rattle.std.proofs.lemmas.Bool.{and_parts, eqb-true, eq-eqb, false≢true}
use Rattle.std.proofs.lemmas.List.{length-map}
use Rattle.cov_host.specs.declared.place.Place.{Place}
use Rattle.four_state.specs.Arithmetic.{low_bits}
use Rattle.four_state.specs.Operators.{matches}
use Rattle.four_state.specs.Vector.{Vector, extend}
use Rattle.four_state.specs.declared.operator.CaseKind.{CaseKind}
use Rattle.four_state.specs.declared.operator.CaseKind.TheVariants.{Exact, AnyZ, AnyXZ}
use Rattle.design_model.specs.Design.{Design, In, body, body_at, no_process, signal_at}
use Rattle.design_model.specs.Lawful.{IsLawfulDesign}
use Rattle.design_model.specs.Mentions.{blank, is_constant}
use Rattle.design_model.specs.Shape.{all_signed_of, are_bodies, are_shaped, is_alone, is_arms, is_body, is_shaped, own_sign, own_width, widest, widest_of}
use Rattle.design_model.specs.Tree.{Arms, Head, Process, Stmt, Stmts, Target, Term, Terms, a_stmt, a_term, all_of, arm, binary, bit, bits_of, block, branch, choice, concat, empty, no_arms, no_stmts, no_terms, number, part, repeat, select, set, several, sign, signal, slide, turns, unary, word, word_of}
use Rattle.design_model.specs.Value.{head, value}
use Rattle.scene_laws.specs.Contexts.{AreArms, AreLabels}
use Rattle.scene_laws.proofs.BodyContexts.{first_labels, in_arms, later_arms, later_labels, widest_least, widest_of_least}
use Rattle.scene_laws.proofs.term_replay.Constants.{constant_known}
use Rattle.scene_laws.proofs.term_replay.Contexts.{HeadIs, context_head, length-value}
use Rattle.fsm_extract.specs.Arcs.{Assigns, Gives, IsArc, IsArmFor, Matches}
use Rattle.fsm_extract.specs.Parts.{IsArm, IsPart, IsStmt, IsTerm, LiesIn, inside, itself}
use Rattle.fsm_extract.specs.Strange.{all_x}
use Rattle.fsm_extract.specs.Walked.{all_arcs_in, all_states_in, arcs_in, arcs_to, arms_arcs, arms_states, assigned, constant_of, is_just, is_over, label_value, label_values, number_given, number_matched, opened, process_arcs, process_states, states_in}
use Rattle.fsm_extract.proofs.Cuts.{given_is, is_given, is_matched, matched_is}

-- members of lists
pub in_left : {A : Type 0} (x : A) (xs ys : List A) → In x xs → In x (xs ++ ys)
in_left x [] ys h = absurd h
in_left x (y ∷ xs) ys (inl e) = inl e
in_left x (y ∷ xs) ys (inr h) = inr (in_left x xs ys h)

pub in_right : {A : Type 0} (x : A) (xs ys : List A) → In x ys → In x (xs ++ ys)
in_right x [] ys h = h
in_right x (y ∷ xs) ys h = inr (in_right x xs ys h)

pub in_split : {A : Type 0} (x : A) (xs ys : List A) → In x (xs ++ ys) → In x xs ⊎ In x ys
in_split x [] ys h = inr h
in_split x (y ∷ xs) ys (inl e) = inl (inl e)
in_split x (y ∷ xs) ys (inr h) = ⊎_elim (λ i. inl (inr i)) (λ i. inr i) (in_split x xs ys h)

-- an arc
abbrev pub arc_of : ℕ → ℕ → ℕ × ℕ
arc_of v w = (v, w)

in_pairs : (v w : ℕ) (vs : List ℕ) → In v vs → In {A = ℕ × ℕ} (v, w) (map (λ x. (x, w)) vs)
in_pairs v w [] h = absurd h
in_pairs v w (x ∷ vs) (inl e) = inl (ap (λ y. arc_of y w) e)
in_pairs v w (x ∷ vs) (inr h) = inr (in_pairs v w vs h)

pairs_in : (v w u : ℕ) (vs : List ℕ) → In {A = ℕ × ℕ} (v, w) (map (λ x. (x, u)) vs) → In v vs × (u ≡ w)
pairs_in v w u [] h = absurd h
pairs_in v w u (x ∷ vs) (inl e) = (inl (ap (λ a. a.0) e), ap (λ a. a.1) e)
pairs_in v w u (x ∷ vs) (inr h) = let r = pairs_in v w u vs h in (inr r.0, r.1)

some_in : (v : ℕ) (o : Option ℕ) → In v (option_to_list o) → o ≡ Some v
some_in v None h = absurd h
some_in v (Some x) (inl e) = ap Some e
some_in v (Some x) (inr h) = absurd h

in_some : (v : ℕ) (o : Option ℕ) → o ≡ Some v → In v (option_to_list o)
in_some v o e = let there : In v (option_to_list (Some v)) = inl refl in subst (λ p. In v (option_to_list p)) (sym e) there

-- the value of a constant has the width of its term
value_width : (d : Design) (t : Term) → is_constant t ≡ true → length (value d blank t) ≡ (head t).width
value_width d t k = sym (length-map (value d blank t) Some) ∙ ap length (sym (constant_known d all_x blank t k)) ∙ length-value d all_x t

-- the number of a constant
module _ (d : Design) (f : Vector → Option ℕ) (t : Term) (v : ℕ) where
  abbrev vector : Vector
  vector = record { bits = value d blank t; signed = (head t).signed }

  number_of : option_and_then f (constant_of d t) ≡ Some v → (is_constant t ≡ true) × (f vector ≡ Some v)
  number_of e = go (is_constant t) refl e
    where
      go : (b : Bool) → is_constant t ≡ b → option_and_then f (cond b (Some vector) None) ≡ Some v → (is_constant t ≡ true) × (f vector ≡ Some v)
      go true q r = (q, r)
      go false q r = absurd (false≢true (ap is_some r))

  of_number : is_constant t ≡ true → f vector ≡ Some v → option_and_then f (constant_of d t) ≡ Some v
  of_number k e = ap (λ b. option_and_then f (cond b (Some vector) None)) k ∙ e

-- parts of a statement that has its shapes have theirs
module _ (d : Design) where
  stmt_shaped : (t : Stmt) (ss : Stmts) → IsStmt t ss → are_bodies d ss ≡ true → is_body d t ≡ true
  stmt_shaped t no_stmts i e = absurd i
  stmt_shaped t (a_stmt s ss) (inl q) e = subst (λ x. is_body d x ≡ true) q (and_parts (is_body d s) (are_bodies d ss) e).0
  stmt_shaped t (a_stmt s ss) (inr i) e = stmt_shaped t ss i (and_parts (is_body d s) (are_bodies d ss) e).1

  arm_shaped : (w : ℕ) (g : Bool) (labels : Terms) (t : Stmt) (arms : Arms) → IsArm labels t arms → is_arms d w g arms ≡ true → is_body d t ≡ true
  arm_shaped w g labels t no_arms i e = absurd i
  arm_shaped w g labels t (arm ls s arms) (inl q) e =
      let p = and_parts (are_shaped d w g ls && is_body d s) (is_arms d w g arms) e in
      subst (λ x. is_body d x ≡ true) q.1 (and_parts (are_shaped d w g ls) (is_body d s) p.0).1
  arm_shaped w g labels t (arm ls s arms) (inr i) e = arm_shaped w g labels t arms i (and_parts (are_shaped d w g ls && is_body d s) (is_arms d w g arms) e).1

  part_shaped : (t u : Stmt) → IsPart t u → is_body d u ≡ true → is_body d t ≡ true
  part_shaped t (block p ss) i e = stmt_shaped t ss i e
  part_shaped t (branch p k x s other) (inl q) e =
      let a = and_parts (is_alone d x && is_body d s) (are_bodies d other) e in
      subst (λ y. is_body d y ≡ true) q (and_parts (is_alone d x) (is_body d s) a.0).1
  part_shaped t (branch p k x s other) (inr i) e = stmt_shaped t other i (and_parts (is_alone d x && is_body d s) (are_bodies d other) e).1
  part_shaped t (select p k kind x arms) i e = arm_shaped _ _ i.0 t arms i.1 (and_parts (is_shaped d (widest_of d (own_width d x) arms) (all_signed_of d (own_sign d x) arms) x) _ e).1
  part_shaped t (turns p k ss) i e = stmt_shaped t ss i e
  part_shaped t (set p k b x y) i e = absurd i
  part_shaped t (empty p) i e = absurd i

  lies_shaped : (t u : Stmt) → LiesIn t u → is_body d u ≡ true → is_body d t ≡ true
  lies_shaped t u itself e = e
  lies_shaped t u (inside x _ l p) e = lies_shaped t x l (part_shaped x _ p e)

module _ (d : Design) (c : ℕ) where
  abbrev room : ℕ
  room = (signal_at d c).width

  -- a label of a case over the signal
  record IsLabelIn (h : Head) (label : Term) : Type 0 where
    width : (head label).width ≡ h.width
    sign_is : (head label).signed ≡ h.signed
    fits : room ≤ h.width

  label_head : (w : ℕ) (g : Bool) (ts : Terms) → AreLabels d w g ts → (label : Term) → IsTerm label ts → HeadIs w g (head label)
  label_head w g no_terms h label i = absurd i
  label_head w g (a_term t ts) h label (inl q) =
      let p = and_parts (is_shaped d w g t) (are_shaped d w g ts) h.shaped in
      let rest : max h.from (own_width d t) ≤ widest d (max h.from (own_width d t)) ts = widest_least d (max h.from (own_width d t)) ts in
      let all : widest d (max h.from (own_width d t)) ts ≤ w = h.narrow in
      subst (λ x. HeadIs w g (head x)) q (context_head d t (record { width = w; signed = g; shaped = p.0; narrow = omega (arith, rest, all) }))
  label_head w g (a_term t ts) h label (inr i) = label_head w g ts (later_labels d w g t ts h) label i

  arm_labels : (w : ℕ) (g : Bool) (labels : Terms) (s : Stmt) (arms : Arms) → IsArm labels s arms → AreArms d w g arms → AreLabels d w g labels
  arm_labels w g labels s no_arms i h = absurd i
  arm_labels w g labels s (arm ls x arms) (inl q) h = subst (AreLabels d w g) q.0 (first_labels d w g ls x arms h)
  arm_labels w g labels s (arm ls x arms) (inr i) h = arm_labels w g labels s arms i (later_arms d w g ls x arms h)

  abbrev IsCase : Head → Arms → Type 0
  IsCase h arms = (is_shaped d (widest_of d room arms) (all_signed_of d (signal_at d c).signed arms) (signal h c) && is_arms d (widest_of d room arms) (all_signed_of d (signal_at d c).signed arms) arms) ≡ true

  label_in : (h : Head) (arms : Arms) → IsCase h arms → (labels : Terms) (s : Stmt) → IsArm labels s arms → (label : Term) → IsTerm label labels → IsLabelIn h label
  label_in h arms e labels s i label j =
      let w = widest_of d room arms in
      let g = all_signed_of d (signal_at d c).signed arms in
      let own : HeadIs w g h = context_head d (signal h c) (record { width = w; signed = g; shaped = (and_parts (is_shaped d w g (signal h c)) _ e).0; narrow = widest_of_least d room arms }) in
      let its : HeadIs w g (head label) = label_head w g labels (arm_labels w g labels s arms i (in_arms d (signal h c) arms e)) label j in
      let least : room ≤ w = widest_of_least d room arms in
      record { width = its.width ∙ sym own.width; sign_is = its.sign_is ∙ sym own.sign_is; fits = subst (λ n. room ≤ n) (sym own.width) least }

  -- the value of a label is the one that it matches
  module _ (h : Head) (t : Term) (x : IsLabelIn h t) (k : is_constant t ≡ true) (v : ℕ) where
    abbrev its_value : Vector
    its_value = record { bits = value d blank t; signed = (head t).signed }

    wide : length (value d blank t) ≡ h.width
    wide = value_width d t k ∙ x.width

    fitting : room ≤ length (value d blank t)
    fitting = subst (λ n. room ≤ n) (sym wide) x.fits

    same_test : matches Exact (extend (length (value d blank t)) (head t).signed (low_bits room v)) (value d blank t) ≡ matches Exact (extend h.width h.signed (low_bits room v)) (value d blank t)
    same_test = ap₂ (λ n g. matches Exact (extend n g (low_bits room v)) (value d blank t)) wide x.sign_is

    number_matches : number_matched room its_value ≡ Some v → Matches d c h v t
    number_matches e =
        let m = matched_is room its_value fitting v e in
        record { constant = k; known = m.known; inside = m.inside; equal = sym same_test ∙ m.equal }

    matches_number : Matches d c h v t → number_matched room its_value ≡ Some v
    matches_number m = is_matched room its_value fitting v (record { known = m.known; inside = m.inside; equal = same_test ∙ m.equal })

  value_matches : (h : Head) (t : Term) → IsLabelIn h t → (v : ℕ) → label_value d c t ≡ Some v → Matches d c h v t
  value_matches h t x v e = let p = number_of d (number_matched room) t v e in number_matches h t x p.0 v p.1

  matches_value : (h : Head) (t : Term) → IsLabelIn h t → (v : ℕ) → Matches d c h v t → label_value d c t ≡ Some v
  matches_value h t x v m = of_number d (number_matched room) t v m.constant (matches_number h t x m.constant v m)

  values_in : (v : ℕ) (labels : Terms) → In v (label_values d c labels) → (label : Term) × IsTerm label labels × (label_value d c label ≡ Some v)
  values_in v no_terms i = absurd i
  values_in v (a_term t ts) i =
      ⊎_elim (λ j. (t, inl refl, some_in v (label_value d c t) j))
      (λ j. let r = values_in v ts j in (r.0, inr r.1, r.2))
      (in_split v (option_to_list (label_value d c t)) (label_values d c ts) i)

  in_values : (v : ℕ) (labels : Terms) (label : Term) → IsTerm label labels → label_value d c label ≡ Some v → In v (label_values d c labels)
  in_values v no_terms label i e = absurd i
  in_values v (a_term t ts) label (inl q) e = in_left v (option_to_list (label_value d c t)) (label_values d c ts) (in_some v (label_value d c t) (ap (label_value d c) q ∙ e))
  in_values v (a_term t ts) label (inr i) e = in_right v (option_to_list (label_value d c t)) (label_values d c ts) (in_values v ts label i e)

  -- the case is over the signal
  record IsOver (kind : CaseKind) (t : Term) : Type 0 where
    selector : Head
    kind_is : kind ≡ Exact
    term_is : t ≡ signal selector c

  just_is : (t : Term) → is_just c t ≡ true → (h : Head) × (t ≡ signal h c)
  just_is (signal h s) e = (h, ap (signal h) (eqb-true s c e))
  just_is (number h n) e = absurd (false≢true e)
  just_is (word h m i) e = absurd (false≢true e)
  just_is (bit h t i) e = absurd (false≢true e)
  just_is (part h t i j) e = absurd (false≢true e)
  just_is (slide h t b k up) e = absurd (false≢true e)
  just_is (unary h op t) e = absurd (false≢true e)
  just_is (binary h op t u) e = absurd (false≢true e)
  just_is (choice h x t u) e = absurd (false≢true e)
  just_is (concat h ts) e = absurd (false≢true e)
  just_is (repeat h k ts) e = absurd (false≢true e)
  just_is (sign h s t) e = absurd (false≢true e)

  over_is : (kind : CaseKind) (t : Term) → is_over c kind t ≡ true → IsOver kind t
  over_is Exact t e = let r = just_is t e in record { selector = r.0; kind_is = refl; term_is = r.1 }
  over_is AnyZ t e = absurd (false≢true e)
  over_is AnyXZ t e = absurd (false≢true e)

  opened_in : (v : ℕ) (over : Bool) (labels : Terms) → In v (opened d c over labels) → (over ≡ true) × In v (label_values d c labels)
  opened_in v true labels i = (refl, i)
  opened_in v false labels i = absurd i

  -- an arm of a case whose labels open the value
  arm_of : (v : ℕ) (p : Place) (k : ℕ) (kind : CaseKind) (t : Term) (arms : Arms) → is_body d (select p k kind t arms) ≡ true → (labels : Terms) (s : Stmt) → IsArm labels s arms → In v (opened d c (is_over c kind t) labels) → IsArmFor d c v s (select p k kind t arms)
  arm_of v p k kind t arms e labels s i j =
      let o = opened_in v (is_over c kind t) labels j in
      let over = over_is kind t o.0 in
      let whole : select p k kind t arms ≡ select p k Exact (signal over.selector c) arms = ap₂ (λ x y. select p k x y arms) over.kind_is over.term_is in
      let shaped : is_body d (select p k Exact (signal over.selector c) arms) ≡ true = ap (is_body d) (sym whole) ∙ e in
      let found = values_in v labels o.1 in
      record {
        place = p;
        line = k;
        selector = over.selector;
        arms = arms;
        a_case = subst (LiesIn (select p k Exact (signal over.selector c) arms)) (sym whole) itself;
        labels = labels;
        an_arm = i;
        label = found.0;
        a_label = found.1;
        matched = value_matches over.selector found.0 (label_in over.selector arms shaped labels s i found.0 found.1) v found.2;
      }

  -- an arm of a part is one of the whole
  lift_arm : (v : ℕ) (s t u : Stmt) → IsPart t u → IsArmFor d c v s t → IsArmFor d c v s u
  lift_arm v s t u i r =
      record {
        place = r.place;
        line = r.line;
        selector = r.selector;
        arms = r.arms;
        a_case = inside t u r.a_case i;
        labels = r.labels;
        an_arm = r.an_arm;
        label = r.label;
        a_label = r.a_label;
        matched = r.matched;
      }

  -- the labels of an arm for a value open it
  arm_opens : (v : ℕ) (s whole : Stmt) → is_body d whole ≡ true → (r : IsArmFor d c v s whole) → In v (label_values d c r.labels)
  arm_opens v s whole e r =
      let shaped = lies_shaped d (select r.place r.line Exact (signal r.selector c) r.arms) whole r.a_case e in
      in_values v r.labels r.label r.a_label (matches_value r.selector r.label (label_in r.selector r.arms shaped r.labels s r.an_arm r.label r.a_label) v r.matched)

  over_itself : (h : Head) → is_over c Exact (signal h c) ≡ true
  over_itself h = eq-eqb c c refl

  -- the values that the labels in a statement open are those of its arms
  abbrev HasArm : ℕ → Stmt → Type 0
  HasArm v t = (s : Stmt) × IsArmFor d c v s t

  lift_has : (v : ℕ) (t u : Stmt) → IsPart t u → HasArm v t → HasArm v u
  lift_has v t u i r = (r.0, lift_arm v r.0 t u i r.1)

  mutual
    states_from : (v : ℕ) (t : Stmt) → is_body d t ≡ true → In v (states_in d c t) → HasArm v t
    states_from v (block p ss) e i = let r = all_states_from v ss e i in lift_has v r.0 (block p ss) r.1 r.2
    states_from v (branch p k x s other) e i =
        let a = and_parts (is_alone d x && is_body d s) (are_bodies d other) e in
        ⊎_elim (λ j. lift_has v s (branch p k x s other) (inl refl) (states_from v s (and_parts (is_alone d x) (is_body d s) a.0).1 j))
        (λ j. let r = all_states_from v other a.1 j in lift_has v r.0 (branch p k x s other) (inr r.1) r.2)
        (in_split v (states_in d c s) (all_states_in d c other) i)
    states_from v (select p k kind t arms) e i =
        let shapes = (and_parts (is_shaped d (widest_of d (own_width d t) arms) (all_signed_of d (own_sign d t) arms) t) _ e).1 in
        let r = arms_states_from v _ _ (is_over c kind t) arms shapes i in
        ⊎_elim (λ j. (r.1, arm_of v p k kind t arms e r.0 r.1 r.2 j)) (λ h. lift_has v r.1 (select p k kind t arms) (r.0, r.2) h) r.3
    states_from v (turns p k ss) e i = let r = all_states_from v ss e i in lift_has v r.0 (turns p k ss) r.1 r.2
    states_from v (set p k b x y) e i = absurd i
    states_from v (empty p) e i = absurd i

    all_states_from : (v : ℕ) (ss : Stmts) → are_bodies d ss ≡ true → In v (all_states_in d c ss) → (t : Stmt) × IsStmt t ss × HasArm v t
    all_states_from v no_stmts e i = absurd i
    all_states_from v (a_stmt s ss) e i =
        let a = and_parts (is_body d s) (are_bodies d ss) e in
        ⊎_elim (λ j. (s, inl refl, states_from v s a.0 j)) (λ j. let r = all_states_from v ss a.1 j in (r.0, inr r.1, r.2)) (in_split v (states_in d c s) (all_states_in d c ss) i)

    arms_states_from : (v w : ℕ) (g : Bool) (over : Bool) (arms : Arms) → is_arms d w g arms ≡ true → In v (arms_states d c over arms) → (labels : Terms) × (s : Stmt) × IsArm labels s arms × (In v (opened d c over labels) ⊎ HasArm v s)
    arms_states_from v w g over no_arms e i = absurd i
    arms_states_from v w g over (arm labels s arms) e i =
        let a = and_parts (are_shaped d w g labels && is_body d s) (is_arms d w g arms) e in
        let b = and_parts (are_shaped d w g labels) (is_body d s) a.0 in
        ⊎_elim (λ j. ⊎_elim (λ k. (labels, s, inl (refl, refl), inl k)) (λ k. (labels, s, inl (refl, refl), inr (states_from v s b.1 k))) (in_split v (opened d c over labels) (states_in d c s) j))
        (λ j. let r = arms_states_from v w g over arms a.1 j in (r.0, r.1, inr r.2, r.3))
        (in_split v (opened d c over labels ++ states_in d c s) (arms_states d c over arms) i)

  -- what a part has is had by the whole
  stmt_states : (v : ℕ) (t : Stmt) (ss : Stmts) → IsStmt t ss → In v (states_in d c t) → In v (all_states_in d c ss)
  stmt_states v t no_stmts i j = absurd i
  stmt_states v t (a_stmt s ss) (inl q) j = in_left v (states_in d c s) (all_states_in d c ss) (subst (λ x. In v (states_in d c x)) (sym q) j)
  stmt_states v t (a_stmt s ss) (inr i) j = in_right v (states_in d c s) (all_states_in d c ss) (stmt_states v t ss i j)

  arm_states : (v : ℕ) (over : Bool) (labels : Terms) (t : Stmt) (arms : Arms) → IsArm labels t arms → In v (opened d c over labels) ⊎ In v (states_in d c t) → In v (arms_states d c over arms)
  arm_states v over labels t no_arms i j = absurd i
  arm_states v over labels t (arm ls s arms) (inl q) j =
      in_left v (opened d c over ls ++ states_in d c s) (arms_states d c over arms)
      (⊎_elim (λ k. in_left v (opened d c over ls) (states_in d c s) (subst (λ x. In v (opened d c over x)) (sym q.0) k)) (λ k. in_right v (opened d c over ls) (states_in d c s) (subst (λ x. In v (states_in d c x)) (sym q.1) k)) j)
  arm_states v over labels t (arm ls s arms) (inr i) j = in_right v (opened d c over ls ++ states_in d c s) (arms_states d c over arms) (arm_states v over labels t arms i j)

  part_states : (v : ℕ) (t u : Stmt) → IsPart t u → In v (states_in d c t) → In v (states_in d c u)
  part_states v t (block p ss) i j = stmt_states v t ss i j
  part_states v t (branch p k x s other) (inl q) j = in_left v (states_in d c s) (all_states_in d c other) (subst (λ y. In v (states_in d c y)) (sym q) j)
  part_states v t (branch p k x s other) (inr i) j = in_right v (states_in d c s) (all_states_in d c other) (stmt_states v t other i j)
  part_states v t (select p k kind x arms) i j = arm_states v (is_over c kind x) i.0 t arms i.1 (inr j)
  part_states v t (turns p k ss) i j = stmt_states v t ss i j
  part_states v t (set p k b x y) i j = absurd i
  part_states v t (empty p) i j = absurd i

  lies_states : (v : ℕ) (t u : Stmt) → LiesIn t u → In v (states_in d c t) → In v (states_in d c u)
  lies_states v t u itself j = j
  lies_states v t u (inside x _ l i) j = part_states v x _ i (lies_states v t x l j)

  pub from_arm : (v : ℕ) (whole : Stmt) → is_body d whole ≡ true → HasArm v whole → In v (states_in d c whole)
  from_arm v whole e (s, r) =
      lies_states v (select r.place r.line Exact (signal r.selector c) r.arms) whole r.a_case
      (arm_states v _ r.labels s r.arms r.an_arm (inl (subst (λ b. In v (opened d c b r.labels)) (sym (over_itself r.selector)) (arm_opens v s whole e r))))

module _ (d : Design) (c n v w : ℕ) where
  abbrev arc : ℕ × ℕ
  arc = (v, w)

  lift_assigns : (t u : Stmt) → IsPart t u → Assigns d n w t → Assigns d n w u
  lift_assigns t u i r = record { place = r.place; line = r.line; blocking = r.blocking; right = r.right; a_set = inside t u r.a_set i; gives = r.gives }

  -- an arm for the one value, and in it an assignment that gives the other
  abbrev HasArc : Stmt → Type 0
  HasArc t = (s : Stmt) × IsArmFor d c v s t × Assigns d n w s

  abbrev Draws : List ℕ → Stmt → Type 0
  Draws around t = (In v around × Assigns d n w t) ⊎ HasArc t

  lift : (around : List ℕ) (t u : Stmt) → IsPart t u → Draws around t → Draws around u
  lift around t u i (inl r) = inl (r.0, lift_assigns t u i r.1)
  lift around t u i (inr r) = inr (r.0, lift_arm d c v r.0 t u i r.1, r.2)

  gives_is : (t : Term) → option_and_then (number_given (signal_at d n).width) (constant_of d t) ≡ Some w → Gives d n w t
  gives_is t e =
      let p = number_of d (number_given (signal_at d n).width) t w e in
      let g = given_is (signal_at d n).width (record { bits = value d blank t; signed = (head t).signed }) w p.1 in
      record { constant = p.0; inside = g.0; given = g.1 }

  is_gives : (t : Term) → Gives d n w t → option_and_then (number_given (signal_at d n).width) (constant_of d t) ≡ Some w
  is_gives t g = of_number d (number_given (signal_at d n).width) t w g.constant (is_given (signal_at d n).width (record { bits = value d blank t; signed = (head t).signed }) w g.inside g.given)

  -- an assignment that gives the value
  record IsSet (x : Target) (t : Term) : Type 0 where
    target_is : x ≡ all_of n
    gives : Gives d n w t

  assigned_is : (x : Target) (t : Term) → assigned d n x t ≡ Some w → IsSet x t
  assigned_is (all_of s) t e = go (s == n) refl e
    where
      go : (b : Bool) → (s == n) ≡ b → cond b (option_and_then (number_given (signal_at d n).width) (constant_of d t)) None ≡ Some w → IsSet (all_of s) t
      go true q r = record { target_is = ap all_of (eqb-true s n q); gives = gives_is t r }
      go false q r = absurd (false≢true (ap is_some r))
  assigned_is (bits_of s low k) t e = absurd (false≢true (ap is_some e))
  assigned_is (word_of m i) t e = absurd (false≢true (ap is_some e))
  assigned_is (several ts) t e = absurd (false≢true (ap is_some e))

  arcs_to_in : (around : List ℕ) (o : Option ℕ) → In arc (arcs_to around o) → In v around × (o ≡ Some w)
  arcs_to_in around None i = absurd i
  arcs_to_in around (Some u) i = let r = pairs_in v w u around i in (r.0, ap Some r.1)

  mutual
    arcs_from : (around : List ℕ) (t : Stmt) → is_body d t ≡ true → In arc (arcs_in d c n around t) → Draws around t
    arcs_from around (block p ss) e i = let r = all_arcs_from around ss e i in lift around r.0 (block p ss) r.1 r.2
    arcs_from around (branch p k x s other) e i =
        let a = and_parts (is_alone d x && is_body d s) (are_bodies d other) e in
        ⊎_elim (λ j. lift around s (branch p k x s other) (inl refl) (arcs_from around s (and_parts (is_alone d x) (is_body d s) a.0).1 j))
        (λ j. let r = all_arcs_from around other a.1 j in lift around r.0 (branch p k x s other) (inr r.1) r.2)
        (in_split arc (arcs_in d c n around s) (all_arcs_in d c n around other) i)
    arcs_from around (select p k kind t arms) e i =
        let shapes = (and_parts (is_shaped d (widest_of d (own_width d t) arms) (all_signed_of d (own_sign d t) arms) t) _ e).1 in
        let r = arms_arcs_from around _ _ (is_over c kind t) arms shapes i in
        let labels = r.0 in
        let s = r.1 in
        ⊎_elim
        (λ g. ⊎_elim (λ j. inl (j, lift_assigns s (select p k kind t arms) (labels, r.2) g.1)) (λ j. inr (s, arm_of d c v p k kind t arms e labels s r.2 j, g.1)) (in_split v around (opened d c (is_over c kind t) labels) g.0))
        (λ g. lift around s (select p k kind t arms) (labels, r.2) (inr g))
        r.3
    arcs_from around (turns p k ss) e i = let r = all_arcs_from around ss e i in lift around r.0 (turns p k ss) r.1 r.2
    arcs_from around (set p k b x t) e i =
        let r = arcs_to_in around (assigned d n x t) i in
        let s = assigned_is x t r.1 in
        inl (r.0, record { place = p; line = k; blocking = b; right = t; a_set = subst (λ y. LiesIn (set p k b y t) (set p k b x t)) s.target_is itself; gives = s.gives })
    arcs_from around (empty p) e i = absurd i

    all_arcs_from : (around : List ℕ) (ss : Stmts) → are_bodies d ss ≡ true → In arc (all_arcs_in d c n around ss) → (t : Stmt) × IsStmt t ss × Draws around t
    all_arcs_from around no_stmts e i = absurd i
    all_arcs_from around (a_stmt s ss) e i =
        let a = and_parts (is_body d s) (are_bodies d ss) e in
        ⊎_elim (λ j. (s, inl refl, arcs_from around s a.0 j)) (λ j. let r = all_arcs_from around ss a.1 j in (r.0, inr r.1, r.2)) (in_split arc (arcs_in d c n around s) (all_arcs_in d c n around ss) i)

    arms_arcs_from : (around : List ℕ) (u : ℕ) (g : Bool) (over : Bool) (arms : Arms) → is_arms d u g arms ≡ true → In arc (arms_arcs d c n over around arms) → (labels : Terms) × (s : Stmt) × IsArm labels s arms × Draws (around ++ opened d c over labels) s
    arms_arcs_from around u g over no_arms e i = absurd i
    arms_arcs_from around u g over (arm labels s arms) e i =
        let a = and_parts (are_shaped d u g labels && is_body d s) (is_arms d u g arms) e in
        let b = and_parts (are_shaped d u g labels) (is_body d s) a.0 in
        ⊎_elim (λ j. (labels, s, inl (refl, refl), arcs_from (around ++ opened d c over labels) s b.1 j))
        (λ j. let r = arms_arcs_from around u g over arms a.1 j in (r.0, r.1, inr r.2, r.3))
        (in_split arc (arcs_in d c n (around ++ opened d c over labels) s) (arms_arcs d c n over around arms) i)

  -- a condition on what is open around, which stays true where more is open
  record Stays (Q : List ℕ → Type 0) : Type 0 where
    more : (xs ys : List ℕ) → Q xs → Q (xs ++ ys)

  module _ (Q : List ℕ → Type 0) (stays : Stays Q) where
    abbrev Found : Stmt → Type 0
    Found t = (around : List ℕ) → Q around → In arc (arcs_in d c n around t)

    stmt_arcs : (t : Stmt) (ss : Stmts) → IsStmt t ss → Found t → (around : List ℕ) → Q around → In arc (all_arcs_in d c n around ss)
    stmt_arcs t no_stmts i f around q = absurd i
    stmt_arcs t (a_stmt s ss) (inl e) f around q = in_left arc (arcs_in d c n around s) (all_arcs_in d c n around ss) (subst (λ x. In arc (arcs_in d c n around x)) (sym e) (f around q))
    stmt_arcs t (a_stmt s ss) (inr i) f around q = in_right arc (arcs_in d c n around s) (all_arcs_in d c n around ss) (stmt_arcs t ss i f around q)

    arm_arcs : (over : Bool) (labels : Terms) (t : Stmt) (arms : Arms) → IsArm labels t arms → Found t → (around : List ℕ) → Q around → In arc (arms_arcs d c n over around arms)
    arm_arcs over labels t no_arms i f around q = absurd i
    arm_arcs over labels t (arm ls s arms) (inl e) f around q =
        in_left arc (arcs_in d c n (around ++ opened d c over ls) s) (arms_arcs d c n over around arms) (subst (λ x. In arc (arcs_in d c n (around ++ opened d c over ls) x)) (sym e.1) (f (around ++ opened d c over ls) (stays.more around (opened d c over ls) q)))
    arm_arcs over labels t (arm ls s arms) (inr i) f around q = in_right arc (arcs_in d c n (around ++ opened d c over ls) s) (arms_arcs d c n over around arms) (arm_arcs over labels t arms i f around q)

    part_arcs : (t u : Stmt) → IsPart t u → Found t → Found u
    part_arcs t (block p ss) i f = stmt_arcs t ss i f
    part_arcs t (branch p k x s other) (inl e) f = λ around q. in_left arc (arcs_in d c n around s) (all_arcs_in d c n around other) (subst (λ y. In arc (arcs_in d c n around y)) (sym e) (f around q))
    part_arcs t (branch p k x s other) (inr i) f = λ around q. in_right arc (arcs_in d c n around s) (all_arcs_in d c n around other) (stmt_arcs t other i f around q)
    part_arcs t (select p k kind x arms) i f = arm_arcs (is_over c kind x) i.0 t arms i.1 f
    part_arcs t (turns p k ss) i f = stmt_arcs t ss i f
    part_arcs t (set p k b x y) i f = absurd i
    part_arcs t (empty p) i f = absurd i

    lies_arcs : (t u : Stmt) → LiesIn t u → Found t → Found u
    lies_arcs t u itself f = f
    lies_arcs t u (inside x _ l i) f = part_arcs x _ i (lies_arcs t x l f)

  -- where the value is open around an assignment that gives the other, the arc is found
  set_found : (s : Stmt) → Assigns d n w s → (around : List ℕ) → In v around → In arc (arcs_in d c n around s)
  set_found s r =
      lies_arcs (λ xs. In v xs) (record { more = λ xs ys i. in_left v xs ys i }) (set r.place r.line r.blocking (all_of n) r.right) s r.a_set (λ around i. subst (λ o. In arc (arcs_to around o)) (sym (here ∙ is_gives r.right r.gives)) (in_pairs v w around i))
    where
      here : assigned d n (all_of n) r.right ≡ option_and_then (number_given (signal_at d n).width) (constant_of d r.right)
      here = ap (λ b. cond b (option_and_then (number_given (signal_at d n).width) (constant_of d r.right)) None) (eq-eqb n n refl)

  -- the first arm with these labels
  arm_found : (labels : Terms) (s : Stmt) (arms : Arms) → IsArm labels s arms → In v (label_values d c labels) → Assigns d n w s → (around : List ℕ) → In arc (arms_arcs d c n true around arms)
  arm_found labels s no_arms i j r around = absurd i
  arm_found labels s (arm ls x arms) (inl e) j r around =
      in_left arc (arcs_in d c n (around ++ label_values d c ls) x) (arms_arcs d c n true around arms)
      (subst (λ y. In arc (arcs_in d c n (around ++ label_values d c ls) y)) (sym e.1) (set_found s r (around ++ label_values d c ls) (in_right v around (label_values d c ls) (subst (λ ts. In v (label_values d c ts)) (sym e.0) j))))
  arm_found labels s (arm ls x arms) (inr i) j r around = in_right arc (arcs_in d c n (around ++ label_values d c ls) x) (arms_arcs d c n true around arms) (arm_found labels s arms i j r around)

  from_arc : (whole : Stmt) → is_body d whole ≡ true → HasArc whole → (around : List ℕ) → In arc (arcs_in d c n around whole)
  from_arc whole e (s, r, g) around =
      lies_arcs (λ xs. Unit {0}) (record { more = λ xs ys i. tt }) (select r.place r.line Exact (signal r.selector c) r.arms) whole r.a_case
      (λ xs i. subst (λ b. In arc (arms_arcs d c n b xs r.arms)) (sym (over_itself d c r.selector)) (arm_found r.labels s r.arms r.an_arm (arm_opens d c v s whole e r) g xs))
      around tt

-- processes
process_at_arcs : (d : Design) (c n : ℕ) (a : ℕ × ℕ) (ps : List Process) → In a (process_arcs d c n ps) → (p : ℕ) × In a (arcs_in d c n [] (body (get_or ps p no_process)))
process_at_arcs d c n a [] i = absurd i
process_at_arcs d c n a (p ∷ ps) i =
    ⊎_elim (λ j. (0, j)) (λ j. let r = process_at_arcs d c n a ps j in (suc r.0, r.1)) (in_split a (arcs_in d c n [] (body p)) (process_arcs d c n ps) i)

arcs_at_process : (d : Design) (c n : ℕ) (a : ℕ × ℕ) (ps : List Process) (p : ℕ) → In a (arcs_in d c n [] (body (get_or ps p no_process))) → In a (process_arcs d c n ps)
arcs_at_process d c n a [] p i = absurd i
arcs_at_process d c n a (q ∷ ps) zero i = in_left a (arcs_in d c n [] (body q)) (process_arcs d c n ps) i
arcs_at_process d c n a (q ∷ ps) (suc p) i = in_right a (arcs_in d c n [] (body q)) (process_arcs d c n ps) (arcs_at_process d c n a ps p i)

process_at_states : (d : Design) (c v : ℕ) (ps : List Process) → In v (process_states d c ps) → (p : ℕ) × In v (states_in d c (body (get_or ps p no_process)))
process_at_states d c v [] i = absurd i
process_at_states d c v (p ∷ ps) i =
    ⊎_elim (λ j. (0, j)) (λ j. let r = process_at_states d c v ps j in (suc r.0, r.1)) (in_split v (states_in d c (body p)) (process_states d c ps) i)

states_at_process : (d : Design) (c v : ℕ) (ps : List Process) (p : ℕ) → In v (states_in d c (body (get_or ps p no_process))) → In v (process_states d c ps)
states_at_process d c v [] p i = absurd i
states_at_process d c v (q ∷ ps) zero i = in_left v (states_in d c (body q)) (process_states d c ps) i
states_at_process d c v (q ∷ ps) (suc p) i = in_right v (states_in d c (body q)) (process_states d c ps) (states_at_process d c v ps p i)

module _ (d : Design) (lawful : IsLawfulDesign d) (c n : ℕ) where
  -- the arcs of the processes are the drawn ones
  pub arcs_drawn : (v w : ℕ) → In {A = ℕ × ℕ} (v, w) (process_arcs d c n d.processes) → IsArc d c n v w
  arcs_drawn v w i =
      let r = process_at_arcs d c n (v, w) d.processes i in
      ⊎_elim (λ j. absurd j.0) (λ j. record { process = r.0; statement = j.0; from = j.1; assigns = j.2 }) (arcs_from d c n v w [] (body_at d r.0) (lawful.bodies r.0) r.1)

  pub drawn_arcs : (v w : ℕ) → IsArc d c n v w → In {A = ℕ × ℕ} (v, w) (process_arcs d c n d.processes)
  drawn_arcs v w a = arcs_at_process d c n (v, w) d.processes a.process (from_arc d c n v w (body_at d a.process) (lawful.bodies a.process) (a.statement, a.from, a.assigns) [])

  -- and so are the values of labels
  pub states_drawn : (v : ℕ) → In v (process_states d c d.processes) → (p : ℕ) × (s : Stmt) × IsArmFor d c v s (body_at d p)
  states_drawn v i =
      let r = process_at_states d c v d.processes i in
      let a = states_from d c v (body_at d r.0) (lawful.bodies r.0) r.1 in
      (r.0, a.0, a.1)

  pub drawn_states : (v p : ℕ) (s : Stmt) → IsArmFor d c v s (body_at d p) → In v (process_states d c d.processes)
  drawn_states v p s r = states_at_process d c v d.processes p (from_arm d c v (body_at d p) (lawful.bodies p) (s, r))
