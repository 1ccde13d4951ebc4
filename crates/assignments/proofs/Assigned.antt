-- An assignment of the code against that of the definition.
use Rattle.std.proofs.Common.{Bool, List, None, Option, Some, [], ap, ap₂, append-nil, append_assoc, arith, false, if◌then◌else◌, length, map, max, refl, subst, sym, true, ℕ, ◌≤◌, ◌&&◌, ◌++◌, ◌∙◌, ◌∷◌, ◌≡◌}
use Rattle.std.specs.Prelude.{is_some, not}
use Rattle.known_state.specs.Partly.{Partly, are_sure, filled, is_whole}
use Rattle.value_store.specs.four_state.declared.bit.Bit.{Bit}
use Rattle.value_store.specs.four_state.declared.bit.Bit.TheVariants.{One, Zero}
use Rattle.value_store.specs.four_state.Vector.{extend}
use Rattle.known_state.specs.Join.{joined}
use Rattle.design_model.specs.Design.{Design, nowhere}
use Rattle.design_model.specs.Tree.{Target, Term, sign}
use Rattle.design_model.specs.Assignment.{target_width}
use Rattle.design_model.specs.Shape.{is_shaped, is_target, own_sign, own_width}
use Rattle.std.proofs.lemmas.Bool.{and_parts}
use Rattle.design_model.specs.Value.{head}
use Rattle.value_store.specs.body_replay.KnownBits.{KnownBits, all_sure, extend_partly, sure}
use Rattle.value_store.specs.body_replay.Store.{Kept, KnownWrite, keep_all, known_value, known_writes, set_bits}
use Rattle.value_store.specs.body_replay.Replay.{Mark, Mode, State, blame_of, hit, in_mode, index_first, index_marks, line, queued, run_set, set_blames, set_first, set_known, set_marks, term_marks, written_marks}
use Rattle.value_store.proofs.body_replay.Answered.{same_sure}
use Rattle.value_store.proofs.body_replay.Exact.{extend_exact, sure_length}
use Rattle.value_store.proofs.body_replay.Operators.{extend_length}
use Rattle.value_store.proofs.body_replay.Unsure.{all_sure_is, all_sure_sure}
use Rattle.scene_laws.specs.term_replay.Noted.{Adds, in_this, marks_of}
use Rattle.scene_laws.specs.term_replay.Stands.{Scene, Stands, first_after}
use Rattle.scene_laws.proofs.term_replay.Contexts.{context_head, length-value}
use Rattle.scene_laws.proofs.term_replay.Marking.{adds_more, adds_same, hit_in}
use Rattle.scene_laws.specs.body_calls.Lvalues.{Like, if_certain}
use Rattle.scene_laws.specs.At.{IsState, flat, scene_of}
use Rattle.scene_laws.proofs.LikeScenes.{alike_first, alike_marks, alike_value, like_trans}
use Rattle.scene_laws.specs.body_calls.Rooms.{Leaves, Rooms}
use Rattle.assignments.specs.Pieces.{AllTake, ArePieces, blame_option, made, pieces_marks, pieces_take, pieces_writes, queued_by, widths}
use Rattle.assignments.specs.Takes.{HasRoom, set_logs, set_queues}
use Rattle.assignments.specs.declared.piece.Piece.{Piece}
use Rattle.assignments.proofs.AllParts.{assigned_alike, each_one, marks_are, pieces_width, takes_are, writes_are}
use Rattle.assignments.proofs.LikeTargets.{alike_index_first, alike_index_marks, alike_pieces}

length_joined : (ps qs : KnownBits) (n : ℕ) → length ps ≡ n → length qs ≡ n → length (joined ps qs) ≡ n
length_joined [] qs n e f = e
length_joined (p ∷ ps) [] n e f = let bad : length (p ∷ ps) ≡ length {A = Option Bit} [] = e ∙ sym f in absurd (omega (arith, bad))
length_joined (p ∷ ps) (q ∷ qs) n e f =
    let here : length (p ∷ ps) ≡ n = e in
    let there : length (q ∷ qs) ≡ n = f in
    let rest = length_joined ps qs (length ps) refl (omega (arith, here, there)) in
    omega (arith, here, rest)

length_extended : (w : ℕ) (g : Bool) (ps : KnownBits) → length (extend_partly w g ps) ≡ w
length_extended w g ps =
    length_joined (sure (extend w g (filled Zero ps))) (sure (extend w g (filled One ps))) w (sure_length (extend w g (filled Zero ps)) ∙ extend_length w g (filled Zero ps)) (sure_length (extend w g (filled One ps)) ∙ extend_length w g (filled One ps))

-- the value has as many bits as the target
length-set : (d : Design) (k : Kept) (w : ℕ) (g : Bool) (t : Term) → length (extend_partly w g (known_value d k t)) ≡ w
length-set d k w g t = length-value d k (sign (record { place = nowhere; width = w; signed = g; node = None }) g t)

flat_more : (q : List (List KnownWrite)) (ws : List KnownWrite) → flat (q ++ ws ∷ []) ≡ flat q ++ ws
flat_more [] ws = append-nil ws
flat_more (v ∷ q) ws = ap (λ z. v ++ z) (flat_more q ws) ∙ sym (append_assoc v (flat q) ws)

-- what is to blame for the value, as the definition has it
same_option : (value_sure sure : Bool) (blame thing : ℕ) → value_sure ≡ sure → (sure ≡ false → blame ≡ thing) → blame_option value_sure blame ≡ blame_option sure thing
same_option value_sure true blame thing e f = ap (λ t. blame_option t blame) e
same_option value_sure false blame thing e f = ap (λ t. blame_option t blame) e ∙ ap Some (f refl)

queued_same : (mode : Mode) (certain : Bool) (ws : List KnownWrite) → certain ≡ not (is_some mode) → if_certain certain ws ≡ queued mode ws
queued_same None certain ws e = ap (λ t. if_certain t ws) e
queued_same (Some b) certain ws e = ap (λ t. if_certain t ws) e

module _ {T S : Type 0} (noted : T → List Mark → S → Type 0) (start : T) (d : Design) (a : State) (mode : Mode) (n : ℕ) (blocking certain : Bool) (x : Target) (t : Term) (v after : Scene) (first next last : Option ℕ) (queue now : List KnownWrite) (xs : List Piece) (r : Partly) (n0 n1 n2 n3 n4 : S) where
  pub assigned_state :
      IsState d a first v queue (λ ms. noted start ms n0)
      → Adds noted n0 (record { spot = line n; doubt = mode } ∷ []) n1
      → next ≡ index_first v.design v.kept v.blames first x
      → Adds noted n1 (in_this mode (index_marks v.design v.kept v.blames first x)) n2
      → ArePieces v first x xs
      → Stands v next t r
      → last ≡ first_after v next t
      → Adds noted n2 (in_this mode (marks_of v next t)) n3
      → Adds noted n3 (in_this mode (pieces_marks v.design xs)) n4
      → ((u : Scene) (sure : Bool) (thing : ℕ) → blame_option (is_whole r) r.blame ≡ blame_option sure thing → Like u v → Like (made blocking xs (extend_partly (widths xs) r.signed r.bits) sure thing u) after)
      → certain ≡ not (is_some mode)
      → now ≡ queued_by blocking certain v.design xs (extend_partly (widths xs) r.signed r.bits) queue
      → IsState d (run_set d mode n blocking x t a) last after now (λ ms. noted start ms n4)
  assigned_state h noting index_is indexing located stands last_is evaluating writing making sure_is queueing =
      go blocking making queueing
    where
      s : Scene
      s = scene_of d a

      l : Like s v
      l = h.scene

      f1 : Option ℕ
      f1 = index_first d a.kept a.blames a.first x

      next_is : next ≡ f1
      next_is = index_is ∙ alike_index_first s v l x a.first first h.first

      pieces : ArePieces s a.first x xs
      pieces = alike_pieces s v l x a.first first xs h.first located

      value : Stands s f1 t r
      value = alike_value s v l f1 next t r next_is stands

      ps : KnownBits
      ps = extend_partly (widths xs) r.signed r.bits

      ps_is : ps ≡ set_bits d a.kept x t
      ps_is = ap (λ w. extend_partly w r.signed r.bits) (pieces_width s a.first x xs pieces) ∙ ap₂ (λ g bs. extend_partly (target_width d x) g bs) value.sign_is value.bits

      size : length ps ≡ target_width d x
      size = ap length ps_is ∙ length-set d a.kept (target_width d x) (head t).signed t

      last_as : last ≡ set_first d x t a
      last_as = last_is ∙ alike_first s v l f1 next t next_is

      all_marks : Adds noted n0 (in_this mode (((hit (line n) ∷ []) ++ index_marks v.design v.kept v.blames first x) ++ marks_of v next t ++ pieces_marks v.design xs)) n4
      all_marks =
          adds_more noted mode n0 n3 n4 (((hit (line n) ∷ []) ++ index_marks v.design v.kept v.blames first x) ++ marks_of v next t) (pieces_marks v.design xs)
          (adds_more noted mode n0 n2 n3 ((hit (line n) ∷ []) ++ index_marks v.design v.kept v.blames first x) (marks_of v next t)
          (adds_more noted mode n0 n1 n2 (hit (line n) ∷ []) (index_marks v.design v.kept v.blames first x) (adds_same noted n0 n1 _ _ (ap (λ m. m ∷ []) (sym (hit_in mode (line n)))) noting) indexing)
          evaluating)
          writing

      marks_same : (((hit (line n) ∷ []) ++ index_marks v.design v.kept v.blames first x) ++ marks_of v next t ++ pieces_marks v.design xs) ≡ set_marks d n x t a
      marks_same =
          ap₂ (λ p q. ((hit (line n) ∷ []) ++ p) ++ q ++ pieces_marks v.design xs) (alike_index_marks s v l x a.first first h.first) (alike_marks s v l f1 next t next_is)
          ∙ ap (λ p. ((hit (line n) ∷ []) ++ index_marks d a.kept a.blames a.first x) ++ term_marks d a.kept a.blames f1 t ++ p) (ap (λ e. pieces_marks e xs) l.design ∙ sym (marks_are s a.first x xs pieces))

      marked : noted start (a.marks ++ map (in_mode mode) (set_marks d n x t a)) n4
      marked = subst (λ ms. noted start (a.marks ++ map (in_mode mode) ms) n4) marks_same (all_marks.added start a.marks h.noted)

      sure : Bool
      sure = all_sure (known_value d a.kept t)

      thing : ℕ
      thing = blame_of d a.kept a.blames f1 t

      blame_is : blame_option (is_whole r) r.blame ≡ blame_option sure thing
      blame_is =
          let is : is_whole r ≡ sure = sym (same_sure r.bits) ∙ ap all_sure value.bits in
          same_option (is_whole r) sure r.blame thing is (λ u. value.blame (is ∙ u))

      go : (b : Bool) → ((u : Scene) (sure : Bool) (thing : ℕ) → blame_option (is_whole r) r.blame ≡ blame_option sure thing → Like u v → Like (made b xs ps sure thing u) after) → now ≡ queued_by b certain v.design xs ps queue → IsState d (run_set d mode n b x t a) last after now (λ ms. noted start ms n4)
      go true making queueing =
          record {
            scene = subst (λ bits. Like (record { design = d; kept = keep_all a.kept (known_writes d a.kept x bits); blames = set_blames d x t a }) after) ps_is
                (like_trans _ _ after (assigned_alike sure thing s a.first x xs ps size pieces) (making s sure thing blame_is l));
            first = last_as;
            queue = queueing ∙ h.queue;
            noted = marked;
          }
      go false making queueing =
          record {
            scene = making s sure thing blame_is l;
            first = last_as;
            queue =
                queueing
                ∙ ap (λ e. queue ++ if_certain certain (pieces_writes e xs ps)) l.design
                ∙ ap (λ z. queue ++ if_certain certain z) (sym (writes_are s a.first x xs ps size pieces) ∙ ap (known_writes d a.kept x) ps_is)
                ∙ ap (λ z. queue ++ z) (queued_same mode certain (set_known d x t a) sure_is)
                ∙ ap (λ z. z ++ queued mode (set_known d x t a)) h.queue
                ∙ sym (flat_more a.queue (queued mode (set_known d x t a)));
            noted = marked;
          }

-- where the widths of the parts add up to 0, there is no part
no_pieces : (d : Design) (xs : List Piece) → AllTake d xs → widths xs ≡ 0 → xs ≡ []
no_pieces d [] h e = refl
no_pieces d (x ∷ xs) h e = let one = h.0 in absurd (omega (arith, one, e))

pub made_none : (d : Design) (b : Bool) (xs : List Piece) (ps : KnownBits) (sure : Bool) (thing : ℕ) (v w : Scene) → AllTake d xs → widths xs ≡ 0 → Like v w → Like (made b xs ps sure thing v) w
made_none d b xs ps sure thing v w h e l = subst (λ ys. Like (made b ys ps sure thing v) w) (sym (no_pieces d xs h e)) (go b)
  where
    go : (b : Bool) → Like (made b [] ps sure thing v) w
    go true = l
    go false = l

pub queued_none : (d e : Design) (b certain : Bool) (xs : List Piece) (ps : KnownBits) (queue : List KnownWrite) → AllTake d xs → widths xs ≡ 0 → queue ≡ queued_by b certain e xs ps queue
queued_none d e b certain xs ps queue h n = subst (λ ys. queue ≡ queued_by b certain e ys ps queue) (sym (no_pieces d xs h n)) (go b certain)
  where
    go : (b certain : Bool) → queue ≡ queued_by b certain e [] ps queue
    go true certain = refl
    go false true = sym (append-nil queue)
    go false false = sym (append-nil queue)

-- as many bits as the parts have
pub made_width : (w : ℕ) (g : Bool) (r : Partly) (t : List (Option Bit)) → t ≡ extend_partly w g r.bits → w ≡ length t
made_width w g r t e = sym (ap length e ∙ length_extended w g r.bits)

-- a value that is wholly sure is at every width
pub sure_width : (w : ℕ) (r q : Partly) → q.bits ≡ extend_partly w r.signed r.bits → blame_option (is_whole r) r.blame ≡ None → is_whole q ≡ true
sure_width w r q e n = ap are_sure e ∙ sym (same_sure (extend_partly w r.signed r.bits)) ∙ go (is_whole r) refl n
  where
    go : (b : Bool) → is_whole r ≡ b → blame_option b r.blame ≡ None → all_sure (extend_partly w r.signed r.bits) ≡ true
    go true f m =
        let s = all_sure_is r.bits (same_sure r.bits ∙ f) in
        ap (λ z. all_sure (extend_partly w r.signed z)) s.1 ∙ ap all_sure (extend_exact w r.signed s.0) ∙ all_sure_sure (extend w r.signed s.0)
    go false f m = absurd (cc)

-- the room of a target is that of its parts
pub target_room : (takes : ℕ → ℕ) (b : Bool) (v : Scene) (f : Option ℕ) (x : Target) (xs : List Piece) (r : Rooms) → ArePieces v f x xs → HasRoom (set_logs takes b x) (set_queues b x) r → HasRoom (if b then pieces_take takes xs else 0) (if b then 0 else length xs) r
target_room takes true v f x xs r are h = record { log = subst (λ n. n ≤ r.log) (sym (takes_are takes v f x xs are)) h.log; queue = h.queue }
target_room takes false v f x xs r are h = record { log = h.log; queue = subst (λ n. n ≤ r.queue) (sym (sym (each_one xs) ∙ takes_are (λ y. 1) v f x xs are)) h.queue }

pub target_leaves : (takes : ℕ → ℕ) (b : Bool) (v : Scene) (f : Option ℕ) (x : Target) (xs : List Piece) (r q : Rooms) → ArePieces v f x xs → Leaves (if b then pieces_take takes xs else 0) (if b then 0 else length xs) r q → Leaves (set_logs takes b x) (set_queues b x) r q
target_leaves takes true v f x xs r q are h = subst (λ n. Leaves n 0 r q) (takes_are takes v f x xs are) h
target_leaves takes false v f x xs r q are h = subst (λ n. Leaves 0 n r q) (sym (each_one xs) ∙ takes_are (λ y. 1) v f x xs are) h

-- the target of a lawful assignment has at most 128 bits
pub set_narrow : (d : Design) (x : Target) (t : Term) → (is_target d x && is_shaped d (max (target_width d x) (own_width d t)) (own_sign d t) t) ≡ true → target_width d x ≤ 128
set_narrow d x t e =
    let most : max (target_width d x) (own_width d t) ≤ 128 = (context_head d t (record { width = max (target_width d x) (own_width d t); signed = own_sign d t; shaped = (and_parts (is_target d x) _ e).1; narrow = omega arith })).at_most in
    omega (arith, most)

not_not : (b : Bool) → not (not b) ≡ b
not_not true = refl
not_not false = refl

pub other_flag : (b c : Bool) → b ≡ not c → c ≡ not b
other_flag b c e = sym (ap not e ∙ not_not c)
