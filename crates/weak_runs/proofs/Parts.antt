-- The parts of an assignment of which nothing is known.
use Rattle.std.proofs.Common.{Bool, List, None, Option, [], ap, ap₂, arith, false, if◌then◌else◌, length, refl, subst, sym, true, ℕ, ◌∙◌, ◌∷◌, ◌≡◌}
use Rattle.known_state.specs.Partly.{Partly}
use Rattle.design_model.specs.Assignment.{target_width}
use Rattle.design_model.specs.Design.{Design, nowhere}
use Rattle.design_model.specs.Tree.{Target, Term, sign}
use Rattle.design_model.specs.Value.{head}
use Rattle.value_store.specs.body_replay.Contract.{unread, weak_set}
use Rattle.value_store.specs.body_replay.KnownBits.{KnownBits, extend_partly}
use Rattle.value_store.specs.body_replay.Store.{known_value, known_writes, set_bits, weaken}
use Rattle.term_replay.specs.Stands.{Scene}
use Rattle.term_replay.proofs.Contexts.{length-value}
use Rattle.open_tests.specs.assignments.Pieces.{AllTake, ArePieces, pieces_writes, widths}
use Rattle.open_tests.specs.assignments.Takes.{set_queues}
use Rattle.open_tests.specs.assignments.declared.piece.Piece.{Piece}
use Rattle.open_tests.proofs.assignments.AllParts.{each_one, pieces_width, takes_are, writes_are}
use Rattle.weak_runs.specs.Makes.{At, IsOutside, Makes}
use Rattle.weak_runs.specs.Unread.{unread_scene}
use Rattle.weak_runs.proofs.Making.{makes_none}

-- there are no parts without bits
pub makes_no_parts : (d e : Design) (b : Bool) (xs : List Piece) (ps : KnownBits) (x : At) → AllTake d xs → widths xs ≡ 0 → IsOutside x → Makes (if b then weaken (pieces_writes e xs ps) else []) (if b then [] else weaken (pieces_writes e xs ps)) (if b then 0 else length xs) x x
makes_no_parts d e true [] ps x h n o = makes_none x o
makes_no_parts d e false [] ps x h n o = makes_none x o
makes_no_parts d e b (y ∷ ys) ps x h n o = let one = h.0 in absurd (omega (arith, one, n))

-- the parts take as many places of the queue
pub count_is : (b : Bool) (v : Scene) (f : Option ℕ) (x : Target) (xs : List Piece) → ArePieces v f x xs → (if b then 0 else length xs) ≡ set_queues b x
count_is true v f x xs e = refl
count_is false v f x xs e = sym (each_one xs) ∙ takes_are (λ y. 1) v f x xs e

-- the writes of the parts are those of the definition
pub weak_set_is : (v : Scene) (x : Target) (t : Term) (xs : List Piece) (r : Partly) → ArePieces (unread_scene v) None x xs → r.bits ≡ known_value v.design unread t → r.signed ≡ (head t).signed → weaken (pieces_writes v.design xs (extend_partly (widths xs) r.signed r.bits)) ≡ weak_set v.design x t
weak_set_is v x t xs r are bits signed =
    let ps : KnownBits = extend_partly (widths xs) r.signed r.bits in
    let is : ps ≡ set_bits v.design unread x t = ap (λ w. extend_partly w r.signed r.bits) (pieces_width (unread_scene v) None x xs are) ∙ ap₂ (λ g bs. extend_partly (target_width v.design x) g bs) signed bits in
    let size : length ps ≡ target_width v.design x = ap length is ∙ length-value v.design unread (sign (record { place = nowhere; width = target_width v.design x; signed = (head t).signed; node = None }) (head t).signed t) in
    ap weaken (sym (writes_are (unread_scene v) None x xs ps size are) ∙ ap (known_writes v.design unread x) is)

-- what an assignment makes, by its parts
pub makes_set : (b : Bool) (v : Scene) (x : Target) (t : Term) (xs ys : List Piece) (r : Partly) (y z : At) → ArePieces (unread_scene v) None x xs → ys ≡ xs → r.bits ≡ known_value v.design unread t → r.signed ≡ (head t).signed → Makes (if b then weaken (pieces_writes v.design ys (extend_partly (widths ys) r.signed r.bits)) else []) (if b then [] else weaken (pieces_writes v.design ys (extend_partly (widths ys) r.signed r.bits))) (if b then 0 else length ys) y z → Makes (if b then weak_set v.design x t else []) (if b then [] else weak_set v.design x t) (set_queues b x) y z
makes_set b v x t xs ys r y z are same bits signed m =
    let first = subst (λ us. Makes (if b then weaken (pieces_writes v.design us (extend_partly (widths us) r.signed r.bits)) else []) (if b then [] else weaken (pieces_writes v.design us (extend_partly (widths us) r.signed r.bits))) (if b then 0 else length us) y z) same m in
    let second = subst (λ ws. Makes (if b then ws else []) (if b then [] else ws) (if b then 0 else length xs) y z) (weak_set_is v x t xs r are bits signed) first in
    subst (λ n. Makes (if b then weak_set v.design x t else []) (if b then [] else weak_set v.design x t) n y z) (count_is b (unread_scene v) None x xs are) second
