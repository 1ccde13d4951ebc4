-- What the calls leave that are made when a block runs, as what is kept under what bodies read.
use Rattle.std.proofs.Common.{◌≡◌, ℕ, ◌≤◌, false, List, [], ◌∷◌, length, min, None, refl, sym, ap, subst, ◌∙◌, arith}
use Rattle.std.proofs.Math.Nat.{le-min, min-le_left}
use Rattle.std.proofs.lemmas.Bool.{false≢true}
use Rattle.design_model.specs.event_machine.Cell.{Cell}
use Rattle.design_model.specs.View.{design_view}
use Rattle.body_calls.specs.body_replay.KnownBits.{KnownBits}
use Rattle.body_calls.specs.body_replay.Replay.{Blames}
use Rattle.body_calls.specs.body_replay.Store.{Kept, keep_all, weaken}
use Rattle.write_log.specs.Logs.{is_inside, reads_of}
use Rattle.write_log.specs.declared.entry.Test.{Test}
use Rattle.word_log.specs.Logs as w
use Rattle.body_calls.specs.Lvalues.{Takes, lvalue_writes}
use Rattle.body_calls.specs.Own.{IsOwn, IsOwnOutside}
use Rattle.body_calls.specs.Under.{kept_with}
use Rattle.body_calls.specs.declared.lvalue.Lvalue.{Lvalue}
use Rattle.body_store.specs.declared.store.Store.{Store}
use Rattle.body_store.specs.Bodies.{around_of, queued_of, rooms_of}
use Rattle.body_store.specs.Ended.{ended}
use Rattle.body_store.specs.Held.{HoldsStore}
use Rattle.body_store.specs.Made.{unblamed}
use Rattle.body_store.specs.Scenes.{scene_of, scene_with}
use Rattle.body_store.specs.Tests.{log_room, word_room}
use Rattle.body_store.specs.Views.{kept_scene, under_of}
use Rattle.body_store.proofs.BlocksCells.{is_cell, lvalue_missed, queue_missed}
use Rattle.body_store.proofs.BlocksOwn.{AreWide, blank_scene, ended_own, own_held, own_scene, scene_held, scene_is}
use Rattle.body_store.proofs.Holding.{inside_by}
use Rattle.body_store.proofs.Rooms.{same_inside}
use Rattle.body_store.proofs.ViewLaws.{under_here}

-- this is kept, and each is to blame for itself
abbrev pub IsKept : Store → Kept → Type 0
IsKept y k = ((kept_with (under_of y) (scene_of y)).kept ≡ k) × IsOwn (kept_with (under_of y) (scene_of y))

-- a store over the same design holds it, with nothing known of cells that the design does not have
held_scene : (x y : Store) (k : Kept) → y.design ≡ x.design → HoldsStore (design_view x.design.now) k unblamed y → ((c : Cell) → is_cell (design_view x.design.now) c ≡ false → k c ≡ None) → ((kept_scene y).kept ≡ k) × IsOwn (kept_scene y)
held_scene x y k same h none =
    let held : HoldsStore (design_view y.design.now) k unblamed y = subst (λ b. HoldsStore (design_view b.now) k unblamed y) (sym same) h in
    let is : (kept_scene y).kept ≡ k = scene_is y k unblamed held (subst (λ b. (c : Cell) → is_cell (design_view b.now) c ≡ false → k c ≡ None) (sym same) none) in
    (is, own_scene y (subst (λ b. HoldsStore (design_view y.design.now) b unblamed y) (sym is) held))

held_kept : (x y : Store) (k : Kept) → y.design ≡ x.design → HoldsStore (design_view x.design.now) k unblamed y → ((c : Cell) → is_cell (design_view x.design.now) c ≡ false → k c ≡ None) → IsKept y k
held_kept x y k same h none = let both = held_scene x y k same h none in (ap (λ v. v.kept) (under_here y) ∙ both.0, subst IsOwn (sym (under_here y)) both.1)

-- the updates that wait
pub flush_kept : (x y : Store) → AreWide x → y.design ≡ x.design → IsOwn (kept_scene x) → ((k : Kept) → HoldsStore (design_view x.design.now) k unblamed x → HoldsStore (design_view x.design.now) (keep_all k (queued_of x)) unblamed y) → ((kept_scene y).kept ≡ keep_all (kept_scene x).kept (queued_of x)) × IsOwn (kept_scene y)
flush_kept x y wide same own made =
    let k = (kept_scene x).kept in
    held_scene x y (keep_all k (queued_of x)) same (made k (own_held x wide own)) (λ c out. queue_missed (design_view x.design.now) k x.updates.items c x.taken out ∙ blank_scene x wide c out)

-- a write that may not be made
pub weak_kept : (x y : Store) (to : Lvalue) (ps : KnownBits) → Takes (design_view x.design.now) to (length ps) → AreWide x → y.design ≡ x.design → IsOwn (kept_with (under_of x) (scene_of x)) → ((k : Kept) → HoldsStore (design_view x.design.now) k unblamed x → HoldsStore (design_view x.design.now) (keep_all k (weaken (lvalue_writes (design_view x.design.now) to ps))) unblamed y) → IsKept y (keep_all (kept_with (under_of x) (scene_of x)).kept (weaken (lvalue_writes (design_view x.design.now) to ps)))
weak_kept x y to ps takes wide same own made =
    let d = design_view x.design.now in
    let k = (kept_scene x).kept in
    let before : HoldsStore d k unblamed x = own_held x wide (subst IsOwn (under_here x) own) in
    subst (λ v. IsKept y (keep_all v.kept (weaken (lvalue_writes d to ps)))) (sym (under_here x))
    (held_kept x y (keep_all k (weaken (lvalue_writes d to ps))) same (made k before) (λ c out. lvalue_missed d k false to ps c takes out ∙ blank_scene x wide c out))

-- the end of a run
pub end_kept : (x y : Store) (ts : List ℕ) → AreWide x → y.design ≡ x.design → IsOwnOutside ts (kept_with (under_of x) (scene_of x)) → ((k : Kept) (e : Blames) → HoldsStore (design_view x.design.now) k e x → HoldsStore (design_view x.design.now) k (ended ts e) y) → IsKept y (kept_with (under_of x) (scene_of x)).kept
end_kept x y ts wide same out ends =
    let v = kept_scene x in
    subst (λ s. IsKept y s.kept) (sym (under_here x))
    (held_kept x y v.kept same (ended_own x y ts (subst (IsOwnOutside ts) (under_here x) out) (ends v.kept v.blames (scene_held x wide))) (blank_scene x wide))

-- ---- the room of the logs, which are empty outside of undecided tests

no_tests : (ts : List Test) → is_inside ts ≡ false → length ts ≡ 0
no_tests [] e = refl
no_tests (t ∷ ts) e = absurd (false≢true (sym e))

pub whole_room : (x : Store) → around_of x ≡ [] → (is_inside x.log.tests ≡ false → x.log.done ≡ []) → (is_inside x.log.tests ≡ false → x.log.undone ≡ []) → (is_inside x.words.tests ≡ false → x.words.done ≡ []) → (is_inside x.words.tests ≡ false → x.words.undone ≡ []) → (rooms_of x).log ≡ x.log.room
whole_room x none done undone words_done words_undone =
    let out : is_inside x.log.tests ≡ false = inside_by (scene_with x.design.now) (reads_of x.signals) (w.around x.words x.memories.items) x.log.tests x.log refl none in
    let words_out : is_inside x.words.tests ≡ false = same_inside x.log.tests x.words.tests x.tests.branches ∙ out in
    let a : length x.log.done ≡ 0 = ap length (done out) in
    let b : length x.log.undone ≡ 0 = ap length (undone out) in
    let c = no_tests x.log.tests out in
    let e : length x.words.done ≡ 0 = ap length (words_done words_out) in
    let f : length x.words.undone ≡ 0 = ap length (words_undone words_out) in
    let g = no_tests x.words.tests words_out in
    let room = x.tests.room in
    let one : log_room x.log ≡ x.log.room = omega (arith, a, b, c) in
    let two : word_room x.words ≡ x.log.room = omega (arith, e, f, g, room) in
    let low : min (log_room x.log) (word_room x.words) ≤ log_room x.log = min-le_left (log_room x.log) (word_room x.words) in
    let high : x.log.room ≤ min (log_room x.log) (word_room x.words) = le-min (omega (arith, one)) (omega (arith, two)) in
    omega (arith, low, high, one)
