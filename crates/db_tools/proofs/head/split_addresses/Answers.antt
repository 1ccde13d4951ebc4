use Rattle.std.proofs.Common.{◌≡◌, [], ◌∷◌, Some, None, subst, sym}
use Rattle.std.proofs.lemmas.List.{map-append}
use Rattle.db_tools.specs.Reading.{address_parts}
use Rattle.db_tools.specs.Views.{texts}
use Rattle.db_tools.proofs.HeadLaws.{Gathers, gathers_all, gathers_less, gathers_more, gathers_none}
use Rattle.db_tools.proofs.head.split_addresses.Goals as goal

pub loop-line-init : goal.loop-line-init
loop-line-init c = rw c.new-lines.ensures.items (gathers_none c.args.text.now)

pub loop-line-smaller : goal.loop-line-smaller
loop-line-smaller c =
    let next : address_parts c.loop-line.rest.now ≡ Some (c.in-Some.line.now, c.in-Some.after.now) = sym (rw c.in-Some.is at c.next_address.ensures) in
    gathers_less c.loop-line.rest.now c.in-Some.line.now c.in-Some.after.now next

pub loop-line-preserved : goal.loop-line-preserved
loop-line-preserved c =
    let next : address_parts c.loop-line.rest.now ≡ Some (c.in-Some.line.now, c.in-Some.after.now) = sym (rw c.in-Some.is at c.next_address.ensures) in
    rw c.in_ok-push.ensures.items
    (subst (λ lines. Gathers c.args.text.now lines c.in-Some.after.now) (sym (map-append (λ line. line.now) c.loop-line.lines.items (c.in-Some.line ∷ [])))
    (gathers_more c.args.text.now c.loop-line.rest.now c.in-Some.line.now c.in-Some.after.now (texts c.loop-line.lines.items) c.loop-line.invariant next))

pub returns : goal.returns
returns c =
    let none : address_parts c.loop-line.rest.now ≡ None = sym (rw c.in_default.is at c.next_address.ensures) in
    gathers_all c.args.text.now c.loop-line.rest.now (texts c.loop-line.lines.items) c.loop-line.invariant none
