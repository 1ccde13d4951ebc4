use Rattle.std.proofs.Common.{◌≡◌, ◌+◌, ◌≤◌, length, ap, subst, sym, ◌∙◌}
use Rattle.four_state.specs.Arithmetic.{low_bits}
use Rattle.known_state.proofs.Widths.{length-low_bits}
use Rattle.memory_rebuild.proofs.Numbers.{number_of}
use Rattle.memory_rebuild.proofs.Search.{may_none, may_not, may_some}
use Rattle.memory_rebuild.proofs.shape.Shape.may_name.Goals as goal
use Rattle.memory_rebuild.proofs.shape.Shape.may_name.Goals.{After-extend-number}

-- the vector of the number
number : (c : After-extend-number) → c.extend-number.result ≡ record { bits = low_bits (length c.args.index.now.bits) (c.least.result + c.args.place); signed = c.args.index.now.signed }
number c =
    number_of c.extend-number.result c.make.result c.width.result (c.least.result + c.args.place) c.is_signed.result (subst (λ w. w ≤ 128) (sym c.width.ensures.value) c.width.ensures.at_most) c.make.ensures.value c.extend-number.ensures
    ∙ ap (λ w. record { bits = low_bits w (c.least.result + c.args.place); signed = c.is_signed.result }) c.width.ensures.value
    ∙ ap (λ t. record { bits = low_bits (length c.args.index.now.bits) (c.least.result + c.args.place); signed = t }) c.is_signed.ensures

pub differs-requires : goal.differs-requires
differs-requires c = sym (ap (λ v. length v.bits) (number ((goal.at.differs-requires c).After-extend-number)) ∙ length-low_bits (length c.args.index.now.bits) (c.least.result + c.args.place))

pub returns-then-differs : goal.returns-then-differs
returns-then-differs c =
    may_not c.args.self.now c.args.index.now c.args.place (c.least.result + c.args.place) c.extend-number.result (number ((goal.at.returns-then-differs c).After-extend-number)) (ap (λ a. a + c.args.place) c.least.ensures.value) (sym c.differs.ensures ∙ c.if-differs.true)

pub returns-in-Some : goal.returns-in-Some
returns-in-Some c =
    may_some c.args.self.now c.args.index.now c.args.place (c.least.result + c.args.place) c.in-Some.named c.extend-number.result (number ((goal.at.returns-in-Some c).After-extend-number)) (ap (λ a. a + c.args.place) c.least.ensures.value) (sym c.differs.ensures ∙ c.if-differs.false)
    c.in-Some.ensures.1

pub returns-in-None : goal.returns-in-None
returns-in-None c =
    may_none c.args.self.now c.args.index.now c.args.place (c.least.result + c.args.place) c.extend-number.result (number ((goal.at.returns-in-None c).After-extend-number)) (ap (λ a. a + c.args.place) c.least.ensures.value) (sym c.differs.ensures ∙ c.if-differs.false) c.in-None.ensures
