use Rattle.std.proofs.Common.{◌≡◌, ◌∙◌, ℕ, ◌<◌, ◌≤◌, [], ◌∷◌, ◌++◌, length, get_or, set, refl, sym, ap, subst, arith}
use Rattle.std.specs.List.{Contains}
use Rattle.std.specs.Vec.{with_item}
use Rattle.std.proofs.lemmas.List.{get_or_read, length-map}
use Rattle.std.proofs.lemmas.List.Elements.{Contains-get_or}
use Rattle.std.proofs.lemmas.Result.{on_ok_weaker}
use Rattle.index_sets.specs.Rows.{row_at}
use Rattle.rank_order.specs.Order.{lists_of}
use Rattle.rank_order.proofs.Orders.{list_row}
use Rattle.rank_order.proofs.Placing.{put_in_places, put_in_sorting, wait_places, wait_sorting}
use Rattle.rank_order.proofs.sorting.Sorting.place.Goals as goal

pub first_missing-met-requires-clause-nodes : goal.first_missing-met-requires-clause-nodes
first_missing-met-requires-clause-nodes c =
    let lists = lists_of c.args.needs.now in
    let row : row_at lists c.args.node ≡ c.as_slice-list.result.now = list_row c.args.needs.now c.args.node c.index-needs-node.result c.requires.node c.index-needs-node.is ∙ sym c.as_slice-list.ensures.value in
    λ v k. omega (arith, c.requires.nodes c.args.node v (subst (λ r. Contains r v) (sym row) k), c.requires.sorting.size)

pub first_missing-met-requires-clause-met : goal.first_missing-met-requires-clause-met
first_missing-met-requires-clause-met c =
    let lists = lists_of c.args.needs.now in
    let row : row_at lists c.args.node ≡ c.as_slice-list.result.now = list_row c.args.needs.now c.args.node c.index-needs-node.result c.requires.node c.index-needs-node.is ∙ sym c.as_slice-list.ensures.value in
    let read : c.index.result.now ≡ get_or c.args.self.now.met.items c.args.node 0 = get_or_read c.args.self.now.met.items c.args.node c.index.result.now (omega (arith, c.requires.sorting.met_size, c.requires.node, length-map c.args.needs.now (λ v. v.items))) c.index.ensures 0 in
    λ j b. subst (λ r. Contains c.args.self.now.order.items (get_or r j 0)) row (c.requires.sorting.met_there c.args.node j (omega (arith, read, b)))

pub add_to-requires : goal.add_to-requires
add_to-requires c =
    let lists = lists_of c.args.needs.now in
    let row : row_at lists c.args.node ≡ c.as_slice-list.result.now = list_row c.args.needs.now c.args.node c.index-needs-node.result c.requires.node c.index-needs-node.is ∙ sym c.as_slice-list.ensures.value in
    let list = c.as_slice-list.result.now in
    let met = c.first_missing-met.result in
    let there : Contains list (get_or list met 0) = Contains-get_or list met 0 (omega (arith, c.if-met-list.true)) in
    omega (arith, c.requires.nodes c.args.node (get_or list met 0) (subst (λ r. Contains r (get_or list met 0)) (sym row) there), c.requires.sorting.waiting_size)

pub returns-then-met-list-clause-sorting : goal.returns-then-met-list-clause-sorting
returns-then-met-list-clause-sorting c =
    let lists = lists_of c.args.needs.now in
    let row : row_at lists c.args.node ≡ c.as_slice-list.result.now = list_row c.args.needs.now c.args.node c.index-needs-node.result c.requires.node c.index-needs-node.is ∙ sym c.as_slice-list.ensures.value in
    let inside : c.args.node < length lists = omega (arith, c.requires.node, length-map c.args.needs.now (λ v. v.items)) in
    let within : c.first_missing-met.result ≤ length (row_at lists c.args.node) = subst (λ r. c.first_missing-met.result ≤ length r) (sym row) c.first_missing-met.ensures.within in
    let there : (j : ℕ) → j < c.first_missing-met.result → Contains c.args.self.now.order.items (get_or (row_at lists c.args.node) j 0) = λ j b. subst (λ r. Contains c.args.self.now.order.items (get_or r j 0)) (sym row) (c.first_missing-met.ensures.met j b) in
    let short : c.first_missing-met.result < length (row_at lists c.args.node) = subst (λ r. c.first_missing-met.result < length r) (sym row) (omega (arith, c.if-met-list.true)) in
    let missing : Contains c.args.self.now.order.items (get_or (row_at lists c.args.node) c.first_missing-met.result 0) → ⊥ = subst (λ r. Contains c.args.self.now.order.items (get_or r c.first_missing-met.result 0) → ⊥) (sym row) (c.first_missing-met.ensures.missing (omega (arith, c.if-met-list.true))) in
    on_ok_weaker c.add_to.result (λ e. wait_sorting lists c.args.self.now (record { order = c.args.self.now.order; met = with_item c.args.self.now.met c.args.node c.first_missing-met.result; waiting = c.add_to.new.lists }) c.args.node c.first_missing-met.result c.requires.sorting inside within there refl short c.requires.nodes refl (e ∙ ap (λ r. set (lists_of c.args.self.now.waiting.items) (get_or r c.first_missing-met.result 0) (row_at (lists_of c.args.self.now.waiting.items) (get_or r c.first_missing-met.result 0) ++ c.args.node ∷ [])) (sym row)) missing) c.add_to.ensures

pub returns-then-met-list-clause-placed : goal.returns-then-met-list-clause-placed
returns-then-met-list-clause-placed c =
    let lists = lists_of c.args.needs.now in
    let row : row_at lists c.args.node ≡ c.as_slice-list.result.now = list_row c.args.needs.now c.args.node c.index-needs-node.result c.requires.node c.index-needs-node.is ∙ sym c.as_slice-list.ensures.value in
    let inside : c.args.node < length lists = omega (arith, c.requires.node, length-map c.args.needs.now (λ v. v.items)) in
    let within : c.first_missing-met.result ≤ length (row_at lists c.args.node) = subst (λ r. c.first_missing-met.result ≤ length r) (sym row) c.first_missing-met.ensures.within in
    let there : (j : ℕ) → j < c.first_missing-met.result → Contains c.args.self.now.order.items (get_or (row_at lists c.args.node) j 0) = λ j b. subst (λ r. Contains c.args.self.now.order.items (get_or r j 0)) (sym row) (c.first_missing-met.ensures.met j b) in
    let short : c.first_missing-met.result < length (row_at lists c.args.node) = subst (λ r. c.first_missing-met.result < length r) (sym row) (omega (arith, c.if-met-list.true)) in
    let missing : Contains c.args.self.now.order.items (get_or (row_at lists c.args.node) c.first_missing-met.result 0) → ⊥ = subst (λ r. Contains c.args.self.now.order.items (get_or r c.first_missing-met.result 0) → ⊥) (sym row) (c.first_missing-met.ensures.missing (omega (arith, c.if-met-list.true))) in
    on_ok_weaker c.add_to.result (λ e. wait_places lists c.args.self.now (record { order = c.args.self.now.order; met = with_item c.args.self.now.met c.args.node c.first_missing-met.result; waiting = c.add_to.new.lists }) c.args.node c.first_missing-met.result c.requires.sorting inside within there refl short c.requires.nodes refl (e ∙ ap (λ r. set (lists_of c.args.self.now.waiting.items) (get_or r c.first_missing-met.result 0) (row_at (lists_of c.args.self.now.waiting.items) (get_or r c.first_missing-met.result 0) ++ c.args.node ∷ [])) (sym row)) missing) c.add_to.ensures

pub returns-clause-sorting : goal.returns-clause-sorting
returns-clause-sorting c =
    let lists = lists_of c.args.needs.now in
    let row : row_at lists c.args.node ≡ c.as_slice-list.result.now = list_row c.args.needs.now c.args.node c.index-needs-node.result c.requires.node c.index-needs-node.is ∙ sym c.as_slice-list.ensures.value in
    let inside : c.args.node < length lists = omega (arith, c.requires.node, length-map c.args.needs.now (λ v. v.items)) in
    let within : c.first_missing-met.result ≤ length (row_at lists c.args.node) = subst (λ r. c.first_missing-met.result ≤ length r) (sym row) c.first_missing-met.ensures.within in
    let there : (j : ℕ) → j < c.first_missing-met.result → Contains c.args.self.now.order.items (get_or (row_at lists c.args.node) j 0) = λ j b. subst (λ r. Contains c.args.self.now.order.items (get_or r j 0)) (sym row) (c.first_missing-met.ensures.met j b) in
    let whole : length (row_at lists c.args.node) ≤ c.first_missing-met.result = subst (λ r. length r ≤ c.first_missing-met.result) (sym row) (omega (arith, c.if-met-list.false)) in
    put_in_sorting lists c.args.self.now (record { order = c.insert.new.self; met = with_item c.args.self.now.met c.args.node c.first_missing-met.result; waiting = c.args.self.now.waiting }) c.args.node c.first_missing-met.result c.requires.sorting inside within there refl whole c.insert.ensures.size refl c.insert.result c.insert.ensures.items c.insert.ensures.there

pub returns-clause-placed : goal.returns-clause-placed
returns-clause-placed c =
    let lists = lists_of c.args.needs.now in
    let row : row_at lists c.args.node ≡ c.as_slice-list.result.now = list_row c.args.needs.now c.args.node c.index-needs-node.result c.requires.node c.index-needs-node.is ∙ sym c.as_slice-list.ensures.value in
    let inside : c.args.node < length lists = omega (arith, c.requires.node, length-map c.args.needs.now (λ v. v.items)) in
    let within : c.first_missing-met.result ≤ length (row_at lists c.args.node) = subst (λ r. c.first_missing-met.result ≤ length r) (sym row) c.first_missing-met.ensures.within in
    let there : (j : ℕ) → j < c.first_missing-met.result → Contains c.args.self.now.order.items (get_or (row_at lists c.args.node) j 0) = λ j b. subst (λ r. Contains c.args.self.now.order.items (get_or r j 0)) (sym row) (c.first_missing-met.ensures.met j b) in
    let whole : length (row_at lists c.args.node) ≤ c.first_missing-met.result = subst (λ r. length r ≤ c.first_missing-met.result) (sym row) (omega (arith, c.if-met-list.false)) in
    put_in_places lists c.args.self.now (record { order = c.insert.new.self; met = with_item c.args.self.now.met c.args.node c.first_missing-met.result; waiting = c.args.self.now.waiting }) c.args.node c.first_missing-met.result c.requires.sorting inside within there refl whole c.insert.ensures.size refl c.insert.result c.insert.ensures.items c.insert.ensures.there
