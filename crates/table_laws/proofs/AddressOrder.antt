-- The addresses of the points of each kind are in the order of the points.
use Rattle.std.proofs.Common.{◌≡◌, ◌<◌, ◌∙◌, ℕ, Bool, true, false, not, List, length, refl, sym, ap}
use Rattle.std.specs.declared.cmp.Ordering.{Ordering}
use Rattle.std.specs.declared.cmp.Ordering.TheVariants.{Less, Equal, Greater}
use Rattle.std.specs.Ordering.{nat_cmp, ordering_then}
use Rattle.coverage_db.specs.Order.{address_cmp, bytes_cmp, index_cmp as option_cmp, rise_cmp, write_cmp}
use Rattle.point_table.specs.cover_points.MachinePoints.{first_name, machine_cmp, machine_of, second_name}
use Rattle.point_table.specs.cover_points.Order.{case_rank, index_cmp, line_cmp, node_cmp, second_rank, thing_instance, thing_name}
use Rattle.point_table.specs.cover_points.declared.machine_point.MachinePoint.{MachinePoint}
use Rattle.point_table.specs.cover_points.declared.machine_point.MachinePoint.TheVariants.{Arc, State}
use Rattle.point_table.specs.cover_points.declared.points.IndexPoint.{IndexPoint}
use Rattle.point_table.specs.design_machines.Machines.{machine_at}
use Rattle.point_table.specs.design_machines.declared.machine.Machine.{Machine}
use Rattle.design_model.specs.declared.design.Instance.{Instance}
use Rattle.point_words.specs.Words.{node_case_rank}
use Rattle.point_words.specs.declared.node_case.NodeCase.{NodeCase}
use Rattle.point_words.specs.declared.node_case.NodeCase.TheVariants.{ValueFalse, ValueTrue, LeftFalse, RightFalse, LeftTrue, RightTrue, BothFalse, FalseTrue, TrueFalse, BothTrue}
use Rattle.point_table.specs.Addresses.{index_if, line_address, machine_address, node_address, toggle_address, word_address}
use Rattle.point_table.specs.Rows.{path_cmp, place_at}
use Rattle.design_model.specs.Design.{Design, memory_at, signal_at}
use Rattle.point_table.specs.text_points.declared.points.LinePoint.{LinePoint}
use Rattle.point_table.specs.text_points.declared.points.NodePoint.{NodePoint}

then_assoc : (a b c : Ordering) → ordering_then a (ordering_then b c) ≡ ordering_then (ordering_then a b) c
then_assoc Less b c = refl
then_assoc Equal b c = refl
then_assoc Greater b c = refl

then_equal : (a : Ordering) → ordering_then a Equal ≡ a
then_equal Less = refl
then_equal Equal = refl
then_equal Greater = refl

-- where the first is equal the second counts
then_other : (a b c : Ordering) → (a ≡ Equal → b ≡ c) → ordering_then a b ≡ ordering_then a c
then_other Less b c h = refl
then_other Equal b c h = h refl
then_other Greater b c h = refl

rank_is : (c : NodeCase) → node_case_rank c ≡ case_rank c
rank_is ValueFalse = refl
rank_is ValueTrue = refl
rank_is LeftFalse = refl
rank_is RightFalse = refl
rank_is LeftTrue = refl
rank_is RightTrue = refl
rank_is BothFalse = refl
rank_is FalseTrue = refl
rank_is TrueFalse = refl
rank_is BothTrue = refl

rise_is : (a b : Bool) → rise_cmp (not a) (not b) ≡ nat_cmp (second_rank a) (second_rank b)
rise_is true true = refl
rise_is true false = refl
rise_is false true = refl
rise_is false false = refl

write_is : (a b : Bool) → write_cmp a b ≡ nat_cmp (second_rank a) (second_rank b)
write_is true true = refl
write_is true false = refl
write_is false true = refl
write_is false false = refl

-- places compare as the paths of their instances
abbrev pub AreInOrder : List Instance → List ℕ → Type 0
AreInOrder is places = (i j : ℕ) → i < length is → j < length is → nat_cmp (place_at places i) (place_at places j) ≡ path_cmp is i j

module _ (d : Design) (places : List ℕ) (same : AreInOrder d.instances places) where
  pub by_line : (x y : LinePoint) → x.instance < length d.instances → y.instance < length d.instances → address_cmp (line_address places x) (line_address places y) ≡ line_cmp d.instances x y
  by_line x y l m = ap (λ o. ordering_then o (nat_cmp x.line y.line)) (same x.instance y.instance l m)

  pub by_node : (x y : NodePoint) → x.instance < length d.instances → y.instance < length d.instances → address_cmp (node_address places x) (node_address places y) ≡ node_cmp d.instances x y
  by_node x y l m =
      let p = path_cmp d.instances x.instance y.instance in
      let n = nat_cmp x.node y.node in
      ap (λ o. ordering_then o (ordering_then n (nat_cmp (node_case_rank x.case) (node_case_rank y.case)))) (same x.instance y.instance l m)
      ∙ ap (λ k. ordering_then p (ordering_then n (nat_cmp k (node_case_rank y.case)))) (rank_is x.case)
      ∙ ap (λ k. ordering_then p (ordering_then n (nat_cmp (case_rank x.case) k))) (rank_is y.case)
      ∙ then_assoc p n (nat_cmp (case_rank x.case) (case_rank y.case))

  -- the indexes compare as the numbers, where a name in an instance is that of one signal whose index is 0 without a range
  pub by_toggle : (x y : IndexPoint) → (signal_at d x.thing).instance < length d.instances → (signal_at d y.thing).instance < length d.instances
      → thing_instance d x.thing ≡ (signal_at d x.thing).instance → thing_instance d y.thing ≡ (signal_at d y.thing).instance → thing_name d x.thing ≡ (signal_at d x.thing).name → thing_name d y.thing ≡ (signal_at d y.thing).name
      → (ordering_then (path_cmp d.instances (signal_at d x.thing).instance (signal_at d y.thing).instance) (bytes_cmp (signal_at d x.thing).name (signal_at d y.thing).name) ≡ Equal
      → option_cmp (index_if (signal_at d x.thing).ranged x.index) (index_if (signal_at d y.thing).ranged y.index) ≡ nat_cmp x.index y.index)
      → address_cmp (toggle_address d places x) (toggle_address d places y) ≡ index_cmp d x y
  by_toggle x y l m xi yi xn yn indexes =
      let s = signal_at d x.thing in
      let t = signal_at d y.thing in
      let p = path_cmp d.instances s.instance t.instance in
      let n = bytes_cmp s.name t.name in
      let i = option_cmp (index_if s.ranged x.index) (index_if t.ranged y.index) in
      let j = nat_cmp x.index y.index in
      let b = nat_cmp (second_rank x.second) (second_rank y.second) in
      ap (λ o. ordering_then o (ordering_then n (ordering_then i (rise_cmp (not x.second) (not y.second))))) (same s.instance t.instance l m)
      ∙ ap (λ o. ordering_then p (ordering_then n (ordering_then i o))) (rise_is x.second y.second)
      ∙ then_assoc p n (ordering_then i b)
      ∙ then_other (ordering_then p n) (ordering_then i b) (ordering_then j b) (λ e. ap (λ o. ordering_then o b) (indexes e))
      ∙ then_assoc (ordering_then p n) j b
      ∙ sym (as_named x y s.instance t.instance s.name t.name xi yi xn yn)
    where
      as_named : (x y : IndexPoint) (i j : ℕ) (a b : List ℕ) → thing_instance d x.thing ≡ i → thing_instance d y.thing ≡ j → thing_name d x.thing ≡ a → thing_name d y.thing ≡ b
          → index_cmp d x y ≡ ordering_then (ordering_then (ordering_then (path_cmp d.instances i j) (bytes_cmp a b)) (nat_cmp x.index y.index)) (nat_cmp (second_rank x.second) (second_rank y.second))
      as_named x y i j a b xi yi xn yn = rw (xi, yi, xn, yn) refl

  pub by_word : (x y : IndexPoint) → (memory_at d x.thing).instance < length d.instances → (memory_at d y.thing).instance < length d.instances
      → thing_instance d x.thing ≡ (memory_at d x.thing).instance → thing_instance d y.thing ≡ (memory_at d y.thing).instance → thing_name d x.thing ≡ (memory_at d x.thing).name → thing_name d y.thing ≡ (memory_at d y.thing).name
      → address_cmp (word_address d places x) (word_address d places y) ≡ index_cmp d x y
  by_word x y l m xi yi xn yn =
      let s = memory_at d x.thing in
      let t = memory_at d y.thing in
      let p = path_cmp d.instances s.instance t.instance in
      let n = bytes_cmp s.name t.name in
      let i = nat_cmp x.index y.index in
      let b = nat_cmp (second_rank x.second) (second_rank y.second) in
      ap (λ o. ordering_then o (ordering_then n (ordering_then i (write_cmp x.second y.second)))) (same s.instance t.instance l m)
      ∙ ap (λ o. ordering_then p (ordering_then n (ordering_then i o))) (write_is x.second y.second)
      ∙ then_assoc p n (ordering_then i b)
      ∙ then_assoc (ordering_then p n) i b
      ∙ sym (rw (xi, yi, xn, yn) refl)

  -- by instance, variable, kind and names
  spread : (p v f s : Ordering) → ordering_then p (ordering_then v (ordering_then f s)) ≡ ordering_then (ordering_then (ordering_then (ordering_then p v) Equal) f) s
  spread Less v f s = refl
  spread Greater v f s = refl
  spread Equal Less f s = refl
  spread Equal Equal f s = then_assoc Equal f s
  spread Equal Greater f s = refl

  lower : (p v f s : Ordering) → ordering_then p (ordering_then v Less) ≡ ordering_then (ordering_then (ordering_then (ordering_then p v) Less) f) s
  lower Less v f s = refl
  lower Greater v f s = refl
  lower Equal Less f s = refl
  lower Equal Equal f s = refl
  lower Equal Greater f s = refl

  higher : (p v f s : Ordering) → ordering_then p (ordering_then v Greater) ≡ ordering_then (ordering_then (ordering_then (ordering_then p v) Greater) f) s
  higher Less v f s = refl
  higher Greater v f s = refl
  higher Equal Less f s = refl
  higher Equal Equal f s = refl
  higher Equal Greater f s = refl

  pub by_machine : (xs : List Machine) (x y : MachinePoint) → (machine_at xs (machine_of x)).instance < length d.instances → (machine_at xs (machine_of y)).instance < length d.instances
      → address_cmp (machine_address xs places x) (machine_address xs places y) ≡ machine_cmp d.instances xs x y
  by_machine xs (State k s) (State q t) l m =
      let v = bytes_cmp (machine_at xs k).variable (machine_at xs q).variable in
      let p = path_cmp d.instances (machine_at xs k).instance (machine_at xs q).instance in
      let f = bytes_cmp (first_name xs (State k s)) (first_name xs (State q t)) in
      ap (λ o. ordering_then o (ordering_then v f)) (same (machine_at xs k).instance (machine_at xs q).instance l m)
      ∙ ap (λ o. ordering_then p (ordering_then v o)) (sym (then_equal f)) ∙ spread p v f Equal
  by_machine xs (State k s) (Arc q i j) l m =
      ap (λ o. ordering_then o (ordering_then (bytes_cmp (machine_at xs k).variable (machine_at xs q).variable) Less)) (same (machine_at xs k).instance (machine_at xs q).instance l m)
      ∙ lower (path_cmp d.instances (machine_at xs k).instance (machine_at xs q).instance) (bytes_cmp (machine_at xs k).variable (machine_at xs q).variable) _ _
  by_machine xs (Arc k i j) (State q t) l m =
      ap (λ o. ordering_then o (ordering_then (bytes_cmp (machine_at xs k).variable (machine_at xs q).variable) Greater)) (same (machine_at xs k).instance (machine_at xs q).instance l m)
      ∙ higher (path_cmp d.instances (machine_at xs k).instance (machine_at xs q).instance) (bytes_cmp (machine_at xs k).variable (machine_at xs q).variable) _ _
  by_machine xs (Arc k i j) (Arc q u w) l m =
      let v = bytes_cmp (machine_at xs k).variable (machine_at xs q).variable in
      let p = path_cmp d.instances (machine_at xs k).instance (machine_at xs q).instance in
      let f = bytes_cmp (first_name xs (Arc k i j)) (first_name xs (Arc q u w)) in
      let g = bytes_cmp (second_name xs (Arc k i j)) (second_name xs (Arc q u w)) in
      ap (λ o. ordering_then o (ordering_then v (ordering_then f g))) (same (machine_at xs k).instance (machine_at xs q).instance l m) ∙ spread p v f g
