-- What a body reads from a partial map of things to values.
use Rattle.std.specs.Prelude.{◌≡◌, ◌⊎◌, ◌∷◌, true, false, List, [], ⊤}
use Rattle.event_machine.specs.Cell.{Values}
use Rattle.four_state.specs.declared.bit.Bit.{Bit}
use Rattle.design_model.specs.Tree.{Stmt}
use Rattle.design_model.specs.Design.{Design, IsThing, Thing, owner, thing_bits}
use Rattle.design_model.specs.Mentions.{body_mentions}
use Rattle.design_model.specs.Execution.{Visit, at_line, at_node, execution, reads, writes_word}

-- a partial map from things to values
abbrev pub PartialMap : Type 1
PartialMap = Thing → List Bit → Type 0

-- the map has a value of x
abbrev pub HasValue : PartialMap → Thing → Type 0
HasValue K x = (bits : List Bit) × K x bits

-- the empty map
abbrev pub nothing_known : PartialMap
nothing_known x bits = ⊥

-- the state has each value of the map
abbrev pub Agrees : Design → PartialMap → Values Bit → Type 0
Agrees d K v = (x : Thing) (bits : List Bit) → K x bits → thing_bits d v x ≡ bits

-- the visit is no read of a thing outside the map that is not inner
abbrev pub IsInside : PartialMap → Visit → Type 0
IsInside K (at_line n) = ⊤
IsInside K (at_node n c) = ⊤
IsInside K (reads x true) = ⊤
IsInside K (reads x false) = HasValue K x
IsInside K (writes_word m i) = ⊤

-- none of the visits is such a read
abbrev pub AllInside : PartialMap → List Visit → Type 0
AllInside K [] = ⊤
AllInside K (x ∷ xs) = IsInside K x × AllInside K xs

-- x is visited up to the first read outside the map that is not inner, that read included
abbrev pub UpToOutside : PartialMap → Visit → List Visit → Type 0
UpToOutside K x [] = ⊥
UpToOutside K x (y ∷ ys) = (y ≡ x) ⊎ (IsInside K y × UpToOutside K x ys)

-- the body reads within the map: by reads that are not inner only what is in it
abbrev pub ReadsWithin : Design → PartialMap → Stmt → Type 0
ReadsWithin d K b = (v : Values Bit) → Agrees d K v → AllInside K (execution d b v).visits

-- from the map the body visits x before or at its first read outside
abbrev pub VisitsFrom : Design → PartialMap → Stmt → Visit → Type 0
VisitsFrom d K b x = (v : Values Bit) × Agrees d K v × UpToOutside K x (execution d b v).visits

-- the body reads x from the map: up to its first read outside, or, if it does not read within the map, as all that it mentions
abbrev pub ReadsFrom : Design → PartialMap → Stmt → Thing → Type 0
ReadsFrom d K b x = VisitsFrom d K b (reads x false) ⊎ ((ReadsWithin d K b → ⊥) × (body_mentions (owner x) b ≡ true) × IsThing d x)
