-- Cells, which hold the values of a design, and lists of writes to them.
use Rattle.std.specs.Prelude.{◌≡◌, ◌≢◌, ◌⊎◌, ◌+◌, ℕ, Bool, ◌&&◌, ◌==◌, if◌then◌else◌, List, [], ◌∷◌, ◌++◌}

-- a bit of a thing, at its place; a thing is a signal or a memory
pub record Cell : Type 0 where
  pub thing : ℕ
  pub place : ℕ

-- whether two cells are the same
abbrev pub same_cell : Cell → Cell → Bool
same_cell c d = (c.thing == d.thing) && (c.place == d.place)

-- a value for each cell
abbrev pub Values : Type 0 → Type 0
Values V = Cell → V

-- a cell with the value that it is to have
pub record Write (V : Type 0) : Type 0 where
  pub cell : Cell
  pub value : V

-- what one nonblocking assignment writes at once: the cells of its target (IEEE 1364-2001, 5.3, 9.2.2)
abbrev pub Update : Type 0 → Type 0
Update V = List (Write V)

-- the values after a write
unfoldable pub put : {V : Type 0} → Values V → Write V → Values V
put v w c = if same_cell w.cell c then w.value else v c

-- the values after these writes, in order
abbrev pub put_all : {V : Type 0} → Values V → List (Write V) → Values V
put_all v [] = v
put_all v (w ∷ ws) = put_all (put v w) ws

-- some write of the list is to the cell
abbrev pub WritesCell : {V : Type 0} → List (Write V) → Cell → Type 0
WritesCell [] c = ⊥
WritesCell (w ∷ ws) c = (w.cell ≡ c) ⊎ WritesCell ws c

-- some update of the list writes the cell
abbrev pub UpdatesCell : {V : Type 0} → List (Update V) → Cell → Type 0
UpdatesCell [] c = ⊥
UpdatesCell (u ∷ us) c = WritesCell u c ⊎ UpdatesCell us c

-- some write of the list, in order from v, changes the cell
abbrev pub Changes : {V : Type 0} → Values V → List (Write V) → Cell → Type 0
Changes v [] c = ⊥
Changes v (w ∷ ws) c = ((w.cell ≡ c) × (v c ≢ w.value)) ⊎ Changes (put v w) ws c

-- the writes of all updates, in order
abbrev pub join : {V : Type 0} → List (Update V) → List (Write V)
join [] = []
join (u ∷ us) = u ++ join us

-- how many writes are to the cell
abbrev pub times : {V : Type 0} → Cell → List (Write V) → ℕ
times c [] = 0
times c (w ∷ ws) = (if same_cell w.cell c then 1 else 0) + times c ws
