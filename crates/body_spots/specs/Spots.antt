-- The spots of a term, and those of the terms in it.
use Rattle.std.specs.Prelude.{List, [], ◌∷◌, ◌++◌, map}
use Rattle.design_model.specs.Design.{Design, memory_at}
use Rattle.design_model.specs.Tree.{Term, binary, bit, choice, concat, number, part, repeat, sign, signal, slide, unary, word}
use Rattle.point_words.specs.declared.node_case.NodeCase.{NodeCase}
use Rattle.point_words.specs.declared.node_case.NodeCase.TheVariants.{ValueFalse, ValueTrue}
use Rattle.value_store.specs.body_replay.Contract.{term_spots, terms_spots, two_spots}
use Rattle.value_store.specs.body_replay.Replay.{Spot, word_read}
use Rattle.value_store.specs.body_replay.Store.{words}

-- the cases that the node of a term can have
abbrev pub own_cases : Term → List NodeCase
own_cases (binary h op t u) = two_spots op
own_cases _ = ValueFalse ∷ ValueTrue ∷ []

-- the spots of a term except the cases of its own node
abbrev pub inner_spots : Design → Term → List Spot
inner_spots d (number h n) = []
inner_spots d (signal h s) = []
inner_spots d (word h m i) = term_spots d i ++ map (word_read m) (words (memory_at d m))
inner_spots d (bit h t i) = term_spots d i ++ term_spots d t
inner_spots d (part h t i j) = term_spots d i ++ term_spots d j ++ term_spots d t
inner_spots d (slide h t x w up) = term_spots d x ++ term_spots d w ++ term_spots d t
inner_spots d (unary h op t) = term_spots d t
inner_spots d (binary h op t u) = term_spots d t ++ term_spots d u
inner_spots d (choice h c t u) = term_spots d c ++ term_spots d t ++ term_spots d u
inner_spots d (concat h ts) = terms_spots d ts
inner_spots d (repeat h n ts) = term_spots d n ++ terms_spots d ts
inner_spots d (sign h s t) = term_spots d t
