-- The line points of a process.
use Rattle.std.specs.Prelude.{List, map}
use Rattle.design_model.specs.Numbered.{LineAt}
use Rattle.text_points.specs.declared.points.LinePoint.{LinePoint}
use Rattle.text_points.specs.declared.points.Owner.{Owner}

-- a line point in a text, of a process
abbrev pub line_with : Owner → LineAt → LinePoint
line_with o a = record { instance = o.instance; line = a.line; process = o.process; place = a.place; word = a.of_word }

-- line points in a text, of a process
abbrev pub lines_with : Owner → List LineAt → List LinePoint
lines_with o xs = map (line_with o) xs
