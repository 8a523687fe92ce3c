-- When bisections leave pieces with as many corners as the cell has. A step of the code, and no promise.
use Rattle.std.specs.Prelude.{Bool, true, ◌&&◌, ◌==◌, length, List, [], ◌∷◌}
use Rattle.std.specs.List.{list_all}
use Rattle.ma_geom.specs.Coordinates.{Coordinates}
use Rattle.split_templates.specs.Pieces.{halves}

-- whether the cell's halves at the first edge have as many corners as it has, and so on at the others
abbrev pub keeps_corners : List (List Coordinates) → List Coordinates → Bool
keeps_corners [] corners = true
keeps_corners (edge ∷ edges) corners = list_all (λ half. (length half == length corners) && keeps_corners edges half) (halves edge corners)
