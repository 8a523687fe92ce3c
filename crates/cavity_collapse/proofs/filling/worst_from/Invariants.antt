use Rattle.std.proofs.Common.{◌≡◌, ◌∷◌, drop, map}
use Rattle.ma_geom.specs.Quality.{quality}
use Rattle.ma_cells.specs.Worst.{least}
use Rattle.cavity_collapse.proofs.filling.worst_from.Given as goal

-- the least so far, and those of the rest
abbrev pub invariant-loop-tet : goal.invariant-loop-tet
invariant-loop-tet l =
    least (l.worst ∷ map (λ tet. quality tet.corners) (drop l.tet-index l.tets)) ≡ least (l.first ∷ map (λ tet. quality tet.corners) l.tets)
