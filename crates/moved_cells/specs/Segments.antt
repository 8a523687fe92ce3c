-- Segments through a vertex a that is moved to v.
use Rattle.std.specs.Prelude.{◌≡◌, ◌⊎◌, ◌↔◌, true, List, []}
use Rattle.std.specs.List.{flat_map}
use Rattle.std.specs.Option.{option_to_list}
use Rattle.ma_geom.specs.Coordinates.{Coordinates}
use Rattle.ma_geom.specs.Rational.{Rational}
use Rattle.ma_cover.specs.Classification.{AnyByRecursion, IsOnCell}
use Rattle.cavity_collapse.specs.Curves.{end_across, run_straight}
use Rattle.moved_cells.specs.Cells.{AreCells, moved_cells}

-- the other ends of the segments at a
abbrev pub ends_of : Coordinates → List (List Coordinates) → List Coordinates
ends_of a segments = flat_map (λ s. option_to_list (end_across a s)) segments

-- that there are no segments at a, or they run straight through it to v
abbrev pub AreStraight : (a v : Coordinates) → List Coordinates → Type 0
AreStraight a v ends = (ends ≡ []) ⊎ (run_straight a v ends ≡ true)

-- then each point is on one of the segments just if it is on one once a is at v
abbrev pub SegmentsKeepPoints : Type 0
SegmentsKeepPoints = (a v : Coordinates) (segments : List (List Coordinates)) → AreCells 2 segments → AreStraight a v (ends_of a segments)
    → (p : Rational) → AnyByRecursion (IsOnCell p) segments ↔ AnyByRecursion (IsOnCell p) (moved_cells a v segments)
