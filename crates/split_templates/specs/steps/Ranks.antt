-- Edges as the code keeps them, so that their derived order is that of edges. A step of the code, and no promise.
use Rattle.std.specs.Prelude.{neg_ℤ, List}
use Rattle.ma_geom.specs.Coordinates.{Coordinates}
use Rattle.split_templates.specs.Edges.{edge_len2}
use Rattle.split_templates.specs.declared.edges.Edge.{Edge}

abbrev pub ranked : List Coordinates → Edge
ranked ends = record { rank = neg_ℤ (edge_len2 ends); ends = ends }
