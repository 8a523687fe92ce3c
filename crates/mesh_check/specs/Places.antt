-- Nodes of tetrahedra, and their places after a shift.
use Rattle.std.specs.Prelude.{ℕ, ◌^◌, nat_le, Bool, ◌&&◌, ℤ, pos, ◌*ℤ◌, unsigned_abs, List}
use Rattle.std.specs.List.{flat_map}
use Rattle.std.specs.Ordering.{nat_cmp}
use Rattle.ma_geom.specs.Coordinates.{Coordinates, limit}
use Rattle.ma_cells.specs.Ascending.{ascending_of}
use Rattle.msh_read.specs.declared.raw.RawTet.{RawTet}

-- each coordinate times 2^shift
abbrev pub shifted : ℕ → Coordinates → Coordinates
shifted shift p = record { x = p.x *ℤ pos (2 ^ shift); y = p.y *ℤ pos (2 ^ shift); z = p.z *ℤ pos (2 ^ shift) }

abbrev pub is_near : ℤ → Bool
is_near c = nat_le (unsigned_abs c) limit

-- whether a place may have these coordinates
abbrev pub is_in_range : Coordinates → Bool
is_in_range p = is_near p.x && is_near p.y && is_near p.z

-- the nodes of tetrahedra, by their positions, each once and in order
abbrev pub corner_positions : List RawTet → List ℕ
corner_positions tets = ascending_of nat_cmp (flat_map (λ tet. tet.at) tets)
