-- The pieces of a mark by the kind of its cell.
use Rattle.std.proofs.Common.{◌≡◌, false, List, [], ◌∷◌, refl, ap}
use Rattle.std.specs.Prelude.{map}
use Rattle.ma_geom.specs.Coordinates.{Coordinates}
use Rattle.ma_cells.specs.Cells.{CellMark}
use Rattle.ma_cells.specs.declared.cell.Cell.TheVariants.{Seg, Tri}
use Rattle.size_marks.specs.Field.{Field}
use Rattle.split_templates.specs.Pieces.{is_straight, pieces_of}
use Rattle.refinement.specs.Refinement.{long_edges, refined_mark}

maps : {X Y Z : Type 0} (g : Y → Z) (f : X → Y) (xs : List X) → map (λ x. g (f x)) xs ≡ map g (map f xs)
maps g f [] = refl
maps g f (x ∷ xs) = ap (λ zs. g (f x) ∷ zs) (maps g f xs)

pub segments_are : (field : Field) (mark : CellMark) (s : List Coordinates) → mark.cell ≡ Seg s
    → map (λ half. record mark { cell = Seg half }) (pieces_of (long_edges field s) s) ≡ refined_mark field mark
segments_are field mark s cell =
    rw cell (maps (λ c. record mark { cell = c }) Seg (pieces_of (long_edges field s) s))

pub triangles_are : (field : Field) (mark : CellMark) (t : List Coordinates) → mark.cell ≡ Tri t → is_straight t ≡ false
    → map (λ part. record mark { cell = Tri part }) (pieces_of (long_edges field t) t) ≡ refined_mark field mark
triangles_are field mark t cell bent =
    rw (cell, bent) (maps (λ c. record mark { cell = c }) Tri (pieces_of (long_edges field t) t))
