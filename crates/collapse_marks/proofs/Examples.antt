-- Premises of the laws that are met: the middle of an edge goes to an end of it, with two marked segments and the marked faces of both tetrahedra.
use Rattle.std.proofs.Common.{◌≡◌, List, [], ◌∷◌, refl}
use Rattle.std.specs.Prelude.{ℤ, pos}
use Rattle.ma_geom.specs.Coordinates.{Coordinates}
use Rattle.ma_geom.specs.Lengths.{len2}
use Rattle.ma_geom.specs.Lines.{normal}
use Rattle.ma_geom.specs.Quality.{longest2, quality_of, root}
use Rattle.ma_geom.specs.Volume.{vol6}
use Rattle.ma_cells.specs.Cells.{CellMark}
use Rattle.ma_cells.specs.Stars.{marks_at, star_of}
use Rattle.ma_cells.specs.Worst.{worst}
use Rattle.ma_cells.specs.declared.batch.Batch.{Batch}
use Rattle.ma_cells.specs.declared.cell.Cell.TheVariants.{Seg, Tri}
use Rattle.ma_cover.specs.Classification.{KeepsClassification}
use Rattle.mesh_laws.specs.Adapted.{IsSoundMesh}
use Rattle.mesh_laws.proofs.Examples.{half_marks, halves, halves_are_sound, halves_tetrahedra}
use Rattle.size_marks.specs.Field.{Field, is_long, is_short}
use Rattle.cavity_rank.specs.declared.verdict.Verdict.TheVariants.{Legal}
use Rattle.cavity_collapse.specs.Collapsing.{moved_marks}
use Rattle.cavity_collapse.specs.Judging.{judged_collapse}
use Rattle.collapse_marks.specs.Marks.{MarksAllow}
use Rattle.collapse_marks.proofs.Legal.{legal_collapse_keeps_classification}
use Rattle.collapse_marks.proofs.At.{moved_marks_keep_classification}

abbrev at : ℤ → ℤ → ℤ → Coordinates
at x y z = record { x = x; y = y; z = z }

abbrev o : Coordinates
o = at (pos 0) (pos 0) (pos 0)

abbrev z : Coordinates
z = at (pos 0) (pos 0) (pos 2)

abbrev y : Coordinates
y = at (pos 0) (pos 2) (pos 0)

abbrev m : Coordinates
m = at (pos 1) (pos 0) (pos 0)

abbrev x : Coordinates
x = at (pos 2) (pos 0) (pos 0)

abbrev segment : List Coordinates → CellMark
segment s = record { cell = Seg s; phys = pos 7; elem = pos 7 }

abbrev face : List Coordinates → CellMark
face t = record { cell = Tri t; phys = pos 2; elem = pos 7 }

-- ---- the marks alone
abbrev marks : List CellMark
marks = segment (o ∷ m ∷ []) ∷ segment (m ∷ x ∷ []) ∷ half_marks

marks_allow : MarksAllow m o (marks_at (m ∷ []) marks)
unfolding normal vol6
marks_allow = record { distinct = refl; bent = refl; points = refl; curves = refl; planes = refl; surfaces = refl; turns = refl }

kept : KeepsClassification marks (moved_marks m o marks)
unfolding normal
kept = moved_marks_keep_classification m o marks refl marks_allow

-- the segments are one, and so are the halves of two faces
left : moved_marks m o marks ≡ segment (o ∷ x ∷ []) ∷ face (o ∷ z ∷ y ∷ []) ∷ face (o ∷ z ∷ x ∷ []) ∷ face (o ∷ y ∷ x ∷ []) ∷ face (z ∷ y ∷ x ∷ []) ∷ []
left = refl

-- ---- a sound mesh
abbrev mesh : Batch
mesh = record { tets = halves; marks = half_marks }

sound : IsSoundMesh mesh
sound = record { tetrahedra = halves_tetrahedra; cells = refl; sound = halves_are_sound }

abbrev field : Field
field = record { default = 64; boxes = [] }

legal : judged_collapse field (star_of (m ∷ []) mesh.tets) (marks_at (m ∷ []) mesh.marks) m o ≡ Legal 536870912
unfolding worst quality_of root longest2 vol6 len2 normal is_long is_short
legal = refl

mesh_kept : KeepsClassification mesh.marks (moved_marks m o mesh.marks)
mesh_kept = legal_collapse_keeps_classification field mesh m o 536870912 sound refl legal
