-- What each stage of an adaptation keeps.
use Rattle.std.specs.Prelude.{◌≡◌, true}
use Rattle.std.specs.List.{list_all}
use Rattle.ma_cells.specs.Cells.{is_cell}
use Rattle.ma_cells.specs.Tetrahedron.{are_tetrahedra}
use Rattle.ma_cells.specs.declared.batch.Batch.{Batch}
use Rattle.ma_cover.specs.Classification.{KeepsClassification}
use Rattle.ma_cover.specs.Sound.{IsSound}
use Rattle.mesh_laws.specs.Covers.{CoverTheSame}

-- that a mesh is made of tetrahedra, none of them flat, and of marks on cells, and is sound
pub record IsSoundMesh (mesh : Batch) : Type 0 where
  pub tetrahedra : are_tetrahedra mesh.tets ≡ true
  pub cells : list_all (λ mark. is_cell mark.cell) mesh.marks ≡ true
  pub sound : IsSound mesh.tets mesh.marks

-- that a mesh n made of a mesh m is sound, covers the same as m, region by region, off the closed faces of both, and keeps the classification
pub record IsAdapted (m n : Batch) : Type 0 where
  pub sound : IsSoundMesh n
  pub cover : CoverTheSame m.tets n.tets
  pub classification : KeepsClassification m.marks n.marks

-- a sound mesh is adapted as it is
abbrev pub SoundIsAdapted : Type 0
SoundIsAdapted = (mesh : Batch) → IsSoundMesh mesh → IsAdapted mesh mesh

-- what is made of a sound mesh in one stage after another is adapted, whatever faces the meshes between have
abbrev pub AdaptedComposes : Type 0
AdaptedComposes = (l m n : Batch) → IsSoundMesh l → IsAdapted l m → IsAdapted m n → IsAdapted l n
