-- Stages that keep a mesh compose.
use Rattle.std.proofs.Common.{refl}
use Rattle.ma_cells.specs.declared.batch.Batch.{Batch}
use Rattle.mesh_laws.specs.Adapted.{AdaptedComposes, IsSoundMesh, SoundIsAdapted}
use Rattle.mesh_laws.specs.Points.{NoneIsFlat}
use Rattle.mesh_laws.proofs.Examples.{marks, whole, whole_is_sound, whole_tetrahedra}
use Rattle.mesh_laws.proofs.MovedOff.{same_cover_is_handed_on}
use Rattle.mesh_laws.proofs.Sounds.{tetrahedra_not_flat}

pub sound_not_flat : (mesh : Batch) → IsSoundMesh mesh → NoneIsFlat mesh.tets
sound_not_flat mesh is = tetrahedra_not_flat mesh.tets is.tetrahedra

pub sound_is_adapted : SoundIsAdapted
sound_is_adapted mesh is = record { sound = is; cover = λ phys elem p _ _. refl; classification = λ d phys elem p _. ((λ h. h), (λ h. h)) }

pub adapted_composes : AdaptedComposes
adapted_composes l m n is first second = record {
  sound = second.sound;
  cover = same_cover_is_handed_on l.tets m.tets n.tets (sound_not_flat l is) (sound_not_flat m first.sound) (sound_not_flat n second.sound) first.cover second.cover;
  classification = λ d phys elem p point.
      let one = first.classification d phys elem p point in
      let two = second.classification d phys elem p point in
      ((λ h. two.0 (one.0 h)), (λ h. one.1 (two.1 h)));
}

-- a tetrahedron with marked faces is a sound mesh
pub whole_is_sound_mesh : IsSoundMesh (record { tets = whole; marks = marks })
whole_is_sound_mesh = record { tetrahedra = whole_tetrahedra; cells = refl; sound = whole_is_sound }
