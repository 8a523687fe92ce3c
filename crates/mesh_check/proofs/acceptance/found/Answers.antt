use Rattle.std.proofs.Common.{ap, sym, ◌∙◌}
use Rattle.overlap_check.specs.Overlap.{first_overlap_of}
use Rattle.msh_read.specs.Raw.{raw}
use Rattle.ma_cover.specs.Sound.{IsSound}
use Rattle.mesh_check.specs.Accepted.{IsAcceptedMesh, apart}
use Rattle.mesh_check.proofs.Apart.{none_overlaps}
use Rattle.mesh_check.proofs.Sound.{mesh_is_accepted, mesh_is_sound, whole_mesh}
use Rattle.mesh_check.proofs.Whole.{found-is}
use Rattle.mesh_check.proofs.acceptance.found.Goals as goal

pub returns-clause-value : goal.returns-clause-value
returns-clause-value c =
    found-is (raw c.args.mesh.now) c.args.shift c.in_ok-tets.tets.items c.as_slice-2.result.now _ _ c.new.result
    c.in_ok-tets.ensures.value (ap apart (sym c.as_slice.ensures.value) ∙ c.in_ok-apart.ensures) c.as_slice-2.ensures.value c.in_ok-marks.ensures.marks c.in_ok-marks.ensures.loose c.new.ensures

pub returns-clause-sound : goal.returns-clause-sound
returns-clause-sound c =
    let none = ap first_overlap_of (sym c.as_slice.ensures.value) ∙ none_overlaps (first_overlap_of c.as_slice.result.now) c.in_ok-apart.ensures in
    whole_mesh IsSound (raw c.args.mesh.now) c.args.shift c.in_ok-tets.tets.items c.as_slice-2.result.now _ _ c.new.result c.as_slice-2.ensures.value c.in_ok-marks.ensures.marks c.new.ensures
    (mesh_is_sound (raw c.args.mesh.now) c.args.shift c.in_ok-tets.tets.items c.in_ok-tets.ensures.not_flat none)

pub returns-clause-accepted : goal.returns-clause-accepted
returns-clause-accepted c =
    let none = ap first_overlap_of (sym c.as_slice.ensures.value) ∙ none_overlaps (first_overlap_of c.as_slice.result.now) c.in_ok-apart.ensures in
    whole_mesh IsAcceptedMesh (raw c.args.mesh.now) c.args.shift c.in_ok-tets.tets.items c.as_slice-2.result.now _ _ c.new.result c.as_slice-2.ensures.value c.in_ok-marks.ensures.marks c.new.ensures
    (mesh_is_accepted (raw c.args.mesh.now) c.args.shift c.in_ok-tets.tets.items c.in_ok-tets.ensures.not_flat none)
