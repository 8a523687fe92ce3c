-- The mesh of an accepted job is sound and on its grid, and its rounds keep its geometry; so does the mesh whose text a run that is done has stored.
use Rattle.std.proofs.Common.{◌≡◌, ℕ, ◌+◌, ◌-◌, ◌≤◌, true, false, cond, List, length, Some, None, refl, sym, ap, subst, arith}
use Rattle.std.specs.Prelude.{IfSome, Option, Result, Ok, Err, nat_le}
use Rattle.std.specs.FinMap.{get}
use Rattle.std.specs.List.{list_all}
use Rattle.std.proofs.lemmas.Bool.Decides.{nat_tests}
use Rattle.carrier.specs.Carried.{Carried}
use Rattle.ma_cells.specs.Meshes.{MarkedMesh}
use Rattle.ma_cells.specs.Tetrahedron.{Tetrahedron, tet_cmp}
use Rattle.ma_cells.specs.Ascending.{ascending_of}
use Rattle.ma_cells.specs.declared.batch.Batch.{Batch}
use Rattle.ma_io.specs.Files.{Files}
use Rattle.mesh_check.specs.Accepted.{accepted_of}
use Rattle.mesh_check.specs.declared.fault.MeshFault.{MeshFault}
use Rattle.msh_read.specs.GroupNames.{GroupName}
use Rattle.msh_read.specs.Raw.{Raw}
use Rattle.ma_cells.specs.Grid.{are_on_grid, grid_of, is_on_grid, marks_are_on_grid, mesh_is_on_grid}
use Rattle.mesh_check.proofs.GreatestGrid.{grid_is_greatest}
use Rattle.one_mesh.specs.Holding.{set_of}
use Rattle.mesh_laws.specs.Adapted.{IsSoundMesh}
use Rattle.one_mesh.proofs.Rounds.{rounds_adapt, rounds_halve_the_grid}
use Rattle.one_mesh.specs.Adaptation.{Plan}
use Rattle.mesh_check.proofs.Numbered.{then_ok}
use Rattle.meshadapt.specs.Acts.{Ending, Output, adapted_by}
use Rattle.meshadapt.specs.Geometry.{GeometryIsKept, KeepsGeometry, RoundsKeepGeometry, StoresKept}
use Rattle.meshadapt.specs.Outcome.{Leaves, LettersArrive, MayEnd, Seen, Stores}
use Rattle.meshadapt.specs.Verdict.{AcceptedMesh, Handout, Inputs, accepted_in, accepted_in_file, accepted_with, field_in, handout_for, inputs_with, labels_for, or_unaccepted, plan_of, raw_in_file, verdict, within_grid}
use Rattle.meshadapt.specs.Words.{Job}
use Rattle.meshadapt.proofs.Acting.{all-outputs, all_outputs}
use Rattle.meshadapt.proofs.SetMesh.{in_set, set_is_sound}
use Rattle.meshadapt.specs.declared.status.Refusal.TheVariants.{Rounds}
use Rattle.meshadapt.specs.declared.status.Status.{Status}
use Rattle.meshadapt.specs.declared.status.Status.TheVariants.{Done, Usage, ReadFault, WriteFault, Refused, TooMany, Memory, LinkFault, BadLetter, Starved}
use Rattle.mesh_check.specs.Laws.{IsFair}
use Rattle.mesh_check.proofs.Fair.{accepted_is_fair}

-- it is sound, and all places are on the grid
abbrev IsFine : AcceptedMesh → Type 0
IsFine accepted = IsSoundMesh (set_of accepted.mesh) × (mesh_is_on_grid accepted.grid (set_of accepted.mesh) ≡ true)

-- ---- the mesh of a file
on_grid : (k : ℕ) (mesh : MarkedMesh) → IsFair mesh → are_on_grid k mesh.tets ≡ true → mesh_is_on_grid k (set_of mesh) ≡ true
on_grid k mesh fair on =
    let tets : are_on_grid k (ascending_of tet_cmp mesh.tets) ≡ true = in_set (λ t. list_all (is_on_grid k) t.corners) mesh.tets on in
    let marks : marks_are_on_grid k mesh.marks ≡ true = fair.marks (is_on_grid k) on in
    rw (tets, marks) refl

on_its_grid : (tets : List Tetrahedron) → are_on_grid (grid_of tets) tets ≡ true
unfolding grid_of
on_its_grid tets = (grid_is_greatest tets).passes

set_is_fine : (names : List GroupName) (mesh : MarkedMesh) → IsFair mesh → IsFine (accepted_with names mesh)
set_is_fine names mesh fair = (
  set_is_sound mesh fair,
  on_grid (grid_of mesh.tets) mesh fair (on_its_grid mesh.tets),
)

ok_is : {A E : Type 0} {x y : A} → ◌≡◌ {A = Result A E} (Ok x) (Ok y) → x ≡ y
ok_is e = cc

accepted_fine : (names : List GroupName) (read : Result MarkedMesh MeshFault) (accepted : AcceptedMesh) → ((mesh : MarkedMesh) → read ≡ Ok mesh → IsFair mesh) → or_unaccepted names read ≡ Ok accepted → IsFine accepted
accepted_fine names (Ok mesh) accepted fair e = subst IsFine (ok_is e) (set_is_fine names mesh (fair mesh refl))
accepted_fine names (Err fault) accepted fair e = absurd cc

raw_fine : (raw : Raw) (accepted : AcceptedMesh) → accepted_in raw ≡ Ok accepted → IsFine accepted
raw_fine raw accepted e = accepted_fine raw.names (accepted_of raw 0) accepted (accepted_is_fair raw 0) e

-- ---- a job
within_is : (rounds : ℕ) (start inputs : Inputs) → within_grid rounds start ≡ Ok inputs → (start ≡ inputs) × (rounds ≤ start.grid)
within_is rounds start inputs e =
    elim (nat_le rounds start.grid) as (λ b. nat_le rounds start.grid ≡ b → cond b (Ok start) (Err (Rounds rounds start.grid)) ≡ Ok inputs → (start ≡ inputs) × (rounds ≤ start.grid)) [
      | true ↦ λ within e. (ok_is e, at_most rounds start.grid within)
      | false ↦ λ _ e. absurd cc
    ] refl e
  where
    at_most : (m n : ℕ) → nat_le m n ≡ true → m ≤ n
    at_most m n h = grind (arith, nat_tests)

-- the mesh of the inputs is fine, and there are no more rounds than its grid can be halved
abbrev IsReady : ℕ → Inputs → Type 0
IsReady rounds inputs = IsSoundMesh inputs.mesh × (mesh_is_on_grid inputs.grid inputs.mesh ≡ true) × (rounds ≤ inputs.grid)

found_fine : (files : Files) (job : Job) (inputs : Inputs) → verdict files job ≡ Ok inputs → IsReady job.rounds inputs
found_fine files job inputs e =
    let found = then_ok (accepted_in_file (get files job.mesh)) _ inputs e in
    let accepted : AcceptedMesh = found.0 in
    let raw = then_ok (raw_in_file (get files job.mesh)) accepted_in accepted found.1 in
    let labels = then_ok (labels_for job.division (length accepted.mesh.tets) files) _ inputs found.2 in
    let field = then_ok (field_in job.sizes files) _ inputs labels.2 in
    let handout = then_ok (handout_for accepted.mesh job.division labels.0 files) (λ handout. within_grid job.rounds (inputs_with accepted field.0 handout)) inputs field.2 in
    let within = within_is job.rounds (inputs_with accepted field.0 handout.0) inputs handout.2 in
    let fine = raw_fine raw.0 accepted raw.2 in
    subst (IsReady job.rounds) within.0 (fine.0, fine.1, within.1)

pub rounds_keep_geometry : RoundsKeepGeometry
rounds_keep_geometry files job inputs round e few =
    let mesh : Batch = inputs.mesh in
    let plan : Plan = plan_of job inputs in
    let found = found_fine files job inputs e in
    let left : (inputs.grid - round) + round ≡ inputs.grid = let most = found.2 in omega arith in
    record {
      sound = found.0;
      adapted = rounds_adapt round plan mesh found.0;
      grid = rounds_halve_the_grid (inputs.grid - round) round plan mesh (subst (λ k. mesh_is_on_grid k mesh ≡ true) (sym left) found.1);
    }

-- ---- a run
-- where all letters arrive, a run ends with the mesh after its rounds
ends_adapted : (job : Job) (inputs : Inputs) (handout : Option Handout) (s t : Carried) (ending : Ending) → MayEnd job inputs handout job.rounds s t ending → LettersArrive s handout → ending.meshes job.rounds ≡ adapted_by job inputs job.rounds
ends_adapted job inputs None s t ending ends arrive = ap (λ (e : Ending). e.meshes job.rounds) ends
ends_adapted job inputs (Some handout) s t ending ends arrive = (ends.4 arrive).meshes job.rounds (omega arith)

module _ (words : Option Job) (s t : Seen) (job : Job) (inputs : Inputs) (ending : Ending) (words_are : words ≡ Some job) (ends : MayEnd job inputs inputs.handout job.rounds s.carrier t.carrier ending) where
  stored_kept : (before : Option Files) → IfSome before (λ files. verdict files job ≡ Ok inputs) → Stores (all_outputs job inputs ending) before t.depot.files → IfSome before (λ files. StoresKept words files s t)
  stored_kept None verdict_is stored = tt
  stored_kept (Some files) verdict_is stored = record {
    job = job;
    inputs = inputs;
    new = ending.meshes job.rounds;
    words_are = words_are;
    verdict_is = verdict_is;
    views = ending.views;
    stored = stored;
    kept = λ arrive.
        let is : ending.meshes job.rounds ≡ adapted_by job inputs job.rounds = ends_adapted job inputs inputs.handout s.carrier t.carrier ending ends arrive in
        subst (λ (mesh : Batch). KeepsGeometry inputs job.rounds mesh) (sym is) (rounds_keep_geometry files job inputs job.rounds verdict_is (itself job.rounds));
  }
    where
      itself : (n : ℕ) → n ≤ n
      itself n = omega arith

pub geometry_is_kept : (status : Status) (words : Option Job) (s t : Seen) → Leaves status words s t → GeometryIsKept status words s t
geometry_is_kept Done words s t h =
    stored_kept words s t h.job h.inputs h.ending h.words_are h.ends s.depot.files h.verdict
    (subst (λ (outs : List Output). Stores outs s.depot.files t.depot.files) (all-outputs h.job h.inputs h.ending) h.files)
geometry_is_kept Usage words s t h = tt
geometry_is_kept ReadFault words s t h = tt
geometry_is_kept WriteFault words s t h = tt
geometry_is_kept (Refused refusal) words s t h = tt
geometry_is_kept (TooMany round stage count) words s t h = tt
geometry_is_kept Memory words s t h = tt
geometry_is_kept LinkFault words s t h = tt
geometry_is_kept (BadLetter bytes) words s t h = tt
geometry_is_kept (Starved part phase) words s t h = tt
