-- What a mesh that was fetched has, and what labels that were fetched have.
use Rattle.std.proofs.Common.{◌≡◌, ℕ, ◌<◌, ◌≤◌, true, false, cond, not, List, [], ◌∷◌, ◌++◌, length, Some, None, refl, subst, sym, ap, ◌∙◌, arith}
use Rattle.std.specs.Prelude.{◌==◌, Option, Result, Ok, Err, nat_lt, ℤ, pos, negsuc}
use Rattle.std.specs.Cmp.Lexicographic.{slice_cmp}
use Rattle.std.specs.List.{AllByRecursion, filter_map, find, list_all}
use Rattle.std.specs.List.Sorted.{IsStrictlySortedBy}
use Rattle.std.proofs.lemmas.Bool.Decides.{nat_tests}
use Rattle.std.proofs.lemmas.List.{length-map}
use Rattle.std.proofs.lemmas.List.Elements.{All-from_recursion}
use Rattle.ma_text.specs.Lines.{numbered_lines}
use Rattle.ma_text.specs.Numbers.{written}
use Rattle.ma_text.specs.Words.{words_of}
use Rattle.msh_read.specs.Lines.{one_of}
use Rattle.msh_read.specs.Raw.{Raw}
use Rattle.msh_read.specs.Trying.{◌>>◌, check, each}
use Rattle.job_files.specs.Answer.{or_bad_line}
use Rattle.job_files.specs.Partition.{labels_of, part_of, part_written}
use Rattle.job_files.specs.declared.fault.JobFault.{JobFault}
use Rattle.job_files.specs.declared.fault.JobFault.TheVariants.{PartTooBig, WrongCount}
use Rattle.ma_geom.specs.Coordinates.{place_cmp}
use Rattle.ma_cells.specs.Grid.{grid_of, is_on_grid}
use Rattle.ma_cells.specs.Meshes.{MarkedMesh, corner_sets}
use Rattle.ma_cells.specs.Cells.{mark_cmp}
use Rattle.ma_cells.specs.Incidence.{is_on}
use Rattle.ma_cells.specs.Tetrahedron.{Tetrahedron, is_flat}
use Rattle.ma_cells.proofs.Ascents.{sorted-ascending_of}
use Rattle.ma_cells.proofs.CellOrders.{mark_cmp_total}
use Rattle.mesh_check.specs.Accepted.{accepted_of, apart, corner_places, mesh_at, most_accepted_tets, no_item, no_pair, tetrahedra_at, tetrahedron_at}
use Rattle.mesh_check.specs.Laws.{IsFair}
use Rattle.mesh_check.specs.Marks.{outer_marks}
use Rattle.mesh_check.specs.Pairs.{first_pair, numbered_from}
use Rattle.mesh_check.specs.Places.{is_in_range}
use Rattle.mesh_check.specs.declared.fault.MeshFault.{MeshFault}
use Rattle.mesh_check.specs.declared.fault.MeshFault.TheVariants.{NoTets, TooManyTets, TooFar, SamePlace, Flat, Repeated}
use Rattle.mesh_check.specs.steps.FoundMarks.{found_loose, found_marks, found_of, kept_mark}
use Rattle.mesh_check.specs.steps.Tetrahedra.{found_tets}
use Rattle.mesh_check.proofs.Bridge.{found-accepted}
use Rattle.mesh_check.proofs.Fair.{accepted_is_fair}
use Rattle.mesh_check.proofs.GreatestGrid.{grid_is_greatest}
use Rattle.mesh_check.proofs.MarksOn.{marks_on_cells}
use Rattle.mesh_check.proofs.Numbered.{then_ok}
use Rattle.meshadapt.specs.steps.Fetching.{AreLabels, IsRunnable}
use Rattle.meshadapt.proofs.SetMesh.{set_is_as_many, set_is_sound}

ok_is : {A E : Type 0} {x y : A} → ◌≡◌ {A = Result A E} (Ok x) (Ok y) → x ≡ y
ok_is e = cc

lt_of : (m n : ℕ) → nat_lt m n ≡ true → m < n
lt_of m n h = grind (arith, nat_tests)

-- ---- the parts that a partition file tells
part_below : (parts line : ℕ) (number : Option ℤ) (label : ℕ) → part_written parts line number ≡ Ok label → label < parts
part_below parts line None label e = absurd cc
part_below parts line (Some (pos n)) label e =
    elim (nat_lt n parts) as (λ b. nat_lt n parts ≡ b → ◌≡◌ {A = Result ℕ JobFault} (cond b (Ok n) (Err (PartTooBig line))) (Ok label) → label < parts) [
      | true ↦ λ below e. subst (λ k. k < parts) (ok_is e) (lt_of n parts below)
      | false ↦ λ _ e. absurd cc
    ] refl e
part_below parts line (Some (negsuc n)) label e = absurd cc

line_below : (parts : ℕ) (line : ℕ × List ℕ) (label : ℕ) → part_of parts line ≡ Ok label → label < parts
unfolding part_of
line_below parts line label e =
    let word = then_ok (or_bad_line line.0 (one_of (words_of line.1))) (λ word. part_written parts line.0 (written word)) label e in
    part_below parts line.0 (written word.0) label word.2

all_below : (parts : ℕ) (lines : List (ℕ × List ℕ)) (labels : List ℕ) → each (part_of parts) lines ≡ Ok labels → AllByRecursion (λ label. label < parts) labels
all_below parts lines [] e = tt
all_below parts [] (label ∷ labels) e = absurd cc
all_below parts (line ∷ lines) (label ∷ labels) e =
    let first = then_ok (part_of parts line) _ (label ∷ labels) e in
    let others = then_ok (each (part_of parts) lines) _ (label ∷ labels) first.2 in
    let here : first.0 ≡ label = cc (others.2) in
    let there : others.0 ≡ labels = cc (others.2) in
    (line_below parts line label (first.1 ∙ ap (λ n. Ok n) here), all_below parts lines labels (others.1 ∙ ap (λ ns. Ok ns) there))

counted : (tets : ℕ) (found labels : List ℕ) → ◌≡◌ {A = Result (List ℕ) JobFault} (cond (length found == tets) (Ok found) (Err (WrongCount (length found) tets))) (Ok labels) → (found ≡ labels) × (length found ≡ tets)
counted tets found labels e =
    elim (length found == tets) as (λ b. length found == tets ≡ b → ◌≡◌ {A = Result (List ℕ) JobFault} (cond b (Ok found) (Err (WrongCount (length found) tets))) (Ok labels) → (found ≡ labels) × (length found ≡ tets)) [
      | true ↦ λ as_many e. (ok_is e, equal (length found) tets as_many)
      | false ↦ λ _ e. absurd cc
    ] refl e
  where
    equal : (m n : ℕ) → (m == n) ≡ true → m ≡ n
    equal m n h = grind (arith, nat_tests)

-- there is one for each tetrahedron, and it is below the number of parts
pub labels_fit : (tets parts : ℕ) (bytes labels : List ℕ) → labels_of tets parts bytes ≡ Ok labels → AreLabels parts tets labels
unfolding labels_of
labels_fit tets parts bytes labels e =
    let read = then_ok (each (part_of parts) (numbered_lines bytes)) (λ found. cond (length found == tets) (Ok found) (Err (WrongCount (length found) tets))) labels e in
    let same = counted tets read.0 labels read.2 in
    let fit : AreLabels parts tets read.0 = record { each = same.1; below = All-from_recursion (λ label. label < parts) read.0 (all_below parts (numbered_lines bytes) read.0 read.1) } in
    subst (AreLabels parts tets) same.0 fit

-- ---- the mesh that is accepted
first_passed : {A E : Type 0} (test : Result (Unit {0}) E) (x : Result A E) (y : A) → (test >> x) ≡ Ok y → test ≡ Ok tt
first_passed (Ok t) x y e = refl
first_passed (Err fault) x y e = absurd cc

passed : {B E : Type 0} (first : Result (Unit {0}) E) (next : Result B E) (y : B) → (first >> next) ≡ Ok y → next ≡ Ok y
passed (Ok x) next y e = e
passed (Err fault) next y e = absurd cc

few_of : (most n : ℕ) (fault : MeshFault) → check fault (not (nat_lt most n)) ≡ Ok tt → n ≤ most
few_of most n fault e =
    elim (nat_lt most n) as (λ b. nat_lt most n ≡ b → check fault (not b) ≡ Ok tt → n ≤ most) [
      | true ↦ λ _ e. absurd cc
      | false ↦ λ few _. at_most n most few
    ] refl e
  where
    at_most : (n most : ℕ) → nat_lt most n ≡ false → n ≤ most
    at_most n most h = grind (arith, nat_tests)

few_tets : (raw : Raw) (mesh : MarkedMesh) → accepted_of raw 0 ≡ Ok mesh → length mesh.tets ≤ most_accepted_tets
unfolding accepted_of
few_tets raw mesh e =
    let n : ℕ = length raw.tets in
    let few : Result (Unit {0}) MeshFault = check (TooManyTets n) (not (nat_lt most_accepted_tets n)) in
    let last : Result MarkedMesh MeshFault = apart (tetrahedra_at raw 0) >> Ok (mesh_at raw 0) in
    let twice : Result (Unit {0}) MeshFault = no_pair Repeated (first_pair (slice_cmp place_cmp) (numbered_from 1 (corner_sets (tetrahedra_at raw 0)))) in
    let flat : Result (Unit {0}) MeshFault = no_item Flat (find (λ tetrahedron. is_flat tetrahedron.0.corners) (numbered_from 1 (tetrahedra_at raw 0))) in
    let same : Result (Unit {0}) MeshFault = no_pair SamePlace (first_pair place_cmp (corner_places raw 0)) in
    let far : Result (Unit {0}) MeshFault = no_item TooFar (find (λ corner. not (is_in_range corner.0)) (corner_places raw 0)) in
    let rest : Result MarkedMesh MeshFault = far >> (same >> (flat >> (twice >> last))) in
    let behind : (few >> rest) ≡ Ok mesh = passed (check NoTets (not (n == 0))) (few >> rest) mesh e in
    let at_last : last ≡ Ok mesh =
    passed twice last mesh (passed flat (twice >> last) mesh (passed same (flat >> (twice >> last)) mesh (passed far (same >> (flat >> (twice >> last))) mesh (passed few rest mesh behind))))
    in
    let is : mesh_at raw 0 ≡ mesh = ok_is (passed (apart (tetrahedra_at raw 0)) (Ok (mesh_at raw 0)) mesh at_last) in
    let counted : length (tetrahedra_at raw 0) ≤ most_accepted_tets =
    subst (λ k. k ≤ most_accepted_tets) (sym (length-map raw.tets (tetrahedron_at raw 0))) (few_of most_accepted_tets n (TooManyTets n) (first_passed few rest mesh behind))
    in
    subst (λ (m : MarkedMesh). length m.tets ≤ most_accepted_tets) is counted

abbrev AreSet : MarkedMesh → Type 0
AreSet mesh = IsStrictlySortedBy mark_cmp mesh.marks × (list_all (λ mark. is_on mesh.tets mark.cell) mesh.marks ≡ true)

found_rise : (raw : Raw) (tets : List Tetrahedron) → IsStrictlySortedBy mark_cmp (found_marks raw 0 tets)
found_rise raw tets = sorted-ascending_of mark_cmp_total (filter_map (kept_mark (is_on tets) raw.nodes 0) raw.marks ++ outer_marks tets)

marks_are_set : (raw : Raw) (mesh : MarkedMesh) → found_of raw 0 ≡ Ok mesh → AreSet mesh
unfolding found_of
marks_are_set raw mesh e =
    let marked : List Tetrahedron → MarkedMesh = λ tets. record { tets = tets; marks = found_marks raw 0 tets; loose = found_loose raw 0 tets } in
    let read = then_ok (found_tets raw 0) (λ tets. apart tets >> Ok (marked tets)) mesh e in
    subst AreSet (ok_is (passed (apart read.0) (Ok (marked read.0)) mesh read.2)) (found_rise raw read.0, marks_on_cells raw 0 read.0)

pub accepted_is_runnable : (raw : Raw) (mesh : MarkedMesh) → accepted_of raw 0 ≡ Ok mesh → IsRunnable mesh (grid_of mesh.tets)
unfolding grid_of
accepted_is_runnable raw mesh e =
    let fair : IsFair mesh = accepted_is_fair raw 0 mesh e in
    let greatest = grid_is_greatest mesh.tets in
    let set = marks_are_set raw mesh (found-accepted raw 0 ∙ e) in
    record {
      coarsest = greatest.within;
      tets = greatest.passes;
      marks = fair.marks (is_on_grid (grid_of mesh.tets)) greatest.passes;
      few = few_tets raw mesh e;
      rise = set.0;
      cells = fair.cells;
      on_cells = set.1;
      sound = set_is_sound mesh fair;
      once = set_is_as_many mesh fair;
    }
