-- What the steps of acceptance find is what a raw mesh is accepted as.
use Rattle.std.proofs.Common.{◌≡◌, ℕ, ◌+◌, true, false, cond, not, List, [], ◌∷◌, Option, Some, None, refl, ap, ◌∙◌}
use Rattle.std.specs.Prelude.{map, count_by, ◌++◌, ◌==◌, length, nat_lt, Result, Ok, Err}
use Rattle.std.specs.Cmp.Lexicographic.{slice_cmp}
use Rattle.std.specs.List.{AllByRecursion, filter_map, find}
use Rattle.std.specs.Option.{is_none, option_and_then}
use Rattle.ma_geom.specs.Coordinates.{Coordinates, place_cmp}
use Rattle.ma_cells.specs.Ascending.{ascending_of}
use Rattle.ma_cells.specs.Cells.{CellMark, mark_cmp}
use Rattle.ma_cells.specs.Meshes.{MarkedMesh, corner_sets}
use Rattle.ma_cells.specs.Tetrahedron.{Tetrahedron, is_flat, tetrahedron_of}
use Rattle.msh_read.specs.declared.raw.RawMark.{RawMark}
use Rattle.msh_read.specs.declared.raw.RawTet.{RawTet}
use Rattle.msh_read.specs.Raw.{Raw}
use Rattle.msh_read.specs.Trying.{◌>>=◌, ◌>>◌, check, each, or_fault}
use Rattle.mesh_check.specs.declared.fault.MeshFault.{MeshFault}
use Rattle.mesh_check.specs.declared.fault.MeshFault.TheVariants.{NoTets, TooManyTets, TooFar, SamePlace, Flat, Repeated}
use Rattle.mesh_check.specs.Accepted.{accepted_of, apart, corner_places, mesh_at, most_accepted_tets, no_item, no_pair, place_at, tetrahedron_at, tetrahedra_at}
use Rattle.mesh_check.specs.steps.FoundMarks.{found_loose, found_marks, found_of}
use Rattle.mesh_check.specs.Marks.{outer_marks}
use Rattle.mesh_check.specs.Pairs.{first_pair, numbered_from}
use Rattle.mesh_check.specs.Places.{corner_positions, is_in_range}
use Rattle.mesh_check.specs.steps.ShiftedPlaces.{numbered_place, place_of}
use Rattle.mesh_check.specs.steps.Tetrahedra.{counted, numbered_tet, placed, found_tet, distinct_tets, found_tets}
use Rattle.mesh_check.proofs.InRange.{TetIn, mark-is, places-in, tets-in}

-- a test before a step
then_bind : {A B E : Type 0} (test : Result (Unit {0}) E) (x : Result A E) (f : A → Result B E) → ((test >> x) >>= f) ≡ (test >> (x >>= f))
then_bind (Ok t) x f = refl
then_bind (Err e) x f = refl

then_then : {B E : Type 0} (a b : Result (Unit {0}) E) (x : Result B E) → ((a >> b) >> x) ≡ (a >> (b >> x))
then_then (Ok t) b x = refl
then_then (Err e) b x = refl

-- the first node that is out of range, or all places
places-found : (raw : Raw) (shift : ℕ) (ps : List ℕ) → let places : List (Coordinates × ℕ) = map (λ at. (place_at raw shift at, at + 1)) ps in
    each (numbered_place raw.nodes shift) ps ≡ (no_item TooFar (find (λ corner. not (is_in_range corner.0)) places) >> Ok places)
unfolding numbered_place place_of
places-found raw shift [] = refl
places-found raw shift (p ∷ ps) =
    let place : Coordinates = place_at raw shift p in
    let places : List (Coordinates × ℕ) = map (λ at. (place_at raw shift at, at + 1)) ps in
    let far : Option (Coordinates × ℕ) = find (λ corner. not (is_in_range corner.0)) places in
    let rest : Result (List (Coordinates × ℕ)) MeshFault = each (numbered_place raw.nodes shift) ps in
    elim (is_in_range place) as (λ b.
    ((or_fault (TooFar (p + 1)) (cond b (Some place) None) >>= λ q. Ok (q, p + 1)) >>= λ first. rest >>= λ others. Ok (first ∷ others))
    ≡ (no_item TooFar (cond (not b) (Some (place, p + 1)) far) >> Ok ((place, p + 1) ∷ places))) [
      | true ↦ ap (λ r. r >>= λ others. Ok ((place, p + 1) ∷ others)) (places-found raw shift ps) ∙ then_bind (no_item TooFar far) (Ok places) (λ others. Ok ((place, p + 1) ∷ others))
      | false ↦ refl
    ]

placed-is : (raw : Raw) (shift : ℕ) → placed raw shift ≡ (no_item TooFar (find (λ corner. not (is_in_range corner.0)) (corner_places raw shift)) >> no_pair SamePlace (first_pair place_cmp (corner_places raw shift)))
unfolding placed
placed-is raw shift =
    ap (λ r. r >>= λ corners. no_pair SamePlace (first_pair place_cmp corners)) (places-found raw shift (corner_positions raw.tets))
    ∙ then_bind (no_item TooFar (find (λ corner. not (is_in_range corner.0)) (corner_places raw shift))) (Ok (corner_places raw shift)) (λ corners. no_pair SamePlace (first_pair place_cmp corners))

-- a tetrahedron whose nodes are in range
tetrahedron-found : (raw : Raw) (shift : ℕ) (tet : RawTet) → TetIn raw shift tet → found_tet raw.nodes shift tet ≡ cond (is_flat (tetrahedron_at raw shift tet).corners) None (Some (tetrahedron_at raw shift tet))
unfolding found_tet
tetrahedron-found raw shift tet h = ap (option_and_then (λ corners. tetrahedron_of corners tet.phys tet.elem)) (places-in raw shift tet.at h)

-- the first that is flat, or all
tetrahedra-found : (raw : Raw) (shift n : ℕ) (tets : List RawTet) → AllByRecursion (TetIn raw shift) tets → let tetrahedra : List Tetrahedron = map (tetrahedron_at raw shift) tets in
    each (numbered_tet raw.nodes shift) (numbered_from n tets) ≡ (no_item Flat (find (λ tetrahedron. is_flat tetrahedron.0.corners) (numbered_from n tetrahedra)) >> Ok tetrahedra)
tetrahedra-found raw shift n [] h = refl
tetrahedra-found raw shift n (tet ∷ tets) h =
    let tetrahedron : Tetrahedron = tetrahedron_at raw shift tet in
    let tetrahedra : List Tetrahedron = map (tetrahedron_at raw shift) tets in
    let flat : Option (Tetrahedron × ℕ) = find (λ s. is_flat s.0.corners) (numbered_from (n + 1) tetrahedra) in
    let rest : Result (List Tetrahedron) MeshFault = each (numbered_tet raw.nodes shift) (numbered_from (n + 1) tets) in
    ap (λ found. or_fault (Flat n) found >>= λ first. rest >>= λ others. Ok (first ∷ others)) (tetrahedron-found raw shift tet h.0)
    ∙ elim (is_flat tetrahedron.corners) as (λ b.
    (or_fault (Flat n) (cond b None (Some tetrahedron)) >>= λ first. rest >>= λ others. Ok (first ∷ others)) ≡ (no_item Flat (cond b (Some (tetrahedron, n)) flat) >> Ok (tetrahedron ∷ tetrahedra))) [
      | true ↦ refl
      | false ↦ ap (λ r. r >>= λ others. Ok (tetrahedron ∷ others)) (tetrahedra-found raw shift (n + 1) tets h.1) ∙ then_bind (no_item Flat flat) (Ok tetrahedra) (λ others. Ok (tetrahedron ∷ others))
    ]

tetrahedra-is : (raw : Raw) (shift : ℕ) → AllByRecursion (TetIn raw shift) raw.tets → distinct_tets raw shift
    ≡ (no_item Flat (find (λ tetrahedron. is_flat tetrahedron.0.corners) (numbered_from 1 (tetrahedra_at raw shift))) >> (no_pair Repeated (first_pair (slice_cmp place_cmp) (numbered_from 1 (corner_sets (tetrahedra_at raw shift)))) >> Ok (tetrahedra_at raw shift)))
unfolding distinct_tets
tetrahedra-is raw shift h =
    let next : List Tetrahedron → Result (List Tetrahedron) MeshFault = λ tetrahedra. no_pair Repeated (first_pair (slice_cmp place_cmp) (numbered_from 1 (corner_sets tetrahedra))) >> Ok tetrahedra in
    ap (λ r. r >>= next) (tetrahedra-found raw shift 1 raw.tets h)
    ∙ then_bind (no_item Flat (find (λ tetrahedron. is_flat tetrahedron.0.corners) (numbered_from 1 (tetrahedra_at raw shift)))) (Ok (tetrahedra_at raw shift)) next

-- the mesh with the tetrahedra that are found
abbrev mesh_with : Raw → ℕ → List Tetrahedron → MarkedMesh
mesh_with raw shift tets = record { tets = tets; marks = found_marks raw shift tets; loose = found_loose raw shift tets }

mesh-is : (raw : Raw) (shift : ℕ) → AllByRecursion (TetIn raw shift) raw.tets → mesh_with raw shift (tetrahedra_at raw shift) ≡ mesh_at raw shift
mesh-is raw shift h =
    let whole : (RawMark → Option CellMark) → MarkedMesh = λ keep. record {
      tets = tetrahedra_at raw shift;
      marks = ascending_of mark_cmp (filter_map keep raw.marks ++ outer_marks (tetrahedra_at raw shift));
      loose = count_by (λ mark. is_none (keep mark)) raw.marks;
    } in
    λ i. whole (λ mark. mark-is raw shift h mark i)

-- the tests of a mesh behind the count, and the mesh
abbrev rest_of : Raw → ℕ → Result MarkedMesh MeshFault
rest_of raw shift =
    no_item TooFar (find (λ corner. not (is_in_range corner.0)) (corner_places raw shift))
    >> (no_pair SamePlace (first_pair place_cmp (corner_places raw shift))
    >> (no_item Flat (find (λ tetrahedron. is_flat tetrahedron.0.corners) (numbered_from 1 (tetrahedra_at raw shift)))
    >> (no_pair Repeated (first_pair (slice_cmp place_cmp) (numbered_from 1 (corner_sets (tetrahedra_at raw shift))))
    >> (apart (tetrahedra_at raw shift)
    >> Ok (mesh_at raw shift)))))

rest-is : (raw : Raw) (shift : ℕ) → ((placed raw shift >> distinct_tets raw shift) >>= λ tets. apart tets >> Ok (mesh_with raw shift tets)) ≡ rest_of raw shift
rest-is raw shift =
    let same : Result (Unit {0}) MeshFault = no_pair SamePlace (first_pair place_cmp (corner_places raw shift)) in
    let flat : Result (Unit {0}) MeshFault = no_item Flat (find (λ tetrahedron. is_flat tetrahedron.0.corners) (numbered_from 1 (tetrahedra_at raw shift))) in
    let twice : Result (Unit {0}) MeshFault = no_pair Repeated (first_pair (slice_cmp place_cmp) (numbered_from 1 (corner_sets (tetrahedra_at raw shift)))) in
    let next : List Tetrahedron → Result MarkedMesh MeshFault = λ tets. apart tets >> Ok (mesh_with raw shift tets) in
    ap (λ p. (p >> distinct_tets raw shift) >>= next) (placed-is raw shift)
    ∙ elim (find (λ corner. not (is_in_range corner.0)) (corner_places raw shift)) as (λ far. find (λ corner. not (is_in_range corner.0)) (corner_places raw shift) ≡ far
    → (((no_item TooFar far >> same) >> distinct_tets raw shift) >>= next) ≡ (no_item TooFar far >> (same >> (flat >> (twice >> (apart (tetrahedra_at raw shift) >> Ok (mesh_at raw shift))))))) [
      | Some item ↦ λ _. refl
      | None ↦ λ none.
          let h = tets-in raw shift none in
          ap (λ s. (same >> s) >>= next) (tetrahedra-is raw shift h)
          ∙ then_bind same (flat >> (twice >> Ok (tetrahedra_at raw shift))) next
          ∙ ap (λ r. same >> r) (then_bind flat (twice >> Ok (tetrahedra_at raw shift)) next ∙ ap (λ r. flat >> r) (then_bind twice (Ok (tetrahedra_at raw shift)) next ∙ ap (λ m. twice >> (apart (tetrahedra_at raw shift) >> Ok m)) (mesh-is raw shift h)))
    ] refl

pub found-accepted : (raw : Raw) (shift : ℕ) → found_of raw shift ≡ accepted_of raw shift
unfolding found_of found_tets counted accepted_of
found-accepted raw shift =
    let some : Result (Unit {0}) MeshFault = check NoTets (not (length raw.tets == 0)) in
    let few : Result (Unit {0}) MeshFault = check (TooManyTets (length raw.tets)) (not (nat_lt most_accepted_tets (length raw.tets))) in
    let next : List Tetrahedron → Result MarkedMesh MeshFault = λ tets. apart tets >> Ok (mesh_with raw shift tets) in
    then_bind (some >> few) (placed raw shift >> distinct_tets raw shift) next
    ∙ ap (λ r. (some >> few) >> r) (rest-is raw shift)
    ∙ then_then some few (rest_of raw shift)
