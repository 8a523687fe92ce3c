-- What fills a chosen cavity is new outside of it, and fills no other.
-- A point within two fillings would be in the cavities of both, since with either filling in its place, no tetrahedron outside of the cavity has the point within it.
use Rattle.std.proofs.Common.{◌≡◌, ℕ, ◌+◌, ◌≤◌, Bool, true, false, not, ◌&&◌, List, [], ◌++◌, ap₂, ◌∙◌, arith}
use Rattle.std.specs.List.{AllByRecursion}
use Rattle.std.proofs.lemmas.Bool.{true_from_ne_false}
use Rattle.std.proofs.lemmas.List.Sums.{sum_by-append}
use Rattle.ma_geom.specs.Rational.{Rational}
use Rattle.ma_cells.specs.Ascending.{has}
use Rattle.ma_cells.specs.Tetrahedron.{Tetrahedron, is_flat, tet_cmp}
use Rattle.ma_cells.specs.declared.batch.Batch.{Batch}
use Rattle.ma_cells.proofs.CellOrders.{tet_cmp-IsAntisymmetric, tet_cmp_total}
use Rattle.ma_cells.proofs.Choices.{all-append}
use Rattle.ma_cells.proofs.Members.{all-at, any-at, has-filter}
use Rattle.ma_cells.proofs.Permutations.{listed_once-distinct}
use Rattle.ma_cover.specs.Cover.{whole_cover}
use Rattle.ma_cover.specs.Inside.{is_inside}
use Rattle.ma_cover.specs.OnFaces.{IsOffFaces}
use Rattle.ma_cover.proofs.OffFaces.{inside_is_off_faces}
use Rattle.mesh_laws.specs.Adapted.{IsSoundMesh}
use Rattle.mesh_laws.specs.Points.{IsMovedOffFaces, NoneIsFlat}
use Rattle.mesh_laws.proofs.Adapted.{sound_not_flat}
use Rattle.mesh_laws.proofs.Lists.{all_split}
use Rattle.mesh_laws.proofs.MovedOff.{corners_of, off_after, points_move_off_faces}
use Rattle.mesh_laws.proofs.OneSide.{tetrahedron_has_point}
use Rattle.mesh_laws.proofs.Regions.{regions_give_cover}
use Rattle.mesh_laws.proofs.Sounds.{conforming_is_listed_once, sound_covers_once}
use Rattle.mesh_laws.proofs.Weights.{inside_is_point}
use Rattle.size_marks.specs.Field.{Field}
use Rattle.cavity_rank.specs.Operations.{Operation, rank}
use Rattle.cavity_rank.specs.declared.verdict.Kind.{Kind}
use Rattle.collapse_laws.proofs.OnCells.{any_gives}
use Rattle.pass_rules.specs.Choosing.{is_in}
use Rattle.pass_rules.specs.Moves.{legal_operations}
use Rattle.pass_rules.specs.Passes.{chosen, filling}
use Rattle.pass_rules.proofs.Apart.{winners_are_apart}
use Rattle.swap_passes.proofs.Cavities.{all_from_members}
use Rattle.cavity_fillings.specs.Fillings.{FillingsAreApart}
use Rattle.cavity_fillings.proofs.Counts.{any_counted, counted_any, none_dropped, not_in_both}
use Rattle.cavity_fillings.proofs.Made.{StaysSound, made, outside, stays_sound}

-- whether a tetrahedron has a point within it, as covers count it
abbrev has_within : Rational → Tetrahedron → Bool
has_within p tet = true && is_inside p tet.corners

module _ (mesh : Batch) (op : Operation) (stays : StaysSound mesh op) where
  solid : NoneIsFlat (made mesh op)
  solid = sound_not_flat (record { tets = made mesh op; marks = stays.marks }) stays.sound

  -- no tetrahedron is listed twice once the operation is made
  only_within : (tet : Tetrahedron) → has tet_cmp tet (filling mesh.tets op) ≡ true → has tet_cmp tet mesh.tets ≡ true → is_in op tet ≡ true
  only_within tet fills there =
      let distinct = listed_once-distinct (made mesh op) (conforming_is_listed_once (made mesh op) stays.marks stays.sound.sound.conforming solid) in
      true_from_ne_false (is_in op tet) (λ out.
      not_in_both tet_cmp-IsAntisymmetric tet (outside mesh op) (filling mesh.tets op) distinct
      (has-filter tet_cmp-IsAntisymmetric (λ t. not (is_in op t)) tet mesh.tets ∙ ap₂ (λ a b. a && not b) there out) fills)

  -- of a point within what fills the cavity
  module _ (p : Rational) (off : IsOffFaces p mesh.tets) (off_made : IsOffFaces p (made mesh op)) (tet : Tetrahedron) (fills : has tet_cmp tet (filling mesh.tets op) ≡ true) (inside : is_inside p tet.corners ≡ true) where
    same : whole_cover p (made mesh op) ≡ whole_cover p mesh.tets
    same = regions_give_cover (λ _ _. true) p mesh.tets (made mesh op) (λ phys elem. stays.cover phys elem p off off_made)

    once : whole_cover p (made mesh op) ≤ 1
    once = sound_covers_once (made mesh op) stays.marks stays.sound.sound solid p

    parts : whole_cover p (made mesh op) ≡ whole_cover p (outside mesh op) + whole_cover p (filling mesh.tets op)
    parts = sum_by-append _ (outside mesh op) (filling mesh.tets op)

    some : 1 ≤ whole_cover p (filling mesh.tets op)
    some = any_counted (has_within p) (filling mesh.tets op) (any-at tet_cmp-IsAntisymmetric (has_within p) tet (filling mesh.tets op) fills inside)

    -- the mesh has it
    covered : 1 ≤ whole_cover p mesh.tets
    covered = by (whole_cover p mesh.tets) (whole_cover p (made mesh op)) (whole_cover p (outside mesh op)) (whole_cover p (filling mesh.tets op)) same parts some
      where
        by : (l m n k : ℕ) → m ≡ l → m ≡ n + k → 1 ≤ k → 1 ≤ l
        by l m n k e f g = omega arith

    -- within tetrahedra of the cavity alone
    in_cavity : AllByRecursion (λ t. has_within p t ≡ true → is_in op t ≡ true) mesh.tets
    in_cavity = none_dropped (has_within p) (is_in op) mesh.tets (by (whole_cover p (made mesh op)) (whole_cover p (outside mesh op)) (whole_cover p (filling mesh.tets op)) once parts some)
      where
        by : (m n k : ℕ) → m ≤ 1 → m ≡ n + k → 1 ≤ k → n ≡ 0
        by m n k e f g = omega arith

module _ (kind : Kind) (field : Field) (mesh : Batch) (sound : IsSoundMesh mesh) where
  abbrev ops : List Operation
  ops = chosen kind field mesh

  -- a point within a tetrahedron that fills two cavities, off all faces
  module _ (op other : Operation) (there : has rank op ops ≡ true) (there_too : has rank other ops ≡ true)
      (tet : Tetrahedron) (fills : has tet_cmp tet (filling mesh.tets op) ≡ true) (fills_too : has tet_cmp tet (filling mesh.tets other) ≡ true) where
    first : StaysSound mesh op
    first = stays_sound field mesh sound kind op there

    second : StaysSound mesh other
    second = stays_sound field mesh sound kind other there_too

    at_point : (p : Rational) → IsOffFaces p mesh.tets → IsOffFaces p (made mesh op) → IsOffFaces p (made mesh other) → is_inside p tet.corners ≡ true → other ≡ op
    at_point p off off_made off_other inside =
        any_gives (has_within p) (other ≡ op) mesh.tets
        (all_from_members tet_cmp_total (λ t. has_within p t ≡ true → other ≡ op) mesh.tets (λ t member within.
        winners_are_apart (legal_operations kind field mesh) mesh.tets other op t there_too there member
        (all-at tet_cmp-IsAntisymmetric (λ t. has_within p t ≡ true → is_in other t ≡ true) t mesh.tets (in_cavity mesh other second p off off_other tet fills_too inside) member within)
        (all-at tet_cmp-IsAntisymmetric (λ t. has_within p t ≡ true → is_in op t ≡ true) t mesh.tets (in_cavity mesh op first p off off_made tet fills inside) member within)))
        (counted_any (has_within p) mesh.tets (covered mesh op first p off off_made tet fills inside))

    same_operation : other ≡ op
    same_operation =
        let IsSolid = λ (t : Tetrahedron). is_flat t.corners ≡ false in
        let ours = made mesh op in
        let theirs = made mesh other in
        let filled = filling mesh.tets op in
        let solid_tet = all-at tet_cmp-IsAntisymmetric IsSolid tet filled (all_split IsSolid (outside mesh op) filled (solid mesh op first)).1 fills in
        let point = tetrahedron_has_point tet.corners solid_tet in
        let near = points_move_off_faces point.0 (inside_is_point point.0 tet.corners point.1) (mesh.tets ++ (ours ++ theirs)) []
        (all-append IsSolid mesh.tets (ours ++ theirs) (sound_not_flat mesh sound) (all-append IsSolid ours theirs (solid mesh op first) (solid mesh other second))) in
        let q = near.0 in
        let Moved = λ (t : Tetrahedron). IsMovedOffFaces point.0 q t.corners in
        let split = all_split Moved mesh.tets (ours ++ theirs) near.2 in
        let rest = all_split Moved ours theirs split.1 in
        let moved = all-at tet_cmp-IsAntisymmetric Moved tet filled (all_split Moved (outside mesh op) filled rest.0).1 fills in
        at_point q (off_after corners_of point.0 q mesh.tets split.0) (off_after corners_of point.0 q ours rest.0) (off_after corners_of point.0 q theirs rest.1)
        (moved.inside (inside_is_off_faces point.0 tet.corners point.1) ∙ point.1)

pub fillings_are_apart : FillingsAreApart
fillings_are_apart kind field mesh sound op tet there fills = record {
  within = only_within mesh op (stays_sound field mesh sound kind op there) tet fills;
  alone = λ other there_too fills_too. same_operation kind field mesh sound op other there there_too tet fills fills_too;
}
