use Rattle.std.proofs.Common.{◌≡◌, ◌∙◌, sym, length, w32, arith}
use Rattle.std.proofs.lemmas.Int.{to_z-of_z}
use Rattle.ma_cells.proofs.Corners.{tetrahedron_of-some, tetrahedron_of-flat, tetrahedron_of-twice}
use Rattle.ma_cells.proofs.tet.Tet.new.Goals as goal
use Rattle.ma_cells.proofs.tet.Tet.new.Goals.{else-are_ascending-via-then-are_ascending+else-not-is_flat, else-are_ascending-via-else-are_ascending}

pub returns-then-not-is_flat : goal.returns-then-not-is_flat
returns-then-not-is_flat c =
    tetrahedron_of-some c.args.corners c.sort_unstable.new.self c.args.phys c.args.elem _ _
    (to_z-of_z w32 c.args.phys c.ranges.phys) (to_z-of_z w32 c.args.elem c.ranges.elem)
    c.sort_unstable.ensures.permutation
    (sym c.are_ascending.ensures ∙ c.if-are_ascending.true)
    (sym c.is_flat.ensures ∙ c.if-not-is_flat.true)

pub returns-else-are_ascending : goal.returns-else-are_ascending
returns-else-are_ascending c =
    let four : length c.sort_unstable.new.self ≡ 4 = omega arith in
    elim c.else-are_ascending.branch [
      | else-are_ascending-via-then-are_ascending+else-not-is_flat w ↦
          tetrahedron_of-flat c.args.corners c.sort_unstable.new.self c.args.phys c.args.elem
          c.sort_unstable.ensures.permutation
          (sym c.are_ascending.ensures ∙ w.if-are_ascending.true)
          (sym w.is_flat.ensures ∙ w.if-not-is_flat.false)
      | else-are_ascending-via-else-are_ascending w ↦
          tetrahedron_of-twice c.args.corners c.sort_unstable.new.self c.args.phys c.args.elem
          c.sort_unstable.ensures.permutation four c.sort_unstable.ensures.sorted
          (sym c.are_ascending.ensures ∙ w.if-are_ascending.false)
    ]
