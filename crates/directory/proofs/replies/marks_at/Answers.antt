use Rattle.std.proofs.Common.{◌≡◌, ◌∙◌, Bool, ℕ, List, [], filter, refl, ap}
use Rattle.std.specs.List.{flat_map}
use Rattle.std.specs.Map.Iter.{deref_pair}
use Rattle.std.proofs.lemmas.Map.Iter.{rest_all}
use Rattle.ma_geom.specs.Coordinates.{place_cmp}
use Rattle.ma_cells.specs.Ascending.{ascending_of, has}
use Rattle.ma_cells.specs.Cells.{CellMark, mark_cmp}
use Rattle.letters.specs.declared.letter.Post.{Post}
use Rattle.directory.specs.Posting.{least_corner}
use Rattle.directory.proofs.Marked.{marks_kept}
use Rattle.directory.proofs.Selected.{walked_all}
use Rattle.directory.proofs.replies.marks_at.Goals as goal

pub returns : goal.returns
returns c =
    let test : CellMark → Bool = λ mark. has place_cmp (least_corner mark.cell) c.args.places.now in
    let kept : List (ℕ × Post) → List CellMark = λ posts. flat_map (λ (entry : ℕ × Post). filter test entry.1.marks) posts in
    let none : c.loop-post.post-iterator ≡ [] = rest_all deref_pair _ _ _ c.in-None.is c.next.ensures.steps in
    c.mark_set.ensures
    ∙ ap (ascending_of mark_cmp) (walked_all kept c.loop-post.marks.items c.loop-post.post-iterator c.args.posts.now.entries none refl c.loop-post.invariant)
    ∙ marks_kept test c.args.posts.now.entries
