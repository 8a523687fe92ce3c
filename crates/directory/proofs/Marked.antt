-- The marks that are kept of all posts, as a set.
use Rattle.std.proofs.Common.{◌≡◌, ℕ, Bool, List, filter, sym, ap, subst, ◌∙◌}
use Rattle.std.specs.FinMap.{IsAntisymmetric}
use Rattle.std.specs.List.{flat_map}
use Rattle.ma_cells.specs.Ascending.{ascending_of}
use Rattle.ma_cells.specs.Cells.{CellMark, mark_cmp}
use Rattle.ma_cells.specs.contracts.cell.MarkOrd.TheImpl as MarkOrder
use Rattle.ma_cells.proofs.CellOrders.{derived_mark_cmp, mark_cmp-IsAntisymmetric, mark_cmp_total}
use Rattle.letters.specs.declared.letter.Post.{Post}
use Rattle.part_phases.specs.Inboxes.{Inbox}
use Rattle.directory.specs.Posting.{marks_posted}
use Rattle.directory.proofs.Selected.{filter-ascending_of, filter-flat_map}

-- a set by the order of the code is one by the order of the definitions
pub marks_gathered : (marks set : List CellMark) → (IsAntisymmetric MarkOrder.ghosts.cmp → set ≡ ascending_of MarkOrder.ghosts.cmp marks) → set ≡ ascending_of mark_cmp marks
marks_gathered marks set is = is (subst (λ R. IsAntisymmetric R) (sym derived_mark_cmp) mark_cmp-IsAntisymmetric) ∙ ap (λ R. ascending_of R marks) derived_mark_cmp

-- the marks of each post that pass a test, as a set, are those of all marks that were posted
pub marks_kept : (test : CellMark → Bool) (posts : Inbox Post) → ascending_of mark_cmp (flat_map (λ (entry : ℕ × Post). filter test entry.1.marks) posts) ≡ filter test (marks_posted posts)
marks_kept test posts =
    sym (filter-ascending_of mark_cmp_total mark_cmp-IsAntisymmetric test (flat_map (λ (entry : ℕ × Post). entry.1.marks) posts) ∙ ap (ascending_of mark_cmp) (filter-flat_map test (λ (entry : ℕ × Post). entry.1.marks) posts))
