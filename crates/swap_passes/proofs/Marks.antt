-- Swaps leave all marks.
use Rattle.std.proofs.Common.{◌≡◌, ◌≤◌, true, List, [], ◌∷◌, ◌++◌, length, refl, sym, ap, ap₂, ◌∙◌, arith}
use Rattle.std.specs.List.{AllByRecursion, flat_map}
use Rattle.ma_geom.specs.Coordinates.{Coordinates}
use Rattle.ma_cells.specs.Ascending.{are_ascending, ascending_of}
use Rattle.ma_cells.specs.Cells.{CellMark, mark_cmp}
use Rattle.ma_cells.specs.declared.batch.Batch.{Batch}
use Rattle.ma_cells.proofs.Ascents.{is-ascending_of, strict_from_ascending}
use Rattle.ma_cells.proofs.CellOrders.{mark_cmp-IsAntisymmetric, mark_cmp_total}
use Rattle.cavity_rank.specs.Operations.{Operation}
use Rattle.pass_rules.specs.Passes.{changed_at, changed_by, marked_in_turn}
use Rattle.swap_passes.proofs.Chosen.{IsLegalSwap}

unchanged : (mesh : Batch) (ops : List Operation) → AllByRecursion (IsLegalSwap mesh) ops → (mark : CellMark) → changed_by ops mark ≡ mark ∷ []
unchanged mesh [] legal mark = refl
unchanged mesh (op ∷ ops) legal mark = by op.at legal.0.spot.long (unchanged mesh ops legal.1 mark)
  where
    by : (at : List Coordinates) → 2 ≤ length at → changed_by ops mark ≡ mark ∷ [] → changed_at at op.apex mark (changed_by ops mark) ≡ mark ∷ []
    by [] long rest = rest
    by (a ∷ []) long rest = absurd (omega (arith, long))
    by (a ∷ b ∷ more) long rest = rest

pub all_unchanged : (mesh : Batch) (ops : List Operation) → AllByRecursion (IsLegalSwap mesh) ops → (marks : List CellMark) → flat_map (changed_by ops) marks ≡ marks
all_unchanged mesh ops legal [] = refl
all_unchanged mesh ops legal (mark ∷ marks) = ap₂ (λ k l. k ++ l) (unchanged mesh ops legal mark) (all_unchanged mesh ops legal marks)

pub already_ascending : (marks : List CellMark) → are_ascending mark_cmp marks ≡ true → ascending_of mark_cmp marks ≡ marks
already_ascending marks rise = sym (is-ascending_of mark_cmp_total mark_cmp-IsAntisymmetric marks marks (strict_from_ascending mark_cmp_total marks rise) (λ q. refl))

pub unchanged_in_turn : (mesh : Batch) (ops : List Operation) → AllByRecursion (IsLegalSwap mesh) ops → (marks : List CellMark) → are_ascending mark_cmp marks ≡ true → marked_in_turn ops marks ≡ marks
unchanged_in_turn mesh [] legal marks rise = refl
unchanged_in_turn mesh (op ∷ ops) legal marks rise =
    ap (marked_in_turn ops) (ap (ascending_of mark_cmp) (all_unchanged mesh (op ∷ []) (legal.0, tt) marks) ∙ already_ascending marks rise)
    ∙ unchanged_in_turn mesh ops legal.1 marks rise
