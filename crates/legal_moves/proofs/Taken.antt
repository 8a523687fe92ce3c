-- Swaps of an edge or a face to several places, by tests that don't hang on the place and by those that do.
use Rattle.std.proofs.Common.{◌≡◌, true, false, cond, List, [], ◌∷◌, ◌++◌, None, refl, ap, sym, ◌∙◌}
use Rattle.std.specs.List.{flat_map}
use Rattle.ma_geom.specs.Coordinates.{Coordinates}
use Rattle.ma_cells.specs.Cells.{CellMark}
use Rattle.ma_cells.specs.Tetrahedron.{Tetrahedron}
use Rattle.cavity_swap.specs.Outer.{may_be_taken, quality_from}
use Rattle.cavity_swap.proofs.ByFaces.{legal_by_both}
use Rattle.pass_rules.specs.Moves.{operations_from}
use Rattle.legal_moves.specs.Around.{swaps_at, swaps_from}

module _ (star : List Tetrahedron) (marks : List CellMark) (at : List Coordinates) where
  pub to_any : may_be_taken star marks at ≡ true → (apexes : List Coordinates) → flat_map (swaps_from star at) apexes ≡ flat_map (swaps_at star marks at) apexes
  to_any may apexes = ap (λ f. flat_map f apexes) (λ i v. operations_from at v ((ap (λ b. cond b (quality_from star v) None) (sym may) ∙ sym (legal_by_both star marks at v)) i))

  pub to_none : may_be_taken star marks at ≡ false → (apexes : List Coordinates) → [] ≡ flat_map (swaps_at star marks at) apexes
  to_none e [] = refl
  to_none e (v ∷ apexes) = to_none e apexes ∙ ap (λ o. operations_from at v o ++ flat_map (swaps_at star marks at) apexes) (ap (λ b. cond b (quality_from star v) None) (sym e) ∙ sym (legal_by_both star marks at v))
