-- Marks that don't keep a classification: half of a segment, and another tag.
use Rattle.std.proofs.Common.{◌≡◌, inl, ⊎_elim, [], ◌∷◌, refl, arith}
use Rattle.std.specs.Prelude.{ℤ, pos, ◌+ℤ◌, ◌*ℤ◌, ◌≤ℤ◌, ◌<ℤ◌}
use Rattle.std.proofs.lemmas.Int.{ints}
use Rattle.ma_geom.specs.Coordinates.{Coordinates}
use Rattle.ma_geom.specs.Rational.{IsPoint, Rational}
use Rattle.ma_cells.specs.Cells.{CellMark}
use Rattle.ma_cells.specs.declared.cell.Cell.TheVariants.{Seg}
use Rattle.ma_cover.specs.Classification.{IsOnSegment, KeepsClassification}

abbrev at : ℤ → Coordinates
at x = record { x = x; y = pos 0; z = pos 0 }

abbrev marked_to : ℤ → ℤ → CellMark
marked_to x elem = record { cell = Seg (at (pos 0) ∷ at x ∷ []); phys = pos 1; elem = elem }

-- a point past the middle of the longer segment
abbrev past : Rational
past = record { x = pos 3; y = pos 0; z = pos 0; w = pos 2 }

past_is_point : IsPoint past
past_is_point = record { positive = omega (arith, ints) }

on_longer : IsOnSegment (at (pos 0)) (at (pos 2)) past
on_longer = record {
  i = pos 1;
  j = pos 3;
  n = pos 2;
  first = omega (arith, ints);
  second = omega (arith, ints);
  positive = omega (arith, ints);
  w = refl;
  x = refl;
  y = refl;
  z = refl;
}

off_shorter : IsOnSegment (at (pos 0)) (at (pos 1)) past → ⊥
off_shorter on = by on.i on.j on.n on.first on.positive on.w on.x
  where
    by : (i j n : ℤ) → pos 0 ≤ℤ i → pos 0 <ℤ n → n *ℤ pos 2 ≡ i +ℤ j → n *ℤ pos 3 ≡ (i *ℤ pos 0) +ℤ (j *ℤ pos 1) → ⊥
    by i j n h k e f = omega (arith, ints)

pub half_is_not_kept : KeepsClassification (marked_to (pos 2) (pos 3) ∷ []) (marked_to (pos 1) (pos 3) ∷ []) → ⊥
half_is_not_kept keeps = ⊎_elim off_shorter (λ none. none) ((keeps 1 (pos 1) (pos 3) past past_is_point).0 (inl on_longer))

pub other_tag_is_not_kept : KeepsClassification (marked_to (pos 2) (pos 3) ∷ []) (marked_to (pos 2) (pos 4) ∷ []) → ⊥
other_tag_is_not_kept keeps = (keeps 1 (pos 1) (pos 3) past past_is_point).0 (inl on_longer)
