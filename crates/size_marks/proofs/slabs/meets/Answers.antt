use Rattle.std.proofs.Common.{ℤ, ◌≡◌, true, ap, ◌∙◌}
use Rattle.size_marks.specs.Field.{is_in_extent}
use Rattle.size_marks.specs.steps.Slabs.{coordinate}
use Rattle.size_marks.proofs.Stored.{stored}
use Rattle.size_marks.proofs.slabs.meets.Goals as goal

moved : (l l' h h' x : ℤ) → l' ≡ l → h' ≡ h → is_in_extent l h x ≡ true → is_in_extent l' h' x ≡ true
moved l l' h h' x e f met = ap (λ a. is_in_extent a h' x) e ∙ ap (λ a. is_in_extent l a x) f ∙ met

pub returns : goal.returns
returns c = λ x in_slab met.
    let axis = c.args.axis in
    let low = stored c.coordinate-low.result c.coordinate-low.ensures.range ∙ c.coordinate-low.ensures.value ∙ ap (coordinate axis) c.low.ensures in
    let high = stored c.coordinate-high.result c.coordinate-high.ensures.range ∙ c.coordinate-high.ensures.value ∙ ap (coordinate axis) c.high.ensures in
    c.reaches.ensures x in_slab (moved _ _ _ _ x low high met)
