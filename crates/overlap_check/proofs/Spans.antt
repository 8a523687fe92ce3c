-- Spans around the values of a form.
use Rattle.std.proofs.Common.{◌≡◌, ◌≤◌, ◌^◌, sym, inl, inr, true, false, List, [], ◌∷◌, length, map, get_or, refl, ap, ◌∙◌, arith}
use Rattle.std.proofs.lemmas.Bool.{and_cases, and_from, and_parts, or_left, or_right}
use Rattle.std.specs.Prelude.{ℤ, ◌≤ℤ◌, ◌&&◌, int_le, int_lt, FitsSigned, unsigned_abs}
use Rattle.std.specs.List.{list_all}
use mir.Syntax.{w32}
use mir.Val.{to_z, of_z}
use Rattle.std.proofs.lemmas.Int.{ints, to_z-of_z}
use Rattle.ma_geom.specs.Coordinates.{Coordinates}
use Rattle.ma_geom.specs.Volume.{dot}
use Rattle.overlap_check.specs.Forms.{x_axis, y_axis, z_axis}
use Rattle.overlap_check.specs.Overlap.{are_apart, is_below}
use Rattle.overlap_check.specs.steps.Boxes.{IsSpan, is_within, least_stored, spans_meet}
use Rattle.overlap_check.specs.declared.boxes.Span.{Span}
use Rattle.overlap_check.proofs.Values.{dot-x_axis, dot-y_axis, dot-z_axis, four}

-- ---- spans
pub within_ends : (l h v : ℤ) → FitsSigned w32 l → FitsSigned w32 h → l ≤ℤ v → v ≤ℤ h → (int_le (to_z w32 (of_z w32 l)) v && int_le v (to_z w32 (of_z w32 h))) ≡ true
within_ends l h v lfits hfits low high = grind (arith, ints, to_z-of_z)

pub spanned : (n : Coordinates) (places : List Coordinates) (a b c d : Coordinates) (s : Span) → length places ≡ 4
    → is_within s (dot n (get_or places 0 a)) ≡ true → is_within s (dot n (get_or places 1 b)) ≡ true → is_within s (dot n (get_or places 2 c)) ≡ true → is_within s (dot n (get_or places 3 d)) ≡ true
    → least_stored ≤ℤ s.low → IsSpan n places s
spanned n places a b c d s long ha hb hc hd stored = record {
  all = ap (λ ps. list_all (is_within s) (map (dot n) ps)) (four places a b c d long) ∙ (λ i. ha i && (hb i && (hc i && (hd i && true))));
  stored = stored;
}

stored : (v : ℤ) → unsigned_abs v ≤ 2 ^ 30 → to_z w32 (of_z w32 v) ≡ v
stored v near = omega (arith, ints)

pub within_x : (p : Coordinates) (v : ℤ) (s : Span) → v ≡ p.x → unsigned_abs v ≤ 2 ^ 30 → is_within s (to_z w32 (of_z w32 v)) ≡ true → is_within s (dot x_axis p) ≡ true
within_x p v s e near h = ap (is_within s) (dot-x_axis p ∙ sym e ∙ sym (stored v near)) ∙ h

pub within_y : (p : Coordinates) (v : ℤ) (s : Span) → v ≡ p.y → unsigned_abs v ≤ 2 ^ 30 → is_within s (to_z w32 (of_z w32 v)) ≡ true → is_within s (dot y_axis p) ≡ true
within_y p v s e near h = ap (is_within s) (dot-y_axis p ∙ sym e ∙ sym (stored v near)) ∙ h

pub within_z : (p : Coordinates) (v : ℤ) (s : Span) → v ≡ p.z → unsigned_abs v ≤ 2 ^ 30 → is_within s (to_z w32 (of_z w32 v)) ≡ true → is_within s (dot z_axis p) ≡ true
within_z p v s e near h = ap (is_within s) (dot-z_axis p ∙ sym e ∙ sym (stored v near)) ∙ h

-- a number below the second of two spans that don't meet is below all within it
under : (v : ℤ) (ws : List ℤ) (t : Span) → v ≤ℤ t.low → list_all (is_within t) ws ≡ true → list_all (λ w. int_le v w) ws ≡ true
under v [] t h all = refl
under v (w ∷ ws) t h all =
    let parts = and_parts (is_within t w) (list_all (is_within t) ws) all in
    let ends = and_parts (int_le t.low w) (int_le w t.high) parts.0 in
    and_from (int_le v w) (list_all (λ x. int_le v x) ws) (through v t.low w h ends.0) (under v ws t h parts.1)
  where
    through : (x y z : ℤ) → x ≤ℤ y → int_le y z ≡ true → int_le x z ≡ true
    through x y z h k = grind (arith, ints)

pub below : (vs ws : List ℤ) (s t : Span) → s.high ≤ℤ t.low → list_all (is_within s) vs ≡ true → list_all (is_within t) ws ≡ true → is_below vs ws ≡ true
below [] ws s t h left right = refl
below (v ∷ vs) ws s t h left right =
    let parts = and_parts (is_within s v) (list_all (is_within s) vs) left in
    let ends = and_parts (int_le s.low v) (int_le v s.high) parts.0 in
    and_from (list_all (λ w. int_le v w) ws) (is_below vs ws) (under v ws t (through v s.high t.low ends.1 h) right) (below vs ws s t h parts.1 right)
  where
    through : (x y z : ℤ) → int_le x y ≡ true → y ≤ℤ z → x ≤ℤ z
    through x y z h k = grind (arith, ints)

-- the values are apart where the spans don't meet
pub spans_apart : (n : Coordinates) (a b : List Coordinates) (s t : Span) → IsSpan n a s → IsSpan n b t → spans_meet s t ≡ false
    → (are_apart (map (dot n) a) (map (dot n) b) ≡ true) × (are_apart (map (dot n) b) (map (dot n) a) ≡ true)
spans_apart n a b s t left right h = elim (and_cases (int_lt s.low t.high) (int_lt t.low s.high) h) [
  | inl k ↦ (
      let e = below (map (dot n) b) (map (dot n) a) t s (turned s.low t.high k) right.all left.all in
      (or_right (is_below (map (dot n) a) (map (dot n) b)) _ e, or_left (is_below (map (dot n) b) (map (dot n) a)) _ e)
      )
  | inr k ↦ (
      let e = below (map (dot n) a) (map (dot n) b) s t (turned t.low s.high k) left.all right.all in
      (or_left (is_below (map (dot n) a) (map (dot n) b)) _ e, or_right (is_below (map (dot n) b) (map (dot n) a)) _ e)
      )
]
  where
    turned : (x y : ℤ) → int_lt x y ≡ false → y ≤ℤ x
    turned x y h = grind (arith, ints)
