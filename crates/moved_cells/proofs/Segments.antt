-- Points stay on segments that go straight through a vertex.
use Rattle.std.proofs.Common.{◌≡◌, ◌⊎◌, inl, inr, ⊎_elim, Bool, true, false, ◌&&◌, ◌||◌, List, [], ◌∷◌, length, refl, sym, ap, ap₂, subst, ◌∙◌, arith}
use Rattle.std.specs.Prelude.{◌↔◌}
use Rattle.std.specs.List.Sorted.{IsPermutation}
use Rattle.std.specs.Ordering.{eq_by_cmp}
use Rattle.std.specs.List.{list_all, list_any}
use Rattle.std.specs.Option.{option_to_list}
use Rattle.std.proofs.lemmas.Bool.{and_parts, false≢true, or_cases}
use Rattle.std.proofs.lemmas.List.Sorted.{IsPermutation-refl, IsPermutation-swap}
use Rattle.ma_geom.specs.Coordinates.{Coordinates, place_cmp}
use Rattle.ma_geom.specs.Lines.{between}
use Rattle.ma_cells.specs.Ascending.{has}
use Rattle.ma_cells.proofs.Passing.{all_pass}
use Rattle.cavity_collapse.specs.Curves.{end_across}
use Rattle.ma_cells.proofs.Permutations.{apart, same, tied}
use Rattle.ma_cover.specs.Classification.{IsOnSegment}
use Rattle.ma_cover.proofs.Anys.{any_pass, any_weaker}
use Rattle.plane_laws.proofs.Items.{IsIn, any, each, witness}
use Rattle.plane_laws.proofs.Lines.{between_apart, on_segment_turned, segment_has_two_parts}
use Rattle.moved_cells.specs.Segments.{AreStraight, SegmentsKeepPoints, ends_of}
use Rattle.moved_cells.proofs.Moved.{HasPart, IsOnKept, IsOnParts, eq_turned, keeps_points}

abbrev eq : Coordinates → Coordinates → Bool
eq = eq_by_cmp place_cmp

has_is : (q : Coordinates) (xs : List Coordinates) → has place_cmp q xs ≡ true → IsIn q xs
has_is q xs h = any_weaker (λ x. eq q x ≡ true) (λ x. q ≡ x) (λ x e. same q x e) xs (any_pass (eq q) xs h)

abbrev end : Coordinates → List Coordinates
end c = c ∷ []

abbrev ends : Coordinates → List Coordinates → List Coordinates
ends a s = option_to_list (end_across a s)

part : (a v : Coordinates) (s : List Coordinates) → length s ≡ 2 → HasPart a v end (ends a) s
part a v [] long = absurd (omega (arith, long))
part a v (b ∷ []) long = absurd (omega (arith, long))
part a v (b ∷ c ∷ d ∷ l) long = absurd (omega (arith, long))
part a v (b ∷ c ∷ []) long = by (eq b a) (eq c a) refl refl
  where
    by : (s t : Bool) → eq b a ≡ s → eq c a ≡ t → HasPart a v end (ends a) (b ∷ c ∷ [])
    by true t e f = HasPart.at c (rw e refl) (subst (λ q. IsPermutation (q ∷ c ∷ []) (b ∷ c ∷ [])) (same b a e) (IsPermutation-refl (b ∷ c ∷ [])))
    by false true e f = HasPart.at b (rw (e, f) refl) (subst (λ q. IsPermutation (q ∷ b ∷ []) (b ∷ c ∷ [])) (same c a f) (IsPermutation-swap (c ∷ b ∷ []) (b ∷ c ∷ []) 0 1 (omega arith) (omega arith) refl))
    by false false e f = HasPart.away (ap₂ (λ s t. s || (t || false)) (eq_turned a b ∙ e) (eq_turned a c ∙ f)) (rw (e, f) refl)

pub segments_keep_points : SegmentsKeepPoints
segments_keep_points a v segments are straight p = keeps_points a v end (ends a) 2 (part a v) segments are p (alike straight)
  where
    alike : AreStraight a v (ends_of a segments) → IsOnParts a v end (ends a) p (ends_of a segments) ↔ IsOnKept a v end (ends a) p (ends_of a segments)
    alike (inl none) = ((λ h. absurd (subst (IsOnParts a v end (ends a) p) none h)), (λ h. absurd (subst (IsOnKept a v end (ends a) p) none h)))
    alike (inr run) =
        let here = and_parts (has place_cmp v (ends_of a segments)) (list_any (λ c. between c a v && list_all (λ e. eq e v || eq e c) (ends_of a segments)) (ends_of a segments)) run in
        let there = witness (λ c. (between c a v && list_all (λ e. eq e v || eq e c) (ends_of a segments)) ≡ true) (ends_of a segments) (any_pass (λ c. between c a v && list_all (λ e. eq e v || eq e c) (ends_of a segments)) (ends_of a segments) here.1) in
        let c = there.0 in
        let both = and_parts (between c a v) (list_all (λ e. eq e v || eq e c) (ends_of a segments)) there.2 in
        let only = all_pass (λ e. eq e v || eq e c) (ends_of a segments) both.1 in
        let whole = segment_has_two_parts c a v both.0 p in
        let near = has_is v (ends_of a segments) here.0 in
        let away = ap (λ b. b || false) (apart v c (between_apart c a v both.0)) in (
          (λ h.
              let w = witness (λ e. IsOnSegment a e p) (ends_of a segments) h in
              let on : IsOnSegment c a p ⊎ IsOnSegment a v p =
              ⊎_elim (λ e. inr (subst (λ t. IsOnSegment a t p) e w.2)) (λ e. inl (on_segment_turned p a c (subst (λ t. IsOnSegment a t p) e w.2)))
              (either v c w.0 (each (λ e. (eq e v || eq e c) ≡ true) w.0 (ends_of a segments) only w.1)) in
              any (λ e. (has place_cmp v (e ∷ []) ≡ false) × IsOnSegment v e p) c (ends_of a segments) there.1 (away, on_segment_turned p c v (whole.1 on))),
          (λ h.
              let w = witness (λ e. (has place_cmp v (e ∷ []) ≡ false) × IsOnSegment v e p) (ends_of a segments) h in
              let is_far = ⊎_elim (λ e. absurd (false≢true (sym w.2.0 ∙ ap (λ b. b || false) (ap (eq v) e ∙ tied v)))) (λ e. e)
              (either v c w.0 (each (λ e. (eq e v || eq e c) ≡ true) w.0 (ends_of a segments) only w.1)) in
              ⊎_elim (λ on. any (λ e. IsOnSegment a e p) c (ends_of a segments) there.1 (on_segment_turned p c a on)) (λ on. any (λ e. IsOnSegment a e p) v (ends_of a segments) near on)
              (whole.0 (on_segment_turned p v c (subst (λ t. IsOnSegment v t p) is_far w.2.1)))),
        )
      where
        either : (v c e : Coordinates) → (eq e v || eq e c) ≡ true → (e ≡ v) ⊎ (e ≡ c)
        either v c e h = ⊎_elim (λ k. inl (same e v k)) (λ k. inr (same e c k)) (or_cases (eq e v) (eq e c) h)
