-- Three places that don't lie on one line span a volume with a place off their plane.
use Rattle.std.proofs.Common.{◌≡◌, ◌≢◌, zero, suc, true, false, List, [], ◌∷◌, refl, sym, ap, ◌∙◌, arith}
use Rattle.std.specs.Prelude.{ℤ, pos, negsuc, ◌+ℤ◌, ◌-ℤ◌, ◌*ℤ◌, ◌≤ℤ◌}
use Rattle.std.proofs.lemmas.Bool.{false≢true}
use Rattle.std.proofs.lemmas.Int.{ints}
use Rattle.std.proofs.lemmas.List.Sorted.{IsPermutation-to_front}
use Rattle.ma_geom.specs.Coordinates.{Coordinates}
use Rattle.ma_geom.specs.Lines.{collinear, is_zero, normal}
use Rattle.ma_geom.specs.Volume.{cross, dot, minus, vol6}
use Rattle.ma_geom.proofs.Integers.{square_not_negative}
use Rattle.ma_cells.proofs.Pieces.{solid_in_any_order}
use Rattle.split_templates.specs.Pieces.{is_straight}
use Rattle.split_templates.proofs.Corners.{IsTriangle}

root_of_zero : (a : ℤ) → a *ℤ a ≡ pos 0 → a ≡ pos 0
root_of_zero (pos zero) h = refl
root_of_zero (pos (suc m)) h = absurd (omega (arith, ints))
root_of_zero (negsuc m) h = absurd (omega (arith, ints))

first_zero : (p q r : ℤ) → pos 0 ≤ℤ p → pos 0 ≤ℤ q → pos 0 ≤ℤ r → ((p +ℤ q) +ℤ r) ≡ pos 0 → (p ≡ pos 0) × (q ≡ pos 0) × (r ≡ pos 0)
first_zero p q r hp hq hr sum = (omega (arith, ints), omega (arith, ints), omega (arith, ints))

-- only the zero vector has length zero
no_length : (n : Coordinates) → dot n n ≡ pos 0 → is_zero n ≡ true
no_length n h =
    let all = first_zero (n.x *ℤ n.x) (n.y *ℤ n.y) (n.z *ℤ n.z) (square_not_negative n.x) (square_not_negative n.y) (square_not_negative n.z) h in
    rw (root_of_zero n.x all.0, root_of_zero n.y all.1, root_of_zero n.z all.2) refl

back : (a n : ℤ) → (a +ℤ n) -ℤ a ≡ n
back a n = omega (arith, ints)

abbrev pub beyond : Coordinates → Coordinates → Coordinates
beyond a n = record { x = a.x +ℤ n.x; y = a.y +ℤ n.y; z = a.z +ℤ n.z }

there_and_back : (a n : Coordinates) → minus (beyond a n) a ≡ n
there_and_back a n =
    let xs = back a.x n.x in
    let ys = back a.y n.y in
    let zs = back a.z n.z in
    λ i. record { x = xs i; y = ys i; z = zs i }

volume_beyond : (a b c n : Coordinates) → vol6 a b c (beyond a n) ≡ dot (cross (minus b a) (minus c a)) n
unfolding vol6
volume_beyond a b c n = ap (dot (cross (minus b a) (minus c a))) (there_and_back a n)

normal_is : (a b c : Coordinates) → cross (minus b a) (minus c a) ≡ normal a b c
unfolding normal
normal_is a b c = refl

off_the_plane : (a b c : Coordinates) → collinear a b c ≡ false → vol6 a b c (beyond a (normal a b c)) ≢ pos 0
off_the_plane a b c h k =
    let n = normal a b c in
    let length : dot n n ≡ pos 0 = sym (volume_beyond a b c n ∙ ap (λ u. dot u n) (normal_is a b c)) ∙ k in
    false≢true (sym h ∙ no_length n length)

pub apex : (t : List Coordinates) → is_straight t ≡ false → (d : Coordinates) × IsTriangle d t
apex [] h = absurd (false≢true (sym h))
apex (a ∷ []) h = absurd (false≢true (sym h))
apex (a ∷ b ∷ []) h = absurd (false≢true (sym h))
apex (a ∷ b ∷ c ∷ []) h =
    let d = beyond a (normal a b c) in
    (d, solid_in_any_order a b c d (d ∷ a ∷ b ∷ c ∷ []) (IsPermutation-to_front (a ∷ b ∷ c ∷ []) d) (off_the_plane a b c h))
apex (a ∷ b ∷ c ∷ d ∷ t) h = absurd (false≢true (sym h))
