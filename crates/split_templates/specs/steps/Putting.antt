-- Items put among ascending items one after the other. A step of the code, and no promise.
use Rattle.std.specs.Prelude.{List, [], ◌∷◌}
use Rattle.std.specs.declared.cmp.Ordering.{Ordering}
use Rattle.ma_cells.specs.Ascending.{put}

abbrev pub put_all : {K : Type 0} → (K → K → Ordering) → List K → List K → List K
put_all R [] ys = ys
put_all R (x ∷ xs) ys = put R x (put_all R xs ys)
