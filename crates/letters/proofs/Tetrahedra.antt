-- Tetrahedra as they are read.
use Rattle.std.proofs.Common.{◌≡◌, ℕ, ◌-◌, Bool, true, false, cond, not, length, List, Option, Some, None, Result, Ok, Err, refl, sym, ◌∙◌}
use Rattle.std.specs.Prelude.{ℤ}
use Rattle.ma_geom.specs.Coordinates.{Coordinates}
use Rattle.ma_cells.specs.Tetrahedron.{Tetrahedron, is_flat}
use Rattle.letters.specs.declared.fault.LetterFault.{LetterFault}
use Rattle.letters.specs.declared.fault.LetterFault.TheVariants.{BadField}
use Rattle.letters.specs.Entries.{solid_tet}
use Rattle.letters.specs.Fields.{place, place_before, signed}
use Rattle.letters.specs.Grammar.{Grammar, entries, renamed, tested, ◌then◌}

-- n corners and a region, which aren't flat
abbrev pub tet_with : ℕ → Grammar Tetrahedron
tet_with n = tested (λ t. not (is_flat t.corners)) (renamed (λ p. record { corners = p.0; phys = p.1.0; elem = p.1.1 }) (λ t. (t.corners, (t.phys, t.elem))) (entries place_before place n then signed then signed))

pub tet_some : (n end : ℕ) (bytes : List ℕ) (corners : List Coordinates) (middle : List ℕ) (region : ℤ × ℤ) (rest : List ℕ) (t : Tetrahedron)
    → (entries place_before place n).reading end bytes ≡ Ok (corners, middle) → (signed then signed).reading end middle ≡ Ok (region, rest) → solid_tet corners region ≡ Some t
    → (tet_with n).reading end bytes ≡ Ok (t, rest)
tet_some n end bytes corners middle region rest t e f h = rw (e, f) (by (is_flat corners) (record { corners = corners; phys = region.0; elem = region.1 }) h)
  where
    by : (b : Bool) (u : Tetrahedron) → cond {A = Option Tetrahedron} b None (Some u) ≡ Some t → cond {A = Result (Tetrahedron × List ℕ) LetterFault} (not b) (Ok (u, rest)) (Err (BadField (end - length bytes))) ≡ Ok (t, rest)
    by true u h = absurd cc
    by false u h = cc

pub tet_none : (n end : ℕ) (bytes : List ℕ) (corners : List Coordinates) (middle : List ℕ) (region : ℤ × ℤ) (rest : List ℕ)
    → (entries place_before place n).reading end bytes ≡ Ok (corners, middle) → (signed then signed).reading end middle ≡ Ok (region, rest) → solid_tet corners region ≡ None
    → (tet_with n).reading end bytes ≡ Err (BadField (end - length bytes))
tet_none n end bytes corners middle region rest e f h = rw (e, f) (by (is_flat corners) (record { corners = corners; phys = region.0; elem = region.1 }) h)
  where
    by : (b : Bool) (u : Tetrahedron) → cond {A = Option Tetrahedron} b None (Some u) ≡ None
        → cond {A = Result (Tetrahedron × List ℕ) LetterFault} (not b) (Ok (u, rest)) (Err (BadField (end - length bytes))) ≡ Err (BadField (end - length bytes))
    by true u h = refl
    by false u h = absurd cc

-- what was made of corners and a region that are these ones
pub solid_is : (corners given : List Coordinates) (phys elem p e : ℤ) (made made' : Option Tetrahedron) → given ≡ corners → p ≡ phys → e ≡ elem → made ≡ solid_tet given (p, e) → made ≡ made'
    → solid_tet corners (phys, elem) ≡ made'
solid_is corners given phys elem p e made made' k f g h i = rw (← k, ← f, ← g) (sym h ∙ i)
