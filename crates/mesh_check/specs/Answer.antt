-- What is answered, and what the definitions give. Want of memory says nothing.
use Rattle.std.specs.Prelude.{◌≡◌, Result, Ok, Err}
use Rattle.mesh_check.specs.declared.fault.MeshFault.{MeshFault}
use Rattle.mesh_check.specs.declared.fault.MeshFault.TheVariants.{Memory}

abbrev pub Refuses : {Y : Type 0} → MeshFault → Result Y MeshFault → Type 0
Refuses Memory given = Unit {0}
Refuses fault given = given ≡ Err fault

-- What was answered, seen by view, is what is given.
abbrev pub Answers : {X Y : Type 0} → (X → Y) → Result X MeshFault → Result Y MeshFault → Type 0
Answers view (Ok x) given = given ≡ Ok (view x)
Answers view (Err fault) given = Refuses fault given
