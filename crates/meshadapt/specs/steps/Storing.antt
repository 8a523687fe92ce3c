-- What is left of files once some were stored one after another. No public contract names it, and it is no promise.
--     view_outputs       the files with what parts see
--     StoresAll          that all of these were stored, or why not
use Rattle.std.specs.Prelude.{◌≡◌, ◌⊎◌, ℕ, List, ◌∷◌, ◌++◌, map, Result, Ok, Err, codes, string_bytes}
use Rattle.std.specs.Fmt.{decimal}
use Rattle.ma_cells.specs.declared.view.View.{View}
use Rattle.ma_io.specs.Count.{Rose}
use Rattle.ma_io.specs.Held.{Held}
use Rattle.msh_read.specs.GroupNames.{GroupName}
use Rattle.msh_write.specs.PartText.{part_text}
use Rattle.meshadapt.specs.Acts.{Output}
use Rattle.meshadapt.specs.Outcome.{Stores, StoresFront}
use Rattle.meshadapt.specs.declared.halt.Halt.{Halt}
use Rattle.meshadapt.specs.declared.halt.Halt.TheVariants as halt

abbrev pub view_outputs : List ℕ → List GroupName → List View → List Output
view_outputs out names views = map (λ view. record { name = out ++ codes ".p" ++ decimal view.part ++ codes ".msh"; bytes = part_text view names }) views

-- the store of one of them failed, and those before it were stored
pub record BreaksAt (name : List ℕ) (outputs : List Output) (s t : Held) : Type 0 where
  pub done : List Output
  pub bytes : List ℕ
  pub rest : List Output
  pub outputs_are : outputs ≡ done ++ record { name = name; bytes = bytes } ∷ rest
  pub counted : Rose s.store_faults t.store_faults
  pub files : StoresFront done name bytes s.files t.files

-- memory ran out at the store of one of them, or after it
pub record BreaksBehind (outputs : List Output) (s t : Held) : Type 0 where
  pub done : List Output
  pub output : Output
  pub rest : List Output
  pub outputs_are : outputs ≡ done ++ output ∷ rest
  pub files : StoresFront done output.name output.bytes s.files t.files

abbrev pub StoresAll : {X : Type 0} → Result X Halt → List Output → Held → Held → Type 0
StoresAll (Ok _) outputs s t = Stores outputs s.files t.files × (t.store_faults ≡ s.store_faults)
StoresAll (Err (halt.Unread file)) outputs s t = ⊥
StoresAll (Err (halt.Refused refusal)) outputs s t = ⊥
StoresAll (Err (halt.TooMany round stage count)) outputs s t = ⊥
StoresAll (Err (halt.Unstored name)) outputs s t = BreaksAt (string_bytes name) outputs s t
StoresAll (Err halt.Unput) outputs s t = ⊥
StoresAll (Err (halt.Parts fault)) outputs s t = ⊥
StoresAll (Err halt.Memory) outputs s t = (t.files ≡ s.files) ⊎ BreaksBehind outputs s t
