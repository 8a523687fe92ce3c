-- What the calls on words answer, and what the words write.
use Rattle.std.proofs.Common.{◌≡◌, ℕ, ◌<◌, List, [], ◌∷◌, Option, None, Some, refl, arith}
use Rattle.std.specs.Prelude.{ℤ, pos, negsuc, Result, Ok, Err}
use Rattle.std.proofs.lemmas.Bool.Decides.{nat_tests}
use Rattle.ma_text.specs.declared.number.NumberFault.{NumberFault}
use Rattle.ma_text.specs.declared.number.NumberFault.TheVariants.{Empty, NotWhole, TooBig}
use Rattle.ma_text.specs.Numbers.{digits_of, natural_of, natural_answer, signed_answer, written}
use Rattle.job_files.specs.declared.fault.JobFault.{JobFault}
use Rattle.job_files.specs.declared.fault.JobFault.TheVariants.{BadLine, SizeOutOfRange, PartTooBig}
use Rattle.job_files.specs.Partition.{part_written}
use Rattle.job_files.specs.Sizes.{coordinate_of, coordinate_written, size_of, size_written}

abbrev pub coordinate_read : Result ℤ NumberFault → Option ℤ
coordinate_read (Ok c) = coordinate_written (Some c)
coordinate_read (Err fault) = None

coordinate_signed : (w : Option ℤ) → coordinate_written w ≡ coordinate_read (signed_answer w)
coordinate_signed None = refl
coordinate_signed (Some (pos n)) = grind (arith, nat_tests)
coordinate_signed (Some (negsuc n)) = grind (arith, nat_tests)

pub coordinate_from : (word : List ℕ) → coordinate_of word ≡ coordinate_read (digits_of word)
unfolding coordinate_of digits_of written
coordinate_from [] = refl
coordinate_from (b ∷ bs) = coordinate_signed (written (b ∷ bs))

abbrev pub size_read : ℕ → Result ℤ NumberFault → Result ℕ JobFault
size_read line (Ok c) = size_written line (Some c)
size_read line (Err TooBig) = Err (SizeOutOfRange line)
size_read line (Err NotWhole) = Err (BadLine line)
size_read line (Err Empty) = Err (BadLine line)

size_signed : (line : ℕ) (w : Option ℤ) → size_written line w ≡ size_read line (signed_answer w)
size_signed line None = refl
size_signed line (Some (pos n)) = grind (arith, nat_tests)
size_signed line (Some (negsuc n)) = grind (arith, nat_tests)

pub size_from : (line : ℕ) (word : List ℕ) → size_of line word ≡ size_read line (digits_of word)
unfolding size_of digits_of written
size_from line [] = refl
size_from line (b ∷ bs) = size_signed line (written (b ∷ bs))

abbrev pub part_read : ℕ → ℕ → Result ℕ NumberFault → Result ℕ JobFault
part_read parts line (Ok n) = part_written parts line (Some (pos n))
part_read parts line (Err TooBig) = Err (PartTooBig line)
part_read parts line (Err NotWhole) = Err (BadLine line)
part_read parts line (Err Empty) = Err (BadLine line)

part_signed : (parts line : ℕ) → parts < 256 → (w : Option ℤ) → part_written parts line w ≡ part_read parts line (natural_answer w)
part_signed parts line few None = refl
part_signed parts line few (Some (pos n)) = grind (arith, nat_tests)
part_signed parts line few (Some (negsuc n)) = refl

pub part_from : (parts line : ℕ) → parts < 256 → (word : List ℕ) → part_written parts line (written word) ≡ part_read parts line (natural_of word)
unfolding natural_of written
part_from parts line few [] = refl
part_from parts line few (b ∷ bs) = part_signed parts line few (written (b ∷ bs))
