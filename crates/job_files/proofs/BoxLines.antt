-- Lines of boxes.
use Rattle.std.proofs.Common.{◌≡◌, ℕ, ◌<◌, ◌≤◌, Bool, true, false, ◌&&◌, cond, List, [], ◌∷◌, refl, sym, ap, ◌∙◌, arith}
use Rattle.std.specs.Prelude.{codes, Result, Err, nat_le}
use Rattle.std.specs.Str.{bytes_eq}
use Rattle.std.proofs.lemmas.Bool.Decides.{nat_tests}
use Rattle.ma_text.specs.Words.{words_of}
use Rattle.msh_read.specs.Trying.{◌>>=◌, ◌>>◌, check}
use Rattle.job_files.specs.declared.fault.JobFault.{JobFault}
use Rattle.job_files.specs.declared.fault.JobFault.TheVariants.{BadLine, TooManyBoxes}
use Rattle.job_files.specs.Answer.{or_bad_line}
use Rattle.job_files.specs.Sizes.{Corner, begins_with_box, box_of, eight_of, further_of}

-- a line that does not begin with 'box' is no box
no_keyword : {X : Type 0} (line : ℕ) (words : List (List ℕ)) (rest : List ℕ × Corner × Corner × List ℕ → Result X JobFault) → begins_with_box words ≡ false
    → (or_bad_line line (eight_of words) >>= λ w. check (BadLine line) (bytes_eq w.0 (codes "box")) >> rest w) ≡ Err (BadLine line)
no_keyword line [] rest e = refl
no_keyword line (a ∷ []) rest e = refl
no_keyword line (a ∷ b ∷ []) rest e = refl
no_keyword line (a ∷ b ∷ c ∷ []) rest e = refl
no_keyword line (a ∷ b ∷ c ∷ d ∷ []) rest e = refl
no_keyword line (a ∷ b ∷ c ∷ d ∷ f ∷ []) rest e = refl
no_keyword line (a ∷ b ∷ c ∷ d ∷ f ∷ g ∷ []) rest e = refl
no_keyword line (a ∷ b ∷ c ∷ d ∷ f ∷ g ∷ h ∷ []) rest e = refl
no_keyword line (a ∷ b ∷ c ∷ d ∷ f ∷ g ∷ h ∷ i ∷ []) rest e = ap (λ (test : Bool). check (BadLine line) test >> rest (a, (b, c, d), (f, g, h), i)) e
no_keyword line (a ∷ b ∷ c ∷ d ∷ f ∷ g ∷ h ∷ i ∷ j ∷ ws) rest e = refl

no_box : (line : ℕ) (bytes : List ℕ) → begins_with_box (words_of bytes) ≡ false → box_of line bytes ≡ Err (BadLine line)
unfolding box_of
no_box line bytes e = no_keyword line (words_of bytes) _ e

many_is : (before : ℕ) → 10000 ≤ before → nat_le 10000 before ≡ true
many_is before many = grind (arith, nat_tests)

few_is : (before : ℕ) → before < 10000 → nat_le 10000 before ≡ false
few_is before few = grind (arith, nat_tests)

past : (line : ℕ) (bytes : List ℕ) (begins : Bool) → begins ≡ begins_with_box (words_of bytes) → cond begins (Err (TooManyBoxes line)) (box_of line bytes) ≡ Err (cond begins (TooManyBoxes line) (BadLine line))
past line bytes true is = refl
past line bytes false is = no_box line bytes (sym is)

-- behind the last box that a file may have
pub past_is : (before line : ℕ) (bytes : List ℕ) → 10000 ≤ before → further_of (before, (line, bytes)) ≡ Err (cond (begins_with_box (words_of bytes)) (TooManyBoxes line) (BadLine line))
unfolding further_of
past_is before line bytes many =
    let begins = begins_with_box (words_of bytes) in
    ap (λ (test : Bool). cond (test && begins) (Err (TooManyBoxes line)) (box_of line bytes)) (many_is before many) ∙ past line bytes begins refl

pub further_is : (before line : ℕ) (bytes : List ℕ) → before < 10000 → further_of (before, (line, bytes)) ≡ box_of line bytes
unfolding further_of
further_is before line bytes few = ap (λ (test : Bool). cond (test && begins_with_box (words_of bytes)) (Err (TooManyBoxes line)) (box_of line bytes)) (few_is before few)
