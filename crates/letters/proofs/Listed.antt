-- Lists of entries are lawful where an entry is.
use Rattle.std.proofs.Common.{◌≡◌, ℕ, zero, suc, Bool, true, eqb, ◌&&◌, List, [], ◌∷◌, ◌++◌, length, Option, Some, None, Ok, refl, sym, ap, subst, ◌∙◌, append_assoc}
use Rattle.std.specs.List.{flat_map, list_all}
use Rattle.std.proofs.lemmas.Bool.{and_parts, and_from, eq-eqb, eqb-true}
use Rattle.std.proofs.lemmas.List.Concat.{flat_map-cons}
use Rattle.letters.specs.Grammar.{◌>>=◌, Grammar, are_behind, chain, comes_behind, counted, entries, entries_at, tested}
use Rattle.letters.proofs.Lawful.{AreBytes, IsLawful}
use Rattle.letters.proofs.Combined.{bind_ok, chain_lawful, ok_is, renamed_lawful, tested_lawful}
use Rattle.letters.proofs.Numbers.{bytes-front}

-- that some entries were read from bytes: their spelling stands there, they are as many as they should be, in order, and each fits
pub record AreRead {X : Type 0} (before : X → X → Bool) (g : Grammar X) (last : Option X) (n : ℕ) (bytes : List ℕ) (p : List X × List ℕ) : Type 0 where
  pub spelled : bytes ≡ flat_map g.spelling p.0 ++ p.1
  pub count : length p.0 ≡ n
  pub behind : are_behind before last p.0 ≡ true
  pub each : list_all g.fits p.0 ≡ true

module _ {X : Type 0} (before : X → X → Bool) (g : Grammar X) (lawful : IsLawful g) where
  read_entries : (end : ℕ) (bytes : List ℕ) (last : Option X) (n : ℕ) (p : List X × List ℕ) → AreBytes bytes → entries_at before g end bytes last n ≡ Ok p → AreRead before g last n bytes p
  read_entries end bytes last zero p fit e = subst (AreRead before g last 0 bytes) (ok_is ([], bytes) p e) (record { spelled = refl; count = refl; behind = refl; each = refl })
  read_entries end bytes last (suc n) p fit e =
      let first = tested (comes_behind before last) g in
      let a = bind_ok (first.reading end bytes) (λ x. entries_at before g end x.1 (Some x.0) n >>= λ xs. Ok (x.0 ∷ xs.0, xs.1)) p e in
      let b = bind_ok (entries_at before g end a.0.1 (Some a.0.0) n) (λ xs. Ok (a.0.0 ∷ xs.0, xs.1)) p a.2 in
      let l = (tested_lawful (comes_behind before last) g lawful).read end bytes a.0.0 a.0.1 fit a.1 in
      let r = read_entries end a.0.1 (Some a.0.0) n b.0 (bytes-front (g.spelling a.0.0) a.0.1 (subst AreBytes l.0 fit)) b.1 in
      let parts = and_parts (g.fits a.0.0) (comes_behind before last a.0.0) l.1 in
      let made : List X × List ℕ = (a.0.0 ∷ b.0.0, b.0.1) in
      subst (AreRead before g last (suc n) bytes) (ok_is made p b.2) (record {
        spelled = l.0 ∙ ap (λ (t : List ℕ). g.spelling a.0.0 ++ t) r.spelled ∙ sym (append_assoc (g.spelling a.0.0) (flat_map g.spelling b.0.0) b.0.1) ∙ ap (λ (t : List ℕ). t ++ b.0.1) (sym (flat_map-cons g.spelling a.0.0 b.0.0));
        count = ap suc r.count;
        behind = and_from (comes_behind before last a.0.0) (are_behind before (Some a.0.0) b.0.0) parts.1 r.behind;
        each = and_from (g.fits a.0.0) (list_all g.fits b.0.0) parts.0 r.each;
      })

  again_entries : (end : ℕ) (last : Option X) (xs : List X) (rest : List ℕ) → are_behind before last xs ≡ true → list_all g.fits xs ≡ true
      → entries_at before g end (flat_map g.spelling xs ++ rest) last (length xs) ≡ Ok (xs, rest)
  again_entries end last [] rest behind fit = refl
  again_entries end last (x ∷ xs) rest behind fit =
      let b = and_parts (comes_behind before last x) (are_behind before (Some x) xs) behind in
      let f = and_parts (g.fits x) (list_all g.fits xs) fit in
      let regrouped : flat_map g.spelling (x ∷ xs) ++ rest ≡ g.spelling x ++ (flat_map g.spelling xs ++ rest) =
      ap (λ (t : List ℕ). t ++ rest) (flat_map-cons g.spelling x xs) ∙ append_assoc (g.spelling x) (flat_map g.spelling xs) rest in
      ap (λ (t : List ℕ). entries_at before g end t last (suc (length xs))) regrouped
      ∙ rw ((tested_lawful (comes_behind before last) g lawful).again end x (flat_map g.spelling xs ++ rest) (and_from (g.fits x) (comes_behind before last x) f.0 b.0)) (rw (again_entries end (Some x) xs rest b.1 f.1) refl)

  pub entries_lawful : (n : ℕ) → IsLawful (entries before g n)
  entries_lawful n = record { read = reads; again = again }
    where
      reads : (end : ℕ) (bytes : List ℕ) (xs : List X) (rest : List ℕ) → AreBytes bytes → entries_at before g end bytes None n ≡ Ok (xs, rest)
          → (bytes ≡ flat_map g.spelling xs ++ rest) × ((eqb (length xs) n && (are_behind before None xs && list_all g.fits xs)) ≡ true)
      reads end bytes xs rest fit e =
          let r = read_entries end bytes None n (xs, rest) fit e in
          (r.spelled, and_from (eqb (length xs) n) (are_behind before None xs && list_all g.fits xs) (eq-eqb (length xs) n r.count) (and_from (are_behind before None xs) (list_all g.fits xs) r.behind r.each))

      again : (end : ℕ) (xs : List X) (rest : List ℕ) → (eqb (length xs) n && (are_behind before None xs && list_all g.fits xs)) ≡ true
          → entries_at before g end (flat_map g.spelling xs ++ rest) None n ≡ Ok (xs, rest)
      again end xs rest h =
          let a = and_parts (eqb (length xs) n) (are_behind before None xs && list_all g.fits xs) h in
          let b = and_parts (are_behind before None xs) (list_all g.fits xs) a.1 in
          subst (λ (m : ℕ). entries_at before g end (flat_map g.spelling xs ++ rest) None m ≡ Ok (xs, rest)) (eqb-true (length xs) n a.0) (again_entries end None xs rest b.0 b.1)

  pub counted_lawful : (count : Grammar ℕ) → IsLawful count → IsLawful (counted count before g)
  counted_lawful count counts = renamed_lawful (λ p. p.1) (λ xs. (length xs, xs)) (chain count (entries before g)) (chain_lawful count (entries before g) counts entries_lawful) there (λ xs. refl)
    where
      there : (p : ℕ × List X) → (count.fits p.0 && (eqb (length p.1) p.0 && (are_behind before None p.1 && list_all g.fits p.1))) ≡ true → (length p.1, p.1) ≡ p
      there p h =
          let a = and_parts (count.fits p.0) (eqb (length p.1) p.0 && (are_behind before None p.1 && list_all g.fits p.1)) h in
          let b = and_parts (eqb (length p.1) p.0) (are_behind before None p.1 && list_all g.fits p.1) a.1 in
          ap (λ (n : ℕ). (n, p.1)) (eqb-true (length p.1) p.0 b.0)
