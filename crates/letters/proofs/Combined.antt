-- Grammars that are made of others are lawful where these are.
use Rattle.std.proofs.Common.{◌≡◌, ℕ, ◌-◌, Bool, true, false, cond, ◌&&◌, List, ◌++◌, length, Option, Some, None, Result, Ok, Err, refl, sym, ap, subst, ◌∙◌, append_assoc}
use Rattle.std.proofs.lemmas.Bool.{and_parts, and_from, false≢true}
use Rattle.letters.specs.declared.fault.LetterFault.{LetterFault}
use Rattle.letters.specs.declared.fault.LetterFault.TheVariants.{BadField}
use Rattle.letters.specs.Grammar.{◌>>=◌, Grammar, chain, fits_in, renamed, spelling_in, stands_for, tested, variant}
use Rattle.letters.proofs.Lawful.{AreBytes, IsLawful}
use Rattle.letters.proofs.Numbers.{bytes-front}

-- the value of a step that did not fail
pub bind_ok : {X Y : Type 0} (r : Result X LetterFault) (f : X → Result Y LetterFault) (y : Y) → (r >>= f) ≡ Ok y → (x : X) × (r ≡ Ok x) × (f x ≡ Ok y)
bind_ok (Ok x) f y e = (x, refl, e)
bind_ok (Err d) f y e = absurd cc

-- a test that did not fail
pub guard_ok : {X : Type 0} (b : Bool) (d : LetterFault) (x y : X) → cond b (Ok x) (Err d) ≡ Ok y → (b ≡ true) × (x ≡ y)
guard_ok false d x y e = absurd cc
guard_ok true d x y e = (refl, cc)

abbrev done : {X : Type 0} → X → Result X LetterFault
done x = Ok x

pub ok_is : {X : Type 0} (x y : X) → done x ≡ done y → x ≡ y
ok_is x y e = cc

pub tested_lawful : {X : Type 0} (test : X → Bool) (g : Grammar X) → IsLawful g → IsLawful (tested test g)
tested_lawful {X = X} test g lawful = record { read = reads; again = again }
  where
    reads : (end : ℕ) (bytes : List ℕ) (x : X) (rest : List ℕ) → AreBytes bytes → (tested test g).reading end bytes ≡ Ok (x, rest) → (bytes ≡ g.spelling x ++ rest) × ((g.fits x && test x) ≡ true)
    reads end bytes x rest fit e =
        let a = bind_ok (g.reading end bytes) (λ y. cond (test y.0) (Ok y) (Err (BadField (end - length bytes)))) (x, rest) e in
        let b = guard_ok (test a.0.0) (BadField (end - length bytes)) a.0 (x, rest) a.2 in
        let r = lawful.read end bytes x rest fit (a.1 ∙ ap (λ (p : X × List ℕ). done p) b.1) in
        (r.0, and_from (g.fits x) (test x) r.1 (ap (λ (p : X × List ℕ). test p.0) (sym b.1) ∙ b.0))

    again : (end : ℕ) (x : X) (rest : List ℕ) → (g.fits x && test x) ≡ true → (tested test g).reading end (g.spelling x ++ rest) ≡ Ok (x, rest)
    again end x rest h =
        let p = and_parts (g.fits x) (test x) h in
        rw (lawful.again end x rest p.0, p.1) refl

pub chain_lawful : {X Y : Type 0} (g : Grammar X) (h : X → Grammar Y) → IsLawful g → ((x : X) → IsLawful (h x)) → IsLawful (chain g h)
chain_lawful {X = X} {Y = Y} g h first then = record { read = reads; again = again }
  where
    reads : (end : ℕ) (bytes : List ℕ) (p : X × Y) (rest : List ℕ) → AreBytes bytes → (chain g h).reading end bytes ≡ Ok (p, rest)
        → (bytes ≡ (g.spelling p.0 ++ (h p.0).spelling p.1) ++ rest) × ((g.fits p.0 && (h p.0).fits p.1) ≡ true)
    reads end bytes p rest fit e =
        let a = bind_ok (g.reading end bytes) (λ x. (h x.0).reading end x.1 >>= λ y. Ok ((x.0, y.0), y.1)) (p, rest) e in
        let b = bind_ok ((h a.0.0).reading end a.0.1) (λ y. Ok ((a.0.0, y.0), y.1)) (p, rest) a.2 in
        let l = first.read end bytes a.0.0 a.0.1 fit a.1 in
        let r = (then a.0.0).read end a.0.1 b.0.0 b.0.1 (bytes-front (g.spelling a.0.0) a.0.1 (subst AreBytes l.0 fit)) b.1 in
        let whole : bytes ≡ (g.spelling a.0.0 ++ (h a.0.0).spelling b.0.0) ++ b.0.1 = l.0 ∙ ap (λ (t : List ℕ). g.spelling a.0.0 ++ t) r.0 ∙ sym (append_assoc (g.spelling a.0.0) ((h a.0.0).spelling b.0.0) b.0.1) in
        let made : (X × Y) × List ℕ = ((a.0.0, b.0.0), b.0.1) in
        subst (λ (q : (X × Y) × List ℕ). (bytes ≡ (g.spelling q.0.0 ++ (h q.0.0).spelling q.0.1) ++ q.1) × ((g.fits q.0.0 && (h q.0.0).fits q.0.1) ≡ true)) (ok_is made (p, rest) b.2)
        (whole, and_from (g.fits a.0.0) ((h a.0.0).fits b.0.0) l.1 r.1)

    again : (end : ℕ) (p : X × Y) (rest : List ℕ) → (g.fits p.0 && (h p.0).fits p.1) ≡ true → (chain g h).reading end ((g.spelling p.0 ++ (h p.0).spelling p.1) ++ rest) ≡ Ok (p, rest)
    again end p rest fit =
        let f = and_parts (g.fits p.0) ((h p.0).fits p.1) fit in
        ap ((chain g h).reading end) (append_assoc (g.spelling p.0) ((h p.0).spelling p.1) rest) ∙ rw (first.again end p.0 ((h p.0).spelling p.1 ++ rest) f.0, (then p.0).again end p.1 rest f.1) refl

-- that a grammar of one kind of value can stand for another
pub record StandsFor {X Y : Type 0} (proper : Y → Bool) (to : X → Y) (of : Y → X) (g : Grammar X) : Type 0 where
  pub there : (x : X) → g.fits x ≡ true → of (to x) ≡ x
  pub is_proper : (x : X) → g.fits x ≡ true → proper (to x) ≡ true
  pub back : (y : Y) → proper y ≡ true → to (of y) ≡ y

pub stands_for_lawful : {X Y : Type 0} (proper : Y → Bool) (to : X → Y) (of : Y → X) (g : Grammar X) → IsLawful g → StandsFor proper to of g → IsLawful (stands_for proper to of g)
stands_for_lawful {X = X} {Y = Y} proper to of g lawful stands = record { read = reads; again = again }
  where
    reads : (end : ℕ) (bytes : List ℕ) (y : Y) (rest : List ℕ) → AreBytes bytes → (stands_for proper to of g).reading end bytes ≡ Ok (y, rest)
        → (bytes ≡ g.spelling (of y) ++ rest) × ((proper y && g.fits (of y)) ≡ true)
    reads end bytes y rest fit e =
        let a = bind_ok (g.reading end bytes) (λ x. Ok (to x.0, x.1)) (y, rest) e in
        let r = lawful.read end bytes a.0.0 a.0.1 fit a.1 in
        let there = sym (stands.there a.0.0 r.1) in
        let made : Y × List ℕ = (to a.0.0, a.0.1) in
        subst (λ (q : Y × List ℕ). (bytes ≡ g.spelling (of q.0) ++ q.1) × ((proper q.0 && g.fits (of q.0)) ≡ true)) (ok_is made (y, rest) a.2)
        (r.0 ∙ ap (λ (x : X). g.spelling x ++ a.0.1) there, and_from (proper (to a.0.0)) (g.fits (of (to a.0.0))) (stands.is_proper a.0.0 r.1) (subst (λ (x : X). g.fits x ≡ true) there r.1))

    again : (end : ℕ) (y : Y) (rest : List ℕ) → (proper y && g.fits (of y)) ≡ true → (stands_for proper to of g).reading end (g.spelling (of y) ++ rest) ≡ Ok (y, rest)
    again end y rest h =
        let k = and_parts (proper y) (g.fits (of y)) h in
        rw (lawful.again end (of y) rest k.1) (ap (λ (z : Y). done (z, rest)) (stands.back y k.0))

pub renamed_lawful : {X Y : Type 0} (to : X → Y) (of : Y → X) (g : Grammar X) → IsLawful g → ((x : X) → g.fits x ≡ true → of (to x) ≡ x) → ((y : Y) → to (of y) ≡ y) → IsLawful (renamed to of g)
renamed_lawful to of g lawful there back = stands_for_lawful (λ _. true) to of g lawful (record { there = there; is_proper = λ x h. refl; back = λ y h. back y })

-- that a variant can be told
pub record IsVariant {X Y : Type 0} (to : X → Y) (of : Y → Option X) : Type 0 where
  pub there : (x : X) → of (to x) ≡ Some x
  pub back : (y : Y) (x : X) → of y ≡ Some x → to x ≡ y

pub variant_lawful : {X Y : Type 0} (to : X → Y) (of : Y → Option X) (g : Grammar X) → IsLawful g → IsVariant to of → IsLawful (variant to of g)
variant_lawful {X = X} {Y = Y} to of g lawful is = record { read = reads; again = again }
  where
    reads : (end : ℕ) (bytes : List ℕ) (y : Y) (rest : List ℕ) → AreBytes bytes → (variant to of g).reading end bytes ≡ Ok (y, rest)
        → (bytes ≡ spelling_in g (of y) ++ rest) × (fits_in g (of y) ≡ true)
    reads end bytes y rest fit e =
        let a = bind_ok (g.reading end bytes) (λ x. Ok (to x.0, x.1)) (y, rest) e in
        let r = lawful.read end bytes a.0.0 a.0.1 fit a.1 in
        let made : Y × List ℕ = (to a.0.0, a.0.1) in
        subst (λ (q : Y × List ℕ). (bytes ≡ spelling_in g (of q.0) ++ q.1) × (fits_in g (of q.0) ≡ true)) (ok_is made (y, rest) a.2) (rw (is.there a.0.0) r)

    by : (end : ℕ) (y : Y) (rest : List ℕ) (o : Option X) → of y ≡ o → fits_in g o ≡ true → (variant to of g).reading end (spelling_in g o ++ rest) ≡ Ok (y, rest)
    by end y rest None e h = absurd (false≢true h)
    by end y rest (Some x) e h = rw (lawful.again end x rest h) (ap (λ (z : Y). done (z, rest)) (is.back y x e))

    again : (end : ℕ) (y : Y) (rest : List ℕ) → fits_in g (of y) ≡ true → (variant to of g).reading end (spelling_in g (of y) ++ rest) ≡ Ok (y, rest)
    again end y rest h = by end y rest (of y) refl h
