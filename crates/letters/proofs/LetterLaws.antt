-- The grammar of letters is lawful.
use Rattle.std.proofs.Common.{◌≡◌, ℕ, zero, suc, Bool, true, cond, leb, ltb, eqb, ◌&&◌, length, List, [], ◌++◌, Option, Some, Result, Ok, Err, refl, sym, ap, subst, ◌∙◌, arith}
use Rattle.std.specs.Prelude.{IfOk}
use Rattle.std.proofs.lemmas.Bool.{and_parts, eqb-true, false≢true, leb-true}
use Rattle.std.proofs.lemmas.List.{append-nil, nil_from_length}
use Rattle.ma_cells.specs.declared.batch.Batch.{Batch}
use Rattle.cavity_rank.specs.Operations.{Operation}
use Rattle.letters.specs.declared.fault.LetterFault.{LetterFault}
use Rattle.letters.specs.declared.fault.LetterFault.TheVariants.{Long}
use Rattle.letters.specs.declared.letter.Body.{Body}
use Rattle.letters.specs.declared.letter.Body.TheVariants as bodies
use Rattle.letters.specs.declared.letter.Letter.{Letter}
use Rattle.letters.specs.declared.letter.LetterKind.{LetterKind}
use Rattle.letters.specs.declared.letter.LetterKind.TheVariants as kinds
use Rattle.letters.specs.declared.letter.Post.{Post}
use Rattle.letters.specs.declared.letter.Reply.{Reply}
use Rattle.letters.specs.Bodies.{batch, body_of, delivered_in, ghosts_in, kind, kind_at, kind_number, kind_of, list_of, operations, ordered_in, post, post_in, proposed_in, reply, reply_in, voted_in}
use Rattle.letters.specs.Entries.{mark, mark_before, operation, operation_before, shared, tet, tet_before}
use Rattle.letters.specs.Fields.{between, place, place_before}
use Rattle.letters.specs.Grammar.{Grammar, chain, number, ◌then◌}
use Rattle.letters.proofs.Lawful.{AreBytes, IsLawful}
use Rattle.letters.specs.Letters.{Gives, IsLetter, NoSpellingBeginsAnother, letter, read, spelling}
use Rattle.letters.specs.Sharing.{shared_before}
use Rattle.letters.proofs.Combined.{bind_ok, chain_lawful, guard_ok, ok_is, renamed_lawful, variant_lawful}
use Rattle.letters.proofs.EntryLaws.{mark_lawful, operation_lawful, shared_lawful, tet_lawful}
use Rattle.letters.proofs.FieldLaws.{between_lawful, place_lawful}
use Rattle.letters.proofs.Listed.{counted_lawful}
use Rattle.letters.proofs.Numbers.{number_lawful}

list_lawful : {X : Type 0} (before : X → X → Bool) (entry : Grammar X) → IsLawful entry → IsLawful (list_of before entry)
list_lawful before entry lawful = counted_lawful before entry lawful (number 8) (number_lawful 8)

then_lawful : {X Y : Type 0} (g : Grammar X) (h : Grammar Y) → IsLawful g → IsLawful h → IsLawful (g then h)
then_lawful g h first second = chain_lawful g (λ _. h) first (λ _. second)

marks_lawful : IsLawful (list_of mark_before mark)
marks_lawful = list_lawful mark_before mark mark_lawful

post_lawful : IsLawful post
post_lawful =
    renamed_lawful _ _ (number 4 then list_of place_before place then list_of mark_before mark)
    (then_lawful (number 4) (list_of place_before place then list_of mark_before mark) (number_lawful 4)
    (then_lawful (list_of place_before place) (list_of mark_before mark) (list_lawful place_before place place_lawful) marks_lawful)) (λ p h. refl) (λ b. refl)

reply_lawful : IsLawful reply
reply_lawful =
    renamed_lawful _ _ (list_of shared_before shared then list_of mark_before mark)
    (then_lawful (list_of shared_before shared) (list_of mark_before mark) (list_lawful shared_before shared shared_lawful) marks_lawful) (λ p h. refl) (λ b. refl)

batch_lawful : IsLawful batch
batch_lawful =
    renamed_lawful _ _ (list_of tet_before tet then list_of mark_before mark)
    (then_lawful (list_of tet_before tet) (list_of mark_before mark) (list_lawful tet_before tet tet_lawful) marks_lawful) (λ p h. refl) (λ b. refl)

operations_lawful : IsLawful operations
operations_lawful = list_lawful operation_before operation operation_lawful

abbrev given : {X : Type 0} → X → Option X
given x = Some x

some_is : {X : Type 0} (x y : X) → given x ≡ Some y → x ≡ y
some_is x y e = cc

-- ---- kinds
number_again : (n : ℕ) → (between 1 7).fits n ≡ true → kind_number (kind_at n) ≡ n
number_again zero h = absurd (false≢true h)
number_again (suc zero) h = refl
number_again (suc (suc zero)) h = refl
number_again (suc (suc (suc zero))) h = refl
number_again (suc (suc (suc (suc zero)))) h = refl
number_again (suc (suc (suc (suc (suc zero))))) h = refl
number_again (suc (suc (suc (suc (suc (suc zero)))))) h = refl
number_again (suc (suc (suc (suc (suc (suc (suc zero))))))) h = refl
number_again (suc (suc (suc (suc (suc (suc (suc (suc n)))))))) h =
    let a = and_parts (ltb (suc (suc (suc (suc (suc (suc (suc (suc n)))))))) 256) (leb 1 (suc (suc (suc (suc (suc (suc (suc (suc n)))))))) && leb (suc (suc (suc (suc (suc (suc (suc (suc n)))))))) 7) h in
    absurd (omega (arith, leb-true _ _ (and_parts (leb 1 (suc (suc (suc (suc (suc (suc (suc (suc n))))))))) (leb (suc (suc (suc (suc (suc (suc (suc (suc n)))))))) 7) a.1).1))

kind_again : (k : LetterKind) → kind_at (kind_number k) ≡ k
kind_again kinds.Post = refl
kind_again kinds.Reply = refl
kind_again kinds.Ghosts = refl
kind_again kinds.Propose = refl
kind_again kinds.Vote = refl
kind_again kinds.Order = refl
kind_again kinds.Deliver = refl

kind_lawful : IsLawful kind
kind_lawful = renamed_lawful kind_at kind_number (between 1 7) (between_lawful 1 7) number_again kind_again

post_is : (b : Body) (x : Post) → post_in b ≡ Some x → bodies.Post x ≡ b
post_is (bodies.Post b) x e = ap bodies.Post (some_is _ _ (sym e))
post_is _ x e = absurd cc

reply_is : (b : Body) (x : Reply) → reply_in b ≡ Some x → bodies.Reply x ≡ b
reply_is (bodies.Reply b) x e = ap bodies.Reply (some_is _ _ (sym e))
reply_is _ x e = absurd cc

ghosts_is : (b : Body) (x : Batch) → ghosts_in b ≡ Some x → bodies.Ghosts x ≡ b
ghosts_is (bodies.Ghosts b) x e = ap bodies.Ghosts (some_is _ _ (sym e))
ghosts_is _ x e = absurd cc

propose_is : (b : Body) (x : List Operation) → proposed_in b ≡ Some x → bodies.Propose x ≡ b
propose_is (bodies.Propose b) x e = ap bodies.Propose (some_is _ _ (sym e))
propose_is _ x e = absurd cc

vote_is : (b : Body) (x : List Operation) → voted_in b ≡ Some x → bodies.Vote x ≡ b
vote_is (bodies.Vote b) x e = ap bodies.Vote (some_is _ _ (sym e))
vote_is _ x e = absurd cc

order_is : (b : Body) (x : List Operation) → ordered_in b ≡ Some x → bodies.Order x ≡ b
order_is (bodies.Order b) x e = ap bodies.Order (some_is _ _ (sym e))
order_is _ x e = absurd cc

deliver_is : (b : Body) (x : Batch) → delivered_in b ≡ Some x → bodies.Deliver x ≡ b
deliver_is (bodies.Deliver b) x e = ap bodies.Deliver (some_is _ _ (sym e))
deliver_is _ x e = absurd cc

body_lawful : (k : LetterKind) → IsLawful (body_of k)
body_lawful kinds.Post = variant_lawful bodies.Post post_in post post_lawful (record { there = λ x. refl; back = post_is })
body_lawful kinds.Reply = variant_lawful bodies.Reply reply_in reply reply_lawful (record { there = λ x. refl; back = reply_is })
body_lawful kinds.Ghosts = variant_lawful bodies.Ghosts ghosts_in batch batch_lawful (record { there = λ x. refl; back = ghosts_is })
body_lawful kinds.Propose = variant_lawful bodies.Propose proposed_in operations operations_lawful (record { there = λ x. refl; back = propose_is })
body_lawful kinds.Vote = variant_lawful bodies.Vote voted_in operations operations_lawful (record { there = λ x. refl; back = vote_is })
body_lawful kinds.Order = variant_lawful bodies.Order ordered_in operations operations_lawful (record { there = λ x. refl; back = order_is })
body_lawful kinds.Deliver = variant_lawful bodies.Deliver delivered_in batch batch_lawful (record { there = λ x. refl; back = deliver_is })

-- a body that fits a kind is of this kind
kind_is : (k : LetterKind) (b : Body) → (body_of k).fits b ≡ true → kind_of b ≡ k
kind_is kinds.Post (bodies.Post b) h = refl
kind_is kinds.Post _ h = absurd (false≢true h)
kind_is kinds.Reply (bodies.Reply b) h = refl
kind_is kinds.Reply _ h = absurd (false≢true h)
kind_is kinds.Ghosts (bodies.Ghosts b) h = refl
kind_is kinds.Ghosts _ h = absurd (false≢true h)
kind_is kinds.Propose (bodies.Propose b) h = refl
kind_is kinds.Propose _ h = absurd (false≢true h)
kind_is kinds.Vote (bodies.Vote b) h = refl
kind_is kinds.Vote _ h = absurd (false≢true h)
kind_is kinds.Order (bodies.Order b) h = refl
kind_is kinds.Order _ h = absurd (false≢true h)
kind_is kinds.Deliver (bodies.Deliver b) h = refl
kind_is kinds.Deliver _ h = absurd (false≢true h)

-- what stands behind the kind
abbrev behind_kind : LetterKind → Grammar (ℕ × (ℕ × (ℕ × (ℕ × Body))))
behind_kind k = number 4 then number 4 then number 1 then number 1 then body_of k

behind_lawful : (k : LetterKind) → IsLawful (behind_kind k)
behind_lawful k =
    then_lawful (number 4) (number 4 then number 1 then number 1 then body_of k) (number_lawful 4)
    (then_lawful (number 4) (number 1 then number 1 then body_of k) (number_lawful 4)
    (then_lawful (number 1) (number 1 then body_of k) (number_lawful 1) (then_lawful (number 1) (body_of k) (number_lawful 1) (body_lawful k))))

letter_lawful : IsLawful letter
letter_lawful = renamed_lawful _ (λ l. (kind_of l.body, (l.round, (l.phase, (l.sender, (l.target, l.body)))))) (chain kind behind_kind) (chain_lawful kind behind_kind kind_lawful behind_lawful) there (λ l. refl)
  where
    there : (p : LetterKind × (ℕ × (ℕ × (ℕ × (ℕ × Body))))) → (chain kind behind_kind).fits p ≡ true → (kind_of p.1.1.1.1.1, p.1) ≡ p
    there p h =
        let b = p.1.1.1.1.1 in
        let k = p.0 in
        let f = and_parts (kind.fits k) ((behind_kind k).fits p.1) h in
        let g = and_parts ((number 4).fits p.1.0) ((number 4 then number 1 then number 1 then body_of k).fits p.1.1) f.1 in
        let i = and_parts ((number 4).fits p.1.1.0) ((number 1 then number 1 then body_of k).fits p.1.1.1) g.1 in
        let j = and_parts ((number 1).fits p.1.1.1.0) ((number 1 then body_of k).fits p.1.1.1.1) i.1 in
        let l = and_parts ((number 1).fits p.1.1.1.1.0) ((body_of k).fits b) j.1 in
        ap (λ (m : LetterKind). (m, p.1)) (kind_is k b l.1)

-- ---- all of the bytes
pub read_is : (bytes : List ℕ) (l : Letter) → AreBytes bytes → read bytes ≡ Ok l → IsLetter l × (bytes ≡ spelling l)
read_is bytes l fit e =
    let a = bind_ok (letter.reading (length bytes) bytes) (λ p. cond (eqb (length p.1) 0) (Ok p.0) (Err Long)) l e in
    let g = guard_ok (eqb (length a.0.1) 0) Long a.0.0 l a.2 in
    let r = letter_lawful.read (length bytes) bytes a.0.0 a.0.1 fit a.1 in
    let none : a.0.1 ≡ [] = nil_from_length a.0.1 (eqb-true _ _ g.0) in
    let whole : bytes ≡ spelling a.0.0 = r.0 ∙ ap (λ (t : List ℕ). spelling a.0.0 ++ t) none ∙ append-nil (spelling a.0.0) in
    subst (λ (m : Letter). IsLetter m × (bytes ≡ spelling m)) g.1 (r.1, whole)

pub read_again : (l : Letter) → IsLetter l → read (spelling l) ≡ Ok l
read_again l fit =
    let again : letter.reading (length (spelling l)) (spelling l) ≡ Ok (l, []) = ap (letter.reading (length (spelling l))) (sym (append-nil (spelling l))) ∙ letter_lawful.again (length (spelling l)) l [] fit in
    rw again refl

pub no_spelling_begins_another : NoSpellingBeginsAnother
no_spelling_begins_another l m rest fl fm e =
    let one : letter.reading 0 (spelling m) ≡ Ok (m, []) = ap (letter.reading 0) (sym (append-nil (spelling m))) ∙ letter_lawful.again 0 m [] fm in
    let other : letter.reading 0 (spelling m) ≡ Ok (l, rest) = ap (letter.reading 0) e ∙ letter_lawful.again 0 l rest fl in
    let both = ok_is (m, []) (l, rest) (sym one ∙ other) in
    (ap (λ (p : Letter × List ℕ). p.1) (sym both), ap (λ (p : Letter × List ℕ). p.0) both)

pub is_found : (bytes : List ℕ) (r : Result Letter LetterFault) → AreBytes bytes → Gives (λ l. l) r (read bytes) → IfOk r (λ l. IsLetter l × (bytes ≡ spelling l))
is_found bytes (Ok l) fit given = read_is bytes l fit given
is_found bytes (Err fault) fit given = tt

kind_fits : (k : LetterKind) → kind.fits k ≡ true
kind_fits kinds.Post = refl
kind_fits kinds.Reply = refl
kind_fits kinds.Ghosts = refl
kind_fits kinds.Propose = refl
kind_fits kinds.Vote = refl
kind_fits kinds.Order = refl
kind_fits kinds.Deliver = refl

-- a letter has a spelling where its numbers and its body have
pub letter_fits : (l : Letter) → (number 4).fits l.round ≡ true → (number 4).fits l.phase ≡ true → (number 1).fits l.sender ≡ true → (number 1).fits l.target ≡ true
    → (body_of (kind_of l.body)).fits l.body ≡ true → IsLetter l
letter_fits l round phase sender target body = rw (kind_fits (kind_of l.body), round, phase, sender, target) body
