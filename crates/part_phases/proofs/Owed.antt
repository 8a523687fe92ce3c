-- What a part is owed, while it goes from phase to phase.
use Rattle.std.proofs.Common.{◌≡◌, ◌≢◌, ℕ, zero, suc, ◌+◌, ◌-◌, ◌*◌, ◌<◌, ◌≤◌, Bool, true, false, cond, not, ◌&&◌, ◌||◌, length, leb, nat_le, nat_lt, None, Ok, Err, refl, sym, ap, subst, ◌∙◌, arith}
use Rattle.std.specs.Prelude.{◌==◌}
use Rattle.std.proofs.lemmas.Bool.{false≢true}
use Rattle.std.proofs.lemmas.Bool.Decides.{nat_tests}
use Rattle.std.proofs.Math.Nat.{suc-mul}
use Rattle.std.proofs.lemmas.Bool.{and_parts}
use Rattle.part_phases.specs.Inboxes.{lacks, missing, others, put_in}
use Rattle.part_phases.specs.Standings.{Letter, Rules, Standing}
use Rattle.part_phases.specs.Phases.{moved, entered, is_complete, gone_on, phases_left, after_entering, with_letter, if_complete, if_owed, handed, is_owed, begins_at, begun}
use Rattle.part_phases.specs.Owed.{RoundBegunOwesAllLetters, TakenLetterLowersWhatIsOwed, letters_owed}
use Rattle.part_phases.proofs.Inboxes.{missing-empty, missing-own, missing-put_in}

-- what is owed of this phase, of the next and of later ones, once a phase in which nothing is owed is past
past_one : (phase last e m : ℕ) → phase ≤ last
    → cond (nat_le (phase + 1) last) (e + cond (nat_lt (phase + 1) last) (m + ((last - (phase + 1)) - 1) * m) 0) 0 ≡ 0 + cond (nat_lt phase last) (e + ((last - phase) - 1) * m) 0
past_one phase last e m below =
    elim (last - phase) as (λ d. last - phase ≡ d → cond (nat_le (phase + 1) last) (e + cond (nat_lt (phase + 1) last) (m + ((last - (phase + 1)) - 1) * m) 0) 0 ≡ 0 + cond (nat_lt phase last) (e + ((last - phase) - 1) * m) 0) [
      | zero ↦ λ is. grind (arith, nat_tests)
      | suc d ↦ λ is. elim d as (λ f. d ≡ f → cond (nat_le (phase + 1) last) (e + cond (nat_lt (phase + 1) last) (m + ((last - (phase + 1)) - 1) * m) 0) 0 ≡ 0 + cond (nat_lt phase last) (e + ((last - phase) - 1) * m) 0) [
        | zero ↦ λ end.
            let one : (last - phase) - 1 ≡ 0 = omega arith in
            rw one (grind (arith, nat_tests))
        | suc f ↦ λ more.
            let two : (last - phase) - 1 ≡ suc f = omega arith in
            let one : (last - (phase + 1)) - 1 ≡ f = omega arith in
            rw (one, two, suc-mul f m) (grind (arith, nat_tests))
      ] refl
    ] refl

-- where the second of two does not hold, the first does
pub first_of_two : (a b c : Bool) → b ≡ false → (a || b && c) ≡ true → a ≡ true
first_of_two true b c e f = refl
first_of_two false true c e f = absurd (false≢true (sym e))
first_of_two false false c e f = absurd (false≢true f)

-- a letter of this phase or the next, which is not past the last, finds the part before the end
pub in_phase : (n phase last : ℕ) (x y : Bool) → ((n == phase) && x || (n == phase + 1) && y) ≡ true → n ≤ last → phase ≤ last
in_phase n phase last x y owed within = elim (n == phase) as (λ k. (n == phase) ≡ k → (k && x || (n == phase + 1) && y) ≡ true → phase ≤ last) [
  | true ↦ λ e f. grind (arith, nat_tests)
  | false ↦ λ e f. let next = (and_parts (n == phase + 1) y f).0 in grind (arith, nat_tests)
] refl owed

-- what is owed before anything has come
from_start : (last m : ℕ) → cond (nat_le 0 last) (m + cond (nat_lt 0 last) (m + ((last - 0) - 1) * m) 0) 0 ≡ (last + 1) * m
from_start zero m = omega arith
from_start (suc n) m =
    let below : nat_le 0 (suc n) ≡ true = grind (arith, nat_tests) in
    let before : nat_lt 0 (suc n) ≡ true = grind (arith, nat_tests) in
    let later : (suc n - 0) - 1 ≡ n = omega arith in
    let all : suc n + 1 ≡ suc (suc n) = omega arith in
    rw (below, before, later, all, suc-mul (suc n) m, suc-mul n m) (omega arith)

module _ {S B W : Type 0} (r : Rules S B W) where
  -- a phase that is complete has nothing left, so to move on leaves as much
  pub owed-moved : (s : Standing S B) (held : S) → is_complete r s ≡ true → s.phase ≤ r.last s.round → letters_owed r (moved r s held) ≡ letters_owed r s
  owed-moved s held complete below =
      let none : missing r.parts s.me s.now ≡ 0 = grind (arith, nat_tests) in
      let here : leb s.phase (r.last s.round) ≡ true = grind (arith, nat_tests) in
      rw (none, here, missing-empty B r.parts s.me) (past_one s.phase (r.last s.round) (missing r.parts s.me s.early) (length (others r.parts s.me)) below)

  -- the own body is no letter
  owed-entered : (s : Standing S B) → letters_owed r (entered r s) ≡ letters_owed r s
  owed-entered s = ap (λ m. cond (nat_le s.phase (r.last s.round)) (m + cond (nat_lt s.phase (r.last s.round)) (missing r.parts s.me s.early + ((r.last s.round - s.phase) - 1) * length (others r.parts s.me)) 0) 0) (missing-own s.me (r.sends s s.me) s.now r.parts)

  owed-gone_on : (n : ℕ) (s : Standing S B) → s.phase ≤ r.last s.round → letters_owed r (gone_on r n s).part ≡ letters_owed r s
  owed-gone_on zero s below = refl
  owed-gone_on (suc n) s below =
      elim (is_complete r s) as (λ b. is_complete r s ≡ b → letters_owed r (if_complete b (r.ends s) (s.phase == r.last s.round) s (moved r s) (λ held. after_entering r (moved r s held) (gone_on r n (entered r (moved r s held))))).part ≡ letters_owed r s) [
        | false ↦ λ _. refl
        | true ↦ λ complete. elim (r.ends s) as (λ e. letters_owed r (if_complete true e (s.phase == r.last s.round) s (moved r s) (λ held. after_entering r (moved r s held) (gone_on r n (entered r (moved r s held))))).part ≡ letters_owed r s) [
          | Err total ↦ refl
          | Ok held ↦ elim (s.phase == r.last s.round) as (λ b. (s.phase == r.last s.round) ≡ b → letters_owed r (if_complete true (Ok held) b s (moved r s) (λ held. after_entering r (moved r s held) (gone_on r n (entered r (moved r s held))))).part ≡ letters_owed r s) [
            | true ↦ λ _. owed-moved s held complete below
            | false ↦ λ e. owed-gone_on n (entered r (moved r s held)) (grind (arith, nat_tests)) ∙ owed-entered (moved r s held) ∙ owed-moved s held complete below
          ] refl
        ]
      ] refl

  -- what an owed letter is
  pub owed_parts : (s : Standing S B) (l : Letter B) → is_owed r s l ≡ true
      → (l.sender < r.parts) × (l.sender ≢ s.me) × (l.phase ≤ r.last s.round) × (((l.phase == s.phase) && lacks s.now l.sender) || ((l.phase == s.phase + 1) && lacks s.early l.sender)) ≡ true
  owed_parts s l owed =
      let a = and_parts (l.round == s.round) _ owed in
      let b = and_parts (l.target == s.me) _ a.1 in
      let c = and_parts (nat_lt l.sender r.parts) _ b.1 in
      let d = and_parts (not (l.sender == s.me)) _ c.1 in
      let e = and_parts (nat_le l.phase (r.last s.round)) _ d.1 in
      let f = and_parts (r.fits l.phase l.body) _ e.1 in
      let within : l.sender < r.parts = let t = c.0 in grind (arith, nat_tests) in
      let other : l.sender ≢ s.me = let t = d.0 in grind (arith, nat_tests) in
      let below : l.phase ≤ r.last s.round = let t = e.0 in grind (arith, nat_tests) in
      (within, other, below, f.1)

  owed-with_letter : (s : Standing S B) (l : Letter B) → s.phase ≤ r.last s.round → is_owed r s l ≡ true → letters_owed r (with_letter s l) + 1 ≡ letters_owed r s
  owed-with_letter s l here owed =
      let parts = owed_parts s l owed in
      elim (l.phase == s.phase) as (λ b. (l.phase == s.phase) ≡ b → ((b && lacks s.now l.sender) || ((l.phase == s.phase + 1) && lacks s.early l.sender)) ≡ true
      → letters_owed r (cond b (record s { now = put_in l.sender l.body s.now }) (record s { early = put_in l.sender l.body s.early })) + 1 ≡ letters_owed r s) [
        | true ↦ λ e f.
            let lacking : lacks s.now l.sender ≡ true = first_of_two (lacks s.now l.sender) (l.phase == s.phase + 1) (lacks s.early l.sender) (grind (arith, nat_tests)) f in
            let one = missing-put_in l.sender l.body s.now r.parts s.me parts.0 parts.1 lacking in
            let within : leb s.phase (r.last s.round) ≡ true = grind (arith, nat_tests) in
            rw within (omega arith)
        | false ↦ λ e f.
            let both = and_parts (l.phase == s.phase + 1) _ f in
            let one = missing-put_in l.sender l.body s.early r.parts s.me parts.0 parts.1 both.1 in
            let next : l.phase ≡ s.phase + 1 = let t = both.0 in grind (arith, nat_tests) in
            let within : leb s.phase (r.last s.round) ≡ true = grind (arith, nat_tests) in
            let before : nat_lt s.phase (r.last s.round) ≡ true = let t = parts.2 in grind (arith, nat_tests) in
            rw (within, before) (omega arith)
      ] refl parts.3

  -- a letter that is taken lowers by one what the part is owed
  pub owed-handed : (s : Standing S B) (l : Letter B) → s.phase ≤ r.last s.round → is_owed r s l ≡ true → r.wrong s.round l.body ≡ None → letters_owed r (handed r s l).part + 1 ≡ letters_owed r s
  owed-handed s l here owed right =
      let kept : (with_letter s l).phase ≤ r.last s.round = elim (l.phase == s.phase) as (λ b. (cond b (record s { now = put_in l.sender l.body s.now }) (record s { early = put_in l.sender l.body s.early })).phase ≤ r.last s.round) [ true ↦ here | false ↦ here ] in
      let same : r.last (with_letter s l).round ≡ r.last s.round = elim (l.phase == s.phase) as (λ b. r.last (cond b (record s { now = put_in l.sender l.body s.now }) (record s { early = put_in l.sender l.body s.early })).round ≡ r.last s.round) [ true ↦ refl | false ↦ refl ] in
      ap (λ b. letters_owed r (if_owed b (r.wrong s.round l.body) s (gone_on r (phases_left r s) (with_letter s l))).part + 1) owed
      ∙ ap (λ w. letters_owed r (if_owed true w s (gone_on r (phases_left r s) (with_letter s l))).part + 1) right
      ∙ ap (λ n. n + 1) (owed-gone_on (phases_left r s) (with_letter s l) (subst (λ n. (with_letter s l).phase ≤ n) (sym same) kept))
      ∙ owed-with_letter s l here owed

  -- a round that has begun owes a letter of each phase from each other part
  owed-begun : (round : ℕ) (s : Standing S B) → letters_owed r (begun r round s).part ≡ (r.last round + 1) * length (others r.parts s.me)
  owed-begun round s =
      let first : Standing S B = begins_at r round s in
      owed-gone_on (phases_left r first) (entered r first) (omega arith) ∙ owed-entered first
      ∙ ap (λ m. cond (nat_le 0 (r.last round)) (m + cond (nat_lt 0 (r.last round)) (m + ((r.last round - 0) - 1) * length (others r.parts s.me)) 0) 0) (missing-empty B r.parts s.me)
      ∙ from_start (r.last round) (length (others r.parts s.me))

pub taken_letter_lowers_what_is_owed : {S B W : Type 0} → TakenLetterLowersWhatIsOwed S B W
taken_letter_lowers_what_is_owed r s l owed right =
    let parts = owed_parts r s l owed in
    owed-handed r s l (in_phase l.phase s.phase (r.last s.round) (lacks s.now l.sender) (lacks s.early l.sender) parts.3 parts.2) owed right

pub round_begun_owes_all_letters : {S B W : Type 0} → RoundBegunOwesAllLetters S B W
round_begun_owes_all_letters r round s = owed-begun r round s
