-- What a part sends in a round: in each phase that it enters, one letter to each other part.
use Rattle.std.proofs.Common.{◌≡◌, ◌+◌, ◌-◌, ◌*◌, ◌≤◌, ℕ, zero, suc, true, false, cond, length, Some, None, Ok, Err, refl, sym, ap, subst, ◌∙◌, arith}
use Rattle.std.specs.Prelude.{◌==◌}
use Rattle.std.proofs.lemmas.Bool.Decides.{nat_tests}
use Rattle.std.proofs.lemmas.List.{length-append, length-map}
use Rattle.std.proofs.Math.Nat.{suc-mul}
use Rattle.part_phases.specs.Inboxes.{others, put_in}
use Rattle.part_phases.specs.Phases.{begins_at, begun, entered, gone_on, handed, if_owed, is_complete, is_owed, letters_of, moved, phases_left, with_letter}
use Rattle.part_phases.specs.Standings.{Letter, Outcome, Rules, Standing}
use Rattle.part_phases.proofs.Kept.{gone_over, opened, same_part, still_open}
use Rattle.world_run.specs.steps.Tracking.{unsent}

none_sent : (n : ℕ) → 0 + n ≡ n
none_sent n = omega arith

-- in the last phase nothing is left to send, nor past it
last_sent : (last phase m : ℕ) → (phase == last) ≡ true → 0 + (last - (phase + 1)) * m ≡ (last - phase) * m
last_sent last phase m is =
    let at_last : last - phase ≡ 0 = grind (arith, nat_tests) in
    let past : last - (phase + 1) ≡ 0 = omega (arith, at_last) in
    rw (at_last, past) (omega arith)

-- before it there is a phase to enter, with as many letters as there are others
one_sent : (last phase m all others further left : ℕ) → phase ≤ last → (phase == last) ≡ false → all ≡ others + further → others ≡ m → further + left ≡ (last - (phase + 1)) * m → all + left ≡ (last - phase) * m
one_sent last phase m all others further left below before a b c =
    let next : last - phase ≡ suc (last - (phase + 1)) = grind (arith, nat_tests) in
    rw (next, suc-mul (last - (phase + 1)) m) (omega (arith, a, b, c))

first_sent : (last m all others further left : ℕ) → all ≡ others + further → others ≡ m → further + left ≡ (last - 0) * m → all + left ≡ (last + 1) * m
first_sent last m all others further left a b c =
    let none : last - 0 ≡ last = omega arith in
    let rest : further + left ≡ last * m = c ∙ ap (λ n. n * m) none in
    let more : last + 1 ≡ suc last = omega arith in
    rw (more, suc-mul last m) (omega (arith, a, b, rest))

module _ {S B W : Type 0} (r : Rules S B W) where
  -- what a part sends is no longer to be sent
  abbrev pub Sends : Standing S B → Outcome S B W → Type 0
  Sends s due = length due.letters + unsent r due.part ≡ unsent r s

  as_many : (s : Standing S B) → length (letters_of r s) ≡ length (others r.parts s.me)
  as_many s = length-map (others r.parts s.me) _

  sends-gone_on : (n : ℕ) (s : Standing S B) → s.phase ≤ r.last s.round → Sends s (gone_on r n s)
  sends-gone_on zero s below = none_sent (unsent r s)
  sends-gone_on (suc n) s below =
      elim (is_complete r s) as (λ c. is_complete r s ≡ c → Sends s (gone_on r (suc n) s)) [
        | false ↦ λ c. subst (Sends s) (sym (still_open r n s c)) (none_sent (unsent r s))
        | true ↦ λ c. elim (r.ends s) as (λ e. r.ends s ≡ e → Sends s (gone_on r (suc n) s)) [
          | Err total ↦ λ e. subst (Sends s) (sym (gone_over r n s total c e)) (none_sent (unsent r s))
          | Ok held ↦ λ e. elim (s.phase == r.last s.round) as (λ b. (s.phase == r.last s.round) ≡ b → Sends s (gone_on r (suc n) s)) [
            | true ↦ λ b. subst (Sends s) (sym (opened r n s true held c e b)) (last_sent (r.last s.round) s.phase (length (others r.parts s.me)) b)
            | false ↦ λ b.
                let next : Standing S B = moved r s held in
                let further : Outcome S B W = gone_on r n (entered r next) in
                let rest = sends-gone_on n (entered r next) (grind (arith, nat_tests)) in
                subst (Sends s) (sym (opened r n s false held c e b))
                (one_sent (r.last s.round) s.phase (length (others r.parts s.me)) _ _ (length further.letters) (unsent r further.part) below b (length-append (letters_of r next) further.letters) (as_many next) rest)
          ] refl
        ] refl
      ] refl

  unsent-with_letter : (s : Standing S B) (l : Letter B) → unsent r (with_letter s l) ≡ unsent r s
  unsent-with_letter s l = elim (l.phase == s.phase) as (λ b. unsent r (cond b (record s { now = put_in l.sender l.body s.now }) (record s { early = put_in l.sender l.body s.early })) ≡ unsent r s) [ true ↦ refl | false ↦ refl ]

  -- a letter, whether it is owed or refused
  pub sends-handed : (s : Standing S B) (l : Letter B) → s.phase ≤ r.last s.round → Sends s (handed r s l)
  sends-handed s l below =
      let further : Outcome S B W = gone_on r (phases_left r s) (with_letter s l) in
      let same = same_part s l in
      let last_same : r.last (with_letter s l).round ≡ r.last s.round = ap r.last same.1 in
      let goes : Sends s further = sends-gone_on (phases_left r s) (with_letter s l) (omega (arith, below, last_same, same.2)) ∙ unsent-with_letter s l in
      elim (is_owed r s l) as (λ o. Sends s (if_owed o (r.wrong s.round l.body) s further)) [
        | false ↦ none_sent (unsent r s)
        | true ↦ elim (r.wrong s.round l.body) as (λ w. Sends s (if_owed true w s further)) [
          | Some wrong ↦ none_sent (unsent r s)
          | None ↦ goes
        ]
      ]

  -- a round that begins
  pub sends-begun : (round : ℕ) (s : Standing S B) → length (begun r round s).letters + unsent r (begun r round s).part ≡ (r.last round + 1) * length (others r.parts s.me)
  sends-begun round s =
      let first : Standing S B = begins_at r round s in
      let further : Outcome S B W = gone_on r (phases_left r first) (entered r first) in
      let rest = sends-gone_on (phases_left r first) (entered r first) (omega arith) in
      first_sent (r.last round) (length (others r.parts s.me)) _ _ (length further.letters) (unsent r further.part) (length-append (letters_of r first) further.letters) (as_many first) rest
