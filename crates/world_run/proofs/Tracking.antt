-- A run over a carrier that tells which letters wait follows a drawing, turn by turn, whatever the parts hold.
use Rattle.std.proofs.Common.{◌≡◌, ◌+◌, ◌%◌, ◌≤◌, ℕ, zero, suc, true, false, cond, List, [], ◌∷◌, ◌++◌, length, map, set, Option, Some, None, Ok, refl, sym, ap, ap₂, subst, ◌∙◌, arith}
use Rattle.std.specs.Prelude.{IfSome, slice_get}
use Rattle.std.specs.List.{AllByRecursion, remove}
use Rattle.std.proofs.lemmas.Bool.Decides.{nat_tests}
use Rattle.std.proofs.lemmas.List.{append_assoc, length-append, length-map, map-append, map-set, nil_from_length}
use Rattle.std.proofs.lemmas.List.Edits.{length-remove}
use Rattle.std.proofs.lemmas.Option.{slice_get_within}
use Rattle.carrier.specs.Carried.{Carried, Letters}
use Rattle.carrier.specs.Schedule.{Picks, after_pick, next_of}
use Rattle.carrier.specs.Take.{place_of}
use Rattle.letters.specs.Letters.{IsLetter, spelling}
use Rattle.letters.specs.declared.letter.Body.{Body}
use Rattle.letters.specs.declared.letter.Letter.{Letter}
use Rattle.part_core.specs.Parts.{PartState, sent, taken}
use Rattle.part_phases.specs.Phases.{handed}
use Rattle.part_phases.specs.Standings as phases
use Rattle.part_phases.proofs.Gathered.{all-append, none≢some}
use Rattle.round_rules.specs.Rounds.{rules}
use Rattle.part_rules.specs.declared.course.Course.{Course}
use Rattle.part_store.specs.Stores.{StoreState}
use Rattle.phase_laws.specs.Drawing.{Drawing, turn, turns, with_drawn, with_part}
use Rattle.phase_laws.proofs.Staying.{same_some}
use Rattle.world_run.specs.Drawn.{picks_left, spelled}
use Rattle.world_run.specs.Replay.{after_outcome, first_waiting, handed_bytes, handed_letter, is_done, letter_in, outcome_at, outcome_of, unless_done, with_outcome}
use Rattle.world_run.specs.steps.Beginning.{owed_all}
use Rattle.world_run.specs.steps.Handing.{Due, TurnReads, TurnTells, waiting}
use Rattle.world_run.specs.steps.Tracking.{RunTracks, Tracks, unsent, unsent_all}
use Rattle.world_run.proofs.FirstWaiting.{none_owed}
use Rattle.world_run.proofs.Places.{all_at, all_removed, all_set, from_map, picks_next, remove-map, to_map}
use Rattle.world_run.proofs.Unsent.{Sends, sends-handed}

-- ---- letters
pub taken_sent : (letters : List (phases.Letter Body)) → map taken (map sent letters) ≡ letters
taken_sent [] = refl
taken_sent (letter ∷ letters) = ap (λ rest. letter ∷ rest) (taken_sent letters)

-- what is due where a carrier tells both lists is due of those that it tells
pub both_told : (first second : Option Letters) (held given : Letters) (due : Letters → Letters → Type 0) → first ≡ Some held → second ≡ Some given → IfSome first (λ h. IfSome second (λ g. due h g)) → due held given
both_told first second held given due a b told = subst (λ g. IfSome g (λ g. due held g)) b (subst (λ h. IfSome h (λ h. IfSome second (λ g. due h g))) a told)

pub one_told : (first : Option Letters) (given : Letters) (due : Letters → Type 0) → first ≡ Some given → IfSome first due → due given
one_told first given due a told = subst (λ g. IfSome g due) a told

-- ---- counts
unsent_of : PartState → ℕ
unsent_of part = unsent (rules part.course) part.standing

unsent-set : (parts : List PartState) (q : ℕ) (part new : PartState) → slice_get parts q ≡ Some part → unsent_all (set parts q new) + unsent_of part ≡ unsent_all parts + unsent_of new
unfolding unsent_of
unsent-set [] q part new there = absurd (none≢some part there)
unsent-set (x ∷ parts) zero part new there = let same : unsent_of x ≡ unsent_of part = ap unsent_of (same_some x part there) in omega (arith, same)
unsent-set (x ∷ parts) (suc q) part new there = let rest = unsent-set parts q part new there in omega (arith, rest)

-- one letter is taken out, and some are sent
still_even : (all wait rest sends before after unsent_then unsent_now owed_then owed_now : ℕ) → all ≡ rest + sends → rest + 1 ≡ wait → sends + after ≡ before → unsent_now + before ≡ unsent_then + after
    → wait + unsent_then ≡ owed_then → owed_now + 1 ≡ owed_then → all + unsent_now ≡ owed_now
still_even all wait rest sends before after unsent_then unsent_now owed_then owed_now a b c d e f = omega (arith, a, b, c, d, e, f)

-- ---- a letter that is taken
-- the part that takes it, where something comes of it
record Taker (old : List PartState) (letter : Letter) (due : Due) : Type 0 where
  part : PartState
  here : slice_get old letter.target ≡ Some part
  waits : is_done part ≡ false
  due_is : due ≡ handed (rules part.course) part.standing (taken letter)

taker : (old : List PartState) (letter : Letter) (due : Due) → outcome_of old (Some letter) ≡ Some due → Taker old letter due
taker old letter due is =
    elim (slice_get old letter.target) as (λ o. slice_get old letter.target ≡ o → outcome_at letter (unless_done o) ≡ Some due → Taker old letter due) [
      | None ↦ λ _ e. absurd (none≢some due e)
      | Some part ↦ λ here e. elim (is_done part) as (λ b. is_done part ≡ b → outcome_at letter (cond b None (Some part)) ≡ Some due → Taker old letter due) [
        | true ↦ λ _ f. absurd (none≢some due f)
        | false ↦ λ waits f. record { part = part; here = here; waits = waits; due_is = sym (same_some (handed (rules part.course) part.standing (taken letter)) due f) }
      ] refl e
    ] refl is

module _ (course : Course) where
  module _ (base : Letters) (before : Carried) (old : List PartState) (sent' : List Letter) (drawing : Drawing StoreState Body) (tracks : Tracks course base before old sent' drawing) where
    abbrev all : List Letter
    all = tracks.older ++ sent'

    module _ (held : Letters) (told : before.held ≡ Some held) where
      waiting_is : waiting held sent' ≡ map spelling all
      waiting_is = ap (λ h. h ++ map spelling sent') (same_some held (map spelling tracks.older) (sym told ∙ tracks.held)) ∙ sym (map-append spelling tracks.older sent')

      as_many : length (waiting held sent') ≡ length drawing.waiting
      as_many = ap length waiting_is ∙ length-map all spelling ∙ sym (length-map all taken) ∙ ap length (sym tracks.waiting)

      place_is : (pick : ℕ) → place_of pick (waiting held sent') ≡ pick % length drawing.waiting
      place_is pick = ap (λ n. pick % n) as_many

    -- where a letter is taken at a place, and this comes of it
    module _ (place : ℕ) (letter : Letter) (due : Due) (there : slice_get all place ≡ Some letter) (is : Taker old letter due) where
      abbrev next : PartState
      next = after_outcome is.part is.part.begun due

      course_is : is.part.course ≡ course
      course_is = all_at (λ part. part.course ≡ course) old letter.target is.part tracks.courses is.here

      due_so : due ≡ handed (rules course) is.part.standing (taken letter)
      due_so = is.due_is ∙ ap (λ c. handed (rules c) is.part.standing (taken letter)) course_is

      in_drawing : slice_get drawing.waiting place ≡ Some (taken letter)
      in_drawing = ap (λ ws. slice_get ws place) tracks.waiting ∙ to_map taken all place letter there

      standing_is : slice_get drawing.parts letter.target ≡ Some is.part.standing
      standing_is = ap (λ ps. slice_get ps letter.target) (sym tracks.parts_are) ∙ to_map (λ (part : PartState). part.standing) old letter.target is.part is.here

      turned : (pick : ℕ) → place ≡ pick % length drawing.waiting → turn (rules course) pick drawing ≡ with_part (rules course) drawing place (taken letter) (Some is.part.standing)
      turned pick at =
          ap (λ k. with_drawn (rules course) drawing k (slice_get drawing.waiting k)) (sym at) ∙ ap (with_drawn (rules course) drawing place) in_drawing
          ∙ ap (with_part (rules course) drawing place (taken letter)) standing_is

      parts_after : (new : List PartState) (bytes : List ℕ) → letter_in bytes ≡ Some letter → outcome_of old (Some letter) ≡ Some due → new ≡ handed_bytes old bytes → new ≡ set old letter.target next
      parts_after new bytes read outcome handed_so =
          handed_so ∙ ap (handed_letter old) read ∙ ap (λ p. with_outcome old letter.target p (outcome_of old (Some letter))) is.here ∙ ap (with_outcome old letter.target (Some is.part)) outcome

      sends : length due.letters + unsent_of next ≡ unsent_of is.part
      unfolding unsent_of
      sends =
          let r = rules is.part.course in
          let below : is.part.standing.phase ≤ r.last is.part.standing.round = let test = is.waits in grind (arith, nat_tests) in
          subst (Sends r is.part.standing) (sym is.due_is) (sends-handed r is.part.standing (taken letter) below)

      even_after : (new : List PartState) (after : List Letter) → new ≡ set old letter.target next → after ≡ map sent due.letters → owed_all new + 1 ≡ owed_all old
          → length (remove all place ++ after) + unsent_all new ≡ owed_all new
      even_after new after parts letters lower =
          still_even (length (remove all place ++ after)) (length all) (length (remove all place)) (length due.letters) (unsent_of is.part) (unsent_of next) (unsent_all old) (unsent_all new) (owed_all old) (owed_all new)
          (length-append (remove all place) after ∙ ap (λ n. length (remove all place) + n) (ap length letters ∙ length-map due.letters sent))
          (length-remove all place (slice_get_within all place letter there))
          sends
          (ap (λ ps. unsent_all ps + unsent_of is.part) parts ∙ unsent-set old letter.target is.part next is.here)
          tracks.even
          lower

      -- all goes on by one turn
      goes_on : (pick : ℕ) → place ≡ pick % length drawing.waiting → (now : Carried) (new : List PartState) (after : List Letter) → now.held ≡ Some (map spelling (remove all place)) → AllByRecursion IsLetter sent'
          → now.given ≡ Some ((base ++ map spelled drawing.drawn) ++ spelling letter ∷ []) → new ≡ set old letter.target next → after ≡ map sent due.letters → owed_all new + 1 ≡ owed_all old
          → Tracks course base now new after (turn (rules course) pick drawing) × (length (turn (rules course) pick drawing).drawn ≡ length drawing.drawn + 1)
      goes_on pick at now new after held letters given parts sends_so lower =
          let q = letter.target in
          let so = turned pick at in
          let drawn : (turn (rules course) pick drawing).drawn ≡ drawing.drawn ++ taken letter ∷ [] = ap (λ w. w.drawn) so in (
            record {
              older = remove all place;
              held = held;
              letters = all_removed IsLetter all place (all-append IsLetter tracks.older sent' tracks.letters letters);
              given = given ∙ ap Some (append_assoc base (map spelled drawing.drawn) (spelling letter ∷ []) ∙ ap (λ ls. base ++ ls) (sym (map-append spelled drawing.drawn (taken letter ∷ [])) ∙ ap (map spelled) (sym drawn)));
              parts_are = ap (map (λ part. part.standing)) parts ∙ map-set (λ (part : PartState). part.standing) old q next ∙ ap (λ ps. set ps q due.part) tracks.parts_are ∙ ap (λ d. set drawing.parts q d.part) due_so ∙ ap (λ w. w.parts) (sym so);
              courses = subst (AllByRecursion (λ part. part.course ≡ course)) (sym parts) (all_set (λ part. part.course ≡ course) old q next tracks.courses course_is);
              waiting = ap (λ w. w.waiting) so ∙ ap₂ ◌++◌ (ap (λ ws. remove ws place) tracks.waiting ∙ remove-map taken all place) (ap (λ d. d.letters) (sym due_so) ∙ sym (ap (map taken) sends_so ∙ taken_sent due.letters)) ∙ sym (map-append taken (remove all place) after);
              even = even_after new after parts sends_so lower;
            },
            ap length drawn ∙ length-append drawing.drawn (taken letter ∷ []),
          )

  -- a turn that takes a letter is a turn of the drawing
  pub turn_tracks : {X : Type 0} (base : Letters) (before now : Carried) (old new : List PartState) (sent' after : List Letter) (drawing : Drawing StoreState Body) (held given : Letters) (pick : ℕ) (x : X)
      → Tracks course base before old sent' drawing → before.held ≡ Some held → before.given ≡ Some given → TurnReads given now.given (Ok x) → TurnTells old new sent' after held given pick now (Ok x) → owed_all new + 1 ≡ owed_all old
      → Tracks course base now new after (turn (rules course) pick drawing) × (length (turn (rules course) pick drawing).drawn ≡ length drawing.drawn + 1)
  turn_tracks base before now old new sent' after drawing held given pick x tracks held_is given_is reads tells lower =
      let bytes : List ℕ = tells.0 in
      let takes = tells.1 in
      let hands = tells.2 in
      let gives = hands.2 in
      let letters : List Letter = tracks.older ++ sent' in
      let place = pick % length drawing.waiting in
      let waits_so = waiting_is base before old sent' drawing tracks held held_is in
      let place_so = place_is base before old sent' drawing tracks held held_is pick in
      let found = from_map spelling letters place bytes (sym (ap₂ slice_get waits_so place_so) ∙ takes.is) in
      let letter : Letter = found.0 in
      let fit : IsLetter letter = all_at IsLetter letters place letter (all-append IsLetter tracks.older sent' tracks.letters takes.letters) found.1 in
      let read : letter_in bytes ≡ Some letter = reads bytes takes.given_is letter fit found.2 in
      let outcome : outcome_of old (Some letter) ≡ Some hands.0 = ap (outcome_of old) (sym read) ∙ hands.1 in
      let is = taker old letter hands.0 outcome in
      goes_on base before old sent' drawing tracks place letter hands.0 found.1 is pick refl now new after
      (takes.held_is ∙ ap Some (ap₂ remove waits_so place_so ∙ remove-map spelling letters place))
      takes.letters
      (takes.given_is ∙ ap₂ (λ g b. Some (g ++ b ∷ [])) (same_some given (base ++ map spelled drawing.drawn) (sym given_is ∙ tracks.given)) found.2)
      (parts_after base before old sent' drawing tracks place letter hands.0 found.1 is new bytes read outcome tells.3)
      gives.2
      lower

  -- once all parts are done, no letter waits
  none_left : (base : Letters) (now : Carried) (parts : List PartState) (sent' : List Letter) (drawing : Drawing StoreState Body) → Tracks course base now parts sent' drawing → owed_all parts ≡ 0 → now.held ≡ Some []
  none_left base now parts sent' drawing tracks none =
      let even = tracks.even in
      let long = length-append tracks.older sent' in
      let gone : tracks.older ≡ [] = nil_from_length tracks.older (omega (arith, even, long, none)) in
      tracks.held ∙ ap (λ older. Some (map spelling older)) gone

  -- ---- a run
  -- that the run has come to a drawing which is drawn to the same end as the first, by as many letters as are still owed
  pub record IsTracked (base : Letters) (parts : List PartState) (sent' : List Letter) (now : Carried) (schedule : Picks) (count : ℕ) (end : Drawing StoreState Body) : Type 0 where
    pub drawing : Drawing StoreState Body
    pub tracks : Tracks course base now parts sent' drawing
    pub end_is : turns (rules course) (owed_all parts) (picks_left schedule) drawing ≡ end
    pub drawn : length drawing.drawn + owed_all parts ≡ count

  -- that it has, where it tracked a drawing at first
  abbrev pub KeepsTracks : (old parts : List PartState) (first sent' : List Letter) (before now : Carried) (picks schedule : Picks) → Type 0
  KeepsTracks old parts first sent' before now picks schedule = (base : Letters) (drawing : Drawing StoreState Body) → Tracks course base before old first drawing
      → IsTracked base parts sent' now schedule (length drawing.drawn + owed_all old) (turns (rules course) (owed_all old) (picks_left picks) drawing)

  pub tracks_at_first : (old : List PartState) (first : List Letter) (before : Carried) (picks : Picks) → KeepsTracks old old first first before before picks picks
  tracks_at_first old first before picks base drawing tracks = record { drawing = drawing; tracks = tracks; end_is = refl; drawn = refl }

  -- one turn more
  pub turns_more : (n more : ℕ) (schedule : Picks) (drawing : Drawing StoreState Body) → n + 1 ≡ more
      → turns (rules course) n (picks_left (after_pick schedule)) (turn (rules course) (next_of schedule) drawing) ≡ turns (rules course) more (picks_left schedule) drawing
  turns_more n more schedule drawing is =
      let next = picks_next schedule in
      let same : suc n ≡ more = omega (arith, is) in
      ap₂ (λ picks pick. turns (rules course) n picks (turn (rules course) pick drawing)) (sym next.1) (sym next.0) ∙ ap (λ k. turns (rules course) k (picks_left schedule) drawing) same

  module _ (old parts new : List PartState) (first sent' after : List Letter) (before mid now : Carried) (picks schedule left : Picks) (so_far : KeepsTracks old parts first sent' before mid picks schedule) where
    pub tracks_further : {X : Type 0} (x : X) → IfSome mid.held (λ held. IfSome mid.given (λ given. TurnTells parts new sent' after held given (next_of schedule) now (Ok x)))
        → IfSome mid.given (λ given. TurnReads given now.given (Ok x)) → left ≡ after_pick schedule → owed_all new + 1 ≡ owed_all parts → KeepsTracks old new first after before now picks left
    tracks_further x told reads next lower base drawing tracks =
        let here = so_far base drawing tracks in
        let held = here.tracks.held in
        let given = here.tracks.given in
        let turned = turn_tracks base mid now parts new sent' after here.drawing _ _ (next_of schedule) x here.tracks held given (one_told mid.given _ (λ g. TurnReads g now.given (Ok x)) given reads)
        (both_told mid.held mid.given _ _ (λ h g. TurnTells parts new sent' after h g (next_of schedule) now (Ok x)) held given told) lower in
        let counted = here.drawn in
        record {
          drawing = turn (rules course) (next_of schedule) here.drawing;
          tracks = turned.0;
          end_is = ap (λ s. turns (rules course) (owed_all new) (picks_left s) (turn (rules course) (next_of schedule) here.drawing)) next ∙ turns_more (owed_all new) (owed_all parts) schedule here.drawing lower ∙ here.end_is;
          drawn = omega (arith, turned.1, lower, counted);
        }

  -- once all parts are done, the run has come to the end of the drawing
  pub tracks_to_end : (old parts : List PartState) (first sent' : List Letter) (before now : Carried) (picks schedule : Picks) (letters : ℕ) → KeepsTracks old parts first sent' before now picks schedule
      → letters + owed_all parts ≡ owed_all old → first_waiting parts ≡ None → RunTracks course old parts first before now picks (Ok letters)
  tracks_to_end old parts first sent' before now picks schedule letters so_far sum none base drawing tracks =
      let here = so_far base drawing tracks in
      let all = none_owed parts none in
      let end_is : here.drawing ≡ turns (rules course) (owed_all old) (picks_left picks) drawing = ap (λ n. turns (rules course) n (picks_left schedule) here.drawing) (sym all) ∙ here.end_is in
      let counted = here.drawn in
      let drew : length here.drawing.drawn ≡ length drawing.drawn + letters = omega (arith, all, sum, counted) in (
        here.tracks.given ∙ ap (λ (d : Drawing StoreState Body). Some (base ++ map spelled d.drawn)) end_is,
        none_left base now parts sent' here.drawing here.tracks all,
        here.tracks.parts_are ∙ ap (λ (d : Drawing StoreState Body). d.parts) end_is,
        ap (λ (d : Drawing StoreState Body). length d.drawn) (sym end_is) ∙ drew,
      )
