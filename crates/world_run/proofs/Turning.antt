-- A turn over a carrier that tells which letters wait goes along with a turn of a drawing in which all stands right.
use Rattle.std.proofs.Common.{◌≡◌, ◌%◌, ◌/◌, ℕ, true, false, cond, nat_lt, List, [], ◌∷◌, ◌++◌, length, map, set, Some, None, Ok, Err, refl, sym, ap, ap₂, subst, ◌∙◌, arith}
use Rattle.std.specs.Prelude.{slice_get}
use Rattle.std.specs.List.{AllByRecursion, remove}
use Rattle.std.proofs.lemmas.Bool.{false≢true}
use Rattle.std.proofs.lemmas.List.{append_assoc, length-append, length-map, map-append, map-set, nil_from_length}
use Rattle.ma_geom.specs.Coordinates.{Coordinates}
use Rattle.carrier.specs.Carried.{Carried, Letters}
use Rattle.carrier.specs.Take.{place_of}
use Rattle.letters.specs.Letters.{IsLetter, spelling}
use Rattle.letters.specs.declared.letter.Body.{Body}
use Rattle.letters.specs.declared.letter.Letter.{Letter}
use Rattle.part_core.specs.Parts.{PartState, sent, taken}
use Rattle.part_phases.specs.Phases.{handed}
use Rattle.part_phases.specs.Standings as phases
use Rattle.part_phases.proofs.Gathered.{all-append}
use Rattle.round_rules.specs.Rounds.{rules}
use Rattle.part_rules.specs.declared.course.Course.{Course}
use Rattle.part_store.specs.Stores.{StoreState}
use Rattle.phase_laws.specs.Drawing.{Drawing, part_at, turn, with_part}
use Rattle.phase_laws.specs.Truth.{Follows, Tells, Truth}
use Rattle.phase_laws.proofs.Draws.{right_turn}
use Rattle.phase_laws.proofs.Staying.{same_some}
use Rattle.world_run.specs.Drawn.{spelled}
use Rattle.world_run.specs.Replay.{after_outcome, first_waiting, handed_bytes, handed_letter, is_done, is_refusal, is_too_many, letter_in, outcome_at, outcome_of, refuses, unless_done, with_outcome}
use Rattle.world_run.specs.declared.fault.RunFault.{RunFault}
use Rattle.world_run.specs.declared.fault.RunFault.TheVariants.{Link, BadLetter, Starved, Over, Memory}
use Rattle.world_run.specs.steps.Beginning.{owed_all}
use Rattle.world_run.specs.steps.Drawing.{EndsSo, GoesAlong, is_stuck}
use Rattle.world_run.specs.steps.Handing.{Due, Reads, SaysOver, TakesAt, TurnReads, TurnTells, waiting}
use Rattle.world_run.proofs.FirstWaiting.{all_done_at, none_owed, waits_at}
use Rattle.world_run.proofs.DrawnLetter.{IsFor, done_at_end, drawn_for, none_waits_for_done, turn_is}
use Rattle.world_run.proofs.Places.{all_at, all_removed, all_set, from_map, remove-map, to_map}
use Rattle.world_run.proofs.Resting.{could_go_on, is_over, rests-handed, waits_or_done}
use Rattle.world_run.proofs.Tracking.{taken_sent}

-- ---- answers
same_over : (answer : phases.Answer Coordinates) → is_over answer ≡ is_too_many answer
same_over (phases.Stepped phases.Waiting) = refl
same_over (phases.Stepped (phases.Moved phase)) = refl
same_over (phases.Stepped phases.RoundDone) = refl
same_over (phases.Stepped (phases.Over phase total)) = refl
same_over (phases.NotExpected phase) = refl
same_over (phases.Wrong wrong) = refl

-- ---- a letter that is taken
-- what bytes are that were taken at a place, and which part they name
record IsTaken (course : Course) (truth : Truth StoreState Body) (old : List PartState) (all : List Letter) (drawing : Drawing StoreState Body) (place : ℕ) (bytes : List ℕ) : Type 0 where
  letter : Letter
  is : letter_in bytes ≡ Some letter
  spelled_so : bytes ≡ spelling letter
  there : slice_get drawing.waiting place ≡ Some (taken letter)
  part : PartState
  here : slice_get old letter.target ≡ Some part
  course_is : part.course ≡ course
  due_to : IsFor (rules course) truth drawing (taken letter) part.standing

for_part : (course : Course) (truth : Truth StoreState Body) (drawing : Drawing StoreState Body) (letter : phases.Letter Body) (s s' : phases.Standing StoreState Body) → s ≡ s'
    → IsFor (rules course) truth drawing letter s → IsFor (rules course) truth drawing letter s'
for_part course truth drawing letter s s' same is = subst (λ z. IsFor (rules course) truth drawing letter z) same is

module _ (course : Course) (truth : Truth StoreState Body) (default : phases.Standing StoreState Body) (follows : Follows (rules course) truth) where
  module _ (base : Letters) (before : Carried) (old : List PartState) (sent' : List Letter) (drawing : Drawing StoreState Body) (along : GoesAlong course truth default base before old sent' drawing) where
    abbrev all : List Letter
    all = along.older ++ sent'

    module _ (held : Letters) (told : before.held ≡ Some held) where
      waiting_is : waiting held sent' ≡ map spelling all
      waiting_is = ap (λ h. h ++ map spelling sent') (same_some held (map spelling along.older) (sym told ∙ along.held)) ∙ sym (map-append spelling along.older sent')

      as_many : length (waiting held sent') ≡ length drawing.waiting
      as_many = ap length waiting_is ∙ length-map all spelling ∙ sym (length-map all taken) ∙ ap length (sym along.waiting)

      place_is : (pick : ℕ) → place_of pick (waiting held sent') ≡ pick % length drawing.waiting
      place_is pick = ap (λ n. pick % n) as_many

      is_taken : (pick : ℕ) (given : Letters) (now : Carried) (bytes : List ℕ) → Reads bytes → TakesAt held sent' pick given now bytes
          → IsTaken course truth old all drawing (pick % length drawing.waiting) bytes
      is_taken pick given now bytes reads takes =
          let place = pick % length drawing.waiting in
          let found = from_map spelling all place bytes (sym (ap₂ slice_get waiting_is (place_is pick)) ∙ takes.is) in
          let letter : Letter = found.0 in
          let fit : IsLetter letter = all_at IsLetter all place letter (all-append IsLetter along.older sent' along.letters takes.letters) found.1 in
          let there : slice_get drawing.waiting place ≡ Some (taken letter) = ap (λ ws. slice_get ws place) along.waiting ∙ to_map taken all place letter found.1 in
          let standing : phases.Standing StoreState Body = part_at default drawing.parts letter.target in
          let due_to = drawn_for (rules course) truth default follows drawing place (taken letter) there along.right in
          let named = from_map (λ (part : PartState). part.standing) old letter.target standing (ap (λ ps. slice_get ps letter.target) along.parts_are ∙ due_to.there) in
          record {
            letter = letter;
            is = reads letter fit found.2;
            spelled_so = found.2;
            there = there;
            part = named.0;
            here = named.1;
            course_is = all_at (λ part. part.course ≡ course) old letter.target named.0 along.courses named.1;
            due_to = for_part course truth drawing (taken letter) standing named.0.standing named.2 due_to;
          }

    module _ (place : ℕ) (bytes : List ℕ) (is : IsTaken course truth old all drawing place bytes) where
      abbrev due : Due
      due = handed (rules course) is.part.standing (taken is.letter)

      waits : is_done is.part ≡ false
      waits = ap (λ c. nat_lt ((rules c).last is.part.standing.round) is.part.standing.phase) is.course_is ∙ is.due_to.waits

      outcome_is : outcome_of old (letter_in bytes) ≡ Some due
      outcome_is =
          ap (outcome_of old) is.is ∙ ap (λ p. outcome_at is.letter (unless_done p)) is.here ∙ ap (λ b. outcome_at is.letter (cond b None (Some is.part))) waits
          ∙ ap (λ c. Some (handed (rules c) is.part.standing (taken is.letter))) is.course_is

      parts_after : handed_bytes old bytes ≡ set old is.letter.target (after_outcome is.part is.part.begun due)
      parts_after =
          ap (handed_letter old) is.is ∙ ap (λ p. with_outcome old is.letter.target p (outcome_of old (Some is.letter))) is.here
          ∙ ap (with_outcome old is.letter.target (Some is.part)) (ap (outcome_of old) (sym is.is) ∙ outcome_is)

      -- the letters and the parts after a turn
      goes_on : (pick : ℕ) → place ≡ pick % length drawing.waiting → (now : Carried) (new : List PartState) (after : List Letter)
          → now.held ≡ Some (map spelling (remove all place)) → AllByRecursion IsLetter sent' → now.given ≡ Some ((base ++ map spelled drawing.drawn) ++ bytes ∷ [])
          → is_too_many due.answer ≡ false → after ≡ map sent due.letters → new ≡ handed_bytes old bytes → GoesAlong course truth default base now new after (turn (rules course) pick drawing)
      goes_on pick at now new after held letters given few sends parts =
          let r = rules course in
          let q = is.letter.target in
          let s = is.part.standing in
          let next : PartState = after_outcome is.part is.part.begun due in
          let turned : turn r pick drawing ≡ with_part r drawing place (taken is.letter) (Some s) = subst (λ k. turn r pick drawing ≡ with_part r drawing k (taken is.letter) (Some s)) (sym at)
          (turn_is r truth default pick drawing (taken is.letter) s (subst (λ k. slice_get drawing.waiting k ≡ Some (taken is.letter)) at is.there) is.due_to.there) in
          let same : new ≡ set old q next = parts ∙ parts_after in
          let free : is_stuck next ≡ false = ap (λ c. could_go_on (rules c) due.part) is.course_is ∙ waits_or_done r due.part due.answer (rests-handed r s (taken is.letter) is.due_to.owed is.due_to.right) (same_over due.answer ∙ few) in
          record {
            older = remove all place;
            held = held;
            letters = all_removed IsLetter all place (all-append IsLetter along.older sent' along.letters letters);
            given = given ∙ ap Some (append_assoc base (map spelled drawing.drawn) (bytes ∷ []) ∙ ap (λ b. base ++ (map spelled drawing.drawn ++ b ∷ [])) is.spelled_so
                ∙ ap (λ ls. base ++ ls) (sym (map-append spelled drawing.drawn (taken is.letter ∷ [])) ∙ ap (λ w. map spelled w.drawn) (sym turned)));
            parts_are = ap (map (λ part. part.standing)) same ∙ map-set (λ (part : PartState). part.standing) old q next ∙ ap (λ ps. set ps q due.part) along.parts_are ∙ ap (λ w. w.parts) (sym turned);
            courses = subst (AllByRecursion (λ part. part.course ≡ course)) (sym same) (all_set (λ part. part.course ≡ course) old q next along.courses is.course_is);
            waiting = ap (λ w. w.waiting) turned ∙ ap₂ ◌++◌ (ap (λ ws. remove ws place) along.waiting ∙ remove-map taken all place) (sym (ap (map taken) sends ∙ taken_sent due.letters)) ∙ sym (map-append taken (remove all place) after);
            right = right_turn r truth default follows pick drawing along.right;
            free = subst (AllByRecursion (λ part. is_stuck part ≡ false)) (sym same) (all_set (λ part. is_stuck part ≡ false) old q next along.free free);
          }

  -- a turn that takes a letter goes along with a turn of the drawing
  pub turn_draws : {X : Type 0} (base : Letters) (before now : Carried) (old new : List PartState) (sent' after : List Letter) (drawing : Drawing StoreState Body) (held given : Letters) (pick : ℕ) (x : X)
      → GoesAlong course truth default base before old sent' drawing → before.held ≡ Some held → before.given ≡ Some given → TurnReads given now.given (Ok x) → TurnTells old new sent' after held given pick now (Ok x)
      → GoesAlong course truth default base now new after (turn (rules course) pick drawing)
  turn_draws base before now old new sent' after drawing held given pick x along held_is given_is reads tells =
      let bytes = tells.0 in
      let takes = tells.1 in
      let hands = tells.2 in
      let all : List Letter = along.older ++ sent' in
      let place = pick % length drawing.waiting in
      let is = is_taken base before old sent' drawing along held held_is pick given now bytes (reads bytes takes.given_is) takes in
      let same : hands.0 ≡ handed (rules course) is.part.standing (taken is.letter) = same_some hands.0 _ (sym hands.1 ∙ outcome_is base before old sent' drawing along place bytes is) in
      let gives = hands.2 in
      goes_on base before old sent' drawing along place bytes is pick refl now new after
      (takes.held_is ∙ ap Some (ap₂ remove (waiting_is base before old sent' drawing along held held_is) (place_is base before old sent' drawing along held held_is pick) ∙ remove-map spelling all place))
      takes.letters
      (takes.given_is ∙ ap (λ g. Some (g ++ bytes ∷ [])) (same_some given (base ++ map spelled drawing.drawn) (sym given_is ∙ along.given)))
      (ap (λ due. is_too_many due.answer) (sym same) ∙ gives.1)
      (gives.2 ∙ ap (λ due. map sent due.letters) same)
      tells.3

  not_refused : (q : ℕ) (part : phases.Standing StoreState Body) (answer : phases.Answer Coordinates) → Tells (rules course) truth q part answer → is_refusal answer ≡ false
  not_refused q part (phases.Stepped step) tells = refl
  not_refused q part (phases.NotExpected phase) tells = absurd tells
  not_refused q part (phases.Wrong wrong) tells = absurd tells

  -- a turn that ends the run does so since memory ran out, the carrier failed, or there are too many tetrahedra
  pub turn_ends : (X Y : Type 0) (base : Letters) (before now : Carried) (old new : List PartState) (sent' after : List Letter) (drawing : Drawing StoreState Body) (held given : Letters) (pick : ℕ) (first : ℕ × ℕ)
      → (fault : RunFault) → GoesAlong course truth default base before old sent' drawing → before.held ≡ Some held → before.given ≡ Some given → TurnReads {X = X} given now.given (Err fault) → first_waiting old ≡ Some first
      → TurnTells {X = X} old new sent' after held given pick now (Err fault) → EndsSo course truth default {X = Y} (Err fault)
  turn_ends X Y base before now old new sent' after drawing held given pick first Link along held_is given_is reads open_still tells = tt
  turn_ends X Y base before now old new sent' after drawing held given pick first Memory along held_is given_is reads open_still tells = tt
  turn_ends X Y base before now old new sent' after drawing held given pick first (BadLetter bytes) along held_is given_is reads open_still tells =
      let taking = tells.0 in
      let place = pick % length drawing.waiting in
      let is = is_taken base before old sent' drawing along held held_is pick given now bytes.items (reads bytes.items taking.given_is) taking in
      let due : Due = handed (rules course) is.part.standing (taken is.letter) in
      let bad : is_refusal due.answer ≡ true = sym (ap refuses (outcome_is base before old sent' drawing along place bytes.items is)) ∙ tells.1 in
      false≢true (sym (not_refused is.letter.target due.part due.answer is.due_to.tells) ∙ bad)
  turn_ends X Y base before now old new sent' after drawing held given pick first (Starved part phase) along held_is given_is reads open_still tells =
      let none : drawing.waiting ≡ [] = nil_from_length drawing.waiting (sym (as_many base before old sent' drawing along held held_is) ∙ ap length tells.1) in
      let waiting_part = waits_at old first open_still in
      let part : PartState = waiting_part.1 in
      let there = waiting_part.2 in
      let course_is : part.course ≡ course = all_at (λ part. part.course ≡ course) old waiting_part.0 part along.courses there in
      let free : is_stuck part ≡ false = all_at (λ part. is_stuck part ≡ false) old waiting_part.0 part along.free there in
      let standing_there : slice_get drawing.parts waiting_part.0 ≡ Some part.standing = ap (λ ps. slice_get ps waiting_part.0) (sym along.parts_are) ∙ to_map (λ (part : PartState). part.standing) old waiting_part.0 part there in
      let done = done_at_end (rules course) truth default follows drawing along.right none waiting_part.0 part.standing standing_there (ap (λ c. could_go_on (rules c) part.standing) (sym course_is) ∙ free) in
      false≢true (sym waiting_part.3 ∙ ap (λ c. nat_lt ((rules c).last part.standing.round) part.standing.phase) course_is ∙ done)
  turn_ends X Y base before now old new sent' after drawing held given pick first (Over round stage count) along held_is given_is reads open_still tells =
      let bytes = tells.0 in
      let taking = tells.1 in
      let place = pick % length drawing.waiting in
      let is = is_taken base before old sent' drawing along held held_is pick given now bytes (reads bytes taking.given_is) taking in
      let said = tells.2 in
      let due : Due = handed (rules course) is.part.standing (taken is.letter) in
      let same : said.0 ≡ due = same_some said.0 due (sym said.1 ∙ outcome_is base before old sent' drawing along place bytes is) in
      let says : SaysOver due round stage count = subst (λ due. SaysOver due round stage count) same said.2 in
      let told : Tells (rules course) truth is.letter.target due.part (phases.Stepped (phases.Over says.phase count)) = subst (Tells (rules course) truth is.letter.target due.part) says.answer is.due_to.tells in (
        says.round_is ∙ is.due_to.round,
        says.stage_is ∙ ap (λ phase. phase / 7) told.0,
        (is.letter.target, is.due_to.within, told.2),
      )

  -- once all parts are done, no letter waits, and none is owed
  pub run_ends : (base : Letters) (now : Carried) (parts : List PartState) (sent' : List Letter) (drawing : Drawing StoreState Body) → GoesAlong course truth default base now parts sent' drawing
      → first_waiting parts ≡ None → (now.held ≡ Some []) × (owed_all parts ≡ 0)
  run_ends base now parts sent' drawing along none =
      let done : (q : ℕ) (s : phases.Standing StoreState Body) → slice_get drawing.parts q ≡ Some s → nat_lt ((rules course).last s.round) s.phase ≡ true = λ q s there.
      let found = from_map (λ (part : PartState). part.standing) parts q s (ap (λ ps. slice_get ps q) along.parts_are ∙ there) in
      let course_is : found.0.course ≡ course = all_at (λ part. part.course ≡ course) parts q found.0 along.courses found.1 in
      ap (λ s. nat_lt ((rules course).last s.round) s.phase) found.2 ∙ ap (λ c. nat_lt ((rules c).last found.0.standing.round) found.0.standing.phase) (sym course_is) ∙ all_done_at parts none q found.0 found.1 in
      let empty : drawing.waiting ≡ [] = none_waits_for_done (rules course) truth default follows drawing along.right done in
      let long = length-append along.older sent' in
      let all_gone : length (along.older ++ sent') ≡ 0 = sym (length-map (along.older ++ sent') taken) ∙ ap length (sym along.waiting) ∙ ap length empty in
      let gone : along.older ≡ [] = nil_from_length along.older (omega (arith, long, all_gone)) in
      (along.held ∙ ap (λ older. Some (map spelling older)) gone, none_owed parts none)
