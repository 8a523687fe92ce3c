-- A round of parts that have done some rounds tracks its drawing, whatever they hold, and where it ends in `Ok` it drew the letters of the round.
use Rattle.std.proofs.Common.{◌≡◌, ◌+◌, ℕ, List, [], ◌∷◌, ◌++◌, length, map, Some, Ok, refl, sym, ap, subst, ◌∙◌, arith}
use Rattle.std.specs.Prelude.{Result}
use Rattle.std.specs.List.{AllByRecursion}
use Rattle.std.proofs.lemmas.List.{append-nil, length-append, length-map}
use Rattle.carrier.specs.Carried.{Carried, Letters}
use Rattle.carrier.specs.Schedule.{Picks}
use Rattle.letters.specs.declared.letter.Body.{Body}
use Rattle.letters.specs.declared.letter.Letter.{Letter}
use Rattle.part_core.specs.Parts.{PartState, sent}
use Rattle.part_phases.proofs.Owed.{round_begun_owes_all_letters}
use Rattle.round_rules.specs.Rounds.{rules}
use Rattle.part_rules.specs.declared.course.Course.{Course}
use Rattle.part_store.specs.Stores.{StoreState}
use Rattle.phase_laws.specs.Drawing.{Drawing, all_begun, turns}
use Rattle.world_run.specs.Drawn.{IsDrawn, drawn, picks_left, spelled}
use Rattle.world_run.specs.Replay.{all_next, next_outcome}
use Rattle.world_run.specs.Rounds.{AreDone}
use Rattle.world_run.specs.Told.{WorldState}
use Rattle.world_run.specs.declared.fault.RunFault.{RunFault}
use Rattle.world_run.specs.steps.Beginning.{letters_next, owed_all}
use Rattle.world_run.specs.steps.Tracking.{RunTracks, Tracks, unsent_all}
use Rattle.world_run.proofs.DoneRounds.{all-done, owed_next-done}
use Rattle.world_run.proofs.Opening.{courses_are, letters_are, standings_are}
use Rattle.world_run.proofs.Unsent.{sends-begun}

-- ---- counts
-- what one part and the others send, are still to send and are owed
together : (mine theirs all unsent later owed others : ℕ) → all ≡ mine + theirs → mine + unsent ≡ owed → theirs + later ≡ others → all + (unsent + later) ≡ owed + others
together mine theirs all unsent later owed others a b c = omega (arith, a, b, c)

-- parts that begin a round have sent or are still to send as many letters as they are owed
pub even-next : (parts : List PartState) → length (letters_next parts) + unsent_all (all_next parts) ≡ owed_all (all_next parts)
even-next [] = refl
even-next (part ∷ parts) =
    let due = next_outcome part in
    let mine = length-map due.letters sent in
    let sends = sends-begun (rules part.course) part.begun part.standing in
    let owes = round_begun_owes_all_letters (rules part.course) part.begun part.standing in
    together (length due.letters) (length (letters_next parts)) _ _ (unsent_all (all_next parts)) _ (owed_all (all_next parts))
    (length-append (map sent due.letters) (letters_next parts) ∙ ap (λ n. n + length (letters_next parts)) mine) (sends ∙ sym owes) (even-next parts)

-- ---- a round
-- from a run of the parts that have begun it
pub run_tracks : (course : Course) (old begun new : List PartState) (sent' : List Letter) (before now : Carried) (schedule : Picks) (result : Result ℕ RunFault) → begun ≡ all_next old → sent' ≡ letters_next old
    → RunTracks course begun new sent' before now schedule result → RunTracks course (all_next old) new (letters_next old) before now schedule result
run_tracks course old begun new sent' before now schedule result is sent_is tracks =
    subst (λ ps. RunTracks course ps new (letters_next old) before now schedule result) is (subst (λ ls. RunTracks course begun new ls before now schedule result) sent_is tracks)

module _ (course : Course) (rounds : ℕ) (parts : List PartState) (done : AreDone course rounds parts) where
  courses : AllByRecursion (λ part. part.course ≡ course) parts
  courses = all-done course rounds parts done _ (λ q part within has. has.course_is)

  begin : AllByRecursion (λ part. part.begun ≡ rounds) parts
  begin = all-done course rounds parts done _ (λ q part within has. has.begun)

  abbrev first_drawing : Drawing StoreState Body
  first_drawing = all_begun (rules course) rounds (map (λ part. part.standing) parts)

  tracks_next : (carried : Carried) (base : Letters) → carried.held ≡ Some [] → carried.given ≡ Some base → Tracks course base carried (all_next parts) (letters_next parts) first_drawing
  tracks_next carried base held given = record {
    older = [];
    held = held;
    letters = tt;
    given = given ∙ ap Some (sym (append-nil base));
    parts_are = standings_are course rounds parts courses begin;
    courses = courses_are course rounds parts courses;
    waiting = letters_are course rounds parts courses begin;
    even = even-next parts;
  }

  -- a round that ends in `Ok` drew by the picks that were left
  pub is_drawn : (new : List PartState) (old now : Carried) (schedule : Picks) (before : Letters) (so_far letters : ℕ) (world : WorldState) → old.held ≡ Some [] → old.given ≡ Some before
      → RunTracks course (all_next parts) new (letters_next parts) old now schedule (Ok letters) → world.parts ≡ new → world.letters ≡ so_far + letters
      → IsDrawn (drawn course rounds parts (picks_left schedule)) so_far before now world
  is_drawn new old now schedule before so_far letters world held given tracks parts_are letters_are =
      let drew = tracks before first_drawing (tracks_next old before held given) in
      let same : turns (rules course) (owed_all (all_next parts)) (picks_left schedule) first_drawing ≡ drawn course rounds parts (picks_left schedule) = ap (λ n. turns (rules course) n (picks_left schedule) first_drawing) (owed_next-done course rounds parts done) in
      let counted = drew.3 ∙ ap (λ n. n + letters) none_drawn in
      let end = turns (rules course) (owed_all (all_next parts)) (picks_left schedule) first_drawing in
      record {
        given = drew.0 ∙ ap (λ (d : Drawing StoreState Body). Some (before ++ map spelled d.drawn)) same;
        held = drew.1;
        parts = ap (map (λ part. part.standing)) parts_are ∙ drew.2 ∙ ap (λ (d : Drawing StoreState Body). d.parts) same;
        letters = letters_are ∙ ap (λ n. so_far + n) (all_of (length end.drawn) counted) ∙ ap (λ (d : Drawing StoreState Body). so_far + length d.drawn) same;
      }
    where
      none_drawn : length first_drawing.drawn ≡ 0
      none_drawn = refl

      all_of : (n : ℕ) → n ≡ 0 + letters → letters ≡ n
      all_of n is = omega (arith, is)
