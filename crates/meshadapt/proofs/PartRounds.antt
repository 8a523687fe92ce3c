-- How parts come from round to round, and to a fault.
use Rattle.std.proofs.Common.{◌≡◌, ℕ, zero, suc, ◌+◌, ◌<◌, ◌≤◌, Bool, true, false, cond, List, [], Some, length, inl, inr, refl, sym, subst, ap, ◌∙◌, add-one, arith}
use Rattle.std.specs.Prelude.{◌==◌, ◌∷◌, IfSome, Result, Ok, Err, slice_get}
use Rattle.std.specs.List.{AllByRecursion}
use Rattle.std.proofs.lemmas.Bool.{cases_lt}
use Rattle.std.proofs.lemmas.Bool.Decides.{nat_tests}
use Rattle.std.proofs.lemmas.Option.{same_Some}
use Rattle.carrier.specs.Carried.{Carried}
use Rattle.carrier.specs.Schedule.{Picks, after_pick}
use Rattle.ma_io.specs.Count.{Rose}
use Rattle.mesh_check.specs.Accepted.{most_accepted_tets}
use Rattle.part_core.specs.Parts.{PartState}
use Rattle.part_rules.specs.Ends.{most_tets}
use Rattle.part_rules.specs.declared.course.Course.{Course}
use Rattle.part_store.specs.Labelled.{LabelledMesh}
use Rattle.one_mesh.specs.Adaptation.{Plan, StaysWithin}
use Rattle.round_laws.specs.Ends.{letters_in}
use Rattle.round_laws.specs.Truths.{StaysWithinUpTo}
use Rattle.round_rules.specs.Stages.{passes_in}
use Rattle.staged_meshes.specs.Laws.{plan_of as plan_in}
use Rattle.staged_meshes.specs.Staged.{opened, passed_times}
use Rattle.world_run.specs.Drawn.{Draws, EndsAlone, IfAllIsTold, IsFirstExcess, drawn, letters_upto, picks_left, used}
use Rattle.world_run.specs.Replay.{all_next}
use Rattle.world_run.specs.Rounds.{AreDone, HaveAdapted, IsOnce, IsWhole, MayGoOn, SeeMesh}
use Rattle.world_run.specs.Told.{HasCause, RunTells, WorldState}
use Rattle.world_run.specs.declared.fault.RunFault.{RunFault}
use Rattle.world_run.specs.declared.fault.RunFault.TheVariants as run
use Rattle.meshadapt.specs.Acts.{course_of, whole}
use Rattle.meshadapt.specs.Outcome.{MayFail}
use Rattle.meshadapt.specs.OverParts.{AllArrive, ComesOf, RoundComes, StartComes, parts_at_first}
use Rattle.meshadapt.specs.Verdict.{Handout, Inputs, plan_of}
use Rattle.meshadapt.specs.Words.{Job}
use Rattle.meshadapt.specs.steps.OverRounds.{BreaksFirst, BreaksIn, HaveCome, MayRun, with_world}
use Rattle.meshadapt.proofs.Meant.{ends_with, first_past, is_once, round_within, union_is}
use Rattle.meshadapt.proofs.Running.{one_within}

-- ---- worlds, one for each round
pub last_world : (worlds : ℕ → WorldState) (round : ℕ) (world : WorldState) → with_world worlds round world round ≡ world
last_world worlds round world = ap (λ (b : Bool). cond b world (worlds round)) (itself round)
  where
    itself : (n : ℕ) → (n == n) ≡ true
    itself n = grind (arith, nat_tests)

pub world_before : (worlds : ℕ → WorldState) (round : ℕ) (world : WorldState) (n : ℕ) → n < round → with_world worlds round world n ≡ worlds n
world_before worlds round world n less = ap (λ (b : Bool). cond b world (worlds n)) (other n round less)
  where
    other : (m n : ℕ) → m < n → (m == n) ≡ false
    other m n h = grind (arith, nat_tests)

-- ---- the picks that were used, and the letters
used_both : (schedule : Picks) (m n : ℕ) → used (used schedule m) n ≡ used schedule (m + n)
used_both schedule m zero = ap (used schedule) (zero_more m)
  where
    zero_more : (n : ℕ) → n ≡ n + 0
    zero_more n = omega arith
used_both schedule m (suc n) = ap after_pick (used_both schedule m n) ∙ ap (used schedule) (one_more m n)
  where
    one_more : (m n : ℕ) → suc (m + n) ≡ m + suc n
    one_more m n = omega arith

letters_more : (course : Course) (round : ℕ) → letters_upto course round + letters_in course (round + 1) ≡ letters_upto course (round + 1)
letters_more course round = subst (λ (n : ℕ). letters_upto course round + letters_in course n ≡ letters_upto course n) (sym (add-one round)) refl

-- ---- a count that has risen since, and one that had not fallen before
rose_since : (a b c : ℕ) → a ≤ b → Rose b c → Rose a c
rose_since a b c h k = omega arith

cause_since : (s m t : Carried) (fault : RunFault) → s.faults ≤ m.faults → s.dry ≤ m.dry → HasCause {W = WorldState} m t (Err fault) → HasCause {W = WorldState} s t (Err fault)
cause_since s m t run.Link faults dry cause = rose_since s.faults m.faults t.faults faults cause
cause_since s m t (run.BadLetter bytes) faults dry cause = tt
cause_since s m t (run.Starved part phase) faults dry cause = rose_since s.dry m.dry t.dry dry cause
cause_since s m t (run.Over round stage count) faults dry cause = tt
cause_since s m t run.Memory faults dry cause = tt

-- ---- all parts of a course
all_by_place : {X : Type 0} (P : X → Type 0) (xs : List X) → ((n : ℕ) → n < length xs → (x : X) × (slice_get xs n ≡ Some x) × P x) → AllByRecursion P xs
all_by_place P [] h = tt
all_by_place P (x ∷ xs) h =
    let first = h 0 (omega arith) in
    (subst P (sym (same_Some x first.0 first.1)) first.2, all_by_place P xs (λ n less. h (suc n) (omega (arith, less))))

pub may_go_on : (course : Course) (world : WorldState) (round rounds : ℕ) → AreDone course (round + 1) world.parts → world.spent ≡ false → round < rounds → rounds ≤ course.grid → MayGoOn world
may_go_on course world round rounds done unspent more finer = record {
  unspent = unspent;
  finer = all_by_place (λ (part : PartState). part.begun ≤ part.course.grid) world.parts (λ n within.
      let at = done.each n (subst (λ (k : ℕ). n < k) done.all within) in
      let part : PartState = at.0 in
      let begun = at.2.begun in
      let grid : part.course.grid ≡ course.grid = ap (λ (c : Course). c.grid) at.2.course_is in
      (part, at.1, omega (arith, begun, grid, more, finer)));
}

-- ---- a round of the parts of a job
module _ (job : Job) (inputs : Inputs) (handout : Handout) (may : MayRun job inputs handout) where
  abbrev course : Course
  course = course_of job inputs handout

  abbrev plan : Plan
  plan = plan_of job inputs

  -- what is told of it where all letters arrive
  module _ (round taken : ℕ) (start : List PartState) (picks : List ℕ) (m t : Carried) (arrive : AllArrive handout.parts m) where
    abbrev begins : LabelledMesh
    begins = opened plan (whole handout) round

    abbrev DrawnSo : Result WorldState RunFault → Type 0
    DrawnSo result = IfAllIsTold m (λ before. Draws course round begins (drawn course round start picks) taken before t result)

    abbrev AloneSo : Result WorldState RunFault → Type 0
    AloneSo result = handout.parts ≡ 1 → EndsAlone course round begins (all_next start) m t result

    within_so : (world : WorldState) → DrawnSo (Ok world) → AloneSo (Ok world) → StaysWithinUpTo course begins (passes_in course round + 1)
    within_so world draws ends = elim arrive [ inl one ↦ (ends one).1 | inr all ↦ (draws all.1.0 all.0 all.1.1).0 ]

    see_so : (world : WorldState) → DrawnSo (Ok world) → AloneSo (Ok world) → SeeMesh (passed_times plan begins (passes_in course round)) world.parts
    see_so world draws ends = elim arrive [ inl one ↦ (ends one).3 | inr all ↦ (draws all.1.0 all.0 all.1.1).2 ]

    -- they have adapted the mesh up to it
    adapted_so : (world : WorldState) → DrawnSo (Ok world) → AloneSo (Ok world) → AreDone course (round + 1) world.parts → HaveAdapted course (whole handout) round world.parts
    adapted_so world draws ends done =
        let is = ends_with job inputs handout may round in
        let few = within_so world draws ends (passes_in course round) (omega arith) in
        record {
          done = done;
          few = subst (λ (mesh : LabelledMesh). length mesh.tets ≤ most_tets) is few;
          see = subst (λ (mesh : LabelledMesh). SeeMesh mesh world.parts) is (see_so world draws ends);
        }

    arrive_so : (world : WorldState) → DrawnSo (Ok world) → AllArrive handout.parts t
    arrive_so world draws = elim arrive [ inl one ↦ inl one | inr all ↦ let is = (draws all.1.0 all.0 all.1.1).1 in inr (is.held, (_, is.given)) ]

    -- the number of tetrahedra that it ends with, if it ends with one
    pub record IsOverAt (over stage count : ℕ) : Type 0 where
      pub round_is : over ≡ round
      pub first : IsFirstExcess course round begins stage count

    over_so : (over stage count : ℕ) → DrawnSo (Err (run.Over over stage count)) → AloneSo (Err (run.Over over stage count)) → IsOverAt over stage count
    over_so over stage count draws ends = elim arrive [
      | inl one ↦ let e = ends one in record { round_is = e.1; first = e.2 }
      | inr all ↦ let e = draws all.1.0 all.0 all.1.1 in record { round_is = e.0; first = e.1 }
    ]

    fails_so : (fault : RunFault) → ((over stage count : ℕ) → IsOverAt over stage count → MayFail job inputs (run.Over over stage count)) → DrawnSo (Err fault) → AloneSo (Err fault) → MayFail job inputs fault
    fails_so run.Link over draws ends = tt
    fails_so (run.BadLetter bytes) over draws ends = elim arrive [ inl one ↦ absurd (ends one) | inr all ↦ absurd (draws all.1.0 all.0 all.1.1) ]
    fails_so (run.Starved part phase) over draws ends = elim arrive [ inl one ↦ absurd (ends one) | inr all ↦ absurd (draws all.1.0 all.0 all.1.1) ]
    fails_so (run.Over o stage count) over draws ends = over o stage count (over_so o stage count draws ends)
    fails_so run.Memory over draws ends = tt

  -- ---- round 0
  -- it has one stage, which leaves the mesh that was accepted
  none_past : (stage count : ℕ) → IsFirstExcess course 0 (whole handout) stage count → ⊥
  none_past zero count first = too_few (length (whole handout).tets) count may.few first.count_is first.much
    where
      too_few : (n count : ℕ) → n ≤ most_accepted_tets → count ≡ n → most_tets < count → ⊥
      too_few n count few is much = absurd (omega (arith, few, is, much))
  none_past (suc stage) count first = let upto = first.upto in absurd (omega (arith, upto))

  module _ (s t : Carried) where
    adapted_first : (world : WorldState) → StartComes job inputs handout s t (Ok world) → AreDone course 1 world.parts → AllArrive handout.parts s → HaveAdapted course (whole handout) 0 world.parts
    adapted_first world comes done arrive = adapted_so 0 0 (parts_at_first job inputs handout) (picks_left handout.schedule) s t arrive world comes.drawn comes.alone done

    pub came_first : (world : WorldState) (left : Picks) → StartComes job inputs handout s t (Ok world) → IsWhole course (whole handout) → AreDone course 1 world.parts → world.letters ≡ letters_in course 0 → world.spent ≡ false
        → left ≡ used handout.schedule world.letters → s.faults ≤ t.faults → s.dry ≤ t.dry → HaveCome job inputs handout (λ _. world) 0 left s t
    came_first world left comes right done letters unspent picks faults dry = record {
      comes = comes;
      all = λ n within. (done.all, letters ∙ ap (letters_upto course) (none_before n within));
      is_whole = right;
      done = done;
      unspent = unspent;
      picks = picks;
      have_adapted = λ arrive n within. subst (λ (k : ℕ). HaveAdapted course (whole handout) k world.parts) (none_before n within) (adapted_first world comes done arrive);
      within = λ arrive. λ round stage least greatest last. absurd (omega (arith, least, greatest));
      arrive = λ arrive. arrive_so 0 0 (parts_at_first job inputs handout) (picks_left handout.schedule) s t arrive world comes.drawn;
      faults = faults;
      dry = dry;
    }
      where
        none_before : (n : ℕ) → n ≤ 0 → 0 ≡ n
        none_before n h = omega arith

    pub broke_first : (fault : RunFault) → StartComes job inputs handout s t (Err fault) → HasCause {W = WorldState} s t (Err fault) → BreaksFirst job inputs handout s t fault
    broke_first fault comes cause = record {
      worlds = λ _. record { parts = []; letters = 0; spent = false };
      breaks = record {
        comes = comes;
        cause = cause;
        meant = λ arrive. (
          fails_so 0 0 (parts_at_first job inputs handout) (picks_left handout.schedule) s t arrive fault (λ over stage count at. absurd (none_past stage count at.first)) comes.drawn comes.alone,
          λ before less. absurd (omega (arith, less)),
        );
      };
    }

  -- ---- another round
  module _ (worlds : ℕ → WorldState) (round : ℕ) (left : Picks) (s m t : Carried) (come : HaveCome job inputs handout worlds round left s m) (more : round + 1 ≤ job.rounds) where
    abbrev old : WorldState
    old = worlds round

    -- as the call tells it, of what the world was before
    abbrev pub ToldSo : WorldState → Result WorldState RunFault → Type 0
    ToldSo old result = IfSome m.given (λ before. RunTells (all_next old.parts) old.letters before t.given result)

    abbrev pub DrawsSo : WorldState → Result WorldState RunFault → Type 0
    DrawsSo old result = IfAllIsTold m (λ before. (c : Course) (mesh : LabelledMesh) (n : ℕ) → IsWhole c mesh → IsOnce mesh → HaveAdapted c mesh n old.parts
        → Draws c (n + 1) (opened (plan_in c) mesh (n + 1)) (drawn c (n + 1) old.parts (picks_left left)) old.letters before t result)

    abbrev pub EndsSo : WorldState → Result WorldState RunFault → Type 0
    EndsSo old result = (c : Course) (mesh : LabelledMesh) (n : ℕ) → c.parts ≡ 1 → IsWhole c mesh → IsOnce mesh → HaveAdapted c mesh n old.parts
        → EndsAlone c (n + 1) (opened (plan_in c) mesh (n + 1)) (all_next old.parts) m t result

    comes_so : (result : Result WorldState RunFault) → ToldSo old result → DrawsSo old result → EndsSo old result → RoundComes job inputs handout round old m t result
    comes_so result told draws ends = record {
      told = told;
      drawn = λ have before held given.
          subst (λ (p : Picks). Draws course (round + 1) (opened plan (whole handout) (round + 1)) (drawn course (round + 1) old.parts (picks_left p)) old.letters before t result) come.picks
          (draws before held given course (whole handout) round come.is_whole (is_once job inputs handout may) have);
      alone = λ one have. ends course (whole handout) round one come.is_whole (is_once job inputs handout may) have;
    }

    have_before : AllArrive handout.parts s → HaveAdapted course (whole handout) round old.parts
    have_before arrive = come.have_adapted arrive round (omega arith)

    abbrev next_picks : List ℕ
    next_picks = picks_left (used handout.schedule old.letters)

    -- it comes to its end
    module _ (new : WorldState) (comes : RoundComes job inputs handout round old m t (Ok new)) (done : AreDone course (round + 1 + 1) new.parts) where
      abbrev then : ℕ → WorldState
      then = with_world worlds (round + 1) new

      -- it has adapted the mesh once more, and within the limit
      have_next : AllArrive handout.parts s → HaveAdapted course (whole handout) (round + 1) new.parts
      have_next arrive =
          let have = have_before arrive in
          adapted_so (round + 1) old.letters old.parts next_picks m t (come.arrive arrive) new (comes.drawn have) (λ one. comes.alone one have) done

      within_next : AllArrive handout.parts s → StaysWithin plan (round + 1) inputs.mesh
      within_next arrive =
          let have = have_before arrive in
          let within = within_so (round + 1) old.letters old.parts next_picks m t (come.arrive arrive) new (comes.drawn have) (λ one. comes.alone one have) in
          one_within plan inputs.mesh round (come.within arrive) (round_within job inputs handout may round within)

      -- the world of a round up to it
      module _ (P : (n : ℕ) → WorldState → Type 0) (before : (n : ℕ) → n ≤ round → P n (worlds n)) (at : P (round + 1) new) where
        pub each_world : (n : ℕ) → n ≤ round + 1 → P n (then n)
        each_world n within = elim (cases_lt n (round + 1)) [
          | inl less ↦ subst (λ (w : WorldState). P n w) (sym (world_before worlds (round + 1) new n less)) (before n (omega (arith, less)))
          | inr not_less ↦
              let last : round + 1 ≡ n = omega (arith, within, not_less) in
              subst (λ (k : ℕ). P k (then k)) last (subst (λ (w : WorldState). P (round + 1) w) (sym (last_world worlds (round + 1) new)) at)
        ]

      comes_then : (n : ℕ) (u : Carried) (result : Result WorldState RunFault) → n ≤ round → ComesOf job inputs handout worlds n s u result → ComesOf job inputs handout then n s u result
      comes_then zero u result within comes = comes
      comes_then (suc n) u result within comes =
          let same : worlds n ≡ then n = sym (world_before worlds (round + 1) new n (omega (arith, within))) in
          let before = subst (λ (w : WorldState). ComesOf job inputs handout then n s comes.0 (Ok w)) same (comes_then n comes.0 (Ok (worlds n)) (omega (arith, within)) comes.1) in
          (comes.0, before, subst (λ (w : WorldState). RoundComes job inputs handout n w comes.0 u result) same comes.2)

      comes_last : ComesOf job inputs handout then (round + 1) s t (Ok (then (round + 1)))
      comes_last =
          let same : worlds round ≡ then round = sym (world_before worlds (round + 1) new round (omega arith)) in
          let before = subst (λ (w : WorldState). ComesOf job inputs handout then round s m (Ok w)) same (comes_then round m (Ok (worlds round)) (omega arith) come.comes) in
          let next : ComesOf job inputs handout then (suc round) s t (Ok new) = (m, before, subst (λ (w : WorldState). RoundComes job inputs handout round w m t (Ok new)) same comes) in
          subst (λ (w : WorldState). ComesOf job inputs handout then (round + 1) s t (Ok w)) (sym (last_world worlds (round + 1) new))
          (subst (λ (n : ℕ). ComesOf job inputs handout then n s t (Ok new)) (sym (add-one round)) next)

      came_next : (right : Picks) → new.letters ≡ old.letters + letters_in course (round + 1) → right ≡ used left (letters_in course (round + 1)) → new.spent ≡ false → m.faults ≤ t.faults → m.dry ≤ t.dry
          → HaveCome job inputs handout then (round + 1) right s t
      came_next right letters picks unspent faults dry =
          let here = come.all round (omega arith) in
          let each : ℕ = letters_in course (round + 1) in
          let taken : new.letters ≡ letters_upto course (round + 1) = letters ∙ (ap (λ (n : ℕ). n + each) here.1 ∙ letters_more course round) in
          let last : new ≡ then (round + 1) = sym (last_world worlds (round + 1) new) in
          let before_faults = come.faults in
          let before_dry = come.dry in
          record {
            comes = comes_last;
            all = each_world (λ (n : ℕ) (w : WorldState). (length w.parts ≡ handout.parts) × (w.letters ≡ letters_upto course n)) come.all (done.all, taken);
            is_whole = come.is_whole;
            done = subst (λ (w : WorldState). AreDone course (round + 1 + 1) w.parts) last done;
            unspent = subst (λ (w : WorldState). w.spent ≡ false) last unspent;
            picks = picks ∙ (ap (λ (p : Picks). used p each) come.picks ∙ (used_both handout.schedule old.letters each ∙ ap (used handout.schedule) (sym letters ∙ ap (λ (w : WorldState). w.letters) last)));
            have_adapted = λ arrive. each_world (λ (n : ℕ) (w : WorldState). HaveAdapted course (whole handout) n w.parts) (come.have_adapted arrive) (have_next arrive);
            within = within_next;
            arrive = λ arrive. arrive_so (round + 1) old.letters old.parts next_picks m t (come.arrive arrive) new (comes.drawn (have_before arrive));
            faults = omega (arith, before_faults, faults);
            dry = omega (arith, before_dry, dry);
          }

    -- or to a fault
    module _ (fault : RunFault) (comes : RoundComes job inputs handout round old m t (Err fault)) where
      broke_next : HasCause {W = WorldState} m t (Err fault) → BreaksIn job inputs handout worlds (round + 1) s t fault
      broke_next cause =
          let next : ComesOf job inputs handout worlds (suc round) s t (Err fault) = (m, come.comes, comes) in
          record {
            comes = subst (λ (n : ℕ). ComesOf job inputs handout worlds n s t (Err fault)) (sym (add-one round)) next;
            cause = cause_since s m t fault come.faults come.dry cause;
            meant = λ arrive. let have = have_before arrive in (
              fails_so (round + 1) old.letters old.parts next_picks m t (come.arrive arrive) fault
                  (λ over stage count at. first_past job inputs handout may round over stage count more at.round_is at.first (come.within arrive)) (comes.drawn have) (λ one. comes.alone one have),
              λ before less. union_is job inputs handout may come.is_whole before (worlds before).parts (come.have_adapted arrive before (omega (arith, less))),
            );
          }

    -- as the world was found
    module _ (found : WorldState) (at : old ≡ found) where
      told_at : (result : Result WorldState RunFault) → ToldSo found result → DrawsSo found result → EndsSo found result → RoundComes job inputs handout round old m t result
      told_at result told draws ends =
          let back : found ≡ old = sym at in
          comes_so result (subst (λ (w : WorldState). ToldSo w result) back told) (subst (λ (w : WorldState). DrawsSo w result) back draws) (subst (λ (w : WorldState). EndsSo w result) back ends)

      pub came_after : (new : WorldState) → ToldSo found (Ok new) → DrawsSo found (Ok new) → EndsSo found (Ok new) → ((c : Course) (rounds : ℕ) → AreDone c rounds found.parts → AreDone c (rounds + 1) new.parts)
          → (right : Picks) → ((c : Course) (rounds : ℕ) → AreDone c rounds found.parts → new.letters ≡ found.letters + letters_in c rounds) → ((c : Course) (rounds : ℕ) → AreDone c rounds found.parts → right ≡ used left (letters_in c rounds))
          → new.spent ≡ false → m.faults ≤ t.faults → m.dry ≤ t.dry → HaveCome job inputs handout (with_world worlds (round + 1) new) (round + 1) right s t
      came_after new told draws ends done right letters picks unspent faults dry =
          let there : AreDone course (round + 1) found.parts = subst (λ (w : WorldState). AreDone course (round + 1) w.parts) at come.done in
          let taken : new.letters ≡ old.letters + letters_in course (round + 1) = letters course (round + 1) there ∙ ap (λ (w : WorldState). w.letters + letters_in course (round + 1)) (sym at) in
          came_next new (told_at (Ok new) told draws ends) (done course (round + 1) there) right taken (picks course (round + 1) there) unspent faults dry

      pub broke_after : (fault : RunFault) → ToldSo found (Err fault) → DrawsSo found (Err fault) → EndsSo found (Err fault) → HasCause {W = WorldState} m t (Err fault) → BreaksIn job inputs handout worlds (round + 1) s t fault
      broke_after fault told draws ends cause = broke_next fault (told_at (Err fault) told draws ends) cause
