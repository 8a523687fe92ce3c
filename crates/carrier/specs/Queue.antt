-- A carrier in memory, with the numbers of the calls that are to fail.
--     QueueState         what it holds
--     new_queue          as it is made
--     is_post_to_fail    the next post has a number that is to fail
--     is_take_to_fail    the next take has
--     PostAnswers        the answer is the one that is due, or `Memory` in place of `Ok`
--     TakeAnswers        the answer is the one that is due
--     after_posting      what the answer of a post leaves
--     after_taking       what the answer of a take leaves
use Rattle.std.specs.Prelude.{◌≡◌, ℕ, Bool, true, false, ◌==◌, List, [], ◌∷◌, ◌++◌, Option, Some, None, Result, Ok, Err, Vec}
use Rattle.std.specs.List.{list_any, remove}
use Rattle.ma_io.specs.Count.{raised}
use Rattle.carrier.specs.declared.faults.CarrierFault.{CarrierFault}
use Rattle.carrier.specs.declared.faults.CarrierFault.TheVariants.{Failed, Memory}
use Rattle.carrier.specs.Carried.{Letters}
use Rattle.carrier.specs.Take.{place_of}

-- the letters, the numbers of the posts and of the takes that are to fail, how many posts and takes were answered, and the counts
pub record QueueState : Type 0 where
  pub posted : Letters
  pub held : Letters
  pub given : Letters
  pub fail_posts : List ℕ
  pub fail_takes : List ℕ
  pub posts : ℕ
  pub takes : ℕ
  pub faults : ℕ
  pub dry : ℕ

abbrev pub new_queue : List ℕ → List ℕ → QueueState
new_queue fail_posts fail_takes = record { posted = []; held = []; given = []; fail_posts = fail_posts; fail_takes = fail_takes; posts = 0; takes = 0; faults = 0; dry = 0 }

-- posts have the numbers from 1, and takes have
abbrev pub is_post_to_fail : QueueState → Bool
is_post_to_fail q = list_any (λ number. number == raised q.posts) q.fail_posts

abbrev pub is_take_to_fail : QueueState → Bool
is_take_to_fail q = list_any (λ number. number == raised q.takes) q.fail_takes

abbrev pub PostAnswers : {T : Type 0} → Bool → Result T CarrierFault → Type 0
PostAnswers fails (Ok _) = fails ≡ false
PostAnswers fails (Err Failed) = fails ≡ true
PostAnswers fails (Err Memory) = fails ≡ false

abbrev pub TakeAnswers : {T : Type 0} → Bool → Result T CarrierFault → Type 0
TakeAnswers fails (Ok _) = fails ≡ false
TakeAnswers fails (Err Failed) = fails ≡ true
TakeAnswers fails (Err Memory) = ⊥

-- a post for which memory ran out has no number
abbrev pub after_posting : {T : Type 0} → QueueState → List ℕ → Result T CarrierFault → QueueState
after_posting q bytes (Ok _) = record q { posted = q.posted ++ bytes ∷ []; held = q.held ++ bytes ∷ []; posts = raised q.posts }
after_posting q bytes (Err Failed) = record q { posts = raised q.posts; faults = raised q.faults }
after_posting q bytes (Err Memory) = q

abbrev pub after_taking : {A : Type 0} → QueueState → ℕ → Result (Option (Vec ℕ A)) CarrierFault → QueueState
after_taking q pick (Ok (Some bytes)) = record q { held = remove q.held (place_of pick q.held); given = q.given ++ bytes.items ∷ []; takes = raised q.takes }
after_taking q pick (Ok None) = record q { takes = raised q.takes; dry = raised q.dry }
after_taking q pick (Err Failed) = record q { takes = raised q.takes; faults = raised q.faults }
after_taking q pick (Err Memory) = q
