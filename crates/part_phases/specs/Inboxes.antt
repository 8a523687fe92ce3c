-- What a part has got in one phase.
use Rattle.std.specs.Prelude.{◌≡◌, ◌≢◌, ◌<◌, ◌==◌, ℕ, zero, suc, Bool, not, T, List, [], ◌∷◌, ◌++◌, length, map, Option, Some, is_some}
use Rattle.std.specs.FinMap.{find, is_sorted, put}
use Rattle.std.specs.List.{filter}
use Rattle.std.specs.Ordering.{nat_cmp}

-- bodies of letters, each with its sender, ascending by sender
abbrev pub Inbox : Type 0 → Type 0
Inbox B = List (ℕ × B)

-- that senders ascend
abbrev pub AreInOrder : {B : Type 0} → Inbox B → Type 0
AreInOrder inbox = T (is_sorted nat_cmp inbox)

-- an inbox with the body of one more sender
abbrev pub put_in : {B : Type 0} → ℕ → B → Inbox B → Inbox B
put_in sender body inbox = put nat_cmp sender body inbox

-- the body that a sender sent, if it has come
abbrev pub body_from : {B : Type 0} → ℕ → Inbox B → Option B
body_from sender inbox = find nat_cmp sender inbox

-- whether nothing has come from a sender
abbrev pub lacks : {B : Type 0} → Inbox B → ℕ → Bool
lacks inbox sender = not (is_some (body_from sender inbox))

-- the numbers of so many parts, ascending
abbrev pub below : ℕ → List ℕ
below zero = []
below (suc n) = below n ++ n ∷ []

-- the numbers of all parts but one
abbrev pub others : ℕ → ℕ → List ℕ
others parts me = filter (λ n. not (n == me)) (below parts)

-- from how many others nothing has come
abbrev pub missing : {B : Type 0} → ℕ → ℕ → Inbox B → ℕ
missing parts me inbox = length (filter (lacks inbox) (others parts me))

-- the bodies of all parts, by what each sends
abbrev pub gathered : {B : Type 0} → ℕ → (ℕ → B) → Inbox B
gathered parts sends = map (λ n. (n, sends n)) (below parts)

-- bodies of two senders may come in either order
abbrev pub BodiesComeInAnyOrder : Type 0 → Type 0
BodiesComeInAnyOrder B = (p q : ℕ) (b c : B) (inbox : Inbox B) → AreInOrder inbox → p ≢ q → put_in p b (put_in q c inbox) ≡ put_in q c (put_in p b inbox)

-- an inbox without a missing body, with one's own, that has of each sender what it sent, has what all sent and nothing else
abbrev pub FullInboxIsWhatAllSent : Type 0 → Type 0
FullInboxIsWhatAllSent B = (sends : ℕ → B) (parts me : ℕ) (inbox : Inbox B) → AreInOrder inbox → missing parts me inbox ≡ 0 → body_from me inbox ≡ Some (sends me)
    → ((sender : ℕ) (body : B) → body_from sender inbox ≡ Some body → (sender < parts) × (body ≡ sends sender)) → inbox ≡ gathered parts sends
