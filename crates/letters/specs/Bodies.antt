-- Grammars of what letters carry: each a list, or lists one after another.
use Rattle.std.specs.Prelude.{ℕ, Bool, ◌==◌, List, Option, Some, None, if◌then◌else◌}
use Rattle.ma_cells.specs.declared.batch.Batch.{Batch}
use Rattle.cavity_rank.specs.Operations.{Operation}
use Rattle.letters.specs.declared.letter.Body.{Body}
use Rattle.letters.specs.declared.letter.Body.TheVariants as bodies
use Rattle.letters.specs.declared.letter.LetterKind.{LetterKind}
use Rattle.letters.specs.declared.letter.LetterKind.TheVariants as kinds
use Rattle.letters.specs.declared.letter.Post.{Post}
use Rattle.letters.specs.declared.letter.Reply.{Reply}
use Rattle.letters.specs.Entries.{mark, mark_before, operation, operation_before, shared, tet, tet_before}
use Rattle.letters.specs.Fields.{between, place, place_before}
use Rattle.letters.specs.Grammar.{Grammar, counted, number, renamed, variant, ◌then◌}
use Rattle.letters.specs.Sharing.{shared_before}

-- a list: its length in eight bytes, and its entries, each behind the one before it
abbrev pub list_of : {X : Type 0} → (X → X → Bool) → Grammar X → Grammar (List X)
list_of before entry = counted (number 8) before entry

abbrev pub post : Grammar Post
post = renamed (λ p. record { count = p.0; places = p.1.0; marks = p.1.1 }) (λ b. (b.count, (b.places, b.marks))) (number 4 then list_of place_before place then list_of mark_before mark)

abbrev pub reply : Grammar Reply
reply = renamed (λ p. record { shared = p.0; marks = p.1 }) (λ b. (b.shared, b.marks)) (list_of shared_before shared then list_of mark_before mark)

abbrev pub batch : Grammar Batch
batch = renamed (λ p. record { tets = p.0; marks = p.1 }) (λ b. (b.tets, b.marks)) (list_of tet_before tet then list_of mark_before mark)

abbrev pub operations : Grammar (List Operation)
operations = list_of operation_before operation

-- the kind of a letter, in a byte from 1 to 7
abbrev pub kind_at : ℕ → LetterKind
kind_at n =
    if n == 1 then kinds.Post else if n == 2 then kinds.Reply else if n == 3 then kinds.Ghosts else if n == 4 then kinds.Propose else if n == 5 then kinds.Vote else if n == 6 then kinds.Order else kinds.Deliver

abbrev pub kind_number : LetterKind → ℕ
kind_number kinds.Post = 1
kind_number kinds.Reply = 2
kind_number kinds.Ghosts = 3
kind_number kinds.Propose = 4
kind_number kinds.Vote = 5
kind_number kinds.Order = 6
kind_number kinds.Deliver = 7

abbrev pub kind : Grammar LetterKind
kind = renamed kind_at kind_number (between 1 7)

abbrev pub kind_of : Body → LetterKind
kind_of (bodies.Post b) = kinds.Post
kind_of (bodies.Reply b) = kinds.Reply
kind_of (bodies.Ghosts b) = kinds.Ghosts
kind_of (bodies.Propose b) = kinds.Propose
kind_of (bodies.Vote b) = kinds.Vote
kind_of (bodies.Order b) = kinds.Order
kind_of (bodies.Deliver b) = kinds.Deliver

abbrev pub post_in : Body → Option Post
post_in (bodies.Post b) = Some b
post_in _ = None

abbrev pub reply_in : Body → Option Reply
reply_in (bodies.Reply b) = Some b
reply_in _ = None

abbrev pub ghosts_in : Body → Option Batch
ghosts_in (bodies.Ghosts b) = Some b
ghosts_in _ = None

abbrev pub proposed_in : Body → Option (List Operation)
proposed_in (bodies.Propose b) = Some b
proposed_in _ = None

abbrev pub voted_in : Body → Option (List Operation)
voted_in (bodies.Vote b) = Some b
voted_in _ = None

abbrev pub ordered_in : Body → Option (List Operation)
ordered_in (bodies.Order b) = Some b
ordered_in _ = None

abbrev pub delivered_in : Body → Option Batch
delivered_in (bodies.Deliver b) = Some b
delivered_in _ = None

-- what a letter of a kind carries
abbrev pub body_of : LetterKind → Grammar Body
body_of kinds.Post = variant bodies.Post post_in post
body_of kinds.Reply = variant bodies.Reply reply_in reply
body_of kinds.Ghosts = variant bodies.Ghosts ghosts_in batch
body_of kinds.Propose = variant bodies.Propose proposed_in operations
body_of kinds.Vote = variant bodies.Vote voted_in operations
body_of kinds.Order = variant bodies.Order ordered_in operations
body_of kinds.Deliver = variant bodies.Deliver delivered_in batch
