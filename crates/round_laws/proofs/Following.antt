-- The rules lead from what the mesh tells of a phase to what it tells of the next, through all passes.
use Rattle.std.proofs.Common.{◌≡◌, ℕ, ◌+◌, ◌-◌, ◌<◌, ◌≤◌, true, false, cond, List, [], ◌∷◌, ◌++◌, length, None, Result, Ok, Err, inl, inr, refl, sym, ap, subst, ◌∙◌, arith}
use Rattle.std.specs.Prelude.{map, ◌==◌}
use Rattle.std.specs.List.{flat_map}
use Rattle.std.proofs.lemmas.Bool.{le-leb, lt-leb}
use Rattle.ma_geom.specs.Coordinates.{Coordinates}
use Rattle.ma_cells.specs.Cells.{CellMark}
use Rattle.cavity_rank.specs.Operations.{Operation}
use Rattle.cavity_rank.specs.declared.verdict.Kind.{Kind}
use Rattle.letters.specs.declared.letter.Body.{Body}
use Rattle.letters.specs.declared.letter.Body.TheVariants as bodies
use Rattle.letters.specs.declared.letter.LetterKind.{LetterKind}
use Rattle.letters.specs.declared.letter.LetterKind.TheVariants as kinds
use Rattle.directory.specs.Homes.{home_of}
use Rattle.directory.specs.Posting.{most_told, reply_of}
use Rattle.part_phases.specs.Inboxes.{Inbox, below, gathered}
use Rattle.part_phases.specs.Standings.{Rules, Standing}
use Rattle.part_rules.specs.Bodies.{batch_from, batches_in, first_off, places_of, post_from, posts_in, replies_in, reply_from}
use Rattle.part_rules.specs.Ends.{after_ghosts, after_posts, after_replies, if_within, most_tets}
use Rattle.part_rules.specs.Owed as sharing
use Rattle.part_rules.specs.declared.course.Course.{Course}
use Rattle.part_store.specs.Labelled.{LabelledMesh, view_of}
use Rattle.part_store.specs.Stores.{StoreState}
use Rattle.part_store.proofs.Members.{In}
use Rattle.part_vote.specs.OwedVotes.{owed_orders, owed_proposals, owed_votes}
use Rattle.part_vote.specs.Voting.{ordered_to, voted_to}
use Rattle.part_gather.specs.Ordered.{after_orders, delivered_to}
use Rattle.part_gather.specs.OwedGathering.{owed_deliveries}
use Rattle.phase_laws.specs.Truth.{Follows, Truth}
use Rattle.view_laws.specs.Truths.{IsShared}
use Rattle.view_laws.proofs.Counts.{after_posts_are}
use Rattle.view_laws.proofs.HomesBelow.{home_below}
use Rattle.view_laws.proofs.Numbered.{in-below}
use Rattle.view_laws.proofs.OnGrid.{none_wrong}
use Rattle.view_laws.proofs.Postings.{after_replies_are, posts_are, replies_are}
use Rattle.view_laws.proofs.Showings.{after_ghosts_are, ghosts_are}
use Rattle.vote_laws.proofs.Votes.{ordered_are, proposed_are, voted_are}
use Rattle.gather_laws.proofs.Applying.{after_orders_are}
use Rattle.gather_laws.proofs.Delivering.{delivered_are}
use Rattle.staged_meshes.specs.Laws.{MarksStayUpTo, plan_of}
use Rattle.staged_meshes.specs.Staged.{carried_behind, passed_times}
use Rattle.staged_meshes.proofs.StagesShared.{passed_is_shared}
use Rattle.round_rules.specs.Bodies.{deliveries_in, delivery_from, is_of_kind, order_from, orders_in, proposal_from, proposals_in, sent_by, vote_from, votes_in}
use Rattle.round_rules.specs.Owed.{all_owed, holding, keeping, owed}
use Rattle.round_rules.specs.Rounds.{body_for, is_kept, left_by, rules}
use Rattle.round_rules.specs.Stages.{first_phase, last_phase, next_kind, pass_kind, passes_after, passes_before, passes_in, phase_kind}
use Rattle.round_laws.specs.Truths.{RulesFollow, RulesStop, over_truth, round_truth}
use Rattle.round_laws.proofs.Phases.{ghosts_at, passes_below, passes_upto, plus_one, posts_at}
use Rattle.round_laws.proofs.Places.{deliveries_right, orders_right, proposals_right, votes_right}

-- bodies of one kind, taken out of an inbox
taken_out : {B : Type 0} (f : ℕ → B) (wrap : B → Body) (out : ℕ → Body → Inbox B) → ((p : ℕ) (b : B) → out p (wrap b) ≡ (p, b) ∷ []) → (ps : List ℕ)
    → flat_map {X = ℕ × Body} (λ e. out e.0 e.1) (map (λ p. (p, wrap (f p))) ps) ≡ map (λ p. (p, f p)) ps
taken_out f wrap out one [] = refl
taken_out f wrap out one (p ∷ ps) =
    ap (λ l. l ++ flat_map {X = ℕ × Body} (λ e. out e.0 e.1) (map (λ p. (p, wrap (f p))) ps)) (one p (f p)) ∙ ap (λ l. (p, f p) ∷ l) (taken_out f wrap out one ps)

-- the operations of one sender
sent_among : (f : ℕ → List Operation) (ps : List ℕ) (q : ℕ) → In q ps → sent_by (map (λ p. (p, f p)) ps) q ≡ f q
sent_among f [] q there = absurd there
sent_among f (p ∷ ps) q there = elim (p == q) as (λ b. (p == q) ≡ b → cond b (f p) (sent_by (map (λ p. (p, f p)) ps) q) ≡ f q) [
  | true ↦ λ e. let same : p ≡ q = grind arith in ap f same
  | false ↦ λ e. elim there [
    | inl same ↦ let none : q ≡ p = same in absurd (grind arith)
    | inr later ↦ sent_among f ps q later
  ]
] refl

sent_is : (f : ℕ → List Operation) (parts q : ℕ) → q < parts → sent_by (gathered parts f) q ≡ f q
sent_is f parts q within = sent_among f (below parts) q (in-below parts q within)

never_ok : (n : ℕ) (s : StoreState) → (let a : Result StoreState ℕ = Err n in a) ≡ Ok s → ⊥
never_ok n s e = cc

same_ok : (s t : StoreState) → (let a : Result StoreState ℕ = Ok s in a) ≡ Ok t → s ≡ t
same_ok s t e = cc

module _ (course : Course) (mesh : LabelledMesh) (carried : ℕ → List CellMark) (round : ℕ) (is : IsShared course mesh carried round)
    (top : ℕ) (stay : MarksStayUpTo (plan_of course) mesh top) where
  abbrev parts : ℕ
  parts = course.parts

  abbrev home : Coordinates → ℕ
  home = home_of (course.grid - round) course.parts

  abbrev r : Rules StoreState Body Coordinates
  r = rules course

  abbrev stage : ℕ → LabelledMesh
  stage i = passed_times (plan_of course) mesh i

  abbrev marks : ℕ → ℕ → List CellMark
  marks i = carried_behind (plan_of course) mesh carried i

  abbrev kind : ℕ → Kind
  kind i = pass_kind course i

  abbrev held : LetterKind → ℕ → ℕ → StoreState
  held k i q = holding course home (stage i) (marks i) i k q

  abbrev sent : LetterKind → ℕ → ℕ → ℕ → Body
  sent k i p q = owed course home (stage i) (marks i) i k p q

  abbrev all_sent : LetterKind → ℕ → ℕ → Inbox Body
  all_sent k i q = all_owed course home (stage i) (marks i) i k q

  abbrev kept : LetterKind → ℕ → ℕ → List (Inbox Body)
  kept k i q = keeping course home (stage i) (marks i) i k q

  -- a part in a phase of this kind
  abbrev stands : LetterKind → ℕ → ℕ → ℕ → Inbox Body → Inbox Body → Standing StoreState Body
  stands k i n q now early = record { me = q; round = round; phase = n; holds = held k i q; now = now; early = early; kept = kept k i q }

  homes : (x : Coordinates) → home x < parts
  homes x = home_below (course.grid - round) course.parts x is.parts

  -- each stage is shared
  shared : (i : ℕ) → i ≤ top → IsShared course (stage i) (marks i) round
  shared i upto = passed_is_shared course mesh carried round i is (λ before within. stay before (omega arith))

  -- ---- bodies by kind
  posts_out : (i q : ℕ) → posts_in (all_sent kinds.Post i q) ≡ gathered parts (λ p. sharing.owed_post parts home (stage i) (marks i) p q)
  posts_out i q = taken_out (λ p. sharing.owed_post parts home (stage i) (marks i) p q) bodies.Post post_from (λ p b. refl) (below parts)

  replies_out : (i q : ℕ) → replies_in (all_sent kinds.Reply i q) ≡ gathered parts (λ p. sharing.owed_reply parts home (stage i) (marks i) p q)
  replies_out i q = taken_out (λ p. sharing.owed_reply parts home (stage i) (marks i) p q) bodies.Reply reply_from (λ p b. refl) (below parts)

  batches_out : (i q : ℕ) → batches_in (all_sent kinds.Ghosts i q) ≡ gathered parts (λ p. sharing.owed_ghosts parts home (stage i) (marks i) p q)
  batches_out i q = taken_out (λ p. sharing.owed_ghosts parts home (stage i) (marks i) p q) bodies.Ghosts batch_from (λ p b. refl) (below parts)

  proposals_out : (i q : ℕ) → proposals_in (all_sent kinds.Propose i q) ≡ gathered parts (λ p. owed_proposals (kind i) course.field (stage i) p q)
  proposals_out i q = taken_out (λ p. owed_proposals (kind i) course.field (stage i) p q) bodies.Propose proposal_from (λ p b. refl) (below parts)

  votes_out : (i q : ℕ) → votes_in (all_sent kinds.Vote i q) ≡ gathered parts (λ p. owed_votes (kind i) course.field (stage i) p q)
  votes_out i q = taken_out (λ p. owed_votes (kind i) course.field (stage i) p q) bodies.Vote vote_from (λ p b. refl) (below parts)

  orders_out : (i q : ℕ) → orders_in (all_sent kinds.Order i q) ≡ gathered parts (λ p. owed_orders (kind i) course.field (stage i) p q)
  orders_out i q = taken_out (λ p. owed_orders (kind i) course.field (stage i) p q) bodies.Order order_from (λ p b. refl) (below parts)

  deliveries_out : (i q : ℕ) → deliveries_in (all_sent kinds.Deliver i q) ≡ gathered parts (λ p. owed_deliveries (kind i) course.field (stage i) p q)
  deliveries_out i q = taken_out (λ p. owed_deliveries (kind i) course.field (stage i) p q) bodies.Deliver delivery_from (λ p b. refl) (below parts)

  -- what a part itself proposed, and voted for
  own_proposals : (i q : ℕ) → q < parts → sent_by (proposals_in (all_sent kinds.Propose i q)) q ≡ owed_proposals (kind i) course.field (stage i) q q
  own_proposals i q within = ap (λ lists. sent_by lists q) (proposals_out i q) ∙ sent_is (λ p. owed_proposals (kind i) course.field (stage i) p q) parts q within

  own_votes : (i q : ℕ) → q < parts → sent_by (votes_in (all_sent kinds.Vote i q)) q ≡ owed_votes (kind i) course.field (stage i) q q
  own_votes i q within = ap (λ lists. sent_by lists q) (votes_out i q) ∙ sent_is (λ p. owed_votes (kind i) course.field (stage i) p q) parts q within

  -- ---- what is sent
  sends_at : (k : LetterKind) (i n q x : ℕ) (now early : Inbox Body) → i ≤ top → q < parts → x < parts → body_for course home k i (stands k i n q now early) x ≡ sent k i q x
  sends_at kinds.Post i n q x now early upto a b = let s = shared i upto in ap bodies.Post (posts_are parts home homes (stage i) s.labelled (marks i) s.known q x a)
  sends_at kinds.Reply i n q x now early upto a b =
      let s = shared i upto in
      ap (λ posts. bodies.Reply (reply_of posts x)) (posts_out i q) ∙ ap bodies.Reply (replies_are parts home homes (stage i) s.labelled (marks i) s.known q x b)
  sends_at kinds.Ghosts i n q x now early upto a b = let s = shared i upto in ap bodies.Ghosts (ghosts_are parts home homes (stage i) s.labelled (marks i) q x a b)
  sends_at kinds.Propose i n q x now early upto a b = let s = shared i upto in ap bodies.Propose (proposed_are parts (kind i) course.field (stage i) s.labelled q x)
  sends_at kinds.Vote i n q x now early upto a b =
      let s = shared i upto in
      ap (λ lists. bodies.Vote (voted_to (view_of (stage i) q) lists x)) (proposals_out i q) ∙ ap bodies.Vote (voted_are parts (kind i) course.field (stage i) s.labelled q x b)
  sends_at kinds.Order i n q x now early upto a b =
      let s = shared i upto in
      (λ j. bodies.Order (ordered_to (view_of (stage i) q) (own_proposals i q a j) (own_votes i q a j) (votes_out i q j) x))
      ∙ ap bodies.Order (ordered_are parts (kind i) course.field (stage i) s.labelled q x)
  sends_at kinds.Deliver i n q x now early upto a b =
      ap (λ lists. bodies.Deliver (delivered_to (held kinds.Deliver i q) lists x)) (orders_out i q)
      ∙ ap bodies.Deliver (delivered_are parts (kind i) course.field (stage i) q x b (held kinds.Deliver i q) refl)

  -- ---- what the letters leave
  within : (i : ℕ) (s : StoreState) → length (stage i).tets ≤ most_tets → if_within (length (stage i).tets) s ≡ Ok s
  within i s few = ap (λ b. cond b (let a : Result StoreState ℕ = Ok s in a) (Err (length (stage i).tets))) (le-leb (length (stage i).tets) most_tets few)

  beyond : (i : ℕ) (s : StoreState) → most_tets < length (stage i).tets → if_within (length (stage i).tets) s ≡ Err (length (stage i).tets)
  beyond i s many = ap (λ b. cond b (let a : Result StoreState ℕ = Ok s in a) (Err (length (stage i).tets))) (lt-leb (length (stage i).tets) most_tets many)

  posts_leave : (i n q : ℕ) (early : Inbox Body) → i ≤ top → q < parts → length (stage i).tets ≤ most_told
      → left_by kinds.Post (stands kinds.Post i n q (all_sent kinds.Post i q) early) ≡ if_within (length (stage i).tets) (held kinds.Post i q)
  posts_leave i n q early upto a told =
      ap (after_posts (held kinds.Post i q)) (posts_out i q) ∙ after_posts_are (stage i) parts (shared i upto).labelled home (marks i) q a told

  ends_at : (k : LetterKind) (i n q : ℕ) (early : Inbox Body) → i ≤ top → q < parts → length (stage i).tets ≤ most_tets
      → left_by k (stands k i n q (all_sent k i q) early) ≡ Ok (held (next_kind k) (passes_after k i) q)
  ends_at kinds.Post i n q early upto a few = posts_leave i n q early upto a (omega arith) ∙ within i (held kinds.Post i q) few
  ends_at kinds.Reply i n q early upto a few =
      let s = shared i upto in
      ap (λ replies. Ok (after_replies (held kinds.Reply i q) replies)) (replies_out i q) ∙ ap Ok (after_replies_are parts home homes (stage i) s.labelled (marks i) s.known q a)
  ends_at kinds.Ghosts i n q early upto a few =
      let s = shared i upto in
      ap (λ batches. Ok (after_ghosts (held kinds.Ghosts i q) batches)) (batches_out i q) ∙ ap Ok (after_ghosts_are parts home homes (stage i) s.labelled (marks i) q a)
  ends_at kinds.Propose i n q early upto a few = refl
  ends_at kinds.Vote i n q early upto a few = refl
  ends_at kinds.Order i n q early upto a few = refl
  ends_at kinds.Deliver i n q early upto a few =
      let s = shared i upto in
      (λ j. Ok (after_orders (held kinds.Deliver i q) (orders_out i q j) (deliveries_out i q j)))
      ∙ ap Ok (after_orders_are parts (kind i) course.field (stage i) s.labelled q a home (held kinds.Deliver i q) refl)

  keeps_at : (k : LetterKind) (i q : ℕ) → cond (is_kept k) (all_sent k i q ∷ kept k i q) [] ≡ kept (next_kind k) (passes_after k i) q
  keeps_at kinds.Post i q = refl
  keeps_at kinds.Reply i q = refl
  keeps_at kinds.Ghosts i q = refl
  keeps_at kinds.Propose i q = refl
  keeps_at kinds.Vote i q = refl
  keeps_at kinds.Order i q = refl
  keeps_at kinds.Deliver i q = refl

  -- ---- the letters
  fits_at : (k : LetterKind) (i p q : ℕ) → is_of_kind k (sent k i p q) ≡ true
  fits_at kinds.Post i p q = refl
  fits_at kinds.Reply i p q = refl
  fits_at kinds.Ghosts i p q = refl
  fits_at kinds.Propose i p q = refl
  fits_at kinds.Vote i p q = refl
  fits_at kinds.Order i p q = refl
  fits_at kinds.Deliver i p q = refl

  right_at : (k : LetterKind) (i p q : ℕ) → i ≤ top → p < parts → first_off (course.grid - round) (places_of (sent k i p q)) ≡ None
  right_at kinds.Post i p q upto a = let s = shared i upto in none_wrong parts home (stage i) (marks i) s.known (course.grid - round) s.tets s.marks 0 p q a
  right_at kinds.Reply i p q upto a = let s = shared i upto in none_wrong parts home (stage i) (marks i) s.known (course.grid - round) s.tets s.marks 1 p q a
  right_at kinds.Ghosts i p q upto a = let s = shared i upto in none_wrong parts home (stage i) (marks i) s.known (course.grid - round) s.tets s.marks 2 p q a
  right_at kinds.Propose i p q upto a = let s = shared i upto in proposals_right (course.grid - round) (stage i) s.tets s.marks (kind i) course.field p q
  right_at kinds.Vote i p q upto a = let s = shared i upto in votes_right (course.grid - round) (stage i) s.tets s.marks (kind i) course.field p q
  right_at kinds.Order i p q upto a = let s = shared i upto in orders_right (course.grid - round) (stage i) s.tets s.marks (kind i) course.field p q
  right_at kinds.Deliver i p q upto a = let s = shared i upto in deliveries_right (course.grid - round) (stage i) s.tets s.marks (kind i) course.field p q

  -- the phase after one
  next_held : (n q : ℕ) → held (next_kind (phase_kind n)) (passes_after (phase_kind n) (passes_before n)) q ≡ held (phase_kind (n + 1)) (passes_before (n + 1)) q
  next_held n q = ap (λ m. held (phase_kind m) (passes_before m) q) (plus_one n)

  next_kept : (n q : ℕ) → kept (next_kind (phase_kind n)) (passes_after (phase_kind n) (passes_before n)) q ≡ kept (phase_kind (n + 1)) (passes_before (n + 1)) q
  next_kept n q = ap (λ m. kept (phase_kind m) (passes_before m) q) (plus_one n)

  -- ---- to the end of the round
  module _ (all : passes_in course round ≡ top) (few : (i : ℕ) → i ≤ top → length (stage i).tets ≤ most_tets) where
    abbrev t : Truth StoreState Body
    t = round_truth course mesh carried round

    end_is : last_phase (passes_in course round) ≡ last_phase top
    end_is = ap last_phase all

    upto_top : (n : ℕ) → n ≤ last_phase (passes_in course round) → passes_before n ≤ top
    upto_top n upto = passes_upto top n (subst (λ z. n ≤ z) end_is upto)

    after_last : (q : ℕ)
        → held (next_kind (phase_kind (last_phase (passes_in course round)))) (passes_after (phase_kind (last_phase (passes_in course round))) (passes_before (last_phase (passes_in course round)))) q
        ≡ held kinds.Propose (passes_in course round) q
    after_last q = let e = ghosts_at (passes_in course round) in λ j. held (next_kind (e.0 j)) (passes_after (e.0 j) (e.1 j)) q

    pub follows_round : Follows r t
    follows_round = record {
      sends = λ n q x now early upto a b. sends_at (phase_kind n) (passes_before n) n q x now early (upto_top n upto) a b;
      upto = omega arith;
      outcomes = λ q early a.
          let end = last_phase (passes_in course round) in
          let upto = upto_top end (omega arith) in
          ends_at (phase_kind end) (passes_before end) end q early upto a (few (passes_before end) upto) ∙ ap Ok (after_last q);
      final = λ q a s left.
          let end = last_phase (passes_in course round) in
          (refl, sym (same_ok (held kinds.Propose (passes_in course round) q) s left) ∙ sym (after_last q) ∙ next_held end q);
      ends = λ n q early before a.
          let upto = upto_top n (omega (arith, before)) in
          ends_at (phase_kind n) (passes_before n) n q early upto a (few (passes_before n) upto) ∙ ap Ok (next_held n q);
      keeps = λ n q early upto a. keeps_at (phase_kind n) (passes_before n) q ∙ next_kept n q;
      fits = λ n p q upto a b. fits_at (phase_kind n) (passes_before n) p q;
      right = λ n p q upto a b. right_at (phase_kind n) (passes_before n) p q (upto_top n upto) a;
    }

  -- ---- to the posts behind the first passes that leave too many
  module _ (within_round : top ≤ passes_in course round) (few : (i : ℕ) → i < top → length (stage i).tets ≤ most_tets) (many : most_tets < length (stage top).tets) (told : length (stage top).tets ≤ most_told) where
    abbrev over : Truth StoreState Body
    over = over_truth course mesh carried round top

    upto_posts : (n : ℕ) → n ≤ first_phase top → passes_before n ≤ top
    upto_posts n upto = passes_upto top n (omega arith)

    pub follows_over : Follows r over
    follows_over = record {
      sends = λ n q x now early upto a b. sends_at (phase_kind n) (passes_before n) n q x now early (upto_posts n upto) a b;
      upto = omega arith;
      outcomes = λ q early a.
          let e = posts_at top in
          (λ j. left_by (e.0 j) (stands (e.0 j) (e.1 j) (first_phase top) q (all_sent (e.0 j) (e.1 j) q) early))
          ∙ posts_leave top (first_phase top) q early (omega arith) a told ∙ beyond top (held kinds.Post top q) many;
      final = λ q a s left. absurd (never_ok (length (stage top).tets) s left);
      ends = λ n q early before a.
          let less = passes_below top n before in
          ends_at (phase_kind n) (passes_before n) n q early (omega arith) a (few (passes_before n) less) ∙ ap Ok (next_held n q);
      keeps = λ n q early upto a. keeps_at (phase_kind n) (passes_before n) q ∙ next_kept n q;
      fits = λ n p q upto a b. fits_at (phase_kind n) (passes_before n) p q;
      right = λ n p q upto a b. right_at (phase_kind n) (passes_before n) p q (upto_posts n upto) a;
    }

pub rules_follow : RulesFollow
rules_follow course mesh carried round shared stay few = follows_round course mesh carried round shared (passes_in course round) stay refl (λ i upto. few i (omega arith))

pub rules_stop : RulesStop
rules_stop course mesh carried round passes shared within stay few many told = follows_over course mesh carried round shared passes stay within few many told
