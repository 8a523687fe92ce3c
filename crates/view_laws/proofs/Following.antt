-- The rules lead from what the mesh tells of a phase to what it tells of the next.
use Rattle.std.proofs.Common.{◌≡◌, ℕ, zero, suc, ◌+◌, ◌-◌, ◌<◌, ◌≤◌, true, cond, List, [], ◌∷◌, ◌++◌, length, None, Result, Ok, Err, refl, sym, ap, ◌∙◌, arith}
use Rattle.std.specs.Prelude.{map}
use Rattle.std.specs.List.{flat_map}
use Rattle.std.proofs.lemmas.Bool.{le-leb, lt-leb}
use Rattle.ma_geom.specs.Coordinates.{Coordinates}
use Rattle.ma_cells.specs.Cells.{CellMark}
use Rattle.letters.specs.declared.letter.Body.{Body}
use Rattle.letters.specs.declared.letter.Body.TheVariants as bodies
use Rattle.directory.specs.Homes.{home_of}
use Rattle.directory.specs.Posting.{most_told, reply_of}
use Rattle.part_phases.specs.Inboxes.{Inbox, below, gathered}
use Rattle.part_phases.specs.Standings.{Rules}
use Rattle.part_rules.specs.Bodies.{batch_from, batches_in, is_of_phase, post_from, posts_in, replies_in, reply_from}
use Rattle.part_rules.specs.Ends.{after_ghosts, after_posts, after_replies, if_within, most_tets}
use Rattle.part_rules.specs.Owed.{holding, owed, owed_ghosts, owed_post, owed_reply}
use Rattle.part_rules.specs.Rounds.{rules}
use Rattle.part_rules.specs.declared.course.Course.{Course}
use Rattle.part_store.specs.Labelled.{LabelledMesh}
use Rattle.part_store.specs.Stores.{StoreState}
use Rattle.phase_laws.specs.Truth.{Follows, Truth, full, standing}
use Rattle.view_laws.specs.Truths.{IsShared, mesh_truth, over_truth}
use Rattle.view_laws.proofs.Counts.{after_posts_are}
use Rattle.view_laws.proofs.HomesBelow.{home_below}
use Rattle.view_laws.proofs.OnGrid.{none_wrong}
use Rattle.view_laws.proofs.Postings.{after_replies_are, posts_are, replies_are}
use Rattle.view_laws.proofs.Showings.{after_ghosts_are, ghosts_are}

-- bodies of one kind, taken out of an inbox
taken_out : {B : Type 0} (f : ℕ → B) (wrap : B → Body) (out : ℕ → Body → Inbox B) → ((p : ℕ) (b : B) → out p (wrap b) ≡ (p, b) ∷ []) → (ps : List ℕ)
    → flat_map {X = ℕ × Body} (λ e. out e.0 e.1) (map (λ p. (p, wrap (f p))) ps) ≡ map (λ p. (p, f p)) ps
taken_out f wrap out one [] = refl
taken_out f wrap out one (p ∷ ps) =
    ap (λ l. l ++ flat_map {X = ℕ × Body} (λ e. out e.0 e.1) (map (λ p. (p, wrap (f p))) ps)) (one p (f p)) ∙ ap (λ l. (p, f p) ∷ l) (taken_out f wrap out one ps)

never_ok : (n : ℕ) (s : StoreState) → (let a : Result StoreState ℕ = Err n in a) ≡ Ok s → ⊥
never_ok n s e = cc

same_ok : (s t : StoreState) → (let a : Result StoreState ℕ = Ok s in a) ≡ Ok t → s ≡ t
same_ok s t e = cc

module _ (course : Course) (mesh : LabelledMesh) (carried : ℕ → List CellMark) (round : ℕ) (is : IsShared course mesh carried round) where
  abbrev parts : ℕ
  parts = course.parts

  abbrev home : Coordinates → ℕ
  home = home_of (course.grid - round) course.parts

  abbrev r : Rules StoreState Body Coordinates
  r = rules course

  abbrev t : Truth StoreState Body
  t = mesh_truth course mesh carried round

  homes : (x : Coordinates) → home x < parts
  homes x = home_below (course.grid - round) course.parts x is.parts

  -- ---- bodies by kind
  posts_out : (q : ℕ) → posts_in (gathered parts (λ p. owed parts home mesh carried 0 p q)) ≡ gathered parts (λ p. owed_post parts home mesh carried p q)
  posts_out q = taken_out (λ p. owed_post parts home mesh carried p q) bodies.Post post_from (λ p b. refl) (below parts)

  replies_out : (q : ℕ) → replies_in (gathered parts (λ p. owed parts home mesh carried 1 p q)) ≡ gathered parts (λ p. owed_reply parts home mesh carried p q)
  replies_out q = taken_out (λ p. owed_reply parts home mesh carried p q) bodies.Reply reply_from (λ p b. refl) (below parts)

  batches_out : (q : ℕ) → batches_in (gathered parts (λ p. owed parts home mesh carried 2 p q)) ≡ gathered parts (λ p. owed_ghosts parts home mesh carried p q)
  batches_out q = taken_out (λ p. owed_ghosts parts home mesh carried p q) bodies.Ghosts batch_from (λ p b. refl) (below parts)

  -- ---- what is sent
  sends : (n q x : ℕ) (now early : Inbox Body) → n ≤ 2 → q < parts → x < parts → r.sends (standing t n q now early) x ≡ owed parts home mesh carried n q x
  sends zero q x now early upto below_q below_x = ap bodies.Post (posts_are parts home homes mesh is.labelled carried is.known q x below_q)
  sends (suc zero) q x now early upto below_q below_x =
      ap (λ posts. bodies.Reply (reply_of posts x)) (posts_out q) ∙ ap bodies.Reply (replies_are parts home homes mesh is.labelled carried is.known q x below_x)
  sends (suc (suc zero)) q x now early upto below_q below_x = ap bodies.Ghosts (ghosts_are parts home homes mesh is.labelled carried q x below_q below_x)
  sends (suc (suc (suc n))) q x now early upto below_q below_x = absurd (omega arith)

  fits : (n p q : ℕ) → n ≤ 2 → is_of_phase n (owed parts home mesh carried n p q) ≡ true
  fits zero p q upto = refl
  fits (suc zero) p q upto = refl
  fits (suc (suc zero)) p q upto = refl
  fits (suc (suc (suc n))) p q upto = absurd (omega arith)

  right : (n p q : ℕ) → p < parts → r.wrong round (owed parts home mesh carried n p q) ≡ None
  right n p q below_p = none_wrong parts home mesh carried is.known (course.grid - round) is.tets is.marks n p q below_p

  -- ---- what the letters leave
  within : length mesh.tets ≤ most_tets → (s : StoreState) → if_within (length mesh.tets) s ≡ Ok s
  within few s = ap (λ b. cond b (let a : Result StoreState ℕ = Ok s in a) (Err (length mesh.tets))) (le-leb (length mesh.tets) most_tets few)

  beyond : most_tets < length mesh.tets → (s : StoreState) → if_within (length mesh.tets) s ≡ Err (length mesh.tets)
  beyond many s = ap (λ b. cond b (let a : Result StoreState ℕ = Ok s in a) (Err (length mesh.tets))) (lt-leb (length mesh.tets) most_tets many)

  posts_leave : length mesh.tets ≤ most_told → (q : ℕ) (early : Inbox Body) → q < parts → r.ends (standing t 0 q (full r t 0 q) early) ≡ if_within (length mesh.tets) (holding parts home mesh carried 0 q)
  posts_leave told q early below_q = ap (after_posts (holding parts home mesh carried 0 q)) (posts_out q) ∙ after_posts_are mesh parts is.labelled home carried q below_q told

  ends : length mesh.tets ≤ most_tets → (n q : ℕ) (early : Inbox Body) → n < 2 → q < parts → r.ends (standing t n q (full r t n q) early) ≡ Ok (t.holds (n + 1) q)
  ends few zero q early before below_q = posts_leave (omega arith) q early below_q ∙ within few (holding parts home mesh carried 0 q)
  ends few (suc zero) q early before below_q =
      ap (λ replies. Ok (after_replies (holding parts home mesh carried 1 q) replies)) (replies_out q) ∙ ap Ok (after_replies_are parts home homes mesh is.labelled carried is.known q below_q)
  ends few (suc (suc n)) q early before below_q = absurd (omega arith)

  outcomes : (q : ℕ) (early : Inbox Body) → q < parts → r.ends (standing t 2 q (full r t 2 q) early) ≡ Ok (holding parts home mesh carried 3 q)
  outcomes q early below_q =
      ap (λ batches. Ok (after_ghosts (holding parts home mesh carried 2 q) batches)) (batches_out q) ∙ ap Ok (after_ghosts_are parts home homes mesh is.labelled carried q below_q)

  keeps : (n q : ℕ) (early : Inbox Body) → n ≤ 2 → q < parts → cond (r.keeps (standing t n q (full r t n q) early)) (full r t n q ∷ t.kept n q) [] ≡ t.kept (n + 1) q
  keeps zero q early upto below_q = refl
  keeps (suc zero) q early upto below_q = refl
  keeps (suc (suc zero)) q early upto below_q = refl
  keeps (suc (suc (suc n))) q early upto below_q = absurd (omega arith)

  pub follows_mesh : length mesh.tets ≤ most_tets → Follows r t
  follows_mesh few = record {
    sends = sends;
    upto = omega arith;
    outcomes = outcomes;
    final = λ q below_q held left. (refl, sym (same_ok (holding parts home mesh carried 3 q) held left));
    ends = ends few;
    keeps = keeps;
    fits = λ n p q upto below_p below_q. fits n p q upto;
    right = λ n p q upto below_p below_q. right n p q below_p;
  }

  pub follows_over : most_tets < length mesh.tets → length mesh.tets ≤ most_told → Follows r (over_truth course mesh carried round)
  follows_over many told = record {
    sends = λ n q x now early upto below_q below_x. sends n q x now early (omega arith) below_q below_x;
    upto = omega arith;
    outcomes = λ q early below_q. posts_leave told q early below_q ∙ beyond many (holding parts home mesh carried 0 q);
    final = λ q below_q held left. absurd (never_ok (length mesh.tets) held left);
    ends = λ n q early before below_q. absurd (omega arith);
    keeps = λ n q early upto below_q. keeps n q early (omega arith) below_q;
    fits = λ n p q upto below_p below_q. fits n p q (omega arith);
    right = λ n p q upto below_p below_q. right n p q below_p;
  }
