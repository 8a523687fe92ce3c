-- What parts post and what homes reply is what the mesh says, and the replies leave all marks on a part's cells.
use Rattle.std.proofs.Common.{◌≡◌, ℕ, ◌<◌, inl, inr, Bool, true, cond, ◌&&◌, nat_le, nat_lt, List, [], ◌++◌, filter, Some, None, length, refl, ap, subst, ◌∙◌, arith}
use Rattle.std.specs.Prelude.{map, ◌==◌}
use Rattle.std.specs.List.{flat_map}
use Rattle.std.specs.Cmp.{both_ways}
use Rattle.std.proofs.lemmas.Bool.{and_from, and_parts, eq-eqb}
use Rattle.std.proofs.lemmas.List.Kept.{IsStrictlySortedBy-filter}
use Rattle.ma_geom.specs.Coordinates.{Coordinates, place_cmp}
use Rattle.ma_cells.specs.Ascending.{ascending_of, has}
use Rattle.ma_cells.specs.Cells.{CellMark, mark_cmp}
use Rattle.ma_cells.specs.Incidence.{is_on}
use Rattle.ma_cells.proofs.Ascents.{sorted-ascending_of}
use Rattle.ma_cells.proofs.CellOrders.{mark_cmp_total, mark_cmp-IsAntisymmetric}
use Rattle.letters.specs.Sharing.{SharedPlace}
use Rattle.letters.specs.declared.letter.Post.{Post}
use Rattle.letters.specs.declared.letter.Reply.{Reply}
use Rattle.directory.specs.Posting.{for_home, least_corner, places_from, places_in, post_of, posters, reply_of, shared_of, told}
use Rattle.part_phases.specs.Inboxes.{Inbox, below, body_from, gathered}
use Rattle.part_phases.proofs.Gathered.{find-gathered, senders_where}
use Rattle.part_rules.specs.Ends.{after_replies}
use Rattle.part_rules.specs.Owed.{AreCarried, IsLabelled, corners_at, holding, labels_at, owed_post, owed_reply}
use Rattle.part_store.specs.Labelled.{LabelledMesh, marks_on, own_of}
use Rattle.part_store.proofs.Members.{In, in-filter, from-filter, filter-all, filter-agree, map-agree, in-flat_map, from-flat_map, in-append_right, from-append, in-ascending_of, from-ascending_of, same_set, is_made}
use Rattle.view_laws.proofs.MeshItems.{carried-all, carried-right, from-places, in-places, is-cell, least-corner-on}
use Rattle.view_laws.proofs.Numbered.{flat-listed, from-gathered, in-gathered}

module _ (parts : ℕ) (home : Coordinates → ℕ) (homes : (x : Coordinates) → home x < parts)
    (mesh : LabelledMesh) (right : IsLabelled parts mesh) (carried : ℕ → List CellMark) (known : AreCarried parts mesh carried) where
  -- whether a place or the least corner of a mark has a home
  abbrev at_home : ℕ → Coordinates → Bool
  at_home h x = home x == h

  abbrev mark_at : ℕ → CellMark → Bool
  mark_at h m = home (least_corner m.cell) == h

  abbrev places_at : ℕ → List Coordinates → List Coordinates
  places_at h places = filter (at_home h) places

  -- ---- posts
  pub posts_are : (p q : ℕ) → p < parts → post_of home (holding parts home mesh carried 0 p) q ≡ owed_post parts home mesh carried p q
  posts_are p q within =
      let kept : marks_on (own_of mesh p) (carried p) ≡ carried p = filter-all (λ m. is_on (own_of mesh p) m.cell) (carried p) (λ m h. (carried-right parts mesh carried known p m within h).1) in
      ap (λ (marks : List CellMark). for_home home q (record { count = told (length (own_of mesh p)); places = corners_at mesh p; marks = marks })) kept

  -- ---- replies
  abbrev posts_to : ℕ → Inbox Post
  posts_to h = gathered parts (λ p. owed_post parts home mesh carried p h)

  has-at : (h : ℕ) (x : Coordinates) (places : List Coordinates) → at_home h x ≡ true → has place_cmp x (places_at h places) ≡ has place_cmp x places
  has-at h x places at =
      both_ways (has place_cmp x (places_at h places)) (has place_cmp x places)
      (λ e. in-places places x (from-filter (at_home h) places x (from-places (places_at h places) x e)).0)
      (λ e. in-places (places_at h places) x (in-filter (at_home h) places x (from-places places x e) at))

  -- who posted a place to its home are the parts that have it
  posters_are : (h : ℕ) (x : Coordinates) → at_home h x ≡ true → posters x (posts_to h) ≡ labels_at parts mesh x
  posters_are h x at =
      senders_where (λ p. owed_post parts home mesh carried p h) (λ post. has place_cmp x post.places) (below parts)
      ∙ filter-agree (λ p. has place_cmp x (places_at h (corners_at mesh p))) (λ p. has place_cmp x (corners_at mesh p)) (below parts) (λ p _. has-at h x (corners_at mesh p) at)

  places_are : (h q : ℕ) → q < parts → places_from q (posts_to h) ≡ places_at h (corners_at mesh q)
  places_are h q within =
      let all : nat_lt q parts ≡ true = grind arith in
      let found : body_from q (posts_to h) ≡ Some (owed_post parts home mesh carried q h) =
      find-gathered (λ p. owed_post parts home mesh carried p h) parts q ∙ ap (λ b. cond b (Some (owed_post parts home mesh carried q h)) None) all in
      ap places_in found

  shared-agree : (who who' : Coordinates → List ℕ) (places : List Coordinates) → ((x : Coordinates) → In x places → who x ≡ who' x) → shared_of who places ≡ shared_of who' places
  shared-agree who who' places same =
      let kept = filter-agree (λ x. nat_le 2 (length (who x))) (λ x. nat_le 2 (length (who' x))) places (λ x h. ap (λ l. nat_le 2 (length l)) (same x h)) in
      ap (map (λ x. let s : SharedPlace = record { place = x; parts = who x } in s)) kept
      ∙ map-agree (λ x. record { place = x; parts = who x }) (λ x. record { place = x; parts = who' x }) (filter (λ x. nat_le 2 (length (who' x))) places)
      (λ x h. ap (λ (l : List ℕ). let s : SharedPlace = record { place = x; parts = l } in s) (same x (from-filter (λ x. nat_le 2 (length (who' x))) places x h).0))

  shared_are : (h q : ℕ) → q < parts → (reply_of (posts_to h) q).shared ≡ (owed_reply parts home mesh carried h q).shared
  shared_are h q within =
      ap (shared_of (λ x. posters x (posts_to h))) (places_are h q within)
      ∙ shared-agree (λ x. posters x (posts_to h)) (labels_at parts mesh) (places_at h (corners_at mesh q)) (λ x k. posters_are h x (from-filter (at_home h) (corners_at mesh q) x k).1)

  -- the marks that were posted to a home are those of the mesh whose least corner has it
  abbrev marks_to : ℕ → List CellMark
  marks_to h = flat_map {X = ℕ × Post} (λ entry. entry.1.marks) (posts_to h)

  in-posted : (h : ℕ) (m : CellMark) → In m mesh.marks → mark_at h m ≡ true → In m (marks_to h)
  in-posted h m there at =
      let r = carried-all parts mesh carried known m there in
      in-flat_map {X = ℕ × Post} (λ entry. entry.1.marks) (posts_to h) (r.0, owed_post parts home mesh carried r.0 h) m (in-gathered (λ p. owed_post parts home mesh carried p h) parts r.0 r.1)
      (in-filter (mark_at h) (carried r.0) m r.2 at)

  from-posted : (h : ℕ) (m : CellMark) → In m (marks_to h) → In m mesh.marks × (mark_at h m ≡ true)
  from-posted h m k =
      let r = from-flat_map {X = ℕ × Post} (λ entry. entry.1.marks) (posts_to h) m k in
      let from = from-gathered (λ p. owed_post parts home mesh carried p h) parts r.0 r.1 in
      let sent : In m (filter (mark_at h) (carried r.0.0)) = subst (λ (post : Post). In m post.marks) from.1 r.2 in
      let kept = from-filter (mark_at h) (carried r.0.0) m sent in
      ((carried-right parts mesh carried known r.0.0 m from.0 kept.0).0, kept.1)

  marks_are : (h q : ℕ) → q < parts → (reply_of (posts_to h) q).marks ≡ (owed_reply parts home mesh carried h q).marks
  marks_are h q within =
      let all = ascending_of mark_cmp (marks_to h) in
      let had : CellMark → Bool = λ m. has place_cmp (least_corner m.cell) (places_at h (corners_at mesh q)) in
      let owed : CellMark → Bool = λ m. mark_at h m && has place_cmp (least_corner m.cell) (corners_at mesh q) in
      ap (λ places. filter (λ m. has place_cmp (least_corner m.cell) places) all) (places_are h q within)
      ∙ same_set mark_cmp_total mark_cmp-IsAntisymmetric (filter had all) (filter owed mesh.marks)
      (IsStrictlySortedBy-filter mark_cmp had all (sorted-ascending_of mark_cmp_total (marks_to h)))
      (IsStrictlySortedBy-filter mark_cmp owed mesh.marks right.marks)
      (λ m k.
      let got = from-filter had all m k in
      let from = from-posted h m (from-ascending_of mark_cmp_total mark_cmp-IsAntisymmetric (marks_to h) m got.0) in
      let place = from-filter (at_home h) (corners_at mesh q) (least_corner m.cell) (from-places (places_at h (corners_at mesh q)) (least_corner m.cell) got.1) in
      in-filter owed mesh.marks m from.0 (and_from (mark_at h m) (has place_cmp (least_corner m.cell) (corners_at mesh q)) place.1 (in-places (corners_at mesh q) (least_corner m.cell) place.0)))
      (λ m k.
      let got = from-filter owed mesh.marks m k in
      let both = and_parts (mark_at h m) (has place_cmp (least_corner m.cell) (corners_at mesh q)) got.1 in
      in-filter had all m (in-ascending_of mark_cmp_total mark_cmp-IsAntisymmetric (marks_to h) m (in-posted h m got.0 both.0))
      (has-at h (least_corner m.cell) (corners_at mesh q) both.0 ∙ both.1))

  pub replies_are : (h q : ℕ) → q < parts → reply_of (posts_to h) q ≡ owed_reply parts home mesh carried h q
  replies_are h q within = let a = shared_are h q within in let b = marks_are h q within in λ i. record { shared = a i; marks = b i }

  -- ---- what the replies leave
  abbrev replies_to : ℕ → Inbox Reply
  replies_to q = gathered parts (λ h. owed_reply parts home mesh carried h q)

  abbrev marks_got : ℕ → List CellMark
  marks_got q = flat_map {X = ℕ × Reply} (λ entry. entry.1.marks) (replies_to q)

  -- whether a home owes a mark to q
  abbrev is_owed : ℕ → ℕ → CellMark → Bool
  is_owed h q m = mark_at h m && has place_cmp (least_corner m.cell) (corners_at mesh q)

  in-replied : (q : ℕ) (m : CellMark) → In m mesh.marks → is_on (own_of mesh q) m.cell ≡ true → In m (marks_got q)
  in-replied q m there on =
      let x = least_corner m.cell in
      let h = home x in
      in-flat_map {X = ℕ × Reply} (λ entry. entry.1.marks) (replies_to q) (h, owed_reply parts home mesh carried h q) m (in-gathered (λ h. owed_reply parts home mesh carried h q) parts h (homes x))
      (in-filter (is_owed h q) mesh.marks m there
      (and_from (at_home h x) (has place_cmp x (corners_at mesh q)) (eq-eqb h h refl) (in-places (corners_at mesh q) x (least-corner-on (own_of mesh q) m.cell (is-cell parts mesh right m there) on))))

  from-replied : (q : ℕ) (m : CellMark) → In m (marks_got q) → In m mesh.marks
  from-replied q m k =
      let r = from-flat_map {X = ℕ × Reply} (λ entry. entry.1.marks) (replies_to q) m k in
      let from = from-gathered (λ h. owed_reply parts home mesh carried h q) parts r.0 r.1 in
      let sent = subst (λ (reply : Reply). In m reply.marks) from.1 r.2 in
      (from-filter (is_owed r.0.0 q) mesh.marks m sent).0

  pub after_replies_are : (q : ℕ) → q < parts → after_replies (holding parts home mesh carried 1 q) (replies_to q) ≡ holding parts home mesh carried 2 q
  after_replies_are q within =
      let own = own_of mesh q in
      let all = carried q ++ marks_got q in
      let on : CellMark → Bool = λ m. is_on own m.cell in
      let shared : flat_map {X = ℕ × Reply} (λ entry. entry.1.shared) (replies_to q) ≡ flat_map (λ h. (owed_reply parts home mesh carried h q).shared) (below parts) =
      flat-listed (λ h. owed_reply parts home mesh carried h q) (λ reply. reply.shared) (below parts) in
      let marks : ascending_of mark_cmp (marks_on own all) ≡ marks_on own mesh.marks =
      is_made mark_cmp_total mark_cmp-IsAntisymmetric (filter on all) (filter on mesh.marks) (IsStrictlySortedBy-filter mark_cmp on mesh.marks right.marks)
      (λ m k.
      let r = from-filter on all m k in
      in-filter on mesh.marks m (elim (from-append (carried q) (marks_got q) m r.0) [
        | inl a ↦ (carried-right parts mesh carried known q m within a).0
        | inr b ↦ from-replied q m b
      ]) r.1)
      (λ m k.
      let r = from-filter on mesh.marks m k in
      in-filter on all m (in-append_right (carried q) (marks_got q) m (in-replied q m r.0 r.1)) r.1) in
      λ i. record { part = q; own = own; ghosts = []; marks = marks i; shared = shared i }
