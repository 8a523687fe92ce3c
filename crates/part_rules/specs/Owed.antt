-- What the labelled mesh says of a round: what each part holds in each phase, and each letter.
use Rattle.std.specs.Prelude.{◌≡◌, ℕ, zero, suc, ◌<◌, ◌&&◌, ◌==◌, true, List, [], ◌∷◌, filter, map, length, if◌then◌else◌}
use Rattle.std.specs.List.{AllByRecursion, flat_map}
use Rattle.std.specs.List.Sorted.{IsStrictlySortedBy}
use Rattle.ma_geom.specs.Coordinates.{Coordinates, place_cmp}
use Rattle.ma_cells.specs.Ascending.{has}
use Rattle.ma_cells.specs.Cells.{CellMark, is_cell, mark_cmp}
use Rattle.ma_cells.specs.Incidence.{is_on}
use Rattle.ma_cells.specs.Views.{ghost_cmp}
use Rattle.ma_cells.specs.declared.batch.Batch.{Batch}
use Rattle.letters.specs.Sharing.{SharedPlace}
use Rattle.letters.specs.declared.letter.Body.{Body}
use Rattle.letters.specs.declared.letter.Body.TheVariants as bodies
use Rattle.letters.specs.declared.letter.Post.{Post}
use Rattle.letters.specs.declared.letter.Reply.{Reply}
use Rattle.directory.specs.Posting.{for_home, least_corner, shared_of, told}
use Rattle.ghost_layer.specs.GhostRule.{batch_of}
use Rattle.part_phases.specs.Inboxes.{Inbox, below, gathered}
use Rattle.part_store.specs.Labelled.{LabelledMesh, corner_set, ghosts_of, label_of, marks_on, own_of, seen_by, tet_of, touches}
use Rattle.part_store.specs.Stores.{StoreState}

-- sets of tetrahedra and of marks, labels of parts, and marks on cells of tetrahedra
pub record IsLabelled (parts : ℕ) (mesh : LabelledMesh) : Type 0 where
  pub tets : IsStrictlySortedBy ghost_cmp mesh.tets
  pub marks : IsStrictlySortedBy mark_cmp mesh.marks
  pub labels : AllByRecursion (λ entry. label_of entry < parts) mesh.tets
  pub cells : AllByRecursion (λ mark. is_cell mark.cell ≡ true) mesh.marks
  pub on_cells : AllByRecursion (λ mark. is_on (map tet_of mesh.tets) mark.cell ≡ true) mesh.marks

-- what the parts know of the marks of a mesh before they hear of others: each of its marks by some part, and no other, each on a cell of the part's own tetrahedra
pub record AreCarried (parts : ℕ) (mesh : LabelledMesh) (carried : ℕ → List CellMark) : Type 0 where
  pub right : (p : ℕ) → p < parts → AllByRecursion (λ mark. (has mark_cmp mark mesh.marks ≡ true) × (is_on (own_of mesh p) mark.cell ≡ true)) (carried p)
  pub all : AllByRecursion (λ mark. (p : ℕ) × (p < parts) × (has mark_cmp mark (carried p) ≡ true)) mesh.marks

-- the corners of a part's tetrahedra
abbrev pub corners_at : LabelledMesh → ℕ → List Coordinates
corners_at mesh p = corner_set (own_of mesh p)

-- the parts whose tetrahedra have a place as a corner, ascending
abbrev pub labels_at : ℕ → LabelledMesh → Coordinates → List ℕ
labels_at parts mesh x = filter (λ p. has place_cmp x (corners_at mesh p)) (below parts)

module _ (parts : ℕ) (home : Coordinates → ℕ) (mesh : LabelledMesh) (carried : ℕ → List CellMark) where
  abbrev pub owed_post : ℕ → ℕ → Post
  owed_post p q = for_home home q (record { count = told (length (own_of mesh p)); places = corners_at mesh p; marks = carried p })

  -- each place with the home p that q has and another part too, and the marks whose least corner has the home p and is a corner of q
  abbrev pub owed_reply : ℕ → ℕ → Reply
  owed_reply p q = record {
    shared = shared_of (labels_at parts mesh) (filter (λ x. home x == p) (corners_at mesh q));
    marks = filter (λ mark. (home (least_corner mark.cell) == p) && has place_cmp (least_corner mark.cell) (corners_at mesh q)) mesh.marks;
  }

  -- the tetrahedra of p with a corner of q, and the marks on their cells
  abbrev pub owed_ghosts : ℕ → ℕ → Batch
  owed_ghosts p q = if q == p then batch_of [] [] else batch_of (filter (touches (corners_at mesh q)) (own_of mesh p)) mesh.marks

  -- in phase n from p to q
  abbrev pub owed : ℕ → ℕ → ℕ → Body
  owed zero p q = bodies.Post (owed_post p q)
  owed (suc zero) p q = bodies.Reply (owed_reply p q)
  owed (suc (suc n)) p q = bodies.Ghosts (owed_ghosts p q)

  -- the places that q shares, by their homes
  abbrev pub shared_in : ℕ → List SharedPlace
  shared_in q = flat_map (λ p. (owed_reply p q).shared) (below parts)

  -- what part q holds in phase n: its own tetrahedra and what it carries; then all marks on their cells and the shared places; and at last its view
  abbrev pub holding : ℕ → ℕ → StoreState
  holding zero q = record { part = q; own = own_of mesh q; ghosts = []; marks = carried q; shared = [] }
  holding (suc zero) q = record { part = q; own = own_of mesh q; ghosts = []; marks = carried q; shared = [] }
  holding (suc (suc zero)) q = record { part = q; own = own_of mesh q; ghosts = []; marks = marks_on (own_of mesh q) mesh.marks; shared = shared_in q }
  holding (suc (suc (suc n))) q = record { part = q; own = own_of mesh q; ghosts = ghosts_of mesh q; marks = marks_on (seen_by mesh q) mesh.marks; shared = shared_in q }

  -- the bodies of earlier phases that it keeps: the posts for the replies
  abbrev pub keeping : ℕ → ℕ → List (Inbox Body)
  keeping zero q = []
  keeping (suc zero) q = gathered parts (λ p. owed 0 p q) ∷ []
  keeping (suc (suc n)) q = []
