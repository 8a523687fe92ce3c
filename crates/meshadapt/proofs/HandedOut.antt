-- A mesh that is handed out: its parts can start, and run the rounds of its job.
use Rattle.std.proofs.Common.{◌≡◌, ℕ, zero, suc, ◌<◌, ◌≤◌, Bool, true, cond, List, [], ◌∷◌, ◌++◌, Option, Some, None, length, filter, map, take, refl, sym, subst, ap, ap₂, ◌∙◌, arith}
use Rattle.std.specs.Prelude.{slice_get, is_some, false}
use Rattle.std.specs.List.{All, list_all}
use Rattle.std.specs.Option.{option_map}
use Rattle.std.proofs.Math.Seq.{take-length}
use Rattle.std.proofs.lemmas.Bool.{and_parts}
use Rattle.std.proofs.lemmas.List.{length-map, map-append}
use Rattle.std.proofs.lemmas.Option.{none-some, same_Some}
use Rattle.ma_cells.specs.Ascending.{ascending_of}
use Rattle.ma_cells.specs.Cells.{CellMark}
use Rattle.ma_cells.specs.Grid.{are_on_grid, marks_are_on_grid}
use Rattle.ma_cells.specs.Incidence.{is_on}
use Rattle.ma_cells.specs.Meshes.{MarkedMesh}
use Rattle.ma_cells.specs.Tetrahedron.{tet_cmp}
use Rattle.ma_cells.specs.declared.batch.Batch.{Batch}
use Rattle.ma_cells.proofs.Ascents.{length-ascending_of}
use Rattle.ma_cells.proofs.CellOrders.{tet_cmp_total}
use Rattle.directory.specs.Posting.{most_told}
use Rattle.mesh_check.specs.Accepted.{most_accepted_tets}
use Rattle.one_mesh.specs.Holding.{set_of}
use Rattle.part_phases.specs.Inboxes.{below}
use Rattle.part_rules.specs.declared.course.Course.{Course}
use Rattle.part_store.specs.Labelled.{tet_of}
use Rattle.refined_views.specs.Refined.{without_labels}
use Rattle.size_marks.specs.Field.{Field}
use Rattle.meshadapt.specs.declared.fetching.Accepted.{Accepted}
use Rattle.meshadapt.specs.declared.fetching.Handout.{Handout as FetchedHandout}
use Rattle.meshadapt.specs.declared.words.Division.{Division as DivisionWords}
use Rattle.meshadapt.specs.declared.words.Job.{Job as Words}
use Rattle.meshadapt.specs.Acts.{course_of, whole}
use Rattle.meshadapt.specs.Verdict.{Handout}
use Rattle.meshadapt.specs.steps.Asking.{IfDivided, IsInRange, asked, division_asked}
use Rattle.meshadapt.specs.steps.Fetching.{AreLabels, HandoutFits, IsRunnable, handout_of, inputs_over}
use Rattle.meshadapt.specs.steps.OverRounds.{MayRun}
use Rattle.world_run.proofs.Labelling.{labelled_mesh_is_mesh, no_more}

all_kept : {X : Type 0} (test : X → Bool) (xs : List X) → list_all test xs ≡ true → filter test xs ≡ xs
all_kept test [] h = refl
all_kept test (x ∷ xs) h =
    let both = and_parts (test x) (list_all test xs) h in
    ap (λ (b : Bool). cond b (x ∷ filter test xs) (filter test xs)) both.0 ∙ ap (λ ys. x ∷ ys) (all_kept test xs both.1)

-- ---- the division of the words
pub record IsDivided (tets : ℕ) (fetched : FetchedHandout) : Type 0 where
  pub some : 1 ≤ fetched.parts
  pub most : fetched.parts ≤ 64
  pub labels : AreLabels fetched.parts tets fetched.labels.items

divided : (division : Option DivisionWords) (tets : ℕ) (fetched : FetchedHandout) → IfDivided division → HandoutFits division tets (Some fetched) → IsDivided tets fetched
divided None tets fetched over fits = absurd fits
divided (Some division) tets fetched over fits =
    let same : division.parts ≡ fetched.parts = sym fits.parts in
    record {
      some = subst (λ (n : ℕ). 1 ≤ n) same over.least;
      most = subst (λ (n : ℕ). n ≤ 64) same over.most;
      labels = fits.labels;
    }

-- a mesh is handed out only where there is a division
pub not_alone : (division : Option DivisionWords) (tets : ℕ) (fetched : FetchedHandout) → HandoutFits division tets (Some fetched) → is_some (option_map division_asked division) ≡ false → ⊥
not_alone None tets fetched fits none = fits
not_alone (Some division) tets fetched fits none = absurd cc

-- ---- what each of some sees
first_and_next : {X : Type 0} (xs : List X) (n : ℕ) (x : X) → slice_get xs n ≡ Some x → take (suc n) xs ≡ take n xs ++ x ∷ []
first_and_next [] n x e = absurd (none-some x e)
first_and_next (y ∷ xs) zero x e = ap (λ z. z ∷ []) (same_Some y x e)
first_and_next (y ∷ xs) (suc n) x e = ap (λ ys. y ∷ ys) (first_and_next xs n x e)

found_at : {X Y : Type 0} (f : X → Y) (o : Option X) (y : Y) → option_map f o ≡ Some y → (x : X) × (o ≡ Some x) × (f x ≡ y)
found_at f None y e = absurd (none-some y e)
found_at f (Some x) y e = (x, refl, same_Some (f x) y e)

pub next_seen : {X Y : Type 0} (f : X → Y) (xs : List X) (n : ℕ) (y : Y) → option_map f (slice_get xs n) ≡ Some y → take (suc n) (map f xs) ≡ take n (map f xs) ++ y ∷ []
next_seen f [] n y e = absurd (none-some y e)
next_seen f (x ∷ xs) zero y e = ap (λ z. z ∷ []) (same_Some (f x) y e)
next_seen f (x ∷ xs) (suc n) y e = ap (λ ys. f x ∷ ys) (next_seen f xs n y e)

module _ {X Y : Type 0} (f : X → Y) (g : ℕ → Y) (xs : List X) (sees : (n : ℕ) → n < length xs → option_map f (slice_get xs n) ≡ Some (g n)) where
  firsts_seen : (n : ℕ) → n ≤ length xs → map f (take n xs) ≡ map g (below n)
  firsts_seen zero within = refl
  firsts_seen (suc n) within =
      let at = found_at f (slice_get xs n) (g n) (sees n (omega arith)) in
      ap (map f) (first_and_next xs n at.0 at.1)
      ∙ (map-append f (take n xs) (at.0 ∷ []) ∙ (ap₂ (λ ys y. ys ++ y ∷ []) (firsts_seen n (omega arith)) at.2 ∙ sym (map-append g (below n) (n ∷ []))))

  pub all_seen : map f xs ≡ map g (below (length xs))
  all_seen = ap (map f) (sym (take-length xs)) ∙ firsts_seen (length xs) (omega arith)

-- ---- a mesh that was fetched
-- what the run of its parts requires
pub record CanStart (mesh : MarkedMesh) (labels : List ℕ) (course : Course) : Type 0 where
  pub some : 1 ≤ course.parts
  pub most : course.parts ≤ 64
  pub grid_fits : course.grid ≤ 30
  pub collapses : course.collapse ≤ 16
  pub swaps : course.swap ≤ 16
  pub each : length labels ≡ length mesh.tets
  pub tets : are_on_grid course.grid mesh.tets ≡ true
  pub marks : marks_are_on_grid course.grid mesh.marks ≡ true
  pub below : All (λ label. label < course.parts) labels
  pub few : length mesh.tets ≤ most_told

less_told : (n : ℕ) → n ≤ most_accepted_tets → n ≤ most_told
less_told n h = omega arith

module _ (words : Words) (accepted : Accepted) (fetched : FetchedHandout) (right : IsInRange words) (runs : IsRunnable accepted.mesh accepted.grid) (fits : HandoutFits words.division (length accepted.mesh.tets) (Some fetched)) where
  abbrev mesh : MarkedMesh
  mesh = accepted.mesh

  abbrev handout : Handout
  handout = handout_of mesh fetched

  over : IsDivided (length mesh.tets) fetched
  over = divided words.division (length mesh.tets) fetched right.division fits

  pub can_start : (field : Field) → CanStart mesh handout.labels (course_of (asked words) (inputs_over accepted field fetched) handout)
  can_start field = record {
    some = over.some;
    most = over.most;
    grid_fits = runs.coarsest;
    collapses = right.collapses;
    swaps = right.swaps;
    each = over.labels.each;
    tets = runs.tets;
    marks = runs.marks;
    below = over.labels.below;
    few = less_told (length mesh.tets) runs.few;
  }

  -- what is handed out is the mesh
  mesh_is : without_labels (whole handout) ≡ set_of mesh
  mesh_is =
      let batch : List CellMark → Batch = λ marks. record { tets = ascending_of tet_cmp mesh.tets; marks = marks } in
      labelled_mesh_is_mesh mesh handout.labels over.labels.each ∙ ap batch (all_kept (λ mark. is_on mesh.tets mark.cell) mesh.marks runs.on_cells)

  as_many : length (whole handout).tets ≡ length (set_of mesh).tets
  as_many =
      let once = runs.once in
      let most = no_more mesh handout.labels in
      let least = (length-ascending_of tet_cmp_total (map tet_of (whole handout).tets)).0 in
      let bare = length-map (whole handout).tets tet_of in
      let same : length (without_labels (whole handout)).tets ≡ length (set_of mesh).tets = ap (λ (batch : Batch). length batch.tets) mesh_is in
      omega (arith, once, most, least, bare, same)

  pub may_run : (field : Field) → words.rounds ≤ accepted.grid → MayRun (asked words) (inputs_over accepted field fetched) handout
  may_run field finer = record {
    finer = finer;
    sound = runs.sound;
    mesh_is = mesh_is;
    as_many = as_many;
    few = let most = no_more mesh handout.labels in let few = runs.few in omega (arith, most, few);
  }
