-- The sections of a text are read as what they tell.
use Rattle.std.proofs.Common.{◌≡◌, ℕ, suc, ◌+◌, ◌-◌, ◌^◌, ◌<◌, ◌≤◌, Bool, true, false, eqb, List, [], ◌∷◌, ◌++◌, length, map, refl, sym, ap, ◌∙◌, arith, length-append, ℤ, pos, codes, decimal}
use Rattle.std.specs.Prelude.{Ok}
use Rattle.std.specs.List.{enumerate_from, list_all}
use Rattle.std.proofs.lemmas.Bool.{ne_eqb}
use Rattle.std.proofs.lemmas.List.{length-map}
use Rattle.ma_geom.specs.Coordinates.{Coordinates}
use Rattle.ma_text.specs.Words.{words_of}
use Rattle.msh_read.specs.declared.raw.RawMark.{RawMark}
use Rattle.msh_read.specs.declared.raw.RawTet.{RawTet}
use Rattle.msh_read.specs.declared.stand.Counted.{Counted}
use Rattle.msh_read.specs.declared.stand.Counted.TheVariants.{Names, Nodes}
use Rattle.msh_read.specs.declared.stand.Stand.{Stand}
use Rattle.msh_read.specs.declared.stand.Stand.TheVariants.{Outside, Count, Entries}
use Rattle.msh_read.specs.steps.Front.{Front, nothing_read}
use Rattle.msh_read.specs.GroupNames.{GroupName}
use Rattle.msh_read.specs.Lines.{closes, count_of, format_of, header_of}
use Rattle.msh_read.specs.steps.LineByLine.{at, begun, count_read, counted_read, end_read, enough, entry_read, format_begun, format_end_read, format_read, header_read, name_read, names_begun, next_read, node_read, nodes_begun, step}
use Rattle.msh_write.specs.Text.{counted_section, format_lines, name_line, node_line, item_lines}
use Rattle.msh_write.proofs.ElementsBack.{number_of-decimal}
use Rattle.msh_write.proofs.EntriesBack.{is_near_place, is_readable, name-closes, name-read, node-closes, node-read}
use Rattle.msh_write.proofs.NodesBack.{numbers-push, numbers_from}
use Rattle.msh_write.proofs.RunsBack.{run, run-section, run-all}
use Rattle.msh_write.proofs.TextLines.{length-item_lines}
use Rattle.msh_write.proofs.WordsBack.{decimal-is_word, words_of-word}

-- a front behind the format
abbrev pub front_at : Stand → List ℕ → Bool → Bool → Bool → List GroupName → List ℤ → List Coordinates → List RawMark → List RawTet → Front
front_at stand header has_names has_nodes has_elements names numbers nodes marks tets = record {
  stand = stand;
  header = header;
  has_format = true;
  has_names = has_names;
  has_nodes = has_nodes;
  has_elements = has_elements;
  numbers = numbers;
  nodes = nodes;
  tets = tets;
  marks = marks;
  names = names;
}

pub format-run : run nothing_read format_lines ≡ Ok (front_at Outside (codes "MeshFormat") false false false [] [] [] [] [])
unfolding step header_read header_of begun format_begun format_read format_of format_end_read closes words_of
format-run = refl

-- ---- counts

count_of-decimal : (n : ℕ) → n < 2 ^ 63 → count_of (decimal n) ≡ Ok n
unfolding count_of
count_of-decimal n h = rw (words_of-word (decimal n) (decimal-is_word n (omega arith)), number_of-decimal n h) refl

pub not_zero : (n : ℕ) → 1 ≤ n → eqb n 0 ≡ false
not_zero n h = ne_eqb n 0 (λ e. omega arith)

pub count_read-any : (section : Counted) (front : Front) (n : ℕ) → n < 2 ^ 63 → enough section n ≡ Ok tt → count_read section front (decimal n) ≡ Ok (at (Entries section n) front)
unfolding count_read
count_read-any section front n h some = rw (count_of-decimal n h, some) refl

-- an entry that is read, where it is no end
pub next-any : (section : Counted) (left : ℕ) (front next : Front) (line : List ℕ) → closes front.header line ≡ false → entry_read section front line ≡ Ok next
    → counted_read section (suc left) front line ≡ Ok (at (Entries section left) next)
unfolding counted_read next_read
next-any section left front next line other read =
    let some : eqb (suc left) 0 ≡ false = not_zero (suc left) (omega arith) in
    let fewer : suc left - 1 ≡ left = omega arith in
    rw (other, some, read, fewer) refl

-- ---- names

abbrev names_front : List GroupName → ℕ → Front
names_front done left = front_at (Entries Names left) (codes "PhysicalNames") true false false done [] [] [] []

name_reads : (done : List GroupName) (name : GroupName) (left : ℕ) → is_readable name ≡ true → name_read (names_front done left) (name_line name) ≡ Ok (names_front (done ++ name ∷ []) left)
unfolding name_read
name_reads done name left good = rw (name-read name good) refl

name_steps : (done : List GroupName) (name : GroupName) (left : ℕ) → is_readable name ≡ true → step (names_front done (suc left)) (name_line name) ≡ Ok (names_front (done ++ name ∷ []) left)
unfolding step
name_steps done name left good =
    next-any Names left (names_front done (suc left)) (names_front (done ++ name ∷ []) (suc left)) (name_line name) (name-closes name good (codes "PhysicalNames")) (name_reads done name (suc left) good)

names_begin : step (front_at Outside (codes "MeshFormat") false false false [] [] [] [] []) (codes "$PhysicalNames") ≡ Ok (front_at (Count Names) (codes "PhysicalNames") true false false [] [] [] [] [])
unfolding step header_read header_of begun names_begun words_of
names_begin = refl

names_count : (n : ℕ) → n < 2 ^ 63 → step (front_at (Count Names) (codes "PhysicalNames") true false false [] [] [] [] []) (decimal n) ≡ Ok (names_front [] n)
unfolding step
names_count n h = count_read-any Names (front_at (Count Names) (codes "PhysicalNames") true false false [] [] [] [] []) n h refl

names_end : (names : List GroupName) → step (names_front names 0) (codes "$EndPhysicalNames") ≡ Ok (front_at Outside (codes "PhysicalNames") true false false names [] [] [] [])
unfolding step counted_read closes words_of end_read
names_end names = refl

unnumbered : (n : ℕ) (names : List GroupName) → map (λ e. name_line e.1) (enumerate_from n names) ≡ map name_line names
unnumbered n [] = refl
unnumbered n (name ∷ names) = ap (λ r. name_line name ∷ r) (unnumbered (n + 1) names)

pub names-run : (names : List GroupName) → length names < 2 ^ 63 → list_all is_readable names ≡ true
    → run (front_at Outside (codes "MeshFormat") false false false [] [] [] [] []) (counted_section (codes "PhysicalNames") (map name_line names)) ≡ Ok (front_at Outside (codes "PhysicalNames") true false false names [] [] [] [])
names-run names few good =
    let long : length (map name_line names) ≡ length names = length-map names name_line in
    let none : length names + 0 ≡ length names = omega arith in
    let body = run-all (λ n name. name_line name) names_front is_readable (length names) (λ done name left _ ok. name_steps done name left ok) names 0 (omega arith) good in
    run-section (codes "PhysicalNames") (map name_line names) _ _ _ _ _ names_begin (names_count (length (map name_line names)) (omega arith))
    (rw long (rw (none, unnumbered 1 names) at body)) (names_end names)

-- ---- nodes

module _ (has_names : Bool) (names : List GroupName) where
  abbrev nodes_front : List Coordinates → ℕ → Front
  nodes_front done left = front_at (Entries Nodes left) (codes "Nodes") has_names true false names (numbers_from 1 (length done)) done [] []

  node_reads : (done : List Coordinates) (p : Coordinates) (left : ℕ) → length done + 1 ≤ 2147483647 → is_near_place p ≡ true → node_read (nodes_front done left) (node_line (length done + 1) p) ≡ Ok (nodes_front (done ++ p ∷ []) left)
  unfolding node_read
  node_reads done p left few near =
      let long : length (done ++ p ∷ []) ≡ suc (length done) = omega (arith, length-append done (p ∷ [])) in
      let one_more : length done + 1 ≡ 1 + length done = omega arith in
      let known : numbers_from 1 (length done) ++ pos (length done + 1) ∷ [] ≡ numbers_from 1 (length (done ++ p ∷ [])) =
      ap (λ k. numbers_from 1 (length done) ++ pos k ∷ []) one_more ∙ numbers-push 1 (length done) ∙ ap (numbers_from 1) (sym long) in
      rw (node-read (length done + 1) p (omega arith) few near (length done) (omega arith), known) refl

  node_steps : (done : List Coordinates) (p : Coordinates) (left : ℕ) → length done + 1 ≤ 2147483647 → is_near_place p ≡ true → step (nodes_front done (suc left)) (node_line (length done + 1) p) ≡ Ok (nodes_front (done ++ p ∷ []) left)
  unfolding step
  node_steps done p left few near =
      next-any Nodes left (nodes_front done (suc left)) (nodes_front (done ++ p ∷ []) (suc left)) (node_line (length done + 1) p) (node-closes (length done + 1) p (omega arith) few near (codes "Nodes"))
      (node_reads done p (suc left) few near)

  nodes_begin : (header : List ℕ) → step (front_at Outside header has_names false false names [] [] [] []) (codes "$Nodes") ≡ Ok (front_at (Count Nodes) (codes "Nodes") has_names true false names [] [] [] [])
  unfolding step header_read header_of begun nodes_begun words_of
  nodes_begin header = refl

  nodes_count : (n : ℕ) → 1 ≤ n → n < 2 ^ 63 → step (front_at (Count Nodes) (codes "Nodes") has_names true false names [] [] [] []) (decimal n) ≡ Ok (nodes_front [] n)
  unfolding step
  nodes_count n some few = count_read-any Nodes (front_at (Count Nodes) (codes "Nodes") has_names true false names [] [] [] []) n few (rw (not_zero n some) refl)

  nodes_end : (nodes : List Coordinates) → step (nodes_front nodes 0) (codes "$EndNodes") ≡ Ok (front_at Outside (codes "Nodes") has_names true false names (numbers_from 1 (length nodes)) nodes [] [])
  unfolding step counted_read closes words_of end_read
  nodes_end nodes = refl

  pub nodes-run : (header : List ℕ) (nodes : List Coordinates) → 1 ≤ length nodes → length nodes ≤ 2147483647 → list_all is_near_place nodes ≡ true
      → run (front_at Outside header has_names false false names [] [] [] []) (counted_section (codes "Nodes") (item_lines node_line nodes))
      ≡ Ok (front_at Outside (codes "Nodes") has_names true false names (numbers_from 1 (length nodes)) nodes [] [])
  nodes-run header nodes some few near =
      let long : length (item_lines node_line nodes) ≡ length nodes = length-item_lines node_line nodes in
      let none : length nodes + 0 ≡ length nodes = omega arith in
      let body = run-all node_line nodes_front is_near_place 2147483647 node_steps nodes 0 few near in
      run-section (codes "Nodes") (item_lines node_line nodes) _ _ _ _ _ (nodes_begin header) (nodes_count (length (item_lines node_line nodes)) (omega arith) (omega arith)) (rw long (rw none at body)) (nodes_end nodes)
