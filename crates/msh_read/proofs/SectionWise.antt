-- Reading a file section by section is reading it line by line.
use Rattle.std.proofs.Common.{◌≡◌, ℕ, zero, suc, ◌-◌, ◌≤◌, Bool, true, false, eqb, List, [], ◌∷◌, ◌++◌, length, map, Option, Some, None, refl, sym, ap, ◌∙◌, arith, codes, ℤ, inl, inr}
use Rattle.std.specs.Prelude.{Result, Ok, Err, is_some, unwrap_or}
use Rattle.std.specs.List.{filter_map}
use Rattle.std.specs.Str.{bytes_eq}
use Rattle.std.proofs.lemmas.Bool.{cases_Bool, ne_eqb}
use Rattle.std.proofs.lemmas.List.{append-nil, map_push}
use Rattle.std.proofs.lemmas.List.Elements.{filter_map-append}
use Rattle.ma_geom.specs.Coordinates.{Coordinates}
use Rattle.ma_text.specs.Lines.{numbered_lines, end_number}
use Rattle.msh_read.specs.declared.fault.MshFault.{MshFault}
use Rattle.msh_read.specs.declared.fault.MshKind.{MshKind}
use Rattle.msh_read.specs.declared.fault.MshKind.TheVariants.{BadLine, NoElements, NoNodes}
use Rattle.msh_read.specs.declared.stand.Counted.{Counted}
use Rattle.msh_read.specs.declared.stand.Counted.TheVariants.{Names, Nodes, Elements}
use Rattle.msh_read.specs.declared.stand.Stand.{Stand}
use Rattle.msh_read.specs.declared.stand.Stand.TheVariants.{Outside, Skipped, Format, FormatEnd, Count, Entries}
use Rattle.msh_read.specs.ElementLines.{RawElement, a_mark, a_tet, element_of, mark_in, tet_in}
use Rattle.msh_read.specs.GroupNames.{GroupName}
use Rattle.msh_read.specs.Lines.{closes, count_of, format_of, header_of}
use Rattle.msh_read.specs.NameLines.{name_of}
use Rattle.msh_read.specs.NodeLines.{node_of}
use Rattle.msh_read.specs.Raw.{Raw}
use Rattle.msh_read.specs.Reading.{FileRead, any_count, at_least_one, at_line, counted_in, end_line_in, entries_in, format_in, no_more, nothing_known, numbers_of_nodes, read_of, skipped, mesh_in, with_elements, with_format, with_named, with_names, with_nodes, with_section, with_sections}
use Rattle.msh_read.specs.Sections.{BehindHeader, NumberedLine, Section, behind_header, sections_of}
use Rattle.msh_read.specs.Trying.{◌>>=◌, ◌>>◌}
use Rattle.msh_read.specs.steps.Front.{Front, nothing_read}
use Rattle.msh_read.specs.steps.LineByLine.{begun, count_read, counted_read, element_read, elements_begun, end_read, enough, entry_read, format_begun, format_end_read, format_read, header_read, name_read, names_begun, next_read, node_read, nodes_begun, skipped_read, step, with_element}
use Rattle.msh_read.specs.steps.LinesRead.{after, end_of, read_by_lines}
use Rattle.msh_read.proofs.EndLines.{count_of-end, format_of-end}

-- ---- one step after another

bind-bind : {A B C E : Type 0} (r : Result A E) (f : A → Result B E) (g : B → Result C E) → ((r >>= f) >>= g) ≡ (r >>= λ x. f x >>= g)
bind-bind (Ok x) f g = refl
bind-bind (Err e) f g = refl

then-bind : {B C E : Type 0} (r : Result (Unit {0}) E) (s : Result B E) (g : B → Result C E) → ((r >> s) >>= g) ≡ (r >> (s >>= g))
then-bind (Ok x) s g = refl
then-bind (Err e) s g = refl

-- ---- what the sections say, as the code holds it

abbrev pub front_of : Stand → List ℕ → FileRead → Front
front_of stand header file = record {
  stand = stand;
  header = header;
  has_format = file.has_format;
  has_names = is_some file.names;
  has_nodes = is_some file.nodes;
  has_elements = is_some file.elements;
  numbers = numbers_of_nodes (unwrap_or file.nodes []);
  nodes = map (λ node. node.1) (unwrap_or file.nodes []);
  tets = filter_map tet_in (unwrap_or file.elements []);
  marks = filter_map mark_in (unwrap_or file.elements []);
  names = unwrap_or file.names [];
}

-- a file may end with the same
end-mesh_in : (header : List ℕ) (format : Bool) (names : Option (List GroupName)) (nodes : Option (List (ℤ × Coordinates))) (elements : Option (List RawElement))
    → end_of (front_of Outside header (record { has_format = format; names = names; nodes = nodes; elements = elements })) ≡ mesh_in (record { has_format = format; names = names; nodes = nodes; elements = elements })
unfolding end_of mesh_in
end-mesh_in header false names nodes elements = refl
end-mesh_in header true names None elements = refl
end-mesh_in header true names (Some nodes) None = refl
end-mesh_in header true names (Some nodes) (Some elements) = refl

module _ (end : ℕ) where
  -- the lines that are left, and the sections
  abbrev by_lines : Front → List NumberedLine → Result Raw MshFault
  by_lines front [] = at_line end (end_of front)
  by_lines front (line ∷ lines) = at_line line.0 (step front line.1) >>= λ next. by_lines next lines

  abbrev by_sections : FileRead → List Section → Result Raw MshFault
  by_sections file [] = at_line end (mesh_in file)
  by_sections file (section ∷ sections) = with_section section file >>= λ next. by_sections next sections

  by_lines-after : (lines : List NumberedLine) (front : Front) → by_lines front lines ≡ (after front lines >>= λ f. at_line end (end_of f))
  by_lines-after [] front = refl
  by_lines-after (line ∷ lines) front =
      elim (step front line.1) as (λ r. (at_line line.0 r >>= λ next. by_lines next lines) ≡ ((at_line line.0 r >>= λ next. after next lines) >>= λ f. at_line end (end_of f))) [
        | Ok next ↦ by_lines-after lines next
        | Err kind ↦ refl
      ]

  by_sections-with : (sections : List Section) (file : FileRead) → by_sections file sections ≡ (with_sections sections file >>= λ f. at_line end (mesh_in f))
  by_sections-with [] file = refl
  by_sections-with (section ∷ sections) file =
      elim (with_section section file) as (λ r. (r >>= λ next. by_sections next sections) ≡ ((r >>= λ next. with_sections sections next) >>= λ f. at_line end (mesh_in f))) [
        | Ok next ↦ by_sections-with sections next
        | Err fault ↦ refl
      ]

  -- at most so many lines outside of sections are read alike
  abbrev OutsideAlike : ℕ → Type 0
  OutsideAlike most = (lines : List NumberedLine) → length lines ≤ most → (header : List ℕ) (file : FileRead) → by_lines (front_of Outside header file) lines ≡ by_sections file (sections_of end lines)

  abbrev behind_named : List ℕ → List NumberedLine → BehindHeader
  behind_named name lines = behind_header end (Ok name) lines

  module _ (name : List ℕ) (most : ℕ) (outside : OutsideAlike most) where
    abbrev section_at : NumberedLine → List NumberedLine → Section
    section_at header lines = record { header = header; lines = (behind_named name lines).lines; end = (behind_named name lines).end }

    skipped-lines : (lines : List NumberedLine) (file : FileRead) → length lines ≤ most
        → by_lines (front_of Skipped name file) lines ≡ (end_line_in (behind_named name lines).end >> by_sections file (behind_named name lines).others)
    unfolding step skipped_read end_of
    skipped-lines [] file few = refl
    skipped-lines (line ∷ lines) file few =
        elim (cases_Bool (closes name line.1)) [
          | inl ends ↦ rw ends (outside lines (omega arith) name file)
          | inr stays ↦ rw stays (skipped-lines lines file (omega arith))
        ]

    format-ended : (lines : List NumberedLine) (file : FileRead) → length lines ≤ most
        → by_lines (front_of FormatEnd name file) lines ≡ (no_more BadLine (behind_named name lines).end (behind_named name lines).lines >> by_sections file (behind_named name lines).others)
    unfolding step format_end_read end_of
    format-ended [] file few = refl
    format-ended (line ∷ lines) file few =
        elim (cases_Bool (closes name line.1)) [
          | inl ends ↦ rw ends (outside lines (omega arith) name file)
          | inr stays ↦ rw stays refl
        ]

    format-lines : (lines : List NumberedLine) (file : FileRead) → length lines ≤ most
        → by_lines (front_of Format name file) lines ≡ (format_in (behind_named name lines).end (behind_named name lines).lines >> by_sections file (behind_named name lines).others)
    unfolding step format_read end_of
    format-lines [] file few = refl
    format-lines (line ∷ lines) file few =
        elim (cases_Bool (closes name line.1)) [
          | inl ends ↦ rw (ends, format_of-end name line.1 ends) refl
          | inr stays ↦ rw stays (
              elim (format_of line.1) as (λ r. (at_line line.0 (r >> Ok (front_of FormatEnd name file)) >>= λ next. by_lines next lines)
              ≡ ((at_line line.0 r >> no_more BadLine (behind_named name lines).end (behind_named name lines).lines) >> by_sections file (behind_named name lines).others)) [
                | Ok done ↦ format-ended lines file (omega arith)
                | Err kind ↦ refl
              ])
        ]

    -- A counted section, of any kind of entry.
    module _ {A : Type 0} (section : Counted) (read : List A → List ℕ → Result A MshKind) (with_done : List A → FileRead)
        (reads : (stand : Stand) (done : List A) (line : List ℕ) → entry_read section (front_of stand name (with_done done)) line ≡ (read done line >>= λ e. Ok (front_of stand name (with_done (done ++ e ∷ [])))))
        (some : ℕ → Result (Unit {0}) MshKind) (same_enough : (count : ℕ) → enough section count ≡ some count) where
      entry-lines : (lines : List NumberedLine) (left : ℕ) (done : List A) → length lines ≤ most
          → by_lines (front_of (Entries section left) name (with_done done)) lines
          ≡ (entries_in read (behind_named name lines).end left done (behind_named name lines).lines >>= λ out. by_sections (with_done out) (behind_named name lines).others)
      unfolding step counted_read end_read next_read end_of
      entry-lines [] zero done few = refl
      entry-lines [] (suc left) done few = refl
      entry-lines (line ∷ lines) zero done few =
          elim (cases_Bool (closes name line.1)) [
            | inl ends ↦ rw ends (outside lines (omega arith) name (with_done done))
            | inr stays ↦ rw stays refl
          ]
      entry-lines (line ∷ lines) (suc left) done few =
          let other : eqb (suc left) 0 ≡ false = ne_eqb (suc left) 0 (λ e. omega arith) in
          let fewer : suc left - 1 ≡ left = omega arith in
          elim (cases_Bool (closes name line.1)) [
            | inl ends ↦ rw (ends, other) refl
            | inr stays ↦ rw (stays, other, fewer, reads (Entries section (suc left)) done line.1) (
                elim (read done line.1) as (λ r. (at_line line.0 ((r >>= λ e. Ok (front_of (Entries section (suc left)) name (with_done (done ++ e ∷ [])))) >>= λ next. Ok (record next { stand = Entries section left })) >>= λ next. by_lines next lines)
                ≡ ((at_line line.0 r >>= λ e. entries_in read (behind_named name lines).end left (done ++ e ∷ []) (behind_named name lines).lines) >>= λ out. by_sections (with_done out) (behind_named name lines).others)) [
                  | Ok e ↦ entry-lines lines left (done ++ e ∷ []) (omega arith)
                  | Err kind ↦ refl
                ])
          ]

      count-lines : (lines : List NumberedLine) → length lines ≤ most
          → by_lines (front_of (Count section) name (with_done [])) lines
          ≡ (counted_in read some (behind_named name lines).end (behind_named name lines).lines >>= λ out. by_sections (with_done out) (behind_named name lines).others)
      unfolding step count_read end_of
      count-lines [] few = refl
      count-lines (line ∷ lines) few =
          elim (cases_Bool (closes name line.1)) [
            | inl ends ↦ rw (ends, count_of-end name line.1 ends) refl
            | inr stays ↦ rw stays (
                elim (count_of line.1) as (λ r. (at_line line.0 (r >>= λ count. enough section count >> Ok (front_of (Entries section count) name (with_done []))) >>= λ next. by_lines next lines)
                ≡ ((at_line line.0 r >>= λ count. at_line line.0 (some count) >> entries_in read (behind_named name lines).end count [] (behind_named name lines).lines) >>= λ out. by_sections (with_done out) (behind_named name lines).others)) [
                  | Err kind ↦ refl
                  | Ok count ↦ rw (same_enough count) (
                      elim (some count) as (λ r. (at_line line.0 (r >> Ok (front_of (Entries section count) name (with_done []))) >>= λ next. by_lines next lines)
                      ≡ ((at_line line.0 r >> entries_in read (behind_named name lines).end count [] (behind_named name lines).lines) >>= λ out. by_sections (with_done out) (behind_named name lines).others)) [
                        | Err kind ↦ refl
                        | Ok done ↦ entry-lines lines count [] (omega arith)
                      ])
                ])
          ]

    -- ---- a header

    name-reads : (format : Bool) (nodes : Option (List (ℤ × Coordinates))) (elements : Option (List RawElement)) (stand : Stand) (done : List GroupName) (line : List ℕ)
        → entry_read Names (front_of stand name (record { has_format = format; names = Some done; nodes = nodes; elements = elements })) line
        ≡ (name_of line >>= λ e. Ok (front_of stand name (record { has_format = format; names = Some (done ++ e ∷ []); nodes = nodes; elements = elements })))
    unfolding name_read
    name-reads format nodes elements stand done line = refl

    names-begin : (header : NumberedLine) (lines : List NumberedLine) (before : List ℕ) (format : Bool) (names : Option (List GroupName)) (nodes : Option (List (ℤ × Coordinates))) (elements : Option (List RawElement))
        → length lines ≤ most
        → (at_line header.0 (names_begun name (front_of Outside before (record { has_format = format; names = names; nodes = nodes; elements = elements }))) >>= λ next. by_lines next lines)
        ≡ (with_names (section_at header lines) (record { has_format = format; names = names; nodes = nodes; elements = elements }) >>= λ next. by_sections next (behind_named name lines).others)
    unfolding names_begun with_names
    names-begin header lines before false names nodes elements few = refl
    names-begin header lines before true (Some names) nodes elements few = refl
    names-begin header lines before true None nodes elements few =
        count-lines Names (λ done. name_of) (λ done. record { has_format = true; names = Some done; nodes = nodes; elements = elements }) (name-reads true nodes elements) any_count (λ count. refl) lines few
        ∙ sym (bind-bind (counted_in (λ done. name_of) any_count (behind_named name lines).end (behind_named name lines).lines) _ _)

    node-reads : (format : Bool) (names : Option (List GroupName)) (elements : Option (List RawElement)) (stand : Stand) (done : List (ℤ × Coordinates)) (line : List ℕ)
        → entry_read Nodes (front_of stand name (record { has_format = format; names = names; nodes = Some done; elements = elements })) line
        ≡ (node_of (numbers_of_nodes done) line >>= λ e. Ok (front_of stand name (record { has_format = format; names = names; nodes = Some (done ++ e ∷ []); elements = elements })))
    unfolding node_read
    node-reads format names elements stand done line =
        let before : Front = front_of stand name (record { has_format = format; names = names; nodes = Some done; elements = elements }) in
        elim (node_of (numbers_of_nodes done) line) as (λ r. (r >>= λ node. Ok (record before { numbers = numbers_of_nodes done ++ node.0 ∷ []; nodes = map (λ n. n.1) done ++ node.1 ∷ [] }))
        ≡ (r >>= λ e. Ok (front_of stand name (record { has_format = format; names = names; nodes = Some (done ++ e ∷ []); elements = elements })))) [
          | Err kind ↦ refl
          | Ok node ↦ rw (map_push (λ n. n.0) done node, map_push (λ n. n.1) done node) refl
        ]

    nodes-begin : (header : NumberedLine) (lines : List NumberedLine) (before : List ℕ) (format : Bool) (names : Option (List GroupName)) (nodes : Option (List (ℤ × Coordinates))) (elements : Option (List RawElement))
        → length lines ≤ most
        → (at_line header.0 (nodes_begun name (front_of Outside before (record { has_format = format; names = names; nodes = nodes; elements = elements }))) >>= λ next. by_lines next lines)
        ≡ (with_nodes (section_at header lines) (record { has_format = format; names = names; nodes = nodes; elements = elements }) >>= λ next. by_sections next (behind_named name lines).others)
    unfolding nodes_begun with_nodes
    nodes-begin header lines before false names nodes elements few = refl
    nodes-begin header lines before true names (Some nodes) elements few = refl
    nodes-begin header lines before true names None elements few =
        count-lines Nodes (λ done. node_of (numbers_of_nodes done)) (λ done. record { has_format = true; names = names; nodes = Some done; elements = elements }) (node-reads true names elements)
        (at_least_one NoNodes) (λ count. refl) lines few
        ∙ sym (bind-bind (counted_in (λ done. node_of (numbers_of_nodes done)) (at_least_one NoNodes) (behind_named name lines).end (behind_named name lines).lines) _ _)

    element-joins : (format : Bool) (names : Option (List GroupName)) (nodes : List (ℤ × Coordinates)) (stand : Stand) (done : List RawElement) (element : RawElement)
        → with_element element (front_of stand name (record { has_format = format; names = names; nodes = Some nodes; elements = Some done }))
        ≡ front_of stand name (record { has_format = format; names = names; nodes = Some nodes; elements = Some (done ++ element ∷ []) })
    element-joins format names nodes stand done (a_tet tet) =
        rw (filter_map-append tet_in done (a_tet tet ∷ []), filter_map-append mark_in done (a_tet tet ∷ []), append-nil (filter_map mark_in done)) refl
    element-joins format names nodes stand done (a_mark mark) =
        rw (filter_map-append tet_in done (a_mark mark ∷ []), filter_map-append mark_in done (a_mark mark ∷ []), append-nil (filter_map tet_in done)) refl

    element-reads : (format : Bool) (names : Option (List GroupName)) (nodes : List (ℤ × Coordinates)) (stand : Stand) (done : List RawElement) (line : List ℕ)
        → entry_read Elements (front_of stand name (record { has_format = format; names = names; nodes = Some nodes; elements = Some done })) line
        ≡ (element_of (numbers_of_nodes nodes) line >>= λ e. Ok (front_of stand name (record { has_format = format; names = names; nodes = Some nodes; elements = Some (done ++ e ∷ []) })))
    unfolding element_read
    element-reads format names nodes stand done line =
        let before : Front = front_of stand name (record { has_format = format; names = names; nodes = Some nodes; elements = Some done }) in
        elim (element_of (numbers_of_nodes nodes) line) as (λ r. (r >>= λ element. Ok (with_element element before))
        ≡ (r >>= λ e. Ok (front_of stand name (record { has_format = format; names = names; nodes = Some nodes; elements = Some (done ++ e ∷ []) })))) [
          | Err kind ↦ refl
          | Ok element ↦ ap (λ front. Ok front) (element-joins format names nodes stand done element)
        ]

    elements-begin : (header : NumberedLine) (lines : List NumberedLine) (before : List ℕ) (format : Bool) (names : Option (List GroupName)) (nodes : Option (List (ℤ × Coordinates))) (elements : Option (List RawElement))
        → length lines ≤ most
        → (at_line header.0 (elements_begun name (front_of Outside before (record { has_format = format; names = names; nodes = nodes; elements = elements }))) >>= λ next. by_lines next lines)
        ≡ (with_elements (section_at header lines) (record { has_format = format; names = names; nodes = nodes; elements = elements }) >>= λ next. by_sections next (behind_named name lines).others)
    unfolding elements_begun with_elements
    elements-begin header lines before false names nodes elements few = refl
    elements-begin header lines before true names None elements few = refl
    elements-begin header lines before true names (Some nodes) (Some elements) few = refl
    elements-begin header lines before true names (Some nodes) None few =
        count-lines Elements (λ done. element_of (numbers_of_nodes nodes)) (λ done. record { has_format = true; names = names; nodes = Some nodes; elements = Some done }) (element-reads true names nodes)
        (at_least_one NoElements) (λ count. refl) lines few
        ∙ sym (bind-bind (counted_in (λ done. element_of (numbers_of_nodes nodes)) (at_least_one NoElements) (behind_named name lines).end (behind_named name lines).lines) _ _)

    format-begin : (header : NumberedLine) (lines : List NumberedLine) (before : List ℕ) (format : Bool) (names : Option (List GroupName)) (nodes : Option (List (ℤ × Coordinates))) (elements : Option (List RawElement))
        → length lines ≤ most
        → (at_line header.0 (format_begun name (front_of Outside before (record { has_format = format; names = names; nodes = nodes; elements = elements }))) >>= λ next. by_lines next lines)
        ≡ (with_format (section_at header lines) (record { has_format = format; names = names; nodes = nodes; elements = elements }) >>= λ next. by_sections next (behind_named name lines).others)
    unfolding format_begun with_format
    format-begin header lines before true names nodes elements few = refl
    format-begin header lines before false names nodes elements few =
        format-lines lines (record { has_format = true; names = names; nodes = nodes; elements = elements }) few
        ∙ sym (then-bind (format_in (behind_named name lines).end (behind_named name lines).lines) _ _)

    -- by the name
    section-begins : (header : NumberedLine) (lines : List NumberedLine) (before : List ℕ) (file : FileRead) → length lines ≤ most
        → (at_line header.0 (begun name (front_of Outside before file)) >>= λ next. by_lines next lines) ≡ (with_named name (section_at header lines) file >>= λ next. by_sections next (behind_named name lines).others)
    unfolding begun with_named skipped
    section-begins header lines before file few =
        elim (cases_Bool (bytes_eq name (codes "MeshFormat"))) [
          | inl format ↦ rw format (format-begin header lines before file.has_format file.names file.nodes file.elements few)
          | inr other ↦ rw other (elim (cases_Bool (bytes_eq name (codes "PhysicalNames"))) [
            | inl names ↦ rw names (names-begin header lines before file.has_format file.names file.nodes file.elements few)
            | inr more ↦ rw more (elim (cases_Bool (bytes_eq name (codes "Nodes"))) [
              | inl nodes ↦ rw nodes (nodes-begin header lines before file.has_format file.names file.nodes file.elements few)
              | inr further ↦ rw further (elim (cases_Bool (bytes_eq name (codes "Elements"))) [
                | inl elements ↦ rw elements (elements-begin header lines before file.has_format file.names file.nodes file.elements few)
                | inr none ↦ rw none (skipped-lines lines file few ∙ sym (then-bind (end_line_in (behind_named name lines).end) (Ok file) _))
              ])
            ])
          ])
        ]

  -- lines outside of sections
  outside-alike : (most : ℕ) → OutsideAlike most
  unfolding step header_read with_section
  outside-alike most [] few header file = ap (at_line end) (end-mesh_in header file.has_format file.names file.nodes file.elements)
  outside-alike zero (line ∷ lines) few header file = absurd (omega arith)
  outside-alike (suc most) (line ∷ lines) few header file =
      elim (header_of line.1) as (λ r. (at_line line.0 (r >>= λ name. begun name (front_of Outside header file)) >>= λ next. by_lines next lines)
      ≡ ((at_line line.0 r >>= λ name. with_named name (record { header = line; lines = (behind_header end r lines).lines; end = (behind_header end r lines).end }) file)
      >>= λ next. by_sections next (behind_header end r lines).others)) [
        | Err kind ↦ refl
        | Ok name ↦ section-begins name most (outside-alike most) line lines header file (omega arith)
      ]

-- for all bytes
pub read_of-by_lines : (bytes : List ℕ) → read_of bytes ≡ read_by_lines bytes
unfolding read_of read_by_lines
read_of-by_lines bytes =
    let end : ℕ = end_number bytes in
    let lines : List NumberedLine = numbered_lines bytes in
    sym (by_sections-with end (sections_of end lines) nothing_known) ∙ sym (outside-alike end (length lines) lines (omega arith) [] nothing_known) ∙ by_lines-after end lines nothing_read
