-- A walk along the edges of a ring goes round it.
use Rattle.std.proofs.Common.{◌≡◌, ◌≢◌, ◌⊎◌, ◌==◌, ℕ, Bool, true, false, cond, ◌&&◌, ◌||◌, List, [], ◌∷◌, length, Option, Some, None, nat_le, inl, inr, refl, sym, ap, subst, ◌∙◌, arith}
use Rattle.std.specs.declared.cmp.Ordering.{Ordering}
use Rattle.std.specs.declared.cmp.Ordering.TheVariants.{Less, Equal, Greater}
use Rattle.std.specs.Cmp.{tied_itself}
use Rattle.std.specs.List.{AllByRecursion, list_all, list_any}
use Rattle.std.specs.Ordering.{eq_by_cmp, is_lt, ordering_reverse}
use Rattle.std.proofs.lemmas.Bool.{false≢true, and_parts, or_cases}
use Rattle.std.proofs.lemmas.Bool.Decides.{nat_tests}
use Rattle.ma_geom.specs.Coordinates.{Coordinates, place_cmp}
use Rattle.ma_geom.proofs.PlaceOrder.{place_cmp_total}
use Rattle.ma_cells.specs.Ascending.{are_distinct, has}
use Rattle.ma_cells.proofs.Passing.{all_pass}
use Rattle.ma_cells.proofs.Permutations.{apart, same, tied, alone}
use Rattle.cavity_collapse.specs.Collapsing.{is_same}
use Rattle.cavity_collapse.specs.Curves.{end_across}
use Rattle.cavity_swap.specs.Rings.{IsRing, closes, starts_least, is_along, is_path, is_ring, joins, last_of}
use Rattle.cavity_swap.specs.Steps.{followed, is_pair, least_corner, least_end, least_next, lesser, next, unless_same, walked}

-- ---- edges by their ends
abbrev Ends : Coordinates → Coordinates → List Coordinates → Type 0
Ends p q edge = (edge ≡ p ∷ q ∷ []) ⊎ (edge ≡ q ∷ p ∷ [])

two : (x y p q : Coordinates) → (is_same x p && is_same y q) ≡ true → x ∷ y ∷ [] ≡ p ∷ q ∷ []
two x y p q h =
    let both = and_parts (is_same x p) (is_same y q) h in
    let first : x ≡ p = same x p both.0 in
    let second : y ≡ q = same y q both.1 in cc

pub ends : (p q : Coordinates) (edge : List Coordinates) → joins p q edge ≡ true → Ends p q edge
ends p q [] h = absurd (false≢true h)
ends p q (x ∷ []) h = absurd (false≢true h)
ends p q (x ∷ y ∷ z ∷ rest) h = absurd (false≢true h)
ends p q (x ∷ y ∷ []) h =
    elim (or_cases (is_same x p && is_same y q) (is_same x q && is_same y p) h) [
      | inl e ↦ inl (two x y p q e)
      | inr e ↦ inr (two x y q p e)
    ]

first_end : (p q : Coordinates) → end_across p (p ∷ q ∷ []) ≡ Some q
first_end p q = rw (tied p) refl

second_end : (p q : Coordinates) → p ≢ q → end_across q (p ∷ q ∷ []) ≡ Some p
second_end p q differ = rw (apart p q differ, tied q) refl

no_end : (c p q : Coordinates) → p ≢ c → q ≢ c → end_across c (p ∷ q ∷ []) ≡ None
no_end c p q first second = rw (apart p c first, apart q c second) refl

pub joined_after : (p q : Coordinates) (edge : List Coordinates) → p ≢ q → joins p q edge ≡ true → end_across p edge ≡ Some q
joined_after p q edge differ h =
    elim (ends p q edge h) [
      | inl e ↦ ap (end_across p) e ∙ first_end p q
      | inr e ↦ ap (end_across p) e ∙ second_end q p (λ s. differ (sym s))
    ]

pub joined_before : (p q : Coordinates) (edge : List Coordinates) → p ≢ q → joins p q edge ≡ true → end_across q edge ≡ Some p
joined_before p q edge differ h =
    elim (ends p q edge h) [
      | inl e ↦ ap (end_across q) e ∙ second_end p q differ
      | inr e ↦ ap (end_across q) e ∙ first_end q p
    ]

pub joined_elsewhere : (c p q : Coordinates) (edge : List Coordinates) → p ≢ c → q ≢ c → joins p q edge ≡ true → end_across c edge ≡ None
joined_elsewhere c p q edge first second h =
    elim (ends p q edge h) [
      | inl e ↦ ap (end_across c) e ∙ no_end c p q first second
      | inr e ↦ ap (end_across c) e ∙ no_end c q p second first
    ]

-- ---- distinct places
abbrev Differs : Coordinates → List Coordinates → Type 0
Differs c places = AllByRecursion (λ x. x ≢ c) places

abbrev Distinct : List Coordinates → Type 0
Distinct [] = Unit {0}
Distinct (p ∷ rest) = Differs p rest × Distinct rest

differ_from : (c : Coordinates) (places : List Coordinates) → has place_cmp c places ≡ false → Differs c places
differ_from c [] h = tt
differ_from c (p ∷ rest) h =
    elim (eq_by_cmp place_cmp c p) as (λ b. eq_by_cmp place_cmp c p ≡ b → (b || has place_cmp c rest) ≡ false → Differs c (p ∷ rest)) [
      | true ↦ λ _ k. absurd (false≢true (sym k))
      | false ↦ λ e k. ((λ s. false≢true (sym e ∙ subst (λ x. eq_by_cmp place_cmp c x ≡ true) (sym s) (tied c))), differ_from c rest k)
    ] refl h

pub distinct : (places : List Coordinates) → are_distinct place_cmp places ≡ true → Distinct places
distinct [] h = tt
distinct (p ∷ rest) h = let both = alone (has place_cmp p rest) (are_distinct place_cmp rest) h in (differ_from p rest both.0, distinct rest both.1)

-- ---- edges along a path
pub elsewhere : (c end : Coordinates) (path : List Coordinates) (edge : List Coordinates) → Differs c path → end ≢ c → is_along end path edge ≡ true → end_across c edge ≡ None
elsewhere c end [] edge d e h = absurd (false≢true h)
elsewhere c end (p ∷ []) edge d e h = joined_elsewhere c p end edge d.0 e h
elsewhere c end (p ∷ q ∷ rest) edge d e h =
    elim (or_cases (joins p q edge) (is_along end (q ∷ rest) edge) h) [
      | inl k ↦ joined_elsewhere c p q edge d.0 d.1.0 k
      | inr k ↦ elsewhere c end (q ∷ rest) edge d.1 e k
    ]

-- the edges at the end come from the last place
pub at_the_end : (end q : Coordinates) (rest : List Coordinates) (edge : List Coordinates) → Differs end (q ∷ rest) → is_along end (q ∷ rest) edge ≡ true
    → (end_across end edge ≡ None) ⊎ (end_across end edge ≡ Some (last_of q rest))
at_the_end end q [] edge d h = inr (joined_before q end edge d.0 h)
at_the_end end q (r ∷ rest) edge d h =
    elim (or_cases (joins q r edge) (is_along end (r ∷ rest) edge) h) [
      | inl k ↦ inl (joined_elsewhere end q r edge d.0 d.1.0 k)
      | inr k ↦ at_the_end end r rest edge d.1 k
    ]

-- ---- the next place
abbrev Fits : Coordinates → Coordinates → Option Coordinates → Type 0
Fits p n None = Unit {0}
Fits p n (Some d) = (d ≡ p) ⊎ (d ≡ n)

passed_over : (p n : Coordinates) (found other : Option Coordinates) → Fits p n found → n ≢ p → other ≡ Some n → unless_same found p other ≡ Some n
passed_over p n None other fits differ e = e
passed_over p n (Some d) other (inl e) differ k = rw (e, tied p) k
passed_over p n (Some d) other (inr e) differ k = rw (e, apart n p differ) refl

taken_up : (p n : Coordinates) (found other : Option Coordinates) → n ≢ p → found ≡ Some n → unless_same found p other ≡ Some n
taken_up p n found other differ e = rw (e, apart n p differ) refl

pub next_is : (p c n : Coordinates) (edges : List (List Coordinates)) → n ≢ p → c ≢ n → AllByRecursion (λ edge. Fits p n (end_across c edge)) edges → list_any (joins c n) edges ≡ true → next p c edges ≡ Some n
next_is p c n [] differ other fits h = absurd (false≢true h)
next_is p c n (edge ∷ edges) differ other fits h =
    elim (or_cases (joins c n edge) (list_any (joins c n) edges) h) [
      | inl k ↦ taken_up p n (end_across c edge) (next p c edges) differ (joined_after c n edge other k)
      | inr k ↦ passed_over p n (end_across c edge) (next p c edges) fits.0 differ (next_is p c n edges differ other fits.1 k)
    ]

-- ---- all places after the first two
abbrev HasNone : List Coordinates → List Coordinates → Type 0
HasNone path edge = AllByRecursion (λ c. end_across c edge ≡ None) path

-- an edge is along a path, or has none of the places after its first
abbrev OnOrOff : Coordinates → Coordinates → List Coordinates → List Coordinates → Type 0
OnOrOff end p rest edge = (is_along end (p ∷ rest) edge ≡ true) ⊎ HasNone rest edge

none_of : (p c : Coordinates) (rest : List Coordinates) (edge : List Coordinates) → Differs p rest → Differs c rest → joins p c edge ≡ true → HasNone rest edge
none_of p c [] edge d e h = tt
none_of p c (x ∷ rest) edge d e h = (joined_elsewhere x p c edge (λ s. d.0 (sym s)) (λ s. e.0 (sym s)) h, none_of p c rest edge d.1 e.1 h)

step_on : (end p c : Coordinates) (rest : List Coordinates) (edge : List Coordinates) → Differs p rest → Differs c rest → OnOrOff end p (c ∷ rest) edge → OnOrOff end c rest edge
step_on end p c rest edge d e (inr none) = inr none.1
step_on end p c rest edge d e (inl h) =
    elim (or_cases (joins p c edge) (is_along end (c ∷ rest) edge) h) [
      | inl k ↦ inr (none_of p c rest edge d e k)
      | inr k ↦ inl k
    ]

fits_at : (end p c n : Coordinates) (rest : List Coordinates) (edge : List Coordinates) → p ≢ c → c ≢ n → Differs c (n ∷ rest) → end ≢ c → OnOrOff end p (c ∷ n ∷ rest) edge → Fits p n (end_across c edge)
fits_at end p c n rest edge before after d e (inr none) = rw (none.0) tt
fits_at end p c n rest edge before after d e (inl h) =
    elim (or_cases (joins p c edge) (joins c n edge || is_along end (n ∷ rest) edge) h) [
      | inl k ↦ rw (joined_before p c edge before k) (inl refl)
      | inr k ↦ elim (or_cases (joins c n edge) (is_along end (n ∷ rest) edge) k) [
        | inl m ↦ rw (joined_after c n edge after m) (inr refl)
        | inr m ↦ rw (elsewhere c end (n ∷ rest) edge d e m) tt
      ]
    ]

each_weaker : {X : Type 0} (P Q : X → Type 0) → ((x : X) → P x → Q x) → (xs : List X) → AllByRecursion P xs → AllByRecursion Q xs
each_weaker P Q f [] h = tt
each_weaker P Q f (x ∷ xs) h = (f x h.0, each_weaker P Q f xs h.1)

pub follows : (end : Coordinates) (edges fuel : List (List Coordinates)) (p c : Coordinates) (rest : List Coordinates) → length fuel ≡ length rest → Distinct (p ∷ c ∷ rest) → Differs end (c ∷ rest)
    → AllByRecursion (OnOrOff end p (c ∷ rest)) edges → is_path edges end (c ∷ rest) ≡ true → followed fuel edges c (next p c edges) ≡ rest
follows end edges [] p c [] same d e on path = refl
follows end edges (one ∷ fuel) p c [] same d e on path = absurd (omega (arith, same))
follows end edges [] p c (n ∷ rest) same d e on path = absurd (omega (arith, same))
follows end edges (one ∷ fuel) p c (n ∷ rest) same d e on path =
    let parts = and_parts (list_any (joins c n) edges) (is_path edges end (n ∷ rest)) path in
    let fits = each_weaker (OnOrOff end p (c ∷ n ∷ rest)) (λ edge. Fits p n (end_across c edge))
    (λ edge. fits_at end p c n rest edge (λ s. d.0.0 (sym s)) (λ s. d.1.0.0 (sym s)) d.1.0 (λ s. e.0 (sym s))) edges on in
    let found : next p c edges ≡ Some n = next_is p c n edges d.0.1.0 (λ s. d.1.0.0 (sym s)) fits parts.0 in
    let later = each_weaker (OnOrOff end p (c ∷ n ∷ rest)) (OnOrOff end c (n ∷ rest)) (λ edge. step_on end p c (n ∷ rest) edge d.0.1 d.1.0) edges on in
    rw (found) (ap (λ r. n ∷ r) (follows end edges fuel c n rest (omega (arith, same)) d.1 e.1 later parts.1))

-- ---- the least corner, and its lesser neighbour
abbrev NotBelow : Coordinates → Coordinates → Type 0
NotBelow p q = (q ≡ p) ⊎ (place_cmp p q ≡ Less)

abbrev NoneBelow : Coordinates → Option Coordinates → Type 0
NoneBelow p None = Unit {0}
NoneBelow p (Some q) = NotBelow p q

not_lower : (p q : Coordinates) → NotBelow p q → is_lt (place_cmp q p) ≡ false
not_lower p q (inl e) = ap (λ x. is_lt (place_cmp x p)) e ∙ ap is_lt (tied_itself place_cmp_total p)
not_lower p q (inr e) = ap is_lt (place_cmp_total.antisymm q p ∙ ap ordering_reverse e)

lesser_left : (p : Coordinates) (b : Option Coordinates) → NoneBelow p b → lesser (Some p) b ≡ Some p
lesser_left p None h = refl
lesser_left p (Some q) h = rw (not_lower p q h) refl

lesser_right : (p : Coordinates) (a : Option Coordinates) → NoneBelow p a → lesser a (Some p) ≡ Some p
lesser_right p None h = refl
lesser_right p (Some q) (inl e) = rw (e, tied_itself place_cmp_total p) refl
lesser_right p (Some q) (inr e) = rw (e) refl

lesser_both : (p : Coordinates) (a b : Option Coordinates) → NoneBelow p a → NoneBelow p b → NoneBelow p (lesser a b)
lesser_both p None b g h = h
lesser_both p (Some x) None g h = g
lesser_both p (Some x) (Some y) g h =
    elim (is_lt (place_cmp y x)) as (λ b. NoneBelow p (cond b (Some y) (Some x))) [
      | true ↦ h
      | false ↦ g
    ]

-- the lesser of what f gives at each edge, as `least_corner` and `least_next` take it
abbrev IsLesserOf : (List Coordinates → Option Coordinates) → (List (List Coordinates) → Option Coordinates) → Type 0
IsLesserOf f least = (least [] ≡ None) × ((edge : List Coordinates) (edges : List (List Coordinates)) → least (edge ∷ edges) ≡ lesser (f edge) (least edges))

module _ (f : List Coordinates → Option Coordinates) (least : List (List Coordinates) → Option Coordinates) (is : IsLesserOf f least) where
  none_below : (p : Coordinates) (edges : List (List Coordinates)) → AllByRecursion (λ edge. NoneBelow p (f edge)) edges → NoneBelow p (least edges)
  none_below p [] h = rw (is.0) tt
  none_below p (edge ∷ edges) h = rw (is.1 edge edges) (lesser_both p (f edge) (least edges) h.0 (none_below p edges h.1))

  pub least_is : (p : Coordinates) (test : List Coordinates → Bool) (edges : List (List Coordinates)) → AllByRecursion (λ edge. NoneBelow p (f edge)) edges
      → ((edge : List Coordinates) → test edge ≡ true → f edge ≡ Some p) → list_any test edges ≡ true → least edges ≡ Some p
  least_is p test [] h hit any = absurd (false≢true any)
  least_is p test (edge ∷ edges) h hit any =
      elim (or_cases (test edge) (list_any test edges) any) [
        | inl k ↦ rw (is.1 edge edges, hit edge k) (lesser_left p (least edges) (none_below p edges h.1))
        | inr k ↦ rw (is.1 edge edges, least_is p test edges h.1 hit k) (lesser_right p (f edge) h.0)
      ]

-- both ends of an edge along a path are on it
ends_on : (p q : Coordinates) (start : Coordinates) (edge : List Coordinates) → NotBelow start p → NotBelow start q → joins p q edge ≡ true → NoneBelow start (least_end edge)
ends_on p q start edge g h k =
    elim (ends p q edge k) [
      | inl e ↦ subst (λ x. NoneBelow start (least_end x)) (sym e) (lesser_both start (Some p) (Some q) g h)
      | inr e ↦ subst (λ x. NoneBelow start (least_end x)) (sym e) (lesser_both start (Some q) (Some p) h g)
    ]

along_on : (start end : Coordinates) (path : List Coordinates) (edge : List Coordinates) → AllByRecursion (NotBelow start) path → NotBelow start end → is_along end path edge ≡ true → NoneBelow start (least_end edge)
along_on start end [] edge g h k = absurd (false≢true k)
along_on start end (p ∷ []) edge g h k = ends_on p end start edge g.0 h k
along_on start end (p ∷ q ∷ rest) edge g h k =
    elim (or_cases (joins p q edge) (is_along end (q ∷ rest) edge) k) [
      | inl m ↦ ends_on p q start edge g.0 g.1.0 m
      | inr m ↦ along_on start end (q ∷ rest) edge g.1 h m
    ]

-- an edge from the start has it as its least end
least_of_first : (p q : Coordinates) (edge : List Coordinates) → NotBelow p q → joins p q edge ≡ true → least_end edge ≡ Some p
least_of_first p q edge h k =
    elim (ends p q edge k) [
      | inl e ↦ ap least_end e ∙ lesser_left p (Some q) h
      | inr e ↦ ap least_end e ∙ lesser_right p (Some q) h
    ]

below_all : (p : Coordinates) (rest : List Coordinates) → list_all (λ r. is_lt (place_cmp p r)) rest ≡ true → AllByRecursion (NotBelow p) rest
below_all p [] h = tt
below_all p (q ∷ rest) h =
    let both = and_parts (is_lt (place_cmp p q)) (list_all (λ r. is_lt (place_cmp p r)) rest) h in
    (inr (less_is (place_cmp p q) both.0), below_all p rest both.1)
  where
    less_is : (r : Ordering) → is_lt r ≡ true → r ≡ Less
    less_is Less e = refl
    less_is Equal e = absurd (false≢true e)
    less_is Greater e = absurd (false≢true e)

second_none_below : (p q : Coordinates) (rest : List Coordinates) (edge : List Coordinates) → p ≢ q → Differs p (q ∷ rest) → is_lt (place_cmp q (last_of q rest)) ≡ true
    → is_along p (p ∷ q ∷ rest) edge ≡ true → NoneBelow q (end_across p edge)
second_none_below p q rest edge differ d below h =
    elim (or_cases (joins p q edge) (is_along p (q ∷ rest) edge) h) [
      | inl k ↦ rw (joined_after p q edge differ k) (inl refl)
      | inr k ↦ elim (at_the_end p q rest edge d k) [
        | inl e ↦ rw (e) tt
        | inr e ↦ rw (e) (inr (less_is (place_cmp q (last_of q rest)) below))
      ]
    ]
  where
    less_is : (r : Ordering) → is_lt r ≡ true → r ≡ Less
    less_is Less e = refl
    less_is Equal e = absurd (false≢true e)
    less_is Greater e = absurd (false≢true e)

-- ---- the walk goes round the ring
pub goes_round : (edges : List (List Coordinates)) (p q : Coordinates) (rest : List Coordinates) → length edges ≡ length (p ∷ q ∷ rest) → Distinct (p ∷ q ∷ rest)
    → starts_least (p ∷ q ∷ rest) ≡ true → closes edges (p ∷ q ∷ rest) ≡ true → walked edges ≡ p ∷ q ∷ rest
goes_round [] p q rest same d start closed = absurd (omega (arith, same))
goes_round (x ∷ []) p q rest same d start closed = absurd (omega (arith, same))
goes_round (x ∷ y ∷ fuel) p q rest same d start closed =
    let edges : List (List Coordinates) = x ∷ y ∷ fuel in
    let starts = and_parts (list_all (λ r. is_lt (place_cmp p r)) (q ∷ rest)) (is_lt (place_cmp q (last_of q rest))) start in
    let closing = and_parts (is_path edges p (p ∷ q ∷ rest)) (list_all (is_along p (p ∷ q ∷ rest)) edges) closed in
    let path = and_parts (list_any (joins p q) edges) (is_path edges p (q ∷ rest)) closing.0 in
    let along = all_pass (is_along p (p ∷ q ∷ rest)) edges closing.1 in
    let above = below_all p (q ∷ rest) starts.0 in
    let differ : p ≢ q = λ s. d.0.0 (sym s) in
    let least : least_corner edges ≡ Some p
    = least_is least_end least_corner (refl, λ _ _. refl) p (joins p q) edges
    (each_weaker _ _ (λ edge. along_on p p (p ∷ q ∷ rest) edge (inl refl, above) (inl refl)) edges along) (λ edge. least_of_first p q edge above.0) path.0 in
    let second : least_next p edges ≡ Some q
    = least_is (end_across p) (least_next p) (refl, λ _ _. refl) q (joins p q) edges
    (each_weaker _ _ (λ edge. second_none_below p q rest edge differ d.0 starts.1) edges along) (λ edge. joined_after p q edge differ) path.0 in
    let on = each_weaker _ (OnOrOff p p (q ∷ rest)) (λ edge h. inl h) edges along in
    rw (least, second) (ap (λ r. p ∷ q ∷ r) (follows p edges fuel p q rest (omega (arith, same)) d d.0 on path.1))

eqb_is : (m n : ℕ) → (m == n) ≡ true → m ≡ n
eqb_is m n h = grind (arith, nat_tests)

pub walked_is : (edges : List (List Coordinates)) (r : List Coordinates) → IsRing edges r → walked edges ≡ r
walked_is edges [] h = absurd (false≢true h)
walked_is edges (p ∷ []) h = absurd (false≢true h)
walked_is edges (p ∷ q ∷ rest) h =
    let halves = and_parts (nat_le 3 (length (p ∷ q ∷ rest)) && nat_le (length (p ∷ q ∷ rest)) 7 && length edges == length (p ∷ q ∷ rest)) _ h in
    let counts = and_parts (nat_le 3 (length (p ∷ q ∷ rest)) && nat_le (length (p ∷ q ∷ rest)) 7) (length edges == length (p ∷ q ∷ rest)) halves.0 in
    let shape = and_parts (are_distinct place_cmp (p ∷ q ∷ rest)) _ halves.1 in
    let rounds = and_parts (starts_least (p ∷ q ∷ rest)) _ shape.1 in
    goes_round edges p q rest (eqb_is (length edges) (length (p ∷ q ∷ rest)) counts.1) (distinct (p ∷ q ∷ rest) shape.0) rounds.0 rounds.1

pub alone_rings : (edges : List (List Coordinates)) (r s : List Coordinates) → IsRing edges r → IsRing edges s → r ≡ s
alone_rings edges r s h k = sym (walked_is edges r h) ∙ walked_is edges s k

pub no_other : (edges : List (List Coordinates)) → is_ring edges (walked edges) ≡ false → (corners : List Coordinates) → is_ring edges corners ≡ false
no_other edges h corners =
    elim (is_ring edges corners) as (λ b. is_ring edges corners ≡ b → b ≡ false) [
      | true ↦ λ e. absurd (false≢true (sym h ∙ ap (is_ring edges) (walked_is edges corners e) ∙ e))
      | false ↦ λ _. refl
    ] refl

-- ---- what isn't a pair is no edge of a ring
not_along : (end : Coordinates) (path edge : List Coordinates) → is_pair edge ≡ false → is_along end path edge ≡ false
not_along end [] edge h = refl
not_along end (p ∷ []) [] h = refl
not_along end (p ∷ []) (x ∷ []) h = refl
not_along end (p ∷ []) (x ∷ y ∷ []) h = absurd (false≢true (sym h))
not_along end (p ∷ []) (x ∷ y ∷ z ∷ edge) h = refl
not_along end (p ∷ q ∷ rest) [] h = not_along end (q ∷ rest) [] h
not_along end (p ∷ q ∷ rest) (x ∷ []) h = not_along end (q ∷ rest) (x ∷ []) h
not_along end (p ∷ q ∷ rest) (x ∷ y ∷ []) h = absurd (false≢true (sym h))
not_along end (p ∷ q ∷ rest) (x ∷ y ∷ z ∷ edge) h = not_along end (q ∷ rest) (x ∷ y ∷ z ∷ edge) h

some_not_along : (end : Coordinates) (path : List Coordinates) (edges : List (List Coordinates)) → list_all is_pair edges ≡ false → list_all (is_along end path) edges ≡ false
some_not_along end path [] h = absurd (false≢true (sym h))
some_not_along end path (edge ∷ edges) h =
    elim (is_pair edge) as (λ b. is_pair edge ≡ b → (b && list_all is_pair edges) ≡ false → list_all (is_along end path) (edge ∷ edges) ≡ false) [
      | true ↦ λ _ k. rw (some_not_along end path edges k) (elim (is_along end path edge) as (λ b. (b && false) ≡ false) [ true ↦ refl | false ↦ refl ])
      | false ↦ λ e _. rw (not_along end path edge e) refl
    ] refl h

pub no_ring_of_others : (edges : List (List Coordinates)) → list_all is_pair edges ≡ false → (corners : List Coordinates) → is_ring edges corners ≡ false
no_ring_of_others edges h corners =
    elim (is_ring edges corners) as (λ b. is_ring edges corners ≡ b → b ≡ false) [
      | true ↦ λ e. absurd (false≢true (sym (shut corners (closing corners e)) ∙ closing corners e))
      | false ↦ λ _. refl
    ] refl
  where
    closing : (corners : List Coordinates) → is_ring edges corners ≡ true → closes edges corners ≡ true
    closing corners e =
        let halves = and_parts (nat_le 3 (length corners) && nat_le (length corners) 7 && length edges == length corners) _ e in
        let shape = and_parts (are_distinct place_cmp corners) _ halves.1 in
        (and_parts (starts_least corners) (closes edges corners) shape.1).1

    shut : (corners : List Coordinates) → closes edges corners ≡ true → closes edges corners ≡ false
    shut [] e = refl
    shut (p ∷ rest) e = rw (some_not_along p (p ∷ rest) edges h) (elim (is_path edges p (p ∷ rest)) as (λ b. (b && false) ≡ false) [ true ↦ refl | false ↦ refl ])
