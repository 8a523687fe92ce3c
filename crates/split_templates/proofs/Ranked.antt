-- The derived order of the code's edges is that of edges.
use Rattle.std.proofs.Common.{◌≡◌, List, [], ◌∷◌, refl, ap, ◌∙◌, arith}
use Rattle.std.specs.Prelude.{ℤ, neg_ℤ, map}
use Rattle.std.specs.Cmp.Lexicographic.{slice_cmp}
use Rattle.std.specs.Ordering.{int_cmp, ordering_then}
use Rattle.std.proofs.lemmas.Int.{ints}
use Rattle.ma_geom.specs.Coordinates.{Coordinates, place_cmp}
use Rattle.ma_cells.specs.Ascending.{put}
use Rattle.split_templates.specs.Edges.{edge_cmp, edge_len2}
use Rattle.split_templates.specs.declared.edges.Edge.{Edge}
use Rattle.split_templates.specs.steps.Ranks.{ranked}
use Rattle.split_templates.specs.contracts.edges.EdgeOrd.TheImpl as EdgeOrder
use Rattle.split_templates.proofs.Sets.{map-put}

turned : (a b : ℤ) → int_cmp (neg_ℤ a) (neg_ℤ b) ≡ int_cmp b a
turned a b = grind (arith, ints)

pub ranked_cmp : (e f : List Coordinates) → EdgeOrder.ghosts.cmp (ranked e) (ranked f) ≡ edge_cmp e f
ranked_cmp e f = ap (λ o. ordering_then o (slice_cmp place_cmp e f)) (turned (edge_len2 e) (edge_len2 f))

pub put-ranked : (e : List Coordinates) (es : List (List Coordinates)) → put EdgeOrder.ghosts.cmp (ranked e) (map ranked es) ≡ map ranked (put edge_cmp e es)
put-ranked e es = map-put edge_cmp EdgeOrder.ghosts.cmp ranked ranked_cmp e es

pub ends-ranked : (es : List (List Coordinates)) → map (λ edge. edge.ends) (map ranked es) ≡ es
ends-ranked [] = refl
ends-ranked (e ∷ es) = ap (λ rest. e ∷ rest) (ends-ranked es)

-- the ends of edges that were put in order
pub ends_in_order : (edges sorted : List Edge) (es : List (List Coordinates)) → edges ≡ sorted → sorted ≡ map ranked es → map (λ edge. edge.ends) edges ≡ es
ends_in_order edges sorted es first second = ap (map (λ (edge : Edge). edge.ends)) (first ∙ second) ∙ ends-ranked es
