-- The cavities of two winners share no tetrahedron, and votes decide.
use Rattle.std.proofs.Common.{◌≡◌, Bool, true, false, not, ◌&&◌, ◌||◌, List, [], ◌∷◌, refl, sym, ap, ◌∙◌}
use Rattle.std.specs.List.{flat_map, list_all}
use Rattle.std.specs.declared.cmp.Ordering.TheVariants.{Less, Equal, Greater}
use Rattle.std.specs.Cmp.{both_ways}
use Rattle.std.specs.Ordering.{is_lt, ordering_reverse}
use Rattle.std.proofs.lemmas.Bool.{false≢true, and_parts}
use Rattle.std.proofs.lemmas.List.Folds.{list_all-append}
use Rattle.ma_cells.specs.Ascending.{has}
use Rattle.ma_cells.specs.Tetrahedron.{Tetrahedron, tet_cmp}
use Rattle.ma_cells.proofs.CellOrders.{tet_cmp-IsAntisymmetric, tet_cmp_total}
use Rattle.cavity_rank.specs.Operations.{Operation, rank}
use Rattle.pass_rules.specs.Choosing.{is_in, is_first_on, wins, KnowsItsOwn, PartsDecide, Voter, WinnersAreApart, winners}
use Rattle.ma_cells.proofs.Members.{all_alike, all_members, at_member, has-filter}
use Rattle.cavity_rank.proofs.Ranked.{rank_total, rank-IsAntisymmetric}

passed : (a b : Bool) → (not a || b) ≡ true → a ≡ true → b ≡ true
passed true b h e = h
passed false b h e = absurd (false≢true e)

not_before : (a b : Bool) → not (a && b) ≡ true → a ≡ true → b ≡ false
not_before true true h e = absurd (false≢true h)
not_before true false h e = refl
not_before false b h e = absurd (false≢true e)

-- a winner is first on each tetrahedron of its cavity
first_there : (ops : List Operation) (tets : List Tetrahedron) (o : Operation) (tet : Tetrahedron) → wins ops tets o ≡ true → has tet_cmp tet tets ≡ true → is_in o tet ≡ true → is_first_on ops o tet ≡ true
first_there ops tets o tet w there inside =
    passed (is_in o tet) _ (at_member tet_cmp-IsAntisymmetric (λ t. not (is_in o t) || is_first_on ops o t) tet tets w there) inside

neither_before : (o p : Operation) → is_lt (rank o p) ≡ false → is_lt (rank p o) ≡ false → o ≡ p
neither_before o p first second =
    elim (rank o p) as (λ r. rank o p ≡ r → is_lt r ≡ false → o ≡ p) [
      | Less ↦ λ _ k. absurd (false≢true (sym k))
      | Equal ↦ λ e _. rank-IsAntisymmetric o p e
      | Greater ↦ λ e _. absurd (false≢true (sym second ∙ ap is_lt (rank_total.antisymm p o ∙ ap ordering_reverse e)))
    ] refl first

pub winners_are_apart : WinnersAreApart
winners_are_apart ops tets o p tet o_won p_won there in_o in_p =
    let o_is = won ops tets o o_won in
    let p_is = won ops tets p p_won in
    let o_first = first_there ops tets o tet o_is.1 there in_o in
    let p_first = first_there ops tets p tet p_is.1 there in_p in
    neither_before o p
    (not_before (is_in o tet) _ (at_member rank-IsAntisymmetric (λ other. not (is_in other tet && is_lt (rank other p))) o ops p_first o_is.0) in_o)
    (not_before (is_in p tet) _ (at_member rank-IsAntisymmetric (λ other. not (is_in other tet && is_lt (rank other o))) p ops o_first p_is.0) in_p)
  where
    won : (ops : List Operation) (tets : List Tetrahedron) (q : Operation) → has rank q (winners ops tets) ≡ true → (has rank q ops ≡ true) × (wins ops tets q ≡ true)
    won ops tets q there = and_parts (has rank q ops) (wins ops tets q) (sym (has-filter rank-IsAntisymmetric (wins ops tets) q ops) ∙ there)

outside : (a b : Bool) → a ≡ false → not (a && b) ≡ true
outside true b e = absurd (false≢true (sym e))
outside false b e = refl

-- who is first on a tetrahedron depends on the operations on it alone
first_from : (ops known : List Operation) (op : Operation) (tet : Tetrahedron) → ((other : Operation) → is_in other tet ≡ true → has rank other known ≡ has rank other ops)
    → is_first_on known op tet ≡ true → is_first_on ops op tet ≡ true
first_from ops known op tet same first =
    all_members rank_total _ ops (λ other m.
    elim (is_in other tet) as (λ b. is_in other tet ≡ b → not (b && is_lt (rank other op)) ≡ true) [
      | true ↦ λ e. ap (λ b. not (b && is_lt (rank other op))) (sym e) ∙ at_member rank-IsAntisymmetric (λ o. not (is_in o tet && is_lt (rank o op))) other known first (same other e ∙ m)
      | false ↦ λ _. refl
    ] refl)

pub first_alike : (ops known : List Operation) (op : Operation) (tet : Tetrahedron) → ((other : Operation) → is_in other tet ≡ true → has rank other known ≡ has rank other ops)
    → is_first_on known op tet ≡ is_first_on ops op tet
first_alike ops known op tet same =
    both_ways _ _ (first_from ops known op tet same) (first_from known ops op tet (λ other e. sym (same other e)))

-- and so what a part says
votes_alike : (ops : List Operation) (voter : Voter) (op : Operation) → KnowsItsOwn ops voter → wins voter.known voter.own op ≡ wins ops voter.own op
votes_alike ops voter op same =
    all_alike tet_cmp_total _ _ voter.own (λ tet m. ap (λ b. not (is_in op tet) || b) (first_alike ops voter.known op tet (λ other e. same other tet m e)))

pub parts_decide : PartsDecide
parts_decide ops [] op h = refl
parts_decide ops (voter ∷ voters) op h =
    ap (λ b. b && list_all (λ v. wins v.known v.own op) voters) (votes_alike ops voter op h.0)
    ∙ ap (λ b. wins ops voter.own op && b) (parts_decide ops voters op h.1)
    ∙ sym (list_all-append (λ tet. not (is_in op tet) || is_first_on ops op tet) voter.own (flat_map (λ v. v.own) voters))
