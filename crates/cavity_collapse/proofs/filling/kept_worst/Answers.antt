use Rattle.std.proofs.Common.{◌≡◌, ◌^◌, min, ap, ◌∙◌}
use Rattle.ma_cells.specs.Worst.{least, worst}
use Rattle.cavity_collapse.specs.Collapsing.{collapsed}
use Rattle.cavity_collapse.specs.Facing.{are_seen_from, cone_qualities, if_at_least}
use Rattle.cavity_collapse.proofs.Kept.{by_floor, kept_at_once, least_over}
use Rattle.cavity_collapse.proofs.Seen.{seen_by_faces}
use Rattle.cavity_collapse.proofs.filling.kept_worst.Goals as goal

pub worst_over-requires-clause-seen : goal.worst_over-requires-clause-seen
worst_over-requires-clause-seen c = ap (are_seen_from c.args.v) c.requires.faces.0 ∙ seen_by_faces c.args.a c.args.v c.args.star.now ∙ c.requires.seen

pub worst_over-requires-in-None-clause-seen : goal.worst_over-requires-in-None-clause-seen
worst_over-requires-in-None-clause-seen c = ap (are_seen_from c.args.v) c.requires.faces.0 ∙ seen_by_faces c.args.a c.args.v c.args.star.now ∙ c.requires.seen

pub returns-in-Some : goal.returns-in-Some
returns-in-Some c =
    kept_at_once (worst c.args.star.now) (worst (collapsed c.args.a c.args.v c.args.star.now)) c.in-Some.new
    (c.in-Some.ensures ∙ ap (if_at_least (2 ^ 24)) (least_over c.args.a c.args.v c.args.star.now c.args.faces.now c.requires.faces.0))

pub returns-in-None : goal.returns-in-None
returns-in-None c =
    let floor : c.min.result ≡ min (worst c.args.star.now) (2 ^ 24) = c.min.ensures ∙ ap (λ n. min n (2 ^ 24)) c.worst.ensures in
    c.worst_over-in-None.ensures ∙ ap (λ f. if_at_least f (least (cone_qualities c.args.v c.args.faces.now))) floor
    ∙ ap (if_at_least (min (worst c.args.star.now) (2 ^ 24))) (least_over c.args.a c.args.v c.args.star.now c.args.faces.now c.requires.faces.0)
    ∙ by_floor (worst c.args.star.now) (worst (collapsed c.args.a c.args.v c.args.star.now))
