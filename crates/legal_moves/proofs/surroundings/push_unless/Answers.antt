use Rattle.std.proofs.Common.{◌||◌, ap, sym, ◌∙◌}
use Rattle.ma_geom.specs.Coordinates.{place_cmp}
use Rattle.ma_cells.specs.Ascending.{has}
use Rattle.legal_moves.proofs.Joined.{not_pushed, pushed}
use Rattle.legal_moves.proofs.surroundings.push_unless.Goals as goal

pub returns-then-is_known : goal.returns-then-is_known
returns-then-is_known c =
    not_pushed c.args.at.now c.args.place c.args.places.now.items
    (ap (λ l. has place_cmp c.args.place c.args.at.now || has place_cmp c.args.place l) (sym c.as_slice.ensures.value) ∙ c.is_known.ensures.known c.if-is_known.true)

pub returns : goal.returns
returns c =
    pushed c.args.at.now c.args.place c.args.places.now.items c.push.new.self.items c.is_known.result c.is_known.ensures.other c.if-is_known.false c.in_ok-push.ensures.items
