use Rattle.std.proofs.Common.{◌≡◌, ◌∙◌, Some, ap, length, refl, sym}
use Rattle.std.specs.Option.{option_map}
use Rattle.std.proofs.lemmas.Option.{slice_get_read}
use Rattle.std.proofs.lemmas.Result.{IfOk-weaker}
use Rattle.ma_cells.specs.declared.view.View.{View}
use Rattle.part_core.specs.Parts.{PartState}
use Rattle.part_store.specs.Stores.{view_in}
use Rattle.world_run.specs.Views.{seen_at}
use Rattle.world_run.proofs.world.World.view.Goals as goal

pub returns : goal.returns
returns c =
    let parts = c.args.self.now.parts in
    let part : PartState = c.part.result.now in
    let there = slice_get_read parts (length parts) c.args.number part refl c.requires c.part.ensures in
    let seen : seen_at parts c.args.number ≡ Some (view_in c.store.result.now) = ap (option_map (λ (p : PartState). view_in p.standing.holds)) there ∙ ap (λ s. Some (view_in s)) (sym c.store.ensures) in
    IfOk-weaker c.view.result (λ (view : View). view ≡ view_in c.store.result.now) (λ view. seen_at parts c.args.number ≡ Some view) (λ view is. seen ∙ ap Some (sym is)) c.view.ensures
