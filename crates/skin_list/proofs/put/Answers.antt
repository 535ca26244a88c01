use Rattle.std.proofs.Common.{◌*◌, ◌∙◌}
use Rattle.skin_list.specs.Listing.{triangle_put}
use Rattle.skin_list.proofs.put.Goals as goal

pub returns : goal.returns
returns c =
    c.put_ids.ensures
    ∙ triangle_put _ _ _ c.requires.1 c.args.turned _ (3 * c.args.n) c.choose.ensures c.choose-2.ensures c.triangle_id-a.ensures
    c.triangle_id-b.ensures c.triangle_id-c.ensures
