-- `dem_allowed::pose_fits` meets its contract: each field is tested as its slot says.
use borrow.Author.Rules.{rules}
use mir.Syntax.{w8, w16}
use Rattle.dem_allowed.specs.Tests.{pose_test}
use Rattle.dem_allowed.proofs.MaskTests.{signed_fits, both}
use Rattle.dem_allowed.proofs.pose_fits.Goals as goal

pub returns : goal.returns
unfolding pose_test
returns c =
    let p = c.args.p in
    both (both (both (both (both (signed_fits w16 _ p.x (search rules) c.field_fits.ensures)
    (signed_fits w8 _ p.angle0 (search rules) c.field_fits-2.ensures))
    (signed_fits w16 _ p.y (search rules) c.field_fits-3.ensures))
    (signed_fits w8 _ p.angle1 (search rules) c.field_fits-4.ensures))
    (signed_fits w16 _ p.z (search rules) c.field_fits-5.ensures))
    (signed_fits w8 _ p.angle2 (search rules) c.field_fits-6.ensures)
