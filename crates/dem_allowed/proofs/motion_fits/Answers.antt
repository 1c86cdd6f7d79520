-- `dem_allowed::motion_fits` meets its contract: each field is tested as its slot says.
use borrow.Author.Rules.{rules}
use mir.Syntax.{w8}
use Rattle.dem_allowed.specs.Tests.{motion_test}
use Rattle.dem_allowed.proofs.MaskTests.{signed_fits, both}
use Rattle.dem_allowed.proofs.motion_fits.Goals as goal

pub returns : goal.returns
unfolding motion_test
returns c =
    let m = c.args.m in
    both (both (both (both (both (both (both (signed_fits w8 _ m.view_height (search rules) c.field_fits.ensures)
    (signed_fits w8 _ m.pitch (search rules) c.field_fits-2.ensures))
    (signed_fits w8 _ m.punch0 (search rules) c.field_fits-3.ensures))
    (signed_fits w8 _ m.velocity0 (search rules) c.field_fits-4.ensures))
    (signed_fits w8 _ m.punch1 (search rules) c.field_fits-5.ensures))
    (signed_fits w8 _ m.velocity1 (search rules) c.field_fits-6.ensures))
    (signed_fits w8 _ m.punch2 (search rules) c.field_fits-7.ensures))
    (signed_fits w8 _ m.velocity2 (search rules) c.field_fits-8.ensures)
