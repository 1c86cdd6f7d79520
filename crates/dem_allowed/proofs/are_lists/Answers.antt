-- `dem_allowed::are_lists` meets its contract: the lists are there exactly if they are found and reach the end.
use Rattle.dem.specs.Limits.{name_limit}
use Rattle.format.proofs.ByteLaws.{bytes_of}
use Rattle.dem_allowed.proofs.NameTests.{lists-found, lists-refused}
use Rattle.dem_allowed.proofs.are_lists.Goals as goal

pub returns-in-Ok : goal.returns-in-Ok
returns-in-Ok c =
    let s = c.args.bytes.now in
    lists-found name_limit s (bytes_of s (λ i. (c.type_inv.bytes i).fits)) _ c.in-Ok.next c.in-Ok.ensures.value

pub returns-in-Err : goal.returns-in-Err
returns-in-Err c = lists-refused name_limit c.args.bytes.now _ _ c.in-Err.ensures.value
