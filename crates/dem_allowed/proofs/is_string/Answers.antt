-- `dem_allowed::is_string` meets its contract: of the tests of a string's bytes, code leaves out that each is a byte.
use mathlib.Core.Path.{◌∙◌}
use borrow.Author.Rules.{rules}
use borrow.Author.Tests.{tests, le-ltb}
use lib.ListN.{length}
use Rattle.format.specs.Limits.{string_limit}
use Rattle.std.proofs.lemmas.Iterator.{YieldsList-from_slice}
use Rattle.std.proofs.lemmas.Iterator.Search.{all_from_yields_List}
use Rattle.format.proofs.ByteLaws.{bytes_of}
use Rattle.dem_allowed.proofs.StringTests.{is_plain, string-short, string-long}
use Rattle.dem_allowed.proofs.is_string.Goals as goal

pub returns-then-bytes-lt-STRING_LIMIT : goal.returns-then-bytes-lt-STRING_LIMIT
returns-then-bytes-lt-STRING_LIMIT c =
    let s = c.args.bytes.now in
    all_from_yields_List is_plain _ _ _ c.all.ensures.ran (YieldsList-from_slice s cc) (λ x b q k. search (rules, tests))
    ∙ string-short string_limit s c.if-bytes-lt-STRING_LIMIT.true (bytes_of s (λ i. (c.type_inv.bytes i).fits))

pub returns-else-bytes-lt-STRING_LIMIT : goal.returns-else-bytes-lt-STRING_LIMIT
returns-else-bytes-lt-STRING_LIMIT c =
    let s = c.args.bytes.now in
    le-ltb (length s) string_limit c.if-bytes-lt-STRING_LIMIT.false ∙ string-long string_limit s c.if-bytes-lt-STRING_LIMIT.false
