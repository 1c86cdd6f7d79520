-- The normal form of a message that is neither a sound nor clientdata nor an update.
-- Assumes nothing.
use mathlib.Core.Path.{◌≡◌, sym, ap, ◌∙◌}
use mathlib.Core.Logic.{◌≢◌}
use mathlib.Core.List.{List}
use Prim.Native.Nat.{ℕ}
use Rattle.format.specs.Codec.{normal_bytes}
use Rattle.dem.specs.Scene.{Scene}
use Rattle.dem.specs.Message.{normal as normal_message}
use Rattle.dem.specs.Recording.{write_message, messages}
use Rattle.dem.proofs.MessageLaws.{normal_plain}
use Rattle.wire.specs.declared.Text.{Text}
use Rattle.dem_types.specs.declared.Message.{Message as Sent}
use Rattle.dem_types.specs.Values.{values_by}
use Rattle.dem_types.proofs.ByNumber.{place_of, update_place, by_number}

-- A message without a mask is its own normal form.
pub plain_form : (t : Scene) (f : Text → List ℕ) (m : Sent) → place_of m ≢ 5 → place_of m ≢ 14 → place_of m ≢ update_place
    → normal_bytes messages normal_message t (values_by f m) ≡ write_message t (values_by f m)
plain_form t f m sound client update =
    let k = by_number f m update in
    ap (normal_bytes messages normal_message t) k.is
    ∙ ap (write_message t) (normal_plain t k.n k.us k.low (k.other 5 sound) (k.other 14 client) ∙ sym k.is)
