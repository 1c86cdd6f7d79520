-- Bytes put into room.
use Rattle.std.specs.Prelude.{◌≡◌, List, ◌++◌, Bool, true, false, ℕ, ◌+◌, length, take}

-- Bytes put into room from a place on: what is in front of the place behind them. What is further behind may have changed.
abbrev pub Put : List ℕ → List ℕ → ℕ → ℕ → List ℕ → Type 0
Put before after at to bytes = (take to after ≡ take at before ++ bytes) × (length after ≡ length before) × (to ≡ at + length bytes)

-- Put anew behind these bytes, the input being kept from the place `to` on; or nothing was done.
abbrev pub Behind : Bool → List ℕ → List ℕ → ℕ → ℕ → ℕ → ℕ → ℕ → List ℕ → Type 0
Behind true before after size kept size' kept' to bytes = Put before after size size' bytes × (kept' ≡ to)
Behind false before after size kept size' kept' to bytes = (after ≡ before) × (size' ≡ size) × (kept' ≡ kept)
