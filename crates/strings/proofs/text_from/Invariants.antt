use Rattle.format.specs.Limits.{string_limit}
use Rattle.strings.specs.Scans.{Scanned}
use Rattle.strings.proofs.text_from.Given as goal

abbrev pub invariant-loop-len : goal.invariant-loop-len
invariant-loop-len l = Scanned l.s string_limit l.start l.len
