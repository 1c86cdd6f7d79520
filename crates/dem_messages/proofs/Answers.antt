-- What an entry answers is read back from what the definitions see of it, and what code can hold of it. A message's answer is in `FoundBack`.
-- Assumes nothing.
use mathlib.Core.Path.{◌≡◌, refl, ap}
use Prim.Native.Nat.{ℕ}
use denote.RattleType.{RattleType}
use Rattle.std.specs.Prelude.{Option, None, Some, Result, Ok, Err}
use Rattle.std.specs.contracts.option.Option as OptionType
use Rattle.std.specs.contracts.result.Result as ResultType
use Rattle.format.specs.Answer.{Answer, result, at_end, refusal, Normalised}
use Rattle.format.specs.declared.refusal.Refused.{Refused}
use Rattle.format.specs.contracts.refusal.Refused as RefusedType
use Rattle.format.proofs.RefusalsBack.{refused_from, refused_back}
use Rattle.wire.proofs.FieldLaws.{Held}
use Rattle.dem_messages.specs.Replies.{answer_by, item_by, count_of, normalised_of, normal_answer_of}
use Rattle.dem_messages.specs.declared.Normal.{Normal}

-- ---- an answer whose result is read back

-- No entry of these answers "end".
abbrev pub answer_from : {A B : Type 0} → (B → A) → Answer B → Result A Refused
answer_from g (result b) = Ok (g b)
answer_from g at_end = Err (refused_from 0 0)
answer_from g (refusal n p) = Err (refused_from n p)

abbrev pub item_from : {A B : Type 0} → (B → A) → Answer B → Result (Option A) Refused
item_from g (result b) = Ok (Some (g b))
item_from g at_end = Ok None
item_from g (refusal n p) = Err (refused_from n p)

module _ {A B : Type 0} (f : A → B) (g : B → A) (undone : (a : A) → g (f a) ≡ a) where
  pub answer_back : (a : Result A Refused) → answer_from g (answer_by f a) ≡ a
  answer_back (Ok a) = ap Ok (undone a)
  answer_back (Err r) = ap Err (refused_back r)

  pub item_back : (a : Result (Option A) Refused) → item_from g (item_by f a) ≡ a
  item_back (Ok (Some a)) = ap (λ (x : A). Ok (Some x)) (undone a)
  item_back (Ok None) = refl
  item_back (Err r) = ap Err (refused_back r)

-- ---- those that write

abbrev pub count_from : Answer ℕ → Result ℕ Refused
count_from = answer_from (λ (n : ℕ). n)

pub count_back : (a : Result ℕ Refused) → count_from (count_of a) ≡ a
count_back = answer_back (λ (n : ℕ). n) (λ n. n) (λ n. refl)

abbrev pub normal_of : Normalised → Normal
normal_of z = record { length = z.length; next = z.next }

abbrev pub normal_from : Answer Normalised → Result (Option Normal) Refused
normal_from = item_from normal_of

pub normal_back : (a : Result (Option Normal) Refused) → normal_from (normal_answer_of a) ≡ a
normal_back = item_back normalised_of normal_of (λ n. refl)

-- ---- what code holds

module _ (R : RattleType) (x : R.Denot) where
  pub held_ok : Held (ResultType.the_row R RefusedType.the_row) (Ok x) → Held R x
  held_ok h = (_, h.1.1.1.1.1.0)

  pub held_some : Held (OptionType.the_row R) (Some x) → Held R x
  held_some h = (_, h.1.1.1.1.1.0)
