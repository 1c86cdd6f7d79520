-- What the numbers say: 0 exactly for a recording that is well formed, else 1 to 11 and a place that is not past the recording's end; and
-- room of a recording's length is enough for its normal form.
-- Assumes nothing.
use mathlib.Core.Path.{◌≡◌, refl, sym, ap, subst, ◌∙◌}
use mathlib.Core.List.{List, []}
use Prim.Native.Nat.{ℕ, ◌≤◌}
use native.Mathlib.Omega.{arith}
use lib.ListN.{length}
use Rattle.format.specs.Bytes.{Bytes, Result, found, refused}
use Rattle.dem.specs.Scene.{Scene, fresh}
use Rattle.dem.specs.WellFormed.{WellFormed}
use Rattle.dem.specs.Recording.{Recording, read_recording, fill_recording, scene_after, reading_of, reading, normal_form}
use Rattle.format.specs.Answer.{Reply, reply, result}
use Rattle.dem.specs.Answer.{Summary, whole, whole_normal}
use Rattle.format.proofs.ResultLaws.{clash}
use Rattle.dem.proofs.RefusalLaws.{reading_maximum}
use Rattle.dem.proofs.RecordingLaws.{accepted_exactly, refusal_range, normal_form_lem}
use Rattle.format.proofs.AnswerLaws.{room_enough}
use Rattle.dem.proofs.AnswerLaws.{whole_accepted, whole-refused, normal_accepted, normal-refused}
use Rattle.exports.specs.Numbers.{Checked, checked_by, Rewritten, rewritten_by}

-- What the numbers of a check say of the recording s.
pub record Meaning (s : List ℕ) (c : Checked) : Type 0 where
  pub accepted : WellFormed s → c.refusal ≡ 0
  pub well_formed : c.refusal ≡ 0 → WellFormed s
  pub most : c.refusal ≤ reading_maximum
  pub within : c.place ≤ length s

-- The refusal and its place are those of the check.
abbrev pub SameRefusal : Rewritten → Checked → Type 0
SameRefusal w c = (w.refusal ≡ c.refusal) × (w.place ≡ c.place)

same : {w x : Rewritten} {c d : Checked} → w ≡ x → c ≡ d → SameRefusal x d → SameRefusal w c
same p q h = (
  ap (λ (y : Rewritten). y.refusal) p ∙ h.0 ∙ sym (ap (λ (y : Checked). y.refusal) q),
  ap (λ (y : Rewritten). y.place) p ∙ h.1 ∙ sym (ap (λ (y : Checked). y.place) q),
)

abbrev numbers_of : Reply Scene Summary → Checked
numbers_of r = checked_by r.answer

module _ (s : List ℕ) (bytes : Bytes s) where
  pub check_meaning : Meaning s (checked_by (whole s).answer)
  unfolding reading
  check_meaning = go (read_recording s) refl
    where
      go : (q : Result Recording) → read_recording s ≡ q → Meaning s (checked_by (whole s).answer)
      go (found v rest) e =
          let f : reading s ≡ reading_of (found v rest) = ap reading_of e in
          subst (Meaning s) (sym (ap numbers_of (whole_accepted s (fill_recording v) f)))
          (record {
            accepted = λ w. refl;
            well_formed = λ z. (accepted_exactly s bytes).exactly.0 (fill_recording v, f);
            most = omega arith;
            within = omega arith;
          })
      go (refused n left) e =
          let g = refusal_range s n left bytes e in
          subst (Meaning s) (sym (ap numbers_of (whole-refused s n left e)))
          (record {
            accepted = λ w. let x : ◌≡◌ {A = Result Recording} (refused n left) (found w.recording []) = sym e ∙ (accepted_exactly s bytes).sent w in clash (cc);
            well_formed = λ z. clash (omega (arith, z, g.least));
            most = g.most;
            within = g.place;
          })

  -- Room of the recording's length is never too short.
  pub length_enough : (room : List ℕ) → length s ≤ length room → SameRefusal (rewritten_by (whole_normal s room)) (checked_by (whole s).answer)
  unfolding reading
  length_enough room h = go (read_recording s) refl
    where
      go : (q : Result Recording) → read_recording s ≡ q → SameRefusal (rewritten_by (whole_normal s room)) (checked_by (whole s).answer)
      go (found v rest) e =
          let R = fill_recording v in
          let f : reading s ≡ reading_of (found v rest) = ap reading_of e in
          let short : length (normal_form s) ≤ length s = (normal_form_lem s R bytes f).least s bytes f in
          same
          (ap rewritten_by
          (normal_accepted s R room f
          ∙ room_enough fresh (reply (scene_after R) (result (length (normal_form s)))) (normal_form s) room (omega (arith, short, h))))
          (ap numbers_of (whole_accepted s R f)) (refl, refl)
      go (refused n left) e = same (ap rewritten_by (normal-refused s n left room e)) (ap numbers_of (whole-refused s n left e)) (refl, refl)
