-- The limits that a caller gives, and what a sheet comes to under them. Assumes nothing.
use Rattle.std.specs.Prelude.{◌≡◌, Bool, false, ◌||◌, cond, List, ℕ, ◌≤◌, ltb, Result, Ok, Err}
use Rattle.reader.specs.declared.Reading.{Reading}
use Rattle.reader.specs.Reader.{Says, refusal_within}
use Rattle.refusal.specs.declared.Refusal.{Refusal}
use Rattle.refusal.specs.Number.{number_of}
use Rattle.limits.specs.declared.Limits.{Limits}

-- document 01's: a lean of at most 8 places, a closure of at most 64 members. They hold where the caller gives none
abbrev pub usual : Limits
usual = record { lean = 8; closure = 64 }

-- 19, limits: the lean's is not 1 to 12, or the closure's is not 16 to 128
unfoldable pub limits_wrong : Limits → Bool
limits_wrong l = ltb l.lean 1 || (ltb 12 l.lean || (ltb l.closure 16 || ltb 128 l.closure))

-- the first that applies of 19 and then 1 to 10
unfoldable pub refusal_under : Limits → List ℕ → ℕ
unfolding limits_wrong
refusal_under l s = cond (limits_wrong l) 19 (refusal_within l.closure l.lean s)

-- what reading a sheet answers
abbrev pub ReadUnder : Limits → List ℕ → Result Reading Refusal → Type 0
ReadUnder l s (Ok r) = (refusal_under l s ≡ 0) × Says s r
ReadUnder l s (Err e) = refusal_under l s ≡ number_of e

-- limits m allow at least what limits l do, and are in their range
pub record Wider (l m : Limits) : Type 0 where
  pub lean : l.lean ≤ m.lean
  pub closure : l.closure ≤ m.closure
  pub right : limits_wrong m ≡ false
