-- What setting up a sheet gives: its refusal, or a frame with all that is read off the sheet. Assumes nothing.
use Rattle.std.specs.Prelude.{◌≡◌, List, ℕ, ◌≤◌, length, take, Result, Ok, Err}
use Rattle.ctl.specs.Positive.{positive}
use Rattle.sheet.specs.Reading.{formulas, goal_of}
use Rattle.refusal.specs.declared.Refusal.{Refusal}
use Rattle.refusal.specs.Number.{number_of}
use Rattle.limits.specs.declared.Limits.{Limits}
use Rattle.limits.specs.Limits.{refusal_under}
use Rattle.prepare.specs.Prepared.{tableau_in}
use Rattle.frame.specs.Framed.{Framed}
use Rattle.frame.specs.declared.Frame.{Frame}
use Rattle.frame.specs.declared.Setup.{Setup}

-- the parts of a set-up
abbrev pub members_in : Setup → List ℕ
members_in r = take r.count r.members

abbrev pub lean_in : Setup → List ℕ
lean_in r = take r.width r.lean

abbrev pub globals_in : Setup → List ℕ
globals_in r = take r.globals r.everywhere

abbrev pub names_in : Setup → List ℕ
names_in r = take r.names r.named

abbrev pub values_in : Setup → List ℕ
values_in r = take r.values r.valued

abbrev pub frame_in : Setup → Frame
frame_in r = record { words = r.words; globals = r.globals; names = r.names; values = r.values; goal = r.goal; namings = r.namings }

-- that of a sheet which is not refused
pub record Accepts (s : List ℕ) (r : Setup) : Type 0 where
  pub framed : Framed (tableau_in s) (positive (goal_of (formulas s))) (members_in r) (lean_in r) (globals_in r) (names_in r) (values_in r) (frame_in r)
  pub members-within : r.count ≤ length r.members
  pub lean-within : r.width ≤ length r.lean
  pub globals-within : r.globals ≤ length r.everywhere
  pub names-within : r.names ≤ length r.named
  pub values-within : r.values ≤ length r.valued

-- that of any sheet under any limits
abbrev pub SetUp : Limits → List ℕ → Result Setup Refusal → Type 0
SetUp l s (Ok u) = (refusal_under l s ≡ 0) × Accepts s u
SetUp l s (Err e) = refusal_under l s ≡ number_of e
