-- What a sheet's tables are made from, by its set-up. Assumes nothing.
use Rattle.std.specs.Prelude.{◌≡◌, ◌+◌, ◌≤◌, length}
use Rattle.start.specs.Starts.{Based, in_base}
use Rattle.tableau.specs.declared.words.Sheet.{Sheet}
use Rattle.tableau.specs.Sheets.{Prepared}
use Rattle.frame.specs.SetUp.{globals_in, lean_in, members_in, names_in, values_in}
use Rattle.frame.specs.declared.Setup.{Setup}

pub record SheetOf (u : Setup) (s : Sheet) : Type 0 where
  pub members-are : s.ms.now ≡ members_in u
  pub lean-is : s.ln.now ≡ lean_in u
  pub names-are : s.names.now ≡ names_in u
  pub width-is : s.words.w ≡ u.words
  pub prepared : Prepared s
  pub based : Based u.words (in_base (members_in u) (lean_in u) (globals_in u) (values_in u)) (names_in u) s.base.now
  pub base-room : u.words + u.words ≤ length s.base.now
