-- What writing the pages asks, from the set-up of a sheet that is not refused. Assumes nothing.
use mathlib.Core.Path.{◌≡◌, sym}
use mathlib.Core.List.{List}
use Prim.Native.Nat.{ℕ}
use Rattle.tableau.specs.Families.{Ready}
use Rattle.start.specs.Starts.{Based, in_base}
use Rattle.tableau.proofs.TableauLaws.{rounds-of, start-types, surviving-types}
use Rattle.limits.specs.declared.Limits.{Limits}
use Rattle.limits.specs.Limits.{refusal_under}
use Rattle.frame.specs.SetUp.{Accepts, globals_in, lean_in, members_in, names_in, values_in}
use Rattle.frame.specs.declared.Setup.{Setup}
use Rattle.frame.specs.Sheets.{SheetOf}
use Rattle.tableau.specs.declared.words.Sheet.{Sheet}
use Rattle.fitted.proofs.AcceptedLaws.{by-parts, ready-of}
use Rattle.frame.proofs.Stores.{enough-words}
use Rattle.frame.proofs.VerdictLaws.{framed-verdict}
use Rattle.fitted.specs.Accepted.{verdict_in}
use Rattle.pages.specs.Pages.{row_at}
use Rattle.report.specs.Prints.{Prints}
use Rattle.report.specs.Text.{naming_of}

module _ {s : List ℕ} {u : Setup} (accepted : Accepts s u) where
  module _ (newline : List ℕ) {tw cw ns base : List ℕ} (f : Ready (members_in u) (lean_in u) u.words tw cw ns × Based u.words (in_base (members_in u) (lean_in u) (globals_in u) (values_in u)) (names_in u) base) where
    -- a naming's line from its table is the sheet's
    line-is : (r : ℕ) → row_at (members_in u) (lean_in u) u.words base (names_in u) newline r ≡ naming_of s newline r
    unfolding row_at naming_of
    line-is r =
        let m = accepted.framed.matches in
        let t = enough-words accepted.framed in
        let a = start-types m u.words base f.1 t r in
        let b = surviving-types m u.words base f.1 t r in
        let c = rounds-of m u.words base f.1 t r in
        cc

    pub prints : {L : Limits} → refusal_under L s ≡ 0 → Prints L s newline (members_in u) (lean_in u) u.words base (names_in u) u.goal u.namings
    unfolding verdict_in
    prints z =
        let a = accepted.framed in
        record {
          accepted = z;
          line-is = line-is;
          namings-are = a.namings-are;
          few-namings = a.few-namings;
          verdict-is = λ j. framed-verdict a base f.1 j;
        }

module _ {s : List ℕ} {u : Setup} (accepted : Accepts s u) {t : Sheet} (f : SheetOf u t) where
  pub prints-of : (newline : List ℕ) {L : Limits} → refusal_under L s ≡ 0 → Prints L s newline t.ms.now t.ln.now t.words.w t.base.now t.names.now u.goal u.namings
  prints-of newline {L} z =
      by-parts (λ ms ln names w. Prints L s newline ms ln w t.base.now names u.goal u.namings) (sym f.members-are) (sym f.lean-is) (sym f.names-are) (sym f.width-is)
      (prints accepted newline (ready-of accepted f) z)
