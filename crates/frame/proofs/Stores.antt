-- What the words of an accepted sheet are, and what they ask of the stores that are lent to them. Assumes nothing.
use mathlib.Core.Path.{◌≡◌, sym, subst}
use mathlib.Core.List.{List}
use Prim.Native.Nat.{ℕ, ◌+◌, ◌*◌, ◌^◌, ◌≤◌}
use native.Mathlib.Nat.{mul-le-mul}
use native.Mathlib.Omega.{arith}
use lib.ListN.{length}
use lib.Seq.{length-take-le}
use Rattle.ctl.specs.Formula.{Form}
use Rattle.ctl.specs.Tableau.{Tableau}
use Rattle.tableau.specs.Families.{Ready}
use Rattle.conditions.specs.Conditions.{Conditions}
use Rattle.needs.specs.Needs.{Fields, Listed}
use Rattle.start.specs.Starts.{Named}
use Rattle.truth.specs.Truths.{Truths}
use Rattle.prepare.proofs.WidthLaws.{words-enough, words-few}
use Rattle.frame.specs.Framed.{Sizes, Framed, Sound, Stores}
use Rattle.frame.specs.declared.Frame.{Frame}
use Rattle.frame.specs.SetUp.{Accepts, globals_in, lean_in, members_in, names_in, values_in}
use Rattle.frame.specs.declared.Setup.{Setup}

-- sizes for so many members over so many words are enough for fewer
pub sized : (most wide : ℕ) {n w tw cw ns base : ℕ} → n ≤ most → w ≤ wide → tw ≡ (most + 9) * wide → cw ≡ wide * 64 + 16 → ns ≡ most + 8 → base ≡ wide + wide → Sizes n w tw cw ns base
sized most wide {n} {w} h k a b c d =
    let p : (n + 9) * w ≤ (most + 9) * wide = mul-le-mul (let q : n + 9 ≤ most + 9 = omega arith in q) k in
    record { blocks = omega arith; entries = omega arith; needs = omega arith; families = omega arith }

-- what the elimination goes by
pub ready_by : {ms ln globals values tw cw ns : List ℕ} {w : ℕ} → Sound ms ln globals values → w ≤ 64 → Truths ms ln w tw → Fields ms ln w tw → Conditions ms ln w cw → Listed ms ns → Ready ms ln w tw cw ns
ready_by s h t f c n = record { table = s.table; few = (let m = s.few in omega arith); small = omega arith; truths = t; fields = f; links = c; listed = n }

-- there are enough words for the types, and few
module _ {S : Tableau} {goal : Form} {ms ln globals names values : List ℕ} {f : Frame} (x : Framed S goal ms ln globals names values f) where
  pub enough-words : 2 ^ length ln ≤ f.words * 64
  enough-words = subst (λ w. 2 ^ length ln ≤ w * 64) (sym x.words_are) (words-enough (length ln))

  pub few_words : f.words ≤ 64
  few_words = subst (λ w. w ≤ 64) (sym x.words_are) (words-few (length ln) x.sound.narrow)

module _ {s : List ℕ} {u : Setup} (a : Accepts s u) where
  count-is : length (members_in u) ≡ u.count
  count-is = length-take-le u.count u.members a.members-within

  pub fill-asks : {tw cw ns base : List ℕ} → Stores u.count u.words tw cw ns base
      → (Sound (members_in u) (lean_in u) (globals_in u) (values_in u) × Named (names_in u) (length (lean_in u))) × ((u.words ≤ 64) × Stores (length (members_in u)) u.words tw cw ns base)
  fill-asks {tw} {cw} {ns} {base} r = ((a.framed.sound, a.framed.named), (few_words a.framed, subst (λ n. Stores n u.words tw cw ns base) (sym count-is) r))
