-- With one letter each, the print by spellings is the former print, so the lean and the tableau are the former ones. Assumes nothing.
use mathlib.Core.Path.{◌≡◌, refl, sym, ap, ap₂, subst}
use mathlib.Core.Logic.{inl, inr}
use mathlib.Core.Bool.{Bool}
use mathlib.Core.List.Memᴰ
use mathlib.Core.List.{List, [], ◌∷◌, ◌++◌, map}
use Prim.Native.Nat.{ℕ, ◌-◌, ◌≤◌, ◌<◌}
use native.Mathlib.Omega.{arith}
use borrow.Author.Tests.{le-ltb, lt-ltb}
use Rattle.ctl.specs.Lists.{◌∈◌, keep}
use Rattle.ctl.specs.Sorting.{sort}
use Rattle.ctl.specs.Formula.{Form, tru, fls, lit, nlit, and, or, ex, ax, eu, au, er, ar}
use Rattle.ctl.specs.Raw.{Raw}
use Rattle.ctl.specs.Modes.{modes}
use Rattle.ctl.specs.Positive.{positive}
use Rattle.ctl.specs.Print.{capital, print_mode, print_modes, braces, print}
use Rattle.ctl.specs.Alphabet.{Declared, DeclaredAll, Over, OverRaw}
use Rattle.ctl.specs.Closure.{closure}
use Rattle.ctl.specs.Lean.{print_lt, symbol_lt, is_letter, is_next, with_values, lean}
use Rattle.ctl.specs.Demand3.{sheet_tableau}
use Rattle.ctl.specs.Former.{former_mode, former_modes, former_braces, former_print, former_lt, former_lean, former_tableau}
use Rattle.ctl.proofs.ListLaws.{keep_out, map-out}
use Rattle.ctl.proofs.UsesLaws.{uses-signed}
use Rattle.ctl.proofs.OverLaws.{closure-over}
use Rattle.ctl.proofs.PrintLaws.{forward-is, backward-is}
use Rattle.ctl.proofs.SortLaws.{sort-same}

-- each symbol's spelling is one letter
module _ (spell : ℕ → List ℕ) (letter : ℕ → ℕ) (count : ℕ) (few : count ≤ 8) (one : (k : ℕ) → k < count → spell k ≡ letter k ∷ []) where
  mode-former : (m : ℕ) → Declared count m → print_mode spell m ≡ former_mode letter m ∷ []
  unfolding former_mode capital
  mode-former m (inl h) = let k : m < 8 = omega arith in rw (forward-is spell m k, one m h, lt-ltb m 8 k, former_mode)
  mode-former m (inr h) = let j : m - 8 < count = omega arith in rw (backward-is spell m h.0, one (m - 8) j, le-ltb m 8 h.0, former_mode)

  modes-former : (ms : List ℕ) → ((m : ℕ) → m ∈ ms → Declared count m) → print_modes spell ms ≡ former_modes letter ms
  unfolding print_modes former_modes
  modes-former [] d = refl
  modes-former (m ∷ []) d = mode-former m (d m (Memᴰ.head refl))
  modes-former (m ∷ (k ∷ ms)) d = ap₂ (λ x y. x ++ (44 ∷ y)) (mode-former m (d m (Memᴰ.head refl))) (modes-former (k ∷ ms) (λ a i. d a (Memᴰ.tail i)))

  braces-former : (A : ℕ) → DeclaredAll count A → braces spell A ≡ former_braces letter A
  unfolding braces former_braces
  braces-former A d = ap (λ l. 123 ∷ (l ++ (125 ∷ []))) (modes-former (modes A) d.1)

  -- the print is the former one
  pub print-former : (p : Form) → Over count p → print spell p ≡ former_print letter p
  unfolding print former_print
  print-former tru o = refl
  print-former fls o = refl
  print-former (lit k) o = one k o
  print-former (nlit k) o = cc (one k o)
  print-former (and p q) o = cc (print-former p o.0, print-former q o.1)
  print-former (or p q) o = cc (print-former p o.0, print-former q o.1)
  print-former (ex A p) o = cc (braces-former A o.0, print-former p o.1)
  print-former (ax A p) o = cc (braces-former A o.0, print-former p o.1)
  print-former (eu A p q) o = cc (braces-former A o.0, print-former p o.1, print-former q o.2)
  print-former (au A p q) o = cc (braces-former A o.0, print-former p o.1, print-former q o.2)
  print-former (er A p q) o = cc (braces-former A o.0, print-former p o.1, print-former q o.2)
  print-former (ar A p q) o = cc (braces-former A o.0, print-former p o.1, print-former q o.2)

  order-former : (p q : Form) → Over count p → Over count q → print_lt spell p q ≡ former_lt letter p q
  unfolding print_lt former_lt
  order-former p q op oq = rw (print-former p op, print-former q oq)

  -- so is the lean
  pub lean-former : (cl : List Form) → ((p : Form) → p ∈ cl → Over count p) → lean spell cl ≡ former_lean letter cl
  unfolding lean former_lean
  lean-former cl over =
      ap (λ l. sort symbol_lt (keep is_letter cl) ++ l)
      (sort-same (print_lt spell) (former_lt letter) (keep is_next cl) (λ p q m k. order-former p q (over p (keep_out is_next cl m).0) (over q (keep_out is_next cl k).0)))

  -- and the tableau of a sheet without values, hence all that goes by it: tables, rounds, verdicts
  pub tableau-former : (name : ℕ → Bool) (globals : List Raw) (goal : Raw) → ((p : Raw) → p ∈ globals → OverRaw count p) → OverRaw count goal
      → sheet_tableau spell name [] globals goal ≡ former_tableau letter name globals goal
  unfolding sheet_tableau former_tableau with_values
  tableau-former name globals goal og o =
      ap (λ l. record { cl = closure forms; ln = l; name = name; values = []; globals = map positive globals }) (lean-former (closure forms) (closure-over count forms forms-over))
    where
      forms : List Form
      forms = map positive globals ++ (positive goal ∷ [])

      positive-over : (p : Raw) → OverRaw count p → Over count (positive p)
      positive-over p h = (uses-signed (λ k. k < count) (DeclaredAll count) p h).0

      forms-over : (p : Form) → p ∈ forms → Over count p
      forms-over p m = elim (Memᴰ.append_cases (map positive globals) m) [
        | inl k ↦ (let r = map-out positive globals k in subst (Over count) (sym r.2) (positive-over r.0 (og r.0 r.1)))
        | inr k ↦ subst (Over count) (sym (Memᴰ.eq_of_singleton k)) (positive-over goal o)
      ]
