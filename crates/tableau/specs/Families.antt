-- Families of types as words, and what a member asks of a type against a set. Assumes nothing.
use Rattle.std.specs.Prelude.{◌≡◌, Bool, true, not, ◌&&◌, ◌||◌, cond, List, ℕ, ◌*◌, ◌≤◌, ◌<◌, eqb, length, get_or}
use Rattle.ctl.specs.Elimination as E
use Rattle.ctl.specs.ClosedFamily.{linked}
use Rattle.ctl.specs.Formula.{Form, tru, fls, lit, nlit, and, or, ex, ax, eu, au, er, ar}
use Rattle.ctl.specs.Lists.{any_of, all_of, elem, imp}
use Rattle.ctl.specs.Modes.{has_mode, single}
use Rattle.wordset.specs.Below.{all_below, any_below}
use Rattle.wordset.specs.Words.{member, minus}
use Rattle.members.specs.Members.{arg_w, forms, left_w, tag_w}
use Rattle.truth.specs.Blocks.{has, list_of}
use Rattle.truth.specs.Tables.{Table, form, tag_at}
use Rattle.truth.specs.Truths.{Tr, Truths}
use Rattle.conditions.specs.Entries.{linked_to, side}
use Rattle.conditions.specs.Conditions.{Conditions, Lk}
use Rattle.needs.specs.NeedWords.{mode_w, need_of, whole_w}
use Rattle.needs.specs.Needs.{Fields, Listed}

-- what the elimination goes by: truth words with those of fields behind them, condition words, and the needs, of a table under a lean
pub record Ready (ms ln : List ℕ) (w : ℕ) (tw cw ns : List ℕ) : Type 0 where
  pub table : Table ms
  pub few : length ms ≤ 240
  pub small : w ≤ 1024
  pub truths : Truths ms ln w tw
  pub fields : Fields ms ln w tw
  pub links : Conditions ms ln w cw
  pub listed : Listed ms ns

-- they are those of some table under some lean
abbrev pub Made : ℕ → List ℕ → List ℕ → List ℕ → Type 0
Made w tw cw ns = (ms : List ℕ) × (ln : List ℕ) × Ready ms ln w tw cw ns

-- need x is that of member i, an EU or an AU
pub record Until (ms : List ℕ) (x i : ℕ) : Type 0 where
  pub inside : i < length ms
  pub low : 8 ≤ tag_at ms i
  pub high : tag_at ms i ≤ 9
  pub is : x ≡ need_of ms i

-- the types of dst are types of src
abbrev pub Within : ℕ → List ℕ → List ℕ → Type 0
Within w dst src = (t : ℕ) → t < w * 64 → member dst t ≡ true → member src t ≡ true

-- the ranked types, by words: those of the family src that are no longer in the copy
abbrev pub ranked : ℕ → List ℕ → List ℕ → List ℕ
ranked w src copy = minus w src copy

-- ---- what a need asks of type t against a set, by words

-- need x is an EX over one of the modes a
abbrev pub ex_along : ℕ → ℕ → Bool
ex_along a x = eqb (tag_w x) 6 && has_mode a (mode_w x)

module _ (w : ℕ) (tw cw : List ℕ) where
  -- t has not the need x, an EX, or is linked along its mode to a type of U with its body
  unfoldable pub has_next : (ℕ → Bool) → ℕ → ℕ → Bool
  has_next U x t = not (has w tw (whole_w x) t) || linked_to w cw (side w cw (mode_w x)) (λ c. U c && has w tw (left_w x) c) t

  -- every EX over one of the modes a has its next in U
  unfoldable pub has_nexts : List ℕ → (ℕ → Bool) → ℕ → ℕ → Bool
  has_nexts ns U a t = all_below (length ns) (λ j. imp (ex_along a (get_or ns j 0)) (has_next U (get_or ns j 0) t))

  -- what an EU or an AU asks of a type with its left operand
  unfoldable pub wants : List ℕ → (ℕ → Bool) → ℕ → ℕ → Bool
  wants ns U x t = cond (eqb (tag_w x) 8) (any_below 16 (λ m. has_mode (arg_w x) m && linked_to w cw (side w cw m) U t)) (has_nexts ns U (arg_w x) t)

  -- t has the left operand of x, an EU or an AU, and what it asks for against the ranked types
  abbrev pub leaving : List ℕ → List ℕ → List ℕ → ℕ → ℕ → Bool
  leaving ns src copy x t = has w tw (left_w x) t && wants ns (member (ranked w src copy)) x t

-- ctl's elimination, over the closure, the truth and the links of a table under a lean
module _ (ms ln : List ℕ) where
  abbrev pub Linked : ℕ → ℕ → ℕ → Bool
  Linked = linked (Lk ms ln)

  abbrev pub Next : List ℕ → ℕ → Form → ℕ → Bool
  Next = E.next (Tr ms ln) (Lk ms ln)

  abbrev pub Follows : List ℕ → ℕ → ℕ → Form → Bool
  Follows = E.ex_next (Tr ms ln) (Lk ms ln)

  abbrev pub Good : List ℕ → Form → List ℕ
  Good = E.good (forms ms) (Tr ms ln) (Lk ms ln)

  abbrev pub Round : List ℕ → List ℕ
  Round = E.round (forms ms) (Tr ms ln) (Lk ms ln)

  abbrev pub Rounds : List ℕ → ℕ
  Rounds = E.rounds (forms ms) (Tr ms ln) (Lk ms ln)

  abbrev pub Survivors : List ℕ → List ℕ
  Survivors = E.survivors (forms ms) (Tr ms ln) (Lk ms ln)

  -- what a member asks of type t against the set U, where its left operand is true (of EX: where it is true itself)
  unfoldable pub passes : List ℕ → ℕ → Form → Bool
  passes U t tru = true
  passes U t fls = true
  passes U t (lit k) = true
  passes U t (nlit k) = true
  passes U t (and p q) = true
  passes U t (or p q) = true
  passes U t (ex A p) = imp (single A) (Next U A p t)
  passes U t (ax A p) = true
  passes U t (eu A p q) = any_of (Linked A t) U
  passes U t (au A p q) = all_of (Follows U A t) (forms ms)
  passes U t (er A p q) = true
  passes U t (ar A p q) = true

  -- member p is true in t, and t is not among those of the family that have what p asks for
  unfoldable pub lacks : List ℕ → ℕ → Form → Bool
  lacks fam t p = Tr ms ln t p && not (elem t (Good fam p))

  -- t keeps its place in a family that is held by the words src, as far as need x goes
  unfoldable pub stays : ℕ → List ℕ → List ℕ → List ℕ → ℕ → ℕ → Bool
  stays w tw cw src x t = cond (eqb (tag_w x) 6) (has_next w tw cw (member src) x t) (not (has w tw (whole_w x) t) || elem t (Good (list_of w src) (form ms (whole_w x))))

  -- what a search for member i finds in the family src, told by the copy that it leaves: of the types of dst in which the member is true, those are ranked that have what it asks for
  abbrev pub Finds : ℕ → List ℕ → List ℕ → List ℕ → ℕ → List ℕ → Type 0
  Finds w tw src dst i copy = (t : ℕ) → t < w * 64 → member dst t ≡ true → has w tw i t ≡ true → member (ranked w src copy) t ≡ elem t (Good (list_of w src) (form ms i))
