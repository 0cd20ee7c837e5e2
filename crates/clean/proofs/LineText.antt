-- The formulas' lines, one after the other: how long they are together, and their text as it is put. Assumes nothing.
use mathlib.Core.Path.{◌≡◌, refl, sym, ap, ap₂, ◌∙◌}
use mathlib.Core.Bool.{Bool, true, false, cond, ◌||◌}
use mathlib.Core.List.{List, [], ◌∷◌, ◌++◌, map, append_assoc, append-nil}
use Prim.Native.Nat.{ℕ, ◌+◌, ◌-◌, ◌*◌, ◌≤◌, ◌<◌}
use native.Mathlib.Numerals.{add-one}
use native.Mathlib.Omega.{arith}
use lib.Dec.{ltb}
use lib.ListN.{length, get_or, take, drop, set, length-append, length-drop, length-set, drop_of_length-le}
use lib.Seq.{drop-cons}
use borrow.Author.Tests.{lt-ltb, le-ltb, ltb-true, ltb-false}
use Rattle.ctl.specs.Formula.{Form, tru}
use Rattle.ctl.specs.Print.{print}
use Rattle.members.specs.Members.{forms}
use Rattle.prints.specs.Prints.{spell_at, print_at, Printable}
use Rattle.buffer.specs.Put.{Put}
use Rattle.buffer.proofs.PutLaws.{put-join, put-none, put_one}
use Rattle.layout.specs.Layout.{all_word, any_long, goal_word, unlines}
use Rattle.clean.specs.Clean.{formula_lines}
use Rattle.clean.specs.Written.{Among, length_by, lines_at}
use Rattle.std.specs.Prelude.{Some, None}

-- the word before formula i of so many
abbrev pub word_by : ℕ → ℕ → List ℕ
word_by i many = cond (ltb (i + 1) many) all_word goal_word

pub word-all : (i many : ℕ) → i + 1 < many → word_by i many ≡ all_word
word-all i many h = rw (lt-ltb (i + 1) many h)

pub word-goal : (i many : ℕ) → many ≤ i + 1 → word_by i many ≡ goal_word
word-goal i many h = rw (le-ltb (i + 1) many h)

-- ---- the lines from formula i on

-- the first line is a goal's where no other follows
first-line : (spell : ℕ → List ℕ) (f : ℕ → Form) (b : Bool) (a : ℕ) (l : List ℕ) → (b ≡ true → 0 < length l) → (b ≡ false → length l ≡ 0)
    → formula_lines spell (map f (a ∷ l)) ≡ (cond b all_word goal_word ++ print spell (f a)) ∷ formula_lines spell (map f l)
unfolding formula_lines
first-line spell f true a [] s n = absurd (let h = s refl in omega arith)
first-line spell f false a [] s n = refl
first-line spell f true a (b ∷ l) s n = refl
first-line spell f false a (b ∷ l) s n = absurd (let h = n refl in omega arith)

module _ (tab : List ℕ) (n : ℕ) (ls places : List ℕ) where
  abbrev pub rest_at : ℕ → List (List ℕ)
  rest_at i = lines_at tab n ls (drop i places)

  pub rest-line : (i : ℕ) → i < length places → rest_at i ≡ (word_by i (length places) ++ print_at ls (take n tab) (get_or places i 0)) ∷ rest_at (i + 1)
  unfolding print_at
  rest-line i h =
      let d = length-drop (i + 1) places in
      ap (lines_at tab n ls) (drop-cons places i 0 h ∙ ap (λ k. get_or places i 0 ∷ drop k places) (sym (add-one i)))
      ∙ first-line (spell_at ls) (λ k. get_or (forms (take n tab)) k tru) (ltb (i + 1) (length places)) (get_or places i 0) (drop (i + 1) places)
      (λ e. (let k = ltb-true (i + 1) (length places) e in omega arith)) (λ e. (let k = ltb-false (i + 1) (length places) e in omega arith))

  pub rest-none : (i : ℕ) → length places ≤ i → rest_at i ≡ []
  unfolding formula_lines
  rest-none i h = rw (drop_of_length-le places h)

-- ---- their length

-- where i lines have been measured: none of those is too long, and they and the rest are all
pub record Summed (tab : List ℕ) (n : ℕ) (ls places : List ℕ) (from i size : ℕ) : Type 0 where
  pub small : size ≤ from + 201 * i
  pub same-long : any_long (rest_at tab n ls places i) ≡ any_long (lines_at tab n ls places)
  pub same_size : size + length (unlines (rest_at tab n ls places i)) ≡ from + length (unlines (lines_at tab n ls places))

pub summed-start : {tab : List ℕ} {n : ℕ} {ls places : List ℕ} {from : ℕ} → Summed tab n ls places from 0 from
summed-start = record { small = omega arith; same-long = refl; same_size = refl }

module _ {tab : List ℕ} {n : ℕ} {ls places : List ℕ} {from i size : ℕ} (x : Summed tab n ls places from i size) where
  pub summed-all : length places ≤ i → Some size ≡ length_by from (lines_at tab n ls places)
  unfolding any_long unlines
  summed-all h =
      let e = rest-none tab n ls places i h in
      let z = x.same_size in
      let a = ap (λ (r : List (List ℕ)). length (unlines r)) e in
      rw (← x.same-long, e) (ap Some (omega arith))

  module _ {lens : List ℕ} (p : Printable tab n lens ls) (m : Among n places) (h : i < length places) {word : ℕ} (w : length (word_by i (length places)) ≡ word) where
    abbrev line : List ℕ
    line = word_by i (length places) ++ print_at ls (take n tab) (get_or places i 0)

    line-long : length line ≡ word + get_or lens (get_or places i 0) 0
    line-long = length-append (word_by i (length places)) (print_at ls (take n tab) (get_or places i 0)) ∙ ap₂ (λ a b. a + b) w (sym (p.measured (get_or places i 0) (m i h)))

    pub summed-over : 200 - word < get_or lens (get_or places i 0) 0 → None ≡ length_by from (lines_at tab n ls places)
    unfolding any_long
    summed-over o = rw (← x.same-long, rest-line tab n ls places i h, lt-ltb 200 (length line) (let l = line-long in omega arith))

    pub summed-next : get_or lens (get_or places i 0) 0 ≤ 200 - word → word ≤ 5 → Summed tab n ls places from (i + 1) (size + (word + get_or lens (get_or places i 0) 0 + 1))
    unfolding unlines any_long
    summed-next o s =
        let e = rest-line tab n ls places i h in
        let l = line-long in
        let z = x.small in
        let k : length line ≤ 200 = omega arith in
        record {
          small = omega arith;
          same-long = ap (λ b. b || any_long (rest_at tab n ls places (i + 1))) (sym (le-ltb 200 (length line) k)) ∙ (ap any_long (sym e) ∙ x.same-long);
          same_size = (let q = x.same_size in let a = ap (λ (r : List (List ℕ)). length (unlines r)) e in let b = length-append line (10 ∷ unlines (rest_at tab n ls places (i + 1))) in omega arith);
        }

-- ---- their text

-- where i lines have been put: they and the rest are the whole text
pub record Lined (tab : List ℕ) (n : ℕ) (ls places : List ℕ) (at : ℕ) (out₀ out : List ℕ) (i used : ℕ) : Type 0 where
  pub done : List ℕ
  pub put : Put at done out₀ out used
  pub whole : done ++ unlines (rest_at tab n ls places i) ≡ unlines (lines_at tab n ls places)
  pub long : length out ≡ length out₀

-- the word of line i has been put
pub record Worded (i many used : ℕ) (out out₁ : List ℕ) (m : ℕ) : Type 0 where
  pub put : Put used (word_by i many) out out₁ m
  pub long : length out₁ ≡ length out

pub worded : {i many used m m' : ℕ} {text out out₁ out₁' : List ℕ} → Put used text out out₁' m' → length out₁' ≡ length out → word_by i many ≡ text → out₁ ≡ out₁' → m ≡ m' → Worded i many used out out₁ m
worded p l e o q = record { put = rw (e, o, q) p; long = ap length o ∙ l }

pub lined-start : {tab : List ℕ} {n : ℕ} {ls places : List ℕ} {at : ℕ} {out : List ℕ} → Lined tab n ls places at out out 0 at
lined-start {at = at} {out = out} = record {
  done = [];
  put = put-none at out;
  whole = refl;
  long = refl;
}

module _ {tab : List ℕ} {n : ℕ} {ls places : List ℕ} {at : ℕ} {out₀ out : List ℕ} {i used : ℕ} where
  pub lined-all : Lined tab n ls places at out₀ out i used → length places ≤ i → Put at (unlines (lines_at tab n ls places)) out₀ out used
  unfolding unlines
  lined-all x h =
      let e : x.done ≡ unlines (lines_at tab n ls places) = sym (append-nil x.done) ∙ (ap (λ r. x.done ++ unlines r) (sym (rest-none tab n ls places i h)) ∙ x.whole) in
      rw (← e) x.put

  module _ (fits : at + length (unlines (lines_at tab n ls places)) ≤ length out₀) (x : Lined tab n ls places at out₀ out i used) (h : i < length places) where
    abbrev word : List ℕ
    word = word_by i (length places)

    abbrev shown : List ℕ
    shown = print_at ls (take n tab) (get_or places i 0)

    line-room : used + length word + length shown < length out
    unfolding unlines
    line-room =
        let u = x.put.used in
        let l = x.long in
        let a = ap length x.whole in
        let b = length-append x.done (unlines (rest_at tab n ls places i)) in
        let c = ap (λ (r : List (List ℕ)). length (unlines r)) (rest-line tab n ls places i h) in
        let d = length-append (word ++ shown) (10 ∷ unlines (rest_at tab n ls places (i + 1))) in
        let e = length-append word shown in
        omega arith

    pub room-all : i + 1 < length places → used + 4 ≤ length out
    room-all k = let r = line-room in let e = ap length (word-all i (length places) k) in omega arith

    pub room-goal : length places ≤ i + 1 → used + 5 ≤ length out
    room-goal k = let r = line-room in let e = ap length (word-goal i (length places) k) in omega arith

    module _ {out₁ : List ℕ} {m : ℕ} (w : Worded i (length places) used out out₁ m) where
      print-room : m + length shown < length out₁
      print-room = let r = line-room in let u = w.put.used in let l = w.long in omega arith

      pub room-print : m + length shown ≤ length out₁
      room-print = let r = print-room in omega arith

      module _ {out₂ : List ℕ} {k : ℕ} (p : Put m shown out₁ out₂ k) (l : length out₂ ≡ length out₁) where
        pub room-newline : k < length out₂
        room-newline = let r = print-room in let u = p.used in omega arith

        pub lined-next : Lined tab n ls places at out₀ (set out₂ k 10) (i + 1) (k + 1)
        unfolding unlines
        lined-next =
            let r = print-room in
            let a = line-room in
            record {
              done = x.done ++ (word ++ (shown ++ (10 ∷ [])));
              put = put-join (omega arith) x.put (put-join (omega arith) w.put (put-join (omega arith) p (put_one out₂ k 10 room-newline)));
              whole = simp append_assoc (simp append_assoc at (ap (λ r. x.done ++ unlines r) (sym (rest-line tab n ls places i h)) ∙ x.whole));
              long = length-set out₂ k 10 ∙ (l ∙ (w.long ∙ x.long));
            }
