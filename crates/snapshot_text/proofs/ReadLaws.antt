-- The steps of the reader and its loop. Assumes nothing.
use Prim.Native.Nat.{ℕ, zero, suc, ◌+◌, ◌*◌, ◌≤◌, ◌<◌}
use native.Mathlib.Omega.{arith}
use native.Mathlib.Numerals.{add-one}
use native.Mathlib.Decide.{dec_le}
use mathlib.Core.Path.{◌≡◌, refl, sym, ap, ap₂, ◌∙◌, subst}
use mathlib.Core.Logic.{inl, inr}
use mathlib.Core.Bool.{Bool, true, false, cond, ◌&&◌}
use mathlib.Core.List.{List, [], ◌∷◌, ◌++◌}
use lib.Dec.{eqb, ltb}
use lib.ListN.{length, get_or, set, take, drop, drop_of_length-le, get_or-append, take-append-drop}
use lib.Seq.{drop-cons, ext_get_or, get_or-take, length-take-le}
use borrow.Author.Tests.{ltb-true, ltb-false, eqb-true, eqb-false, eq-eqb, ne_eqb, le-ltb}
use denote.Ref.{Bor}
use Rattle.std.specs.Prelude.{Option, Some, None, unwrap_or}
use Rattle.std.specs.Option.{option_map, option_eq}
use Rattle.std.specs.List.{starts_with}
use Rattle.std.proofs.lemmas.Bool.Decides.{Decides-eqb}
use Rattle.std.proofs.lemmas.Slice.Eq.{starts_is}
use Rattle.wordset.specs.Below.{all_below}
use Rattle.wordset.proofs.BelowLaws.{all-intro, all-elim}
use Rattle.ctl.proofs.BoolLaws.{and_both, decide}
use Rattle.snapshot_text.specs.declared.State.{State}
use Rattle.snapshot_text.specs.Lines.{state_of, start_state, bad_state, space_step, newline_step, digit_step, byte_step, Inside, Ran, run, starts, ran, ended, line_count, line_store}

-- ---- a state keeps its bounds

bad-inside : Inside bad_state
bad-inside = record { symbol = omega arith; node = omega arith; begun = λ h. omega arith }

-- a state between entries
fresh-inside : (i k : ℕ) → k < 8 → i ≤ 16 → Inside (state_of i k 0 0)
fresh-inside i k h l = record { symbol = h; node = l; begun = λ f. absurd (f refl) }

pick : (b : Bool) {x y : State} → (b ≡ true → Inside x) → (b ≡ false → Inside y) → Inside (cond b x y)
pick true f g = f refl
pick false f g = g refl

space-inside : (m : ℕ) (st : State) → m ≤ 8 → Inside st → Inside (space_step m st)
space-inside m st h k =
    pick (eqb st.digits 0) (λ e. bad-inside) (λ e. pick (ltb 2 st.digits) (λ e. bad-inside) (λ e. pick (ltb (st.symbol + 1) m)
    (λ e. fresh-inside st.node (st.symbol + 1) (omega (arith, ltb-true (st.symbol + 1) m e)) k.node) (λ e. bad-inside)))

newline-inside : (m : ℕ) (st : State) → Inside st → Inside (newline_step m st)
newline-inside m st k =
    pick (eqb st.digits 0) (λ e. bad-inside) (λ e. pick (ltb 2 st.digits) (λ f. bad-inside) (λ f. pick (eqb (st.symbol + 1) m)
    (λ g. fresh-inside (st.node + 1) 0 (omega arith) (let h = k.begun (eqb-false st.digits 0 e) in omega arith)) (λ g. bad-inside)))

digit-inside : (st : State) (b : ℕ) → Inside st → Inside (digit_step st b)
digit-inside st b k =
    pick (ltb 15 st.node) (λ e. bad-inside) (λ e. pick (ltb b 48) (λ e. bad-inside) (λ f. pick (ltb 57 b) (λ e. bad-inside)
    (λ g. let room : st.node < 16 = (let h = ltb-false 15 st.node e in omega arith) in
    pick (eqb st.digits 0) (λ e. record { symbol = k.symbol; node = k.node; begun = λ h. room })
    (λ e. pick (eqb st.digits 1) (λ e. pick (eqb st.value 0) (λ e. bad-inside)
    (λ e. pick (ltb st.value 10) (λ e. record { symbol = k.symbol; node = k.node; begun = λ h. room }) (λ e. bad-inside))) (λ e. bad-inside)))))

pub step-inside : (m : ℕ) (st : State) (b : ℕ) → m ≤ 8 → Inside st → Inside (byte_step m st b)
unfolding byte_step
step-inside m st b h k =
    pick (eqb b 32) (λ e. space-inside m st h k) (λ e. pick (eqb b 10) (λ e. newline-inside m st k) (λ e. digit-inside st b k))

-- a byte that is no space and no newline
pub step_other : (m : ℕ) (st : State) (b : ℕ) → (b ≡ 32 → ⊥) → (b ≡ 10 → ⊥) → digit_step st b ≡ byte_step m st b
unfolding byte_step
step_other m st b e f = simp (ne_eqb b 32 e, ne_eqb b 10 f)

-- ---- the loop over the bytes

-- The i first bytes led from the start to the state and the store
pub record Running (m : ℕ) (s : List ℕ) (out₀ : List ℕ) (out : List ℕ) (st : State) (i : ℕ) : Type 0 where
  pub inside : Inside st
  pub same : run m start_state out₀ s ≡ run m st out (drop i s)

module _ {m : ℕ} {s : List ℕ} {out₀ : List ℕ} where
  pub runs_on : {out : List ℕ} {st : State} {i : ℕ} (out' : List ℕ) (st' : State) → m ≤ 8 → Running m s out₀ out st i → i < length s
      → out' ≡ set out (st.node * 8 + st.symbol) st.value → st' ≡ byte_step m st (get_or s i 0) → Running m s out₀ out' st' (i + 1)
  unfolding run
  runs_on {out} {st} {i} out' st' hm r h e f = record {
    inside = subst Inside (sym f) (step-inside m st (get_or s i 0) hm r.inside);
    same = r.same ∙ ap (run m st out) (drop-cons s i 0 h) ∙ ap₂ (λ o t. run m t o (drop (suc i) s)) (sym e) (sym f) ∙ ap (λ k. run m st' out' (drop k s)) (sym (add-one i));
  }

  pub runs-end : {out : List ℕ} {st : State} {i : ℕ} → Running m s out₀ out st i → length s ≤ i → run m start_state out₀ s ≡ record { state = st; store = out }
  unfolding run
  runs-end {out} {st} {i} r h = r.same ∙ ap (run m st out) (drop_of_length-le s h)

pub get_d_past : (s : List ℕ) (i : ℕ) → length s ≤ i → get_or s i 0 ≡ 0
get_d_past [] i h = refl
get_d_past (x ∷ s) zero h = absurd (omega arith)
get_d_past (x ∷ s) (suc i) h = get_d_past s i (omega arith)

-- ---- line 1

-- byte i of the text is line 1's
abbrev as_line : List ℕ → List ℕ → ℕ → Bool
as_line line s i = eqb (get_or s i 0) (get_or line i 0)

-- the text begins with line 1, and the byte behind it is a newline
starts-both : (line s : List ℕ) → starts line s ≡ true → (all_below (length line) (as_line line s) ≡ true) × (get_or s (length line) 0 ≡ 10)
unfolding starts
starts-both line s e = let p = and_both (all_below (length line) (as_line line s)) (eqb (get_or s (length line) 0) 10) e in (p.0, eqb-true (get_or s (length line) 0) 10 p.1)

pub starts_long : (line s : List ℕ) → starts line s ≡ true → length line < length s
starts_long line s e =
    elim (dec_le (length s) (length line)) [
      | yes h ↦ absurd (let k = (starts-both line s e).1 in omega (arith, get_d_past s (length line) h))
      | no h ↦ omega arith
    ]

-- a text that starts with line 1 has its bytes in front
starts-front : (line s : List ℕ) → starts line s ≡ true → s ≡ line ++ drop (length line) s
starts-front line s e =
    let h = starts_long line s e in
    let n = length-take-le (length line) s (omega arith) in
    let front : take (length line) s ≡ line = ext_get_or 0 (take (length line) s) line n
    (λ i l. let l' : i < length line = omega (arith, n) in
    get_or-take (length line) s i 0 l' ∙ eqb-true (get_or s i 0) (get_or line i 0) (all-elim (as_line line s) (length line) (starts-both line s e).0 i l')) in
    sym (take-append-drop (length line) s) ∙ ap (λ x. x ++ drop (length line) s) front

-- what `starts_with` said of line 1
module _ (line s : List ℕ) (r : Bool) (m : r ≡ starts_with eqb s line) where
  pub begins-not : r ≡ false → r ≡ starts line s
  begins-not f = elim (decide (starts line s)) [
    | inl e ↦ (starts_is Decides-eqb s line r m).1 (drop (length line) s) (starts-front line s e) ∙ sym e
    | inr e ↦ f ∙ sym e
  ]

  pub begins-so : r ≡ true → eqb (get_or s (length line) 0) 10 ≡ starts line s
  unfolding starts
  begins-so t =
      let e = (starts_is Decides-eqb s line r m).0 t in
      sym (ap (λ b. b && eqb (get_or s (length line) 0) 10) (all-intro (as_line line s) (length line)
      (λ i h. eq-eqb (get_or s i 0) (get_or line i 0) (ap (λ x. get_or x i 0) e ∙ get_or-append line (drop (length line) s) 0 i h))))

-- the byte behind line 1, 0 where there is none, is compared with the newline
pub newline-at : (x : Option (Bor ℕ)) (t : Bor ℕ) (g : ℕ) → unwrap_or (option_map (λ b. b.now) x) 0 ≡ g → t.now ≡ 10 → option_eq (λ a b. eqb a.now b.now) x (Some t) ≡ eqb g 10
newline-at None t g e f = ap (λ n. eqb n 10) e
newline-at (Some b) t g e f = ap₂ eqb e f

-- ---- the whole text

-- what a text of 1,024 bytes at most that begins with line 1 gives
module _ (line : List ℕ) (m : ℕ) (s out : List ℕ) (h : length s ≤ 1024) (e : starts line s ≡ true) (r : Ran) (f : ran line m s out ≡ r) where
  pub ran-count : (n : ℕ) → n ≡ ended r.state → n ≡ line_count line m s out
  unfolding line_count
  ran-count n g = g ∙ simp (le-ltb 1024 (length s) h, e, f)

  pub ran_store : r.store ≡ line_store line m s out
  unfolding line_store
  ran_store = simp (le-ltb 1024 (length s) h, e, f)

pub ended_few : (st : State) → Inside st → ended st ≤ 16
ended_few st h = go (eqb st.digits 0) (eqb st.symbol 0)
  where
    go : (a b : Bool) → cond a (cond b st.node 0) 0 ≤ 16
    go true true = h.node
    go true false = omega arith
    go false b = omega arith
