-- The reader takes exactly the texts of snapshots, and its store holds their entries. Assumes nothing.
use Prim.Native.Nat.{ℕ, suc, ◌+◌, ◌*◌, ◌≤◌, ◌<◌}
use native.Mathlib.Omega.{arith}
use native.Mathlib.Numerals.{add-one}
use native.Mathlib.Decide.{dec_le}
use mathlib.Core.Path.{◌≡◌, refl, sym, ap, ap₂, ◌∙◌, subst, fun_ext}
use mathlib.Core.Logic.{◌⊎◌, inl, inr}
use mathlib.Core.Bool.{Bool, true, false, cond, ◌&&◌}
use mathlib.Core.List.{List, [], ◌∷◌, ◌++◌}
use lib.Dec.{eqb, ltb}
use lib.ListN.{length, get_or, take, drop, replicate, get_or-append, get_or-eq_default}
use lib.Seq.{split_at, ext_get_or, get_or-take, length-take-le, get_or-append_seam, drop-append-add}
use Rattle.wordset.proofs.BelowLaws.{all-intro, all-elim}
use Rattle.wordset.specs.Below.{all_below}
use borrow.Author.Tests.{ltb-true, ltb-false, eqb-true, eq-eqb}
use Rattle.ctl.specs.Snapshot.{Snapshot, entry, of_lines}
use Rattle.ctl.proofs.BoolLaws.{decide, and_both}
use Rattle.snapshot_text.specs.Store.{entry_at, of_store}
use Rattle.snapshot_text.specs.Lines.{start_state, Ran, run, starts, ran, ended, line_count, line_store}
use Rattle.snapshot_text.specs.Text.{lines_text, Text, Taken}
use Rattle.snapshot_text.proofs.ReadLaws.{starts_long, ran-count, ran_store}
use Rattle.snapshot_text.proofs.Listed.{listed, listed-length, listed_at, listed-past}
use Rattle.snapshot_text.proofs.Storing.{row_at}
use Rattle.snapshot_text.proofs.Spelt.{Closed, spelt}
use Rattle.snapshot_text.proofs.Folding.{fold-run}

-- ---- line 1

starts-split : (line s : List ℕ) → starts line s ≡ true → s ≡ line ++ (10 ∷ drop (length line + 1) s)
unfolding starts
starts-split line s e =
    let p = and_both (all_below (length line) (λ i. eqb (get_or s i 0) (get_or line i 0))) (eqb (get_or s (length line) 0) 10) e in
    let h = starts_long line s e in
    let front : take (length line) s ≡ line = ext_get_or 0 (take (length line) s) line (length-take-le (length line) s (omega arith))
    (λ i l. let l' : i < length line = subst (λ n. i < n) (length-take-le (length line) s (omega arith)) l in
    get_or-take (length line) s i 0 l' ∙ eqb-true (get_or s i 0) (get_or line i 0) (all-elim (λ i. eqb (get_or s i 0) (get_or line i 0)) (length line) p.0 i l')) in
    split_at s (length line) 0 h
    ∙ ap₂ (λ (x : List ℕ) y. x ++ (y ∷ drop (suc (length line)) s)) front (eqb-true (get_or s (length line) 0) 10 p.1)
    ∙ ap (λ n. line ++ (10 ∷ drop n s)) (sym (add-one (length line)))

starts-text : (line rest : List ℕ) → starts line (line ++ (10 ∷ rest)) ≡ true
unfolding starts
starts-text line rest =
    ap₂ ◌&&◌
    (all-intro (λ i. eqb (get_or (line ++ (10 ∷ rest)) i 0) (get_or line i 0)) (length line) (λ i h. eq-eqb (get_or (line ++ (10 ∷ rest)) i 0) (get_or line i 0) (get_or-append line (10 ∷ rest) 0 i h)))
    (eq-eqb (get_or (line ++ (10 ∷ rest)) (length line) 0) 10 (get_or-append_seam line 10 rest 0))

-- ---- the lines in the store at the end of the last line

module _ (m : ℕ) (hm : m ≤ 8) (t : List ℕ) (n : ℕ) (out : List ℕ) (c : Closed m t n out) where
  lines_of : List (List ℕ)
  lines_of = listed n (row_at out m)

  past : (p : ℕ) → n * 8 ≤ p → get_or out p 0 ≡ 0
  past p h = elim (dec_le p (n * 8)) [ yes l ↦ (let e : p ≡ n * 8 + 0 = omega arith in ap (λ q. get_or out q 0) e ∙ c.here) | no l ↦ c.kept.beyond p (omega arith) ]

  entry_in : (i k : ℕ) → i < n → k < m → entry lines_of k i ≡ get_or out (i * 8 + k) 0
  unfolding lines_of row_at
  entry_in i k h l = ap (λ (x : List ℕ). get_or x k 0) (listed_at [] n (row_at out m) i h) ∙ listed_at 0 m (λ k. get_or out (i * 8 + k) 0) k l

  entry-wide : (i k : ℕ) → i < n → m ≤ k → entry lines_of k i ≡ 0
  unfolding lines_of row_at
  entry-wide i k h l =
      ap (λ (x : List ℕ). get_or x k 0) (listed_at [] n (row_at out m) i h)
      ∙ get_or-eq_default (listed m (λ k. get_or out (i * 8 + k) 0)) 0 {n = k} (let e = listed-length m (λ k. get_or out (i * 8 + k) 0) in omega arith)

  entry_past : (i k : ℕ) → n ≤ i → entry lines_of k i ≡ 0
  unfolding lines_of
  entry_past i k h = ap (λ (x : List ℕ). get_or x k 0) (listed-past [] n (row_at out m) i h)

  at_entry : (i k : ℕ) → entry_at out i k ≡ entry lines_of k i
  unfolding entry_at
  at_entry i k = go (decide (ltb k 8)) (dec_le n i) (dec_le m k)
    where
      inside : ltb k 8 ≡ true → entry_at out i k ≡ get_or out (i * 8 + k) 0
      inside e = ap (λ b. cond b (get_or out (i * 8 + k) 0) 0) e

      outside : ltb k 8 ≡ false → entry_at out i k ≡ 0
      outside e = ap (λ b. cond b (get_or out (i * 8 + k) 0) 0) e

      go : (ltb k 8 ≡ true) ⊎ (ltb k 8 ≡ false) → Dec (n ≤ i) → Dec (m ≤ k) → entry_at out i k ≡ entry lines_of k i
      go (inl e) (yes h) l = inside e ∙ past (i * 8 + k) (omega arith) ∙ sym (entry_past i k h)
      go (inr e) (yes h) l = outside e ∙ sym (entry_past i k h)
      go (inl e) (no h) (yes l) = inside e ∙ c.kept.blank i k (ltb-true k 8 e) l ∙ sym (entry-wide i k (omega arith) l)
      go (inl e) (no h) (no l) = inside e ∙ sym (entry_in i k (omega arith) (omega arith))
      go (inr e) (no h) (yes l) = outside e ∙ sym (entry-wide i k (omega arith) l)
      go (inr e) (no h) (no l) = absurd (omega (arith, ltb-false k 8 e))

  entry-small : (i k : ℕ) → entry lines_of k i < 100
  entry-small i k = go (dec_le n i) (dec_le m k)
    where
      go : Dec (n ≤ i) → Dec (m ≤ k) → entry lines_of k i < 100
      go (yes h) l = subst (λ x. x < 100) (sym (entry_past i k h)) (omega arith)
      go (no h) (yes l) = subst (λ x. x < 100) (sym (entry-wide i k (omega arith) l)) (omega arith)
      go (no h) (no l) = subst (λ x. x < 100) (sym (entry_in i k (omega arith) (omega arith))) (c.kept.small (i * 8 + k))

  each_long : (i : ℕ) → i < length lines_of → length (get_or lines_of i []) ≡ m
  unfolding lines_of row_at
  each_long i h =
      let l : i < n = subst (λ x. i < x) (listed-length n (row_at out m)) h in
      ap length (listed_at [] n (row_at out m) i l) ∙ listed-length m (λ k. get_or out (i * 8 + k) 0)

-- ---- the reader's answer

-- a snapshot by its entries
abbrev make : ℕ → (ℕ → ℕ → ℕ) → Snapshot
make a g = record { n = a; on = λ k i. eqb (g k i) 1; to = g }

-- The snapshot of a store is that of the lines with its entries
pub same-snapshot : (out : List ℕ) (n : ℕ) (lines : List (List ℕ)) → length lines ≡ n → ((i k : ℕ) → entry_at out i k ≡ entry lines k i) → of_store n out ≡ of_lines lines
unfolding of_store of_lines
same-snapshot out n lines e f =
    let g : ◌≡◌ {A = ℕ → ℕ → ℕ} (λ k i. entry_at out i k) (λ k i. entry lines k i) = fun_ext (λ k. fun_ext (λ i. f i k)) in
    ap₂ make (sym e) g

module _ (line : List ℕ) (m : ℕ) (s : List ℕ) where
  -- the reader's state and the store after line 1, from a store of zeros
  abbrev from_zeros : Ran
  from_zeros = ran line m s (replicate 128 0)

  record Counted (n : ℕ) : Type 0 where
    short : length s ≤ 1024
    begins : starts line s ≡ true
    ends : ended from_zeros.state ≡ n

  counted : (n : ℕ) → 1 ≤ n → line_count line m s (replicate 128 0) ≡ n → Counted n
  unfolding line_count
  counted n hn = go (ltb 1024 (length s)) (starts line s) refl refl
    where
      go : (a b : Bool) → ltb 1024 (length s) ≡ a → starts line s ≡ b → cond a 0 (cond b (ended from_zeros.state) 0) ≡ n → Counted n
      go true b ea eb e = absurd (omega arith)
      go false false ea eb e = absurd (omega arith)
      go false true ea eb e = record { short = ltb-false 1024 (length s) ea; begins = eb; ends = e }

  -- A text with a node count is the text of as many lines, and the store holds their entries
  pub taken : (n : ℕ) → 1 ≤ m → m ≤ 8 → 1 ≤ n → line_count line m s (replicate 128 0) ≡ n → Taken line m s (line_store line m s (replicate 128 0)) n
  unfolding lines_of
  taken n h1 hm hn e =
      let k = counted n hn e in
      let rest : List ℕ = drop (length line + 1) s in
      let out : List ℕ = from_zeros.store in
      let c = spelt m h1 hm (drop (length line + 1) s) n hn k.ends in
      let size = listed-length n (row_at from_zeros.store m) in
      subst (λ (o : List ℕ). Taken line m s o n) (ran_store line m s (replicate 128 0) k.short k.begins from_zeros refl) (record {
        lines = lines_of m hm rest n out c;
        text = record {
          short = k.short;
          spelled = starts-split line s k.begins ∙ ap (λ (x : List ℕ). line ++ (10 ∷ x)) c.text;
          some = subst (λ x. 1 ≤ x) (sym size) hn;
          few = subst (λ x. x ≤ 16) (sym size) c.few;
          each = each_long m hm rest n out c;
          small = entry-small m hm rest n out c;
        };
        count = size;
        entries = at_entry m hm rest n out c;
      })

-- The text of lines is taken, with their number as the node count
pub text-taken : (line : List ℕ) (m : ℕ) (s out : List ℕ) (lines : List (List ℕ)) → 1 ≤ m → Text line m s lines → length lines ≡ line_count line m s out
text-taken line m s out lines hm t =
    ran-count line m s out t.short (ap (starts line) t.spelled ∙ starts-text line (lines_text lines)) (ran line m s out) refl (length lines)
    (sym (ap (λ (r : List ℕ). ended (run m start_state out r).state) (ap (drop (length line + 1)) t.spelled ∙ drop-append-add line (10 ∷ lines_text lines) 1)
    ∙ ap ended (fold-run m hm lines out t.few t.each t.small)))
